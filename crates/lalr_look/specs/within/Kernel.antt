-- Items as numbers, kernels, and what the loops over cores leave.
use Rattle.std.specs.Prelude.{◌≡◌, ◌≢◌, ℕ, suc, ◌+◌, ◌*◌, ◌/◌, ◌%◌, ◌<◌, ◌≤◌, ◌↔◌, List, [], ◌∷◌, ◌++◌, length, slice_get, Some, Contains, map, All}
use Rattle.ck_base.specs.BitSet.{BitSet, Has}
use Rattle.lalr_look.specs.within.Numbered.{Interns}
use Rattle.cfg_model.specs.declared.symbol.Sym.{Sym}
use Rattle.cfg_model.specs.declared.symbol.Sym.TheVariants.{T, N}
use Rattle.cfg_model.specs.Cfg.{Cfg, Rule, IsRule, IsSymbol}
use Rattle.cfg_model.specs.Items.{Item, right_of}
use Rattle.lalr_look.specs.within.Rows.{row_at}
use Rattle.cfg_model.specs.Cores.{CoreList, items_at, moves_at, Rising, targets}
use Rattle.lalr_look.specs.within.Rising.{Met, Climbs}

-- right sides are short enough for items to be numbers
abbrev pub AreShort : Cfg → Type 0
AreShort g = All (λ one. length one.right < 1048576) g.rules

-- an item as a number: the place of the dot first, then the rule
abbrev pub code : ℕ → ℕ → ℕ
code r d = d * 2048 + r

-- the number is that of an item whose dot stands inside its rule
abbrev pub IsInside : Cfg → ℕ → Type 0
IsInside g c = (c % 2048 ≤ length g.rules) × (c / 2048 ≤ 1048576)

-- the symbol stands behind the dot of the item
abbrev pub NextIs : Cfg → ℕ → Sym → Type 0
NextIs g c x = slice_get (right_of g (c % 2048)) (c / 2048) ≡ Some x

-- the prefix has an item
abbrev pub HasItem : Cfg → List Sym → Type 0
HasItem g p = (r : ℕ) × (d : ℕ) × (y : List Sym) × Item g p r d y

-- the numbers are those of the items of the prefix's set
pub record IsItems (g : Cfg) (p : List Sym) (items : List ℕ) : Type 0 where
  pub rising : Climbs 0 items
  pub each : (c : ℕ) → Contains items c ↔ ((r : ℕ) × (d : ℕ) × (y : List Sym) × (c ≡ code r d) × Item g p r d y)

-- the numbers are those of its items whose dot doesn't stand in front
pub record IsKernel (g : Cfg) (p : List Sym) (kernel : List ℕ) : Type 0 where
  pub has : HasItem g p
  pub rising : Climbs 2048 kernel
  pub each : (c : ℕ) → Contains kernel c ↔ ((r : ℕ) × (d : ℕ) × (y : List Sym) × (c ≡ code r (suc d)) × Item g p r (suc d) y)

-- from m the nonterminal n is called, by rules whose right side begins with the next one
pub data Calls (g : Cfg) (m : ℕ) : ℕ → Type 0 where
  self : Calls g m m
  on : (n s k : ℕ) (y : List Sym) → Calls g m n → IsRule g s n (N k ∷ y) → Calls g m k

-- an item of the kernel calls the nonterminal
pub record CalledBy (g : Cfg) (kernel : List ℕ) (n : ℕ) : Type 0 where
  pub item : ℕ
  pub from : ℕ
  pub stands : Contains kernel item
  pub next : NextIs g item (N from)
  pub calls : Calls g from n

-- the item calls the nonterminal
abbrev pub CalledAt : Cfg → ℕ → ℕ → Type 0
CalledAt g c n = (m : ℕ) × NextIs g c (N m) × Calls g m n

-- the symbol's place in the order: terminals before nonterminals, each by number
abbrev pub place_of : Cfg → Sym → ℕ
place_of g (T t) = t
place_of g (N n) = g.terminals + n

-- the symbol at that place stands behind the dot of the item
abbrev pub NextAt : Cfg → ℕ → ℕ → Type 0
NextAt g c i = (x : Sym) × NextIs g c x × (place_of g x ≡ i)

-- the item, its dot moved on, went to the end of row i where the symbol at place i stands behind its
-- dot; else that row is as before
pub data SortsTo (g : Cfg) (c i : ℕ) (before after : List ℕ) : Type 0 where
  put : NextAt g c i → after ≡ before ++ ((c + 2048) ∷ []) → SortsTo g c i before after
  left : (NextAt g c i → ⊥) → after ≡ before → SortsTo g c i before after

-- each row grew by the items that the moves of a core put there
abbrev pub Sorts : Cfg → ℕ → List (List ℕ) → List (List ℕ) → Type 0
Sorts g c old new = (i : ℕ) → SortsTo g c i (row_at old i) (row_at new i)

-- the first items gone through: those that have that symbol behind their dot, with their dot moved over it
pub data Moves (g : Cfg) (items : List ℕ) (i : ℕ) : ℕ → List ℕ → Type 0 where
  at_first : Moves g items i 0 []
  moved : (j b : ℕ) (kernel : List ℕ) → Moves g items i j kernel → slice_get items j ≡ Some b → NextAt g b i
      → Moves g items i (j + 1) (kernel ++ ((b + 2048) ∷ []))
  passed : (j b : ℕ) (kernel : List ℕ) → Moves g items i j kernel → slice_get items j ≡ Some b → (NextAt g b i → ⊥)
      → Moves g items i (j + 1) kernel

-- the first rules gone through: those of called nonterminals, with their dot in front
pub data Opens (g : Cfg) (called : BitSet) (front : List ℕ) : ℕ → List ℕ → Type 0 where
  at_first : Opens g called front 0 front
  opened : (j : ℕ) (rule : Rule) (items : List ℕ) → Opens g called front j items → slice_get g.rules j ≡ Some rule → Has called rule.left
      → Opens g called front (j + 1) (items ++ ((j + 1) ∷ []))
  passed : (j : ℕ) (rule : Rule) (items : List ℕ) → Opens g called front j items → slice_get g.rules j ≡ Some rule → (Has called rule.left → ⊥)
      → Opens g called front (j + 1) items

-- the item of rule 0, which stands in the first kernel's core
abbrev pub front_of : List ℕ → List ℕ
front_of [] = 0 ∷ []
front_of (c ∷ kernel) = []

-- the kernel whose items call: the first one is empty, and stands for rule 0
abbrev pub callers : List ℕ → List ℕ
callers [] = 0 ∷ []
callers (c ∷ kernel) = c ∷ kernel

-- the items of a kernel's core: that of rule 0, called rules, the kernel itself
pub record IsOpened (g : Cfg) (kernel items : List ℕ) : Type 0 where
  pub called : BitSet
  pub calls : (n : ℕ) → Has called n ↔ CalledBy g (callers kernel) n
  pub front : List ℕ
  pub opens : Opens g called (front_of kernel) (length g.rules) front
  pub whole : items ≡ front ++ kernel

-- the first symbols gone through: the kernels and the row of moves that come of an item list
pub data Rows (g : Cfg) (items : List ℕ) (old : List (List ℕ)) : ℕ → List (List ℕ) → List (Sym × ℕ) → Type 0 where
  at_first : Rows g items old 0 old []
  none : (i : ℕ) (known : List (List ℕ)) (row : List (Sym × ℕ)) → Rows g items old i known row
      → Moves g items i (length items) [] → Rows g items old (i + 1) known row
  one : (i m : ℕ) (x : Sym) (kernel : List ℕ) (known after : List (List ℕ)) (row : List (Sym × ℕ)) → Rows g items old i known row
      → Moves g items i (length items) kernel → kernel ≢ [] → Interns known after kernel m → IsSymbol g x → place_of g x ≡ i
      → Rows g items old (i + 1) after (row ++ ((x, m) ∷ []))

-- the known kernel of the prefix has this number
abbrev pub Numbered : Cfg → List (List ℕ) → List Sym → ℕ → Type 0
Numbered g known p m = (kernel : List ℕ) × (slice_get known m ≡ Some kernel) × IsKernel g p kernel

-- the cores made so far, by the kernels known so far
pub record Going (g : Cfg) (known : List (List ℕ)) (made : CoreList) : Type 0 where
  pub whose : (m : ℕ) (kernel : List ℕ) → slice_get known m ≡ Some kernel → (p : List Sym) × IsKernel g p kernel
  pub apart : (i j : ℕ) (kernel : List ℕ) → slice_get known i ≡ Some kernel → slice_get known j ≡ Some kernel → i ≡ j
  pub first : slice_get known 0 ≡ Some []
  pub sizes : length made.moves ≡ length made.items
  pub single : (n i j : ℕ) (item : ℕ × ℕ) → slice_get (items_at made n) i ≡ Some item → slice_get (items_at made n) j ≡ Some item → i ≡ j
  pub items : (j : ℕ) (p : List Sym) → j < length made.items → Numbered g known p j
      → (r d : ℕ) → Contains (items_at made j) (r, d) ↔ ((y : List Sym) × Item g p r d y)
  pub leads : (j : ℕ) (p : List Sym) (x : Sym) (m : ℕ) → j < length made.items → Numbered g known p j
      → Contains (moves_at made j) (x, m) → Numbered g known (x ∷ p) m
  pub goes : (j : ℕ) (p : List Sym) (x : Sym) → j < length made.items → Numbered g known p j
      → HasItem g (x ∷ p) → (m : ℕ) × Contains (moves_at made j) (x, m)
  pub rising : (j : ℕ) → Rising (moves_at made j)
  pub met : Met (0 ∷ targets made.moves) (length known)

-- the items of these numbers, as rule and place of the dot
abbrev pub pairs : List ℕ → List (ℕ × ℕ)
pairs items = map (λ c. (c % 2048, c / 2048)) items

-- the rule at this place is n's and begins with k
abbrev pub CallsAt : Cfg → ℕ → ℕ → ℕ → Type 0
CallsAt g i k n = (y : List Sym) × (slice_get g.rules i ≡ Some (record { left = n; right = N k ∷ y }))

-- one of the first items of a core calls this nonterminal
abbrev pub CallsFirst : Cfg → ℕ → ℕ → ℕ → Type 0
CallsFirst g count k n = (i : ℕ) × (i < count) × CallsAt g i k n
