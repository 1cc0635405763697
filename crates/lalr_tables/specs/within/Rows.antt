-- Rows of cells, filled from the moves and the complete items of a core.
use Rattle.std.specs.Prelude.{◌≡◌, ◌≢◌, ℕ, ◌+◌, ◌*◌, ◌<◌, ◌≤◌, List, length, slice_get, slice_set, slice_index, Option, Some, None, Contains}
use Rattle.ck_base.specs.BitSet.{BitSet, Has}
use Rattle.cfg_model.specs.declared.symbol.Sym.{Sym}
use Rattle.cfg_model.specs.declared.symbol.Sym.TheVariants.{T, N}
use Rattle.cfg_model.specs.Cfg.{Cfg}
use Rattle.cfg_model.specs.Cores.{CoreList, items_at, moves_at}
use Rattle.cfg_model.specs.Items.{right_of}
use Rattle.cfg_model.specs.Rows.{In}
use Rattle.lalr_look.specs.Promise.{sets_at}
use Rattle.lalr_tables.specs.declared.clash.Clash.{Clash}
use Rattle.lalr_tables.specs.within.Clashes.{IsLesser, IsLeastClash}

-- a core moves over the terminal, over the nonterminal, to core m
abbrev pub OverTerminal : List (Sym × ℕ) → ℕ → ℕ → Type 0
OverTerminal moves t m = Contains moves (T t, m)

-- a move over this nonterminal
abbrev pub OverNonterminal : List (Sym × ℕ) → ℕ → ℕ → Type 0
OverNonterminal moves n m = Contains moves (N n, m)

-- one of the first items is rule r's, complete, and has the terminal in its set
pub record Completed (g : Cfg) (items : List (ℕ × ℕ)) (sets : List BitSet) (count t r : ℕ) : Type 0 where
  pub place : ℕ
  pub dot : ℕ
  pub item : slice_get items place ≡ Some (r, dot)
  pub complete : slice_get (right_of g r) dot ≡ None
  pub has : In sets place t
  pub terminal : t ≤ g.terminals
  pub before : place < count

-- What a cell says of its terminal. M t m says that terminal t leads on to m, R t r that rule r is
-- complete with it. A shift goes before the rules, and the least rule before the others.
pub data CellIs (M R : ℕ → ℕ → Type 0) (t cell : ℕ) : Type 0 where
  free : cell ≡ 0 → ((m : ℕ) → M t m → ⊥) → ((r : ℕ) → R t r → ⊥) → CellIs M R t cell
  of_rule : (r : ℕ) → cell ≡ r + 1 → r < 2047 → R t r → ((m : ℕ) → M t m → ⊥) → ((s : ℕ) → R t s → r ≤ s)
      → CellIs M R t cell
  of_shift : (m : ℕ) → cell ≡ m + 2048 → M t m → CellIs M R t cell

-- the same for each terminal below the width of a row
abbrev pub AreCells : ℕ → (ℕ → ℕ → Type 0) → (ℕ → ℕ → Type 0) → (ℕ → ℕ) → Type 0
AreCells width M R cell = (t : ℕ) → t < width → CellIs M R t (cell t)

-- no rule is complete
abbrev pub NoRule : ℕ → ℕ → Type 0
NoRule t r = ⊥

-- rule r is complete beside a shift (None) or another rule
abbrev pub ClashesOn : (ℕ → ℕ → Type 0) → (ℕ → ℕ → Type 0) → ℕ → ℕ → Option ℕ → Type 0
ClashesOn M R t r None = R t r × ((m : ℕ) × M t m)
ClashesOn M R t r (Some s) = R t r × R t s × (r ≢ s)

-- a conflict on this terminal between these rules
abbrev pub AreClashes : (ℕ → ℕ → Type 0) → (ℕ → ℕ → Type 0) → Clash → Type 0
AreClashes M R c = ClashesOn M R c.terminal c.rule c.other

-- the row of a core, and its least clash
pub record IsRow (g : Cfg) (items : List (ℕ × ℕ)) (moves : List (Sym × ℕ)) (sets : List BitSet) (count : ℕ)
    (cells : List ℕ) (found : Option Clash) : Type 0 where
  pub long : length cells ≡ g.terminals + 1
  pub cells_are : AreCells (g.terminals + 1) (OverTerminal moves) (Completed g items sets count) (slice_index cells)
  pub best : IsLeastClash (AreClashes (OverTerminal moves) (Completed g items sets count)) found

-- a rule more on a terminal: its cell and the least clash
pub data Puts (t rule : ℕ) (old new : List ℕ) (found after : Option Clash) : Type 0 where
  first : slice_index old t ≡ 0 → new ≡ slice_set old t (rule + 1) → after ≡ found → Puts t rule old new found after
  beside_shift : 2048 ≤ slice_index old t → new ≡ old
      → IsLesser found (record { terminal = t; rule = rule; other = None }) after → Puts t rule old new found after
  lower : (s : ℕ) → slice_index old t ≡ s + 1 → rule < s → s < 2047 → new ≡ slice_set old t (rule + 1)
      → IsLesser found (record { terminal = t; rule = rule; other = Some s }) after → Puts t rule old new found after
  higher : (s : ℕ) → slice_index old t ≡ s + 1 → s < rule → new ≡ old
      → IsLesser found (record { terminal = t; rule = s; other = Some rule }) after → Puts t rule old new found after
  again : slice_index old t ≡ rule + 1 → new ≡ old → after ≡ found → Puts t rule old new found after

-- a rule more on the terminals of a set, as far as the count
pub data PutsAll (set : BitSet) (rule : ℕ) (old : List ℕ) (found : Option Clash)
    : ℕ → List ℕ → Option Clash → Type 0 where
  none : PutsAll set rule old found 0 old found
  put : (t : ℕ) (row new : List ℕ) (met after : Option Clash) → PutsAll set rule old found t row met → Has set t
      → Puts t rule row new met after → PutsAll set rule old found (t + 1) new after
  passed : (t : ℕ) (row : List ℕ) (met : Option Clash) → PutsAll set rule old found t row met → (Has set t → ⊥)
      → PutsAll set rule old found (t + 1) row met

-- a move over a terminal is a shift in its cell
abbrev pub PutsShift : Sym → ℕ → List ℕ → List ℕ → Type 0
PutsShift (T t) m old new = new ≡ slice_set old t (m + 2048)
PutsShift (N n) m old new = new ≡ old

-- a move over a nonterminal stands in its cell
abbrev pub PutsGoto : Sym → ℕ → List ℕ → List ℕ → Type 0
PutsGoto (T t) m old new = new ≡ old
PutsGoto (N n) m old new = new ≡ slice_set old n m

-- what a cell of a goto says of its nonterminal; 0 where no move is over it
pub data GotoIs (S : ℕ → ℕ → Type 0) (n cell : ℕ) : Type 0 where
  nowhere : cell ≡ 0 → ((m : ℕ) → S n m → ⊥) → GotoIs S n cell
  leads : S n cell → GotoIs S n cell

-- each nonterminal's cell is its goto
abbrev pub AreGotos : ℕ → (ℕ → ℕ → Type 0) → (ℕ → ℕ) → Type 0
AreGotos width S cell = (n : ℕ) → n < width → GotoIs S n (cell n)

-- the cell of a number in a row of a table
abbrev pub cell_in : ℕ → List ℕ → ℕ → ℕ → ℕ
cell_in width cells n k = slice_index cells (n * width + k)

-- the rule is complete with the terminal in core n
abbrev pub CompletedIn : Cfg → CoreList → List (List BitSet) → ℕ → ℕ → ℕ → Type 0
CompletedIn g cores looks n = Completed g (items_at cores n) (sets_at looks n) (length (items_at cores n))

-- one of the first cores has the clash
abbrev pub ClashBelow : Cfg → CoreList → List (List BitSet) → ℕ → Clash → Type 0
ClashBelow g cores looks count c =
    (n : ℕ) × (n < count) × AreClashes (OverTerminal (moves_at cores n)) (CompletedIn g cores looks n) c

-- the rows of the first cores, and their least clash
pub record AreActions (g : Cfg) (cores : CoreList) (looks : List (List BitSet)) (count : ℕ) (cells : List ℕ)
    (found : Option Clash) : Type 0 where
  pub long : length cells ≡ count * (g.terminals + 1)
  pub each : (n : ℕ) → n < count
      → AreCells (g.terminals + 1) (OverTerminal (moves_at cores n)) (CompletedIn g cores looks n)
      (cell_in (g.terminals + 1) cells n)
  pub best : IsLeastClash (ClashBelow g cores looks count) found

pub record AreGotoRows (g : Cfg) (cores : CoreList) (count : ℕ) (cells : List ℕ) : Type 0 where
  pub long : length cells ≡ count * g.nonterminals
  pub each : (n : ℕ) → n < count
      → AreGotos g.nonterminals (OverNonterminal (moves_at cores n)) (cell_in g.nonterminals cells n)
