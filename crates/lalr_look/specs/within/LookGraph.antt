-- The graph along which lookaheads flow. A node is the number of a core and a slot in it.
use Rattle.std.specs.Prelude.{◌≡◌, ℕ, zero, suc, ◌<◌, ◌↔◌, ◌⊎◌, List, ◌∷◌, Contains, drop, length, slice_get, Option, Some, None}
use Rattle.ck_base.specs.BitSet.{BitSet, Has}
use Rattle.cfg_model.specs.declared.symbol.Sym.{Sym}
use Rattle.cfg_model.specs.declared.symbol.Sym.TheVariants.{N}
use Rattle.cfg_model.specs.Cfg.{Cfg, Rule}
use Rattle.cfg_model.specs.Sets.{First, Nullable}
use Rattle.cfg_model.specs.Items.{right_of}
use Rattle.cfg_model.specs.Cores.{CoreList, items_at, moves_at}
use Rattle.lalr_look.specs.within.Flow.{set_at}
use Rattle.lalr_look.specs.within.Kernel.{code, place_of}
use Rattle.lalr_look.specs.Promise.{sets_at}

-- the slot of a rule with its dot in front: rules of one left side share theirs, since they have the
-- same lookaheads; rule 0 has 0
abbrev pub slot_or : Option Rule → ℕ
slot_or None = 0
slot_or (Some one) = suc one.left

-- the number of the slot in front of a rule's first symbol
abbrev pub front_slot : Cfg → ℕ → ℕ
front_slot g zero = 0
front_slot g (suc i) = slot_or (slice_get g.rules i)

-- the slot of an item in its core
abbrev pub slot_of : Cfg → ℕ → ℕ → ℕ
slot_of g r zero = front_slot g r
slot_of g r (suc d) = code r (suc d)

-- the symbols behind the dot
abbrev pub Behind : Cfg → ℕ → ℕ → List Sym → Type 0
Behind g r d y = drop d (right_of g r) ≡ y

-- node k has the terminal by the item (r, d) of core n, which calls a nonterminal: it begins what
-- stands behind it
pub data OwnBy (g : Cfg) (nodes : List (ℕ × ℕ)) (n r d : ℕ) : ℕ → ℕ → Type 0 where
  called : (k m a : ℕ) (y : List Sym) → slice_get nodes k ≡ Some (n, suc m) → Behind g r d (N m ∷ y)
      → First g y a → OwnBy g nodes n r d k a

-- lookaheads of the item (r, d) of core n, node k, are those of node j: of what it calls, where what
-- stands behind that can vanish, and of the item with its dot moved on
pub data LeadsBy (g : Cfg) (cores : CoreList) (nodes : List (ℕ × ℕ)) (n r d : ℕ) : ℕ → ℕ → Type 0 where
  closure : (k j m : ℕ) (y : List Sym) → slice_get nodes k ≡ Some (n, slot_of g r d)
      → slice_get nodes j ≡ Some (n, suc m) → Behind g r d (N m ∷ y) → Nullable g y
      → LeadsBy g cores nodes n r d k j
  move : (k j o : ℕ) (x : Sym) (y : List Sym) → slice_get nodes k ≡ Some (n, slot_of g r d)
      → slice_get nodes j ≡ Some (o, code r (suc d)) → Behind g r d (x ∷ y)
      → Contains (moves_at cores n) (x, o) → LeadsBy g cores nodes n r d k j

-- by some item of core n
abbrev pub OwnIn : Cfg → CoreList → List (ℕ × ℕ) → ℕ → ℕ → ℕ → Type 0
OwnIn g cores nodes n k a =
    (r : ℕ) × (d : ℕ) × Contains (items_at cores n) (r, d) × OwnBy g nodes n r d k a

-- an item of a core hands its lookaheads to a node
abbrev pub LeadsIn : Cfg → CoreList → List (ℕ × ℕ) → ℕ → ℕ → ℕ → Type 0
LeadsIn g cores nodes n k j =
    (r : ℕ) × (d : ℕ) × Contains (items_at cores n) (r, d) × LeadsBy g cores nodes n r d k j

-- node k has the terminal by some item, or it is END at the item of rule 0 in the first core
abbrev pub Own : Cfg → CoreList → List (ℕ × ℕ) → ℕ → ℕ → Type 0
Own g cores nodes k a =
    ((slice_get nodes k ≡ Some (0, 0)) × (a ≡ g.terminals)) ⊎ ((n : ℕ) × OwnIn g cores nodes n k a)

-- some item leads from node k to node j
abbrev pub Leads : Cfg → CoreList → List (ℕ × ℕ) → ℕ → ℕ → Type 0
Leads g cores nodes k j = (n : ℕ) × LeadsIn g cores nodes n k j

-- each item has a node
abbrev pub AreNodes : Cfg → CoreList → List (ℕ × ℕ) → Type 0
AreNodes g cores nodes =
    (n r d : ℕ) → Contains (items_at cores n) (r, d) → Contains nodes (n, slot_of g r d)

-- the moves of core n as a list by the symbols' places in the order
abbrev pub AreTargets : Cfg → CoreList → ℕ → List ℕ → Type 0
AreTargets g cores n targets =
    (x : Sym) (o : ℕ) → Contains (moves_at cores n) (x, o) → slice_get targets (place_of g x) ≡ Some o

-- the number is the node's, and no other is
pub record IsNode (nodes : List (ℕ × ℕ)) (node : ℕ × ℕ) (k : ℕ) : Type 0 where
  pub there : slice_get nodes k ≡ Some node
  pub one : (j : ℕ) → slice_get nodes j ≡ Some node → j ≡ k

-- the set is that of the node of an item (r, d) of core n
pub record IsNodeSet (g : Cfg) (nodes : List (ℕ × ℕ)) (sets : List BitSet) (n r d : ℕ) (set : BitSet) : Type 0 where
  pub node : ℕ
  pub is : IsNode nodes (n, slot_of g r d) node
  pub has : (a : ℕ) → Has set a ↔ Has (set_at sets node) a
  pub size : set.size ≡ (set_at sets node).size

-- the sets are those of the nodes of all items, in their places
pub record AreNodeSets (g : Cfg) (cores : CoreList) (nodes : List (ℕ × ℕ)) (sets : List BitSet) (looks : List (List BitSet)) : Type 0 where
  pub cores_kept : length looks ≡ length cores.items
  pub items_kept : (n : ℕ) → n < length cores.items → length (sets_at looks n) ≡ length (items_at cores n)
  pub each : (n i r d : ℕ) (set : BitSet) → n < length cores.items → slice_get (items_at cores n) i ≡ Some (r, d)
      → slice_get (sets_at looks n) i ≡ Some set → IsNodeSet g nodes sets n r d set
