-- Forests, roots and trees that conform, tried where the nearest wrong reading differs.
use Rattle.std.proofs.Common.{◌≡◌, ℕ, zero, suc, ◌<◌, List, [], ◌∷◌, true, Some, None, refl, sym, ◌∙◌, arith, pos}
use Rattle.std.specs.Prelude.{slice_get}
use Rattle.std.proofs.lemmas.Option.{same_Some}
use Rattle.value_store.specs.declared.value.Value.{Value}
use Rattle.value_store.specs.declared.value.Value.TheVariants as value
use Rattle.value_store.specs.declared.value.ValType.{ValType}
use Rattle.value_store.specs.declared.value.ValType.TheVariants as ty
use Rattle.ast_types.specs.declared.item.Item.{Item}
use Rattle.ast_types.specs.TypeTable.{TypeTable, NodeType, type_at}
use Rattle.tree_store.specs.Conforms.{Fits, IsOfKind, is_int, Conforms}
use Rattle.tree_store.specs.Forest.{Node, node_at, IsChild, IsForest, AreRoots, IsRoot, OnlyRoot}

-- a node of type 0 with these children and no fields
abbrev pub above : List ℕ → Node
above children = record { ty = 0; children = children; fields = [] }

-- node 3 has the children 1 and 2, and node 1 has the child 0
abbrev pub one_tree : List Node
one_tree = above [] ∷ above (0 ∷ []) ∷ above [] ∷ above (1 ∷ 2 ∷ []) ∷ []

abbrev pub parent_of : ℕ → ℕ
parent_of zero = 1
parent_of (suc c) = 3

abbrev pub number_of : ℕ → ℕ
number_of zero = 0
number_of (suc c) = c

-- where a child of this tree stands
stands : (p i c : ℕ) → IsChild one_tree p i c → (p ≡ parent_of c) × (i ≡ number_of c) × (c < p)
stands zero i c is = (cc)
stands (suc zero) zero c is = rw (sym (same_Some 0 c is)) (refl, refl, omega arith)
stands (suc zero) (suc i) c is = (cc)
stands (suc (suc zero)) i c is = (cc)
stands (suc (suc (suc zero))) zero c is = rw (sym (same_Some 1 c is)) (refl, refl, omega arith)
stands (suc (suc (suc zero))) (suc zero) c is = rw (sym (same_Some 2 c is)) (refl, refl, omega arith)
stands (suc (suc (suc zero))) (suc (suc i)) c is = (cc)
stands (suc (suc (suc (suc p)))) i c is = (cc)

one_tree_is : IsForest one_tree
one_tree_is = record {
  before = λ p i c is. (stands p i c is).2;
  one_place = λ p i q j c is js. ((stands p i c is).0 ∙ sym (stands q j c js).0, (stands p i c is).1 ∙ sym (stands q j c js).1);
}

-- a node doesn't stand twice under one node, nor under two, and no child comes behind its parent
stands_twice : IsForest (above [] ∷ above (0 ∷ 0 ∷ []) ∷ []) → ⊥
stands_twice is = omega (arith, (is.one_place 1 0 1 1 0 refl refl).1)

under_two : IsForest (above [] ∷ above (0 ∷ []) ∷ above (0 ∷ []) ∷ []) → ⊥
under_two is = omega (arith, (is.one_place 1 0 2 0 0 refl refl).0)

behind_its_parent : IsForest (above (1 ∷ []) ∷ above [] ∷ []) → ⊥
behind_its_parent is = omega (arith, is.before 0 0 1 refl)

-- node 3 is the only root
only_3 : OnlyRoot one_tree 3
only_3 = record {
  root = record { within = omega arith; no_child = λ p i is. (let at = stands p i 3 is in omega (arith, at.0, at.2)) };
  only = only_it;
}
  where
    only_it : (n : ℕ) → IsRoot one_tree n → n ≡ 3
    only_it zero is = absurd (is.no_child 1 0 refl)
    only_it (suc zero) is = absurd (is.no_child 3 0 refl)
    only_it (suc (suc zero)) is = absurd (is.no_child 3 1 refl)
    only_it (suc (suc (suc zero))) is = refl
    only_it (suc (suc (suc (suc n)))) is = absurd (omega (arith, is.within))

-- of two trees neither root is the only one, the last one neither
not_of_two : OnlyRoot (above [] ∷ above [] ∷ []) 1 → ⊥
not_of_two is = omega (arith, is.only 0 (record { within = omega arith; no_child = none }))
  where
    none : (p i : ℕ) → IsChild (above [] ∷ above [] ∷ []) p i 0 → ⊥
    none zero i is = (cc)
    none (suc zero) i is = (cc)
    none (suc (suc p)) i is = (cc)

-- roots are no children, each is there, and none is named twice
child_is_none : AreRoots one_tree (1 ∷ []) → ⊥
child_is_none are = are.no_child 0 1 refl 3 0 refl

root_twice : AreRoots one_tree (3 ∷ 3 ∷ []) → ⊥
root_twice are = omega (arith, are.differ 0 1 3 refl refl)

no_such_root : AreRoots one_tree (4 ∷ []) → ⊥
no_such_root are = omega (arith, are.within 0 4 refl)

-- types 0 and 1 are of family 0, type 2 is of family 1, all without items; type 3 has a child of each family, and an
-- int between them
abbrev pub bare : ℕ → NodeType
bare family = record { name = []; family = family; base = None; items = [] }

abbrev pub item : ValType → Item
item of = record { name = []; of = of }

abbrev pub table : TypeTable
table = record {
  families = [];
  types = bare 0 ∷ bare 0 ∷ bare 1 ∷ (record (bare 0) { items = item (ty.Node 0) ∷ item ty.Int ∷ item (ty.Node 1) ∷ [] }) ∷ [];
}

-- node 0 is of family 1, and node 1 of family 0
abbrev pub two_nodes : List Node
two_nodes = (record (above []) { ty = 2 }) ∷ (record (above []) { ty = 1 }) ∷ []

-- the first child may be of any type of family 0
any_of_the_family : Fits table two_nodes 3 (1 ∷ 0 ∷ []) (value.Int (pos 9) ∷ [])
any_of_the_family = record {
  type_there = omega arith;
  as_many_children = refl;
  of_families = families;
  as_many_fields = refl;
  of_kinds = kinds;
}
  where
    families : (k c f : ℕ) → slice_get (1 ∷ 0 ∷ []) k ≡ Some c → slice_get (0 ∷ 1 ∷ []) k ≡ Some f → (type_at table.types (node_at two_nodes c).ty).family ≡ f
    families zero c f at is = rw (sym (same_Some 1 c at)) (same_Some 0 f is)
    families (suc zero) c f at is = rw (sym (same_Some 0 c at)) (same_Some 1 f is)
    families (suc (suc k)) c f at is = (cc)

    kinds : (k : ℕ) (v : Value) (kind : ValType) → slice_get (value.Int (pos 9) ∷ []) k ≡ Some v → slice_get (ty.Int ∷ []) k ≡ Some kind → IsOfKind v kind
    kinds zero v kind at is = rw (sym (same_Some _ v at), sym (same_Some _ kind is)) (is_int (pos 9))
    kinds (suc k) v kind at is = (cc)

-- but not of another family, and there are neither more children than items nor fewer fields
wrong_family : Fits table two_nodes 3 (0 ∷ 1 ∷ []) (value.Int (pos 9) ∷ []) → ⊥
wrong_family fits = omega (arith, fits.of_families 0 0 0 refl refl)

one_child_more : Fits table two_nodes 3 (1 ∷ 0 ∷ 1 ∷ []) (value.Int (pos 9) ∷ []) → ⊥
one_child_more fits = omega (arith, fits.as_many_children)

field_forgotten : Fits table two_nodes 3 (1 ∷ 0 ∷ []) [] → ⊥
field_forgotten fits = omega (arith, fits.as_many_fields)

-- a field is of its item's kind
bool_for_int : Fits table two_nodes 3 (1 ∷ 0 ∷ []) (value.Bool true ∷ []) → ⊥
bool_for_int fits = elim (fits.of_kinds 0 (value.Bool true) ty.Int refl refl) [ ]

-- a tree conforms only where each node fits, and not the root alone
deep_node : Conforms table ((record (above []) { ty = 4 }) ∷ (record (above []) { ty = 1 }) ∷ []) → ⊥
deep_node conforms = omega (arith, (conforms 0 (omega arith)).type_there)
