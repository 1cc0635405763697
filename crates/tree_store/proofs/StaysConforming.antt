-- A tree that conforms, with one more node that fits its type.
use Rattle.std.proofs.Common.{◌≡◌, ℕ, ◌+◌, ◌<◌, List, [], ◌∷◌, ◌++◌, length, Some, refl, sym, ap, ◌∙◌, subst, arith, suc, zero, length-append, ◌⊎◌, inl, inr}
use Rattle.std.specs.Prelude.{slice_get}
use Rattle.value_store.specs.declared.value.Value.{Value}
use Rattle.ast_types.specs.TypeTable.{TypeTable, type_at}
use Rattle.tree_store.specs.Forest.{Node, node_at, IsForest, AreRoots}
use Rattle.tree_store.specs.Conforms.{Fits, Conforms}

node_kept : (nodes : List Node) (x : Node) (n : ℕ) → n < length nodes → node_at (nodes ++ x ∷ []) n ≡ node_at nodes n
node_kept [] x n within = absurd (omega (arith, within))
node_kept (m ∷ nodes) x zero within = refl
node_kept (m ∷ nodes) x (suc n) within = node_kept nodes x n (omega (arith, within))

node_new : (nodes : List Node) (x : Node) (n : ℕ) → n ≡ length nodes → node_at (nodes ++ x ∷ []) n ≡ x
node_new [] x zero e = refl
node_new [] x (suc n) e = absurd (omega (arith, e))
node_new (m ∷ nodes) x zero e = absurd (omega (arith, e))
node_new (m ∷ nodes) x (suc n) e = node_new nodes x n (omega (arith, e))

old_or_new : (nodes : List Node) (n : ℕ) → n < length nodes + 1 → (n < length nodes) ⊎ (n ≡ length nodes)
old_or_new [] zero within = inr refl
old_or_new [] (suc n) within = absurd (omega (arith, within))
old_or_new (m ∷ nodes) zero within = inl (omega arith)
old_or_new (m ∷ nodes) (suc n) within = elim (old_or_new nodes n (omega (arith, within))) [ inl e ↦ inl (omega (arith, e)) | inr e ↦ inr (ap suc e) ]

-- what fits over old children fits still
fits_more : (table : TypeTable) (nodes : List Node) (x : Node) (t : ℕ) (cs : List ℕ) (fields : List Value) → ((k c : ℕ) → slice_get cs k ≡ Some c → c < length nodes)
    → Fits table nodes t cs fields → Fits table (nodes ++ x ∷ []) t cs fields
fits_more table nodes x t cs fields low fits = record {
  type_there = fits.type_there;
  as_many_children = fits.as_many_children;
  of_families = λ k c f at item. ap (λ n. (type_at table.types n.ty).family) (node_kept nodes x c (low k c at)) ∙ fits.of_families k c f at item;
  as_many_fields = fits.as_many_fields;
  of_kinds = fits.of_kinds;
}

pub stays_conforming : (table : TypeTable) (nodes : List Node) (x : Node) → IsForest nodes → AreRoots nodes x.children → Fits table nodes x.ty x.children x.fields
    → Conforms table nodes → Conforms table (nodes ++ x ∷ [])
stays_conforming table nodes x forest roots fits all n within =
    elim (old_or_new nodes n (omega (arith, within, length-append nodes (x ∷ [])))) [
      | inl low ↦ subst (λ m. Fits table (nodes ++ x ∷ []) m.ty m.children m.fields) (sym (node_kept nodes x n low))
          (fits_more table nodes x _ _ _ (λ k c at. (let before = forest.before n k c at in omega (arith, before, low))) (all n low))
      | inr e ↦ subst (λ m. Fits table (nodes ++ x ∷ []) m.ty m.children m.fields) (sym (node_new nodes x n e)) (fits_more table nodes x _ _ _ roots.within fits)
    ]
