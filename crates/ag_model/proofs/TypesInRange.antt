-- The families and the children of an attribution's types are within the limits.
use Rattle.std.proofs.Common.{◌≡◌, ℕ, ◌<◌, ◌≤◌, List, length, Option, Some, None, refl, sym, subst, arith}
use Rattle.std.specs.Prelude.{slice_get, All}
use Rattle.std.proofs.lemmas.List.Elements.{All-get_or}
use Rattle.std.proofs.lemmas.Option.{slice_get_within, get_or_from_slice_get}
use Rattle.ast_types.specs.FitTypes.{HasFitItems}
use Rattle.ast_types.specs.Items.{child_families}
use Rattle.ast_types.specs.TypeTable.{NodeType, family_at, type_in}
use Rattle.ag_model.specs.Attribution.{AttributeGrammar, family_of, children_of}
use Rattle.ag_model.specs.Complete.{IsComplete}

element_is : {X : Type 0} (P : X → Type 0) (xs : List X) (i : ℕ) (x : X) → All P xs → slice_get xs i ≡ Some x → P x
element_is P xs i x all is =
    subst P (get_or_from_slice_get xs i x x is) (All-get_or P xs i x (slice_get_within xs i x is) all)

module _ (g : AttributeGrammar) (complete : IsComplete g) where
  pub family_there : (t : ℕ) → t < length g.table.types → family_of g t < length g.table.families
  family_there t within = complete.types.sound.family_there t within

  fit_items : (t : ℕ) (ty : NodeType) → slice_get g.table.types t ≡ Some ty → HasFitItems g.table ty
  fit_items t ty is = element_is (HasFitItems g.table) g.table.types t ty complete.types.items is

  pub child_there : (t i x : ℕ) → slice_get (children_of g t) i ≡ Some x → x < length g.table.families
  child_there t i x is = go (slice_get g.table.types t) refl
    where
      go : (o : Option NodeType) → slice_get g.table.types t ≡ o → x < length g.table.families
      go None none =
          let e : None ≡ Some x = subst (λ o. slice_get (child_families (type_in o).items) i ≡ Some x) none is in absurd (cc)
      go (Some ty) some =
          let at = subst (λ o. slice_get (child_families (type_in o).items) i ≡ Some x) some is in
          let fit = fit_items t ty some in
          (element_is (λ f. (f < length g.table.families)
          × ((family_at g.table.families f).target ≡ (family_at g.table.families ty.family).target))
          (child_families ty.items) i x fit.families at).0

  pub few_children : (t : ℕ) → length (children_of g t) ≤ 8
  few_children t = go (slice_get g.table.types t) refl
    where
      go : (o : Option NodeType) → slice_get g.table.types t ≡ o → length (children_of g t) ≤ 8
      go None none = subst (λ o. length (child_families (type_in o).items) ≤ 8) (sym none) (omega arith)
      go (Some ty) some = subst (λ o. length (child_families (type_in o).items) ≤ 8) (sym some) (fit_items t ty some).few_children
