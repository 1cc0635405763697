-- A pattern fits a part in at most one way, with one list of operands and of bound fields.
use Rattle.std.proofs.Common.{◌≡◌, ℕ, List, Option, Some, refl, sym, subst, ap, ◌∙◌}
use Rattle.std.specs.Prelude.{map}
use Rattle.tree_store.specs.Forest.{Node}
use Rattle.expr_lang.specs.PureValues.{PureValue}
use Rattle.beg_model.specs.Rules.{Pattern, Patterns}
use Rattle.beg_model.specs.Fitting.{Target, Part, Subgoal, Shows, Fits, FitAll, parts_by, item_types, field_value}

same_node : {o : Option Node} {a b : Node} → o ≡ Some a → o ≡ Some b → a ≡ b
same_node e f = cc

pub one_showing : {on : Target} {n t : ℕ} {a b : List Part} → Shows on n t a → Shows on n t b → a ≡ b
one_showing {on = on} {t = t} f g =
    f.are ∙ ap (λ (node : Node). parts_by (item_types on.table t) node.children (map (field_value on) node.fields)) (same_node f.is g.is) ∙ sym g.are

mutual
  pub one_fit : {on : Target} {p : Pattern} {part : Part} {ops more : List Subgoal} {us vs : List PureValue} → Fits on p part ops us
      → Fits on p part more vs → (ops ≡ more) × (us ≡ vs)
  one_fit (Fits.at_leaf n x) (Fits.at_leaf _ _) = (refl, refl)
  one_fit (Fits.at_any v) (Fits.at_any _) = (refl, refl)
  one_fit (Fits.at_bind i v) (Fits.at_bind _ _) = (refl, refl)
  one_fit (Fits.at_number z v e) (Fits.at_number _ _ _) = (refl, refl)
  one_fit (Fits.at_truth b v e) (Fits.at_truth _ _ _) = (refl, refl)
  one_fit (Fits.at_string bytes v e) (Fits.at_string _ _ _) = (refl, refl)
  one_fit {on = on} (Fits.at_tree n t ps parts o1 us shows all) (Fits.at_tree _ _ _ parts2 o2 vs shows2 all2) =
      one_fit_all all (subst (λ z. FitAll on ps z o2 vs) (sym (one_showing shows shows2)) all2)

  pub one_fit_all : {on : Target} {ps : Patterns} {parts : List Part} {ops more : List Subgoal} {us vs : List PureValue} → FitAll on ps parts ops us
      → FitAll on ps parts more vs → (ops ≡ more) × (us ≡ vs)
  one_fit_all FitAll.no_part FitAll.no_part = (refl, refl)
  one_fit_all (FitAll.one_more p ps part parts o1 o2 us vs first rest) (FitAll.one_more _ _ _ _ o3 o4 us2 vs2 first2 rest2) =
      let (a, u) = one_fit first first2 in
      let (b, v) = one_fit_all rest rest2 in
      (rw (a, b), rw (u, v))
