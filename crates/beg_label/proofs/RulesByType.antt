-- The lists of the rules that may apply at nodes of each type.
use Rattle.std.proofs.Common.{◌≡◌, ℕ, ◌+◌, ◌<◌, ◌⊎◌, List, [], ◌∷◌, ◌++◌, length, get_or, inl, inr, arith, refl, subst, sym, Option, Some, None, zero, suc, ap, ◌∙◌}
use Rattle.std.specs.Prelude.{slice_get, All, Vec}
use Rattle.std.proofs.lemmas.Option.{slice_get-get_or}
use Rattle.std.proofs.lemmas.Bool.{cases_eq}
use Rattle.std.specs.Global.{Global}
use Rattle.value_store.proofs.CellsStay.{slice_get-end}
use Rattle.value_store.proofs.NodeMade.{slice_get-front}
use Rattle.value_store.specs.declared.text.Texts.{Texts}
use Rattle.ast_types.specs.TypeTable.{TypeTable}
use Rattle.tree_store.specs.Forest.{Node, node_at}
use Rattle.beg_model.specs.Applies.{applies}
use Rattle.beg_model.specs.Fitting.{Target, Fits, at_leaf, at_tree, child, MayFit}
use Rattle.beg_model.specs.declared.matched.Subgoal.{Subgoal}
use Rattle.beg_model.specs.Rules.{Pattern}
use Rattle.beg_model.specs.declared.rules.CoverRules.{CoverRules}
use Rattle.beg_label.specs.within.Offers.{IsIn}
use Rattle.beg_label.specs.within.Listed.{MayApply, ListsRules, RuleListed, RulesListed, ListIs}

-- what is in a list is in one that is longer; and the last one is in it
kept_in : (r : ℕ) (list : List ℕ) (more : List ℕ) → IsIn r list → IsIn r (list ++ more)
kept_in r [] more (i, at) = cc
kept_in r (x ∷ xs) more (zero, at) = (zero, at)
kept_in r (x ∷ xs) more (suc i, at) = let (j, found) = kept_in r xs more (i, at) in (suc j, found)

last_in : (r : ℕ) (list : List ℕ) → IsIn r (list ++ r ∷ [])
last_in r [] = (zero, refl)
last_in r (x ∷ xs) = let (j, found) = last_in r xs in (suc j, found)

-- what is in a list with one more was in it or is that one
in_longer : (q r : ℕ) (list : List ℕ) → IsIn q (list ++ r ∷ []) → (IsIn q list) ⊎ (q ≡ r)
in_longer q r [] (zero, at) = inr (cc)
in_longer q r [] (suc i, at) = cc
in_longer q r (x ∷ xs) (zero, at) = inl (zero, at)
in_longer q r (x ∷ xs) (suc i, at) = elim (in_longer q r xs (i, at)) [
  | inl (j, found) ↦ inl (suc j, found)
  | inr same ↦ inr same
]

module _ (texts : Texts) (rules : CoverRules) (table : TypeTable) (ty : ℕ) where
  -- no rule is listed yet
  pub none_listed : ListsRules texts rules table ty 0 []
  none_listed = record { there = λ r (i, at). cc; all = λ r lt may. absurd (omega (arith, lt)) }

  -- one rule more is listed, where it may apply
  pub one_listed : (r : ℕ) (old new : List ℕ) → r < length rules.rules.items → ListsRules texts rules table ty r old
      → RuleListed texts rules table ty r old new → ListsRules texts rules table ty (r + 1) new
  one_listed r old new within so_far (inl is) = subst (ListsRules texts rules table ty (r + 1)) (sym is) (record {
    there = λ q among. elim (in_longer q r old among) [
      | inl before ↦ so_far.there q before
      | inr same ↦ rw same within
    ];
    all = λ q lt may. elim (cases_eq q r) [
      | inl same ↦ rw same (last_in r old)
      | inr differ ↦ kept_in q old (r ∷ []) (so_far.all q (omega (arith, lt, differ)) may)
    ];
  })
  one_listed r old new within so_far (inr (never, is)) = subst (ListsRules texts rules table ty (r + 1)) (sym is) (record {
    there = so_far.there;
    all = λ q lt may. elim (cases_eq q r) [
      | inl same ↦ absurd (never (subst (MayApply texts rules table ty) same may))
      | inr differ ↦ so_far.all q (omega (arith, lt, differ)) may
    ];
  })

-- one type more has its list
pub one_more_list : (texts : Texts) (rules : CoverRules) (table : TypeTable) (ty : ℕ) (lists new : List (Vec ℕ Global)) (list : Vec ℕ Global)
    → length lists ≡ ty → new ≡ lists ++ list ∷ [] → ((t : ℕ) → t < ty → RulesListed texts rules table t (slice_get lists t))
    → ListsRules texts rules table ty (length rules.rules.items) list.items
    → (t : ℕ) → t < ty + 1 → RulesListed texts rules table t (slice_get new t)
one_more_list texts rules table ty lists new list size is so_far this t lt =
    subst (λ z. RulesListed texts rules table t (slice_get z t)) (sym is) (elim (cases_eq t ty) [
      | inl same ↦ (let end : slice_get (lists ++ list ∷ []) t ≡ Some list = ap (λ z. slice_get (lists ++ list ∷ []) z) (same ∙ sym size) ∙ slice_get-end lists list in
          rw end (rw same this))
      | inr differ ↦ rw (slice_get-front lists (list ∷ []) t (omega (arith, lt, differ, size))) (so_far t (omega (arith, lt, differ)))
    ])

-- the list at a place is the one for the type
pub list_there : (texts : Texts) (rules : CoverRules) (table : TypeTable) (ty : ℕ) (list : List ℕ) (found : Option (Vec ℕ Global)) → RulesListed texts rules table ty found
    → ListIs list found → ListsRules texts rules table ty (length rules.rules.items) list
list_there texts rules table ty list (Some there) lists is = rw is lists
list_there texts rules table ty list None lists is = absurd lists

-- it has numbers of rules alone
pub numbers_there : (texts : Texts) (rules : CoverRules) (table : TypeTable) (ty count : ℕ) (list : List ℕ) → ListsRules texts rules table ty count list
    → All (λ r. r < length rules.rules.items) list
numbers_there texts rules table ty count list lists i d lt = lists.there (get_or list i d) (i, slice_get-get_or list i d lt)

-- a pattern that fits a node may fit nodes of its type
pub fits_may : (on : Target) (p : Pattern) (n : ℕ) (ops : List Subgoal) (env : List _) (node : Node) → slice_get on.nodes n ≡ Some node → Fits on p (child n) ops env
    → MayFit on.table.types p node.ty
fits_may on p n ops env node at (at_leaf m x) = _
fits_may on p n ops env node at (at_tree m t ps parts operands vars shows all) =
    let same : node ≡ shows.node = cc in rw same shows.is_a

-- a rule that applies at a node is in the list for its type
pub applied_in : (texts : Texts) (rules : CoverRules) (table : TypeTable) (nodes : List Node) (n : ℕ) (list : List ℕ) → n < length nodes
    → ListsRules texts rules table (node_at nodes n).ty (length rules.rules.items) list
    → (r x k : ℕ) (ps : List Subgoal) → r < length rules.rules.items → applies texts rules table nodes r n x k ps → IsIn r list
applied_in texts rules table nodes n list within lists r x k ps few a =
    lists.all r few (a.rule, a.is, fits_may _ a.rule.pattern n ps a.env (node_at nodes n) (there nodes n within) a.fits)
  where
    there : (ns : List Node) (i : ℕ) → i < length ns → slice_get ns i ≡ Some (node_at ns i)
    there [] i lt = absurd (omega (arith, lt))
    there (m ∷ ms) zero lt = refl
    there (m ∷ ms) (suc i) lt = there ms i (omega (arith, lt))

-- the list that is taken for a node is the one for its type
pub listed_for : (texts : Texts) (rules : CoverRules) (table : TypeTable) (nodes : List Node) (n ty : ℕ) (lists all : List (Vec ℕ Global)) (list : List ℕ)
    → all ≡ lists → ty ≡ (node_at nodes n).ty → ty < length table.types
    → ((t : ℕ) → t < length table.types → RulesListed texts rules table t (slice_get lists t))
    → ListIs list (slice_get all ty) → ListsRules texts rules table (node_at nodes n).ty (length rules.rules.items) list
listed_for texts rules table nodes n ty lists all list alike of within lists_are is =
    subst (λ z. ListsRules texts rules table z (length rules.rules.items) list) of
    (list_there texts rules table ty list (slice_get lists ty) (lists_are ty within) (subst (λ z. ListIs list (slice_get z ty)) alike is))
