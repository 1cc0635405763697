-- A fitting plan fits in each tree of the attribution's types.
use Rattle.std.proofs.Common.{◌≡◌, ◌≢◌, ℕ, zero, suc, ◌+◌, ◌-◌, ◌<◌, ◌⊎◌, inl, inr, Bool, true, false, List, [], ◌∷◌, length, Option, Some, None, refl, sym, ◌∙◌, subst, ap, arith}
use Rattle.std.specs.Prelude.{slice_get, slice_index}
use Rattle.std.proofs.lemmas.Bool.{cases_eq}
use Rattle.std.proofs.lemmas.Option.{slice_get_within, get_or_from_slice_get}
use Rattle.ck_base.proofs.Finite.{Decided, some_below}
use Rattle.ck_base.proofs.Counting.{element_of_map}
use Rattle.ck_base.proofs.Representing.{element_to_map, element_at}
use Rattle.tree_store.specs.Conforms.{Conforms}
use Rattle.tree_store.specs.Forest.{Node, node_at, children_at, IsForest, OnlyRoot, IsRoot}
use Rattle.tree_store.specs.Forest as forest
use Rattle.tree_store.proofs.LastIsRoot.{last_root}
use Rattle.ag_model.specs.declared.attribution.Attribute.{Attribute}
use Rattle.ag_model.specs.declared.attribution.Place.{Place}
use Rattle.ag_model.specs.declared.attribution.Place.TheVariants.{Own, Child}
use Rattle.ag_model.specs.declared.plan.PlanStep.{PlanStep}
use Rattle.ag_model.specs.Attribution.{AttributeGrammar, PureEquation, attributes_at, attributes_of, children_of, equations_of, kinds_in, kinds_of}
use Rattle.ag_model.specs.Complete.{IsComplete, IsGiven}
use Rattle.ag_model.specs.Plans.{PurePlan, PlanFits, TypeFits, AtHand, TakesIn, Gives, sets_of, child_sets}
use Rattle.ag_model.specs.Plans as plans
use Rattle.ag_model.specs.Solution.{type_family}
use Rattle.ag_model.proofs.SolvesByEquations.{parent_there}
use Rattle.ag_visits.specs.within.VisitedTree.{IsChild, IsTree}
use Rattle.ag_visits.specs.within.Visits.{Fitting}
use Rattle.ag_visits.specs.within.OfTree.{tree_of, kinds_at, sets_at, steps_at, IsReady, IsWide}
use Rattle.ag_visits.specs.Promise.{HasRoot}
use Rattle.ag_visits.proofs.Ticks.{IsFull}

-- the sets of children matter where there is such a child
pub fits_below : (sets : List (List ℕ)) (below other : ℕ → List (List ℕ)) (children : ℕ) (equations : List PureEquation) (steps : List PlanStep)
    → ((c : ℕ) → c < children → below c ≡ other c) → TypeFits sets below children equations steps → TypeFits sets other children equations steps
fits_below sets below other children equations steps same fits = record {
  visits = fits.visits;
  ends = fits.ends;
  some = fits.some;
  once = fits.once;
  known = fits.known;
  after = λ i e q u at there has. at_hand i u (fits.after i e q u at there has);
  is_child = fits.is_child;
  in_order = fits.in_order;
  all = λ c lt. fits.all c lt ∙ ap plans.visit_count (same c lt);
  before_visit = λ i c v a at takes. fits.before_visit i c v a at (subst (λ x. TakesIn x v a) (sym (same c (fits.is_child i c v at))) takes);
  before_leave = fits.before_leave;
}
  where
    at_hand : (i : ℕ) (u : Place) → AtHand sets below equations steps i u → AtHand sets other equations steps i u
    at_hand i (Own a) is = is
    at_hand i (Child c a) (inl before) = inl before
    at_hand i (Child c a) (inr (j, v, lt, at, gives)) = inr (j, v, lt, at, subst (λ x. Gives x v a) (same c (fits.is_child j c v at)) gives)

-- a number is in a list, or it isn't
place_in : (xs : List ℕ) (k : ℕ) → ((i : ℕ) × (slice_get xs i ≡ Some k)) ⊎ ((i : ℕ) → slice_get xs i ≡ Some k → ⊥)
place_in [] k = inr (λ i is. let x : None ≡ Some k = is in cc)
place_in (x ∷ xs) k = elim (cases_eq x k) [
  | inl same ↦ inl (0, ap Some same)
  | inr other ↦ elim (place_in xs k) [
    | inl found ↦ inl (suc found.0, found.1)
    | inr none ↦ inr (λ i is. not_here other none i is)
  ]
]
  where
    not_here : (x ≢ k) → ((j : ℕ) → slice_get xs j ≡ Some k → ⊥) → (i : ℕ) → slice_get (x ∷ xs) i ≡ Some k → ⊥
    not_here other none zero is = let e : Some x ≡ Some k = is in let same : x ≡ k = cc in other same
    not_here other none (suc i) is = none i is

module _ (g : AttributeGrammar) (width : ℕ) (nodes : List Node) where
  -- children in both forms
  pub to_child : (m c k : ℕ) → forest.IsChild nodes m c k → IsChild (tree_of g width nodes) m c k
  to_child m c k is = record {
    node = parent_there nodes m c k is;
    place = slice_get_within (children_at nodes m) c k is;
    is = sym (get_or_from_slice_get (children_at nodes m) c k 0 is);
  }

  pub of_child : (m c k : ℕ) → IsChild (tree_of g width nodes) m c k → forest.IsChild nodes m c k
  of_child m c k ch =
      let (j, at) = element_at (children_at nodes m) c ch.place in
      let same : k ≡ j = ch.is ∙ get_or_from_slice_get (children_at nodes m) c j 0 at in
      at ∙ ap Some (sym same)

  module _ {V : Type 0} (val : ℕ → ℕ → List V → V) (plan : PurePlan) (ready : IsReady g plan nodes) where
    is_child_of : (m k : ℕ) → Decided ((c : ℕ) × forest.IsChild nodes m c k)
    is_child_of m k = elim (place_in (children_at nodes m) k) [
      | inl found ↦ inl found
      | inr none ↦ inr (λ found. none found.0 found.1)
    ]

    -- each node but the last has a parent
    pub has_parent : (k : ℕ) → k + 1 < length nodes → (m : ℕ) × (c : ℕ) × forest.IsChild nodes m c k
    has_parent k lt = elim (some_below (λ m. (c : ℕ) × forest.IsChild nodes m c k) (λ m. is_child_of m k) (length nodes)) [
      | inl found ↦ (found.0, found.2.0, found.2.1)
      | inr none ↦
          let root : IsRoot nodes k = record {
            within = omega arith;
            no_child = λ p i is. none p (parent_there nodes p i k is) (i, is);
          } in
          let last = last_root nodes (length nodes - 1) ready.forest (omega arith) in
          let a = ready.only.only k root in
          let b = ready.only.only (length nodes - 1) last in
          absurd (omega arith)
    ]

    pub root_last : (r : ℕ) → r + 1 ≡ length nodes → r ≡ ready.root
    root_last r is = ready.only.only r (last_root nodes r ready.forest is)

    pub is_tree : IsTree (tree_of g width nodes)
    is_tree = record {
      below = λ m c k ch. ready.forest.before m c k (of_child m c k ch);
      one_parent = λ m c n d k one other. ready.forest.one_place m c n d k (of_child m c k one) (of_child n d k other);
      parent = λ k lt. let up = has_parent k lt in (up.0, up.1, to_child up.0 up.1 k up.2);
      some = let within = ready.only.root.within in omega arith;
    }

    -- the family of a child is that of the item
    pub child_family : (n c x : ℕ) → n < length nodes → slice_get (children_of g (node_at nodes n).ty) c ≡ Some x
        → (c < length (children_at nodes n)) × (type_family g nodes (slice_index (children_at nodes n) c) ≡ x)
    child_family n c x within some =
        let fits = ready.conforms n within in
        let below = slice_get_within (children_of g (node_at nodes n).ty) c x some in
        let as_many = fits.as_many_children in
        let inside : c < length (children_at nodes n) = omega arith in
        let (k, child) = element_at (children_at nodes n) c inside in
        let child_is : slice_index (children_at nodes n) c ≡ k = get_or_from_slice_get (children_at nodes n) c k 0 child in
        (inside, ap (type_family g nodes) child_is ∙ fits.of_families c k x child some)

    pub type_fits : (n : ℕ) → n < length nodes
        → TypeFits (sets_at g plan nodes n) (λ c. sets_at g plan nodes (slice_index (children_at nodes n) c)) (length (children_at nodes n))
        (equations_of g (node_at nodes n).ty) (steps_at plan nodes n)
    type_fits n within =
        let fits = ready.conforms n within in
        let given = ready.fits.steps (node_at nodes n).ty fits.type_there in
        let changed = fits_below (sets_at g plan nodes n) (child_sets g plan (node_at nodes n).ty) (λ c. sets_at g plan nodes (slice_index (children_at nodes n) c))
        (length (children_of g (node_at nodes n).ty)) (equations_of g (node_at nodes n).ty) (steps_at plan nodes n)
        (λ c lt. same c lt) given in
        subst (λ x. TypeFits (sets_at g plan nodes n) (λ c. sets_at g plan nodes (slice_index (children_at nodes n) c)) x (equations_of g (node_at nodes n).ty) (steps_at plan nodes n))
        (sym fits.as_many_children) changed
      where
        same : (c : ℕ) → c < length (children_of g (node_at nodes n).ty)
            → child_sets g plan (node_at nodes n).ty c ≡ sets_at g plan nodes (slice_index (children_at nodes n) c)
        same c lt =
            let (x, some) = element_at (children_of g (node_at nodes n).ty) c lt in
            ap (plans.sets_at plan) some ∙ ap (sets_of plan) (sym (child_family n c x within some).1)

    -- what a type's equations give are attributes of nodes, synthesized or inherited
    pub own_given : (n a : ℕ) → IsGiven g (node_at nodes n).ty (Own a) → slice_get (kinds_at g nodes n) a ≡ Some true
    own_given n a (attribute, there, kind) =
        element_to_map (λ (x : Attribute). x.synthesized) (attributes_of g (type_family g nodes n)) a attribute there ∙ ap Some kind

    pub child_given : (n c a : ℕ) → n < length nodes → IsGiven g (node_at nodes n).ty (Child c a)
        → (c < length (children_at nodes n)) × (slice_get (kinds_at g nodes (slice_index (children_at nodes n) c)) a ≡ Some false)
    child_given n c a within (attribute, there, kind) = go (slice_get (children_of g (node_at nodes n).ty) c) refl
      where
        go : (o : Option ℕ) → slice_get (children_of g (node_at nodes n).ty) c ≡ o
            → (c < length (children_at nodes n)) × (slice_get (kinds_at g nodes (slice_index (children_at nodes n) c)) a ≡ Some false)
        go None none = let x : None ≡ Some attribute = subst (λ o. slice_get (attributes_at g o) a ≡ Some attribute) none there in absurd (cc)
        go (Some x) some =
            let (inside, family) = child_family n c x within some in
            let at_x : slice_get (attributes_of g x) a ≡ Some attribute = subst (λ o. slice_get (attributes_at g o) a ≡ Some attribute) some there in
            let kind_is : slice_get (kinds_of g x) a ≡ Some false = element_to_map (λ (z : Attribute). z.synthesized) (attributes_of g x) a attribute at_x ∙ ap Some kind in
            (inside, subst (λ f. slice_get (kinds_of g f) a ≡ Some false) (sym family) kind_is)

    pub length_kinds : (xs : List Attribute) → length (kinds_in xs) ≡ length xs
    length_kinds [] = refl
    length_kinds (x ∷ xs) = ap suc (length_kinds xs)

    pub fitting : IsWide g width → Fitting (tree_of g width nodes) (kinds_at g nodes) (sets_at g plan nodes) (steps_at plan nodes)
    fitting wide = record {
      tree = is_tree;
      types = type_fits;
      families = λ n within. let fits = ready.conforms n within in ready.fits.sets (type_family g nodes n) (ready.complete.types.sound.family_there (node_at nodes n).ty fits.type_there);
      own_target = λ n e a q within is target. own_given n a (subst (IsGiven g (node_at nodes n).ty) target (ready.complete.target (node_at nodes n).ty e q is));
      child_target = λ n e c a q within is target.
          child_given n c a within (subst (IsGiven g (node_at nodes n).ty) target (ready.complete.target (node_at nodes n).ty e q is));
      one_target = λ n e f q r within is also same. ready.complete.one (node_at nodes n).ty e f q r is also same;
      width = λ n within. let few = wide (type_family g nodes n) in let is = length_kinds (attributes_of g (type_family g nodes n)) in omega arith;
      root = λ n a is inherited. ready.inherits a (subst (λ r. slice_get (kinds_at g nodes r) a ≡ Some false) (root_last n is) inherited);
    }

    -- each attribute has an equation
    given_of : (n x a : ℕ) (b : Bool) → slice_get (kinds_of g x) a ≡ Some b → (attribute : Attribute) × (slice_get (attributes_of g x) a ≡ Some attribute) × (attribute.synthesized ≡ b)
    given_of n x a b is = element_of_map (λ (z : Attribute). z.synthesized) (attributes_of g x) a b is

    pub is_full : (wide : IsWide g width) → IsFull val (tree_of g width nodes) (kinds_at g nodes) (sets_at g plan nodes) (steps_at plan nodes) (fitting wide)
    is_full wide = record {
      own_has = λ n a within is.
          let fits = ready.conforms n within in
          ready.complete.some (node_at nodes n).ty (Own a) fits.type_there (given_of n (type_family g nodes n) a true is);
      child_has = λ n c a within inside is.
          let fits = ready.conforms n within in
          let as_many = fits.as_many_children in
          let (x, some) = element_at (children_of g (node_at nodes n).ty) c (omega arith) in
          let (below, family) = child_family n c x within some in
          let (attribute, at, kind) = given_of n x a false (subst (λ f. slice_get (kinds_of g f) a ≡ Some false) family is) in
          ready.complete.some (node_at nodes n).ty (Child c a) fits.type_there
          (attribute, subst (λ o. slice_get (attributes_at g o) a ≡ Some attribute) (sym some) at, kind);
    }

-- what the program's contracts say makes a tree ready
pub ready_of : (g : AttributeGrammar) (plan : PurePlan) (nodes : List Node) → IsComplete g → PlanFits g plan → Conforms g.table nodes → IsForest nodes
    → HasRoot g nodes → IsReady g plan nodes
ready_of g plan nodes complete fits conforms forest (r, only, inherits) = record {
  complete = complete;
  fits = fits;
  conforms = conforms;
  forest = forest;
  root = r;
  only = only;
  inherits = inherits;
}
