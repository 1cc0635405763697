-- The operands of a rule lie under the node: at the node itself for a chain rule, else lower, and apart.
use Rattle.std.proofs.Common.{length, ◌≡◌, ℕ, ◌+◌, ◌<◌, ◌≤◌, ◌⊎◌, inl, inr, List, [], ◌∷◌, ◌++◌, Some, refl, sym, subst, ap, ◌∙◌, arith}
use Rattle.std.specs.Prelude.{map, slice_get, slice_index}
use Rattle.std.proofs.lemmas.Option.{slice_get_within}
use Rattle.value_store.specs.declared.value.ValType.{ValType}
use Rattle.value_store.specs.declared.value.ValType.TheVariants as ty
use Rattle.tree_store.specs.Forest.{Node, node_in, children_at, IsForest}
use Rattle.tree_store.proofs.CallsToCome.{total, size_is, all_below, AllBelow}
use Rattle.tree_store.proofs.CallsToCome as calls
use Rattle.expr_lang.specs.PureValues.{PureValue}
use Rattle.beg_model.specs.Rules.{Pattern, Patterns, leaf}
use Rattle.beg_model.specs.Fitting.{Target, Part, child, field, Subgoal, Shows, Fits, FitAll, parts_by, item_types, field_value}
use Rattle.beg_model.specs.Cover.{IsOne, here, there}
use Rattle.beg_model.proofs.CostBound.{sizes}

-- how many nodes are under a node, itself counted
abbrev pub size_of : List Node → ℕ → ℕ
size_of nodes n = slice_index (calls.sizes nodes) n

pub node_children : (nodes : List Node) (n : ℕ) {node : Node} → slice_get nodes n ≡ Some node → children_at nodes n ≡ node.children
node_children nodes n is = ap (λ o. (node_in o).children) is

pub children_below : (nodes : List Node) (n : ℕ) (cs : List ℕ) → IsForest nodes → children_at nodes n ≡ cs → AllBelow n cs
children_below nodes n cs forest are = all_below n cs (λ i c at. forest.before n i c (subst (λ z. slice_get z i ≡ Some c) (sym are) at))

pub one_node_more : (nodes : List Node) → IsForest nodes → (n : ℕ) (node : Node) → slice_get nodes n ≡ Some node
    → size_of nodes n ≡ total (calls.sizes nodes) node.children + 1
one_node_more nodes forest n node is =
    let within = slice_get_within nodes n node is in
    let are = node_children nodes n is in
    size_is [] nodes n n within (omega arith) (subst (λ cs. AllBelow n cs) (sym are) (children_below nodes n node.children forest are))
    ∙ ap (λ cs. total (calls.sizes nodes) cs + 1) are

-- the children among parts are all below
abbrev pub PartsBelow : ℕ → List Part → Type 0
PartsBelow n [] = Unit {0}
PartsBelow n (child c ∷ parts) = (c < n) × PartsBelow n parts
PartsBelow n (field v ∷ parts) = PartsBelow n parts

-- how many nodes are under the children among parts
abbrev pub parts_size : (ℕ → ℕ) → List Part → ℕ
parts_size size [] = 0
parts_size size (child c ∷ parts) = size c + parts_size size parts
parts_size size (field v ∷ parts) = parts_size size parts

pub parts_below : (n : ℕ) (ts : List ValType) (cs : List ℕ) (vs : List PureValue) → AllBelow n cs → PartsBelow n (parts_by ts cs vs)
parts_below n [] cs vs all = tt
parts_below n (ty.Node f ∷ ts) [] vs all = tt
parts_below n (ty.Node f ∷ ts) (c ∷ cs) vs all = (all.0, parts_below n ts cs vs all.1)
parts_below n (t ∷ ts) cs [] all = tt
parts_below n (t ∷ ts) cs (v ∷ vs) all = parts_below n ts cs vs all

pub parts_few : (weights : List ℕ) (ts : List ValType) (cs : List ℕ) (vs : List PureValue)
    → parts_size (λ c. slice_index weights c) (parts_by ts cs vs) ≤ total weights cs
parts_few weights [] cs vs = omega arith
parts_few weights (ty.Node f ∷ ts) [] vs = omega arith
parts_few weights (ty.Node f ∷ ts) (c ∷ cs) vs = let less = parts_few weights ts cs vs in omega (arith, less)
parts_few weights (t ∷ ts) cs [] = omega arith
parts_few weights (t ∷ ts) cs (v ∷ vs) = parts_few weights ts cs vs

pub among_both : {p : Subgoal} (ps qs : List Subgoal) → IsOne p (ps ++ qs) → IsOne p ps ⊎ IsOne p qs
among_both [] qs one = inr one
among_both (q ∷ ps) qs (here _) = inl (here ps)
among_both (q ∷ ps) qs (there _ _ rest) = elim (among_both ps qs rest) [ inl first ↦ inl (there q ps first) | inr second ↦ inr second ]

among_none : {p : Subgoal} → IsOne p [] → ⊥
among_none h = elim h [ ]

among_single : {p q : Subgoal} → IsOne p (q ∷ []) → p ≡ q
among_single (here _) = refl
among_single (there _ _ rest) = absurd (among_none rest)

pub sizes-append : (size : ℕ → ℕ) (ps qs : List Subgoal) → sizes size (ps ++ qs) ≡ sizes size ps + sizes size qs
sizes-append size [] qs = omega arith
sizes-append size (p ∷ ps) qs = let more = sizes-append size ps qs in omega (arith, more)

field_operands : {on : Target} {p : Pattern} {v : PureValue} {ops : List Subgoal} {env : List PureValue} → Fits on p (field v) ops env → ops ≡ []
field_operands (Fits.at_any v) = refl
field_operands (Fits.at_bind i v) = refl
field_operands (Fits.at_number z v e) = refl
field_operands (Fits.at_truth b v e) = refl
field_operands (Fits.at_string bytes v e) = refl

module _ (on : Target) (forest : IsForest on.nodes) where
  shown_below : {n t : ℕ} {parts : List Part} → Shows on n t parts → PartsBelow n parts
  shown_below {n = n} {t = t} shows = subst (λ z. PartsBelow n z) (sym shows.are)
      (parts_below n (item_types on.table t) shows.node.children (map (field_value on) shows.node.fields) (children_below on.nodes n shows.node.children forest (node_children on.nodes n shows.is)))

  shown_few : {n t : ℕ} {parts : List Part} → Shows on n t parts → parts_size (size_of on.nodes) parts + 1 ≤ size_of on.nodes n
  shown_few {n = n} {t = t} {parts = parts} shows =
      let less = parts_few (calls.sizes on.nodes) (item_types on.table t) shows.node.children (map (field_value on) shows.node.fields) in
      let size = one_node_more on.nodes forest n shows.node shows.is in
      let same : parts_size (size_of on.nodes) parts ≡ parts_size (size_of on.nodes) (parts_by (item_types on.table t) shows.node.children (map (field_value on) shows.node.fields))
      = ap (λ z. parts_size (size_of on.nodes) z) shows.are in
      omega (arith, less, size, same)

  mutual
    pub at_or_below : {p : Pattern} {n : ℕ} {ops : List Subgoal} {env : List PureValue} (q : Subgoal) → Fits on p (child n) ops env → IsOne q ops → q.node ≤ n
    at_or_below q (Fits.at_leaf n x) one = let same = ap (λ (z : Subgoal). z.node) (among_single one) in omega (arith, same)
    at_or_below q (Fits.at_tree n t ps parts ops env shows all) one = let lt = all_operands_below q n all (shown_below shows) one in omega (arith, lt)

    pub all_operands_below : {ps : Patterns} {parts : List Part} {ops : List Subgoal} {env : List PureValue} (q : Subgoal) (n : ℕ) → FitAll on ps parts ops env
        → PartsBelow n parts → IsOne q ops → q.node < n
    all_operands_below q n FitAll.no_part low one = absurd (among_none one)
    all_operands_below q n (FitAll.one_more p ps (child c) parts ops others us vs first rest) low one = elim (among_both ops others one) [
      | inl here_first ↦ (let le = at_or_below q first here_first in omega (arith, le, low.0))
      | inr later ↦ all_operands_below q n rest low.1 later
    ]
    all_operands_below q n (FitAll.one_more p ps (field v) parts ops others us vs first rest) low one = elim (among_both ops others one) [
      | inl here_first ↦ absurd (among_none (subst (λ z. IsOne q z) (field_operands first) here_first))
      | inr later ↦ all_operands_below q n rest low later
    ]

  mutual
    pub operands_few : {p : Pattern} {n : ℕ} {ops : List Subgoal} {env : List PureValue} → Fits on p (child n) ops env → sizes (size_of on.nodes) ops ≤ size_of on.nodes n
    operands_few (Fits.at_leaf n x) = omega arith
    operands_few (Fits.at_tree n t ps parts ops env shows all) = let less = all_operands_few all in let few = shown_few shows in omega (arith, less, few)

    pub all_operands_few : {ps : Patterns} {parts : List Part} {ops : List Subgoal} {env : List PureValue} → FitAll on ps parts ops env
        → sizes (size_of on.nodes) ops ≤ parts_size (size_of on.nodes) parts
    all_operands_few FitAll.no_part = omega arith
    all_operands_few (FitAll.one_more p ps (child c) parts ops others us vs first rest) =
        let a = operands_few first in let b = all_operands_few rest in let e = sizes-append (size_of on.nodes) ops others in omega (arith, a, b, e)
    all_operands_few (FitAll.one_more p ps (field v) parts ops others us vs first rest) =
        let none : sizes (size_of on.nodes) ops ≡ 0 = ap (λ z. sizes (size_of on.nodes) z) (field_operands first) in
        let b = all_operands_few rest in let e = sizes-append (size_of on.nodes) ops others in omega (arith, none, b, e)

  -- a pattern that fits a node is a nonterminal, or all its operands are lower and apart
  pub operands_lie : (p : Pattern) (n : ℕ) (ops : List Subgoal) (env : List PureValue) → Fits on p (child n) ops env
      → ((y : ℕ) × (p ≡ leaf y) × (ops ≡ record { node = n; nonterminal = y } ∷ []) × (env ≡ []))
      ⊎ (((q : Subgoal) → IsOne q ops → q.node < n) × (sizes (size_of on.nodes) ops + 1 ≤ size_of on.nodes n))
  operands_lie _ _ _ _ (Fits.at_leaf n x) = inl (x, refl, refl, refl)
  operands_lie _ _ _ _ (Fits.at_tree n t ps parts ops env shows all) =
      inr (
        λ q one. all_operands_below q n all (shown_below shows) one,
        (let less = all_operands_few all in let few = shown_few shows in omega (arith, less, few)),
      )

-- a pattern fits only at a node that there is, but for a nonterminal
pub fits_there : {on : Target} {p : Pattern} {n : ℕ} {ops : List Subgoal} {env : List PureValue} → Fits on p (child n) ops env
    → ((y : ℕ) × (ops ≡ record { node = n; nonterminal = y } ∷ [])) ⊎ (n < length on.nodes)
fits_there (Fits.at_leaf n x) = inl (x, refl)
fits_there {on = on} (Fits.at_tree n t ps parts ops env shows all) = inr (slice_get_within on.nodes n shows.node shows.is)
