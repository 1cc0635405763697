-- Patterns in a row at the items of a type, one by one.
use Rattle.std.proofs.Common.{◌≡◌, ℕ, zero, suc, ◌+◌, ◌<◌, ◌≤◌, Bool, true, false, List, [], ◌∷◌, ◌++◌, length, drop, map, get_or, Option, Some, arith, refl, sym, subst, ap, ◌∙◌, add-one, append_assoc, append-nil, drop_of_length-le, length-append}
use Rattle.std.specs.Prelude.{slice_get, slice_index}
use Rattle.std.proofs.lemmas.List.{length-map}
use Rattle.std.proofs.lemmas.Option.{slice_get_read}
use Rattle.value_store.specs.declared.value.Value.{Value}
use Rattle.value_store.specs.declared.value.ValType.{ValType}
use Rattle.value_store.specs.declared.value.ValType.TheVariants as ty
use Rattle.ast_types.specs.declared.item.Item.{Item}
use Rattle.ast_types.specs.Items.{child_families, field_types}
use Rattle.ast_types.specs.TypeTable.{NodeType, TypeTable, type_at, IsA, itself, extends, IsSound}
use Rattle.tree_store.specs.Conforms as conforms
use Rattle.tree_store.specs.Forest.{Node, node_at, children_at}
use Rattle.expr_lang.specs.PureValues.{PureValue, nth}
use Rattle.beg_model.specs.Rules.{Pattern, Patterns, tree, no_pattern, and_pattern}
use Rattle.beg_model.specs.RuleMeaning.{patterns_of}
use Rattle.beg_model.specs.Fitting.{Target, Part, child, field, Subgoal, Fits, FitAll, parts_by, item_types, field_value}
use Rattle.beg_model.specs.Accepted.{bound_in, bound_in_all}
use Rattle.beg_model.specs.Matching.{Matches, leaf_count, leaf_count_all, FitsOrNot, FitAllOrNot}
use Rattle.beg_model.specs.within.Parts.{part_at, IsThere, child_after, field_after, child_count, field_count}
use Rattle.beg_model.proofs.OneFit.{one_fit}
use Rattle.beg_model.proofs.FitTests.{split_fit, fits_tree}

pub map-append : {A B : Type 0} (f : A → B) (xs ys : List A) → map f (xs ++ ys) ≡ map f xs ++ map f ys
map-append f [] ys = refl
map-append f (x ∷ xs) ys = ap (λ z. f x ∷ z) (map-append f xs ys)

pub drop_here : {X : Type 0} (xs : List X) (i : ℕ) (x : X) → slice_get xs i ≡ Some x → drop i xs ≡ x ∷ drop (i + 1) xs
drop_here [] i x is = (cc)
drop_here (y ∷ xs) zero x is = let e : y ≡ x = cc in ap (λ z. z ∷ xs) e
drop_here (y ∷ xs) (suc i) x is = let e = drop_here xs i x is in rw add-one (rw add-one at e)

-- what a type is, it has the items of first
pub items_first : (table : TypeTable) → IsSound table → {a b : ℕ} → IsA table.types a b → (own : List ValType) × (item_types table a ≡ item_types table b ++ own) × (b ≤ a)
items_first table sound (itself t) = ([], sym (append-nil (item_types table t)), omega arith)
items_first table sound (extends t b c is up) =
    let (own, same, le) = items_first table sound up in
    let (more, items) = sound.base_first t b is in
    let lt = sound.base_before t b is in (
      own ++ map (λ item. item.of) more,
      ap (λ z. map (λ (item : Item). item.of) z) items ∙ map-append (λ (item : Item). item.of) (type_at table.types b).items more
          ∙ ap (λ z. z ++ map (λ (item : Item). item.of) more) same ∙ append_assoc (item_types table c) own (map (λ (item : Item). item.of) more),
      omega (arith, le, lt),
    )

pub child_count-append : (ts us : List ValType) → child_count (ts ++ us) ≡ child_count ts + child_count us
child_count-append [] us = omega arith
child_count-append (ty.Node f ∷ ts) us = let more = child_count-append ts us in omega (arith, more)
child_count-append (ty.Int ∷ ts) us = child_count-append ts us
child_count-append (ty.Bool ∷ ts) us = child_count-append ts us
child_count-append (ty.Text ∷ ts) us = child_count-append ts us
child_count-append (ty.Map ∷ ts) us = child_count-append ts us
child_count-append (ty.Token ∷ ts) us = child_count-append ts us

pub field_count-append : (ts us : List ValType) → field_count (ts ++ us) ≡ field_count ts + field_count us
field_count-append [] us = omega arith
field_count-append (ty.Node f ∷ ts) us = field_count-append ts us
field_count-append (ty.Int ∷ ts) us = let more = field_count-append ts us in omega (arith, more)
field_count-append (ty.Bool ∷ ts) us = let more = field_count-append ts us in omega (arith, more)
field_count-append (ty.Text ∷ ts) us = let more = field_count-append ts us in omega (arith, more)
field_count-append (ty.Map ∷ ts) us = let more = field_count-append ts us in omega (arith, more)
field_count-append (ty.Token ∷ ts) us = let more = field_count-append ts us in omega (arith, more)

counts_then : (t : ValType) (n : ℕ) (fs : List ℕ) → n ≡ length fs → child_after t n ≡ length (Rattle.ast_types.specs.Items.child_then t fs)
counts_then (ty.Node f) n fs e = omega (arith, e)
counts_then ty.Int n fs e = e
counts_then ty.Bool n fs e = e
counts_then ty.Text n fs e = e
counts_then ty.Map n fs e = e
counts_then ty.Token n fs e = e

fields_then : (t : ValType) (n : ℕ) (fs : List ValType) → n ≡ length fs → field_after t n ≡ length (Rattle.ast_types.specs.Items.field_then t fs)
fields_then (ty.Node f) n fs e = e
fields_then ty.Int n fs e = omega (arith, e)
fields_then ty.Bool n fs e = omega (arith, e)
fields_then ty.Text n fs e = omega (arith, e)
fields_then ty.Map n fs e = omega (arith, e)
fields_then ty.Token n fs e = omega (arith, e)

pub children_counted : (items : List Item) → child_count (map (λ item. item.of) items) ≡ length (child_families items)
children_counted [] = refl
children_counted (i ∷ is) = counts_then i.of (child_count (map (λ (item : Item). item.of) is)) (child_families is) (children_counted is)

pub fields_counted : (items : List Item) → field_count (map (λ item. item.of) items) ≡ length (field_types items)
fields_counted [] = refl
fields_counted (i ∷ is) = fields_then i.of (field_count (map (λ (item : Item). item.of) is)) (field_types is) (fields_counted is)

-- a node of a conforming tree has a child and a field for each item of what it is
pub enough_parts : (table : TypeTable) (nodes : List Node) → IsSound table → conforms.Conforms table nodes → (n t : ℕ) → n < length nodes → IsA table.types (node_at nodes n).ty t
    → (child_count (item_types table t) ≤ length (children_at nodes n)) × (field_count (item_types table t) ≤ length (node_at nodes n).fields)
    × (t < length table.types)
enough_parts table nodes sound all n t within is =
    let fits = all n within in
    let (own, same, le) = items_first table sound is in
    let a = ap child_count same ∙ child_count-append (item_types table t) own in
    let b = ap field_count same ∙ field_count-append (item_types table t) own in
    let c = children_counted (type_at table.types (node_at nodes n).ty).items in
    let d = fields_counted (type_at table.types (node_at nodes n).ty).items in
    let e = fits.as_many_children in let f = fits.as_many_fields in let g = fits.type_there in
    (omega (arith, a, c, e), omega (arith, b, d, f), omega (arith, le, g))

drop_read : (cs : List ℕ) (i : ℕ) → i < length cs → drop i cs ≡ slice_index cs i ∷ drop (i + 1) cs
drop_read [] i lt = absurd (omega (arith, lt))
drop_read (c ∷ cs) zero lt = refl
drop_read (c ∷ cs) (suc i) lt = let e = drop_read cs i (omega (arith, lt)) in rw add-one (rw add-one at e)

drop_nth : (vs : List PureValue) (j : ℕ) → j < length vs → drop j vs ≡ nth vs j ∷ drop (j + 1) vs
drop_nth [] j lt = absurd (omega (arith, lt))
drop_nth (v ∷ vs) zero lt = refl
drop_nth (v ∷ vs) (suc j) lt = let e = drop_nth vs j (omega (arith, lt)) in rw add-one (rw add-one at e)

-- the next part, and those after it
pub next_part : (t : ValType) (ts : List ValType) (cs : List ℕ) (vs : List PureValue) (i j : ℕ) → IsThere t cs (length vs) i j
    → parts_by (t ∷ ts) (drop i cs) (drop j vs) ≡ part_at t cs vs i j ∷ parts_by ts (drop (child_after t i) cs) (drop (field_after t j) vs)
next_part (ty.Node f) ts cs vs i j there = ap (λ z. parts_by (ty.Node f ∷ ts) z (drop j vs)) (drop_read cs i there)
next_part ty.Int ts cs vs i j there = ap (λ z. parts_by (ty.Int ∷ ts) (drop i cs) z) (drop_nth vs j there)
next_part ty.Bool ts cs vs i j there = ap (λ z. parts_by (ty.Bool ∷ ts) (drop i cs) z) (drop_nth vs j there)
next_part ty.Text ts cs vs i j there = ap (λ z. parts_by (ty.Text ∷ ts) (drop i cs) z) (drop_nth vs j there)
next_part ty.Map ts cs vs i j there = ap (λ z. parts_by (ty.Map ∷ ts) (drop i cs) z) (drop_nth vs j there)
next_part ty.Token ts cs vs i j there = ap (λ z. parts_by (ty.Token ∷ ts) (drop i cs) z) (drop_nth vs j there)

-- parts for the items that are left
pub record HasLeft (ts : List ValType) (children fields : ℕ) : Type 0 where
  pub children_left : child_count ts ≤ children
  pub fields_left : field_count ts ≤ fields

pub there_next : (t : ValType) (ts : List ValType) (cs : List ℕ) (fields i j : ℕ) → child_count (t ∷ ts) + i ≤ length cs → field_count (t ∷ ts) + j ≤ fields
    → IsThere t cs fields i j × (child_count ts + child_after t i ≤ length cs) × (field_count ts + field_after t j ≤ fields)
there_next (ty.Node f) ts cs fields i j a b = (omega (arith, a), omega (arith, a), b)
there_next ty.Int ts cs fields i j a b = (omega (arith, b), a, omega (arith, b))
there_next ty.Bool ts cs fields i j a b = (omega (arith, b), a, omega (arith, b))
there_next ty.Text ts cs fields i j a b = (omega (arith, b), a, omega (arith, b))
there_next ty.Map ts cs fields i j a b = (omega (arith, b), a, omega (arith, b))
there_next ty.Token ts cs fields i j a b = (omega (arith, b), a, omega (arith, b))

-- the patterns before k fit, and the others decide
pub record FitsTo (on : Target) (ps : List Pattern) (ts : List ValType) (cs : List ℕ) (vs : List PureValue) (old new : Matches) (k i j : ℕ) : Type 0 where
  pub ops : List Subgoal
  pub found : List Value
  pub operands : new.operands ≡ old.operands ++ ops
  pub values : new.values ≡ old.values ++ found
  pub as_many : length ps ≡ length ts
  pub children_left : child_count (drop k ts) + i ≤ length cs
  pub fields_left : field_count (drop k ts) + j ≤ length vs
  pub operands_left : length new.operands + leaf_count_all (patterns_of (drop k ps)) ≤ 128
  pub values_left : length new.values + length (bound_in_all (patterns_of (drop k ps))) ≤ 128
  pub whole : (rest : List Subgoal) (env : List PureValue) → FitAll on (patterns_of (drop k ps)) (parts_by (drop k ts) (drop i cs) (drop j vs)) rest env
      → FitAll on (patterns_of ps) (parts_by ts cs vs) (ops ++ rest) (map (field_value on) found ++ env)
  pub part : (all : List Subgoal) (env : List PureValue) → FitAll on (patterns_of ps) (parts_by ts cs vs) all env
      → (rest : List Subgoal) × (more : List PureValue) × FitAll on (patterns_of (drop k ps)) (parts_by (drop k ts) (drop i cs) (drop j vs)) rest more
      × (all ≡ ops ++ rest) × (env ≡ map (field_value on) found ++ more)

pub fit_begin : (on : Target) (ps : List Pattern) (ts : List ValType) (cs : List ℕ) (vs : List PureValue) (old : Matches) → length ps ≡ length ts
    → child_count ts ≤ length cs → field_count ts ≤ length vs
    → length old.operands + leaf_count_all (patterns_of ps) ≤ 128 → length old.values + length (bound_in_all (patterns_of ps)) ≤ 128
    → FitsTo on ps ts cs vs old old 0 0 0
fit_begin on ps ts cs vs old same a b c d = record {
  ops = [];
  found = [];
  operands = sym (append-nil old.operands);
  values = sym (append-nil old.values);
  as_many = same;
  children_left = omega (arith, a);
  fields_left = omega (arith, b);
  operands_left = c;
  values_left = d;
  whole = λ rest env all. all;
  part = λ all env fits. (all, env, fits, refl, refl);
}

module _ (on : Target) (ps : List Pattern) (ts : List ValType) (cs : List ℕ) (vs : List PureValue) (old new : Matches) (k i j : ℕ) (p : Pattern) (t : ValType)
    (to : FitsTo on ps ts cs vs old new k i j) (p_is : slice_get ps k ≡ Some p) (t_is : slice_get ts k ≡ Some t) where
  here_ps : drop k ps ≡ p ∷ drop (k + 1) ps
  here_ps = drop_here ps k p p_is

  here_ts : drop k ts ≡ t ∷ drop (k + 1) ts
  here_ts = drop_here ts k t t_is

  pub left_now : IsThere t cs (length vs) i j × (child_count (drop (k + 1) ts) + child_after t i ≤ length cs) × (field_count (drop (k + 1) ts) + field_after t j ≤ length vs)
  left_now = there_next t (drop (k + 1) ts) cs (length vs) i j (subst (λ z. child_count z + i ≤ length cs) here_ts to.children_left)
      (subst (λ z. field_count z + j ≤ length vs) here_ts to.fields_left)

  pub there_now : IsThere t cs (length vs) i j
  there_now = left_now.0

  here_parts : parts_by (drop k ts) (drop i cs) (drop j vs) ≡ part_at t cs vs i j ∷ parts_by (drop (k + 1) ts) (drop (child_after t i) cs) (drop (field_after t j) vs)
  here_parts = ap (λ z. parts_by z (drop i cs) (drop j vs)) here_ts ∙ next_part t (drop (k + 1) ts) cs vs i j there_now

  pub room_now : (length new.operands + leaf_count p ≤ 128) × (length new.values + length (bound_in p) ≤ 128)
  room_now =
      let a = subst (λ z. length new.operands + leaf_count_all (patterns_of z) ≤ 128) here_ps to.operands_left in
      let b = subst (λ z. length new.values + length (bound_in_all (patterns_of z)) ≤ 128) here_ps to.values_left in
      let c = length-append (bound_in p) (bound_in_all (patterns_of (drop (k + 1) ps))) in
      (omega (arith, a), omega (arith, b, c))

  split_now : (all : List Subgoal) (env : List PureValue) → FitAll on (patterns_of ps) (parts_by ts cs vs) all env
      → (first : List Subgoal) × (rest : List Subgoal) × (us : List PureValue) × (more : List PureValue) × Fits on p (part_at t cs vs i j) first us
      × FitAll on (patterns_of (drop (k + 1) ps)) (parts_by (drop (k + 1) ts) (drop (child_after t i) cs) (drop (field_after t j) vs)) rest more
      × (all ≡ to.ops ++ (first ++ rest)) × (env ≡ map (field_value on) to.found ++ (us ++ more))
  split_now all env fits =
      let (rest, more, h, all_is, env_is) = to.part all env fits in
      let h2 = subst (λ z. FitAll on (patterns_of (drop k ps)) z rest more) here_parts h in
      let h3 = subst (λ z. FitAll on (patterns_of z) (part_at t cs vs i j ∷ parts_by (drop (k + 1) ts) (drop (child_after t i) cs) (drop (field_after t j) vs)) rest more) here_ps h2 in
      let (first, others, us, others_env, one, later, e, f) = split_fit h3 in
      (first, others, us, others_env, one, later, all_is ∙ ap (λ z. to.ops ++ z) e, env_is ∙ ap (λ z. map (field_value on) to.found ++ z) f)

  pub fit_not : ((ops : List Subgoal) (env : List PureValue) → Fits on p (part_at t cs vs i j) ops env → ⊥)
      → (all : List Subgoal) (env : List PureValue) → FitAll on (patterns_of ps) (parts_by ts cs vs) all env → ⊥
  fit_not none all env fits = let (first, rest, us, more, one, later, e, f) = split_now all env fits in none first us one

  pub fit_on : (next : Matches) → FitsOrNot on p (part_at t cs vs i j) new next true
      → length next.operands + leaf_count_all (patterns_of (drop (k + 1) ps)) ≤ 128 → length next.values + length (bound_in_all (patterns_of (drop (k + 1) ps))) ≤ 128
      → FitsTo on ps ts cs vs old next (k + 1) (child_after t i) (field_after t j)
  fit_on next (ops, us, fits, ops_are, values_are) room_a room_b = record {
    ops = to.ops ++ ops;
    found = to.found ++ us;
    operands = ops_are ∙ ap (λ z. z ++ ops) to.operands ∙ append_assoc old.operands to.ops ops;
    values = values_are ∙ ap (λ z. z ++ us) to.values ∙ append_assoc old.values to.found us;
    as_many = to.as_many;
    children_left = left_now.1;
    fields_left = left_now.2;
    operands_left = room_a;
    values_left = room_b;
    whole = λ rest env later. (
        let h : FitAll on (patterns_of (p ∷ drop (k + 1) ps)) (part_at t cs vs i j ∷ parts_by (drop (k + 1) ts) (drop (child_after t i) cs) (drop (field_after t j) vs))
        (ops ++ rest) (map (field_value on) us ++ env) =
        FitAll.one_more p (patterns_of (drop (k + 1) ps)) (part_at t cs vs i j) _ ops rest (map (field_value on) us) env fits later in
        let h2 = subst (λ z. FitAll on (patterns_of z) (part_at t cs vs i j ∷ parts_by (drop (k + 1) ts) (drop (child_after t i) cs) (drop (field_after t j) vs))
        (ops ++ rest) (map (field_value on) us ++ env)) (sym here_ps) h in
        let h3 = subst (λ z. FitAll on (patterns_of (drop k ps)) z (ops ++ rest) (map (field_value on) us ++ env)) (sym here_parts) h2 in
        let h4 = to.whole (ops ++ rest) (map (field_value on) us ++ env) h3 in
        let h5 = subst (λ z. FitAll on (patterns_of ps) (parts_by ts cs vs) z (map (field_value on) to.found ++ (map (field_value on) us ++ env)))
        (sym (append_assoc to.ops ops rest)) h4 in
        subst (λ z. FitAll on (patterns_of ps) (parts_by ts cs vs) ((to.ops ++ ops) ++ rest) z)
        (sym (append_assoc (map (field_value on) to.found) (map (field_value on) us) env) ∙ ap (λ z. z ++ env) (sym (map-append (field_value on) to.found us))) h5);
    part = λ all env whole. (
        let (first, rest, vs2, more, one, later, e, f) = split_now all env whole in
        let (same, alike) = one_fit one fits in (
          rest,
          more,
          later,
          e ∙ ap (λ z. to.ops ++ (z ++ rest)) same ∙ sym (append_assoc to.ops ops rest),
          f ∙ ap (λ z. map (field_value on) to.found ++ (z ++ more)) alike ∙ sym (append_assoc (map (field_value on) to.found) (map (field_value on) us) more)
              ∙ ap (λ z. z ++ more) (sym (map-append (field_value on) to.found us)),
        ));
  }

pub fit_end : (on : Target) (ps : List Pattern) (ts : List ValType) (cs : List ℕ) (vs : List PureValue) (old new : Matches) (k i j : ℕ)
    → FitsTo on ps ts cs vs old new k i j → length ps ≤ k → FitAllOrNot on (patterns_of ps) (parts_by ts cs vs) old new true
fit_end on ps ts cs vs old new k i j to past =
    let same = to.as_many in
    let past_ts : length ts ≤ k = omega (arith, past, same) in
    let none : FitAll on (patterns_of (drop k ps)) (parts_by (drop k ts) (drop i cs) (drop j vs)) [] [] =
    rw (drop_of_length-le ps past) (rw (drop_of_length-le ts past_ts) FitAll.no_part) in
    let all = to.whole [] [] none in
    let all2 = subst (λ z. FitAll on (patterns_of ps) (parts_by ts cs vs) z (map (field_value on) to.found ++ [])) (append-nil to.ops) all in
    (to.ops, to.found, subst (λ z. FitAll on (patterns_of ps) (parts_by ts cs vs) to.ops z) (append-nil (map (field_value on) to.found)) all2, to.operands, to.values)

-- as many patterns as items, else they don't fit
pub other_length : (on : Target) (ps : List Pattern) (ts : List ValType) (cs : List ℕ) (vs : List PureValue) → child_count ts ≤ length cs → field_count ts ≤ length vs
    → (length ps ≡ length ts → ⊥) → (ops : List Subgoal) (env : List PureValue) → FitAll on (patterns_of ps) (parts_by ts cs vs) ops env → ⊥
other_length on ps ts cs vs a b other ops env fits = other (same_length ps (parts_by ts cs vs) ops env fits ∙ parts_length ts cs vs a b)
  where
    same_length : (qs : List Pattern) (parts : List Part) (ops : List Subgoal) (env : List PureValue) → FitAll on (patterns_of qs) parts ops env → length qs ≡ length parts
    same_length [] [] ops env h = refl
    same_length [] (x ∷ parts) ops env h = elim h [ ]
    same_length (q ∷ qs) [] ops env h = elim h [ ]
    same_length (q ∷ qs) (x ∷ parts) ops env h = let (first, rest, us, more, one, later, e, f) = split_fit h in
        let same = same_length qs parts rest more later in omega (arith, same)

    parts_length : (ts : List ValType) (cs : List ℕ) (vs : List PureValue) → child_count ts ≤ length cs → field_count ts ≤ length vs → length (parts_by ts cs vs) ≡ length ts
    parts_length [] cs vs a b = refl
    parts_length (ty.Node f ∷ ts) [] vs a b = absurd (omega (arith, a))
    parts_length (ty.Node f ∷ ts) (c ∷ cs) vs a b = let more = parts_length ts cs vs (omega (arith, a)) b in omega (arith, more)
    parts_length (ty.Int ∷ ts) cs [] a b = absurd (omega (arith, b))
    parts_length (ty.Bool ∷ ts) cs [] a b = absurd (omega (arith, b))
    parts_length (ty.Text ∷ ts) cs [] a b = absurd (omega (arith, b))
    parts_length (ty.Map ∷ ts) cs [] a b = absurd (omega (arith, b))
    parts_length (ty.Token ∷ ts) cs [] a b = absurd (omega (arith, b))
    parts_length (ty.Int ∷ ts) cs (v ∷ vs) a b = let more = parts_length ts cs vs a (omega (arith, b)) in omega (arith, more)
    parts_length (ty.Bool ∷ ts) cs (v ∷ vs) a b = let more = parts_length ts cs vs a (omega (arith, b)) in omega (arith, more)
    parts_length (ty.Text ∷ ts) cs (v ∷ vs) a b = let more = parts_length ts cs vs a (omega (arith, b)) in omega (arith, more)
    parts_length (ty.Map ∷ ts) cs (v ∷ vs) a b = let more = parts_length ts cs vs a (omega (arith, b)) in omega (arith, more)
    parts_length (ty.Token ∷ ts) cs (v ∷ vs) a b = let more = parts_length ts cs vs a (omega (arith, b)) in omega (arith, more)

-- as many operands and variables as the pattern has
mutual
  pub fit_counts : {on : Target} {p : Pattern} {part : Part} {ops : List Subgoal} {env : List PureValue} → Fits on p part ops env
      → (length ops ≡ leaf_count p) × (length env ≡ length (bound_in p))
  fit_counts (Fits.at_leaf n x) = (refl, refl)
  fit_counts (Fits.at_any v) = (refl, refl)
  fit_counts (Fits.at_bind i v) = (refl, refl)
  fit_counts (Fits.at_number z v e) = (refl, refl)
  fit_counts (Fits.at_truth b v e) = (refl, refl)
  fit_counts (Fits.at_string bytes v e) = (refl, refl)
  fit_counts (Fits.at_tree n t ps parts ops env shows all) = all_counts all

  pub all_counts : {on : Target} {ps : Patterns} {parts : List Part} {ops : List Subgoal} {env : List PureValue} → FitAll on ps parts ops env
      → (length ops ≡ leaf_count_all ps) × (length env ≡ length (bound_in_all ps))
  all_counts FitAll.no_part = (refl, refl)
  all_counts (FitAll.one_more p ps part parts ops others us vs first rest) =
      let (a, b) = fit_counts first in let (c, d) = all_counts rest in
      let e = length-append ops others in let f = length-append us vs in let g = length-append (bound_in p) (bound_in_all ps) in
      (omega (arith, a, c, e), omega (arith, b, d, f, g))

module _ (on : Target) (ps : List Pattern) (ts : List ValType) (cs : List ℕ) (vs : List PureValue) (old new : Matches) (k i j : ℕ) (p : Pattern) (t : ValType)
    (to : FitsTo on ps ts cs vs old new k i j) (p_is : slice_get ps k ≡ Some p) (t_is : slice_get ts k ≡ Some t) where
  pub fit_step : (next : Matches) → FitsOrNot on p (part_at t cs vs i j) new next true
      → FitsTo on ps ts cs vs old next (k + 1) (child_after t i) (field_after t j)
  fit_step next (ops, us, fits, ops_are, values_are) =
      let here = drop_here ps k p p_is in
      let a = subst (λ z. length new.operands + leaf_count_all (patterns_of z) ≤ 128) here to.operands_left in
      let b = subst (λ z. length new.values + length (bound_in_all (patterns_of z)) ≤ 128) here to.values_left in
      let c = length-append (bound_in p) (bound_in_all (patterns_of (drop (k + 1) ps))) in
      let (d, e) = fit_counts fits in
      let f = ap length ops_are ∙ length-append new.operands ops in
      let g = ap length values_are ∙ length-append new.values us in
      let h = length-map us (field_value on) in
      fit_on on ps ts cs vs old new k i j p t to p_is t_is next (ops, us, fits, ops_are, values_are) (omega (arith, a, d, f)) (omega (arith, b, c, e, g, h))

-- a node that is there
pub node_there : (nodes : List Node) (n : ℕ) → n < length nodes → slice_get nodes n ≡ Some (node_at nodes n)
node_there [] n lt = absurd (omega (arith, lt))
node_there (a ∷ nodes) zero lt = refl
node_there (a ∷ nodes) (suc n) lt = node_there nodes n (omega (arith, lt))

same_node : {o : Option Node} {a b : Node} → o ≡ Some a → o ≡ Some b → a ≡ b
same_node e f = cc

abbrev pub node_parts : Target → ℕ → Node → List Part
node_parts on t a = parts_by (item_types on.table t) a.children (map (field_value on) a.fields)

pub tree_fits : (on : Target) (n t : ℕ) (ps : Patterns) (old new : Matches) (test : Bool) → n < length on.nodes → IsA on.table.types (node_at on.nodes n).ty t
    → FitAllOrNot on ps (node_parts on t (node_at on.nodes n)) old new test → FitsOrNot on (tree t ps) (child n) old new test
tree_fits on n t ps old new true within is (ops, vs, all, a, b) = (
  ops,
  vs,
  Fits.at_tree n t ps (node_parts on t (node_at on.nodes n)) ops (map (field_value on) vs)
      (record { node = node_at on.nodes n; is = node_there on.nodes n within; is_a = is; are = refl }) all,
  a,
  b,
)
tree_fits on n t ps old new false within is none = λ ops env h. (let (parts, shows, all) = fits_tree h in
    none ops env (subst (λ z. FitAll on ps z ops env) (shows.are ∙ ap (λ (a : Node). node_parts on t a) (same_node shows.is (node_there on.nodes n within))) all))

pub tree_other : (on : Target) (n t : ℕ) (ps : Patterns) → n < length on.nodes → (IsA on.table.types (node_at on.nodes n).ty t → ⊥)
    → (ops : List Subgoal) (env : List PureValue) → Fits on (tree t ps) (child n) ops env → ⊥
tree_other on n t ps within other ops env h = (let (parts, shows, all) = fits_tree h in
    other (subst (λ (a : Node). IsA on.table.types a.ty t) (same_node shows.is (node_there on.nodes n within)) shows.is_a))

index_of : (cs : List ℕ) (i c : ℕ) → slice_get cs i ≡ Some c → slice_index cs i ≡ c
index_of [] i c e = (cc)
index_of (x ∷ cs) zero c e = (cc)
index_of (x ∷ cs) (suc i) c e = index_of cs i c e

nth_of : (on : Target) (vs : List Value) (j : ℕ) (v : Value) → slice_get vs j ≡ Some v → nth (map (field_value on) vs) j ≡ field_value on v
nth_of on [] j v e = (cc)
nth_of on (w ∷ vs) zero v e = let same : w ≡ v = (cc) in ap (field_value on) same
nth_of on (w ∷ vs) (suc j) v e = nth_of on vs j v e

-- what stands at an item that is a child, and at one that is a field
pub child_fits : (on : Target) (p : Pattern) (of : ValType) (f : ℕ) (cs : List ℕ) (vs : List PureValue) (i j c : ℕ) (old new : Matches) (test : Bool)
    → of ≡ ty.Node f → slice_get cs i ≡ Some c → FitsOrNot on p (child c) old new test → FitsOrNot on p (part_at of cs vs i j) old new test
child_fits on p of f cs vs i j c old new test is at fits =
    subst (λ z. FitsOrNot on p (part_at z cs vs i j) old new test) (sym is) (subst (λ z. FitsOrNot on p (child z) old new test) (sym (index_of cs i c at)) fits)

pub field_fits : (on : Target) (p : Pattern) (of : ValType) (cs : List ℕ) (vs : List Value) (i j : ℕ) (v : Value) (old new : Matches) (test : Bool)
    → ((us : List PureValue) → part_at of cs us i j ≡ field (nth us j)) → slice_get vs j ≡ Some v → FitsOrNot on p (field (field_value on v)) old new test
    → FitsOrNot on p (part_at of cs (map (field_value on) vs) i j) old new test
field_fits on p of cs vs i j v old new test is at fits =
    subst (λ z. FitsOrNot on p z old new test) (ap field (sym (nth_of on vs j v at)) ∙ sym (is (map (field_value on) vs))) fits

-- an item of a type is at the same place of the types of its items
pub item_read : (items all : List Item) (k : ℕ) (item : Item) → items ≡ all → slice_get items k ≡ Some item → slice_get (map (λ item. item.of) all) k ≡ Some item.of
item_read items all k item same at = subst (λ z. slice_get (map (λ (i : Item). i.of) z) k ≡ Some item.of) same (go items k item at)
  where
    go : (xs : List Item) (k : ℕ) (item : Item) → slice_get xs k ≡ Some item → slice_get (map (λ (i : Item). i.of) xs) k ≡ Some item.of
    go [] k item e = (cc)
    go (x ∷ xs) zero item e = let same : x ≡ item = cc in ap (λ (i : Item). Some i.of) same
    go (x ∷ xs) (suc k) item e = go xs k item e

pub mapped_read : {A B : Type 0} (f : A → B) (xs : List A) (k : ℕ) (x : A) → slice_get xs k ≡ Some x → slice_get (map f xs) k ≡ Some (f x)
mapped_read f [] k x e = (cc)
mapped_read f (y ∷ xs) zero x e = let same : y ≡ x = cc in ap (λ z. Some (f z)) same
mapped_read f (y ∷ xs) (suc k) x e = mapped_read f xs k x e

pub item_at : (items all : List Item) (k : ℕ) (item : Item) → items ≡ all → k < length items → item ≡ get_or items k item
    → slice_get (map (λ item. item.of) all) k ≡ Some (get_or items k item).of
item_at items all k item same lt is =
    item_read items all k item same (slice_get_read items (length items) k item refl lt is) ∙ ap (λ (i : Item). Some i.of) is

pub few_children : (table : TypeTable) (nodes : List Node) → conforms.Conforms table nodes → (n : ℕ) → n < length nodes
    → (length (children_at nodes n) ≡ length (child_families (type_at table.types (node_at nodes n).ty).items))
    × (length (node_at nodes n).fields ≡ length (field_types (type_at table.types (node_at nodes n).ty).items))
few_children table nodes all n within = ((all n within).as_many_children, (all n within).as_many_fields)

-- a measure of patterns
abbrev mutual
  pub pattern_size : Pattern → ℕ
  pattern_size (tree t ps) = pattern_size_all ps + 1
  pattern_size _ = 1

  pub pattern_size_all : Patterns → ℕ
  pattern_size_all no_pattern = 0
  pattern_size_all (and_pattern p ps) = pattern_size p + pattern_size_all ps

pub size_at_most : (ps : List Pattern) (k : ℕ) (p : Pattern) → slice_get ps k ≡ Some p → pattern_size p ≤ pattern_size_all (patterns_of ps)
size_at_most [] k p e = (cc)
size_at_most (q ∷ ps) zero p e = let same : q ≡ p = (cc) in let size = ap pattern_size same in omega (arith, size)
size_at_most (q ∷ ps) (suc k) p e = let less = size_at_most ps k p e in omega (arith, less)

pub below_count : (types : List NodeType) (ty real most count size : ℕ) → ty ≡ real → most ≡ length (child_families (type_at types ty).items)
    → size ≡ length (child_families (type_at types real).items) → most < 4294967296 → count ≤ size → count < 4294967296
below_count types ty real most count size same is few fits le =
    let e : most ≡ length (child_families (type_at types real).items) = is ∙ ap (λ t. length (child_families (type_at types t).items)) same in omega (arith, e, few, fits, le)

pub below_fields : (types : List NodeType) (ty real most count size : ℕ) → ty ≡ real → most ≡ length (field_types (type_at types ty).items)
    → size ≡ length (field_types (type_at types real).items) → most < 4294967296 → count ≤ size → count < 4294967296
below_fields types ty real most count size same is few fits le =
    let e : most ≡ length (field_types (type_at types real).items) = is ∙ ap (λ t. length (field_types (type_at types t).items)) same in omega (arith, e, few, fits, le)
