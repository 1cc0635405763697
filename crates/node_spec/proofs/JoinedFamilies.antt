-- Rules without a BUILD line: which labels have one, and whether a rule's one nonterminal is of another family.
use Rattle.std.proofs.Common.{◌≡◌, ℕ, zero, suc, ◌+◌, ◌<◌, ◌≤◌, ◌⊎◌, inl, inr, ◌↔◌, Bool, true, false, if◌then◌else◌, IsTrue, List, [], ◌∷◌, ◌++◌, length, take, refl, sym, ap, subst, ◌∙◌, Option, Some, None, is_some, Contains, arith}
use Rattle.std.specs.List.{slice_get, slice_index}
use Rattle.std.specs.Str.{bytes_eq}
use Rattle.std.proofs.lemmas.List.Elements.{Contains-append_cases}
use Rattle.std.proofs.lemmas.Option.{none-some}
use Rattle.std.proofs.lemmas.Slice.Eq.{bytes_eq-Decides}
use Rattle.cfg_model.specs.Cfg.{Rule}
use Rattle.cfg_model.specs.declared.named.NamedGrammar.{NamedGrammar}
use Rattle.ck_base.specs.Numbered.{met, number_of}
use Rattle.ck_base.specs.declared.fault.Kind.{Kind}
use Rattle.ck_base.specs.declared.fault.Kind.TheVariants.{Typing}
use Rattle.ck_base.proofs.NameFound.{place_of}
use Rattle.ck_base.proofs.NamesMet.{length-met, met-append, met_has_number, name_at_number, none_where_absent}
use Rattle.section_frame.specs.Declares.{Declared}
use Rattle.spec_text.proofs.Lists.{order, take_step, take_all, get_fits}
use Rattle.node_spec.specs.AstShapes.{AstSaying, family, target, a_type, node, build}
use Rattle.node_spec.specs.AstTables.{build_line, build_or, families_by}
use Rattle.node_spec.specs.AstFaults.{AstHeadFault, label_then, labels_in, other_family, no_node, no_source_node, no_build}
use Rattle.node_spec.specs.within.AstWalks.{IsOfOther, JoinsAt, SomeJoins, some_rule, no_rule_joins}
use Rattle.node_spec.proofs.AstTypeTable.{found_there}

-- labels of BUILD lines, one line more
labels_of_two : (xs ys : List (Declared AstSaying)) → labels_in (xs ++ ys) ≡ labels_in xs ++ labels_in ys
labels_of_two [] ys = refl
labels_of_two (d ∷ xs) ys = by d.said (labels_of_two xs ys)
  where
    by : (said : AstSaying) → labels_in (xs ++ ys) ≡ labels_in xs ++ labels_in ys
        → label_then said (labels_in (xs ++ ys)) ≡ label_then said (labels_in xs) ++ labels_in ys
    by (family name) same = same
    by (target name) same = same
    by (a_type name base items) same = same
    by (node nonterminal name) same = same
    by (build label e) same = ap (λ l. label ∷ l) same

pub record BuiltSoFar (ds : List (Declared AstSaying)) (i : ℕ) (names : List (List ℕ)) : Type 0 where
  pub are : names ≡ met [] (labels_in (take i ds))
  pub few : length names ≤ i

pub no_built_yet : (ds : List (Declared AstSaying)) (names : List (List ℕ)) → names ≡ [] → BuiltSoFar ds 0 names
no_built_yet ds names none = record { are = none; few = rw none (omega arith) }

next_labels : (ds : List (Declared AstSaying)) (i : ℕ) (d : Declared AstSaying) → slice_get ds i ≡ Some d
    → met [] (labels_in (take (i + 1) ds)) ≡ met (met [] (labels_in (take i ds))) (label_then d.said [])
next_labels ds i d at =
    ap (λ l. met [] (labels_in l)) (take_step ds i d at) ∙ ap (met []) (labels_of_two (take i ds) (d ∷ []))
    ∙ met-append [] (labels_in (take i ds)) (label_then d.said [])

one_label : (said : AstSaying) → length (label_then said []) ≤ 1
one_label (family name) = omega arith
one_label (target name) = omega arith
one_label (a_type name base items) = omega arith
one_label (node nonterminal name) = omega arith
one_label (build label e) = omega arith

pub one_built : (ds : List (Declared AstSaying)) (i : ℕ) (old new : List (List ℕ)) (d : Declared AstSaying)
    → slice_get ds i ≡ Some d → BuiltSoFar ds i old → new ≡ met old (label_then d.said []) → BuiltSoFar ds (i + 1) new
one_built ds i old new d at so are = record {
  are = are ∙ ap (λ l. met l (label_then d.said [])) so.are ∙ sym (next_labels ds i d at);
  few = let long = length-met old (label_then d.said []) in let few = so.few in let one = one_label d.said in
      let same = ap length are in omega (arith, long, few, one, same);
}

pub all_built : (ds : List (Declared AstSaying)) (i : ℕ) (names : List (List ℕ)) → i ≡ length ds → BuiltSoFar ds i names
    → names ≡ met [] (labels_in ds)
all_built ds i names end so = so.are ∙ ap (λ l. met [] (labels_in l)) (take_all ds i end)

-- a label without a number has no BUILD line, and the other way round
absent : (names : List (List ℕ)) (label : List ℕ) → number_of names label ≡ None → Contains names label → ⊥
absent names label none there = let found = found_there names label there in none-some found.0 (sym none ∙ found.1)

still_none : (names : List (List ℕ)) (first label : List ℕ) → number_of names label ≡ None → (first ≡ label → ⊥)
    → number_of (if is_some (number_of names first) then names else names ++ first ∷ []) label ≡ None
still_none names first label none differs =
    elim (is_some (number_of names first)) as (λ b. number_of (if b then names else names ++ first ∷ []) label ≡ None) [
      | true ↦ none
      | false ↦ none_where_absent (names ++ first ∷ []) label (λ there. by (Contains-append_cases names (first ∷ []) label there))
    ]
  where
    by : Contains names label ⊎ Contains (first ∷ []) label → ⊥
    by (inl there) = absent names label none there
    by (inr there) = let at = place_of (first ∷ []) label there in here at.0 at.1
      where
        here : (k : ℕ) → slice_get (first ∷ []) k ≡ Some label → ⊥
        here zero at = differs (cc)
        here (suc k) at = cc

-- the number that a label has once those of the lines are met
abbrev after_met : List (Declared AstSaying) → List (List ℕ) → List ℕ → Option ℕ
after_met ds names label = number_of (met names (labels_in ds)) label

module _ (ds : List (Declared AstSaying)) (names : List (List ℕ)) (label : List ℕ) where
  -- the names once the first label is met
  abbrev with_first : List ℕ → List (List ℕ)
  with_first first = if is_some (number_of names first) then names else names ++ first ∷ []

  unbuilt_then : (said : AstSaying) → number_of names label ≡ None
      → ((more : List (List ℕ)) → number_of more label ≡ None → build_line ds label ≡ None → after_met ds more label ≡ None)
      → build_or said label (build_line ds label) ≡ None → number_of (met names (label_then said (labels_in ds))) label ≡ None
  unbuilt_then (family name) none later no_line = later names none no_line
  unbuilt_then (target name) none later no_line = later names none no_line
  unbuilt_then (a_type name base items) none later no_line = later names none no_line
  unbuilt_then (node nonterminal name) none later no_line = later names none no_line
  unbuilt_then (build first e) none later no_line = on (bytes_eq first label) refl no_line
    where
      on : (b : Bool) → bytes_eq first label ≡ b → (if b then Some e else build_line ds label) ≡ None
          → number_of (met names (first ∷ labels_in ds)) label ≡ None
      on true is no_line = absurd (none-some e (sym no_line))
      on false is no_line =
          later (with_first first)
          (still_none names first label none (λ same. let equal = (bytes_eq-Decides first label).1 same in let both = sym is ∙ equal in cc))
          no_line

  built_then : (said : AstSaying)
      → ((more : List (List ℕ)) → after_met ds more label ≡ None → build_line ds label ≡ None)
      → number_of (met names (label_then said (labels_in ds))) label ≡ None → build_or said label (build_line ds label) ≡ None
  built_then (family name) later none = later names none
  built_then (target name) later none = later names none
  built_then (a_type name base items) later none = later names none
  built_then (node nonterminal name) later none = later names none
  built_then (build first e) later none = on (bytes_eq first label) refl
    where
      on : (b : Bool) → bytes_eq first label ≡ b → (if b then Some e else build_line ds label) ≡ None
      on true is =
          let same : first ≡ label = (bytes_eq-Decides first label).0 is in
          let has = met_has_number names (labels_in ds) first in
          absurd (none-some has.0 (sym (subst (λ l. number_of (met names (first ∷ labels_in ds)) l ≡ None) (sym same) none) ∙ has.1))
      on false is = later (with_first first) none

unbuilt : (ds : List (Declared AstSaying)) (names : List (List ℕ)) (label : List ℕ) → number_of names label ≡ None
    → build_line ds label ≡ None → after_met ds names label ≡ None
unbuilt [] names label none no_line = none
unbuilt (d ∷ ds) names label none no_line =
    unbuilt_then ds names label d.said none (λ more none no_line. unbuilt ds more label none no_line) no_line

built : (ds : List (Declared AstSaying)) (names : List (List ℕ)) (label : List ℕ) → after_met ds names label ≡ None
    → build_line ds label ≡ None
built [] names label none = refl
built (d ∷ ds) names label none = built_then ds names label d.said (λ more none. built ds more label none) none

-- no rule so far joins families
abbrev pub NoneJoins : List (List ℕ) → List (List ℕ) → List Rule → List ℕ → ℕ → Type 0
NoneJoins labels names rules families i = (r : ℕ) → r < i → JoinsAt labels names rules families r → ⊥

pub joins_not : (labels names : List (List ℕ)) (rules : List Rule) (families : List ℕ) (r : ℕ) (label : List ℕ) (is : Bool)
    → number_of labels label ≡ Some r → IsTrue is ↔ (number_of names label ≡ None) → is ≡ false
    → IsTrue false ↔ JoinsAt labels names rules families r
joins_not labels names rules families r label is of_label means isnt = (λ so. cc, λ joins. absurd (by joins))
  where
    by : JoinsAt labels names rules families r → ⊥
    by joins =
        let a = name_at_number labels joins.label r joins.of_label in let b = name_at_number labels label r of_label in
        let same : joins.label ≡ label = (let both = sym a ∙ b in cc) in
        let so = means.1 (subst (λ l. number_of names l ≡ None) same joins.unbuilt) in cc

pub joins_where : (labels names : List (List ℕ)) (rules : List Rule) (families : List ℕ) (r : ℕ) (label : List ℕ) (rule : Rule)
    (is other : Bool) → number_of labels label ≡ Some r → slice_get rules r ≡ Some rule
    → IsTrue is ↔ (number_of names label ≡ None) → is ≡ true → IsTrue other ↔ IsOfOther families rule
    → IsTrue other ↔ JoinsAt labels names rules families r
joins_where labels names rules families r label rule is other of_label at_rule means so its = (
  λ joined. record { label = label; rule = rule; of_label = of_label; at_rule = at_rule; unbuilt = means.0 so; other = its.0 joined },
  λ joins. (let same : joins.rule ≡ rule = (let a = sym joins.at_rule ∙ at_rule in cc) in its.1 (subst (IsOfOther families) same joins.other)),
)

pub one_joins_not : (labels names : List (List ℕ)) (rules : List Rule) (families : List ℕ) (i : ℕ)
    → NoneJoins labels names rules families i → (JoinsAt labels names rules families i → ⊥)
    → NoneJoins labels names rules families (i + 1)
one_joins_not labels names rules families i none not r less joins = by (order r i)
  where
    by : (r < i) ⊎ ((i < r) ⊎ (r ≡ i)) → ⊥
    by (inl below) = none r below joins
    by (inr (inl above)) = omega (arith, above, less)
    by (inr (inr same)) = not (subst (JoinsAt labels names rules families) same joins)

pub rule_joins : (labels names : List (List ℕ)) (rules : List Rule) (families : List ℕ) (i : ℕ) (is : Bool)
    → IsTrue is ↔ JoinsAt labels names rules families i → is ≡ true → SomeJoins labels names rules families true
rule_joins labels names rules families i is means so = some_rule i (means.0 so)

pub none_joins : (labels names : List (List ℕ)) (rules : List Rule) (families : List ℕ) (i : ℕ) → length labels ≤ i
    → NoneJoins labels names rules families i → SomeJoins labels names rules families false
none_joins labels names rules families i end none = no_rule_joins (λ r joins.
    let fits = get_fits labels r joins.label (name_at_number labels joins.label r joins.of_label) in
    none r (omega (arith, fits, end)) joins)

-- of the whole grammar
module _ (g : NamedGrammar) (ds : List (Declared AstSaying)) (names : List (List ℕ)) (families : List ℕ)
    (names_are : names ≡ met [] (labels_in ds)) (families_are : families ≡ families_by ds g.nonterminals) where
  joins_here : (r : ℕ) → JoinsAt g.labels names g.grammar.rules families r → AstHeadFault g ds Typing
  joins_here r joins =
      let other = joins.other in
      other_family joins.label joins.rule other.place other.nonterminal
      (record { number = r; of_label = joins.of_label; is = joins.at_rule })
      (built ds [] joins.label (subst (λ l. number_of l joins.label ≡ None) names_are joins.unbuilt)) other.only other.is
      (λ same. other.other (subst (λ l. slice_index l other.nonterminal ≡ slice_index l joins.rule.left) (sym families_are) same))

  none_join : ((r : ℕ) → JoinsAt g.labels names g.grammar.rules families r → ⊥) → (kind : Kind) → kind ≡ Typing
      → AstHeadFault g ds kind → ⊥
  none_join none _ is (no_node nonterminal there no_line no_family) = cc
  none_join none _ is (no_source_node nonterminal there no_line its) = cc
  none_join none _ is (no_build label rule of_rule no_line no_one) = cc
  none_join none _ is (other_family label rule k n of_rule no_line only at differs) =
      none of_rule.number (record {
        label = label;
        rule = rule;
        of_label = of_rule.of_label;
        at_rule = of_rule.is;
        unbuilt = subst (λ l. number_of l label ≡ None) (sym names_are) (unbuilt ds [] label refl no_line);
        other = record {
          place = k;
          nonterminal = n;
          only = only;
          is = at;
          other = λ same. differs (subst (λ l. slice_index l n ≡ slice_index l rule.left) families_are same);
        };
      })

  pub joined : (found : Bool) → SomeJoins g.labels names g.grammar.rules families found
      → IsTrue found ↔ AstHeadFault g ds Typing
  joined _ (some_rule r joins) = (λ so. joins_here r joins, λ fault. refl)
  joined _ (no_rule_joins none) = (λ so. cc, λ fault. absurd (none_join none Typing refl fault))
