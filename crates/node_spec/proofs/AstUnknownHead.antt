-- What is at fault at the line of the section's head, by names that were gathered.
use Rattle.std.proofs.Common.{◌≡◌, ℕ, ◌+◌, ◌<◌, ◌≤◌, ◌⊎◌, inl, inr, ◌↔◌, IsTrue, Bool, true, false, not, List, [], ◌∷◌, length, map, get_or, refl, sym, ap, subst, ◌∙◌, Option, Some, None, is_none, unwrap_or, Contains, if◌then◌else◌, arith}
use Rattle.std.specs.List.{slice_get}
use Rattle.std.specs.Str.{bytes_eq}
use Rattle.std.proofs.lemmas.List.{length-map}
use Rattle.std.proofs.lemmas.Option.{none-some}
use Rattle.std.proofs.lemmas.Slice.Eq.{bytes_eq-Decides}
use Rattle.ast_types.specs.TypeTable.{family_in, family_at}
use Rattle.ck_base.specs.Numbered.{met, number_of}
use Rattle.ck_base.specs.declared.fault.Kind.TheVariants.{Unknown}
use Rattle.ck_base.proofs.NameFound.{contained_at}
use Rattle.ck_base.proofs.NamesMet.{name_at_number}
use Rattle.cfg_model.specs.Cfg.{Rule}
use Rattle.cfg_model.specs.declared.named.NamedGrammar.{NamedGrammar}
use Rattle.section_frame.specs.Declares.{Declared}
use Rattle.spec_text.proofs.Lists.{order, map_get, get_at, get_fits}
use Rattle.spec_text.proofs.Parting.{contains_at, some_at}
use Rattle.node_spec.specs.AstShapes.{AstSaying, family, target, a_type, node, build}
use Rattle.node_spec.specs.AstTables.{families_in, family_names, node_family, build_or, build_line}
use Rattle.node_spec.specs.AstBuilds.{only_nonterminal}
use Rattle.node_spec.specs.AstFaults.{AstHeadFault, no_node, no_source_node, no_build, is_target, label_then, labels_in, nodes_in}
use Rattle.node_spec.specs.declared.families.Families.{Families}
use Rattle.node_spec.specs.within.AstSteps.{AreFamilies}
use Rattle.node_spec.specs.within.AstUnknown.{IsSource, LacksFamily, OneLacksFamily, HasNoOnly, LacksBuild, OneLacksBuild}
use Rattle.node_spec.proofs.AstFamilies.{none_named, unnamed}
use Rattle.node_spec.proofs.AstUnknownLists.{at_first, at_later, first_or_later, met_has, met_had, absent_where_no_number}

-- whether a family of the source side has the name, by its number
pub source_is : (names : List (List ℕ)) (targets : List Bool) (name : List ℕ) (n : ℕ) (is : Bool)
    → is ≡ not (get_or targets n false) → number_of names name ≡ Some n → n < length targets
    → IsTrue is ↔ IsSource names targets name
source_is names targets name n is means found less = (
  λ so. to (get_or targets n false) refl (sym means ∙ so),
  λ source. means ∙ from (get_or targets n false) refl source,
)
  where
    to : (side : Bool) → get_or targets n false ≡ side → not side ≡ true → IsSource names targets name
    to true its so = cc
    to false its so = record { number = n; is = found; side = get_at targets n false less ∙ ap (λ b. Some b) its }

    from : (side : Bool) → get_or targets n false ≡ side → IsSource names targets name → not side ≡ true
    from true its source =
        let same : source.number ≡ n = (let a = source.is in cc) in
        let here = get_at targets n false less ∙ ap (λ b. Some b) its in
        let there : slice_get targets n ≡ Some false = rw same at source.side in cc
    from false its source = refl

pub no_source : (names : List (List ℕ)) (targets : List Bool) (name : List ℕ) → number_of names name ≡ None
    → IsSource names targets name → ⊥
no_source names targets name none source = none-some source.number (sym none ∙ source.is)

-- the numbers before one that is looked at
abbrev pub FamiliesBefore : List (List ℕ) → List (List ℕ) → List (List ℕ) → List Bool → ℕ → Type 0
FamiliesBefore nonterminals lines names targets n =
    (j : ℕ) (name : List ℕ) → j < n → slice_get nonterminals j ≡ Some name → LacksFamily lines names targets name → ⊥

module _ (nonterminals lines names : List (List ℕ)) (targets : List Bool) where
  pub family_lacked : (n : ℕ) (name : List ℕ) → slice_get nonterminals n ≡ Some name
      → LacksFamily lines names targets name
      → OneLacksFamily nonterminals lines names targets
  family_lacked n name at lacks =
      record { nonterminal = name; among = contains_at nonterminals n name at; lacks = lacks }

  pub family_there : (n : ℕ) (name : List ℕ) → slice_get nonterminals n ≡ Some name
      → FamiliesBefore nonterminals lines names targets n → (LacksFamily lines names targets name → ⊥)
      → FamiliesBefore nonterminals lines names targets (n + 1)
  family_there n name at before has j other less at_j lacks = by (order j n)
    where
      by : (j < n) ⊎ ((n < j) ⊎ (j ≡ n)) → ⊥
      by (inl below) = before j other below at_j lacks
      by (inr (inl above)) = omega (arith, above, less)
      by (inr (inr same)) =
          let it : other ≡ name = (let a = rw same at at_j in let b = sym a ∙ at in cc) in has (rw it at lacks)

  pub families_there : (n : ℕ) → length nonterminals ≤ n → FamiliesBefore nonterminals lines names targets n
      → OneLacksFamily nonterminals lines names targets → ⊥
  families_there n end before one =
      before one.among.0 one.nonterminal (let less = one.among.1 in omega (arith, less, end))
      (get_at nonterminals one.among.0 one.nonterminal one.among.1 ∙ ap (λ x. Some x) one.among.2) one.lacks

abbrev pub BuildsBefore : List (List ℕ) → List Rule → List (List ℕ) → ℕ → Type 0
BuildsBefore labels rules lines n =
    (j : ℕ) (label : List ℕ) → j < n → slice_get labels j ≡ Some label → LacksBuild labels rules lines label → ⊥

module _ (labels : List (List ℕ)) (rules : List Rule) (lines : List (List ℕ)) where
  pub build_there : (n : ℕ) (label : List ℕ) → slice_get labels n ≡ Some label → BuildsBefore labels rules lines n
      → (LacksBuild labels rules lines label → ⊥) → BuildsBefore labels rules lines (n + 1)
  build_there n label at before has j other less at_j lacks = by (order j n)
    where
      by : (j < n) ⊎ ((n < j) ⊎ (j ≡ n)) → ⊥
      by (inl below) = before j other below at_j lacks
      by (inr (inl above)) = omega (arith, above, less)
      by (inr (inr same)) =
          let it : other ≡ label = (let a = rw same at at_j in let b = sym a ∙ at in cc) in has (rw it at lacks)

  pub builds_there : (n : ℕ) → length labels ≤ n → BuildsBefore labels rules lines n
      → OneLacksBuild labels rules lines → ⊥
  builds_there n end before (label, lacks) =
      let at = name_at_number labels label lacks.number lacks.of_label in
      let less = get_fits labels lacks.number label at in
      before lacks.number label (omega (arith, less, end)) at lacks

-- whether a rule has exactly one nonterminal
pub only_is : (rules : List Rule) (n : ℕ) (rule : Rule) (is : Bool) → slice_get rules n ≡ Some rule
    → is ≡ is_none (only_nonterminal rule.right) → IsTrue is ↔ HasNoOnly rules n
only_is rules n rule is at means = (to (only_nonterminal rule.right) refl, from)
  where
    to : (only : Option ℕ) → only_nonterminal rule.right ≡ only → IsTrue is → HasNoOnly rules n
    to None none so = record { rule = rule; at = at; none = none }
    to (Some i) some so = absurd (let e = means ∙ ap is_none some in cc)

    from : HasNoOnly rules n → IsTrue is
    from has =
        let same : has.rule ≡ rule = (let a = has.at in cc) in
        means ∙ ap is_none (ap (λ r. only_nonterminal r.right) (sym same) ∙ has.none)

-- the rule of a label, which has no line
pub its_rule : (labels : List (List ℕ)) (rules : List Rule) (lines : List (List ℕ)) (label : List ℕ) (n : ℕ) (is : Bool)
    → number_of labels label ≡ Some n → (Contains lines label → ⊥) → IsTrue is ↔ HasNoOnly rules n
    → IsTrue is ↔ LacksBuild labels rules lines label
its_rule labels rules lines label n is found absent means = (
  (λ so. record { number = n; of_label = found; no_line = absent; builds_nothing = means.0 so }),
  (λ lacks.
      let same : lacks.number ≡ n = (let a = lacks.of_label in cc) in
      means.1 (subst (HasNoOnly rules) same lacks.builds_nothing)),
)

-- a rule has no expression by BUILD lines exactly where none is of its label
pub none_built : (ds : List (Declared AstSaying)) (wanted : List ℕ) → (Contains (labels_in ds) wanted → ⊥)
    → build_line ds wanted ≡ None
none_built [] wanted absent = refl
none_built (d ∷ ds) wanted absent = by d.said absent (none_built ds wanted)
  where
    by : (said : AstSaying) → (Contains (label_then said (labels_in ds)) wanted → ⊥)
        → ((Contains (labels_in ds) wanted → ⊥) → build_line ds wanted ≡ None)
        → build_or said wanted (build_line ds wanted) ≡ None
    by (family name) absent later = later absent
    by (target name) absent later = later absent
    by (a_type name base items) absent later = later absent
    by (node nonterminal name) absent later = later absent
    by (build label e) absent later =
        elim (bytes_eq label wanted) as (λ b. bytes_eq label wanted ≡ b
        → (if b then Some e else build_line ds wanted) ≡ None) [
          | true ↦ λ same. absurd (absent
              (at_first label (labels_in ds) wanted ((bytes_eq-Decides label wanted).0 same)))
          | false ↦ λ other. later (λ has. absent (at_later label (labels_in ds) wanted has))
        ] refl

pub unbuilt : (ds : List (Declared AstSaying)) (wanted : List ℕ) → build_line ds wanted ≡ None
    → Contains (labels_in ds) wanted → ⊥
unbuilt [] wanted none has = let less = has.1 in omega (arith, less)
unbuilt (d ∷ ds) wanted none has = by d.said none has (unbuilt ds wanted)
  where
    behind : (label : List ℕ) → bytes_eq label wanted ≡ false → (Contains (labels_in ds) wanted → ⊥)
        → (label ≡ wanted) ⊎ Contains (labels_in ds) wanted → ⊥
    behind label other later (inl same) = let e = (bytes_eq-Decides label wanted).1 same in cc
    behind label other later (inr there) = later there

    by : (said : AstSaying) → build_or said wanted (build_line ds wanted) ≡ None
        → Contains (label_then said (labels_in ds)) wanted
        → (build_line ds wanted ≡ None → Contains (labels_in ds) wanted → ⊥) → ⊥
    by (family name) none has later = later none has
    by (target name) none has later = later none has
    by (a_type name base items) none has later = later none has
    by (node nonterminal name) none has later = later none has
    by (build label e) none has later =
        elim (bytes_eq label wanted) as (λ b. bytes_eq label wanted ≡ b
        → (if b then Some e else build_line ds wanted) ≡ None → ⊥) [
          | true ↦ λ same is. absurd (none-some e (sym is))
          | false ↦ λ other is. behind label other (later is) (first_or_later label (labels_in ds) wanted has)
        ] refl none

-- the side of a family, by its number
its_side : (ds : List (Declared AstSaying)) (name : List ℕ) (n : ℕ) → number_of (family_names ds) name ≡ Some n
    → slice_get (map (λ f. f.target) (families_in ds)) n ≡ Some (is_target ds name)
its_side ds name n found =
    let less = get_fits (family_names ds) n name (name_at_number (family_names ds) name n found) in
    let f = some_at (families_in ds) n
    (let long = length-map (families_in ds) (λ f. f.name) in omega (arith, less, long)) in
    map_get (λ f. f.target) (families_in ds) n f.0 f.1
    ∙ ap (λ b. Some b) (sym (ap (λ o. (family_at (families_in ds) (unwrap_or o 0)).target) found
    ∙ ap (λ o. (family_in o).target) f.1))

-- each family has a side
pub sides_as_many : (ds : List (Declared AstSaying)) (families : Families) → AreFamilies ds families
    → length families.names ≡ length families.targets.items
sides_as_many ds families are =
    let names = ap length are.names in
    let sides = ap length are.sides in
    let a = length-map (families_in ds) (λ f. f.name) in
    let b = length-map (families_in ds) (λ f. f.target) in omega (arith, names, sides, a, b)

-- the head is at fault exactly where a nonterminal lacks a family, or a rule lacks a build
module _ (g : NamedGrammar) (ds : List (Declared AstSaying)) (families : Families) (nodes builds : List (List ℕ))
    (are : AreFamilies ds families) (nodes_are : nodes ≡ met [] (nodes_in ds))
    (builds_are : builds ≡ met [] (labels_in ds)) where
  no_node_line : (name : List ℕ) → (Contains nodes name → ⊥) → node_family ds name ≡ None
  no_node_line name absent =
      none_named ds name (λ has. absent
      (subst (λ l. Contains l name) (sym nodes_are) (met_has [] (nodes_in ds) name has)))

  pub family_fault : OneLacksFamily g.nonterminals nodes families.names families.targets.items
      → AstHeadFault g ds Unknown
  family_fault one = by (number_of (family_names ds) one.nonterminal) refl
    where
      line : node_family ds one.nonterminal ≡ None
      line = no_node_line one.nonterminal one.lacks.no_line

      by_side : (n : ℕ) → number_of (family_names ds) one.nonterminal ≡ Some n → (side : Bool)
          → is_target ds one.nonterminal ≡ side → AstHeadFault g ds Unknown
      by_side n found true is = no_source_node one.nonterminal one.among line is
      by_side n found false is = absurd (one.lacks.no_source (record {
        number = n;
        is = ap (λ l. number_of l one.nonterminal) are.names ∙ found;
        side = ap (λ l. slice_get l n) are.sides ∙ its_side ds one.nonterminal n found ∙ ap (λ b. Some b) is;
      }))

      by : (number : Option ℕ) → number_of (family_names ds) one.nonterminal ≡ number → AstHeadFault g ds Unknown
      by None none =
          no_node one.nonterminal one.among line (absent_where_no_number (family_names ds) one.nonterminal none)
      by (Some n) found = by_side n found (is_target ds one.nonterminal) refl

  pub build_fault : OneLacksBuild g.labels g.grammar.rules builds → AstHeadFault g ds Unknown
  build_fault (label, lacks) =
      no_build label lacks.builds_nothing.rule
      (record { number = lacks.number; of_label = lacks.of_label; is = lacks.builds_nothing.at })
      (none_built ds label (λ has. lacks.no_line
      (subst (λ l. Contains l label) (sym builds_are) (met_has [] (labels_in ds) label has))))
      lacks.builds_nothing.none

  pub head_lacks : AstHeadFault g ds Unknown → OneLacksFamily g.nonterminals nodes families.names families.targets.items
      ⊎ OneLacksBuild g.labels g.grammar.rules builds
  head_lacks (no_node nonterminal among none absent) = inl (record {
    nonterminal = nonterminal;
    among = among;
    lacks = record {
      no_line = λ has. unnamed ds nonterminal none
          (met_had [] (nodes_in ds) nonterminal (subst (λ l. Contains l nonterminal) nodes_are has));
      no_source = λ source. absent (contained_at (family_names ds) nonterminal source.number
          (name_at_number (family_names ds) nonterminal source.number
          (ap (λ l. number_of l nonterminal) (sym are.names) ∙ source.is)));
    };
  })
  head_lacks (no_source_node nonterminal among none side) = inl (record {
    nonterminal = nonterminal;
    among = among;
    lacks = record {
      no_line = λ has. unnamed ds nonterminal none
          (met_had [] (nodes_in ds) nonterminal (subst (λ l. Contains l nonterminal) nodes_are has));
      no_source = λ source. of_target source;
    };
  })
    where
      of_target : IsSource families.names families.targets.items nonterminal → ⊥
      of_target source =
          let found = ap (λ l. number_of l nonterminal) (sym are.names) ∙ source.is in
          let here = its_side ds nonterminal source.number found ∙ ap (λ b. Some b) side in
          let there = ap (λ l. slice_get l source.number) (sym are.sides) ∙ source.side in
          cc
  head_lacks (no_build label rule is none only) = inr (
    label,
    record {
      number = is.number;
      of_label = is.of_label;
      no_line = λ has. unbuilt ds label none
          (met_had [] (labels_in ds) label (subst (λ l. Contains l label) builds_are has));
      builds_nothing = record { rule = rule; at = is.is; none = only };
    },
  )

  pub head_is : (lacks_family lacks_build : Bool)
      → IsTrue lacks_family ↔ OneLacksFamily g.nonterminals nodes families.names families.targets.items
      → IsTrue lacks_build ↔ OneLacksBuild g.labels g.grammar.rules builds
      → (lacks_family ≡ false → IsTrue lacks_build ↔ AstHeadFault g ds Unknown)
  head_is lacks_family lacks_build family_means build_means not =
      (λ is. build_fault (build_means.0 is), λ fault. by (head_lacks fault))
    where
      by : OneLacksFamily g.nonterminals nodes families.names families.targets.items
          ⊎ OneLacksBuild g.labels g.grammar.rules builds → IsTrue lacks_build
      by (inl lacks) = absurd (let e = family_means.1 lacks in cc)
      by (inr lacks) = build_means.1 lacks
