-- What the whole section gives: its rules in their ranges, or its first fault.
use Rattle.std.proofs.Common.{◌≡◌, ℕ, zero, suc, ◌+◌, ◌<◌, ◌≤◌, List, [], ◌∷◌, length, map, refl, ap, ◌∙◌, Option, Some, None, arith, ◌⊎◌, inl, inr, true}
use Rattle.std.specs.List.{slice_get}
use Rattle.ck_base.specs.declared.fault.Kind.TheVariants.{Limit}
use Rattle.ck_base.specs.declared.fault.SpecFault.{SpecFault}
use Rattle.ck_base.specs.declared.fault.SpecFault.TheVariants.{Bad, NoMemory}
use Rattle.ck_base.specs.Numbered.{number_of, met}
use Rattle.ck_base.proofs.NamesMet.{name_at_number}
use Rattle.rex_model.specs.Language.{Re}
use Rattle.rex_model.specs.Positions.{position_count}
use Rattle.rex_model.specs.Rules.{Rule, Rules, trailing}
use Rattle.rex_model.specs.Sets.{marked_rules}
use Rattle.std.proofs.lemmas.List.{length-map}
use Rattle.section_frame.specs.Declares.{Declared, DeclareAll, Grow, HasAt, IsShapeFault, judged}
use Rattle.section_frame.specs.FirstFault.{Accepts}
use Rattle.section_frame.specs.Passes.{judged_by, numbered}
use Rattle.section_frame.specs.Stages.{IsFirstIn}
use Rattle.section_frame.specs.Words.{names_by, sum_by}
use Rattle.section_frame.specs.declared.pass.Numbered.{Numbered}
use Rattle.section_frame.proofs.Counting.{all_within}
use Rattle.section_frame.proofs.Frame.{declared_grow}
use Rattle.section_frame.proofs.Passing.{grow_numbered}
use Rattle.section_frame.proofs.Staged.{shapeless}
use Rattle.spec_text.specs.Lines.{Line}
use Rattle.spec_text.specs.Spans.{AreLinesOf}
use Rattle.spec_text.specs.declared.section.SectionText.{SectionText}
use Rattle.spec_text.proofs.Numbers.{section_grows, section_few}
use Rattle.spec_text.proofs.Views.{as_many}
use Rattle.spec_text.specs.Promise.{HasSection, IsSectionOf}
use Rattle.spec_text.specs.Sections.{SectionLines}
use Rattle.spec_text.specs.declared.section.Section.TheVariants.{Rex}
use Rattle.spec_text.proofs.Lists.{get_fits}
use Rattle.front_spec.specs.RexShapes.{SaidRule, Saying, state, rule, RexShape}
use Rattle.front_spec.specs.RexFaults.{state_name, token_name, all_states, context_positions, one_state, positions_of, RexFault, too_many_states, too_many_positions, rex}
use Rattle.front_spec.specs.RexRules.{add_rule, rules_in, number_in, rule_by, rules_by, is_number, active_in}
use Rattle.front_spec.specs.Seen.{saying}
use Rattle.front_spec.specs.declared.declaration.Says.{Says}
use Rattle.front_spec.proofs.MadeRules.{is_same, either}
use Rattle.front_spec.specs.Promise.{IsRexFault}

pub rex_fault : (file : List ℕ) (these : SectionLines) (fault : SpecFault) → HasSection file Rex these → IsFirstIn (judged rex these.inside) fault
    → IsRexFault file fault
rex_fault file these (Bad line kind) has fault = record { lines = these; section = has; fault = fault }
rex_fault file these NoMemory has fault = tt

pub shape_fault : (file : List ℕ) (these : SectionLines) (fault : SpecFault) → HasSection file Rex these → IsShapeFault RexShape these.inside fault
    → IsRexFault file fault
shape_fault file these fault has first = rex_fault file these fault has (shapeless rex these.inside fault first)

-- the scan rules by their parts
pub made_rules : (states tokens : List (List ℕ)) (list : List Rule) (ds : List (Declared Saying)) → states ≡ all_states ds
    → tokens ≡ met [] (names_by token_name ds) → list ≡ map (rule_by states tokens) (rules_in ds)
    → ◌≡◌ {A = Rules} (record { states = states; tokens = tokens; list = list }) (rules_by ds)
made_rules states tokens list ds s t l = rw (l, s, t) refl

-- their positions are those of the lines
positions_are : (states tokens : List (List ℕ)) (ds : List (Declared Saying))
    → position_count (marked_rules (map (rule_by states tokens) (rules_in ds))) ≡ sum_by positions_of ds
positions_are states tokens [] = refl
positions_are states tokens (d ∷ ds) = by d.said (positions_are states tokens ds)
  where
    behind : (context : Option Re) → position_count (trailing context) ≡ context_positions context
    behind None = refl
    behind (Some context) = refl

    by : (said : Saying) → position_count (marked_rules (map (rule_by states tokens) (rules_in ds))) ≡ sum_by positions_of ds
        → position_count (marked_rules (map (rule_by states tokens) (add_rule said (rules_in ds)))) ≡ positions_of said + sum_by positions_of ds
    by (state name) same = omega (arith, same)
    by (rule said) same = let context = behind said.context in omega (arith, same, context)

-- without a fault of kind limit the counts are within their limits
module _ (ds : List (Declared Saying)) (none : (line : ℕ) → HasAt ds (RexFault ds Limit) line → ⊥) where
  positions_within : sum_by positions_of ds ≤ 4096
  positions_within = all_within positions_of 4096 ds (λ line has. none line (record {
    place = has.place;
    declared = has.declared;
    is = has.is;
    number = has.number;
    fault = too_many_positions has.place has.declared.said has.fault;
  }))

  states_counted : (ds : List (Declared Saying)) → length (names_by state_name ds) ≡ sum_by one_state ds
  states_counted [] = refl
  states_counted (d ∷ ds) = by d.said (states_counted ds)
    where
      by : (said : Saying) → length (names_by state_name ds) ≡ sum_by one_state ds
          → length (names_by state_name (record { number = d.number; said = said } ∷ ds)) ≡ one_state said + sum_by one_state ds
      by (state name) same = omega (arith, same)
      by (rule said) same = omega (arith, same)

  states_within : length (all_states ds) ≤ 64
  states_within =
      let count = states_counted ds in
      let most = all_within one_state 63 ds (λ line has. none line (record {
        place = has.place;
        declared = has.declared;
        is = has.is;
        number = has.number;
        fault = too_many_states has.place has.declared.said has.fault;
      })) in
      omega (arith, count, most)

-- a number is one of the names, as the next state of the start states
next_of : (states : List (List ℕ)) (name : Option (List ℕ)) (n : ℕ) → number_in states name ≡ Some n → n < length states
next_of states None n is = cc
next_of states (Some name) n is = get_fits states n name (name_at_number states name n is)

next_in : (states tokens : List (List ℕ)) (rules : List SaidRule) (i n : ℕ) (made : Rule) → slice_get (map (rule_by states tokens) rules) i ≡ Some made
    → made.next ≡ Some n → n < length states
next_in states tokens [] i n made at is = cc
next_in states tokens (said ∷ rules) zero n made at is =
    let same : rule_by states tokens said ≡ made = cc in next_of states said.next n (ap (λ r. r.next) same ∙ is)
next_in states tokens (said ∷ rules) (suc i) n made at is = next_in states tokens rules i n made at is

-- and a token is one of the names of tokens
token_in : (states tokens : List (List ℕ)) (rules : List SaidRule) (i n : ℕ) (made : Rule) → slice_get (map (rule_by states tokens) rules) i ≡ Some made
    → made.token ≡ Some n → n < length tokens
token_in states tokens [] i n made at is = cc
token_in states tokens (said ∷ rules) zero n made at is =
    let same : rule_by states tokens said ≡ made = cc in next_of tokens said.token n (ap (λ r. r.token) same ∙ is)
token_in states tokens (said ∷ rules) (suc i) n made at is = token_in states tokens rules i n made at is

-- so are the states where a rule is active
number_below : (states : List (List ℕ)) (name : List ℕ) (k : ℕ) → is_number (number_of states name) k ≡ true → k < length states
number_below states name k is = by (number_of states name) refl is
  where
    by : (number : Option ℕ) → number_of states name ≡ number → is_number number k ≡ true → k < length states
    by None same is = cc
    by (Some n) same is =
        let k_is = is_same n k is in let less = get_fits states n name (name_at_number states name n same) in omega (arith, k_is, less)

active_of : (states : List (List ℕ)) (names : Option (List (List ℕ))) (k : ℕ) → 0 < length states → active_in states names k ≡ true → k < length states
active_of states None k some is = let k_is = is_same k 0 is in omega (arith, k_is, some)
active_of states (Some []) k some is = cc
active_of states (Some (name ∷ names)) k some is =
    by (either (is_number (number_of states name) k) (active_in states (Some names) k) is) (active_of states (Some names) k some)
  where
    by : (is_number (number_of states name) k ≡ true) ⊎ (active_in states (Some names) k ≡ true)
        → (active_in states (Some names) k ≡ true → k < length states) → k < length states
    by (inl here) more = number_below states name k here
    by (inr there) more = more there

active_among : (states tokens : List (List ℕ)) (rules : List SaidRule) (i k : ℕ) (made : Rule) → 0 < length states
    → slice_get (map (rule_by states tokens) rules) i ≡ Some made → made.active k ≡ true → k < length states
active_among states tokens [] i k made some at is = cc
active_among states tokens (said ∷ rules) zero k made some at is =
    let same : rule_by states tokens said ≡ made = cc in active_of states said.states k some (ap (λ r. r.active k) same ∙ is)
active_among states tokens (said ∷ rules) (suc i) k made some at is = active_among states tokens rules i k made some at is

few_rules : (ds : List (Declared Saying)) → length (rules_in ds) ≤ length ds
few_rules [] = omega arith
few_rules (d ∷ ds) = by d.said (few_rules ds)
  where
    by : (said : Saying) → length (rules_in ds) ≤ length ds → length (add_rule said (rules_in ds)) ≤ length (d ∷ ds)
    by (state name) less = omega (arith, less)
    by (rule said) less = omega (arith, less)

long_map : {X Y : Type 0} (f : X → Y) (xs : List X) → length (map f xs) ≡ length xs
long_map f [] = refl
long_map f (x ∷ xs) = ap suc (long_map f xs)

-- what the tables of the scanner want of the rules
module _ (rules : Rules) (ds : List (Declared Saying)) (are : rules ≡ rules_by ds) where
  pub positions_fit : ((line : ℕ) → HasAt ds (RexFault ds Limit) line → ⊥) → position_count (marked_rules rules.list) ≤ 4096
  positions_fit none = rw are (let same = positions_are (all_states ds) (met [] (names_by token_name ds)) ds in
      let less = positions_within ds none in omega (arith, same, less))

  pub states_fit : ((line : ℕ) → HasAt ds (RexFault ds Limit) line → ⊥) → length rules.states ≤ 64
  states_fit none = rw are (states_within ds none)

  pub next_fits : (i n : ℕ) (made : Rule) → slice_get rules.list i ≡ Some made → made.next ≡ Some n → n < length rules.states
  next_fits i n made at is = rw are (next_in (all_states ds) (met [] (names_by token_name ds)) (rules_in ds) i n made (rw are at at) is)

  pub tokens_fit : (i n : ℕ) (made : Rule) → slice_get rules.list i ≡ Some made → made.token ≡ Some n → n < length rules.tokens
  tokens_fit i n made at is = rw are (token_in (all_states ds) (met [] (names_by token_name ds)) (rules_in ds) i n made (rw are at at) is)

  pub active_fits : (i k : ℕ) (made : Rule) → slice_get rules.list i ≡ Some made → made.active k ≡ true → k < length rules.states
  active_fits i k made at is =
      rw are (active_among (all_states ds) (met [] (names_by token_name ds)) (rules_in ds) i k made (omega arith) (rw are at at) is)

  pub rules_fit : (size : ℕ) → length ds ≤ size → length rules.list ≤ size
  rules_fit size few = rw are (let less = few_rules ds in
      let long = long_map (rule_by (all_states ds) (met [] (names_by token_name ds))) (rules_in ds) in omega (arith, less, long, few))

-- the rules of a section without a fault, and their ranges
pub record IsMade (file : List ℕ) (rules : Rules) : Type 0 where
  pub these : SectionLines
  pub section : HasSection file Rex these
  pub declared : List (Declared Saying)
  pub accepted : Accepts (judged rex these.inside) declared
  pub are : rules ≡ rules_by declared
  pub positions : position_count (marked_rules rules.list) ≤ 4096
  pub next : (i n : ℕ) (made : Rule) → slice_get rules.list i ≡ Some made → made.next ≡ Some n → n < length rules.states
  pub tokens : (i n : ℕ) (made : Rule) → slice_get rules.list i ≡ Some made → made.token ≡ Some n → n < length rules.tokens
  pub active : (i k : ℕ) (made : Rule) → slice_get rules.list i ≡ Some made → made.active k ≡ true → k < length rules.states
  pub states : length rules.states ≤ 64
  pub few : length rules.list < 4294967296

-- the declarations are as many as the lines of the section, and their numbers grow
module _ (file : List ℕ) (text : SectionText) (section : IsSectionOf file Rex text) (list rows : List (Numbered Says)) (rows_are : rows ≡ list)
    (size : length file ≤ 1048576)
    (declared : (are : List Line) → AreLinesOf file text.lines.now are → DeclareAll RexShape are (map (judged_by saying) list))
    (few : length list ≡ length text.lines.now) where
  pub list_few : length rows ≤ 1048576
  list_few =
      let many = as_many file text.lines.now section.these.inside section.lines in
      let less = section_few file Rex section.these section.has in
      let same = ap length rows_are in omega (arith, same, few, many, less, size)

  pub all_declared : DeclareAll RexShape section.these.inside (map (judged_by saying) rows)
  all_declared = rw rows_are (declared section.these.inside section.lines)

  pub list_grows : Grow (map numbered rows)
  list_grows =
      grow_numbered saying rows
      (declared_grow RexShape section.these.inside (map (judged_by saying) rows) all_declared (section_grows file Rex section.these section.has))

  pub made : (states tokens : List (List ℕ)) (rules : List Rule) → states ≡ all_states (map (judged_by saying) rows)
      → ((lines : List Line) → DeclareAll RexShape lines (map (judged_by saying) rows) → Accepts (judged rex lines) (map (judged_by saying) rows))
      → tokens ≡ met [] (names_by token_name (map (judged_by saying) rows))
      → rules ≡ map (rule_by states tokens) (rules_in (map (judged_by saying) rows))
      → IsMade file (record { states = states; tokens = tokens; list = rules })
  made states tokens rules states_are accepts tokens_are rules_are =
      let ds : List (Declared Saying) = map (judged_by saying) rows in
      let accepted : Accepts (judged rex section.these.inside) ds = accepts section.these.inside all_declared in
      let are : ◌≡◌ {A = Rules} (record { states = states; tokens = tokens; list = rules }) (rules_by ds) =
      made_rules states tokens rules ds states_are tokens_are rules_are in
      let none : (line : ℕ) → HasAt ds (RexFault ds Limit) line → ⊥ = (λ line has. accepted.no_fault Limit line (omega arith) has) in
      record {
        these = section.these;
        section = section.has;
        declared = ds;
        accepted = accepted;
        are = are;
        positions = positions_fit _ ds are none;
        next = next_fits _ ds are;
        tokens = tokens_fit _ ds are;
        active = active_fits _ ds are;
        states = states_fit _ ds are none;
        few = (let less = rules_fit _ ds are 1048576 (let l = list_few in let long = length-map rows (judged_by saying) in omega (arith, l, long)) in omega (arith, less));
      }
