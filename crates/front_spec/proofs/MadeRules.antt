-- The scan rules that are made are those that the lines declare.
use Rattle.std.proofs.Common.{◌≡◌, ℕ, ◌+◌, ◌<◌, ◌≤◌, ◌⊎◌, inl, inr, Bool, true, false, ◌||◌, ◌==◌, List, [], ◌∷◌, ◌++◌, length, take, map, get_or, refl, sym, ap, ◌∙◌, Option, Some, arith, rules}
use Rattle.std.specs.List.{slice_get}
use Rattle.std.proofs.lemmas.List.{map-append, length-map}
use Rattle.std.proofs.lemmas.List.Folds.{list_any-append}
use Rattle.ck_base.specs.BitSet.{BitSet, Has}
use Rattle.ck_base.specs.Numbered.{number_of}
use Rattle.rex_model.specs.Language.{Re}
use Rattle.rex_model.specs.Rules.{Rule}
use Rattle.rex_model.specs.RuleMeaning.{rule_of}
use Rattle.rex_model.specs.declared.rules.ScanRule.{ScanRule}
use Rattle.section_frame.specs.Declares.{Declared}
use Rattle.spec_text.proofs.Lists.{take_step, take_all, get_at, map_get}
use Rattle.section_frame.specs.Passes.{judged_by}
use Rattle.section_frame.specs.declared.pass.Numbered.{Numbered}
use Rattle.front_spec.specs.RexShapes.{SaidRule, Saying, state, rule}
use Rattle.front_spec.specs.RexRules.{add_rule, rules_in, number_in, is_number, active_in, rule_by}
use Rattle.front_spec.specs.Seen.{saying}
use Rattle.front_spec.specs.Steps.{AddsActive}
use Rattle.front_spec.specs.declared.declaration.Says.{Says}

-- rules of one line more
rules_at_end : (ds : List (Declared Saying)) (d : Declared Saying) → rules_in (ds ++ d ∷ []) ≡ rules_in ds ++ add_rule d.said []
rules_at_end [] d = refl
rules_at_end (e ∷ ds) d = by e.said (rules_at_end ds d)
  where
    by : (said : Saying) → rules_in (ds ++ d ∷ []) ≡ rules_in ds ++ add_rule d.said []
        → add_rule said (rules_in (ds ++ d ∷ [])) ≡ add_rule said (rules_in ds) ++ add_rule d.said []
    by (state name) same = same
    by (rule said) same = ap (λ l. said ∷ l) same

next_rules : (ds : List (Declared Saying)) (i : ℕ) (d : Declared Saying) → slice_get ds i ≡ Some d
    → rules_in (take (i + 1) ds) ≡ rules_in (take i ds) ++ add_rule d.said []
next_rules ds i d at = ap rules_in (take_step ds i d at) ∙ rules_at_end (take i ds) d

-- the line at a place, and the end of the lines
pub declared_at : (list : List (Numbered Says)) (i : ℕ) (p : Numbered Says) → i < length list
    → slice_get (map (judged_by saying) list) i ≡ Some (judged_by saying (get_or list i p))
declared_at list i p less = map_get (judged_by saying) list i (get_or list i p) (get_at list i p less)

pub at_end : (i : ℕ) (list : List (Numbered Says)) → i ≤ length list → length list ≤ i → i ≡ length (map (judged_by saying) list)
at_end i list less more = omega (arith, less, more, length-map list (judged_by saying))

-- the rules so far
module _ (states tokens : List (List ℕ)) (ds : List (Declared Saying)) where
  abbrev pub RulesSoFar : ℕ → List Rule → Type 0
  RulesSoFar i made = made ≡ map (rule_by states tokens) (rules_in (take i ds))

  pub one_rule : (i : ℕ) (old new : List Rule) (d : Declared Saying) → slice_get ds i ≡ Some d → RulesSoFar i old
      → new ≡ old ++ map (rule_by states tokens) (add_rule d.said []) → RulesSoFar (i + 1) new
  one_rule i old new d at so are =
      are ∙ ap (λ l. l ++ map (rule_by states tokens) (add_rule d.said [])) so
      ∙ sym (map-append (rule_by states tokens) (rules_in (take i ds)) (add_rule d.said []))
      ∙ ap (map (rule_by states tokens)) (sym (next_rules ds i d at))

  pub all_rules : (i : ℕ) (made : List Rule) → i ≡ length ds → RulesSoFar i made → made ≡ map (rule_by states tokens) (rules_in ds)
  all_rules i made end so = so ∙ ap (λ l. map (rule_by states tokens) (rules_in l)) (take_all ds i end)

-- a rule by its parts
pub made_rule : (states tokens : List (List ℕ)) (said : SaidRule) (active : ℕ → Bool) (body : Re) (context : Option Re) (token next : Option ℕ)
    → active ≡ active_in states said.states → body ≡ said.body → context ≡ said.context → token ≡ number_in tokens said.token
    → next ≡ number_in states said.next
    → ◌≡◌ {A = Rule} (record { active = active; body = body; context = context; token = token; next = next }) (rule_by states tokens said)
made_rule states tokens said active body context token next a b c t n = rw (a, b, c, t, n) refl

pub is_same : (n k : ℕ) → (n == k) ≡ true → k ≡ n
is_same n k is = search rules

pub either : (a b : Bool) → (a || b) ≡ true → (a ≡ true) ⊎ (b ≡ true)
either true b is = inl refl
either false b is = inr is

or_left : (a b : Bool) → a ≡ true → (a || b) ≡ true
or_left a b is = rw is refl

or_right : (a b : Bool) → b ≡ true → (a || b) ≡ true
or_right true b is = refl
or_right false b is = is

pub numbers_together : (old mid new : BitSet) (known first second : List (List ℕ)) → AddsActive old mid known (Some first)
    → AddsActive mid new known (Some second) → AddsActive old new known (Some (first ++ second))
numbers_together old mid new known first second adds more = record {
  size = more.size ∙ adds.size;
  only = λ k has. by k (more.only k has);
  kept = λ k has. more.kept k (adds.kept k has);
  more = λ k is. back k (either (active_in known (Some first) k) (active_in known (Some second) k) (sym (split k) ∙ is));
}
  where
    split : (k : ℕ) → active_in known (Some (first ++ second)) k ≡ (active_in known (Some first) k || active_in known (Some second) k)
    split k = list_any-append (λ name. is_number (number_of known name) k) first second

    by_first : (k : ℕ) → Has old k ⊎ (active_in known (Some first) k ≡ true) → Has old k ⊎ (active_in known (Some (first ++ second)) k ≡ true)
    by_first k (inl has) = inl has
    by_first k (inr is) = inr (split k ∙ or_left (active_in known (Some first) k) (active_in known (Some second) k) is)

    by : (k : ℕ) → Has mid k ⊎ (active_in known (Some second) k ≡ true) → Has old k ⊎ (active_in known (Some (first ++ second)) k ≡ true)
    by k (inl has) = by_first k (adds.only k has)
    by k (inr is) = inr (split k ∙ or_right (active_in known (Some first) k) (active_in known (Some second) k) is)

    back : (k : ℕ) → (active_in known (Some first) k ≡ true) ⊎ (active_in known (Some second) k ≡ true) → Has new k
    back k (inl is) = more.kept k (adds.more k is)
    back k (inr is) = more.more k is

pub one_name_more : (old mid new : BitSet) (known names : List (List ℕ)) (i : ℕ) (name : List ℕ) → AddsActive old mid known (Some (take i names))
    → AddsActive mid new known (Some (name ∷ [])) → slice_get names i ≡ Some name → AddsActive old new known (Some (take (i + 1) names))
one_name_more old mid new known names i name adds more at =
    rw (take_step names i name at) (numbers_together old mid new known (take i names) (name ∷ []) adds more)

pub more_rules : (old new : List ScanRule) (made : ScanRule) (one : Rule) → new ≡ old ++ made ∷ [] → rule_of made ≡ one
    → map rule_of new ≡ map rule_of old ++ one ∷ []
more_rules old new made one are is =
    ap (λ l. map rule_of l) are ∙ map-append rule_of old (made ∷ []) ∙ ap (λ r. map rule_of old ++ r ∷ []) is
