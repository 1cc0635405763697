-- Runs along a text, byte by byte.
use Rattle.std.proofs.Common.{◌≡◌, ℕ, ◌+◌, ◌-◌, ◌<◌, ◌≤◌, List, [], ◌∷◌, length, take, drop, reverse, get_or, Option, Some, None, MatchOption, arith, sym, ap, subst, ◌∙◌, inl, inr}
use Rattle.std.proofs.lemmas.Bool.{cases_eq, cases_lt}
use Rattle.std.proofs.lemmas.Option.{none-some}
use Rattle.std.proofs.lemmas.List.{drop_more}
use Rattle.std.proofs.lemmas.List.{reverse-append}
use Rattle.std.proofs.Math.Seq.{take-add}
use Rattle.rex_model.proofs.RunsOfAutomata.{run-append, run_more, run_nowhere}
use Rattle.scan_driver.specs.within.Blocks.{IsBehind}
use Rattle.scan_driver.specs.within.Found.{found_with}
use Rattle.rex_model.specs.Runs.{nowhere, moved, run, accepted, IsStateOf, IsLongestRun, AcceptsNothing}
use Rattle.scan_driver.specs.declared.running.Found.{Found}
use Rattle.rex_model.specs.Runs.{Automaton}

module _ (dfa : Automaton) (s : ℕ) (text : List ℕ) where
  -- what is found among the beginnings of at most i bytes
  pub record IsFoundUpTo (i rule len : ℕ) : Type 0 where
    pub within : len ≤ i
    pub accepts : accepted dfa (run dfa s (take len text)) ≡ Some rule
    pub longest : (l j : ℕ) → l ≤ i → accepted dfa (run dfa s (take l text)) ≡ Some j → l ≤ len

  abbrev pub IsUpTo : ℕ → Option Found → Type 0
  IsUpTo i None = (l j : ℕ) → l ≤ i → accepted dfa (run dfa s (take l text)) ≡ Some j → ⊥
  IsUpTo i (Some found) = IsFoundUpTo i found.rule found.len

  pub record Running (i state : ℕ) (found : Option Found) : Type 0 where
    pub is : state ≡ run dfa s (take i text)
    pub state_of : IsStateOf dfa state
    pub found_is : IsUpTo i found

  goes_on : (i : ℕ) (o : Option ℕ) (found : Option Found) → accepted dfa (run dfa s (take (i + 1) text)) ≡ o → IsUpTo i found → IsUpTo (i + 1) (found_with o (i + 1) found)
  goes_on i (Some rule) found e before = record { within = omega arith; accepts = e; longest = λ l j within some. within }
  goes_on i None None e before = λ l j within some. elim (cases_eq l (i + 1)) [
    | inl same ↦ none-some j (sym e ∙ subst (λ k. accepted dfa (run dfa s (take k text)) ≡ Some j) same some)
    | inr other ↦ before l j (omega arith) some
  ]
  goes_on i None (Some found) e before = record {
    within = (let within = before.within in omega arith);
    accepts = before.accepts;
    longest = λ l j within some. elim (cases_eq l (i + 1)) [
      | inl same ↦ absurd (none-some j (sym e ∙ subst (λ k. accepted dfa (run dfa s (take k text)) ≡ Some j) same some))
      | inr other ↦ before.longest l j (omega arith) some
    ];
  }

  pub run_goes_on : (i state next : ℕ) (found new : Option Found) → i < length text → Running i state found
      → next ≡ moved dfa state (get_or text i 0) → IsStateOf dfa next → new ≡ found_with (accepted dfa next) (i + 1) found → Running (i + 1) next new
  run_goes_on i state next found new within before moves state_of is =
      let here : next ≡ run dfa s (take (i + 1) text) = moves ∙ ap (λ t. moved dfa t (get_or text i 0)) before.is ∙ sym (run_more dfa s i text within) in
      record {
        is = here;
        state_of = state_of;
        found_is = rw is (goes_on i (accepted dfa next) found (ap (accepted dfa) (sym here)) before.found_is);
      }

  abbrev pub MatchFound : Option Found → Type 0
  MatchFound found = MatchOption found (AcceptsNothing dfa s text) (λ found. IsLongestRun dfa s text found.rule found.len)

  -- from no state on no byte leads to any
  pub stays_nowhere : (i state l : ℕ) → state ≡ nowhere → state ≡ run dfa s (take i text) → i ≤ l → run dfa s (take l text) ≡ nowhere
  stays_nowhere i state l at is past =
      ap (run dfa s) (ap (λ k. take k text) (omega arith) ∙ take-add i (l - i) text) ∙ run-append dfa s (take i text) (take (l - i) (drop i text))
      ∙ ap (λ t. run dfa t (take (l - i) (drop i text))) (sym is ∙ at) ∙ run_nowhere dfa (take (l - i) (drop i text))

  -- in no state nothing more is accepted
  accepts_none : (i state l j : ℕ) → state ≡ nowhere → state ≡ run dfa s (take i text) → i ≤ l → accepted dfa (run dfa s (take l text)) ≡ Some j → ⊥
  accepts_none i state l j at is past some = none-some j (sym (ap (accepted dfa) (stays_nowhere i state l at is past)) ∙ some)

  pub run_stops : (i state : ℕ) (found : Option Found) → Running i state found → i ≤ length text → state ≡ nowhere → MatchFound found
  run_stops i state None running within at = λ l j below some. elim (cases_lt i l) [
    | inl past ↦ accepts_none i state l j at running.is (omega arith) some
    | inr small ↦ running.found_is l j small some
  ]
  run_stops i state (Some found) running within at = record {
    within = (let here = running.found_is.within in omega arith);
    accepts = running.found_is.accepts;
    longest = λ l j below some. elim (cases_lt i l) [
      | inl past ↦ absurd (accepts_none i state l j at running.is (omega arith) some)
      | inr small ↦ running.found_is.longest l j small some
    ];
  }

-- the state after the first i bytes of a text
pub record IsAlong (dfa : Automaton) (s : ℕ) (text : List ℕ) (i state : ℕ) : Type 0 where
  pub is : state ≡ run dfa s (take i text)
  pub state_of : IsStateOf dfa state

pub along_more : (dfa : Automaton) (s : ℕ) (text : List ℕ) (i state next : ℕ) → i < length text → IsAlong dfa s text i state
    → next ≡ moved dfa state (get_or text i 0) → IsStateOf dfa next → IsAlong dfa s text (i + 1) next
along_more dfa s text i state next within before moves state_of = record {
  is = moves ∙ ap (λ t. moved dfa t (get_or text i 0)) before.is ∙ sym (run_more dfa s i text within);
  state_of = state_of;
}

pub behind_more : (dfa : Automaton) (word : List ℕ) (n state next : ℕ) → n < length word → IsBehind dfa word (n + 1) state
    → next ≡ moved dfa state (get_or word n 0) → IsStateOf dfa next → IsBehind dfa word n next
behind_more dfa word n state next within before moves state_of = record {
  within = omega arith;
  is = moves ∙ ap (λ t. moved dfa t (get_or word n 0)) before.is
      ∙ sym (run-append dfa 0 (reverse (drop (n + 1) word)) (get_or word n 0 ∷ []))
      ∙ ap (run dfa 0) (sym (reverse-append (get_or word n 0 ∷ []) (drop (n + 1) word)))
      ∙ ap (λ w. run dfa 0 (reverse w)) (sym (drop_more word n 0 within));
  state_of = state_of;
}
