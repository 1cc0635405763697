-- How far an automaton comes, and what it accepts there.
use Rattle.std.proofs.Common.{◌≡◌, ◌≢◌, ℕ, ◌+◌, ◌*◌, ◌-◌, ◌<◌, List, ◌++◌, length, take, drop, get_or, slice_index, arith, refl, sym, ap, ◌∙◌, inl, inr}
use Rattle.std.proofs.lemmas.Bool.{ne_eqb}
use Rattle.std.proofs.Math.Seq.{take-add}
use Rattle.rex_model.specs.Runs.{Automaton, nowhere, moved, run, IsStateOf}
use Rattle.rex_model.proofs.RunsOfAutomata.{run-append, run_more, run_nowhere}
use Rattle.scan_driver.specs.within.Furthest.{IsFurthest}

module _ (dfa : Automaton) (s : ℕ) (text : List ℕ) where
  -- the state after i bytes, which is one
  pub record GoesOn (i state : ℕ) : Type 0 where
    pub is : state ≡ run dfa s (take i text)
    pub state_of : state < length dfa.accepts
    pub some : state ≢ nowhere

  -- from a state one moves by the list
  pub moved_by : (state byte : ℕ) → state ≢ nowhere → moved dfa state byte ≡ slice_index dfa.moves (256 * state + byte)
  moved_by state byte some = rw (ne_eqb state nowhere some) refl

  next_is : (i state : ℕ) → i < length text → GoesOn i state
      → slice_index dfa.moves (256 * state + get_or text i 0) ≡ run dfa s (take (i + 1) text)
  next_is i state within before =
      sym (moved_by state (get_or text i 0) before.some) ∙ ap (λ t. moved dfa t (get_or text i 0)) before.is ∙ sym (run_more dfa s i text within)

  pub goes_on : (i state next : ℕ) → i < length text → GoesOn i state → next ≡ slice_index dfa.moves (256 * state + get_or text i 0)
      → IsStateOf dfa next → next ≢ nowhere → GoesOn (i + 1) next
  goes_on i state next within before moves state_of some = record {
    is = moves ∙ next_is i state within before;
    state_of = elim state_of [ inl none ↦ absurd (some none) | inr below ↦ below ];
    some = some;
  }

  -- after a byte that leads to no state no byte leads anywhere
  pub stops : (i state next : ℕ) → i < length text → GoesOn i state → next ≡ slice_index dfa.moves (256 * state + get_or text i 0)
      → next ≡ nowhere → IsFurthest dfa s text state i
  stops i state next within before moves none = record {
    within = omega arith;
    is = before.is;
    state_of = before.state_of;
    some = before.some;
    last = λ l past inside.
        let here : run dfa s (take (i + 1) text) ≡ nowhere = sym (next_is i state within before) ∙ sym moves ∙ none in
        let parts : take l text ≡ take (i + 1) text ++ take (l - (i + 1)) (drop (i + 1) text)
        = ap (λ k. take k text) (omega arith) ∙ take-add (i + 1) (l - (i + 1)) text in
        ap (run dfa s) parts ∙ run-append dfa s (take (i + 1) text) (take (l - (i + 1)) (drop (i + 1) text))
        ∙ ap (λ t. run dfa t (take (l - (i + 1)) (drop (i + 1) text))) here ∙ run_nowhere dfa (take (l - (i + 1)) (drop (i + 1) text));
  }
