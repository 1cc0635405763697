-- Runs of automata and scanner tables, tried on cases that are worked by hand.
use Rattle.std.proofs.Common.{◌≡◌, ℕ, zero, suc, ◌<◌, ◌≤◌, true, false, List, [], ◌∷◌, ◌++◌, take, Some, None, slice_get, slice_index, slice_index_or, refl, sym, ap, subst, ◌∙◌, lit<, arith, inl, inr}
use Rattle.std.proofs.Math.ListN.{replicate}
use Rattle.std.proofs.lemmas.List.Elements.{All-replicate}
use Rattle.std.proofs.lemmas.Option.{none-some, same_Some}
use Rattle.std.specs.Prelude.{codes}
use Rattle.rex_model.specs.Language.{class, plus}
use Rattle.rex_model.specs.Rules.{Rule}
use Rattle.rex_model.specs.Runs.{Automaton, nowhere, run, accepted, IsStateOf, AreBytes, IsLongestRun, AcceptsNothing}
use Rattle.rex_model.specs.Tables.{Halves, Tables, IsDfa, IsSplit, IsWellFormed, AreParts, IsCut, whole, parts, GivesWinners}
use Rattle.rex_model.specs.declared.tables.ScanAction.{ScanAction}
use Rattle.rex_model.proofs.RunsOfAutomata.{run_nowhere}
use Rattle.rex_model.proofs.WinnerExamples.{plain_rule}

-- each byte leads from state 0 to state 1 and back, and state 0 accepts
abbrev even : Automaton
even = record { moves = replicate 256 1 ++ replicate 256 0; accepts = Some 7 ∷ None ∷ [] }

-- of "ab" all is accepted, behind "a", which isn't
over_the_gap : IsLongestRun even 0 (codes "ab") 7 2
over_the_gap = record { within = omega arith; accepts = refl; longest = λ l j within is. within }

-- so the empty beginning isn't the longest one
before_the_gap : IsLongestRun even 0 (codes "ab") 7 0 → ⊥
before_the_gap is = omega (arith, is.longest 2 7 (omega arith) refl)

-- from state 1 no beginning of the empty text is accepted, though "a" is
nothing_of_empty : AcceptsNothing even 1 []
nothing_of_empty zero j within is = none-some j is
nothing_of_empty (suc l) j within is = omega (arith, within)

something_of_a : AcceptsNothing even 1 (codes "a") → ⊥
something_of_a nothing = nothing 1 7 (omega arith) refl

-- an automaton that accepts the empty word alone: its moves go to no state
abbrev only_empty : Automaton
only_empty = record { moves = replicate 256 nowhere; accepts = Some 0 ∷ [] }

moves_to_none : IsDfa only_empty
moves_to_none = record { count = refl; inside = All-replicate (IsStateOf only_empty) 256 nowhere (inl refl) }

-- there is no state 1 to go to
moves_to_1 : IsDfa (record { moves = replicate 256 1; accepts = Some 0 ∷ [] }) → ⊥
moves_to_1 dfa =
    let one : IsStateOf (record { moves = replicate 256 1; accepts = Some 0 ∷ [] }) 1 = dfa.inside 0 0 (lit< tt) in
    elim one [ inl none ↦ omega (arith, none) | inr below ↦ omega (arith, below) ]

-- a state has 256 moves
a_move_missing : IsDfa (record { moves = replicate 255 nowhere; accepts = Some 0 ∷ [] }) → ⊥
a_move_missing dfa = let few : 255 ≡ 256 = dfa.count in omega (arith, few)

-- an automaton may have no state, but then no split begins in it
abbrev stateless : Automaton
stateless = record { moves = []; accepts = [] }

no_states : IsDfa stateless
no_states = record { count = refl; inside = λ k d within. absurd (omega (arith, within)) }

begins_nowhere : IsSplit (record { rule = 0; forward = only_empty; backward = stateless }) → ⊥
begins_nowhere split = omega (arith, split.begins_back)

-- tables of two start states, of which the first has no state, with these actions
abbrev tables_with : List ScanAction → Tables
tables_with actions = record { starts = nowhere ∷ 0 ∷ []; main = only_empty; splits = []; actions = actions }

abbrev goes_to : ℕ → ScanAction
goes_to state = record { token = Some 5; next = Some state }

starts_in_none : IsWellFormed (tables_with (goes_to 1 ∷ []))
starts_in_none = record {
  main = moves_to_none;
  starts = starts;
  splits = λ k d within. absurd (omega (arith, within));
  actions = actions;
  next = next;
}
  where
    starts : (k d : ℕ) → k < 2 → IsStateOf only_empty (slice_index_or (nowhere ∷ 0 ∷ []) k d)
    starts zero d within = inl refl
    starts (suc zero) d within = inr (lit< tt)
    starts (suc (suc k)) d within = absurd (omega (arith, within))

    actions : (s i : ℕ) → slice_get (Some 0 ∷ []) s ≡ Some (Some i) → i < 1
    actions zero i is = omega (arith, same_Some 0 i (same_Some (Some 0) (Some i) is))
    actions (suc s) i is = absurd (none-some (Some i) is)

    next : (i state : ℕ) (action : ScanAction) → slice_get (goes_to 1 ∷ []) i ≡ Some action → action.next ≡ Some state → state < 2
    next zero state action is named = omega (arith, same_Some 1 state (ap (λ (a : ScanAction). a.next) (same_Some (goes_to 1) action is) ∙ named))
    next (suc i) state action is named = absurd (none-some action is)

-- the rule that is accepted has an action, and there is no start state 2
no_action : IsWellFormed (tables_with []) → ⊥
no_action tables = omega (arith, tables.actions 0 0 refl)

no_start_2 : IsWellFormed (tables_with (goes_to 2 ∷ [])) → ⊥
no_start_2 tables = omega (arith, tables.next 0 2 (goes_to 2) refl refl)

-- an automaton that accepts each word
abbrev each_word : Automaton
each_word = record { moves = replicate 256 0; accepts = Some 0 ∷ [] }

-- a split by which the text of rule 3 may end anywhere, and one by which it may end at its begin alone
abbrev anywhere : Halves
anywhere = record { rule = 3; forward = each_word; backward = each_word }

abbrev at_the_begin : Halves
at_the_begin = record { rule = 3; forward = only_empty; backward = each_word }

-- of all places the greatest counts
at_the_greatest : IsCut (anywhere ∷ []) (codes "ab") 3 2
at_the_greatest = parts anywhere 2 refl (record { fits = omega arith; forward = refl; backward = refl }) (λ k at. at.fits)

at_no_lesser : (n : ℕ) → IsCut (anywhere ∷ []) (codes "ab") 3 n → 2 ≤ n
at_no_lesser _ (whole none) = omega arith
at_no_lesser n (parts split _ is at greatest) = greatest 2 (subst (λ s. AreParts s (codes "ab") 2) (same_Some anywhere split is)
    (record { fits = omega arith; forward = refl; backward = refl }))

-- of two splits of a rule the first one cuts
first_cuts : IsCut (at_the_begin ∷ anywhere ∷ []) (codes "ab") 3 0
first_cuts = parts at_the_begin 0 refl (record { fits = omega arith; forward = refl; backward = refl }) no_later
  where
    no_later : (k : ℕ) → AreParts at_the_begin (codes "ab") k → k ≤ 0
    no_later zero at = omega arith
    no_later (suc zero) at = let none : false ≡ true = at.forward in cc
    no_later (suc (suc zero)) at = let none : false ≡ true = at.forward in cc
    no_later (suc (suc (suc k))) at = absurd (omega (arith, at.fits))

-- a rule without a split has all of the word
all_of_it : IsCut (at_the_begin ∷ []) (codes "ab") 4 2
all_of_it = whole refl

-- that no run is accepted is no fault: it says that no rule has a candidate, as where there are no rules
of_no_rules : GivesWinners (record { starts = nowhere ∷ []; main = only_empty; splits = []; actions = [] }) []
of_no_rules = record {
  winner = λ state text i m inside small longest. absurd (none_there state i (take m text) inside longest.accepts);
  none = λ state text inside small nothing i n m candidate. none-some candidate.rule candidate.is_rule;
  action = λ state text i n m inside won. absurd (none-some won.candidate.rule won.candidate.is_rule);
}
  where
    none_there : (state i : ℕ) (w : List ℕ) → state < 1 → accepted only_empty (run only_empty (slice_index (nowhere ∷ []) state) w) ≡ Some i → ⊥
    none_there zero i w inside is = none-some i (sym (ap (accepted only_empty) (run_nowhere only_empty w)) ∙ is)
    none_there (suc state) i w inside is = omega (arith, inside)

-- an automaton that accepts each word but the empty one, as a rule for any bytes does
abbrev some_word : Automaton
some_word = record { moves = replicate 512 1; accepts = None ∷ Some 0 ∷ [] }

abbrev any_bytes : Rule
any_bytes = plain_rule (plus (class (λ byte. true))) 5

-- but with a split that cuts its texts at their begin the tables don't give the winners
cut_counts : GivesWinners (record { starts = 0 ∷ []; main = some_word; splits = record at_the_begin { rule = 0 } ∷ []; actions = record { token = Some 5; next = None } ∷ [] }) (any_bytes ∷ []) → ⊥
cut_counts gives = let (n, cut, won) = gives.winner 0 (codes "a") 0 1 (lit< tt) bytes longest in at_0 n cut won.candidate.some
  where
    bytes : AreBytes (codes "a")
    bytes zero d within = lit< tt
    bytes (suc k) d within = absurd (omega (arith, within))

    longest : IsLongestRun some_word 0 (codes "a") 0 1
    longest = record { within = omega arith; accepts = refl; longest = λ l j within is. within }

    at_0 : (n : ℕ) → IsCut (record at_the_begin { rule = 0 } ∷ []) (codes "a") 0 n → 0 < n → ⊥
    at_0 _ (whole none) some = none-some (record at_the_begin { rule = 0 }) (sym none)
    at_0 n (parts split _ is at greatest) some = later n (subst (λ s. AreParts s (codes "a") n) (sym (same_Some (record at_the_begin { rule = 0 }) split is)) at) some
      where
        later : (n : ℕ) → AreParts (record at_the_begin { rule = 0 }) (codes "a") n → 0 < n → ⊥
        later zero at some = omega (arith, some)
        later (suc zero) at some = let none : false ≡ true = at.forward in cc
        later (suc (suc n)) at some = omega (arith, at.fits)
