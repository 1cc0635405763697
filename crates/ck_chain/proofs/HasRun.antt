-- A source has tokens by tables that scan by its rules, and they lie in it.
use Rattle.std.proofs.Common.{◌≡◌, ◌⊎◌, ℕ, zero, suc, ◌+◌, ◌<◌, ◌≤◌, inl, inr, List, [], ◌∷◌, length, map, drop, take, All, Option, None, Some, refl, sym, ap, ◌∙◌, arith, slice_get}
use Rattle.std.proofs.lemmas.Bool.{cases_lt}
use Rattle.std.proofs.lemmas.List.Elements.{All-drop, All-cons, All-nil}
use Rattle.rex_model.specs.Rules.{Rule, Rules}
use Rattle.rex_model.specs.Run.{Token, Tokens}
use Rattle.rex_model.specs.Run as run
use Rattle.rex_model.specs.Runs.{Automaton, run as run_of, accepted, AreBytes, IsLongestRun}
use Rattle.rex_model.specs.Tables.{Tables, GivesWinners, start_of}
use Rattle.rex_model.specs.declared.tables.ScanAction.{ScanAction}
use Rattle.rex_model.specs.Winner.{Winner, HasNoCandidate, next_state}
use Rattle.parse_driver.specs.Stream.{Ending, finished, bad_at}
use Rattle.parse_driver.specs.declared.tokens.TokenRef.{TokenRef}
use Rattle.ck_chain.specs.Deriving.{Comes, ref_of, ending_at}
use Rattle.ck_chain.specs.within.Scanners.{ScansBy}
use Rattle.ck_chain.specs.within.Steps.{IsTokenInside}
use Rattle.rex_model.proofs.OneWinner.{one_winner}
use Rattle.ck_chain.proofs.Walk.{next_inside, ends_within}

-- up to so many bytes the last beginning that is accepted, or none
data UpTo (dfa : Automaton) (s : ℕ) (text : List ℕ) (n : ℕ) : Type 0 where
  nothing : ((l j : ℕ) → l ≤ n → accepted dfa (run_of dfa s (take l text)) ≡ Some j → ⊥) → UpTo dfa s text n
  found : (i m : ℕ) → m ≤ n → accepted dfa (run_of dfa s (take m text)) ≡ Some i
      → ((l j : ℕ) → l ≤ n → accepted dfa (run_of dfa s (take l text)) ≡ Some j → l ≤ m) → UpTo dfa s text n

up_to : (dfa : Automaton) (s : ℕ) (text : List ℕ) (n : ℕ) → UpTo dfa s text n
up_to dfa s text zero = by (accepted dfa (run_of dfa s (take 0 text))) refl
  where
    by : (here : Option ℕ) → accepted dfa (run_of dfa s (take 0 text)) ≡ here → UpTo dfa s text 0
    by None is = nothing (λ l j within some.
        let first : l ≡ 0 = omega (arith, within) in
        let same = sym is ∙ rw first at some in cc)
    by (Some i) is = found i 0 (omega arith) is (λ l j within some. within)
up_to dfa s text (suc n) = by (accepted dfa (run_of dfa s (take (suc n) text))) refl (up_to dfa s text n)
  where
    by : (here : Option ℕ) → accepted dfa (run_of dfa s (take (suc n) text)) ≡ here → UpTo dfa s text n → UpTo dfa s text (suc n)
    by (Some i) is before = found i (suc n) (omega arith) is (λ l j within some. within)
    by None is (nothing none) = nothing (λ l j within some. elim (cases_lt n l) [
      | inl past ↦ (
          let last : l ≡ suc n = omega (arith, within, past) in
          let same = sym is ∙ rw last at some in cc)
      | inr small ↦ none l j small some
    ])
    by None is (found i m inside at longest) = found i m (omega (arith, inside)) at (λ l j within some. elim (cases_lt n l) [
      | inl past ↦ (
          let last : l ≡ suc n = omega (arith, within, past) in
          let same = sym is ∙ rw last at some in cc)
      | inr small ↦ longest l j small some
    ])

bytes_left : (text : List ℕ) (at : ℕ) → AreBytes text → AreBytes (drop at text)
bytes_left text at bytes = All-drop (λ byte. byte < 256) at text bytes

-- one action has one token
same_action : (actions : List ScanAction) (i j : ℕ) (a b : Rule) → i ≡ j → slice_get actions i ≡ Some (record { token = a.token; next = a.next })
    → slice_get actions j ≡ Some (record { token = b.token; next = b.next }) → a.token ≡ b.token
same_action actions i j a b same first second =
    same_token (record { token = a.token; next = a.next }) (record { token = b.token; next = b.next }) (sym (rw same at first) ∙ second)
  where
    same_token : (x y : ScanAction) → Some x ≡ Some y → x.token ≡ y.token
    same_token x y one = let same : x ≡ y = cc in ap (λ z. z.token) same

module _ (rules : Rules) (tables : Tables) (scans : ScansBy rules tables) (text : List ℕ) (bytes : AreBytes text) where
  -- at a place either a rule wins, or there is no candidate
  data Step (state at : ℕ) : Type 0 where
    wins : (i n m : ℕ) → Winner rules.list state (drop at text) i n m → Step state at
    none_wins : HasNoCandidate rules.list state (drop at text) → Step state at

  step : (state at : ℕ) → state < length rules.states → Step state at
  step state at inside = by (up_to tables.main (start_of tables state) (drop at text) (length (drop at text)))
    where
      started : state < length tables.starts
      started = rw scans.starts inside

      by : UpTo tables.main (start_of tables state) (drop at text) (length (drop at text)) → Step state at
      by (nothing none) = none_wins (scans.gives.none state (drop at text) started (bytes_left text at bytes) none)
      by (found i m within is longest) =
          let (n, cut, won) = scans.gives.winner state (drop at text) i m started (bytes_left text at bytes)
          (record { within = within; accepts = is; longest = longest }) in
          wins i n m won

  -- tokens from a place in a state on
  abbrev Has : ℕ → ℕ → Type 0
  Has state at = (tokens : List Token) × (ending : run.Ending) × Tokens rules.list text state at tokens ending

  -- one token or skip in front of those that come behind it
  behind : (state at i n m : ℕ) (won : Winner rules.list state (drop at text) i n m) (token : Option ℕ) → won.candidate.rule.token ≡ token
      → Has (next_state won.candidate.rule state) (at + n) → Has state at
  behind state at i n m won None is (tokens, ending, more) = (tokens, ending, Tokens.skip state at i n m tokens ending won is more)
  behind state at i n m won (Some t) is (tokens, ending, more) =
      (record { number = t; from = at; to = at + n } ∷ tokens, ending, Tokens.token state at i n m t tokens ending won is more)

  by_step : (state at : ℕ) → at < length text → state < length rules.states → Step state at
      → ((next to : ℕ) → next < length rules.states → to ≤ length text → at < to → Has next to) → Has state at
  by_step state at left inside (wins i n m won) goes_on =
      let to_within = ends_within rules.list text state at i n m won.candidate in
      let next = next_inside won.candidate.rule state (length rules.states)
      (λ k named. scans.next i k won.candidate.rule won.candidate.is_rule named) inside in
      behind state at i n m won won.candidate.rule.token refl
      (goes_on (next_state won.candidate.rule state) (at + n) next to_within (omega (arith, won.candidate.some)))
  by_step state at left inside (none_wins none) goes_on = ([], run.bad_at at, Tokens.bad state at left none)

  has_within : (steps state at : ℕ) → state < length rules.states → at ≤ length text → length text ≤ at + steps → Has state at
  has_within zero state at inside within near = ([], run.finished, Tokens.end state at (omega (arith, within, near)))
  has_within (suc steps) state at inside within near = elim (cases_lt at (length text)) [
    | inr past ↦ ([], run.finished, Tokens.end state at (omega (arith, within, past)))
    | inl left ↦ by_step state at left inside (step state at inside)
        (λ next to next_in to_in forward. has_within steps next to next_in to_in (omega (arith, near, forward)))
  ]

  pub has_run : (state at : ℕ) → state < length rules.states → at ≤ length text → (tokens : List TokenRef) × (ending : Ending) × Comes rules.list text state at tokens ending
  has_run state at inside within =
      let (tokens, ending, run) = has_within (length text) state at inside within (omega arith) in
      (map ref_of tokens, ending_at (length text) ending, record { scanned = tokens; ended = ending; run = run; tokens_are = refl; ending_is = refl })

  -- other rules by which the tables scan have the same token where they win
  pub same_wins : (others : List Rule) → GivesWinners tables others → (state at i n m : ℕ) → state < length tables.starts
      → (won : Winner others state (drop at text) i n m)
      → (rule : Rule) × (slice_get rules.list i ≡ Some rule) × (won.candidate.rule.token ≡ rule.token)
  same_wins others gives state at i n m started won = by (up_to tables.main (start_of tables state) (drop at text) (length (drop at text)))
    where
      by : UpTo tables.main (start_of tables state) (drop at text) (length (drop at text))
          → (rule : Rule) × (slice_get rules.list i ≡ Some rule) × (won.candidate.rule.token ≡ rule.token)
      by (nothing none) = absurd (gives.none state (drop at text) started (bytes_left text at bytes) none i n m won.candidate)
      by (found j l within is longest) =
          let run_is : IsLongestRun tables.main (start_of tables state) (drop at text) j l = record { within = within; accepts = is; longest = longest } in
          let (k, cut, mine) = scans.gives.winner state (drop at text) j l started (bytes_left text at bytes) run_is in
          let (k2, cut2, other) = gives.winner state (drop at text) j l started (bytes_left text at bytes) run_is in
          let (same, text_is, end_is) = one_winner others state (drop at text) i n m j k2 l won other in
          let first = scans.gives.action state (drop at text) j k l started mine in
          let second = gives.action state (drop at text) i n m started won in
          (mine.candidate.rule, rw same mine.candidate.is_rule, same_action tables.actions i j (won.candidate.rule) (mine.candidate.rule) same second first)

  -- tokens by such rules are numbered below a count that bounds the rules' tokens
  module _ (count : ℕ) (named : (i t : ℕ) (rule : Rule) → slice_get rules.list i ≡ Some rule → rule.token ≡ Some t → t < count)
      (others : Rules) (scans2 : ScansBy others tables) where
    pub numbers_below : (state at : ℕ) (tokens : List Token) (ending : run.Ending) → state < length others.states
        → Tokens others.list text state at tokens ending → All (λ k. k.terminal < count) (map ref_of tokens)
    numbers_below state at _ _ inside (Tokens.end _ _ past) = All-nil (λ k. k.terminal < count)
    numbers_below state at _ _ inside (Tokens.bad _ _ left none) = All-nil (λ k. k.terminal < count)
    numbers_below state at _ _ inside (Tokens.token _ _ i n m t more ending won is rest) =
        let next = next_inside won.candidate.rule state (length others.states)
        (λ k named. scans2.next i k won.candidate.rule won.candidate.is_rule named) inside in
        let (rule, is_rule, same) = same_wins others.list scans2.gives state at i n m (rw scans2.starts inside) won in
        All-cons (λ k. k.terminal < count) (record { terminal = t; from = at; to = at + n }) (map ref_of more)
        (named i t rule is_rule (sym same ∙ is))
        (numbers_below (next_state won.candidate.rule state) (at + n) more ending next rest)
    numbers_below state at _ _ inside (Tokens.skip _ _ i n m more ending won is rest) =
        let next = next_inside won.candidate.rule state (length others.states)
        (λ k named. scans2.next i k won.candidate.rule won.candidate.is_rule named) inside in
        numbers_below (next_state won.candidate.rule state) (at + n) more ending next rest

-- tokens lie in the text, one behind the other, so that there are no more than bytes
pub record LieInside (text : List ℕ) (at : ℕ) (tokens : List TokenRef) (ending : Ending) : Type 0 where
  pub each : All (IsTokenInside text) tokens
  pub count : length tokens + at ≤ length text
  pub end : (place : ℕ) → (ending ≡ finished place) ⊎ (ending ≡ bad_at place) → place ≤ length text

module _ (rules : List Rule) (text : List ℕ) where
  lie_inside : (state at : ℕ) (tokens : List Token) (ending : run.Ending) → at ≤ length text → Tokens rules text state at tokens ending
      → LieInside text at (map ref_of tokens) (ending_at (length text) ending)
  lie_inside state at _ _ within (Tokens.end _ _ past) = record {
    each = All-nil (IsTokenInside text);
    count = omega (arith, within);
    end = λ place is. by place is;
  }
    where
      by : (place : ℕ) → (finished (length text) ≡ finished place) ⊎ (finished (length text) ≡ bad_at place) → place ≤ length text
      by place (inl is) = let same : length text ≡ place = cc in omega (arith, same)
      by place (inr is) = cc
  lie_inside state at _ _ within (Tokens.bad _ _ left none) = record {
    each = All-nil (IsTokenInside text);
    count = omega (arith, within);
    end = λ place is. by place is;
  }
    where
      by : (place : ℕ) → (bad_at at ≡ finished place) ⊎ (bad_at at ≡ bad_at place) → place ≤ length text
      by place (inl is) = cc
      by place (inr is) = let same : at ≡ place = cc in omega (arith, same, left)
  lie_inside state at _ _ within (Tokens.token _ _ i n m t more ending won is rest) =
      let to_within = ends_within rules text state at i n m won.candidate in
      let behind = lie_inside (next_state won.candidate.rule state) (at + n) more ending to_within rest in
      record {
        each = All-cons (IsTokenInside text) (record { terminal = t; from = at; to = at + n }) (map ref_of more)
            (record { forward = omega arith; within = to_within }) behind.each;
        count = omega (arith, behind.count, won.candidate.some);
        end = behind.end;
      }
  lie_inside state at _ _ within (Tokens.skip _ _ i n m more ending won is rest) =
      let to_within = ends_within rules text state at i n m won.candidate in
      let behind = lie_inside (next_state won.candidate.rule state) (at + n) more ending to_within rest in
      record { each = behind.each; count = omega (arith, behind.count, won.candidate.some); end = behind.end }

  pub comes_inside : (state at : ℕ) (tokens : List TokenRef) (ending : Ending) → at ≤ length text → Comes rules text state at tokens ending
      → LieInside text at tokens ending
  comes_inside state at tokens ending within comes =
      let lie = lie_inside state at comes.scanned comes.ended within comes.run in
      rw (comes.tokens_are, comes.ending_is) lie
