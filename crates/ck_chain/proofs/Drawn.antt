-- The walk to the next token: texts are skipped, and the same tokens come.
use Rattle.std.proofs.Common.{◌≡◌, ℕ, ◌<◌, ◌≤◌, List, [], length, drop, Option, None, Some, IfSome, ap, ◌∙◌, arith, slice_get}
use Rattle.std.proofs.lemmas.Option.{slice_get_within}
use Rattle.rex_model.specs.Rules.{Rule}
use Rattle.rex_model.specs.Run.{Scans}
use Rattle.rex_model.specs.Tables.{Tables, GivesWinners}
use Rattle.rex_model.specs.declared.scan.Scan.{Scan}
use Rattle.rex_model.specs.declared.scan.Scan.TheVariants as scan
use Rattle.rex_model.specs.declared.tables.ScanAction.{ScanAction}
use Rattle.parse_driver.specs.Stream.{Ending, finished, bad_at, Draws}
use Rattle.parse_driver.specs.declared.tokens.Next.TheVariants as next
use Rattle.parse_driver.specs.declared.tokens.TokenRef.{TokenRef}
use Rattle.ck_chain.specs.within.Streams.{CanDraw, ComesBy}
use Rattle.ck_chain.proofs.Drawing.{draws_token, comes_on, draws_end, draws_bad}
use Rattle.ck_chain.proofs.Walk.{gives_token, gives_none, token_inside, skip_inside}

-- a token's rule has an action
token_action : (tables : Tables) (rules : List Rule) (text : List ℕ) (state at i to after : ℕ) → GivesWinners tables rules
    → state < length tables.starts → Scans rules text state at (scan.Token i to after)
    → (rule : Rule) × (slice_get rules i ≡ Some rule) × (slice_get tables.actions i ≡ Some (record { token = rule.token; next = rule.next }))
token_action tables rules text state at _ _ _ gives inside (Scans.token i n m t won is) =
    (won.candidate.rule, won.candidate.is_rule, gives.action state (drop at text) i n m inside won)

-- the number by the action is the rule's token
number_of_action : (found : Option ScanAction) (rule : Rule) (number t : ℕ) → found ≡ Some (record { token = rule.token; next = rule.next })
    → rule.token ≡ Some t → IfSome found (λ action. IfSome action.token (λ k. number ≡ k)) → number ≡ t
number_of_action None rule number t at is numbered = cc
number_of_action (Some action) rule number t at is numbered =
    let same : action ≡ record { token = rule.token; next = rule.next } = cc in
    let token : action.token ≡ Some t = ap (λ a. a.token) same ∙ is in
    rw token at numbered

module _ (tables : Tables) (source : List ℕ) (first_state from : ℕ) where
  -- scanning goes on at a place in a state, and the same tokens come from there
  pub record Walking (state at : ℕ) : Type 0 where
    pub can : CanDraw tables source state at
    pub forward : from ≤ at
    pub comes : (tokens : List TokenRef) (ending : Ending) → ComesBy tables source first_state from tokens ending
        → ComesBy tables source state at tokens ending

  -- what is scanned, by all rules whose winners the tables give
  abbrev pub ScansAll : ℕ → ℕ → Scan → Type 0
  ScansAll state at found = (rules : List Rule) → GivesWinners tables rules → Scans rules source state at found

  pub skip_forward : (state at i to after : ℕ) (w : Walking state at) → ScansAll state at (scan.Skip i to after) → (at < to) × (to ≤ length source)
  skip_forward state at i to after w scans =
      let gives = gives_none w.can.rules.list source state at i to after (scans w.can.rules.list w.can.scans.gives) in
      (gives.forward, gives.within)

  pub skips : (state at i to after : ℕ) → Walking state at → ScansAll state at (scan.Skip i to after) → Walking after to
  skips state at i to after w scans =
      let mine = w.can.scans in
      let here = scans w.can.rules.list mine.gives in
      let gives = gives_none w.can.rules.list source state at i to after here in
      record {
        can = record {
          rules = w.can.rules;
          scans = mine;
          small = w.can.small;
          within = gives.within;
          is_state = rw mine.starts (skip_inside w.can.rules.list (length w.can.rules.states) mine.next source state at i to after
              (rw mine.starts at w.can.is_state) here);
        };
        forward = omega (arith, w.forward, gives.forward);
        comes = λ tokens ending by. let (rules, others, comes) = w.comes tokens ending by in
            (rules, others, comes_on rules.list source state at i to after tokens ending (scans rules.list others.gives) comes);
      }

  pub token_forward : (state at i to after : ℕ) (w : Walking state at) → ScansAll state at (scan.Token i to after) → (at < to) × (to ≤ length source)
  token_forward state at i to after w scans =
      let gives = gives_token w.can.rules.list source state at i to after (scans w.can.rules.list w.can.scans.gives) in
      (gives.forward, gives.within)

  pub has_action : (state at i to after : ℕ) (w : Walking state at) → ScansAll state at (scan.Token i to after) → i < length tables.actions
  has_action state at i to after w scans =
      let (rule, is_rule, action) = token_action tables w.can.rules.list source state at i to after w.can.scans.gives w.can.is_state
      (scans w.can.rules.list w.can.scans.gives) in
      slice_get_within tables.actions i _ action

  pub can_go_on : (state at i to after : ℕ) (w : Walking state at) → ScansAll state at (scan.Token i to after) → CanDraw tables source after to
  can_go_on state at i to after w scans =
      let mine = w.can.scans in
      let here = scans w.can.rules.list mine.gives in
      record {
        rules = w.can.rules;
        scans = mine;
        small = w.can.small;
        within = (gives_token w.can.rules.list source state at i to after here).within;
        is_state = rw mine.starts (token_inside w.can.rules.list (length w.can.rules.states) mine.next source state at i to after
            (rw mine.starts at w.can.is_state) here);
      }

  pub draws : (state at i to after number : ℕ) (w : Walking state at) → ScansAll state at (scan.Token i to after)
      → IfSome (slice_get tables.actions i) (λ action. IfSome action.token (λ k. number ≡ k))
      → (tokens : List TokenRef) (ending : Ending) → ComesBy tables source first_state from tokens ending
      → Draws (ComesBy tables source after to) tokens ending (next.Token (record { terminal = number; from = at; to = to }))
  draws state at i to after number w scans numbered tokens ending by =
      let (rules, others, comes) = w.comes tokens ending by in
      let here = scans rules.list others.gives in
      let (won, is_won, action) = token_action tables rules.list source state at i to after others.gives w.can.is_state here in
      let (rest, first, more) = draws_token rules.list source state at i to after number tokens ending here
      (λ rule t is_rule is. number_of_action (slice_get tables.actions i) won number t action (one_rule rules.list i won rule t is_won is_rule is) numbered)
      comes in
      (rest, first, (rules, others, more))
    where
      one_rule : (list : List Rule) (i : ℕ) (a b : Rule) (t : ℕ) → slice_get list i ≡ Some a → slice_get list i ≡ Some b → b.token ≡ Some t
          → a.token ≡ Some t
      one_rule list i a b t at at2 is = let same : a ≡ b = cc in ap (λ r. r.token) same ∙ is

  pub ends : (state at : ℕ) (w : Walking state at) → ScansAll state at scan.End → (tokens : List TokenRef) (ending : Ending)
      → ComesBy tables source first_state from tokens ending → (tokens ≡ []) × (ending ≡ finished at)
  ends state at w scans tokens ending by =
      let (rules, others, comes) = w.comes tokens ending by in
      draws_end rules.list source state at tokens ending (past (scans rules.list others.gives)) comes
    where
      past : {rules : List Rule} → Scans rules source state at scan.End → length source ≤ at
      past (Scans.end is) = is

  pub is_bad : (state at place : ℕ) (w : Walking state at) → ScansAll state at (scan.BadToken place) → (tokens : List TokenRef) (ending : Ending)
      → ComesBy tables source first_state from tokens ending → (tokens ≡ []) × (ending ≡ bad_at at)
  is_bad state at place w scans tokens ending by =
      let (rules, others, comes) = w.comes tokens ending by in
      draws_bad rules.list source state at place tokens ending (scans rules.list others.gives) comes
