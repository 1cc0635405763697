-- What a scan draws of the tokens that come.
use Rattle.std.proofs.Common.{◌≡◌, ℕ, ◌≤◌, List, [], ◌∷◌, length, map, drop, None, Some, refl, sym, ap, ◌∙◌, arith, slice_get}
use Rattle.rex_model.specs.Rules.{Rule}
use Rattle.rex_model.specs.Run.{Scans, Token, Tokens}
use Rattle.rex_model.specs.Run as run
use Rattle.rex_model.specs.declared.scan.Scan.TheVariants as scan
use Rattle.rex_model.proofs.OneRun.{none_at_end, same_winner, same_after}
use Rattle.parse_driver.specs.Stream.{Ending, finished, bad_at, Draws}
use Rattle.parse_driver.specs.declared.tokens.Next.TheVariants as next
use Rattle.parse_driver.specs.declared.tokens.TokenRef.{TokenRef}
use Rattle.ck_chain.specs.Deriving.{Comes, ref_of, ending_at}

module _ (rules : List Rule) (text : List ℕ) where
  -- a token stands first, and the others come from its end on
  pub record First (state at i to next : ℕ) (tokens : List Token) (ending : run.Ending) : Type 0 where
    pub rule : Rule
    pub number : ℕ
    pub is_rule : slice_get rules i ≡ Some rule
    pub has_number : rule.token ≡ Some number
    pub rest : List Token
    pub first : tokens ≡ record { number = number; from = at; to = to } ∷ rest
    pub more : Tokens rules text next to rest ending

  pub first_token : (state at i to next : ℕ) (tokens : List Token) (ending : run.Ending) → Scans rules text state at (scan.Token i to next)
      → Tokens rules text state at tokens ending → First state at i to next tokens ending
  first_token state at _ _ _ _ _ (Scans.token i n m t won is) (Tokens.end _ _ past) = absurd (none_at_end rules text state at i n m (omega (arith, past)) won)
  first_token state at _ _ _ _ _ (Scans.token i n m t won is) (Tokens.bad _ _ left none) = absurd (none i n m won.candidate)
  first_token state at _ _ _ _ _ (Scans.token i n m t won is) (Tokens.token _ _ j k l u more ending won2 is2 rest) =
      let (rule, len) = same_winner rules state (drop at text) i n m j k l won won2 in
      let number : u ≡ t = cc in
      record {
        rule = won.candidate.rule;
        number = t;
        is_rule = won.candidate.is_rule;
        has_number = is;
        rest = more;
        first = rw (number, sym len) refl;
        more = same_after rules text state at i n m j k l won won2 more ending rest;
      }
  first_token state at _ _ _ _ _ (Scans.token i n m t won is) (Tokens.skip _ _ j k l more ending won2 is2 rest) =
      let (rule, len) = same_winner rules state (drop at text) i n m j k l won won2 in
      let number : Some t ≡ None = cc in
      cc

  -- a text is passed over, and the tokens come from its end on
  pub passed : (state at i to next : ℕ) (tokens : List Token) (ending : run.Ending) → Scans rules text state at (scan.Skip i to next)
      → Tokens rules text state at tokens ending → Tokens rules text next to tokens ending
  passed state at _ _ _ _ _ (Scans.skip i n m won is) (Tokens.end _ _ past) = absurd (none_at_end rules text state at i n m (omega (arith, past)) won)
  passed state at _ _ _ _ _ (Scans.skip i n m won is) (Tokens.bad _ _ left none) = absurd (none i n m won.candidate)
  passed state at _ _ _ _ _ (Scans.skip i n m won is) (Tokens.token _ _ j k l u more ending won2 is2 rest) =
      let (rule, len) = same_winner rules state (drop at text) i n m j k l won won2 in
      let number : Some u ≡ None = cc in
      cc
  passed state at _ _ _ _ _ (Scans.skip i n m won is) (Tokens.skip _ _ j k l more ending won2 is2 rest) =
      same_after rules text state at i n m j k l won won2 more ending rest

  -- no token is left at the end
  pub none_at : (state at : ℕ) (tokens : List Token) (ending : run.Ending) → length text ≤ at → Tokens rules text state at tokens ending
      → (tokens ≡ []) × (ending ≡ run.finished) × (at ≡ length text)
  none_at state at _ _ past (Tokens.end _ _ is) = (refl, refl, is)
  none_at state at _ _ past (Tokens.bad _ _ left none) = absurd (omega (arith, past, left))
  none_at state at _ _ past (Tokens.token _ _ j k l u more ending won is rest) = absurd (none_at_end rules text state at j k l past won)
  none_at state at _ _ past (Tokens.skip _ _ j k l more ending won is rest) = absurd (none_at_end rules text state at j k l past won)

  -- nor at a bad place
  pub bad_here : (state at place : ℕ) (tokens : List Token) (ending : run.Ending) → Scans rules text state at (scan.BadToken place)
      → Tokens rules text state at tokens ending → (tokens ≡ []) × (ending ≡ run.bad_at at)
  bad_here state at _ _ _ (Scans.bad left none) (Tokens.end _ _ past) = absurd (omega (arith, past, left))
  bad_here state at _ _ _ (Scans.bad left none) (Tokens.bad _ _ left2 none2) = (refl, refl)
  bad_here state at _ _ _ (Scans.bad left none) (Tokens.token _ _ j k l u more ending won is rest) = absurd (none j k l won.candidate)
  bad_here state at _ _ _ (Scans.bad left none) (Tokens.skip _ _ j k l more ending won is rest) = absurd (none j k l won.candidate)

  -- the same of tokens as a parser has them
  pub draws_token : (state at i to after number : ℕ) (tokens : List TokenRef) (ending : Ending) → Scans rules text state at (scan.Token i to after)
      → ((rule : Rule) (t : ℕ) → slice_get rules i ≡ Some rule → rule.token ≡ Some t → number ≡ t)
      → Comes rules text state at tokens ending
      → Draws (Comes rules text after to) tokens ending (next.Token (record { terminal = number; from = at; to = to }))
  draws_token state at i to after number tokens ending scans numbered comes =
      let found = first_token state at i to after comes.scanned comes.ended scans comes.run in
      let is = numbered found.rule found.number found.is_rule found.has_number in (
        map ref_of found.rest,
        comes.tokens_are ∙ ap (map ref_of) found.first ∙ ap (λ t. record { terminal = t; from = at; to = to } ∷ map ref_of found.rest) (sym is),
        record { scanned = found.rest; ended = comes.ended; run = found.more; tokens_are = refl; ending_is = comes.ending_is },
      )

  pub comes_on : (state at i to after : ℕ) (tokens : List TokenRef) (ending : Ending) → Scans rules text state at (scan.Skip i to after)
      → Comes rules text state at tokens ending → Comes rules text after to tokens ending
  comes_on state at i to after tokens ending scans comes = record {
    scanned = comes.scanned;
    ended = comes.ended;
    run = passed state at i to after comes.scanned comes.ended scans comes.run;
    tokens_are = comes.tokens_are;
    ending_is = comes.ending_is;
  }

  pub draws_end : (state at : ℕ) (tokens : List TokenRef) (ending : Ending) → length text ≤ at
      → Comes rules text state at tokens ending → (tokens ≡ []) × (ending ≡ finished at)
  draws_end state at tokens ending past comes =
      let (none, is, place) = none_at state at comes.scanned comes.ended past comes.run in
      (comes.tokens_are ∙ ap (map ref_of) none, comes.ending_is ∙ ap (ending_at (length text)) is ∙ ap (λ n. finished n) (sym place))

  pub draws_bad : (state at place : ℕ) (tokens : List TokenRef) (ending : Ending) → Scans rules text state at (scan.BadToken place)
      → Comes rules text state at tokens ending → (tokens ≡ []) × (ending ≡ bad_at at)
  draws_bad state at place tokens ending scans comes =
      let (none, is) = bad_here state at place comes.scanned comes.ended scans comes.run in
      (comes.tokens_are ∙ ap (map ref_of) none, comes.ending_is ∙ ap (ending_at (length text)) is)
