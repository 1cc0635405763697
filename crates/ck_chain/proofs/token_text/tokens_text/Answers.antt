use Rattle.std.proofs.Common.{◌++◌, map, ap, ◌∙◌, arith}
use Rattle.std.proofs.lemmas.List.{length-map}
use Rattle.std.proofs.lemmas.Option.{slice_get_within}
use Rattle.rex_model.specs.RuleMeaning.{rule_of}
use Rattle.ck_chain.specs.InOrder.{told, failed}
use Rattle.ck_chain.specs.Scanning.{bad_token}
use Rattle.ck_chain.proofs.PrintedLine.{name_of_token, token_line_here, end_line_here}
use Rattle.ck_chain.proofs.Walk.{token_inside, skip_inside, gives_token, gives_none, gives_end, gives_bad, takes, passes, finishes, stops}
use Rattle.ck_chain.proofs.token_text.tokens_text.Goals as goal

pub loop-rule-preserved-in-Token : goal.loop-rule-preserved-in-Token
loop-rule-preserved-in-Token c =
    let rules = c.args.rules.now in
    let gives = gives_token _ _ _ _ _ _ _ (c.in-Token.ensures _ c.requires.scans.gives) in
    let named = name_of_token rules.rules.items rules.tokens _ c.in-Token.rule _ _ gives.is_rule gives.has_number c.token_name-name.ensures in
    let line = token_line_here rules.tokens _ _ _ gives.number c.in-Token.to c.loop-rule.invariant.0 named in
    let written = c.in_ok-push_token-in-Token.ensures ∙ ap (λ line. c.loop-rule.out.items ++ line) line in (
      c.go_to-place.ensures.is_place,
      rw (c.go_to-place.ensures.at, written) (takes _ _ _ _ _ _ _ _ _ c.loop-rule.invariant.1 gives),
      token_inside _ _ c.requires.scans.next _ _ _ _ _ _ c.loop-rule.invariant.2 (c.in-Token.ensures _ c.requires.scans.gives),
    )

pub loop-rule-preserved : goal.loop-rule-preserved
loop-rule-preserved c =
    let gives = gives_none _ _ _ _ _ _ _ (c.in-Skip.ensures _ c.requires.scans.gives) in
    let next = c.go_to-place-in-Skip.ensures in
    (next.is_place, rw next.at (passes _ _ _ _ _ _ _ _ c.loop-rule.invariant.1 gives), skip_inside _ _ c.requires.scans.next _ _ _ _ _ _ c.loop-rule.invariant.2 (c.in-Skip.ensures _ c.requires.scans.gives))

pub returns-in-End : goal.returns-in-End
returns-in-End c =
    let gives = gives_end _ _ _ _ c.loop-rule.invariant.0.within (c.in-End.ensures _ c.requires.scans.gives) in
    let line = end_line_here _ _ c.loop-rule.invariant.0 gives.0 in
    let (tokens, run, text) = finishes _ _ _ _ _ _ c.loop-rule.invariant.1 gives.1 in
    rw (c.in_ok-push_end-in-End.ensures, line, text) (told tokens run)

pub returns-in-BadToken : goal.returns-in-BadToken
returns-in-BadToken c =
    let bad = gives_bad _ _ _ _ _ (c.in-BadToken.ensures _ c.requires.scans.gives) in
    let (tokens, run) = stops _ _ _ _ _ _ c.loop-rule.invariant.1 bad in
    let is = c.loop-rule.invariant.0 in
    rw (is.line, is.column) (failed _ (bad_token tokens c.loop-rule.place.at run))

pub loop-rule-smaller-in-Token : goal.loop-rule-smaller-in-Token
loop-rule-smaller-in-Token c =
    let gives = gives_token _ _ _ _ _ _ _ (c.in-Token.ensures _ c.requires.scans.gives) in
    omega (arith, gives.forward, gives.within, c.go_to-place.ensures.at)

pub go_to-place-requires-in-Skip-clause-within : goal.go_to-place-requires-in-Skip-clause-within
go_to-place-requires-in-Skip-clause-within c = (gives_none _ _ _ _ _ _ _ (c.in-Skip.ensures _ c.requires.scans.gives)).within

pub loop-rule-smaller : goal.loop-rule-smaller
loop-rule-smaller c =
    let gives = gives_none _ _ _ _ _ _ _ (c.in-Skip.ensures _ c.requires.scans.gives) in
    omega (arith, gives.forward, gives.within, c.go_to-place-in-Skip.ensures.at)

pub token_name-name-requires-clause-rule : goal.token_name-name-requires-clause-rule
token_name-name-requires-clause-rule c =
    let gives = gives_token _ _ _ _ _ _ _ (c.in-Token.ensures _ c.requires.scans.gives) in
    let below = slice_get_within (map rule_of c.args.rules.now.rules.items) c.in-Token.rule gives.rule gives.is_rule in
    omega (arith, below, length-map c.args.rules.now.rules.items rule_of)

pub slice_bounds-push_token-end : goal.slice_bounds-push_token-end
slice_bounds-push_token-end c = (gives_token _ _ _ _ _ _ _ (c.in-Token.ensures _ c.requires.scans.gives)).within
