-- Each end of a parse, and one token more.
use Rattle.std.proofs.Common.{◌≡◌, ◌<◌, List, ◌∷◌, ◌++◌, ap, ◌∙◌, arith}
use Rattle.parse_driver.specs.declared.tokens.TokenRef.{TokenRef}
use Rattle.parse_driver.proofs.Parsing.{holds_of_token}
use Rattle.parse_driver.proofs.LrReading.{none_read, before, read_on, at_wrong_token, at_wrong_end, at_accepted, at_bad}
use Rattle.parse_driver.proofs.lr.parse_lr.Goals as goal

pub tokens-init : goal.tokens-init
tokens-init g c =
    let states = c.in_ok-push.ensures.items in
    record {
      reading = λ all ending comes. (
        all,
        comes,
        rw (states, c.new-states.ensures.items, c.new-steps.ensures.items)
            (none_read (g.T.LrTable.grammar c.args.table.now) (g.T.LrTable.table c.args.table.now) all),
      );
      more = c.requires.open;
    }

pub settle-requires-clause-terminal : goal.settle-requires-clause-terminal
settle-requires-clause-terminal g c =
    let cfg = g.T.LrTable.grammar c.args.table.now in
    let (all, ending, comes) = c.requires.some in
    let (coming, now, p) = c.tokens.invariant.reading all ending comes in
    let (rest, drawn, after) = c.in-Token.ensures.drawn coming ending now in
    let whole : all ≡ p.read ++ (c.in-Token.token ∷ rest) = p.whole ∙ ap (λ (l : List TokenRef). p.read ++ l) drawn in
    let below = holds_of_token (λ k. k.terminal < cfg.terminals) p.read c.in-Token.token rest (rw whole at (c.requires.terminals all ending comes)) in
    omega arith

pub settle-requires-clause-stack : goal.settle-requires-clause-stack
settle-requires-clause-stack g c =
    let (all, ending, comes) = c.requires.some in
    let (coming, now, p) = c.tokens.invariant.reading all ending comes in
    (p.read, before (g.T.LrTable.grammar c.args.table.now) (g.T.LrTable.table c.args.table.now) all coming _ _ _ c.in-Token.token.terminal p)

pub returns-in_default : goal.returns-in_default
returns-in_default g c = λ all ending comes.
    let cfg = g.T.LrTable.grammar c.args.table.now in
    let (coming, now, so_far) = c.tokens.invariant.reading all ending comes in
    let (rest, drawn, after) = c.in-Token.ensures.drawn coming ending now in
    let p = rw drawn at so_far in
    let whole = p.whole in
    let below = holds_of_token (λ k. k.terminal < cfg.terminals) p.read c.in-Token.token rest (rw whole at (c.requires.terminals all ending comes)) in
    at_wrong_token cfg (g.T.LrTable.table c.args.table.now) c.requires.table all _ _ _ _ c.tokens.k rest c.in-Token.token ending _ below p
    c.in_ok-action-in-Token.ensures c.in_default.not-Shift

pub tokens-preserved : goal.tokens-preserved
tokens-preserved g c =
    let settles = rw c.in-Shift.is at c.in_ok-action-in-Token.ensures in
    record {
      reading = λ all ending comes.
          let (coming, now, so_far) = c.tokens.invariant.reading all ending comes in
          let (rest, drawn, after) = c.in-Token.ensures.drawn coming ending now in
          let p = rw drawn at so_far in (
            rest,
            after,
            rw (c.in_ok-push-in-Token.ensures.items, c.in_ok-push-in-Token-2.ensures.items)
                (read_on (g.T.LrTable.grammar c.args.table.now) (g.T.LrTable.table c.args.table.now) c.requires.table all _ _ _ _ c.tokens.k
                rest c.in-Shift.state c.in-Token.token p settles),
          );
      more = c.in-Token.ensures.goes_on.0;
    }

pub returns-in_default-action : goal.returns-in_default-action
returns-in_default-action g c = λ all ending comes.
    let (coming, now, so_far) = c.tokens.invariant.reading all ending comes in
    let (drawn, ended) = c.in-End.ensures.drawn coming ending now in
    let p = rw drawn at so_far in
    at_wrong_end (g.T.LrTable.grammar c.args.table.now) (g.T.LrTable.table c.args.table.now) c.requires.table all _ _ _ _ c.tokens.k
    ending c.in-End.at _ ended p (rw c.terminals.ensures at c.in_ok-action-in-End.ensures) c.in_default-action.not-Accept

pub returns-in-End : goal.returns-in-End
returns-in-End g c = λ all ending comes.
    let (coming, now, so_far) = c.tokens.invariant.reading all ending comes in
    let (drawn, ended) = c.in-End.ensures.drawn coming ending now in
    let p = rw drawn at so_far in
    at_accepted (g.T.LrTable.grammar c.args.table.now) (g.T.LrTable.table c.args.table.now) c.requires.table all _ _ _ _ c.tokens.k
    ending c.in-End.at ended p (rw (c.terminals.ensures, c.in-Accept.is) at c.in_ok-action-in-End.ensures)

pub returns-in-Bad : goal.returns-in-Bad
returns-in-Bad g c = λ all ending comes.
    let (coming, now, so_far) = c.tokens.invariant.reading all ending comes in
    let (drawn, ended) = c.in-Bad.ensures.drawn coming ending now in
    let p = rw drawn at so_far in
    at_bad (g.T.LrTable.grammar c.args.table.now) (g.T.LrTable.table c.args.table.now) c.requires.table all c.tokens.states.items c.tokens.states.items
    c.tokens.steps.items c.tokens.steps.items c.tokens.k ending c.in-Bad.at ended p
