-- Each end of a parse, and one token more.
use Rattle.std.proofs.Common.{◌≡◌, ◌<◌, List, [], ◌∷◌, ◌++◌, length, refl, sym, ap, ◌∙◌, arith, length-append}
use Rattle.cfg_model.specs.declared.symbol.Sym.TheVariants.{N}
use Rattle.cfg_model.proofs.Locate.{not_empty}
use Rattle.parse_driver.specs.within.LlStack.{entries}
use Rattle.parse_driver.specs.declared.ll.Entry.TheVariants.{Find}
use Rattle.parse_driver.specs.declared.tokens.TokenRef.{TokenRef}
use Rattle.parse_driver.proofs.Viable.{end_not_sentence}
use Rattle.parse_driver.proofs.Parsing.{holds_of_token, begins, wrong, wrong_end, bad, not_taken, left_over, taken, done}
use Rattle.parse_driver.proofs.ll.parse_ll.Goals as goal

pub tokens-init : goal.tokens-init
tokens-init g c =
    let cfg = g.T.LlTable.grammar c.args.table.now in
    let stack : entries c.push.new.self ≡ Find (N cfg.start) ∷ [] = rw (c.in_ok-push.ensures.items, c.new-stack.ensures.items, c.start.ensures) refl in
    record {
      parsing = λ all ending comes. (all, comes, rw (stack, c.new-steps.ensures.items) (begins cfg c.requires.table.accepted all));
      more = c.requires.open;
    }

-- the state before the token that was drawn
pub expand-requires-clause-terminal : goal.expand-requires-clause-terminal
expand-requires-clause-terminal g c =
    let cfg = g.T.LlTable.grammar c.args.table.now in
    let (all, ending, comes) = c.requires.some in
    let (coming, now, parsing) = c.tokens.invariant.parsing all ending comes in
    let (rest, drawn, after) = c.in-Token.ensures.drawn coming ending now in
    let whole : all ≡ parsing.read ++ (c.in-Token.token ∷ rest) = parsing.whole ∙ ap (λ (l : List TokenRef). parsing.read ++ l) drawn in
    let below = holds_of_token (λ k. k.terminal < cfg.terminals) parsing.read c.in-Token.token rest (rw whole at (c.requires.terminals all ending comes)) in
    omega arith

pub expand-requires-clause-reached : goal.expand-requires-clause-reached
expand-requires-clause-reached g c =
    let (all, ending, comes) = c.requires.some in
    let (coming, now, parsing) = c.tokens.invariant.parsing all ending comes in
    (_, parsing.state.reached)

pub returns-then-not-branch : goal.returns-then-not-branch
returns-then-not-branch g c = λ all ending comes.
    let cfg = g.T.LlTable.grammar c.args.table.now in
    let (coming, now, before) = c.tokens.invariant.parsing all ending comes in
    let (rest, drawn, after) = c.in-Token.ensures.drawn coming ending now in
    let parsing = rw drawn at before in
    let none_is = (rw c.if-not-branch.true at c.in_ok-expand-in-Token.ensures) parsing.read parsing.state (parsing.follows c.in-Token.token.terminal) in
    wrong cfg c.requires.table.accepted all rest _ _ c.tokens.k c.in-Token.token ending parsing none_is

pub returns-then-not-branch-2 : goal.returns-then-not-branch-2
returns-then-not-branch-2 g c = λ all ending comes.
    let cfg = g.T.LlTable.grammar c.args.table.now in
    let (coming, now, before) = c.tokens.invariant.parsing all ending comes in
    let (rest, drawn, after) = c.in-Token.ensures.drawn coming ending now in
    let parsing = rw drawn at before in
    let (goes, ready) = rw c.if-not-branch.false at c.in_ok-expand-in-Token.ensures in
    let whole = parsing.whole in
    let below = holds_of_token (λ k. k.terminal < cfg.terminals) parsing.read c.in-Token.token rest (rw whole at (c.requires.terminals all ending comes)) in
    let differs = rw c.if-not-branch-2.true at c.in_ok-take-in-Token.ensures in
    let none_is = not_taken cfg c.requires.table.accepted parsing.read (entries c.expand.new.stack) c.expand.new.steps.items c.in-Token.token.terminal below
    (goes.follows parsing.read parsing.state (parsing.follows c.in-Token.token.terminal)) ready differs in
    wrong cfg c.requires.table.accepted all rest _ _ c.tokens.k c.in-Token.token ending parsing none_is

pub overflow_add-k : goal.overflow_add-k
overflow_add-k g c =
    let (all, ending, comes) = c.requires.some in
    let (coming, now, before) = c.tokens.invariant.parsing all ending comes in
    let (rest, drawn, after) = c.in-Token.ensures.drawn coming ending now in
    let parsing = rw drawn at before in
    let whole = ap length parsing.whole in
    let sum = length-append parsing.read (c.in-Token.token ∷ rest) in
    let count = parsing.count in
    let few = c.requires.few all ending comes in
    omega arith

pub tokens-smaller : goal.tokens-smaller
tokens-smaller g c = c.in-Token.ensures.goes_on.1

pub tokens-preserved : goal.tokens-preserved
tokens-preserved g c =
    let cfg = g.T.LlTable.grammar c.args.table.now in
    let (goes, ready) = rw c.if-not-branch.false at c.in_ok-expand-in-Token.ensures in
    let (stack, steps) = rw c.if-not-branch-2.false at c.in_ok-take-in-Token.ensures in
    record {
      parsing = λ all ending comes.
          let (coming, now, before) = c.tokens.invariant.parsing all ending comes in
          let (rest, drawn, after) = c.in-Token.ensures.drawn coming ending now in
          let parsing = rw drawn at before in
          (rest, after, taken cfg c.requires.table.accepted all rest _ (entries c.expand.new.stack) (entries c.take.new.stack) _ c.expand.new.steps.items c.take.new.steps.items c.tokens.k c.in-Token.token parsing goes stack steps);
      more = c.in-Token.ensures.goes_on.0;
    }

pub returns-then-not-branch-3 : goal.returns-then-not-branch-3
returns-then-not-branch-3 g c = λ all ending comes.
    let cfg = g.T.LlTable.grammar c.args.table.now in
    let (coming, now, before) = c.tokens.invariant.parsing all ending comes in
    let (drawn, ended) = c.in-End.ensures.drawn coming ending now in
    let parsing = rw drawn at before in
    let none_is = (rw (c.if-not-branch-3.true, c.terminals.ensures) at c.in_ok-expand-in-End.ensures) parsing.read parsing.state (parsing.follows cfg.terminals) in
    wrong_end cfg c.requires.table.accepted all _ _ c.tokens.k c.in-End.at ending ended parsing (end_not_sentence cfg parsing.read (entries c.tokens.stack) c.tokens.steps.items none_is)

pub returns-in-Bad : goal.returns-in-Bad
returns-in-Bad g c = λ all ending comes.
    let cfg = g.T.LlTable.grammar c.args.table.now in
    let (coming, now, before) = c.tokens.invariant.parsing all ending comes in
    let (drawn, ended) = c.in-Bad.ensures.drawn coming ending now in
    bad cfg c.requires.table.accepted all _ _ c.tokens.k c.in-Bad.at ending ended (rw drawn at before)

pub returns-in-Some : goal.returns-in-Some
returns-in-Some g c = λ all ending comes.
    let cfg = g.T.LlTable.grammar c.args.table.now in
    let (coming, now, before) = c.tokens.invariant.parsing all ending comes in
    let (drawn, ended) = c.in-End.ensures.drawn coming ending now in
    let parsing = rw drawn at before in
    let (goes, ready) = rw (c.if-not-branch-3.false, c.terminals.ensures) at c.in_ok-expand-in-End.ensures in
    let (rest, top) = c.in-Some.ensures in
    let some : entries c.expand-in-End.new.stack ≡ [] → ⊥ = λ e. not_empty [] c.in-Some.field-0 rest (sym e ∙ top) in
    wrong_end cfg c.requires.table.accepted all _ _ c.tokens.k c.in-End.at ending ended parsing
    (left_over cfg c.requires.table.accepted parsing.read (entries c.expand-in-End.new.stack) c.expand-in-End.new.steps.items
    (goes.follows parsing.read parsing.state (parsing.follows cfg.terminals)) ready some)

pub returns-in-None : goal.returns-in-None
returns-in-None g c = λ all ending comes.
    let cfg = g.T.LlTable.grammar c.args.table.now in
    let (coming, now, before) = c.tokens.invariant.parsing all ending comes in
    let (drawn, ended) = c.in-End.ensures.drawn coming ending now in
    let (goes, ready) = rw (c.if-not-branch-3.false, c.terminals.ensures) at c.in_ok-expand-in-End.ensures in
    done cfg c.requires.table.accepted all (entries c.tokens.stack) c.tokens.steps.items c.expand-in-End.new.steps.items c.tokens.k c.in-End.at ending ended (rw drawn at before) (rw c.in-None.ensures at goes)
