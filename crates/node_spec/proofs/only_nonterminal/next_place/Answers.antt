-- Each turn looks at one symbol.
use Rattle.std.proofs.Common.{◌∙◌, refl, sym}
use Rattle.node_spec.proofs.AstUnknownLists.{none_passed_yet, terminal_passed, place_here, nothing_passed}
use Rattle.node_spec.proofs.only_nonterminal.next_place.Goals as goal

pub loop-i-init : goal.loop-i-init
loop-i-init c = none_passed_yet _ _

pub loop-i-preserved : goal.loop-i-preserved
loop-i-preserved c =
    terminal_passed c.args.right.now c.args.from c.loop-i.i _ _ refl c.loop-i-test.true c.loop-i.invariant
    (sym c.is_nonterminal.ensures ∙ c.if-is_nonterminal.false)

pub returns-then-is_nonterminal : goal.returns-then-is_nonterminal
returns-then-is_nonterminal c =
    place_here c.args.right.now c.args.from c.loop-i.i _ _ refl c.loop-i-test.true c.loop-i.invariant
    (sym c.is_nonterminal.ensures ∙ c.if-is_nonterminal.true)

pub returns : goal.returns
returns c = nothing_passed _ _ _ c.loop-i-test.false c.loop-i.invariant
