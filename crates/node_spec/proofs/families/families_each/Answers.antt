-- Each turn looks up one nonterminal.
use Rattle.std.proofs.Common.{◌∙◌, ap, map, arith}
use Rattle.spec_text.proofs.Lists.{take_all}
use Rattle.node_spec.specs.within.AstUnknown.{family_after}
use Rattle.node_spec.proofs.AstFamilies.{one_family_more}
use Rattle.node_spec.proofs.families.families_each.Goals as goal

pub loop-n-preserved : goal.loop-n-preserved
loop-n-preserved c = λ ds are.
    one_family_more c.args.families.now.names ds c.args.nonterminals.now c.loop-n.n _ _ _ _ c.text_of.ensures
    (c.loop-n.invariant ds are) (c.family_of-family.ensures ds are) c.in_ok-push.ensures.items

pub returns : goal.returns
returns c = λ ds are.
    let past = c.loop-n-test.false in let end = c.loop-n.auto.n-end in let count = c.len-n-end.ensures in
    c.loop-n.invariant ds are
    ∙ ap (map (family_after c.args.families.now.names ds))
    (take_all c.args.nonterminals.now c.loop-n.n (omega (arith, past, end, count)))
