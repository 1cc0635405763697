-- Each turn looks at one nonterminal.
use Rattle.std.proofs.Common.{arith, refl}
use Rattle.node_spec.proofs.AstUnknownHead.{family_lacked, family_there, families_there}
use Rattle.node_spec.proofs.unknown_head.one_lacks_family.Goals as goal

pub loop-n-init : goal.loop-n-init
loop-n-init c = λ j name less at lacks. absurd (omega (arith, less))

pub returns-then-lacks_family : goal.returns-then-lacks_family
returns-then-lacks_family c = (
  (λ is. family_lacked c.args.nonterminals.now _ _ _ c.loop-n.n _ c.text_of.ensures
      (c.lacks_family.ensures.0 c.if-lacks_family.true)),
  (λ one. refl),
)

pub loop-n-preserved : goal.loop-n-preserved
loop-n-preserved c =
    family_there c.args.nonterminals.now _ _ _ c.loop-n.n _ c.text_of.ensures c.loop-n.invariant
    (λ lacks. let is = c.lacks_family.ensures.1 lacks in let e = c.if-lacks_family.false in cc)

pub returns : goal.returns
returns c = (
  (λ is. cc),
  (λ one. absurd (families_there c.args.nonterminals.now _ _ _ c.loop-n.n
      (let past = c.loop-n-test.false in let count = c.len-n-end.ensures in omega (arith, past, count))
      c.loop-n.invariant one)),
)
