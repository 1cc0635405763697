-- Each turn puts the family of one line behind.
use Rattle.std.proofs.Common.{arith, map, refl}
use Rattle.node_spec.specs.within.AstSeen.{declared_by}
use Rattle.node_spec.proofs.AstGathered.{line_at, at_end}
use Rattle.node_spec.proofs.AstFamilies.{no_families_yet, family_more, families_apart}
use Rattle.node_spec.proofs.families.families_of.Goals as goal

pub loop-line-init : goal.loop-line-init
loop-line-init c = no_families_yet (map declared_by c.args.list.now) _ _ c.new-names.ensures c.new-targets.ensures.items

pub add_family-requires : goal.add_family-requires
add_family-requires c =
    let few = c.loop-line.invariant.named.few in let less = c.loop-line-test.true in omega (arith, few, less)

pub loop-line-preserved : goal.loop-line-preserved
loop-line-preserved c =
    let at = line_at c.args.list.now c.loop-line.line-index _ _ refl c.loop-line-test.true in
    family_more _ _ _ _ _ _ _ at c.loop-line.invariant c.in_ok-add_family.ensures.names c.in_ok-add_family.ensures.sides

pub returns : goal.returns
returns c =
    let end = at_end _ c.args.list.now c.loop-line.auto.line-index-end c.loop-line-test.false in
    families_apart _ _ _ end c.requires.apart c.loop-line.invariant
