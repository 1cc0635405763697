-- A nonterminal lacks a family, or a rule lacks a build, or neither.
use Rattle.std.proofs.Common.{map, refl}
use Rattle.node_spec.specs.within.AstSeen.{declared_by}
use Rattle.node_spec.proofs.AstUnknownHead.{sides_as_many, family_fault, head_is}
use Rattle.node_spec.proofs.unknown_head.is_head_unknown.Goals as goal

pub one_lacks_family-requires : goal.one_lacks_family-requires
one_lacks_family-requires c = sides_as_many (map declared_by c.args.list.now) _ c.requires.families

pub returns-then-one_lacks_family : goal.returns-then-one_lacks_family
returns-then-one_lacks_family c = (
  (λ is. family_fault c.args.g.now
      (map declared_by c.args.list.now) c.args.families.now _ _ c.requires.families c.in_ok-nodes.ensures
      c.in_ok-builds.ensures (c.one_lacks_family.ensures.0 c.if-one_lacks_family.true)),
  (λ fault. refl),
)

pub returns : goal.returns
returns c =
    head_is c.args.g.now (map declared_by c.args.list.now) c.args.families.now _ _ c.requires.families
    c.in_ok-nodes.ensures
    c.in_ok-builds.ensures _ _ c.one_lacks_family.ensures c.one_lacks_build-lacks.ensures c.if-one_lacks_family.false
