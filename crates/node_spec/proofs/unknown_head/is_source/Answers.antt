-- By the number of the family.
use Rattle.std.proofs.Common.{arith, ◌∙◌, sym}
use Rattle.spec_text.proofs.Lists.{get_fits}
use Rattle.node_spec.proofs.AstUnknownHead.{source_is, no_source}
use Rattle.node_spec.proofs.unknown_head.is_source.Goals as goal

pub is_source_at-requires : goal.is_source_at-requires
is_source_at-requires c =
    let less = get_fits c.args.families.now.names c.in-Some.n c.args.name.now
    ((c.find.ensures.found _).0 c.in-Some.is) in
    let many = c.requires in omega (arith, less, many)

pub returns-in-Some : goal.returns-in-Some
returns-in-Some c =
    let less = get_fits c.args.families.now.names c.in-Some.n c.args.name.now
    ((c.find.ensures.found _).0 c.in-Some.is) in
    let many = c.requires in
    source_is c.args.families.now.names c.args.families.now.targets.items c.args.name.now c.in-Some.n _
    c.is_source_at.ensures (sym c.find.ensures.number ∙ c.in-Some.is) (omega (arith, less, many))

pub returns-in-None : goal.returns-in-None
returns-in-None c = (
  (λ is. cc),
  (λ source. absurd (no_source c.args.families.now.names c.args.families.now.targets.items c.args.name.now
      (sym c.find.ensures.number ∙ c.in-None.is) source)),
)
