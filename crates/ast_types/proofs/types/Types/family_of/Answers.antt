use Rattle.std.proofs.Common.{ap, arith, subst}
use Rattle.ast_types.specs.TypeTable.{IsNumbered}
use Rattle.ast_types.proofs.Counts.{type_read}
use Rattle.ast_types.proofs.types.Types.family_of.Goals as goal

pub returns-clause-there : goal.returns-clause-there
returns-clause-there c =
    let there = (subst IsNumbered c.self.view_is c.self.invariant).sound.family_there c.args.t c.requires in
    let row = type_read _ _ _ _ _ (ap (λ k. k.types) c.self.view_is) c.as_slice.ensures.value c.type_row.ensures in
    omega (arith, there, ap (λ r. r.family) row)
