use Rattle.std.proofs.Common.{ap, ◌∙◌, subst}
use Rattle.ast_types.specs.TypeTable.{IsNumbered}
use Rattle.ast_types.proofs.Counts.{type_read}
use Rattle.ast_types.proofs.types.Types.base_of.Goals as goal

pub returns-clause-before : goal.returns-clause-before
returns-clause-before c = λ b is.
    (subst IsNumbered c.self.view_is c.self.invariant).sound.base_before c.args.t b
    (ap (λ r. r.base) (type_read _ _ _ _ _ (ap (λ k. k.types) c.self.view_is) c.as_slice.ensures.value c.type_row.ensures) ∙ is)
