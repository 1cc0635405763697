-- A token that is no name is none among names.
use Rattle.front_spec.proofs.Productions.{not_all_names}
use Rattle.front_spec.proofs.production.all_names.Goals as goal

pub returns-in_default : goal.returns-in_default
returns-in_default c =
    not_all_names c.args.tokens.now c.loop-token.token-index _ c.loop-token-test.true (rw c.in_default.is at c.name_in.ensures)
