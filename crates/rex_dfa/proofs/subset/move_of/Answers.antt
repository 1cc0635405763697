use Rattle.std.proofs.Common.{◌≡◌, get_or, []}
use Rattle.std.proofs.lemmas.Option.{get_or_from_slice_get}
use Rattle.ck_base.specs.BitSet.{Has}
use Rattle.rex_dfa.specs.within.Positions.{NextOf}
use Rattle.rex_dfa.proofs.StateNumbers.{found_alike}
use Rattle.rex_dfa.proofs.subset.move_of.Goals as goal

pub returns-clause-number : goal.returns-clause-number
returns-clause-number c =
    let same : get_or c.args.sets.now c.args.s [] ≡ c.words_of-from.result.now = get_or_from_slice_get c.args.sets.now c.args.s c.words_of-from.result.now [] c.words_of-from.ensures in
    rw same (found_alike c.args.positions.now c.args.sets.now c.number_of.new.sets (Has c.next.new.to) (NextOf c.args.positions.now c.words_of-from.result.now c.args.byte)
    c.number_of.result c.next.ensures.next c.number_of.ensures)
