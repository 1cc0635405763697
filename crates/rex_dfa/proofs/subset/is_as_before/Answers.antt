-- The set of the state is the one that is asked of.
use Rattle.std.proofs.Common.{◌≡◌, [], get_or, arith}
use Rattle.std.proofs.lemmas.Option.{get_or_from_slice_get}
use Rattle.rex_dfa.proofs.subset.is_as_before.Goals as goal

pub takes_same-requires-clause-fit : goal.takes_same-requires-clause-fit
takes_same-requires-clause-fit c =
    let same : get_or c.args.sets.now c.args.s [] ≡ c.words_of.result.now = get_or_from_slice_get c.args.sets.now c.args.s c.words_of.result.now [] c.words_of.ensures in
    rw (← same) c.requires.fit

pub returns : goal.returns
returns c = λ yes.
    let same : get_or c.args.sets.now c.args.s [] ≡ c.words_of.result.now = get_or_from_slice_get c.args.sets.now c.args.s c.words_of.result.now [] c.words_of.ensures in
    (omega arith, rw same (c.takes_same.ensures yes))
