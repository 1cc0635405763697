-- Each turn looks at one word.
use Rattle.std.proofs.Common.{map}
use Rattle.spec_text.proofs.Lists.{map_get, get_at}
use Rattle.spec_text.specs.Seen.{bytes_of}
use Rattle.node_spec.proofs.AstTwicePasses.{among_here, word_without, not_among, map_end}
use Rattle.node_spec.proofs.reserved.is_among.Goals as goal

pub returns-then-are_equal : goal.returns-then-are_equal
returns-then-are_equal c =
    let at = map_get bytes_of c.args.words.now c.loop-known.known-index _
    (get_at c.args.words.now c.loop-known.known-index _ c.loop-known-test.true) in
    among_here (map bytes_of c.args.words.now) c.loop-known.known-index _ c.args.word.now _ at c.are_equal.ensures
    c.if-are_equal.true

pub loop-known-preserved : goal.loop-known-preserved
loop-known-preserved c =
    let at = map_get bytes_of c.args.words.now c.loop-known.known-index _
    (get_at c.args.words.now c.loop-known.known-index _ c.loop-known-test.true) in
    word_without (map bytes_of c.args.words.now) c.loop-known.known-index _ c.args.word.now _ at c.are_equal.ensures
    c.if-are_equal.false c.loop-known.invariant

pub returns : goal.returns
returns c =
    not_among (map bytes_of c.args.words.now) c.loop-known.known-index c.args.word.now
    (map_end bytes_of c.args.words.now c.loop-known.known-index c.loop-known.auto.known-index-end c.loop-known-test.false)
    c.loop-known.invariant
