-- One part more.
use Rattle.std.proofs.Common.{map, arith}
use Rattle.std.proofs.lemmas.List.{at_drop_all}
use Rattle.rex_model.specs.Meaning.{meaning}
use Rattle.rex_model.proofs.MeaningsOfParts.{meanings_at}
use Rattle.rex_model.proofs.FirstOfParts.{front_sequence_more, front_sequence_done, front_alternatives_more, front_alternatives_done}
use Rattle.rex_model.proofs.firsts.+first.Goals as goal

pub front_of_sequence-loop-part-preserved : goal.front_of_sequence-loop-part-preserved
front_of_sequence-loop-part-preserved t c =
    let e = meanings_at c.args.parts.now c.loop-part.part-index c.part-item.result (omega arith) c.part-item.is in
    let before = rw e at c.loop-part.invariant in
    front_sequence_more _ _ (meaning c.part-item.result) _ _ _ _ _ _ _ _ before
    c.front_of_part-own.ensures.first c.front_of_part-own.ensures.past c.front_of_part-own.ensures.empty

pub front_of_sequence-returns-clause-first : goal.front_of_sequence-returns-clause-first
front_of_sequence-returns-clause-first t c =
    let none = at_drop_all (map meaning) c.args.parts.now c.loop-part.part-index c.loop-part-test.false in
    front_sequence_done _ _ _ _ _ _ (rw none at c.loop-part.invariant)

pub front_of_alternatives-loop-part-preserved : goal.front_of_alternatives-loop-part-preserved
front_of_alternatives-loop-part-preserved t c =
    let e = meanings_at c.args.parts.now c.loop-part.part-index c.part-item.result (omega arith) c.part-item.is in
    let before = rw e at c.loop-part.invariant in
    front_alternatives_more _ _ (meaning c.part-item.result) _ _ _ _ _ _ _ _ before
    c.add_front-own.ensures.first c.add_front-own.ensures.past c.add_front-own.ensures.empty

pub front_of_alternatives-returns-clause-first : goal.front_of_alternatives-returns-clause-first
front_of_alternatives-returns-clause-first t c =
    let none = at_drop_all (map meaning) c.args.parts.now c.loop-part.part-index c.loop-part-test.false in
    front_alternatives_done _ _ _ _ _ _ (rw none at c.loop-part.invariant)
