-- One rule more; the best of all rules wins.
use Rattle.std.proofs.Common.{refl, ◌∙◌, map}
use Rattle.std.proofs.lemmas.List.{length-map}
use Rattle.std.proofs.lemmas.Option.{slice_get_read}
use Rattle.rex_model.specs.RuleMeaning.{rule_of}
use Rattle.rex_model.proofs.MeantRules.{meant_at, room_at}
use Rattle.rex_model.proofs.BestOfRules.{best_more, best_of_all}
use Rattle.rex_model.proofs.winner.winner.Goals as goal

pub pair_of_rule-found-requires : goal.pair_of_rule-found-requires
pair_of_rule-found-requires c =
    let read = slice_get_read c.args.rules.now _ c.loop-i.i c.index-rules-i.result refl c.loop-i-test.true c.index-rules-i.is in
    let room = room_at _ _ _ _ c.requires.room (meant_at c.args.rules.now c.loop-i.i c.index-rules-i.result read) in
    record { room = rw c.loop-i.invariant.0 room.0; behind = rw c.loop-i.invariant.0 room.1 }

pub loop-i-preserved : goal.loop-i-preserved
loop-i-preserved c =
    let rules = map rule_of c.args.rules.now in
    let read = slice_get_read c.args.rules.now _ c.loop-i.i c.index-rules-i.result refl c.loop-i-test.true c.index-rules-i.is in
    let is_rule = meant_at c.args.rules.now c.loop-i.i c.index-rules-i.result read in (
      c.pair_of_rule-found.ensures.same ∙ c.loop-i.invariant.0,
      rw c.longer-best.ensures (best_more rules _ _ c.loop-i.i (rule_of c.index-rules-i.result) is_rule c.loop-i.best _
          c.pair_of_rule-found.ensures.best c.loop-i.invariant.1),
    )

pub returns-clause-best : goal.returns-clause-best
returns-clause-best c =
    best_of_all (map rule_of c.args.rules.now) _ _ c.loop-i.i c.loop-i.best
    (rw (length-map c.args.rules.now rule_of) c.loop-i-test.false) c.loop-i.invariant.1
