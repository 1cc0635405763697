-- The first one, and none where the rules end.
use Rattle.std.proofs.Common.{length, map, arith, refl}
use Rattle.std.proofs.lemmas.List.{length-map}
use Rattle.std.proofs.lemmas.Option.{slice_get_read}
use Rattle.rex_model.specs.RuleMeaning.{rule_of}
use Rattle.rex_model.proofs.MeantRules.{meant_at}
use Rattle.rex_dfa.proofs.TablesOfRules.{first_is, none_at_all, none_more}
use Rattle.rex_dfa.proofs.building.first_nullable.Goals as goal

pub returns-then-nullable : goal.returns-then-nullable
returns-then-nullable c =
    let read = slice_get_read c.args.rules.now (length c.args.rules.now) c.loop-i.i c.index-rules-i.result refl c.loop-i-test.true c.index-rules-i.is in
    first_is (map rule_of c.args.rules.now) c.loop-i.i (rule_of c.index-rules-i.result) (meant_at c.args.rules.now c.loop-i.i c.index-rules-i.result read)
    (c.nullable.ensures.language.0 c.if-nullable.true) c.loop-i.invariant

pub loop-i-preserved : goal.loop-i-preserved
loop-i-preserved c =
    let read = slice_get_read c.args.rules.now (length c.args.rules.now) c.loop-i.i c.index-rules-i.result refl c.loop-i-test.true c.index-rules-i.is in
    none_more (map rule_of c.args.rules.now) c.loop-i.i (rule_of c.index-rules-i.result) (meant_at c.args.rules.now c.loop-i.i c.index-rules-i.result read) c.loop-i.invariant
    (λ word. let yes = c.nullable.ensures.language.1 word in cc)

pub returns : goal.returns
returns c = none_at_all (map rule_of c.args.rules.now) c.loop-i.i (omega (arith, length-map c.args.rules.now rule_of)) c.loop-i.invariant
