-- What a scan answers, by the best rule for the text that is left.
use Rattle.std.proofs.Common.{◌<◌, length, map, arith}
use Rattle.std.proofs.lemmas.List.{take_rest, length-map}
use Rattle.std.proofs.lemmas.Option.{slice_get_within, slice_get_read}
use Rattle.rex_model.specs.Run.{end, bad}
use Rattle.rex_model.specs.RuleMeaning.{rule_of}
use Rattle.rex_model.proofs.MeantRules.{meant_at}
use Rattle.rex_model.proofs.ScanOfWinner.{scan_of_winner}
use Rattle.rex_model.proofs.winner.scan_with.Goals as goal

pub returns-then-at-text-clause-scan : goal.returns-then-at-text-clause-scan
returns-then-at-text-clause-scan c = end (omega arith)

pub index-requires : goal.index-requires
index-requires c =
    let won = rw c.in-Some.is at (rw (take_rest, c.deref.ensures.value) at c.winner.ensures.best) in
    let within : c.in-Some.best.rule < length (map rule_of c.args.rules.now.rules.items) = slice_get_within _ _ _ won.candidate.is_rule in
    omega (arith, length-map c.args.rules.now.rules.items rule_of, c.args.rules.now.rules.ok.0)

pub returns-in-Some-clause-scan : goal.returns-in-Some-clause-scan
returns-in-Some-clause-scan c =
    let rules = c.args.rules.now.rules in
    let won = rw c.in-Some.is at (rw (take_rest, c.deref.ensures.value) at c.winner.ensures.best) in
    let within : c.in-Some.best.rule < length (map rule_of rules.items) = slice_get_within _ _ _ won.candidate.is_rule in
    let among : c.in-Some.best.rule < length rules.items = omega (arith, length-map rules.items rule_of, within) in
    let read = slice_get_read rules.items _ _ c.index.result.now rules.ok.0 (omega (arith, rules.ok.0)) c.index.ensures in
    scan_of_winner _ _ _ _ _ _ _ (rule_of c.index.result.now) _ won (meant_at rules.items _ _ read) c.scan_of.ensures.token c.scan_of.ensures.skip

pub returns-in-None-clause-scan : goal.returns-in-None-clause-scan
returns-in-None-clause-scan c =
    bad (omega arith) (rw c.in-None.is at (rw (take_rest, c.deref.ensures.value) at c.winner.ensures.best))
