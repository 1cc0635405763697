use Rattle.std.proofs.Common.{map, arith}
use Rattle.rex_model.specs.RuleMeaning.{rule_of}
use Rattle.std.proofs.lemmas.List.{length-map}
use Rattle.rex_model.specs.TableMeaning.{halves_of}
use Rattle.rex_dfa.proofs.SplitSets.{splits_done}
use Rattle.rex_dfa.proofs.splitting.splits_of.Goals as goal

pub returns : goal.returns
returns c = splits_done (map rule_of c.args.rules.now) c.loop-i.i (map halves_of c.loop-i.splits.items) c.loop-i.total (omega (arith, length-map c.args.rules.now rule_of)) c.loop-i.invariant
