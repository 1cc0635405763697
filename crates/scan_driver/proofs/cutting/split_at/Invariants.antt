use Rattle.std.proofs.Common.{map, ◌≡◌, drop}
use Rattle.rex_model.specs.Tables.{split_of}
use Rattle.rex_model.specs.TableMeaning.{halves_of}
use Rattle.scan_driver.proofs.cutting.split_at.Given as goal

abbrev pub invariant-loop-split : goal.invariant-loop-split
invariant-loop-split l = split_of (map halves_of (drop l.split-index l.splits)) l.rule ≡ split_of (map halves_of l.splits) l.rule
