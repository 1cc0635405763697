use Rattle.std.proofs.Common.{map}
use Rattle.rex_model.specs.TableMeaning.{halves_of}
use Rattle.scan_driver.proofs.Behind.{cut_at_greatest}
use Rattle.scan_driver.proofs.cutting.cut.Goals as goal

pub returns-in-Some : goal.returns-in-Some
returns-in-Some c = cut_at_greatest (map halves_of c.args.splits.now) c.args.word.now c.args.rule c.greatest.result (halves_of c.in-Some.split.now) c.in-Some.ensures.0
    c.greatest.ensures.greatest c.greatest.ensures.parts c.requires.some
