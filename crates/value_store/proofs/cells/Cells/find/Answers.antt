use Rattle.std.proofs.Common.{sym, ap, ◌∙◌}
use Rattle.value_store.specs.Maps.{first_with, entries}
use Rattle.value_store.specs.Cells.{pairs_at, cells_of}
use Rattle.value_store.proofs.PairFound.{no_pairs}
use Rattle.value_store.proofs.cells.Cells.find.Goals as goal

pub returns : goal.returns
returns c = sym (ap (λ m. first_with c.args.wanted.now (entries c.args.texts.now.source.now c.args.texts.now.literals.now (pairs_at (cells_of c.args.self.now.units) m))) c.loop-at-test.false ∙ ap (λ ps. first_with c.args.wanted.now (entries c.args.texts.now.source.now c.args.texts.now.literals.now ps)) (no_pairs c.args.self.now.units)) ∙ c.loop-at.invariant.same
