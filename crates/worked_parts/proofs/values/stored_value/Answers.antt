use Rattle.std.proofs.Common.{false, sym, subst}
use Rattle.expr_lang.specs.Meaning.{meant}
use Rattle.value_store.specs.Cells.{cells_of}
use Rattle.worked_parts.specs.Making.{AllMake}
use Rattle.worked_parts.proofs.PlainReady.{stored_ready}
use Rattle.worked_parts.proofs.values.stored_value.Goals as goal

pub eval-requires : goal.eval-requires
eval-requires c = let texts = c.args.texts.now in
    stored_ready (cells_of c.new-cells.result.units) (meant texts c.args.e.now) c.in-Some._of c.empty_map.result c.as_slice.result.now
    (c.in-Some.ensures texts.source.now texts.literals.now (λ node family. false)) c.empty_map.ensures.map (subst AllMake (sym c.as_slice.ensures.value) c.in_ok-makers.ensures)
