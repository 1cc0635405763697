-- The lines, and then their order.
use Rattle.std.proofs.Common.{sym, subst}
use Rattle.spec_text.specs.Spans.{AreLinesOf}
use Rattle.spec_text.proofs.PassedOn.{passed_on}
use Rattle.spec_text.proofs.Spelled.{lines_spelled}
use Rattle.spec_text.proofs.OneSections.{section_fault}
use Rattle.spec_text.proofs.read.sections.Goals as goal

pub parts_of-requires-clause-read : goal.parts_of-requires-clause-read
parts_of-requires-clause-read c =
    let found = c.in_ok-lines.ensures.lines in
    (found.lines, subst (λ l. AreLinesOf c.args.spec.now l found.lines) (sym c.as_slice.ensures.value) (lines_spelled _ _ _ found))

pub returns-in_err-parts-clause-fault : goal.returns-in_err-parts-clause-fault
returns-in_err-parts-clause-fault c =
    let found = c.in_ok-lines.ensures.lines in
    let spans = subst (λ l. AreLinesOf c.args.spec.now l found.lines) (sym c.as_slice.ensures.value) (lines_spelled _ _ _ found) in
    passed_on _ _ _ c.from_residual-in_err-parts.ensures.1 (section_fault _ _ _ _ found.read (c.in_err-parts.ensures.fault found.lines spans))

pub returns-clause-sections : goal.returns-clause-sections
returns-clause-sections c =
    let found = c.in_ok-lines.ensures.lines in
    let spans = subst (λ l. AreLinesOf c.args.spec.now l found.lines) (sym c.as_slice.ensures.value) (lines_spelled _ _ _ found) in
    record {
      lines = found.lines;
      sections = record { count = _; read = found.read; are = c.in_ok-parts.ensures.parts found.lines spans };
      spans = lines_spelled _ _ _ found;
    }
