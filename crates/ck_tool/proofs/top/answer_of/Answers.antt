-- Each step gives the answer, or the next one its input.
use Rattle.std.proofs.Common.{refl}
use Rattle.ck_chain.specs.Accepts.{Accepts}
use Rattle.ck_chain.specs.Promise.{tools_of}
use Rattle.ck_tool.specs.Wanted.{ReadFailed, Wanted}
use Rattle.ck_tool.proofs.AnswerOfRun.{rose_before, reads_spec, reads_source, stop_at_spec, stop_at_refusal, stop_at_tools, stop_at_source, stop_at_meaning, output_meets, stop_meets}
use Rattle.ck_tool.proofs.top.answer_of.Goals as goal

pub returns-in_err-spec-clause-answer : goal.returns-in_err-spec-clause-answer
returns-in_err-spec-clause-answer g c = λ words asked.
    let files = g.F.Files in
    let told = files.contents c.args.files.now in
    let failed = ReadFailed files.contents files.faults words c.args.files.now c.read.new.files in
    stop_meets (Wanted told words) failed _ _ c.from_residual.ensures.1
    (stop_at_spec told words _ _ _ asked failed _ _ _ refl
    (λ rose. (c.args.command.spec.now, reads_spec told words _ _ _ asked, rose)) c.in_err-spec.ensures.stop)

pub returns-in_err-tools-clause-answer : goal.returns-in_err-tools-clause-answer
returns-in_err-tools-clause-answer g c = λ words asked.
    let files = g.F.Files in
    let told = files.contents c.args.files.now in
    let failed = ReadFailed files.contents files.faults words c.args.files.now c.read.new.files in
    let refuses = rw c.as_slice.ensures.value at c.in_err-tools.ensures.refuses in
    stop_meets (Wanted told words) failed _ _ c.from_residual-in_err-tools.ensures.1
    (stop_at_refusal told words _ _ _ asked failed _ _ c.in_ok-spec.ensures.all refuses)

pub returns-in_err-needs-clause-answer : goal.returns-in_err-needs-clause-answer
returns-in_err-needs-clause-answer g c = λ words asked.
    let told = g.F.Files.contents c.args.files.now in
    let accepts : Accepts c.in_ok-spec.spec.items (tools_of c.in_ok-tools.tools) =
    rw c.as_slice.ensures.value at c.in_ok-tools.ensures.accepts in
    stop_meets (Wanted told words) _ _ _ c.from_residual-in_err-needs.ensures.1
    (stop_at_tools told words _ _ _ asked _ _ _ _ c.in_ok-spec.ensures.all accepts c.in_err-needs.ensures.missing)

pub returns-in_err-source-clause-answer : goal.returns-in_err-source-clause-answer
returns-in_err-source-clause-answer g c = λ words asked.
    let files = g.F.Files in
    let told = files.contents c.args.files.now in
    let name = c.args.command.source.now in
    let accepts : Accepts c.in_ok-spec.spec.items (tools_of c.in_ok-tools.tools) =
    rw c.as_slice.ensures.value at c.in_ok-tools.ensures.accepts in
    let stop = rw (c.in_ok-spec.ensures.same name) at c.in_err-source.ensures.stop in
    let failed = ReadFailed files.contents files.faults words c.args.files.now c.read-2.new.files in
    stop_meets (Wanted told words) failed _ _ c.from_residual-in_err-source.ensures.1
    (stop_at_source told words _ _ _ asked _ _ c.in_ok-spec.ensures.all accepts c.in_ok-needs.ensures.all failed _ _ _ refl
    (λ rose. (
      name,
      reads_source told words _ _ _ asked _ _ c.in_ok-spec.ensures.all accepts c.in_ok-needs.ensures.all,
      rose_before _ _ _ (c.in_ok-spec.ensures.later name) rose,
    )) stop)

pub returns-in_err-output-clause-answer : goal.returns-in_err-output-clause-answer
returns-in_err-output-clause-answer g c = λ words asked.
    let told = g.F.Files.contents c.args.files.now in
    let accepts : Accepts c.in_ok-spec.spec.items (tools_of c.in_ok-tools.tools) =
    rw c.as_slice.ensures.value at c.in_ok-tools.ensures.accepts in
    let is = rw (c.in_ok-spec.ensures.same c.args.command.source.now) at c.in_ok-source.ensures.all in
    let answers = rw c.as_slice-2.ensures.value at c.in_err-output.ensures in
    stop_meets (Wanted told words) _ _ _ c.from_residual-in_err-output.ensures.1
    (stop_at_meaning told words _ _ _ asked _ _ c.in_ok-spec.ensures.all accepts c.in_ok-needs.ensures.all _ _ _ is answers)

pub returns-clause-answer : goal.returns-clause-answer
returns-clause-answer g c = λ words asked.
    let told = g.F.Files.contents c.args.files.now in
    let accepts : Accepts c.in_ok-spec.spec.items (tools_of c.in_ok-tools.tools) =
    rw c.as_slice.ensures.value at c.in_ok-tools.ensures.accepts in
    let is = rw (c.in_ok-spec.ensures.same c.args.command.source.now) at c.in_ok-source.ensures.all in
    let answers = rw c.as_slice-2.ensures.value at c.in_ok-output.ensures in
    output_meets told words _ _ _ asked _ _ c.in_ok-spec.ensures.all accepts c.in_ok-needs.ensures.all _ _ c.in_ok-output.output is answers
