-- The words are wrong, or the run ends by what was found.
use Rattle.std.proofs.Common.{map, string_bytes, refl}
use Rattle.ck_tool.specs.Wanted.{ReadFailed}
use Rattle.ck_tool.specs.Words.{for_stage, of_stage}
use Rattle.ck_tool.proofs.Ends.{by_wrong_words, usage_by_words, by_found, usage_by_run, writes_only_done, exactly_wanted}
use Rattle.ck_tool.proofs.top.cocktail.Goals as goal

pub returns-in_default-clause-run : goal.returns-in_default-clause-run
returns-in_default-clause-run g c = by_wrong_words _ _ _ _ _ _ c.in_default.ensures refl c.tell.ensures

pub returns-in_default-clause-exactly : goal.returns-in_default-clause-exactly
returns-in_default-clause-exactly g c = exactly_wanted _ _ _ _ _ _ (by_wrong_words _ _ _ _ _ _ c.in_default.ensures refl c.tell.ensures)

pub returns-in_default-clause-usage : goal.returns-in_default-clause-usage
returns-in_default-clause-usage g c = usage_by_words _ _ _ c.in_default.ensures c.tell.ensures

pub returns-clause-run : goal.returns-clause-run
returns-clause-run g c =
    let asked = c.in-Some.ensures in
    let found = c.answer_of-found in
    by_found _ _ _ _ _ _ found.result (found.ensures.answer _ asked) (c.finish.ensures _ (for_stage _ _ _ asked))

pub returns-clause-exactly : goal.returns-clause-exactly
returns-clause-exactly g c =
    let asked = c.in-Some.ensures in
    let found = c.answer_of-found in
    exactly_wanted _ _ _ _ _ _
    (by_found _ _ _ _ _ _ found.result (found.ensures.answer _ asked) (c.finish.ensures _ (for_stage _ _ _ asked)))

pub returns-clause-usage : goal.returns-clause-usage
returns-clause-usage g c =
    let files = g.F.Files in
    let words = map string_bytes c.args.words.now.items in
    let asked = c.in-Some.ensures in
    let found = c.answer_of-found in
    usage_by_run (files.contents c.args.files.now) words
    (ReadFailed files.contents files.faults words c.args.files.now found.new.files) _ _ _ (of_stage _ _ _ asked)
    (by_found _ _ _ _ _ _ found.result (found.ensures.answer _ asked) (c.finish.ensures _ (for_stage _ _ _ asked)))

pub returns-clause-output : goal.returns-clause-output
returns-clause-output g c = writes_only_done _ _ _ _ _ _ (c.finish.ensures _ (for_stage _ _ _ c.in-Some.ensures))
