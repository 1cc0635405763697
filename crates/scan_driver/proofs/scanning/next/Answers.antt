use Rattle.std.proofs.Common.{length, refl, arith, subst}
use Rattle.std.proofs.lemmas.List.{take_rest}
use Rattle.std.proofs.lemmas.Option.{slice_get_read}
use Rattle.rex_model.specs.Run.{bad, end}
use Rattle.rex_model.specs.Winner.{Winner, HasNoCandidate}
use Rattle.rex_model.specs.TableMeaning.{tables_of}
use Rattle.scan_driver.proofs.NextOfTables.{scan_of_action}
use Rattle.scan_driver.proofs.scanning.next.Goals as goal

pub returns-then-at-text : goal.returns-then-at-text
returns-then-at-text c = λ rules gives. end (omega arith)

pub returns-in-Some : goal.returns-in-Some
returns-in-Some c = λ rules gives.
    let found = c.in-Some.found in
    let (m, wins) = c.in-Some.ensures.wins rules gives in
    let here = subst (λ rest. Winner rules c.args.state rest found.rule found.len m) (take_rest c.args.text.now c.args.at) wins in
    let action = slice_get_read (tables_of c.args.tables.now).actions (length (tables_of c.args.tables.now).actions) found.rule c.index.result.now refl c.in-Some.ensures.has_action c.index.ensures in
    rw c.scan_of.ensures (scan_of_action (tables_of c.args.tables.now) rules c.args.text.now c.args.state c.args.at found.rule found.len m c.index.result.now gives c.requires.state here action)

pub returns-in-None : goal.returns-in-None
returns-in-None c = λ rules gives.
    bad (omega arith) (subst (λ rest. HasNoCandidate rules c.args.state rest) (take_rest c.args.text.now c.args.at) (c.in-None.ensures rules gives))
