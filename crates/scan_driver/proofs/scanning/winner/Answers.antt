use Rattle.std.proofs.Common.{map, ◌≡◌, ◌∙◌, subst, List, take}
use Rattle.std.proofs.lemmas.List.{get_or_default}
use Rattle.rex_model.specs.Runs.{IsLongestRun, AcceptsNothing}
use Rattle.rex_model.specs.Tables.{IsCut, start_of}
use Rattle.rex_model.specs.TableMeaning.{halves_of, tables_of}
use Rattle.rex_model.specs.declared.tables.Split.{Split}
use Rattle.scan_driver.proofs.NextOfTables.{won}
use Rattle.scan_driver.proofs.scanning.winner.Goals as goal

pub returns-in_err-found : goal.returns-in_err-found
returns-in_err-found c =
    let start : c.index.result.now ≡ start_of (tables_of c.args.tables.now) c.args.state = c.index.ensures ∙ get_or_default (tables_of c.args.tables.now).starts c.args.state c.index.result.now 0 c.requires.state in
    let nothing : AcceptsNothing (tables_of c.args.tables.now).main (start_of (tables_of c.args.tables.now) c.args.state) c.args.rest.now = subst (λ s. AcceptsNothing (tables_of c.args.tables.now).main s c.args.rest.now) start c.in_err-found.ensures in
    rw c.from_residual.ensures (λ rules gives. gives.none c.args.state c.args.rest.now c.requires.state c.known_bytes.ensures nothing)

pub cut-len-requires-clause-some : goal.cut-len-requires-clause-some
cut-len-requires-clause-some c =
    let start : c.index.result.now ≡ start_of (tables_of c.args.tables.now) c.args.state = c.index.ensures ∙ get_or_default (tables_of c.args.tables.now).starts c.args.state c.index.result.now 0 c.requires.state in
    let found = c.in_ok-found.found in
    let longest : IsLongestRun (tables_of c.args.tables.now).main (start_of (tables_of c.args.tables.now) c.args.state) c.args.rest.now found.rule found.len = subst (λ s. IsLongestRun (tables_of c.args.tables.now).main s c.args.rest.now found.rule found.len) start c.in_ok-found.ensures in
    let (rules, gives) = c.requires.gives in
    let (n, is_cut, wins) = gives.winner c.args.state c.args.rest.now found.rule found.len c.requires.state c.known_bytes.ensures longest in
    (n, rw c.deref.ensures.value is_cut)

pub returns : goal.returns
returns c =
    let start : c.index.result.now ≡ start_of (tables_of c.args.tables.now) c.args.state = c.index.ensures ∙ get_or_default (tables_of c.args.tables.now).starts c.args.state c.index.result.now 0 c.requires.state in
    let found = c.in_ok-found.found in
    let longest : IsLongestRun (tables_of c.args.tables.now).main (start_of (tables_of c.args.tables.now) c.args.state) c.args.rest.now found.rule found.len = subst (λ s. IsLongestRun (tables_of c.args.tables.now).main s c.args.rest.now found.rule found.len) start c.in_ok-found.ensures in
    won (tables_of c.args.tables.now) c.args.state c.args.rest.now c.requires.state c.known_bytes.ensures found.rule found.len c.cut-len.result c.requires.gives longest
    (subst (λ (splits : List Split). IsCut (map halves_of splits) (take found.len c.args.rest.now) found.rule c.cut-len.result) c.deref.ensures.value c.cut-len.ensures)
