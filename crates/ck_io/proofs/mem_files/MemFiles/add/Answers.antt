-- What `MemFiles::add` promises, from what its folder tells after a put.
use Rattle.std.proofs.Common.{sym, refl}
use Rattle.ck_io.proofs.AddedFile.{AddsFile-with_file, place_in-with_file}
use Rattle.ck_io.proofs.mem_files.MemFiles.add.Goals as goal

pub returns-in_ok-put-in-Some-clause-added : goal.returns-in_ok-put-in-Some-clause-added
returns-in_ok-put-in-Some-clause-added c = rw (← c.self.view_is, c.in_ok-put-in-Some.ensures.ok) (AddsFile-with_file _ _)

pub returns-in_ok-put-in-None-clause-added : goal.returns-in_ok-put-in-None-clause-added
returns-in_ok-put-in-None-clause-added c = rw (← c.self.view_is, c.in_ok-put-in-None.ensures.ok) (AddsFile-with_file _ _)

pub returns-in_ok-put-in-Some-clause-faults : goal.returns-in_ok-put-in-Some-clause-faults
returns-in_ok-put-in-Some-clause-faults c = λ other.
    let places = place_in-with_file c.self.inside.folder (c.args.name.now, c.args.bytes.now) c.in-Some.field-0 (sym c.in-Some.ensures) other in
    rw (← c.self.view_is, c.in_ok-put-in-Some.ensures.ok, places) refl
