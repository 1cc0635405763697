-- What `NeverFails::add` promises, from what its folder tells after a put.
use Rattle.ck_io.proofs.AddedFile.{AddsFile-with_file, AddsFile-unwrap_or}
use Rattle.ck_io.proofs.never_fails.NeverFails.add.Goals as goal

pub returns-clause-added : goal.returns-clause-added
returns-clause-added c = rw (← c.self.view_is, c.in_ok-put.ensures.ok) (AddsFile-unwrap_or _ _ _ _ (AddsFile-with_file _ _))
