-- A read whose number stands among those that fail is a failing one.
use Rattle.std.proofs.Common.{refl, inl}
use Rattle.ck_io.proofs.mem_files.MemFilesFiles.read_at.Goals as goal

pub returns-then-fails-clause-failing : goal.returns-then-fails-clause-failing
returns-then-fails-clause-failing c = rw (← c.self.view_is) (λ _. inl (c.if-fails.ensures.fails.0 refl), λ _. refl)
