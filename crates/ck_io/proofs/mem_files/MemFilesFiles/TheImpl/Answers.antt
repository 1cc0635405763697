-- A count that has one more rose.
use Rattle.std.proofs.Common.{refl, arith}
use Rattle.std.proofs.lemmas.Result.{on_err_weaker}
use Rattle.ck_io.proofs.mem_files.MemFilesFiles.TheImpl.Goals as goal

pub read_at-tells : goal.read_at-tells
read_at-tells c = record {
  within = c.ensures.within;
  part = c.ensures.part;
  same = c.ensures.same;
  cause = on_err_weaker c.result (λ counts. omega (arith, counts.counted c.args.name.now refl)) c.ensures.counted;
  later = c.ensures.later;
}
