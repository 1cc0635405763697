-- What a read of the disk promises is what all `Files` promise.
use Rattle.std.proofs.Common.{refl, arith}
use Rattle.std.proofs.lemmas.Result.{IfOk-weaker, on_err_weaker}
use Rattle.ck_io.proofs.disk_files.DiskFilesFiles.TheImpl.Goals as goal

pub read_at-tells : goal.read_at-tells
read_at-tells g c = record {
  within = c.ensures.within;
  part = IfOk-weaker c.result _ _ (λ n within. tt) c.ensures.within;
  same = λ name. refl;
  cause = on_err_weaker c.result (λ more. omega (arith, more)) c.ensures.counted;
  later = λ name. c.ensures.later;
}
