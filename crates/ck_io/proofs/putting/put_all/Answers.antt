-- One piece more keeps what holds while bytes are put.
use Rattle.std.proofs.Common.{arith}
use Rattle.ck_io.proofs.Pieces.{Appends-rest}
use Rattle.ck_io.proofs.putting.put_all.Goals as goal

pub loop-written-preserved : goal.loop-written-preserved
loop-written-preserved g c =
    record {
      within = omega (arith, c.in-Ok.ensures.within);
      front = Appends-rest _ _ _ _ _ _ c.loop-written.invariant.front c.in-Ok.ensures.front;
      later = omega arith;
    }
