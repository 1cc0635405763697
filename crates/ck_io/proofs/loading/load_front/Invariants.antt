-- While a file is loaded, the bytes so far are its first ones.
use Rattle.std.proofs.Common.{◌-◌, ◌≤◌, IfSome, vec_len}
use Rattle.std.specs.Io.{StartsWith}
use Rattle.ck_io.specs.Contents.{SameContents}
use Rattle.ck_io.specs.Faults.{NoneFell}
use Rattle.ck_io.proofs.loading.load_front.Given as goal

abbrev pub invariant-loop-buffer : goal.invariant-loop-buffer
invariant-loop-buffer g l = record {
  within : vec_len l.bytes ≤ l.most;
  front : IfSome (g.F.Files.contents l.initial.files l.name) (λ all. StartsWith all l.bytes.items);
  same : SameContents (g.F.Files.contents l.initial.files) (g.F.Files.contents l.files);
  later : NoneFell (g.F.Files.faults l.initial.files) (g.F.Files.faults l.files);
}

abbrev pub decreases-loop-buffer : goal.decreases-loop-buffer
decreases-loop-buffer g l = l.most - vec_len l.bytes
