-- What a writer of std is as a sink.
use Rattle.std.specs.Prelude.{ℕ}

-- the writer, and the count of its puts that failed
pub record CountedWriter (W : Type 0) : Type 0 where
  pub writer : W
  pub faults : ℕ
