-- Sets of one size.
use Rattle.std.specs.Prelude.{◌≡◌, ◌^◌, ◌<◌}
use Rattle.ck_base.specs.BitSet.{BitSet}

-- the four sets have the same size, which is a number of 32 bits
pub record IsOneSize (a b c d : BitSet) : Type 0 where
  pub second : b.size ≡ a.size
  pub third : c.size ≡ a.size
  pub fourth : d.size ≡ a.size
  pub fits : a.size < 2 ^ 32
