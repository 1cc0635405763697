-- The front of a file that is read part by part.
use Rattle.std.proofs.Common.{◌≡◌, ℕ, ◌+◌, ◌≤◌, List, ◌++◌, length, take, Option, Some, None, IfSome, ap, arith, length-append, length-take}
use Rattle.std.proofs.Math.Seq.{take-add}
use Rattle.std.specs.Io.{StartsWith}
use Rattle.ck_io.specs.Contents.{IsPart}

-- the first bytes of a file with its next part are its first bytes again
pub StartsWith-part : (told : Option (List ℕ)) (bytes part : List ℕ) (at n : ℕ) → at ≡ length bytes → n ≤ length part
    → IfSome told (λ all. StartsWith all bytes) → IfSome told (λ all. IsPart all at n part) → IfSome told (λ all. StartsWith all (bytes ++ take n part))
StartsWith-part None bytes part at n e h p q = tt
StartsWith-part (Some all) bytes part at n e h p q =
    let size : length (bytes ++ take n part) ≡ at + n = omega (arith, length-append bytes (take n part), length-take n part) in
    rw (size, take-add at n all, ← q.bytes, e) (ap (λ front. front ++ take n part) p)
