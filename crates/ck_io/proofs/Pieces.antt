-- Bytes that a sink takes piece by piece.
use Rattle.std.proofs.Common.{ℕ, ◌+◌, ◌-◌, List, ◌++◌, length, take, drop, Option, Some, None, ap, ◌∙◌, append_assoc}
use Rattle.std.proofs.Math.Seq.{take-add}
use Rattle.std.proofs.lemmas.List.{take_rest}
use Rattle.std.specs.Io.KnownBytes.{Appends}

-- two pieces in a row are one
pub Appends-trans : (old between new : Option (List ℕ)) (first second : List ℕ) → Appends old between first → Appends between new second
    → Appends old new (first ++ second)
Appends-trans None between new first second p q = tt
Appends-trans (Some taken) None new first second p q = absurd p
Appends-trans (Some taken) (Some two) None first second p q = absurd q
Appends-trans (Some taken) (Some two) (Some three) first second p q =
    q ∙ ap (λ bytes. bytes ++ second) p ∙ append_assoc taken first second

-- the first k bytes, and then n bytes of the rest
pub Appends-rest : (old between new : Option (List ℕ)) (bytes : List ℕ) (k n : ℕ) → Appends old between (take k bytes)
    → Appends between new (take n (take (length bytes - k) (drop k bytes))) → Appends old new (take (k + n) bytes)
Appends-rest old between new bytes k n p q =
    rw take-add (Appends-trans old between new (take k bytes) (take n (drop k bytes)) p (rw take_rest at q))
