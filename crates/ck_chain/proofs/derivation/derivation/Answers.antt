-- The parse says what deriving the source gives.
use Rattle.std.proofs.Common.{ℕ, ◌≤◌, arith}
use Rattle.ck_chain.proofs.Derived.{place_inside, refused_there, steps_derive}
use Rattle.ck_chain.proofs.HasRun.{has_run, comes_inside}
use Rattle.ck_chain.proofs.derivation.derivation.Goals as goal

-- a place at the beginning
at_begin : (n : ℕ) → 0 ≤ n
at_begin n = omega arith

pub wrong_place-requires-clause-place : goal.wrong_place-requires-clause-place
wrong_place-requires-clause-place c =
    let (tokens, ending, comes) = has_run _ _ c.requires.scans _ c.known_bytes.ensures 0 0 c.requires.scans.some (at_begin _) in
    place_inside _ _ tokens ending _ (comes_inside _ _ 0 0 tokens ending (at_begin _) comes) (c.in-Err.ensures tokens ending comes)

pub returns-in-Ok : goal.returns-in-Ok
returns-in-Ok c =
    let (tokens, ending, comes) = has_run _ _ c.requires.scans _ c.known_bytes.ensures 0 0 c.requires.scans.some (at_begin _) in
    steps_derive _ _ _ tokens ending _ comes (comes_inside _ _ 0 0 tokens ending (at_begin _) comes) (c.in-Ok.ensures tokens ending comes)

pub returns-in-Err : goal.returns-in-Err
returns-in-Err c =
    let (tokens, ending, comes) = has_run _ _ c.requires.scans _ c.known_bytes.ensures 0 0 c.requires.scans.some (at_begin _) in
    rw c.wrong_place.ensures (refused_there _ _ _ tokens ending _ comes (c.in-Err.ensures tokens ending comes))
