-- One part more goes to the end.
use Rattle.std.proofs.Common.{◌≡◌, ℕ, ◌+◌, ◌<◌, List, ◌++◌, ◌∷◌, [], length, get_or, map, take, Bor}
use Rattle.std.specs.List.{concat}
use Rattle.std.proofs.lemmas.List.{append-nil, map-append, take_more}
use Rattle.std.proofs.lemmas.List.Folds.{concat-append}
use Rattle.ck_base.proofs.lines.joined.Goals as goal

one_more : (parts : List (Bor (List ℕ))) (i : ℕ) (d : Bor (List ℕ)) (before after : List ℕ) → i < length parts
    → before ≡ concat (map (λ part. part.now) (take i parts)) → after ≡ before ++ (get_or parts i d).now
    → after ≡ concat (map (λ part. part.now) (take (i + 1) parts))
one_more parts i d before after within is more =
    let part = get_or parts i d in
    rw (
      take_more parts i d within,
      map-append (λ part. part.now) (take i parts) (part ∷ []),
      concat-append (map (λ part. part.now) (take i parts)) (part.now ∷ []),
      append-nil part.now,
      ← is,
    ) more

pub loop-part-preserved : goal.loop-part-preserved
loop-part-preserved c =
    one_more _ _ _ _ _ c.loop-part-test.true c.loop-part.invariant c.in_ok-extend_from_slice.ensures.items
