use Rattle.std.proofs.Common.{◌≡◌, ℕ, ◌≤◌, List, [], ◌∷◌, ◌++◌, length, take, flat_map, append_assoc}
use Rattle.std.proofs.lemmas.List.{take_all}
use Rattle.quoting.specs.Quoted.{quoted_byte, quoted}
use Rattle.quoting.proofs.quote.push_quoted.Goals as goal

-- the quotes and all bytes between them
between : (old text : List ℕ) (n : ℕ) → length text ≤ n → ((old ++ 34 ∷ []) ++ flat_map quoted_byte (take n text)) ++ 34 ∷ [] ≡ old ++ quoted text
between old text n all = rw (take_all n text all) (simp append_assoc)

pub returns : goal.returns
returns c =
    let whole = between c.args.out.now.items c.args.text.now c.loop-byte.byte-index c.loop-byte-test.false in
    let last = c.in_ok-push-2.ensures.items in
    let first = c.in_ok-push.ensures.items in
    cc
