-- Words of a command line, tried on cases that are worked by hand.
use Rattle.std.proofs.Common.{◌≡◌, ℕ, List, [], ◌∷◌, codes, refl}
use Rattle.ck_chain.specs.declared.stage.Stage.TheVariants.{Tokens, Derive, Tree}
use Rattle.ck_tool.specs.Words.{AreRight, NeedMemory, for_stage, of_stage}

-- the words `tokens s x` are right
right_words : AreRight (codes "tokens" ∷ codes "s" ∷ codes "x" ∷ [])
right_words = of_stage Tokens (codes "s") (codes "x") (record { words_are = refl; is_spec = λ e. cc; is_source = λ e. cc })

-- `tokens -s x` aren't: no name begins with `-`
dash : AreRight (codes "tokens" ∷ codes "-s" ∷ codes "x" ∷ []) → ⊥
dash (of_stage stage spec source are) =
    let words = are.words_are in
    let is : spec ≡ codes "-s" = cc in
    let name = rw is at are.is_spec in
    name refl

-- nor are `tokens s`: one name is missing
one_name : AreRight (codes "tokens" ∷ codes "s" ∷ []) → ⊥
one_name (of_stage stage spec source are) = let words = are.words_are in cc

-- nor are `tokens`, the empty word and `x`: no name is empty
empty_name : AreRight (codes "tokens" ∷ [] ∷ codes "x" ∷ []) → ⊥
empty_name (of_stage stage spec source are) =
    let words = are.words_are in
    let is : spec ≡ [] = cc in
    rw is at are.is_spec

-- nor are `run s x`: this is another command
other_command : AreRight (codes "run" ∷ codes "s" ∷ codes "x" ∷ []) → ⊥
other_command (of_stage Tokens spec source are) = let words = are.words_are in cc
other_command (of_stage Derive spec source are) = let words = are.words_are in cc
other_command (of_stage Tree spec source are) = let words = are.words_are in cc

-- wrong words need no memory
needing_is_right : (words : List (List ℕ)) → NeedMemory words → AreRight words
needing_is_right words (for_stage stage spec source are) = of_stage stage spec source are
