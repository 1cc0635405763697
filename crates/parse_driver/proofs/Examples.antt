-- What a parse answers on small sources: L = X M, M = X M, M = over one terminal, X; a list as a stream.
use Rattle.std.proofs.Common.{◌≡◌, ℕ, [], ◌∷◌, drop, length, false, cond, refl, sym, ap, subst₂, ◌∙◌, arith}
use Rattle.cfg_model.specs.Derivation.{empty, leaf, node, nothing, token, rule}
use Rattle.cfg_model.proofs.Examples.{rights, of_xx, xx_is, none_viable, none_no_sentence}
use Rattle.parse_driver.specs.Listed.{comes_of}
use Rattle.parse_driver.specs.Stream.{Ending, finished, bad_at, Draws}
use Rattle.parse_driver.specs.Parse.{IsParsed, IsFirstWrong, the_end, IsBadToken}
use Rattle.parse_driver.specs.declared.listed.Listed.{Listed}
use Rattle.parse_driver.specs.declared.tokens.TokenRef.{TokenRef}
use Rattle.parse_driver.specs.declared.tokens.Next.TheVariants as next
use Rattle.parse_driver.specs.declared.step.Step.TheVariants as act

abbrev x_at : ℕ → ℕ → TokenRef
x_at from to = record { terminal = 0; from = from; to = to }

-- on the empty source END is the first wrong token, and it counts as token 1, at the source's end
end_at_once : IsFirstWrong rights [] (finished 0) 1 0
end_at_once = the_end 0 refl none_viable none_no_sentence

-- the place behind x is bad, and not END: a bad token, though x alone is a sentence
bad_behind_x : IsBadToken rights (x_at 0 1 ∷ []) (bad_at 1) 1
bad_behind_x = record { ended = refl; viable = (0 ∷ [], (of_xx, xx_is)) }

-- the steps of x: the token, then M by its empty rule, then L
x_is_parsed : IsParsed rights (x_at 0 1 ∷ []) (finished 1) (act.Shift (x_at 0 1) ∷ act.Reduce 3 ∷ act.Reduce 1 ∷ [])
x_is_parsed = record {
  place = 1;
  ended = refl;
  forest = node 1 (leaf (x_at 0 1) (node 3 empty empty)) empty;
  derivation = record {
    from_start = rule 1 0 _ [] _ empty (record { place = 0; from_one = refl; read = refl })
        (token 0 (x_at 0 1) _ _ refl (rule 3 1 [] [] empty empty (record { place = 2; from_one = refl; read = refl }) nothing nothing)) nothing;
    yields = refl;
  };
  in_postorder = refl;
}

-- what is drawn is the first token, and the rest is to come then
draws_first : Draws (λ tokens ending. (tokens ≡ []) × (ending ≡ finished 9)) (x_at 0 1 ∷ []) (finished 9) (next.Token (x_at 0 1))
draws_first = ([], refl, (refl, refl))

-- a list of two tokens of which one was drawn, with END behind it
abbrev OneDrawn : Listed → Type 0
OneDrawn listed = (listed.tokens.now ≡ x_at 0 1 ∷ x_at 1 2 ∷ []) × (listed.drawn ≡ 1) × (listed.place ≡ 2) × (listed.is_bad ≡ false)

-- the second is to come, and then END
second_comes : (listed : Listed) → OneDrawn listed → comes_of listed (x_at 1 2 ∷ []) (finished 2)
second_comes listed (list, drawn, place, good) = (
  subst₂ (λ n l. x_at 1 2 ∷ [] ≡ drop n l) (sym drawn) (sym list) refl,
  subst₂ (λ b p. finished 2 ≡ cond b (bad_at p) (finished p)) (sym good) (sym place) refl,
)

-- and the first doesn't come again
first_is_gone : (listed : Listed) (ending : Ending) → OneDrawn listed → comes_of listed (x_at 0 1 ∷ x_at 1 2 ∷ []) ending → ⊥
first_is_gone listed ending (list, drawn, _, _) (comes, _) =
    let left : x_at 0 1 ∷ x_at 1 2 ∷ [] ≡ x_at 1 2 ∷ [] = comes ∙ subst₂ (λ n l. drop n l ≡ x_at 1 2 ∷ []) (sym drawn) (sym list) refl in
    let count = ap length left in
    omega (arith, count)
