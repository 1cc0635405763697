-- The tokens that steps shift, one step after the other, are those of their derivation.
use Rattle.std.proofs.Common.{◌≡◌, ℕ, List, [], ◌∷◌, ◌++◌, map, refl, sym, ap, ap₂, ◌∙◌}
use Rattle.value_store.specs.Texts.{text_of}
use Rattle.value_store.specs.declared.text.Text.{Text}
use Rattle.expr_lang.specs.Meaning.{tokens_of}
use Rattle.expr_lang.specs.ValueOf.{Tokens}
use Rattle.cfg_model.specs.Derivation.{Forest, empty, leaf, node, yield, Move, shift, reduce, postorder}
use Rattle.parse_driver.specs.Parse.{move_of}
use Rattle.parse_driver.specs.declared.step.Step.{Step}
use Rattle.parse_driver.specs.declared.step.Step.TheVariants as act
use Rattle.parse_driver.specs.declared.tokens.TokenRef.{TokenRef}
use Rattle.tree_build.specs.Built.{token_text, token_place, tokens_in_source}
use Rattle.tree_build.specs.within.Spans.{span_of}
use Rattle.tree_build.specs.within.Replaying.{shifted_by}

-- what moves shift
abbrev shifts : {K : Type 0} → List (Move K) → List K
shifts [] = []
shifts (shift k ∷ moves) = k ∷ shifts moves
shifts (reduce r ∷ moves) = shifts moves

shifts-append : {K : Type 0} (xs ys : List (Move K)) → shifts (xs ++ ys) ≡ shifts xs ++ shifts ys
shifts-append [] ys = refl
shifts-append (shift k ∷ xs) ys = ap (λ l. k ∷ l) (shifts-append xs ys)
shifts-append (reduce r ∷ xs) ys = shifts-append xs ys

shifts_yield : {K : Type 0} (f : Forest K) → shifts (postorder f) ≡ yield f
shifts_yield empty = refl
shifts_yield (leaf k f) = ap (λ l. k ∷ l) (shifts_yield f)
shifts_yield (node r c f) = shifts-append (postorder c) (reduce r ∷ postorder f) ∙ ap₂ (λ x y. x ++ y) (shifts_yield c) (shifts_yield f)

shifted_moves : (steps : List Step) → shifts (map move_of steps) ≡ shifted_by steps
shifted_moves [] = refl
shifted_moves (act.Shift t ∷ steps) = ap (λ l. t ∷ l) (shifted_moves steps)
shifted_moves (act.Reduce r ∷ steps) = shifted_moves steps

pub shifted_yield : (steps : List Step) (f : Forest TokenRef) → map move_of steps ≡ postorder f → shifted_by steps ≡ yield f
shifted_yield steps f e = sym (shifted_moves steps) ∙ (ap shifts e ∙ shifts_yield f)

abbrev with_texts : List (List ℕ) → List (ℕ × ℕ) → Tokens
with_texts texts places = record { texts = texts; places = places }

texts_same : (s l : List ℕ) (ts : List TokenRef) → map (text_of s l) (map span_of ts) ≡ map (token_text s) ts
texts_same s l [] = refl
texts_same s l (t ∷ ts) = ap (λ l. token_text s t ∷ l) (texts_same s l ts)

-- a list of the tokens of a source tells expressions what the source does
pub tokens_same : (s l : List ℕ) (spans : List Text) (places : List (ℕ × ℕ)) (ts us : List TokenRef) → spans ≡ map span_of ts → places ≡ map (token_place s) ts → ts ≡ us → tokens_of s l spans places ≡ tokens_in_source s us
tokens_same s l spans places ts us e f same =
    let one : tokens_of s l spans places ≡ tokens_of s l (map span_of ts) (map (token_place s) ts) = ap₂ (λ x y. tokens_of s l x y) e f in
    let two : tokens_of s l (map span_of ts) (map (token_place s) ts) ≡ tokens_in_source s ts = ap (λ x. with_texts x (map (token_place s) ts)) (texts_same s l ts) in
    one ∙ (two ∙ ap (tokens_in_source s) same)
