-- What follows an expression is an end of the tokens that begin with it.
use Rattle.std.proofs.Common.{◌≡◌, ap, refl, sym, ◌∙◌, arith, ℕ, suc, ◌-◌, ◌≤◌, List, [], ◌∷◌, ◌++◌, length, drop, append_assoc, codes}
use Rattle.std.proofs.Math.Seq.{drop-append_seam}
use Rattle.std.proofs.lemmas.List.{length-append}
use Rattle.spec_text.specs.Lexemes.{Lexeme, word, sign}
use Rattle.spec_text.specs.Lexemes as lex
use Rattle.expr_read.specs.Spoken.{Spoken, SpokenList}
use Rattle.expr_read.specs.Notation.{AtLevel, Arguments, Listed, glyph_of, left_of, tighter, an_if, joined, a_negative, a_negated, a_number, a_truth, a_falsehood, a_string, a_name, a_dollar, a_pair, an_application, a_group, no_arguments, some_arguments, last, next}

pub record IsEndOf (rest tokens : List Lexeme) : Type 0 where
  pub before : List Lexeme
  pub are : tokens ≡ before ++ rest

pub end_self : (tokens : List Lexeme) → IsEndOf tokens tokens
end_self tokens = record { before = []; are = refl }

pub end_on : (tokens middle rest : List Lexeme) → IsEndOf middle tokens → IsEndOf rest middle → IsEndOf rest tokens
end_on tokens middle rest first second = record {
  before = first.before ++ second.before;
  are = first.are ∙ ap (λ z. first.before ++ z) second.are ∙ sym (append_assoc first.before second.before rest);
}

pub behind_token : (x : Lexeme) (tokens after rest : List Lexeme) → tokens ≡ x ∷ after → IsEndOf rest after → IsEndOf rest tokens
behind_token x tokens after rest is end = record { before = x ∷ end.before; are = is ∙ ap (λ z. x ∷ z) end.are }

past_token : (x : Lexeme) (tokens after : List Lexeme) → IsEndOf (x ∷ after) tokens → IsEndOf after tokens
past_token x tokens after end = end_on tokens (x ∷ after) after end (behind_token x (x ∷ after) after after refl (end_self after))

mutual
  pub level_end : (p : ℕ) (tokens : List Lexeme) (e : Spoken) (rest : List Lexeme) → AtLevel p tokens e rest → IsEndOf rest tokens
  level_end _ _ _ _ (tighter p tokens rest e at) = level_end (suc p) tokens e rest at
  level_end _ _ _ _ (an_if p tokens after_if after_then after_else rest c a b _ is first second third) =
      behind_token (word (codes "if")) tokens after_if rest is
      (end_on after_if after_then rest (past_token (word (codes "then")) after_if after_then (level_end 0 after_if c (word (codes "then") ∷ after_then) first))
      (end_on after_then after_else rest (past_token (word (codes "else")) after_then after_else (level_end 0 after_then a (word (codes "else") ∷ after_else) second))
      (level_end 0 after_else b rest third)))
  level_end _ _ _ _ (joined o p tokens after rest a b _ left right) =
      end_on tokens after rest (past_token (sign (glyph_of o)) tokens after (level_end (left_of p) tokens a (sign (glyph_of o) ∷ after) left)) (level_end (suc p) after b rest right)
  level_end _ _ _ _ (a_negative p tokens after rest a _ is at) = behind_token (sign (codes "-")) tokens after rest is (level_end 6 after a rest at)
  level_end _ _ _ _ (a_negated p tokens after rest a _ is at) = behind_token (sign (codes "!")) tokens after rest is (level_end 6 after a rest at)
  level_end _ _ _ _ (a_number p n tokens rest _ is) = behind_token (lex.number n) tokens rest rest is (end_self rest)
  level_end _ _ _ _ (a_truth p tokens rest _ is) = behind_token (word (codes "true")) tokens rest rest is (end_self rest)
  level_end _ _ _ _ (a_falsehood p tokens rest _ is) = behind_token (word (codes "false")) tokens rest rest is (end_self rest)
  level_end _ _ _ _ (a_string p bytes tokens rest _ is) = behind_token (lex.text bytes) tokens rest rest is (end_self rest)
  level_end _ _ _ _ (a_name p w tokens rest _ _ is) = behind_token (word w) tokens rest rest is (end_self rest)
  level_end _ _ _ _ (a_dollar p n tokens rest _ is) =
      behind_token (sign (codes "$")) tokens (lex.number n ∷ rest) rest is (behind_token (lex.number n) (lex.number n ∷ rest) rest rest refl (end_self rest))
  level_end _ _ _ _ (a_pair p v w tokens rest _ _ _ is) =
      behind_token (word v) tokens (sign (codes ".") ∷ word w ∷ rest) rest is
      (behind_token (sign (codes ".")) (sign (codes ".") ∷ word w ∷ rest) (word w ∷ rest) rest refl (behind_token (word w) (word w ∷ rest) rest rest refl (end_self rest)))
  level_end _ _ _ _ (an_application p w tokens after rest args _ _ is at) =
      behind_token (word w) tokens (sign (codes "(") ∷ after) rest is
      (behind_token (sign (codes "(")) (sign (codes "(") ∷ after) after rest refl (past_token (sign (codes ")")) after rest (arguments_end after args (sign (codes ")") ∷ rest) at)))
  level_end _ _ _ _ (a_group p tokens after rest a _ is at) =
      behind_token (sign (codes "(")) tokens after rest is (past_token (sign (codes ")")) after rest (level_end 0 after a (sign (codes ")") ∷ rest) at))

  arguments_end : (tokens : List Lexeme) (args : SpokenList) (rest : List Lexeme) → Arguments tokens args rest → IsEndOf rest tokens
  arguments_end _ _ _ (no_arguments tokens) = end_self tokens
  arguments_end _ _ _ (some_arguments tokens rest args at) = listed_end tokens args rest at

  listed_end : (tokens : List Lexeme) (args : SpokenList) (rest : List Lexeme) → Listed tokens args rest → IsEndOf rest tokens
  listed_end _ _ _ (last tokens rest a at) = level_end 0 tokens a rest at
  listed_end _ _ _ (next tokens after rest a more at behind) =
      end_on tokens after rest (past_token (sign (codes ",")) tokens after (level_end 0 tokens a (sign (codes ",") ∷ after) at)) (listed_end after more rest behind)

-- the end has its place
pub end_place : (tokens rest : List Lexeme) → IsEndOf rest tokens → (length rest ≤ length tokens) × (drop (length tokens - length rest) tokens ≡ rest)
end_place tokens rest end =
    let all = ap length end.are ∙ length-append end.before rest in
    let count : length tokens - length rest ≡ length end.before = omega (arith, all) in
    (omega (arith, all), ap (λ n. drop n tokens) count ∙ ap (drop (length end.before)) end.are ∙ drop-append_seam end.before rest)
