-- The automata of a body and a context make a split.
use Rattle.std.proofs.Common.{◌≡◌, ℕ, ◌+◌, arith, refl, sym, subst}
use Rattle.rex_model.specs.Language.{Re}
use Rattle.rex_model.specs.Positions.{position_count, Takes, First, Follow}
use Rattle.rex_model.specs.Sets.{ComesNext, marked, FirstBackwards, FollowBackwards}
use Rattle.rex_dfa.specs.within.Parts.{IsPart}
use Rattle.rex_model.specs.Runs.{Automaton}
use Rattle.rex_dfa.specs.within.Splits.{IsMade}
use Rattle.rex_dfa.proofs.BackwardWords.{mark_of_backwards, backwards_of_mark}
use Rattle.rex_dfa.proofs.MarkedWords.{mark_of_word, word_of_mark}

pub made_is : (i : ℕ) (body context : Re) (f b : Automaton) (m n : ℕ) → IsPart (Takes (marked body) 0) (Follow (marked body) 0) (First (marked body) 0) (position_count body) f m
    → IsPart (Takes context 0) (FollowBackwards context) (FirstBackwards context) (position_count context) b n
    → IsMade i body context (record { rule = i; forward = f; backward = b }) (m + n)
made_is i body context f b m n forward backward = record {
  is_rule = refl;
  is_split = record { forward = forward.is_dfa; backward = backward.is_dfa; begins = forward.begins; begins_back = backward.begins };
  forward = λ w small.
      let place : 0 + position_count body ≡ position_count body = omega arith in
      let x = forward.accepts w small in
      (λ h. word_of_mark body 0 (position_count body) w (sym place) (x.0 h), λ h. x.1 (subst (ComesNext (Takes (marked body) 0) (Follow (marked body) 0) (First (marked body) 0) w) place (mark_of_word body 0 w h)));
  backward = λ w small.
      let x = backward.accepts w small in
      (λ h. backwards_of_mark context w (position_count context) refl (x.0 h), λ h. x.1 (mark_of_backwards context w h));
  forwards = forward.words;
  backwards = backward.words;
  represent = forward.represent;
  represent_back = backward.represent;
  is_count = omega (arith, forward.as_many, backward.as_many);
  few = (let x = forward.few in let y = backward.few in omega arith);
}
