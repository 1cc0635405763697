-- By the words that reach a position.
use Rattle.std.proofs.Common.{refl}
use Rattle.rex_dfa.proofs.BackwardWords.{mark_of_backwards, backwards_of_mark}
use Rattle.rex_dfa.proofs.laws.mark_follows_reversed_words.Goals as goal

pub returns : goal.returns
returns c = λ r w. (λ h. mark_of_backwards r w h, λ h. backwards_of_mark r w _ refl h)
