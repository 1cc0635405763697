-- By the words before and after a position, whose numbers begin with 0.
use Rattle.std.proofs.Common.{◌≡◌, ◌+◌, subst, arith}
use Rattle.rex_model.specs.Positions.{Takes, First, Follow, position_count}
use Rattle.rex_model.specs.Sets.{ComesNext, marked}
use Rattle.rex_dfa.proofs.MarkedWords.{mark_of_word, word_of_mark}
use Rattle.rex_dfa.proofs.laws.mark_follows_words.Goals as goal

pub returns : goal.returns
returns c = λ r w.
    let here : 0 + position_count r ≡ position_count r = omega arith in
    let back : position_count r ≡ 0 + position_count r = omega arith in (
      λ h. subst (λ mark. ComesNext (Takes (marked r) 0) (Follow (marked r) 0) (First (marked r) 0) w mark) here (mark_of_word r 0 w h),
      λ h. word_of_mark r 0 _ w back h,
    )
