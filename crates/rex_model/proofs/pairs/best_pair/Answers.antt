-- One byte more, or a set without positions.
use Rattle.std.proofs.Common.{◌≡◌, ◌+◌, ◌∙◌, ap, subst, sym, true≢false, length, take, Some, arith}
use Rattle.std.proofs.lemmas.List.{take_rest}
use Rattle.ck_base.specs.BitSet.{BitSet}
use Rattle.rex_model.specs.Language.{Language}
use Rattle.rex_model.specs.Meaning.{meaning}
use Rattle.rex_model.proofs.BestPair.{best_more, best_same}
use Rattle.rex_model.proofs.Comes.{none_longer}
use Rattle.rex_model.proofs.LongestBySets.{search_found, search_goes_on, ended_of_word}
use Rattle.rex_model.proofs.pairs.best_pair.Goals as goal
use Rattle.rex_model.proofs.pairs.best_pair.Goals.{then-step, else-step}

pub loop-i-preserved : goal.loop-i-preserved
loop-i-preserved c =
    let body = meaning c.args.body.now in
    let context = meaning c.args.context.now in
    let text = c.args.text.now in
    let now = c.loop-i.invariant in
    let searching = now.searching in
    let i = c.loop-i.i in
    let within = c.loop-i-test.true in
    let moves = c.step.ensures.moves in
    let ends = c.step.ensures.ends in
    let same_size = c.clear-in-loop-i.ensures.size ∙ ap (λ (set : BitSet). set.size) c.swap.ensures.y_after in
    let empty = c.clear-in-loop-i.ensures.empty in
    rw c.swap.ensures.x_after (elim c.if-step.branch [
      | then-step w ↦
          let found = search_found _ _ _ _ _ _ _ _ _ _ searching within moves ends same_size empty w.if-step.true in
          record {
            found = Some (i + 1);
            searching = found;
            best_is = rw (w.best-is, w.better-best.ensures) (best_more body context text i within c.loop-i.best w.longest_or_empty-found.result now.best_is found.found_is.word (rw take_rest at w.longest_or_empty-found.ensures.longest));
            first_size = rw w.behind_from-is (w.longest_or_empty-found.ensures.from_size ∙ now.first_size);
            second_size = rw w.behind_to-is (w.longest_or_empty-found.ensures.to_size ∙ now.second_size);
          }
      | else-step w ↦
          record {
            found = now.found;
            searching = search_goes_on _ _ _ _ _ _ _ _ _ _ searching within moves ends same_size empty w.if-step.false;
            best_is = rw w.best-is (best_same body context text i (i + 1) c.loop-i.best (omega arith) (λ n m large below pair.
                let at : n ≡ i + 1 = omega arith in
                let yes = ended_of_word _ _ _ _ _ _ _ _ _ _ searching within moves ends same_size empty (subst (λ k. Language body (take k text)) at pair.front) in
                true≢false (sym yes ∙ w.if-step.false)) now.best_is);
            first_size = rw w.behind_from-is now.first_size;
            second_size = rw w.behind_to-is now.second_size;
          }
    ])

pub returns-then-is_empty-clause-best : goal.returns-then-is_empty-clause-best
returns-then-is_empty-clause-best c =
    let searching = c.loop-i.invariant.searching in
    let empty = c.is_empty.ensures.0 c.if-is_empty.true in
    best_same (meaning c.args.body.now) (meaning c.args.context.now) c.args.text.now c.loop-i.i (length c.args.text.now) c.loop-i.best (omega arith)
    (λ n m large below pair. none_longer (meaning c.args.body.now) c.args.text.now c.loop-i.i (λ q comes. empty q ((searching.places q).1 comes)) n large below pair.front)
    c.loop-i.invariant.best_is
