use Rattle.std.proofs.Common.{refl, ap, ◌∙◌, ◌≡◌, ◌∷◌, [], ◌++◌}
use Rattle.ck_base.specs.BitSet.{Has}
use Rattle.rex_dfa.specs.within.Parts.{IsPart}
use Rattle.rex_dfa.specs.within.Positions.{TakesAt, FollowsAt}
use Rattle.rex_dfa.specs.within.Subset.{FirstAt, HasMoreSets}
use Rattle.rex_model.specs.TableMeaning.{automaton_of}
use Rattle.rex_dfa.proofs.PartAlike.{part_alike, more_alike, more_of_one, first_of_one}
use Rattle.rex_dfa.proofs.parts.part_of.Goals as goal

pub returns-in-Some : goal.returns-in-Some
returns-in-Some c =
    let positions = c.args.positions.now in
    let first = c.args.first in
    let items : c.push.new.self.items ≡ first ∷ [] = c.in_ok-push.ensures.items ∙ ap (λ xs. xs ++ first ∷ []) c.new-firsts.ensures.items in
    let part : IsPart (TakesAt positions) (FollowsAt positions) (FirstAt (first ∷ []) 0) c.args.mark (automaton_of c.in_ok-part-in-Some.part.dfa) c.in_ok-part-in-Some.part.count = rw (← items) c.in_ok-part-in-Some.ensures in
    part_alike (TakesAt positions) (FollowsAt positions) (FirstAt (first ∷ []) 0) (TakesAt positions) (FollowsAt positions) (Has first)
    (λ p b below. (λ h. h, λ h. h)) (λ p q. (λ h. h, λ h. h)) (first_of_one first) c.args.mark _ _ part

pub returns : goal.returns
returns c =
    let positions = c.args.positions.now in
    let first = c.args.first in
    let items : c.push.new.self.items ≡ first ∷ [] = c.in_ok-push.ensures.items ∙ ap (λ xs. xs ++ first ∷ []) c.new-firsts.ensures.items in
    let more : HasMoreSets positions (first ∷ []) 4096 = rw (← items) (rw c.in-None.is at c.in_ok-table.ensures) in
    more_alike (TakesAt positions) (FollowsAt positions) (FirstAt (first ∷ []) 0) (TakesAt positions) (FollowsAt positions) (Has first)
    (λ p b below. (λ h. h, λ h. h)) (λ p q. (λ h. h, λ h. h)) (first_of_one first) 4096 (more_of_one positions (first ∷ []) 4096 refl more)
