-- The column of the end mark.
use Rattle.std.proofs.Common.{◌≡◌, ℕ, ◌↔◌, arith, subst}
use Rattle.rex_model.specs.Meaning.{meaning}
use Rattle.rex_model.specs.Positions.{position_count}
use Rattle.rex_model.specs.Sets.{marked}
use Rattle.ck_base.specs.BitSet.{Has}
use Rattle.rex_dfa.specs.within.Walked.{IsTurned}
use Rattle.rex_dfa.proofs.WalkOfRules.{turned_last}
use Rattle.rex_dfa.proofs.part_rows.lasts_of.Goals as goal

pub returns-clause-has : goal.returns-clause-has
returns-clause-has c = λ q.
    let r = meaning c.args.r.now in
    let mark_is : c.positions.result ≡ position_count r = omega (arith, c.positions.ensures, c.requires.room, c.ranges.size) in
    let own = subst (λ (p : ℕ). Has c.in_ok-set.set q ↔ IsTurned (marked r) (position_count r) p q) mark_is (c.in_ok-set.ensures.has q) in
    let alike = turned_last r q in
    (λ h. alike.0 (own.0 h), λ h. own.1 (alike.1 h))
