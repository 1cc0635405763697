use Rattle.std.proofs.Common.{ap, ◌∙◌, ◌≡◌, ◌<◌, ◌≤◌, arith, subst, Some, None, eq-eqb}
use Rattle.std.proofs.lemmas.Bool.{eqb-true}
use Rattle.ast_types.specs.TypeTable.{IsA, itself, extends, IsNumbered, type_at}
use Rattle.ast_types.proofs.Climbing.{climb, at_top, is_before}
use Rattle.ast_types.proofs.Counts.{type_read}
use Rattle.ast_types.proofs.types.Types.is_a.Goals as goal

pub loop-at-preserved : goal.loop-at-preserved
loop-at-preserved c =
    let base : (type_at c.args.self.now.types c.loop-at.at).base ≡ Some c.in-Some.b =
    ap (λ r. r.base) (type_read _ _ _ _ _ (ap (λ k. k.types) c.self.view_is) c.as_slice-types.ensures.value c.type_row.ensures) ∙ c.in-Some.is in
    let below : c.in-Some.b < c.loop-at.at = (subst IsNumbered c.self.view_is c.self.invariant).sound.base_before c.loop-at.at c.in-Some.b base in
    record {
      within = (let w = c.loop-at.invariant.within in omega (arith, below, w));
      up = λ is. c.loop-at.invariant.up (extends _ c.in-Some.b _ base is);
      down = λ is. climb _ c.loop-at.at c.in-Some.b _ base (λ e. omega (arith, e, c.loop-at-test.true)) (c.loop-at.invariant.down is);
    }

pub loop-at-smaller : goal.loop-at-smaller
loop-at-smaller c =
    (subst IsNumbered c.self.view_is c.self.invariant).sound.base_before c.loop-at.at c.in-Some.b
    (ap (λ r. r.base) (type_read _ _ _ _ _ (ap (λ k. k.types) c.self.view_is) c.as_slice-types.ensures.value c.type_row.ensures) ∙ c.in-Some.is)

pub returns-in-None : goal.returns-in-None
returns-in-None c =
    let none : (type_at c.args.self.now.types c.loop-at.at).base ≡ None =
    ap (λ r. r.base) (type_read _ _ _ _ _ (ap (λ k. k.types) c.self.view_is) c.as_slice-types.ensures.value c.type_row.ensures) ∙ c.in-None.is in
    (λ same. cc, λ is. absurd (at_top _ c.loop-at.at c.args.base none (λ e. omega (arith, e, c.loop-at-test.true)) (c.loop-at.invariant.down is)))

pub returns : goal.returns
returns c = (
  λ same. c.loop-at.invariant.up (subst (λ b. IsA c.args.self.now.types c.loop-at.at b) (eqb-true _ _ same) (itself _)),
  λ is. (let low : c.args.base ≤ c.loop-at.at = is_before _ _ _ (subst IsNumbered c.self.view_is c.self.invariant).sound (c.loop-at.invariant.down is) in
      eq-eqb _ _ (omega (arith, low, c.loop-at-test.false))),
)
