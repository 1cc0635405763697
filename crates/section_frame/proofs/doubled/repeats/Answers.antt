-- Each turn looks at one name.
use Rattle.std.proofs.Common.{refl}
use Rattle.section_frame.proofs.Using.{double_here, apart_more}
use Rattle.section_frame.proofs.doubled.repeats.Goals as goal

pub returns-then-branch : goal.returns-then-branch
returns-then-branch g c = (
  λ hit. double_here (g.U.Uses.uses (g.U.Uses.seen c.args.says.now)) c.loop-place.place _ _ _ c.loop-place.invariant c.used.ensures _
      c.if-branch.true c.in_ok-is_met.ensures,
  λ double. refl,
)

pub loop-place-preserved : goal.loop-place-preserved
loop-place-preserved g c =
    apart_more (g.U.Uses.uses (g.U.Uses.seen c.args.says.now)) c.loop-place.place _ _ _ c.loop-place.invariant c.used.ensures _
    c.if-branch.false c.in_ok-is_met.ensures
