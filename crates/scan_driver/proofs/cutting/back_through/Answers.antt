use Rattle.std.proofs.Common.{◌≡◌, ◌+◌, ◌-◌, false, true≢false, arith, sym, subst, ◌∙◌, IsSome, take}
use Rattle.std.specs.Option.{is_some}
use Rattle.rex_model.specs.Runs.{run, accepted}
use Rattle.rex_model.specs.TableMeaning.{halves_of}
use Rattle.scan_driver.proofs.Behind.{cutting_more}
use Rattle.scan_driver.proofs.cutting.back_through.Goals as goal
use Rattle.scan_driver.proofs.cutting.back_through.Goals.{else-flags-n-via-then-flags-n+else-is_some, else-flags-n-via-else-flags-n}

pub loop-n-preserved : goal.loop-n-preserved
loop-n-preserved c =
    let from = c.loop-n.invariant.from in
    let some : IsSome (accepted (halves_of c.args.split.now).backward c.loop-n.state) × IsSome (accepted (halves_of c.args.split.now).forward (run (halves_of c.args.split.now).forward 0 (take c.loop-n.n c.args.word.now))) → ⊥
    = elim c.else-flags-n.branch [
      | else-flags-n-via-then-flags-n+else-is_some w ↦ λ both.
          let yes : IsSome w.accept.result = rw w.accept.ensures both.0 in
          let no : false ≡ is_some w.accept.result = w.if-is_some.ensures in
          true≢false (sym (no ∙ yes))
      | else-flags-n-via-else-flags-n w ↦ λ both.
          let place : c.args.begin + (c.loop-n.n - c.args.begin - 1) + 1 ≡ c.loop-n.n = omega arith in
          let upto = c.loop-n.invariant.upto in
          let yes = (c.requires.flags (c.loop-n.n - c.args.begin - 1) (omega arith)).1
          (subst (λ k. IsSome (accepted (halves_of c.args.split.now).forward (run (halves_of c.args.split.now).forward 0 (take k c.args.word.now)))) (sym place) both.1) in
          true≢false (sym yes ∙ w.if-flags-n.false)
    ] in
    record {
      from = omega arith;
      upto = let upto = c.loop-n.invariant.upto in omega arith;
      cutting = cutting_more (halves_of c.args.split.now) c.args.word.now c.loop-n.n c.loop-n.state c.after-state.result (omega arith) c.loop-n.invariant.cutting some c.after-state.ensures.moved c.after-state.ensures.state;
    }
