use Rattle.std.proofs.Common.{◌≡◌, ◌+◌, ◌↔◌, true, arith, IsSome, inr}
use Rattle.rex_model.specs.Runs.{accepted}
use Rattle.rex_model.specs.TableMeaning.{automaton_of}
use Rattle.scan_driver.proofs.Flags.{flags_skipped, flags_more, flags_ended, flags_none}
use Rattle.scan_driver.proofs.RunsAlong.{IsAlong, along_more}
use Rattle.scan_driver.proofs.cutting.flags_of.Goals as goal
use Rattle.scan_driver.proofs.cutting.flags_of.Goals.{then-i-begin, else-i-begin}

pub loop-i-init : goal.loop-i-init
loop-i-init c = flags_none (automaton_of c.args.dfa.now) c.args.word.now c.args.begin (inr c.requires.begins)

pub loop-i-preserved : goal.loop-i-preserved
loop-i-preserved c =
    let along : IsAlong (automaton_of c.args.dfa.now) 0 c.args.word.now (c.loop-i.i + 1) c.after-state.result
    = along_more (automaton_of c.args.dfa.now) 0 c.args.word.now c.loop-i.i c.loop-i.state c.after-state.result (omega arith) c.loop-i.invariant.along c.after-state.ensures.moved c.after-state.ensures.state in
    elim c.if-i-begin.branch [
      | then-i-begin w ↦
          let says : (w.is_some.result ≡ true) ↔ IsSome (accepted (automaton_of c.args.dfa.now) c.after-state.result) = rw (w.is_some.ensures, w.accept.ensures) (λ h. h, λ h. h) in
          rw w.flags-is (flags_more (automaton_of c.args.dfa.now) c.args.word.now c.args.begin c.loop-i.i c.loop-i.state c.after-state.result c.loop-i.flags w.is_some.result (omega arith) (omega arith) c.loop-i.invariant along says)
      | else-i-begin w ↦
          rw w.flags-is (flags_skipped (automaton_of c.args.dfa.now) c.args.word.now c.args.begin c.loop-i.i c.loop-i.state c.after-state.result c.loop-i.flags (omega arith) c.loop-i.invariant along)
    ]

pub returns-then-state : goal.returns-then-state
returns-then-state c = flags_ended (automaton_of c.args.dfa.now) c.args.word.now c.args.begin c.loop-i.i c.args.end c.loop-i.state c.loop-i.flags c.loop-i.invariant c.if-state.true
