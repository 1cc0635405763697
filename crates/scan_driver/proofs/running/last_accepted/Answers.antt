use Rattle.std.proofs.Common.{arith, ap, ◌∙◌, ◌+◌}
use Rattle.rex_model.specs.TableMeaning.{automaton_of}
use Rattle.scan_driver.specs.within.Found.{found_with}
use Rattle.scan_driver.proofs.RunsAlong.{run_goes_on, run_stops}
use Rattle.scan_driver.proofs.running.last_accepted.Goals as goal

pub loop-i-preserved : goal.loop-i-preserved
loop-i-preserved c = run_goes_on (automaton_of c.args.dfa.now) c.args.start c.args.text.now c.loop-i.i c.loop-i.state c.after-state.result c.loop-i.found c.found_at-found-in-loop-i.result
    (omega arith) c.loop-i.invariant c.after-state.ensures.moved c.after-state.ensures.state
    (c.found_at-found-in-loop-i.ensures ∙ ap (λ o. found_with o (c.loop-i.i + 1) c.loop-i.found) c.accept-in-loop-i.ensures)

pub returns-then-state : goal.returns-then-state
returns-then-state c = run_stops (automaton_of c.args.dfa.now) c.args.start c.args.text.now c.loop-i.i c.loop-i.state c.loop-i.found c.loop-i.invariant (omega arith) c.if-state.true
