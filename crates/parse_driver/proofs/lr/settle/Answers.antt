-- The state on top is the prefix's; each reduction leads to a state of the same tokens.
use Rattle.std.proofs.Common.{◌<◌, Some, sym, ap, ◌∙◌, subst}
use Rattle.parse_driver.specs.within.LrStack.{LrState}
use Rattle.parse_driver.proofs.LrTurn.{some_state, top_inside, can_reduce_states, turned, settled}
use Rattle.parse_driver.proofs.LrMeasure.{falls, measure}
use Rattle.parse_driver.proofs.lr.settle.Goals as goal

pub top_of-requires : goal.top_of-requires
top_of-requires g c =
    some_state (g.T.LrTable.grammar c.args.table.now) (g.T.LrTable.table c.args.table.now) _ _ _ _
    (c.reductions.invariant c.requires.stack.0 c.requires.stack.1)

pub action-action-requires-clause-state : goal.action-action-requires-clause-state
action-action-requires-clause-state g c =
    let inside = top_inside (g.T.LrTable.grammar c.args.table.now) (g.T.LrTable.table c.args.table.now) c.requires.table
    _ _ _ _ (c.reductions.invariant c.requires.stack.0 c.requires.stack.1) in
    let e = c.top_of.ensures in
    rw e inside

pub returns-in_default : goal.returns-in_default
returns-in_default g c = λ read state.
    settled (g.T.LrTable.grammar c.args.table.now) (g.T.LrTable.table c.args.table.now) c.requires.table read _ _ _ _
    c.requires.terminal (c.reductions.invariant read state)
    (ap (λ s. (g.T.LrTable.table c.args.table.now).act s c.args.t) (sym c.top_of.ensures) ∙ sym c.action-action.ensures)
    c.in_default.not-Reduce

pub reduce-requires : goal.reduce-requires
reduce-requires g c =
    can_reduce_states (g.T.LrTable.grammar c.args.table.now) (g.T.LrTable.table c.args.table.now) c.requires.table
    _ _ _ _ _ c.requires.terminal (c.reductions.invariant c.requires.stack.0 c.requires.stack.1)
    (ap (λ s. (g.T.LrTable.table c.args.table.now).act s c.args.t) (sym c.top_of.ensures) ∙ (sym c.action-action.ensures ∙ c.in-Reduce.is))

pub reductions-preserved : goal.reductions-preserved
reductions-preserved g c = λ read state.
    let next = turned (g.T.LrTable.grammar c.args.table.now) (g.T.LrTable.table c.args.table.now) c.requires.table
    read _ c.reduce.new.states.items _ _ _ c.requires.terminal (c.reductions.invariant read state)
    (ap (λ s. (g.T.LrTable.table c.args.table.now).act s c.args.t) (sym c.top_of.ensures) ∙ (sym c.action-action.ensures ∙ c.in-Reduce.is))
    (c.in_ok-reduce.ensures).states in
    subst (λ l. LrState (g.T.LrTable.grammar c.args.table.now) (g.T.LrTable.table c.args.table.now) read c.reduce.new.states.items l (Some c.args.t))
    (sym (c.in_ok-reduce.ensures).steps) next

pub reductions-smaller : goal.reductions-smaller
reductions-smaller g c =
    let state = c.reductions.invariant c.requires.stack.0 c.requires.stack.1 in
    let next = turned (g.T.LrTable.grammar c.args.table.now) (g.T.LrTable.table c.args.table.now) c.requires.table
    c.requires.stack.0 _ c.reduce.new.states.items _ _ _ c.requires.terminal state
    (ap (λ s. (g.T.LrTable.table c.args.table.now).act s c.args.t) (sym c.top_of.ensures) ∙ (sym c.action-action.ensures ∙ c.in-Reduce.is))
    (c.in_ok-reduce.ensures).states in
    subst (λ l. measure (g.T.LrTable.grammar c.args.table.now) l < measure (g.T.LrTable.grammar c.args.table.now) c.reductions.steps.items)
    (sym (c.in_ok-reduce.ensures).steps)
    (falls (g.T.LrTable.grammar c.args.table.now) (g.T.LrTable.table c.args.table.now) c.requires.table.accepted
    c.requires.stack.0 _ _ _ _ _ state next)
