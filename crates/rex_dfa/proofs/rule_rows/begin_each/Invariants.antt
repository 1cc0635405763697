-- The sets of the start states before this one have got theirs.
use Rattle.ck_base.specs.BitSet.{Has}
use Rattle.rex_dfa.proofs.RowsFilled.{FilledTo}
use Rattle.rex_dfa.proofs.rule_rows.begin_each.Given as goal

abbrev pub invariant-loop-state : goal.invariant-loop-state
invariant-loop-state l = FilledTo 0 l.state (λ state q. Has l.states state × Has l.first q) l.initial.firsts.items l.firsts.items
