-- The sets of the expression's positions before this one have got theirs.
use Rattle.std.proofs.Common.{◌≤◌}
use Rattle.ck_base.specs.BitSet.{Has}
use Rattle.rex_model.specs.Meaning.{meaning}
use Rattle.rex_dfa.specs.within.Walked.{Leads}
use Rattle.rex_dfa.proofs.RowsFilled.{FilledTo}
use Rattle.rex_dfa.proofs.walk.lead_each.Given as goal

abbrev pub invariant-loop-p : goal.invariant-loop-p
invariant-loop-p l = record {
  above : l.k ≤ l.p;
  filled : FilledTo l.k l.p (Leads (meaning l.r) l.k (Has l.after)) l.initial.follows.items l.follows.items;
}
