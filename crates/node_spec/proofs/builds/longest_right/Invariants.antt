-- No right side so far is longer.
use Rattle.std.proofs.Common.{◌≤◌, ◌<◌, ℕ, length, get_or}
use Rattle.cfg_model.specs.Cfg.{Rule}
use Rattle.node_spec.proofs.builds.longest_right.Given as goal

abbrev pub invariant-loop-rule : goal.invariant-loop-rule
invariant-loop-rule l = (k : ℕ) (d : Rule) → k < l.rule-index → length (get_or l.rules k d).right ≤ l.longest
