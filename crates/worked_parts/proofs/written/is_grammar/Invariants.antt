use Rattle.std.proofs.Common.{ℕ, ◌<◌, All, slice_index_or}
use Rattle.cfg_model.specs.Cfg.{Rule, IsSymbol}
use Rattle.worked_parts.proofs.written.is_grammar.Given as goal

-- the rules so far are in range
abbrev pub invariant-loop-rule : goal.invariant-loop-rule
invariant-loop-rule l = ((k : ℕ) (d : Rule) → k < l.rule-index → (slice_index_or l.g.rules k d).left < l.g.nonterminals)
    × ((k : ℕ) (d : Rule) → k < l.rule-index → All (IsSymbol l.g) (slice_index_or l.g.rules k d).right)
