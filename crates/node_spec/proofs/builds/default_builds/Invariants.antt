-- The values of the rules so far.
use Rattle.std.proofs.Common.{◌≡◌, ℕ, List, map, take, unwrap_or}
use Rattle.expr_lang.specs.Expression.{var}
use Rattle.expr_lang.specs.Meaning.{meaning}
use Rattle.node_spec.specs.AstBuilds.{default_build, only_nonterminal}
use Rattle.node_spec.proofs.builds.default_builds.Given as goal

abbrev pub invariant-loop-rule : goal.invariant-loop-rule
invariant-loop-rule l = (source literals : List ℕ) → map (λ e. meaning source literals e.now) l.builds.items
    ≡ map (λ rule. unwrap_or (default_build (only_nonterminal rule.right)) (var 0)) (take l.rule-index l.rules)
