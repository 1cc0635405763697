use Rattle.std.proofs.Common.{◌≡◌, ◌+◌, ◌≤◌, ℕ, List, map, min, drop}
use Rattle.expr_lang.specs.Units.{units_of_all}
use Rattle.expr_lang.specs.Meaning.{meaning, expressions_of}
use Rattle.expr_lang.proofs.units_count.+units.Given as goal

abbrev pub invariant-units_all-loop-e : goal.invariant-units_all-loop-e
invariant-units_all-loop-e l = record {
  few : l.sum ≤ 18446744073709551615;
  same : (s b : List ℕ) → min (l.sum + units_of_all (expressions_of (map (meaning s b) (drop l.e-index l.args)))) 18446744073709551615 ≡ min (units_of_all (expressions_of (map (meaning s b) l.args))) 18446744073709551615;
}
