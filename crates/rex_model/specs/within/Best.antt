-- The winner at a place, rule by rule.
use Rattle.std.specs.Prelude.{ℕ, nat_lt, if◌then◌else◌, List, Option, Some, None}
use Rattle.rex_model.specs.Rules.{Rule}
use Rattle.rex_model.specs.Winner.{Winner, HasNoCandidate}
use Rattle.rex_model.specs.declared.pairs.Pair.{Pair}
use Rattle.rex_model.specs.declared.winner.Best.{Best}

-- the rule wins with this pair; None where no rule has a candidate
abbrev pub IsBest : List Rule → ℕ → List ℕ → Option Best → Type 0
IsBest rules state rest None = HasNoCandidate rules state rest
IsBest rules state rest (Some best) = Winner rules state rest best.rule best.pair.len best.pair.whole

-- the pair with the later end, and of two with the same end the one before
abbrev pub longer_of : Option Best → ℕ → Option Pair → Option Best
longer_of best rule None = best
longer_of None rule (Some pair) = Some (record { rule = rule; pair = pair })
longer_of (Some best) rule (Some pair) =
    if nat_lt best.pair.whole pair.whole then Some (record { rule = rule; pair = pair }) else Some best
