use Rattle.std.proofs.Common.{ℕ, ◌<◌, slice_index_or}
use Rattle.parse_driver.specs.declared.tokens.TokenRef.{TokenRef}
use Rattle.worked_parts.proofs.parses.are_below.Given as goal

-- the terminals so far are below the number
abbrev pub invariant-loop-token : goal.invariant-loop-token
invariant-loop-token l = (k : ℕ) (d : TokenRef) → k < l.token-index → (slice_index_or l.tokens k d).terminal < l.terminals
