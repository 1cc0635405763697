-- The walk over the source so far, in one of the start states.
use Rattle.std.proofs.Common.{◌-◌, ◌<◌, length}
use Rattle.rex_model.specs.RuleMeaning.{rules_of}
use Rattle.rex_model.specs.Place.{IsPlace}
use Rattle.ck_chain.proofs.Walk.{Walked}
use Rattle.ck_chain.proofs.token_text.tokens_text.Given as goal

abbrev pub invariant-loop-rule : goal.invariant-loop-rule
invariant-loop-rule l =
    IsPlace l.source l.place × Walked (rules_of l.rules).list l.rules.tokens l.source l.state l.place.at l.out.items
    × (l.state < length l.rules.states)

abbrev pub decreases-loop-rule : goal.decreases-loop-rule
decreases-loop-rule l = length l.source - l.place.at
