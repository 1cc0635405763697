use Rattle.std.proofs.Common.{◌≡◌, ◌++◌, map, drop}
use Rattle.tree_build.specs.Built.{token_place}
use Rattle.rex_model.specs.Place.{IsPlace}
use Rattle.tree_build.specs.within.Spans.{span_of}
use Rattle.tree_build.specs.within.Replaying.{shifted_by}
use Rattle.tree_build.proofs.token_list.TokenList.of.Given as goal

abbrev pub invariant-loop-step : goal.invariant-loop-step
invariant-loop-step l = IsPlace l.source l.place
    × (l.spans.items ++ map span_of (shifted_by (drop l.step-index l.steps)) ≡ map span_of (shifted_by l.steps))
    × (l.places.items ++ map (token_place l.source) (shifted_by (drop l.step-index l.steps)) ≡ map (token_place l.source) (shifted_by l.steps))
