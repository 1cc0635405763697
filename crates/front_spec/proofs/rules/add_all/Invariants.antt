-- The numbers of the names so far.
use Rattle.std.proofs.Common.{◌≡◌, length, map, take, Some}
use Rattle.spec_text.specs.Seen.{bytes_of}
use Rattle.front_spec.specs.Steps.{AddsActive}
use Rattle.front_spec.proofs.rules.add_all.Given as goal

abbrev pub invariant-loop-name : goal.invariant-loop-name
invariant-loop-name l =
    AddsActive l.initial.active l.active l.states (Some (take l.name-index (map bytes_of l.names))) × (l.active.size ≡ length l.states)
