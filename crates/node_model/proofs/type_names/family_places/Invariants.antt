-- The places of the names so far.
use Rattle.std.proofs.Common.{take}
use Rattle.node_model.specs.TypeNames.{names_of_families}
use Rattle.node_model.specs.within.FirstPlaces.{AreFirst}
use Rattle.node_model.proofs.type_names.family_places.Given as goal

abbrev pub invariant-loop-f : goal.invariant-loop-f
invariant-loop-f l = AreFirst (take l.f (names_of_families l.types)) l.places
