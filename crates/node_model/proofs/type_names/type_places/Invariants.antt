-- The places of the names so far.
use Rattle.std.proofs.Common.{take}
use Rattle.node_model.specs.TypeNames.{names_of_all}
use Rattle.node_model.specs.within.FirstPlaces.{AreFirst}
use Rattle.node_model.proofs.type_names.type_places.Given as goal

abbrev pub invariant-loop-t : goal.invariant-loop-t
invariant-loop-t l = AreFirst (take l.t (names_of_all l.types)) l.places
