-- The items of the types so far are met, and there are few.
use Rattle.std.proofs.Common.{◌≡◌, ◌≤◌, ◌*◌, [], length, take}
use Rattle.ck_base.specs.Numbered.{met}
use Rattle.ag_spec.specs.AgFaults.{all_items_called}
use Rattle.ag_spec.proofs.known.items_of.Given as goal

abbrev pub invariant-loop-t : goal.invariant-loop-t
invariant-loop-t l =
    (l.names ≡ met [] (all_items_called l.types (take l.t l.types.types))) × (length l.names ≤ 16 * l.t)
