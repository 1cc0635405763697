-- Instances read from the list, and their items.
use Rattle.std.proofs.Common.{◌≡◌, ℕ, ◌<◌, List, length, get_or, refl, Some, option_map, ap, ◌∙◌}
use Rattle.std.proofs.lemmas.List.{length-map}
use Rattle.std.specs.Prelude.{slice_get}
use Rattle.std.proofs.lemmas.Option.{slice_get-map, slice_get_read}
use Rattle.beg_model.specs.Cover.{Instance}
use Rattle.beg_model.specs.declared.rules.CoverRules.{CoverRules}
use Rattle.beg_model.specs.Items.{item_of, items, IsKnown, AreKnown}

pub item_is : (rules : CoverRules) (list : List Instance) (p : ℕ) (i : Instance) → slice_get list p ≡ Some i
    → slice_get (items rules list) p ≡ Some (item_of rules i)
item_is rules list p i is = slice_get-map (item_of rules) list p ∙ ap (option_map (item_of rules)) is

pub length_items : (rules : CoverRules) (list : List Instance) → length (items rules list) ≡ length list
length_items rules list = length-map list (item_of rules)

pub known_at : (rules : CoverRules) (list : List Instance) (p : ℕ) (i : Instance) → AreKnown rules list → p < length list
    → i ≡ get_or list p i → IsKnown rules i
known_at rules list p i known lt is = known p i (slice_get_read list _ p i refl lt is)
