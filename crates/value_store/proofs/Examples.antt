-- Texts, maps and made nodes, each tried on a case where the nearest wrong reading differs.
use Rattle.std.proofs.Common.{◌≡◌, ℕ, List, [], ◌∷◌, ◌++◌, Some, None, map, refl, ap, arith, pos}
use Rattle.std.specs.Prelude.{codes, length, slice_get}
use Rattle.value_store.specs.Texts.{text_of}
use Rattle.value_store.specs.Maps.{Pair, entries, first_with}
use Rattle.value_store.specs.MadeTrees.{made, no_trees, and_trees, node_count, child_at, children_of}
use Rattle.value_store.specs.Cells.{Cell, cells_of, pairs_at, tree_at, PutsPair, MakesNode}
use Rattle.value_store.specs.declared.text.Text.{Text}
use Rattle.value_store.specs.declared.text.TextOf.TheVariants.{Source, Literal}
use Rattle.value_store.specs.declared.unit.StoreUnit.{StoreUnit}
use Rattle.value_store.specs.declared.unit.StoreUnit.TheVariants as unit
use Rattle.value_store.specs.declared.value.Value.TheVariants as value

abbrev pub source : List ℕ
source = codes "abcab"

-- two texts with the same bytes at different places, and another one
abbrev pub first_ab : Text
first_ab = record { of = Source; from = 0; to = 2 }

abbrev pub last_ab : Text
last_ab = record { of = Source; from = 3; to = 5 }

abbrev pub bc : Text
bc = record { of = Source; from = 1; to = 3 }

-- `to` is the place behind the last byte, and no count of bytes
to_is_a_place : text_of source [] last_ab ≡ codes "ab"
to_is_a_place = refl

-- a text of the literals isn't read from the source
literals_apart : text_of source (codes "xyz") (record { of = Literal; from = 0; to = 2 }) ≡ codes "xy"
literals_apart = refl

-- of a text past the end those bytes are left that are there
past_the_end : text_of source [] (record { of = Source; from = 4; to = 9 }) ≡ codes "b"
past_the_end = refl

-- cell 1: ab = 1; cell 2: bc = 2 before it; cell 3: ab = 3 before both; cell 4: bc = 4 before cell 1
abbrev pub maps : List StoreUnit
maps =
    unit.Entry (record { older = 0; key = first_ab; number = pos 1; size = 1 })
    ∷ unit.Entry (record { older = 1; key = bc; number = pos 2; size = 2 })
    ∷ unit.Entry (record { older = 2; key = last_ab; number = pos 3; size = 3 })
    ∷ unit.Entry (record { older = 1; key = bc; number = pos 4; size = 2 })
    ∷ []

-- the newest pair stands first, and a pair with the same text stays behind it
newest_first : pairs_at (cells_of maps) 3
    ≡ (record { key = last_ab; number = pos 3 }) ∷ (record { key = bc; number = pos 2 }) ∷ (record { key = first_ab; number = pos 1 }) ∷ []
newest_first = refl

-- so the map has three pairs, though only two texts
pairs_not_texts : length (pairs_at (cells_of maps) 3) ≡ 3
pairs_not_texts = refl

-- texts count by their bytes, and not by their places: the newest pair with `ab` is found
found_by_bytes : first_with (codes "ab") (entries source [] (pairs_at (cells_of maps) 3)) ≡ Some (pos 3)
found_by_bytes = refl

not_found : first_with (codes "b") (entries source [] (pairs_at (cells_of maps) 3)) ≡ None
not_found = refl

-- an older map is as it was, also where two maps grew out of it
older_stays : first_with (codes "ab") (entries source [] (pairs_at (cells_of maps) 1)) ≡ Some (pos 1)
older_stays = refl

two_grew : first_with (codes "bc") (entries source [] (pairs_at (cells_of maps) 4)) ≡ Some (pos 4)
two_grew = refl

no_pairs : pairs_at (cells_of maps) 0 ≡ []
no_pairs = refl

-- cell 1: a leaf of type 7; cells 2 to 4 its two places and a field; cell 5: a node of type 8 with these
abbrev pub nodes : List StoreUnit
nodes =
    unit.Node (record { ty = 7; children = 0; fields = 0; nodes = 1 })
    ∷ unit.Part (value.Made 1)
    ∷ unit.Part (value.Made 1)
    ∷ unit.Part (value.Int (pos 9))
    ∷ unit.Node (record { ty = 8; children = 2; fields = 1; nodes = 3 })
    ∷ []

parts_in_order : tree_at (cells_of nodes) 5
    ≡ made 8 (and_trees (made 7 no_trees []) (and_trees (made 7 no_trees []) no_trees)) (value.Int (pos 9) ∷ [])
parts_in_order = refl

-- a cell that stands at two places counts at both
counted_at_both : node_count (tree_at (cells_of nodes) 5) ≡ 3
counted_at_both = refl

-- children are numbered from 0, and there is none past the last
no_third_child : child_at (children_of (tree_at (cells_of nodes) 5)) 2 ≡ None
no_third_child = refl

-- `ab` = 5 is put before the map of cell 1: the next cell is the new map, and all cells of before stay
abbrev pub five : Pair
five = record { key = last_ab; number = pos 5 }

abbrev pub five_unit : StoreUnit
five_unit = unit.Entry (record { older = 1; key = last_ab; number = pos 5; size = 2 })

put_behind : PutsPair (cells_of maps) (cells_of (maps ++ five_unit ∷ [])) 1 five 5
put_behind = record { next = refl; extends = refl }

-- the answer isn't the cell of the older map
put_in_place : (new : List Cell) → PutsPair (cells_of maps) new 1 five 1 → ⊥
put_in_place new puts = omega (arith, puts.next)

-- and no older cell changes, as the pair of cell 4 does here
abbrev pub maps_changed : List StoreUnit
maps_changed =
    unit.Entry (record { older = 0; key = first_ab; number = pos 1; size = 1 })
    ∷ unit.Entry (record { older = 1; key = bc; number = pos 2; size = 2 })
    ∷ unit.Entry (record { older = 2; key = last_ab; number = pos 3; size = 3 })
    ∷ unit.Entry (record { older = 1; key = bc; number = pos 9; size = 2 })
    ∷ []

older_changed : PutsPair (cells_of maps) (cells_of (maps_changed ++ five_unit ∷ [])) 1 five 5 → ⊥
older_changed puts =
    let e : pos 9 ∷ pos 1 ∷ [] ≡ pos 4 ∷ pos 1 ∷ [] = ap (λ cells. map (λ pair. pair.number) (pairs_at cells 4)) puts.extends in cc

-- a node of cell 5 and the int 2: its child, its field and the node are the next cells, in this order
abbrev pub node_unit : StoreUnit
node_unit = unit.Node (record { ty = 9; children = 1; fields = 1; nodes = 4 })

made_behind : MakesNode (cells_of nodes) (cells_of (nodes ++ unit.Part (value.Made 5) ∷ unit.Part (value.Int (pos 2)) ∷ node_unit ∷ [])) 9
    (5 ∷ []) (value.Int (pos 2) ∷ []) 8
made_behind = record { next = refl; extends = refl; is = refl }

-- the answer isn't the first of the new cells, and the field doesn't stand before the child
made_in_front : (new : List Cell) → MakesNode (cells_of nodes) new 9 (5 ∷ []) (value.Int (pos 2) ∷ []) 6 → ⊥
made_in_front new made_it = omega (arith, made_it.next)

field_in_front : MakesNode (cells_of nodes) (cells_of (nodes ++ unit.Part (value.Int (pos 2)) ∷ unit.Part (value.Made 5) ∷ node_unit ∷ [])) 9
    (5 ∷ []) (value.Int (pos 2) ∷ []) 8 → ⊥
field_in_front made_it = let e = ap (λ cells. slice_get cells 6) made_it.extends in cc
