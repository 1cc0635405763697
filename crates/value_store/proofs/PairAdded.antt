-- A store with one more pair.
use Rattle.std.proofs.Common.{◌≡◌, ◌+◌, ◌≤◌, List, [], ◌∷◌, ◌++◌, length, map, sym, ap, ◌∙◌, subst, arith, length-append}
use Rattle.std.proofs.lemmas.Option.{slice_get_within}
use Rattle.value_store.specs.Cells.{pairs_at, cell_of, cells_of, IsMap}
use Rattle.value_store.specs.UnitFacts.{Says}
use Rattle.value_store.specs.declared.unit.MapUnit.{MapUnit}
use Rattle.value_store.specs.declared.unit.StoreUnit.{StoreUnit}
use Rattle.value_store.specs.declared.unit.StoreUnit.TheVariants as unit
use Rattle.value_store.proofs.CellsStay.{cells_of-push, length-cells_of, slice_get-end, map-kept, pairs-kept, AllSay, all-say-more}

-- the new unit of a map
pub entry-says : (us : List StoreUnit) (u : MapUnit) → IsMap (cells_of us) u.older
    → u.size ≡ length (pairs_at (cells_of us) u.older) + 1 → u.size ≤ u.older + 1
    → Says (cells_of us ++ cell_of (cells_of us) (unit.Entry u) ∷ []) (length us + 1) (unit.Entry u)
entry-says us u is counted few =
    let more = cell_of (cells_of us) (unit.Entry u) ∷ [] in
    let within = slice_get_within (cells_of us) u.older _ is.is in
    record {
      before = omega (arith, within, length-cells_of us);
      map = map-kept (cells_of us) more u.older is;
      is = rw (pairs-kept (cells_of us) more u.older is, ← length-cells_of us) (slice_get-end (cells_of us) (cell_of (cells_of us) (unit.Entry u)));
      counted = rw (pairs-kept (cells_of us) more u.older is) counted;
      few = omega (arith, few, within, length-cells_of us);
    }

-- a store with one more map
pub put_gives : (inside us new : List StoreUnit) (u : MapUnit) → AllSay inside → inside ≡ us → new ≡ inside ++ unit.Entry u ∷ []
    → IsMap (cells_of us) u.older → u.size ≡ length (pairs_at (cells_of us) u.older) + 1 → u.size ≤ u.older + 1
    → AllSay new × (cells_of new ≡ cells_of us ++ cell_of (cells_of us) (unit.Entry u) ∷ []) × (length new ≡ length (cells_of us))
put_gives inside us new u all same is map counted few =
    let pushed : new ≡ us ++ unit.Entry u ∷ [] = is ∙ ap (λ x. x ++ unit.Entry u ∷ []) same in
    let before : AllSay us = subst AllSay same all in (
      subst AllSay (sym pushed) (all-say-more us (unit.Entry u) before (entry-says us u map counted few)),
      rw pushed (cells_of-push us (unit.Entry u)),
      omega (arith, ap (λ x. length x) pushed, length-append us (unit.Entry u ∷ []), length-cells_of us),
    )
