-- Items sorted by the symbols behind their dots.
use Rattle.std.proofs.Common.{◌≡◌, ℕ, ◌+◌, ◌<◌, List, [], length, sym, subst, slice_get, Some, get_or}
use Rattle.std.proofs.lemmas.Option.{slice_get-get_or}
use Rattle.cfg_model.specs.Cfg.{Cfg}
use Rattle.lalr_look.specs.within.Rows.{row_at}
use Rattle.lalr_look.specs.within.Kernel.{SortsTo, Sorts, put, left, Moves}

-- before the first item
pub sorted_first : (g : Cfg) (items : List ℕ) (rows : List (List ℕ)) → ((k : ℕ) → row_at rows k ≡ []) → (i : ℕ) → Moves g items i 0 (row_at rows i)
sorted_first g items rows empty i = subst (λ l. Moves g items i 0 l) (sym (empty i)) Moves.at_first

-- one item more
pub sorted_next : (g : Cfg) (items : List ℕ) (j d : ℕ) (old new : List (List ℕ)) → j < length items
    → ((i : ℕ) → Moves g items i j (row_at old i)) → Sorts g (get_or items j d) old new → (i : ℕ) → Moves g items i (j + 1) (row_at new i)
sorted_next g items j d old new low so_far sorts i = go (sorts i)
  where
    at : slice_get items j ≡ Some (get_or items j d)
    at = slice_get-get_or items j d low

    go : SortsTo g (get_or items j d) i (row_at old i) (row_at new i) → Moves g items i (j + 1) (row_at new i)
    go (put next e) = subst (λ l. Moves g items i (j + 1) l) (sym e) (Moves.moved j _ (row_at old i) (so_far i) at next)
    go (left not_next e) = subst (λ l. Moves g items i (j + 1) l) (sym e) (Moves.passed j _ (row_at old i) (so_far i) at not_next)
