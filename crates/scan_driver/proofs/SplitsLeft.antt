-- The splits that are left, as values.
use Rattle.std.proofs.Common.{◌≡◌, ℕ, ◌+◌, ◌<◌, List, ◌∷◌, length, map, drop, get_or, Some, All, refl, sym, ap, subst, ◌∙◌}
use Rattle.std.specs.Prelude.{slice_get}
use Rattle.std.proofs.lemmas.Bool.{eq-eqb}
use Rattle.std.proofs.lemmas.List.{drop_more}
use Rattle.std.proofs.lemmas.Option.{slice_get-map, slice_get_read, slice_get_within, get_or_from_slice_get}
use Rattle.rex_model.specs.TableMeaning.{halves_of}
use Rattle.rex_model.specs.Tables.{Halves, IsSplit, split_of}
use Rattle.rex_model.specs.declared.tables.Split.{Split}

module _ (splits : List Split) (i : ℕ) (split : Split) (within : i < length splits) (is : split ≡ get_or splits i split) where
  -- from a place on there is the split at that place, and those behind it
  splits_left : map halves_of (drop i splits) ≡ halves_of split ∷ map halves_of (drop (i + 1) splits)
  splits_left = ap (map halves_of) (drop_more splits i split within) ∙ ap (λ first. halves_of first ∷ map halves_of (drop (i + 1) splits)) (sym is)

  -- the first one of the rule's number is the rule's
  pub split_here : (rule : ℕ) → split.rule ≡ rule → split_of (map halves_of (drop i splits)) rule ≡ split_of (map halves_of splits) rule
      → split_of (map halves_of splits) rule ≡ Some (halves_of split)
  split_here rule same before = sym before ∙ ap (λ (left : List Halves). split_of left rule) splits_left ∙ here
    where
      here : split_of (halves_of split ∷ map halves_of (drop (i + 1) splits)) rule ≡ Some (halves_of split)
      here = rw (eq-eqb split.rule rule same) refl

  pub is_split_here : All IsSplit (map halves_of splits) → IsSplit (halves_of split)
  is_split_here all =
      let read = slice_get_read splits (length splits) i split refl within is in
      let there : slice_get (map halves_of splits) i ≡ Some (halves_of split) = rw (slice_get-map halves_of splits i, read) in
      subst IsSplit (get_or_from_slice_get (map halves_of splits) i (halves_of split) (halves_of split) there)
      (all i (halves_of split) (slice_get_within (map halves_of splits) i (halves_of split) there))
