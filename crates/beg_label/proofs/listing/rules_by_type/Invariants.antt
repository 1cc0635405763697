-- The types so far have their lists.
use Rattle.std.proofs.Common.{◌≡◌, ℕ, ◌<◌, length}
use Rattle.std.specs.Prelude.{slice_get}
use Rattle.value_store.specs.declared.text.Texts.{Texts}
use Rattle.beg_label.specs.within.Listed.{RulesListed}
use Rattle.beg_label.proofs.listing.rules_by_type.Given as goal

abbrev pub invariant-loop-ty : goal.invariant-loop-ty
invariant-loop-ty l = record {
  size : length l.lists.items ≡ l.ty;
  each : (texts : Texts) (t : ℕ) → t < l.ty → RulesListed texts l.rules l.types t (slice_get l.lists.items t);
}
