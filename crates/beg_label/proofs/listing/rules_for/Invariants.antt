-- The rules so far are listed.
use Rattle.value_store.specs.declared.text.Texts.{Texts}
use Rattle.beg_label.specs.within.Listed.{ListsRules}
use Rattle.beg_label.proofs.listing.rules_for.Given as goal

abbrev pub invariant-loop-r : goal.invariant-loop-r
invariant-loop-r l = (texts : Texts) → ListsRules texts l.rules l.types l.ty l.r l.list.items
