-- One round over the rules.
use Rattle.std.proofs.Common.{◌≡◌, ℕ, ◌+◌, ◌<◌, ◌≤◌, inl, inr, Bool, true, false, IsTrue, List, length, refl, ◌∙◌, arith, slice_get, Some}
use Rattle.std.proofs.lemmas.Option.{slice_get_within}
use Rattle.std.proofs.lemmas.Bool.{cases_eq}
use Rattle.ck_base.specs.BitSet.{BitSet, Has, Grew}
use Rattle.cfg_model.specs.declared.symbol.Sym.{Sym}
use Rattle.cfg_model.specs.Cfg.{Cfg, Rule, IsRule}
use Rattle.cfg_model.specs.within.Closing.{AllPass, IsSound, IsClosed, AreMakers, IsAdded}
use Rattle.cfg_model.proofs.Makers.{makes_passing, makes_by_rule, has_maker}

-- after the rules before place i: the set is sound and has grown, or no rule so far adds to it
pub record Rounding (words : Bool) (g : Cfg) (i : ℕ) (old new : BitSet) (grew : Bool) : Type 0 where
  pub size : new.size ≡ old.size
  pub sound : IsSound words g new
  pub kept : (n : ℕ) → Has old n → Has new n
  pub is_more : IsTrue grew → Grew old new
  pub closed : grew ≡ false → (k n : ℕ) (w : List Sym) → k < i → slice_get g.rules k ≡ Some (record { left = n; right = w })
      → AllPass words (Has new) w → Has new n

module _ (words : Bool) (g : Cfg) (i : ℕ) (old set new : BitSet) (grew : Bool) (one : Rule)
    (before : Rounding words g i old set grew) (is_rule : slice_get g.rules i ≡ Some one) where
  pub rule_at : IsRule g (i + 1) one.left one.right
  rule_at = record { place = i; from_one = refl; read = is_rule }

  pub round_added : IsAdded words one set new → Rounding words g (i + 1) old new true
  round_added added = record {
    size = added.adds.size ∙ before.size;
    sound = record {
      each = λ n has. elim (added.adds.only n has) [
        | inl was ↦ before.sound.each n was
        | inr left ↦ rw left (makes_by_rule g words (i + 1) one.left one.right rule_at (makes_passing g words (Has set) before.sound.each one.right added.passes))
      ];
    };
    kept = λ n has. added.adds.kept n (before.kept n has);
    is_more = λ _. (one.left, added.adds.more one.left refl, λ had. added.lacks (before.kept one.left had));
    closed = λ e. cc;
  }

  pub round_same : (new ≡ set) × (AllPass words (Has set) one.right → Has set one.left) → Rounding words g (i + 1) old new grew
  round_same (same, here) = rw same (record {
    size = before.size;
    sound = before.sound;
    kept = before.kept;
    is_more = before.is_more;
    closed = λ still k n w lt is pass. elim (cases_eq k i) [
      | inl here_is ↦
          let both : slice_get g.rules i ≡ Some (record { left = n; right = w }) = rw here_is at is in
          let rule_is : record { left = n; right = w } ≡ one = cc (both, is_rule) in
          let left_is : n ≡ one.left = rw (← rule_is) refl in
          let right_is : w ≡ one.right = rw (← rule_is) refl in
          rw left_is (here (rw right_is at pass))
      | inr other ↦ before.closed still k n w (omega arith) is pass
    ];
  })

-- after all rules the set is closed where it didn't grow
pub round_closed : (words : Bool) (g : Cfg) (i : ℕ) (old new : BitSet) (grew : Bool) → Rounding words g i old new grew
    → length g.rules ≤ i → grew ≡ false → IsClosed words g new
round_closed words g i old new grew round all still = record {
  each = λ r n w is pass. round.closed still is.place n w (omega (arith, slice_get_within g.rules is.place _ is.read)) is.read pass;
}

-- a closed and sound set is the wanted one
pub makers_are : (words : Bool) (g : Cfg) (set : BitSet) → set.size ≡ g.nonterminals → IsSound words g set → IsClosed words g set → AreMakers words g set
makers_are words g set size sound closed = record {
  size = size;
  only = sound.each;
  all = has_maker g words set closed;
}
