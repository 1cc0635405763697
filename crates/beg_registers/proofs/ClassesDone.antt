-- Class after class: needs that fit, and registers.
use Rattle.std.proofs.Common.{◌≡◌, ℕ, zero, suc, ◌+◌, ◌<◌, ◌≤◌, ◌⊎◌, List, [], ◌∷◌, ◌++◌, length, get_or, map, MatchOption, take, drop, append-nil, replicate, Option, Some, None, arith, inl, inr, refl, sym, subst, ap, ◌∙◌}
use Rattle.std.specs.Prelude.{slice_get}
use Rattle.std.proofs.lemmas.Option.{slice_get_within}
use Rattle.std.proofs.lemmas.List.{length-map, length-replicate}
use Rattle.beg_model.specs.Cover.{Instance}
use Rattle.beg_model.specs.declared.rules.CoverRules.{CoverRules}
use Rattle.beg_registers.specs.Assigned.{HasRegisters, AreRegisters, IsUsedUp}
use Rattle.beg_model.specs.Items.{Item, items}
use Rattle.beg_model.specs.Registers.{HasClass, IsText, UsedAt, HeldOf, IsOperand, IsNeed, Registers, IsLeastFree, Regs, Kept}
use Rattle.beg_model.specs.Registers as registers
use Rattle.beg_registers.specs.within.Fitting.{FitBelow, AssignedBelow}
use Rattle.beg_registers.specs.within.OnePass.{AreUses, IsRoomy}
use Rattle.beg_registers.proofs.ItemsRead.{length_items}
use Rattle.beg_registers.proofs.RegisterLaws.{within_need, kept}
use Rattle.beg_registers.proofs.RegsExist.{one_class, class_at}
use Rattle.beg_registers.proofs.UseLaws.{IsTree, one_use, use_exists, held_tested}
use Rattle.beg_model.proofs.Search.{at_most_or_more}

drop_past : {X : Type 0} (k : ℕ) (xs : List X) → length xs ≤ k → drop k xs ≡ []
drop_past zero [] le = refl
drop_past (suc k) [] le = refl
drop_past zero (x ∷ xs) le = absurd (omega (arith, le))
drop_past (suc k) (x ∷ xs) le = drop_past k xs (omega (arith, le))

take_past : {X : Type 0} (k : ℕ) (xs : List X) → length xs ≤ k → take k xs ≡ xs
take_past zero [] le = refl
take_past (suc k) [] le = refl
take_past zero (x ∷ xs) le = absurd (omega (arith, le))
take_past (suc k) (x ∷ xs) le = ap (λ z. x ∷ z) (take_past k xs (omega (arith, le)))

none_some : (k : ℕ) → Some None ≡ Some (Some k) → ⊥
none_some k e = cc

none_there : (n p k : ℕ) → slice_get (replicate n None) p ≡ Some (Some k) → ⊥
none_there zero p k e = cc
none_there (suc n) zero k e = none_some k e
none_there (suc n) (suc p) k e = none_there n p k e

-- what a slice of a whole Vec wrote back
pub written_back : {X : Type 0} (len : ℕ) (new old : List X) → length new ≡ length old → len ≡ length old → take len (new ++ drop (length new) old) ≡ new
written_back len new old same all =
    ap (λ z. take len (new ++ z)) (drop_past (length new) old (omega (arith, same))) ∙ ap (λ z. take len z) (append-nil new)
    ∙ take_past len new (omega (arith, same, all))

pub of_none : {X F : Type 0} (G : X → Type 0) (o : Option X) → o ≡ None → MatchOption o F G → F
of_none G None e f = f
of_none G (Some x) e g = cc

-- a class has one need
need_at_most : {list : List Item} {class n m : ℕ} → IsNeed list class n → IsNeed list class m → n ≤ m
need_at_most a b = elim a.reached [
  | inl (none, absent) ↦ omega (arith, none)
  | inr (p, k, h, count, is) ↦ (let le = b.enough p k h count in omega (arith, is, le))
]

pub one_need : {list : List Item} {class n m : ℕ} → IsNeed list class n → IsNeed list class m → n ≡ m
one_need a b = let x = need_at_most a b in let y = need_at_most b a in omega (arith, x, y)

one_number : {o : Option ℕ} {a b : ℕ} → o ≡ Some a → o ≡ Some b → a ≡ b
one_number e f = cc

one_register : {o : Option (Option ℕ)} {a b : ℕ} → o ≡ Some (Some a) → o ≡ Some (Some b) → a ≡ b
one_register e f = cc

used_within : {list : List Item} {w p : ℕ} → UsedAt list w p → p < length list
used_within {list = list} (registers.directly w p o none) = slice_get_within list p o.item o.is_item
used_within (registers.by_text w t p o text more) = used_within more

operand_of : {list : List Item} {w u : ℕ} → UsedAt list w u → (p : ℕ) × IsOperand list w p
operand_of (registers.directly w p o none) = (p, o)
operand_of (registers.by_text w t p o text more) = (t, o)

-- a text is an operand
pub text_used : (list : List Item) → IsTree list → (p : ℕ) → IsText list p → (q : ℕ) × IsOperand list p q
text_used list t p text =
    let within = slice_get_within list p text.item text.is_item in
    elim (at_most_or_more (length list) (p + 1)) [
      | inl last ↦ absurd ((t.root p (omega (arith, last, within))).0 text)
      | inr more ↦ (let (q, lt, o) = t.parent p more in (q, o))
    ]

use_of : (list : List Item) (uses : List ℕ) (class : ℕ) → IsTree list → ((w p : ℕ) → IsOperand list w p → UsedAt list w (get_or uses w 0))
    → (w : ℕ) → HasClass list w class → UsedAt list w (get_or uses w 0) × (w < get_or uses w 0)
use_of list uses class t used w h =
    let (u, a, later) = use_exists list t w class h in
    let (p, o) = operand_of a in
    let there = used w p o in
    (there, subst (λ z. w < z) (one_use list t (get_or uses w 0) a there) later)

-- places of use of all operands are those of the values of a class
pub class_uses : (list : List Item) (uses : List ℕ) (class : ℕ) → IsTree list → length uses ≡ length list
    → ((w p : ℕ) → IsOperand list w p → UsedAt list w (get_or uses w 0)) → AreUses list uses class
class_uses list uses class t size used = record {
  size = size;
  used = λ w h. (let (there, later) = use_of list uses class t used w h in (there, later, used_within there));
  once = λ w u h a. (let (there, later) = use_of list uses class t used w h in one_use list t (get_or uses w 0) a there);
}

-- ------------------------------------------------------------------ needs

before_or_here : (c m : ℕ) → c < m + 1 → (c < m) ⊎ (c ≡ m)
before_or_here c m lt = grind arith

module _ (rules : CoverRules) (list : List Instance) where
  pub fit_none : FitBelow rules list 0
  fit_none = λ class have lt is. absurd (omega (arith, lt))

  pub fit_more : (m need have : ℕ) → FitBelow rules list m → HasRegisters rules m have → IsNeed (items rules list) m need → need ≤ have
      → FitBelow rules list (m + 1)
  fit_more m need have fit has is le = λ class h lt has_h. elim (before_or_here class m lt) [
    | inl before ↦ fit class h before has_h
    | inr same ↦ (
      need,
      subst (λ z. IsNeed (items rules list) z need) (sym same) is,
      (let e = one_number has (subst (λ z. HasRegisters rules z h) same has_h) in omega (arith, le, e)),
    )
  ]

  pub used_up : (m need have : ℕ) → FitBelow rules list m → HasRegisters rules m have → IsNeed (items rules list) m need → have < need
      → IsUsedUp rules list m need have
  used_up m need have fit has is more = record {
    need_is = is;
    have_is = has;
    exceeds = more;
    first = λ other n h lt is_n has_h. (let (k, is_k, le) = fit other h lt has_h in let same = one_need is_n is_k in omega (arith, le, same));
  }

  -- ------------------------------------------------------------------ registers

  pub assigned_none : (rs : Registers) → length rs ≡ length list → ((p k : ℕ) → slice_get rs p ≡ Some (Some k) → ⊥) → AssignedBelow rules list rs 0
  assigned_none rs size none = record {
    size = size;
    values = λ p class have lt h has. absurd (omega (arith, lt));
    others = λ p k is. absurd (none p k is);
  }

  pub assigned_first : (rs : Registers) → rs ≡ replicate (length list) None → AssignedBelow rules list rs 0
  assigned_first rs is = assigned_none rs (ap length is ∙ length-replicate (length list) None)
      (λ p k has. none_there (length list) p k (subst (λ z. slice_get z p ≡ Some (Some k)) is has))

  pub room : (t : IsTree (items rules list)) (m end have : ℕ) → FitBelow rules list end → m < end → HasRegisters rules m have → IsRoomy (items rules list) m have
  room t m end have fit lt has = λ rs p k value least.
      (let (need, is, le) = fit m have lt has in
      let less = within_need (items rules list) (held_tested (items rules list) t) rs m p k need is value least in
      omega (arith, less, le))

  -- a free register stays so where the registers of its class do
  same_free : (old new : Registers) (class p k : ℕ) → ((w : ℕ) → HasClass (items rules list) w class → slice_get new w ≡ slice_get old w)
      → IsLeastFree (items rules list) old class p k → IsLeastFree (items rules list) new class p k
  same_free old new class p k same least = record {
    free = λ w h is. least.free w h (sym (same w h.0) ∙ is);
    least = λ j lt. (let (w, h, is) = least.least j lt in (w, h, same w h.0 ∙ is));
  }

  pub assigned_more : (old new : Registers) (m have : ℕ) → AssignedBelow rules list old m → HasRegisters rules m have → length new ≡ length old
      → ((p : ℕ) → HasClass (items rules list) p m → (k : ℕ) × (slice_get new p ≡ Some (Some k)) × IsLeastFree (items rules list) new m p k × (k < have))
      → ((p : ℕ) → (HasClass (items rules list) p m → ⊥) → slice_get new p ≡ slice_get old p)
      → AssignedBelow rules list new (m + 1)
  assigned_more old new m have so_far has size values others = record {
    size = size ∙ so_far.size;
    values = λ p class h lt value has_h. elim (before_or_here class m lt) [
      | inl before ↦ (let (k, is, least, within) = so_far.values p class h before value has_h in
          let apart : (w : ℕ) → HasClass (items rules list) w class → slice_get new w ≡ slice_get old w =
          λ w v. others w (λ mine. (let e = one_class v mine in omega (arith, e, before))) in
          (k, apart p value ∙ is, same_free old new class p k apart least, within))
      | inr same ↦ (let (k, is, least, within) = values p (subst (λ z. HasClass (items rules list) p z) same value) in
          let e = one_number has (subst (λ z. HasRegisters rules z h) same has_h) in
          (k, is, subst (λ z. IsLeastFree (items rules list) new z p k) (sym same) least, omega (arith, within, e)))
    ];
    others = λ p k is. elim (at_most_or_more (length (items rules list)) p) [
      | inl past ↦ absurd (let lt = slice_get_within new p (Some k) is in let e = length_items rules list in let s = so_far.size in
          omega (arith, past, lt, size, e, s))
      | inr lt ↦ elim (class_at (items rules list) p lt) [
        | inl (class, h) ↦ (class, h)
        | inr none ↦ so_far.others p k (sym (others p (none m)) ∙ is)
      ]
    ];
  }

  class_within : (class have : ℕ) → HasRegisters rules class have → class < length rules.classes.items
  class_within class have has =
      let lt = slice_get_within (map (λ names. length names.items) rules.classes.items) class have has in
      subst (λ z. class < z) (length-map rules.classes.items (λ names. length names.items)) lt

  pub all_assigned : (rs : Registers) → AssignedBelow rules list rs (length rules.classes.items) → FitBelow rules list (length rules.classes.items)
      → ((p class : ℕ) → HasClass (items rules list) p class → (have : ℕ) × HasRegisters rules class have) → AreRegisters rules list rs
  all_assigned rs done fit there =
      let regs : Regs (items rules list) rs = record {
        size = done.size ∙ sym (length_items rules list);
        value = λ p class h. (let (have, has) = there p class h in
            let (k, is, least, within) = done.values p class have (class_within class have has) h has in (k, is, least));
        other = done.others;
      } in
      record {
        regs = regs;
        kept = kept (items rules list) rs regs;
        within = λ p class k have h is has. (let (j, is_j, least, within) = done.values p class have (class_within class have has) h has in
            let same = one_register is is_j in omega (arith, within, same));
        fit = λ class need have is has. (let (n, is_n, le) = fit class have (class_within class have has) has in let same = one_need is is_n in omega (arith, le, same));
      }
