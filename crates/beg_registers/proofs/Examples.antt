-- Known cases of what instances emit.
use Rattle.std.proofs.Common.{◌≡◌, ℕ, [], ◌∷◌, List, Some, None, refl, zero, suc, ◌≤◌, subst, arith}
use Rattle.std.specs.Prelude.{codes, true, slice_get}
use Rattle.value_store.specs.declared.value.Value.{Value}
use Rattle.expr_lang.specs.PureValues.{bool, text}
use Rattle.beg_model.specs.Cover.{Instance}
use Rattle.beg_model.specs.Rules.{leaf, any, bind, tree, no_pattern, and_pattern}
use Rattle.beg_model.specs.declared.rules.Holding.TheVariants.{Class, Operand}
use Rattle.beg_model.specs.Items.{items}
use Rattle.beg_model.specs.Registers.{HasClass, IsNeed, Registers, IsLeastFree}
use Rattle.beg_model.specs.declared.rules.CoverRules.{CoverRules}
use Rattle.beg_registers.specs.Assigned.{HasRegisters, AreRegisters, IsUsedUp}
use Rattle.beg_registers.specs.Bound.{bound_at}
use Rattle.beg_registers.specs.Code.{operand_of, name_of, value_bytes, text_or_name, placed_text}

-- operand 1 is the first one, and there is no operand 0
first_operand : (r n a b : ℕ) → operand_of (Some (record { rule = r; node = n; operands = a ∷ b ∷ [] })) 1 ≡ Some a
first_operand r n a b = refl

no_operand_0 : (i : Instance) → operand_of (Some i) 0 ≡ None
no_operand_0 i = refl

-- a register's name is that of its number in its own class, and not in all classes one after the other
second_of_its_class : name_of ((codes "a0" ∷ []) ∷ (codes "r0" ∷ codes "r1" ∷ []) ∷ []) (Class 1) (Some (Some 1)) ≡ codes "r1"
second_of_its_class = refl

-- a text stands without quotes
without_quotes : value_bytes (text (codes "x")) ≡ codes "x"
without_quotes = refl

bool_in_letters : value_bytes (bool true) ≡ codes "true"
bool_in_letters = refl

-- what holds a text stands at its user's place and nowhere else
only_at_its_user : (written name : List ℕ) → placed_text Operand written ≡ []
only_at_its_user written name = refl

text_at_its_user : (written name : List ℕ) → text_or_name Operand written name ≡ written
text_at_its_user written name = refl

name_at_its_user : (c : ℕ) (written name : List ℕ) → text_or_name (Class c) written name ≡ name
name_at_its_user c written name = refl

-- a variable is the field at its own item: an operand before it takes a child, and `_` before it a field
second_field : (n c : ℕ) (v w : Value) → bound_at (record { ty = 0; children = []; fields = [] } ∷ record { ty = 1; children = 0 ∷ []; fields = v ∷ w ∷ [] } ∷ [])
    (tree 1 (and_pattern (leaf 0) (and_pattern any (and_pattern (bind 0) no_pattern)))) 1 ≡ w ∷ []
second_field n c v w = refl

-- where the first instance holds a register it is the first one of its class, and not any that is free
first_value_has_0 : (rules : CoverRules) (list : List Instance) (registers : Registers) (class : ℕ) → AreRegisters rules list registers
    → HasClass (items rules list) 0 class → slice_get registers 0 ≡ Some (Some 0)
first_value_has_0 rules list registers class are has =
    let (k, at, free) = are.regs.value 0 class has in
    subst (λ z. slice_get registers 0 ≡ Some (Some z)) (none_before k free) at
  where
    none_before : (k : ℕ) → IsLeastFree (items rules list) registers class 0 k → k ≡ 0
    none_before zero free = refl
    none_before (suc k) free = absurd (let (w, held, is) = free.least 0 (omega arith) in let lt = held.1.before in omega (arith, lt))

-- the class that is used up is the first, whatever later ones need
earlier_class_suffices : (rules : CoverRules) (list : List Instance) (need have n h : ℕ) → IsUsedUp rules list 1 need have
    → IsNeed (items rules list) 0 n → HasRegisters rules 0 h → n ≤ h
earlier_class_suffices rules list need have n h used needed there = used.first 0 n h (omega arith) needed there
