-- Where values are used and what is held against them, and labels past the last nonterminal, tried where the nearest wrong
-- reading differs.
use Rattle.std.proofs.Common.{◌≡◌, ℕ, inr, true, false, List, [], ◌∷◌, Some, None, refl, arith}
use Rattle.expr_lang.specs.Expression.{Expression, truth}
use Rattle.expr_lang.specs.PureValues.{PureValue}
use Rattle.beg_model.specs.Applies.{Holds}
use Rattle.beg_model.specs.Items.{Item}
use Rattle.beg_model.specs.Labels.{LabelTable, label_at}
use Rattle.beg_model.specs.Registers.{IsOperand, IsText, UsedAt, directly, by_text, Held}
use Rattle.beg_model.specs.declared.rules.Holding.TheVariants.{Class, Operand, Nothing}

-- a register, a text over it, and what uses the text
abbrev text_between : List Item
text_between =
    record { holds = Class 0; early = false; operands = [] }
    ∷ record { holds = Operand; early = false; operands = 0 ∷ [] }
    ∷ record { holds = Nothing; early = false; operands = 1 ∷ [] } ∷ []

-- the register is used where the text is, not at the text
pub through_a_text : UsedAt text_between 0 2
through_a_text = by_text 0 1 2
    (record { item = record { holds = Operand; early = false; operands = 0 ∷ [] }; is_item = refl; operand = (0, omega arith, refl) })
    (record { item = record { holds = Operand; early = false; operands = 0 ∷ [] }; is_item = refl; holds = refl })
    (directly 1 2
    (record { item = record { holds = Nothing; early = false; operands = 1 ∷ [] }; is_item = refl; operand = (0, omega arith, refl) })
    (λ is. let same = is.is_item in let holds = is.holds in cc))

-- a register, and an EARLY result that uses it
abbrev early_user : List Item
early_user =
    record { holds = Class 0; early = false; operands = [] } ∷ record { holds = Class 0; early = true; operands = 0 ∷ [] } ∷ []

-- the register is held against the result though it is used there
pub held_against_early : Held early_user 0 1
held_against_early = record {
  before = omega arith;
  use_place = 1;
  used = directly 0 1
      (record { item = record { holds = Class 0; early = true; operands = 0 ∷ [] }; is_item = refl; operand = (0, omega arith, refl) })
      (λ is. let same = is.is_item in let holds = is.holds in cc);
  after = inr (refl, record { item = record { holds = Class 0; early = true; operands = 0 ∷ [] }; is_item = refl; early = refl });
}

-- a rule whose condition is false doesn't hold
pub false_condition : (env : List PureValue) → Holds (Some (truth false)) env → ⊥
false_condition env holds = cc

-- past the last nonterminal there is no label, though the next node has one
pub next_row_is_no_label : label_at (record {
  nodes = 2;
  nonterminals = 1;
  labels = None ∷ Some (record { cost = 3; rule = 0 }) ∷ [];
}) 0 1 ≡ None
next_row_is_no_label = refl
