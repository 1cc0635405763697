-- Texts that are begun.
use Rattle.std.specs.Prelude.{◌≡◌, ℕ, ◌<◌, ◌^◌, List, [], ◌∷◌, ◌++◌, length, drop, flat_map, Option, None, Some, slice_get}
use Rattle.ast_types.specs.TypeTable.{TypeTable}
use Rattle.expr_lang.specs.PureValues.{PureValue}
use Rattle.beg_model.specs.Cover.{Instance}
use Rattle.beg_model.specs.Fitting.{target, child, Fits}
use Rattle.beg_model.specs.declared.matched.Subgoal.{Subgoal}
use Rattle.beg_model.specs.Items.{items, AreKnown}
use Rattle.beg_model.specs.Registers.{HasClass, IsOperand}
use Rattle.beg_model.specs.RuleMeaning.{rules_in}
use Rattle.beg_model.specs.Rules.{Emitted, Rule}
use Rattle.beg_registers.specs.Assigned.{HasRegisters}
use Rattle.beg_registers.specs.Code.{Listed, said, text_at, emitted_at}
use Rattle.beg_registers.specs.declared.emitting.Begun.{Begun}

-- what the writer of texts reads: each instance's rule is there and fits its node, operands stand before it, and registers have names
pub record IsReadable (of : Listed) : Type 0 where
  pub few : length of.list < 2 ^ 32
  pub known : AreKnown of.rules of.list
  pub below : (w p : ℕ) → IsOperand (items of.rules of.list) w p → w < p
  pub size : length of.registers ≡ length of.list
  pub named : (p class k : ℕ) → HasClass (items of.rules of.list) p class → slice_get of.registers p ≡ Some (Some k)
      → (have : ℕ) × HasRegisters of.rules class have × (k < have)
  pub table : TypeTable
  pub fits : (p : ℕ) (i : Instance) → slice_get of.list p ≡ Some i → (rule : Rule) × (ops : List Subgoal) × (env : List PureValue)
      × (slice_get (rules_in of.texts of.rules).list i.rule ≡ Some rule)
      × Fits (target of.texts table of.nodes) rule.pattern (child i.node) ops env

-- what is left of texts that are begun, the innermost first
abbrev pub left_of : Listed → List Begun → List ℕ
left_of of [] = []
left_of of (b ∷ bs) = flat_map (said of (text_at of) b.instance) (drop b.piece (emitted_at of b.instance)) ++ left_of of bs

-- each begun text is that of an instance of the list
abbrev pub AreBegun : Listed → List Begun → Type 0
AreBegun of [] = Unit {0}
AreBegun of (b ∷ bs) = (b.instance < length of.list) × AreBegun of bs

-- a piece was written; or nothing was, since it stands for the text of operand o
abbrev pub PieceSaid : Listed → ℕ → Emitted → Option ℕ → List ℕ → List ℕ → Type 0
PieceSaid of p piece None out more = more ≡ out ++ said of (text_at of) p piece
PieceSaid of p piece (Some o) out more = (o < length of.list) × (said of (text_at of) p piece ≡ text_at of o) × (more ≡ out)
