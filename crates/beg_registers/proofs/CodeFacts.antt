-- What the writer of texts reads: where rules, operands, names and fields stand.
use Rattle.std.proofs.Common.{◌≡◌, ℕ, zero, suc, ◌+◌, ◌<◌, ◌≤◌, List, [], ◌∷◌, ◌++◌, length, reverse, map, Option, Some, None, true, false, if◌then◌else◌, arith, refl, sym, subst, ap, ◌∙◌, append-nil, append_assoc, add-one}
use Rattle.std.specs.Prelude.{slice_get}
use Rattle.std.proofs.lemmas.Option.{slice_get_within, get_or_from_slice_get}
use Rattle.value_store.specs.declared.text.Texts.{Texts}
use Rattle.ast_types.specs.TypeTable.{TypeTable}
use Rattle.tree_store.specs.Forest.{Node}
use Rattle.beg_model.specs.Cover.{Instance}
use Rattle.beg_model.specs.Fitting.{target, child, Fits}
use Rattle.beg_model.specs.Items.{items, item_of}
use Rattle.beg_model.specs.Registers.{Registers, HasClass}
use Rattle.beg_model.specs.RuleMeaning as meaning
use Rattle.beg_model.specs.RuleMeaning.{rules_in}
use Rattle.beg_model.specs.Rules.{Rule}
use Rattle.beg_model.specs.declared.rules.CoverRule.{CoverRule}
use Rattle.beg_model.specs.declared.rules.CoverRules.{CoverRules}
use Rattle.beg_model.specs.declared.rules.Holding.{Holding}
use Rattle.beg_model.specs.declared.rules.Holding.TheVariants.{Class, Operand, Nothing}
use Rattle.beg_registers.specs.Assigned.{AreRegisters}
use Rattle.beg_registers.specs.Chosen.{IsChosenList}
use Rattle.value_store.specs.declared.value.Value.{Value}
use Rattle.beg_model.specs.RuleMeaning.{pattern_of, emitted_of}
use Rattle.beg_model.specs.Rules.{operand, field}
use Rattle.beg_model.proofs.PatternsInRow.{mapped_read}
use Rattle.beg_registers.specs.Bound.{bound_at}
use Rattle.beg_registers.specs.Code.{Listed, listed, held_at, holds_in, operand_of, name_of, names_in, bytes_in, register_name, is_text, operand_said, text_at, field_bytes, bound_by, rule_for, emitted_by, emitted_at, said, code_to, placed_text}
use Rattle.beg_registers.specs.within.Begun.{IsReadable, PieceSaid, left_of}
use Rattle.beg_registers.specs.within.Shown.{FitsNode}
use Rattle.beg_registers.specs.declared.emitting.Begun.{Begun}
use Rattle.beg_model.specs.declared.rules.Piece.{Piece}
use Rattle.std.proofs.lemmas.List.{reverse-append, length-map}
use Rattle.beg_registers.proofs.CodeTexts.{OperandsBefore, left_none, left_piece, left_whole}
use Rattle.beg_registers.proofs.Choices.{rule_is}
use Rattle.beg_registers.proofs.ItemsRead.{item_is, length_items}
use Rattle.beg_registers.proofs.ListFacts.{got, short, known, is_tree, class_there, covers_at}

-- the list that was chosen, with the registers that were assigned, can be read
pub readable : (texts : Texts) (rules : CoverRules) (table : TypeTable) (nodes : List Node) (list : List Instance) (registers : Registers)
    → IsChosenList texts rules table nodes list → AreRegisters rules list registers → IsReadable (listed texts rules nodes list registers)
readable texts rules table nodes list registers is are = record {
  few = (let le = short texts rules table nodes list is in omega (arith, le));
  known = known texts rules table nodes list is;
  below = (is_tree texts rules table nodes list is).below;
  size = are.regs.size ∙ length_items rules list;
  named = λ p class k has at. (let (have, there) = class_there texts rules table nodes list is p class has in
      (have, there, are.within p class k have has at there));
  table = table;
  fits = λ p i at. (let c = covers_at texts rules table nodes list is p i at in (c.applies.rule, c.places, c.applies.env, c.applies.is, c.applies.fits));
}

operand_before : (of : Listed) → IsReadable of → (p n o : ℕ) (i : Option Instance) → slice_get of.list p ≡ i → operand_of i n ≡ Some o → o < p
operand_before of is p n o None at e = cc
operand_before of is p zero o (Some i) at e = cc
operand_before of is p (suc n) o (Some i) at e = is.below o p (record {
  item = item_of of.rules i;
  is_item = item_is of.rules of.list p i at;
  operand = (n, slice_get_within i.operands n o e, get_or_from_slice_get i.operands n o o e);
})

-- operands stand before the instance that has them
pub before : (of : Listed) → IsReadable of → OperandsBefore of
before of is = λ p n o e. operand_before of is p n o (slice_get of.list p) refl e

one_rule : {o : Option Rule} {a b : Rule} → o ≡ Some a → o ≡ Some b → a ≡ b
one_rule e f = cc

-- the pattern of an instance's rule fits its node
pub fits_node : (of : Listed) → IsReadable of → (p : ℕ) (i : Instance) (rule : CoverRule) → slice_get of.list p ≡ Some i
    → slice_get of.rules.rules.items i.rule ≡ Some rule → FitsNode of.nodes rule.pattern i.node
fits_node of is p i rule at there =
    let (meant, ops, env, meant_is, fits) = is.fits p i at in
    let same = one_rule meant_is (rule_is of.texts of.rules is.table of.nodes i.rule rule there) in
    record {
      on = target of.texts is.table of.nodes;
      is = refl;
      ops = ops;
      env = env;
      fits = subst (λ (z : Rule). Fits (target of.texts is.table of.nodes) z.pattern (child i.node) ops env) same fits;
    }

-- what the instance that stands there holds
pub held_is : (of : Listed) (p : ℕ) (i : Instance) → slice_get of.list p ≡ Some i → held_at of p ≡ (item_of of.rules i).holds
held_is of p i at = ap holds_in (item_is of.rules of.list p i at)

pub class_held : (of : Listed) (p class : ℕ) (i : Instance) → slice_get of.list p ≡ Some i → (item_of of.rules i).holds ≡ Class class → HasClass (items of.rules of.list) p class
class_held of p class i at holds = record { item = item_of of.rules i; is_item = item_is of.rules of.list p i at; holds = holds }

-- the register of an instance that holds one of a class is one of that class
pub class_of_register : (of : Listed) → IsReadable of → (p class k : ℕ) (i : Instance) → slice_get of.list p ≡ Some i → (item_of of.rules i).holds ≡ Class class
    → slice_get of.registers p ≡ Some (Some k) → (names : List (List ℕ))
    × (slice_get (map (λ names. names.items) of.rules.classes.items) class ≡ Some names) × (k < length names) × (class < length of.rules.classes.items)
class_of_register of is p class k i at holds register =
    let (have, there, lt) = is.named p class k (class_held of p class i at holds) register in
    let (names, found, long) = got (λ names. length names.items) of.rules.classes.items class have there in
    (names.items, mapped_read (λ names. names.items) of.rules.classes.items class names found, omega (arith, lt, long), slice_get_within of.rules.classes.items class names found)

one_list : {o : Option (List (List ℕ))} {a b : List (List ℕ)} → o ≡ Some a → o ≡ Some b → a ≡ b
one_list e f = cc

pub register_in_class : (of : Listed) → IsReadable of → (p class k : ℕ) (i : Instance) (names : List (List ℕ)) → slice_get of.list p ≡ Some i
    → (item_of of.rules i).holds ≡ Class class → slice_get of.registers p ≡ Some (Some k)
    → slice_get (map (λ names. names.items) of.rules.classes.items) class ≡ Some names → k < length names
register_in_class of is p class k i names at holds register found =
    let (others, there, lt, low) = class_of_register of is p class k i at holds register in
    subst (λ z. k < length z) (one_list there found) lt

pub name_is : (of : Listed) (p class k : ℕ) (i : Instance) (names : List (List ℕ)) (name : List ℕ) → slice_get of.list p ≡ Some i
    → (item_of of.rules i).holds ≡ Class class → slice_get of.registers p ≡ Some (Some k)
    → slice_get (map (λ names. names.items) of.rules.classes.items) class ≡ Some names → slice_get names k ≡ Some name → register_name of p ≡ name
name_is of p class k i names name at holds register found is =
    ap (λ h. name_of (rules_in of.texts of.rules).classes h (slice_get of.registers p)) (held_is of p i at ∙ holds)
    ∙ ap (λ r. name_of (rules_in of.texts of.rules).classes (Class class) r) register
    ∙ ap (λ o. bytes_in (slice_get (names_in o) k)) found ∙ ap bytes_in is

without_register : (classes : List (List (List ℕ))) (h : Holding) → name_of classes h (Some None) ≡ []
without_register classes (Class class) = refl
without_register classes Operand = refl
without_register classes Nothing = refl

text_without : (classes : List (List (List ℕ))) (r : Option (Option ℕ)) → name_of classes Operand r ≡ []
text_without classes None = refl
text_without classes (Some None) = refl
text_without classes (Some (Some k)) = refl

nothing_without : (classes : List (List (List ℕ))) (r : Option (Option ℕ)) → name_of classes Nothing r ≡ []
nothing_without classes None = refl
nothing_without classes (Some None) = refl
nothing_without classes (Some (Some k)) = refl

added_nothing : (out name : List ℕ) → name ≡ [] → out ≡ out ++ name
added_nothing out name none = sym (append-nil out) ∙ ap (λ z. out ++ z) (sym none)

pub no_register : (of : Listed) (p : ℕ) (out : List ℕ) → slice_get of.registers p ≡ Some None → out ≡ out ++ register_name of p
no_register of p out none = added_nothing out (register_name of p)
    (ap (λ r. name_of (rules_in of.texts of.rules).classes (held_at of p) r) none ∙ without_register (rules_in of.texts of.rules).classes (held_at of p))

pub no_name_of_text : (of : Listed) (p : ℕ) (i : Instance) (out : List ℕ) → slice_get of.list p ≡ Some i → (item_of of.rules i).holds ≡ Operand → out ≡ out ++ register_name of p
no_name_of_text of p i out at holds = added_nothing out (register_name of p)
    (ap (λ h. name_of (rules_in of.texts of.rules).classes h (slice_get of.registers p)) (held_is of p i at ∙ holds)
    ∙ text_without (rules_in of.texts of.rules).classes (slice_get of.registers p))

pub no_name_of_nothing : (of : Listed) (p : ℕ) (i : Instance) (out : List ℕ) → slice_get of.list p ≡ Some i → (item_of of.rules i).holds ≡ Nothing → out ≡ out ++ register_name of p
no_name_of_nothing of p i out at holds = added_nothing out (register_name of p)
    (ap (λ h. name_of (rules_in of.texts of.rules).classes h (slice_get of.registers p)) (held_is of p i at ∙ holds)
    ∙ nothing_without (rules_in of.texts of.rules).classes (slice_get of.registers p))

-- ------------------------------------------------------------------ operands

-- the operand that is written in place of a piece, which stands before
pub operand_there : (of : Listed) → IsReadable of → (p n o : ℕ) (i : Instance) → slice_get of.list p ≡ Some i → operand_of (Some i) n ≡ Some o → p < length of.list
    → o < length of.list
operand_there of is p n o i at e lt = let low = operand_before of is p n o (Some i) at e in omega (arith, low, lt)

pub operand_is_text : (of : Listed) (p n o : ℕ) (i j : Instance) (out : List ℕ) → slice_get of.list p ≡ Some i → operand_of (Some i) n ≡ Some o
    → slice_get of.list o ≡ Some j → is_text (item_of of.rules j).holds ≡ true → o < length of.list → PieceSaid of p (operand n) (Some o) out out
operand_is_text of p n o i j out at e there holds lt = (
  lt,
  ap (λ z. operand_said of (text_at of) (operand_of z n)) at ∙ ap (operand_said of (text_at of)) e
      ∙ ap (λ z. if is_text z then text_at of o else register_name of o) (held_is of o j there)
      ∙ ap (λ z. if z then text_at of o else register_name of o) holds,
  refl,
)

pub operand_is_named : (of : Listed) (p n o : ℕ) (i j : Instance) (out more : List ℕ) → slice_get of.list p ≡ Some i → operand_of (Some i) n ≡ Some o
    → slice_get of.list o ≡ Some j → is_text (item_of of.rules j).holds ≡ false → more ≡ out ++ register_name of o → PieceSaid of p (operand n) None out more
operand_is_named of p n o i j out more at e there holds is =
    is ∙ ap (λ z. out ++ z) (sym (ap (λ z. operand_said of (text_at of) (operand_of z n)) at ∙ ap (operand_said of (text_at of)) e
    ∙ ap (λ z. if is_text z then text_at of o else register_name of o) (held_is of o j there)
    ∙ ap (λ z. if z then text_at of o else register_name of o) holds))

pub operand_is_none : (of : Listed) (p n : ℕ) (i : Instance) (out : List ℕ) → slice_get of.list p ≡ Some i → operand_of (Some i) n ≡ None → PieceSaid of p (operand n) None out out
operand_is_none of p n i out at e = added_nothing out _ (ap (λ z. operand_said of (text_at of) (operand_of z n)) at ∙ ap (operand_said of (text_at of)) e)

-- ------------------------------------------------------------------ fields

pub field_said : (of : Listed) (p k : ℕ) (i : Instance) (out more : List ℕ) → slice_get of.list p ≡ Some i
    → more ≡ out ++ field_bytes of.texts (slice_get (bound_by of.nodes (rule_for (rules_in of.texts of.rules).list (Some i)) (Some i)) k)
    → PieceSaid of p (field k) None out more
field_said of p k i out more at is =
    is ∙ ap (λ z. out ++ field_bytes of.texts (slice_get (bound_by of.nodes (rule_for (rules_in of.texts of.rules).list z) z) k)) (sym at)

-- the fields that were collected are those that the rule binds
pub fields_are : (texts : Texts) (rules : CoverRules) (nodes : List Node) (i : Instance) (rule : CoverRule) → slice_get rules.rules.items i.rule ≡ Some rule
    → bound_by nodes (rule_for (rules_in texts rules).list (Some i)) (Some i)
    ≡ bound_at nodes (pattern_of texts.source.now texts.literals.now rule.pattern) i.node
fields_are texts rules nodes i rule there =
    ap (λ o. bound_by nodes o (Some i)) (mapped_read (meaning.rule_of texts.source.now texts.literals.now) rules.rules.items i.rule rule there)

pub field_written : (texts : Texts) (rules : CoverRules) (nodes : List Node) (i : Instance) (rule : CoverRule) (k : ℕ) (fields : List Value) (got_it : Option Value) (out more : List ℕ)
    → slice_get rules.rules.items i.rule ≡ Some rule → fields ≡ bound_at nodes (pattern_of texts.source.now texts.literals.now rule.pattern) i.node
    → slice_get fields k ≡ got_it → more ≡ out ++ field_bytes texts got_it
    → more ≡ out ++ field_bytes texts (slice_get (bound_by nodes (rule_for (rules_in texts rules).list (Some i)) (Some i)) k)
field_written texts rules nodes i rule k fields got_it out more there are is written =
    written ∙ ap (λ z. out ++ field_bytes texts z) (sym is ∙ ap (λ z. slice_get z k) (are ∙ sym (fields_are texts rules nodes i rule there)))

-- ------------------------------------------------------------------ texts that are begun

pub pushed : {X : Type 0} (old new : List X) (x : X) → new ≡ old ++ x ∷ [] → reverse new ≡ x ∷ reverse old
pushed old new x e = ap reverse e ∙ reverse-append old (x ∷ [])

pub no_more : {X : Type 0} (xs : List X) → length xs ≡ 0 → xs ≡ []
no_more [] e = refl
no_more (x ∷ xs) e = absurd (omega (arith, e))

-- the pieces of an instance, from those of its rule
emitted_is : (of : Listed) (p : ℕ) (i : Instance) (ps : List Piece) → slice_get of.list p ≡ Some i
    → map (emitted_of of.texts.source.now of.texts.literals.now) ps ≡ emitted_by (slice_get (rules_in of.texts of.rules).list i.rule)
    → emitted_at of p ≡ map (emitted_of of.texts.source.now of.texts.literals.now) ps
emitted_is of p i ps at e = ap (λ z. emitted_by (rule_for (rules_in of.texts of.rules).list z)) at ∙ sym e

pub none_left : (of : Listed) (last : Begun) (i : Instance) (ps : List Piece) (bs : List Begun) (out : List ℕ) → slice_get of.list last.instance ≡ Some i
    → map (emitted_of of.texts.source.now of.texts.literals.now) ps ≡ emitted_by (slice_get (rules_in of.texts of.rules).list i.rule)
    → length ps ≤ last.piece → out ++ left_of of bs ≡ out ++ left_of of (last ∷ bs)
none_left of last i ps bs out at e past =
    let size = ap length (emitted_is of last.instance i ps at e) ∙ length-map ps (emitted_of of.texts.source.now of.texts.literals.now) in
    ap (λ z. out ++ z) (sym (left_none of last bs (omega (arith, size, past))))

piece_there : (of : Listed) (last : Begun) (i : Instance) (ps : List Piece) (x : Piece) → slice_get of.list last.instance ≡ Some i
    → map (emitted_of of.texts.source.now of.texts.literals.now) ps ≡ emitted_by (slice_get (rules_in of.texts of.rules).list i.rule)
    → slice_get ps last.piece ≡ Some x → slice_get (emitted_at of last.instance) last.piece ≡ Some (emitted_of of.texts.source.now of.texts.literals.now x)
piece_there of last i ps x at e is =
    ap (λ z. slice_get z last.piece) (emitted_is of last.instance i ps at e)
    ∙ mapped_read (emitted_of of.texts.source.now of.texts.literals.now) ps last.piece x is

-- a piece that was written
pub next_none : (of : Listed) (last : Begun) (i : Instance) (ps : List Piece) (piece : Piece) (bs : List Begun) (out more : List ℕ) → slice_get of.list last.instance ≡ Some i
    → map (emitted_of of.texts.source.now of.texts.literals.now) ps ≡ emitted_by (slice_get (rules_in of.texts of.rules).list i.rule) → slice_get ps last.piece ≡ Some piece
    → PieceSaid of last.instance (emitted_of of.texts.source.now of.texts.literals.now piece) None out more
    → more ++ left_of of (record { instance = last.instance; piece = last.piece + 1 } ∷ bs) ≡ out ++ left_of of (last ∷ bs)
next_none of last i ps piece bs out more at e there is =
    let x = emitted_of of.texts.source.now of.texts.literals.now piece in
    let rest = left_of of (record { instance = last.instance; piece = last.piece + 1 } ∷ bs) in
    ap (λ z. z ++ rest) is ∙ append_assoc out (said of (text_at of) last.instance x) rest
    ∙ ap (λ z. out ++ z) (sym (left_piece of last.instance last.piece x bs (piece_there of last i ps piece at e there)))

-- a piece that stands for a text, which is begun
pub next_some : (of : Listed) → IsReadable of → (last : Begun) (i : Instance) (ps : List Piece) (piece : Piece) (bs : List Begun) (o : ℕ) (out more : List ℕ) → slice_get of.list last.instance ≡ Some i
    → map (emitted_of of.texts.source.now of.texts.literals.now) ps ≡ emitted_by (slice_get (rules_in of.texts of.rules).list i.rule) → slice_get ps last.piece ≡ Some piece
    → PieceSaid of last.instance (emitted_of of.texts.source.now of.texts.literals.now piece) (Some o) out more
    → more ++ left_of of (record { instance = o; piece = 0 } ∷ (record { instance = last.instance; piece = last.piece + 1 } ∷ bs)) ≡ out ++ left_of of (last ∷ bs)
next_some of readable last i ps piece bs o out more at e there (low, same, is) =
    let x = emitted_of of.texts.source.now of.texts.literals.now piece in
    let behind : List Begun = record { instance = last.instance; piece = last.piece + 1 } ∷ bs in
    ap (λ z. z ++ left_of of (record { instance = o; piece = 0 } ∷ behind)) is
    ∙ ap (λ z. out ++ z) (left_whole of (before of readable) o behind low ∙ ap (λ z. z ++ left_of of behind) (sym same)
    ∙ sym (left_piece of last.instance last.piece x bs (piece_there of last i ps piece at e there)))

-- ------------------------------------------------------------------ the whole

pub one_text_more : (of : Listed) (p : ℕ) (out more : List ℕ) → out ≡ code_to of p → more ≡ out ++ placed_text (held_at of p) (text_at of p) → more ≡ code_to of (p + 1)
one_text_more of p out more is e = e ∙ ap (λ z. z ++ placed_text (held_at of p) (text_at of p)) is ∙ ap (code_to of) (sym (add-one p))

-- what is written of an instance
pub text_of_its_user : (of : Listed) (p : ℕ) (i : Instance) (out : List ℕ) → slice_get of.list p ≡ Some i → is_text (item_of of.rules i).holds ≡ true
    → out ≡ out ++ placed_text (held_at of p) (text_at of p)
text_of_its_user of p i out at holds = added_nothing out _
    (ap (λ z. if is_text z then [] else text_at of p) (held_is of p i at) ∙ ap (λ z. if z then [] else text_at of p) holds)

pub text_of_its_own : (of : Listed) (p : ℕ) (i : Instance) (out more : List ℕ) → slice_get of.list p ≡ Some i → is_text (item_of of.rules i).holds ≡ false
    → more ≡ out ++ text_at of p → more ≡ out ++ placed_text (held_at of p) (text_at of p)
text_of_its_own of p i out more at holds is =
    is ∙ ap (λ z. out ++ z) (sym (ap (λ z. if is_text z then [] else text_at of p) (held_is of p i at) ∙ ap (λ z. if z then [] else text_at of p) holds))
