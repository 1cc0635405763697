-- The text of a list of instances: what the pieces of their rules say, one after the other.
use Rattle.std.specs.Prelude.{ℕ, zero, suc, Bool, if◌then◌else◌, List, [], ◌++◌, length, flat_map, Option, Some, None, true, false, codes, slice_get}
use Rattle.std.specs.Fmt.{signed_decimal}
use Rattle.value_store.specs.declared.text.Texts.{Texts}
use Rattle.value_store.specs.declared.value.Value.{Value}
use Rattle.tree_store.specs.Forest.{Node}
use Rattle.expr_lang.specs.PureOf.{pure_of}
use Rattle.expr_lang.specs.PureValues.{PureValue, int, bool, text}
use Rattle.beg_model.specs.Cover.{Instance}
use Rattle.beg_model.specs.Items.{Item, items}
use Rattle.beg_model.specs.Registers.{Registers}
use Rattle.beg_model.specs.RuleMeaning.{rules_in}
use Rattle.beg_model.specs.Rules.{Emitted, bytes, own_register, operand, field, Rule}
use Rattle.beg_model.specs.declared.rules.CoverRules.{CoverRules}
use Rattle.beg_model.specs.declared.rules.Holding.{Holding}
use Rattle.beg_model.specs.declared.rules.Holding.TheVariants.{Class, Operand, Nothing}
use Rattle.beg_registers.specs.Bound.{bound_at}

-- a list of instances with their registers, and the rules, the texts and the tree that it is of
pub record Listed : Type 0 where
  pub texts : Texts
  pub rules : CoverRules
  pub nodes : List Node
  pub list : List Instance
  pub registers : Registers

-- the same, in a row
abbrev pub listed : Texts → CoverRules → List Node → List Instance → Registers → Listed
listed texts rules nodes list registers =
    record { texts = texts; rules = rules; nodes = nodes; list = list; registers = registers }

-- the rule of an instance that is there
abbrev pub rule_for : List Rule → Option Instance → Option Rule
rule_for rules None = None
rule_for rules (Some i) = slice_get rules i.rule

-- what a rule that is there emits
abbrev pub emitted_by : Option Rule → List Emitted
emitted_by None = []
emitted_by (Some rule) = rule.emit

-- the fields that a rule binds at the node of an instance, where both are there
abbrev pub bound_by : List Node → Option Rule → Option Instance → List Value
bound_by nodes None i = []
bound_by nodes (Some rule) None = []
bound_by nodes (Some rule) (Some i) = bound_at nodes rule.pattern i.node

-- the operand of this number, counted from 1, of an instance that is there
abbrev pub operand_of : Option Instance → ℕ → Option ℕ
operand_of None n = None
operand_of (Some i) zero = None
operand_of (Some i) (suc n) = slice_get i.operands n

-- what an item that is there holds
abbrev pub holds_in : Option Item → Holding
holds_in None = Nothing
holds_in (Some item) = item.holds

-- what instance p holds
abbrev pub held_at : Listed → ℕ → Holding
held_at of p = holds_in (slice_get (items of.rules of.list) p)

-- what instance p emits
abbrev pub emitted_at : Listed → ℕ → List Emitted
emitted_at of p = emitted_by (rule_for (rules_in of.texts of.rules).list (slice_get of.list p))

-- the names of a class that is there
abbrev pub names_in : Option (List (List ℕ)) → List (List ℕ)
names_in None = []
names_in (Some names) = names

-- the bytes that are there
abbrev pub bytes_in : Option (List ℕ) → List ℕ
bytes_in None = []
bytes_in (Some bs) = bs

-- the name of a register, where the class and its number are known
abbrev pub name_of : List (List (List ℕ)) → Holding → Option (Option ℕ) → List ℕ
name_of classes (Class c) (Some (Some k)) = bytes_in (slice_get (names_in (slice_get classes c)) k)
name_of classes held register = []

-- the name of the register of instance p
abbrev pub register_name : Listed → ℕ → List ℕ
register_name of p = name_of (rules_in of.texts of.rules).classes (held_at of p) (slice_get of.registers p)

-- a value in emitted text: an int in decimal, a bool as `true` or `false`, a text as its bytes; no variable is anything else
abbrev pub value_bytes : PureValue → List ℕ
value_bytes (int z) = signed_decimal z
value_bytes (bool true) = codes "true"
value_bytes (bool false) = codes "false"
value_bytes (text bs) = bs
value_bytes v = []

-- a field that is there, in emitted text
abbrev pub field_bytes : Texts → Option Value → List ℕ
field_bytes texts None = []
field_bytes texts (Some v) = value_bytes (pure_of texts.source.now texts.literals.now [] v)

-- it is a text that is held
abbrev pub is_text : Holding → Bool
is_text Operand = true
is_text (Class c) = false
is_text Nothing = false

-- what stands for an operand that holds this: its text, or else the name of its register
abbrev pub text_or_name : Holding → List ℕ → List ℕ → List ℕ
text_or_name held written name = if is_text held then written else name

-- what stands for an operand that is there, where the instances have these texts
abbrev pub operand_said : Listed → (ℕ → List ℕ) → Option ℕ → List ℕ
operand_said of texts None = []
operand_said of texts (Some o) = text_or_name (held_at of o) (texts o) (register_name of o)

-- what a piece says in the text of instance p, where the instances have these texts: bytes say themselves; the others stand for
-- the name of the register of p, for an operand, and for the value of a variable
abbrev pub said : Listed → (ℕ → List ℕ) → ℕ → Emitted → List ℕ
said of texts p (bytes bs) = bs
said of texts p own_register = register_name of p
said of texts p (operand n) = operand_said of texts (operand_of (slice_get of.list p) n)
said of texts p (field k) =
    field_bytes of.texts (slice_get (bound_by of.nodes (rule_for (rules_in of.texts of.rules).list (slice_get of.list p)) (slice_get of.list p)) k)

-- the text of instance p, where texts stand in one another so deep at most
abbrev pub text_to : Listed → ℕ → ℕ → List ℕ
text_to of zero p = []
text_to of (suc depth) p = flat_map (said of (text_to of depth) p) (emitted_at of p)

-- the text of instance p. Operands stand before it, so that no text stands in others as often as there are instances
abbrev pub text_at : Listed → ℕ → List ℕ
text_at of p = text_to of (length of.list) p

-- the text of an instance that holds this, unless that stands where its user writes it
abbrev pub placed_text : Holding → List ℕ → List ℕ
placed_text held written = if is_text held then [] else written

-- the texts of the first so many instances
abbrev pub code_to : Listed → ℕ → List ℕ
code_to of zero = []
code_to of (suc p) = code_to of p ++ placed_text (held_at of p) (text_at of p)

-- the text of the list
abbrev pub code : Listed → List ℕ
code of = code_to of (length of.list)
