-- Matching a pattern: what each kind of pattern fits, and patterns in a row one by one.
use Rattle.std.proofs.Common.{◌≡◌, ℕ, ℤ, Bool, true, false, List, [], ◌∷◌, ◌++◌, map, Bor, refl, sym, ap, ◌∙◌, append-nil}
use Rattle.std.specs.Prelude.{IsTrue, ◌↔◌}
use Rattle.value_store.specs.Texts.{text_of}
use Rattle.value_store.specs.declared.text.Text.{Text}
use Rattle.value_store.specs.declared.value.Value.{Value}
use Rattle.expr_lang.specs.PureValues.{PureValue, int, bool, text}
use Rattle.beg_model.specs.Rules.{Pattern, Patterns, leaf, any, bind, number, truth, string, tree}
use Rattle.beg_model.specs.RuleMeaning.{patterns_of, pattern_node, pattern_of}
use Rattle.beg_model.specs.Fitting.{Target, child, field, Subgoal, Fits, field_value}
use Rattle.beg_model.specs.Matching.{Matches, FitsOrNot}
use Rattle.beg_model.specs.declared.rules.CoverPattern.{CoverPattern}
use Rattle.beg_model.specs.declared.rules.CoverPattern.TheOpen.{CoverPattern-F}
use Rattle.beg_model.specs.declared.rules.CoverPattern.TheFolds.{fold-roll-CoverPattern}
use Rattle.beg_model.specs.declared.rules.CoverPattern.TheVariants.{Leaf, Any, Bind, Int, Bool as Truth, Text as String, Tree, rolls-Leaf, rolls-Any, rolls-Bind, rolls-Int, rolls-Bool, rolls-Text, rolls-Tree}

module _ (s l : List ℕ) where
  pub pattern-Leaf : (x : ℕ) → pattern_of s l (Leaf x) ≡ leaf x
  pattern-Leaf x = ap (pattern_of s l) (sym (rolls-Leaf x)) ∙ fold-roll-CoverPattern Pattern (pattern_node s l) (CoverPattern-F.Leaf x)

  pub pattern-Any : pattern_of s l Any ≡ any
  pattern-Any = ap (pattern_of s l) (sym rolls-Any) ∙ fold-roll-CoverPattern Pattern (pattern_node s l) CoverPattern-F.Any

  pub pattern-Bind : (i : ℕ) → pattern_of s l (Bind i) ≡ bind i
  pattern-Bind i = ap (pattern_of s l) (sym (rolls-Bind i)) ∙ fold-roll-CoverPattern Pattern (pattern_node s l) (CoverPattern-F.Bind i)

  pub pattern-Int : (z : ℤ) → pattern_of s l (Int z) ≡ number z
  pattern-Int z = ap (pattern_of s l) (sym (rolls-Int z)) ∙ fold-roll-CoverPattern Pattern (pattern_node s l) (CoverPattern-F.Int z)

  pub pattern-Bool : (b : Bool) → pattern_of s l (Truth b) ≡ truth b
  pattern-Bool b = ap (pattern_of s l) (sym (rolls-Bool b)) ∙ fold-roll-CoverPattern Pattern (pattern_node s l) (CoverPattern-F.Bool b)

  pub pattern-Text : (t : Text) → pattern_of s l (String t) ≡ string (text_of s l t)
  pattern-Text t = ap (pattern_of s l) (sym (rolls-Text t)) ∙ fold-roll-CoverPattern Pattern (pattern_node s l) (CoverPattern-F.Text t)

  pub pattern-Tree : (t : ℕ) (parts : Bor (List CoverPattern)) → pattern_of s l (Tree t parts) ≡ tree t (patterns_of (map (pattern_of s l) parts.now))
  pattern-Tree t parts = ap (pattern_of s l) (sym (rolls-Tree t parts)) ∙ fold-roll-CoverPattern Pattern (pattern_node s l) (CoverPattern-F.Tree t parts)

pub any_fits : (on : Target) (v : Value) (old : Matches) → FitsOrNot on any (field (field_value on v)) old old true
any_fits on v old = ([], [], Fits.at_any (field_value on v), sym (append-nil old.operands), sym (append-nil old.values))

pub bind_fits : (on : Target) (i : ℕ) (v : Value) (old new : Matches) → new.operands ≡ old.operands → new.values ≡ old.values ++ v ∷ []
    → FitsOrNot on (bind i) (field (field_value on v)) old new true
bind_fits on i v old new ops vs = ([], v ∷ [], Fits.at_bind i (field_value on v), ops ∙ sym (append-nil old.operands), vs)

pub number_fits : (on : Target) (z : ℤ) (v : Value) (old : Matches) (test : Bool) → (IsTrue test ↔ (field_value on v ≡ int z))
    → FitsOrNot on (number z) (field (field_value on v)) old old test
number_fits on z v old true (to, from) = ([], [], Fits.at_number z (field_value on v) (to refl), sym (append-nil old.operands), sym (append-nil old.values))
number_fits on z v old false (to, from) = λ ops env h. go (field_value on v) h from
  where
    go : {ops : List Subgoal} {env : List PureValue} (w : PureValue) → Fits on (number z) (field w) ops env → (w ≡ int z → IsTrue false) → ⊥
    go w (Fits.at_number _ _ e) back = let no : false ≡ true = back e in cc

pub truth_fits : (on : Target) (b : Bool) (v : Value) (old : Matches) (test : Bool) → (IsTrue test ↔ (field_value on v ≡ bool b))
    → FitsOrNot on (truth b) (field (field_value on v)) old old test
truth_fits on b v old true (to, from) = ([], [], Fits.at_truth b (field_value on v) (to refl), sym (append-nil old.operands), sym (append-nil old.values))
truth_fits on b v old false (to, from) = λ ops env h. go (field_value on v) h from
  where
    go : {ops : List Subgoal} {env : List PureValue} (w : PureValue) → Fits on (truth b) (field w) ops env → (w ≡ bool b → IsTrue false) → ⊥
    go w (Fits.at_truth _ _ e) back = let no : false ≡ true = back e in cc

pub string_fits : (on : Target) (bytes : List ℕ) (v : Value) (old : Matches) (test : Bool) → (IsTrue test ↔ (field_value on v ≡ text bytes))
    → FitsOrNot on (string bytes) (field (field_value on v)) old old test
string_fits on bytes v old true (to, from) = ([], [], Fits.at_string bytes (field_value on v) (to refl), sym (append-nil old.operands), sym (append-nil old.values))
string_fits on bytes v old false (to, from) = λ ops env h. go (field_value on v) h from
  where
    go : {ops : List Subgoal} {env : List PureValue} (w : PureValue) → Fits on (string bytes) (field w) ops env → (w ≡ text bytes → IsTrue false) → ⊥
    go w (Fits.at_string _ _ e) back = let no : false ≡ true = back e in cc

pub leaf_fits : (on : Target) (x n : ℕ) (old new : Matches) → new.operands ≡ old.operands ++ record { node = n; nonterminal = x } ∷ [] → new.values ≡ old.values
    → FitsOrNot on (leaf x) (child n) old new true
leaf_fits on x n old new ops vs = (record { node = n; nonterminal = x } ∷ [], [], Fits.at_leaf n x, ops, vs ∙ sym (append-nil old.values))

pub leaf_field : (on : Target) (x : ℕ) (v : PureValue) (ops : List Subgoal) (env : List PureValue) → Fits on (leaf x) (field v) ops env → ⊥
leaf_field on x v ops env h = elim h [ ]

pub tree_field : (on : Target) (t : ℕ) (ps : Patterns) (v : PureValue) (ops : List Subgoal) (env : List PureValue) → Fits on (tree t ps) (field v) ops env → ⊥
tree_field on t ps v ops env h = elim h [ ]

pub any_child : (on : Target) (n : ℕ) (ops : List Subgoal) (env : List PureValue) → Fits on any (child n) ops env → ⊥
any_child on n ops env h = elim h [ ]

pub bind_child : (on : Target) (i n : ℕ) (ops : List Subgoal) (env : List PureValue) → Fits on (bind i) (child n) ops env → ⊥
bind_child on i n ops env h = elim h [ ]

pub number_child : (on : Target) (z : ℤ) (n : ℕ) (ops : List Subgoal) (env : List PureValue) → Fits on (number z) (child n) ops env → ⊥
number_child on z n ops env h = elim h [ ]

pub truth_child : (on : Target) (b : Bool) (n : ℕ) (ops : List Subgoal) (env : List PureValue) → Fits on (truth b) (child n) ops env → ⊥
truth_child on b n ops env h = elim h [ ]

pub string_child : (on : Target) (bytes : List ℕ) (n : ℕ) (ops : List Subgoal) (env : List PureValue) → Fits on (string bytes) (child n) ops env → ⊥
string_child on bytes n ops env h = elim h [ ]
