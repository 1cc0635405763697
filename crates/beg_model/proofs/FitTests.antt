-- Whether a pattern fits, and whether a rule applies, is decided.
use Rattle.std.proofs.Common.{◌≡◌, ℕ, ℤ, pos, negsuc, ◌+◌, ◌<◌, ◌⊎◌, inl, inr, Bool, true, false, List, [], ◌∷◌, ◌++◌, Option, Some, None, refl, sym, subst, ap, ◌∙◌, zero, suc, arith}
use Rattle.std.specs.Prelude.{slice_get}
use Rattle.ast_types.specs.TypeTable.{NodeType, TypeTable, type_at, IsA, itself, extends, IsSound}
use Rattle.tree_store.specs.Forest.{Node}
use Rattle.expr_lang.specs.Expression.{Expression}
use Rattle.expr_lang.specs.PureValues.{PureValue, int, bool, text, map_of, token, source, node, bool_in}
use Rattle.expr_lang.specs.ValueOf.{no_tokens, value_of}
use Rattle.beg_model.specs.Rules.{Pattern, Patterns, leaf, any, bind, number, truth, string, tree, no_pattern, and_pattern, Rule}
use Rattle.beg_model.specs.Fitting.{Target, Part, child, field, Subgoal, Shows, Fits, FitAll}
use Rattle.beg_model.specs.Applies.{Applies, Holds, cost_at}
use Rattle.beg_model.proofs.OneFit.{one_fit, one_showing}
use Rattle.beg_model.proofs.Search.{Tested, same_or_other}

-- what fits, or that nothing does
abbrev pub FitTest : Target → Pattern → Part → Type 0
FitTest on p part = ((ops : List Subgoal) × (env : List PureValue) × Fits on p part ops env)
    ⊎ ((ops : List Subgoal) (env : List PureValue) → Fits on p part ops env → ⊥)

abbrev pub FitAllTest : Target → Patterns → List Part → Type 0
FitAllTest on ps parts = ((ops : List Subgoal) × (env : List PureValue) × FitAll on ps parts ops env)
    ⊎ ((ops : List Subgoal) (env : List PureValue) → FitAll on ps parts ops env → ⊥)

tested_bool : (a b : Bool) → Tested (a ≡ b)
tested_bool true true = inl refl
tested_bool true false = inr (λ e. cc)
tested_bool false true = inr (λ e. cc)
tested_bool false false = inl refl

pub tested_bytes : (xs ys : List ℕ) → Tested (xs ≡ ys)
tested_bytes [] [] = inl refl
tested_bytes [] (y ∷ ys) = inr (λ e. cc)
tested_bytes (x ∷ xs) [] = inr (λ e. cc)
tested_bytes (x ∷ xs) (y ∷ ys) = elim (same_or_other x y) [
  | inr other ↦ inr (λ e. other (cc))
  | inl same ↦ elim (tested_bytes xs ys) [
    | inr other ↦ inr (λ e. other (cc))
    | inl rest ↦ inl (cc)
  ]
]

tested_int : (a b : ℤ) → Tested (a ≡ b)
tested_int (pos a) (pos b) = elim (same_or_other a b) [ inl same ↦ inl (cc) | inr other ↦ inr (λ e. other (cc)) ]
tested_int (pos a) (negsuc b) = inr (λ e. cc)
tested_int (negsuc a) (pos b) = inr (λ e. cc)
tested_int (negsuc a) (negsuc b) = elim (same_or_other a b) [ inl same ↦ inl (cc) | inr other ↦ inr (λ e. other (cc)) ]

int_test : (z : ℤ) (v : PureValue) → Tested (v ≡ int z)
int_test z (int y) = elim (tested_int y z) [ inl same ↦ inl (ap int same) | inr other ↦ inr (λ e. other (cc)) ]
int_test z (bool b) = inr (λ e. cc)
int_test z (text bytes) = inr (λ e. cc)
int_test z (map_of es) = inr (λ e. cc)
int_test z (token k) = inr (λ e. cc)
int_test z (source n) = inr (λ e. cc)
int_test z (node t cs fs) = inr (λ e. cc)

bool_test : (b : Bool) (v : PureValue) → Tested (v ≡ bool b)
bool_test b (int y) = inr (λ e. cc)
bool_test b (bool a) = elim (tested_bool a b) [ inl same ↦ inl (ap bool same) | inr other ↦ inr (λ e. other (cc)) ]
bool_test b (text bytes) = inr (λ e. cc)
bool_test b (map_of es) = inr (λ e. cc)
bool_test b (token k) = inr (λ e. cc)
bool_test b (source n) = inr (λ e. cc)
bool_test b (node t cs fs) = inr (λ e. cc)

text_test : (bytes : List ℕ) (v : PureValue) → Tested (v ≡ text bytes)
text_test bytes (int y) = inr (λ e. cc)
text_test bytes (bool b) = inr (λ e. cc)
text_test bytes (text xs) = elim (tested_bytes xs bytes) [ inl same ↦ inl (ap text same) | inr other ↦ inr (λ e. other (cc)) ]
text_test bytes (map_of es) = inr (λ e. cc)
text_test bytes (token k) = inr (λ e. cc)
text_test bytes (source n) = inr (λ e. cc)
text_test bytes (node t cs fs) = inr (λ e. cc)

tested_option : (o : Option ℕ) → ((b : ℕ) × (o ≡ Some b)) ⊎ (o ≡ None)
tested_option None = inr refl
tested_option (Some b) = inl (b, refl)

pub node_or_none : (o : Option Node) → ((a : Node) × (o ≡ Some a)) ⊎ (o ≡ None)
node_or_none None = inr refl
node_or_none (Some a) = inl (a, refl)

-- what a type is, apart from the type itself, its base is
is_a_apart : {types : List NodeType} {t b : ℕ} → IsA types t b → (t ≡ b) ⊎ ((c : ℕ) × ((type_at types t).base ≡ Some c) × IsA types c b)
is_a_apart (itself t) = inl refl
is_a_apart (extends t c b is up) = inr (c, is, up)

some_base : {o : Option ℕ} {a b : ℕ} → o ≡ Some a → o ≡ Some b → b ≡ a
some_base e f = cc

no_base : {o : Option ℕ} {a : ℕ} → o ≡ None → o ≡ Some a → ⊥
no_base e f = let g : None ≡ Some _ = sym e ∙ f in cc

pub tested_is_a : (table : TypeTable) → IsSound table → (fuel t b : ℕ) → t < fuel → Tested (IsA table.types t b)
tested_is_a table sound zero t b low = absurd (omega (arith, low))
tested_is_a table sound (suc fuel) t b low = elim (same_or_other t b) [
  | inl same ↦ inl (subst (λ z. IsA table.types t z) same (itself t))
  | inr differ ↦ elim (tested_option (type_at table.types t).base) [
    | inr none ↦ inr (λ is. elim (is_a_apart is) [ inl same ↦ differ same | inr (c, base, up) ↦ no_base none base ])
    | inl (c, base) ↦ elim (tested_is_a table sound fuel c b (let lt = sound.base_before t c base in omega (arith, lt, low))) [
      | inl up ↦ inl (extends t c b base up)
      | inr none ↦ inr (λ is. elim (is_a_apart is) [
        | inl same ↦ differ same
        | inr (d, other, up) ↦ none (subst (λ z. IsA table.types z b) (some_base base other) up)
      ])
    ]
  ]
]

tested_showing : (on : Target) → IsSound on.table → (n t : ℕ) → ((parts : List Part) × Shows on n t parts) ⊎ ((parts : List Part) → Shows on n t parts → ⊥)
tested_showing on sound n t = elim (node_or_none (slice_get on.nodes n)) [
  | inr none ↦ inr (λ parts shows. none_shown none shows.is)
  | inl (a, is) ↦ elim (tested_is_a on.table sound (a.ty + 1) a.ty t (omega arith)) [
    | inl is_a ↦ inl (_, record { node = a; is = is; is_a = is_a; are = refl })
    | inr other ↦ inr (λ parts shows. other (subst (λ (z : Node). IsA on.table.types z.ty t) (same_shown shows.is is) shows.is_a))
  ]
]
  where
    none_shown : {o : Option Node} {b : Node} → o ≡ None → o ≡ Some b → ⊥
    none_shown e f = let g : None ≡ Some _ = sym e ∙ f in cc

    same_shown : {o : Option Node} {b c : Node} → o ≡ Some b → o ≡ Some c → b ≡ c
    same_shown e f = cc

fits_int : {on : Target} {z : ℤ} {v : PureValue} {ops : List Subgoal} {env : List PureValue} → Fits on (number z) (field v) ops env → v ≡ int z
fits_int (Fits.at_number z v e) = e

fits_bool : {on : Target} {b : Bool} {v : PureValue} {ops : List Subgoal} {env : List PureValue} → Fits on (truth b) (field v) ops env → v ≡ bool b
fits_bool (Fits.at_truth b v e) = e

fits_text : {on : Target} {bytes : List ℕ} {v : PureValue} {ops : List Subgoal} {env : List PureValue} → Fits on (string bytes) (field v) ops env → v ≡ text bytes
fits_text (Fits.at_string bytes v e) = e

-- what a tree pattern fits
pub fits_tree : {on : Target} {n t : ℕ} {ps : Patterns} {ops : List Subgoal} {env : List PureValue} → Fits on (tree t ps) (child n) ops env
    → (parts : List Part) × Shows on n t parts × FitAll on ps parts ops env
fits_tree (Fits.at_tree n t ps parts ops env shows all) = (parts, shows, all)

pub split_fit : {on : Target} {p : Pattern} {ps : Patterns} {part : Part} {parts : List Part} {ops : List Subgoal} {env : List PureValue}
    → FitAll on (and_pattern p ps) (part ∷ parts) ops env
    → (first : List Subgoal) × (rest : List Subgoal) × (us : List PureValue) × (vs : List PureValue) × Fits on p part first us × FitAll on ps parts rest vs
    × (ops ≡ first ++ rest) × (env ≡ us ++ vs)
split_fit (FitAll.one_more p ps part parts o1 o2 us vs first rest) = (o1, o2, us, vs, first, rest, refl, refl)

module _ (on : Target) (sound : IsSound on.table) where
  mutual
    pub fit_test : (p : Pattern) (part : Part) → FitTest on p part
    fit_test (leaf x) (child n) = inl (_, _, Fits.at_leaf n x)
    fit_test (leaf x) (field v) = inr (λ ops env h. elim h [ ])
    fit_test any (child n) = inr (λ ops env h. elim h [ ])
    fit_test any (field v) = inl (_, _, Fits.at_any v)
    fit_test (bind i) (child n) = inr (λ ops env h. elim h [ ])
    fit_test (bind i) (field v) = inl (_, _, Fits.at_bind i v)
    fit_test (number z) (child n) = inr (λ ops env h. elim h [ ])
    fit_test (number z) (field v) = elim (int_test z v) [ inl same ↦ inl (_, _, Fits.at_number z v same) | inr other ↦ inr (λ ops env h. other (fits_int h)) ]
    fit_test (truth b) (child n) = inr (λ ops env h. elim h [ ])
    fit_test (truth b) (field v) = elim (bool_test b v) [ inl same ↦ inl (_, _, Fits.at_truth b v same) | inr other ↦ inr (λ ops env h. other (fits_bool h)) ]
    fit_test (string bytes) (child n) = inr (λ ops env h. elim h [ ])
    fit_test (string bytes) (field v) = elim (text_test bytes v) [ inl same ↦ inl (_, _, Fits.at_string bytes v same) | inr other ↦ inr (λ ops env h. other (fits_text h)) ]
    fit_test (tree t ps) (field v) = inr (λ ops env h. elim h [ ])
    fit_test (tree t ps) (child n) = elim (tested_showing on sound n t) [
      | inr none ↦ inr (λ ops env h. (let (parts, shows, all) = fits_tree h in none parts shows))
      | inl (parts, shows) ↦ elim (fit_all_test ps parts) [
        | inl (ops, env, all) ↦ inl (ops, env, Fits.at_tree n t ps parts ops env shows all)
        | inr none ↦ inr (λ ops env h. (let (others, more, all) = fits_tree h in
            none ops env (subst (λ z. FitAll on ps z ops env) (one_showing more shows) all)))
      ]
    ]

    pub fit_all_test : (ps : Patterns) (parts : List Part) → FitAllTest on ps parts
    fit_all_test no_pattern [] = inl (_, _, FitAll.no_part)
    fit_all_test no_pattern (part ∷ parts) = inr (λ ops env h. elim h [ ])
    fit_all_test (and_pattern p ps) [] = inr (λ ops env h. elim h [ ])
    fit_all_test (and_pattern p ps) (part ∷ parts) = elim (fit_test p part) [
      | inr none ↦ inr (λ ops env h. (let (first, rest, us, vs, one, all, e, f) = split_fit h in none first us one))
      | inl (o1, us, one) ↦ elim (fit_all_test ps parts) [
        | inl (o2, vs, all) ↦ inl (_, _, FitAll.one_more p ps part parts o1 o2 us vs one all)
        | inr none ↦ inr (λ ops env h. (let (first, rest, us2, vs2, one2, all, e, f) = split_fit h in none rest vs2 all))
      ]
    ]

pub tested_condition : (test : Option Expression) (env : List PureValue) → Tested (Holds test env)
tested_condition None env = inl tt
tested_condition (Some e) env = tested_bool (bool_in (value_of no_tokens env e)) true

same_rule : {o : Option Rule} {a b : Rule} → o ≡ Some a → o ≡ Some b → a ≡ b
same_rule e f = cc

rule_or_none : (o : Option Rule) → ((a : Rule) × (o ≡ Some a)) ⊎ (o ≡ None)
rule_or_none None = inr refl
rule_or_none (Some a) = inl (a, refl)

no_rule : {o : Option Rule} {b : Rule} → o ≡ None → o ≡ Some b → ⊥
no_rule e f = let g : None ≡ Some _ = sym e ∙ f in cc

-- a rule applies at a node in one way at most
pub one_application : {rules : List Rule} {on : Target} (r n x y k l : ℕ) (ps qs : List Subgoal) → Applies rules on r n x k ps → Applies rules on r n y l qs
    → (x ≡ y) × (k ≡ l) × (ps ≡ qs)
one_application {rules = rules} {on = on} r n x y k l ps qs a b =
    let rule : a.rule ≡ b.rule = same_rule a.is b.is in
    let (places, vars) = one_fit a.fits (subst (λ (z : Rule). Fits on z.pattern (child n) qs b.env) (sym rule) b.fits) in (
      sym a.left ∙ ap (λ (z : Rule). z.left) rule ∙ b.left,
      a.cost ∙ ap (λ (z : Rule). cost_at z a.env) rule ∙ ap (λ z. cost_at b.rule z) vars ∙ sym b.cost,
      places,
    )

pub tested_application : (rules : List Rule) (on : Target) → IsSound on.table → (r n : ℕ)
    → ((x : ℕ) × (k : ℕ) × (ps : List Subgoal) × Applies rules on r n x k ps) ⊎ ((x k : ℕ) (ps : List Subgoal) → Applies rules on r n x k ps → ⊥)
tested_application rules on sound r n = elim (rule_or_none (slice_get rules r)) [
  | inr none ↦ inr (λ x k ps a. no_rule none a.is)
  | inl (rule, is) ↦ elim (fit_test on sound rule.pattern (child n)) [
    | inr none ↦ inr (λ x k ps a. none ps a.env (subst (λ (z : Rule). Fits on z.pattern (child n) ps a.env) (same_rule a.is is) a.fits))
    | inl (ops, env, fits) ↦ elim (tested_condition rule.test env) [
      | inl holds ↦ inl (rule.left, cost_at rule env, ops, record { rule = rule; is = is; left = refl; env = env; fits = fits; holds = holds; cost = refl })
      | inr fails ↦ inr (λ x k ps a. (let same : a.rule ≡ rule = same_rule a.is is in
          let (places, vars) = one_fit (subst (λ (z : Rule). Fits on z.pattern (child n) ps a.env) same a.fits) fits in
          fails (subst (λ z. Holds rule.test z) vars (subst (λ (z : Rule). Holds z.test a.env) same a.holds))))
    ]
  ]
]
