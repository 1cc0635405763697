-- The fields that a pattern binds at a node are those with which it fits there; and they are collected pattern by pattern.
use Rattle.std.proofs.Common.{◌≡◌, ℕ, ℤ, zero, suc, ◌+◌, ◌<◌, ◌≤◌, Bool, List, [], ◌∷◌, ◌++◌, length, drop, take, map, Some, Bor, arith, refl, sym, subst, ap, ◌∙◌, append_assoc, append-nil, add-one, length-drop, drop_of_length-le}
use Rattle.std.specs.Prelude.{slice_index, slice_get}
use Rattle.value_store.specs.Texts.{text_of}
use Rattle.value_store.specs.declared.text.Text.{Text}
use Rattle.value_store.specs.declared.value.Value.{Value}
use Rattle.value_store.specs.declared.value.ValType.{ValType}
use Rattle.value_store.specs.declared.value.ValType.TheVariants as ty
use Rattle.expr_lang.specs.PureValues.{PureValue}
use Rattle.tree_store.specs.Forest.{Node, node_in, node_at, children_at}
use Rattle.beg_model.specs.Rules.{Pattern, Patterns, leaf, any, bind, number, truth, string, tree, and_pattern}
use Rattle.beg_model.specs.Fitting.{Target, Part, child, Shows, Fits, FitAll, parts_by, item_types, field_value}
use Rattle.beg_model.specs.declared.matched.Subgoal.{Subgoal}
use Rattle.beg_model.specs.RuleMeaning.{pattern_of, patterns_of}
use Rattle.beg_model.specs.declared.rules.CoverPattern.{CoverPattern}
use Rattle.beg_model.specs.declared.rules.CoverPattern.TheVariants.{Leaf, Any, Bind, Int, Bool as Truth, Text as String, Tree}
use Rattle.beg_model.proofs.PatternMatching.{pattern-Leaf, pattern-Any, pattern-Bind, pattern-Int, pattern-Bool, pattern-Text, pattern-Tree}
use Rattle.beg_model.proofs.PatternsInRow.{map-append, drop_here}
use Rattle.beg_registers.specs.Bound.{bound_first, bound_along, bound_at, children_behind, fields_behind}
use Rattle.beg_registers.specs.within.Shown.{PartsOf, no_more, a_child, a_field, FitsNode, FitAlong}

-- the parts by the items of a type are the children and fields in some order
pub parts_of : (ts : List ValType) (cs : List ℕ) (vs : List PureValue) → PartsOf (parts_by ts cs vs) cs vs
parts_of [] cs vs = no_more cs vs
parts_of (ty.Node f ∷ ts) [] vs = no_more [] vs
parts_of (ty.Node f ∷ ts) (c ∷ cs) vs = a_child c _ cs vs (parts_of ts cs vs)
parts_of (ty.Int ∷ ts) cs [] = no_more cs []
parts_of (ty.Bool ∷ ts) cs [] = no_more cs []
parts_of (ty.Text ∷ ts) cs [] = no_more cs []
parts_of (ty.Map ∷ ts) cs [] = no_more cs []
parts_of (ty.Token ∷ ts) cs [] = no_more cs []
parts_of (ty.Int ∷ ts) cs (v ∷ vs) = a_field v _ cs vs (parts_of ts cs vs)
parts_of (ty.Bool ∷ ts) cs (v ∷ vs) = a_field v _ cs vs (parts_of ts cs vs)
parts_of (ty.Text ∷ ts) cs (v ∷ vs) = a_field v _ cs vs (parts_of ts cs vs)
parts_of (ty.Map ∷ ts) cs (v ∷ vs) = a_field v _ cs vs (parts_of ts cs vs)
parts_of (ty.Token ∷ ts) cs (v ∷ vs) = a_field v _ cs vs (parts_of ts cs vs)

-- the parts of a node that a pattern shows
pub shown_parts : {on : Target} {n t : ℕ} {parts : List Part} → Shows on n t parts
    → PartsOf parts (children_at on.nodes n) (map (field_value on) (node_at on.nodes n).fields)
shown_parts {on = on} {t = t} shows =
    subst (λ (node : Node). PartsOf _ node.children (map (field_value on) node.fields)) (sym (ap node_in shows.is))
    (subst (λ z. PartsOf z shows.node.children (map (field_value on) shows.node.fields)) (sym shows.are)
    (parts_of (item_types on.table t) shows.node.children (map (field_value on) shows.node.fields)))

both : {X : Type 0} {a b c d : List X} → a ≡ b → c ≡ d → a ++ c ≡ b ++ d
both e f = cc

-- what stands at a pattern of a row
abbrev pub StandsFirst : Target → Pattern → List ℕ → List Value → Type 0
StandsFirst on (leaf x) cs vs = 0 < length cs
StandsFirst on (tree t ps) cs vs = (0 < length cs) × (ops : List Subgoal) × (env : List PureValue) × Fits on (tree t ps) (child (slice_index cs 0)) ops env
StandsFirst on p cs vs = 0 < length vs

-- a row of patterns without the first one
pub record Behind (on : Target) (ps : Patterns) (cs : List ℕ) (vs : List Value) : Type 0 where
  pub parts : List Part
  pub ops : List Subgoal
  pub env : List PureValue
  pub are : PartsOf parts cs (map (field_value on) vs)
  pub fits : FitAll on ps parts ops env

pub behind_first : {on : Target} (p : Pattern) (ps : Patterns) (cs : List ℕ) (vs : List Value) {parts : List Part} {ops : List Subgoal} {env : List PureValue}
    → PartsOf parts cs (map (field_value on) vs) → FitAll on (and_pattern p ps) parts ops env
    → StandsFirst on p cs vs × Behind on ps (children_behind p cs) (fields_behind p vs)
behind_first _ _ cs [] (no_more _ _) fits = elim fits [ ]
behind_first _ _ _ [] (a_child _ parts cs _ are) (FitAll.one_more _ ps _ _ o1 o2 us ws (Fits.at_leaf n x) rest) =
    (omega arith, record { parts = parts; ops = o2; env = ws; are = are; fits = rest })
behind_first _ _ _ [] (a_child _ parts cs _ are) (FitAll.one_more _ ps _ _ o1 o2 us ws (Fits.at_tree n t qs inner o3 e3 shows all) rest) =
    ((omega arith, o3, e3, Fits.at_tree n t qs inner o3 e3 shows all), record { parts = parts; ops = o2; env = ws; are = are; fits = rest })
behind_first _ _ cs (w ∷ vs) (no_more _ _) fits = elim fits [ ]
behind_first _ _ _ (w ∷ vs) (a_child _ parts cs _ are) (FitAll.one_more _ ps _ _ o1 o2 us ws (Fits.at_leaf n x) rest) =
    (omega arith, record { parts = parts; ops = o2; env = ws; are = are; fits = rest })
behind_first _ _ _ (w ∷ vs) (a_child _ parts cs _ are) (FitAll.one_more _ ps _ _ o1 o2 us ws (Fits.at_tree n t qs inner o3 e3 shows all) rest) =
    ((omega arith, o3, e3, Fits.at_tree n t qs inner o3 e3 shows all), record { parts = parts; ops = o2; env = ws; are = are; fits = rest })
behind_first _ _ _ (w ∷ vs) (a_field _ parts cs _ are) (FitAll.one_more _ ps _ _ o1 o2 us ws (Fits.at_any v) rest) =
    (omega arith, record { parts = parts; ops = o2; env = ws; are = are; fits = rest })
behind_first _ _ _ (w ∷ vs) (a_field _ parts cs _ are) (FitAll.one_more _ ps _ _ o1 o2 us ws (Fits.at_bind i v) rest) =
    (omega arith, record { parts = parts; ops = o2; env = ws; are = are; fits = rest })
behind_first _ _ _ (w ∷ vs) (a_field _ parts cs _ are) (FitAll.one_more _ ps _ _ o1 o2 us ws (Fits.at_number z v e) rest) =
    (omega arith, record { parts = parts; ops = o2; env = ws; are = are; fits = rest })
behind_first _ _ _ (w ∷ vs) (a_field _ parts cs _ are) (FitAll.one_more _ ps _ _ o1 o2 us ws (Fits.at_truth b v e) rest) =
    (omega arith, record { parts = parts; ops = o2; env = ws; are = are; fits = rest })
behind_first _ _ _ (w ∷ vs) (a_field _ parts cs _ are) (FitAll.one_more _ ps _ _ o1 o2 us ws (Fits.at_string bs v e) rest) =
    (omega arith, record { parts = parts; ops = o2; env = ws; are = are; fits = rest })

mutual
  -- the fields that a pattern binds at a node are those with which it fits there
  pub bound_fits : {on : Target} {p : Pattern} {n : ℕ} {ops : List Subgoal} {env : List PureValue} → Fits on p (child n) ops env
      → map (field_value on) (bound_at on.nodes p n) ≡ env
  bound_fits (Fits.at_leaf n x) = refl
  bound_fits {on = on} (Fits.at_tree n t ps parts ops env shows all) =
      along_fits ps (children_at on.nodes n) (node_at on.nodes n).fields (shown_parts shows) all

  pub along_fits : {on : Target} (ps : Patterns) (cs : List ℕ) (vs : List Value) {parts : List Part} {ops : List Subgoal} {env : List PureValue}
      → PartsOf parts cs (map (field_value on) vs) → FitAll on ps parts ops env → map (field_value on) (bound_along on.nodes ps cs vs) ≡ env
  along_fits _ cs vs are FitAll.no_part = refl
  along_fits {on = on} _ _ [] (a_child _ parts cs _ are) (FitAll.one_more _ ps _ _ o1 o2 us ws (Fits.at_leaf n x) rest) = along_fits ps cs [] are rest
  along_fits {on = on} _ _ [] (a_child _ parts cs _ are) (FitAll.one_more _ ps _ _ o1 o2 us ws (Fits.at_tree n t qs inner o3 e3 shows all) rest) =
      map-append (field_value on) (bound_at on.nodes (tree t qs) n) (bound_along on.nodes ps cs [])
      ∙ both (bound_fits (Fits.at_tree n t qs inner o3 e3 shows all)) (along_fits ps cs [] are rest)
  along_fits {on = on} _ _ (w ∷ vs) (a_child _ parts cs _ are) (FitAll.one_more _ ps _ _ o1 o2 us ws (Fits.at_leaf n x) rest) = along_fits ps cs (w ∷ vs) are rest
  along_fits {on = on} _ _ (w ∷ vs) (a_child _ parts cs _ are) (FitAll.one_more _ ps _ _ o1 o2 us ws (Fits.at_tree n t qs inner o3 e3 shows all) rest) =
      map-append (field_value on) (bound_at on.nodes (tree t qs) n) (bound_along on.nodes ps cs (w ∷ vs))
      ∙ both (bound_fits (Fits.at_tree n t qs inner o3 e3 shows all)) (along_fits ps cs (w ∷ vs) are rest)
  along_fits _ _ (w ∷ vs) (a_field _ parts cs _ are) (FitAll.one_more _ ps _ _ o1 o2 us ws (Fits.at_any v) rest) = along_fits ps cs vs are rest
  along_fits _ _ (w ∷ vs) (a_field _ parts cs _ are) (FitAll.one_more _ ps _ _ o1 o2 us ws (Fits.at_number z v e) rest) = along_fits ps cs vs are rest
  along_fits _ _ (w ∷ vs) (a_field _ parts cs _ are) (FitAll.one_more _ ps _ _ o1 o2 us ws (Fits.at_truth b v e) rest) = along_fits ps cs vs are rest
  along_fits _ _ (w ∷ vs) (a_field _ parts cs _ are) (FitAll.one_more _ ps _ _ o1 o2 us ws (Fits.at_string bs v e) rest) = along_fits ps cs vs are rest
  along_fits {on = on} _ _ (w ∷ vs) (a_field _ parts cs _ are) (FitAll.one_more _ ps _ _ o1 o2 us ws (Fits.at_bind i v) rest) =
      ap (λ z. field_value on w ∷ z) (along_fits ps cs vs are rest)

-- ------------------------------------------------------------------ a row of coded patterns

-- fields were collected, and what the patterns that are left bind behind them is the whole
pub record Collects (nodes : List Node) (cs : List ℕ) (vs : List Value) (whole : List ℕ → List ℕ → List Value) (fields : List Value) (ps : List CoverPattern)
    (child field : ℕ) : Type 0 where
  pub fits : FitAlong nodes ps (drop child cs) (drop field vs)
  pub rest : (s l : List ℕ) → fields ++ bound_along nodes (patterns_of (map (pattern_of s l) ps)) (drop child cs) (drop field vs) ≡ whole s l

drop_more : {X : Type 0} (xs : List X) (c : ℕ) → drop 1 (drop c xs) ≡ drop (c + 1) xs
drop_more [] zero = refl
drop_more [] (suc c) = rw (add-one (suc c)) refl
drop_more (x ∷ xs) zero = refl
drop_more (x ∷ xs) (suc c) = let e = drop_more xs c in rw add-one (rw add-one at e)

some_left : {X : Type 0} (xs : List X) (c : ℕ) → 0 < length (drop c xs) → c < length xs
some_left xs c lt = let e = length-drop c xs in omega (arith, e, lt)

head_left : (xs : List ℕ) (c x : ℕ) → slice_get xs c ≡ Some x → slice_index (drop c xs) 0 ≡ x
head_left xs c x at = ap (λ z. slice_index z 0) (drop_here xs c x at)

first_left : {X : Type 0} (xs : List X) (c : ℕ) (x : X) → slice_get xs c ≡ Some x → take 1 (drop c xs) ≡ x ∷ []
first_left xs c x at = ap (λ z. take 1 z) (drop_here xs c x at)

-- one pattern more, which binds these fields of its own
abbrev pub BindsFirst : List Node → List ℕ → List Value → ℕ → ℕ → ℕ → ℕ → Pattern → List Value → Type 0
BindsFirst nodes cs vs c f i j p own = (children_behind p (drop c cs) ≡ drop i cs) × (fields_behind p (drop f vs) ≡ drop j vs)
    × (bound_first nodes p (drop c cs) (drop f vs) ≡ own)

one_collected : (nodes : List Node) (cs : List ℕ) (vs : List Value) (whole : List ℕ → List ℕ → List Value) (fields next : List Value) (p : CoverPattern)
    (ps : List CoverPattern) (c f i j : ℕ) (meant : List ℕ → List ℕ → Pattern) (own : List ℕ → List ℕ → List Value)
    → ((s l : List ℕ) → pattern_of s l p ≡ meant s l) → ((s l : List ℕ) → BindsFirst nodes cs vs c f i j (meant s l) (own s l))
    → ((s l : List ℕ) → next ≡ fields ++ own s l)
    → Collects nodes cs vs whole fields (p ∷ ps) c f → Collects nodes cs vs whole next ps i j
one_collected nodes cs vs whole fields next p ps c f i j meant own are binds more to =
    let on = to.fits.on in
    let pats : List ℕ → List ℕ → Patterns = λ s l. patterns_of (map (pattern_of s l) ps) in
    let is : (s l : List ℕ) → BindsFirst nodes cs vs c f i j (pattern_of s l p) (own s l) =
    λ s l. subst (λ z. BindsFirst nodes cs vs c f i j z (own s l)) (sym (are s l)) (binds s l) in
    let (e, g, h) = is on.source on.literals in
    let (first, behind) = behind_first (pattern_of on.source on.literals p) (pats on.source on.literals) (drop c cs) (drop f vs) to.fits.are to.fits.fits in
    record {
      fits = record {
        on = on;
        is = to.fits.is;
        parts = behind.parts;
        ops = behind.ops;
        env = behind.env;
        are = subst (λ z. PartsOf behind.parts z (map (field_value on) (drop j vs))) e
            (subst (λ z. PartsOf behind.parts (children_behind (pattern_of on.source on.literals p) (drop c cs)) (map (field_value on) z)) g behind.are);
        fits = behind.fits;
      };
      rest = λ s l. (let (a, b, d) = is s l in
          ap (λ z. z ++ bound_along nodes (pats s l) (drop i cs) (drop j vs)) (more s l)
          ∙ append_assoc fields (own s l) (bound_along nodes (pats s l) (drop i cs) (drop j vs))
          ∙ subst (λ z. fields ++ (z ++ bound_along nodes (pats s l) (drop i cs) (drop j vs)) ≡ whole s l) d
          (subst (λ z. fields ++ (bound_first nodes (pattern_of s l p) (drop c cs) (drop f vs) ++ bound_along nodes (pats s l) z (drop j vs)) ≡ whole s l) a
          (subst (λ z. fields ++ (bound_first nodes (pattern_of s l p) (drop c cs) (drop f vs) ++ bound_along nodes (pats s l)
          (children_behind (pattern_of s l p) (drop c cs)) z) ≡ whole s l) b (to.rest s l))));
    }

module _ (nodes : List Node) (cs : List ℕ) (vs : List Value) (whole : List ℕ → List ℕ → List Value) (fields : List Value) (p : CoverPattern) (ps : List CoverPattern) (c f : ℕ)
    (to : Collects nodes cs vs whole fields (p ∷ ps) c f) where
  pub leaf_collected : {x : ℕ} → p ≡ Leaf x → Collects nodes cs vs whole fields ps (c + 1) f
  leaf_collected {x = x} is = one_collected nodes cs vs whole fields fields p ps c f (c + 1) f (λ s l. leaf x) (λ s l. []) (λ s l. ap (pattern_of s l) is ∙ pattern-Leaf s l x)
      (λ s l. (drop_more cs c, refl, refl)) (λ s l. sym (append-nil fields)) to

  pub any_collected : p ≡ Any → Collects nodes cs vs whole fields ps c (f + 1)
  any_collected is = one_collected nodes cs vs whole fields fields p ps c f c (f + 1) (λ s l. any) (λ s l. []) (λ s l. ap (pattern_of s l) is ∙ pattern-Any s l)
      (λ s l. (refl, drop_more vs f, refl)) (λ s l. sym (append-nil fields)) to

  pub int_collected : {z : ℤ} → p ≡ Int z → Collects nodes cs vs whole fields ps c (f + 1)
  int_collected {z = z} is = one_collected nodes cs vs whole fields fields p ps c f c (f + 1) (λ s l. number z) (λ s l. []) (λ s l. ap (pattern_of s l) is ∙ pattern-Int s l z)
      (λ s l. (refl, drop_more vs f, refl)) (λ s l. sym (append-nil fields)) to

  pub bool_collected : {b : Bool} → p ≡ Truth b → Collects nodes cs vs whole fields ps c (f + 1)
  bool_collected {b = b} is = one_collected nodes cs vs whole fields fields p ps c f c (f + 1) (λ s l. truth b) (λ s l. []) (λ s l. ap (pattern_of s l) is ∙ pattern-Bool s l b)
      (λ s l. (refl, drop_more vs f, refl)) (λ s l. sym (append-nil fields)) to

  pub text_collected : {t : Text} → p ≡ String t → Collects nodes cs vs whole fields ps c (f + 1)
  text_collected {t = t} is = one_collected nodes cs vs whole fields fields p ps c f c (f + 1) (λ s l. string (text_of s l t)) (λ s l. [])
      (λ s l. ap (pattern_of s l) is ∙ pattern-Text s l t) (λ s l. (refl, drop_more vs f, refl)) (λ s l. sym (append-nil fields)) to

  pub bind_collected : {i : ℕ} (v : Value) (next : List Value) → p ≡ Bind i → slice_get vs f ≡ Some v → next ≡ fields ++ v ∷ []
      → Collects nodes cs vs whole next ps c (f + 1)
  bind_collected {i = i} v next is at more = one_collected nodes cs vs whole fields next p ps c f c (f + 1) (λ s l. bind i) (λ s l. v ∷ [])
      (λ s l. ap (pattern_of s l) is ∙ pattern-Bind s l i) (λ s l. (refl, drop_more vs f, first_left vs f v at)) (λ s l. more) to

  pub tree_collected : {t : ℕ} (parts : Bor (List CoverPattern)) (n : ℕ) (next : List Value) → p ≡ Tree t parts → slice_get cs c ≡ Some n
      → ((s l : List ℕ) → next ≡ fields ++ bound_at nodes (pattern_of s l p) n) → Collects nodes cs vs whole next ps (c + 1) f
  tree_collected {t = t} parts n next is at more = one_collected nodes cs vs whole fields next p ps c f (c + 1) f
      (λ s l. tree t (patterns_of (map (pattern_of s l) parts.now))) (λ s l. bound_at nodes (pattern_of s l p) n)
      (λ s l. ap (pattern_of s l) is ∙ pattern-Tree s l t parts)
      (λ s l. (
        drop_more cs c,
        refl,
        ap (λ z. bound_along nodes (patterns_of (map (pattern_of s l) parts.now)) (children_at nodes z) (node_at nodes z).fields)
            (head_left cs c n at) ∙ sym (ap (λ z. bound_at nodes z n) (ap (pattern_of s l) is ∙ pattern-Tree s l t parts)),
      )) more to

  stands_there : StandsFirst to.fits.on (pattern_of to.fits.on.source to.fits.on.literals p) (drop c cs) (drop f vs)
  stands_there = (behind_first (pattern_of to.fits.on.source to.fits.on.literals p) (patterns_of (map (pattern_of to.fits.on.source to.fits.on.literals) ps))
      (drop c cs) (drop f vs) to.fits.are to.fits.fits).0

  pub bind_there : {i : ℕ} → p ≡ Bind i → f < length vs
  bind_there {i = i} is = some_left vs f (subst (λ z. StandsFirst to.fits.on z (drop c cs) (drop f vs))
      (ap (pattern_of to.fits.on.source to.fits.on.literals) is ∙ pattern-Bind to.fits.on.source to.fits.on.literals i) stands_there)

  tree_stands : (t : ℕ) (parts : Bor (List CoverPattern)) → p ≡ Tree t parts
      → StandsFirst to.fits.on (tree t (patterns_of (map (pattern_of to.fits.on.source to.fits.on.literals) parts.now))) (drop c cs) (drop f vs)
  tree_stands t parts is = subst (λ z. StandsFirst to.fits.on z (drop c cs) (drop f vs))
      (ap (pattern_of to.fits.on.source to.fits.on.literals) is ∙ pattern-Tree to.fits.on.source to.fits.on.literals t parts) stands_there

  pub tree_there : {t : ℕ} (parts : Bor (List CoverPattern)) → p ≡ Tree t parts → c < length cs
  tree_there {t = t} parts is = some_left cs c (tree_stands t parts is).0

  pub tree_fits_there : {t : ℕ} (parts : Bor (List CoverPattern)) (n : ℕ) → p ≡ Tree t parts → slice_get cs c ≡ Some n → FitsNode nodes p n
  tree_fits_there {t = t} parts n is at =
      let (there, ops, env, fits) = tree_stands t parts is in
      record {
        on = to.fits.on;
        is = to.fits.is;
        ops = ops;
        env = env;
        fits = subst (λ z. Fits to.fits.on z (child n) ops env) (sym (ap (pattern_of to.fits.on.source to.fits.on.literals) is ∙ pattern-Tree to.fits.on.source to.fits.on.literals t parts))
            (subst (λ z. Fits to.fits.on (tree t (patterns_of (map (pattern_of to.fits.on.source to.fits.on.literals) parts.now))) (child z) ops env) (head_left cs c n at) fits);
      }

-- a tree pattern that fits a node has parts that fit its children and fields
pub parts_fit : (nodes : List Node) (p : CoverPattern) (n : ℕ) {t : ℕ} (parts : Bor (List CoverPattern)) → p ≡ Tree t parts → FitsNode nodes p n
    → FitAlong nodes parts.now (children_at nodes n) (node_at nodes n).fields
parts_fit nodes p n {t = t} parts is fit =
    inner fit.on fit.is (subst (λ z. Fits fit.on z (child n) fit.ops fit.env)
    (ap (pattern_of fit.on.source fit.on.literals) is ∙ pattern-Tree fit.on.source fit.on.literals t parts) fit.fits)
  where
    inner : (on : Target) → on.nodes ≡ nodes → {ops : List Subgoal} {env : List PureValue}
        → Fits on (tree t (patterns_of (map (pattern_of on.source on.literals) parts.now))) (child n) ops env
        → FitAlong nodes parts.now (children_at nodes n) (node_at nodes n).fields
    inner on same {ops = ops} {env = env} (Fits.at_tree _ _ _ inside _ _ shows all) = record {
      on = on;
      is = same;
      parts = inside;
      ops = ops;
      env = env;
      are = subst (λ z. PartsOf inside (children_at z n) (map (field_value on) (node_at z n).fields)) same (shown_parts shows);
      fits = all;
    }

-- what a tree pattern binds at a node is what its parts bind there
pub tree_bound : (nodes : List Node) (p : CoverPattern) (n : ℕ) {t : ℕ} (parts : Bor (List CoverPattern)) → p ≡ Tree t parts → (old new : List Value)
    → ((s l : List ℕ) → new ≡ old ++ bound_along nodes (patterns_of (map (pattern_of s l) parts.now)) (children_at nodes n) (node_at nodes n).fields)
    → (s l : List ℕ) → new ≡ old ++ bound_at nodes (pattern_of s l p) n
tree_bound nodes p n {t = t} parts is old new more s l =
    more s l ∙ ap (λ z. old ++ bound_at nodes z n) (sym (ap (pattern_of s l) is ∙ pattern-Tree s l t parts))

-- the same numbers and fields by other names
pub renamed : {nodes : List Node} {cs : List ℕ} {vs : List Value} {whole : List ℕ → List ℕ → List Value} (ps : List CoverPattern) (fields others : List Value) (c d f g : ℕ)
    → others ≡ fields → d ≡ c → g ≡ f → Collects nodes cs vs whole fields ps c f → Collects nodes cs vs whole others ps d g
renamed {nodes = nodes} {cs = cs} {vs = vs} {whole = whole} ps fields others c d f g a b e to =
    subst (λ z. Collects nodes cs vs whole z ps d g) (sym a) (subst (λ z. Collects nodes cs vs whole fields ps z g) (sym b)
    (subst (λ z. Collects nodes cs vs whole fields ps c z) (sym e) to))

pub collected_all : {nodes : List Node} {cs : List ℕ} {vs : List Value} {whole : List ℕ → List ℕ → List Value} (ps : List CoverPattern) (fields : List Value) (c f i : ℕ)
    → length ps ≤ i → Collects nodes cs vs whole fields (drop i ps) c f → (s l : List ℕ) → fields ≡ whole s l
collected_all {nodes = nodes} {cs = cs} {vs = vs} {whole = whole} ps fields c f i past to s l =
    sym (append-nil fields) ∙ subst (λ z. fields ++ bound_along nodes (patterns_of (map (pattern_of s l) z)) (drop c cs) (drop f vs) ≡ whole s l)
    (drop_of_length-le ps past) (to.rest s l)
