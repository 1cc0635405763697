-- What an expression means over the symbols of a rule, by the words of all rules.
use Rattle.std.proofs.Common.{◌≡◌, ℕ, ◌<◌, ◌≤◌, ◌^◌, ◌++◌, Bool, false, List, [], length, take, map, refl, sym, ap, ◌∙◌, subst, Option, Some, None, MatchOption, IfOk, Result, Ok, Err, arith}
use Rattle.std.specs.Prelude.{slice_index}
use Rattle.std.proofs.lemmas.List.{length-take-le}
use Rattle.value_store.specs.declared.memory.NoMemory.{NoMemory}
use Rattle.value_store.specs.declared.value.ValType.{ValType}
use Rattle.value_store.specs.declared.value.ValType.TheVariants as ty
use Rattle.cfg_model.specs.Cfg.{Rule}
use Rattle.cfg_model.specs.declared.symbol.Sym.{Sym}
use Rattle.expr_lang.specs.Expression.{Expression}
use Rattle.expr_lang.specs.Meaning.{context_of, meaning}
use Rattle.expr_lang.specs.Typing.{Context, HasType}
use Rattle.expr_lang.specs.declared.expr.Expr.{Expr}
use Rattle.expr_lang.specs.declared.expr.Scope.{Scope}
use Rattle.expr_lang.proofs.OneType.{one_type}
use Rattle.expr_read.specs.Spoken.{Spoken}
use Rattle.node_spec.specs.AstBuilds.{build_words, dollar_names}
use Rattle.node_model.specs.Makers.{names_of_types, types_of_side}
use Rattle.node_model.specs.Nodes.{build_context, symbol_type}
use Rattle.expr_read.specs.Resolving.{Vocabulary, Means, MeansNothing}
use Rattle.node_spec.specs.declared.build.BuildWords.{BuildWords}
use Rattle.node_spec.specs.within.AstBuildSteps.{AreBuildWords, IsBuilt}
use Rattle.node_spec.proofs.BuildNames.{front_dollars, dollars_long}
use Rattle.node_spec.proofs.SameMakers.{by_other_makers}

vocabulary_of : (a b : List (List ℕ)) (m n : List (List ℕ)) (s t : List ℕ) → a ≡ b → m ≡ n → s ≡ t
    → (let x : Vocabulary = record { variables = a; makers = m; types = s; dotted = [] } in
    let y : Vocabulary = record { variables = b; makers = n; types = t; dotted = [] } in x ≡ y)
vocabulary_of a b m n s t same_a same_m same_s = cc

-- the words of a rule's symbols are a front of the words of all rules
pub words_of : (words : BuildWords) (n : ℕ) → AreBuildWords words → n ≤ length words.dollars.now
    → (let x : Vocabulary = record {
      variables = take n words.dollars.now;
      makers = words.sources.now.names.items;
      types = words.sources.now.types.items;
      dotted = [];
    } in
    x ≡ build_words words.types.now n)
words_of words n are less =
    let within : n ≤ are.count = (let long = ap length are.dollars
    ∙ dollars_long are.count in omega (arith, less, long)) in
    vocabulary_of (take n words.dollars.now) (dollar_names n) words.sources.now.names.items
    (names_of_types words.types.now (types_of_side words.types.now false)) words.sources.now.types.items
    (types_of_side words.types.now false)
    (ap (take n) are.dollars ∙ front_dollars n are.count within) are.names are.types

pub few_words : (words : BuildWords) (n : ℕ) → AreBuildWords words → n ≤ length words.dollars.now
    → length (take n words.dollars.now) < 2 ^ 32
few_words words n are less =
    let long = ap length are.dollars ∙ dollars_long are.count in
    let few = are.few in
    let front = length-take-le n words.dollars.now less in omega (arith, less, long, few, front)

-- what is meant, with the words and the scope by other names
abbrev pub MeansIn : Vocabulary → Context → Spoken → List ℕ → List ℕ → Option (Expr × ValType) → Type 0
MeansIn words context e source literals found =
    MatchOption found (MeansNothing words context e) (λ pair. Means words context e (meaning source literals pair.0)
    pair.1)

pub meant_by : (v w : Vocabulary) (scope : Scope) (families : List ℕ) (right : List Sym) (e : Spoken)
    (literals : List ℕ)
    (result : Result (Option (Expr × ValType)) NoMemory) → v ≡ w → scope.vars.now ≡ map (symbol_type families) right
    → IfOk result (λ found. (source more : List ℕ) (sources : ℕ → ℕ → Bool)
    → MeansIn v (context_of scope sources) e source (literals ++ more) found)
    → IfOk result (λ found. (source more : List ℕ)
    → MeansIn w (build_context families scope.makers.now right) e source (literals ++ more) found)
meant_by v w scope families right e literals (Err x) words vars is = tt
meant_by v w scope families right e literals (Ok found) words vars is = λ source more.
    subst (λ y. MeansIn y (build_context families scope.makers.now right) e source (literals ++ more) found) words
    (subst (λ ts. MeansIn v (record { vars = ts; makers = scope.makers.now; sources = λ node family. false }) e source
    (literals ++ more) found) vars
    (is source more (λ node family. false)))

-- an expression that means nothing, or is of another type, builds no node
abbrev pub words_in : BuildWords → Rule → Vocabulary
words_in words rule = build_words words.types.now (length rule.right)

abbrev pub context_in : BuildWords → Rule → Context
context_in words rule = build_context words.families.now words.sources.now.makers.items rule.right

pub nothing_built : (words : BuildWords) (rule : Rule) (e : Spoken) → AreBuildWords words
    → MeansNothing (words_in words rule) (context_in words rule) e
    → (x : Expression) → IsBuilt words.types.now words.families.now rule e x → ⊥
nothing_built words rule e are none x is = none x (ty.Node (slice_index words.families.now rule.left)) (record {
  is = is.is;
  typed = by_other_makers words.types.now words.families.now is.makers words.sources.now.makers.items rule.right x _
      is.are are.makers is.typed;
})

pub other_built : (words : BuildWords) (rule : Rule) (e : Spoken) (y : Expression) (t : ValType) → AreBuildWords words
    → Means (words_in words rule) (context_in words rule) e y t
    → (t ≡ ty.Node (slice_index words.families.now rule.left) → ⊥)
    → (x : Expression) → IsBuilt words.types.now words.families.now rule e x → ⊥
other_built words rule e y t are means other x is =
    let same : y ≡ x = same_Some_of (sym means.is ∙ is.is) in
    let typed = by_other_makers words.types.now words.families.now is.makers words.sources.now.makers.items
    rule.right x _ is.are are.makers is.typed in
    other (one_type (context_in words rule) x t (ty.Node (slice_index words.families.now rule.left))
    (subst (λ z. HasType (context_in words rule) z t) same means.typed) typed)
  where
    same_Some_of : {a b : Expression} → Some a ≡ Some b → a ≡ b
    same_Some_of e = cc

pub this_built : (words : BuildWords) (rule : Rule) (e : Spoken) (x : Expression) (t : ValType) → AreBuildWords words
    → Means (words_in words rule) (context_in words rule) e x t
    → t ≡ ty.Node (slice_index words.families.now rule.left)
    → IsBuilt words.types.now words.families.now rule e x
this_built words rule e x t are means of = record {
  is = means.is;
  makers = words.sources.now.makers.items;
  are = are.makers;
  typed = subst (HasType (context_in words rule) x) of means.typed;
}

-- the words of a rule's symbols, by their parts
pub words_here : (words : BuildWords) (n : ℕ) (m : List (List ℕ)) (t : List ℕ) → AreBuildWords words
    → n ≤ length words.dollars.now
    → m ≡ words.sources.now.names.items → t ≡ words.sources.now.types.items
    → (let x : Vocabulary = record { variables = take n words.dollars.now; makers = m; types = t; dotted = [] } in
    x ≡ build_words words.types.now n)
words_here words n m t are less names types =
    vocabulary_of (take n words.dollars.now) (take n words.dollars.now) m words.sources.now.names.items t
    words.sources.now.types.items refl names types
    ∙ words_of words n are less

-- what is meant over symbols
abbrev pub MeantOver : BuildWords → List Sym → Spoken → List ℕ → Option (Expr × ValType) → Type 0
MeantOver words right e literals found =
    (source more : List ℕ) → MeansIn (build_words words.types.now (length right))
    (build_context words.families.now words.sources.now.makers.items right)
    e source (literals ++ more) found

pub meant_here : (words : BuildWords) (right : List Sym) (e : Spoken) (literals : List ℕ) (v : Vocabulary)
    (scope : Scope)
    (result : Result (Option (Expr × ValType)) NoMemory) → v ≡ build_words words.types.now (length right)
    → scope.vars.now ≡ map (symbol_type words.families.now) right → scope.makers.now ≡ words.sources.now.makers.items
    → IfOk result (λ found. (source more : List ℕ) (sources : ℕ → ℕ → Bool)
    → MeansIn v (context_of scope sources) e source (literals ++ more) found)
    → IfOk result (MeantOver words right e literals)
meant_here words right e literals v scope (Err x) same vars makers is = tt
meant_here words right e literals v scope (Ok found) same vars makers is = λ source more.
    subst (λ ms. MeansIn (build_words words.types.now (length right)) (build_context words.families.now ms right) e
    source (literals ++ more) found) makers
    (meant_by v (build_words words.types.now (length right)) scope words.families.now right e literals (Ok found)
    same vars is source more)

module _ (words : BuildWords) (rule : Rule) (right : List Sym) (e : Spoken) (literals : List ℕ)
    (are : AreBuildWords words) (same : right ≡ rule.right) where
  over_rule : (found : Option (Expr × ValType)) → MeantOver words right e literals found
      → MeantOver words rule.right e literals found
  over_rule found is = subst (λ r. MeantOver words r e literals found) same is

  pub none_built : (found : Option (Expr × ValType)) → MeantOver words right e literals found → found ≡ None
      → (x : Expression) → IsBuilt words.types.now words.families.now rule e x → ⊥
  none_built None is none = nothing_built words rule e are (over_rule None is [] [])
  none_built (Some pair) is none = cc

  pub other_type : (found : Option (Expr × ValType)) (y : Expr) (t : ValType) (f : ℕ)
      → MeantOver words right e literals found → found ≡ Some (y, t)
      → f ≡ slice_index words.families.now rule.left → (t ≡ ty.Node f → ⊥)
      → (x : Expression) → IsBuilt words.types.now words.families.now rule e x → ⊥
  other_type found y t f is at family other =
      let means = over_rule (Some (y, t)) (subst (λ o. MeantOver words right e literals o) at is) [] [] in
      other_built words rule e (meaning [] (literals ++ []) y) t are means
      (λ of. other (of ∙ ap (λ n. ty.Node n) (sym family)))

  pub own_type : (found : Option (Expr × ValType)) (y : Expr) (t : ValType) (f : ℕ)
      → MeantOver words right e literals found → found ≡ Some (y, t)
      → f ≡ slice_index words.families.now rule.left → t ≡ ty.Node f
      → (source more : List ℕ) → IsBuilt words.types.now words.families.now rule e
      (meaning source (literals ++ more) y)
  own_type found y t f is at family of source more =
      let means = over_rule (Some (y, t)) (subst (λ o. MeantOver words right e literals o) at is) source more in
      this_built words rule e (meaning source (literals ++ more) y) t are means (of ∙ ap (λ n. ty.Node n) family)
