-- The symbols of items and of derived words are the grammar's.
use Rattle.std.proofs.Common.{ℕ, ◌<◌, List, [], ◌∷◌, ◌++◌, sym, All, arith, subst}
use Rattle.std.proofs.lemmas.Option.{slice_get_within, get_or_from_slice_get}
use Rattle.std.proofs.lemmas.List.Elements.{All-cons, All-head, All-tail, All-append}
use Rattle.cfg_model.specs.declared.symbol.Sym.{Sym}
use Rattle.cfg_model.specs.declared.symbol.Sym.TheVariants.{T, N}
use Rattle.cfg_model.specs.Cfg.{Cfg, Rule, IsRule, IsSymbol, IsGrammar}
use Rattle.cfg_model.specs.Derivation.{Forest, yield, Derive, nothing, token, rule}
use Rattle.cfg_model.specs.Steps.{Steps, word}
use Rattle.cfg_model.specs.Sets.{AllProductive}
use Rattle.cfg_model.specs.Valid.{Valid, start, closure, move}
use Rattle.cfg_model.proofs.Forests.{gives_of_steps, steps_after, steps_both, word_append}

-- the symbols of a right side are the grammar's
pub right_in : (g : Cfg) → IsGrammar g → (r n : ℕ) (w : List Sym) → IsRule g r n w → All (IsSymbol g) w
right_in g ok r n w is =
    let one : Rule = record { left = n; right = w } in
    let inside = slice_get_within g.rules is.place one is.read in
    let there = get_or_from_slice_get g.rules is.place one one is.read in
    let all = ok.right is.place one inside in
    rw there at all

-- the symbols behind the dot of a valid item are the grammar's
pub behind_dot : (g : Cfg) → IsGrammar g → (p : List Sym) (r d : ℕ) (y : List Sym) (a : ℕ)
    → Valid g p r d y a → All (IsSymbol g) y
behind_dot g ok p r d y a start = All-cons (IsSymbol g) (N g.start) [] ok.start (λ k d under. absurd (omega arith))
behind_dot g ok p r d y a (closure _ r2 d2 b y2 a2 s _ _ v is begins) = right_in g ok s b y is
behind_dot g ok p r d y a (move p2 r2 d2 x _ _ v) = All-tail (IsSymbol g) x y (behind_dot g ok p2 r2 d2 _ a v)

-- the terminals of a derivation are the grammar's
known_yield : (g : Cfg) → IsGrammar g → (ss : List Sym) (f : Forest ℕ) → All (IsSymbol g) ss → Derive (λ t. t) g ss f
    → All (λ t. t < g.terminals) (yield f)
known_yield g ok ss f are nothing = λ k d under. absurd (omega arith)
known_yield g ok ss f are (token t k u f2 is d) =
    let first = All-head (IsSymbol g) (T t) u are in
    All-cons (λ t. t < g.terminals) k (yield f2) (omega (arith, first, is)) (known_yield g ok u f2 (All-tail (IsSymbol g) (T t) u are) d)
known_yield g ok ss f are (rule r n w u c f2 is dc d) =
    All-append (λ t. t < g.terminals) (yield c) (yield f2) (known_yield g ok w c (right_in g ok r n w is) dc)
    (known_yield g ok u f2 (All-tail (IsSymbol g) (N n) u are) d)

-- the terminals of a derived word are the grammar's
pub known_word : (g : Cfg) → IsGrammar g → (ss : List Sym) (w : List ℕ) → All (IsSymbol g) ss → Steps g ss (word w)
    → All (λ t. t < g.terminals) w
known_word g ok ss w are steps =
    let tree = gives_of_steps g ss w steps in
    subst (All (λ t. t < g.terminals)) (sym tree.yields) (known_yield g ok ss tree.forest are tree.derive)

-- where every nonterminal derives a word, each list of the grammar's symbols does
pub all_derive : (g : Cfg) (ss : List Sym) → AllProductive g → All (IsSymbol g) ss → (w : List ℕ) × Steps g ss (word w)
all_derive g [] all are = ([], Steps.none)
all_derive g (T t ∷ ss) all are =
    let (w, d) = all_derive g ss all (All-tail (IsSymbol g) (T t) ss are) in
    (t ∷ w, steps_after g (T t ∷ []) d)
all_derive g (N b ∷ ss) all are =
    let (w, d) = all_derive g ss all (All-tail (IsSymbol g) (N b) ss are) in
    let (u, e) = all b (All-head (IsSymbol g) (N b) ss are) in
    (u ++ w, joined u w e d)
  where
    joined : (u w : List ℕ) → Steps g (N b ∷ []) (word u) → Steps g ss (word w) → Steps g (N b ∷ ss) (word (u ++ w))
    joined u w e d = rw (word_append g u w) (steps_both g e d)
