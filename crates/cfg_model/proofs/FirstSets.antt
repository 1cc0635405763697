-- Rows that spread from the terminals that stand first have FIRST.
use Rattle.std.proofs.Common.{◌≡◌, ℕ, ◌<◌, false, ◌⊎◌, inl, inr, List, [], ◌∷◌, ◌++◌, refl, sym, ◌∙◌, ap, append_assoc}
use Rattle.ck_base.specs.BitSet.{BitSet, Has}
use Rattle.cfg_model.specs.declared.symbol.Sym.{Sym}
use Rattle.cfg_model.specs.declared.symbol.Sym.TheVariants.{T, N}
use Rattle.cfg_model.specs.declared.rows.Edge.{Edge}
use Rattle.cfg_model.specs.Cfg.{Cfg, IsRule, IsGrammar}
use Rattle.cfg_model.specs.Steps.{Steps, none, word}
use Rattle.cfg_model.specs.Sets.{First, Productive}
use Rattle.cfg_model.specs.Derivation.{Forest, yield, Derive, nothing, token, rule}
use Rattle.cfg_model.specs.within.Closing.{AllPass, AreMakers}
use Rattle.cfg_model.specs.Rows.{In}
use Rattle.cfg_model.specs.within.Spreading.{IsEdge, Leads, here, on, AreSpread}
use Rattle.cfg_model.specs.within.Parts.{LeftPart, Begins}
use Rattle.cfg_model.proofs.Forests.{gives_of_steps, steps_then, steps_after, steps_both, steps_of_rule, steps_of_derive, word_append}
use Rattle.cfg_model.proofs.Makers.{makes_passing}
use Rattle.cfg_model.proofs.InRange.{AreSymbols, symbols_of_rule, symbols_right}

-- rows that spread are closed under the edges, and have the old numbers
pub spread_old : (edges : List Edge) (old new : List BitSet) → AreSpread edges old new → (n t : ℕ) → In old n t → In new n t
spread_old edges old new are n t has = are.all n n t here has

pub spread_on : (edges : List Edge) (old new : List BitSet) → AreSpread edges old new → (a b t : ℕ) → IsEdge edges a b → In new a t → In new b t
spread_on edges old new are a b t edge has =
    let (m, leads, was) = are.only a t has in
    are.all m b t (on a b leads edge) was

pub empty_or_some : (l : List ℕ) → (l ≡ []) ⊎ ((k : ℕ) × (ks : List ℕ) × (l ≡ k ∷ ks))
empty_or_some [] = inl refl
empty_or_some (k ∷ ks) = inr (k, ks, refl)

module _ (g : Cfg) (null : BitSet) (is : IsGrammar g) (nullable_is : AreMakers false g null)
    (productive : (n : ℕ) → n < g.nonterminals → Productive g n) where
  -- symbols of the grammar derive a word
  pub some_word : (u : List Sym) → AreSymbols g u → (w : List ℕ) × Steps g u (word w)
  some_word [] are = ([], none)
  some_word (T t ∷ u) (one, are) = let (w, steps) = some_word u are in (t ∷ w, steps_after g (T t ∷ []) steps)
  some_word (N n ∷ u) (one, are) =
      let (v, first) = productive n one in
      let (w, steps) = some_word u are in
      (v ++ w, rw (word_append g v w) (steps_both g first steps))

  -- what derives a word that begins with the terminal, and a list behind it
  pub first_before : (u v : List Sym) (t : ℕ) → AreSymbols g v → First g u t → First g (u ++ v) t
  first_before u v t are (w, steps) =
      let (x, rest) = some_word v are in
      (w ++ x, rw (ap (λ l. T t ∷ l) (word_append g w x)) (steps_both g steps rest))

  pub first_after : (u v : List Sym) (t : ℕ) → AllPass false (Has null) u → First g v t → First g (u ++ v) t
  first_after u v t pass (w, steps) =
      (w, steps_both g (makes_passing g false (Has null) nullable_is.only u pass) steps)

  -- what can stand first gives its first terminals to the left side
  pub first_of_part : (n : ℕ) (s : Sym) (t : ℕ) → LeftPart g null n s → First g (s ∷ []) t → First g (N n ∷ []) t
  first_of_part n s t part first =
      let all = symbols_of_rule g is part.number n (part.before ++ (s ∷ part.after)) part.is_rule in
      let behind = (symbols_right g part.before (s ∷ part.after) all).1 in
      let (w, steps) = first_after part.before (s ∷ part.after) t part.vanish (first_before (s ∷ []) part.after t behind first) in
      (w, steps_then g (steps_of_rule g part.number n (part.before ++ (s ∷ part.after)) part.is_rule) steps)

  module _ (edges : List Edge) (base rows : List BitSet)
      (base_is : (n t : ℕ) → In base n t → LeftPart g null n (T t)) (base_all : (n t : ℕ) → LeftPart g null n (T t) → In base n t)
      (edge_is : (a b : ℕ) → IsEdge edges a b → LeftPart g null b (N a)) (edge_all : (a b : ℕ) → LeftPart g null b (N a) → IsEdge edges a b)
      (are : AreSpread edges base rows) where
    along : (m n t : ℕ) → Leads edges m n → First g (N m ∷ []) t → First g (N n ∷ []) t
    along m _ t here first = first
    along m _ t (on a b leads edge) first = first_of_part b (N a) t (edge_is a b edge) (along m a t leads first)

    pub row_is_first : (n t : ℕ) → In rows n t → First g (N n ∷ []) t
    row_is_first n t has =
        let (m, leads, was) = are.only n t has in
        along m n t leads (first_of_part m (T t) t (base_is m t was) ([], none))

    -- what a right side begins with is in the row of the left side
    row_of_rule : (r n : ℕ) (x u : List Sym) (t : ℕ) → AllPass false (Has null) x → IsRule g r n (x ++ u) → Begins rows null u t → In rows n t
    row_of_rule r n x [] t pass rule_is begins = absurd begins
    row_of_rule r n x (T a ∷ u) t pass rule_is begins =
        spread_old edges base rows are n t (base_all n t (record { number = r; before = x; after = u; is_rule = rw begins rule_is; vanish = pass }))
    row_of_rule r n x (N m ∷ u) t pass rule_is (inl has) =
        spread_on edges base rows are m n t (edge_all m n (record { number = r; before = x; after = u; is_rule = rule_is; vanish = pass })) has
    row_of_rule r n x (N m ∷ u) t pass rule_is (inr (vanish, begins)) =
        row_of_rule r n (x ++ (N m ∷ [])) u t (pass_more x m pass vanish) (rw (append_assoc x (N m ∷ []) u) rule_is) begins
      where
        pass_more : (y : List Sym) (m : ℕ) → AllPass false (Has null) y → Has null m → AllPass false (Has null) (y ++ (N m ∷ []))
        pass_more [] m pass vanish = (vanish, tt)
        pass_more (s ∷ y) m pass vanish = (pass.0, pass_more y m pass.1 vanish)

    -- what a derivation of a list yields first is what the list begins with
    pub begins_of_derive : (u : List Sym) (f : Forest ℕ) (t : ℕ) (w : List ℕ) → Derive (λ t. t) g u f → yield f ≡ t ∷ w → Begins rows null u t
    begins_of_derive _ _ t w nothing same = cc
    begins_of_derive _ _ t w (token a k u f is_a d) same = let head : k ≡ t = cc in sym head ∙ is_a
    begins_of_derive _ _ t w (rule r n v u children f rule_is c d) same = elim (empty_or_some (yield children)) [
      | inl none_found ↦
          let vanish : Steps g v [] = rw none_found at (steps_of_derive g v children c) in
          let rest : yield f ≡ t ∷ w = rw none_found at same in
          inr (nullable_is.all n (steps_then g (steps_of_rule g r n v rule_is) vanish), begins_of_derive u f t w d rest)
      | inr (k, found, is_found) ↦
          let all : (k ∷ found) ++ yield f ≡ t ∷ w = rw is_found at same in
          let head : k ≡ t = cc (all) in
          inl (row_of_rule r n [] v t tt rule_is (begins_of_derive v children t found c (is_found ∙ ap (λ (x : ℕ). x ∷ found) head)))
    ]

    pub first_begins : (u : List Sym) (t : ℕ) → First g u t → Begins rows null u t
    first_begins u t (w, steps) =
        let gives = gives_of_steps g u (t ∷ w) steps in
        begins_of_derive u gives.forest t w gives.derive (sym gives.yields)

    pub first_row : (n t : ℕ) → First g (N n ∷ []) t → In rows n t
    first_row n t first = elim (first_begins (N n ∷ []) t first) [ inl has ↦ has | inr rest ↦ absurd rest.1 ]
