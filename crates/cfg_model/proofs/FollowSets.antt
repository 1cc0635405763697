-- FOLLOW is what spreads from its base along its edges.
use Rattle.std.proofs.Common.{◌≡◌, ℕ, ◌<◌, false, ◌⊎◌, inl, inr, List, [], ◌∷◌, ◌++◌, refl, sym, ◌∙◌, subst, append_assoc}
use Rattle.cfg_model.specs.declared.symbol.Sym.{Sym}
use Rattle.cfg_model.specs.declared.symbol.Sym.TheVariants.{T, N}
use Rattle.cfg_model.specs.Cfg.{Cfg, IsRule, IsGrammar}
use Rattle.cfg_model.specs.Steps.{Step, step, Steps, none, more, word}
use Rattle.cfg_model.specs.Sets.{Nullable, First, Follow, Reachable, Productive}
use Rattle.cfg_model.specs.Derivation.{Forest, yield, Derive, token, Gives}
use Rattle.cfg_model.specs.within.FollowParts.{FollowBase, the_end, behind, FollowEdge}
use Rattle.cfg_model.proofs.Forests.{gives_cut, gives_of_steps, steps_of_gives, steps_then, steps_before, steps_after, word_append, gives_before}
use Rattle.ck_base.specs.BitSet.{BitSet}
use Rattle.cfg_model.specs.within.Closing.{AreMakers}
use Rattle.cfg_model.proofs.InRange.{AreSymbols, symbols_derived, symbols_right}
use Rattle.cfg_model.proofs.FirstSets.{empty_or_some, some_word}
use Rattle.cfg_model.proofs.Locate.{not_empty, in_first, in_middle, in_last, locate}

module _ (g : Cfg) where
  -- a reachable nonterminal stands in a list derived from the start symbol with END behind
  pub with_end : (n : ℕ) → Reachable g n → (x : List Sym) × (y : List Sym) × Steps g (N g.start ∷ T g.terminals ∷ []) (x ++ (N n ∷ y))
  with_end n (x, y, steps) =
      (x, y ++ (T g.terminals ∷ []), rw (append_assoc x (N n ∷ y) (T g.terminals ∷ [])) at (steps_before g (T g.terminals ∷ []) steps))

  pub base_follow : (n t : ℕ) → FollowBase g n t → Follow g n t
  base_follow _ _ the_end = ([], [], none)
  base_follow _ _ (behind r n m t x y reachable is (w, first)) =
      let (p, q, steps) = with_end n reachable in
      let next = more (p ++ (N n ∷ q)) (p ++ ((x ++ (N m ∷ y)) ++ q)) steps (step r n (x ++ (N m ∷ y)) p q is) in
      let whole : p ++ ((x ++ (N m ∷ y)) ++ q) ≡ (p ++ (x ++ (N m ∷ []))) ++ (y ++ q) = simp append_assoc in
      let rest : Steps g (y ++ q) (T t ∷ (word w ++ q)) = steps_before g q first in
      let all = steps_then g (rw whole at next) (steps_after g (p ++ (x ++ (N m ∷ []))) rest) in
      let shape : (p ++ (x ++ (N m ∷ []))) ++ (T t ∷ (word w ++ q)) ≡ (p ++ x) ++ (N m ∷ T t ∷ (word w ++ q)) = simp append_assoc in
      (p ++ x, word w ++ q, rw shape at all)

  pub edge_follow : (a b t : ℕ) → FollowEdge g a b → Follow g a t → Follow g b t
  edge_follow a b t edge (p, q, steps) =
      let next = more (p ++ (N a ∷ T t ∷ q)) (p ++ ((edge.before ++ (N b ∷ edge.after)) ++ (T t ∷ q))) steps (step edge.number a (edge.before ++ (N b ∷ edge.after)) p (T t ∷ q) edge.is_rule) in
      let whole : p ++ ((edge.before ++ (N b ∷ edge.after)) ++ (T t ∷ q)) ≡ (p ++ (edge.before ++ (N b ∷ []))) ++ (edge.after ++ (T t ∷ q)) = simp append_assoc in
      let all = steps_then g (rw whole at next) (steps_after g (p ++ (edge.before ++ (N b ∷ []))) (steps_before g (T t ∷ q) edge.vanish)) in
      let shape : (p ++ (edge.before ++ (N b ∷ []))) ++ (T t ∷ q) ≡ (p ++ edge.before) ++ (N b ∷ T t ∷ q) = simp append_assoc in
      (p ++ edge.before, q, rw shape at all)

  -- first terminals of a list in two parts
  pub first_cut : (u v : List Sym) (t : ℕ) → First g (u ++ v) t → First g u t ⊎ (Nullable g u × First g v t)
  first_cut u v t (w, steps) =
      let (a, b, whole, left, right) = gives_cut g u v (gives_of_steps g (u ++ v) (t ∷ w) steps) in
      elim (empty_or_some a) [
        | inl none_left ↦
            let all : t ∷ w ≡ b = rw none_left at whole in
            inr (steps_of_gives g u [] (rw none_left at left), (w, subst (λ (l : List ℕ). Steps g v (word l)) (sym all) (steps_of_gives g v b right)))
        | inr (k, rest, is) ↦
            let all : t ∷ w ≡ (k ∷ rest) ++ b = rw is at whole in
            let head : t ≡ k = cc in
            inl (rest, subst (λ (z : ℕ). Steps g u (word (z ∷ rest))) (sym head) (steps_of_gives g u (k ∷ rest) (rw is at left)))
      ]

  first_before_step : {u v : List Sym} (t : ℕ) → Step g u v → First g v t → First g u t
  first_before_step t last (w, steps) = (w, steps_of_gives g _ (t ∷ w) (gives_before g (t ∷ w) last (gives_of_steps g _ (t ∷ w) steps)))

  pub only_terminal : (a t : ℕ) (w : List ℕ) → Gives g (T a ∷ []) (t ∷ w) → t ≡ a
  only_terminal a t w gives = go gives.forest gives.derive (sym gives.yields)
    where
      go : (f : Forest ℕ) → Derive (λ t. t) g (T a ∷ []) f → yield f ≡ t ∷ w → t ≡ a
      go _ (token _ k _ f is d) same = let head : k ≡ t = cc in sym head ∙ is

  no_nonterminal : (a n : ℕ) (x y : List Sym) → T a ∷ [] ≡ x ++ (N n ∷ y) → ⊥
  no_nonterminal a n [] y same = cc
  no_nonterminal a n (s ∷ x) y same = let rest : [] ≡ x ++ (N n ∷ y) = cc in not_empty x (N n) y rest

  no_terminal : (a n : ℕ) (x y : List Sym) → N n ∷ [] ≡ x ++ (T a ∷ y) → ⊥
  no_terminal a n [] y same = cc
  no_terminal a n (s ∷ x) y same = let rest : [] ≡ x ++ (T a ∷ y) = cc in not_empty x (T a) y rest

  -- steps leave a terminal at the end where it is
  pub end_stays : (a : ℕ) (u v : List Sym) → Steps g (u ++ (T a ∷ [])) v → (before : List Sym) × (v ≡ before ++ (T a ∷ [])) × Steps g u before
  end_stays a u _ none = (u, refl, none)
  end_stays a u _ (more _ _ steps (step r n w p q rule_is)) =
      let (before, is, first) = end_stays a u (p ++ (N n ∷ q)) steps in
      elim (locate (T a) before [] p (N n ∷ []) q (sym is)) [
        | in_first m is_p is_end ↦ absurd (not_empty m (N n) q is_end)
        | in_middle m k is_before is_one is_end ↦ absurd (no_terminal a n m k is_one)
        | in_last m is_before is_q ↦
            let last = more (p ++ (N n ∷ m)) (p ++ (w ++ m)) (subst (λ (l : List Sym). Steps g u l) is_before first) (step r n w p m rule_is) in
            let whole : p ++ (w ++ q) ≡ (p ++ (w ++ m)) ++ (T a ∷ []) = rw is_q (simp append_assoc) in
            (p ++ (w ++ m), whole, last)
      ]

  pub reach_with_end : (v x y : List Sym) (n : ℕ) → Steps g (N g.start ∷ T g.terminals ∷ []) v → v ≡ x ++ (N n ∷ y) → Reachable g n
  reach_with_end v x y n steps same =
      let (before, is, first) = end_stays g.terminals (N g.start ∷ []) v steps in
      elim (locate (N n) x y before (T g.terminals ∷ []) [] (sym same ∙ is)) [
        | in_first m is_before is_y ↦ (x, m, subst (λ (l : List Sym). Steps g (N g.start ∷ []) l) is_before first)
        | in_middle m k is_x is_one is_y ↦ absurd (no_nonterminal g.terminals n m k is_one)
        | in_last m is_x is_none ↦ absurd (not_empty m (N n) y is_none)
      ]

  -- the start symbol and END are the list, or a nonterminal in it is reachable in a list before END
  module _ (F : ℕ → ℕ → Type 0) (base : (n t : ℕ) → FollowBase g n t → F n t) (edge : (a b t : ℕ) → FollowEdge g a b → F a t → F b t) where
    -- what can begin behind a nonterminal is in each set that has the base and is closed under the edges
    pub follow_in : (v x y : List Sym) (n t : ℕ) → Steps g (N g.start ∷ T g.terminals ∷ []) v → v ≡ x ++ (N n ∷ y) → First g y t → F n t
    follow_in _ [] y n t none same (w, steps) =
        let head : N g.start ≡ N n = cc in
        let number : g.start ≡ n = cc (head) in
        let rest : T g.terminals ∷ [] ≡ y = cc in
        let gives = gives_of_steps g (T g.terminals ∷ []) (t ∷ w) (rw (← rest) at steps) in
        let is_end : t ≡ g.terminals = only_terminal g.terminals t w gives in
        rw (← number, is_end) (base g.start g.terminals the_end)
    follow_in _ (s ∷ x) y n t none same first =
        let rest : T g.terminals ∷ [] ≡ x ++ (N n ∷ y) = cc in
        absurd (no_nonterminal g.terminals n x y rest)
    follow_in _ x y n t (more _ _ steps (step r k w p q rule_is)) same first = elim (locate (N n) x y p w q (sym same)) [
      | in_first m is_p is_y ↦
          let whole : p ++ (N k ∷ q) ≡ x ++ (N n ∷ (m ++ (N k ∷ q))) = rw is_p (append_assoc x (N n ∷ m) (N k ∷ q)) in
          follow_in (p ++ (N k ∷ q)) x (m ++ (N k ∷ q)) n t steps whole (first_before_step t (step r k w m q rule_is) (rw is_y at first))
      | in_middle m l is_x is_w is_y ↦
          let reachable = reach_with_end (p ++ (N k ∷ q)) p q k steps refl in
          let here : IsRule g r k (m ++ (N n ∷ l)) = rw is_w at rule_is in
          elim (first_cut l q t (rw is_y at first)) [
            | inl begins ↦ base n t (behind r k n t m l reachable here begins)
            | inr (vanish, later) ↦
                edge k n t (record { number = r; before = m; after = l; reachable = reachable; is_rule = here; vanish = vanish })
                (follow_in (p ++ (N k ∷ q)) p q k t steps refl later)
          ]
      | in_last m is_x is_q ↦
          let whole : p ++ (N k ∷ q) ≡ (p ++ (N k ∷ m)) ++ (N n ∷ y) = rw is_q (sym (append_assoc p (N k ∷ m) (N n ∷ y))) in
          follow_in (p ++ (N k ∷ q)) (p ++ (N k ∷ m)) y n t steps whole first
    ]

    module _ (null : BitSet) (is : IsGrammar g) (nullable_is : AreMakers false g null) (productive : (n : ℕ) → n < g.nonterminals → Productive g n) where
      first_of_rest : (t a : ℕ) (y m : List Sym) → T t ∷ y ≡ m ++ (T a ∷ []) → AreSymbols g m → First g (T t ∷ y) t
      first_of_rest t a y [] same are = let rest : y ≡ [] = cc in ([], rw rest none)
      first_of_rest t a y (s ∷ m) same are =
          let rest : y ≡ m ++ (T a ∷ []) = cc in
          let (w, steps) = some_word g null is nullable_is productive m are.1 in
          (w ++ (a ∷ []), rw (rest, word_append g w (a ∷ [])) (steps_after g (T t ∷ []) (steps_before g (T a ∷ []) steps)))

      pub follow_all : (n t : ℕ) → Follow g n t → F n t
      follow_all n t (x, y, steps) =
          let (before, whole, first) = end_stays g.terminals (N g.start ∷ []) (x ++ (N n ∷ T t ∷ y)) steps in
          let symbols = symbols_derived g is first (is.start, tt) in
          elim (locate (N n) x (T t ∷ y) before (T g.terminals ∷ []) [] whole) [
            | in_first m is_before is_y ↦
                let rest = (symbols_right g x (N n ∷ m) (rw is_before at symbols)).1 in
                follow_in (x ++ (N n ∷ T t ∷ y)) x (T t ∷ y) n t steps refl (first_of_rest t g.terminals y m is_y rest)
            | in_middle m k is_x is_one is_y ↦ absurd (no_nonterminal g.terminals n m k is_one)
            | in_last m is_x is_none ↦ absurd (not_empty m (N n) (T t ∷ y) is_none)
          ]
