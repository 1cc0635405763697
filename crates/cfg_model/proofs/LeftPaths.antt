-- What stands behind nothing, or behind what vanishes, is met along the first parts of rules.
use Rattle.std.proofs.Common.{◌≡◌, ℕ, false, ◌⊎◌, inl, inr, List, [], ◌∷◌, ◌++◌, refl, sym, subst, append_assoc}
use Rattle.std.proofs.lemmas.List.{append-nil}
use Rattle.ck_base.specs.BitSet.{BitSet, Has}
use Rattle.cfg_model.specs.declared.symbol.Sym.{Sym}
use Rattle.cfg_model.specs.declared.symbol.Sym.TheVariants.{T, N}
use Rattle.cfg_model.specs.declared.rows.Edge.{Edge}
use Rattle.cfg_model.specs.Cfg.{Cfg}
use Rattle.cfg_model.specs.Steps.{step, Steps, none, more, StepsOnce}
use Rattle.cfg_model.specs.Sets.{Nullable}
use Rattle.cfg_model.specs.Searches.{LeftRecursive}
use Rattle.cfg_model.specs.Derivation.{Forest, yield, Derive, token, Gives}
use Rattle.cfg_model.specs.within.Closing.{AllPass, AreMakers}
use Rattle.cfg_model.specs.Rows.{In}
use Rattle.cfg_model.specs.within.Spreading.{IsEdge, Leads, here, on, AreSpread}
use Rattle.cfg_model.specs.within.Parts.{LeftPart}
use Rattle.cfg_model.proofs.Forests.{gives_of_steps, steps_of_gives, gives_cut, steps_then, steps_within, step_within, steps_both, steps_of_rule}
use Rattle.cfg_model.proofs.Joining.{leads_then}
use Rattle.cfg_model.proofs.Makers.{makes_passing, both_empty}
use Rattle.cfg_model.proofs.Locate.{not_empty, in_first, in_middle, in_last, locate}

-- no step is made
abbrev pub IsNone : {g : Cfg} {u v : List Sym} → Steps g u v → Type 0
IsNone none = Unit {0}
IsNone (more v w steps last) = ⊥

module _ (g : Cfg) where
  pub nullable_cut : (u v : List Sym) → Nullable g (u ++ v) → Nullable g u × Nullable g v
  nullable_cut u v steps =
      let (a, b, whole, left, right) = gives_cut g u v (gives_of_steps g (u ++ v) [] steps) in
      let ends = both_empty a b (sym whole) in
      (steps_of_gives g u [] (rw ends.0 at left), steps_of_gives g v [] (rw ends.1 at right))

  pub no_word : (t : ℕ) (u : List Sym) → Nullable g (T t ∷ u) → ⊥
  no_word t u steps = go (gives_of_steps g (T t ∷ u) [] steps)
    where
      go : Gives g (T t ∷ u) [] → ⊥
      go gives = by_derive gives.forest gives.derive (sym gives.yields)
        where
          by_derive : (f : Forest ℕ) → Derive (λ t. t) g (T t ∷ u) f → yield f ≡ [] → ⊥
          by_derive _ (token _ k _ f is d) same = cc

  module _ (null : BitSet) (nullable_is : AreMakers false g null) where
    -- a list that vanishes has nonterminals of the set alone
    pub pass_nullable : (u : List Sym) → Nullable g u → AllPass false (Has null) u
    pass_nullable [] steps = tt
    pass_nullable (T t ∷ u) steps = absurd (no_word t u steps)
    pass_nullable (N n ∷ u) steps =
        let (first, rest) = nullable_cut (N n ∷ []) u steps in
        (nullable_is.all n first, pass_nullable u rest)

    module _ (L : ℕ → ℕ → Type 0) (edge : (n m : ℕ) → LeftPart g null n (N m) → L n m)
        (then : (a n m : ℕ) → L a n → LeftPart g null n (N m) → L a m) where
      -- what is met: along the relation, or the nonterminal itself, alone
      unfoldable pub Met : ℕ → ℕ → List Sym → List Sym → Type 0 → Type 0
      Met a b x y alone = L a b ⊎ ((a ≡ b) × (x ≡ []) × (y ≡ []) × alone)

      after_met : (a n b : ℕ) (x y : List Sym) (alone : Type 0) → Met a n x y alone → LeftPart g null n (N b) → L a b
      unfolding Met
      after_met a n b x y alone (inl path) part = then a n b path part
      after_met a n b x y alone (inr (same, _, _, _)) part = subst (λ (k : ℕ). L k b) (sym same) (edge n b part)

      met_last : (a b : ℕ) (x y : List Sym) (alone : Type 0) → Met a b x y alone → (x ≡ [] → y ≡ [] → ⊥) → L a b
      unfolding Met
      met_last a b x y alone (inl path) some = path
      met_last a b x y alone (inr (same, no_x, no_y, _)) some = absurd (some no_x no_y)

      pub met : (a b : ℕ) (v x y : List Sym) (steps : Steps g (N a ∷ []) v) → v ≡ x ++ (N b ∷ y) → Nullable g x → Met a b x y (IsNone steps)
      unfolding Met
      met a b _ [] y none same nullable =
          let one : N a ≡ N b = cc in
          let number : a ≡ b = cc (one) in
          let rest : y ≡ [] = cc in
          inr (number, refl, rest, tt)
      met a b _ (s ∷ x) y none same nullable =
          let rest : [] ≡ x ++ (N b ∷ y) = cc in
          absurd (not_empty x (N b) y rest)
      met a b _ x y (more _ _ steps (step r n w p q rule_is)) same nullable = inl (elim (locate (N b) x y p w q (sym same)) [
        | in_first m is_p is_y ↦
            let whole : p ++ (N n ∷ q) ≡ x ++ (N b ∷ (m ++ (N n ∷ q))) = rw is_p (append_assoc x (N b ∷ m) (N n ∷ q)) in
            met_last a b x (m ++ (N n ∷ q)) (IsNone steps) (met a b (p ++ (N n ∷ q)) x (m ++ (N n ∷ q)) steps whole nullable)
            (λ _ none_left. not_empty m (N n) q (sym none_left))
        | in_middle m k is_x is_w is_y ↦
            let (before, inner) = nullable_cut p m (rw is_x at nullable) in
            after_met a n b p q (IsNone steps) (met a n (p ++ (N n ∷ q)) p q steps refl before)
            (record { number = r; before = m; after = k; is_rule = rw is_w at rule_is; vanish = pass_nullable m inner })
        | in_last m is_x is_q ↦
            let (before, rest) = nullable_cut p (w ++ m) (rw is_x at nullable) in
            let (inner, behind) = nullable_cut w m rest in
            let vanish : Nullable g (N n ∷ []) = steps_then g (steps_of_rule g r n w rule_is) inner in
            let all : Nullable g (p ++ (N n ∷ m)) = steps_both g before (steps_both g vanish behind) in
            let whole : p ++ (N n ∷ q) ≡ (p ++ (N n ∷ m)) ++ (N b ∷ y) = rw is_q (sym (append_assoc p (N n ∷ m) (N b ∷ y))) in
            met_last a b (p ++ (N n ∷ m)) y (IsNone steps) (met a b (p ++ (N n ∷ q)) (p ++ (N n ∷ m)) y steps whole all)
            (λ none_left _. not_empty p (N n) m (sym none_left))
      ])

      -- a nonterminal that is left recursive is met from itself
      pub left_recursive_met : (a : ℕ) → LeftRecursive g a → L a a
      unfolding Met
      left_recursive_met a (x, y, nullable, (v, steps, last)) =
          elim (met a a (x ++ (N a ∷ y)) x y (more v (x ++ (N a ∷ y)) steps last) refl nullable) [
            | inl path ↦ path
            | inr (_, _, _, none_is) ↦ absurd none_is
          ]

    -- one part of a rule is a step, and what stands before it vanishes
    pub part_steps : (n m : ℕ) → LeftPart g null n (N m) → (x : List Sym) × (y : List Sym) × Nullable g x × StepsOnce g (N n ∷ []) (x ++ (N m ∷ y))
    part_steps n m part = (
      part.before,
      part.after,
      makes_passing g false (Has null) nullable_is.only part.before part.vanish,
      (N n ∷ [], none, rw (append-nil (part.before ++ (N m ∷ part.after))) at (step part.number n (part.before ++ (N m ∷ part.after)) [] [] part.is_rule)),
    )

    -- two such runs of steps, one after the other
    pub steps_join : (a b c : ℕ) → (x : List Sym) × (y : List Sym) × Nullable g x × StepsOnce g (N a ∷ []) (x ++ (N b ∷ y))
        → (x : List Sym) × (y : List Sym) × Nullable g x × StepsOnce g (N b ∷ []) (x ++ (N c ∷ y))
        → (x : List Sym) × (y : List Sym) × Nullable g x × StepsOnce g (N a ∷ []) (x ++ (N c ∷ y))
    steps_join a b c (x, y, x_null, (v, before, last)) (p, q, p_null, (w, steps, end)) =
        let first : Steps g (N a ∷ []) (x ++ (N b ∷ y)) = more v (x ++ (N b ∷ y)) before last in
        let second : Steps g (x ++ (N b ∷ y)) (x ++ (w ++ y)) = steps_within g x y steps in
        let whole : x ++ ((p ++ (N c ∷ q)) ++ y) ≡ (x ++ p) ++ (N c ∷ (q ++ y)) = simp append_assoc in
        (x ++ p, q ++ y, steps_both g x_null p_null, (x ++ (w ++ y), steps_then g first second, rw whole at (step_within g x y end)))

-- rows that spread from what stands first have what is met
module _ (g : Cfg) (null : BitSet) (nullable_is : AreMakers false g null) (edges : List Edge) (base rows : List BitSet)
    (base_is : (n m : ℕ) → In base n m → LeftPart g null n (N m)) (base_all : (n m : ℕ) → LeftPart g null n (N m) → In base n m)
    (edge_is : (a b : ℕ) → IsEdge edges a b → LeftPart g null b (N a)) (edge_all : (a b : ℕ) → LeftPart g null b (N a) → IsEdge edges a b)
    (are : AreSpread edges base rows) where
  -- n stands before k along the edges, so what is a part of k's is met from n
  LeftRun : ℕ → ℕ → Type 0
  LeftRun a b = (x : List Sym) × (y : List Sym) × Nullable g x × StepsOnce g (N a ∷ []) (x ++ (N b ∷ y))

  run_of : (m n t : ℕ) → Leads edges m n → LeftRun m t → LeftRun n t
  unfolding LeftRun
  run_of m _ t here run = run
  run_of m _ t (on a b leads edge) run = steps_join g null nullable_is b a t (part_steps g null nullable_is b a (edge_is a b edge)) (run_of m a t leads run)

  pub recursive_of_row : (n : ℕ) → In rows n n → LeftRecursive g n
  unfolding LeftRun
  recursive_of_row n has =
      let (m, leads, was) = are.only n n has in
      run_of m n n leads (part_steps g null nullable_is m n (base_is m n was))

  -- what the rows have, one part further
  row_edge : (n m : ℕ) → LeftPart g null n (N m) → In rows n m
  row_edge n m part = are.all n n m here (base_all n m part)

  leads_down : (a n : ℕ) → In rows a n → (m : ℕ) → LeftPart g null n (N m) → In rows a m
  leads_down a n has m part =
      let (k, leads, was) = are.only a n has in
      are.all n a m (leads_then edges n k a (on n k here (edge_all n k (base_is k n was))) leads) (base_all n m part)

  pub row_of_recursive : (n : ℕ) → LeftRecursive g n → In rows n n
  row_of_recursive n recursive = left_recursive_met g null nullable_is (In rows) row_edge (λ a n m has part. leads_down a n has m part) n recursive
