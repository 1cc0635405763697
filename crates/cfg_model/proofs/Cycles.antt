-- Cycles, and left recursion behind what vanishes.
use Rattle.std.proofs.Common.{◌≡◌, ℕ, false, ◌⊎◌, inl, inr, List, [], ◌∷◌, ◌++◌, refl, sym, ◌∙◌, ap, subst, append_assoc}
use Rattle.std.proofs.lemmas.List.{append-nil}
use Rattle.ck_base.specs.BitSet.{BitSet, Has}
use Rattle.cfg_model.specs.declared.symbol.Sym.{Sym}
use Rattle.cfg_model.specs.declared.symbol.Sym.TheVariants.{N}
use Rattle.cfg_model.specs.Cfg.{Cfg, IsRule}
use Rattle.cfg_model.specs.Steps.{step, Steps, none, more, StepsOnce}
use Rattle.cfg_model.specs.Sets.{Nullable}
use Rattle.cfg_model.specs.Searches.{Cyclic, HiddenLeft}
use Rattle.cfg_model.proofs.LeftPaths.{IsNone, nullable_cut, pass_nullable, Met, met}
use Rattle.cfg_model.specs.within.Closing.{AllPass, AreMakers}
use Rattle.cfg_model.specs.within.Parts.{LeftPart}
use Rattle.cfg_model.proofs.Forests.{steps_then, steps_within, step_within, steps_after, steps_both, steps_of_rule}
use Rattle.cfg_model.proofs.Makers.{makes_passing}
use Rattle.cfg_model.proofs.Locate.{not_empty, in_first, in_middle, in_last, locate}

-- a rule of the nonterminal has the other one among nonterminals of the set alone
pub record MiddlePart (g : Cfg) (null : BitSet) (n m : ℕ) : Type 0 where
  pub number : ℕ
  pub before : List Sym
  pub after : List Sym
  pub is_rule : IsRule g number n (before ++ (N m ∷ after))
  pub vanish : AllPass false (Has null) before
  pub vanish_after : AllPass false (Has null) after

empty_or_not : (u : List Sym) → (u ≡ []) ⊎ (u ≡ [] → ⊥)
empty_or_not [] = inl refl
empty_or_not (s ∷ u) = inr (λ e. cc)

module _ (g : Cfg) (null : BitSet) (nullable_is : AreMakers false g null) where
  module _ (L : ℕ → ℕ → Type 0) (edge : (n m : ℕ) → MiddlePart g null n m → L n m)
      (then : (a n m : ℕ) → L a n → MiddlePart g null n m → L a m) where
    abbrev Alone : ℕ → ℕ → List Sym → List Sym → Type 0 → Type 0
    Alone a b x y alone = L a b ⊎ ((a ≡ b) × (x ≡ []) × (y ≡ []) × alone)

    after_alone : (a n b : ℕ) (x y : List Sym) (alone : Type 0) → Alone a n x y alone → MiddlePart g null n b → L a b
    after_alone a n b x y alone (inl path) part = then a n b path part
    after_alone a n b x y alone (inr (same, _, _, _)) part = subst (λ (k : ℕ). L k b) (sym same) (edge n b part)

    last_alone : (a b : ℕ) (x y : List Sym) (alone : Type 0) → Alone a b x y alone → (x ≡ [] → y ≡ [] → ⊥) → L a b
    last_alone a b x y alone (inl path) some = path
    last_alone a b x y alone (inr (same, no_x, no_y, _)) some = absurd (some no_x no_y)

    pub cycle_met : (a b : ℕ) (v x y : List Sym) (steps : Steps g (N a ∷ []) v) → v ≡ x ++ (N b ∷ y) → Nullable g x → Nullable g y
        → L a b ⊎ ((a ≡ b) × (x ≡ []) × (y ≡ []) × IsNone steps)
    cycle_met a b _ [] y none same x_null y_null =
        let one : N a ≡ N b = cc in
        let number : a ≡ b = cc (one) in
        let rest : y ≡ [] = cc in
        inr (number, refl, rest, tt)
    cycle_met a b _ (s ∷ x) y none same x_null y_null =
        let rest : [] ≡ x ++ (N b ∷ y) = cc in
        absurd (not_empty x (N b) y rest)
    cycle_met a b _ x y (more _ _ steps (step r n w p q rule_is)) same x_null y_null = inl (elim (locate (N b) x y p w q (sym same)) [
      | in_first m is_p is_y ↦
          let (front, rest) = nullable_cut g m (w ++ q) (rw is_y at y_null) in
          let (inner, behind) = nullable_cut g w q rest in
          let vanish : Nullable g (N n ∷ []) = steps_then g (steps_of_rule g r n w rule_is) inner in
          let all : Nullable g (m ++ (N n ∷ q)) = steps_both g front (steps_both g vanish behind) in
          let whole : p ++ (N n ∷ q) ≡ x ++ (N b ∷ (m ++ (N n ∷ q))) = rw is_p (append_assoc x (N b ∷ m) (N n ∷ q)) in
          last_alone a b x (m ++ (N n ∷ q)) (IsNone steps) (cycle_met a b (p ++ (N n ∷ q)) x (m ++ (N n ∷ q)) steps whole x_null all)
          (λ _ none_left. not_empty m (N n) q (sym none_left))
      | in_middle m k is_x is_w is_y ↦
          let (before, inner) = nullable_cut g p m (rw is_x at x_null) in
          let (outer, behind) = nullable_cut g k q (rw is_y at y_null) in
          after_alone a n b p q (IsNone steps) (cycle_met a n (p ++ (N n ∷ q)) p q steps refl before behind)
          (record { number = r; before = m; after = k; is_rule = rw is_w at rule_is; vanish = pass_nullable g null nullable_is m inner; vanish_after = pass_nullable g null nullable_is k outer })
      | in_last m is_x is_q ↦
          let (before, rest) = nullable_cut g p (w ++ m) (rw is_x at x_null) in
          let (inner, behind) = nullable_cut g w m rest in
          let vanish : Nullable g (N n ∷ []) = steps_then g (steps_of_rule g r n w rule_is) inner in
          let all : Nullable g (p ++ (N n ∷ m)) = steps_both g before (steps_both g vanish behind) in
          let whole : p ++ (N n ∷ q) ≡ (p ++ (N n ∷ m)) ++ (N b ∷ y) = rw is_q (sym (append_assoc p (N n ∷ m) (N b ∷ y))) in
          last_alone a b (p ++ (N n ∷ m)) y (IsNone steps) (cycle_met a b (p ++ (N n ∷ q)) (p ++ (N n ∷ m)) y steps whole all y_null)
          (λ none_left _. not_empty p (N n) m (sym none_left))
    ])

    pub cyclic_met : (a : ℕ) → Cyclic g a → L a a
    cyclic_met a (v, steps, last) = elim (cycle_met a a (N a ∷ []) [] [] (more v (N a ∷ []) steps last) refl none none) [
      | inl path ↦ path
      | inr (_, _, _, none_is) ↦ absurd none_is
    ]

  -- left recursion behind what vanishes and isn't empty: L along first parts, H with such a part among them
  module _ (L H : ℕ → ℕ → Type 0) (edge : (n m : ℕ) → LeftPart g null n (N m) → L n m)
      (then : (a n m : ℕ) → L a n → LeftPart g null n (N m) → L a m)
      (hide : (n m : ℕ) (part : LeftPart g null n (N m)) → (part.before ≡ [] → ⊥) → H n m)
      (hide_after : (a n m : ℕ) → L a n → (part : LeftPart g null n (N m)) → (part.before ≡ [] → ⊥) → H a m)
      (hidden : (a n m : ℕ) → H a n → LeftPart g null n (N m) → H a m) where
    hide_met : (a n b : ℕ) (x y : List Sym) (alone : Type 0) → Met g null nullable_is L edge then a n x y alone → (part : LeftPart g null n (N b)) → (part.before ≡ [] → ⊥) → H a b
    unfolding Met
    hide_met a n b x y alone (inl path) part some = hide_after a n b path part some
    hide_met a n b x y alone (inr (same, _, _, _)) part some = subst (λ (k : ℕ). H k b) (sym same) (hide n b part some)

    pub hidden_met : (a b : ℕ) (v x y : List Sym) → Steps g (N a ∷ []) v → v ≡ x ++ (N b ∷ y) → Nullable g x → (x ≡ [] → ⊥) → H a b
    hidden_met a b _ [] y none same nullable some = absurd (some refl)
    hidden_met a b _ (s ∷ x) y none same nullable some =
        let rest : [] ≡ x ++ (N b ∷ y) = cc in
        absurd (not_empty x (N b) y rest)
    hidden_met a b _ x y (more _ _ steps (step r n w p q rule_is)) same nullable some = elim (locate (N b) x y p w q (sym same)) [
      | in_first m is_p is_y ↦
          let whole : p ++ (N n ∷ q) ≡ x ++ (N b ∷ (m ++ (N n ∷ q))) = rw is_p (append_assoc x (N b ∷ m) (N n ∷ q)) in
          hidden_met a b (p ++ (N n ∷ q)) x (m ++ (N n ∷ q)) steps whole nullable some
      | in_middle m k is_x is_w is_y ↦
          let (before, inner) = nullable_cut g p m (rw is_x at nullable) in
          let part : LeftPart g null n (N b) = record { number = r; before = m; after = k; is_rule = rw is_w at rule_is; vanish = pass_nullable g null nullable_is m inner } in
          elim (empty_or_not p) [
            | inl p_empty ↦ hide_met a n b p q (IsNone steps) (met g null nullable_is L edge then a n (p ++ (N n ∷ q)) p q steps refl before) part
                (λ m_empty. some (is_x ∙ ap (λ l. l ++ m) p_empty ∙ m_empty))
            | inr p_some ↦ hidden a n b (hidden_met a n (p ++ (N n ∷ q)) p q steps refl before p_some) part
          ]
      | in_last m is_x is_q ↦
          let (before, rest) = nullable_cut g p (w ++ m) (rw is_x at nullable) in
          let (inner, behind) = nullable_cut g w m rest in
          let vanish : Nullable g (N n ∷ []) = steps_then g (steps_of_rule g r n w rule_is) inner in
          let all : Nullable g (p ++ (N n ∷ m)) = steps_both g before (steps_both g vanish behind) in
          let whole : p ++ (N n ∷ q) ≡ (p ++ (N n ∷ m)) ++ (N b ∷ y) = rw is_q (sym (append_assoc p (N n ∷ m) (N b ∷ y))) in
          hidden_met a b (p ++ (N n ∷ q)) (p ++ (N n ∷ m)) y steps whole all (λ none_left. not_empty p (N n) m (sym none_left))
    ]

    pub hidden_left_met : (a : ℕ) → HiddenLeft g a → H a a
    hidden_left_met a (x, y, some, nullable, (v, steps, last)) = hidden_met a a (x ++ (N a ∷ y)) x y (more v (x ++ (N a ∷ y)) steps last) refl nullable some

-- from paths to derivations
module _ (g : Cfg) (null : BitSet) (nullable_is : AreMakers false g null) where
  -- one step, and more of them: at least one in all
  once_more : (u v w : List Sym) → StepsOnce g u v → Steps g v w → StepsOnce g u w
  once_more u v _ once none = once
  once_more u v _ once (more x y steps last) = (x, steps_then g (more once.0 v once.1 once.2) steps, last)

  -- a part among what vanishes is derived alone
  pub middle_steps : (n m : ℕ) → MiddlePart g null n m → StepsOnce g (N n ∷ []) (N m ∷ [])
  middle_steps n m part =
      let first : StepsOnce g (N n ∷ []) (part.before ++ (N m ∷ part.after)) =
      (N n ∷ [], none, rw (append-nil (part.before ++ (N m ∷ part.after))) at (step part.number n (part.before ++ (N m ∷ part.after)) [] [] part.is_rule)) in
      let front = makes_passing g false (Has null) nullable_is.only part.before part.vanish in
      let back = makes_passing g false (Has null) nullable_is.only part.after part.vanish_after in
      once_more _ _ _ first (steps_both g front (steps_after g (N m ∷ []) back))

  pub cycle_then : (a b c : ℕ) → StepsOnce g (N a ∷ []) (N b ∷ []) → StepsOnce g (N b ∷ []) (N c ∷ []) → StepsOnce g (N a ∷ []) (N c ∷ [])
  cycle_then a b c first (x, steps, last) = once_more (N a ∷ []) (N b ∷ []) (N c ∷ []) first (more x (N c ∷ []) steps last)

  -- left runs behind something that isn't empty
  abbrev pub HiddenRun : ℕ → ℕ → Type 0
  HiddenRun a b = (x : List Sym) × (y : List Sym) × (x ≡ [] → ⊥) × Nullable g x × StepsOnce g (N a ∷ []) (x ++ (N b ∷ y))

  abbrev pub LeftRun : ℕ → ℕ → Type 0
  LeftRun a b = (x : List Sym) × (y : List Sym) × Nullable g x × StepsOnce g (N a ∷ []) (x ++ (N b ∷ y))

  some_left : (u v : List Sym) → (u ≡ [] → ⊥) → u ++ v ≡ [] → ⊥
  some_left [] v some e = some refl
  some_left (s ∷ u) v some e = cc

  some_right : (u v : List Sym) → (v ≡ [] → ⊥) → u ++ v ≡ [] → ⊥
  some_right [] v some e = some e
  some_right (s ∷ u) v some e = cc

  pub hidden_then : (a b c : ℕ) → HiddenRun a b → LeftRun b c → HiddenRun a c
  hidden_then a b c (x, y, some, x_null, (v, before, last)) (p, q, p_null, (w, steps, end)) =
      let first : Steps g (N a ∷ []) (x ++ (N b ∷ y)) = more v (x ++ (N b ∷ y)) before last in
      let second : Steps g (x ++ (N b ∷ y)) (x ++ (w ++ y)) = steps_within g x y steps in
      let whole : x ++ ((p ++ (N c ∷ q)) ++ y) ≡ (x ++ p) ++ (N c ∷ (q ++ y)) = simp append_assoc in
      (x ++ p, q ++ y, some_left x p some, steps_both g x_null p_null, (x ++ (w ++ y), steps_then g first second, rw whole at (step_within g x y end)))

  pub then_hidden : (a b c : ℕ) → LeftRun a b → HiddenRun b c → HiddenRun a c
  then_hidden a b c (x, y, x_null, (v, before, last)) (p, q, some, p_null, (w, steps, end)) =
      let first : Steps g (N a ∷ []) (x ++ (N b ∷ y)) = more v (x ++ (N b ∷ y)) before last in
      let second : Steps g (x ++ (N b ∷ y)) (x ++ (w ++ y)) = steps_within g x y steps in
      let whole : x ++ ((p ++ (N c ∷ q)) ++ y) ≡ (x ++ p) ++ (N c ∷ (q ++ y)) = simp append_assoc in
      (x ++ p, q ++ y, some_right x p some, steps_both g x_null p_null, (x ++ (w ++ y), steps_then g first second, rw whole at (step_within g x y end)))

  pub part_hidden : (n m : ℕ) (part : LeftPart g null n (N m)) → (part.before ≡ [] → ⊥) → HiddenRun n m
  part_hidden n m part some = (
    part.before,
    part.after,
    some,
    makes_passing g false (Has null) nullable_is.only part.before part.vanish,
    (N n ∷ [], none, rw (append-nil (part.before ++ (N m ∷ part.after))) at (step part.number n (part.before ++ (N m ∷ part.after)) [] [] part.is_rule)),
  )
