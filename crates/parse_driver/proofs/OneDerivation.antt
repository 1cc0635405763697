-- A grammar without conflicts gives a sentence one derivation.
use Rattle.std.proofs.Common.{◌≡◌, ℕ, inl, inr, List, [], ◌∷◌, ◌++◌, map, refl, sym, ap, subst, ◌∙◌, append_assoc, arith}
use Rattle.std.proofs.lemmas.List.{append-nil, append_cancel_left}
use Rattle.std.proofs.lemmas.Bool.{cases_lt, cases_eq}
use Rattle.cfg_model.specs.declared.symbol.Sym.{Sym}
use Rattle.cfg_model.specs.declared.symbol.Sym.TheVariants.{T, N}
use Rattle.cfg_model.specs.Cfg.{Cfg, IsRule}
use Rattle.cfg_model.specs.Steps.{Steps, step, none, more, word}
use Rattle.cfg_model.specs.Sets.{Reachable}
use Rattle.cfg_model.specs.LlConflicts.{Predicts, LlConflict}
use Rattle.cfg_model.specs.Derivation.{Forest, yield, Derive, nothing, token, rule, Derivation}
use Rattle.cfg_model.proofs.Forests.{steps_of_trees, terminals_append, steps_then, steps_before, steps_after, steps_both}
use Rattle.parse_driver.specs.Stream.{terminal_of}
use Rattle.parse_driver.specs.declared.tokens.TokenRef.{TokenRef}
use Rattle.parse_driver.specs.within.LlStack.{Ahead, read_as}
use Rattle.parse_driver.proofs.Turn.{begins_ahead, one_rule}

-- the terminal that the tokens begin with; END where there are none
abbrev next_terminal : ℕ → List TokenRef → ℕ
next_terminal end [] = end
next_terminal end (k ∷ ks) = k.terminal

ahead_is : (end : ℕ) (ks : List TokenRef) → Ahead end (next_terminal end ks) ks
ahead_is end [] = refl
ahead_is end (k ∷ ks) = refl

module _ (g : Cfg) (no_conflict : (n r q t : ℕ) → LlConflict g n r q t → ⊥) where
  -- no two rules of a reachable nonterminal are for one terminal
  pub same_rule : (n r q t : ℕ) → Reachable g n → Predicts g n t r → Predicts g n t q → r ≡ q
  same_rule n r q t reachable a b = elim (cases_lt r q) [
    | inl less ↦ absurd (no_conflict n r q t (record { reachable = reachable; first = a; second = b; in_order = less }))
    | inr not_less ↦ elim (cases_eq r q) [
      | inl same ↦ same
      | inr other ↦ absurd (no_conflict n q r t (record { reachable = reachable; first = b; second = a; in_order = omega arith }))
    ]
  ]

  -- a rule whose right side derives the first of the tokens, where what stands behind derives the others
  predicted : (n r : ℕ) (w x y : List Sym) (children : Forest TokenRef) (a : List TokenRef) → IsRule g r n w
      → Steps g (N g.start ∷ []) (x ++ (N n ∷ y)) → Derive terminal_of g w children → Steps g y (read_as a)
      → (found : List TokenRef) → yield children ≡ found → (t : ℕ) → Ahead g.terminals t (found ++ a) → Predicts g n t r
  predicted n r w x y children a is reached d rest [] none_found t ahead =
      let (z, shape) = begins_ahead g t a ahead in
      let vanishes : Steps g w [] = rw none_found at (steps_of_trees terminal_of g w children d) in
      let after = steps_before g (T g.terminals ∷ []) (steps_then g reached (steps_after g x (steps_after g (N n ∷ []) rest))) in
      let whole : (x ++ (N n ∷ read_as a)) ++ (T g.terminals ∷ []) ≡ x ++ (N n ∷ T t ∷ z) =
      append_assoc x (N n ∷ read_as a) (T g.terminals ∷ []) ∙ ap (λ l. x ++ (N n ∷ l)) shape in
      record { right = w; is_rule = is; for_terminal = inr (vanishes, (x, z, rw whole at after)) }
  predicted n r w x y children a is reached d rest (k ∷ found) is_found t ahead =
      let some : Steps g w (word (k.terminal ∷ map terminal_of found)) = rw is_found at (steps_of_trees terminal_of g w children d) in
      record { right = w; is_rule = is; for_terminal = inl (rw (← ahead) (map terminal_of found, some)) }

  -- two derivations of one list, before which and behind which anything stands
  pub one_forest : (u x y : List Sym) (f h : Forest TokenRef) (a b : List TokenRef) → Derive terminal_of g u f → Derive terminal_of g u h
      → Steps g (N g.start ∷ []) (x ++ (u ++ y)) → Steps g y (read_as a) → Steps g y (read_as b)
      → yield f ++ a ≡ yield h ++ b → f ≡ h
  one_forest _ x y _ _ a b nothing nothing reached ya yb same = refl
  one_forest _ x y _ _ a b (token t k u f is d) (token _ k2 _ h is2 d2) reached ya yb same =
      let first : k ≡ k2 = cc in
      let others : yield f ++ a ≡ yield h ++ b = cc in
      let rest = one_forest u (x ++ (T t ∷ [])) y f h a b d d2 (rw (append_assoc x (T t ∷ []) (u ++ y)) reached) ya yb others in
      rw (first, rest) refl
  one_forest _ x y _ _ a b (rule r n w u c f is dc d) (rule r2 _ w2 _ c2 h is2 dc2 d2) reached ya yb same =
      let behind : Steps g (u ++ y) (read_as (yield f ++ a)) = rw (terminals_append terminal_of g (yield f) a) (steps_both g (steps_of_trees terminal_of g u f d) ya) in
      let behind2 : Steps g (u ++ y) (read_as (yield h ++ b)) = rw (terminals_append terminal_of g (yield h) b) (steps_both g (steps_of_trees terminal_of g u h d2) yb) in
      let all : yield c ++ (yield f ++ a) ≡ yield c2 ++ (yield h ++ b) = sym (append_assoc (yield c) (yield f) a) ∙ same ∙ append_assoc (yield c2) (yield h) b in
      let t = next_terminal g.terminals (yield c ++ (yield f ++ a)) in
      let here = ahead_is g.terminals (yield c ++ (yield f ++ a)) in
      let p = predicted n r w x (u ++ y) c (yield f ++ a) is reached dc behind (yield c) refl t here in
      let p2 = predicted n r2 w2 x (u ++ y) c2 (yield h ++ b) is2 reached dc2 behind2 (yield c2) refl t (subst (λ (ks : List TokenRef). Ahead g.terminals (next_terminal g.terminals (yield c ++ (yield f ++ a))) ks) all here) in
      let number : r ≡ r2 = same_rule n r r2 t (x, u ++ y, reached) p p2 in
      let right : w ≡ w2 = (one_rule g r2 n n w w2 (rw number at is) is2).1 in
      let inside : Steps g (N g.start ∷ []) (x ++ (w ++ (u ++ y))) = more (x ++ (N n ∷ (u ++ y))) (x ++ (w ++ (u ++ y))) reached (step r n w x (u ++ y) is) in
      let children : c ≡ c2 = one_forest w x (u ++ y) c c2 (yield f ++ a) (yield h ++ b) dc (rw (← right) at dc2) inside behind behind2 all in
      let others : yield f ++ a ≡ yield h ++ b = append_cancel_left (yield c2) (yield f ++ a) (yield h ++ b) (rw children at all) in
      let rest : f ≡ h = one_forest u (x ++ (N n ∷ [])) y f h a b d d2 (rw (append_assoc x (N n ∷ []) (u ++ y)) reached) ya yb others in
      rw (number, children, rest) refl

  pub one_derivation : (tokens : List TokenRef) (f h : Forest TokenRef) → Derivation terminal_of g tokens f → Derivation terminal_of g tokens h → f ≡ h
  one_derivation tokens f h a b =
      one_forest (N g.start ∷ []) [] [] f h [] [] a.from_start b.from_start none none none
      (append-nil (yield f) ∙ sym a.yields ∙ b.yields ∙ sym (append-nil (yield h)))
