-- The reachable nonterminals are the least set with the start symbol that is closed under the rules.
use Rattle.std.proofs.Common.{◌≡◌, ℕ, List, [], ◌∷◌, ◌++◌, refl, sym, subst, append_assoc}
use Rattle.cfg_model.specs.declared.symbol.Sym.{Sym}
use Rattle.cfg_model.specs.declared.symbol.Sym.TheVariants.{N}
use Rattle.cfg_model.specs.Cfg.{Cfg, IsRule}
use Rattle.cfg_model.specs.Steps.{step, Steps, none, more}
use Rattle.cfg_model.specs.Sets.{Reachable}
use Rattle.cfg_model.proofs.Locate.{not_empty, in_first, in_middle, in_last, locate}

module _ (g : Cfg) where
  pub start_reachable : Reachable g g.start
  start_reachable = ([], [], none)

  pub part_reachable : (r n m : ℕ) (x y : List Sym) → IsRule g r n (x ++ (N m ∷ y)) → Reachable g n → Reachable g m
  part_reachable r n m x y is (p, q, steps) =
      let next = more (p ++ (N n ∷ q)) (p ++ ((x ++ (N m ∷ y)) ++ q)) steps (step r n (x ++ (N m ∷ y)) p q is) in
      let whole : p ++ ((x ++ (N m ∷ y)) ++ q) ≡ (p ++ x) ++ (N m ∷ (y ++ q)) = simp append_assoc in
      (p ++ x, y ++ q, rw whole at next)

  module _ (P : ℕ → Type 0) (start : P g.start) (closed : (r n m : ℕ) (x y : List Sym) → IsRule g r n (x ++ (N m ∷ y)) → P n → P m) where
    in_list : (v x y : List Sym) (b : ℕ) → Steps g (N g.start ∷ []) v → v ≡ x ++ (N b ∷ y) → P b
    in_list _ [] y b none same =
        let one : N g.start ≡ N b = cc in
        let number : g.start ≡ b = cc (one) in
        subst P number start
    in_list _ (s ∷ x) y b none same =
        let rest : [] ≡ x ++ (N b ∷ y) = cc in
        absurd (not_empty x (N b) y rest)
    in_list _ x y b (more _ _ steps (step r n w p q is)) same = elim (locate (N b) x y p w q (sym same)) [
      | in_first m is_p is_y ↦ in_list (p ++ (N n ∷ q)) x (m ++ (N n ∷ q)) b steps (rw is_p (append_assoc x (N b ∷ m) (N n ∷ q)))
      | in_middle m k is_x is_w is_y ↦ closed r n b m k (rw is_w at is) (in_list (p ++ (N n ∷ q)) p q n steps refl)
      | in_last m is_x is_q ↦ in_list (p ++ (N n ∷ q)) (p ++ (N n ∷ m)) y b steps (rw is_q (sym (append_assoc p (N n ∷ m) (N b ∷ y))))
    ]

    pub reachable_in_all : (n : ℕ) → Reachable g n → P n
    reachable_in_all n (x, y, steps) = in_list (x ++ (N n ∷ y)) x y n steps refl
