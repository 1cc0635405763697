-- What a rule derives at once, and what vanishes.
use Rattle.std.proofs.Common.{◌≡◌, ℕ, List, [], ◌∷◌, ◌++◌, length, subst, append-nil, arith, length-append}
use Rattle.cfg_model.specs.declared.symbol.Sym.{Sym}
use Rattle.cfg_model.specs.declared.symbol.Sym.TheVariants.{N}
use Rattle.cfg_model.specs.Cfg.{Cfg, IsRule}
use Rattle.cfg_model.specs.Derivation.{Forest, yield, Derive, nothing, token, rule}
use Rattle.cfg_model.specs.Steps.{Step, step, Steps, none, more}
use Rattle.cfg_model.proofs.Forests.{steps_then, steps_before, steps_after}

-- what a rule's left side derives at once
pub by_rule : (g : Cfg) (r n : ℕ) (w : List Sym) → IsRule g r n w → Step g (N n ∷ []) w
by_rule g r n w is = subst (λ l. Step g (N n ∷ []) l) (append-nil w) (step r n w [] [] is)

-- a list whose derivation has no token vanishes
pub vanishes : {K : Type 0} (terminal : K → ℕ) (g : Cfg) (ss : List Sym) (f : Forest K) → Derive terminal g ss f
    → length (yield f) ≡ 0 → Steps g ss []
vanishes terminal g ss f nothing e = none
vanishes terminal g ss f (token t k u f2 is d) e = absurd (omega (arith, e))
vanishes terminal g ss f (rule r n w u c f2 is d d2) e =
    let size = length-append (yield c) (yield f2) in
    let first = vanishes terminal g w c d (omega (arith, e, size)) in
    let second = vanishes terminal g u f2 d2 (omega (arith, e, size)) in
    let one : Steps g (N n ∷ u) (w ++ u) = more _ _ none (step r n w [] u is) in
    let two : Steps g (w ++ u) ([] ++ u) = steps_before g u first in
    steps_then g one (steps_then g two second)

-- in front of and behind a list all vanishes
pub alone : (g : Cfg) (x y z : List Sym) → Steps g x [] → Steps g y [] → Steps g (x ++ (z ++ y)) z
alone g x y z s t =
    let first : Steps g (x ++ (z ++ y)) ([] ++ (z ++ y)) = steps_before g (z ++ y) s in
    let second : Steps g (z ++ y) (z ++ []) = steps_after g z t in
    subst (λ l. Steps g (x ++ (z ++ y)) l) (append-nil z) (steps_then g first second)
