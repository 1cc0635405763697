-- What FOLLOW is made of, by the first terminals of what stands behind in a right side.
use Rattle.std.specs.Prelude.{ℕ, List, ◌∷◌, ◌++◌}
use Rattle.cfg_model.specs.declared.symbol.Sym.{Sym}
use Rattle.cfg_model.specs.declared.symbol.Sym.TheVariants.{N}
use Rattle.cfg_model.specs.Cfg.{Cfg, IsRule}
use Rattle.cfg_model.specs.Sets.{Nullable, First, Reachable}

-- the terminal begins what stands behind the nonterminal in a rule of a reachable one; or it is END,
-- behind the start symbol
pub data FollowBase (g : Cfg) : ℕ → ℕ → Type 0 where
  the_end : FollowBase g g.start g.terminals
  behind : (r n m t : ℕ) (x y : List Sym) → Reachable g n → IsRule g r n (x ++ (N m ∷ y)) → First g y t → FollowBase g m t

-- the nonterminal b stands in a rule of the reachable a with nothing behind it, or what vanishes
pub record FollowEdge (g : Cfg) (a b : ℕ) : Type 0 where
  pub number : ℕ
  pub before : List Sym
  pub after : List Sym
  pub reachable : Reachable g a
  pub is_rule : IsRule g number a (before ++ (N b ∷ after))
  pub vanish : Nullable g after
