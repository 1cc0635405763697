-- What is promised, tried where the nearest wrong reading differs.
use Rattle.std.proofs.Common.{◌≡◌, ℕ, List, refl, codes}
use Rattle.ck_base.specs.Pairs.{Pairs, Relates}
use Rattle.ag_model.specs.Attribution.{AttributeGrammar}
use Rattle.ag_model.specs.Induced.{Ids}
use Rattle.ag_depend.specs.Promise.{AreIds, SaysIdsCycle, Names}
use Rattle.ag_depend.specs.Shapes.{pairs_of}
use Rattle.ag_depend.specs.declared.fault.OrderFault.TheVariants.{NotOrdered, NoMemory}

-- a pair that isn't induced isn't there, though the induced ones are
pub no_pair_too_many : (g : AttributeGrammar) (ids : List Pairs) (x a b : ℕ) → AreIds g ids → (Ids g x a b → ⊥) → Relates (pairs_of ids x) a b → ⊥
no_pair_too_many g ids x a b are not r = not ((are.exact x a b).0 r)

-- want of memory comes with no cycle
pub want_of_memory_says_nothing : (g : AttributeGrammar) → SaysIdsCycle g NoMemory
want_of_memory_says_nothing g = tt

-- the holder is a type, and the target an attribute of its child x
pub holder_first : Names (codes "T") (codes "x.t") (NotOrdered (codes "T") (codes "x.t"))
holder_first = (refl, refl)

pub not_target_first : Names (codes "T") (codes "x.t") (NotOrdered (codes "x.t") (codes "T")) → ⊥
not_target_first (holder, target) = let e : codes "x.t" ≡ codes "T" = holder in cc
