-- What is promised, tried where the nearest wrong reading differs.
use Rattle.std.proofs.Common.{◌≡◌, ℕ, suc, Bool, false, [], ◌∷◌, Some, None, refl, arith}
use Rattle.std.specs.Prelude.{slice_get}
use Rattle.ag_model.specs.Attribution.{AttributeGrammar}
use Rattle.ag_model.specs.Induced.{Ids}
use Rattle.ag_model.specs.Parts.{is_odd, InPart}
use Rattle.ag_model.specs.Plans.{PurePlan}
use Rattle.ag_planner.specs.Promise.{HasItsParts, SaysNotOrdered}
use Rattle.ag_depend.specs.declared.fault.OrderFault.TheVariants.{NoMemory}

-- one family, without attributes, and no types
abbrev nothing : AttributeGrammar
nothing = record {
  table = record { families = record { name = []; target = false } ∷ []; types = [] };
  attributes = [] ∷ [];
  equations = [];
}

-- by three empty sets it had two visits
abbrev two_visits : PurePlan
two_visits = record { sets = ([] ∷ [] ∷ [] ∷ []) ∷ []; steps = [] }

none_is_in : (k a : ℕ) → InPart [] (Ids nothing 0) (suc k) a → ⊥
none_is_in k a (s, has, may) = no_kind (is_odd (suc k)) (may.kind a has)
  where
    no_kind : (b : Bool) → slice_get {X = Bool} [] a ≡ Some b → ⊥
    no_kind b is = let e : None ≡ Some b = is in cc

pub no_empty_end : HasItsParts nothing two_visits → ⊥
no_empty_end parts = let (a, part) = parts.last 0 2 (omega arith) refl in none_is_in 2 a part

-- want of memory comes with ordered attributions too
pub want_of_memory_says_nothing : (g : AttributeGrammar) → SaysNotOrdered g NoMemory
want_of_memory_says_nothing g = tt
