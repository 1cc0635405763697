-- What `cores` and `lookaheads` give.
use Rattle.std.specs.Prelude.{◌≡◌, ℕ, ◌+◌, ◌<◌, ◌↔◌, List, [], length, slice_get, slice_index_or, Some, map, Vec, ⊤}
use Rattle.std.specs.Global.{Global}
use Rattle.ck_base.specs.BitSet.{BitSet, Has}
use Rattle.cfg_model.specs.declared.symbol.Sym.{Sym}
use Rattle.cfg_model.specs.declared.refused.LalrError.{LalrError}
use Rattle.cfg_model.specs.declared.refused.LalrError.TheVariants as fault
use Rattle.cfg_model.specs.Cfg.{Cfg}
use Rattle.cfg_model.specs.Valid.{InCore, Look}
use Rattle.cfg_model.specs.Cores.{CoreList, items_at, IsCore, HasMoreCores}

-- why there are no cores: want of memory, or too many
abbrev pub NoCores : Cfg → LalrError → Type 0
NoCores g fault.NoMemory = ⊤
NoCores g fault.TooManyStates = HasMoreCores g 4096
NoCores g (fault.Unproductive n) = ⊥
NoCores g (fault.Cyclic n) = ⊥
NoCores g (fault.HiddenLeft n) = ⊥
NoCores g (fault.LalrConflict t r o) = ⊥

-- the sets of vectors
abbrev pub sets_of : List (Vec BitSet Global) → List (List BitSet)
sets_of vectors = map (λ row. row.items) vectors

-- the sets of the items of a core
abbrev pub sets_at : List (List BitSet) → ℕ → List BitSet
sets_at looks n = slice_index_or looks n []

-- per core and item, in the places of the items, the united lookaheads, neither fewer nor more, as sets with
-- room for the terminals and END
pub record AreLookaheads (g : Cfg) (cores : CoreList) (looks : List (List BitSet)) : Type 0 where
  pub cores_kept : length looks ≡ length cores.items
  pub items_kept : (n : ℕ) → n < length cores.items → length (sets_at looks n) ≡ length (items_at cores n)
  pub widths : (n i : ℕ) (set : BitSet) → slice_get (sets_at looks n) i ≡ Some set → set.size ≡ g.terminals + 1
  pub exact : (n i r d a : ℕ) (set : BitSet) (p y : List Sym) → IsCore g cores n p
      → slice_get (items_at cores n) i ≡ Some (r, d) → slice_get (sets_at looks n) i ≡ Some set → InCore g p r d y
      → Has set a ↔ Look g p r d y a
