-- Sets that are sound and closed have exactly the nonterminals that make a word.
use Rattle.std.proofs.Common.{◌≡◌, ℕ, Bool, true, false, List, [], ◌∷◌, ◌++◌, refl, sym}
use Rattle.ck_base.specs.BitSet.{BitSet, Has}
use Rattle.cfg_model.specs.declared.symbol.Sym.{Sym}
use Rattle.cfg_model.specs.declared.symbol.Sym.TheVariants.{T, N}
use Rattle.cfg_model.specs.Cfg.{Cfg, IsRule}
use Rattle.cfg_model.specs.Steps.{none}
use Rattle.cfg_model.specs.Derivation.{Forest, yield, Derive, nothing, token, rule}
use Rattle.cfg_model.specs.within.Closing.{AllPass, Makes, IsClosed}
use Rattle.cfg_model.proofs.Forests.{gives_of_steps, steps_then, steps_both, steps_of_rule, word_append}

-- an empty list in two parts has two empty parts
pub both_empty : {A : Type 0} (a b : List A) → a ++ b ≡ [] → (a ≡ []) × (b ≡ [])
both_empty [] b e = (refl, e)
both_empty (x ∷ a) b e = cc

module _ (g : Cfg) where
  -- what passes makes a word
  pub makes_none : (words : Bool) → Makes words g []
  makes_none true = ([], none)
  makes_none false = none

  pub makes_both : (words : Bool) (u v : List Sym) → Makes words g u → Makes words g v → Makes words g (u ++ v)
  makes_both true u v (a, x) (b, y) = (a ++ b, rw (word_append g a b) (steps_both g x y))
  makes_both false u v x y = steps_both g x y

  pub makes_passing : (words : Bool) (P : ℕ → Type 0) → ((n : ℕ) → P n → Makes words g (N n ∷ []))
      → (u : List Sym) → AllPass words P u → Makes words g u
  makes_passing words P sound [] pass = makes_none words
  makes_passing true P sound (T t ∷ u) (ok, pass) = makes_both true (T t ∷ []) u (t ∷ [], none) (makes_passing true P sound u pass)
  makes_passing false P sound (T t ∷ u) (ok, pass) = cc
  makes_passing words P sound (N n ∷ u) (p, pass) = makes_both words (N n ∷ []) u (sound n p) (makes_passing words P sound u pass)

  pub makes_by_rule : (words : Bool) (r n : ℕ) (w : List Sym) → IsRule g r n w → Makes words g w → Makes words g (N n ∷ [])
  makes_by_rule true r n w is (a, x) = (a, steps_then g (steps_of_rule g r n w is) x)
  makes_by_rule false r n w is x = steps_then g (steps_of_rule g r n w is) x

  -- the yield is as wanted: any word, or the empty word
  abbrev pub Wanted : Bool → List ℕ → Type 0
  Wanted true w = Unit {0}
  Wanted false w = w ≡ []

  wanted_left : (words : Bool) (a b : List ℕ) → Wanted words (a ++ b) → Wanted words a
  wanted_left true a b want = tt
  wanted_left false a b want = (both_empty a b want).0

  wanted_right : (words : Bool) (a b : List ℕ) → Wanted words (a ++ b) → Wanted words b
  wanted_right true a b want = tt
  wanted_right false a b want = (both_empty a b want).1

  -- where the set is closed, the roots of a derivation of such a word pass
  pub pass_of_derive : (words : Bool) (set : BitSet) → IsClosed words g set → (u : List Sym) (f : Forest ℕ)
      → Derive (λ t. t) g u f → Wanted words (yield f) → AllPass words (Has set) u
  pass_of_derive words set closed _ _ nothing want = tt
  pass_of_derive true set closed _ _ (token t k u f is d) want = (refl, pass_of_derive true set closed u f d tt)
  pass_of_derive false set closed _ _ (token t k u f is d) want = cc
  pass_of_derive words set closed _ _ (rule r n w u children f is c d) want = (
    closed.each r n w is (pass_of_derive words set closed w children c (wanted_left words (yield children) (yield f) want)),
    pass_of_derive words set closed u f d (wanted_right words (yield children) (yield f) want),
  )

  pub has_maker : (words : Bool) (set : BitSet) → IsClosed words g set → (n : ℕ) → Makes words g (N n ∷ []) → Has set n
  has_maker true set closed n (w, steps) =
      let gives = gives_of_steps g (N n ∷ []) w steps in
      (pass_of_derive true set closed (N n ∷ []) gives.forest gives.derive tt).0
  has_maker false set closed n steps =
      let gives = gives_of_steps g (N n ∷ []) [] steps in
      (pass_of_derive false set closed (N n ∷ []) gives.forest gives.derive (sym gives.yields)).0
