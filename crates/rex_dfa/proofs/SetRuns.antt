-- An automaton whose states stand for sets of positions: after a word it is in the state of the set
-- that comes next.
use Rattle.std.proofs.Common.{ℕ, suc, ◌<◌, ◌≤◌, ◌↔◌, List, [], ◌∷◌, arith, refl}
use Rattle.rex_model.specs.Runs.{Automaton}
use Rattle.rex_model.specs.Sets.{there, on, ComesNext}
use Rattle.rex_dfa.specs.within.Subset.{Next, Stands, for_none, for_state}
use Rattle.rex_model.specs.Runs.{nowhere, moved, run, AreBytes}

pub stands_alike : {P Q : ℕ → Type 0} (set : ℕ → ℕ → Type 0) (count s : ℕ) → ((q : ℕ) → P q ↔ Q q) → Stands set count P s → Stands set count Q s
stands_alike set count s same (for_none _ is none) = for_none s is (λ q h. none q ((same q).1 h))
stands_alike set count s same (for_state _ within has) =
    for_state s within (λ q. (λ h. (same q).0 ((has q).0 h), λ h. (has q).1 ((same q).1 h)))

module _ (takes follow : ℕ → ℕ → Type 0) where
  -- from a first set on, over one byte more at the front
  pub comes_on : (P : ℕ → Type 0) (b : ℕ) (w : List ℕ) (q : ℕ)
      → ComesNext takes follow (Next takes follow P b) w q ↔ ComesNext takes follow P (b ∷ w) q
  comes_on P b w q = (there_of, back)
    where
      there_of : ComesNext takes follow (Next takes follow P b) w q → ComesNext takes follow P (b ∷ w) q
      there_of (next, (p, has, taken, follows), goes) = (p, has, on p next q b w taken follows goes)

      back : ComesNext takes follow P (b ∷ w) q → ComesNext takes follow (Next takes follow P b) w q
      back (p, has, on _ next _ _ _ taken follows goes) = (next, (p, has, taken, follows), goes)

  pub comes_at_once : (P : ℕ → Type 0) (q : ℕ) → P q ↔ ComesNext takes follow P [] q
  comes_at_once P q = (λ h. (q, h, there q), back)
    where
      back : ComesNext takes follow P [] q → P q
      back (p, has, there _) = has

  pub comes_alike : (P Q : ℕ → Type 0) (w : List ℕ) → ((q : ℕ) → P q ↔ Q q) → (q : ℕ)
      → ComesNext takes follow P w q ↔ ComesNext takes follow Q w q
  comes_alike P Q w same q =
      (λ h. (h.0, (same h.0).0 h.1, h.2), λ h. (h.0, (same h.0).1 h.1, h.2))

  module _ (set : ℕ → ℕ → Type 0) (count : ℕ) (dfa : Automaton) (few : count ≤ nowhere)
      (moves : (s byte : ℕ) → s < count → byte < 256 → Stands set count (Next takes follow (set s) byte) (moved dfa s byte)) where
    pub run_stands : (w : List ℕ) (P : ℕ → Type 0) (s : ℕ) → AreBytes w → Stands set count P s
        → Stands set count (ComesNext takes follow P w) (run dfa s w)
    run_stands [] P s bytes stands = stands_alike set count s (comes_at_once P) stands
    run_stands (b ∷ w) P s bytes (for_none _ is none) =
        let further = run_stands w (Next takes follow P b) nowhere (λ k d within. bytes (suc k) d (omega arith))
        (for_none nowhere refl (λ q h. none h.0 h.1)) in
        rw is (stands_alike set count (run dfa nowhere w) (comes_on P b w) further)
    run_stands (b ∷ w) P s bytes (for_state _ within has) =
        let further = run_stands w (Next takes follow (set s) b) (moved dfa s b) (λ k d within. bytes (suc k) d (omega arith))
        (moves s b within (bytes 0 0 (omega arith))) in
        let same : (q : ℕ) → ComesNext takes follow (Next takes follow (set s) b) w q ↔ ComesNext takes follow P (b ∷ w) q
        = λ q. let x = comes_on (set s) b w q in let y = comes_alike (set s) P (b ∷ w) has q in (λ h. y.0 (x.0 h), λ h. x.1 (y.1 h)) in
        stands_alike set count (run dfa (moved dfa s b) w) same further
