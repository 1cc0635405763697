-- What comes first, what is taken and what follows may be said in other words of an automaton of a split.
use Rattle.std.proofs.Common.{◌≡◌, ℕ, ◌<◌, ◌↔◌, List, [], ◌∷◌, length, Option, Some, None, Result, Ok, Err, IfOk, MatchOption, arith, refl, sym, subst}
use Rattle.std.proofs.lemmas.Option.{same_Some}
use Rattle.ck_base.specs.BitSet.{BitSet, Has}
use Rattle.ck_base.proofs.Counting.{more_of_others}
use Rattle.rex_model.specs.Sets.{ComesNext}
use Rattle.rex_dfa.specs.within.Parts.{IsPart, IsFilled, IsSameAfter, HasMoreOf}
use Rattle.rex_dfa.specs.within.Positions.{TakesAt, FollowsAt}
use Rattle.rex_model.specs.Runs.{AreBytes}
use Rattle.rex_dfa.specs.within.Subset.{FirstAt, Way, SetAfter, IsWay, IsSameSet, HasMoreSets}
use Rattle.rex_dfa.specs.declared.parts.Part.{Part}
use Rattle.rex_dfa.specs.declared.positions.Positions.{Positions}
use Rattle.rex_model.specs.Runs.{Automaton}
use Rattle.rex_model.specs.TableMeaning.{automaton_of}
use Rattle.rex_dfa.proofs.CountsOfRules.{goes_alike}

-- what comes first, what is taken and what follows may be said in other words
module _ (takes follow : ℕ → ℕ → Type 0) (first : ℕ → Type 0) (takes' follow' : ℕ → ℕ → Type 0) (first' : ℕ → Type 0)
    (t : (p b : ℕ) → b < 256 → takes p b ↔ takes' p b) (f : (p q : ℕ) → follow p q ↔ follow' p q) (begin : (p : ℕ) → first p ↔ first' p) where
  comes_same : (w : List ℕ) → AreBytes w → (q : ℕ) → ComesNext takes follow first w q ↔ ComesNext takes' follow' first' w q
  comes_same w small q = (
    λ h. (h.0, (begin h.0).0 h.1, goes_alike takes follow takes' follow' (λ p b below. (t p b below).0) (λ p r. (f p r).0) h.0 q w small h.2),
    λ h. (h.0, (begin h.0).1 h.1, goes_alike takes' follow' takes follow (λ p b below. (t p b below).1) (λ p r. (f p r).1) h.0 q w small h.2),
  )

  filled_same : (w : List ℕ) → IsFilled takes follow first w → IsFilled takes' follow' first' w
  filled_same w h = record { bytes = h.bytes; some = λ none. h.some (λ q g. none q ((comes_same w h.bytes q).0 g)) }

  filled_back : (w : List ℕ) → IsFilled takes' follow' first' w → IsFilled takes follow first w
  filled_back w h = record { bytes = h.bytes; some = λ none. h.some (λ q g. none q ((comes_same w h.bytes q).1 g)) }

  back_same : (a b : List ℕ) → AreBytes a → AreBytes b → IsSameAfter takes' follow' first' a b → IsSameAfter takes follow first a b
  back_same a b small_a small_b same q = (λ h. (comes_same b small_b q).1 ((same q).0 ((comes_same a small_a q).0 h)), λ h. (comes_same a small_a q).1 ((same q).1 ((comes_same b small_b q).0 h)))

  pub part_alike : (mark : ℕ) (dfa : Automaton) (count : ℕ) → IsPart takes follow first mark dfa count → IsPart takes' follow' first' mark dfa count
  part_alike mark dfa count is = record {
    is_dfa = is.is_dfa;
    begins = is.begins;
    accepts = λ w small. let x = is.accepts w small in let y = comes_same w small mark in (λ h. y.0 (x.0 h), λ h. x.1 (y.1 h));
    words = is.words;
    represent = record {
      each = λ i w at. filled_same w (is.represent.each i w at);
      apart = λ i j a b at_i at_j same. is.represent.apart i j a b at_i at_j (back_same a b (is.represent.each i a at_i).bytes (is.represent.each j b at_j).bytes same);
      all = λ w h.
          let (i, b, at, same) = is.represent.all w (filled_back w h) in
          (i, b, at, λ q. (λ g. (comes_same b (is.represent.each i b at).bytes q).0 ((same q).0 ((comes_same w h.bytes q).1 g)), λ g. (comes_same w h.bytes q).0 ((same q).1 ((comes_same b (is.represent.each i b at).bytes q).1 g))));
    };
    as_many = is.as_many;
    few = is.few;
  }

  pub more_alike : (n : ℕ) → HasMoreOf takes follow first n → HasMoreOf takes' follow' first' n
  more_alike n more = more_of_others (λ w. w) (IsFilled takes follow first) (IsSameAfter takes follow first) _ _ n filled_same
      (λ a b is_a is_b same. back_same a b is_a.bytes is_b.bytes same) more

-- the first set of the one start
pub first_of_one : (first : BitSet) (p : ℕ) → FirstAt (first ∷ []) 0 p ↔ Has first p
first_of_one first p = (λ h. subst (λ set. Has set p) (sym (same_Some first h.0 h.1)) h.2, λ h. (first, refl, h))

pub more_of_one : (positions : Positions) (firsts : List BitSet) (n : ℕ) → length firsts ≡ 1 → HasMoreSets positions firsts n → HasMoreOf (TakesAt positions) (FollowsAt positions) (FirstAt firsts 0) n
more_of_one positions firsts n one more = more_of_others (λ (way : Way). way.word) (IsWay positions firsts) (IsSameSet positions firsts) _ _ n
    (λ way h. record { bytes = h.bytes; some = λ none. h.filled (λ q g. none q ((at_zero way h q).0 g)) })
    (λ a b is_a is_b same q. (λ h. (at_zero b is_b q).1 ((same q).0 ((at_zero a is_a q).0 h)), λ h. (at_zero a is_a q).1 ((same q).1 ((at_zero b is_b q).0 h))))
    more
  where
    at_zero : (way : Way) → IsWay positions firsts way → (q : ℕ) → SetAfter positions firsts way q ↔ ComesNext (TakesAt positions) (FollowsAt positions) (FirstAt firsts 0) way.word q
    at_zero way way_is q =
        let zero_start : way.start ≡ 0 = let inside = way_is.inside in omega arith in
        rw zero_start (λ h. h, λ h. h)

pub half_alike : {E : Type 0} (takes follow : ℕ → ℕ → Type 0) (first : ℕ → Type 0) (takes' follow' : ℕ → ℕ → Type 0) (first' : ℕ → Type 0) (mark : ℕ) (result : Result (Option Part) E)
    → ((p b : ℕ) → b < 256 → takes p b ↔ takes' p b) → ((p q : ℕ) → follow p q ↔ follow' p q) → ((p : ℕ) → first p ↔ first' p)
    → IfOk result (λ part. MatchOption part (HasMoreOf takes follow first 4096) (λ part. IsPart takes follow first mark (automaton_of part.dfa) part.count))
    → IfOk result (λ part. MatchOption part (HasMoreOf takes' follow' first' 4096) (λ part. IsPart takes' follow' first' mark (automaton_of part.dfa) part.count))
half_alike takes follow first takes' follow' first' mark (Ok None) t f begin h = more_alike takes follow first takes' follow' first' t f begin 4096 h
half_alike takes follow first takes' follow' first' mark (Ok (Some part)) t f begin h = part_alike takes follow first takes' follow' first' t f begin mark (automaton_of part.dfa) part.count h
half_alike takes follow first takes' follow' first' mark (Err e) t f begin h = tt
