-- Sets of positions and automata, tried on cases that are worked by hand.
use Rattle.std.proofs.Common.{◌≡◌, ℕ, zero, suc, ◌+◌, ◌*◌, ◌<◌, Bool, true, false, List, [], ◌∷◌, length, Some, None, slice_get, refl, sym, ap, subst, ◌∙◌, lit<, inl, inr, arith}
use Rattle.std.proofs.lemmas.Option.{none-some, same_Some}
use Rattle.std.specs.Prelude.{codes}
use Rattle.ck_base.proofs.Representing.{element_at}
use Rattle.rex_model.specs.Language.{bytes}
use Rattle.rex_model.specs.Positions.{position_count}
use Rattle.rex_model.specs.Rules.{Rule, Rules}
use Rattle.rex_model.specs.Runs.{Automaton, nowhere, moved, accepted}
use Rattle.rex_model.specs.ScanSets.{InScanSet, HasMoreScanSets, SplitWay, IsSplitWay, IsSameSplitSet, HasMoreSplitSets}
use Rattle.rex_model.specs.Sets.{there, on, marked_rules, FirstOfActive, FirstBackwards, FollowBackwards, IsScanner}
use Rattle.rex_model.specs.Tables.{split_of}

-- "a" where "b" follows, in each state
abbrev a_before_b : Rule
a_before_b = record { active = λ state. true; body = bytes (codes "a"); context = Some (bytes (codes "b")); token = Some 0; next = None }

-- "a" in no state
abbrev never : Rule
never = record a_before_b { active = λ state. false; context = None }

-- a, b and the end mark
three : position_count (marked_rules (a_before_b ∷ [])) ≡ 3
three = refl

-- the positions of a rule that isn't active count, too: those of the next rule come behind them
behind_never : FirstOfActive (never ∷ a_before_b ∷ []) 0 0 2
behind_never = inr (inl (refl, inl (inl (refl, omega arith))))

-- though none of them comes first
never_first : FirstOfActive (never ∷ []) 0 0 0 → ⊥
never_first (inl (active, first)) = (cc)
never_first (inr none) = elim none [ ]

-- after "ab" the mark comes
mark_after_ab : InScanSet (a_before_b ∷ []) (record { start = 3; word = codes "ab" }) 2
mark_after_ab = (
  0,
  inl (refl, inl (inl (refl, omega arith))),
  on 0 1 2 97 (codes "b") (inl (inl (inl (inl (refl, refl))))) (inl (inl (inr (inr ((omega arith, refl), (refl, omega arith))))))
      (on 1 2 2 98 [] (inl (inl (inr (inl (refl, refl))))) (inl (inr (inr (inl (omega arith, refl), refl)))) (there 2)),
)

-- and not after "a" alone: what must follow counts
no_mark_after_a : InScanSet (a_before_b ∷ []) (record { start = 3; word = codes "a" }) 2 → ⊥
no_mark_after_a (p, inl (active, inl (inl (at, some))), on _ _ _ _ _ takes (inl (inl (inl (from, next, below)))) (there _)) = omega arith
no_mark_after_a (p, inl (active, inl (inl (at, some))), on _ _ _ _ _ takes (inl (inl (inr (inl (from, next, below))))) (there _)) = omega arith
no_mark_after_a (p, inl (active, inl (inl (at, some))), on _ _ _ _ _ takes (inl (inl (inr (inr (last, (first, also)))))) (there _)) = omega arith
no_mark_after_a (p, inl (active, inl (inl (at, some))), on _ _ _ _ _ takes (inl (inr (inl none))) (there _)) = elim none [ ]
no_mark_after_a (p, inl (active, inl (inl (at, some))), on _ _ _ _ _ takes (inl (inr (inr (inl (from, last), first)))) (there _)) = omega arith
no_mark_after_a (p, inl (active, inl (inl (at, some))), on _ _ _ _ _ takes (inl (inr (inr (inr (empty, last), first)))) (there _)) = (cc)
no_mark_after_a (p, inl (active, inl (inl (at, some))), on _ _ _ _ _ takes (inr none) (there _)) = elim none [ ]
no_mark_after_a (p, inl (active, inl (inr (empty, first))), goes) = (cc)
no_mark_after_a (p, inl (active, inr (empty, first)), goes) = (cc)
no_mark_after_a (p, inr none, goes) = elim none [ ]

-- "ab" is read from its end: b first, then a, then the mark
last_first : FirstBackwards (bytes (codes "ab")) 1
last_first = inl (omega arith, refl)

then_a : FollowBackwards (bytes (codes "ab")) 1 0
then_a = inl (omega arith, refl, omega arith)

then_mark : FollowBackwards (bytes (codes "ab")) 0 2
then_mark = inr ((refl, omega arith), refl)

-- the mark comes first for the empty word alone
mark_of_nothing : FirstBackwards (bytes []) 0
mark_of_nothing = inr (refl, refl)

no_mark_first : FirstBackwards (bytes (codes "ab")) 2 → ⊥
no_mark_first (inl (from, last)) = omega arith
no_mark_first (inr (empty, at)) = (cc)

-- an automaton with one state, which accepts rule 7
abbrev one_state : Automaton
one_state = record { moves = []; accepts = Some 7 ∷ [] }

-- from no state no byte leads anywhere, and nothing is accepted
stays_nowhere : moved one_state nowhere 97 ≡ nowhere
stays_nowhere = refl

nothing_nowhere : accepted one_state nowhere ≡ None
nothing_nowhere = refl

accepts_seven : accepted one_state 0 ≡ Some 7
accepts_seven = refl

-- of two splits of one rule the first counts
first_split : split_of (record { rule = 3; forward = one_state; backward = one_state }
    ∷ record { rule = 3; forward = record { moves = []; accepts = [] }; backward = one_state } ∷ []) 3
    ≡ Some (record { rule = 3; forward = one_state; backward = one_state })
first_split = refl

-- "a" in each state
abbrev always_a : Rule
always_a = record a_before_b { context = None }

-- one rule, for this string
abbrev of_string : List ℕ → Rules
of_string string = record { states = codes "STD" ∷ []; tokens = []; list = record always_a { body = bytes string } ∷ [] }

-- with its end mark a string of 4,095 bytes has as many positions as there may be
within_the_limit : (string : List ℕ) → length string ≡ 4095 → IsScanner (of_string string)
within_the_limit string many = record { few = omega (arith, many); next = next }
  where
    next : (i n : ℕ) (rule : Rule) → slice_get (of_string string).list i ≡ Some rule → rule.next ≡ Some n → n < 1
    next zero n rule is named = absurd (none-some n (ap (λ (r : Rule). r.next) (same_Some (record always_a { body = bytes string }) rule is) ∙ named))
    next (suc i) n rule is named = absurd (none-some rule is)

mark_past_the_limit : (string : List ℕ) → length string ≡ 4096 → IsScanner (of_string string) → ⊥
mark_past_the_limit string many scanner = omega (arith, scanner.few)

-- a next state is one of those that there are
no_such_state : IsScanner (record { states = codes "STD" ∷ []; tokens = []; list = record always_a { next = Some 1 } ∷ [] }) → ⊥
no_such_state scanner = omega (arith, scanner.next 0 1 (record always_a { next = Some 1 }) refl refl)

-- a rule that is active in no state has only the empty set, which doesn't count
empty_set_apart : HasMoreScanSets (never ∷ []) 1 0 → ⊥
empty_set_apart more =
    let (way, is) = element_at more.some 0 more.many in
    (more.each 0 way is).filled (λ q next. none_first way.start next.0 next.1)
  where
    none_first : (state p : ℕ) → FirstOfActive (never ∷ []) state 0 p → ⊥
    none_first state p (inl (active, first)) = (cc)
    none_first state p (inr none) = elim none [ ]

-- nothing, where nothing must follow, twice
abbrev nothing : Rule
nothing = record a_before_b { body = bytes []; context = Some (bytes []) }

abbrev twice_nothing : List Rule
twice_nothing = nothing ∷ nothing ∷ []

-- before any byte, in one of the automata of a rule's split
abbrev begin_of : ℕ → Bool → SplitWay
begin_of rule backward = record { rule = rule; backward = backward; word = [] }

-- there only the end mark comes
mark_there : (rule : ℕ) (backward : Bool) → slice_get twice_nothing rule ≡ Some nothing → IsSplitWay twice_nothing (begin_of rule backward)
mark_there rule false is = record {
  bytes = λ k d within. absurd (omega (arith, within));
  filled = λ none. none 0 (nothing, bytes [], is, refl, (0, inr (refl, refl), there 0));
}
mark_there rule true is = record {
  bytes = λ k d within. absurd (omega (arith, within));
  filled = λ none. none 0 (nothing, bytes [], is, refl, (0, inr (refl, refl), there 0));
}

-- these are four sets of two splits, though all are alike
abbrev begins : List SplitWay
begins = begin_of 0 false ∷ begin_of 0 true ∷ begin_of 1 false ∷ begin_of 1 true ∷ []

-- where such a begin stands among them
abbrev place : ℕ → Bool → ℕ
place rule false = 2 * rule
place rule true = 2 * rule + 1

four_of_two_splits : HasMoreSplitSets twice_nothing 3
four_of_two_splits = record { some = begins; each = each; apart = apart; many = lit< tt }
  where
    each : (i : ℕ) (way : SplitWay) → slice_get begins i ≡ Some way → IsSplitWay twice_nothing way
    each zero way is = subst (IsSplitWay twice_nothing) (same_Some (begin_of 0 false) way is) (mark_there 0 false refl)
    each (suc zero) way is = subst (IsSplitWay twice_nothing) (same_Some (begin_of 0 true) way is) (mark_there 0 true refl)
    each (suc (suc zero)) way is = subst (IsSplitWay twice_nothing) (same_Some (begin_of 1 false) way is) (mark_there 1 false refl)
    each (suc (suc (suc zero))) way is = subst (IsSplitWay twice_nothing) (same_Some (begin_of 1 true) way is) (mark_there 1 true refl)
    each (suc (suc (suc (suc i)))) way is = absurd (none-some way is)

    stands : (i : ℕ) (way : SplitWay) → slice_get begins i ≡ Some way → i ≡ place way.rule way.backward
    stands zero way is = subst (λ (w : SplitWay). 0 ≡ place w.rule w.backward) (same_Some (begin_of 0 false) way is) refl
    stands (suc zero) way is = subst (λ (w : SplitWay). 1 ≡ place w.rule w.backward) (same_Some (begin_of 0 true) way is) refl
    stands (suc (suc zero)) way is = subst (λ (w : SplitWay). 2 ≡ place w.rule w.backward) (same_Some (begin_of 1 false) way is) refl
    stands (suc (suc (suc zero))) way is = subst (λ (w : SplitWay). 3 ≡ place w.rule w.backward) (same_Some (begin_of 1 true) way is) refl
    stands (suc (suc (suc (suc i)))) way is = absurd (none-some way is)

    apart : (i j : ℕ) (a b : SplitWay) → slice_get begins i ≡ Some a → slice_get begins j ≡ Some b → IsSameSplitSet twice_nothing a b → i ≡ j
    apart i j a b is_a is_b same = stands i a is_a ∙ subst (λ r. place a.rule a.backward ≡ place r b.backward) same.rule
        (ap (place a.rule) same.backward) ∙ sym (stands j b is_b)
