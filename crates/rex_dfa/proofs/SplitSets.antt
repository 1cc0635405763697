-- One more split, whose sets come to those of the splits before it.
use Rattle.std.proofs.Common.{◌≡◌, ℕ, zero, suc, ◌+◌, ◌<◌, ◌≤◌, ◌⊎◌, ◌↔◌, Bool, true, false, true≢false, List, [], ◌∷◌, ◌++◌, length, map, slice_get, Option, Some, None, All, ◌==◌, arith, refl, sym, subst, ◌∙◌, inl, inr, length-append}
use Rattle.std.proofs.lemmas.Bool.{cases_eq, cases_lt, ne_eqb, eq-eqb}
use Rattle.std.proofs.lemmas.List.{length-map}
use Rattle.std.proofs.lemmas.List.Elements.{All-append}
use Rattle.std.proofs.lemmas.Option.{none-some, same_Some, slice_get_within}
use Rattle.ck_base.specs.Counts.{HasMoreThan}
use Rattle.ck_base.specs.Represents.{Represents}
use Rattle.ck_base.proofs.Counting.{more_of_others}
use Rattle.ck_base.proofs.Representing.{represent_both, represent_map, no_more_represented, more_represented, more_than_fewer}
use Rattle.rex_model.specs.Language.{Re}
use Rattle.rex_model.specs.Positions.{position_count, Takes, First, Follow}
use Rattle.rex_model.specs.Sets.{marked, marked_rules, body_and_context, FirstBackwards, FollowBackwards}
use Rattle.rex_model.specs.Rules.{Rule}
use Rattle.rex_dfa.specs.within.Parts.{IsFilled, IsSameAfter}
use Rattle.rex_model.specs.ScanSets.{SplitWay, InPartSet, InSplitSet, IsSplitWay, IsSameSplitSet, HasMoreSplitSets}
use Rattle.rex_dfa.specs.within.Splits.{AcceptsParts, HasSplit, IsMade, IsEarly, Splitting, AreSplits}
use Rattle.rex_model.specs.Tables.{IsSplit, split_of}
use Rattle.rex_model.specs.Tables.{Halves}

pub same_back : (rules : List Rule) (a b : SplitWay) → IsSameSplitSet rules a b → IsSameSplitSet rules b a
same_back rules a b same = record { rule = sym same.rule; backward = sym same.backward; same = λ q. (λ h. (same.same q).1 h, λ h. (same.same q).0 h) }

pub same_on : (rules : List Rule) (a b c : SplitWay) → IsSameSplitSet rules a b → IsSameSplitSet rules b c → IsSameSplitSet rules a c
same_on rules a b c x y = record {
  rule = x.rule ∙ y.rule;
  backward = x.backward ∙ y.backward;
  same = λ q. (λ h. (y.same q).0 ((x.same q).0 h), λ h. (x.same q).1 ((y.same q).1 h));
}

-- a rule's split is the first of its number
pub split_after : (splits : List Halves) (split : Halves) (i : ℕ) → split_of splits i ≡ None → split.rule ≡ i → split_of (splits ++ split ∷ []) i ≡ Some split
split_after [] split i none is = rw (is, equal i) refl
  where
    equal : (i : ℕ) → (i == i) ≡ true
    equal i = eq-eqb i i refl
split_after (s ∷ splits) split i none is = by_case (λ none. split_after splits split i none is) (s.rule == i) refl
  where
    by_case : (split_of splits i ≡ None → split_of (splits ++ split ∷ []) i ≡ Some split) → (b : Bool) → b ≡ (s.rule == i) → split_of (s ∷ splits ++ split ∷ []) i ≡ Some split
    by_case rest true e = absurd (none-some s (sym none ∙ rw (← e) refl))
    by_case rest false e = rw (← e) (rest (rw (← e) at none))

pub split_kept : (splits : List Halves) (split : Halves) (j : ℕ) → (split.rule ≡ j → ⊥) → split_of (splits ++ split ∷ []) j ≡ split_of splits j
split_kept [] split j other = rw (ne_eqb split.rule j other) refl
split_kept (s ∷ splits) split j other = by_case (split_kept splits split j other) (s.rule == j) refl
  where
    by_case : split_of (splits ++ split ∷ []) j ≡ split_of splits j → (b : Bool) → b ≡ (s.rule == j) → split_of (s ∷ splits ++ split ∷ []) j ≡ split_of (s ∷ splits) j
    by_case rest true e = rw (← e) refl
    by_case rest false e = rw (← e) rest

-- positions of one rule
pub small_rule : (rules : List Rule) (i : ℕ) (rule : Rule) → slice_get rules i ≡ Some rule → position_count (marked (body_and_context rule)) ≤ position_count (marked_rules rules)
small_rule [] i rule is = absurd (none-some rule is)
small_rule (other ∷ rules) zero rule is = rw (← same_Some other rule is) (omega arith)
small_rule (other ∷ rules) (suc i) rule is = let rest = small_rule rules i rule is in omega arith

pub small_context : (rule : Rule) (context : Re) → rule.context ≡ Some context
    → position_count rule.body + position_count context ≡ position_count (body_and_context rule)
small_context rule context is = rw is refl

module _ (rules : List Rule) (i : ℕ) (rule : Rule) (context : Re) (is_rule : slice_get rules i ≡ Some rule) (has_context : rule.context ≡ Some context) where
  abbrev Words : Bool → List ℕ → Type 0
  Words false w = IsFilled (Takes (marked rule.body) 0) (Follow (marked rule.body) 0) (First (marked rule.body) 0) w
  Words true w = IsFilled (Takes context 0) (FollowBackwards context) (FirstBackwards context) w

  abbrev SameWords : Bool → List ℕ → List ℕ → Type 0
  SameWords false u v = IsSameAfter (Takes (marked rule.body) 0) (Follow (marked rule.body) 0) (First (marked rule.body) 0) u v
  SameWords true u v = IsSameAfter (Takes context 0) (FollowBackwards context) (FirstBackwards context) u v

  abbrev tag : Bool → List ℕ → SplitWay
  tag d w = record { rule = i; backward = d; word = w }

  -- the set of a way of this rule
  own_set : (d : Bool) (w : List ℕ) (q : ℕ) → InSplitSet rules (tag d w) q ↔ InPartSet rule.body context d w q
  own_set d w q = (there_of, λ h. (rule, context, is_rule, has_context, h))
    where
      there_of : InSplitSet rules (tag d w) q → InPartSet rule.body context d w q
      there_of (other, c, at, is, h) =
          let same : other ≡ rule = same_Some other rule (sym at ∙ is_rule) in
          let also : c ≡ context = same_Some c context (sym is ∙ subst (λ (r : Rule). r.context ≡ Some context) (sym same) has_context) in
          subst (λ (r : Rule). InPartSet r.body context d w q) same (subst (λ (k : Re). InPartSet other.body k d w q) also h)

  way_of_word : (d : Bool) (w : List ℕ) → Words d w → IsSplitWay rules (tag d w)
  way_of_word false w h = record { bytes = h.bytes; filled = λ none. h.some (λ q g. none q ((own_set false w q).1 g)) }
  way_of_word true w h = record { bytes = h.bytes; filled = λ none. h.some (λ q g. none q ((own_set true w q).1 g)) }

  word_of_way : (d : Bool) (w : List ℕ) → IsSplitWay rules (tag d w) → Words d w
  word_of_way false w h = record { bytes = h.bytes; some = λ none. h.filled (λ q g. none q ((own_set false w q).0 g)) }
  word_of_way true w h = record { bytes = h.bytes; some = λ none. h.filled (λ q g. none q ((own_set true w q).0 g)) }

  same_ways : (d : Bool) (u v : List ℕ) → SameWords d u v → IsSameSplitSet rules (tag d u) (tag d v)
  same_ways false u v same = record { rule = refl; backward = refl; same = λ q. (λ h. (own_set false v q).1 ((same q).0 ((own_set false u q).0 h)), λ h. (own_set false u q).1 ((same q).1 ((own_set false v q).0 h))) }
  same_ways true u v same = record { rule = refl; backward = refl; same = λ q. (λ h. (own_set true v q).1 ((same q).0 ((own_set true u q).0 h)), λ h. (own_set true u q).1 ((same q).1 ((own_set true v q).0 h))) }

  same_words_of : (d : Bool) (u v : List ℕ) → IsSameSplitSet rules (tag d u) (tag d v) → SameWords d u v
  same_words_of false u v same = λ q. (λ h. (own_set false v q).0 ((same.same q).0 ((own_set false u q).1 h)), λ h. (own_set false u q).0 ((same.same q).1 ((own_set false v q).1 h)))
  same_words_of true u v same = λ q. (λ h. (own_set true v q).0 ((same.same q).0 ((own_set true u q).1 h)), λ h. (own_set true u q).0 ((same.same q).1 ((own_set true v q).1 h)))

  -- a way in one of the automata of this rule's split
  abbrev OwnWay : Bool → SplitWay → Type 0
  OwnWay d way = IsSplitWay rules way × (way.rule ≡ i) × (way.backward ≡ d)

  tagged : (d : Bool) (words : List (List ℕ)) → Represents (Words d) (SameWords d) words → Represents (OwnWay d) (IsSameSplitSet rules) (map (tag d) words)
  tagged d words before = represent_map (tag d) (Words d) (SameWords d) (OwnWay d) (IsSameSplitSet rules) words
      (λ w h. (way_of_word d w h, refl, refl))
      (λ way h.
      let same : tag d way.word ≡ way = tag_is way h.1 h.2 in
      (way.word, word_of_way d way.word (subst (IsSplitWay rules) (sym same) h.0), same))
      (λ u v a b same. same_ways d u v same)
      (λ u v a b same. same_words_of d u v same)
      before
    where
      tag_is : (way : SplitWay) → way.rule ≡ i → way.backward ≡ d → tag d way.word ≡ way
      tag_is way r b = rw (← r, ← b) refl

  -- too many sets of one automaton
  pub more_of_half : (d : Bool) (n : ℕ) → HasMoreThan (Words d) (SameWords d) n → HasMoreSplitSets rules n
  more_of_half d n more = more_of_others (tag d) (Words d) (SameWords d) (IsSplitWay rules) (IsSameSplitSet rules) n
      (way_of_word d) (λ u v a b same. same_words_of d u v same) more

  abbrev OwnRule : SplitWay → Type 0
  OwnRule way = IsSplitWay rules way × (way.rule ≡ i)

  module _ (splits : List Halves) (total : ℕ) (split : Halves) (count : ℕ) (before : Splitting rules i splits total) (is : IsMade i rule.body context split count) where
    abbrev own_ways : List SplitWay
    own_ways = map (tag false) is.forwards ++ map (tag true) is.backwards

    own : Represents OwnRule (IsSameSplitSet rules) own_ways
    own = represent_both (OwnWay false) (OwnWay true) OwnRule (IsSameSplitSet rules) (map (tag false) is.forwards) (map (tag true) is.backwards)
        (tagged false is.forwards is.represent) (tagged true is.backwards is.represent_back)
        (λ way h. (h.0, h.1)) (λ way h. (h.0, h.1)) (λ way h. either way h way.backward refl)
        (λ a b x y same. true≢false (sym y.2 ∙ sym same.backward ∙ x.2))
        (λ a b x y same. true≢false (sym y.2 ∙ same.backward ∙ x.2))
      where
        either : (way : SplitWay) → OwnRule way → (d : Bool) → d ≡ way.backward → OwnWay false way ⊎ OwnWay true way
        either way h false e = inl (h.0, h.1, sym e)
        either way h true e = inr (h.0, h.1, sym e)

    all_ways : Represents (IsEarly rules (i + 1)) (IsSameSplitSet rules) (before.ways ++ own_ways)
    all_ways = represent_both (IsEarly rules i) OwnRule (IsEarly rules (i + 1)) (IsSameSplitSet rules) before.ways own_ways before.represent own
        (λ way h. (h.0, let below = h.1 in omega arith)) (λ way h. (h.0, let at = h.1 in omega arith))
        (λ way h. elim (cases_eq way.rule i) [ inl same ↦ inr (h.0, same) | inr other ↦ inl (h.0, let below = h.1 in omega arith) ])
        (λ a b x y same. let e = same.rule in let below = x.1 in let at = y.1 in omega arith)
        (λ a b x y same. let e = same.rule in let below = x.1 in let at = y.1 in omega arith)

    long : length (before.ways ++ own_ways) ≡ total + count
    long = omega (arith, length-append before.ways own_ways, length-append (map (tag false) is.forwards) (map (tag true) is.backwards), length-map is.forwards (tag false), length-map is.backwards (tag true), is.is_count, before.count)

    pub splitting_full : 4096 < total + count → HasMoreSplitSets rules 4096
    splitting_full many = more_of_others (λ way. way) (IsEarly rules (i + 1)) (IsSameSplitSet rules) (IsSplitWay rules) (IsSameSplitSet rules) 4096
        (λ way h. h.0) (λ a b x y same. same) (more_represented (IsEarly rules (i + 1)) (IsSameSplitSet rules) (before.ways ++ own_ways) 4096 all_ways (omega (arith, long)))

    parts_are : AcceptsParts rule split
    parts_are = record {
      forward = is.forward;
      backward = λ w small. rw has_context (is.backward w small);
    }

    pub splitting_more : total + count ≤ 4096 → Splitting rules (i + 1) (splits ++ split ∷ []) (total + count)
    splitting_more few = record {
      has = λ j other below at. elim (cases_eq j i) [
        | inl same ↦
            let same_rule : rule ≡ other = same_Some rule other (sym is_rule ∙ subst (λ k. slice_get rules k ≡ Some other) same at) in
            let here : HasSplit (splits ++ split ∷ []) i rule rule.context = subst (HasSplit (splits ++ split ∷ []) i rule) (sym has_context)
            (split, split_after splits split i (before.later i (omega arith)) is.is_rule, parts_are) in
            subst (λ k. HasSplit (splits ++ split ∷ []) k other other.context) (sym same) (subst (λ (r : Rule). HasSplit (splits ++ split ∷ []) i r r.context) same_rule here)
        | inr not_here ↦ has_kept j other other.context (split_kept splits split j (λ e. not_here (sym e ∙ is.is_rule))) (before.has j other (omega arith) at)
      ];
      later = λ j past. split_kept splits split j (λ e. let at = is.is_rule in omega arith) ∙ before.later j (omega arith);
      well = All-append IsSplit splits (split ∷ []) before.well one;
      ways = before.ways ++ own_ways;
      represent = all_ways;
      count = long;
      few = few;
    }
      where
        has_kept : (j : ℕ) (other : Rule) (o : Option Re) → split_of (splits ++ split ∷ []) j ≡ split_of splits j → HasSplit splits j other o → HasSplit (splits ++ split ∷ []) j other o
        has_kept j other None kept h = kept ∙ h
        has_kept j other (Some c) kept h = (h.0, kept ∙ h.1, h.2)

        one : All IsSplit (split ∷ [])
        one zero d within = is.is_split
        one (suc k) d within = absurd (omega arith)

-- a rule without a context adds nothing
pub splitting_same : (rules : List Rule) (i : ℕ) (rule : Rule) → slice_get rules i ≡ Some rule → rule.context ≡ None → (splits : List Halves) (total : ℕ)
    → Splitting rules i splits total → Splitting rules (i + 1) splits total
splitting_same rules i rule is_rule none splits total before = record {
  has = λ j other below at. elim (cases_eq j i) [
    | inl same ↦
        let same_rule : rule ≡ other = same_Some rule other (sym is_rule ∙ subst (λ k. slice_get rules k ≡ Some other) same at) in
        let here : HasSplit splits i rule rule.context = subst (HasSplit splits i rule) (sym none) (before.later i (omega arith)) in
        subst (λ k. HasSplit splits k other other.context) (sym same) (subst (λ (r : Rule). HasSplit splits i r r.context) same_rule here)
    | inr other_place ↦ before.has j other (omega arith) at
  ];
  later = λ j past. before.later j (omega arith);
  well = before.well;
  ways = before.ways;
  represent = record {
    each = λ k way at. let (h, below) = before.represent.each k way at in (h, omega arith);
    apart = before.represent.apart;
    all = λ way h. before.represent.all way (h.0, early way h);
  };
  count = before.count;
  few = before.few;
}
  where
    no_split : (way : SplitWay) → way.rule ≡ i → (q : ℕ) → InSplitSet rules way q → ⊥
    no_split way same q (other, c, at, is, h) =
        let same_rule : rule ≡ other = same_Some rule other (sym is_rule ∙ subst (λ k. slice_get rules k ≡ Some other) same at) in
        none-some c (sym (subst (λ (r : Rule). r.context ≡ None) same_rule none) ∙ is)

    early : (way : SplitWay) → IsEarly rules (i + 1) way → way.rule < i
    early way h = elim (cases_eq way.rule i) [ inl same ↦ absurd (h.0.filled (no_split way same)) | inr other ↦ let below = h.1 in omega arith ]

pub splits_done : (rules : List Rule) (i : ℕ) (splits : List Halves) (total : ℕ) → length rules ≤ i → Splitting rules i splits total → AreSplits rules splits
splits_done rules i splits total past done = record {
  has = λ j rule at. done.has j rule (let within = slice_get_within rules j rule at in omega arith) at;
  well = done.well;
  few = λ more. no_more_represented (IsEarly rules i) (IsSameSplitSet rules) done.ways done.represent (same_back rules) (same_on rules)
      (more_than_fewer (IsEarly rules i) (IsSameSplitSet rules) 4096 (length done.ways) (let few = done.few in omega (arith, done.count))
      (more_of_others (λ way. way) (IsSplitWay rules) (IsSameSplitSet rules) (IsEarly rules i) (IsSameSplitSet rules) 4096 early (λ a b x y same. same) more));
}
  where
    early : (way : SplitWay) → IsSplitWay rules way → IsEarly rules i way
    early way h = elim (cases_lt way.rule (length rules)) [
      | inl below ↦ (h, omega arith)
      | inr over ↦ absurd (h.filled (λ q (rule, c, at, is, set). let within = slice_get_within rules way.rule rule at in omega arith))
    ]
