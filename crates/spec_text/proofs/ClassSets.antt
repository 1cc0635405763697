-- The spans of a class, and their bytes in the set.
use Rattle.std.specs.Char.{digit_value}
use Rattle.std.specs.Prelude.{◌==◌, ◌%◌, ◌^◌, ◌*◌, not, nat_lt, ◌&&◌, bit_and, slice_index}
use Rattle.std.proofs.Common.{◌≡◌, ℕ, zero, suc, w64, ◌+◌, ◌-◌, ◌/◌, ◌<◌, ◌≤◌, ◌⊎◌, ◌↔◌, inl, inr, Bool, true, false, List, [], ◌∷◌, ◌++◌, length, get_or, append_assoc, refl, sym, ap, ◌∙◌, arith}
use Rattle.std.specs.Prelude.{◌||◌}
use Rattle.std.proofs.lemmas.Bool.{or_cases, cases_lt}
use Rattle.std.proofs.Math.Bool.{or-false, or-true}
use Rattle.std.proofs.lemmas.Bool.Decides.{nat_tests}
use Rattle.std.proofs.lemmas.List.{append-nil, get_or_past}
use Rattle.std.proofs.lemmas.List.Folds.{list_any-append}
use Rattle.std.proofs.Math.Path.{fun_ext}
use Rattle.std.proofs.lemmas.Nat.{pow_pos}
use Rattle.std.proofs.lemmas.Nat.Bits.{and_pow, bit_at-lt, bit_at_not}
use Rattle.std.specs.Int.{bit_at}
use Rattle.spec_text.specs.Bytes.{is_between}
use Rattle.spec_text.specs.Escapes.{is_hex}
use Rattle.spec_text.specs.Classes.{ClassChar, plain, by_name, by_code, Span, Listed, no_spans, single, range, set_of_spans, set_of, IsIn, AddsSpan, BeginsSpan, HasNoChar, HasNoSpan, IsClassOf, IsFlipped}
use Rattle.spec_text.proofs.OneClass.{no_dash}

-- a character has one meaning and one end
same_char : (xs rest more : List ℕ) (v w : ℕ) → ClassChar xs v rest → ClassChar xs w more → (v ≡ w) × (rest ≡ more)
same_char _ _ _ _ _ (plain byte rest is) (plain _ _ is2) = (refl, refl)
same_char _ _ _ _ _ (plain byte rest is) (by_name _ letter more at names) = let f = rw at at is in cc
same_char _ _ _ _ _ (plain byte rest is) (by_code _ x high low more at at_x h l) = let f = rw at at is in cc
same_char _ _ _ _ _ (by_name slash letter rest at names) (plain _ _ is) = let f = rw at at is in cc
same_char _ _ _ _ _ (by_name slash letter rest at names) (by_name _ _ _ at2 names2) = (refl, refl)
same_char _ _ _ _ _ (by_name slash letter rest at names) (by_code _ _ high low more at2 at_x h l) = let f = rw at_x at names in cc
same_char _ _ _ _ _ (by_code slash x high low rest at at_x h l) (plain _ _ is) = let f = rw at at is in cc
same_char _ _ _ _ _ (by_code slash x high low rest at at_x h l) (by_name _ _ _ at2 names) = let f = rw at_x at names in cc
same_char _ _ _ _ _ (by_code slash x high low rest at at_x h l) (by_code _ _ _ _ _ at2 at_x2 h2 l2) = (refl, refl)

-- with more bytes behind
longer_char : (xs rest t : List ℕ) (v : ℕ) → ClassChar xs v rest → ClassChar (xs ++ t) v (rest ++ t)
longer_char _ _ t _ (plain byte rest is) = plain byte (rest ++ t) is
longer_char _ _ t _ (by_name slash letter rest at names) = by_name slash letter (rest ++ t) at names
longer_char _ _ t _ (by_code slash x high low rest at at_x h l) = by_code slash x high low (rest ++ t) at at_x h l

-- and without them
pub record Shorter (bytes : List ℕ) (v : ℕ) (inside t : List ℕ) : Type 0 where
  pub front : List ℕ
  pub are : bytes ≡ front ++ t
  pub is : ClassChar front v inside

shorter_char : (bytes rest inside t : List ℕ) (v : ℕ) → ClassChar bytes v rest → rest ≡ inside ++ t → Shorter bytes v inside t
shorter_char _ _ inside t _ (plain byte rest is) at = record { front = byte ∷ inside; are = ap (λ l. byte ∷ l) at; is = plain byte inside is }
shorter_char _ _ inside t _ (by_name slash letter rest at_slash names) at =
    record { front = slash ∷ letter ∷ inside; are = ap (λ l. slash ∷ letter ∷ l) at; is = by_name slash letter inside at_slash names }
shorter_char _ _ inside t _ (by_code slash x high low rest at_slash at_x h l) at =
    record { front = slash ∷ x ∷ high ∷ low ∷ inside; are = ap (λ b. slash ∷ x ∷ high ∷ low ∷ b) at; is = by_code slash x high low inside at_slash at_x h l }

less_char : (bytes rest : List ℕ) (v : ℕ) → ClassChar bytes v rest → length rest < length bytes
less_char _ _ _ (plain byte rest is) = omega arith
less_char _ _ _ (by_name slash letter rest at names) = omega arith
less_char _ _ _ (by_code slash x high low rest at at_x h l) = omega arith

-- no character, no span
pub no_char_there : (bytes : List ℕ) → HasNoChar bytes → HasNoSpan bytes
no_char_there bytes none inside rest spans are listed = by inside spans are listed
  where
    by : (inside : List ℕ) (spans : List Span) → bytes ≡ inside ++ 93 ∷ rest → Listed inside spans → inside ≡ []
    by _ _ are no_spans = refl
    by _ _ are (single inside after byte spans is listed) = absurd (none byte (after ++ 93 ∷ rest) (rw are (longer_char inside after (93 ∷ rest) byte is)))
    by _ _ are (range inside after more low high dash spans is at_dash is2 order listed) =
        absurd (none low (dash ∷ (after ++ 93 ∷ rest)) (rw are (longer_char inside (dash ∷ after) (93 ∷ rest) low is)))

-- what a span that begins with the character is
module _ (bytes after : List ℕ) (low : ℕ) (first : ClassChar bytes low after) where
  back_to : (inside rest more : List ℕ) (v : ℕ) → bytes ≡ inside ++ 93 ∷ rest → ClassChar inside v more → (low ≡ v) × (after ≡ more ++ 93 ∷ rest)
  back_to inside rest more v are is = same_char bytes after (more ++ 93 ∷ rest) low v first (rw are (longer_char inside more (93 ∷ rest) v is))

  -- no dash behind
  pub begins_single : low < 256 → ((rest : List ℕ) → after ≡ 45 ∷ rest → ⊥) → BeginsSpan bytes low low after
  begins_single below no_dash_there = record {
    order = omega arith;
    is_byte = below;
    shorter = less_char bytes after low first;
    lists = λ inside rest spans are listed.
        let front = shorter_char bytes after inside (93 ∷ rest) low first are in
        (front.front, front.are, single front.front inside low spans front.is listed);
    back = λ inside rest spans are listed. by inside rest spans are listed;
  }
    where
      by : (inside rest : List ℕ) (spans : List Span) → bytes ≡ inside ++ 93 ∷ rest → Listed inside spans
          → (more : List ℕ) × (others : List Span) × (spans ≡ record { low = low; high = low } ∷ others) × (after ≡ more ++ 93 ∷ rest) × Listed more others
      by _ rest _ are no_spans = absurd (no_end bytes after low first rest are)
        where
          no_end : (bytes after : List ℕ) (low : ℕ) → ClassChar bytes low after → (rest : List ℕ) → bytes ≡ 93 ∷ rest → ⊥
          no_end _ _ _ (plain byte more is) rest are = let e : byte ≡ 93 = cc in let f = rw e at is in cc
          no_end _ _ _ (by_name slash letter more at names) rest are = let e : slash ≡ 93 = cc in omega (arith, e, at)
          no_end _ _ _ (by_code slash x high low more at at_x h l) rest are = let e : slash ≡ 93 = cc in omega (arith, e, at)
      by _ rest _ are (single inside more v spans is listed) =
          let same = back_to inside rest more v are is in
          (more, spans, (let e = same.0 in rw e refl), same.1, listed)
      by _ rest _ are (range inside behind more v high dash spans is at_dash is2 order listed) =
          absurd (no_dash_there (behind ++ 93 ∷ rest) (rw at_dash at (back_to inside rest (dash ∷ behind) v are is).1))

  -- a dash behind
  module _ (behind : List ℕ) (at : after ≡ 45 ∷ behind) where
    no_single : (inside rest more : List ℕ) (v : ℕ) (spans : List Span) → bytes ≡ inside ++ 93 ∷ rest → ClassChar inside v more → Listed more spans → ⊥
    no_single inside rest more v spans are is listed = no_dash rest more behind spans 45 refl listed (sym (back_to inside rest more v are is).1 ∙ at)

    behind_is : (inside rest next : List ℕ) (v dash : ℕ) → bytes ≡ inside ++ 93 ∷ rest → ClassChar inside v (dash ∷ next) → behind ≡ next ++ 93 ∷ rest
    behind_is inside rest next v dash are is = let e : 45 ∷ behind ≡ dash ∷ (next ++ 93 ∷ rest) = sym at ∙ (back_to inside rest (dash ∷ next) v are is).1 in cc

    pub no_range : ((high : ℕ) (more : List ℕ) → ClassChar behind high more → low ≤ high → ⊥) → HasNoSpan bytes
    no_range none inside rest spans are listed = by inside rest spans are listed
      where
        by : (inside rest : List ℕ) (spans : List Span) → bytes ≡ inside ++ 93 ∷ rest → Listed inside spans → inside ≡ []
        by _ rest _ are no_spans = refl
        by _ rest _ are (single inside more v spans is listed) = absurd (no_single inside rest more v spans are is listed)
        by _ rest _ are (range inside next more v high dash spans is at_dash is2 order listed) =
            let here = behind_is inside rest next v dash are is in
            let same = (back_to inside rest (dash ∷ next) v are is).0 in
            absurd (none high (more ++ 93 ∷ rest) (rw here (longer_char next more (93 ∷ rest) high is2)) (rw same order))

    pub begins_range : (end : List ℕ) (top : ℕ) → ClassChar behind top end → top < 256 → low ≤ top → BeginsSpan bytes low top end
    begins_range end top last below order = record {
      order = order;
      is_byte = below;
      shorter = let a = less_char bytes after low first in let b = less_char behind end top last in let c = ap length at in omega (arith, a, b, c);
      lists = λ inside rest spans are listed.
          let tail = shorter_char behind end inside (93 ∷ rest) top last are in
          let whole : after ≡ (45 ∷ tail.front) ++ 93 ∷ rest = at ∙ ap (λ l. 45 ∷ l) tail.are in
          let front = shorter_char bytes after (45 ∷ tail.front) (93 ∷ rest) low first whole in
          (front.front, front.are, range front.front tail.front inside low top 45 spans front.is refl tail.is order listed);
      back = λ inside rest spans are listed. by inside rest spans are listed;
    }
      where
        no_end : (bytes after : List ℕ) (low : ℕ) → ClassChar bytes low after → (rest : List ℕ) → bytes ≡ 93 ∷ rest → ⊥
        no_end _ _ _ (plain byte more is) rest are = let e : byte ≡ 93 = cc in let f = rw e at is in cc
        no_end _ _ _ (by_name slash letter more at names) rest are = let e : slash ≡ 93 = cc in omega (arith, e, at)
        no_end _ _ _ (by_code slash x high low more at at_x h l) rest are = let e : slash ≡ 93 = cc in omega (arith, e, at)

        by : (inside rest : List ℕ) (spans : List Span) → bytes ≡ inside ++ 93 ∷ rest → Listed inside spans
            → (more : List ℕ) × (others : List Span) × (spans ≡ record { low = low; high = top } ∷ others) × (end ≡ more ++ 93 ∷ rest) × Listed more others
        by _ rest _ are no_spans = absurd (no_end bytes after low first rest are)
        by _ rest _ are (single inside more v spans is listed) = absurd (no_single inside rest more v spans are is listed)
        by _ rest _ are (range inside next more v high dash spans is at_dash is2 its listed) =
            let here = behind_is inside rest next v dash are is in
            let same = (back_to inside rest (dash ∷ next) v are is).0 in
            let other = same_char behind end (more ++ 93 ∷ rest) top high last (rw here (longer_char next more (93 ∷ rest) high is2)) in
            (more, spans, (let e = other.0 in rw (same, e) refl), other.1, listed)

-- the new set of bytes is the old one with the bytes from low on below the end
pub record AddsBelow (old new : List ℕ) (low end : ℕ) : Type 0 where
  pub size : length new ≡ length old
  pub only : (byte : ℕ) → IsIn (set_of new) byte → IsIn (set_of old) byte ⊎ ((low ≤ byte) × (byte < end))
  pub kept : (byte : ℕ) → IsIn (set_of old) byte → IsIn (set_of new) byte
  pub more : (byte : ℕ) → low ≤ byte → byte < end → IsIn (set_of new) byte

pub adds_all : (old new : List ℕ) (low high end : ℕ) → end ≡ high + 1 → AddsBelow old new low end → AddsSpan old new low high
adds_all old new low high end at_end adds = record {
  size = adds.size;
  only = λ b has. elim (adds.only b has) [ inl there ↦ inl there | inr within ↦ inr (within.0, omega (arith, within.1)) ];
  kept = adds.kept;
  more = λ b above below. adds.more b above (omega arith);
}

-- the spans before the rest are read, and the set has their bytes
pub record BytesSoFar (bytes rest set : List ℕ) : Type 0 where
  pub before : List Span
  pub lists : (inside end : List ℕ) (spans : List Span) → rest ≡ inside ++ 93 ∷ end → Listed inside spans
      → (whole : List ℕ) × (bytes ≡ whole ++ 93 ∷ end) × Listed whole (before ++ spans)
  pub back : (inside end : List ℕ) (spans : List Span) → bytes ≡ inside ++ 93 ∷ end → Listed inside spans
      → (more : List ℕ) × (others : List Span) × (spans ≡ before ++ others) × (rest ≡ more ++ 93 ∷ end) × Listed more others
  pub size : length set ≡ 4
  pub has : (byte : ℕ) → IsIn (set_of set) byte ↔ ((byte < 256) × (set_of_spans before byte ≡ true))
  pub past : (byte : ℕ) → 256 ≤ byte → set_of_spans before byte ≡ false

pub no_bytes_yet : (bytes set : List ℕ) → length set ≡ 4 → ((byte : ℕ) → set_of set byte ≡ false) → BytesSoFar bytes bytes set
no_bytes_yet bytes set size none = record {
  before = [];
  lists = λ inside end spans are listed. (inside, are, listed);
  back = λ inside end spans are listed. (inside, spans, refl, are, listed);
  size = size;
  has = λ byte. (λ is. (is.0, let e = is.1 in let f = none byte in cc), λ is. (let e = is.1 in cc));
  past = λ byte past. refl;
}

one_more_span : (before : List Span) (span : Span) (byte : ℕ)
    → set_of_spans (before ++ span ∷ []) byte ≡ (set_of_spans before byte || is_between span.low span.high byte)
one_more_span before span byte =
    let has = λ (s : Span). is_between s.low s.high byte in
    list_any-append has before (span ∷ []) ∙ ap (λ b. set_of_spans before byte || b) (or-false (has span))

between_true : (low high byte : ℕ) → low ≤ byte → byte ≤ high → is_between low high byte ≡ true
between_true low high byte above below = grind (arith, nat_tests)

between_from : (low high byte : ℕ) → is_between low high byte ≡ true → (low ≤ byte) × (byte ≤ high)
between_from low high byte is = grind (arith, nat_tests)

past_between : (low high byte : ℕ) → high < 256 → 256 ≤ byte → is_between low high byte ≡ false
past_between low high byte below past = grind (arith, nat_tests)

pub one_span_more : (bytes rest after set new : List ℕ) (low high : ℕ) → BytesSoFar bytes rest set → BeginsSpan rest low high after
    → AddsSpan set new low high → BytesSoFar bytes after new
one_span_more bytes rest after set new low high so_far begins adds =
    let span : Span = record { low = low; high = high } in
    let before = so_far.before in
    record {
      before = before ++ span ∷ [];
      lists = λ inside end spans are listed.
          let one = begins.lists inside end spans are listed in
          let all = so_far.lists one.0 end (span ∷ spans) one.1 one.2 in
          (all.0, all.1, rw (append_assoc before (span ∷ []) spans) all.2);
      back = λ inside end spans are listed.
          let all = so_far.back inside end spans are listed in
          let one = begins.back all.0 end all.1 all.3 all.4 in
          (one.0, one.1, all.2 ∙ ap (λ l. before ++ l) one.2 ∙ sym (append_assoc before (span ∷ []) one.1), one.3, one.4);
      size = adds.size ∙ so_far.size;
      has = λ byte.
          let more = one_more_span before span byte in
          let old = so_far.has byte in (
            λ is. (
              is.0,
              elim (adds.only byte is) [
                | inl there ↦ let e = (old.0 there).1 in rw (more, e) refl
                | inr within ↦ rw (more, between_true low high byte within.0 within.1) (or-true (set_of_spans before byte))
              ],
            ),
            λ is. elim (or_cases (set_of_spans before byte) (is_between low high byte) (sym more ∙ is.1)) [
              | inl there ↦ adds.kept byte (old.1 (is.0, there))
              | inr within ↦ let bounds = between_from low high byte within in adds.more byte bounds.0 bounds.1
            ],
          );
      past = λ byte past. rw (one_more_span before span byte, so_far.past byte past, past_between low high byte begins.is_byte past) refl;
    }

past_words : (words : List ℕ) (byte : ℕ) → length words ≡ 4 → 256 ≤ byte → set_of words byte ≡ false
past_words words byte size past =
    let none : get_or words (byte / 64) 0 ≡ 0 = get_or_past words (byte / 64) 0 (omega arith) in
    rw none refl

one_test : (a b : Bool) → (a ≡ true → b ≡ true) → (b ≡ true → a ≡ true) → a ≡ b
one_test true b there back = sym (there refl)
one_test false true there back = back refl
one_test false false there back = refl

same_bytes : (bytes rest set : List ℕ) (so : BytesSoFar bytes rest set) → set_of set ≡ set_of_spans so.before
same_bytes bytes rest set so = fun_ext (λ byte. elim (cases_lt byte 256) [
  | inl below ↦ one_test (set_of set byte) (set_of_spans so.before byte) (λ is. ((so.has byte).0 (below, is)).1) (λ is. ((so.has byte).1 (below, is)).1)
  | inr past ↦ past_words set byte so.size past ∙ sym (so.past byte past)
])

pub class_here : (bytes rest set after : List ℕ) (first : ℕ) → BytesSoFar bytes rest set → length rest < length bytes → rest ≡ first ∷ after → first ≡ 93 → IsClassOf bytes set after
class_here bytes rest set after first so less at is =
    let all = so.lists [] after [] (at ∙ ap (λ b. b ∷ after) is) no_spans in
    record {
      inside = all.0;
      spans = so.before;
      are = all.1;
      some = some all.0 all.1;
      listed = rw (append-nil so.before) at all.2;
      same = same_bytes bytes rest set so;
      size = so.size;
    }
  where
    some : (inside : List ℕ) → bytes ≡ inside ++ 93 ∷ after → 0 < length inside
    some [] are = let a = ap length are in let b = ap length at in absurd (omega (arith, less, a, b))
    some (x ∷ inside) are = omega arith

pub code_here : (slash x high low : ℕ) (rest : List ℕ) (value : ℕ) → slash ≡ 92 → x ≡ 120 → is_hex high ≡ true → is_hex low ≡ true → value ≡ digit_value high * 16 + digit_value low
    → ClassChar (slash ∷ x ∷ high ∷ low ∷ rest) value rest
code_here slash x high low rest value at at_x h l is = rw is (by_code slash x high low rest at at_x h l)

pub no_range_order : (low : ℕ) (behind end : List ℕ) (top : ℕ) → ClassChar behind top end → (low ≤ top → ⊥) → (high : ℕ) (more : List ℕ) → ClassChar behind high more → low ≤ high → ⊥
no_range_order low behind end top last other high more is order = let same = (same_char behind end more top high last is).0 in other (rw same order)

pub no_bits : (byte : ℕ) → set_of (0 ∷ 0 ∷ 0 ∷ 0 ∷ []) byte ≡ false
no_bits byte = by (byte / 64)
  where
    by : (n : ℕ) → not (bit_and (slice_index (0 ∷ 0 ∷ 0 ∷ 0 ∷ []) n) (2 ^ (byte % 64)) == 0) ≡ false
    by zero = refl
    by (suc zero) = refl
    by (suc (suc zero)) = refl
    by (suc (suc (suc zero))) = refl
    by (suc (suc (suc (suc n)))) = refl

below_64 : (byte : ℕ) → byte % 64 < 64
below_64 byte = omega arith

word_at : (word other k : ℕ) → IsFlipped word other → k < 64 → not (bit_and other (2 ^ k) == 0) ≡ not (not (bit_and word (2 ^ k) == 0))
word_at word other k flipped below = ap not (flipped k below)

module _ (set : List ℕ) (e f g h : ℕ) where
  pub negated_set : IsFlipped (get_or set 0 0) e → IsFlipped (get_or set 1 0) f → IsFlipped (get_or set 2 0) g → IsFlipped (get_or set 3 0) h
      → set_of (e ∷ f ∷ g ∷ h ∷ []) ≡ (λ byte. nat_lt byte 256 && not (set_of set byte))
  negated_set first second third fourth = fun_ext (λ byte. by byte (byte / 64) refl)
    where
      past : (byte n : ℕ) → byte / 64 ≡ n → 4 ≤ n → nat_lt byte 256 ≡ false
      past byte n at more = let far : 256 ≤ byte = omega (arith, at, more) in grind (arith, nat_tests, far)

      near : (byte n : ℕ) → byte / 64 ≡ n → n < 4 → nat_lt byte 256 ≡ true
      near byte n at less = let is : byte < 256 = omega (arith, at, less) in grind (arith, nat_tests, is)

      by : (byte n : ℕ) → byte / 64 ≡ n → not (bit_and (slice_index (e ∷ f ∷ g ∷ h ∷ []) n) (2 ^ (byte % 64)) == 0)
          ≡ (nat_lt byte 256 && not (not (bit_and (slice_index set n) (2 ^ (byte % 64)) == 0)))
      by byte zero at = rw (near byte 0 at (omega arith)) (word_at (get_or set 0 0) e (byte % 64) first (below_64 byte))
      by byte (suc zero) at = rw (near byte 1 at (omega arith)) (word_at (get_or set 1 0) f (byte % 64) second (below_64 byte))
      by byte (suc (suc zero)) at = rw (near byte 2 at (omega arith)) (word_at (get_or set 2 0) g (byte % 64) third (below_64 byte))
      by byte (suc (suc (suc zero))) at = rw (near byte 3 at (omega arith)) (word_at (get_or set 3 0) h (byte % 64) fourth (below_64 byte))
      by byte (suc (suc (suc (suc n)))) at = rw (past byte (suc (suc (suc (suc n)))) at (omega arith)) refl

flip_test : (b c p : ℕ) → 0 < p → b < 2 → c ≡ 1 - b → (c * p == 0) ≡ not (b * p == 0)
flip_test zero c p some less is = let one : c ≡ 1 = is in rw one (let same : 1 * p ≡ p = omega arith in rw same (grind (arith, nat_tests, some)))
flip_test (suc zero) c p some less is = let none : c ≡ 0 = is in rw none (let same : 1 * p ≡ p = omega arith in rw same (grind (arith, nat_tests, some)))
flip_test (suc (suc b)) c p some less is = absurd (omega (arith, less))

pub flips : (word : ℕ) → word < 2 ^ 64 → IsFlipped word (18446744073709551615 - word)
flips word fits k below = rw (and_pow, and_pow)
    (flip_test (bit_at word k) (bit_at (18446744073709551615 - word) k) (2 ^ k) (pow_pos k) (bit_at-lt word k) (bit_at_not w64 word k fits below))
