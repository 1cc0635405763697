-- The first line of some bytes, and what follows it.
use Rattle.std.proofs.Common.{◌≡◌, ℕ, zero, suc, ◌+◌, ◌-◌, ◌<◌, ◌≤◌, Bool, true, false, cond, List, [], ◌∷◌, ◌++◌, length, take, drop, refl, sym, ap, ◌∙◌, arith, length-drop, length-take}
use Rattle.std.specs.List.{prefix_len}
use Rattle.std.specs.Str.Lines.{strip_carriage_return}
use Rattle.std.proofs.lemmas.List.{take-append-drop, take_rest, drop_all}
use Rattle.std.proofs.lemmas.Bool.Decides.{nat_tests}
use Rattle.spec_text.specs.TextLines.{TextLine, TextLines, is_no_feed, no_lines, ended, unended}
use Rattle.spec_text.specs.Steps.{BeginsLine}
use Rattle.spec_text.proofs.Begin.{front_passes}

pub a_feed : (byte : ℕ) → is_no_feed byte ≡ false → byte ≡ 10
a_feed byte is = grind (arith, nat_tests)

-- a line feed stands behind the bytes that are none
feed_behind : (bytes : List ℕ) → prefix_len is_no_feed bytes < length bytes
    → drop (prefix_len is_no_feed bytes) bytes ≡ 10 ∷ drop (prefix_len is_no_feed bytes + 1) bytes
feed_behind [] within = absurd (omega (arith, within))
feed_behind (byte ∷ bytes) within = by (is_no_feed byte) refl (feed_behind bytes)
  where
    by : (b : Bool) → is_no_feed byte ≡ b
        → (prefix_len is_no_feed bytes < length bytes
        → drop (prefix_len is_no_feed bytes) bytes ≡ 10 ∷ drop (prefix_len is_no_feed bytes + 1) bytes) → drop (cond (is_no_feed byte) (1 + prefix_len is_no_feed bytes) 0) (byte ∷ bytes)
        ≡ 10 ∷ drop (cond (is_no_feed byte) (1 + prefix_len is_no_feed bytes) 0 + 1) (byte ∷ bytes)
    by true is more =
        let n = prefix_len is_no_feed bytes in
        let one : 1 + n ≡ suc n = omega arith in
        let two : suc n + 1 ≡ suc (n + 1) = omega arith in
        rw (is, one, two) (more (let less = rw is at within in omega (arith, less)))
    by false is more = rw is (ap (λ b. b ∷ bytes) (a_feed byte is))

pub ended_line : (bytes text after : List ℕ) (len : ℕ) → len ≡ prefix_len is_no_feed bytes → len < length bytes
    → text ≡ strip_carriage_return (take len bytes) → after ≡ take (length bytes - (len + 1)) (drop (len + 1) bytes)
    → BeginsLine bytes text after
ended_line bytes text after len at within is follows number place lines more =
    let rest : after ≡ drop (len + 1) bytes = follows ∙ take_rest bytes (len + 1) in
    let whole : bytes ≡ take len bytes ++ 10 ∷ after =
    rw rest (sym (take-append-drop len bytes) ∙ ap (λ l. take len bytes ++ l) (rw at (feed_behind bytes (rw at at within)))) in
    let long : length (take len bytes) ≡ len = (let n = length-take len bytes in omega (arith, n, within)) in
    let there : place + (length bytes - length after) ≡ place + length (take len bytes) + 1 =
    (let a = ap length rest in let b = length-drop (len + 1) bytes in omega (arith, a, b, long, within)) in
    rw is (ended number place bytes (take len bytes) after lines whole (rw at (front_passes is_no_feed bytes)) (rw there at more))

all_taken : (bytes : List ℕ) (n : ℕ) → length bytes ≤ n → take n bytes ≡ bytes
all_taken [] zero past = refl
all_taken [] (suc n) past = refl
all_taken (byte ∷ bytes) zero past = absurd (omega (arith, past))
all_taken (byte ∷ bytes) (suc n) past = ap (λ l. byte ∷ l) (all_taken bytes n (omega (arith, past)))

nothing_there : (a x : List ℕ) → [] ≡ a ++ 10 ∷ x → ⊥
nothing_there [] x same = cc
nothing_there (b ∷ a) x same = cc

pub last_line : (bytes after : List ℕ) (len : ℕ) → len ≡ prefix_len is_no_feed bytes → length bytes ≤ len → 0 < length bytes
    → after ≡ take (length bytes - len) (drop len bytes) → BeginsLine bytes bytes after
last_line bytes after len at past some follows number place lines more =
    let none : after ≡ [] = follows ∙ take_rest bytes len ∙ drop_all len bytes past in
    let all : take (prefix_len is_no_feed bytes) bytes ≡ bytes = rw (← at) (all_taken bytes len past) in
    only lines (rw none at more) (unended number place bytes some (rw all at (front_passes is_no_feed bytes)))
  where
    only : {n m : ℕ} (lines : List TextLine) → TextLines n m [] lines
        → TextLines number place bytes (record { number = number; at = place; bytes = bytes } ∷ [])
        → TextLines number place bytes (record { number = number; at = place; bytes = bytes } ∷ lines)
    only _ (no_lines _ _) one = one
    only _ (ended _ _ _ text rest lines are clean more) one = absurd (nothing_there text rest are)
    only _ (unended _ _ _ some clean) one = absurd (omega (arith, some))
