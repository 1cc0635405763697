-- The contracts leave one answer: of the longest word, and of a scan.
use Rattle.std.proofs.Common.{◌≡◌, ℕ, List, drop, Option, Some, None, arith, refl}
use Rattle.rex_model.specs.Language.{Re}
use Rattle.rex_model.specs.within.Longest.{IsLongest}
use Rattle.rex_model.specs.Rules.{Rule}
use Rattle.rex_model.specs.Run.{Scans, end, bad, token, skip}
use Rattle.rex_model.specs.declared.scan.Scan.{Scan}
use Rattle.rex_model.proofs.OneRun.{none_at_end, same_winner}
use Rattle.rex_model.proofs.OneWinner.{one_winner}

-- a text has one longest word, or none
one_longest : (r : Re) (text : List ℕ) (a b : Option ℕ) → IsLongest r text a → IsLongest r text b → a ≡ b
one_longest r text None None x y = refl
one_longest r text None (Some n) x y = absurd (x n y.some y.within y.word)
one_longest r text (Some m) None x y = absurd (y m x.some x.within x.word)
one_longest r text (Some m) (Some n) x y =
    let same : m ≡ n = omega (arith, x.longest n y.within y.word, y.longest m x.within x.word) in
    cc

-- a scan has one answer
one_scan : (rules : List Rule) (text : List ℕ) (state at : ℕ) (a b : Scan)
    → Scans rules text state at a → Scans rules text state at b → a ≡ b
one_scan rules text state at a b (end past) (end past2) = refl
one_scan rules text state at a b (end past) (bad before none) = absurd (omega arith)
one_scan rules text state at a b (end past) (token j k l t won is) = absurd (none_at_end rules text state at j k l past won)
one_scan rules text state at a b (end past) (skip j k l won is) = absurd (none_at_end rules text state at j k l past won)
one_scan rules text state at a b (bad before none) (end past) = absurd (omega arith)
one_scan rules text state at a b (bad before none) (bad before2 none2) = refl
one_scan rules text state at a b (bad before none) (token j k l t won is) = absurd (none j k l won.candidate)
one_scan rules text state at a b (bad before none) (skip j k l won is) = absurd (none j k l won.candidate)
one_scan rules text state at a b (token i n m t won is) (end past) = absurd (none_at_end rules text state at i n m past won)
one_scan rules text state at a b (token i n m t won is) (bad before none) = absurd (none i n m won.candidate)
one_scan rules text state at a b (token i n m t won is) (token j k l u won2 is2) =
    let (number, text_length, with_context) = one_winner rules state (drop at text) i n m j k l won won2 in
    let (rule, same_length) = same_winner rules state (drop at text) i n m j k l won won2 in
    rw (rule, number, text_length)
one_scan rules text state at a b (token i n m t won is) (skip j k l won2 is2) =
    let (rule, same_length) = same_winner rules state (drop at text) i n m j k l won won2 in
    let token : Some t ≡ None = cc in
    cc
one_scan rules text state at a b (skip i n m won is) (end past) = absurd (none_at_end rules text state at i n m past won)
one_scan rules text state at a b (skip i n m won is) (bad before none) = absurd (none i n m won.candidate)
one_scan rules text state at a b (skip i n m won is) (token j k l u won2 is2) =
    let (rule, same_length) = same_winner rules state (drop at text) i n m j k l won won2 in
    let token : Some u ≡ None = cc in
    cc
one_scan rules text state at a b (skip i n m won is) (skip j k l won2 is2) =
    let (number, text_length, with_context) = one_winner rules state (drop at text) i n m j k l won won2 in
    let (rule, same_length) = same_winner rules state (drop at text) i n m j k l won won2 in
    rw (rule, number, text_length)
