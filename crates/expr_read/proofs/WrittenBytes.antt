-- The bytes of the strings of an expression, from those of its parts; and those of a list, part by part.
use Rattle.std.proofs.Common.{◌≡◌, ap, sym, ◌∙◌, ℕ, ◌+◌, ◌<◌, List, length, map, drop, get_or, Bor}
use Rattle.std.proofs.lemmas.List.{drop_more}
use Rattle.expr_lang.specs.declared.expr.Op.{Op}
use Rattle.expr_read.specs.Spoken.{Spoken}
use Rattle.expr_read.specs.Strings.{string_bytes, listed_bytes}
use Rattle.expr_read.specs.declared.written.Written.{Written}
use Rattle.expr_read.specs.declared.written.Written.TheOpen.{Written-F}
use Rattle.expr_read.specs.declared.written.Written.TheFolds.{fold-roll-Written}
use Rattle.expr_read.specs.declared.written.Written.TheVariants.{Text, Negative, Negated, Binary, If, Applied, Grouped, rolls-Text}
use Rattle.expr_read.specs.Writing.{spoken_of, node_spoken, spoken_list}
use Rattle.expr_read.proofs.Sayings.{says-Negative, says-Negated, says-Binary, says-If, says-Applied, says-Grouped}

pub in_Text : (e : Written) (bytes : Bor (List ℕ)) → e ≡ Text bytes → string_bytes (spoken_of e) ≡ length bytes.now
in_Text e bytes is =
    ap string_bytes (ap spoken_of is ∙ ap spoken_of (sym (rolls-Text bytes)) ∙ fold-roll-Written Spoken node_spoken (Written-F.Text bytes))

pub in_Negative : (e : Written) (a : Bor Written) → e ≡ Negative a → string_bytes (spoken_of e) ≡ string_bytes (spoken_of a.now)
in_Negative e a is = ap string_bytes (ap spoken_of is ∙ says-Negative a)

pub in_Negated : (e : Written) (a : Bor Written) → e ≡ Negated a → string_bytes (spoken_of e) ≡ string_bytes (spoken_of a.now)
in_Negated e a is = ap string_bytes (ap spoken_of is ∙ says-Negated a)

pub in_Binary : (e : Written) (o : Op) (a b : Bor Written) → e ≡ Binary o a b
    → string_bytes (spoken_of e) ≡ string_bytes (spoken_of a.now) + string_bytes (spoken_of b.now)
in_Binary e o a b is = ap string_bytes (ap spoken_of is ∙ says-Binary o a b)

pub in_If : (e : Written) (c a b : Bor Written) → e ≡ If c a b
    → string_bytes (spoken_of e) ≡ string_bytes (spoken_of c.now) + (string_bytes (spoken_of a.now) + string_bytes (spoken_of b.now))
in_If e c a b is = ap string_bytes (ap spoken_of is ∙ says-If c a b)

abbrev pub bytes_of_list : List Written → ℕ
bytes_of_list list = listed_bytes (spoken_list (map spoken_of list))

pub in_Applied : (e : Written) (w : Bor (List ℕ)) (parts : Bor (List Written)) → e ≡ Applied w parts
    → string_bytes (spoken_of e) ≡ bytes_of_list parts.now
in_Applied e w parts is = ap string_bytes (ap spoken_of is ∙ says-Applied w parts)

pub in_Grouped : (e : Written) (a : Bor Written) → e ≡ Grouped a → string_bytes (spoken_of e) ≡ string_bytes (spoken_of a.now)
in_Grouped e a is = ap string_bytes (ap spoken_of is ∙ says-Grouped a)

-- what is at the place, and what is behind it
pub next_bytes : (list : List Written) (i : ℕ) (x : Written) → i < length list → x ≡ get_or list i x
    → bytes_of_list (drop i list) ≡ string_bytes (spoken_of x) + bytes_of_list (drop (i + 1) list)
next_bytes list i x within is =
    ap bytes_of_list (drop_more list i x within) ∙ ap (λ y. string_bytes (spoken_of y) + bytes_of_list (drop (i + 1) list)) (sym is)
