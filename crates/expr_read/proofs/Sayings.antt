-- What each form of the program's expressions says.
use Rattle.std.proofs.Common.{◌≡◌, ℕ, List, map, Bor, sym, ap, ◌∙◌}
use Rattle.expr_lang.specs.declared.expr.Op.{Op}
use Rattle.expr_read.specs.Spoken.{Spoken, number, name, pair, negative, negated, binary, if_then, applied, grouped}
use Rattle.expr_read.specs.Writing.{spoken_of, node_spoken, spoken_list}
use Rattle.expr_read.specs.declared.written.Written.{Written}
use Rattle.expr_read.specs.declared.written.Written.TheOpen.{Written-F}
use Rattle.expr_read.specs.declared.written.Written.TheFolds.{fold-roll-Written}
use Rattle.expr_read.specs.declared.written.Written.TheVariants.{Number, Name, Pair, Negative, Negated, Binary, If, Applied, Grouped, rolls-Number, rolls-Name, rolls-Pair, rolls-Negative, rolls-Negated, rolls-Binary, rolls-If, rolls-Applied, rolls-Grouped}

pub says-Number : (n : ℕ) → spoken_of (Number n) ≡ number n
says-Number n = ap spoken_of (sym (rolls-Number n)) ∙ fold-roll-Written Spoken node_spoken (Written-F.Number n)

pub says-Name : (w : Bor (List ℕ)) → spoken_of (Name w) ≡ name w.now
says-Name w = ap spoken_of (sym (rolls-Name w)) ∙ fold-roll-Written Spoken node_spoken (Written-F.Name w)

pub says-Pair : (v w : Bor (List ℕ)) → spoken_of (Pair v w) ≡ pair v.now w.now
says-Pair v w = ap spoken_of (sym (rolls-Pair v w)) ∙ fold-roll-Written Spoken node_spoken (Written-F.Pair v w)

pub says-Negative : (a : Bor Written) → spoken_of (Negative a) ≡ negative (spoken_of a.now)
says-Negative a = ap spoken_of (sym (rolls-Negative a)) ∙ fold-roll-Written Spoken node_spoken (Written-F.Negative a)

pub says-Negated : (a : Bor Written) → spoken_of (Negated a) ≡ negated (spoken_of a.now)
says-Negated a = ap spoken_of (sym (rolls-Negated a)) ∙ fold-roll-Written Spoken node_spoken (Written-F.Negated a)

pub says-Binary : (o : Op) (a b : Bor Written) → spoken_of (Binary o a b) ≡ binary o (spoken_of a.now) (spoken_of b.now)
says-Binary o a b = ap spoken_of (sym (rolls-Binary o a b)) ∙ fold-roll-Written Spoken node_spoken (Written-F.Binary o a b)

pub says-If : (c a b : Bor Written) → spoken_of (If c a b) ≡ if_then (spoken_of c.now) (spoken_of a.now) (spoken_of b.now)
says-If c a b = ap spoken_of (sym (rolls-If c a b)) ∙ fold-roll-Written Spoken node_spoken (Written-F.If c a b)

pub says-Applied : (w : Bor (List ℕ)) (parts : Bor (List Written)) → spoken_of (Applied w parts) ≡ applied w.now (spoken_list (map spoken_of parts.now))
says-Applied w parts = ap spoken_of (sym (rolls-Applied w parts)) ∙ fold-roll-Written Spoken node_spoken (Written-F.Applied w parts)

pub says-Grouped : (a : Bor Written) → spoken_of (Grouped a) ≡ grouped (spoken_of a.now)
says-Grouped a = ap spoken_of (sym (rolls-Grouped a)) ∙ fold-roll-Written Spoken node_spoken (Written-F.Grouped a)
