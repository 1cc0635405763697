-- The text of an instance by those of its operands, and texts that are begun.
use Rattle.std.proofs.Common.{◌≡◌, ℕ, zero, suc, ◌+◌, ◌<◌, ◌≤◌, List, [], ◌∷◌, ◌++◌, length, drop, flat_map, Option, Some, None, arith, refl, sym, ap, ◌∙◌, append_assoc, drop_of_length-le}
use Rattle.std.specs.Prelude.{slice_get}
use Rattle.beg_model.specs.Rules.{Emitted, bytes, own_register, operand, field}
use Rattle.beg_model.proofs.PatternsInRow.{drop_here}
use Rattle.beg_registers.specs.Code.{Listed, held_at, emitted_at, operand_of, register_name, text_or_name, operand_said, said, text_to, text_at}
use Rattle.beg_registers.specs.within.Begun.{left_of}
use Rattle.beg_registers.specs.declared.emitting.Begun.{Begun}

flat_map-same : {X A : Type 0} (f g : X → List A) (xs : List X) → ((x : X) → f x ≡ g x) → flat_map f xs ≡ flat_map g xs
flat_map-same f g [] e = refl
flat_map-same f g (x ∷ xs) e = let here = e x in let more = flat_map-same f g xs e in (cc)

-- operands stand before the instance that has them
abbrev pub OperandsBefore : Listed → Type 0
OperandsBefore of = (p n o : ℕ) → operand_of (slice_get of.list p) n ≡ Some o → o < p

operand_same : (of : Listed) (t u : ℕ → List ℕ) (o : Option ℕ) → ((q : ℕ) → o ≡ Some q → t q ≡ u q) → operand_said of t o ≡ operand_said of u o
operand_same of t u None same = refl
operand_same of t u (Some q) same = ap (λ z. text_or_name (held_at of q) z (register_name of q)) (same q refl)

said_same : (of : Listed) → OperandsBefore of → (t u : ℕ → List ℕ) (p : ℕ) → ((o : ℕ) → o < p → t o ≡ u o) → (x : Emitted) → said of t p x ≡ said of u p x
said_same of before t u p same (bytes bs) = refl
said_same of before t u p same own_register = refl
said_same of before t u p same (operand n) = operand_same of t u (operand_of (slice_get of.list p) n) (λ o is. same o (before p n o is))
said_same of before t u p same (field k) = refl

-- a text is the same however much deeper texts may stand
deeper : (of : Listed) → OperandsBefore of → (d e p : ℕ) → p < d → p < e → text_to of d p ≡ text_to of e p
deeper of before zero e p lt le = absurd (omega (arith, lt))
deeper of before (suc d) zero p lt le = absurd (omega (arith, le))
deeper of before (suc d) (suc e) p lt le =
    flat_map-same (said of (text_to of d) p) (said of (text_to of e) p) (emitted_at of p)
    (said_same of before (text_to of d) (text_to of e) p (λ o small. deeper of before d e o (omega (arith, small, lt)) (omega (arith, small, le))))

-- a text is what its pieces say, where its operands have their texts
pub text_is : (of : Listed) → OperandsBefore of → (p : ℕ) → p < length of.list → text_at of p ≡ flat_map (said of (text_at of) p) (emitted_at of p)
text_is of before p lt = deeper of before (length of.list) (suc (length of.list)) p lt (omega (arith, lt))

-- nothing is left of a text whose pieces are all written
pub left_none : (of : Listed) (b : Begun) (bs : List Begun) → length (emitted_at of b.instance) ≤ b.piece → left_of of (b ∷ bs) ≡ left_of of bs
left_none of b bs all = ap (λ z. flat_map (said of (text_at of) b.instance) z ++ left_of of bs) (drop_of_length-le (emitted_at of b.instance) all)

-- a piece is left, and those behind it
pub left_piece : (of : Listed) (p k : ℕ) (x : Emitted) (bs : List Begun) → slice_get (emitted_at of p) k ≡ Some x
    → left_of of (record { instance = p; piece = k } ∷ bs) ≡ said of (text_at of) p x ++ left_of of (record { instance = p; piece = k + 1 } ∷ bs)
left_piece of p k x bs is =
    ap (λ z. flat_map (said of (text_at of) p) z ++ left_of of bs) (drop_here (emitted_at of p) k x is)
    ∙ append_assoc (said of (text_at of) p x) (flat_map (said of (text_at of) p) (drop (k + 1) (emitted_at of p))) (left_of of bs)

-- all is left of a text that was just begun
pub left_whole : (of : Listed) → OperandsBefore of → (p : ℕ) (bs : List Begun) → p < length of.list
    → left_of of (record { instance = p; piece = 0 } ∷ bs) ≡ text_at of p ++ left_of of bs
left_whole of before p bs lt = ap (λ z. z ++ left_of of bs) (sym (text_is of before p lt))
