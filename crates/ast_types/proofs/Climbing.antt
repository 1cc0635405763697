-- What a type is, step by step over its bases.
use Rattle.std.proofs.Common.{◌≡◌, ℕ, ◌≤◌, List, Some, None, refl, sym, ◌∙◌, subst, arith}
use Rattle.ast_types.specs.TypeTable.{TypeTable, NodeType, type_at, IsA, itself, extends, IsSound}

pub same_Some : {A : Type 0} {x y : A} → Some x ≡ Some y → x ≡ y
same_Some e = cc

-- what a type is has no greater number
pub is_before : (table : TypeTable) (t c : ℕ) → IsSound table → IsA table.types t c → c ≤ t
is_before table t _ sound (itself _) = omega arith
is_before table t c sound (extends _ b _ base more) =
    let below = sound.base_before t b base in
    omega (arith, below, is_before table b c sound more)

-- a type other than c is c where its base is
pub climb : (types : List NodeType) (t b c : ℕ) → (type_at types t).base ≡ Some b → (t ≡ c → ⊥) → IsA types t c → IsA types b c
climb types t b _ base other (itself _) = absurd (other refl)
climb types t b c base other (extends _ b2 _ base2 more) = subst (λ x. IsA types x c) (same_Some (sym base2 ∙ base)) more

-- without a base it is itself alone
pub at_top : (types : List NodeType) (t c : ℕ) → (type_at types t).base ≡ None → (t ≡ c → ⊥) → IsA types t c → ⊥
at_top types t _ none other (itself _) = other refl
at_top types t c none other (extends _ b _ base more) = let e : Some b ≡ None = sym base ∙ none in cc
