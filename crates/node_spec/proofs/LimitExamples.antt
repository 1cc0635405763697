-- Tried cases of limits: the items of a base count, and the 129th family is past the limit.
use Rattle.std.proofs.Common.{◌≡◌, ℕ, zero, suc, ◌+◌, ◌<◌, ◌≤◌, List, [], ◌∷◌, length, take, map, refl, ap, arith, codes}
use Rattle.ast_types.specs.Items.{field_types}
use Rattle.ck_base.specs.declared.fault.Kind.TheVariants.{Limit}
use Rattle.cfg_model.specs.declared.named.NamedGrammar.{NamedGrammar}
use Rattle.section_frame.specs.Declares.{Declared}
use Rattle.node_spec.specs.AstShapes.{AstSaying, SaidItem, family, a_type}
use Rattle.node_spec.specs.AstTables.{families_in, family_names, item_of}
use Rattle.node_spec.specs.AstFaults.{AstFault, row_at, too_many_families, too_many_fields}

-- so many families
pub many : ℕ → List (Declared AstSaying)
many zero = []
many (suc n) = record { number = n; said = family [] } ∷ many n

count : (n : ℕ) → length (families_in (many n)) ≡ n
unfolding many
count zero = refl
count (suc n) = ap suc (count n)

few : (k n : ℕ) → length (families_in (take k (many n))) ≤ k
unfolding many
few zero n = omega arith
few (suc k) zero = omega arith
few (suc k) (suc n) = let less = few k n in omega (arith, less)

all : (n : ℕ) → take n (many n) ≡ many n
unfolding many
all zero = refl
all (suc n) = ap (λ l. record { number = n; said = family [] } ∷ l) (all n)

pub past_129 : (g : NamedGrammar) → AstFault g (many 129) Limit 128 (family [])
past_129 g =
    too_many_families 128 (family [])
    (let whole = ap (λ l. length (families_in l)) (all 129) in let n = count 129 in omega (arith, whole, n))

not_past_128 : 128 < length (families_in (take (127 + 1) (many 129))) → ⊥
not_past_128 more = let most = few 128 129 in omega (arith, more, most)

-- a type with some fields, and one over it with others
abbrev item : SaidItem
item = record { name = codes "i"; of = codes "int" }

abbrev four : List SaidItem
four = item ∷ item ∷ item ∷ item ∷ []

abbrev two_types : List (Declared AstSaying)
two_types =
    record { number = 1; said = family (codes "f") } ∷ record { number = 2; said = a_type (codes "a") (codes "f") four }
    ∷ record { number = 3; said = a_type (codes "b") (codes "a") (item ∷ four) } ∷ []

abbrev fields_over : List SaidItem → ℕ
fields_over own = length (field_types (map (item_of (family_names two_types)) (row_at two_types 2 (codes "b") (codes "a") own).items))

nine : fields_over (item ∷ four) ≡ 9
nine = refl

-- five fields of its own are few, but the base has four
pub base_counts : (g : NamedGrammar) → AstFault g two_types Limit 2 (a_type (codes "b") (codes "a") (item ∷ four))
base_counts g = too_many_fields 2 (codes "b") (codes "a") (item ∷ four) (let n = nine in omega (arith, n))

eight : fields_over four ≡ 8
eight = refl
