-- The words that name types of values are the four words of items' types.
use Rattle.std.proofs.Common.{◌≡◌, ℕ, zero, suc, ◌<◌, ◌↔◌, Bool, true, false, List, get_or, Contains, Option, Some, None, if◌then◌else◌, refl, sym, subst, arith, codes}
use Rattle.std.specs.Option.{is_some}
use Rattle.std.specs.Str.{bytes_eq}
use Rattle.std.proofs.lemmas.Slice.Eq.{bytes_eq-Decides}
use Rattle.value_store.specs.declared.value.ValType.{ValType}
use Rattle.value_store.specs.declared.value.ValType.TheVariants as ty
use Rattle.expr_read.specs.TypeWords.{type_of_word}
use Rattle.node_spec.specs.AstFaults.{item_words}

-- the type of a word, by which of the four it is
abbrev pub word_by : Bool → Bool → Bool → Bool → Option ValType
word_by a b c d = if a then Some ty.Int else if b then Some ty.Bool else if c then Some ty.Text else if d then Some ty.Map else None

module _ (w : List ℕ) where
  among_by : (a b c d : Bool) → bytes_eq w (codes "int") ≡ a → bytes_eq w (codes "bool") ≡ b → bytes_eq w (codes "text") ≡ c
      → bytes_eq w (codes "map") ≡ d
      → is_some (word_by a b c d) ≡ true → Contains item_words w
  among_by true b c d int bool text map some = (0, omega arith, sym ((bytes_eq-Decides w (codes "int")).0 int))
  among_by false true c d int bool text map some = (1, omega arith, sym ((bytes_eq-Decides w (codes "bool")).0 bool))
  among_by false false true d int bool text map some = (2, omega arith, sym ((bytes_eq-Decides w (codes "text")).0 text))
  among_by false false false true int bool text map some = (3, omega arith, sym ((bytes_eq-Decides w (codes "map")).0 map))
  among_by false false false false int bool text map some = absurd (let none : false ≡ true = some in cc)

  some_by : (k : ℕ) → k < 4 → get_or item_words k w ≡ w → is_some (type_of_word w) ≡ true
  some_by zero less is = subst (λ v. is_some (type_of_word v) ≡ true) is refl
  some_by (suc zero) less is = subst (λ v. is_some (type_of_word v) ≡ true) is refl
  some_by (suc (suc zero)) less is = subst (λ v. is_some (type_of_word v) ≡ true) is refl
  some_by (suc (suc (suc zero))) less is = subst (λ v. is_some (type_of_word v) ≡ true) is refl
  some_by (suc (suc (suc (suc k)))) less is = absurd (omega (arith, less))

  pub word_among : (is_some (type_of_word w) ≡ true) ↔ Contains item_words w
  word_among = (
    among_by (bytes_eq w (codes "int")) (bytes_eq w (codes "bool")) (bytes_eq w (codes "text")) (bytes_eq w (codes "map"))
        refl refl refl refl,
    (λ (k, within, is). some_by k within is),
  )
