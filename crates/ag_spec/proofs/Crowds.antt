-- One line more, and the attributes of its family are counted.
use Rattle.std.proofs.Common.{◌≡◌, ℕ, ◌+◌, ◌<◌, ◌≤◌, ◌⊎◌, inl, inr, ◌↔◌, IsTrue, Bool, true, false, if◌then◌else◌, List, [], ◌∷◌, ◌++◌, length, take, refl, sym, ap, ◌∙◌, Some, None, subst, arith, length-append, append-nil}
use Rattle.std.specs.List.{slice_get}
use Rattle.std.specs.Prelude.{slice_index}
use Rattle.std.proofs.lemmas.Bool.{eq-eqb, eqb-true}
use Rattle.ast_types.specs.TypeTable.{TypeTable}
use Rattle.ck_base.specs.Numbered.{number_of}
use Rattle.section_frame.specs.Declares.{Declared}
use Rattle.spec_text.proofs.Lists.{take_step, order}
use Rattle.node_model.specs.TypeNames.{names_of_families}
use Rattle.ag_model.specs.declared.attribution.Attribute.{Attribute}
use Rattle.ag_spec.specs.AgShapes.{AgSaying, SaidAttribute, attribute, equation}
use Rattle.ag_spec.specs.AgAttributes.{attribute_by, attribute_then, attributes_for, is_number}
use Rattle.ag_spec.specs.AgFaults.{IsCrowded}
use Rattle.ag_spec.specs.within.Counts.{AreCounts, IsRaised, family_said}

module _ (table : TypeTable) where
  -- the attribute of a line stands before others, or isn't there
  then_append : (x : ℕ) (said : AgSaying) (xs ys : List Attribute)
      → attribute_then table x said (xs ++ ys) ≡ attribute_then table x said xs ++ ys
  then_append x (equation said) xs ys = refl
  then_append x (attribute said) xs ys =
      elim (is_number (number_of (names_of_families table) said.family) x)
      as (λ b. (if b then (attribute_by table said ∷ xs ++ ys) else (xs ++ ys)) ≡ (if b then (attribute_by table said ∷ xs) else xs) ++ ys) [
        | true ↦ refl
        | false ↦ refl
      ]

  pub for_append : (ds es : List (Declared AgSaying)) (x : ℕ)
      → attributes_for table (ds ++ es) x ≡ attributes_for table ds x ++ attributes_for table es x
  for_append [] es x = refl
  for_append (d ∷ ds) es x =
      ap (attribute_then table x d.said) (for_append ds es x)
      ∙ then_append x d.said (attributes_for table ds x) (attributes_for table es x)

  -- whether a family is that of a line
  other_number : (f x : ℕ) → (f ≡ x → ⊥) → is_number (Some f) x ≡ false
  other_number f x apart = by (is_number (Some f) x) refl
    where
      by : (b : Bool) → is_number (Some f) x ≡ b → is_number (Some f) x ≡ false
      by true is = absurd (apart (eqb-true f x is))
      by false is = is

  same_number : (f : ℕ) → is_number (Some f) f ≡ true
  same_number f = eq-eqb f f refl

  module _ (ds : List (Declared AgSaying)) (i : ℕ) (d : Declared AgSaying) (at : slice_get ds i ≡ Some d) where
    one_line : (x : ℕ) → attributes_for table (take (i + 1) ds) x ≡ attributes_for table (take i ds) x ++ attribute_then table x d.said []
    one_line x = ap (λ l. attributes_for table l x) (take_step ds i d at) ∙ for_append (take i ds) (d ∷ []) x

    -- a line that is of no family
    module _ (none : (x : ℕ) → attribute_then table x d.said [] ≡ []) where
      unchanged : (x : ℕ) → attributes_for table (take (i + 1) ds) x ≡ attributes_for table (take i ds) x
      unchanged x = one_line x ∙ ap (λ l. attributes_for table (take i ds) x ++ l) (none x) ∙ append-nil (attributes_for table (take i ds) x)

      pub stays : (counts : List ℕ) → AreCounts table (take i ds) counts i → AreCounts table (take (i + 1) ds) counts (i + 1)
      stays counts so = record {
        each = so.each;
        count = λ x less. so.count x less ∙ sym (ap length (unchanged x));
        few = λ x. (let e = ap length (unchanged x) in let f = so.few x in omega (arith, e, f));
      }

    -- a line of the family f
    module _ (line : SaidAttribute) (f : ℕ) (is : d.said ≡ attribute line)
        (number : number_of (names_of_families table) line.family ≡ Some f) where
      then_is : (x : ℕ) → attribute_then table x d.said [] ≡ (if is_number (Some f) x then (attribute_by table line ∷ []) else [])
      then_is x =
          ap (λ s. attribute_then table x s []) is
          ∙ ap (λ o. if is_number o x then (attribute_by table line ∷ []) else []) number

      added : attributes_for table (take (i + 1) ds) f ≡ attributes_for table (take i ds) f ++ attribute_by table line ∷ []
      added =
          one_line f ∙ ap (λ l. attributes_for table (take i ds) f ++ l) (then_is f
          ∙ ap (λ b. if b then (attribute_by table line ∷ []) else []) (same_number f))

      others : (x : ℕ) → (f ≡ x → ⊥) → attributes_for table (take (i + 1) ds) x ≡ attributes_for table (take i ds) x
      others x apart =
          one_line x ∙ ap (λ l. attributes_for table (take i ds) x ++ l) (then_is x
          ∙ ap (λ b. if b then (attribute_by table line ∷ []) else []) (other_number f x apart))
          ∙ append-nil (attributes_for table (take i ds) x)

      one_longer : length (attributes_for table (take (i + 1) ds) f) ≡ length (attributes_for table (take i ds) f) + 1
      one_longer = ap length added ∙ length-append (attributes_for table (take i ds) f) (attribute_by table line ∷ [])

      module _ (old new : List ℕ) (so : AreCounts table (take i ds) old i) (up : IsRaised old new f) (within : f < length old) where
        pub count_now : slice_index new f ≡ length (attributes_for table (take (i + 1) ds) f)
        count_now = up.here ∙ ap (λ n. n + 1) (so.count f within) ∙ sym one_longer

        pub raises : AreCounts table (take (i + 1) ds) new (i + 1)
        raises = record {
          each = up.each ∙ so.each;
          count = λ x less. count x (let e = up.each in omega (arith, e, less)) (order f x);
          few = λ x. few x (order f x);
        }
          where
            count : (x : ℕ) → x < length old → (f < x) ⊎ ((x < f) ⊎ (f ≡ x)) → slice_index new x ≡ length (attributes_for table (take (i + 1) ds) x)
            count x less (inl below) = other x less (λ same. omega (arith, below, same))
              where
                other : (x : ℕ) → x < length old → (f ≡ x → ⊥) → slice_index new x ≡ length (attributes_for table (take (i + 1) ds) x)
                other x less apart = up.others x (λ same. apart (sym same)) ∙ so.count x less ∙ sym (ap length (others x apart))
            count x less (inr (inl above)) =
                let apart : f ≡ x → ⊥ = λ same. omega (arith, above, same) in
                up.others x (λ same. apart (sym same)) ∙ so.count x less ∙ sym (ap length (others x apart))
            count x less (inr (inr same)) = subst (λ y. slice_index new y ≡ length (attributes_for table (take (i + 1) ds) y)) same count_now

            few : (x : ℕ) → (f < x) ⊎ ((x < f) ⊎ (f ≡ x)) → length (attributes_for table (take (i + 1) ds) x) ≤ i + 1
            few x (inl below) = let e = ap length (others x (λ same. omega (arith, below, same))) in let n = so.few x in omega (arith, e, n)
            few x (inr (inl above)) = let e = ap length (others x (λ same. omega (arith, above, same))) in let n = so.few x in omega (arith, e, n)
            few x (inr (inr same)) = subst (λ y. length (attributes_for table (take (i + 1) ds) y) ≤ i + 1) same
                (let e = one_longer in let n = so.few f in omega (arith, e, n))

        pub finds : (count : ℕ) → count ≡ slice_index new f → (hit : Bool) → IsTrue hit ↔ (16 < count) → IsTrue hit ↔ IsCrowded table ds i d.said
        finds count is_count hit means = (
          λ yes. record { line = line; family = f; is = is; number = number; more = (let m = means.0 yes in let e = is_count ∙ count_now in omega (arith, m, e)) },
          λ crowd. means.1 (more crowd),
        )
          where
            more : IsCrowded table ds i d.said → 16 < count
            more crowd =
                let same : line ≡ crowd.line = (let e = sym is ∙ crowd.is in cc) in
                let numbers : Some f ≡ Some crowd.family = sym number ∙ ap (λ l. number_of (names_of_families table) l.family) same ∙ crowd.number in
                let one : f ≡ crowd.family = cc in
                let long = subst (λ y. 16 < length (attributes_for table (take (i + 1) ds) y)) (sym one) crowd.more in
                let e = is_count ∙ count_now in omega (arith, long, e)

  -- what a line is whose family has a number, or has none
  pub record OfFamily (said : AgSaying) (f : ℕ) : Type 0 where
    pub line : SaidAttribute
    pub is : said ≡ attribute line
    pub number : number_of (names_of_families table) line.family ≡ Some f

  pub of_family : (said : AgSaying) (f : ℕ) → Some f ≡ family_said table said → OfFamily said f
  of_family (attribute line) f is = record { line = line; is = refl; number = sym is }
  of_family (equation line) f is = cc

  pub none_then : (said : AgSaying) → None ≡ family_said table said → (x : ℕ) → attribute_then table x said [] ≡ []
  none_then (equation line) is x = refl
  none_then (attribute line) is x = ap (λ o. if is_number o x then (attribute_by table line ∷ []) else []) (sym is)

  pub never : (said : AgSaying) → None ≡ family_said table said → (ds : List (Declared AgSaying)) (i : ℕ)
      → IsTrue false ↔ IsCrowded table ds i said
  never said is ds i = (λ hit. cc, λ crowd. absurd (not_crowded crowd))
    where
      not_crowded : IsCrowded table ds i said → ⊥
      not_crowded crowd = let e : None ≡ Some crowd.family = is ∙ ap (family_said table) crowd.is ∙ crowd.number in cc
