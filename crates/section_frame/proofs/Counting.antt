-- Counts of lines, and of names, line by line.
use Rattle.std.proofs.Common.{◌≡◌, ℕ, ◌+◌, ◌<◌, ◌≤◌, ◌↔◌, IsTrue, Bool, false, List, [], ◌∷◌, ◌++◌, length, take, sym, ap, ◌∙◌, subst, Option, Some, None, MatchOption, ltb, min, refl, arith, rules}
use Rattle.std.specs.Borrow.{Bor}
use Rattle.std.specs.List.{slice_get}
use Rattle.ck_base.specs.Numbered.{met}
use Rattle.ck_base.proofs.NamesMet.{met-append, length-met}
use Rattle.section_frame.specs.Declares.{Declared, HasAt}
use Rattle.spec_text.proofs.Lists.{take_step, take_all}
use Rattle.spec_text.proofs.Parting.{some_at}
use Rattle.section_frame.specs.Words.{name_before, names_by, sum_by, IsPast, ArePast, read_name}
use Rattle.section_frame.proofs.Named.{next_names}

module _ {S : Type 0} (adds : S → ℕ) where
  sum_by-append : (xs ys : List (Declared S)) → sum_by adds (xs ++ ys) ≡ sum_by adds xs + sum_by adds ys
  sum_by-append [] ys = omega arith
  sum_by-append (d ∷ xs) ys = let more = sum_by-append xs ys in omega (arith, more)

  pub next_sum : (ds : List (Declared S)) (i : ℕ) (d : Declared S) → slice_get ds i ≡ Some d
      → sum_by adds (take (i + 1) ds) ≡ sum_by adds (take i ds) + adds d.said
  next_sum ds i d at =
      let step = ap (sum_by adds) (take_step ds i d at) in
      let split = sum_by-append (take i ds) (d ∷ []) in omega (arith, step, split)

  module _ (ds : List (Declared S)) (i : ℕ) (d : Declared S) (at : slice_get ds i ≡ Some d) (old new limit : ℕ)
      (are : old ≡ sum_by adds (take i ds)) (is : new ≡ old + adds d.said) (found : Bool) (means : IsTrue found ↔ (limit < new)) where
    sum_is : new ≡ sum_by adds (take (i + 1) ds)
    sum_is = is ∙ ap (λ n. n + adds d.said) are ∙ sym (next_sum ds i d at)

    pub is_past : IsTrue found ↔ IsPast adds limit ds i
    is_past = (λ hit. subst (λ n. limit < n) sum_is (means.0 hit), λ past. means.1 (subst (λ n. limit < n) (sym sum_is) past))

    pub not_past : found ≡ false → (new ≡ sum_by adds (take (i + 1) ds)) × (new ≤ limit)
    not_past missed = (sum_is, at_most new limit (λ more. let e = means.1 more in cc))
      where
        at_most : (n most : ℕ) → (most < n → ⊥) → n ≤ most
        at_most n most none = omega (arith, none)

-- what a line adds beyond the limit doesn't matter
pub capped_sum : {S : Type 0} (adds capped : S → ℕ) (limit : ℕ) → ((said : S) → capped said ≡ min (adds said) (limit + 1))
    → (ds : List (Declared S)) → (limit < sum_by capped ds) ↔ (limit < sum_by adds ds)
capped_sum {S} adds capped limit is ds =
    (λ past. let same = sums ds in omega (arith, same, past), λ past. let same = sums ds in omega (arith, same, past))
  where
    sums : (ds : List (Declared S)) → min (sum_by capped ds) (limit + 1) ≡ min (sum_by adds ds) (limit + 1)
    sums [] = refl
    sums (d ∷ ds) = let more = sums ds in let one = is d.said in omega (arith, more, one)

-- where no line is past the limit the whole isn't
pub all_within : {S : Type 0} (adds : S → ℕ) (limit : ℕ) (ds : List (Declared S))
    → ((line : ℕ) → HasAt ds (λ i said. IsPast adds limit ds i) line → ⊥) → sum_by adds ds ≤ limit
all_within adds limit [] none = omega arith
all_within adds limit (d ∷ ds) none = within (sum_by adds (d ∷ ds)) (λ more.
    let last = some_at (d ∷ ds) (length ds) (omega arith) in
    none last.0.number (record {
      place = length ds;
      declared = last.0;
      is = last.1;
      number = refl;
      fault = subst (λ l. limit < sum_by adds l) (sym (take_all (d ∷ ds) (length ds + 1) (omega arith))) more;
    }))
  where
    within : (n : ℕ) → (limit < n → ⊥) → n ≤ limit
    within n none = omega (arith, none)

module _ {S : Type 0} (name : S → Option (List ℕ)) (ds : List (Declared S)) (i : ℕ) (d : Declared S) (at : slice_get ds i ≡ Some d)
    (old new : List (List ℕ)) where
  one_at_most : (o : Option (List ℕ)) → length (name_before o []) ≤ 1
  one_at_most None = omega arith
  one_at_most (Some n) = omega arith

  module _ (is : new ≡ met old (name_before (name d.said) [])) where
    -- a line's name is met behind those of the lines before
    pub names_met : (first : List (List ℕ)) → old ≡ met first (names_by name (take i ds)) → new ≡ met first (names_by name (take (i + 1) ds))
    names_met first are =
        is ∙ ap (λ l. met l (name_before (name d.said) [])) are
        ∙ sym (ap (met first) (next_names name ds i d at) ∙ met-append first (names_by name (take i ds)) (name_before (name d.said) []))

    pub names_few : (most : ℕ) → length old ≤ most → length new ≤ most + 1
    names_few most few = rw is (let long = length-met old (name_before (name d.said) []) in let one = one_at_most (name d.said) in omega (arith, long, one, few))

    pub names_past : old ≡ met [] (names_by name (take i ds)) → (before limit : ℕ) (found : Bool) → IsTrue found ↔ (limit < before + length new)
        → IsTrue found ↔ ArePast name before limit ds i
    names_past are before limit found means = (
      λ hit. subst (λ l. limit < before + length l) (names_met [] are) (means.0 hit),
      λ past. means.1 (subst (λ l. limit < before + length l) (sym (names_met [] are)) past),
    )

-- the test of two numbers
pub is_above : (from limit n : ℕ) → from ≡ limit → IsTrue (ltb from n) ↔ (limit < n)
is_above from limit n is = search rules

-- the name as it is read
pub named : (found : Option (Bor (List ℕ))) (name : Option (List ℕ)) → MatchOption found (name ≡ None) (λ n. name ≡ Some n.now)
    → read_name found ≡ name
named None name is = sym is
named (Some n) name is = sym is
