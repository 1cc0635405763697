-- One kind of fault after the other: the first of them, or none.
use Rattle.std.proofs.Common.{◌≡◌, ℕ, ◌<◌, ◌≤◌, ◌⊎◌, inl, inr, ◌↔◌, IsTrue, Bool, true, false, min, List, Option, Some, None, MatchOption, Result, Ok, Err, IfErr, refl, sym, subst, arith}
use Rattle.ck_base.specs.declared.fault.Kind.{Kind}
use Rattle.ck_base.specs.declared.fault.Kind.TheVariants.{Limit, Twice, Unknown, Typing}
use Rattle.ck_base.specs.declared.fault.SpecFault.{SpecFault}
use Rattle.ck_base.specs.declared.fault.SpecFault.TheVariants.{Bad, NoMemory}
use Rattle.section_frame.specs.Declares.{Declared, Notation, HasFault, IsShapeFault, judged_at, judged}
use Rattle.spec_text.specs.Least.{Least}
use Rattle.section_frame.specs.FirstFault.{Judged, of_shape, of_kind, Accepts}
use Rattle.spec_text.specs.Lines.{Line}
use Rattle.section_frame.proofs.KindOrder.{HasNone, before_twice, before_unknown, before_typing, before_limit, accepted}
use Rattle.spec_text.proofs.Lists.{order}
use Rattle.section_frame.specs.Passes.{FirstWith}
use Rattle.section_frame.specs.Stages.{FirstOf, of_twice, of_unknown, of_typing, of_limit, FirstOfKind, IsFirstIn, at_head_or}

-- the first fault of a section of any notation, from the first line of each kind
module _ {D : Type 0} (s : Judged D) (declared : D) (all : s.Declares declared) where
  none_found : (kind : Kind) (found : Option ℕ) → FirstOfKind s declared kind found → found ≡ None → HasNone s declared kind
  none_found kind None none is = none
  none_found kind (Some line) least is = cc

  line_found : (kind : Kind) (found : Option ℕ) (line : ℕ) → FirstOfKind s declared kind found → found ≡ Some line
      → Least (s.Has declared kind) line
  line_found kind None line none is = cc
  line_found kind (Some n) line least is = subst (Least (s.Has declared kind)) (cc) least

  -- where no other kind was looked for yet
  pub twice_first : (twice : Option ℕ) → FirstOfKind s declared Twice twice → (fault : SpecFault) → FirstOf twice None None None fault
      → IsFirstIn s fault
  twice_first twice a _ (of_twice line is) =
      of_kind declared line Twice all (omega arith) (before_twice s declared) (line_found Twice twice line a is)
  twice_first twice a _ (of_unknown line no_twice is) = cc
  twice_first twice a _ (of_typing line no_twice no_unknown is) = cc
  twice_first twice a _ (of_limit line no_twice no_unknown no_typing is) = cc

  module _ (twice unknown typing limit : Option ℕ) (a : FirstOfKind s declared Twice twice) (b : FirstOfKind s declared Unknown unknown)
      (c : FirstOfKind s declared Typing typing) (d : FirstOfKind s declared Limit limit) where
    pub first_of_kinds : (fault : SpecFault) → FirstOf twice unknown typing limit fault → IsFirstIn s fault
    first_of_kinds _ (of_twice line is) =
        of_kind declared line Twice all (omega arith) (before_twice s declared) (line_found Twice twice line a is)
    first_of_kinds _ (of_unknown line no_twice is) =
        of_kind declared line Unknown all (omega arith) (before_unknown s declared (none_found Twice twice a no_twice))
        (line_found Unknown unknown line b is)
    first_of_kinds _ (of_typing line no_twice no_unknown is) =
        of_kind declared line Typing all (omega arith)
        (before_typing s declared (none_found Twice twice a no_twice) (none_found Unknown unknown b no_unknown))
        (line_found Typing typing line c is)
    first_of_kinds _ (of_limit line no_twice no_unknown no_typing is) =
        of_kind declared line Limit all (omega arith)
        (before_limit s declared (none_found Twice twice a no_twice) (none_found Unknown unknown b no_unknown)
        (none_found Typing typing c no_typing))
        (line_found Limit limit line d is)

    pub none_of_kinds : (twice ≡ None) × (unknown ≡ None) × (typing ≡ None) × (limit ≡ None) → Accepts s declared
    none_of_kinds clean =
        accepted s declared all (none_found Twice twice a clean.0) (none_found Unknown unknown b clean.1)
        (none_found Typing typing c clean.2) (none_found Limit limit d clean.3)

-- a section whose head may be at fault too
module _ {S : Type 0} (n : Notation S) (head : ℕ) (AtHead : List (Declared S) → Kind → Type 0) (lines : List Line)
    (ds : List (Declared S)) (kind : Kind) where
  abbrev HasOf : ℕ → Type 0
  HasOf line = HasFault n ds kind line ⊎ ((line ≡ head) × AtHead ds kind)

  -- of a kind of which the head is not
  pub not_at_head : (AtHead ds kind → ⊥) → (found : Option ℕ) → FirstWith ds (n.Fault ds kind) found
      → FirstOfKind (judged_at n head AtHead lines) ds kind found
  not_at_head never None none = λ line has. by line has
    where
      by : (line : ℕ) → HasOf line → ⊥
      by line (inl has) = none line has
      by line (inr at) = never at.1
  not_at_head never (Some line) least = record { is = inl least.is; least = λ m has. by m has }
    where
      by : (m : ℕ) → HasOf m → line ≤ m
      by m (inl has) = least.least m has
      by m (inr at) = absurd (never at.1)

  -- of a kind of which the head may be
  pub at_head : (is : Bool) → IsTrue is ↔ AtHead ds kind → (found : Option ℕ) → FirstWith ds (n.Fault ds kind) found
      → FirstOfKind (judged_at n head AtHead lines) ds kind (at_head_or is head found)
  at_head false means found first = not_at_head (λ at. let e = means.1 at in cc) found first
  at_head true means None none = record { is = inr (refl, means.0 refl); least = λ m has. by m has }
    where
      by : (m : ℕ) → HasOf m → head ≤ m
      by m (inl has) = absurd (none m has)
      by m (inr at) = let same = at.0 in omega (arith, same)
  at_head true means (Some line) least = record { is = which (order head line); least = λ m has. by m has }
    where
      which : (head < line) ⊎ ((line < head) ⊎ (head ≡ line)) → HasOf (min head line)
      which (inl less) = let is : head ≡ min head line = omega (arith, less) in subst HasOf is (inr (refl, means.0 refl))
      which (inr (inl less)) = let is : line ≡ min head line = omega (arith, less) in subst HasOf is (inl least.is)
      which (inr (inr same)) = let is : head ≡ min head line = omega (arith, same) in subst HasOf is (inr (refl, means.0 refl))

      by : (m : ℕ) → HasOf m → min head line ≤ m
      by m (inl has) = let less = least.least m has in omega (arith, less)
      by m (inr at) = let same = at.0 in omega (arith, same)

-- the first line without a shape, in a section whose head may be at fault, and in any other
pub shapeless_at : {S : Type 0} (n : Notation S) (head : ℕ) (AtHead : List (Declared S) → Kind → Type 0) (lines : List Line) (fault : SpecFault)
    → IsShapeFault n.Shape lines fault → IsFirstIn (judged_at n head AtHead lines) fault
shapeless_at n head AtHead lines (Bad number kind) is = of_shape number kind is.0 is.1
shapeless_at n head AtHead lines NoMemory is = tt

pub shapeless : {S : Type 0} (n : Notation S) (lines : List Line) (fault : SpecFault)
    → IsShapeFault n.Shape lines fault → IsFirstIn (judged n lines) fault
shapeless n lines (Bad number kind) is = of_shape number kind is.0 is.1
shapeless n lines NoMemory is = tt

-- the first of the kinds with a line
module _ (twice unknown typing limit : Option ℕ) (fault : SpecFault) where
  pub found_twice : MatchOption twice ⊥ (λ line. fault ≡ Bad line Twice) → FirstOf twice unknown typing limit fault
  found_twice is = by twice refl is
    where
      by : (found : Option ℕ) → twice ≡ found → MatchOption found ⊥ (λ line. fault ≡ Bad line Twice) → FirstOf twice unknown typing limit fault
      by None at is = elim is [ ]
      by (Some line) at is = subst (FirstOf twice unknown typing limit) (sym is) (of_twice line at)

  module _ (no_twice : twice ≡ None) where
    pub found_unknown : MatchOption unknown ⊥ (λ line. fault ≡ Bad line Unknown) → FirstOf twice unknown typing limit fault
    found_unknown is = by unknown refl is
      where
        by : (found : Option ℕ) → unknown ≡ found → MatchOption found ⊥ (λ line. fault ≡ Bad line Unknown) → FirstOf twice unknown typing limit fault
        by None at is = elim is [ ]
        by (Some line) at is = subst (FirstOf twice unknown typing limit) (sym is) (of_unknown line no_twice at)

    module _ (no_unknown : unknown ≡ None) where
      pub found_typing : MatchOption typing ⊥ (λ line. fault ≡ Bad line Typing) → FirstOf twice unknown typing limit fault
      found_typing is = by typing refl is
        where
          by : (found : Option ℕ) → typing ≡ found → MatchOption found ⊥ (λ line. fault ≡ Bad line Typing) → FirstOf twice unknown typing limit fault
          by None at is = elim is [ ]
          by (Some line) at is = subst (FirstOf twice unknown typing limit) (sym is) (of_typing line no_twice no_unknown at)

      pub found_limit : typing ≡ None → MatchOption limit ⊥ (λ line. fault ≡ Bad line Limit) → FirstOf twice unknown typing limit fault
      found_limit no_typing is = by limit refl is
        where
          by : (found : Option ℕ) → limit ≡ found → MatchOption found ⊥ (λ line. fault ≡ Bad line Limit) → FirstOf twice unknown typing limit fault
          by None at is = elim is [ ]
          by (Some line) at is = subst (FirstOf twice unknown typing limit) (sym is) (of_limit line no_twice no_unknown no_typing at)

-- what is known of an error, by another word
pub err_as : {T E : Type 0} (r : Result T E) (P Q : E → Type 0) → ((e : E) → P e → Q e) → IfErr r P → IfErr r Q
err_as (Ok x) P Q to is = tt
err_as (Err e) P Q to is = to e is
