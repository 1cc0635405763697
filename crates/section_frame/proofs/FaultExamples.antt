-- Parts of a line, what lines declare and the first fault, tried where the nearest wrong reading differs.
use Rattle.std.proofs.Common.{◌≡◌, ℕ, zero, suc, ◌≤◌, List, [], ◌∷◌, refl, ap, Some, None, codes, arith}
use Rattle.std.specs.List.{slice_get}
use Rattle.ck_base.specs.declared.fault.Kind.{Kind}
use Rattle.ck_base.specs.declared.fault.Kind.TheVariants.{Limit, Twice}
use Rattle.section_frame.specs.Declares.{Declared, Notation, Says, DeclareAll, no_lines, one_line, HasNoShape, judged}
use Rattle.section_frame.specs.FirstFault.{Judged, FirstFault, of_shape, of_kind}
use Rattle.spec_text.specs.Lexemes.{Lexeme, word, sign}
use Rattle.spec_text.specs.Lines.{Line}
use Rattle.section_frame.specs.Parts.{Part, Name, Opt, absent, ListBy, ListOf, last, next}
use Rattle.section_frame.proofs.KindOrder.{before_twice}

-- a list isn't empty
pub no_empty_list : {V : Type 0} (sep : Lexeme) (P : Part V) (tokens rest : List Lexeme) → ListBy sep P tokens [] rest → ⊥
no_empty_list {V} sep P tokens rest is = by tokens rest [] is refl
  where
    by : (tokens rest : List Lexeme) (vs : List V) → ListBy sep P tokens vs rest → vs ≡ [] → ⊥
    by _ _ _ (last tokens rest v is) none = cc
    by _ _ _ (next tokens after rest v vs is others) none = cc

-- a part needn't be as long as it can be: of `a, b` the list may be `a`, and a name that may be missing may be so
abbrev pub a_and_b : List Lexeme
a_and_b = word (codes "a") ∷ sign (codes ",") ∷ word (codes "b") ∷ []

pub shorter_parts : ListOf Name a_and_b (codes "a" ∷ codes "b" ∷ []) [] × ListOf Name a_and_b (codes "a" ∷ []) (sign (codes ",") ∷ word (codes "b") ∷ [])
    × Opt Name a_and_b None a_and_b
shorter_parts = (
  next a_and_b (word (codes "b") ∷ []) [] (codes "a") (codes "b" ∷ []) refl (last (word (codes "b") ∷ []) [] (codes "b") refl),
  last a_and_b (sign (codes ",") ∷ word (codes "b") ∷ []) (codes "a") refl,
  absent a_and_b,
)

-- each line declares something
pub no_line_is_left_out : {S : Type 0} (n : Notation S) (line : Line) (lines : List Line) → DeclareAll n.Shape (line ∷ lines) [] → ⊥
no_line_is_left_out {S} n line lines all = by (line ∷ lines) [] all refl refl
  where
    by : (all : List Line) (ds : List (Declared S)) → DeclareAll n.Shape all ds → ds ≡ [] → all ≡ line ∷ lines → ⊥
    by _ _ no_lines none are = cc
    by _ _ (one_line _ _ d ds says more) none are = cc

-- a limit at line 2 comes behind a name that is there twice at line 3
pub data TwoFaults : Kind → ℕ → Type 0 where
  a_limit : TwoFaults Limit 2
  a_double : TwoFaults Twice 3

abbrev pub two_faults : Judged ℕ
two_faults = record { NoShape = λ line kind. ⊥; Declares = λ d. d ≡ 0; Has = λ d. TwoFaults }

pub kind_before_line : FirstFault two_faults 3 Twice × (FirstFault two_faults 2 Limit → ⊥)
kind_before_line = (
  of_kind 0 3 Twice refl (omega arith) (before_twice two_faults 0) (record { is = a_double; least = λ m has. at_three m Twice has refl }),
  λ first. not_limit 2 Limit first refl,
)
  where
    at_three : (m : ℕ) (kind : Kind) → TwoFaults kind m → kind ≡ Twice → 3 ≤ m
    at_three _ _ a_limit is = cc
    at_three _ _ a_double is = omega arith

    not_limit : (line : ℕ) (kind : Kind) → FirstFault two_faults line kind → kind ≡ Limit → ⊥
    not_limit _ _ (of_shape line kind least none) is = elim none [ ]
    not_limit _ _ (of_kind d line kind declares some earlier least) is = earlier Twice 3 (omega arith) (rw is (omega arith)) a_double

-- a bad line is the first fault, whatever faults those before it have
pub later_shape_first : {S : Type 0} (n : Notation S) (first second : Line) (d : Declared S) (kind : Kind) → Says n.Shape first d
    → second.bad ≡ Some kind → FirstFault (judged n (first ∷ second ∷ [])) second.number kind
later_shape_first {S} n first second d kind says bad = of_shape second.number kind (record { is = (kind, here); least = λ m has. by m has.0 has.1 }) here
  where
    here : HasNoShape n.Shape (first ∷ second ∷ []) second.number kind
    here = record { place = 1; line = second; is = refl; number_is = refl; none = λ e its. let good = its.good in cc; is_kind = rw bad refl }

    by : (m : ℕ) (k : Kind) → HasNoShape n.Shape (first ∷ second ∷ []) m k → second.number ≤ m
    by m k has = on has.place has.line has.is has.number_is has.none
      where
        on : (i : ℕ) (line : Line) → slice_get (first ∷ second ∷ []) i ≡ Some line → m ≡ line.number → ((e : Declared S) → Says n.Shape line e → ⊥) → second.number ≤ m
        on zero line at is none = let same : first ≡ line = cc in absurd (none d (rw same at says))
        on (suc zero) line at is none = let same : second ≡ line = cc in let e = ap (λ l. l.number) same in omega (arith, e, is)
        on (suc (suc i)) line at is none = cc
