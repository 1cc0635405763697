-- The shapes of AG's lines, as they are read part by part.
use Rattle.std.proofs.Common.{◌≡◌, ℕ, ◌⊎◌, inl, inr, ◌++◌, ◌==◌, Bool, false, List, [], ◌∷◌, length, map, sym, ap, ◌∙◌, subst, codes, arith}
use Rattle.spec_text.specs.Lexemes.{Lexeme, word, sign}
use Rattle.spec_text.specs.Seen.{seen}
use Rattle.spec_text.specs.declared.view.Token.{Token}
use Rattle.section_frame.specs.Parts.{Name, NoReading, Reading}
use Rattle.expr_read.specs.Mentions.{Named, by_name, by_pair}
use Rattle.expr_read.specs.Notation.{IsSpoken, MayFollow, nothing_follows}
use Rattle.expr_read.specs.Spoken.{Spoken}
use Rattle.ag_spec.specs.AgShapes.{AgSaying, SaidAttribute, SaidEquation, AttributeLine, EquationLine, AgShape, TargetPart, own_target, child_target, attribute_line, equation_line, name_text}
use Rattle.ag_spec.specs.within.LineHeads.{IsEquationHead, equals}

-- no expression, or one that isn't the whole
pub not_spoken : (tokens : List Lexeme) → NoReading IsSpoken MayFollow tokens → (e : Spoken) → IsSpoken tokens e [] → ⊥
not_spoken tokens none e is = none e [] nothing_follows is

no_tokens : (tokens : List Token) (is : Bool) → is ≡ (length tokens == 0) → is ≡ false → map seen tokens ≡ [] → ⊥
no_tokens [] is means not none = cc
no_tokens (t ∷ tokens) is means not none = cc

pub more_behind : (tokens : List Lexeme) (rest : List Token) (read : Spoken) (is : Bool)
    → Reading IsSpoken MayFollow tokens read (map seen rest) → is ≡ (length rest == 0) → is ≡ false
    → (e : Spoken) → IsSpoken tokens e [] → ⊥
more_behind tokens rest read is reading means not e whole =
    no_tokens rest is means not (sym (reading.only e [] nothing_follows whole).1)

-- what an equation gives, by the names and signs that were read
pub made_own : (tokens rest inside : List Lexeme) (first : List ℕ) → tokens ≡ word first ∷ rest → rest ≡ sign (codes "=") ∷ inside
    → TargetPart tokens (by_name first) (equals inside)
made_own tokens rest inside first is end = own_target tokens (equals inside) first (is ∙ ap (λ r. word first ∷ r) end)

pub made_pair : (tokens rest after behind inside : List Lexeme) (first second : List ℕ) → tokens ≡ word first ∷ rest
    → rest ≡ sign (codes ".") ∷ after → after ≡ word second ∷ behind → behind ≡ sign (codes "=") ∷ inside
    → TargetPart tokens (by_pair first second) (equals inside)
made_pair tokens rest after behind inside first second is point next end =
    child_target tokens (equals inside) first second
    (is ∙ ap (λ r. word first ∷ r) (point ∙ ap (λ r. sign (codes ".") ∷ r) (next ∙ ap (λ r. word second ∷ r) end)))

-- what stands behind the first name of what an equation gives
pub behind_name : (tokens rest : List Lexeme) (first : List ℕ) (target : Named) (inside : List Lexeme) → Name tokens first rest
    → TargetPart tokens target (equals inside)
    → (rest ≡ equals inside) ⊎ ((w : List ℕ) × (rest ≡ sign (codes ".") ∷ word w ∷ equals inside))
behind_name _ rest first _ inside is (own_target tokens _ w its) = let same = sym is ∙ its in inl (cc)
behind_name _ rest first _ inside is (child_target tokens _ v w its) = let same = sym is ∙ its in inr (w, cc)

-- the first letter of the sign behind a name
abbrev sign_code : List Lexeme → ℕ
sign_code (t ∷ sign (a ∷ more) ∷ rest) = a
sign_code _ = 0

not_both_targets : (inside other : List Lexeme) (w x y : List ℕ)
    → word w ∷ equals inside ≡ word x ∷ sign (codes ".") ∷ word y ∷ equals other → ⊥
not_both_targets inside other w x y same = let code : ◌≡◌ {A = ℕ} 61 46 = ap sign_code same in omega (arith, code)

-- an equation gives one thing at most
pub one_target : (tokens inside other : List Lexeme) (t u : Named) → TargetPart tokens t (equals inside)
    → TargetPart tokens u (equals other) → (t ≡ u) × (inside ≡ other)
one_target _ inside other _ _ (own_target tokens _ w its) (own_target _ _ x is) =
    let same = sym its ∙ is in let name : w ≡ x = cc in (ap by_name name, cc)
one_target _ inside other _ _ (own_target tokens _ w its) (child_target _ _ x y is) =
    absurd (not_both_targets inside other w x y (sym its ∙ is))
one_target _ inside other _ _ (child_target tokens _ v w its) (own_target _ _ x is) =
    absurd (not_both_targets other inside x v w (sym is ∙ its))
one_target _ inside other _ _ (child_target tokens _ v w its) (child_target _ _ x y is) =
    let same = sym its ∙ is in
    let first : v ≡ x = cc in
    let second : w ≡ y = cc in (ap (λ z. by_pair z w) first ∙ ap (by_pair x) second, cc)

pub one_head : (tokens behind other : List Lexeme) (h k : List ℕ) → IsEquationHead tokens h behind → IsEquationHead tokens k other
    → (h ≡ k) × (behind ≡ other)
one_head tokens behind other h k is its = let same = sym is ∙ its in (cc, cc)

-- an equation's line, of which a part isn't there
module _ (tokens behind : List Lexeme) (holder : List ℕ) (head : IsEquationHead tokens holder behind) where
  pub no_target : ((target : Named) (inside : List Lexeme) → TargetPart behind target (equals inside) → ⊥)
      → (said : SaidEquation) → EquationLine tokens said → ⊥
  no_target none said is =
      let same = (one_head tokens behind is.behind holder said.holder head is.head).1 in
      none said.target is.inside (subst (λ b. TargetPart b said.target (equals is.inside)) (sym same) is.target)

  pub no_value : (target : Named) (inside : List Lexeme) → TargetPart behind target (equals inside)
      → ((e : Spoken) → IsSpoken inside e [] → ⊥) → (said : SaidEquation) → EquationLine tokens said → ⊥
  no_value target inside there none said is =
      let same = (one_head tokens behind is.behind holder said.holder head is.head).1 in
      let its = subst (λ b. TargetPart b said.target (equals is.inside)) (sym same) is.target in
      let inner = (one_target behind inside is.inside target said.target there its).1 in
      none said.value (subst (λ b. IsSpoken b said.value []) (sym inner) is.value)

  pub equation_made : (target : Named) (inside : List Lexeme) (called : List ℕ) (e : Spoken) → TargetPart behind target (equals inside)
      → IsSpoken inside e [] → called ≡ holder ++ 58 ∷ name_text target
      → EquationLine tokens (record { holder = holder; target = target; called = called; value = e })
  equation_made target inside called e there is names = record {
    behind = behind;
    inside = inside;
    head = head;
    target = there;
    value = is;
    called = names;
  }

-- a line of neither form has no shape
pub no_shape : (tokens : List Lexeme) → ((said : SaidAttribute) → AttributeLine tokens said → ⊥)
    → ((said : SaidEquation) → EquationLine tokens said → ⊥) → (said : AgSaying) → AgShape tokens said → ⊥
no_shape tokens no_attribute no_equation said is = by said is
  where
    by : (said : AgSaying) → AgShape tokens said → ⊥
    by _ (attribute_line _ said its) = no_attribute said its
    by _ (equation_line _ said its) = no_equation said its
