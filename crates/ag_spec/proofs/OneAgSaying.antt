-- A line of AG declares one thing at most.
use Rattle.std.proofs.Common.{◌≡◌, ℕ, ◌++◌, Bool, true, false, List, [], ◌∷◌, length, refl, sym, ap, ◌∙◌, subst, codes, arith}
use Rattle.spec_text.specs.Lexemes.{Lexeme}
use Rattle.spec_text.specs.Lines.{Line, LinesGrow}
use Rattle.ast_types.specs.TypeTable.{TypeTable}
use Rattle.section_frame.specs.Declares.{judged}
use Rattle.section_frame.specs.FirstFault.{ExactlyOne}
use Rattle.section_frame.proofs.Frame.{one_of_both}
use Rattle.expr_read.specs.Notation.{IsSpoken, nothing_follows}
use Rattle.expr_read.proofs.OneSpoken.{one_spoken}
use Rattle.ag_spec.specs.AgShapes.{AgSaying, SaidAttribute, SaidEquation, attribute, equation, AttributeLine, EquationLine, AgShape, TargetPart, attribute_line, equation_line, name_text, pointed, sort_word}
use Rattle.ag_spec.specs.AgFaults.{ag}
use Rattle.ag_spec.specs.within.LineHeads.{equals}
use Rattle.ag_spec.proofs.LineReadings.{one_head, one_target}

-- the first letter
abbrev letter : List ℕ → ℕ
letter [] = 0
letter (a ∷ more) = a

pub one_sort : (a b : Bool) → sort_word a ≡ sort_word b → a ≡ b
one_sort true true same = refl
one_sort true false same = let e : ◌≡◌ {A = ℕ} 83 73 = ap letter same in absurd (omega (arith, e))
one_sort false true same = let e : ◌≡◌ {A = ℕ} 73 83 = ap letter same in absurd (omega (arith, e))
one_sort false false same = refl

one_attribute : (tokens : List Lexeme) (said other : SaidAttribute) → AttributeLine tokens said → AttributeLine tokens other
    → said ≡ other
one_attribute tokens said other is is2 =
    let same = sym is.is ∙ is2.is in
    let family : said.family ≡ other.family = cc in
    let name : said.name ≡ other.name = cc in
    let of : said.of ≡ other.of = cc in
    let sorts : sort_word said.synthesized ≡ sort_word other.synthesized = cc in
    let sort = one_sort said.synthesized other.synthesized sorts in
    let called : said.called ≡ other.called =
    is.called ∙ ap (λ f. pointed f said.name) family ∙ ap (pointed other.family) name ∙ sym is2.called in
    by said other family name called of sort
  where
    by : (said other : SaidAttribute) → said.family ≡ other.family → said.name ≡ other.name → said.called ≡ other.called
        → said.of ≡ other.of → said.synthesized ≡ other.synthesized → said ≡ other
    by said other family name called of sort =
        ap (λ x. record { family = x; name = said.name; called = said.called; of = said.of; synthesized = said.synthesized }) family
        ∙ ap (λ x. record { family = other.family; name = x; called = said.called; of = said.of; synthesized = said.synthesized }) name
        ∙ ap (λ x. record { family = other.family; name = other.name; called = x; of = said.of; synthesized = said.synthesized }) called
        ∙ ap (λ x. record { family = other.family; name = other.name; called = other.called; of = x; synthesized = said.synthesized }) of
        ∙ ap (λ x. record { family = other.family; name = other.name; called = other.called; of = other.of; synthesized = x }) sort

one_equation : (tokens : List Lexeme) (said other : SaidEquation) → EquationLine tokens said → EquationLine tokens other
    → said ≡ other
one_equation tokens said other is is2 =
    let heads = one_head tokens is.behind is2.behind said.holder other.holder is.head is2.head in
    let its : TargetPart is2.behind said.target (equals is.inside) =
    subst (λ b. TargetPart b said.target (equals is.inside)) heads.1 is.target in
    let targets = one_target is2.behind is.inside is2.inside said.target other.target its is2.target in
    let value : IsSpoken is2.inside said.value [] = subst (λ b. IsSpoken b said.value []) targets.1 is.value in
    let values = (one_spoken is2.inside [] [] said.value other.value nothing_follows nothing_follows value is2.value).0 in
    let called : said.called ≡ other.called =
    is.called ∙ ap (λ h. h ++ 58 ∷ name_text said.target) heads.0 ∙ ap (λ t. other.holder ++ 58 ∷ name_text t) targets.0
    ∙ sym is2.called in
    by said other heads.0 targets.0 called values
  where
    by : (said other : SaidEquation) → said.holder ≡ other.holder → said.target ≡ other.target → said.called ≡ other.called
        → said.value ≡ other.value → said ≡ other
    by said other holder target called value =
        ap (λ x. record { holder = x; target = said.target; called = said.called; value = said.value }) holder
        ∙ ap (λ x. record { holder = other.holder; target = x; called = said.called; value = said.value }) target
        ∙ ap (λ x. record { holder = other.holder; target = other.target; called = x; value = said.value }) called
        ∙ ap (λ x. record { holder = other.holder; target = other.target; called = other.called; value = x }) value

-- the lines of both forms begin with other words
not_both : (tokens : List Lexeme) (said : SaidAttribute) (other : SaidEquation) → AttributeLine tokens said
    → EquationLine tokens other → ⊥
not_both tokens said other is is2 =
    let same = sym is.is ∙ is2.head in
    let words : codes "ATTR" ≡ codes "EQ" = cc in
    let long : ◌≡◌ {A = ℕ} 4 2 = ap length words in omega (arith, long)

pub one_ag_line : (tokens : List Lexeme) (said other : AgSaying) → AgShape tokens said → AgShape tokens other → said ≡ other
one_ag_line _ _ _ (attribute_line tokens said is) (attribute_line _ other is2) =
    ap attribute (one_attribute tokens said other is is2)
one_ag_line _ _ _ (attribute_line tokens said is) (equation_line _ other is2) = absurd (not_both tokens said other is is2)
one_ag_line _ _ _ (equation_line tokens said is) (attribute_line _ other is2) = absurd (not_both tokens other said is2 is)
one_ag_line _ _ _ (equation_line tokens said is) (equation_line _ other is2) =
    ap equation (one_equation tokens said other is is2)

-- exactly one of a first fault and declarations
pub fault_or_lines : (table : TypeTable) (lines : List Line) → LinesGrow lines → ExactlyOne (judged (ag table) lines)
fault_or_lines table = one_of_both (ag table) one_ag_line
