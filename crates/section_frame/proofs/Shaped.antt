-- A good line without a shape.
use Rattle.std.proofs.Common.{◌≡◌, ℕ, List, refl, sym, ap, ◌∙◌, None}
use Rattle.ck_base.specs.declared.fault.Kind.TheVariants.{Syntax}
use Rattle.section_frame.specs.Declares.{Declared, Says, kind_of}
use Rattle.spec_text.specs.Lexemes.{Lexeme}
use Rattle.spec_text.specs.Lines.{Line, said_by}
use Rattle.spec_text.specs.Spans.{IsLineOf}
use Rattle.spec_text.specs.declared.line.SpecLine.{SpecLine}

pub shapeless_line : {S : Type 0} (Shape : List Lexeme → S → Type 0) (file : List ℕ) (line : SpecLine) (is : Line) → IsLineOf file line is
    → line.bad ≡ None
    → {tokens : List Lexeme} → tokens ≡ said_by is → ((said : S) → Shape tokens said → ⊥)
    → (line.number ≡ is.number) × (Syntax ≡ kind_of is.bad) × ((d : Declared S) → Says Shape is d → ⊥)
shapeless_line Shape file line is it good seen none = (
  ap (λ l. l.number) it.same,
  (let same : is.bad ≡ None = sym (ap (λ l. l.bad) it.same) ∙ good in rw same refl),
  λ d says. none d.said (rw seen says.shape),
)
