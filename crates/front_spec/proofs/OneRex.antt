-- The section REX of a file is accepted or has a first fault, not both, and each in one way.
use Rattle.std.proofs.Common.{◌≡◌, ℕ, List, refl, sym, ap, ◌∙◌, subst}
use Rattle.ck_base.specs.Found.{HasNo}
use Rattle.ck_base.specs.declared.fault.Kind.{Kind}
use Rattle.rex_model.specs.Rules.{Rules}
use Rattle.section_frame.specs.Declares.{judged}
use Rattle.section_frame.specs.FirstFault.{FirstFault, Accepts, ExactlyOne}
use Rattle.spec_text.specs.Lines.{Line}
use Rattle.spec_text.specs.Promise.{HasSections, HasSection}
use Rattle.spec_text.specs.Sections.{SectionLines}
use Rattle.spec_text.specs.declared.section.Section.TheVariants.{Rex}
use Rattle.spec_text.specs.declared.section.Part.{Part}
use Rattle.section_frame.proofs.Frame.{one_of_both}
use Rattle.spec_text.proofs.Numbers.{section_grows}
use Rattle.spec_text.proofs.OneSections.{one_section}
use Rattle.spec_text.proofs.SomeSections.{has_rex}
use Rattle.front_spec.specs.RexFaults.{rex}
use Rattle.front_spec.specs.RexRules.{rules_by}
use Rattle.front_spec.specs.Promise.{DeclaresRules, FirstRexFault}
use Rattle.front_spec.proofs.OneSaying.{one_saying}

-- exactly one of both is there
exactly : (file : List ℕ) (these : SectionLines) → HasSection file Rex these → ExactlyOne (judged rex these.inside)
exactly file these has = one_of_both rex one_saying these.inside (section_grows file Rex these has)

-- a file that has sections declares rules or has a first fault in REX: it can't be that there is neither
pub rex_or_fault : (file : List ℕ) (lines : List Line) (parts : List Part) → HasSections file lines parts → HasNo (DeclaresRules file)
    → ((line : ℕ) (kind : Kind) → FirstRexFault file line kind → ⊥) → ⊥
rex_or_fault file lines parts has none_declared none =
    let there = has_rex file lines parts has in
    let these = there.0 in
    (exactly file these there.1).not_neither
    (λ declared accepted. none_declared (rules_by declared) (record {
      lines = these;
      section = there.1;
      declared = declared;
      accepted = accepted;
      are = refl;
    }))
    (λ line kind fault. none line kind (record { lines = these; section = there.1; fault = fault }))

-- it declares one thing at most
pub one_rex : (file : List ℕ) (rules others : Rules) → DeclaresRules file rules → DeclaresRules file others → rules ≡ others
one_rex file rules others is is2 =
    let same = one_section file Rex is.lines is2.lines is.section is2.section in
    let accepted : Accepts (judged rex is2.lines.inside) is.declared =
    subst (λ these. Accepts (judged rex these.inside) is.declared) same is.accepted in
    let declared = (exactly file is2.lines is2.section).one_declared is.declared is2.declared accepted is2.accepted in
    is.are ∙ ap rules_by declared ∙ sym is2.are

-- it has one first fault at most
pub one_rex_fault : (file : List ℕ) (line other : ℕ) (kind worse : Kind) → FirstRexFault file line kind → FirstRexFault file other worse
    → (line ≡ other) × (kind ≡ worse)
one_rex_fault file line other kind worse is is2 =
    let same = one_section file Rex is.lines is2.lines is.section is2.section in
    let fault : FirstFault (judged rex is2.lines.inside) line kind =
    subst (λ these. FirstFault (judged rex these.inside) line kind) same is.fault in
    (exactly file is2.lines is2.section).one_fault line other kind worse fault is2.fault

-- what declares rules has no fault
pub rex_not_fault : (file : List ℕ) (rules : Rules) (line : ℕ) (kind : Kind) → DeclaresRules file rules → FirstRexFault file line kind → ⊥
rex_not_fault file rules line kind is is2 =
    let same = one_section file Rex is.lines is2.lines is.section is2.section in
    let accepted : Accepts (judged rex is2.lines.inside) is.declared =
    subst (λ these. Accepts (judged rex these.inside) is.declared) same is.accepted in
    (exactly file is2.lines is2.section).not_both is.declared line kind accepted is2.fault
