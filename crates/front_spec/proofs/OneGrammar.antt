-- The section of a grammar of a file is accepted or has a first fault, not both, and each in one way.
use Rattle.std.proofs.Common.{◌≡◌, ℕ, zero, suc, ◌+◌, Bool, true, false, List, [], ◌∷◌, length, map, refl, sym, ap, ◌∙◌, subst, Some, Contains, arith}
use Rattle.std.specs.List.{slice_get}
use Rattle.ck_base.specs.Found.{HasNo}
use Rattle.ck_base.specs.declared.fault.Kind.{Kind}
use Rattle.cfg_model.specs.declared.named.NamedGrammar.{NamedGrammar}
use Rattle.section_frame.specs.FirstFault.{FirstFault, Accepts, ExactlyOne}
use Rattle.spec_text.specs.Lexemes.{Lexeme, word}
use Rattle.spec_text.specs.Lines.{Line}
use Rattle.spec_text.specs.Promise.{HasSection}
use Rattle.spec_text.specs.Sections.{rank, Stand, closed, part, part_from, SectionLines}
use Rattle.spec_text.specs.declared.section.Section.{Section}
use Rattle.spec_text.specs.declared.section.Section.TheVariants.{Lalr, Ell}
use Rattle.spec_text.specs.declared.section.Part.{Part}
use Rattle.section_frame.proofs.Frame.{one_of_both_at}
use Rattle.spec_text.proofs.Lists.{get_at}
use Rattle.spec_text.proofs.Numbers.{section_grows}
use Rattle.spec_text.proofs.OneSections.{one_order, one_section}
use Rattle.front_spec.specs.GrammarShapes.{SaidProduction, ProductionLine}
use Rattle.front_spec.specs.GrammarFaults.{NoProduction, grammar}
use Rattle.front_spec.specs.GrammarRules.{named_by}
use Rattle.front_spec.specs.GrammarPromise.{IsGrammarSection, for_lalr, for_ell, HasGrammar, judged_grammar, DeclaresGrammar, FirstGrammarFault}

-- a line declares one rule at most
same_names : (names others : List (List ℕ)) → map word names ≡ map word others → names ≡ others
same_names [] [] same = refl
same_names [] (name ∷ others) same = cc
same_names (name ∷ names) [] same = cc
same_names (name ∷ names) (other ∷ others) same =
    let first : name ≡ other = cc in rw (first, same_names names others (cc)) refl

pub one_production : (tokens : List Lexeme) (said other : SaidProduction) → ProductionLine tokens said
    → ProductionLine tokens other → said ≡ other
one_production tokens said other is is2 =
    let same = sym is ∙ is2 in
    let label : said.label ≡ other.label = cc in
    let left : said.left ≡ other.left = cc in
    let names : map word said.right ≡ map word other.right = cc in
    by said other label left (same_names said.right other.right names)
  where
    by : (said other : SaidProduction) → said.label ≡ other.label → said.left ≡ other.left → said.right ≡ other.right
        → said ≡ other
    by said other label left right =
        ap (λ x. record { label = x; left = said.left; right = said.right }) label
        ∙ ap (λ x. record { label = other.label; left = x; right = said.right }) left
        ∙ ap (λ x. record { label = other.label; left = other.left; right = x }) right

-- the sections stand by their ranks, so that LALR and ELL can't both be there
rank_at : (k at : ℕ) (lines : List Line) (parts : List Part) (i : ℕ) (p : Part) → Stand k at lines parts
    → slice_get parts i ≡ Some p
    → rank p.section ≡ k + i
rank_at _ _ _ _ i p (closed k at line some end) there = cc
rank_at _ _ _ _ zero p (part k at s line inside rest parts is_rank head plain stand) there =
    let same : part_from s at (at + 1 + length inside) ≡ p = cc in
    let is = ap (λ q. rank q.section) same in omega (arith, is, is_rank)
rank_at _ _ _ _ (suc i) p (part k at s line inside rest parts is_rank head plain stand) there =
    let more = rank_at (k + 1) (at + 1 + length inside) rest parts i p stand there in omega (arith, more)

of_one_rank : (lines : List Line) (parts : List Part) (p q : Part) → Stand 0 0 lines parts → Contains parts p
    → Contains parts q
    → rank p.section ≡ rank q.section → p ≡ q
of_one_rank lines parts p q stand there there2 same =
    let at = get_at parts there.0 p there.1 ∙ ap (λ x. Some x) there.2 in
    let at2 = get_at parts there2.0 q there2.1 ∙ ap (λ x. Some x) there2.2 in
    let first = rank_at 0 0 lines parts there.0 p stand at in
    let second = rank_at 0 0 lines parts there2.0 q stand at2 in
    let place : there.0 ≡ there2.0 = omega (arith, first, second, same) in
    let one = sym (rw place at at) ∙ at2 in cc

grammar_rank : (section : Section) (ell : Bool) → IsGrammarSection section ell → rank section ≡ 1
grammar_rank _ _ for_lalr = refl
grammar_rank _ _ for_ell = refl

one_kind : (section : Section) (ell other : Bool) → IsGrammarSection section ell → IsGrammarSection section other
    → ell ≡ other
one_kind _ _ _ for_lalr for_lalr = refl
one_kind _ _ _ for_ell for_ell = refl

-- a file has one section of a grammar at most
pub one_grammar_section : (file : List ℕ) (ell other : Bool) (lines those : SectionLines) → HasGrammar file ell lines
    → HasGrammar file other those
    → (ell ≡ other) × (lines ≡ those)
one_grammar_section file ell other lines those has has2 =
    let a = has.has in
    let b = has2.has in
    let same = one_order file a.lines b.lines a.parts b.parts a.sections b.sections in
    let ranks : rank a.part.section ≡ rank b.part.section =
    ap rank a.is ∙ grammar_rank has.section ell has.of_grammar
    ∙ sym (grammar_rank has2.section other has2.of_grammar) ∙ ap rank (sym b.is) in
    let p : a.part ≡ b.part = of_one_rank b.lines b.parts a.part b.part b.sections.are (rw same.1 at a.among) b.among ranks in
    let section : has.section ≡ has2.section = sym a.is ∙ ap (λ q. q.section) p ∙ b.is in (
      one_kind has2.section ell other (subst (λ s. IsGrammarSection s ell) section has.of_grammar) has2.of_grammar,
      one_section file has2.section lines those (subst (λ s. HasSection file s lines) section has.has) has2.has,
    )

-- whether a file has a grammar: by its sections LALR and ELL
pub lalr_is_grammar : (file : List ℕ) (lines : SectionLines) → HasSection file Lalr lines → HasGrammar file false lines
lalr_is_grammar file lines has = record { section = Lalr; of_grammar = for_lalr; has = has }

pub ell_is_grammar : (file : List ℕ) (lines : SectionLines) → HasSection file Ell lines → HasGrammar file true lines
ell_is_grammar file lines has = record { section = Ell; of_grammar = for_ell; has = has }

pub grammar_is_lalr : (file : List ℕ) (lines : SectionLines) → HasGrammar file false lines → HasSection file Lalr lines
grammar_is_lalr file lines has = by has.section false has.of_grammar refl has.has
  where
    by : (section : Section) (ell : Bool) → IsGrammarSection section ell → ell ≡ false → HasSection file section lines
        → HasSection file Lalr lines
    by _ _ for_lalr is here = here
    by _ _ for_ell is here = cc

pub grammar_is_ell : (file : List ℕ) (lines : SectionLines) → HasGrammar file true lines → HasSection file Ell lines
grammar_is_ell file lines has = by has.section true has.of_grammar refl has.has
  where
    by : (section : Section) (ell : Bool) → IsGrammarSection section ell → ell ≡ true → HasSection file section lines
        → HasSection file Ell lines
    by _ _ for_lalr is here = cc
    by _ _ for_ell is here = here

-- without LALR and ELL there is none
pub no_grammar : (file : List ℕ) → HasNo (HasSection file Lalr) → HasNo (HasSection file Ell)
    → (ell : Bool) (lines : SectionLines)
    → HasGrammar file ell lines → ⊥
no_grammar file no_lalr no_ell ell lines has = by has.section ell has.of_grammar has.has
  where
    by : (section : Section) (ell : Bool) → IsGrammarSection section ell → HasSection file section lines → ⊥
    by _ _ for_lalr here = no_lalr lines here
    by _ _ for_ell here = no_ell lines here

-- exactly one of both is there
exactly : (file : List ℕ) (tokens : List (List ℕ)) (ell : Bool) (lines : SectionLines) → HasGrammar file ell lines
    → ExactlyOne (judged_grammar tokens lines)
exactly file tokens ell lines has =
    one_of_both_at (grammar tokens) one_production lines.head NoProduction lines.inside
    (section_grows file has.section lines has.has)

-- a section of a grammar declares one or has a first fault: it can't be that there is neither
pub grammar_or_fault : (file : List ℕ) (tokens : List (List ℕ)) (ell : Bool) (lines : SectionLines)
    → HasGrammar file ell lines
    → HasNo (DeclaresGrammar file tokens) → ((line : ℕ) (kind : Kind) → FirstGrammarFault file tokens line kind → ⊥) → ⊥
grammar_or_fault file tokens ell lines has none_declared none =
    (exactly file tokens ell lines has).not_neither
    (λ declared accepted. none_declared (named_by tokens ell declared) (record {
      ell = ell;
      lines = lines;
      section = has;
      declared = declared;
      accepted = accepted;
      is = refl;
    }))
    (λ line kind fault. none line kind (record { ell = ell; lines = lines; section = has; fault = fault }))

-- it declares one grammar at most
pub one_grammar : (file : List ℕ) (tokens : List (List ℕ)) (g other : NamedGrammar) → DeclaresGrammar file tokens g
    → DeclaresGrammar file tokens other → g ≡ other
one_grammar file tokens g other is is2 =
    let same = one_grammar_section file is.ell is2.ell is.lines is2.lines is.section is2.section in
    let accepted : Accepts (judged_grammar tokens is2.lines) is.declared =
    subst (λ these. Accepts (judged_grammar tokens these) is.declared) same.1 is.accepted in
    let declared =
    (exactly file tokens is2.ell is2.lines is2.section).one_declared is.declared is2.declared accepted is2.accepted in
    is.is ∙ ap (λ ell. named_by tokens ell is.declared) same.0 ∙ ap (named_by tokens is2.ell) declared ∙ sym is2.is

-- it has one first fault at most
pub one_grammar_fault : (file : List ℕ) (tokens : List (List ℕ)) (line other : ℕ) (kind worse : Kind)
    → FirstGrammarFault file tokens line kind
    → FirstGrammarFault file tokens other worse → (line ≡ other) × (kind ≡ worse)
one_grammar_fault file tokens line other kind worse is is2 =
    let same = one_grammar_section file is.ell is2.ell is.lines is2.lines is.section is2.section in
    let fault : FirstFault (judged_grammar tokens is2.lines) line kind =
    subst (λ these. FirstFault (judged_grammar tokens these) line kind) same.1 is.fault in
    (exactly file tokens is2.ell is2.lines is2.section).one_fault line other kind worse fault is2.fault

-- what declares a grammar has no fault
pub grammar_not_fault : (file : List ℕ) (tokens : List (List ℕ)) (g : NamedGrammar) (line : ℕ) (kind : Kind)
    → DeclaresGrammar file tokens g
    → FirstGrammarFault file tokens line kind → ⊥
grammar_not_fault file tokens g line kind is is2 =
    let same = one_grammar_section file is.ell is2.ell is.lines is2.lines is.section is2.section in
    let accepted : Accepts (judged_grammar tokens is2.lines) is.declared =
    subst (λ these. Accepts (judged_grammar tokens these) is.declared) same.1 is.accepted in
    (exactly file tokens is2.ell is2.lines is2.section).not_both is.declared line kind accepted is2.fault
