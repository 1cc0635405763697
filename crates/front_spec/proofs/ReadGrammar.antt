-- What the whole section of a grammar gives: the grammar in its ranges, or its first fault.
use Rattle.std.proofs.Common.{◌≡◌, ℕ, ◌≤◌, Bool, List, length, map, refl, ap, arith}
use Rattle.ck_base.specs.declared.fault.SpecFault.{SpecFault}
use Rattle.ck_base.specs.declared.fault.SpecFault.TheVariants.{Bad, NoMemory}
use Rattle.cfg_model.specs.Cfg.{Rule}
use Rattle.cfg_model.specs.declared.named.NamedGrammar.{NamedGrammar}
use Rattle.section_frame.specs.Declares.{Declared, DeclareAll, Grow, IsShapeFault}
use Rattle.section_frame.specs.FirstFault.{Accepts}
use Rattle.spec_text.specs.Lines.{Line}
use Rattle.spec_text.specs.Sections.{SectionLines}
use Rattle.spec_text.specs.Spans.{AreLinesOf}
use Rattle.section_frame.proofs.Frame.{declared_grow}
use Rattle.spec_text.proofs.Numbers.{section_grows, section_few}
use Rattle.spec_text.proofs.Views.{as_many}
use Rattle.section_frame.specs.Passes.{judged_by, numbered}
use Rattle.section_frame.specs.Stages.{IsFirstIn}
use Rattle.section_frame.specs.declared.pass.Numbered.{Numbered}
use Rattle.section_frame.proofs.Passing.{grow_numbered}
use Rattle.section_frame.proofs.Staged.{shapeless_at}
use Rattle.front_spec.specs.GrammarShapes.{SaidProduction, ProductionLine}
use Rattle.front_spec.specs.GrammarFaults.{labels_in, nonterminals_in, grammar, NoProduction}
use Rattle.front_spec.specs.GrammarRules.{production_by, named_by}
use Rattle.front_spec.specs.GrammarPromise.{judged_grammar, DeclaresGrammar, IsGrammarFault}
use Rattle.front_spec.specs.GrammarSteps.{produced, IsGrammarText}
use Rattle.front_spec.specs.declared.grammar_text.GrammarText.{GrammarText}
use Rattle.front_spec.specs.declared.production.Production.{Production}

module _ (file : List ℕ) (tokens : List (List ℕ)) (text : GrammarText) (is : IsGrammarText file text) where
  pub grammar_fault : (fault : SpecFault) → IsFirstIn (judged_grammar tokens is.these) fault → IsGrammarFault file tokens fault
  grammar_fault (Bad line kind) first = record { ell = text.ell; lines = is.these; section = is.has; fault = first }
  grammar_fault NoMemory first = tt

  pub shape_fault : (fault : SpecFault) → IsShapeFault ProductionLine is.these.inside fault → IsGrammarFault file tokens fault
  shape_fault fault first = grammar_fault fault (shapeless_at (grammar tokens) is.these.head NoProduction is.these.inside fault first)

  -- the declarations are as many as the lines of the section, and their numbers grow
  module _ (list rows : List (Numbered Production)) (rows_are : rows ≡ list) (size : length file ≤ 1048576)
      (declared : (are : List Line) → AreLinesOf file text.section.lines.now are
      → DeclareAll ProductionLine are (map (judged_by produced) list))
      (few : length list ≡ length text.section.lines.now) where
    pub list_few : length rows ≤ 1048576
    list_few =
        let many = as_many file text.section.lines.now is.these.inside is.lines in
        let less = section_few file is.has.section is.these is.has.has in
        let same = ap length rows_are in omega (arith, same, few, many, less, size)

    pub all_declared : DeclareAll ProductionLine is.these.inside (map (judged_by produced) rows)
    all_declared = rw rows_are (declared is.these.inside is.lines)

    pub list_grows : Grow (map numbered rows)
    list_grows =
        grow_numbered produced rows
        (declared_grow ProductionLine is.these.inside (map (judged_by produced) rows) all_declared
        (section_grows file is.has.section is.these is.has.has))

    -- without a fault the grammar is declared, and in its ranges
    module _ (accepts : (these : SectionLines) → text.section.head ≡ these.head
        → DeclareAll ProductionLine these.inside (map (judged_by produced) rows)
        → Accepts (judged_grammar tokens these) (map (judged_by produced) rows)) where
      accepted : Accepts (judged_grammar tokens is.these) (map (judged_by produced) rows)
      accepted = accepts is.these is.head all_declared

      pub declares : (g : NamedGrammar) → g ≡ named_by tokens text.ell (map (judged_by produced) rows)
          → DeclaresGrammar file tokens g
      declares g are = record {
        ell = text.ell;
        lines = is.these;
        section = is.has;
        declared = map (judged_by produced) rows;
        accepted = accepted;
        is = are;
      }

-- the grammar by its parts
pub made_grammar : (tokens : List (List ℕ)) (ds : List (Declared SaidProduction)) (terminals count : ℕ)
    (nonterminals labels : List (List ℕ)) (ell : Bool) (rules : List Rule)
    → terminals ≡ length tokens → count ≡ length nonterminals
    → nonterminals ≡ nonterminals_in ds → labels ≡ labels_in ds
    → rules ≡ map (λ d. production_by tokens nonterminals d.said) ds
    → ◌≡◌ {A = NamedGrammar} (record {
      grammar = record { terminals = terminals; nonterminals = count; start = 0; rules = rules };
      nonterminals = nonterminals;
      labels = labels;
      ell = ell;
    }) (named_by tokens ell ds)
made_grammar tokens ds terminals count nonterminals labels ell rules are count_is nonterminals_are labels_are rules_are =
    rw (rules_are, count_is, are, labels_are, nonterminals_are) refl
