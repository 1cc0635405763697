-- Printed tokens and derivations, accepted and refused specifications, tried on cases that are worked by hand.
use Rattle.std.proofs.Common.{inl, inr, ◌≡◌, ◌==◌, ◌<◌, ℕ, zero, suc, Bool, List, [], ◌∷◌, ◌++◌, length, Contains, Option, Some, None, codes, refl, sym, ap, ◌∙◌, subst, arith, slice_get}
use Rattle.std.specs.Fmt.{digits}
use Rattle.ck_base.specs.Counts.{HasMoreThan}
use Rattle.ck_base.specs.Found.{HasNo}
use Rattle.ck_base.specs.declared.refusal.Refusal.TheVariants as refusal
use Rattle.cfg_model.specs.Derivation.{empty, leaf, node, postorder}
use Rattle.cfg_model.specs.declared.named.NamedGrammar.{NamedGrammar}
use Rattle.rex_model.specs.Language.{bytes, class, plus}
use Rattle.rex_model.specs.Run.{Tokens as TokensOf, finished}
use Rattle.rex_model.specs.Winner.{Winner}
use Rattle.rex_model.specs.Rules.{Rule, Rules}
use Rattle.spec_text.specs.Bytes.{is_between}
use Rattle.spec_text.specs.Promise.{HasSection, IsFirstOther}
use Rattle.spec_text.specs.Sections.{SectionLines, part_from}
use Rattle.spec_text.specs.declared.section.Part.{Part}
use Rattle.spec_text.specs.declared.section.Section.{Section}
use Rattle.spec_text.specs.declared.section.Section.TheVariants.{Rex, Lalr, Ast}
use Rattle.spec_text.proofs.OneSections.{one_order}
use Rattle.spec_text.proofs.SectionExamples.{rex_end_file, rex_end_lines, rex_end_parts, rex_end_sections}
use Rattle.front_spec.specs.GrammarPromise.{HasGrammar, IsGrammarSection, for_lalr, for_ell}
use Rattle.front_spec.specs.RexRules.{rules_by}
use Rattle.front_spec.proofs.RexExamples.{rex_end_declares}
use Rattle.node_model.specs.Nodes.{Nodes}
use Rattle.ck_chain.specs.Accepts.{built, RefusesSpec, too_long, Accepts}
use Rattle.ck_chain.specs.Answers.{depth_with, Misses, Makes, tokens, derive, tree, AnswerOf, lacks, makes}
use Rattle.ck_chain.specs.AstAccepts.{without_grammar}
use Rattle.ck_chain.specs.DeriveText.{derive_text}
use Rattle.ck_chain.specs.Deriving as Deriving
use Rattle.ck_chain.specs.InOrder.{told, failed}
use Rattle.ck_chain.specs.GrammarAccepts.{absent, label_of, terminal_name}
use Rattle.ck_chain.specs.Outcome.{Outcome, refused}
use Rattle.ck_chain.specs.RexAccepts.{HaveTables}
use Rattle.ck_chain.specs.Scanning as Scanning
use Rattle.ck_chain.specs.TokenText.{token_line, tokens_text}
use Rattle.ck_chain.specs.Tools.{Tools}
use Rattle.ck_chain.specs.Treeing as Treeing
use Rattle.ck_chain.specs.declared.stage.Stage.{Stage}
use Rattle.ck_chain.specs.declared.stage.Stage.TheVariants.{Tokens as of_tokens, Derive as of_derive, Tree as of_tree}

-- the token `b` behind a line feed and a blank is printed `2:2 ID "b"`
second_line : token_line (codes "IF" ∷ codes "ID" ∷ []) (codes "if" ++ 10 ∷ codes " b") (record { number = 1; from = 4; to = 5 })
    ≡ codes "2:2 ID " ++ 34 ∷ 98 ∷ 34 ∷ 10 ∷ []
unfolding digits
second_line = refl

-- of the empty text only `1:1 END` is printed
only_end : tokens_text [] [] [] ≡ codes "1:1 END" ++ 10 ∷ []
unfolding digits
only_end = refl

-- rules for "if" and for words, whose tokens have the numbers 7 and 8
abbrev keyword : Rule
keyword = record { active = λ state. state == 0; body = bytes (codes "if"); context = None; token = Some 7; next = None }

abbrev word_rule : Rule
word_rule = record { active = λ state. state == 0; body = plus (class (λ byte. is_between 97 122 byte)); context = None; token = Some 8; next = None }

-- the text "if" is one token of the first
if_wins : Winner (keyword ∷ word_rule ∷ []) 0 (codes "if") 0 2 2
if_wins = record {
  candidate = record {
    rule = keyword;
    is_rule = refl;
    active = refl;
    some = omega arith;
    fits = omega arith;
    within = omega arith;
    body = refl;
    context = refl;
  };
  longest = λ j k l candidate. candidate.within;
  first = λ j k candidate. omega arith;
  greatest = λ k candidate. candidate.fits;
}

one_token : TokensOf (keyword ∷ word_rule ∷ []) (codes "if") 0 0 (record { number = 7; from = 0; to = 2 } ∷ []) finished
unfolding if_wins
one_token = TokensOf.token 0 0 0 2 2 7 [] finished if_wins refl (TokensOf.end _ 2 refl)

-- no rules have tables of no state at all
none_more : {A : Type 0} {is_one : A → Type 0} {alike : A → A → Type 0} → ((a : A) → is_one a → ⊥) → HasMoreThan is_one alike 4096 → ⊥
none_more {A} {is_one} none more = by more.some more.each more.many
  where
    by : (some : List A) → ((i : ℕ) (a : A) → slice_get some i ≡ Some a → is_one a) → 4096 < length some → ⊥
    by [] each many = omega (arith, many)
    by (a ∷ some) each many = none a (each 0 a refl)

no_states : HaveTables (rules_by [])
no_states = record {
  bodies = λ i is. let at = is.is_rule in cc;
  scanner = none_more (λ way is. is.filled (λ q comes. comes.1));
  splits = none_more (λ way is. is.filled (λ q comes. let at = comes.2 in cc));
}

-- the only section is REX
only_rex : (section : Section) (these : SectionLines) → HasSection rex_end_file section these → section ≡ Rex
only_rex section these has =
    let same = (one_order rex_end_file has.lines rex_end_lines has.parts rex_end_parts has.sections rex_end_sections).1 in
    sym has.is ∙ by has.part (subst (λ parts. Contains parts has.part) same has.among)
  where
    by : (p : Part) → Contains rex_end_parts p → p.section ≡ Rex
    by p (zero, within, is) = let it : part_from Rex 0 1 ≡ p = cc in sym (ap (λ q. q.section) it)
    by p (suc i, within, is) = absurd (omega (arith, within))

no_grammar_there : (is_ell : Bool) (lines : SectionLines) → HasGrammar rex_end_file is_ell lines → ⊥
no_grammar_there is_ell lines has = by has.section is_ell has.of_grammar (only_rex has.section lines has.has)
  where
    by : (section : Section) (is_ell : Bool) → IsGrammarSection section is_ell → section ≡ Rex → ⊥
    by _ _ for_lalr is = cc
    by _ _ for_ell is = cc

all_are_built : HasNo (IsFirstOther rex_end_file built)
all_are_built line found =
    let same = (one_order rex_end_file found.lines rex_end_lines found.parts rex_end_parts found.sections rex_end_sections).1 in
    found.other (by found.place found.part (rw same at found.at))
  where
    by : (i : ℕ) (p : Part) → slice_get rex_end_parts i ≡ Some p → Contains built p.section
    by zero p at = let it : part_from Rex 0 1 ≡ p = cc in (0, omega arith, ap (λ q. q.section) it)
    by (suc i) p at = cc

-- a specification without rules is accepted, and has no grammar
pub accepts_none : Accepts rex_end_file (record { rules = rules_by []; grammar = None; nodes = None })
accepts_none = record {
  fits = omega arith;
  rules = record { declares = rex_end_declares; tables = no_states };
  grammar = absent no_grammar_there;
  nodes = without_grammar;
  all_built = all_are_built;
}

-- tokens need no section that may be missing, and a derivation needs a grammar
pub tokens_need_none : (tools : Tools) → HasNo (Misses tools of_tokens)
tokens_need_none tools section misses = by tools.grammar tools.nodes misses.less
  where
    by : (g : Option NamedGrammar) (nodes : Option Nodes) → depth_with g nodes < 1 → ⊥
    by None nodes less = omega (arith, less)
    by (Some g) None less = omega (arith, less)
    by (Some g) (Some nodes) less = omega (arith, less)

pub derivation_needs_grammar : (rules : Rules)
    → Misses (record { rules = rules; grammar = None; nodes = None }) of_derive Lalr
derivation_needs_grammar rules = record { less = omega arith; is = refl }

-- a tree needs a grammar first, then the nodes
tree_needs_grammar : (rules : Rules) → Misses (record { rules = rules; grammar = None; nodes = None }) of_tree Lalr
tree_needs_grammar rules = record { less = omega arith; is = refl }

tree_needs_nodes : (rules : Rules) (g : NamedGrammar)
    → Misses (record { rules = rules; grammar = Some g; nodes = None }) of_tree Ast
tree_needs_nodes rules g = record { less = omega arith; is = refl }

-- END is the terminal behind all tokens, and rules count from 1
end_name : terminal_name (codes "X" ∷ codes "Y" ∷ []) 2 ≡ codes "END"
end_name = refl

second_label : label_of (codes "a" ∷ codes "b" ∷ []) 2 ≡ codes "b"
second_label = refl

-- the derivation of `xy` by the rules `a : S = X S` and `b : S = Y`, line by line
two_rules : derive_text (codes "X" ∷ codes "Y" ∷ []) (codes "a" ∷ codes "b" ∷ []) (codes "xy")
    (postorder (node 1 (leaf (record { terminal = 0; from = 0; to = 1 })
    (node 2 (leaf (record { terminal = 1; from = 1; to = 2 }) empty) empty)) empty))
    ≡ codes "shift X " ++ (34 ∷ 120 ∷ 34 ∷ 10 ∷ (codes "shift Y " ++ (34 ∷ 121 ∷ 34 ∷ 10 ∷ (codes "reduce b" ++ (10 ∷ (codes "reduce a" ++ 10 ∷ []))))))
two_rules = refl

-- one with a byte more is too long, whatever stands in it
pub past_the_limit : (spec : List ℕ) → length spec ≡ 1048577 → RefusesSpec spec refusal.SpecTooLong
past_the_limit spec size = too_long (omega arith)

-- a source with the very last byte that it may have isn't too long
source_at_the_limit : (stage : Stage) (tools : Tools) (source : List ℕ) → length source ≡ 4194304 → AnswerOf stage tools source (refused refusal.SourceTooLong) → ⊥
source_at_the_limit stage tools source size answers = by (refused refusal.SourceTooLong) answers refl
  where
    by : (o : Outcome) → AnswerOf stage tools source o → o ≡ refused refusal.SourceTooLong → ⊥
    by _ (lacks section misses) is = cc
    by _ (AnswerOf.too_long none longer) is = omega (arith, longer, size)
    by _ (makes o none fits made) is = made_too_long stage o made is
      where
        made_too_long : (stage : Stage) (o : Outcome) → Makes tools source stage o → o ≡ refused refusal.SourceTooLong → ⊥
        made_too_long _ _ (tokens o (told ts run)) is = cc
        made_too_long _ _ (tokens o (failed _ (Scanning.bad_token ts at run))) is = cc
        made_too_long _ _ (derive g o given (told d derives)) is = cc
        made_too_long _ _ (derive g o given (failed _ (Deriving.syntax_error ks e n at comes wrong))) is = cc
        made_too_long _ _ (derive g o given (failed _ (Deriving.bad_token ks e at comes bad))) is = cc
        made_too_long _ _ (tree g nodes o given given_nodes (told both has)) is = cc
        made_too_long _ _ (tree g nodes o given given_nodes (failed _ (inl (Deriving.syntax_error ks e n at comes wrong)))) is = cc
        made_too_long _ _ (tree g nodes o given given_nodes (failed _ (inl (Deriving.bad_token ks e at comes bad)))) is = cc
        made_too_long _ _ (tree g nodes o given given_nodes (failed _ (inr (d, derives, Treeing.too_large more)))) is = cc
