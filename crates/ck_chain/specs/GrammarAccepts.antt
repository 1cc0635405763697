-- Which grammar of a specification is accepted, and why another one is refused.
use Rattle.std.specs.Prelude.{◌≡◌, ℕ, ◌-◌, Bool, true, false, List, [], ◌∷◌, ◌++◌, Option, Some, None, option_map, slice_index_or, codes}
use Rattle.ck_base.specs.declared.fault.Kind.{Kind}
use Rattle.ck_base.specs.declared.refusal.Refusal.{Refusal}
use Rattle.ck_base.specs.declared.refusal.Refusal.TheVariants as refusal
use Rattle.ck_base.specs.declared.refusal.StateKind.TheVariants.{Parser}
use Rattle.cfg_model.specs.declared.named.NamedGrammar.{NamedGrammar}
use Rattle.cfg_model.specs.declared.refused.LalrError.{LalrError}
use Rattle.cfg_model.specs.declared.refused.LalrError.TheVariants as lalr
use Rattle.ell_tables.specs.Promise as ll
use Rattle.ell_tables.specs.declared.refusal.EllError.{EllError}
use Rattle.ell_tables.specs.declared.refusal.EllError.TheVariants as ell
use Rattle.lalr_tables.specs.Promise as lr
use Rattle.spec_text.specs.Sections.{SectionLines}
use Rattle.front_spec.specs.GrammarPromise.{HasGrammar, DeclaresGrammar, FirstGrammarFault}

-- the label of a rule; rules count from 1
abbrev pub label_of : List (List ℕ) → ℕ → List ℕ
label_of labels r = slice_index_or labels (r - 1) []

-- the name of a terminal: that of the token, and END for the one behind all tokens
abbrev pub terminal_name : List (List ℕ) → ℕ → List ℕ
terminal_name tokens t = slice_index_or (tokens ++ codes "END" ∷ []) t []

-- the name of a nonterminal
abbrev pub nonterminal_name : NamedGrammar → ℕ → List ℕ
nonterminal_name g n = slice_index_or g.nonterminals n []

-- the refusal of a grammar that has no LL(1) table; want of memory is none
abbrev pub ell_refusal : List (List ℕ) → NamedGrammar → EllError → Option Refusal
ell_refusal tokens g (ell.Unproductive n) = Some (refusal.Unproductive (nonterminal_name g n))
ell_refusal tokens g (ell.LeftRecursive n) = Some (refusal.LeftRecursive (nonterminal_name g n))
ell_refusal tokens g (ell.LlConflict n r q t) =
    Some (refusal.LlConflict (nonterminal_name g n) (label_of g.labels r) (label_of g.labels q) (terminal_name tokens t))
ell_refusal tokens g ell.NoMemory = None

-- the refusal of a grammar that has no LALR(1) table; want of memory is none
abbrev pub lalr_refusal : List (List ℕ) → NamedGrammar → LalrError → Option Refusal
lalr_refusal tokens g (lalr.Unproductive n) = Some (refusal.Unproductive (nonterminal_name g n))
lalr_refusal tokens g (lalr.Cyclic n) = Some (refusal.Cyclic (nonterminal_name g n))
lalr_refusal tokens g (lalr.HiddenLeft n) = Some (refusal.HiddenLeft (nonterminal_name g n))
lalr_refusal tokens g lalr.TooManyStates = Some (refusal.TooManyStates Parser)
lalr_refusal tokens g (lalr.LalrConflict t r other) =
    Some (refusal.LalrConflict (terminal_name tokens t) (label_of g.labels r) (option_map (label_of g.labels) other))
lalr_refusal tokens g lalr.NoMemory = None

-- the grammar has a table for its kind of parsing
pub data HasTable (g : NamedGrammar) : Type 0 where
  for_ll : g.ell ≡ true → ll.HasTable g.grammar → HasTable g
  for_lr : g.ell ≡ false → lr.HasTable g.grammar → HasTable g

-- it has none, and is refused for that
pub data HasNoTable (tokens : List (List ℕ)) (g : NamedGrammar) : Refusal → Type 0 where
  no_ll : (error : EllError) (r : Refusal) → g.ell ≡ true → ll.IsRefused g.grammar error → ell_refusal tokens g error ≡ Some r
      → HasNoTable tokens g r
  no_lr : (error : LalrError) (r : Refusal) → g.ell ≡ false → lr.IsRefused g.grammar error → lalr_refusal tokens g error ≡ Some r
      → HasNoTable tokens g r

-- the file has no section of a grammar; or it has one, whose grammar over the scanner's tokens has a table
pub data GivesGrammar (spec : List ℕ) (tokens : List (List ℕ)) : Option NamedGrammar → Type 0 where
  absent : ((is_ell : Bool) (lines : SectionLines) → HasGrammar spec is_ell lines → ⊥) → GivesGrammar spec tokens None
  with_table : (g : NamedGrammar) → DeclaresGrammar spec tokens g → HasTable g → GivesGrammar spec tokens (Some g)

-- the section is refused: for its first fault, else since its grammar has no table
pub data RefusesGrammar (spec : List ℕ) (tokens : List (List ℕ)) : Refusal → Type 0 where
  faulty : (line : ℕ) (kind : Kind) → FirstGrammarFault spec tokens line kind → RefusesGrammar spec tokens (refusal.BadSpec line kind)
  no_table : (g : NamedGrammar) (r : Refusal) → DeclaresGrammar spec tokens g → HasNoTable tokens g r → RefusesGrammar spec tokens r
