-- The rules of a grammar, as they are read line by line.
use Rattle.std.proofs.Common.{◌≡◌, ℕ, zero, suc, ◌<◌, Bool, true, false, List, [], ◌∷◌, length, map, get_or, refl, subst, Option, Some, None, IsSome, MatchOption, arith}
use Rattle.ck_base.specs.Found.{HasNo}
use Rattle.spec_text.specs.Lexemes.{word}
use Rattle.spec_text.specs.Promise.{HasSection, IsSectionOf}
use Rattle.spec_text.specs.Sections.{SectionLines}
use Rattle.spec_text.specs.Seen.{seen}
use Rattle.spec_text.specs.declared.section.Section.TheVariants.{Lalr, Ell}
use Rattle.spec_text.specs.declared.section.SectionText.{SectionText}
use Rattle.spec_text.specs.declared.view.Token.{Token}
use Rattle.front_spec.specs.GrammarSteps.{IsGrammarText}
use Rattle.front_spec.specs.GrammarPromise.{HasGrammar}
use Rattle.front_spec.proofs.OneGrammar.{lalr_is_grammar, ell_is_grammar, no_grammar}

-- a token that is no name is none among names
pub not_all_names : (tokens : List Token) (i : ℕ) (t : Token) → i < length tokens
    → ((name : List ℕ) → seen (get_or tokens i t) ≡ word name → ⊥) → (names : List (List ℕ))
    → map seen tokens ≡ map word names → ⊥
not_all_names [] i t less none names same = omega (arith, less)
not_all_names (token ∷ tokens) i t less none [] same = cc
not_all_names (token ∷ tokens) zero t less none (name ∷ names) same = none name (cc)
not_all_names (token ∷ tokens) (suc i) t less none (name ∷ names) same =
    not_all_names tokens i t (omega (arith, less)) none names (cc)

-- the section of a grammar
pub lalr_text : (file : List ℕ) (found : SectionText) → IsSectionOf file Lalr found
    → IsGrammarText file (record { section = found; ell = false })
lalr_text file found is =
    record { these = is.these; has = lalr_is_grammar file is.these is.has; head = is.head; lines = is.lines }

pub ell_text : (file : List ℕ) (found : SectionText) → IsSectionOf file Ell found
    → IsGrammarText file (record { section = found; ell = true })
ell_text file found is =
    record { these = is.these; has = ell_is_grammar file is.these is.has; head = is.head; lines = is.lines }

pub some_ell : (file : List ℕ) (ell : Bool) (lines : SectionLines) (found : Option SectionText)
    → HasGrammar file ell lines
    → HasNo (HasSection file Lalr) → MatchOption found (HasNo (HasSection file Ell)) (IsSectionOf file Ell) → IsSome found
some_ell file ell lines None has no_lalr no_ell = absurd (no_grammar file no_lalr no_ell ell lines has)
some_ell file ell lines (Some text) has no_lalr is = refl

pub is_ell : (file : List ℕ) (found : Option SectionText) (text : SectionText) → found ≡ Some text
    → MatchOption found (HasNo (HasSection file Ell)) (IsSectionOf file Ell)
    → IsGrammarText file (record { section = text; ell = true })
is_ell file None text same is = cc
is_ell file (Some found) text same is = let it : found ≡ text = cc in ell_text file text (subst (IsSectionOf file Ell) it is)
