-- Operators and prefixes are told apart by how they are written.
use Rattle.std.proofs.Common.{◌≡◌, ℕ, ◌≤◌, List, ◌∷◌, if◌then◌else◌, codes, refl, sym, ap, ◌∙◌, arith}
use Rattle.std.specs.Str.{bytes_eq}
use Rattle.expr_lang.specs.declared.expr.Op.{Op}
use Rattle.expr_lang.specs.declared.expr.Op.TheVariants as op
use Rattle.spec_text.specs.Lexemes.{Lexeme, sign}
use Rattle.expr_read.specs.declared.prefix.Prefix.{Prefix}
use Rattle.expr_read.specs.declared.prefix.Prefix.TheVariants as prefix
use Rattle.expr_read.specs.Notation.{glyph_of, precedence}
use Rattle.expr_read.specs.within.Wholes.{prefix_glyph}

op_in : List ℕ → Op
op_in glyph =
    if bytes_eq glyph (codes "||") then op.Or
    else if bytes_eq glyph (codes "&&") then op.And
    else if bytes_eq glyph (codes "==") then op.Equal
    else if bytes_eq glyph (codes "!=") then op.Differ
    else if bytes_eq glyph (codes "<") then op.Less
    else if bytes_eq glyph (codes "<=") then op.AtMost
    else if bytes_eq glyph (codes ">") then op.Greater
    else if bytes_eq glyph (codes ">=") then op.AtLeast
    else if bytes_eq glyph (codes "+") then op.Plus
    else if bytes_eq glyph (codes "-") then op.Minus
    else if bytes_eq glyph (codes "*") then op.Times
    else if bytes_eq glyph (codes "/") then op.Quotient
    else op.Remainder

op_written : (o : Op) → op_in (glyph_of o) ≡ o
unfolding op_in
op_written op.Or = refl
op_written op.And = refl
op_written op.Equal = refl
op_written op.Differ = refl
op_written op.Less = refl
op_written op.AtMost = refl
op_written op.Greater = refl
op_written op.AtLeast = refl
op_written op.Plus = refl
op_written op.Minus = refl
op_written op.Times = refl
op_written op.Quotient = refl
op_written op.Remainder = refl

pub same_sign : (g h : List ℕ) (rest more : List Lexeme) → sign g ∷ rest ≡ sign h ∷ more → g ≡ h
same_sign g h rest more e = cc

pub same_rest : (g h : Lexeme) (rest more : List Lexeme) → g ∷ rest ≡ h ∷ more → rest ≡ more
same_rest g h rest more e = cc

pub one_glyph : (o q : Op) (rest more : List Lexeme) → sign (glyph_of o) ∷ rest ≡ sign (glyph_of q) ∷ more → o ≡ q
one_glyph o q rest more e = sym (op_written o) ∙ ap op_in (same_sign (glyph_of o) (glyph_of q) rest more e) ∙ op_written q

prefix_in : List ℕ → Prefix
prefix_in glyph = if bytes_eq glyph (codes "-") then prefix.Minus else prefix.Not

prefix_written : (s : Prefix) → prefix_in (prefix_glyph s) ≡ s
unfolding prefix_in
prefix_written prefix.Minus = refl
prefix_written prefix.Not = refl

pub one_prefix : (s t : Prefix) (rest more : List Lexeme) → sign (prefix_glyph s) ∷ rest ≡ sign (prefix_glyph t) ∷ more → s ≡ t
one_prefix s t rest more e = sym (prefix_written s) ∙ ap prefix_in (same_sign (prefix_glyph s) (prefix_glyph t) rest more e) ∙ prefix_written t

-- the levels of operators
pub precedences : (o : Op) → (1 ≤ precedence o) × (precedence o ≤ 5)
precedences op.Or = (omega arith, omega arith)
precedences op.And = (omega arith, omega arith)
precedences op.Equal = (omega arith, omega arith)
precedences op.Differ = (omega arith, omega arith)
precedences op.Less = (omega arith, omega arith)
precedences op.AtMost = (omega arith, omega arith)
precedences op.Greater = (omega arith, omega arith)
precedences op.AtLeast = (omega arith, omega arith)
precedences op.Plus = (omega arith, omega arith)
precedences op.Minus = (omega arith, omega arith)
precedences op.Times = (omega arith, omega arith)
precedences op.Quotient = (omega arith, omega arith)
precedences op.Remainder = (omega arith, omega arith)
