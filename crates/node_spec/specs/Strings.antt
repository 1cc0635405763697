-- How many bytes the strings of AST's lines have: so many its reader puts behind the literals.
use Rattle.std.specs.Prelude.{ℕ, ◌+◌, List, [], ◌∷◌}
use Rattle.section_frame.specs.Declares.{Declared}
use Rattle.expr_read.specs.Strings.{string_bytes}
use Rattle.node_spec.specs.AstShapes.{AstSaying, family, target, a_type, node, build}

-- the bytes of the strings in what lines of AST declare
abbrev pub saying_bytes : AstSaying → ℕ
saying_bytes (family w) = 0
saying_bytes (target w) = 0
saying_bytes (a_type w base items) = 0
saying_bytes (node nonterminal w) = 0
saying_bytes (build label e) = string_bytes e

-- how many bytes the texts in quotes of these lines have
abbrev pub declared_bytes : List (Declared AstSaying) → ℕ
declared_bytes [] = 0
declared_bytes (d ∷ ds) = saying_bytes d.said + declared_bytes ds
