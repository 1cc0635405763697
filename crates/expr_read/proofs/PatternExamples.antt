-- Patterns, and words of types, tried where the nearest wrong reading differs.
use Rattle.std.proofs.Common.{◌≡◌, List, [], ◌∷◌, Some, None, true, refl, arith, codes}
use Rattle.value_store.specs.declared.value.ValType.TheVariants as ty
use Rattle.spec_text.specs.Lexemes as lex
use Rattle.spec_text.specs.Lexemes.{Lexeme, word, sign}
use Rattle.spec_text.proofs.Lists.{not_among}
use Rattle.expr_read.specs.Notation.{words_behind}
use Rattle.expr_read.specs.Patterns.{Patterns, IsPattern, PatternAt, PatternsIn, anything, name, number, truth, tree, named_tree, no_patterns, and_pattern, word_alone, a_number, a_tree, a_named_tree, none_in, some_in, one_before, closed}
use Rattle.expr_read.specs.TypeWords.{type_of_word}
use Rattle.expr_read.proofs.PatternParts.{some_left, tree_parts}

-- `_` is no name, and `true` is a literal; `if` alone is a name
pub words_alone : (word_alone (codes "_") ≡ anything) × (word_alone (codes "true") ≡ truth true) × (word_alone (codes "if") ≡ name (codes "if"))
words_alone = (refl, refl, refl)

-- `T ( 1 )` is a tree, and not the name `T` before `(`
abbrev tree_tokens : List Lexeme
tree_tokens = word (codes "T") ∷ sign (codes "(") ∷ lex.number 1 ∷ sign (codes ")") ∷ []

pub a_tree_of_one : IsPattern tree_tokens (tree (codes "T") (and_pattern (number 1) no_patterns)) []
a_tree_of_one =
    a_tree 64 (codes "T") tree_tokens (lex.number 1 ∷ sign (codes ")") ∷ []) [] (and_pattern (number 1) no_patterns) (omega arith)
    (not_among words_behind (codes "T") refl) refl
    (some_in 63 (lex.number 1 ∷ sign (codes ")") ∷ []) [] (and_pattern (number 1) no_patterns)
    (one_before 63 (lex.number 1 ∷ sign (codes ")") ∷ []) (sign (codes ")") ∷ []) [] (number 1) no_patterns
    (a_number 63 1 (lex.number 1 ∷ sign (codes ")") ∷ []) (sign (codes ")") ∷ []) (omega arith) refl)
    (closed 63 (sign (codes ")") ∷ []) [] refl)))

pub no_name_before_open : (rest : List Lexeme) → IsPattern tree_tokens (name (codes "T")) rest → ⊥
no_name_before_open rest at =
    let its = tree_parts 64 (codes "T") tree_tokens (lex.number 1 ∷ sign (codes ")") ∷ []) rest (name (codes "T")) refl at in
    let is = its.is in cc

-- `v : T ( )` binds the node to `v`
pub a_bound_tree : IsPattern (word (codes "v") ∷ sign (codes ":") ∷ word (codes "T") ∷ sign (codes "(") ∷ sign (codes ")") ∷ [])
    (named_tree (codes "v") (codes "T") no_patterns) []
a_bound_tree =
    a_named_tree 64 (codes "v") (codes "T") _ (sign (codes ")") ∷ []) [] no_patterns (omega arith) (not_among words_behind (codes "v") refl)
    (not_among words_behind (codes "T") refl) refl (none_in 63 (sign (codes ")") ∷ []) [] refl)

-- a tree has one more than its parts, and a tree without parts has 1
pub tree_is_deeper : PatternAt 1 tree_tokens (tree (codes "T") (and_pattern (number 1) no_patterns)) [] → ⊥
tree_is_deeper at =
    let its = tree_parts 1 (codes "T") tree_tokens (lex.number 1 ∷ sign (codes ")") ∷ []) [] _ refl at in
    by its.parts its.are
  where
    by : (parts : Patterns) → PatternsIn 0 (lex.number 1 ∷ sign (codes ")") ∷ []) parts [] → ⊥
    by _ (none_in left tokens rest is) = cc
    by _ (some_in left tokens rest parts (one_before _ _ between _ p more at on)) = some_left 0 (lex.number 1 ∷ sign (codes ")") ∷ []) between p refl at

pub empty_tree : PatternAt 1 (word (codes "T") ∷ sign (codes "(") ∷ sign (codes ")") ∷ []) (tree (codes "T") no_patterns) []
empty_tree =
    a_tree 1 (codes "T") _ (sign (codes ")") ∷ []) [] no_patterns (omega arith) (not_among words_behind (codes "T") refl) refl
    (none_in 0 (sign (codes ")") ∷ []) [] refl)

-- `map` names a type, and `node` none
pub words_of_types : (type_of_word (codes "map") ≡ Some ty.Map) × (type_of_word (codes "node") ≡ None)
words_of_types = (refl, refl)
