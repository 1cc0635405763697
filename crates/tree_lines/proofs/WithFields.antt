-- Where the rest of each line is the node's fields, the lines are the printed form.
use Rattle.std.proofs.Common.{◌≡◌, ℕ, ◌+◌, List, [], ◌++◌, map, refl, sym, ap₂, ◌∙◌, append-nil}
use Rattle.expr_lang.specs.PureValues.{PureValue, PureValues, int, bool, text, map_of, token, source, node, no_pure, and_pure}
use Rattle.tree_store.specs.Forest.{Node}
use Rattle.tree_build.specs.Shown.{pure_count, pure_count_all, nodes_from, all_nodes_from, nodes_of_value, pure_node}
use Rattle.tree_lines.specs.TreeText.{line_with, node_line, lines_of, all_lines_of, tree_text, trees_text}
use Rattle.tree_lines.specs.within.Printing.{Base, fields_of_node}
use Rattle.tree_lines.proofs.Placed.{Placed, parts, skip}

module _ (base : Base) (nodes : List Node) where
  all_with_fields : (depth k : ℕ) (vs : PureValues) → Placed (map (pure_node base.source base.literals) nodes) k (all_nodes_from k vs)
      → all_lines_of base.table (fields_of_node base nodes) depth k vs ≡ trees_text base.table depth vs
  all_with_fields depth k no_pure placed = refl
  all_with_fields depth k (and_pure (int z) vs) placed = all_with_fields depth (k + 0) vs (skip _ k _ placed)
  all_with_fields depth k (and_pure (bool b) vs) placed = all_with_fields depth (k + 0) vs (skip _ k _ placed)
  all_with_fields depth k (and_pure (text bytes) vs) placed = all_with_fields depth (k + 0) vs (skip _ k _ placed)
  all_with_fields depth k (and_pure (map_of es) vs) placed = all_with_fields depth (k + 0) vs (skip _ k _ placed)
  all_with_fields depth k (and_pure (token t) vs) placed = all_with_fields depth (k + 0) vs (skip _ k _ placed)
  all_with_fields depth k (and_pure (source n) vs) placed = all_with_fields depth (k + 0) vs (skip _ k _ placed)
  all_with_fields depth k (and_pure (node ty children fields) vs) placed =
      let p = parts base.source base.literals nodes k ty children fields vs placed in
      let line : line_with base.table depth ty (fields_of_node base nodes (k + pure_count_all children)) ≡ node_line base.table depth ty fields =
      rw (p.root.type_is, p.root.fields_are) refl in
      let under = all_with_fields (depth + 1) k children p.under in
      let beside = all_with_fields depth (k + pure_count (node ty children fields)) vs p.beside in
      ap₂ (λ xs ys. xs ++ ys) (ap₂ (λ xs ys. xs ++ ys) line under) beside

  pub with_fields : (depth : ℕ) (v : PureValue) → map (pure_node base.source base.literals) nodes ≡ nodes_of_value v
      → lines_of base.table (fields_of_node base nodes) depth 0 v ≡ tree_text base.table depth v
  with_fields depth v are =
      let placed : Placed (map (pure_node base.source base.literals) nodes) 0 (all_nodes_from 0 (and_pure v no_pure)) = record {
        before = [];
        after = [];
        long = refl;
        is = are ∙ sym (append-nil (nodes_from 0 v)) ∙ sym (append-nil (nodes_from 0 v ++ []));
      } in
      sym (append-nil (lines_of base.table (fields_of_node base nodes) depth 0 v)) ∙ all_with_fields depth 0 (and_pure v no_pure) placed
      ∙ append-nil (tree_text base.table depth v)
