-- Each pattern of a row stands at the next child or at the next field.
use Rattle.std.proofs.Common.{◌++◌, ◌+◌, [], drop, map, length, refl, subst, ap, ◌∙◌, arith}
use Rattle.std.proofs.lemmas.Option.{slice_get_read}
use Rattle.tree_store.specs.Forest.{node_at, children_at}
use Rattle.beg_model.specs.RuleMeaning.{pattern_of, patterns_of}
use Rattle.beg_model.proofs.PatternMatching.{pattern-Tree}
use Rattle.beg_model.proofs.PatternsInRow.{drop_here, mapped_read, size_at_most}
use Rattle.beg_registers.specs.Bound.{bound_along}
use Rattle.beg_registers.proofs.BoundFields.{Collects, leaf_collected, any_collected, int_collected, bool_collected, text_collected, bind_collected, tree_collected, bind_there, tree_there, tree_fits_there, parts_fit, tree_bound, renamed, collected_all}
use Rattle.beg_registers.proofs.variables.+collect.Goals as goal
use Rattle.beg_registers.proofs.variables.+collect.Goals.{collect_along-in-Leaf+in_ok-child-in-Leaf, collect_along-in-Tree+in_ok-collect_bound-in-Tree+in_ok-child-in-Tree, collect_along-in-Bind+in_ok-push-in-Bind+in_ok-field-in-Bind, collect_along-in-Any+in_ok-field-in-Any, collect_along-in-Int+in_ok-field-in-Int, collect_along-in-Bool+in_ok-field-in-Bool, collect_along-in-Text+in_ok-field-in-Text}

pub collect_bound-collect_along-requires : goal.collect_bound-collect_along-requires
collect_bound-collect_along-requires t c = (
  (let d = rw (c.in-Tree.is, pattern-Tree) at c.decreases in omega (arith, d)),
  parts_fit c.args.tree.now c.args.pattern.now c.args.node c.in-Tree.parts c.in-Tree.is c.requires,
)

pub collect_bound-returns-in_ok-collect_along-in-Tree : goal.collect_bound-returns-in_ok-collect_along-in-Tree
collect_bound-returns-in_ok-collect_along-in-Tree t c =
    tree_bound c.args.tree.now c.args.pattern.now c.args.node c.in-Tree.parts c.in-Tree.is c.args.fields.now.items c.collect_along.new.fields.items
    c.in_ok-collect_along-in-Tree.ensures

pub collect_along-child-requires : goal.collect_along-child-requires
collect_along-child-requires t c =
    let at = slice_get_read c.args.parts.now (length c.args.parts.now) c.loop-part.part-index c.part-item.result refl c.loop-part-test.true c.part-item.is in
    let to = subst (λ z. Collects c.args.tree.now (children_at c.args.tree.now c.args.node) (node_at c.args.tree.now c.args.node).fields
    (λ s k. c.args.fields.now.items ++ bound_along c.args.tree.now (patterns_of (map (pattern_of s k) c.args.parts.now)) (children_at c.args.tree.now c.args.node) (node_at c.args.tree.now c.args.node).fields)
    c.loop-part.fields.items z c.loop-part.child c.loop-part.field) (drop_here c.args.parts.now c.loop-part.part-index c.part-item.result at) c.loop-part.invariant in
    tree_there c.args.tree.now (children_at c.args.tree.now c.args.node) (node_at c.args.tree.now c.args.node).fields _ c.loop-part.fields.items c.part-item.result (drop (c.loop-part.part-index + 1) c.args.parts.now) c.loop-part.child c.loop-part.field to _ c.in-Tree.is

pub collect_along-field-requires : goal.collect_along-field-requires
collect_along-field-requires t c =
    let at = slice_get_read c.args.parts.now (length c.args.parts.now) c.loop-part.part-index c.part-item.result refl c.loop-part-test.true c.part-item.is in
    let to = subst (λ z. Collects c.args.tree.now (children_at c.args.tree.now c.args.node) (node_at c.args.tree.now c.args.node).fields
    (λ s k. c.args.fields.now.items ++ bound_along c.args.tree.now (patterns_of (map (pattern_of s k) c.args.parts.now)) (children_at c.args.tree.now c.args.node) (node_at c.args.tree.now c.args.node).fields)
    c.loop-part.fields.items z c.loop-part.child c.loop-part.field) (drop_here c.args.parts.now c.loop-part.part-index c.part-item.result at) c.loop-part.invariant in
    bind_there c.args.tree.now (children_at c.args.tree.now c.args.node) (node_at c.args.tree.now c.args.node).fields _ c.loop-part.fields.items c.part-item.result (drop (c.loop-part.part-index + 1) c.args.parts.now) c.loop-part.child c.loop-part.field to c.in-Bind.is

pub collect_along-collect_bound-requires : goal.collect_along-collect_bound-requires
collect_along-collect_bound-requires t c =
    let at = slice_get_read c.args.parts.now (length c.args.parts.now) c.loop-part.part-index c.part-item.result refl c.loop-part-test.true c.part-item.is in
    let to = subst (λ z. Collects c.args.tree.now (children_at c.args.tree.now c.args.node) (node_at c.args.tree.now c.args.node).fields
    (λ s k. c.args.fields.now.items ++ bound_along c.args.tree.now (patterns_of (map (pattern_of s k) c.args.parts.now)) (children_at c.args.tree.now c.args.node) (node_at c.args.tree.now c.args.node).fields)
    c.loop-part.fields.items z c.loop-part.child c.loop-part.field) (drop_here c.args.parts.now c.loop-part.part-index c.part-item.result at) c.loop-part.invariant in
    let size = size_at_most (map (pattern_of [] []) c.args.parts.now) c.loop-part.part-index (pattern_of [] [] c.part-item.result)
    (mapped_read (pattern_of [] []) c.args.parts.now c.loop-part.part-index c.part-item.result at) in
    ((let d = c.decreases in omega (arith, d, size)), tree_fits_there c.args.tree.now (children_at c.args.tree.now c.args.node) (node_at c.args.tree.now c.args.node).fields _ c.loop-part.fields.items c.part-item.result (drop (c.loop-part.part-index + 1) c.args.parts.now) c.loop-part.child c.loop-part.field to _ c.child.result c.in-Tree.is c.child.ensures.is)

pub collect_along-returns : goal.collect_along-returns
collect_along-returns t c = collected_all c.args.parts.now c.loop-part.fields.items c.loop-part.child c.loop-part.field c.loop-part.part-index c.loop-part-test.false c.loop-part.invariant

pub collect_along-loop-part-preserved : goal.collect_along-loop-part-preserved
collect_along-loop-part-preserved t c =
    let at = slice_get_read c.args.parts.now (length c.args.parts.now) c.loop-part.part-index c.part-item.result refl c.loop-part-test.true c.part-item.is in
    let to = subst (λ z. Collects c.args.tree.now (children_at c.args.tree.now c.args.node) (node_at c.args.tree.now c.args.node).fields
    (λ s k. c.args.fields.now.items ++ bound_along c.args.tree.now (patterns_of (map (pattern_of s k) c.args.parts.now)) (children_at c.args.tree.now c.args.node) (node_at c.args.tree.now c.args.node).fields)
    c.loop-part.fields.items z c.loop-part.child c.loop-part.field) (drop_here c.args.parts.now c.loop-part.part-index c.part-item.result at) c.loop-part.invariant in
    let rest = drop (c.loop-part.part-index + 1) c.args.parts.now in
    elim c.match-part.branch [
      | collect_along-in-Leaf+in_ok-child-in-Leaf w ↦ renamed rest c.loop-part.fields.items _ (c.loop-part.child + 1) _ c.loop-part.field _ (ap (λ v. v.items) w.fields-is) (w.child-is ∙ w.in_ok-child-in-Leaf.ensures) w.field-is
          (leaf_collected c.args.tree.now (children_at c.args.tree.now c.args.node) (node_at c.args.tree.now c.args.node).fields _ c.loop-part.fields.items c.part-item.result (drop (c.loop-part.part-index + 1) c.args.parts.now) c.loop-part.child c.loop-part.field to w.in-Leaf.is)
      | collect_along-in-Tree+in_ok-collect_bound-in-Tree+in_ok-child-in-Tree w ↦ renamed rest w.collect_bound.new.fields.items _ (c.loop-part.child + 1) _ c.loop-part.field _ (ap (λ v. v.items) w.fields-is) (w.child-is ∙ w.in_ok-child-in-Tree.ensures) w.field-is
          (tree_collected c.args.tree.now (children_at c.args.tree.now c.args.node) (node_at c.args.tree.now c.args.node).fields _ c.loop-part.fields.items c.part-item.result (drop (c.loop-part.part-index + 1) c.args.parts.now) c.loop-part.child c.loop-part.field to _ w.child.result w.collect_bound.new.fields.items w.in-Tree.is w.child.ensures.is w.in_ok-collect_bound-in-Tree.ensures)
      | collect_along-in-Bind+in_ok-push-in-Bind+in_ok-field-in-Bind w ↦ renamed rest w.push.new.self.items _ c.loop-part.child _ (c.loop-part.field + 1) _ (ap (λ v. v.items) w.fields-is) w.child-is (w.field-is ∙ w.in_ok-field-in-Bind.ensures)
          (bind_collected c.args.tree.now (children_at c.args.tree.now c.args.node) (node_at c.args.tree.now c.args.node).fields _ c.loop-part.fields.items c.part-item.result (drop (c.loop-part.part-index + 1) c.args.parts.now) c.loop-part.child c.loop-part.field to w.field.result w.push.new.self.items w.in-Bind.is w.field.ensures w.in_ok-push-in-Bind.ensures.items)
      | collect_along-in-Any+in_ok-field-in-Any w ↦ renamed rest c.loop-part.fields.items _ c.loop-part.child _ (c.loop-part.field + 1) _ (ap (λ v. v.items) w.fields-is) w.child-is (w.field-is ∙ w.in_ok-field-in-Any.ensures)
          (any_collected c.args.tree.now (children_at c.args.tree.now c.args.node) (node_at c.args.tree.now c.args.node).fields _ c.loop-part.fields.items c.part-item.result (drop (c.loop-part.part-index + 1) c.args.parts.now) c.loop-part.child c.loop-part.field to w.in-Any.is)
      | collect_along-in-Int+in_ok-field-in-Int w ↦ renamed rest c.loop-part.fields.items _ c.loop-part.child _ (c.loop-part.field + 1) _ (ap (λ v. v.items) w.fields-is) w.child-is (w.field-is ∙ w.in_ok-field-in-Int.ensures)
          (int_collected c.args.tree.now (children_at c.args.tree.now c.args.node) (node_at c.args.tree.now c.args.node).fields _ c.loop-part.fields.items c.part-item.result (drop (c.loop-part.part-index + 1) c.args.parts.now) c.loop-part.child c.loop-part.field to w.in-Int.is)
      | collect_along-in-Bool+in_ok-field-in-Bool w ↦ renamed rest c.loop-part.fields.items _ c.loop-part.child _ (c.loop-part.field + 1) _ (ap (λ v. v.items) w.fields-is) w.child-is (w.field-is ∙ w.in_ok-field-in-Bool.ensures)
          (bool_collected c.args.tree.now (children_at c.args.tree.now c.args.node) (node_at c.args.tree.now c.args.node).fields _ c.loop-part.fields.items c.part-item.result (drop (c.loop-part.part-index + 1) c.args.parts.now) c.loop-part.child c.loop-part.field to w.in-Bool.is)
      | collect_along-in-Text+in_ok-field-in-Text w ↦ renamed rest c.loop-part.fields.items _ c.loop-part.child _ (c.loop-part.field + 1) _ (ap (λ v. v.items) w.fields-is) w.child-is (w.field-is ∙ w.in_ok-field-in-Text.ensures)
          (text_collected c.args.tree.now (children_at c.args.tree.now c.args.node) (node_at c.args.tree.now c.args.node).fields _ c.loop-part.fields.items c.part-item.result (drop (c.loop-part.part-index + 1) c.args.parts.now) c.loop-part.child c.loop-part.field to w.in-Text.is)
    ]
