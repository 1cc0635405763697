use Rattle.std.proofs.Common.{◌<◌, ◌+◌, arith, sym, ap, refl, ◌∙◌, subst, length, drop}
use Rattle.std.specs.Prelude.{slice_get}
use Rattle.tree_store.proofs.LabelsRead.{rows_long, row_read, get-taken, get-dropped}
use Rattle.tree_store.proofs.LinksAgree.{has_fields}
use Rattle.tree_store.proofs.tree.Tree.field.Goals as goal

pub label_at-start-requires : goal.label_at-start-requires
label_at-start-requires c =
    let long = rows_long _ _ _ _ _ _ _ c.self.invariant c.self.view_is in
    let within = has_fields c.args.self.now c.args.node c.args.i c.requires in
    omega (arith, long, ap (λ x. length x) c.as_slice.ensures.value, within)

pub value_at-requires : goal.value_at-requires
value_at-requires c =
    let read = row_read _ _ _ _ _ _ _ _ _ _ c.self.invariant c.self.view_is c.as_slice.ensures.value c.label_at-start.ensures in
    let row = c.label_at-start.result in
    let taken = get-taken (drop row.start c.self.inside.fields.items) row.count c.args.i (subst (λ x. c.args.i < length x.fields) read c.requires) in
    let there = c.self.invariant.fields_there c.args.node row (ap (λ r. slice_get r c.args.node) (sym c.as_slice.ensures.value) ∙ c.label_at-start.ensures) in
    omega (arith, taken.1, there, ap (λ x. length x) c.as_slice-2.ensures.value)

pub returns : goal.returns
returns c =
    let read = row_read _ _ _ _ _ _ _ _ _ _ c.self.invariant c.self.view_is c.as_slice.ensures.value c.label_at-start.ensures in
    let row = c.label_at-start.result in
    let taken = get-taken (drop row.start c.self.inside.fields.items) row.count c.args.i (subst (λ x. c.args.i < length x.fields) read c.requires) in
    ap (λ x. slice_get x.fields c.args.i) read ∙ taken.0 ∙ get-dropped c.self.inside.fields.items row.start c.args.i (row.start + c.args.i) refl
    ∙ ap (λ x. slice_get x (row.start + c.args.i)) (sym c.as_slice-2.ensures.value) ∙ c.value_at.ensures
