use Rattle.std.proofs.Common.{[], ◌∷◌, ◌++◌, ◌-◌, length, ap, ◌∙◌, arith}
use Rattle.std.proofs.lemmas.List.{length-drop, length-map}
use Rattle.value_store.specs.Cells.{cells_of, tree_at}
use Rattle.value_store.specs.MadeTrees.{fields_of}
use Rattle.tree_store.specs.Fitting.{as_field}
use Rattle.tree_build.proofs.NodeLaid.{counts, ready, added, fits_here, rest_is}
use Rattle.tree_build.proofs.laying.add_node.Goals as goal

pub field_count-count-requires : goal.field_count-count-requires
field_count-count-requires c =
    let cells = cells_of c.args.cells.now.units in
    let k = counts cells c.args.types.now _ c.args.cell _ _ _ c.type_of-ty.result c.requires.types c.requires.laying.2 c.type_of-ty.ensures in
    k.there

pub copy_fields-requires-clause-count : goal.copy_fields-requires-clause-count
copy_fields-requires-clause-count c =
    let cells = cells_of c.args.cells.now.units in
    let k = counts cells c.args.types.now _ c.args.cell _ _ _ c.type_of-ty.result c.requires.types c.requires.laying.2 c.type_of-ty.ensures in
    c.field_count-count.ensures ∙ k.fields

pub copy_fields-requires-clause-few : goal.copy_fields-requires-clause-few
copy_fields-requires-clause-few c =
    let cells = cells_of c.args.cells.now.units in
    let k = counts cells c.args.types.now _ c.args.cell _ _ _ c.type_of-ty.result c.requires.types c.requires.laying.2 c.type_of-ty.ensures in
    let few = k.few_fields in
    let e = c.field_count-count.ensures in
    let f = k.fields in
    omega (arith, few, e, f)

pub child_count-requires : goal.child_count-requires
child_count-requires c =
    let cells = cells_of c.args.cells.now.units in
    let k = counts cells c.args.types.now _ c.args.cell _ _ _ c.type_of-ty.result c.requires.types c.requires.laying.2 c.type_of-ty.ensures in
    k.there

pub overflow_sub-below : goal.overflow_sub-below
overflow_sub-below c =
    let cells = cells_of c.args.cells.now.units in
    let k = counts cells c.args.types.now _ c.args.cell _ _ _ c.type_of-ty.result c.requires.types c.requires.laying.2 c.type_of-ty.ensures in
    let enough = k.enough in
    let e = c.child_count.ensures in
    let f = k.children in
    let l = c.len.ensures in
    omega (arith, enough, e, f, l)

pub add-requires-clause-fits : goal.add-requires-clause-fits
add-requires-clause-fits c =
    let cells = cells_of c.args.cells.now.units in
    let k = counts cells c.args.types.now _ c.args.cell _ _ _ c.type_of-ty.result c.requires.types c.requires.laying.2 c.type_of-ty.ensures in
    let e = c.child_count.ensures in
    let f = k.children in
    let l = c.len.ensures in
    let front = c.len.result - c.child_count.result in
    let r = ready cells c.args.types.now _ c.args.cell _ c.args.done.now.items c.args.tree.now front c.requires.laying.2 (omega (arith, e, f, l)) in
    let kids = rest_is c.as_slice.result.now c.args.done.now.items front c.as_slice.ensures.value in
    fits_here cells c.args.types.now c.args.cell _ _ front _ _ _ r c.type_of-ty.ensures kids c.copy_fields.ensures

pub add-requires-clause-few : goal.add-requires-clause-few
add-requires-clause-few c =
    let cells = cells_of c.args.cells.now.units in
    let k = counts cells c.args.types.now _ c.args.cell _ _ _ c.type_of-ty.result c.requires.types c.requires.laying.2 c.type_of-ty.ensures in
    let e = c.child_count.ensures in
    let f = k.children in
    let l = c.len.ensures in
    let front = c.len.result - c.child_count.result in
    let kids = ap (λ ns. length ns) (rest_is c.as_slice.result.now c.args.done.now.items front c.as_slice.ensures.value) in
    let few_kids = k.few_children in
    let enough = k.enough in
    let few = k.few_fields in
    let copied = ap (λ vs. length vs) c.copy_fields.ensures in
    (omega (arith, kids, e, f, l, few_kids, enough, length-drop front c.args.done.now.items), omega (arith, few, copied, length-map (fields_of (tree_at cells c.args.cell)) as_field))

pub returns : goal.returns
returns c = λ whole tasks laying.
    let cells = cells_of c.args.cells.now.units in
    let k = counts cells c.args.types.now whole c.args.cell tasks _ _ c.type_of-ty.result c.requires.types laying c.type_of-ty.ensures in
    let e = c.child_count.ensures in
    let f = k.children in
    let l = c.len.ensures in
    let front = c.len.result - c.child_count.result in
    let kids = rest_is c.as_slice.result.now c.args.done.now.items front c.as_slice.ensures.value in
    added cells c.args.types.now whole c.args.cell tasks c.args.done.now.items c.args.tree.now front _ c.add.new.self c.push.new.self.items laying (omega (arith, e, f, l))
    c.type_of-ty.ensures kids c.copy_fields.ensures c.in-Ok.ensures.added
    (c.in_ok-push.ensures.items ∙ (ap (λ n. c.truncate.new.self.items ++ n ∷ []) c.in-Ok.ensures.number ∙ ap (λ ns. ns ++ length c.args.tree.now ∷ []) c.truncate.ensures.items))
    (c.in-Ok.ensures.conforms laying.conforms)
