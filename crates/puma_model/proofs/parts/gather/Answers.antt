-- The parts of the node are read one after the other.
use Rattle.std.proofs.Common.{arith, subst, ap, ◌∙◌, take, length-set, ◌≡◌, length, rules}
use Rattle.value_store.specs.Cells.{cells_of}
use Rattle.puma_model.specs.Found.{scene_of}
use Rattle.puma_model.specs.within.Gathering.{AreParts}
use Rattle.puma_model.proofs.PartsGathered.{gather_begin, gather_has, gather_on, gather_end, gather_few, gather_item, gather_length}
use Rattle.puma_model.proofs.UsableTypes.{few_items}
use Rattle.puma_model.proofs.parts.gather.Goals as goal

pub loop-i-init : goal.loop-i-init
loop-i-init c = record {
  long = search rules;
  parts = gather_begin (scene_of c.args.world.now) (cells_of c.args.cells.now.units) c.args.v c.args.ty _ c.requires.scene c.requires.typed c.requires.is;
}

pub part_of-part-requires-clause-there : goal.part_of-part-requires-clause-there
part_of-part-requires-clause-there c =
    let item = gather_item c.args.world.now.types.now c.args.ty c.loop-i.i c.item_type.result c.items-items.result.now c.items-items.ensures c.item_type.ensures in
    gather_has (scene_of c.args.world.now) (cells_of c.args.cells.now.units) c.args.v c.args.ty c.loop-i.into c.loop-i.children c.loop-i.fields c.loop-i.i _ _ c.requires.is c.loop-i.invariant.parts item c.is_child-child.ensures

pub one_more_if-children-requires : goal.one_more_if-children-requires
one_more_if-children-requires c =
    let count = gather_few (scene_of c.args.world.now) (cells_of c.args.cells.now.units) c.args.v c.args.ty c.loop-i.into c.loop-i.children c.loop-i.fields c.loop-i.i c.requires.is c.loop-i.invariant.parts in
    let few = few_items c.args.world.now.types.now c.args.ty c.requires.scene.types c.requires.there in
    let same = ap (λ z. length z) c.items-items.ensures in
    let test = c.loop-i-test.true in omega (arith, count, few, same, test)

pub one_more_if-fields-requires : goal.one_more_if-fields-requires
one_more_if-fields-requires c =
    let count = gather_few (scene_of c.args.world.now) (cells_of c.args.cells.now.units) c.args.v c.args.ty c.loop-i.into c.loop-i.children c.loop-i.fields c.loop-i.i c.requires.is c.loop-i.invariant.parts in
    let few = few_items c.args.world.now.types.now c.args.ty c.requires.scene.types c.requires.there in
    let same = ap (λ z. length z) c.items-items.ensures in
    let test = c.loop-i-test.true in omega (arith, count, few, same, test)

pub loop-i-preserved : goal.loop-i-preserved
loop-i-preserved c =
    let item = gather_item c.args.world.now.types.now c.args.ty c.loop-i.i c.item_type.result c.items-items.result.now c.items-items.ensures c.item_type.ensures in
    let few = few_items c.args.world.now.types.now c.args.ty c.requires.scene.types c.requires.there in
    let same = ap (λ z. length z) c.items-items.ensures in
    let test = c.loop-i-test.true in
    let long = c.loop-i.invariant.long in
    record {
      long = length-set c.loop-i.into c.loop-i.i c.part_of-part.result ∙ long;
      parts = λ it at. rw (c.one_more_if-children.ensures, c.one_more_if-fields.ensures)
          (gather_on (scene_of c.args.world.now) (cells_of c.args.cells.now.units) c.args.v c.args.ty c.loop-i.into c.loop-i.children c.loop-i.fields c.loop-i.i _ _ _ c.loop-i.invariant.parts item c.is_child-child.ensures
          (omega (arith, few, same, test, long)) c.part_of-part.ensures it at);
    }

pub returns-clause-parts : goal.returns-clause-parts
returns-clause-parts c =
    let test = c.loop-i-test.false in
    let end = c.loop-i.auto.i-end in
    let all : c.loop-i.i ≡ length c.items-items.result.now = omega (arith, test, end) in
    let count = gather_length c.args.world.now.types.now c.args.ty c.items-items.result.now c.items-items.ensures in
    subst (λ z. AreParts (scene_of c.args.world.now) (cells_of c.args.cells.now.units) c.args.v c.args.ty (take z c.loop-i.into)) all
    (gather_end (scene_of c.args.world.now) (cells_of c.args.cells.now.units) c.args.v c.args.ty c.loop-i.into c.loop-i.children c.loop-i.fields c.loop-i.i c.requires.is c.loop-i.invariant.parts (omega (arith, all, count)))

pub bounds-into-i : goal.bounds-into-i
bounds-into-i c =
    let few = few_items c.args.world.now.types.now c.args.ty c.requires.scene.types c.requires.there in
    let same = ap (λ z. length z) c.items-items.ensures in
    let test = c.loop-i-test.true in omega (arith, few, same, test)

pub returns-clause-few : goal.returns-clause-few
returns-clause-few c =
    let few = few_items c.args.world.now.types.now c.args.ty c.requires.scene.types c.requires.there in
    let same = ap (λ z. length z) c.items-items.ensures in omega (arith, few, same)
