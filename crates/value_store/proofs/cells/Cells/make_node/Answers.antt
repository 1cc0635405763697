use Rattle.std.proofs.Common.{refl, ap, ◌∙◌, length}
use Rattle.value_store.specs.declared.unit.NodeUnit.{NodeUnit}
use Rattle.value_store.proofs.NodeMade.{make_gives, pushed_parts}
use Rattle.value_store.proofs.cells.Cells.make_node.Goals as goal

pub invariant_of-self-2 : goal.invariant_of-self-2
invariant_of-self-2 c =
    let u : NodeUnit = record { ty = c.args.ty; nodes = c.nodes_with-nodes.result; children = length c.args.children.now; fields = length c.args.fields.now } in
    (make_gives c.self.inside.units.units c.args.self.now.units c.push_node.new.self.units u c.args.children.now c.args.fields.now c.self.invariant (ap (λ s. s.units) c.self.view_is)
    (pushed_parts c.self.inside.units.units c.args.self.now.units c.reserve.new.self.units c.push_children.new.units.units c.push_fields.new.units.units c.push_node.new.self.units u c.args.children.now c.args.fields.now
    (ap (λ s. s.units) c.self.view_is) c.reserve.ensures.same c.push_children.ensures.items c.push_fields.ensures.items c.push_node.ensures.units)
    c.requires.made refl refl c.nodes_with-nodes.ensures).0

pub returns-clause-ok : goal.returns-clause-ok
returns-clause-ok c =
    let u : NodeUnit = record { ty = c.args.ty; nodes = c.nodes_with-nodes.result; children = length c.args.children.now; fields = length c.args.fields.now } in
    let made = (make_gives c.self.inside.units.units c.args.self.now.units c.push_node.new.self.units u c.args.children.now c.args.fields.now c.self.invariant (ap (λ s. s.units) c.self.view_is)
    (pushed_parts c.self.inside.units.units c.args.self.now.units c.reserve.new.self.units c.push_children.new.units.units c.push_fields.new.units.units c.push_node.new.self.units u c.args.children.now c.args.fields.now
    (ap (λ s. s.units) c.self.view_is) c.reserve.ensures.same c.push_children.ensures.items c.push_fields.ensures.items c.push_node.ensures.units)
    c.requires.made refl refl c.nodes_with-nodes.ensures).1 in
    rw (c.len.ensures.is) made
