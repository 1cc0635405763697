-- A read of a variable that is bound, and the first of one that isn't.
use Rattle.std.proofs.Common.{arith, ap, ◌∙◌}
use Rattle.std.specs.Prelude.{slice_get}
use Rattle.value_store.specs.Cells.{cells_of}
use Rattle.puma_eval.proofs.ReadsBound.{read_begin, read_place, read_on, read_stop, read_end}
use Rattle.puma_eval.proofs.evaluating.bind_reads.Goals as goal

pub loop-at-init : goal.loop-at-init
loop-at-init c = λ setting types all left attributes are fit. read_begin c.args.world.now (cells_of c.args.cells.now.units) setting c.args.reads.now c.args.from c.args.env.now.items types all left are fit

pub returns-then-read-len : goal.returns-then-read-len
returns-then-read-len c = λ setting types all left attributes are fit.
    (let to = c.loop-at.invariant setting types all left attributes are fit in
    read_stop c.args.world.now (cells_of c.args.cells.now.units) setting c.args.reads.now c.args.from c.args.env.now.items c.loop-at.env.items c.loop-at.at all left c.read_at-read.result
    attributes to c.read_at-read.ensures (let test = c.if-read-len.true in let len = c.len.ensures in omega (arith, test, len, c.loop-at.env.ok)))

pub value-v-requires-clause-node : goal.value-v-requires-clause-node
value-v-requires-clause-node c =
    let r = c.requires in
    let to = c.loop-at.invariant r.setting r.types r.all r.left r.attributes r.are r.fit in
    (read_place c.args.world.now (cells_of c.args.cells.now.units) r.setting c.args.reads.now c.args.from c.args.env.now.items c.loop-at.env.items c.loop-at.at r.all r.left c.read_at-read.result
    r.attributes to c.read_at-read.ensures (let test = c.if-read-len.false in let len = c.len.ensures in omega (arith, test, len, c.loop-at.env.ok)) c.node_in-node.result (λ m get. c.node_in-node.ensures m (ap (λ z. slice_get z c.read_at-read.result.node) c.as_slice.ensures.value ∙ get))).0

pub value-v-requires-clause-attribute : goal.value-v-requires-clause-attribute
value-v-requires-clause-attribute c =
    let r = c.requires in
    let to = c.loop-at.invariant r.setting r.types r.all r.left r.attributes r.are r.fit in
    (read_place c.args.world.now (cells_of c.args.cells.now.units) r.setting c.args.reads.now c.args.from c.args.env.now.items c.loop-at.env.items c.loop-at.at r.all r.left c.read_at-read.result
    r.attributes to c.read_at-read.ensures (let test = c.if-read-len.false in let len = c.len.ensures in omega (arith, test, len, c.loop-at.env.ok)) c.node_in-node.result (λ m get. c.node_in-node.ensures m (ap (λ z. slice_get z c.read_at-read.result.node) c.as_slice.ensures.value ∙ get))).1

pub loop-at-preserved : goal.loop-at-preserved
loop-at-preserved c = λ setting types all left attributes are fit.
    (let to = c.loop-at.invariant setting types all left attributes are fit in
    read_on c.args.world.now (cells_of c.args.cells.now.units) setting c.args.reads.now c.args.from c.args.env.now.items c.loop-at.env.items c.loop-at.at all left c.read_at-read.result
    attributes to c.read_at-read.ensures (let test = c.if-read-len.false in let len = c.len.ensures in omega (arith, test, len, c.loop-at.env.ok)) c.node_in-node.result c.value-v.result c.push.new.self.items
    (λ m get. c.node_in-node.ensures m (ap (λ z. slice_get z c.read_at-read.result.node) c.as_slice.ensures.value ∙ get)) c.value-v.ensures c.in_ok-push.ensures.items)

pub returns : goal.returns
returns c = λ setting types all left attributes are fit.
    read_end c.args.world.now (cells_of c.args.cells.now.units) setting c.args.reads.now c.args.from c.args.env.now.items c.loop-at.env.items c.loop-at.at all left
    (c.loop-at.invariant setting types all left attributes are fit) c.loop-at-test.false
