-- One edge more: followed with growth or without, or not followed.
use Rattle.std.proofs.Common.{◌∙◌, get_or}
use Rattle.std.proofs.lemmas.Option.{slice_get-get_or}
use Rattle.cfg_model.specs.declared.rows.Edge.{Edge}
use Rattle.cfg_model.proofs.Joining.{spread_none, spread_grew, spread_same, spread_skip, spread_all, spread_marked}
use Rattle.cfg_model.proofs.rows.spread_once.Goals as goal
use Rattle.cfg_model.proofs.rows.spread_once.Goals.{then-has+then-follow_edge, then-has+else-follow_edge, else-has+else-has-2}

pub loop-i-init : goal.loop-i-init
loop-i-init c = record {
  so_far = spread_none c.args.edges.now c.args.before.now c.args.rows.now.items c.args.grown.now c.requires.grown.1 c.requires.marked;
  rows = c.requires.rows;
  scratch = c.requires.scratch;
  grown = c.requires.grown.0;
}

pub loop-i-preserved : goal.loop-i-preserved
loop-i-preserved c =
    let edges = c.args.edges.now in
    let before = c.args.before.now in
    let zero_edge : Edge = record { from = 0; to = 0 } in
    let i = c.loop-i.i in
    let edge = get_or edges i zero_edge in
    let is = slice_get-get_or edges i zero_edge c.loop-i-test.true in
    let old = c.args.rows.now.items in
    let mid = c.loop-i.rows.items in
    let so_far = c.loop-i.invariant.so_far in
    elim c.if-has.branch [
      | then-has+then-follow_edge w ↦ rw (w.rows-is, w.grown-is, w.scratch-is, w.grew-is) (record {
        so_far = spread_grew edges before i old mid c.loop-i.grown c.loop-i.grew edge so_far is w.follow_edge.new.rows.items w.add.new.self
            (rw w.if-follow_edge.true at w.follow_edge.ensures.joined) w.add.ensures;
        rows = w.follow_edge.ensures.rows;
        scratch = w.follow_edge.ensures.scratch;
        grown = w.add.ensures.size ∙ c.loop-i.invariant.grown;
      })
      | then-has+else-follow_edge w ↦ rw (w.rows-is, w.grown-is, w.scratch-is, w.grew-is) (record {
        so_far = spread_same edges before i old mid c.loop-i.grown c.loop-i.grew edge so_far is w.follow_edge.new.rows.items
            (rw w.if-follow_edge.false at w.follow_edge.ensures.joined);
        rows = w.follow_edge.ensures.rows;
        scratch = w.follow_edge.ensures.scratch;
        grown = c.loop-i.invariant.grown;
      })
      | else-has+else-has-2 w ↦ rw (w.rows-is, w.grown-is, w.scratch-is, w.grew-is) (record {
        so_far = spread_skip edges before i old mid c.loop-i.grown c.loop-i.grew edge so_far is
            (λ has. (let e = c.has.ensures.1 has in let f = w.if-has.false in cc));
        rows = c.loop-i.invariant.rows;
        scratch = c.loop-i.invariant.scratch;
        grown = c.loop-i.invariant.grown;
      })
    ]

pub returns-clause-round : goal.returns-clause-round
returns-clause-round c = spread_all c.args.edges.now c.args.before.now c.loop-i.i c.args.rows.now.items c.loop-i.rows.items c.loop-i.grown c.loop-i.grew c.loop-i.invariant.so_far c.loop-i-test.false

pub returns-clause-marked : goal.returns-clause-marked
returns-clause-marked c = spread_marked c.args.edges.now c.args.before.now c.loop-i.i c.args.rows.now.items c.loop-i.rows.items c.loop-i.grown c.loop-i.grew c.loop-i.invariant.so_far c.loop-i-test.false
