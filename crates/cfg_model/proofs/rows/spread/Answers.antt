-- Round after round, until none grows.
use Rattle.std.proofs.Common.{◌∙◌, inl, inr}
use Rattle.cfg_model.proofs.Joining.{spreading_none, spreading_more, spread_done, edge_from_inside}
use Rattle.cfg_model.proofs.rows.spread.Goals as goal

pub rounds-init : goal.rounds-init
rounds-init c = record {
  so_far = spreading_none c.args.edges.now c.args.rows.now.items;
  rows = c.requires.rows;
  scratch = c.in_ok-scratch.ensures.size;
  before = c.in_ok-before.ensures.size;
  grown = c.in_ok-grown.ensures.size;
  empty = c.in_ok-grown.ensures.empty;
  marked = λ a b t edge has. inr (c.in_ok-before.ensures.all a (edge_from_inside c.args.count c.args.edges.now a b c.requires.edges edge));
}

pub rounds-preserved : goal.rounds-preserved
rounds-preserved c = record {
  so_far = spreading_more c.args.edges.now c.args.rows.now.items c.rounds.rows.items c.spread_once.new.rows.items c.spread_once.result c.rounds.invariant.so_far c.spread_once.ensures.round;
  rows = c.spread_once.ensures.rows;
  scratch = c.spread_once.ensures.scratch;
  before = c.hand_on.ensures.before ∙ c.rounds.invariant.before;
  grown = c.hand_on.ensures.grown ∙ c.spread_once.ensures.grown;
  empty = c.hand_on.ensures.empty;
  marked = λ a b t edge has. elim (c.spread_once.ensures.marked a b t edge has) [ inl there ↦ inl there | inr in_grown ↦ inr (c.hand_on.ensures.has a in_grown) ];
}

pub returns-clause-spread : goal.returns-clause-spread
returns-clause-spread c = spread_done c.args.edges.now c.args.rows.now.items c.rounds.rows.items c.spread_once.new.rows.items c.rounds.invariant.so_far (rw c.if-not-spread_once.true at c.spread_once.ensures.round)
