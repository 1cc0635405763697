use Rattle.std.proofs.Common.{◌+◌}
use Rattle.cfg_model.specs.Sets.{First, Nullable}
use Rattle.lalr_look.specs.within.Rests.{rest_of}
use Rattle.lalr_look.proofs.Growth.{called_grows, stays_grows}
use Rattle.lalr_look.proofs.lookahead_sets.add_called.Goals as goal

pub returns-then-not-add_rest : goal.returns-then-not-add_rest
returns-then-not-add_rest c =
    stays_grows c.args.graph.now c.args.graph.now.edges c.add_rest.new.sets c.args.from c.args.to
    (Nullable c.args.g.now (rest_of c.args.g.now c.args.item.0 (c.args.item.1 + 1))) (First c.args.g.now (rest_of c.args.g.now c.args.item.0 (c.args.item.1 + 1)))
    (λ h. (let e = c.add_rest.ensures.vanish.1 h in let f = c.if-not-add_rest.true in cc)) c.add_rest.ensures.sets

pub returns : goal.returns
returns c =
    called_grows c.args.graph.now c.lead.new.self c.add_rest.new.sets c.args.from c.args.to
    (Nullable c.args.g.now (rest_of c.args.g.now c.args.item.0 (c.args.item.1 + 1))) (First c.args.g.now (rest_of c.args.g.now c.args.item.0 (c.args.item.1 + 1)))
    (c.add_rest.ensures.vanish.0 c.if-not-add_rest.false) c.add_rest.ensures.sets c.in_ok-lead.ensures
