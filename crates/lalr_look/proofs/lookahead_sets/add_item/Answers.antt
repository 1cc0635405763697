use Rattle.std.proofs.Common.{◌+◌, slice_get, Contains, subst, subst₂, sym, ap, ap₂, ◌∙◌, arith, length, get_or}
use Rattle.std.proofs.lemmas.Option.{slice_get_within}
use Rattle.cfg_model.specs.Items.{right_of}
use Rattle.lalr_look.specs.within.Kernel.{place_of}
use Rattle.lalr_look.specs.within.LookGraph.{slot_of}
use Rattle.lalr_look.proofs.RestSets.{none_of}
use Rattle.lalr_look.proofs.Growth.{sized_still}
use Rattle.lalr_look.proofs.Demands.{rule_fits, dot_fits, symbol_fits, next_fits, moves_there, next_there, called_node, before_token, before_called, at_the_end, node_is, target_at}
use Rattle.lalr_look.proofs.lookahead_sets.add_item.Goals as goal

pub behind-requires : goal.behind-requires
behind-requires c = rule_fits c.args.g.now c.requires.grammar c.requires.short c.requires.productive c.args.cores.now c.requires.cores c.args.core c.args.item.0 c.args.item.1 c.requires.item

pub returns-in_default : goal.returns-in_default
returns-in_default c =
    at_the_end c.args.g.now c.args.cores.now c.args.nodes.now c.args.core c.args.item.0 c.args.item.1
    (none_of (slice_get (right_of c.args.g.now c.args.item.0) c.args.item.1) (λ x e. c.in_default.not-Some x (c.behind.ensures ∙ e))) c.args.graph.now

pub slot_at-requires-clause-rule : goal.slot_at-requires-clause-rule
slot_at-requires-clause-rule c = rule_fits c.args.g.now c.requires.grammar c.requires.short c.requires.productive c.args.cores.now c.requires.cores c.args.core c.args.item.0 c.args.item.1 c.requires.item

pub slot_at-requires-clause-dot : goal.slot_at-requires-clause-dot
slot_at-requires-clause-dot c = dot_fits c.args.g.now c.requires.grammar c.requires.short c.requires.productive c.args.cores.now c.requires.cores c.args.core c.args.item.0 c.args.item.1 c.requires.item

pub find-from-requires : goal.find-from-requires
find-from-requires c =
    subst (λ s. Contains c.args.nodes.now (c.args.core, s)) (sym c.slot_at.ensures) (c.requires.nodes c.args.core c.args.item.0 c.args.item.1 c.requires.item)

pub order_of-requires-clause-symbol : goal.order_of-requires-clause-symbol
order_of-requires-clause-symbol c =
    symbol_fits c.args.g.now c.requires.grammar c.requires.short c.requires.productive c.args.cores.now c.requires.cores c.args.core c.args.item.0 c.args.item.1 c.requires.item
    c.in-Some.symbol (sym c.behind.ensures ∙ c.in-Some.is)

pub slot_at-requires-2-clause-rule : goal.slot_at-requires-2-clause-rule
slot_at-requires-2-clause-rule c = rule_fits c.args.g.now c.requires.grammar c.requires.short c.requires.productive c.args.cores.now c.requires.cores c.args.core c.args.item.0 c.args.item.1 c.requires.item

pub slot_at-requires-2-clause-dot : goal.slot_at-requires-2-clause-dot
slot_at-requires-2-clause-dot c =
    next_fits c.args.g.now c.requires.grammar c.requires.short c.requires.productive c.args.cores.now c.requires.cores c.args.core c.args.item.0 c.args.item.1 c.requires.item
    c.in-Some.symbol (sym c.behind.ensures ∙ c.in-Some.is)

pub find-next-requires : goal.find-next-requires
find-next-requires c =
    let (o, moves, item) = moves_there c.args.g.now c.requires.grammar c.requires.short c.requires.productive c.args.cores.now c.requires.cores c.args.core c.args.item.0 c.args.item.1 c.requires.item
    c.in-Some.symbol (sym c.behind.ensures ∙ c.in-Some.is) in
    subst₂ (λ a b. Contains c.args.nodes.now (a, b)) (sym (target_at c.args.targets.now (place_of c.args.g.now c.in-Some.symbol) c.order_of.result o c.order_of.ensures.place (c.requires.targets c.in-Some.symbol o moves))) (sym c.slot_at-2.ensures)
    (next_there c.args.g.now c.requires.grammar c.requires.short c.requires.productive c.args.cores.now c.requires.cores c.args.core c.args.item.0 c.args.item.1 c.requires.item
    c.in-Some.symbol (sym c.behind.ensures ∙ c.in-Some.is) c.args.nodes.now c.requires.nodes o moves)

pub lead-requires : goal.lead-requires
lead-requires c =
    let low = slice_get_within c.args.nodes.now c.find-from.result (c.args.core, c.slot_at.result) c.find-from.ensures.there in
    let size = c.requires.graph.edges in
    omega (arith, low, size)

pub returns-in_default-symbol : goal.returns-in_default-symbol
returns-in_default-symbol c =
    let (o, moves, there) = moves_there c.args.g.now c.requires.grammar c.requires.short c.requires.productive c.args.cores.now c.requires.cores c.args.core c.args.item.0 c.args.item.1 c.requires.item
    c.in-Some.symbol (sym c.behind.ensures ∙ c.in-Some.is) in
    let target = target_at c.args.targets.now (place_of c.args.g.now c.in-Some.symbol) c.order_of.result o c.order_of.ensures.place (c.requires.targets c.in-Some.symbol o moves) in
    let from = node_is c.args.nodes.now (c.args.core, c.slot_at.result) (c.args.core, slot_of c.args.g.now c.args.item.0 c.args.item.1) c.find-from.result
    (ap (λ s. (c.args.core, s)) c.slot_at.ensures) c.find-from.ensures.there c.find-from.ensures.one in
    let next = node_is c.args.nodes.now (get_or c.args.targets.now c.order_of.result 0, c.slot_at-2.result) (o, slot_of c.args.g.now c.args.item.0 (c.args.item.1 + 1)) c.find-next.result
    (ap₂ (λ a b. (a, b)) target c.slot_at-2.ensures) c.find-next.ensures.there c.find-next.ensures.one in
    before_token c.args.g.now c.requires.grammar c.requires.short c.requires.productive c.args.cores.now c.requires.cores c.args.core c.args.item.0 c.args.item.1 c.requires.item
    c.in-Some.symbol (sym c.behind.ensures ∙ c.in-Some.is) c.args.nodes.now c.requires.nodes
    c.in_default-symbol.field-0 o c.find-from.result c.find-next.result c.in_default-symbol.is moves from next c.args.graph.now c.lead.new.self c.in_ok-lead.ensures

pub find-to-requires : goal.find-to-requires
find-to-requires c =
    called_node c.args.g.now c.requires.grammar c.requires.short c.requires.productive c.args.cores.now c.requires.cores c.args.core c.args.item.0 c.args.item.1 c.requires.item
    c.in-Some.symbol (sym c.behind.ensures ∙ c.in-Some.is) c.args.nodes.now c.requires.nodes c.in-N.called c.in-N.is

pub add_called-requires-clause-rule : goal.add_called-requires-clause-rule
add_called-requires-clause-rule c = rule_fits c.args.g.now c.requires.grammar c.requires.short c.requires.productive c.args.cores.now c.requires.cores c.args.core c.args.item.0 c.args.item.1 c.requires.item

pub add_called-requires-clause-dot : goal.add_called-requires-clause-dot
add_called-requires-clause-dot c = dot_fits c.args.g.now c.requires.grammar c.requires.short c.requires.productive c.args.cores.now c.requires.cores c.args.core c.args.item.0 c.args.item.1 c.requires.item

pub add_called-requires-clause-nodes : goal.add_called-requires-clause-nodes
add_called-requires-clause-nodes c =
    let sized = sized_still c.args.graph.now c.lead.new.self _ _ (length c.args.nodes.now) (c.args.g.now.terminals + 1) c.in_ok-lead.ensures c.requires.graph in
    let from = slice_get_within c.args.nodes.now c.find-from.result (c.args.core, c.slot_at.result) c.find-from.ensures.there in
    let to = slice_get_within c.args.nodes.now c.find-to.result (c.args.core, c.in-N.called + 1) c.find-to.ensures.there in
    let edges = sized.edges in
    let sets = sized.sets in
    (omega (arith, from, edges), omega (arith, to, sets))

pub add_called-requires-clause-sizes : goal.add_called-requires-clause-sizes
add_called-requires-clause-sizes c =
    (sized_still c.args.graph.now c.lead.new.self _ _ (length c.args.nodes.now) (c.args.g.now.terminals + 1) c.in_ok-lead.ensures c.requires.graph).sizes

pub returns : goal.returns
returns c =
    let (o, moves, there) = moves_there c.args.g.now c.requires.grammar c.requires.short c.requires.productive c.args.cores.now c.requires.cores c.args.core c.args.item.0 c.args.item.1 c.requires.item
    c.in-Some.symbol (sym c.behind.ensures ∙ c.in-Some.is) in
    let target = target_at c.args.targets.now (place_of c.args.g.now c.in-Some.symbol) c.order_of.result o c.order_of.ensures.place (c.requires.targets c.in-Some.symbol o moves) in
    let from = node_is c.args.nodes.now (c.args.core, c.slot_at.result) (c.args.core, slot_of c.args.g.now c.args.item.0 c.args.item.1) c.find-from.result
    (ap (λ s. (c.args.core, s)) c.slot_at.ensures) c.find-from.ensures.there c.find-from.ensures.one in
    let next = node_is c.args.nodes.now (get_or c.args.targets.now c.order_of.result 0, c.slot_at-2.result) (o, slot_of c.args.g.now c.args.item.0 (c.args.item.1 + 1)) c.find-next.result
    (ap₂ (λ a b. (a, b)) target c.slot_at-2.ensures) c.find-next.ensures.there c.find-next.ensures.one in
    before_called c.args.g.now c.requires.grammar c.requires.short c.requires.productive c.args.cores.now c.requires.cores c.args.core c.args.item.0 c.args.item.1 c.requires.item
    c.in-Some.symbol (sym c.behind.ensures ∙ c.in-Some.is) c.args.nodes.now c.requires.nodes
    c.in-N.called o c.find-from.result c.find-next.result c.find-to.result c.in-N.is moves from next
    (record { there = c.find-to.ensures.there; one = c.find-to.ensures.one })
    c.args.graph.now c.lead.new.self c.add_called.new.graph c.in_ok-lead.ensures c.in_ok-add_called.ensures
