-- The tree that is built of the derivation's steps shows the source's value.
use Rattle.std.proofs.Common.{Err, subst}
use Rattle.node_model.specs.Nodes.{nodes_of}
use Rattle.tree_build.specs.Built.{IsBuilt}
use Rattle.ck_chain.specs.Treeing.{value_in}
use Rattle.ck_chain.proofs.Treed.{parser_of_tools, terminals_of_tools, nodes_of_tools, tree_shows, too_large_by}
use Rattle.ck_chain.proofs.source_tree.source_tree.Goals as goal

pub derivation-requires-clause-parses : goal.derivation-requires-clause-parses
derivation-requires-clause-parses c = parser_of_tools _ c.requires.tools _ c.requires.grammar

pub derivation-requires-clause-terminals : goal.derivation-requires-clause-terminals
derivation-requires-clause-terminals c = terminals_of_tools _ c.requires.tools _ c.requires.grammar

pub returns-in-Ok : goal.returns-in-Ok
returns-in-Ok c =
    let are = c.in_ok-steps.ensures in
    let fit = nodes_of_tools _ c.requires.tools _ c.requires.grammar _ c.requires.nodes in
    let built = c.in-Ok.ensures.builds are.derived.tokens are.derived.forest (rw c.as_slice.ensures.value are.reading) in
    let (is_tree, few) = rw c.bytes.ensures at built in
    tree_shows _ _ _ _ (fit.same c.args.source.now) _ _ _ are _ is_tree few

pub returns-in-Err-TooLarge : goal.returns-in-Err-TooLarge
returns-in-Err-TooLarge c =
    let are = c.in_ok-steps.ensures in
    let fit = nodes_of_tools _ c.requires.tools _ c.requires.grammar _ c.requires.nodes in
    let built = c.in-Err-TooLarge.ensures.builds are.derived.tokens are.derived.forest (rw c.as_slice.ensures.value are.reading) in
    let source = c.args.source.now in
    let nodes = c.args.nodes.now in
    too_large_by _ _ _ _ (fit.same source) _ c.args.tools.now.literals _ are _ c.in-Err-TooLarge.field-0-is
    (subst (λ l. IsBuilt source l (nodes_of source l nodes) (value_in (nodes_of source l nodes) source are.derived) (Err c.in-Err-TooLarge.field-0))
    c.bytes.ensures built)
