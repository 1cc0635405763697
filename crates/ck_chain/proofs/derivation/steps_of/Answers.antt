-- Both drivers draw the source's tokens.
use Rattle.std.proofs.Common.{subst}
use Rattle.rex_model.specs.RuleMeaning.{rules_of}
use Rattle.parse_driver.specs.Parse.{Parses}
use Rattle.ck_chain.proofs.Derived.{ll_of, lr_of, some_parser, is_ll_table, is_lr_table, stream_some, stream_few, stream_below}
use Rattle.ck_chain.proofs.ScannedRules.{names_of}
use Rattle.ck_chain.proofs.derivation.steps_of.Goals as goal

pub parse_ll-requires-clause-table : goal.parse_ll-requires-clause-table
parse_ll-requires-clause-table c = is_ll_table _ _ (ll_of c.args.parser.now c.args.g.now c.in-Ll.table c.in-Ll.is c.requires.parses)

pub parse_ll-requires-clause-some : goal.parse_ll-requires-clause-some
parse_ll-requires-clause-some c = stream_some _ _ c.requires.scans _ c.known_bytes.ensures _ c.new-tokens.ensures

pub parse_ll-requires-clause-few : goal.parse_ll-requires-clause-few
parse_ll-requires-clause-few c = stream_few _ _ c.requires.scans _ c.known_bytes.ensures _ c.new-tokens.ensures c.requires.small

pub parse_ll-requires-clause-terminals : goal.parse_ll-requires-clause-terminals
parse_ll-requires-clause-terminals c =
    let of = ll_of c.args.parser.now c.args.g.now c.in-Ll.table c.in-Ll.is c.requires.parses in
    rw (of.of_grammar, c.requires.terminals)
    (stream_below _ _ c.requires.scans _ c.known_bytes.ensures _ c.new-tokens.ensures _ (names_of c.args.rules.now c.requires.named))

pub parse_lr-requires-clause-table : goal.parse_lr-requires-clause-table
parse_lr-requires-clause-table c = is_lr_table _ _ (lr_of c.args.parser.now c.args.g.now c.in-Lr.table c.in-Lr.is c.requires.parses)

pub parse_lr-requires-clause-some : goal.parse_lr-requires-clause-some
parse_lr-requires-clause-some c = stream_some _ _ c.requires.scans _ c.known_bytes.ensures _ c.new-tokens.ensures

pub parse_lr-requires-clause-few : goal.parse_lr-requires-clause-few
parse_lr-requires-clause-few c = stream_few _ _ c.requires.scans _ c.known_bytes.ensures _ c.new-tokens.ensures c.requires.small

pub parse_lr-requires-clause-terminals : goal.parse_lr-requires-clause-terminals
parse_lr-requires-clause-terminals c =
    let of = lr_of c.args.parser.now c.args.g.now c.in-Lr.table c.in-Lr.is c.requires.parses in
    rw (of.of_grammar, c.requires.terminals)
    (stream_below _ _ c.requires.scans _ c.known_bytes.ensures _ c.new-tokens.ensures _ (names_of c.args.rules.now c.requires.named))

pub unreachable-requires : goal.unreachable-requires
unreachable-requires c = some_parser c.args.parser.now c.args.g.now c.in-Nothing.is c.requires.parses

pub returns-in-Ll : goal.returns-in-Ll
returns-in-Ll c = λ tokens ending comes.
    let of = ll_of c.args.parser.now c.args.g.now c.in-Ll.table c.in-Ll.is c.requires.parses in
    subst (λ g. Parses g tokens ending c.parse_ll.result) of.of_grammar
    (c.parse_ll.ensures tokens ending (rw c.new-tokens.ensures (rules_of c.args.rules.now, c.requires.scans, comes)))

pub returns-in-Lr : goal.returns-in-Lr
returns-in-Lr c = λ tokens ending comes.
    let of = lr_of c.args.parser.now c.args.g.now c.in-Lr.table c.in-Lr.is c.requires.parses in
    subst (λ g. Parses g tokens ending c.parse_lr.result) of.of_grammar
    (c.parse_lr.ensures tokens ending (rw c.new-tokens.ensures (rules_of c.args.rules.now, c.requires.scans, comes)))
