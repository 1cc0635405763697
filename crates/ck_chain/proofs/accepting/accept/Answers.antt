-- Each reader gives the next one its input, or the refusal.
use Rattle.std.proofs.Common.{rules}
use Rattle.ck_chain.specs.RexAccepts.{GivesRules, HaveTables}
use Rattle.ck_chain.proofs.RefusedSpec.{refused_of_sections, refused_of_rex, refused_without_tables, refused_of_grammar, refused_without_table, refused_of_ast, refused_unbuilt, gives_grammar, gives_nodes, nodes_if, found_in_range, found_named, counted}
use Rattle.ck_chain.proofs.PassedOn.{passed_on}
use Rattle.ck_chain.proofs.ScannedRules.{have_names}
use Rattle.rex_model.specs.RuleMeaning.{rules_of}
use Rattle.ck_chain.proofs.accepting.accept.Goals as goal

pub returns-in_err-all-clause-refuses : goal.returns-in_err-all-clause-refuses
returns-in_err-all-clause-refuses c =
    passed_on _ _ _ c.from_residual.ensures.1 (refused_of_sections _ c.requires _ c.in_err-all.ensures.fault)

pub returns-in_err-rules-clause-refuses : goal.returns-in_err-rules-clause-refuses
returns-in_err-rules-clause-refuses c =
    passed_on _ _ _ c.from_residual-in_err-rules.ensures.1 (refused_of_rex _ c.requires _ c.in_err-rules.ensures.fault)

pub without_tables-requires : goal.without_tables-requires
without_tables-requires c = counted _ _ c.in-Err.ensures.err c.in_ok-rules.ensures.few

pub returns-in-Err-clause-refuses : goal.returns-in-Err-clause-refuses
returns-in-Err-clause-refuses c =
    rw c.without_tables.ensures (refused_without_tables _ c.requires _ _ c.in_ok-rules.ensures.rules c.in-Err.ensures.err)

pub returns-in_err-grammar-clause-refuses : goal.returns-in_err-grammar-clause-refuses
returns-in_err-grammar-clause-refuses c =
    let have : HaveTables (rules_of c.in_ok-rules.rules) =
    record { bodies = c.in-Ok.ensures.bodies; scanner = c.in-Ok.ensures.scanner; splits = c.in-Ok.ensures.splits } in
    let gives : GivesRules c.args.spec.now (rules_of c.in_ok-rules.rules) =
    record { declares = c.in_ok-rules.ensures.rules; tables = have } in
    passed_on _ _ _ c.from_residual-in_err-grammar.ensures.1 (refused_of_grammar _ c.requires _ gives _ c.in_err-grammar.ensures.fault)

pub parser_of-requires : goal.parser_of-requires
parser_of-requires c = found_in_range _ _ _ c.in_ok-grammar.ensures.found

pub returns-in_err-parser-clause-refuses : goal.returns-in_err-parser-clause-refuses
returns-in_err-parser-clause-refuses c =
    let have : HaveTables (rules_of c.in_ok-rules.rules) =
    record { bodies = c.in-Ok.ensures.bodies; scanner = c.in-Ok.ensures.scanner; splits = c.in-Ok.ensures.splits } in
    let gives : GivesRules c.args.spec.now (rules_of c.in_ok-rules.rules) =
    record { declares = c.in_ok-rules.ensures.rules; tables = have } in
    passed_on _ _ _ c.from_residual-in_err-parser.ensures.1
    (refused_without_table _ c.requires _ gives _ _ c.in_ok-grammar.ensures.found c.in_err-parser.ensures.refused)

pub declared_nodes-requires-clause-grammar : goal.declared_nodes-requires-clause-grammar
declared_nodes-requires-clause-grammar c = (_, c.in_ok-grammar.ensures.found)

pub returns-in_err-nodes-clause-refuses : goal.returns-in_err-nodes-clause-refuses
returns-in_err-nodes-clause-refuses c =
    let have : HaveTables (rules_of c.in_ok-rules.rules) =
    record { bodies = c.in-Ok.ensures.bodies; scanner = c.in-Ok.ensures.scanner; splits = c.in-Ok.ensures.splits } in
    let gives : GivesRules c.args.spec.now (rules_of c.in_ok-rules.rules) =
    record { declares = c.in_ok-rules.ensures.rules; tables = have } in
    passed_on _ _ _ c.from_residual-in_err-nodes.ensures.1
    (refused_of_ast _ c.requires _ gives _ _ (gives_grammar _ _ _ c.in_ok-grammar.ensures.found
    c.in_ok-parser.ensures.has)
    c.in_err-nodes.ensures.fault)

pub returns-in-Some-clause-refuses : goal.returns-in-Some-clause-refuses
returns-in-Some-clause-refuses c =
    let have : HaveTables (rules_of c.in_ok-rules.rules) =
    record { bodies = c.in-Ok.ensures.bodies; scanner = c.in-Ok.ensures.scanner; splits = c.in-Ok.ensures.splits } in
    let gives : GivesRules c.args.spec.now (rules_of c.in_ok-rules.rules) =
    record { declares = c.in_ok-rules.ensures.rules; tables = have } in
    refused_unbuilt _ c.requires _ gives _ _ _ _ (gives_grammar _ _ _ c.in_ok-grammar.ensures.found
    c.in_ok-parser.ensures.has)
    c.in_ok-nodes.ensures.found (c.in-Some.ensures c.args.spec.now c.in_ok-all.ensures.sections)

pub returns-clause-accepts : goal.returns-clause-accepts
returns-clause-accepts c = record {
  fits = c.requires;
  rules = record {
    declares = c.in_ok-rules.ensures.rules;
    tables = record { bodies = c.in-Ok.ensures.bodies; scanner = c.in-Ok.ensures.scanner; splits = c.in-Ok.ensures.splits };
  };
  grammar = gives_grammar _ _ _ c.in_ok-grammar.ensures.found c.in_ok-parser.ensures.has;
  nodes = gives_nodes _ _ _ _ c.in_ok-nodes.ensures.found;
  all_built = c.in_default.ensures c.args.spec.now c.in_ok-all.ensures.sections;
}

pub returns-clause-tools : goal.returns-clause-tools
returns-clause-tools c = record {
  scans = search rules;
  token_names = have_names c.in_ok-rules.rules c.in_ok-rules.ensures.tokens;
  parses = c.in_ok-parser.ensures.parser;
  grammar_names = found_named _ _ _ c.in_ok-grammar.ensures.found;
  nodes_fit = nodes_if _ _ _ _ c.in_ok-nodes.ensures.found;
}
