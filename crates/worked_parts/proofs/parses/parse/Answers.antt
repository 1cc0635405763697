use Rattle.std.proofs.Common.{ℕ, sym, subst, List, ◌<◌, ◌+◌, ◌^◌, All, length, arith}
use Rattle.parse_driver.specs.declared.tokens.TokenRef.{TokenRef}
use Rattle.ell_tables.specs.Table.{grammar_of}
use Rattle.worked_parts.proofs.parses.parse.Goals as goal

pub parse_ll-requires-clause-few : goal.parse_ll-requires-clause-few
parse_ll-requires-clause-few c = λ all ending comes.
    let is = (c.bad.ensures all ending).0 comes in
    subst (λ (ts : List TokenRef). length ts + 1 < 2 ^ 32) (sym is.0) (omega (arith, c.if-tokens-gt1000000.false))

pub parse_ll-requires-clause-terminals : goal.parse_ll-requires-clause-terminals
parse_ll-requires-clause-terminals c = λ all ending comes.
    let is = (c.bad.ensures all ending).0 comes in
    subst (λ (ts : List TokenRef). All (λ k. k.terminal < (grammar_of c.args.table.now).terminals) ts) (sym is.0)
    (subst (λ (n : ℕ). All (λ (k : TokenRef). k.terminal < n) c.args.tokens.now) c.terminals.ensures (c.are_below.ensures (cc)))

pub parse_ll-requires-else-is_bad-clause-few : goal.parse_ll-requires-else-is_bad-clause-few
parse_ll-requires-else-is_bad-clause-few c = λ all ending comes.
    let is = (c.new.ensures all ending).0 comes in
    subst (λ (ts : List TokenRef). length ts + 1 < 2 ^ 32) (sym is.0) (omega (arith, c.if-tokens-gt1000000.false))

pub parse_ll-requires-else-is_bad-clause-terminals : goal.parse_ll-requires-else-is_bad-clause-terminals
parse_ll-requires-else-is_bad-clause-terminals c = λ all ending comes.
    let is = (c.new.ensures all ending).0 comes in
    subst (λ (ts : List TokenRef). All (λ k. k.terminal < (grammar_of c.args.table.now).terminals) ts) (sym is.0)
    (subst (λ (n : ℕ). All (λ (k : TokenRef). k.terminal < n) c.args.tokens.now) c.terminals.ensures (c.are_below.ensures (cc)))
