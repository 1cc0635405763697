-- Each turn takes one name.
use Rattle.std.proofs.Common.{ap, ◌∙◌, ◌++◌, ◌∷◌, []}
use Rattle.spec_text.specs.Seen.{bytes_of}
use Rattle.spec_text.proofs.Lists.{get_at}
use Rattle.front_spec.specs.GrammarRules.{symbol_by}
use Rattle.front_spec.proofs.MadeGrammar.{one_seen}
use Rattle.front_spec.proofs.grammar_rules.symbols_of.Goals as goal

pub loop-name-preserved : goal.loop-name-preserved
loop-name-preserved c =
    one_seen (symbol_by c.args.tokens.now c.args.nonterminals.now) bytes_of c.args.names.now c.loop-name.name-index _ _ _
    (get_at c.args.names.now c.loop-name.name-index _ c.loop-name-test.true) c.loop-name.invariant
    (c.in_ok-push.ensures.items ∙ ap (λ s. c.loop-name.symbols.items ++ s ∷ []) c.symbol_of.ensures)
