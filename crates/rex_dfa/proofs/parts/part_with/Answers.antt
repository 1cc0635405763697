use Rattle.std.proofs.Common.{arith, sym, refl, ◌∙◌, ◌≡◌, length, slice_index}
use Rattle.std.proofs.lemmas.List.{get_or_default}
use Rattle.rex_model.specs.Runs.{nowhere}
use Rattle.rex_model.specs.TableMeaning.{automaton_of}
use Rattle.rex_dfa.proofs.PartOfTable.{part_is, dead_part_is}
use Rattle.rex_dfa.proofs.parts.part_with.Goals as goal

pub returns-then-index : goal.returns-then-index
returns-then-index c =
    let firsts = c.args.firsts.now.items in
    let one : length firsts ≡ 1 = rw c.requires.one.1 refl in
    let none : slice_index c.args.table.starts.items 0 ≡ nowhere = sym (c.index.ensures ∙ get_or_default c.args.table.starts.items 0 c.index.result.now 0 (omega (arith, c.requires.table.starts_count, one))) ∙ c.if-index.true in
    dead_part_is c.args.positions.now firsts c.args.mark c.args.table.starts.items (automaton_of c.args.table.dfa) one c.requires.table _ _ c.in_ok-dfa.ensures (omega (arith, c.len-count.ensures, c.args.table.dfa.accepts.ok.0)) none

pub returns : goal.returns
returns c =
    let firsts = c.args.firsts.now.items in
    let one : length firsts ≡ 1 = rw c.requires.one.1 refl in
    part_is c.args.positions.now firsts c.args.mark c.args.table.starts.items (automaton_of c.args.table.dfa) one c.requires.table _ (omega (arith, c.len-count.ensures, c.args.table.dfa.accepts.ok.0)) (λ none. c.if-index.false (c.index.ensures ∙ get_or_default c.args.table.starts.items 0 c.index.result.now 0 (omega (arith, c.requires.table.starts_count, one)) ∙ none))
