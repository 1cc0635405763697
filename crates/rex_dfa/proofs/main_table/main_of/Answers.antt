use Rattle.std.proofs.Common.{map, arith}
use Rattle.rex_model.specs.RuleMeaning.{rule_of}
use Rattle.rex_model.specs.Positions.{Takes, Follow}
use Rattle.rex_model.specs.Sets.{marked_rules, FirstOfActive}
use Rattle.rex_model.proofs.Within.{Follow-within}
use Rattle.rex_dfa.proofs.CountsOfRules.{ArePositionsOf}
use Rattle.rex_dfa.proofs.MainTable.{mains, marks_count, few_rules}
use Rattle.rex_dfa.proofs.PositionsOfRows.{row_at, row_below}
use Rattle.rex_dfa.proofs.main_table.main_of.Goals as goal

pub returns : goal.returns
returns c =
    let rules = (map rule_of c.args.rules.now) in
    let size = c.size_of-size.result in
    let of_rules : ArePositionsOf rules c.args.states c.in_ok-positions.positions c.in_ok-all.all.firsts.items = record {
      takes = λ p b below. rw c.in_ok-positions.ensures.takers (row_at size 256 (λ byte p. Takes (marked_rules rules) 0 p byte) c.in_ok-all.all.rows.takers.items c.in_ok-all.ensures.takers b p below);
      follow = λ p q. rw c.in_ok-positions.ensures.follows (row_below size size (Follow (marked_rules rules) 0) c.in_ok-all.all.rows.follows.items c.in_ok-all.ensures.follows
          (λ i k h. let below = (Follow-within (marked_rules rules) 0 i k h).0.below in omega (arith, c.size_of-size.ensures)) p q);
      count = c.in_ok-all.ensures.firsts.long;
      first = λ k p below. row_at size c.args.states (λ state. FirstOfActive rules state 0) c.in_ok-all.all.firsts.items c.in_ok-all.ensures.firsts k p below;
    } in
    mains rules c.args.states c.in_ok-positions.positions c.in_ok-all.all.firsts.items of_rules c.in_ok-marks.marks.items c.in_ok-marks.ensures c.table_of.result (rw c.as_slice.ensures.value at c.table_of.ensures)

pub table_of-requires-clause-few : goal.table_of-requires-clause-few
table_of-requires-clause-few c =
    let rules = (map rule_of c.args.rules.now) in
    rw c.as_slice.ensures.value (omega (arith, marks_count rules 0 c.in_ok-marks.marks.items c.in_ok-marks.ensures, few_rules rules, c.requires))
