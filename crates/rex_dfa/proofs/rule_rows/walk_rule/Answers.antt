-- A rule is its body, its context and its end mark.
use Rattle.std.proofs.Common.{◌≡◌, ℕ, ◌+◌, ◌-◌, ◌↔◌, ◌∙◌, subst, sym, arith}
use Rattle.ck_base.specs.BitSet.{Has}
use Rattle.rex_model.specs.RuleMeaning.{rule_of, context_of}
use Rattle.rex_model.specs.Meaning.{meaning}
use Rattle.rex_model.specs.Positions.{position_count, First}
use Rattle.rex_model.specs.Rules.{trailing}
use Rattle.rex_model.specs.Sets.{marked, body_and_context}
use Rattle.rex_dfa.specs.within.Walked.{HasRoom, IsPut}
use Rattle.rex_dfa.proofs.WalkOfParts.{walked_sequence, passed_sequence, room_kept}
use Rattle.rex_dfa.proofs.WalkOfRules.{put_marked, first_marked, one_number}
use Rattle.rex_dfa.proofs.rule_rows.walk_rule.Goals as goal

pub walk_context-requires-clause-fits : goal.walk_context-requires-clause-fits
walk_context-requires-clause-fits c = omega (arith, c.positions_of_rule.ensures)

pub walk_context-requires-clause-inside : goal.walk_context-requires-clause-inside
walk_context-requires-clause-inside c = omega (arith, c.positions_of_rule.ensures, c.requires.inside, c.add.ensures.size, c.in_ok-next.ensures.size)

pub walk_context-requires-clause-room : goal.walk_context-requires-clause-room
walk_context-requires-clause-room c = subst (λ (n : ℕ). HasRoom n c.args.rows.now) (sym (c.add.ensures.size ∙ c.in_ok-next.ensures.size)) c.requires.room

pub walk_part-requires-clause-fits : goal.walk_part-requires-clause-fits
walk_part-requires-clause-fits c = let count = c.in_ok-middle.ensures.walked.count in omega (arith, count, c.positions_of_rule.ensures)

pub walk_part-requires-clause-inside : goal.walk_part-requires-clause-inside
walk_part-requires-clause-inside c =
    let count = c.in_ok-middle.ensures.walked.count in
    let same = c.in_ok-middle.ensures.passed.same in
    omega (arith, count, same, c.positions_of_rule.ensures, c.requires.inside, c.add.ensures.size, c.in_ok-next.ensures.size)

pub walk_part-requires-clause-room : goal.walk_part-requires-clause-room
walk_part-requires-clause-room c = subst (λ (n : ℕ). HasRoom n c.walk_context.new.rows) (sym (c.in_ok-middle.ensures.passed.same ∙ (c.add.ensures.size ∙ c.in_ok-next.ensures.size)))
    (room_kept c.args.size _ _ _ _ _ _ c.requires.room c.in_ok-middle.ensures.walked)

pub returns-clause-put : goal.returns-clause-put
returns-clause-put c =
    let body = meaning c.args.rule.now.body.now in
    let behind = trailing (context_of c.args.rule.now.context) in
    let first = c.in_ok-middle.ensures in
    let second = c.in_ok-walk_part.ensures in
    let whole = walked_sequence body behind _ _ (Has c.add.new.self) (Has c.walk_context.new.next) _ _ _ _ first.walked second.walked first.passed.has in
    let mark : c.args.at + (position_count body + position_count behind) ≡ c.args.at + c.positions_of_rule.result - 1 = omega (arith, c.positions_of_rule.ensures) in
    let start : c.in_ok-walk_part.field-0 ≡ c.args.at = (let count = whole.count in omega (arith, count, mark)) in
    let put = put_marked (body_and_context (rule_of c.args.rule.now)) _ _ (Has c.add.new.self) (one_number _ _ _ c.in_ok-next.ensures.empty c.add.ensures) whole.count _ _ whole in
    subst (λ k. IsPut (marked (body_and_context (rule_of c.args.rule.now))) k c.args.rows.now c.walk_part.new.rows) start put

pub returns-clause-size : goal.returns-clause-size
returns-clause-size c = c.in_ok-walk_part.ensures.passed.same ∙ (c.in_ok-middle.ensures.passed.same ∙ (c.add.ensures.size ∙ c.in_ok-next.ensures.size))

pub returns-clause-first : goal.returns-clause-first
returns-clause-first c = λ q.
    let body = meaning c.args.rule.now.body.now in
    let behind = trailing (context_of c.args.rule.now.context) in
    let first = c.in_ok-middle.ensures in
    let second = c.in_ok-walk_part.ensures in
    let whole = walked_sequence body behind _ _ (Has c.add.new.self) (Has c.walk_context.new.next) _ _ _ _ first.walked second.walked first.passed.has in
    let passed = passed_sequence body behind (c.args.at + c.positions_of_rule.result - 1) _ (Has c.add.new.self) (Has c.walk_context.new.next) _ _ _ second.walked.count second.passed first.passed.has in
    let mark : c.args.at + (position_count body + position_count behind) ≡ c.args.at + c.positions_of_rule.result - 1 = omega (arith, c.positions_of_rule.ensures) in
    let start : c.in_ok-walk_part.field-0 ≡ c.args.at = (let count = whole.count in omega (arith, count, mark)) in
    subst (λ k. Has c.walk_part.new.next q ↔ First (marked (body_and_context (rule_of c.args.rule.now))) k q) start
    (first_marked (body_and_context (rule_of c.args.rule.now)) _ _ (Has c.add.new.self) (one_number _ _ _ c.in_ok-next.ensures.empty c.add.ensures) whole.count _ _ passed q)
