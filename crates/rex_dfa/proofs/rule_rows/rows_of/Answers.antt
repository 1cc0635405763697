-- One rule more.
use Rattle.std.proofs.Common.{List, ◌+◌, [], map, drop, ap, subst, arith}
use Rattle.std.proofs.lemmas.List.{at_drop_all}
use Rattle.rex_model.specs.RuleMeaning.{rule_of}
use Rattle.rex_model.specs.Positions.{Takes, Follow}
use Rattle.rex_model.specs.Rules.{Rule}
use Rattle.rex_model.specs.Sets.{marked_rules, FirstOfActive}
use Rattle.rex_dfa.proofs.RowsSoFar.{so_far_done}
use Rattle.rex_dfa.proofs.RulesLeft.{rules_left}
use Rattle.rex_dfa.proofs.WalkOfRules.{WalkingRules, walking_begin, walking_room, walking_more, begin_alike}
use Rattle.rex_dfa.proofs.rule_rows.rows_of.Goals as goal

pub loop-rule-init : goal.loop-rule-init
loop-rule-init c = walking_begin (map rule_of c.args.rules.now) c.args.size c.args.states c.in_ok-rows.rows c.in_ok-firsts.firsts.items c.in_ok-rows.ensures.takers c.in_ok-rows.ensures.follows c.in_ok-firsts.ensures c.requires

pub walk_rule-requires-clause-inside : goal.walk_rule-requires-clause-inside
walk_rule-requires-clause-inside c =
    let left = rules_left c.args.rules.now c.loop-rule.rule-index c.rule-item.result c.loop-rule-test.true c.rule-item.is in
    let before = subst (λ (rest : List Rule). WalkingRules (map rule_of c.args.rules.now) rest c.loop-rule.at c.args.size c.args.states c.loop-rule.rows c.loop-rule.firsts.items) left c.loop-rule.invariant in
    let room = before.room in
    omega (arith, room)

pub walk_rule-requires-clause-room : goal.walk_rule-requires-clause-room
walk_rule-requires-clause-room c = walking_room _ _ c.loop-rule.at c.args.size c.args.states c.loop-rule.rows c.loop-rule.firsts.items c.loop-rule.invariant

pub begin_each-requires-clause-sizes : goal.begin_each-requires-clause-sizes
begin_each-requires-clause-sizes c = λ i below.
    let w = c.loop-rule.invariant.begins in
    let size = w.sizes i (omega (arith, below, w.long)) in
    omega (arith, size, c.in_ok-first.ensures.size)

pub loop-rule-preserved : goal.loop-rule-preserved
loop-rule-preserved c =
    let rules = c.args.rules.now in
    let i = c.loop-rule.rule-index in
    let left = rules_left rules i c.rule-item.result c.loop-rule-test.true c.rule-item.is in
    let before = subst (λ (rest : List Rule). WalkingRules (map rule_of rules) rest c.loop-rule.at c.args.size c.args.states c.loop-rule.rows c.loop-rule.firsts.items) left c.loop-rule.invariant in
    walking_more (map rule_of rules) (map rule_of (drop (i + 1) rules)) (rule_of c.rule-item.result) c.loop-rule.at _ c.args.size c.args.states c.loop-rule.rows c.walk_rule.new.rows
    c.loop-rule.firsts.items c.begin_each.new.firsts.items before c.in_ok-first.ensures.put
    (begin_alike c.rule-item.result c.loop-rule.at c.in_ok-first.first _ _ c.in_ok-first.ensures.first c.begin_each.ensures)
    (ap (λ n. c.loop-rule.at + n) c.positions_of_rule-at.ensures)

pub returns-clause-takers : goal.returns-clause-takers
returns-clause-takers c =
    let none = at_drop_all (map rule_of) c.args.rules.now c.loop-rule.rule-index c.loop-rule-test.false in
    let all = subst (λ (rest : List Rule). WalkingRules (map rule_of c.args.rules.now) rest c.loop-rule.at c.args.size c.args.states c.loop-rule.rows c.loop-rule.firsts.items) none c.loop-rule.invariant in
    so_far_done c.args.size 256 _ _ (λ byte p. Takes (marked_rules []) c.loop-rule.at p byte) all.takers (λ i p h. elim h [ ])

pub returns-clause-follows : goal.returns-clause-follows
returns-clause-follows c =
    let none = at_drop_all (map rule_of) c.args.rules.now c.loop-rule.rule-index c.loop-rule-test.false in
    let all = subst (λ (rest : List Rule). WalkingRules (map rule_of c.args.rules.now) rest c.loop-rule.at c.args.size c.args.states c.loop-rule.rows c.loop-rule.firsts.items) none c.loop-rule.invariant in
    so_far_done c.args.size c.args.size _ _ (Follow (marked_rules []) c.loop-rule.at) all.follows (λ i p h. elim h [ ])

pub returns-clause-firsts : goal.returns-clause-firsts
returns-clause-firsts c =
    let none = at_drop_all (map rule_of) c.args.rules.now c.loop-rule.rule-index c.loop-rule-test.false in
    let all = subst (λ (rest : List Rule). WalkingRules (map rule_of c.args.rules.now) rest c.loop-rule.at c.args.size c.args.states c.loop-rule.rows c.loop-rule.firsts.items) none c.loop-rule.invariant in
    so_far_done c.args.size c.args.states _ _ (λ state. FirstOfActive [] state c.loop-rule.at) all.begins (λ i p h. elim h [ ])
