-- One start state more.
use Rattle.std.proofs.Common.{◌≡◌, [], ◌∙◌, ap, inr, arith}
use Rattle.std.proofs.lemmas.List.{get_or_default}
use Rattle.ck_base.specs.BitSet.{BitSet, Has}
use Rattle.rex_dfa.specs.within.Walked.{row}
use Rattle.rex_dfa.proofs.RowsFilled.{filled_begin, filled_more, filled_all}
use Rattle.rex_dfa.proofs.rule_rows.begin_each.Goals as goal

pub loop-state-init : goal.loop-state-init
loop-state-init c = filled_begin 0 _ _

pub begin-requires : goal.begin-requires
begin-requires c =
    let before = c.loop-state.invariant in
    let below = c.loop-state-test.true in
    let given : c.index_mut.result.now ≡ row c.loop-state.firsts.items c.loop-state.state = c.index_mut.ensures.value ∙ get_or_default c.loop-state.firsts.items c.loop-state.state _ (record { size = 0; words = [] }) (omega (arith, below, before.long)) in
    ap (λ (s : BitSet). s.size) (given ∙ before.rest c.loop-state.state (inr (omega arith))) ∙ c.requires.sizes c.loop-state.state (omega (arith, below, before.long))

pub loop-state-preserved : goal.loop-state-preserved
loop-state-preserved c =
    let before = c.loop-state.invariant in
    let below = c.loop-state-test.true in
    let given : c.index_mut.result.now ≡ row c.loop-state.firsts.items c.loop-state.state = c.index_mut.ensures.value ∙ get_or_default c.loop-state.firsts.items c.loop-state.state _ (record { size = 0; words = [] }) (omega (arith, below, before.long)) in
    filled_more 0 c.loop-state.state (λ state q. Has c.args.states.now state × Has c.args.first.now q) c.args.firsts.now.items c.loop-state.firsts.items c.index_mut.result.now c.begin.new.to
    before (omega arith) (omega (arith, below, before.long)) given c.begin.ensures

pub returns : goal.returns
returns c =
    let ended = c.loop-state-test.false in
    filled_all 0 c.loop-state.state (λ state q. Has c.args.states.now state × Has c.args.first.now q) c.args.firsts.now.items c.loop-state.firsts.items c.loop-state.invariant
    (λ i p inside h. (omega arith, omega (arith, inside, ended, c.loop-state.invariant.long)))
