-- One position more.
use Rattle.std.proofs.Common.{◌≡◌, [], ◌∙◌, ap, inr, arith}
use Rattle.std.proofs.lemmas.List.{get_or_default}
use Rattle.ck_base.specs.BitSet.{BitSet, Has}
use Rattle.rex_model.specs.Meaning.{meaning}
use Rattle.rex_dfa.specs.within.Walked.{row, Leads}
use Rattle.rex_dfa.proofs.RowsFilled.{filled_begin, filled_more, filled_all}
use Rattle.rex_dfa.proofs.WalkOfParts.{Leads-within}
use Rattle.rex_dfa.proofs.walk.lead_each.Goals as goal

pub loop-p-init : goal.loop-p-init
loop-p-init c = record { above = omega arith; filled = filled_begin c.args.k _ _ }

pub lead-requires-clause-size : goal.lead-requires-clause-size
lead-requires-clause-size c =
    let before = c.loop-p.invariant.filled in
    let below = c.loop-p-test.true in
    let given : c.index_mut.result.now ≡ row c.loop-p.follows.items c.loop-p.p = c.index_mut.ensures.value ∙ get_or_default c.loop-p.follows.items c.loop-p.p _ (record { size = 0; words = [] }) (omega (arith, below, before.long, c.requires.room)) in
    ap (λ (s : BitSet). s.size) (given ∙ before.rest c.loop-p.p (inr (omega arith))) ∙ c.requires.sizes c.loop-p.p (omega (arith, below, c.requires.room))

pub lead-requires-clause-small : goal.lead-requires-clause-small
lead-requires-clause-small c =
    let before = c.loop-p.invariant.filled in
    let below = c.loop-p-test.true in
    let given : c.index_mut.result.now ≡ row c.loop-p.follows.items c.loop-p.p = c.index_mut.ensures.value ∙ get_or_default c.loop-p.follows.items c.loop-p.p _ (record { size = 0; words = [] }) (omega (arith, below, before.long, c.requires.room)) in
    let size = ap (λ (s : BitSet). s.size) (given ∙ before.rest c.loop-p.p (inr (omega arith))) ∙ c.requires.sizes c.loop-p.p (omega (arith, below, c.requires.room)) in
    omega (arith, size, c.requires.small)

pub lead-requires-clause-room : goal.lead-requires-clause-room
lead-requires-clause-room c =
    let before = c.loop-p.invariant.filled in
    let below = c.loop-p-test.true in
    let given : c.index_mut.result.now ≡ row c.loop-p.follows.items c.loop-p.p = c.index_mut.ensures.value ∙ get_or_default c.loop-p.follows.items c.loop-p.p _ (record { size = 0; words = [] }) (omega (arith, below, before.long, c.requires.room)) in
    let size = ap (λ (s : BitSet). s.size) (given ∙ before.rest c.loop-p.p (inr (omega arith))) ∙ c.requires.sizes c.loop-p.p (omega (arith, below, c.requires.room)) in
    omega (arith, size, c.requires.past, c.requires.inside)

pub loop-p-preserved : goal.loop-p-preserved
loop-p-preserved c =
    let before = c.loop-p.invariant.filled in
    let above = c.loop-p.invariant.above in
    let below = c.loop-p-test.true in
    let given : c.index_mut.result.now ≡ row c.loop-p.follows.items c.loop-p.p = c.index_mut.ensures.value ∙ get_or_default c.loop-p.follows.items c.loop-p.p _ (record { size = 0; words = [] }) (omega (arith, below, before.long, c.requires.room)) in
    record {
      above = omega (arith, above);
      filled = filled_more c.args.k c.loop-p.p (Leads (meaning c.args.r.now) c.args.k (Has c.args.after.now)) c.args.follows.now.items c.loop-p.follows.items c.index_mut.result.now c.lead.new.to
          before above (omega (arith, below, c.requires.room)) given c.lead.ensures;
    }

pub returns : goal.returns
returns c =
    let ended = c.loop-p-test.false in
    let above = c.loop-p.invariant.above in
    filled_all c.args.k c.loop-p.p (Leads (meaning c.args.r.now) c.args.k (Has c.args.after.now)) c.args.follows.now.items c.loop-p.follows.items c.loop-p.invariant.filled
    (λ i p inside h. let (from, below) = Leads-within (meaning c.args.r.now) c.args.k (Has c.args.after.now) i p h in (from, omega (arith, below, ended, c.requires.past)))
