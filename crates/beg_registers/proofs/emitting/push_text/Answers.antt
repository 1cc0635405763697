-- Each turn writes a piece or begins a text.
use Rattle.std.proofs.Common.{◌++◌, [], ◌∷◌, reverse, sym, subst, ap, ◌∙◌, append-nil, arith}
use Rattle.beg_registers.specs.Code.{listed, text_at}
use Rattle.beg_registers.specs.within.Begun.{AreBegun, left_of}
use Rattle.beg_registers.proofs.CodeFacts.{before, pushed, no_more}
use Rattle.beg_registers.proofs.CodeTexts.{left_whole}
use Rattle.beg_registers.proofs.emitting.push_text.Goals as goal

pub loop-turn-init : goal.loop-turn-init
loop-turn-init c =
    let of = listed c.args.texts.now c.args.rules.now c.args.tree.now c.args.list.now c.args.registers.now in
    let is = pushed c.args.begun.now.items c.push_begun.new.begun.items _ c.in_ok-push_begun.ensures ∙ ap (λ z. record { instance = c.args.p; piece = 0 } ∷ reverse z) c.requires.begun in
    record {
      begun = subst (AreBegun of) (sym is) (c.requires.there, tt);
      left = ap (λ z. c.args.out.now.items ++ left_of of z) is
          ∙ ap (λ z. c.args.out.now.items ++ z) (left_whole of (before of c.requires.readable) c.args.p [] c.requires.there ∙ append-nil (text_at of c.args.p));
    }

pub push_next-requires-clause-there : goal.push_next-requires-clause-there
push_next-requires-clause-there c =
    let of = listed c.args.texts.now c.args.rules.now c.args.tree.now c.args.list.now c.args.registers.now in
    (subst (AreBegun of) (pushed c.pop.new.self.items c.loop-turn.begun.items c.in-Some.last c.in-Some.ensures.items) c.loop-turn.invariant.begun).0

pub push_next-requires-clause-begun : goal.push_next-requires-clause-begun
push_next-requires-clause-begun c =
    let of = listed c.args.texts.now c.args.rules.now c.args.tree.now c.args.list.now c.args.registers.now in
    (subst (AreBegun of) (pushed c.pop.new.self.items c.loop-turn.begun.items c.in-Some.last c.in-Some.ensures.items) c.loop-turn.invariant.begun).1

pub loop-turn-preserved : goal.loop-turn-preserved
loop-turn-preserved c =
    let of = listed c.args.texts.now c.args.rules.now c.args.tree.now c.args.list.now c.args.registers.now in
    record {
      begun = c.in_ok-push_next.ensures.begun;
      left = c.in_ok-push_next.ensures.left
          ∙ ap (λ z. c.loop-turn.out.items ++ left_of of z) (sym (pushed c.pop.new.self.items c.loop-turn.begun.items c.in-Some.last c.in-Some.ensures.items))
          ∙ c.loop-turn.invariant.left;
    }

pub returns-in_default-clause-text : goal.returns-in_default-clause-text
returns-in_default-clause-text c =
    let of = listed c.args.texts.now c.args.rules.now c.args.tree.now c.args.list.now c.args.registers.now in
    let e = no_more c.loop-turn.begun.items (omega (arith, c.in_default.ensures.cases.0, c.loop-turn.begun.ok)) in
    sym (append-nil c.loop-turn.out.items) ∙ ap (λ z. c.loop-turn.out.items ++ left_of of (reverse z)) (sym e) ∙ c.loop-turn.invariant.left
