-- A piece less is left.
use Rattle.std.proofs.Common.{◌++◌, ◌∷◌, length, reverse, refl, sym, subst, ap, ◌∙◌}
use Rattle.std.proofs.lemmas.Option.{slice_get_read}
use Rattle.beg_model.specs.RuleMeaning.{emitted_of}
use Rattle.beg_registers.specs.Code.{listed}
use Rattle.beg_registers.specs.within.Begun.{PieceSaid, AreBegun, left_of}
use Rattle.beg_registers.proofs.CodeFacts.{none_left, next_none, next_some, pushed}
use Rattle.beg_registers.proofs.emitting.push_next.Goals as goal

pub pieces_of-pieces-requires : goal.pieces_of-pieces-requires
pieces_of-pieces-requires c = c.requires.readable.known c.args.last.instance c.index-list-last.result
    (slice_get_read c.args.list.now (length c.args.list.now) c.args.last.instance c.index-list-last.result refl c.requires.there c.index-list-last.is)

pub returns-then-last-pieces-clause-left : goal.returns-then-last-pieces-clause-left
returns-then-last-pieces-clause-left c =
    none_left (listed c.args.texts.now c.args.rules.now c.args.tree.now c.args.list.now c.args.registers.now) c.args.last c.index-list-last.result c.pieces_of-pieces.result.now (reverse c.args.begun.now.items) c.args.out.now.items
    (slice_get_read c.args.list.now (length c.args.list.now) c.args.last.instance c.index-list-last.result refl c.requires.there c.index-list-last.is)
    (c.pieces_of-pieces.ensures c.args.texts.now.source.now c.args.texts.now.literals.now) c.if-last-pieces.true

pub returns-in-None-clause-left : goal.returns-in-None-clause-left
returns-in-None-clause-left c =
    let of = listed c.args.texts.now c.args.rules.now c.args.tree.now c.args.list.now c.args.registers.now in
    ap (λ z. c.push_piece.new.out.items ++ left_of of z) (pushed c.args.begun.now.items c.push.new.self.items _ c.in_ok-push.ensures.items)
    ∙ next_none of c.args.last c.index-list-last.result c.pieces_of-pieces.result.now c.piece_at-piece.result (reverse c.args.begun.now.items) c.args.out.now.items c.push_piece.new.out.items
    (slice_get_read c.args.list.now (length c.args.list.now) c.args.last.instance c.index-list-last.result refl c.requires.there c.index-list-last.is)
    (c.pieces_of-pieces.ensures c.args.texts.now.source.now c.args.texts.now.literals.now) c.piece_at-piece.ensures
    (subst (λ o. PieceSaid of c.args.last.instance (emitted_of c.args.texts.now.source.now c.args.texts.now.literals.now c.piece_at-piece.result) o c.args.out.now.items c.push_piece.new.out.items) c.in-None.is c.in_ok-text.ensures)

pub returns-in_ok-push_begun-in-Some-clause-left : goal.returns-in_ok-push_begun-in-Some-clause-left
returns-in_ok-push_begun-in-Some-clause-left c =
    let of = listed c.args.texts.now c.args.rules.now c.args.tree.now c.args.list.now c.args.registers.now in
    ap (λ z. c.push_piece.new.out.items ++ left_of of z) (pushed c.push.new.self.items c.push_begun.new.begun.items _ c.in_ok-push_begun-in-Some.ensures
    ∙ ap (λ z. record { instance = c.in-Some.o; piece = 0 } ∷ z) (pushed c.args.begun.now.items c.push.new.self.items _ c.in_ok-push.ensures.items))
    ∙ next_some of c.requires.readable c.args.last c.index-list-last.result c.pieces_of-pieces.result.now c.piece_at-piece.result (reverse c.args.begun.now.items) c.in-Some.o c.args.out.now.items c.push_piece.new.out.items
    (slice_get_read c.args.list.now (length c.args.list.now) c.args.last.instance c.index-list-last.result refl c.requires.there c.index-list-last.is)
    (c.pieces_of-pieces.ensures c.args.texts.now.source.now c.args.texts.now.literals.now) c.piece_at-piece.ensures
    (subst (λ o. PieceSaid of c.args.last.instance (emitted_of c.args.texts.now.source.now c.args.texts.now.literals.now c.piece_at-piece.result) o c.args.out.now.items c.push_piece.new.out.items) c.in-Some.is c.in_ok-text.ensures)

pub returns-in-None-clause-begun : goal.returns-in-None-clause-begun
returns-in-None-clause-begun c =
    subst (AreBegun (listed c.args.texts.now c.args.rules.now c.args.tree.now c.args.list.now c.args.registers.now)) (sym (pushed c.args.begun.now.items c.push.new.self.items _ c.in_ok-push.ensures.items)) (c.requires.there, c.requires.begun)

pub returns-in_ok-push_begun-in-Some-clause-begun : goal.returns-in_ok-push_begun-in-Some-clause-begun
returns-in_ok-push_begun-in-Some-clause-begun c =
    let of = listed c.args.texts.now c.args.rules.now c.args.tree.now c.args.list.now c.args.registers.now in
    let (low, same, is) = subst (λ o. PieceSaid of c.args.last.instance (emitted_of c.args.texts.now.source.now c.args.texts.now.literals.now c.piece_at-piece.result) o c.args.out.now.items c.push_piece.new.out.items) c.in-Some.is c.in_ok-text.ensures in
    subst (AreBegun of) (sym (pushed c.push.new.self.items c.push_begun.new.begun.items _ c.in_ok-push_begun-in-Some.ensures))
    (low, subst (AreBegun of) (sym (pushed c.args.begun.now.items c.push.new.self.items _ c.in_ok-push.ensures.items)) (c.requires.there, c.requires.begun))
