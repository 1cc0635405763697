-- The fields of an instance's rule stand at its node.
use Rattle.std.proofs.Common.{length, refl, sym, subst, None}
use Rattle.std.proofs.lemmas.Option.{slice_get_read}
use Rattle.beg_model.specs.RuleMeaning.{emitted_of}
use Rattle.beg_registers.specs.Code.{listed}
use Rattle.beg_registers.specs.within.Begun.{PieceSaid}
use Rattle.beg_registers.proofs.CodeFacts.{fits_node, field_said}
use Rattle.beg_registers.proofs.emitting.push_piece.Goals as goal

pub push_variable-requires-clause-known : goal.push_variable-requires-clause-known
push_variable-requires-clause-known c = c.requires.readable.known c.args.p c.index-list-p.result
    (slice_get_read c.args.list.now (length c.args.list.now) c.args.p c.index-list-p.result refl c.requires.there c.index-list-p.is)

pub push_variable-requires-clause-fits : goal.push_variable-requires-clause-fits
push_variable-requires-clause-fits c = λ rule there.
    fits_node (listed c.args.texts.now c.args.rules.now c.args.tree.now c.args.list.now c.args.registers.now) c.requires.readable c.args.p c.index-list-p.result rule
    (slice_get_read c.args.list.now (length c.args.list.now) c.args.p c.index-list-p.result refl c.requires.there c.index-list-p.is) there

pub returns-in_ok-push_variable-in-Field : goal.returns-in_ok-push_variable-in-Field
returns-in_ok-push_variable-in-Field c =
    subst (λ z. PieceSaid (listed c.args.texts.now c.args.rules.now c.args.tree.now c.args.list.now c.args.registers.now) c.args.p (emitted_of c.args.texts.now.source.now c.args.texts.now.literals.now z) None c.args.out.now.items c.push_variable.new.out.items)
    (sym c.in-Field.is)
    (field_said (listed c.args.texts.now c.args.rules.now c.args.tree.now c.args.list.now c.args.registers.now) c.args.p c.in-Field.k c.index-list-p.result c.args.out.now.items c.push_variable.new.out.items
    (slice_get_read c.args.list.now (length c.args.list.now) c.args.p c.index-list-p.result refl c.requires.there c.index-list-p.is)
    c.in_ok-push_variable-in-Field.ensures)
