-- A text of its own is written, one that its user writes isn't.
use Rattle.std.proofs.Common.{length, refl, sym, ◌∙◌}
use Rattle.std.proofs.lemmas.Option.{slice_get_read}
use Rattle.std.proofs.lemmas.Result.{on_ok_weaker}
use Rattle.beg_registers.specs.Code.{listed}
use Rattle.beg_registers.proofs.CodeFacts.{text_of_its_user, text_of_its_own}
use Rattle.beg_registers.proofs.emitting.push_placed.Goals as goal

pub holds_text-requires : goal.holds_text-requires
holds_text-requires c = c.requires.readable.known c.args.p c.index-list-p.result
    (slice_get_read c.args.list.now (length c.args.list.now) c.args.p c.index-list-p.result refl c.requires.there c.index-list-p.is)

pub returns-then-holds_text-clause-text : goal.returns-then-holds_text-clause-text
returns-then-holds_text-clause-text c =
    text_of_its_user (listed c.args.texts.now c.args.rules.now c.args.tree.now c.args.list.now c.args.registers.now) c.args.p c.index-list-p.result c.args.out.now.items
    (slice_get_read c.args.list.now (length c.args.list.now) c.args.p c.index-list-p.result refl c.requires.there c.index-list-p.is)
    (sym c.holds_text.ensures ∙ c.if-holds_text.true)

pub returns-clause-text : goal.returns-clause-text
returns-clause-text c =
    on_ok_weaker c.push_text.result (text_of_its_own (listed c.args.texts.now c.args.rules.now c.args.tree.now c.args.list.now c.args.registers.now) c.args.p c.index-list-p.result
    c.args.out.now.items c.push_text.new.out.items
    (slice_get_read c.args.list.now (length c.args.list.now) c.args.p c.index-list-p.result refl c.requires.there c.index-list-p.is)
    (sym c.holds_text.ensures ∙ c.if-holds_text.false)) c.push_text.ensures.text
