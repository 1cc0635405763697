-- An operand is there, and holds a text or a register.
use Rattle.std.proofs.Common.{length, refl, sym, ◌∙◌}
use Rattle.std.proofs.lemmas.Option.{slice_get_read}
use Rattle.beg_registers.specs.Code.{listed}
use Rattle.beg_registers.proofs.CodeFacts.{operand_there, operand_is_text, operand_is_named}
use Rattle.beg_registers.proofs.emitting.push_operand.Goals as goal

pub bounds-list-o : goal.bounds-list-o
bounds-list-o c =
    let at = slice_get_read c.args.list.now (length c.args.list.now) c.args.p c.index-list-p.result refl c.requires.there c.index-list-p.is in
    let low = operand_there (listed c.args.texts.now c.args.rules.now c.args.tree.now c.args.list.now c.args.registers.now) c.requires.readable c.args.p c.args.n c.in-Some.o c.index-list-p.result at (sym c.operand_of.ensures ∙ c.in-Some.is) c.requires.there in
    low

pub holds_text-requires : goal.holds_text-requires
holds_text-requires c =
    let at = slice_get_read c.args.list.now (length c.args.list.now) c.args.p c.index-list-p.result refl c.requires.there c.index-list-p.is in
    let low = operand_there (listed c.args.texts.now c.args.rules.now c.args.tree.now c.args.list.now c.args.registers.now) c.requires.readable c.args.p c.args.n c.in-Some.o c.index-list-p.result at (sym c.operand_of.ensures ∙ c.in-Some.is) c.requires.there in
    let there = slice_get_read c.args.list.now (length c.args.list.now) c.in-Some.o c.index-list-o.result refl low c.index-list-o.is in
    c.requires.readable.known c.in-Some.o c.index-list-o.result there

pub returns-then-holds_text : goal.returns-then-holds_text
returns-then-holds_text c =
    let at = slice_get_read c.args.list.now (length c.args.list.now) c.args.p c.index-list-p.result refl c.requires.there c.index-list-p.is in
    let low = operand_there (listed c.args.texts.now c.args.rules.now c.args.tree.now c.args.list.now c.args.registers.now) c.requires.readable c.args.p c.args.n c.in-Some.o c.index-list-p.result at (sym c.operand_of.ensures ∙ c.in-Some.is) c.requires.there in
    let there = slice_get_read c.args.list.now (length c.args.list.now) c.in-Some.o c.index-list-o.result refl low c.index-list-o.is in
    operand_is_text (listed c.args.texts.now c.args.rules.now c.args.tree.now c.args.list.now c.args.registers.now) c.args.p c.args.n c.in-Some.o c.index-list-p.result c.index-list-o.result c.args.out.now.items at
    (sym c.operand_of.ensures ∙ c.in-Some.is) there (sym c.holds_text.ensures ∙ c.if-holds_text.true) low

pub push_register-requires-clause-there : goal.push_register-requires-clause-there
push_register-requires-clause-there c =
    let at = slice_get_read c.args.list.now (length c.args.list.now) c.args.p c.index-list-p.result refl c.requires.there c.index-list-p.is in
    let low = operand_there (listed c.args.texts.now c.args.rules.now c.args.tree.now c.args.list.now c.args.registers.now) c.requires.readable c.args.p c.args.n c.in-Some.o c.index-list-p.result at (sym c.operand_of.ensures ∙ c.in-Some.is) c.requires.there in
    low

pub returns : goal.returns
returns c =
    let at = slice_get_read c.args.list.now (length c.args.list.now) c.args.p c.index-list-p.result refl c.requires.there c.index-list-p.is in
    let low = operand_there (listed c.args.texts.now c.args.rules.now c.args.tree.now c.args.list.now c.args.registers.now) c.requires.readable c.args.p c.args.n c.in-Some.o c.index-list-p.result at (sym c.operand_of.ensures ∙ c.in-Some.is) c.requires.there in
    let there = slice_get_read c.args.list.now (length c.args.list.now) c.in-Some.o c.index-list-o.result refl low c.index-list-o.is in
    operand_is_named (listed c.args.texts.now c.args.rules.now c.args.tree.now c.args.list.now c.args.registers.now) c.args.p c.args.n c.in-Some.o c.index-list-p.result c.index-list-o.result c.args.out.now.items c.push_register.new.out.items at
    (sym c.operand_of.ensures ∙ c.in-Some.is) there (sym c.holds_text.ensures ∙ c.if-holds_text.false) c.in_ok-push_register.ensures
