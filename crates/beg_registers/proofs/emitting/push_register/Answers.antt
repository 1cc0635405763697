-- The name of the register is there where there is one.
use Rattle.std.proofs.Common.{◌++◌, Some, length, refl, sym, ap, ◌∙◌, arith}
use Rattle.std.proofs.lemmas.Option.{slice_get_read, slice_get-get_or}
use Rattle.beg_model.proofs.PatternsInRow.{mapped_read}
use Rattle.beg_registers.specs.Code.{listed}
use Rattle.beg_registers.proofs.CodeFacts.{class_of_register, register_in_class, name_is, no_register, no_name_of_text, no_name_of_nothing}
use Rattle.beg_registers.proofs.emitting.push_register.Goals as goal

pub holding-requires : goal.holding-requires
holding-requires c = c.requires.readable.known c.args.p c.index-list-p.result
    (slice_get_read c.args.list.now (length c.args.list.now) c.args.p c.index-list-p.result refl c.requires.there c.index-list-p.is)

pub index-requires : goal.index-requires
index-requires c =
    let of = listed c.args.texts.now c.args.rules.now c.args.tree.now c.args.list.now c.args.registers.now in
    let at = slice_get_read c.args.list.now (length c.args.list.now) c.args.p c.index-list-p.result refl c.requires.there c.index-list-p.is in
    let lt = c.requires.there in let size = c.requires.readable.size in
    let register = slice_get-get_or c.args.registers.now c.args.p _ (omega (arith, lt, size)) ∙ ap Some c.in-Some.is in
    let (names, found, small, low) = class_of_register of c.requires.readable c.args.p c.in-Class.class c.in-Some.k c.index-list-p.result at (sym c.holding.ensures ∙ c.in-Class.is) register in
    omega (arith, low, c.args.rules.now.classes.ok)

pub index-requires-in-Some : goal.index-requires-in-Some
index-requires-in-Some c =
    let of = listed c.args.texts.now c.args.rules.now c.args.tree.now c.args.list.now c.args.registers.now in
    let at = slice_get_read c.args.list.now (length c.args.list.now) c.args.p c.index-list-p.result refl c.requires.there c.index-list-p.is in
    let lt = c.requires.there in let size = c.requires.readable.size in
    let register = slice_get-get_or c.args.registers.now c.args.p _ (omega (arith, lt, size)) ∙ ap Some c.in-Some.is in
    let (names, found, small, low) = class_of_register of c.requires.readable c.args.p c.in-Class.class c.in-Some.k c.index-list-p.result at (sym c.holding.ensures ∙ c.in-Class.is) register in
    let class = slice_get_read c.args.rules.now.classes.items (length c.args.rules.now.classes.items) c.in-Class.class c.index.result.now refl low c.index.ensures in
    let there = register_in_class of c.requires.readable c.args.p c.in-Class.class c.in-Some.k c.index-list-p.result c.index.result.now.items at (sym c.holding.ensures ∙ c.in-Class.is) register
    (mapped_read (λ names. names.items) c.args.rules.now.classes.items c.in-Class.class c.index.result.now class) in
    omega (arith, there, c.index.result.now.ok)

pub returns-in_ok-push_bytes-in-Some : goal.returns-in_ok-push_bytes-in-Some
returns-in_ok-push_bytes-in-Some c =
    let of = listed c.args.texts.now c.args.rules.now c.args.tree.now c.args.list.now c.args.registers.now in
    let at = slice_get_read c.args.list.now (length c.args.list.now) c.args.p c.index-list-p.result refl c.requires.there c.index-list-p.is in
    let lt = c.requires.there in let size = c.requires.readable.size in
    let register = slice_get-get_or c.args.registers.now c.args.p _ (omega (arith, lt, size)) ∙ ap Some c.in-Some.is in
    let holds = sym c.holding.ensures ∙ c.in-Class.is in
    let (names, found, small, low) = class_of_register of c.requires.readable c.args.p c.in-Class.class c.in-Some.k c.index-list-p.result at holds register in
    let class = slice_get_read c.args.rules.now.classes.items (length c.args.rules.now.classes.items) c.in-Class.class c.index.result.now refl low c.index.ensures in
    let meant = mapped_read (λ names. names.items) c.args.rules.now.classes.items c.in-Class.class c.index.result.now class in
    let there = register_in_class of c.requires.readable c.args.p c.in-Class.class c.in-Some.k c.index-list-p.result c.index.result.now.items at holds register meant in
    let name = slice_get_read c.index.result.now.items (length c.index.result.now.items) c.in-Some.k c.index-in-Some.result.now refl there c.index-in-Some.ensures in
    let is = name_is of c.args.p c.in-Class.class c.in-Some.k c.index-list-p.result c.index.result.now.items c.index-in-Some.result.now at holds register meant name in
    c.in_ok-push_bytes-in-Some.ensures ∙ ap (λ z. c.args.out.now.items ++ z) (c.bytes.ensures ∙ sym is)

pub returns-in-None : goal.returns-in-None
returns-in-None c =
    let lt = c.requires.there in let size = c.requires.readable.size in
    no_register (listed c.args.texts.now c.args.rules.now c.args.tree.now c.args.list.now c.args.registers.now) c.args.p c.args.out.now.items
    (slice_get-get_or c.args.registers.now c.args.p _ (omega (arith, lt, size)) ∙ ap Some c.in-None.is)

pub returns-in-Operand : goal.returns-in-Operand
returns-in-Operand c =
    no_name_of_text (listed c.args.texts.now c.args.rules.now c.args.tree.now c.args.list.now c.args.registers.now) c.args.p c.index-list-p.result c.args.out.now.items
    (slice_get_read c.args.list.now (length c.args.list.now) c.args.p c.index-list-p.result refl c.requires.there c.index-list-p.is) (sym c.holding.ensures ∙ c.in-Operand.is)

pub returns-in-Nothing : goal.returns-in-Nothing
returns-in-Nothing c =
    no_name_of_nothing (listed c.args.texts.now c.args.rules.now c.args.tree.now c.args.list.now c.args.registers.now) c.args.p c.index-list-p.result c.args.out.now.items
    (slice_get_read c.args.list.now (length c.args.list.now) c.args.p c.index-list-p.result refl c.requires.there c.index-list-p.is) (sym c.holding.ensures ∙ c.in-Nothing.is)
