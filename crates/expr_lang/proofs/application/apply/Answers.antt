use Rattle.std.proofs.Common.{ap, ◌∙◌, w64, to_z-of_z}
use Rattle.std.proofs.lemmas.Int.{to_z_pos}
use Rattle.value_store.specs.Cells.{cells_of}
use Rattle.expr_lang.specs.Typing.{takes}
use Rattle.expr_lang.proofs.Applies.{map_arg, applied_text, applied_line, applied_col, applied_int, applied_empty, applied_put, applied_get, applied_has, applied_size}
use Rattle.expr_lang.proofs.application.apply.Goals as goal

pub put_entry-requires : goal.put_entry-requires
put_entry-requires c = rw c.map_in.ensures (map_arg c.args.texts.now.source.now c.args.texts.now.literals.now (cells_of c.args.cells.now.units) c.args.values.now _ _ _ (ap takes c.in-Put.is) c.requires c.nth-first.ensures).there

pub get_entry-requires : goal.get_entry-requires
get_entry-requires c = rw c.map_in-in-Get.ensures (map_arg c.args.texts.now.source.now c.args.texts.now.literals.now (cells_of c.args.cells.now.units) c.args.values.now _ _ _ (ap takes c.in-Get.is) c.requires c.nth-first.ensures).there

pub has-requires : goal.has-requires
has-requires c = rw c.map_in-in-Has.ensures (map_arg c.args.texts.now.source.now c.args.texts.now.literals.now (cells_of c.args.cells.now.units) c.args.values.now _ _ _ (ap takes c.in-Has.is) c.requires c.nth-first.ensures).there

pub size-requires : goal.size-requires
size-requires c = rw c.map_in-in-Size.ensures (map_arg c.args.texts.now.source.now c.args.texts.now.literals.now (cells_of c.args.cells.now.units) c.args.values.now _ _ _ (ap takes c.in-Size.is) c.requires c.nth-first.ensures).there

pub returns-in-Text-clause-ok : goal.returns-in-Text-clause-ok
returns-in-Text-clause-ok c = rw c.in-Text.is (applied_text c.args.texts.now.source.now c.args.texts.now.literals.now (cells_of c.args.cells.now.units) c.args.spans.now c.args.places.now c.args.values.now c.nth-first.result _ c.nth-first.ensures (rw c.token_in.ensures at c.span_at.ensures c.args.texts.now.source.now c.args.texts.now.literals.now))

pub returns-in-Line-clause-ok : goal.returns-in-Line-clause-ok
returns-in-Line-clause-ok c = rw c.in-Line.is (applied_line c.args.texts.now.source.now c.args.texts.now.literals.now (cells_of c.args.cells.now.units) c.args.spans.now c.args.places.now c.args.values.now c.nth-first.result _ _ c.nth-first.ensures (rw c.token_in-in-Line.ensures at c.place_at.ensures) c.int_from.ensures)

pub returns-in-Col-clause-ok : goal.returns-in-Col-clause-ok
returns-in-Col-clause-ok c = rw c.in-Col.is (applied_col c.args.texts.now.source.now c.args.texts.now.literals.now (cells_of c.args.cells.now.units) c.args.spans.now c.args.places.now c.args.values.now c.nth-first.result _ _ c.nth-first.ensures (rw c.token_in-in-Col.ensures at c.place_at-in-Col.ensures) c.int_from-in-Col.ensures)

pub returns-in-Int-clause-ok : goal.returns-in-Int-clause-ok
returns-in-Int-clause-ok c = rw (c.in-Int.is, to_z-of_z {w = w64} {z = c.number_of.result} (record { sfits = c.number_of.type_inv })) (applied_int _ c.args.texts.now.source.now c.args.texts.now.literals.now (cells_of c.args.cells.now.units) c.args.values.now c.nth-first.result _ _ _ c.nth-first.ensures c.text_in.ensures c.bytes.ensures c.number_of.ensures)

pub returns-in-Empty-clause-ok : goal.returns-in-Empty-clause-ok
returns-in-Empty-clause-ok c = rw c.in-Empty.is (applied_empty _ _ _ _ _ _ c.empty_map.ensures.map c.empty_map.ensures.none)

pub returns-in_ok-put_entry-in-Put-clause-ok : goal.returns-in_ok-put_entry-in-Put-clause-ok
returns-in_ok-put_entry-in-Put-clause-ok c = rw c.in-Put.is (applied_put _ c.args.texts.now.source.now c.args.texts.now.literals.now (cells_of c.args.cells.now.units) _ c.args.values.now c.nth-first.result c.nth-second.result c.nth-third.result _ _ _ _ (map_arg c.args.texts.now.source.now c.args.texts.now.literals.now (cells_of c.args.cells.now.units) c.args.values.now _ _ _ (ap takes c.in-Put.is) c.requires c.nth-first.ensures) c.nth-second.ensures c.nth-third.ensures c.map_in.ensures c.text_in-in-Put.ensures (to_z-of_z {w = w64} {z = c.int_of.result} (record { sfits = c.int_of.type_inv }) ∙ c.int_of.ensures) c.in_ok-put_entry-in-Put.ensures.ok.next c.in_ok-put_entry-in-Put.ensures.ok.extends)

pub returns-in-Get-clause-ok : goal.returns-in-Get-clause-ok
returns-in-Get-clause-ok c = rw (c.in-Get.is, to_z-of_z {w = w64} {z = c.get_entry.result} (record { sfits = c.get_entry.type_inv })) (applied_get _ c.args.texts.now.source.now c.args.texts.now.literals.now (cells_of c.args.cells.now.units) c.args.values.now c.nth-first.result c.nth-second.result c.nth-third.result _ _ _ _ (map_arg c.args.texts.now.source.now c.args.texts.now.literals.now (cells_of c.args.cells.now.units) c.args.values.now _ _ _ (ap takes c.in-Get.is) c.requires c.nth-first.ensures) c.nth-second.ensures c.nth-third.ensures c.map_in-in-Get.ensures c.text_in-in-Get.ensures (to_z-of_z {w = w64} {z = c.int_of-in-Get.result} (record { sfits = c.int_of-in-Get.type_inv }) ∙ c.int_of-in-Get.ensures) c.get_entry.ensures)

pub returns-in-Has-clause-ok : goal.returns-in-Has-clause-ok
returns-in-Has-clause-ok c = rw c.in-Has.is (applied_has _ c.args.texts.now.source.now c.args.texts.now.literals.now (cells_of c.args.cells.now.units) c.args.values.now c.nth-first.result c.nth-second.result _ _ _ (map_arg c.args.texts.now.source.now c.args.texts.now.literals.now (cells_of c.args.cells.now.units) c.args.values.now _ _ _ (ap takes c.in-Has.is) c.requires c.nth-first.ensures) c.nth-second.ensures c.map_in-in-Has.ensures c.text_in-in-Has.ensures c.has.ensures)

pub returns-in-Size-clause-ok : goal.returns-in-Size-clause-ok
returns-in-Size-clause-ok c = rw (c.in-Size.is, to_z_pos w64 c.size.result c.size.ensures.small) (applied_size _ c.args.texts.now.source.now c.args.texts.now.literals.now (cells_of c.args.cells.now.units) c.args.values.now c.nth-first.result _ c.size.result (map_arg c.args.texts.now.source.now c.args.texts.now.literals.now (cells_of c.args.cells.now.units) c.args.values.now _ _ _ (ap takes c.in-Size.is) c.requires c.nth-first.ensures) c.map_in-in-Size.ensures c.size.ensures.is)
