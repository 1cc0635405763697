-- The row of the number has an item twice.
use Rattle.std.proofs.Common.{refl, length, map}
use Rattle.std.proofs.lemmas.Option.{slice_get_read}
use Rattle.node_spec.specs.within.AstSeen.{item_seen}
use Rattle.node_spec.proofs.AstTwicePasses.{repeats_of}
use Rattle.node_spec.proofs.item_twice.repeats_item.Goals as goal

pub returns : goal.returns
returns c =
    let lookup = c.in-Some.ensures.lookup in
    let got = slice_get_read c.args.rows.now (length c.args.rows.now) c.args.number c.in-Some.row.now refl lookup.3.0 lookup.1 in
    rw c.in-NodeType.is (repeats_of c.args.rows.now c.args.number c.in-Some.row.now c.in-NodeType.field-0.now
    c.in-NodeType.field-1.now (map item_seen c.in-NodeType.field-2.now) _ got
    (rw c.as_slice.ensures.value at c.in_ok-found.ensures))
