use Rattle.std.proofs.Common.{◌+◌, refl, arith}
use Rattle.std.specs.Prelude.{slice_index_or}
use Rattle.std.proofs.lemmas.Option.{slice_get-get_or}
use Rattle.tree_store.proofs.NodeAdded.{linking_more}
use Rattle.tree_store.proofs.tree.link.Goals as goal

pub loop-i-preserved : goal.loop-i-preserved
loop-i-preserved c =
    let before = c.loop-i.invariant in
    let at = slice_get-get_or c.args.children.now c.loop-i.i 0 c.loop-i-test.true in
    let p = c.requires.parents _ _ at in
    let n = c.requires.numbers _ _ at in
    let x = c.requires.nexts _ _ at in
    record {
      parents = linking_more c.args.children.now c.loop-i.i _ _ c.args.parents.now.items c.loop-i.parents.items (λ k. c.args.node) before.parents at (omega (arith, p, before.parents.size)) c.requires.differ refl;
      numbers = linking_more c.args.children.now c.loop-i.i _ _ c.args.numbers.now.items c.loop-i.numbers.items (λ k. k) before.numbers at (omega (arith, n, before.numbers.size)) c.requires.differ refl;
      nexts = linking_more c.args.children.now c.loop-i.i _ _ c.args.nexts.now.items c.loop-i.nexts.items (λ k. slice_index_or c.args.children.now (k + 1) 4294967295) before.nexts at (omega (arith, x, before.nexts.size)) c.requires.differ c.next_after.ensures;
      room_parents = before.room_parents;
      room_numbers = before.room_numbers;
      room_nexts = before.room_nexts;
    }
