use Rattle.std.proofs.Common.{◌+◌, arith, subst, drop, get_or}
use Rattle.std.proofs.lemmas.List.{drop_more}
use Rattle.rex_model.proofs.TakersOfParts.{TakingString, string_more}
use Rattle.rex_model.proofs.takers.takers_in_string.Goals as goal

pub loop-i-preserved : goal.loop-i-preserved
loop-i-preserved c =
    let before = subst (λ rest. TakingString c.args.string.now c.args.k rest (c.args.k + c.loop-i.i) c.args.byte c.args.to.now c.loop-i.to) (drop_more c.args.string.now c.loop-i.i 0 (omega arith)) c.loop-i.invariant in
    subst (λ at. TakingString c.args.string.now c.args.k (drop (c.loop-i.i + 1) c.args.string.now) at c.args.byte c.args.to.now c.add_if_same.new.to) (omega arith)
    (string_more c.args.string.now c.args.k (get_or c.args.string.now c.loop-i.i 0) (drop (c.loop-i.i + 1) c.args.string.now) (c.args.k + c.loop-i.i) c.args.byte c.args.to.now c.loop-i.to c.add_if_same.new.to before c.add_if_same.ensures)
