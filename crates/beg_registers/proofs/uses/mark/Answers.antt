-- One operand more is marked.
use Rattle.std.proofs.Common.{◌≡◌, get_or, subst, arith}
use Rattle.beg_registers.proofs.Marks.{in_list, place_of, mark_more}
use Rattle.beg_registers.proofs.uses.mark.Goals as goal

pub bounds-uses-o : goal.bounds-uses-o
bounds-uses-o c =
    let lt = c.requires (get_or c.args.operands.now c.loop-k.k 0) (in_list c.args.operands.now c.loop-k.k c.loop-k-test.true) in
    omega (arith, lt, c.loop-k.auto.uses)

pub loop-k-preserved : goal.loop-k-preserved
loop-k-preserved c =
    let (size, marked, others) = c.loop-k.invariant in
    let lt = c.requires (get_or c.args.operands.now c.loop-k.k 0) (in_list c.args.operands.now c.loop-k.k c.loop-k-test.true) in
    mark_more c.args.operands.now c.loop-k.uses c.args.uses.now c.args.place c.loop-k.k size (omega (arith, lt, size)) marked others

pub returns-clause-marked : goal.returns-clause-marked
returns-clause-marked c = λ w has.
    (let (k, lt, is) = place_of c.args.operands.now w has in
    let (size, marked, others) = c.loop-k.invariant in
    let test = c.loop-k-test.false in
    subst (λ z. get_or c.loop-k.uses z 0 ≡ c.args.place) is (marked k (omega (arith, lt, test))))
