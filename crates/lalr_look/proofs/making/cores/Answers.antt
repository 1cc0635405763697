use Rattle.std.proofs.Common.{sym, ap, arith, length, map}
use Rattle.lalr_look.proofs.Grown.{start_kernels, going_first, too_many, are_cores, no_more}
use Rattle.lalr_look.proofs.making.cores.Goals as goal

pub loop-n-init : goal.loop-n-init
loop-n-init c =
    let one = start_kernels c.new-kernels.result c.number_of.new.self _ _ c.new-kernels.ensures c.new.ensures.items c.in_ok-number_of.ensures.number in
    let long = ap length one in (
      going_first c.args.g.now c.number_of.new.self _ one (ap (λ l. map (λ row. row.items) l) c.new-2.ensures.items) (ap (λ l. map (λ row. row.items) l) c.new-3.ensures.items),
      sym (ap (λ l. length (map (λ row. row.items) l)) c.new-2.ensures.items),
      omega (arith, long),
      omega arith,
    )

pub returns-then-len-gt4096-clause-fault : goal.returns-then-len-gt4096-clause-fault
returns-then-len-gt4096-clause-fault c =
    let past = c.if-len-gt4096.true in
    let len = c.len-in-loop-n.ensures in
    too_many c.args.g.now c.requires.grammar c.requires.productive c.add_core.new.kernels c.add_core.new.made c.in_ok-add_core.ensures.going 4096 (omega (arith, past, len))

pub returns-clause-cores : goal.returns-clause-cores
returns-clause-cores c =
    let (going, made, few, low) = c.loop-n.invariant in
    let past = c.loop-n-test.false in
    let len = c.len.ensures in
    are_cores c.args.g.now c.requires.grammar c.requires.productive c.loop-n.kernels c.loop-n.made going (omega (arith, made, low, past, len))

pub returns-clause-no_more : goal.returns-clause-no_more
returns-clause-no_more c =
    let (going, made, few, low) = c.loop-n.invariant in
    let past = c.loop-n-test.false in
    let len = c.len.ensures in
    no_more c.args.g.now c.loop-n.made 4096
    (are_cores c.args.g.now c.requires.grammar c.requires.productive c.loop-n.kernels c.loop-n.made going (omega (arith, made, low, past, len)))
    (omega (arith, made, low, few))
