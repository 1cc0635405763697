use Rattle.std.proofs.Common.{arith}
use Rattle.lalr_look.proofs.Turns.{row_none, row_one}
use Rattle.lalr_look.proofs.making.add_move.Goals as goal

pub returns-then-len-eq0-clause-rows : goal.returns-then-len-eq0-clause-rows
returns-then-len-eq0-clause-rows c items first moves rows =
    let none = c.if-len-eq0.true in
    let len = c.len.ensures in
    let ok = c.args.kernel.ok in
    row_none c.args.g.now items first c.args.kernels.now c.args.row.now.items c.args.i c.args.kernel.items moves (omega (arith, none, len, ok)) rows

pub returns-clause-rows : goal.returns-clause-rows
returns-clause-rows c items first moves rows =
    let some = c.if-len-eq0.false in
    let len = c.len.ensures in
    let ok = c.args.kernel.ok in
    row_one c.args.g.now items first c.args.kernels.now c.number_of.new.self c.args.row.now.items c.push.new.self.items c.args.i
    c.in_ok-m.m _ c.args.kernel.items moves (omega (arith, some, len, ok)) c.in_ok-m.ensures.number
    c.symbol_at.ensures.symbol c.symbol_at.ensures.place (c.in_ok-push.ensures).items rows
