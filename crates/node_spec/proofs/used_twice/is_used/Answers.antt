-- A number that is no nonterminal's, one whose place is marked, or one whose place is marked now.
use Rattle.std.proofs.Common.{refl}
use Rattle.node_spec.specs.within.AstTwice.{no_value, used_again, used_now}
use Rattle.node_spec.proofs.AstTwiceUses.{value_fits}
use Rattle.node_spec.proofs.used_twice.is_used.Goals as goal

pub returns-in_default : goal.returns-in_default
returns-in_default c = no_value (rw c.in_default.is at c.value_of.ensures) refl

pub bounds-used-place : goal.bounds-used-place
bounds-used-place c =
    value_fits c.args.right.now c.args.number c.in-Some.place c.args.used.now c.requires c.in-Some.ensures

pub returns-then-used-place : goal.returns-then-used-place
returns-then-used-place c = used_again c.in-Some.place c.in-Some.ensures c.if-used-place.true

pub bounds-used-place-2 : goal.bounds-used-place-2
bounds-used-place-2 c =
    value_fits c.args.right.now c.args.number c.in-Some.place c.args.used.now c.requires c.in-Some.ensures

pub returns : goal.returns
returns c = used_now c.in-Some.place c.in-Some.ensures c.if-used-place.false refl
