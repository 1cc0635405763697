use Rattle.std.proofs.Common.{length}
use Rattle.ck_base.specs.Numbered.{AreNumbered}
use Rattle.rex_dfa.specs.within.Subset.{AreStarts}
use Rattle.rex_dfa.proofs.CountsOfSets.{more_sets}
use Rattle.rex_dfa.proofs.TableOfSets.{table_is}
use Rattle.rex_dfa.proofs.table.table_of.Goals as goal

pub returns-in_default : goal.returns-in_default
returns-in_default c =
    let numbered : AreNumbered c.starts_of.new.sets = rw (← c.sets.view_is) c.sets.invariant in
    let full = rw c.in_default.is at c.in_ok-begun.ensures in
    more_sets c.args.positions.now c.args.firsts.now.items c.starts_of.new.sets (rw c.as_slice.ensures.value at full.0) 4096 numbered full.1

pub returns-in_default-filled : goal.returns-in_default-filled
returns-in_default-filled c =
    let numbered : AreNumbered c.fill.new.sets = rw (← c.sets-2.view_is) c.sets-2.invariant in
    let full = rw c.in_default-filled.is at c.in_ok-filled.ensures in
    more_sets c.args.positions.now c.args.firsts.now.items c.fill.new.sets full.0 4096 numbered full.1

pub returns : goal.returns
returns c =
    let numbered : AreNumbered c.fill.new.sets = rw (← c.sets-2.view_is) c.sets-2.invariant in
    let begun : AreStarts c.args.positions.now c.args.firsts.now.items c.starts_of.new.sets c.in-Some.starts.items (length c.args.firsts.now.items) = rw (← c.as_slice.ensures.value) (rw c.in-Some.is at c.in_ok-begun.ensures) in
    let full = rw c.in-Some-filled.is at c.in_ok-filled.ensures in
    table_is c.args.positions.now c.args.firsts.now.items c.starts_of.new.sets c.fill.new.sets c.in-Some.starts.items _ c.args.marks.now begun full.2 full.0 full.1 c.in_ok-accepts.ensures numbered
