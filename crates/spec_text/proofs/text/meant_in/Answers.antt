-- Each turn takes a character.
use Rattle.spec_text.proofs.Meant.{none_yet, one_more_byte, all_meant}
use Rattle.spec_text.proofs.text.meant_in.Goals as goal

pub loop-byte-init : goal.loop-byte-init
loop-byte-init c = none_yet _ _ c.in_ok-bytes.ensures.items

pub loop-byte-preserved : goal.loop-byte-preserved
loop-byte-preserved c = one_more_byte c.args.inside.now _ _ c.loop-byte.bytes.items _ _ c.loop-byte.invariant c.in-Some.ensures c.in_ok-push.ensures.items

pub returns : goal.returns
returns c = rw c.into_bump_slice.ensures (all_meant c.args.inside.now _ c.loop-byte.bytes.items c.loop-byte.invariant c.in_default.ensures)
