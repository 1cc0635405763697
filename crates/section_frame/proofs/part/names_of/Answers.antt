-- Each turn takes a comma and a name.
use Rattle.std.proofs.Common.{[]}
use Rattle.section_frame.proofs.Names.{first_name, more_names, no_names}
use Rattle.section_frame.proofs.part.names_of.Goals as goal

pub loop-behind-init : goal.loop-behind-init
loop-behind-init c = first_name _ [] [] _ _ _ _ c.new-names.ensures.items c.in_ok-push.ensures.items c.in-Some.ensures

pub returns-in_default-name_of : goal.returns-in_default-name_of
returns-in_default-name_of c = no_names _ _ _ _ c.loop-behind.invariant c.in-Some-after_sign.ensures c.in_default-name_of.ensures

pub loop-behind-preserved : goal.loop-behind-preserved
loop-behind-preserved c = more_names _ _ _ _ _ _ _ c.loop-behind.invariant c.in-Some-after_sign.ensures c.in-Some-name_of.ensures c.in_ok-push-2.ensures.items
