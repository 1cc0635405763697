-- The part is there, or it isn't.
use Rattle.section_frame.proofs.PartLists.{is_present, is_absent}
use Rattle.section_frame.proofs.reading.optional.Goals as goal

pub returns-in-Some : goal.returns-in-Some
returns-in-Some g c = is_present g.P.ReadPart.part g.P.ReadPart.follow _ _ _ (rw c.in-Some.is at c.in_ok-one.ensures.read)

pub returns-in-None : goal.returns-in-None
returns-in-None g c = is_absent g.P.ReadPart.part g.P.ReadPart.follow _ (rw c.in-None.is at c.in_ok-one.ensures.read)
