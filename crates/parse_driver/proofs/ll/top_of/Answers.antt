-- The last element of the list is on top.
use Rattle.std.proofs.Common.{◌∙◌}
use Rattle.parse_driver.proofs.Tops.{top_is}
use Rattle.parse_driver.proofs.ll.top_of.Goals as goal

pub returns : goal.returns
returns c = top_is c.args.stack.now.items c.copied.result (c.copied.ensures ∙ (rw c.deref.ensures.value at c.last.ensures.value))
