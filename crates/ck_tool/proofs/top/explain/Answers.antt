use Rattle.ck_tool.proofs.top.explain.Goals as goal

pub returns-in-ReadFault : goal.returns-in-ReadFault
returns-in-ReadFault g c = rw c.in-ReadFault.is c.tell-in-ReadFault.ensures
