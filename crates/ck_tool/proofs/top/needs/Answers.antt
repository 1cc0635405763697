use Rattle.ck_tool.proofs.top.needs.Goals as goal

pub returns-in-Some-clause-missing : goal.returns-in-Some-clause-missing
returns-in-Some-clause-missing c = (c.in-Some.section, c.in-Some.ensures, c.without_section.ensures)
