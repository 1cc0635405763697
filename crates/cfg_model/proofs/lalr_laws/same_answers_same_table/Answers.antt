use Rattle.cfg_model.proofs.SameAnswers.{same_table, same_table_of_cores}
use Rattle.cfg_model.proofs.lalr_laws.same_answers_same_table.Goals as goal

pub returns-clause-table : goal.returns-clause-table
returns-clause-table c = same_table

pub returns-clause-cores : goal.returns-clause-cores
returns-clause-cores c = same_table_of_cores
