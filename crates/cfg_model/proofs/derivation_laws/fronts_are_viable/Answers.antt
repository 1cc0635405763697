use Rattle.cfg_model.proofs.Viable.{viable_front, sentence_viable, nothing_viable}
use Rattle.cfg_model.proofs.derivation_laws.fronts_are_viable.Goals as goal

pub returns-clause-front : goal.returns-clause-front
returns-clause-front c = viable_front

pub returns-clause-sentence : goal.returns-clause-sentence
returns-clause-sentence c = sentence_viable

pub returns-clause-nothing : goal.returns-clause-nothing
returns-clause-nothing c = nothing_viable
