-- How a specification is accepted or refused is what `AcceptedOrRefused` shows.
use Rattle.ck_chain.proofs.AcceptedOrRefused.{one_refusal, refused_or_accepted, one_acceptance, accepted_or_refused}
use Rattle.ck_chain.proofs.laws.one_acceptance.Goals as goal

pub returns-clause-refused : goal.returns-clause-refused
returns-clause-refused c = λ spec r s a b. one_refusal spec r s a b

pub returns-clause-accepted : goal.returns-clause-accepted
returns-clause-accepted c = λ spec these those a b. one_acceptance spec these those a b

pub returns-clause-not_both : goal.returns-clause-not_both
returns-clause-not_both c = λ spec r tools refuses accepts. refused_or_accepted spec r tools refuses accepts

pub returns-clause-either : goal.returns-clause-either
returns-clause-either c = λ spec not_refused not_accepted. accepted_or_refused spec not_refused not_accepted
