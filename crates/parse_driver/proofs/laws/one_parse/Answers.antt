-- The answers exclude one another.
use Rattle.parse_driver.proofs.OneParse.{wrong_not_parsed, bad_not_parsed, wrong_not_bad, one_wrong, one_bad, some_parse}
use Rattle.parse_driver.proofs.laws.one_parse.Goals as goal

pub returns-clause-parsed_or_wrong : goal.returns-clause-parsed_or_wrong
returns-clause-parsed_or_wrong c = wrong_not_parsed

pub returns-clause-parsed_or_bad : goal.returns-clause-parsed_or_bad
returns-clause-parsed_or_bad c = bad_not_parsed

pub returns-clause-wrong_or_bad : goal.returns-clause-wrong_or_bad
returns-clause-wrong_or_bad c = wrong_not_bad

pub returns-clause-one_wrong : goal.returns-clause-one_wrong
returns-clause-one_wrong c = one_wrong

pub returns-clause-one_bad : goal.returns-clause-one_bad
returns-clause-one_bad c = one_bad

pub returns-clause-some : goal.returns-clause-some
returns-clause-some c = some_parse
