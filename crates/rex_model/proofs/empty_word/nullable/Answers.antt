-- `has_empty` says whether the empty word is in the language.
use Rattle.rex_model.proofs.EmptyWord.{empty_of, has_empty_of}
use Rattle.rex_model.specs.Meaning.{meaning}
use Rattle.rex_model.proofs.empty_word.nullable.Goals as goal

pub returns-clause-language : goal.returns-clause-language
returns-clause-language c = rw c.has_empty_word.ensures (has_empty_of (meaning c.args.r.now), empty_of (meaning c.args.r.now))
