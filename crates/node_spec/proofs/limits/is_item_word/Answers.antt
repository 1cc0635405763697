-- A word that names a type of values is one of the four.
use Rattle.node_spec.proofs.ItemWords.{word_among}
use Rattle.node_spec.proofs.limits.is_item_word.Goals as goal

pub returns-clause-among : goal.returns-clause-among
returns-clause-among c =
    let same = c.is_some.ensures in let is = c.type_of_word.ensures in let both = word_among c.args.name.now in (
      (λ some. both.0 (cc)),
      (λ among. let its = both.1 among in cc),
    )
