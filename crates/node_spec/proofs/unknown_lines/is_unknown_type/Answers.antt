-- One of the four words, or a family, or neither.
use Rattle.node_spec.proofs.unknown_lines.is_unknown_type.Goals as goal

pub returns-then-is_item_word : goal.returns-then-is_item_word
returns-then-is_item_word c = (
  (λ is. cc),
  (λ unknown. absurd (unknown.no_word (c.is_item_word.ensures.among.0 c.if-is_item_word.true))),
)

pub returns : goal.returns
returns c = (
  (λ is. record {
    no_word = λ among. let its = c.is_item_word.ensures.among.1 among in let e = c.if-is_item_word.false in cc;
    no_family = c.is_missing.ensures.0 is;
  }),
  (λ unknown. c.is_missing.ensures.1 unknown.no_family),
)
