-- By the sort of the token.
use Rattle.spec_text.proofs.Views.{number_at, text_at, text_form}
use Rattle.spec_text.proofs.view.token_at.Goals as goal

pub returns-in-Number : goal.returns-in-Number
returns-in-Number c = rw (c.value_of.ensures, c.bytes_at-bytes.ensures) (number_at _ _ c.requires c.in-Number.is).2

pub returns-in_ok-meant_in-in-Text : goal.returns-in_ok-meant_in-in-Text
returns-in_ok-meant_in-in-Text c =
    text_form _ _ _ (text_at _ _ c.requires c.in-Text.is) (rw c.bytes_at-bytes.ensures at c.between.ensures) c.in_ok-meant_in-in-Text.ensures
