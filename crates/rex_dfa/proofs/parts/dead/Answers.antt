use Rattle.std.proofs.Common.{ap, ◌∙◌, ◌++◌, ◌∷◌, [], None}
use Rattle.rex_dfa.proofs.DeadDfa.{dead_is}
use Rattle.rex_dfa.proofs.parts.dead.Goals as goal

pub returns : goal.returns
returns c = dead_is _ (c.in_ok-moves.ensures.items_if_clones_equal (λ y e. e)) (c.in_ok-push.ensures.items ∙ ap (λ xs. xs ++ None ∷ []) c.new-accepts.ensures.items)
