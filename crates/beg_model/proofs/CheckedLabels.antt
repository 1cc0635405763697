-- What a checker's yes says: consistent labels are least, each with a rule that reaches it, and where there is no label there is no cover.
use Rattle.std.proofs.Common.{◌≡◌, ℕ, List, Option, Some, None, refl}
use Rattle.value_store.specs.declared.text.Texts.{Texts}
use Rattle.ast_types.specs.TypeTable.{IsSound, TypeTable}
use Rattle.tree_store.specs.Forest.{Node, IsForest}
use Rattle.beg_model.specs.Fitting.{Subgoal}
use Rattle.beg_model.specs.Labels.{Costs, IsConsistent, IsLeastAndReached}
use Rattle.beg_model.specs.Applies.{applies}
use Rattle.beg_model.specs.Accepted.{IsAccepted}
use Rattle.beg_model.specs.declared.rules.CoverRules.{CoverRules}
use Rattle.beg_model.proofs.AcceptedRules.{accepted_order}
use Rattle.beg_model.proofs.Grounded.{all_grounded}
use Rattle.beg_model.proofs.LocalLabels.{label_is_least, no_cover_without_label, reached}

pub checked_labels : (texts : Texts) (rules : CoverRules) (table : TypeTable) (nodes : List Node) → IsSound table → IsForest nodes → IsAccepted texts rules table nodes
    → (costs chosen : Costs) → IsConsistent (applies texts rules table nodes) costs chosen
    → (n x : ℕ) → IsLeastAndReached (applies texts rules table nodes) n x (costs n x) (chosen n x)
checked_labels texts rules table nodes sound forest is costs chosen k n x = go (costs n x) refl
  where
    go : (label : Option ℕ) → costs n x ≡ label → IsLeastAndReached (applies texts rules table nodes) n x label (chosen n x)
    go None none = λ c cover. no_cover_without_label (applies texts rules table nodes) costs chosen k n x c none cover
    go (Some c) label =
        let order = accepted_order texts rules table nodes sound forest is in
        let (r, l, e, ps, rule, a, sums, total) = (k n x).own c label in (
          r,
          rule,
          label_is_least (applies texts rules table nodes) costs chosen k n x c (all_grounded _ _ _ _ order n x c) label,
          reached (applies texts rules table nodes) costs chosen k (λ (p : Subgoal) b. all_grounded _ _ _ _ order p.node p.nonterminal b) r n x l e c ps a sums total,
        )
