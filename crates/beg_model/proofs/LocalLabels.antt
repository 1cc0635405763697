-- Labels that are consistent everywhere are the least costs.
use Rattle.std.proofs.Common.{◌≡◌, ℕ, ◌+◌, ◌≤◌, List, Some, None, arith}
use Rattle.beg_model.specs.Fitting.{Subgoal}
use Rattle.beg_model.specs.Cover.{Application, Chains, Cover, Covers, Least, Reaches, IsOne, IsOrderly, by_rule, on_top, here, there}
use Rattle.beg_model.specs.Cover as cover
use Rattle.beg_model.specs.Labels.{Costs, Sums, IsConsistent}
use Rattle.beg_model.specs.Labels as labels
use Rattle.beg_model.proofs.Grounded.{Grounded, ground}

module _ (Applies : Application) (costs rules : Costs) (k : IsConsistent Applies costs rules) where
  mutual
    -- no cover costs less than the label
    pub below_cover : {n x d : ℕ} → Cover Applies n x d → (c : ℕ) × (costs n x ≡ Some c) × (c ≤ d)
    below_cover (by_rule r n x l e ps a operands) =
        let (s, sums, le) = below_covers operands in
        let (c, is, under) = (k n x).under r l s ps a sums in
        (c, is, omega (arith, le, under))

    pub below_covers : {ps : List Subgoal} {d : ℕ} → Covers Applies ps d → (s : ℕ) × Sums costs ps s × (s ≤ d)
    below_covers cover.no_subgoal = (0, labels.no_subgoal, omega arith)
    below_covers (cover.one_more n x c d rest first others) =
        let (b, is, le) = below_cover first in
        let (s, sums, less) = below_covers others in
        (b + s, labels.one_more n x b s rest is sums, omega (arith, le, less))

  covers_of : {ps : List Subgoal} {e : ℕ} → Sums costs ps e
      → ((p : Subgoal) (c : ℕ) → IsOne p ps → c ≤ e → costs p.node p.nonterminal ≡ Some c → Cover Applies p.node p.nonterminal c)
      → Covers Applies ps e
  covers_of labels.no_subgoal each = cover.no_subgoal
  covers_of (labels.one_more n x c d rest is sums) each =
      cover.one_more n x c d rest (each (record { node = n; nonterminal = x }) c (here rest) (omega arith) is)
      (covers_of sums (λ p b among le label. each p b (there _ rest among) (omega (arith, le)) label))

  -- a label is the cost of a cover with its rule on top
  cover_of_label : {n x c : ℕ} → Grounded Applies n x c → costs n x ≡ Some c → Cover Applies n x c
  cover_of_label (ground n x c next) is =
      let (r, l, e, ps, rule, a, sums, total) = (k n x).own c is in
      let operands = covers_of sums (λ p b among le label.
      cover_of_label (next r l b ps p a among (omega (arith, le, total))) label) in
      rw total (by_rule r n x l e ps a operands)

  pub label_is_least : (n x c : ℕ) → Grounded Applies n x c → costs n x ≡ Some c → Least Applies n x c
  label_is_least n x c g is = record {
    reached = cover_of_label g is;
    least = λ d other. (let (b, label, le) = below_cover other in
        let e : Some b ≡ Some c = cc in let same : b ≡ c = cc in omega (arith, le, same));
  }

  pub no_cover_without_label : (n x d : ℕ) → costs n x ≡ None → Cover Applies n x d → ⊥
  no_cover_without_label n x d none other = let (b, label, le) = below_cover other in let e : Some b ≡ None = cc in cc

  -- a rule that gives the label is on top of a cover of this cost
  pub reached : (g : (p : Subgoal) (c : ℕ) → Grounded Applies p.node p.nonterminal c) (r n x l e c : ℕ) (ps : List Subgoal) → Applies r n x l ps
      → Sums costs ps e → c ≡ l + e → Reaches Applies r n x c
  reached g r n x l e c ps a sums total =
      rw total (on_top l e ps a (covers_of sums (λ p b among le label. cover_of_label (g p b) label)))
