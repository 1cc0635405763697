-- Labels below a bound that no least cost reaches: rules whose sum is at the bound or above may be left out.
use Rattle.std.proofs.Common.{◌≡◌, ℕ, ◌+◌, ◌<◌, ◌≤◌, List, Some, arith}
use Rattle.beg_model.specs.Fitting.{Subgoal}
use Rattle.beg_model.specs.Cover.{Application, Chains, Cover, Covers, Least, IsOne, IsOrderly, by_rule, here, there}
use Rattle.beg_model.specs.Cover as cover
use Rattle.beg_model.specs.Labels.{Costs, Sums}
use Rattle.beg_model.specs.Labels as labels
use Rattle.beg_model.proofs.Closing.{Over, Under}
use Rattle.beg_model.proofs.ChosenCover.{least_of_cover}
use Rattle.beg_model.proofs.Grounded.{Grounded, ground, all_grounded}

module _ (Applies : Application) (costs : Costs) (cap : ℕ)
    (under : (r n x k e : ℕ) (ps : List Subgoal) → Applies r n x k ps → Sums costs ps e → k + e < cap
    → (c : ℕ) × (costs n x ≡ Some c) × (c ≤ k + e)) where
  mutual
    below_capped : {n x d : ℕ} → Cover Applies n x d → d < cap → (c : ℕ) × (costs n x ≡ Some c) × (c ≤ d)
    below_capped (by_rule r n x k e ps a operands) lt =
        let (s, sums, le) = all_below_capped operands (omega (arith, lt)) in
        let (c, is, less) = under r n x k s ps a sums (omega (arith, lt, le)) in
        (c, is, omega (arith, le, less))

    all_below_capped : {ps : List Subgoal} {d : ℕ} → Covers Applies ps d → d < cap → (s : ℕ) × Sums costs ps s × (s ≤ d)
    all_below_capped cover.no_subgoal lt = (0, labels.no_subgoal, omega arith)
    all_below_capped (cover.one_more n x c d rest first others) lt =
        let (b, is, le) = below_capped first (omega (arith, lt)) in
        let (s, sums, less) = all_below_capped others (omega (arith, lt)) in
        (b + s, labels.one_more n x b s rest is sums, omega (arith, le, less))

  covers_below : {ps : List Subgoal} {e : ℕ} → Sums costs ps e
      → ((p : Subgoal) (c : ℕ) → IsOne p ps → c ≤ e → costs p.node p.nonterminal ≡ Some c → (d : ℕ) × (d ≤ c) × Cover Applies p.node p.nonterminal d)
      → (d : ℕ) × (d ≤ e) × Covers Applies ps d
  covers_below labels.no_subgoal each = (0, omega arith, cover.no_subgoal)
  covers_below (labels.one_more n x c d rest is sums) each =
      let (b, le, one) = each (record { node = n; nonterminal = x }) c (here rest) (omega arith) is in
      let (f, less, others) = covers_below sums (λ p g among low label. each p g (there _ rest among) (omega (arith, low)) label) in
      (b + f, omega (arith, le, less), cover.one_more n x b f rest one others)

  -- a label isn't below the cost of some cover
  cover_below : {n x c : ℕ} → Over Applies costs → Grounded Applies n x c → costs n x ≡ Some c → (d : ℕ) × (d ≤ c) × Cover Applies n x d
  cover_below over (ground n x c next) is =
      let (r, k, e, ps, a, sums, le) = over n x c is in
      let (d, less, operands) = covers_below sums (λ p b among low label. cover_below over (next r k b ps p a among (omega (arith, low, le))) label) in
      (k + d, omega (arith, le, less), by_rule r n x k d ps a operands)

  pub under_of_capped : (Chain : Chains) (count nonterminals : ℕ) → IsOrderly Applies Chain count nonterminals
      → ((n x c : ℕ) → Least Applies n x c → c < cap) → Over Applies costs → Under Applies costs
  under_of_capped Chain count nonterminals o bound over r n x k e ps a sums =
      let (d, less, operands) = covers_below sums (λ p b among low label.
      cover_below over (all_grounded Applies Chain count nonterminals o p.node p.nonterminal b) label) in
      let (c, le, least) = least_of_cover Applies Chain count nonterminals o n x (k + d) (by_rule r n x k d ps a operands) in
      let (b, is, low) = below_capped least.reached (bound n x c least) in
      (b, is, omega (arith, less, le, low))
