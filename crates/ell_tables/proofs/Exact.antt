-- Filled cells are the predictions, and the least clash is the reported conflict.
use Rattle.std.proofs.Common.{◌≡◌, ℕ, zero, suc, ◌≤◌, inl, inr, List, length, Some, None, slice_get, refl, subst, arith}
use Rattle.std.proofs.lemmas.Bool.{cases_eq, cases_lt}
use Rattle.std.proofs.lemmas.Option.{slice_get_within}
use Rattle.ck_base.specs.BitSet.{BitSet}
use Rattle.cfg_model.specs.Cfg.{Cfg, Rule}
use Rattle.cfg_model.specs.Sets.{Reachable}
use Rattle.cfg_model.specs.Rows.{row}
use Rattle.cfg_model.specs.LlConflicts.{IsFor, Predicts, LlConflict, LlReport}
use Rattle.cfg_model.specs.LlTables.{IsPrediction}
use Rattle.ell_tables.specs.declared.fill.Clash.{Clash}
use Rattle.ell_tables.specs.Table.{as_rule}
use Rattle.ell_tables.specs.within.RuleSets.{IsRuleSet}
use Rattle.ell_tables.specs.within.Fill.{IsBefore, Clashes, Filled, Seen}

abbrev as_clash : ℕ → ℕ → ℕ → ℕ → Clash
as_clash n r q t = record { nonterminal = n; rule = r; other = q; terminal = t }

-- what stands before, in each of its numbers as far as those before it are the same
before_first : {n r q t m s p u : ℕ} → IsBefore n r q t m s p u → n ≤ m
before_first (inl less) = omega arith
before_first (inr (same, _)) = omega arith

before_second : (n : ℕ) {r q t s p u : ℕ} → IsBefore n r q t n s p u → r ≤ s
before_second n (inl less) = absurd (omega arith)
before_second n (inr (_, inl less)) = omega arith
before_second n (inr (_, inr (same, _))) = omega arith

before_third : (n r : ℕ) {q t p u : ℕ} → IsBefore n r q t n r p u → q ≤ p
before_third n r (inl less) = absurd (omega arith)
before_third n r (inr (_, inl less)) = absurd (omega arith)
before_third n r (inr (_, inr (_, inl less))) = omega arith
before_third n r (inr (_, inr (_, inr (same, _)))) = omega arith

before_last : (n r q : ℕ) {t u : ℕ} → IsBefore n r q t n r q u → t ≤ u
before_last n r q (inl less) = absurd (omega arith)
before_last n r q (inr (_, inl less)) = absurd (omega arith)
before_last n r q (inr (_, inr (_, inl less))) = absurd (omega arith)
before_last n r q (inr (_, inr (_, inr (_, le)))) = le

module _ (g : Cfg) (sets : List BitSet)
    (sets_are : (k : ℕ) (one : Rule) → slice_get g.rules k ≡ Some one → IsRuleSet g one (row sets k)) where
  abbrev All_seen : ℕ → ℕ → ℕ → Type 0
  All_seen n t r = Seen g.rules sets (length g.rules) 0 n t r

  pub predicts_of_seen : (n t r : ℕ) → All_seen n t r → Reachable g n × Predicts g n t r
  predicts_of_seen n t r s =
      let facts = (sets_are s.place s.one s.is_rule t).0 s.has in (
        subst (λ (m : ℕ). Reachable g m) s.left facts.0,
        record { right = s.one.right; is_rule = record { place = s.place; from_one = s.number; read = rw (← s.left) s.is_rule }; for_terminal = subst (λ (m : ℕ). IsFor g m s.one.right t) s.left facts.1 },
      )

  pub seen_of_predicts : (n t r : ℕ) → Reachable g n → Predicts g n t r → All_seen n t r
  seen_of_predicts n t r reachable p =
      let one : Rule = record { left = n; right = p.right } in
      record {
        place = p.is_rule.place;
        one = one;
        number = p.is_rule.from_one;
        is_rule = p.is_rule.read;
        left = refl;
        has = (sets_are p.is_rule.place one p.is_rule.read t).1 (reachable, p.for_terminal);
        before = inl (slice_get_within g.rules p.is_rule.place one p.is_rule.read);
      }

  pub clash_of_conflict : (n r q t : ℕ) → LlConflict g n r q t → Clashes All_seen (record { nonterminal = n; rule = r; other = q; terminal = t })
  clash_of_conflict n r q t c = (c.in_order, seen_of_predicts n t r c.reachable c.first, seen_of_predicts n t q c.reachable c.second)

  module _ (cell : ℕ → ℕ → ℕ) where
    pub reported : (c : Clash) → Filled All_seen cell (Some c) → LlReport g c.nonterminal c.rule c.other c.terminal
    reported c filled =
        let (clash, least) = filled.best in
        let (reachable, first) = predicts_of_seen c.nonterminal c.terminal c.rule clash.1 in
        let (_, second) = predicts_of_seen c.nonterminal c.terminal c.other clash.2 in
        record {
          conflict = record { reachable = reachable; first = first; second = second; in_order = clash.0 };
          nonterminal = λ m s p u conflict. before_first (least (as_clash m s p u) (clash_of_conflict m s p u conflict));
          first = λ s p u conflict. before_second c.nonterminal (least (as_clash c.nonterminal s p u) (clash_of_conflict c.nonterminal s p u conflict));
          second = λ p u conflict. before_third c.nonterminal c.rule (least (as_clash c.nonterminal c.rule p u) (clash_of_conflict c.nonterminal c.rule p u conflict));
          terminal = λ u conflict. before_last c.nonterminal c.rule c.other (least (as_clash c.nonterminal c.rule c.other u) (clash_of_conflict c.nonterminal c.rule c.other u conflict));
        }

    module _ (filled : Filled All_seen cell None) where
      pub no_conflict : (n r q t : ℕ) → LlConflict g n r q t → ⊥
      no_conflict n r q t c = filled.best (record { nonterminal = n; rule = r; other = q; terminal = t }) (clash_of_conflict n r q t c)

      one_rule : (n t r q : ℕ) → Reachable g n → Predicts g n t r → Predicts g n t q → q ≡ r
      one_rule n t r q reachable a b = elim (cases_lt r q) [
        | inl less ↦ absurd (no_conflict n r q t (record { reachable = reachable; first = a; second = b; in_order = less }))
        | inr not_less ↦ elim (cases_eq q r) [
          | inl same ↦ same
          | inr other ↦ absurd (no_conflict n q r t (record { reachable = reachable; first = b; second = a; in_order = omega arith }))
        ]
      ]

      pub prediction : (n t number : ℕ) → Reachable g n → cell n t ≡ number → IsPrediction g n t (as_rule number)
      prediction n t zero reachable is = λ r p. filled.none_seen n t r is (seen_of_predicts n t r reachable p)
      prediction n t (suc r) reachable is =
          let (_, p) = predicts_of_seen n t (cell n t) (filled.seen n t (omega (arith, is))) in
          let there : Predicts g n t (suc r) = rw is at p in
          (there, λ q other. one_rule n t (suc r) q reachable there other)
