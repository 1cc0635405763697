-- The order of reports, cells as answers, what is a table of a grammar, and why there is none.
use Rattle.std.proofs.Common.{◌≡◌, ℕ, inl, inr, [], ◌∷◌, refl, sym, ap, subst, ◌∙◌, length, arith, None}
use Rattle.cfg_model.specs.declared.symbol.Sym.TheVariants.{T, N}
use Rattle.cfg_model.specs.Cfg.{Cfg}
use Rattle.cfg_model.specs.Items.{right_of}
use Rattle.cfg_model.specs.Steps.{step, none, more}
use Rattle.cfg_model.specs.Sets.{Productive, AllProductive}
use Rattle.cfg_model.specs.LlConflicts.{LlConflict}
use Rattle.cfg_model.proofs.Examples.{apart}
use Rattle.cfg_model.proofs.GrammarExamples.{as_rule as rule_is, lists, longer, single, left_at_once}
use Rattle.ell_tables.specs.Promise.{IsTableOf, HasTable, IsRefused}
use Rattle.ell_tables.specs.Table.{as_rule}
use Rattle.ell_tables.specs.declared.plain.PlainLl.{PlainLl}
use Rattle.ell_tables.specs.declared.refusal.EllError.TheVariants as refused
use Rattle.ell_tables.specs.within.Fill.{Precedes}

-- rules 2 and 3 clash before rule 4 is looked at, but the conflict of rules 1 and 4 is reported
first_rule_counts : Precedes (record { nonterminal = 0; rule = 1; other = 4; terminal = 5 }) (record { nonterminal = 0; rule = 2; other = 3; terminal = 0 })
first_rule_counts = inr (refl, inl (omega arith))

-- the nonterminal counts before the rules, though its rules are written later
nonterminal_counts : Precedes (record { nonterminal = 0; rule = 7; other = 8; terminal = 5 }) (record { nonterminal = 1; rule = 1; other = 2; terminal = 0 })
nonterminal_counts = inl (omega arith)

-- the terminal counts last
terminal_counts_last : Precedes (record { nonterminal = 0; rule = 1; other = 2; terminal = 5 }) (record { nonterminal = 0; rule = 1; other = 3; terminal = 0 })
terminal_counts_last = inr (refl, inr (refl, inl (omega arith)))

-- 0 is no rule, since rules count from 1
no_rule : as_rule 0 ≡ None
no_rule = refl

-- L = L X, L = X: both rules are for X, and what is reported is that L is left recursive
derives_all : AllProductive lists
derives_all n under = (let same : n ≡ 0 = omega arith in subst (Productive lists) (sym same) (0 ∷ [], more _ _ none (step 2 0 (T 0 ∷ []) [] [] single)))

conflict_too : LlConflict lists 0 1 2 0
conflict_too = record {
  reachable = ([], [], none);
  first = record { right = N 0 ∷ T 0 ∷ []; is_rule = longer; for_terminal = inl (0 ∷ [], more _ _ none (step 2 0 (T 0 ∷ []) [] (T 0 ∷ []) single)) };
  second = record { right = T 0 ∷ []; is_rule = single; for_terminal = inl ([], none) };
  in_order = omega arith;
}

left_is_reported : IsRefused lists (refused.LeftRecursive 0)
left_is_reported = (derives_all, ((([], [], none), left_at_once), λ m is. omega arith))

no_conflict_reported : (n r q t : ℕ) → IsRefused lists (refused.LlConflict n r q t) → ⊥
no_conflict_reported n r q t is = is.1 0 ([], [], none) left_at_once

no_table : HasTable lists → ⊥
no_table has = has.not_left_recursive 0 ([], [], none) left_at_once

-- a table of S = X, U = S Y isn't one of S = X, U = Y, though U is unreachable and the answers for S are the same
abbrev other : Cfg
other = record { terminals = 2; nonterminals = 2; start = 0; rules = rule_is 0 (T 0 ∷ []) ∷ rule_is 1 (T 1 ∷ []) ∷ [] }

of_one_alone : (table : PlainLl) → IsTableOf apart table → IsTableOf other table → ⊥
of_one_alone table one two =
    let same : apart ≡ other = sym one.of_grammar ∙ two.of_grammar in
    let lengths : 2 ≡ 1 = ap (λ (g : Cfg). length (right_of g 2)) same in
    omega (arith, lengths)
