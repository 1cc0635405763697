-- Cells as actions, the order of reports, states and refusals.
use Rattle.std.proofs.Common.{◌≡◌, ◌<◌, ℕ, zero, suc, inl, inr, List, [], ◌∷◌, ◌++◌, length, Option, None, Some, slice_get, refl, sym, ap, subst, arith}
use Rattle.std.proofs.lemmas.Option.{slice_get_within}
use Rattle.ck_base.proofs.Counting.{collect}
use Rattle.cfg_model.specs.declared.action.LrAction.TheVariants.{Shift, Reduce, Accept, Error}
use Rattle.cfg_model.specs.declared.refused.LalrError.TheVariants as refused
use Rattle.cfg_model.specs.declared.symbol.Sym.{Sym}
use Rattle.cfg_model.specs.declared.symbol.Sym.TheVariants.{T, N}
use Rattle.cfg_model.specs.Cfg.{Cfg, Rule}
use Rattle.cfg_model.specs.Cores.{CoreList, IsCore, IsCores, HasMoreCores}
use Rattle.cfg_model.specs.Searches.{Cyclic}
use Rattle.cfg_model.specs.Sets.{Reachable}
use Rattle.cfg_model.specs.Steps.{step, none}
use Rattle.cfg_model.specs.Valid.{HasCore}
use Rattle.cfg_model.proofs.CoreNumbers.{number_of_same}
use Rattle.cfg_model.proofs.Locate.{not_empty}
use Rattle.cfg_model.proofs.Reaching.{reachable_in_all}
use Rattle.lalr_look.proofs.LongRule.{run_of, no_more_cores}
use Rattle.lalr_tables.specs.Promise.{IsRefused, IsTableOf}
use Rattle.lalr_tables.specs.Table.{answers_of, as_action}
use Rattle.lalr_tables.specs.declared.plain.PlainLr.{PlainLr}
use Rattle.lalr_tables.specs.within.Clashes.{Precedes}

-- nothing goes on at an empty cell
empty_cell : as_action 0 ≡ Error
empty_cell = refl

-- rule 0 accepts, and rule 1 is the first that is reduced
end_of_rule_0 : as_action 1 ≡ Accept
end_of_rule_0 = refl

end_of_rule_1 : as_action 2 ≡ Reduce 1
end_of_rule_1 = refl

end_of_rule_1024 : as_action 1025 ≡ Reduce 1024
end_of_rule_1024 = refl

-- shifts to the first state and to the last one that there can be
first_shift : as_action 2048 ≡ Shift 0
first_shift = refl

last_shift : as_action 6143 ≡ Shift 4095
last_shift = refl

-- the terminal counts before the rules
terminal_counts : Precedes (record { terminal = 0; rule = 7; other = Some 8 }) (record { terminal = 1; rule = 1; other = None })
terminal_counts = inl (omega arith)

-- a lower rule beside a rule counts before a higher one beside a shift
rule_counts : Precedes (record { terminal = 3; rule = 1; other = Some 2 }) (record { terminal = 3; rule = 2; other = None })
rule_counts = inr (refl, inl (omega arith))

-- a shift counts before each rule
shift_counts : Precedes (record { terminal = 3; rule = 1; other = None }) (record { terminal = 3; rule = 1; other = Some 2 })
shift_counts = inr (refl, inr (refl, tt))

-- each core of a list that is the grammar's counts
many_cores : (g : Cfg) (cores : CoreList) (k : ℕ) → IsCores g cores → k < length cores.items → HasMoreCores g k
many_cores g cores k are past =
    let all = collect (λ n p. HasCore g p × IsCore g cores n p) (length cores.items)
    (λ n below. let (p, has, is) = are.each n below in (p, (has, is))) in
    record {
      some = all.list;
      each = λ i p at. (all.each i p at).0;
      apart = λ i j p q at_i at_j same. are.once q i j (number_of_same g cores i p q (all.each i p at_i).1 same) (all.each j q at_j).1;
      many = let count = all.count in omega (arith, count, past);
    }

-- S = X has three cores, so in its table none of them has two states
no_fourth_state : (table : PlainLr) → IsTableOf (run_of 1) table → (answers_of table).states ≡ 4 → ⊥
no_fourth_state table is four =
    let counted = is.of_cores.counted in
    no_more_cores 1 (many_cores (run_of 1) is.cores 3 is.of_cores.are (omega (arith, counted, four)))

-- too many cores are told, and no conflict beside them
cores_before_conflicts : (g : Cfg) (t r : ℕ) (other : Option ℕ) → HasMoreCores g 4096 → IsRefused g (refused.LalrConflict t r other) → ⊥
cores_before_conflicts g t r other many is = is.3 many

-- S = X, U = U, U = X: U derives itself, but stands in nothing that S derives
abbrev aside : Cfg
aside = record {
  terminals = 1;
  nonterminals = 2;
  start = 0;
  rules = record { left = 0; right = T 0 ∷ [] } ∷ record { left = 1; right = N 1 ∷ [] } ∷ record { left = 1; right = T 0 ∷ [] } ∷ [];
}

u_derives_itself : Cyclic aside 1
u_derives_itself = (N 1 ∷ [], none, step 2 1 (N 1 ∷ []) [] [] (record { place = 1; from_one = refl; read = refl }))

abbrev a_rule : ℕ → List Sym → Rule
a_rule n w = record { left = n; right = w }

rule_of_s : (place : ℕ) (w : List Sym) → slice_get aside.rules place ≡ Some (a_rule 0 w) → w ≡ T 0 ∷ []
rule_of_s zero w read = (let same : a_rule 0 (T 0 ∷ []) ≡ a_rule 0 w = cc in sym (ap (λ (rule : Rule). rule.right) same))
rule_of_s (suc zero) w read =
    let same : a_rule 1 (N 1 ∷ []) ≡ a_rule 0 w = cc in
    absurd (let e : 1 ≡ 0 = ap (λ (rule : Rule). rule.left) same in omega arith)
rule_of_s (suc (suc zero)) w read =
    let same : a_rule 1 (T 0 ∷ []) ≡ a_rule 0 w = cc in
    absurd (let e : 1 ≡ 0 = ap (λ (rule : Rule). rule.left) same in omega arith)
rule_of_s (suc (suc (suc place))) w read = absurd (let lt = slice_get_within {A = Rule} [] place _ read in omega arith)

no_name : (x y : List Sym) (m : ℕ) → x ++ (N m ∷ y) ≡ T 0 ∷ [] → ⊥
no_name [] y m e = cc
no_name (s ∷ x) y m e = (let rest : [] ≡ x ++ (N m ∷ y) = cc in not_empty x (N m) y rest)

s_alone : (n : ℕ) → Reachable aside n → n ≡ 0
s_alone = reachable_in_all aside (λ n. n ≡ 0) refl (λ r n m x y is zero_is.
    let read = subst (λ k. slice_get aside.rules is.place ≡ Some (a_rule k (x ++ (N m ∷ y)))) zero_is is.read in
    absurd (no_name x y m (rule_of_s is.place (x ++ (N m ∷ y)) read)))

-- so the grammar isn't refused for U
unreachable_cycle_passes : IsRefused aside (refused.Cyclic 1) → ⊥
unreachable_cycle_passes is = (let e = s_alone 1 is.1.0.0 in omega (arith, e))
