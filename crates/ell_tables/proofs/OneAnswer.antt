-- A grammar has a table or is refused, for one cause.
use Rattle.std.proofs.Common.{◌≡◌, ◌≢◌, ℕ, zero, suc, ◌<◌, ◌≤◌, inl, inr, Some, ap, refl, arith}
use Rattle.std.proofs.lemmas.Bool.{cases_eq, cases_lt}
use Rattle.ck_base.specs.Found.{HasNo}
use Rattle.cfg_model.specs.Cfg.{Cfg, IsGrammar}
use Rattle.cfg_model.specs.LlConflicts.{LlConflict, LlReport}
use Rattle.cfg_model.specs.LlTables.{NoneLeftRecursive}
use Rattle.cfg_model.specs.Searches.{IsLeast, IsUnproductive, LeftRecursive}
use Rattle.cfg_model.specs.Sets.{AllProductive, Productive, Reachable}
use Rattle.ell_tables.specs.Promise.{HasTable, IsRefused}
use Rattle.ell_tables.specs.declared.refusal.EllError.{EllError}
use Rattle.ell_tables.specs.declared.refusal.EllError.TheVariants as refused

-- of any numbers there is a least one
some_least : (P : ℕ → Type 0) (steps n : ℕ) → n ≤ steps → P n → HasNo (λ k. P k × ((j : ℕ) → P j → k ≤ j)) → ⊥
some_least P zero n near p none = none n (p, λ j q. omega arith)
some_least P (suc steps) n near p none = none n (
  p,
  λ j q. elim (cases_lt j n) [
    | inl less ↦ absurd (some_least P steps j (omega arith) q none)
    | inr more ↦ more
  ],
)

-- where none is the least one that derives no word, it can't be that not all derive one
all_productive : (g : Cfg) → HasNo (λ n. IsUnproductive g (Some n)) → (AllProductive g → ⊥) → ⊥
all_productive g none not_all = below g.nonterminals (omega arith) not_all
  where
    below : (k : ℕ) → k ≤ g.nonterminals → (((n : ℕ) → n < k → Productive g n) → ⊥) → ⊥
    below zero within not_below = not_below (λ n less. absurd (omega arith))
    below (suc k) within not_below = below k (omega arith) (λ all. none k (
      omega arith,
      λ derives. not_below (λ n less. elim (cases_eq n k) [ inl same ↦ rw same derives | inr other ↦ all n (omega arith) ]),
      all,
    ))

-- at most one nonterminal is the least one that derives no word
one_unproductive : (g : Cfg) (n m : ℕ) → IsUnproductive g (Some n) → IsUnproductive g (Some m) → n ≡ m
one_unproductive g n m (_, not_n, below_n) (_, not_m, below_m) = elim (cases_lt n m) [
  | inl less ↦ absurd (not_n (below_m n less))
  | inr not_less ↦ elim (cases_lt m n) [ inl less ↦ absurd (not_m (below_n m less)) | inr also ↦ omega arith ]
]

one_least : (P : ℕ → Type 0) (n m : ℕ) → IsLeast P (Some n) → IsLeast P (Some m) → n ≡ m
one_least P n m (is_n, least_n) (is_m, least_m) = (let up = least_n m is_m in let down = least_m n is_n in omega arith)

one_report : (g : Cfg) (n r q t m s p u : ℕ) → LlReport g n r q t → LlReport g m s p u → (n ≡ m) × (r ≡ s) × (q ≡ p) × (t ≡ u)
one_report g n r q t m s p u a b =
    let up = a.nonterminal m s p u b.conflict in
    let down = b.nonterminal n r q t a.conflict in
    let number : m ≡ n = omega arith in
    second (rw number at b) number
  where
    second : LlReport g n s p u → m ≡ n → (n ≡ m) × (r ≡ s) × (q ≡ p) × (t ≡ u)
    second b number =
        let up = a.first s p u b.conflict in
        let down = b.first r q t a.conflict in
        let rule : s ≡ r = omega arith in
        third (rw rule at b) rule
      where
        third : LlReport g n r p u → s ≡ r → (n ≡ m) × (r ≡ s) × (q ≡ p) × (t ≡ u)
        third b rule =
            let up = a.second p u b.conflict in
            let down = b.second q t a.conflict in
            let other : p ≡ q = omega arith in
            let same : LlReport g n r q u = rw other at b in
            let low = a.terminal u same.conflict in
            let high = same.terminal t a.conflict in
            (omega arith, omega arith, omega arith, omega arith)

-- a grammar is refused for one cause
pub one_refusal : (g : Cfg) (a b : EllError) → a ≢ refused.NoMemory → b ≢ refused.NoMemory → IsRefused g a → IsRefused g b → a ≡ b
one_refusal g (refused.Unproductive n) (refused.Unproductive m) _ _ x y = ap (λ k. refused.Unproductive k) (one_unproductive g n m x y)
one_refusal g (refused.Unproductive n) (refused.LeftRecursive m) _ _ x y = absurd (x.1 (y.0 n x.0))
one_refusal g (refused.Unproductive n) (refused.LlConflict m s p u) _ _ x y = absurd (x.1 (y.0 n x.0))
one_refusal g (refused.LeftRecursive n) (refused.Unproductive m) _ _ x y = absurd (y.1 (x.0 m y.0))
one_refusal g (refused.LeftRecursive n) (refused.LeftRecursive m) _ _ x y =
    ap (λ k. refused.LeftRecursive k) (one_least (λ k. Reachable g k × LeftRecursive g k) n m x.1 y.1)
one_refusal g (refused.LeftRecursive n) (refused.LlConflict m s p u) _ _ x y = absurd (y.1 n x.1.0.0 x.1.0.1)
one_refusal g (refused.LlConflict n r q t) (refused.Unproductive m) _ _ x y = absurd (y.1 (x.0 m y.0))
one_refusal g (refused.LlConflict n r q t) (refused.LeftRecursive m) _ _ x y = absurd (x.1 m y.1.0.0 y.1.0.1)
one_refusal g (refused.LlConflict n r q t) (refused.LlConflict m s p u) _ _ x y =
    let (a, b, c, d) = one_report g n r q t m s p u x.2 y.2 in
    cc
one_refusal g refused.NoMemory b differs _ x y = absurd (differs refl)
one_refusal g a refused.NoMemory _ differs x y = absurd (differs refl)

-- not beside a table
pub not_both : (g : Cfg) (e : EllError) → e ≢ refused.NoMemory → HasTable g → IsRefused g e → ⊥
not_both g (refused.Unproductive n) _ has x = x.1 (has.productive n x.0)
not_both g (refused.LeftRecursive n) _ has x = has.not_left_recursive n x.1.0.0 x.1.0.1
not_both g (refused.LlConflict n r q t) _ has x = has.no_conflict n r q t x.2.conflict
not_both g refused.NoMemory differs has x = differs refl

-- where there is a conflict, one of them is reported
some_report : (g : Cfg) (n r q t : ℕ) → LlConflict g n r q t → ((n r q t : ℕ) → LlReport g n r q t → ⊥) → ⊥
some_report g n r q t conflict none =
    some_least (λ n. (r : ℕ) × (q : ℕ) × (t : ℕ) × LlConflict g n r q t) n n (omega arith) (r, q, t, conflict) (λ n by_number.
    some_least (λ r. (q : ℕ) × (t : ℕ) × LlConflict g n r q t) by_number.0.0 by_number.0.0 (omega arith) (by_number.0.1, by_number.0.2, by_number.0.3) (λ r by_first.
    some_least (λ q. (t : ℕ) × LlConflict g n r q t) by_first.0.0 by_first.0.0 (omega arith) (by_first.0.1, by_first.0.2) (λ q by_second.
    some_least (λ t. LlConflict g n r q t) by_second.0.0 by_second.0.0 (omega arith) by_second.0.1 (λ t by_terminal.
    none n r q t (record {
      conflict = by_terminal.0;
      nonterminal = λ m s p u other. by_number.1 m (s, p, u, other);
      first = λ s p u other. by_first.1 s (p, u, other);
      second = λ p u other. by_second.1 p (u, other);
      terminal = λ u other. by_terminal.1 u other;
    })))))

-- and it can't be neither
pub table_or_refusal : (g : Cfg) → IsGrammar g → (HasTable g → ⊥) → ((e : EllError) → e ≢ refused.NoMemory → IsRefused g e → ⊥) → ⊥
table_or_refusal g ok no_table not_refused = all_productive g (λ n is. not_refused (refused.Unproductive n) (λ e. cc) is) (λ all.
    let recursive : NoneLeftRecursive g = λ n reachable is.
    some_least (λ m. Reachable g m × LeftRecursive g m) n n (omega arith) (reachable, is)
    (λ m least. not_refused (refused.LeftRecursive m) (λ e. cc) (all, least)) in
    no_table (record {
      grammar = ok;
      productive = all;
      not_left_recursive = recursive;
      no_conflict = λ n r q t conflict. some_report g n r q t conflict
          (λ m s p u report. not_refused (refused.LlConflict m s p u) (λ e. cc) (all, recursive, report));
    }))
