-- A grammar has a table or is refused, for one cause.
use Rattle.std.proofs.Common.{◌≡◌, ◌≢◌, ℕ, zero, suc, ◌<◌, ◌≤◌, inl, inr, Option, Some, None, ap, refl, sym, subst, arith}
use Rattle.std.proofs.lemmas.Bool.{cases_eq, cases_lt}
use Rattle.ck_base.specs.Found.{HasNo}
use Rattle.cfg_model.specs.Cfg.{Cfg, IsGrammar}
use Rattle.cfg_model.specs.Cores.{HasMoreCores}
use Rattle.cfg_model.specs.LalrConflicts.{LalrConflict, LalrReport, NotAfter}
use Rattle.cfg_model.specs.LrTables.{NoneCyclic, NoneHiddenLeft}
use Rattle.cfg_model.specs.Searches.{IsLeast, IsUnproductive, Cyclic, HiddenLeft}
use Rattle.cfg_model.specs.Sets.{AllProductive, Productive, Reachable}
use Rattle.cfg_model.specs.declared.refused.LalrError.{LalrError}
use Rattle.cfg_model.specs.declared.refused.LalrError.TheVariants as refused
use Rattle.lalr_tables.specs.Promise.{HasTable, IsRefused}

-- of any numbers there is a least one
some_least : (P : ℕ → Type 0) (steps n : ℕ) → n ≤ steps → P n → HasNo (λ k. P k × ((j : ℕ) → P j → k ≤ j)) → ⊥
some_least P zero n near p none = none n (p, λ j q. omega arith)
some_least P (suc steps) n near p none = none n (
  p,
  λ j q. elim (cases_lt j n) [
    | inl less ↦ absurd (some_least P steps j (omega arith) q none)
    | inr more ↦ more
  ],
)

-- where none is the least one that derives no word, it can't be that not all derive one
all_productive : (g : Cfg) → HasNo (λ n. IsUnproductive g (Some n)) → (AllProductive g → ⊥) → ⊥
all_productive g none not_all = below g.nonterminals (omega arith) not_all
  where
    below : (k : ℕ) → k ≤ g.nonterminals → (((n : ℕ) → n < k → Productive g n) → ⊥) → ⊥
    below zero within not_below = not_below (λ n less. absurd (omega arith))
    below (suc k) within not_below = below k (omega arith) (λ all. none k (
      omega arith,
      λ derives. not_below (λ n less. elim (cases_eq n k) [ inl same ↦ rw same derives | inr other ↦ all n (omega arith) ]),
      all,
    ))

-- at most one nonterminal is the least one that derives no word
one_unproductive : (g : Cfg) (n m : ℕ) → IsUnproductive g (Some n) → IsUnproductive g (Some m) → n ≡ m
one_unproductive g n m (_, not_n, below_n) (_, not_m, below_m) = elim (cases_lt n m) [
  | inl less ↦ absurd (not_n (below_m n less))
  | inr not_less ↦ elim (cases_lt m n) [ inl less ↦ absurd (not_m (below_n m less)) | inr also ↦ omega arith ]
]

one_least : (P : ℕ → Type 0) (n m : ℕ) → IsLeast P (Some n) → IsLeast P (Some m) → n ≡ m
one_least P n m (is_n, least_n) (is_m, least_m) = (let up = least_n m is_m in let down = least_m n is_n in omega arith)

same_other : (a b : Option ℕ) → NotAfter a b → NotAfter b a → a ≡ b
same_other None None x y = refl
same_other None (Some b) x y = absurd y
same_other (Some a) None x y = absurd x
same_other (Some a) (Some b) x y = ap (λ n. Some n) (omega (arith, x, y))

-- at most one conflict is reported
pub one_report : (g : Cfg) (t u r s : ℕ) (a b : Option ℕ) → LalrReport g t r a → LalrReport g u s b → (t ≡ u) × (r ≡ s) × (a ≡ b)
one_report g t u r s a b x y =
    let up = x.terminal u s b y.conflict in
    let down = y.terminal t r a x.conflict in
    let terminal : u ≡ t = omega (arith, up, down) in
    on_it (subst (λ k. LalrReport g k s b) terminal y) (sym terminal)
  where
    on_it : LalrReport g t s b → t ≡ u → (t ≡ u) × (r ≡ s) × (a ≡ b)
    on_it y same =
        let up = x.rule s b y.conflict in
        let down = y.rule r a x.conflict in
        let rule : s ≡ r = omega (arith, up, down) in
        beside (subst (λ k. LalrReport g t k b) rule y) (sym rule)
      where
        beside : LalrReport g t r b → r ≡ s → (t ≡ u) × (r ≡ s) × (a ≡ b)
        beside y also = (same, also, same_other a b (x.least b y.conflict) (y.least a x.conflict))

-- a grammar is refused for one cause
pub one_refusal : (g : Cfg) (a b : LalrError) → a ≢ refused.NoMemory → b ≢ refused.NoMemory → IsRefused g a → IsRefused g b → a ≡ b
one_refusal g (refused.Unproductive n) (refused.Unproductive m) _ _ x y = ap (λ k. refused.Unproductive k) (one_unproductive g n m x y)
one_refusal g (refused.Unproductive n) (refused.Cyclic m) _ _ x y = absurd (x.1 (y.0 n x.0))
one_refusal g (refused.Unproductive n) (refused.HiddenLeft m) _ _ x y = absurd (x.1 (y.0 n x.0))
one_refusal g (refused.Unproductive n) refused.TooManyStates _ _ x y = absurd (x.1 (y.0 n x.0))
one_refusal g (refused.Unproductive n) (refused.LalrConflict u s b) _ _ x y = absurd (x.1 (y.0 n x.0))
one_refusal g (refused.Cyclic n) (refused.Unproductive m) _ _ x y = absurd (y.1 (x.0 m y.0))
one_refusal g (refused.Cyclic n) (refused.Cyclic m) _ _ x y = ap (λ k. refused.Cyclic k) (one_least (λ k. Reachable g k × Cyclic g k) n m x.1 y.1)
one_refusal g (refused.Cyclic n) (refused.HiddenLeft m) _ _ x y = absurd (y.1 n x.1.0.0 x.1.0.1)
one_refusal g (refused.Cyclic n) refused.TooManyStates _ _ x y = absurd (y.1 n x.1.0.0 x.1.0.1)
one_refusal g (refused.Cyclic n) (refused.LalrConflict u s b) _ _ x y = absurd (y.1 n x.1.0.0 x.1.0.1)
one_refusal g (refused.HiddenLeft n) (refused.Unproductive m) _ _ x y = absurd (y.1 (x.0 m y.0))
one_refusal g (refused.HiddenLeft n) (refused.Cyclic m) _ _ x y = absurd (x.1 m y.1.0.0 y.1.0.1)
one_refusal g (refused.HiddenLeft n) (refused.HiddenLeft m) _ _ x y =
    ap (λ k. refused.HiddenLeft k) (one_least (λ k. Reachable g k × HiddenLeft g k) n m x.2 y.2)
one_refusal g (refused.HiddenLeft n) refused.TooManyStates _ _ x y = absurd (y.2 n x.2.0.0 x.2.0.1)
one_refusal g (refused.HiddenLeft n) (refused.LalrConflict u s b) _ _ x y = absurd (y.2 n x.2.0.0 x.2.0.1)
one_refusal g refused.TooManyStates (refused.Unproductive m) _ _ x y = absurd (y.1 (x.0 m y.0))
one_refusal g refused.TooManyStates (refused.Cyclic m) _ _ x y = absurd (x.1 m y.1.0.0 y.1.0.1)
one_refusal g refused.TooManyStates (refused.HiddenLeft m) _ _ x y = absurd (x.2 m y.2.0.0 y.2.0.1)
one_refusal g refused.TooManyStates refused.TooManyStates _ _ x y = refl
one_refusal g refused.TooManyStates (refused.LalrConflict u s b) _ _ x y = absurd (y.3 x.3)
one_refusal g (refused.LalrConflict t r a) (refused.Unproductive m) _ _ x y = absurd (y.1 (x.0 m y.0))
one_refusal g (refused.LalrConflict t r a) (refused.Cyclic m) _ _ x y = absurd (x.1 m y.1.0.0 y.1.0.1)
one_refusal g (refused.LalrConflict t r a) (refused.HiddenLeft m) _ _ x y = absurd (x.2 m y.2.0.0 y.2.0.1)
one_refusal g (refused.LalrConflict t r a) refused.TooManyStates _ _ x y = absurd (x.3 y.3)
one_refusal g (refused.LalrConflict t r a) (refused.LalrConflict u s b) _ _ x y =
    let (terminal, rule, other) = one_report g t u r s a b x.4 y.4 in
    cc
one_refusal g refused.NoMemory b differs _ x y = absurd (differs refl)
one_refusal g a refused.NoMemory _ differs x y = absurd (differs refl)

-- not beside a table
pub not_both : (g : Cfg) (e : LalrError) → e ≢ refused.NoMemory → HasTable g → IsRefused g e → ⊥
not_both g (refused.Unproductive n) _ has x = x.1 (has.accepted.productive n x.0)
not_both g (refused.Cyclic n) _ has x = has.accepted.not_cyclic n x.1.0.0 x.1.0.1
not_both g (refused.HiddenLeft n) _ has x = has.accepted.not_hidden_left n x.2.0.0 x.2.0.1
not_both g refused.TooManyStates _ has x = has.few x.3
not_both g (refused.LalrConflict t r o) _ has x = has.accepted.no_conflict t r o x.4.conflict
not_both g refused.NoMemory differs has x = differs refl

-- the place of what stands beside a rule in the order of reports
abbrev place_of : Option ℕ → ℕ
place_of None = 0
place_of (Some s) = suc s

not_after : (a b : Option ℕ) → place_of a ≤ place_of b → NotAfter a b
not_after None b le = tt
not_after (Some s) None le = absurd (omega arith)
not_after (Some s) (Some o) le = omega arith

-- where there is a conflict, one of them is reported
some_report : (g : Cfg) (t r : ℕ) (o : Option ℕ) → LalrConflict g t r o → ((t r : ℕ) (o : Option ℕ) → LalrReport g t r o → ⊥) → ⊥
some_report g t r o conflict none =
    some_least (λ t. (r : ℕ) × (o : Option ℕ) × LalrConflict g t r o) t t (omega arith) (r, o, conflict) (λ t by_terminal.
    some_least (λ r. (o : Option ℕ) × LalrConflict g t r o) by_terminal.0.0 by_terminal.0.0 (omega arith) (by_terminal.0.1, by_terminal.0.2) (λ r by_rule.
    some_least (λ k. (o : Option ℕ) × (place_of o ≡ k) × LalrConflict g t r o) (place_of by_rule.0.0) (place_of by_rule.0.0) (omega arith)
    (by_rule.0.0, refl, by_rule.0.1) (λ k beside.
    none t r beside.0.0 (record {
      conflict = beside.0.2;
      terminal = λ u s q other. by_terminal.1 u (s, q, other);
      rule = λ s q other. by_rule.1 s (q, other);
      least = λ q other. not_after beside.0.0 q (let le = beside.1 (place_of q) (q, refl, other) in let same = beside.0.1 in omega arith);
    }))))

-- and it can't be neither
pub table_or_refusal : (g : Cfg) → IsGrammar g → (HasTable g → ⊥) → ((e : LalrError) → e ≢ refused.NoMemory → IsRefused g e → ⊥) → ⊥
table_or_refusal g ok no_table not_refused = all_productive g (λ n is. not_refused (refused.Unproductive n) (λ e. cc) is) (λ all.
    let cyclic : NoneCyclic g = λ n reachable is.
    some_least (λ m. Reachable g m × Cyclic g m) n n (omega arith) (reachable, is)
    (λ m least. not_refused (refused.Cyclic m) (λ e. cc) (all, least)) in
    let hidden : NoneHiddenLeft g = λ n reachable is.
    some_least (λ m. Reachable g m × HiddenLeft g m) n n (omega arith) (reachable, is)
    (λ m least. not_refused (refused.HiddenLeft m) (λ e. cc) (all, cyclic, least)) in
    let few : HasMoreCores g 4096 → ⊥ = λ more. not_refused refused.TooManyStates (λ e. cc) (all, cyclic, hidden, more) in
    no_table (record {
      accepted = record {
        grammar = ok;
        productive = all;
        not_cyclic = cyclic;
        not_hidden_left = hidden;
        no_conflict = λ t r o conflict. some_report g t r o conflict
            (λ u s q report. not_refused (refused.LalrConflict u s q) (λ e. cc) (all, cyclic, hidden, few, report));
      };
      few = few;
    }))
