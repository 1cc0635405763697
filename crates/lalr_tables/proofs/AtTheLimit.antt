-- The grammar S = X .. X with 4,094 times X has a table, which has as many cores as there may be; with
-- one X more it has none.
use Rattle.std.proofs.Common.{◌≡◌, ◌≢◌, ℕ, suc, ◌<◌, ◌⊎◌, inl, inr, List, [], ◌∷◌, ◌++◌, Option, None, Some, All, drop, refl, sym, ap₂, subst, append-nil, ◌∙◌, arith}
use Rattle.std.proofs.lemmas.Bool.{cases_lt}
use Rattle.std.proofs.lemmas.List.Elements.{All-nil, All-cons}
use Rattle.std.proofs.lemmas.Option.{slice_get_within}
use Rattle.cfg_model.specs.declared.symbol.Sym.{Sym}
use Rattle.cfg_model.specs.declared.symbol.Sym.TheVariants.{T, N}
use Rattle.cfg_model.specs.Cfg.{Rule, IsRule, IsSymbol, IsGrammar}
use Rattle.cfg_model.specs.Items.{right_of}
use Rattle.cfg_model.specs.LalrConflicts.{LalrConflict}
use Rattle.cfg_model.specs.LrTables.{IsLr}
use Rattle.cfg_model.specs.Sets.{Productive, AllProductive}
use Rattle.cfg_model.specs.Steps.{Step, step, Steps, none, more, StepsOnce, word}
use Rattle.cfg_model.specs.Valid.{Valid}
use Rattle.cfg_model.proofs.CoreNumbers.{right_is, rest_is}
use Rattle.cfg_model.proofs.Locate.{not_empty}
use Rattle.cfg_model.proofs.RuleZero.{zero_prefix}
use Rattle.lalr_look.proofs.LongRule.{xs, run_of, the_rule, same_count, drop_xs, no_s, placed, no_more_cores, more_cores}
use Rattle.lalr_tables.specs.Promise.{HasTable}

-- each symbol of the list is X
abbrev AreX : List Sym → Type 0
AreX l = (d : ℕ) (x : Sym) (y : List Sym) → drop d l ≡ x ∷ y → x ≡ T 0

all_x : (n : ℕ) → AreX (xs n)
all_x n d x y e = (drop_xs d n x y e).0

are_symbols : (n : ℕ) (l : List Sym) → AreX l → All (IsSymbol (run_of n)) l
are_symbols n [] each = All-nil (IsSymbol (run_of n))
are_symbols n (x ∷ l) each =
    let is : IsSymbol (run_of n) x = subst (λ s. IsSymbol (run_of n) s) (sym (each 0 x l refl)) (omega arith) in
    All-cons (IsSymbol (run_of n)) x l is (are_symbols n l (λ d. each (suc d)))

abbrev rule_of : ℕ → Rule
rule_of n = record { left = 0; right = xs n }

in_ranges : (n : ℕ) → IsGrammar (run_of n)
in_ranges n = record {
  few_rules = omega arith;
  few_symbols = omega arith;
  start = omega arith;
  left = All-cons (λ (rule : Rule). rule.left < 1) (rule_of n) [] (omega arith) (All-nil (λ (rule : Rule). rule.left < 1));
  right = All-cons (λ (rule : Rule). All (IsSymbol (run_of n)) rule.right) (rule_of n) [] (are_symbols n (xs n) (all_x n))
      (All-nil (λ (rule : Rule). All (IsSymbol (run_of n)) rule.right));
}

as_word : (l : List Sym) → AreX l → (w : List ℕ) × (l ≡ word w)
as_word [] each = ([], refl)
as_word (x ∷ l) each =
    let (w, same) = as_word l (λ d. each (suc d)) in
    (0 ∷ w, ap₂ (λ s k. s ∷ k) (each 0 x l refl) same)

-- S derives the X's
all_productive : (n : ℕ) → AllProductive (run_of n)
all_productive n m below =
    let zero_is : 0 ≡ m = omega (arith, below) in
    let (w, same) = as_word (xs n) (all_x n) in
    let steps = more (N 0 ∷ []) (xs n ++ []) none (step 1 0 (xs n) [] [] (the_rule n)) in
    subst (λ k. Productive (run_of n) k) zero_is (w, subst (λ l. Steps (run_of n) (N 0 ∷ []) l) (append-nil (xs n) ∙ same) steps)

no_name : (x : List Sym) (m : ℕ) (y : List Sym) → AreX (x ++ (N m ∷ y)) → ⊥
no_name [] m y each = (let same : N m ≡ T 0 = each 0 (N m) y refl in cc)
no_name (s ∷ x) m y each = no_name x m y (λ d. each (suc d))

right_side : (n r m : ℕ) (w : List Sym) → IsRule (run_of n) r m w → w ≡ xs n
right_side n r m w is =
    let low = slice_get_within (run_of n).rules is.place _ is.read in
    let from = is.from_one in
    let first : r ≡ 1 = omega (arith, low, from) in
    sym (subst (λ k. right_of (run_of n) k ≡ w) first (right_is (run_of n) r m w is))

alone : (x : List Sym) (k : ℕ) (y : List Sym) (m : ℕ) → x ++ (N k ∷ y) ≡ N m ∷ [] → (x ≡ []) × (y ≡ [])
alone [] k y m e = (refl, cc)
alone (s ∷ x) k y m e = absurd (let rest : [] ≡ x ++ (N k ∷ y) = cc in not_empty x (N k) y rest)

-- the X's come of a nonterminal in one step, and nothing comes of them
after_step : (n m : ℕ) (v w : List Sym) → Step (run_of n) v w → (v ≡ N m ∷ []) ⊎ (v ≡ xs n) → w ≡ xs n
after_step n m _ _ (step r k w x y is) (inl one) =
    let (first, last) = alone x k y m one in
    ap₂ (λ p q. p ++ (w ++ q)) first last ∙ (append-nil w ∙ right_side n r k w is)
after_step n m _ _ (step r k w x y is) (inr all) = absurd (no_name x k y (subst AreX (sym all) (all_x n)))

after_steps : (n m : ℕ) (v : List Sym) → Steps (run_of n) (N m ∷ []) v → (v ≡ N m ∷ []) ⊎ (v ≡ xs n)
after_steps n m _ none = inl refl
after_steps n m _ (more v w steps last) = inr (after_step n m v w last (after_steps n m v steps))

-- so no nonterminal stands in what it derives
no_return : (n m : ℕ) (x y : List Sym) → StepsOnce (run_of n) (N m ∷ []) (x ++ (N m ∷ y)) → ⊥
no_return n m x y (v, steps, last) =
    let all = after_step n m v (x ++ (N m ∷ y)) last (after_steps n m v steps) in
    no_name x m y (subst AreX (sym all) (all_x n))

-- where S isn't to come, an item stands behind S or behind the X's before its dot
abbrev Stands : ℕ → List Sym → ℕ → ℕ → List Sym → Type 0
Stands n p r d y = ((r ≡ 0) × (p ≡ N 0 ∷ []) × (y ≡ [])) ⊎ ((r ≡ 1) × (p ≡ xs d))

behind_s : (p y : List Sym) → y ≢ N 0 ∷ [] → ((p ≡ []) × (y ≡ N 0 ∷ [])) ⊎ ((p ≡ N 0 ∷ []) × (y ≡ [])) → (p ≡ N 0 ∷ []) × (y ≡ [])
behind_s p y read (inl (_, to_come)) = absurd (read to_come)
behind_s p y read (inr whole) = whole

stands : (n : ℕ) (p : List Sym) (r d : ℕ) (y : List Sym) (a : ℕ) → Valid (run_of n) p r d y a → y ≢ N 0 ∷ [] → Stands n p r d y
stands n p r d y a v read = elim (cases_lt 0 r) [
  | inl some ↦ (let (first, _, prefix) = placed n p r d y a v (omega (arith, some)) in inr (first, prefix))
  | inr none_is ↦ (let zero_is : r ≡ 0 = omega (arith, none_is) in
      let places = (zero_prefix (run_of n) p d y a (subst (λ k. Valid (run_of n) p k d y a) zero_is v)).1 in
      let (prefix, ends) = behind_s p y read places in
      inl (zero_is, prefix, ends))
]

-- and of two in one core both have one rule and one rest
one_item : (n : ℕ) (p : List Sym) (r d : ℕ) (y : List Sym) (a s e : ℕ) (z : List Sym) (b : ℕ) → Valid (run_of n) p r d y a
    → Valid (run_of n) p s e z b → Stands n p r d y → Stands n p s e z → (r ≡ s) × (y ≡ z)
one_item n p r d y a s e z b v w (inl (i, _, j)) (inl (k, _, l)) = (i ∙ sym k, j ∙ sym l)
one_item n p r d y a s e z b v w (inl (_, i, _)) (inr (_, k)) = absurd (no_s 0 e (sym i ∙ k))
one_item n p r d y a s e z b v w (inr (_, i)) (inl (_, k, _)) = absurd (no_s 0 d (sym k ∙ i))
one_item n p r d y a s e z b v w (inr (i, j)) (inr (k, l)) =
    let rule : s ≡ r = k ∙ sym i in
    let dot = same_count e d (sym l ∙ j) in
    let moved = subst (λ o. Valid (run_of n) p r o z b) dot (subst (λ o. Valid (run_of n) p o e z b) rule w) in
    (sym rule, rest_is (run_of n) p p r d y z a b v moved)

no_conflict : (n t r : ℕ) (other : Option ℕ) → LalrConflict (run_of n) t r other → ⊥
no_conflict n t r None (p, (d, (_, same, complete)), (s, e, y, (b, w))) =
    let (a, v) = (same r d []).1 (t, complete) in
    let (_, one) = one_item n p r d [] a s e (T t ∷ y) b v w (stands n p r d [] a v (λ x. cc)) (stands n p s e (T t ∷ y) b w (λ x. cc)) in
    cc
no_conflict n t r (Some s) (p, (d, (_, same, complete)), (e, (_, also, second)), differ) =
    let (a, v) = (same r d []).1 (t, complete) in
    let (b, w) = (also s e []).1 (t, second) in
    differ (one_item n p r d [] a s e [] b v w (stands n p r d [] a v (λ x. cc)) (stands n p s e [] b w (λ x. cc))).0

is_lr : (n : ℕ) → IsLr (run_of n)
is_lr n = record {
  grammar = in_ranges n;
  productive = all_productive n;
  not_cyclic = λ m _ cyclic. no_return n m [] [] cyclic;
  not_hidden_left = λ m _ hidden. (let (x, y, _, _, steps) = hidden in no_return n m x y steps);
  no_conflict = no_conflict n;
}

-- 4,096 cores aren't too many for a table; one more is
table_at_the_limit : HasTable (run_of 4094)
table_at_the_limit = record { accepted = is_lr 4094; few = no_more_cores 4094 }

no_table_past_it : HasTable (run_of 4095) → ⊥
no_table_past_it has = has.few (more_cores 4095)
