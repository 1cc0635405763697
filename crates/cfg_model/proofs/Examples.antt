-- The definitions, each on a small grammar where a wrong reading would differ.
use Rattle.std.proofs.Common.{◌≡◌, ℕ, zero, suc, inl, inr, List, [], ◌∷◌, ◌++◌, refl, sym, ap, subst, Some, slice_get, arith}
use Rattle.std.proofs.lemmas.Option.{slice_get_within}
use Rattle.cfg_model.specs.declared.symbol.Sym.{Sym}
use Rattle.cfg_model.specs.declared.symbol.Sym.TheVariants.{T, N}
use Rattle.cfg_model.specs.Cfg.{Cfg, Rule, IsRule}
use Rattle.cfg_model.specs.Steps.{step, Steps, none, more}
use Rattle.cfg_model.specs.Sets.{Follow}
use Rattle.cfg_model.specs.Searches.{Cyclic, HiddenLeft, LeftRecursive}
use Rattle.cfg_model.specs.LlConflicts.{Predicts, LlConflict}
use Rattle.cfg_model.specs.Derivation.{Forest, empty, leaf, node, yield, shift, reduce, postorder, Derive, nothing, token, rule, Derivation, Gives, IsSentence, IsViable}
use Rattle.cfg_model.proofs.Makers.{both_empty}

-- L = X M, M = X M, M =
abbrev pub rights : Cfg
rights = record {
  terminals = 1;
  nonterminals = 2;
  start = 0;
  rules = record { left = 0; right = T 0 ∷ N 1 ∷ [] } ∷ record { left = 1; right = T 0 ∷ N 1 ∷ [] } ∷ record { left = 1; right = [] } ∷ [];
}

rule_a : IsRule rights 1 0 (T 0 ∷ N 1 ∷ [])
rule_a = record { place = 0; from_one = refl; read = refl }

rule_b : IsRule rights 2 1 (T 0 ∷ N 1 ∷ [])
rule_b = record { place = 1; from_one = refl; read = refl }

pub rule_c : IsRule rights 3 1 []
rule_c = record { place = 2; from_one = refl; read = refl }

-- the derivation of xx, and its steps: rule 3 is done before rule 2, and rule 1 last
abbrev pub of_xx : Forest ℕ
of_xx = node 1 (leaf 0 (node 2 (leaf 0 (node 3 empty empty)) empty)) empty

pub xx_is : Derivation (λ t. t) rights (0 ∷ 0 ∷ []) of_xx
xx_is = record {
  from_start = rule 1 0 _ [] _ empty rule_a
      (token 0 0 _ _ refl (rule 2 1 _ [] _ empty rule_b (token 0 0 _ _ refl (rule 3 1 _ [] empty empty rule_c nothing nothing)) nothing)) nothing;
  yields = refl;
}

xx_steps : postorder of_xx ≡ shift 0 ∷ shift 0 ∷ reduce 3 ∷ reduce 2 ∷ reduce 1 ∷ []
xx_steps = refl

-- END follows M, and begins nothing
end_follows : Follow rights 1 1
end_follows = (T 0 ∷ [], [], more _ _ none (step 1 0 (T 0 ∷ N 1 ∷ []) [] (T 1 ∷ []) rule_a))

pub for_end : Predicts rights 1 1 3
for_end = record { right = []; is_rule = rule_c; for_terminal = inr (none, end_follows) }

-- S = A S, S = X, A =: S derives itself and is left recursive behind what vanishes
abbrev pub hides : Cfg
hides = record {
  terminals = 1;
  nonterminals = 2;
  start = 0;
  rules = record { left = 0; right = N 1 ∷ N 0 ∷ [] } ∷ record { left = 0; right = T 0 ∷ [] } ∷ record { left = 1; right = [] } ∷ [];
}

first_rule : IsRule hides 1 0 (N 1 ∷ N 0 ∷ [])
first_rule = record { place = 0; from_one = refl; read = refl }

empty_rule : IsRule hides 3 1 []
empty_rule = record { place = 2; from_one = refl; read = refl }

cycle : Cyclic hides 0
cycle = (N 1 ∷ N 0 ∷ [], more _ _ none (step 1 0 (N 1 ∷ N 0 ∷ []) [] [] first_rule), step 3 1 [] [] (N 0 ∷ []) empty_rule)

hidden : HiddenLeft hides 0
hidden = (N 1 ∷ [], [], (λ e. cc), more _ _ none (step 3 1 [] [] [] empty_rule), (N 0 ∷ [], none, step 1 0 (N 1 ∷ N 0 ∷ []) [] [] first_rule))

pub left : LeftRecursive hides 0
left = (N 1 ∷ [], [], more _ _ none (step 3 1 [] [] [] empty_rule), (N 0 ∷ [], none, step 1 0 (N 1 ∷ N 0 ∷ []) [] [] first_rule))

-- S = X, U = S Y with U unreachable: Y doesn't follow S
abbrev pub apart : Cfg
apart = record {
  terminals = 2;
  nonterminals = 2;
  start = 0;
  rules = record { left = 0; right = T 0 ∷ [] } ∷ record { left = 1; right = N 0 ∷ T 1 ∷ [] } ∷ [];
}

abbrev as_rule : ℕ → List Sym → Rule
as_rule n w = record { left = n; right = w }

-- every rule of L begins with X, so the empty list is viable and no sentence
rule_of_l : (place : ℕ) (w : List Sym) → slice_get rights.rules place ≡ Some (record { left = 0; right = w }) → w ≡ T 0 ∷ N 1 ∷ []
rule_of_l zero w read =
    let same : as_rule 0 (T 0 ∷ N 1 ∷ []) ≡ as_rule 0 w = cc in
    sym (ap (λ (r : Rule). r.right) same)
rule_of_l (suc zero) w read =
    let same : as_rule 1 (T 0 ∷ N 1 ∷ []) ≡ as_rule 0 w = cc in
    absurd (let e : 1 ≡ 0 = ap (λ (r : Rule). r.left) same in omega arith)
rule_of_l (suc (suc zero)) w read =
    let same : as_rule 1 ([]) ≡ as_rule 0 w = cc in
    absurd (let e : 1 ≡ 0 = ap (λ (r : Rule). r.left) same in omega arith)
rule_of_l (suc (suc (suc place))) w read = absurd (let lt = slice_get_within {A = Rule} [] place _ read in omega arith)

pub none_viable : IsViable rights []
none_viable = (0 ∷ 0 ∷ [], (of_xx, xx_is))

begins_with_x : (u w : List Sym) (f : Forest ℕ) → u ≡ T 0 ∷ w → Derive (λ t. t) rights u f → yield f ≡ [] → ⊥
begins_with_x _ w _ same nothing none_is = cc
begins_with_x _ w _ same (token t k u f is d) none_is = cc
begins_with_x _ w _ same (rule r n v u children f is c d) none_is = cc

pub none_no_sentence : IsSentence rights [] → ⊥
none_no_sentence (f, d) = by_rule (N 0 ∷ []) f refl d.from_start (sym d.yields)
  where
    by_rule : (u : List Sym) (f : Forest ℕ) → u ≡ N 0 ∷ [] → Derive (λ t. t) rights u f → yield f ≡ [] → ⊥
    by_rule _ _ same nothing none_is = cc
    by_rule _ _ same (token t k u f is d) none_is = cc
    by_rule _ _ same (rule r n w u children f is c d) none_is =
        let zero_is : n ≡ 0 = cc in
        let read = is.read in
        let right : w ≡ T 0 ∷ N 1 ∷ [] = rule_of_l is.place w (rw zero_is at read) in
        begins_with_x w (N 1 ∷ []) children right c (both_empty (yield children) (yield f) none_is).0

-- L gives xx, and not the empty word, to which no tree from it comes
xx_given : Gives rights (N 0 ∷ []) (0 ∷ 0 ∷ [])
xx_given = record { forest = of_xx; derive = xx_is.from_start; yields = xx_is.yields }

none_not_given : Gives rights (N 0 ∷ []) [] → ⊥
none_not_given is = none_no_sentence (is.forest, record { from_start = is.derive; yields = is.yields })

-- in S = X, U = S Y no sentential form has Y or U, so Y doesn't follow S though a rule has it there
abbrev pub Clean : List Sym → Type 0
Clean [] = Unit {0}
Clean (T t ∷ u) = (t ≡ 1 → ⊥) × Clean u
Clean (N n ∷ u) = (n ≡ 0) × Clean u

pub clean_after : (x w y : List Sym) (n : ℕ) → Clean w → Clean (x ++ (N n ∷ y)) → Clean (x ++ (w ++ y))
clean_after [] [] y n clean all = all.1
clean_after [] (T t ∷ w) y n clean all = (clean.0, clean_after [] w y n clean.1 all)
clean_after [] (N m ∷ w) y n clean all = (clean.0, clean_after [] w y n clean.1 all)
clean_after (T t ∷ x) w y n clean all = (all.0, clean_after x w y n clean all.1)
clean_after (N m ∷ x) w y n clean all = (all.0, clean_after x w y n clean all.1)

pub clean_there : (x y : List Sym) (n : ℕ) → Clean (x ++ (N n ∷ y)) → (n ≡ 0) × Clean y
clean_there [] y n all = all
clean_there (T t ∷ x) y n all = clean_there x y n all.1
clean_there (N m ∷ x) y n all = clean_there x y n all.1

pub clean_rule : (place : ℕ) (w : List Sym) → slice_get apart.rules place ≡ Some (record { left = 0; right = w }) → Clean w
clean_rule zero w read =
    let same : as_rule 0 (T 0 ∷ []) ≡ as_rule 0 w = cc in
    subst Clean (ap (λ (r : Rule). r.right) same) ((λ e. cc), tt)
clean_rule (suc zero) w read =
    let same : as_rule 1 (N 0 ∷ T 1 ∷ []) ≡ as_rule 0 w = cc in
    absurd (let e : 1 ≡ 0 = ap (λ (r : Rule). r.left) same in omega arith)
clean_rule (suc (suc place)) w read = absurd (let lt = slice_get_within {A = Rule} [] place _ read in omega arith)

all_clean : (v : List Sym) → Steps apart (N 0 ∷ T 2 ∷ []) v → Clean v
all_clean _ none = (refl, ((λ e. cc), tt))
all_clean _ (more _ _ steps (step r n w x y is)) =
    let before = all_clean (x ++ (N n ∷ y)) steps in
    let zero_is = (clean_there x y n before).0 in
    let read = is.read in
    clean_after x w y n (clean_rule is.place w (rw zero_is at read)) before

y_does_not_follow : Follow apart 0 1 → ⊥
y_does_not_follow (x, y, steps) = (clean_there x (T 1 ∷ y) 0 (all_clean (x ++ (N 0 ∷ T 1 ∷ y)) steps)).1.0 refl

-- S = A X, A = X, A =: the two rules of A are for X, the second one by FOLLOW alone
abbrev clashes : Cfg
clashes = record {
  terminals = 1;
  nonterminals = 2;
  start = 0;
  rules = record { left = 0; right = N 1 ∷ T 0 ∷ [] } ∷ record { left = 1; right = T 0 ∷ [] } ∷ record { left = 1; right = [] } ∷ [];
}

with_tail : IsRule clashes 1 0 (N 1 ∷ T 0 ∷ [])
with_tail = record { place = 0; from_one = refl; read = refl }

conflict_by_follow : LlConflict clashes 1 2 3 0
conflict_by_follow = record {
  reachable = ([], T 0 ∷ [], more _ _ none (step 1 0 (N 1 ∷ T 0 ∷ []) [] [] with_tail));
  first = record { right = T 0 ∷ []; is_rule = record { place = 1; from_one = refl; read = refl }; for_terminal = inl ([], none) };
  second = record {
    right = [];
    is_rule = record { place = 2; from_one = refl; read = refl };
    for_terminal = inr (none, ([], T 1 ∷ [], more _ _ none (step 1 0 (N 1 ∷ T 0 ∷ []) [] (T 1 ∷ []) with_tail)));
  };
  in_order = omega arith;
}
