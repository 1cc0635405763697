-- Limits, derive steps, sets of numbers and searches, each on a case where the nearest wrong reading differs.
use Rattle.std.proofs.Common.{◌≡◌, ℕ, zero, suc, ◌+◌, ◌<◌, ◌≤◌, ◌⊎◌, inl, inr, List, [], ◌∷◌, ◌++◌, refl, sym, ap, subst, Some, None, length, slice_get, lit<, arith, All, ◌≢◌, ◌∙◌}
use Rattle.std.proofs.lemmas.List.Elements.{All-head}
use Rattle.std.proofs.lemmas.Option.{slice_get_within}
use Rattle.ck_base.specs.BitSet.{BitSet, Has}
use Rattle.cfg_model.specs.declared.symbol.Sym.{Sym}
use Rattle.cfg_model.specs.declared.symbol.Sym.TheVariants.{T, N}
use Rattle.cfg_model.specs.Cfg.{Cfg, Rule, IsRule, IsSymbol, IsGrammar}
use Rattle.cfg_model.specs.Steps.{Step, step, Steps, none, more, StepsOnce, word}
use Rattle.cfg_model.specs.Sets.{Productive}
use Rattle.cfg_model.specs.Searches.{Cyclic, HiddenLeft, LeftRecursive, IsLeast, IsUnproductive}
use Rattle.cfg_model.specs.Rows.{IsSetOf, AreRowsOf}
use Rattle.cfg_model.proofs.Makers.{both_empty}

abbrev pub as_rule : ℕ → List Sym → Rule
as_rule n w = record { left = n; right = w }

-- what holds of each rule that is written out, with its number, left side and right side, holds of all rules
abbrev pub OfEach : (ℕ → ℕ → List Sym → Type 0) → ℕ → List Rule → Type 0
OfEach P k [] = Unit {0}
OfEach P k (one ∷ rest) = P k one.left one.right × OfEach P (suc k) rest

at_place : (P : ℕ → ℕ → List Sym → Type 0) (k : ℕ) (rules : List Rule) → OfEach P k rules → (place r n : ℕ) (w : List Sym)
    → r ≡ place + k → slice_get rules place ≡ Some (as_rule n w) → P r n w
at_place P k [] all place r n w e read = absurd (let under = slice_get_within {A = Rule} [] place _ read in omega (arith, under))
at_place P k (one ∷ rest) all zero r n w e read =
    let same : one ≡ as_rule n w = cc in
    let first : k ≡ r = omega (arith, e) in
    subst (λ i. P i n w) first (subst (λ (a : Rule). P k a.left a.right) same all.0)
at_place P k (one ∷ rest) all (suc place) r n w e read = at_place P (suc k) rest all.1 place r n w (omega (arith, e)) read

pub by_rules : (g : Cfg) (P : ℕ → ℕ → List Sym → Type 0) → OfEach P 1 g.rules → (r n : ℕ) (w : List Sym) → IsRule g r n w → P r n w
by_rules g P all r n w is = at_place P 1 g.rules all is.place r n w is.from_one is.read

-- END counts as a symbol: with 510 terminals and 1 nonterminal there are 512, which are allowed, and one more isn't
abbrev sized : ℕ → Cfg
sized terminals = record { terminals = terminals; nonterminals = 1; start = 0; rules = [] }

symbols_512 : IsGrammar (sized 510)
symbols_512 = record {
  few_rules = omega arith;
  few_symbols = omega arith;
  start = omega arith;
  left = λ k d under. absurd (omega arith);
  right = λ k d under. absurd (omega arith);
}

symbols_513 : IsGrammar (sized 511) → ⊥
symbols_513 is = let few = is.few_symbols in omega (arith, few)

rules_1025 : (g : Cfg) → length g.rules ≡ 1025 → IsGrammar g → ⊥
rules_1025 g many is = let few = is.few_rules in omega (arith, few, many)

-- END, which is terminal 1 here, stands in no rule
abbrev with_end : Cfg
with_end = record { terminals = 1; nonterminals = 1; start = 0; rules = as_rule 0 (T 1 ∷ []) ∷ [] }

end_in_no_rule : IsGrammar with_end → ⊥
end_in_no_rule is =
    let all = All-head (λ (one : Rule). All (IsSymbol with_end) one.right) (as_rule 0 (T 1 ∷ [])) [] is.right in
    let below : 1 < 1 = All-head (IsSymbol with_end) (T 1) [] all in
    omega (arith, below)

-- L = L X, L = X
abbrev pub lists : Cfg
lists = record { terminals = 1; nonterminals = 1; start = 0; rules = as_rule 0 (N 0 ∷ T 0 ∷ []) ∷ as_rule 0 (T 0 ∷ []) ∷ [] }

pub longer : IsRule lists 1 0 (N 0 ∷ T 0 ∷ [])
longer = record { place = 0; from_one = refl; read = refl }

pub single : IsRule lists 2 0 (T 0 ∷ [])
single = record { place = 1; from_one = refl; read = refl }

-- a step may replace the second nonterminal while the first one stands
second_first : Step lists (N 0 ∷ N 0 ∷ []) (N 0 ∷ T 0 ∷ [])
second_first = step 2 0 (T 0 ∷ []) (N 0 ∷ []) [] single

-- a step replaces one nonterminal
abbrev pub pending : List Sym → ℕ
pending [] = 0
pending (T t ∷ u) = pending u
pending (N n ∷ u) = pending u + 1

pending_join : (u v : List Sym) → pending (u ++ v) ≡ pending u + pending v
pending_join [] v = omega arith
pending_join (T t ∷ u) v = pending_join u v
pending_join (N n ∷ u) v = let rest = pending_join u v in omega (arith, rest)

one_place : (g : Cfg) (u v : List Sym) → Step g u v → (1 ≤ pending u) × (pending u ≤ pending v + 1)
one_place g _ _ (step r n w x y is) =
    let before = pending_join x (N n ∷ y) in
    let after = pending_join x (w ++ y) in
    let own = pending_join w y in
    (omega (arith, before), omega (arith, before, after, own))

not_at_once : Step lists (N 0 ∷ N 0 ∷ []) (T 0 ∷ T 0 ∷ []) → ⊥
not_at_once s = let (some, most) = one_place lists (N 0 ∷ N 0 ∷ []) (T 0 ∷ T 0 ∷ []) s in omega (arith, most)

-- a list derives itself by no steps, which aren't one or more
unchanged : Steps lists (T 0 ∷ []) (T 0 ∷ [])
unchanged = none

pub stays : (g : Cfg) (u v : List Sym) → pending u ≡ 0 → Steps g u v → v ≡ u
stays g u _ free none = refl
stays g u _ free (more v w steps s) =
    let same = stays g u v free steps in
    let (some, most) = one_place g v w s in
    let free_v : pending v ≡ 0 = rw same free in
    absurd (omega (arith, some, free_v))

not_by_none : StepsOnce lists (T 0 ∷ []) (T 0 ∷ []) → ⊥
not_by_none (v, steps, s) =
    let same = stays lists (T 0 ∷ []) v refl steps in
    let (some, most) = one_place lists v (T 0 ∷ []) s in
    let free : pending v ≡ 0 = ap pending same in
    omega (arith, some, free)

-- the set of those numbers below 2 that are 0 has no others, and has room for 2 numbers
abbrev only_0 : BitSet
only_0 = record { size = 2; words = 1 ∷ [] }

abbrev both : BitSet
both = record { size = 2; words = 3 ∷ [] }

abbrev of_one : BitSet
of_one = record { size = 1; words = 1 ∷ [] }

set_of_0 : IsSetOf 2 (λ n. n ≡ 0) only_0
set_of_0 = record { size = refl; only = alone; all = λ n same. subst (Has only_0) (sym same) (lit< tt, λ none. cc) }
  where
    alone : (n : ℕ) → Has only_0 n → n ≡ 0
    alone zero has = refl
    alone (suc zero) has = absurd (has.1 refl)
    alone (suc (suc n)) has = absurd (let below = has.0 in omega (arith, below))

no_other : IsSetOf 2 (λ n. n ≡ 0) both → ⊥
no_other is = let same : 1 ≡ 0 = is.only 1 (lit< tt, λ none. cc) in omega (arith, same)

none_missing : IsSetOf 2 (λ n. n < 2) only_0 → ⊥
none_missing is = (is.all 1 (lit< tt)).1 refl

room_for_2 : IsSetOf 2 (λ n. n ≡ 0) of_one → ⊥
room_for_2 is = let same : 1 ≡ 2 = is.size in omega (arith, same)

-- each row has its own numbers
no_other_row : AreRowsOf 2 2 (λ n t. (n ≡ 0) × (t ≡ 0)) (only_0 ∷ only_0 ∷ []) → ⊥
no_other_row are = let same : 1 ≡ 0 = (are.only 1 0 (lit< tt, λ none. cc)).0 in omega (arith, same)

-- S = X; U and V have no rule and are unreachable: U, the least one, is reported
abbrev idle : Cfg
idle = record { terminals = 1; nonterminals = 3; start = 0; rules = as_rule 0 (T 0 ∷ []) ∷ [] }

of_s : (r n : ℕ) (w : List Sym) → IsRule idle r n w → n ≡ 0
of_s r n w is = by_rules idle (λ r n w. n ≡ 0) (refl, tt) r n w is

still : (n : ℕ) (u v : List Sym) → n ≢ 0 → u ≡ N n ∷ [] → Step idle u v → ⊥
still k _ _ other same (step r n w [] y is) =
    let zero_is = of_s r n w is in
    let first : N n ≡ N k = cc in
    let both : n ≡ k = cc in
    other (sym both ∙ zero_is)
still k _ _ other same (step r n w (s ∷ x) y is) =
    let none_left : x ++ (N n ∷ y) ≡ [] = cc in
    let two : N n ∷ y ≡ [] = (both_empty x (N n ∷ y) none_left).1 in
    cc

stands : (n : ℕ) (v : List Sym) → n ≢ 0 → Steps idle (N n ∷ []) v → v ≡ N n ∷ []
stands n _ other none = refl
stands n _ other (more v w steps s) = absurd (still n v w other (stands n v other steps) s)

no_word : (n : ℕ) → n ≢ 0 → Productive idle n → ⊥
no_word n other ([], steps) = let same = stands n [] other steps in cc
no_word n other (t ∷ w, steps) = let same = stands n (T t ∷ word w) other steps in cc

s_derives_x : Productive idle 0
s_derives_x = (0 ∷ [], more _ _ none (step 1 0 (T 0 ∷ []) [] [] (record { place = 0; from_one = refl; read = refl })))

u_counts : IsUnproductive idle (Some 1)
u_counts = (omega arith, no_word 1 (λ e. omega (arith, e)), λ m under. (let same : m ≡ 0 = omega arith in subst (Productive idle) (sym same) s_derives_x))

v_is_second : IsUnproductive idle (Some 2) → ⊥
v_is_second is = no_word 1 (λ e. omega (arith, e)) (is.2 1 (lit< tt))

not_all : IsUnproductive idle None → ⊥
not_all all = no_word 1 (λ e. omega (arith, e)) (all 1 (lit< tt))

-- of two numbers the least is found
least_of_two : IsLeast (λ n. (n ≡ 3) ⊎ (n ≡ 5)) (Some 3)
least_of_two = (inl refl, λ m is. elim is [ inl same ↦ omega (arith, same) | inr same ↦ omega (arith, same) ])

not_any : IsLeast (λ n. (n ≡ 3) ⊎ (n ≡ 5)) (Some 5) → ⊥
not_any is = let most = is.1 3 (inl refl) in omega (arith, most)

-- U derives itself by no steps, which is no cycle
no_cycle : Cyclic idle 1 → ⊥
no_cycle (v, steps, s) = still 1 v _ (λ e. omega (arith, e)) (stands 1 v (λ e. omega (arith, e)) steps) s

-- in L = L X nothing stands before L: it is left recursive, and not hidden
pub left_at_once : LeftRecursive lists 0
left_at_once = ([], T 0 ∷ [], none, (N 0 ∷ [], none, step 1 0 (N 0 ∷ T 0 ∷ []) [] [] longer))

not_empty_right : (r n : ℕ) (w : List Sym) → IsRule lists r n w → w ≡ [] → ⊥
not_empty_right r n w is none_is = by_rules lists (λ r n w. w ≡ [] → ⊥) ((λ e. cc), ((λ e. cc), tt)) r n w is none_is

nothing_vanishes : (u v : List Sym) → Steps lists u v → v ≡ [] → u ≡ []
nothing_vanishes u _ none same = same
nothing_vanishes u _ (more v w steps s) same = absurd (kept v w s same)
  where
    kept : (v w : List Sym) → Step lists v w → w ≡ [] → ⊥
    kept _ _ (step r n z x y is) none_is =
        not_empty_right r n z is (both_empty z y (both_empty x (z ++ y) none_is).1).0

not_hidden : HiddenLeft lists 0 → ⊥
not_hidden (x, y, some, vanish, steps) = some (nothing_vanishes x [] vanish refl)
