-- Steps in postorder, replayed on a stack of trees, give the trees again.
use Rattle.std.proofs.Common.{◌≡◌, ℕ, zero, suc, ◌+◌, ◌-◌, List, [], ◌∷◌, ◌++◌, length, refl, sym, ap, ap₂, append_assoc, ◌∙◌, arith, slice_get, Option, Some, None}
use Rattle.cfg_model.specs.declared.symbol.Sym.{Sym}
use Rattle.cfg_model.specs.Cfg.{Cfg, Rule, IsRule}
use Rattle.cfg_model.specs.Derivation.{Forest, empty, leaf, node, Move, shift, reduce, postorder, Derive, nothing, token, rule}
use Rattle.cfg_model.proofs.Forests.{beside}
use Rattle.parse_driver.proofs.StackNumber.{trees, tipped}

-- the last k trees of a stack, in their order, in front of others
abbrev pub taken : {K : Type 0} → ℕ → Forest K → Forest K → Forest K
taken zero st acc = acc
taken (suc k) empty acc = acc
taken (suc k) (leaf t st) acc = taken k st (leaf t acc)
taken (suc k) (node r c st) acc = taken k st (node r c acc)

-- the stack without its last k trees
abbrev pub below : {K : Type 0} → ℕ → Forest K → Forest K
below zero st = st
below (suc k) empty = empty
below (suc k) (leaf t st) = below k st
below (suc k) (node r c st) = below k st

-- how many symbols a rule's right side has
abbrev pub size_of : Option Rule → ℕ
size_of None = 0
size_of (Some one) = length one.right

abbrev pub rule_size : Cfg → ℕ → ℕ
rule_size g r = size_of (slice_get g.rules (r - 1))

abbrev pub replay : {K : Type 0} → Cfg → List (Move K) → Forest K → Forest K
replay g [] st = st
replay g (shift k ∷ ps) st = replay g ps (leaf k st)
replay g (reduce r ∷ ps) st = replay g ps (node r (taken (rule_size g r) st empty) (below (rule_size g r) st))

pub rule_size_is : (g : Cfg) (r n : ℕ) (w : List Sym) → IsRule g r n w → rule_size g r ≡ length w
rule_size_is g r n w is =
    let first = is.from_one in
    let place : r - 1 ≡ is.place = omega (arith, first) in
    ap (λ i. size_of (slice_get g.rules i)) place ∙ ap size_of is.read

pub taken_tipped : {K : Type 0} (f st acc : Forest K) (j : ℕ) → taken (trees f + j) (tipped f st) acc ≡ taken j st (beside f acc)
taken_tipped empty st acc j = let e : 0 + j ≡ j = omega arith in ap (λ i. taken i st acc) e
taken_tipped (leaf k f) st acc j =
    let e : suc (trees f) + j ≡ trees f + suc j = omega arith in
    ap (λ i. taken i (tipped f (leaf k st)) acc) e ∙ taken_tipped f (leaf k st) acc (suc j)
taken_tipped (node r c f) st acc j =
    let e : suc (trees f) + j ≡ trees f + suc j = omega arith in
    ap (λ i. taken i (tipped f (node r c st)) acc) e ∙ taken_tipped f (node r c st) acc (suc j)

pub below_tipped : {K : Type 0} (f st : Forest K) (j : ℕ) → below (trees f + j) (tipped f st) ≡ below j st
below_tipped empty st j = let e : 0 + j ≡ j = omega arith in ap (λ i. below i st) e
below_tipped (leaf k f) st j =
    let e : suc (trees f) + j ≡ trees f + suc j = omega arith in
    ap (λ i. below i (tipped f (leaf k st))) e ∙ below_tipped f (leaf k st) (suc j)
below_tipped (node r c f) st j =
    let e : suc (trees f) + j ≡ trees f + suc j = omega arith in
    ap (λ i. below i (tipped f (node r c st))) e ∙ below_tipped f (node r c st) (suc j)

pub trees_of : {K : Type 0} (terminal : K → ℕ) (g : Cfg) (ss : List Sym) (f : Forest K) → Derive terminal g ss f → trees f ≡ length ss
trees_of terminal g ss f nothing = refl
trees_of terminal g ss f (token t k u f2 is d) = ap suc (trees_of terminal g u f2 d)
trees_of terminal g ss f (rule r n w u c f2 is dc d) = ap suc (trees_of terminal g u f2 d)

pub beside_empty : {K : Type 0} (f : Forest K) → beside f empty ≡ f
beside_empty empty = refl
beside_empty (leaf k f) = ap (λ h. leaf k h) (beside_empty f)
beside_empty (node r c f) = ap (λ h. node r c h) (beside_empty f)

-- a right side's trees, put onto the stack, are what a reduction takes
pub folds : {K : Type 0} (terminal : K → ℕ) (g : Cfg) (r n : ℕ) (w : List Sym) (c st : Forest K) → IsRule g r n w → Derive terminal g w c
    → (taken (rule_size g r) (tipped c st) empty ≡ c) × (below (rule_size g r) (tipped c st) ≡ st)
folds terminal g r n w c st is d =
    let count : rule_size g r ≡ trees c + 0 = (let a = rule_size_is g r n w is in let b = trees_of terminal g w c d in omega (arith, a, b)) in (
      ap (λ i. taken i (tipped c st) empty) count ∙ (taken_tipped c st empty 0 ∙ beside_empty c),
      ap (λ i. below i (tipped c st)) count ∙ below_tipped c st 0,
    )

pub replays : {K : Type 0} (terminal : K → ℕ) (g : Cfg) (ss : List Sym) (f st : Forest K) (qs : List (Move K)) → Derive terminal g ss f
    → replay g (postorder f ++ qs) st ≡ replay g qs (tipped f st)
replays terminal g ss f st qs nothing = refl
replays terminal g ss f st qs (token t k u f2 is d) = replays terminal g u f2 (leaf k st) qs d
replays terminal g ss f st qs (rule r n w u c f2 is dc d) =
    let flat : (postorder c ++ (reduce r ∷ postorder f2)) ++ qs ≡ postorder c ++ (reduce r ∷ (postorder f2 ++ qs)) =
    append_assoc (postorder c) (reduce r ∷ postorder f2) qs in
    let first = replays terminal g w c st (reduce r ∷ (postorder f2 ++ qs)) dc in
    let (t, b) = folds terminal g r n w c st is dc in
    let mid : node r (taken (rule_size g r) (tipped c st) empty) (below (rule_size g r) (tipped c st)) ≡ node r c st =
    ap₂ (λ x y. node r x y) t b in
    ap (λ l. replay g l st) flat ∙ (first ∙ (ap (λ z. replay g (postorder f2 ++ qs) z) mid
    ∙ replays terminal g u f2 (node r c st) qs d))

pub replay-append : {K : Type 0} (g : Cfg) (ps qs : List (Move K)) (st : Forest K) → replay g (ps ++ qs) st ≡ replay g qs (replay g ps st)
replay-append g [] qs st = refl
replay-append g (shift k ∷ ps) qs st = replay-append g ps qs (leaf k st)
replay-append g (reduce r ∷ ps) qs st = replay-append g ps qs _

-- forests with the same stack are the same
pub tipped_back : {K : Type 0} (f st : Forest K) → tipped (tipped f st) empty ≡ tipped st f
tipped_back empty st = refl
tipped_back (leaf k f) st = tipped_back f (leaf k st)
tipped_back (node r c f) st = tipped_back f (node r c st)

pub one_forest : {K : Type 0} (f h : Forest K) → tipped f empty ≡ tipped h empty → f ≡ h
one_forest f h e = sym (tipped_back f empty) ∙ (ap (λ z. tipped z empty) e ∙ tipped_back h empty)
