-- The trees on a parser's stack, read as a number: a reduction makes it greater, and it is bounded.
use Rattle.std.proofs.Common.{◌≡◌, ℕ, zero, suc, ◌+◌, ◌*◌, ◌-◌, ◌^◌, ◌<◌, ◌≤◌, max, cond, eqb, ◌++◌, length, ap, ◌∙◌, arith, length-append, mul-le-mul_left, mul-le-mul_right, suc-mul, inl, inr, ◌⊎◌, eq-eqb}
use Rattle.std.proofs.Math.Nat.{pow-succ', pow-zero}
use Rattle.cfg_model.specs.Derivation.{Forest, empty, leaf, node, yield}
use Rattle.parse_driver.proofs.Spine.{tall}

-- how many trees stand side by side
abbrev pub trees : {K : Type 0} → Forest K → ℕ
trees empty = 0
trees (leaf k f) = suc (trees f)
trees (node r c f) = suc (trees f)

-- the trees of a forest put onto a stack, one after the other
abbrev pub tipped : {K : Type 0} → Forest K → Forest K → Forest K
tipped empty st = st
tipped (leaf k f) st = tipped f (leaf k st)
tipped (node r c f) st = tipped f (node r c st)

-- what a tree counts: first its tokens, then its vertices with all of them
abbrev pub digit : {K : Type 0} → ℕ → Forest K → ℕ
digit n c = length (yield c) * suc n + suc (suc (tall c (length (yield c))))

-- the stack read as a number, its first tree first, in m digits to the base d
abbrev pub value : {K : Type 0} → ℕ → ℕ → ℕ → Forest K → ℕ
value n d m empty = 0
value n d m (leaf k st) = value n d m st + (suc n + 1) * d ^ (m - suc (trees st))
value n d m (node r c st) = value n d m st + digit n c * d ^ (m - suc (trees st))

-- each tree is small
pub data Small {K : Type 0} (n d : ℕ) : Forest K → Type 0 where
  no_tree : Small n d empty
  token : (k : K) (f : Forest K) → suc n + 1 < d → Small n d f → Small n d (leaf k f)
  vertex : (r : ℕ) (c f : Forest K) → digit n c < d → suc (tall c (length (yield c))) ≤ n → Small n d f → Small n d (node r c f)

pub power_one : (d k : ℕ) → 1 ≤ d → 1 ≤ d ^ k
power_one d zero one = rw pow-zero (omega arith)
power_one d (suc k) one =
    let ih = power_one d k one in
    let more : d * 1 ≤ d * d ^ k = mul-le-mul_left d ih in
    let next : d ^ suc k ≡ d * d ^ k = pow-succ' d k in
    omega (arith, more, next, one)

one_more : (d m k : ℕ) → k < m → d ^ (m - k) ≡ d * d ^ (m - suc k)
one_more d m k below =
    let e : m - k ≡ suc (m - suc k) = omega (arith, below) in
    ap (λ x. d ^ x) e ∙ pow-succ' d (m - suc k)

room : (v x d digit : ℕ) → digit < d → v + digit * x + x ≤ v + d * x
room v x d digit below =
    let more : suc digit * x ≤ d * x = mul-le-mul_right x below in
    let one : suc digit * x ≡ digit * x + x = suc-mul digit x in
    omega (arith, more, one)

-- a stack with small trees put onto it stays below the next number of that many digits
pub below_next : {K : Type 0} (n d m : ℕ) (c st : Forest K) → Small n d c → 1 ≤ d → trees st + trees c ≤ m
    → value n d m (tipped c st) < value n d m st + d ^ (m - trees st)
below_next n d m c st Small.no_tree one fits =
    let some = power_one d (m - trees st) one in omega (arith, some)
below_next n d m c st (Small.token k f low small) one fits =
    let ih = below_next n d m f (leaf k st) small one (omega (arith, fits)) in
    let next = one_more d m (trees st) (omega (arith, fits)) in
    let sum = room (value n d m st) (d ^ (m - suc (trees st))) d (suc n + 1) low in
    omega (arith, ih, next, sum)
below_next n d m c st (Small.vertex r c2 f low short small) one fits =
    let ih = below_next n d m f (node r c2 st) small one (omega (arith, fits)) in
    let next = one_more d m (trees st) (omega (arith, fits)) in
    let sum = room (value n d m st) (d ^ (m - suc (trees st))) d (digit n c2) low in
    omega (arith, ih, next, sum)

-- a vertex counts more than the first of its children
pub first_leaf : {K : Type 0} (n : ℕ) (k : K) (f : Forest K) → suc n + 1 < digit n (leaf k f)
first_leaf n k f =
    let cut : suc (length (yield f)) * suc n ≡ length (yield f) * suc n + suc n = suc-mul (length (yield f)) (suc n) in
    omega (arith, cut)

same_max : (a l s t : ℕ) → a ≡ l → s ≤ max (cond (eqb a l) s 0) t
same_max a l s t e = let test = eq-eqb a l e in rw test (omega arith)

zero_or_more : (k : ℕ) → (k ≡ 0) ⊎ (1 ≤ k)
zero_or_more k = grind arith

pub first_node : {K : Type 0} (n s : ℕ) (c f : Forest K) → suc (tall c (length (yield c))) ≤ n → digit n c < digit n (node s c f)
first_node n s c f short = go (zero_or_more (length (yield f)))
  where
    size : length (yield c ++ yield f) ≡ length (yield c) + length (yield f)
    size = length-append (yield c) (yield f)

    go : (length (yield f) ≡ 0) ⊎ (1 ≤ length (yield f)) → digit n c < digit n (node s c f)
    go (inl none) =
        let same : length (yield c) ≡ length (yield c ++ yield f) = omega (arith, size, none) in
        let most = same_max (length (yield c)) (length (yield c ++ yield f)) (suc (tall c (length (yield c)))) (tall f (length (yield c ++ yield f))) same in
        let first : length (yield c) * suc n ≡ length (yield c ++ yield f) * suc n = ap (λ x. x * suc n) same in
        omega (arith, first, most)
    go (inr some) =
        let less : suc (length (yield c)) ≤ length (yield c ++ yield f) = omega (arith, size, some) in
        let first : suc (length (yield c)) * suc n ≤ length (yield c ++ yield f) * suc n = mul-le-mul_right (suc n) less in
        let cut : suc (length (yield c)) * suc n ≡ length (yield c) * suc n + suc n = suc-mul (length (yield c)) (suc n) in
        omega (arith, first, cut, short)

-- a reduction makes the number greater
pub grows : {K : Type 0} (n d m r : ℕ) (c st : Forest K) → Small n d c → 1 ≤ d → suc (trees st) ≤ m → trees st + trees c ≤ m
    → value n d m (tipped c st) < value n d m (node r c st)
grows {K} n d m r c st Small.no_tree one room_ fits =
    let some = power_one d (m - suc (trees st)) one in
    let digits : 1 * d ^ (m - suc (trees st)) ≤ digit n c * d ^ (m - suc (trees st)) =
    mul-le-mul_right (d ^ (m - suc (trees st))) (omega arith) in
    omega (arith, some, digits)
grows n d m r c st (Small.token k f low small) one room_ fits =
    let x : ℕ = d ^ (m - suc (trees st)) in
    let ih = below_next n d m f (leaf k st) small one (omega (arith, fits)) in
    let sum = room (value n d m st) (d ^ (m - suc (trees st))) (digit n (leaf k f)) (suc n + 1) (first_leaf n k f) in
    omega (arith, ih, sum)
grows n d m r c st (Small.vertex s c2 f low short small) one room_ fits =
    let ih = below_next n d m f (node s c2 st) small one (omega (arith, fits)) in
    let sum = room (value n d m st) (d ^ (m - suc (trees st))) (digit n (node s c2 f)) (digit n c2) (first_node n s c2 f short) in
    omega (arith, ih, sum)

-- a stack with small trees is below the greatest number
pub bounded : {K : Type 0} (n d m : ℕ) (st : Forest K) → Small n d st → 1 ≤ d → trees st ≤ m
    → value n d m st + d ^ (m - trees st) ≤ d ^ m
bounded n d m st Small.no_tree one fits = let e : m - 0 ≡ m = omega arith in rw e (omega arith)
bounded n d m st (Small.token k f low small) one fits =
    let ih = bounded n d m f small one (omega (arith, fits)) in
    let next = one_more d m (trees f) fits in
    let sum = room (value n d m f) (d ^ (m - suc (trees f))) d (suc n + 1) low in
    omega (arith, ih, next, sum)
bounded n d m st (Small.vertex r c f low short small) one fits =
    let ih = bounded n d m f small one (omega (arith, fits)) in
    let next = one_more d m (trees f) fits in
    let sum = room (value n d m f) (d ^ (m - suc (trees f))) d (digit n c) low in
    omega (arith, ih, next, sum)

leaf_part : {K : Type 0} (n d : ℕ) (k : K) (f st : Forest K) → Small n d f × Small n d (leaf k st) → Small n d (leaf k f) × Small n d st
leaf_part n d k f st (a, Small.token _ _ low b) = (Small.token k f low a, b)

node_part : {K : Type 0} (n d r : ℕ) (c f st : Forest K) → Small n d f × Small n d (node r c st) → Small n d (node r c f) × Small n d st
node_part n d r c f st (a, Small.vertex _ _ _ low short b) = (Small.vertex r c f low short a, b)

pub small_part : {K : Type 0} (n d : ℕ) (c st : Forest K) → Small n d (tipped c st) → Small n d c × Small n d st
small_part n d empty st s = (Small.no_tree, s)
small_part n d (leaf k f) st s = leaf_part n d k f st (small_part n d f (leaf k st) s)
small_part n d (node r c f) st s = node_part n d r c f st (small_part n d f (node r c st) s)

pub trees-tipped : {K : Type 0} (c st : Forest K) → trees (tipped c st) ≡ trees st + trees c
trees-tipped empty st = omega arith
trees-tipped (leaf k f) st = let ih = trees-tipped f (leaf k st) in omega (arith, ih)
trees-tipped (node r c f) st = let ih = trees-tipped f (node r c st) in omega (arith, ih)

pub tokens-tipped : {K : Type 0} (c st : Forest K) → length (yield (tipped c st)) ≡ length (yield st) + length (yield c)
tokens-tipped empty st = omega arith
tokens-tipped (leaf k f) st = let ih = tokens-tipped f (leaf k st) in omega (arith, ih)
tokens-tipped (node r c f) st =
    let ih = tokens-tipped f (node r c st) in
    let one = length-append (yield c) (yield st) in
    let two = length-append (yield c) (yield f) in
    omega (arith, ih, one, two)
