-- The instances of chosen covers make trees: each one but the places' own is an operand of exactly one later one.
use Rattle.std.proofs.Common.{◌≡◌, ℕ, suc, ◌+◌, ◌<◌, ◌≤◌, ◌⊎◌, List, [], ◌∷◌, ◌++◌, length, length-append, arith, inl, inr, refl, sym, subst, ◌∙◌}
use Rattle.beg_model.specs.declared.matched.Subgoal.{Subgoal}
use Rattle.beg_model.specs.Cover.{Application, Instance, Stands}
use Rattle.beg_model.specs.Cover as cover
use Rattle.beg_model.proofs.Search.{at_most_or_more}

pub data Among (w : ℕ) : List ℕ → Type 0 where
  first : (rest : List ℕ) → Among w (w ∷ rest)
  later : (v : ℕ) (rest : List ℕ) → Among w rest → Among w (v ∷ rest)

-- instance w is an operand of instance p of a list that is numbered from a first number on
pub data OperandIn (w p : ℕ) : ℕ → List Instance → Type 0 where
  here : (i : Instance) (rest : List Instance) → Among w i.operands → OperandIn w p p (i ∷ rest)
  there : (n : ℕ) (i : Instance) (rest : List Instance) → OperandIn w p (n + 1) rest → OperandIn w p n (i ∷ rest)

zero_more : (n : ℕ) → n + 0 ≡ n
zero_more n = omega arith

one_further : (n k : ℕ) → n + 1 + k ≡ n + suc k
one_further n k = omega arith

pub split_operand : {w p : ℕ} (n : ℕ) (xs ys : List Instance) → OperandIn w p n (xs ++ ys)
    → OperandIn w p n xs ⊎ OperandIn w p (n + length xs) ys
split_operand {w = w} {p = p} n [] ys h = inr (subst (λ z. OperandIn w p z ys) (sym (zero_more n)) h)
split_operand {w = w} {p = p} n (x ∷ xs) ys (here _ _ a) = inl (here x xs a)
split_operand {w = w} {p = p} n (x ∷ xs) ys (there _ _ _ h) = elim (split_operand (n + 1) xs ys h) [
  | inl left ↦ inl (there n x xs left)
  | inr right ↦ inr (subst (λ z. OperandIn w p z ys) (one_further n (length xs)) right)
]

pub in_front : {w p : ℕ} (n : ℕ) (xs ys : List Instance) → OperandIn w p n xs → OperandIn w p n (xs ++ ys)
in_front n [] ys h = elim h [ ]
in_front n (x ∷ xs) ys (here _ _ a) = here x (xs ++ ys) a
in_front n (x ∷ xs) ys (there _ _ _ h) = there n x (xs ++ ys) (in_front (n + 1) xs ys h)

pub behind : {w p : ℕ} (n : ℕ) (xs ys : List Instance) → OperandIn w p (n + length xs) ys → OperandIn w p n (xs ++ ys)
behind {w = w} {p = p} n [] ys h = subst (λ z. OperandIn w p z ys) (zero_more n) h
behind {w = w} {p = p} n (x ∷ xs) ys h =
    there n x (xs ++ ys) (behind (n + 1) xs ys (subst (λ z. OperandIn w p z ys) (sym (one_further n (length xs))) h))

pub record Shape (n m : ℕ) (list : List Instance) (tops : List ℕ) : Type 0 where
  pub end : m ≡ n + length list
  pub top : (w : ℕ) → Among w tops → (n ≤ w) × (w < m)
  pub operand : (w p : ℕ) → OperandIn w p n list → (n ≤ w) × (w < p) × (p < m)
  pub each : (w : ℕ) → n ≤ w → w < m → Among w tops ⊎ ((p : ℕ) × OperandIn w p n list)
  pub one : (w p q : ℕ) → OperandIn w p n list → OperandIn w q n list → p ≡ q
  pub apart : (w p : ℕ) → Among w tops → OperandIn w p n list → ⊥

-- an operand in `below ++ (i ∷ after)` stands below, is one of i's, or stands after
Three : ℕ → ℕ → ℕ → List Instance → Instance → List Instance → Type 0
Three w p n below i after = OperandIn w p n below ⊎ (((p ≡ n + length below) × Among w i.operands)
    ⊎ OperandIn w p (n + length below + 1) after)

own_or_after : (w p k : ℕ) (i : Instance) (after : List Instance) → OperandIn w p k (i ∷ after)
    → ((p ≡ k) × Among w i.operands) ⊎ OperandIn w p (k + 1) after
own_or_after w p k i after (here _ _ a) = inl (refl, a)
own_or_after w p k i after (there _ _ _ h) = inr h

three : (w p n : ℕ) (below after : List Instance) (i : Instance) → OperandIn w p n (below ++ (i ∷ after)) → Three w p n below i after
unfolding Three
three w p n below after i h = elim (split_operand n below (i ∷ after) h) [
  | inl left ↦ inl left
  | inr right ↦ inr (own_or_after w p (n + length below) i after right)
]

module _ (n m l : ℕ) (below after : List Instance) (i : Instance) (tops others : List ℕ)
    (a : Shape n m below tops) (own : i.operands ≡ tops) (b : Shape (m + 1) l after others) where
  mine : (w : ℕ) → Among w i.operands → Among w tops
  mine w h = subst (λ z. Among w z) own h

  joined_top : (w : ℕ) → Among w (m ∷ others) → (n ≤ w) × (w < l)
  joined_top w (first _) = let e = a.end in let f = b.end in (omega (arith, e), omega (arith, f))
  joined_top w (later _ _ h) = let (ge, lt) = b.top w h in let e = a.end in (omega (arith, e, ge), lt)

  parts : (w p : ℕ) → OperandIn w p n (below ++ (i ∷ after))
      → OperandIn w p n below ⊎ (((p ≡ m) × Among w tops) ⊎ OperandIn w p (m + 1) after)
  unfolding Three
  parts w p h = elim (three w p n below after i h) [
    | inl left ↦ inl left
    | inr rest ↦ elim rest [
      | inl (same, among) ↦ inr (inl (same ∙ sym a.end, mine w among))
      | inr right ↦ inr (inr (subst (λ z. OperandIn w p (z + 1) after) (sym a.end) right))
    ]
  ]

  joined_operand : (w p : ℕ) → OperandIn w p n (below ++ (i ∷ after)) → (n ≤ w) × (w < p) × (p < l)
  joined_operand w p h = elim (parts w p h) [
    | inl left ↦ (let (x, y, z) = a.operand w p left in let f = b.end in (x, y, omega (arith, z, f)))
    | inr rest ↦ elim rest [
      | inl (same, among) ↦ (let (x, y) = a.top w among in let f = b.end in (x, omega (arith, same, y), omega (arith, same, f)))
      | inr right ↦ (let (x, y, z) = b.operand w p right in let e = a.end in (omega (arith, x, e), y, z))
    ]
  ]

  joined_one : (w p q : ℕ) → OperandIn w p n (below ++ (i ∷ after)) → OperandIn w q n (below ++ (i ∷ after)) → p ≡ q
  joined_one w p q h g = elim (parts w p h) [
    | inl left ↦ elim (parts w q g) [
      | inl left2 ↦ a.one w p q left left2
      | inr rest ↦ elim rest [
        | inl (same, among) ↦ absurd (a.apart w p among left)
        | inr right ↦ absurd (let (x, y, z) = a.operand w p left in let (u, v, t) = b.operand w q right in omega (arith, y, z, u))
      ]
    ]
    | inr rest ↦ elim rest [
      | inl (same, among) ↦ elim (parts w q g) [
        | inl left2 ↦ absurd (a.apart w q among left2)
        | inr rest2 ↦ elim rest2 [
          | inl (same2, among2) ↦ omega (arith, same, same2)
          | inr right ↦ absurd (let (x, y) = a.top w among in let (u, v, t) = b.operand w q right in omega (arith, y, u))
        ]
      ]
      | inr right ↦ elim (parts w q g) [
        | inl left2 ↦ absurd (let (x, y, z) = a.operand w q left2 in let (u, v, t) = b.operand w p right in omega (arith, y, z, u))
        | inr rest2 ↦ elim rest2 [
          | inl (same2, among2) ↦ absurd (let (x, y) = a.top w among2 in let (u, v, t) = b.operand w p right in omega (arith, y, u))
          | inr right2 ↦ b.one w p q right right2
        ]
      ]
    ]
  ]

  joined_apart : (w p : ℕ) → Among w (m ∷ others) → OperandIn w p n (below ++ (i ∷ after)) → ⊥
  joined_apart w p (first _) h = elim (parts w p h) [
    | inl left ↦ (let (x, y, z) = a.operand w p left in omega (arith, y, z))
    | inr rest ↦ elim rest [
      | inl (same, among) ↦ (let (x, y) = a.top w among in omega (arith, y))
      | inr right ↦ (let (x, y, z) = b.operand w p right in omega (arith, x))
    ]
  ]
  joined_apart w p (later _ _ t) h = elim (parts w p h) [
    | inl left ↦ (let (x, y, z) = a.operand w p left in let (u, v) = b.top w t in omega (arith, y, z, u))
    | inr rest ↦ elim rest [
      | inl (same, among) ↦ (let (x, y) = a.top w among in let (u, v) = b.top w t in omega (arith, y, u))
      | inr right ↦ b.apart w p t right
    ]
  ]

  where_is : (w : ℕ) → (w < m) ⊎ ((w ≡ m) ⊎ (m + 1 ≤ w))
  where_is w = elim (at_most_or_more m w) [
    | inl ge ↦ elim (at_most_or_more (m + 1) w) [ inl more ↦ inr (inr more) | inr less ↦ inr (inl (omega (arith, ge, less))) ]
    | inr lt ↦ inl lt
  ]

  i_of_all : (w : ℕ) → Among w tops → OperandIn w m n (below ++ (i ∷ after))
  i_of_all w among = behind n below (i ∷ after)
      (subst (λ z. OperandIn w m z (i ∷ after)) a.end (here i after (subst (λ z. Among w z) (sym own) among)))

  joined_each : (w : ℕ) → n ≤ w → w < l → Among w (m ∷ others) ⊎ ((p : ℕ) × OperandIn w p n (below ++ (i ∷ after)))
  joined_each w ge lt = elim (where_is w) [
    | inl before ↦ elim (a.each w ge before) [
      | inl top ↦ inr (m, i_of_all w top)
      | inr (p, h) ↦ inr (p, in_front n below (i ∷ after) h)
    ]
    | inr rest ↦ elim rest [
      | inl same ↦ inl (subst (λ z. Among w (z ∷ others)) same (first others))
      | inr past ↦ elim (b.each w past lt) [
        | inl top ↦ inl (later m others top)
        | inr (p, h) ↦ inr (
          p,
          behind n below (i ∷ after)
              (there (n + length below) i after (subst (λ z. OperandIn w p (z + 1) after) a.end h)),
        )
      ]
    ]
  ]

  joined : Shape n l (below ++ (i ∷ after)) (m ∷ others)
  joined = record {
    end = (let e = a.end in let f = b.end in let g = length-append below (i ∷ after) in omega (arith, e, f, g));
    top = joined_top;
    operand = joined_operand;
    each = joined_each;
    one = joined_one;
    apart = joined_apart;
  }

none_among : {w : ℕ} → Among w [] → ⊥
none_among a = elim a [ ]

none_operand : {w p n : ℕ} → OperandIn w p n [] → ⊥
none_operand h = elim h [ ]

empty_shape : (n : ℕ) → Shape n n [] []
empty_shape n = record {
  end = omega arith;
  top = λ w h. absurd (none_among h);
  operand = λ w p h. absurd (none_operand h);
  each = λ w ge lt. absurd (omega (arith, ge, lt));
  one = λ w p q h g. absurd (none_operand h);
  apart = λ w p h g. none_among h;
}

-- the instances of chosen covers make trees
pub shape : {Applies : Application} {n c : ℕ} {ps : List Subgoal} {list : List Instance} {tops : List ℕ}
    → Stands Applies n ps list tops c → Shape n (n + length list) list tops
shape (cover.no_subgoal n) = subst (λ z. Shape n z [] []) (sym (zero_more n)) (empty_shape n)
shape (cover.one_more n r v x k c d e operands rest below after tops others chosen applies under more) =
    let i : Instance = record { rule = r; node = v; operands = tops } in
    let a = shape under in
    let b = shape more in
    let all = joined n (n + length below) (n + length below + 1 + length after) below after i tops others a refl b in
    let size = length-append below (i ∷ after) in
    let e : n + length below + 1 + length after ≡ n + length (below ++ (i ∷ after)) = omega (arith, size) in
    subst (λ z. Shape n z (below ++ (i ∷ after)) ((n + length below) ∷ others)) e all
