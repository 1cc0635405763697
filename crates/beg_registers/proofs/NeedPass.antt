-- One pass counts the values that are held: those that live, less those that end here.
use Rattle.std.proofs.Common.{◌≡◌, ℕ, suc, ◌+◌, ◌-◌, ◌<◌, ◌≤◌, ◌⊎◌, max, List, arith, inl, inr, refl, sym, subst}
use Rattle.beg_model.specs.Items.{Item}
use Rattle.beg_model.specs.Registers.{HasClass, IsEarly, UsedAt, Held, HeldOf, CountBelow}
use Rattle.beg_model.specs.Registers as registers
use Rattle.beg_model.proofs.Search.{at_most_or_more, same_or_other}

-- the same numbers have both properties
pub count_alike : (P Q : ℕ → Type 0) {m n : ℕ} → ((w : ℕ) → w < m → P w → Q w) → ((w : ℕ) → w < m → Q w → P w) → CountBelow P m n → CountBelow Q m n
count_alike P Q to from registers.nothing = registers.nothing
count_alike P Q to from (registers.one_more m n count p) =
    registers.one_more m n (count_alike P Q (λ w lt. to w (omega (arith, lt))) (λ w lt. from w (omega (arith, lt))) count) (to m (omega arith) p)
count_alike P Q to from (registers.as_many m n count none) =
    registers.as_many m n (count_alike P Q (λ w lt. to w (omega (arith, lt))) (λ w lt. from w (omega (arith, lt))) count) (λ q. none (from m (omega arith) q))

-- those with P are those with Q and those with R, and none has both
pub count_less : (P Q R : ℕ → Type 0) {m a b : ℕ} → ((w : ℕ) → w < m → P w → Q w ⊎ R w) → ((w : ℕ) → w < m → Q w → P w) → ((w : ℕ) → w < m → R w → P w)
    → ((w : ℕ) → w < m → Q w → R w → ⊥) → CountBelow P m a → CountBelow R m b → (c : ℕ) × CountBelow Q m c × (a ≡ c + b)
count_less P Q R part q r apart registers.nothing registers.nothing = (0, registers.nothing, omega arith)
count_less P Q R part q r apart (registers.one_more m n count p) (registers.one_more _ l other x) =
    let (c, rest, e) = count_less P Q R (λ w lt. part w (omega (arith, lt))) (λ w lt. q w (omega (arith, lt))) (λ w lt. r w (omega (arith, lt)))
    (λ w lt. apart w (omega (arith, lt))) count other in
    (c, registers.as_many m c rest (λ y. apart m (omega arith) y x), omega (arith, e))
count_less P Q R part q r apart (registers.one_more m n count p) (registers.as_many _ l other none) =
    let (c, rest, e) = count_less P Q R (λ w lt. part w (omega (arith, lt))) (λ w lt. q w (omega (arith, lt))) (λ w lt. r w (omega (arith, lt)))
    (λ w lt. apart w (omega (arith, lt))) count other in
    (suc c, registers.one_more m c rest (elim (part m (omega arith) p) [ inl y ↦ y | inr x ↦ absurd (none x) ]), omega (arith, e))
count_less P Q R part q r apart (registers.as_many m n count no_p) (registers.one_more _ l other x) = absurd (no_p (r m (omega arith) x))
count_less P Q R part q r apart (registers.as_many m n count no_p) (registers.as_many _ l other none) =
    let (c, rest, e) = count_less P Q R (λ w lt. part w (omega (arith, lt))) (λ w lt. q w (omega (arith, lt))) (λ w lt. r w (omega (arith, lt)))
    (λ w lt. apart w (omega (arith, lt))) count other in
    (c, registers.as_many m c rest (λ y. no_p (q m (omega arith) y)), e)

-- values of the class that are used at q
abbrev pub EndsAt : List Item → ℕ → (ℕ → ℕ) → ℕ → ℕ → Type 0
EndsAt items class uses q w = HasClass items w class × (uses w ≡ q)

-- values of the class that aren't used before p
abbrev pub Lives : List Item → ℕ → (ℕ → ℕ) → ℕ → ℕ → Type 0
Lives items class uses p w = HasClass items w class × (p ≤ uses w)

pub record Counts (items : List Item) (class : ℕ) (uses ends : ℕ → ℕ) (live p : ℕ) : Type 0 where
  pub living : CountBelow (Lives items class uses p) p live
  pub ending : (q : ℕ) → CountBelow (EndsAt items class uses q) p (ends q)

same_or_past : (p u : ℕ) → p ≤ u → (p < u) ⊎ (u ≡ p)
same_or_past p u h = grind arith

one_more_is : (p : ℕ) → suc p ≡ p + 1
one_more_is p = omega arith

module _ (items : List Item) (class : ℕ) (uses : ℕ → ℕ)
    (used : (w : ℕ) → HasClass items w class → UsedAt items w (uses w) × (w < uses w))
    (once : (w u : ℕ) → HasClass items w class → UsedAt items w u → u ≡ uses w)
    (ends : ℕ → ℕ) (live p : ℕ) (counts : Counts items class uses ends live p) where
  -- values of the class that are used after p
  pub Later : ℕ → Type 0
  Later w = HasClass items w class × (p < uses w)

  pub later_count : (c : ℕ) × CountBelow Later p c × (live ≡ c + ends p)
  unfolding Later
  later_count = count_less (Lives items class uses p) (λ w. HasClass items w class × (p < uses w)) (EndsAt items class uses p)
      (λ w lt (h, le). elim (same_or_past p (uses w) le) [ inl more ↦ inl (h, more) | inr same ↦ inr (h, same) ])
      (λ w lt (h, less). (h, omega (arith, less))) (λ w lt (h, same). (h, omega (arith, same)))
      (λ w lt (h, less) (k, same). omega (arith, less, same)) counts.living (counts.ending p)

  after_is : (late : IsEarly items p → ⊥) (w : ℕ) → HasClass items w class → Held items w p → p < uses w
  after_is late w h held = let same = once w held.use_place h held.used in elim held.after [
    | inl less ↦ omega (arith, same, less)
    | inr (at, early) ↦ absurd (late early)
  ]

  not_before : (w : ℕ) → HasClass items w class → Held items w p → p ≤ uses w
  not_before w h held = let same = once w held.use_place h held.used in elim held.after [
    | inl less ↦ omega (arith, same, less)
    | inr (at, early) ↦ omega (arith, same, at)
  ]

  -- held against a rule that isn't EARLY: those that live and don't end here
  pub held_count : (IsEarly items p → ⊥) → CountBelow (HeldOf items class p) p (live - ends p)
  unfolding Later
  held_count late =
      let (c, count, e) = later_count in
      let same : c ≡ live - ends p = omega (arith, e) in
      subst (λ z. CountBelow (HeldOf items class p) p z) same (count_alike Later (HeldOf items class p)
      (λ w lt (h, less). (h, record { before = lt; use_place = uses w; used = (used w h).0; after = inl less }))
      (λ w lt (h, held). (h, after_is late w h held)) count)

  -- held against an EARLY rule: all that live
  pub held_count_early : IsEarly items p → CountBelow (HeldOf items class p) p live
  held_count_early early = count_alike (Lives items class uses p) (HeldOf items class p)
      (λ w lt (h, le). (
        h,
        record {
          before = lt;
          use_place = uses w;
          used = (used w h).0;
          after = elim (same_or_past p (uses w) le) [
            | inl less ↦ inl less
            | inr same ↦ inr (same, early)
          ];
        },
      ))
      (λ w lt (h, held). (h, not_before w h held)) counts.living

  -- the next place: those that end here live no more; a value that is defined here does
  pub next_value : HasClass items p class → (next : ℕ → ℕ) → next (uses p) ≡ ends (uses p) + 1 → ((q : ℕ) → (q ≡ uses p → ⊥) → next q ≡ ends q)
      → Counts items class uses next (live - ends p + 1) (p + 1)
  unfolding Later
  next_value has next here others =
      let (c, count, e) = later_count in
      let (u, after) = used p has in
      let same : suc c ≡ live - ends p + 1 = omega (arith, e) in
      let all : CountBelow (Lives items class uses (p + 1)) (suc p) (suc c) = registers.one_more p c
      (count_alike Later (Lives items class uses (p + 1)) (λ w lt (h, less). (h, omega (arith, less))) (λ w lt (h, le). (h, omega (arith, le))) count)
      (has, omega (arith, after)) in
      record {
        living = subst (λ z. CountBelow (Lives items class uses (p + 1)) z (live - ends p + 1)) (one_more_is p)
            (subst (λ z. CountBelow (Lives items class uses (p + 1)) (suc p) z) same all);
        ending = λ q. subst (λ z. CountBelow (EndsAt items class uses q) z (next q)) (one_more_is p) (elim (same_or_other q (uses p)) [
          | inl at ↦ (let e2 : next q ≡ suc (ends q) = (let x = subst (λ z. next z ≡ ends z + 1) (sym at) here in omega (arith, x)) in
              subst (λ z. CountBelow (EndsAt items class uses q) (suc p) z) (sym e2) (registers.one_more p (ends q) (counts.ending q) (has, sym at)))
          | inr other ↦ subst (λ z. CountBelow (EndsAt items class uses q) (suc p) z) (sym (others q other))
              (registers.as_many p (ends q) (counts.ending q) (λ (h, is). other (sym is)))
        ]);
      }

  pub next_other : (HasClass items p class → ⊥) → Counts items class uses ends (live - ends p) (p + 1)
  unfolding Later
  next_other none =
      let (c, count, e) = later_count in
      let same : c ≡ live - ends p = omega (arith, e) in
      let all : CountBelow (Lives items class uses (p + 1)) (suc p) c = registers.as_many p c
      (count_alike Later (Lives items class uses (p + 1)) (λ w lt (h, less). (h, omega (arith, less))) (λ w lt (h, le). (h, omega (arith, le))) count)
      (λ (h, le). none h) in
      record {
        living = subst (λ z. CountBelow (Lives items class uses (p + 1)) z (live - ends p)) (one_more_is p)
            (subst (λ z. CountBelow (Lives items class uses (p + 1)) (suc p) z) same all);
        ending = λ q. subst (λ z. CountBelow (EndsAt items class uses q) z (ends q)) (one_more_is p)
            (registers.as_many p (ends q) (counts.ending q) (λ (h, is). none h));
      }

-- at most as many as there are numbers, and only one count
pub count_at_most : {P : ℕ → Type 0} {m n : ℕ} → CountBelow P m n → n ≤ m
count_at_most registers.nothing = omega arith
count_at_most (registers.one_more m n count p) = let le = count_at_most count in omega (arith, le)
count_at_most (registers.as_many m n count none) = let le = count_at_most count in omega (arith, le)

pub one_count : {P : ℕ → Type 0} {m a b : ℕ} → CountBelow P m a → CountBelow P m b → a ≡ b
one_count registers.nothing registers.nothing = refl
one_count (registers.one_more m n count p) (registers.one_more _ l other q) = let e = one_count count other in omega (arith, e)
one_count (registers.one_more m n count p) (registers.as_many _ l other none) = absurd (none p)
one_count (registers.as_many m n count none) (registers.one_more _ l other q) = absurd (none q)
one_count (registers.as_many m n count none) (registers.as_many _ l other more) = one_count count other

-- the need of the values before p
pub record NeedTo (items : List Item) (class need p : ℕ) : Type 0 where
  pub enough : (q m : ℕ) → q < p → HasClass items q class → CountBelow (HeldOf items class q) q m → m + 1 ≤ need
  pub reached : ((need ≡ 0) × ((q : ℕ) → q < p → HasClass items q class → ⊥))
      ⊎ ((q : ℕ) × (m : ℕ) × (q < p) × HasClass items q class × CountBelow (HeldOf items class q) q m × (need ≡ m + 1))

last_of : (q p : ℕ) → q < p + 1 → (q ≡ p) ⊎ (q < p)
last_of q p lt = grind arith

pub need_other : (items : List Item) (class need p : ℕ) → NeedTo items class need p → (HasClass items p class → ⊥) → NeedTo items class need (p + 1)
need_other items class need p to none = record {
  enough = λ q m lt h count. elim (last_of q p lt) [
    | inl same ↦ absurd (none (subst (λ z. HasClass items z class) same h))
    | inr before ↦ to.enough q m before h count
  ];
  reached = elim to.reached [
    | inl (zero_is, absent) ↦ inl (
      zero_is,
      λ q lt h. elim (last_of q p lt) [
        | inl same ↦ none (subst (λ z. HasClass items z class) same h)
        | inr before ↦ absent q before h
      ],
    )
    | inr (q, m, before, h, count, is) ↦ inr (q, m, omega (arith, before), h, count, is)
  ];
}

pub need_value : (items : List Item) (class need held more p : ℕ) → NeedTo items class need p → HasClass items p class
    → CountBelow (HeldOf items class p) p held → more ≡ max need (held + 1) → NeedTo items class more (p + 1)
need_value items class need held more p to has count more_is = record {
  enough = λ q m lt h other. elim (last_of q p lt) [
    | inl same ↦ (let moved = subst (λ z. CountBelow (HeldOf items class z) z m) same other in
        let e = one_count count moved in omega (arith, e, more_is))
    | inr before ↦ (let le = to.enough q m before h other in omega (arith, le, more_is))
  ];
  reached = elim (at_most_or_more need (held + 1)) [
    | inl le ↦ inr (p, held, omega arith, has, count, omega (arith, le, more_is))
    | inr less ↦ elim to.reached [
      | inl (zero_is, absent) ↦ absurd (omega (arith, zero_is, less))
      | inr (q, m, before, h, other, is) ↦ inr (q, m, omega (arith, before), h, other, omega (arith, less, more_is, is))
    ]
  ];
}
