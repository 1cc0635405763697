-- What following an edge does to the rows.
use Rattle.std.proofs.Common.{◌≡◌, ◌≢◌, ℕ, zero, suc, ◌+◌, ◌<◌, ◌≤◌, ◌↔◌, ◌⊎◌, inl, inr, Bool, true, false, IsTrue, All, List, [], ◌∷◌, length, slice_get, Some, get_or, set, refl, sym, ap, subst, ◌∙◌, arith, get_or-set_other, slice_index, bit_and, ◌/◌, ◌%◌, ◌^◌}
use Rattle.std.proofs.lemmas.Option.{slice_get_within}
use Rattle.std.proofs.lemmas.Bool.{cases_eq, cases_lt}
use Rattle.ck_base.specs.BitSet.{BitSet, Has, IsEmpty, Adds, Grew}
use Rattle.cfg_model.specs.within.Missing.{missing}
use Rattle.cfg_model.specs.declared.rows.Edge.{Edge}
use Rattle.cfg_model.specs.Rows.{no_row, row, In}
use Rattle.cfg_model.specs.within.Spreading.{room, IsEdge, Leads, here, on, AreSpread, IsInside, IsJoined, SpreadsOnce, IsMarked}
use Rattle.cfg_model.proofs.Missing.{missing_falls, missing_falls_more}

pub room_set : (rows : List BitSet) (n : ℕ) (y : BitSet) → n < length rows → room (set rows n y) + missing (row rows n) ≡ room rows + missing y
room_set [] n y lt = absurd (omega arith)
room_set (x ∷ rows) zero y lt = omega arith
room_set (x ∷ rows) (suc n) y lt = let rest = room_set rows n y (omega arith) in omega arith

abbrev as_edge : ℕ → ℕ → Edge
as_edge a b = record { from = a; to = b }

pub has_or_lacks : (set : BitSet) (t : ℕ) → Has set t ⊎ (Has set t → ⊥)
has_or_lacks set t = elim (cases_lt t set.size) [
  | inl below ↦ elim (cases_eq (bit_and (slice_index set.words (t / 64)) (2 ^ (t % 64))) 0) [
    | inl zero_bit ↦ inr (λ has. has.1 zero_bit)
    | inr one_bit ↦ inl (below, one_bit)
  ]
  | inr past ↦ inr (λ has. (let lt = has.0 in omega arith))
]

module _ (old new : List BitSet) (from to : ℕ) (grew : Bool) (source : BitSet) (inside : to < length old)
    (set_is : new ≡ set old to (row new to)) (adds : Adds (row old to) (row new to) (Has source))
    (source_is : (t : ℕ) → Has source t ↔ In old from t) (grew_is : IsTrue grew ↔ Grew (row old to) (row new to)) where
  other_row : (n : ℕ) → n ≢ to → row new n ≡ row old n
  other_row n other = ap (λ rows. row rows n) set_is ∙ get_or-set_other old to n (row new to) no_row other

  pub room_less : Grew (row old to) (row new to) → room new < room old
  room_less grown =
      let sum = room_set old to (row new to) inside in
      let less = missing_falls_more (row old to) (row new to) adds.size adds.kept grown in
      let same = ap room set_is in
      omega arith

  room_kept_here : room new ≤ room old
  room_kept_here =
      let sum = room_set old to (row new to) inside in
      let less = missing_falls (row old to) (row new to) adds.size adds.kept in
      let same = ap room set_is in
      omega arith

  pub is_joined : IsJoined from to old new grew
  is_joined = record {
    only = λ n t has. elim (cases_eq n to) [
      | inl at_to ↦ elim (adds.only t (subst (λ (k : ℕ). In new k t) at_to has)) [
        | inl was ↦ inl (rw at_to was)
        | inr joined ↦ inr (at_to, (source_is t).0 joined)
      ]
      | inr other ↦ inl (subst (λ (s : BitSet). Has s t) (other_row n other) has)
    ];
    kept = λ n t has. elim (cases_eq n to) [
      | inl at_to ↦ rw at_to (adds.kept t (subst (λ (k : ℕ). In old k t) at_to has))
      | inr other ↦ subst (λ (s : BitSet). Has s t) (sym (other_row n other)) has
    ];
    more = λ t has. adds.more t ((source_is t).1 has);
    room_kept = room_kept_here;
    grew_is = λ grown. room_less (grew_is.0 grown);
    same = λ still n t has. elim (cases_eq n to) [
      | inl at_to ↦ elim (adds.only t (subst (λ (k : ℕ). In new k t) at_to has)) [
        | inl was ↦ rw at_to was
        | inr joined ↦ elim (has_or_lacks (row old to) t) [
          | inl had ↦ rw at_to had
          | inr lacks ↦ (let grown = grew_is.1 (t, adds.more t joined, lacks) in cc)
        ]
      ]
      | inr other ↦ subst (λ (s : BitSet). Has s t) (other_row n other) has
    ];
  }

-- one round over the edges: what the rows have, whether they grew, and which
pub record SpreadSoFar (edges : List Edge) (before : BitSet) (i : ℕ) (old new : List BitSet) (grown : BitSet) (grew : Bool) : Type 0 where
  pub only : (n t : ℕ) → In new n t → (m : ℕ) × Leads edges m n × In old m t
  pub kept : (n t : ℕ) → In old n t → In new n t
  pub room_kept : room new ≤ room old
  pub grew_is : IsTrue grew → room new < room old
  pub none_grown : grew ≡ false → IsEmpty grown
  pub marked : (k a b t : ℕ) → slice_get edges k ≡ Some (record { from = a; to = b }) → In new a t → In new b t ⊎ (Has grown a ⊎ ((i ≤ k) × Has before a))

module _ (edges : List Edge) (before : BitSet) (i : ℕ) (old mid : List BitSet) (grown : BitSet) (grew : Bool) (edge : Edge)
    (so_far : SpreadSoFar edges before i old mid grown grew) (is_edge : slice_get edges i ≡ Some edge) where
  from_old : (new : List BitSet) (joined : Bool) → IsJoined edge.from edge.to mid new joined → (n t : ℕ) → In new n t → (m : ℕ) × Leads edges m n × In old m t
  from_old new joined step n t has = elim (step.only n t has) [
    | inl was ↦ so_far.only n t was
    | inr got ↦
        let (m, leads, there) = so_far.only edge.from t got.1 in
        (m, rw got.0 (on edge.from edge.to leads (i, is_edge)), there)
  ]

  same_edge : (k a b : ℕ) → k ≡ i → slice_get edges k ≡ Some (record { from = a; to = b }) → (a ≡ edge.from) × (b ≡ edge.to)
  same_edge k a b at_place is =
      let read : slice_get edges i ≡ Some (record { from = a; to = b }) = rw at_place at is in
      let same : as_edge a b ≡ edge = cc (read, is_edge) in
      (ap (λ (e : Edge). e.from) same, ap (λ (e : Edge). e.to) same)

  -- the edge was followed: what is in the first row is in the second
  followed : (new : List BitSet) (joined : Bool) → IsJoined edge.from edge.to mid new joined → (more : BitSet) → ((n : ℕ) → Has grown n → Has more n)
      → (k a b t : ℕ) → slice_get edges k ≡ Some (record { from = a; to = b }) → In mid a t → In new b t ⊎ (Has more a ⊎ ((i + 1 ≤ k) × Has before a))
  followed new joined step more kept k a b t is has = elim (so_far.marked k a b t is has) [
    | inl there ↦ inl (step.kept b t there)
    | inr (inl in_grown) ↦ inr (inl (kept a in_grown))
    | inr (inr (le, in_before)) ↦ elim (cases_eq k i) [
      | inl at_place ↦
          let (from_is, to_is) = same_edge k a b at_place is in
          inl (rw to_is (step.more t (rw from_is at has)))
      | inr other ↦ inr (inr (omega arith, in_before))
    ]
  ]

  pub spread_grew : (new : List BitSet) (more : BitSet) → IsJoined edge.from edge.to mid new true → Adds grown more (λ k. k ≡ edge.to) → SpreadSoFar edges before (i + 1) old new more true
  spread_grew new more step adds = record {
    only = from_old new true step;
    kept = λ n t has. step.kept n t (so_far.kept n t has);
    room_kept = (let a = step.room_kept in let b = so_far.room_kept in omega arith);
    grew_is = λ grown_is. (let a = step.grew_is refl in let b = so_far.room_kept in omega arith);
    none_grown = λ e. cc;
    marked = λ k a b t is has. elim (cases_eq a edge.to) [
      | inl at_to ↦ inr (inl (rw at_to (adds.more edge.to refl)))
      | inr elsewhere ↦ elim (step.only a t has) [
        | inl was ↦ followed new true step more adds.kept k a b t is was
        | inr got ↦ absurd (elsewhere got.0)
      ]
    ];
  }

  pub spread_same : (new : List BitSet) → IsJoined edge.from edge.to mid new false → SpreadSoFar edges before (i + 1) old new grown grew
  spread_same new step = record {
    only = from_old new false step;
    kept = λ n t has. step.kept n t (so_far.kept n t has);
    room_kept = (let a = step.room_kept in let b = so_far.room_kept in omega arith);
    grew_is = λ grown_is. (let a = step.room_kept in let b = so_far.grew_is grown_is in omega arith);
    none_grown = so_far.none_grown;
    marked = λ k a b t is has. followed new false step grown (λ n h. h) k a b t is (step.same refl a t has);
  }

  pub spread_skip : (Has before edge.from → ⊥) → SpreadSoFar edges before (i + 1) old mid grown grew
  spread_skip lacks = record {
    only = so_far.only;
    kept = so_far.kept;
    room_kept = so_far.room_kept;
    grew_is = so_far.grew_is;
    none_grown = so_far.none_grown;
    marked = λ k a b t is has. elim (so_far.marked k a b t is has) [
      | inl there ↦ inl there
      | inr (inl in_grown) ↦ inr (inl in_grown)
      | inr (inr (le, in_before)) ↦ elim (cases_eq k i) [
        | inl at_place ↦ absurd (lacks (rw (same_edge k a b at_place is).0 at in_before))
        | inr other ↦ inr (inr (omega arith, in_before))
      ]
    ];
  }

pub spread_none : (edges : List Edge) (before : BitSet) (old : List BitSet) (grown : BitSet) → IsEmpty grown → IsMarked edges old before → SpreadSoFar edges before 0 old old grown false
spread_none edges before old grown empty marked = record {
  only = λ n t has. (n, here, has);
  kept = λ n t has. has;
  room_kept = omega arith;
  grew_is = λ e. cc;
  none_grown = λ e. empty;
  marked = λ k a b t is has. elim (marked a b t (k, is) has) [ inl there ↦ inl there | inr in_before ↦ inr (inr (omega arith, in_before)) ];
}

pub spread_marked : (edges : List Edge) (before : BitSet) (i : ℕ) (old new : List BitSet) (grown : BitSet) (grew : Bool) → SpreadSoFar edges before i old new grown grew → length edges ≤ i
    → IsMarked edges new grown
spread_marked edges before i old new grown grew so_far all = λ a b t (k, is) has. elim (so_far.marked k a b t is has) [
  | inl there ↦ inl there
  | inr (inl in_grown) ↦ inr in_grown
  | inr (inr (le, _)) ↦ absurd (omega (arith, slice_get_within edges k _ is))
]

pub spread_all : (edges : List Edge) (before : BitSet) (i : ℕ) (old new : List BitSet) (grown : BitSet) (grew : Bool) → SpreadSoFar edges before i old new grown grew → length edges ≤ i
    → SpreadsOnce edges old new grew
spread_all edges before i old new grown grew so_far all = record {
  only = so_far.only;
  kept = so_far.kept;
  grew_is = so_far.grew_is;
  closed = λ still a b t edge has. elim (spread_marked edges before i old new grown grew so_far all a b t edge has) [
    | inl there ↦ there
    | inr in_grown ↦ absurd (so_far.none_grown still a in_grown)
  ];
}

-- rounds one after the other
pub leads_then : (edges : List Edge) (a b c : ℕ) → Leads edges a b → Leads edges b c → Leads edges a c
leads_then edges a b _ first here = first
leads_then edges a b _ first (on x y second edge) = on x y (leads_then edges a b x first second) edge

pub record Spreading (edges : List Edge) (old new : List BitSet) : Type 0 where
  pub only : (n t : ℕ) → In new n t → (m : ℕ) × Leads edges m n × In old m t
  pub kept : (n t : ℕ) → In old n t → In new n t

pub spreading_none : (edges : List Edge) (old : List BitSet) → Spreading edges old old
spreading_none edges old = record { only = λ n t has. (n, here, has); kept = λ n t has. has }

pub spreading_more : (edges : List Edge) (old mid new : List BitSet) (grew : Bool) → Spreading edges old mid → SpreadsOnce edges mid new grew → Spreading edges old new
spreading_more edges old mid new grew a b = record {
  only = λ n t has.
      let (m, second, there) = b.only n t has in
      let (k, first, was) = a.only m t there in
      (k, leads_then edges k m n first second, was);
  kept = λ n t has. b.kept n t (a.kept n t has);
}

along : (edges : List Edge) (new : List BitSet) (m t : ℕ) → ((a b t : ℕ) → IsEdge edges a b → In new a t → In new b t)
    → (n : ℕ) → Leads edges m n → In new m t → In new n t
along edges new m t closed _ here has = has
along edges new m t closed _ (on a b leads edge) has = closed a b t edge (along edges new m t closed a leads has)

pub spread_done : (edges : List Edge) (old mid new : List BitSet) → Spreading edges old mid → SpreadsOnce edges mid new false → AreSpread edges old new
spread_done edges old mid new a b =
    let whole = spreading_more edges old mid new false a b in
    record { only = whole.only; all = λ m n t leads has. along edges new m t (b.closed refl) n leads (whole.kept m t has) }

pub edge_from_inside : (count : ℕ) (edges : List Edge) (a b : ℕ) → All (IsInside count) edges → IsEdge edges a b → a < count
edge_from_inside count edges a b all (k, is) =
    let lt = slice_get_within edges k _ is in
    let here_is : get_or edges k (as_edge a b) ≡ as_edge a b = get_or_read edges k (as_edge a b) is in
    let both = all k (as_edge a b) lt in
    let from_is : (get_or edges k (as_edge a b)).from ≡ a = ap (λ (e : Edge). e.from) here_is in
    omega (arith, both.0, from_is)
  where
    get_or_read : (xs : List Edge) (k : ℕ) (e : Edge) → slice_get xs k ≡ Some e → get_or xs k e ≡ e
    get_or_read [] k e is = refl
    get_or_read (x ∷ xs) zero e is = cc
    get_or_read (x ∷ xs) (suc k) e is = get_or_read xs k e is
