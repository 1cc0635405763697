-- The invariant of the flow.
use Rattle.std.proofs.Common.{◌≡◌, ◌≢◌, ℕ, zero, suc, ◌+◌, ◌-◌, ◌*◌, ◌<◌, ◌≤◌, ◌⊎◌, inl, inr, List, [], ◌∷◌, ◌++◌, length, arith, refl, sym, ap, subst, subst₂, ◌∙◌, Bool, true, false, ◌↔◌, get_or, slice_index_or, slice_get, Some, Contains, All, length-set, length-append, get_or-set_same, get_or-set_other}
use Rattle.ck_base.specs.BitSet.{BitSet, Has}
use Rattle.lalr_look.specs.within.Flow.{no_set, set_at, JoinedAt, Edge, Flows, own, along, Sent}
use Rattle.lalr_look.specs.within.Rows.{rows_of}
use Rattle.std.proofs.lemmas.List.{get_or-map, length-map, get_or_default}
use Rattle.std.proofs.Common.{Vec, Global}
use Rattle.lalr_look.proofs.Holes.{dec_has, holes, joined_le, joined_lt}
use Rattle.std.proofs.lemmas.List.Elements.{Contains-append_left, Contains-append_right, Contains-append_cases}
use Rattle.std.proofs.lemmas.Option.{slice_get_within, slice_get-get_or, slice_get_read}
use Rattle.std.proofs.Math.ListN.{get_or-eq_default}

-- an edge from k to m waits: k is to be worked on, or it is n's turn and m comes at a later place
pub data Waits (edges : List (List ℕ)) (work : List ℕ) (n i : ℕ) : ℕ → ℕ → Type 0 where
  works : (k m : ℕ) → Contains work k → Waits edges work n i k m
  later : (m j : ℕ) → i ≤ j → slice_get (slice_index_or edges n []) j ≡ Some m → Waits edges work n i n m

-- at the turn of node n, whose edges from the i-th on are still to be gone
pub record Turning (edges : List (List ℕ)) (start sets : List BitSet) (work : List ℕ) (n i : ℕ) : Type 0 where
  pub long : length sets ≡ length start
  pub sizes : (k : ℕ) → k < length start → (set_at sets k).size ≡ (set_at start k).size
  pub within : (k a : ℕ) → Has (set_at sets k) a → Flows edges start k a
  pub kept : (k a : ℕ) → Has (set_at start k) a → Has (set_at sets k) a
  pub nodes : (k : ℕ) → Contains work k → k < length start
  pub settled : (k m a : ℕ) → Edge edges k m → Has (set_at sets k) a → Has (set_at sets m) a ⊎ Waits edges work n i k m

-- the set at `to` after it was joined, and the others
pub set_new : (old new : List BitSet) (from to : ℕ) (b : Bool) → (j : JoinedAt old new from to b) → to < length old
    → set_at new to ≡ j.joined
set_new old new from to b j inside = ap (λ l. set_at l to) j.set ∙ get_or-set_same old to j.joined no_set inside

pub set_other : (old new : List BitSet) (from to : ℕ) (b : Bool) → (j : JoinedAt old new from to b) → (k : ℕ) → k ≢ to
    → set_at new k ≡ set_at old k
set_other old new from to b j k differ = ap (λ l. set_at l k) j.set ∙ get_or-set_other old to k j.joined no_set differ

-- whether two numbers are the same
pub same_or_not : (r s : ℕ) → (r ≡ s) ⊎ (r ≢ s)
same_or_not r s = grind arith

next_place : (i l : ℕ) → i ≤ l → l ≢ i → i + 1 ≤ l
next_place i l le differ = grind arith

-- one edge gone: what a join leaves
pub turn_joined : (edges : List (List ℕ)) (start old new : List BitSet) (before after : List ℕ) (n i m : ℕ) (b : Bool)
    → Turning edges start old before n i → JoinedAt old new n m b → Edge edges n m → m < length start
    → slice_get (slice_index_or edges n []) i ≡ Some m
    → ((k : ℕ) → Contains before k → Contains after k)
    → ((k : ℕ) → Contains after k → k < length start)
    → ((a : ℕ) → Has (set_at new m) a → Has (set_at old m) a) ⊎ Contains after m
    → Turning edges start new after n (i + 1)
turn_joined edges start old new before after n i m b t j edge inside at keeps below news =
    record {
      long = (let l = t.long in let one : length new ≡ length old = ap length j.set ∙ length-set old m j.joined in one ∙ l);
      sizes = sizes_new;
      within = within_new;
      kept = kept_new;
      nodes = below;
      settled = settled_new;
    }
  where
    inside_old : m < length old
    inside_old = let l = t.long in omega (arith, l, inside)

    here : set_at new m ≡ j.joined
    here = set_new old new n m b j inside_old

    sizes_new : (k : ℕ) → k < length start → (set_at new k).size ≡ (set_at start k).size
    sizes_new k low = go (same_or_not k m)
      where
        go : (k ≡ m) ⊎ (k ≢ m) → (set_at new k).size ≡ (set_at start k).size
        go (inl e) = ap (λ x. (set_at new x).size) e ∙ (ap (λ s. s.size) here ∙ (j.adds.size ∙ (t.sizes m inside
            ∙ ap (λ x. (set_at start x).size) (sym e))))
        go (inr e) = ap (λ s. s.size) (set_other old new n m b j k e) ∙ t.sizes k low

    grows : (k a : ℕ) → Has (set_at old k) a → Has (set_at new k) a
    grows k a has = go (same_or_not k m)
      where
        go : (k ≡ m) ⊎ (k ≢ m) → Has (set_at new k) a
        go (inl e) = subst (λ x. Has (set_at new x) a) (sym e)
            (subst (λ s. Has s a) (sym here) (j.adds.kept a (subst (λ x. Has (set_at old x) a) e has)))
        go (inr e) = subst (λ s. Has s a) (sym (set_other old new n m b j k e)) has

    comes : (k a : ℕ) → Has (set_at new k) a → Has (set_at old k) a ⊎ ((k ≡ m) × Has (set_at old n) a)
    comes k a has = go (same_or_not k m)
      where
        new_or_old : k ≡ m → Has (set_at old m) a ⊎ Has (set_at old n) a → Has (set_at old k) a ⊎ ((k ≡ m) × Has (set_at old n) a)
        new_or_old e (inl h) = inl (subst (λ x. Has (set_at old x) a) (sym e) h)
        new_or_old e (inr h) = inr (e, h)

        go : (k ≡ m) ⊎ (k ≢ m) → Has (set_at old k) a ⊎ ((k ≡ m) × Has (set_at old n) a)
        go (inl e) = new_or_old e (j.adds.only a (subst (λ s. Has s a) here (subst (λ x. Has (set_at new x) a) e has)))
        go (inr e) = inl (subst (λ s. Has s a) (set_other old new n m b j k e) has)

    within_new : (k a : ℕ) → Has (set_at new k) a → Flows edges start k a
    within_new k a has = go (comes k a has)
      where
        go : Has (set_at old k) a ⊎ ((k ≡ m) × Has (set_at old n) a) → Flows edges start k a
        go (inl h) = t.within k a h
        go (inr (e, h)) = subst (λ x. Flows edges start x a) (sym e) (along n m a (t.within n a h) edge)

    kept_new : (k a : ℕ) → Has (set_at start k) a → Has (set_at new k) a
    kept_new k a has = grows k a (t.kept k a has)

    turn : (k o a : ℕ) → Has (set_at old k) a → Has (set_at old o) a ⊎ Waits edges before n i k o
        → Has (set_at new o) a ⊎ Waits edges after n (i + 1) k o
    turn k o a has (inl h) = inl (grows o a h)
    turn k o a has (inr (works _ _ c)) = inr (works k o (keeps k c))
    turn k o a has (inr (later _ l le there)) = go (same_or_not l i)
      where
        go : (l ≡ i) ⊎ (l ≢ i) → Has (set_at new o) a ⊎ Waits edges after n (i + 1) n o
        go (inl e) =
            let one : Some o ≡ Some m = sym there ∙ (ap (λ x. slice_get (slice_index_or edges n []) x) e ∙ at) in
            let two : o ≡ m = cc in
            inl (subst (λ x. Has (set_at new x) a) (sym two) (subst (λ s. Has s a) (sym here) (j.adds.more a has)))
        go (inr e) = inr (later o l (next_place i l le e) there)

    settled_new : (k o a : ℕ) → Edge edges k o → Has (set_at new k) a → Has (set_at new o) a ⊎ Waits edges after n (i + 1) k o
    settled_new k o a e has = go (comes k a has) news
      where
        go : Has (set_at old k) a ⊎ ((k ≡ m) × Has (set_at old n) a) → ((a : ℕ) → Has (set_at new m) a → Has (set_at old m) a) ⊎ Contains after m
            → Has (set_at new o) a ⊎ Waits edges after n (i + 1) k o
        go (inl h) either = turn k o a h (t.settled k o a e h)
        go (inr (same, h)) (inl f) =
            let old_has : Has (set_at old k) a = subst (λ x. Has (set_at old x) a) (sym same)
            (f a (subst (λ x. Has (set_at new x) a) same has)) in
            turn k o a old_has (t.settled k o a e old_has)
        go (inr (same, h)) (inr c) = inr (works k o (subst (λ x. Contains after x) (sym same) c))

-- the edge is gone where nothing has to be done
pub turn_same : (edges : List (List ℕ)) (start sets : List BitSet) (work : List ℕ) (n i m : ℕ)
    → Turning edges start sets work n i → ((a : ℕ) → Has (set_at sets n) a → Has (set_at sets m) a)
    → slice_get (slice_index_or edges n []) i ≡ Some m → Turning edges start sets work n (i + 1)
turn_same edges start sets work n i m t flows at =
    record {
      long = t.long;
      sizes = t.sizes;
      within = t.within;
      kept = t.kept;
      nodes = t.nodes;
      settled = λ k o a e has. turn k o a has (t.settled k o a e has);
    }
  where
    turn : (k o a : ℕ) → Has (set_at sets k) a → Has (set_at sets o) a ⊎ Waits edges work n i k o
        → Has (set_at sets o) a ⊎ Waits edges work n (i + 1) k o
    turn k o a has (inl h) = inl h
    turn k o a has (inr (works _ _ c)) = inr (works k o c)
    turn k o a has (inr (later _ l le there)) = go (same_or_not l i)
      where
        go : (l ≡ i) ⊎ (l ≢ i) → Has (set_at sets o) a ⊎ Waits edges work n (i + 1) n o
        go (inl e) =
            let one : Some o ≡ Some m = sym there ∙ (ap (λ x. slice_get (slice_index_or edges n []) x) e ∙ at) in
            let two : o ≡ m = cc in
            inl (subst (λ x. Has (set_at sets x) a) (sym two) (flows a has))
        go (inr e) = inr (later o l (next_place i l le e) there)

lt_or_out : (r s : ℕ) → (r < s) ⊎ (s ≤ r)
lt_or_out r s = grind arith

one_member : (m k : ℕ) → Contains (m ∷ []) k → k ≡ m
one_member m k (zero, low, is) = sym is
one_member m k (suc j, low, is) = absurd (omega (arith, low))

waits_out : (edges : List (List ℕ)) (work : List ℕ) (n i k m : ℕ) → Waits edges work n i k m → n ≡ length edges → Contains work k
waits_out edges work n i k m (works _ _ c) e = c
waits_out edges work n i k m (later _ j le at) e =
    let none : slice_index_or edges n [] ≡ [] = get_or-eq_default edges [] (omega (arith, e)) in
    let low = slice_get_within [] j m (subst (λ (l : List ℕ). slice_get l j ≡ Some m) none at) in
    absurd (omega (arith, low))

waits_end : (edges : List (List ℕ)) (work : List ℕ) (n i k m : ℕ) → Waits edges work n i k m → i ≡ length (slice_index_or edges n []) → Contains work k
waits_end edges work n i k m (works _ _ c) e = c
waits_end edges work n i k m (later _ j le at) e =
    let low = slice_get_within (slice_index_or edges n []) j m at in absurd (omega (arith, low, le, e))

-- one number sent, and how much is left to do
pub sent : (edges : List (List ℕ)) (start old new : List BitSet) (before after : List ℕ) (n i m : ℕ)
    → Turning edges start old before n i → Sent old new before after n m → Edge edges n m → m < length start
    → slice_get (slice_index_or edges n []) i ≡ Some m
    → Turning edges start new after n (i + 1) × (2 * holes new + length after ≤ 2 * holes old + length before)
sent edges start old new before after n i m t (Sent.same e w flows) edge inside at = (
  subst₂ (λ s l. Turning edges start s l n (i + 1)) (sym e) (sym w) (turn_same edges start old before n i m t flows at),
  (let x : holes new ≡ holes old = ap holes e in let y : length after ≡ length before = ap length w in omega (arith, x, y)),
)
sent edges start old new before after n i m t (Sent.joined j w) edge inside at =
    let low : m < length old = (let l = t.long in omega (arith, l, inside)) in
    let here = set_new old new n m false j low in (
      turn_joined edges start old new before after n i m false t j edge inside at
          (λ k c. subst (λ l. Contains l k) (sym w) c) (λ k c. t.nodes k (subst (λ l. Contains l k) w c))
          (inl (λ a h. no_growth a (subst (λ s. Has s a) here h) (dec_has (set_at old m) a))),
      (let x = joined_le old new n m false j low in let y : length after ≡ length before = ap length w in omega (arith, x, y)),
    )
  where
    no_growth : (a : ℕ) → Has j.joined a → Has (set_at old m) a ⊎ (Has (set_at old m) a → ⊥) → Has (set_at old m) a
    no_growth a h (inl old_has) = old_has
    no_growth a h (inr none) = let both : false ≡ true = j.more.1 (a, h, none) in cc
sent edges start old new before after n i m t (Sent.grew j w) edge inside at =
    let low : m < length old = (let l = t.long in omega (arith, l, inside)) in (
      turn_joined edges start old new before after n i m true t j edge inside at
          (λ k c. subst (λ l. Contains l k) (sym w) (Contains-append_left before (m ∷ []) k c))
          (λ k c. known k (Contains-append_cases before (m ∷ []) k (subst (λ l. Contains l k) w c)))
          (inr (subst (λ l. Contains l m) (sym w) (Contains-append_right before (m ∷ []) m (0, omega arith, refl)))),
      (let x = joined_lt old new n m j low in let y : length after ≡ length (before ++ (m ∷ [])) = ap length w in
          let z = length-append before (m ∷ []) in omega (arith, x, y, z)),
    )
  where
    known : (k : ℕ) → Contains before k ⊎ Contains (m ∷ []) k → k < length start
    known k (inl c) = t.nodes k c
    known k (inr c) = let e = one_member m k c in rw e inside

-- the next node's turn
pub popped : (edges : List (List ℕ)) (start sets : List BitSet) (rest : List ℕ) (n : ℕ)
    → Turning edges start sets (rest ++ (n ∷ [])) (length edges) 0 → Turning edges start sets rest n 0
popped edges start sets rest n t =
    record {
      long = t.long;
      sizes = t.sizes;
      within = t.within;
      kept = t.kept;
      nodes = λ k c. t.nodes k (Contains-append_left rest (n ∷ []) k c);
      settled = λ k m a e has. go k m a e (t.settled k m a e has);
    }
  where
    mine : (k m : ℕ) → Edge edges k m → k ≡ n → Waits edges rest n 0 k m
    mine k m (j, low, is) e =
        let at : slice_get (slice_index_or edges k []) j ≡ Some m = slice_get-get_or (slice_index_or edges k []) j m low ∙ ap (λ x. Some x) is in
        subst (λ x. Waits edges rest n 0 x m) (sym e)
        (later m j (omega arith) (subst (λ x. slice_get (slice_index_or edges x []) j ≡ Some m) e at))

    who : (k m : ℕ) → Edge edges k m → Contains rest k ⊎ Contains (n ∷ []) k → Waits edges rest n 0 k m
    who k m e (inl c) = works k m c
    who k m e (inr c) = mine k m e (one_member n k c)

    go : (k m a : ℕ) → Edge edges k m → Has (set_at sets m) a ⊎ Waits edges (rest ++ (n ∷ [])) (length edges) 0 k m
        → Has (set_at sets m) a ⊎ Waits edges rest n 0 k m
    go k m a e (inl h) = inl h
    go k m a e (inr w) = inr (who k m e (Contains-append_cases rest (n ∷ []) k (waits_out edges (rest ++ (n ∷ [])) (length edges) 0 k m w refl)))

pub row_done : (edges : List (List ℕ)) (start sets : List BitSet) (work : List ℕ) (n : ℕ)
    → Turning edges start sets work n (length (slice_index_or edges n [])) → Turning edges start sets work (length edges) 0
row_done edges start sets work n t =
    record {
      long = t.long;
      sizes = t.sizes;
      within = t.within;
      kept = t.kept;
      nodes = t.nodes;
      settled = λ k m a e has. go k m a (t.settled k m a e has);
    }
  where
    go : (k m a : ℕ) → Has (set_at sets m) a ⊎ Waits edges work n (length (slice_index_or edges n [])) k m
        → Has (set_at sets m) a ⊎ Waits edges work (length edges) 0 k m
    go k m a (inl h) = inl h
    go k m a (inr w) = inr (works k m (waits_end edges work n (length (slice_index_or edges n [])) k m w refl))

-- with no work left nothing flows any more
pub flowed : (edges : List (List ℕ)) (start sets : List BitSet) → Turning edges start sets [] (length edges) 0
    → (n a : ℕ) → Has (set_at sets n) a ↔ Flows edges start n a
flowed edges start sets t n a = (t.within n a, there n a)
  where
    there : (n a : ℕ) → Flows edges start n a → Has (set_at sets n) a
    there n a (own _ _ has) = t.kept n a has
    there n a (along k _ _ flows edge) = go (t.settled k n a edge (there k a flows))
      where
        go : Has (set_at sets n) a ⊎ Waits edges [] (length edges) 0 k n → Has (set_at sets n) a
        go (inl h) = h
        go (inr w) = let (j, low, is) = waits_out edges [] (length edges) 0 k n w refl in absurd (omega (arith, low))

-- the beginning: every node waits
pub all_wait : (edges : List (List ℕ)) (start : List BitSet) (work : List ℕ) → length edges ≡ length start
    → ((k : ℕ) → Contains work k ↔ (k < length start)) → Turning edges start start work (length edges) 0
all_wait edges start work long has =
    record {
      long = refl;
      sizes = λ k low. refl;
      within = λ n a h. own n a h;
      kept = λ n a h. h;
      nodes = λ k c. (has k).0 c;
      settled = λ k m a e h. inr (works k m ((has k).1 (inside k m e)));
    }
  where
    inside : (k m : ℕ) → Edge edges k m → k < length start
    inside k m (j, low, is) = go (lt_or_out k (length start))
      where
        go : (k < length start) ⊎ (length start ≤ k) → k < length start
        go (inl h) = h
        go (inr h) =
            let none : slice_index_or edges k [] ≡ [] = get_or-eq_default edges [] (omega (arith, long, h)) in
            let short : length (slice_index_or edges k []) ≡ 0 = ap length none in
            absurd (omega (arith, low, short))

-- the row of a node
pub row_is : (rows : List (Vec ℕ Global)) (n : ℕ) (row : Vec ℕ Global) → n < length rows → row ≡ get_or rows n row
    → slice_index_or (rows_of rows) n [] ≡ row.items
row_is rows n row low is = get_or-map (λ r. r.items) rows n row [] low ∙ ap (λ r. r.items) (sym is)

pub counted : (rows : List (Vec ℕ Global)) → length (rows_of rows) ≡ length rows
counted rows = length-map rows (λ r. r.items)

-- one number more on the first list of work, which has the highest ones so far
pub one_lower : (work : List ℕ) (count turn : ℕ) → turn < count → ((k : ℕ) → Contains work k ↔ ((count ≤ k + turn) × (k < count)))
    → (k : ℕ) → Contains (work ++ ((count - turn - 1) ∷ [])) k ↔ ((count ≤ k + (turn + 1)) × (k < count))
one_lower work count turn low has k =
    (λ c. there (Contains-append_cases work ((count - turn - 1) ∷ []) k c), λ (lower, upper). back upper (which k lower))
  where
    there : Contains work k ⊎ Contains ((count - turn - 1) ∷ []) k → (count ≤ k + (turn + 1)) × (k < count)
    there (inl c) = let (lower, upper) = (has k).0 c in (omega (arith, lower), upper)
    there (inr c) = let e = one_member (count - turn - 1) k c in (omega (arith, e, low), omega (arith, e, low))

    which : (k : ℕ) → count ≤ k + (turn + 1) → (count ≤ k + turn) ⊎ (k ≡ count - turn - 1)
    which k lower = grind (arith, lower, low)

    back : k < count → (count ≤ k + turn) ⊎ (k ≡ count - turn - 1) → Contains (work ++ ((count - turn - 1) ∷ [])) k
    back upper (inl lower) = Contains-append_left work ((count - turn - 1) ∷ []) k ((has k).1 (lower, upper))
    back upper (inr e) = Contains-append_right work ((count - turn - 1) ∷ []) k (0, omega arith, sym e)

pub same_sizes : (edges : List (List ℕ)) (start sets : List BitSet) (work : List ℕ) (n i : ℕ) → Turning edges start sets work n i
    → (size : ℕ) → All (λ set. set.size ≡ size) start → All (λ set. set.size ≡ size) sets
same_sizes edges start sets work n i t size are k d low =
    let l = t.long in
    let e = get_or_default sets k d no_set low in
    let inside : k < length start = omega (arith, l, low) in
    ap (λ s. s.size) e ∙ (t.sizes k inside ∙ are k no_set inside)

pub low_node : (edges : List (List ℕ)) (start sets : List BitSet) (work rest : List ℕ) (n : ℕ) → Turning edges start sets work (length edges) 0
    → work ≡ rest ++ (n ∷ []) → n < length start
low_node edges start sets work rest n t is =
    t.nodes n (subst (λ l. Contains l n) (sym is) (Contains-append_right rest (n ∷ []) n (0, omega arith, refl)))

-- the node's edge at place i
pub edge_at : (rows : List (Vec ℕ Global)) (n i m : ℕ) (row : Vec ℕ Global) → n < length rows → row ≡ get_or rows n row
    → i < length row.items → m ≡ get_or row.items i m
    → (slice_get (slice_index_or (rows_of rows) n []) i ≡ Some m) × Edge (rows_of rows) n m
edge_at rows n i m row low is inside there =
    let same = row_is rows n row low is in
    let at : slice_get row.items i ≡ Some m = slice_get_read row.items (length row.items) i m refl inside there in (
      subst (λ l. slice_get l i ≡ Some m) (sym same) at,
      subst (λ l. Contains l m) (sym same) (i, inside, sym there),
    )
