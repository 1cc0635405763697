-- Graphs that grow.
use Rattle.std.proofs.Common.{◌≡◌, ◌≢◌, ℕ, zero, suc, ◌+◌, ◌<◌, ◌↔◌, ◌⊎◌, inl, inr, List, [], ◌∷◌, ◌++◌, length, refl, sym, ap, subst, ◌∙◌, arith, slice_get, Some, get_or, All, slice_index_or, slice_set, length-append, Vec, Global}
use Rattle.std.proofs.lemmas.List.{get_or_default, length-map}
use Rattle.std.proofs.lemmas.List.Elements.{All-append, All-cons}
use Rattle.ck_base.specs.BitSet.{BitSet, Has, Adds, IsEmpty}
use Rattle.lalr_look.specs.declared.graph.Graph.{Graph}
use Rattle.lalr_look.specs.within.Flow.{Edge, set_at, no_set}
use Rattle.lalr_look.specs.within.Rows.{rows_of, Pushes}
use Rattle.lalr_look.specs.within.Graph.{Gains, InSet, SetsGrow, EdgesGrow, Grows, IsSized, OfFirst, OfBelow}
use Rattle.lalr_look.proofs.Turns.{this_or_less}
use Rattle.lalr_look.proofs.Grown.{at_end}
use Rattle.lalr_look.proofs.RowsChanged.{same_or_other}
use Rattle.lalr_look.proofs.CallGraph.{edge_pushed}

-- relations
pub gains_none : (R : ℕ → ℕ → Type 0) → Gains R R (λ _ _. ⊥)
gains_none R = record { only = λ k a h. inl h; kept = λ k a h. h; more = λ k a h. absurd h }

pub gains_then : (A B C P Q : ℕ → ℕ → Type 0) → Gains A B P → Gains B C Q → Gains A C (λ k a. P k a ⊎ Q k a)
gains_then A B C P Q t u =
    record { only = λ k a h. first k a (u.only k a h); kept = λ k a h. u.kept k a (t.kept k a h); more = more }
  where
    then_ : (k a : ℕ) → A k a ⊎ P k a → A k a ⊎ (P k a ⊎ Q k a)
    then_ k a (inl h) = inl h
    then_ k a (inr h) = inr (inl h)

    first : (k a : ℕ) → B k a ⊎ Q k a → A k a ⊎ (P k a ⊎ Q k a)
    first k a (inl h) = then_ k a (t.only k a h)
    first k a (inr h) = inr (inr h)

    more : (k a : ℕ) → P k a ⊎ Q k a → C k a
    more k a (inl h) = u.kept k a (t.more k a h)
    more k a (inr h) = u.more k a h

pub gains_same : (A B P Q : ℕ → ℕ → Type 0) → Gains A B P → ((k a : ℕ) → P k a ↔ Q k a) → Gains A B Q
gains_same A B P Q t same =
    record { only = λ k a h. go k a (t.only k a h); kept = t.kept; more = λ k a h. t.more k a ((same k a).1 h) }
  where
    go : (k a : ℕ) → A k a ⊎ P k a → A k a ⊎ Q k a
    go k a (inl h) = inl h
    go k a (inr h) = inr ((same k a).0 h)

-- what a relation that had nothing has after it grew
pub gains_all : (A B P : ℕ → ℕ → Type 0) → ((k a : ℕ) → A k a → ⊥) → Gains A B P → (k a : ℕ) → B k a ↔ P k a
gains_all A B P none t k a = (λ h. go (t.only k a h), λ h. t.more k a h)
  where
    go : A k a ⊎ P k a → P k a
    go (inl h) = absurd (none k a h)
    go (inr h) = h

-- sets
set_here : (sets : List BitSet) (k : ℕ) (set : BitSet) → k < length sets → set_at (slice_set sets k set) k ≡ set
set_here [] k set low = absurd (omega (arith, low))
set_here (s ∷ sets) zero set low = refl
set_here (s ∷ sets) (suc k) set low = set_here sets k set (omega (arith, low))

set_elsewhere : (sets : List BitSet) (k i : ℕ) (set : BitSet) → i ≢ k → set_at (slice_set sets k set) i ≡ set_at sets i
set_elsewhere [] k i set differ = refl
set_elsewhere (s ∷ sets) zero zero set differ = absurd (differ refl)
set_elsewhere (s ∷ sets) zero (suc i) set differ = refl
set_elsewhere (s ∷ sets) (suc k) zero set differ = refl
set_elsewhere (s ∷ sets) (suc k) (suc i) set differ = set_elsewhere sets k i set (λ e. differ (ap suc e))

set_count : (sets : List BitSet) (k : ℕ) (set : BitSet) → length (slice_set sets k set) ≡ length sets
set_count [] k set = refl
set_count (s ∷ sets) zero set = refl
set_count (s ∷ sets) (suc k) set = ap suc (set_count sets k set)

pub size_at : (sets : List BitSet) (k size : ℕ) → k < length sets → All (λ set. set.size ≡ size) sets → (set_at sets k).size ≡ size
size_at sets k size low all = all k no_set low

pub set_grows : (sets : List BitSet) (k : ℕ) (set : BitSet) (P : ℕ → Type 0) → k < length sets → Adds (set_at sets k) set P
    → SetsGrow sets (slice_set sets k set) (λ j a. (j ≡ k) × P a)
set_grows sets k set P low adds =
    record {
      count = set_count sets k set;
      sizes = sizes;
      gains = record { only = λ j a h. only j a h (same_or_other j k); kept = λ j a h. kept j a h (same_or_other j k); more = more };
    }
  where
    sizes : (size : ℕ) → All (λ set. set.size ≡ size) sets → (i : ℕ) (d : BitSet) → i < length (slice_set sets k set) → (get_or (slice_set sets k set) i d).size ≡ size
    sizes size all i d under = go (same_or_other i k)
      where
        inside : i < length sets
        inside = let e = set_count sets k set in omega (arith, under, e)

        at : (l : List BitSet) → i < length l → get_or l i d ≡ set_at l i
        at l within = get_or_default l i d no_set within

        go : (i ≡ k) ⊎ (i ≢ k) → (get_or (slice_set sets k set) i d).size ≡ size
        go (inl e) = ap (λ s. s.size) (at (slice_set sets k set) under ∙ (ap (set_at (slice_set sets k set)) e ∙ set_here sets k set low)) ∙ (adds.size ∙ size_at sets k size low all)
        go (inr differ) = ap (λ s. s.size) (at (slice_set sets k set) under ∙ set_elsewhere sets k i set differ) ∙ size_at sets i size inside all

    only : (j a : ℕ) → InSet (slice_set sets k set) j a → (j ≡ k) ⊎ (j ≢ k) → InSet sets j a ⊎ ((j ≡ k) × P a)
    only j a h (inr differ) = inl (subst (λ s. Has s a) (set_elsewhere sets k j set differ) h)
    only j a h (inl e) = go (adds.only a (subst (λ s. Has s a) (ap (set_at (slice_set sets k set)) e ∙ set_here sets k set low) h))
      where
        go : Has (set_at sets k) a ⊎ P a → InSet sets j a ⊎ ((j ≡ k) × P a)
        go (inl g) = inl (subst (λ i. InSet sets i a) (sym e) g)
        go (inr g) = inr (e, g)

    kept : (j a : ℕ) → InSet sets j a → (j ≡ k) ⊎ (j ≢ k) → InSet (slice_set sets k set) j a
    kept j a h (inr differ) = subst (λ s. Has s a) (sym (set_elsewhere sets k j set differ)) h
    kept j a h (inl e) = subst (λ i. InSet (slice_set sets k set) i a) (sym e)
        (subst (λ s. Has s a) (sym (set_here sets k set low)) (adds.kept a (subst (λ i. InSet sets i a) e h)))

    more : (j a : ℕ) → (j ≡ k) × P a → InSet (slice_set sets k set) j a
    more j a (e, p) = subst (λ i. InSet (slice_set sets k set) i a) (sym e) (subst (λ s. Has s a) (sym (set_here sets k set low)) (adds.more a p))

pub sets_none : (sets : List BitSet) → SetsGrow sets sets (λ _ _. ⊥)
sets_none sets = record { count = refl; sizes = λ size all. all; gains = gains_none (InSet sets) }

pub sets_then : (a b c : List BitSet) (P Q : ℕ → ℕ → Type 0) → SetsGrow a b P → SetsGrow b c Q → SetsGrow a c (λ k n. P k n ⊎ Q k n)
sets_then a b c P Q t u =
    record { count = u.count ∙ t.count; sizes = λ size all. u.sizes size (t.sizes size all); gains = gains_then (InSet a) (InSet b) (InSet c) P Q t.gains u.gains }

pub sets_same : (a b : List BitSet) (P Q : ℕ → ℕ → Type 0) → SetsGrow a b P → ((k n : ℕ) → P k n ↔ Q k n) → SetsGrow a b Q
sets_same a b P Q t same = record { count = t.count; sizes = t.sizes; gains = gains_same (InSet a) (InSet b) P Q t.gains same }

-- one empty set more
pub one_empty : (sets after : List BitSet) (set : BitSet) (size count : ℕ) → length sets ≡ count → All (λ s. s.size ≡ size) sets
    → ((k a : ℕ) → InSet sets k a → ⊥) → set.size ≡ size → IsEmpty set → after ≡ sets ++ (set ∷ [])
    → (length after ≡ count + 1) × All (λ s. s.size ≡ size) after × ((k a : ℕ) → InSet after k a → ⊥)
one_empty sets after set size count long sizes none wide empty e = (
  ap length e ∙ length-append sets (set ∷ []) ∙ ap (λ l. l + 1) long,
  subst (λ l. All (λ s. s.size ≡ size) l) (sym e) (All-append (λ s. s.size ≡ size) sets (set ∷ []) sizes (All-cons (λ s. s.size ≡ size) set [] wide (λ k d under. absurd (omega (arith, under))))),
  λ k a h. go k a (subst (λ l. InSet l k a) e h) (at_end sets set no_set k),
)
  where
    go : (k a : ℕ) → InSet (sets ++ (set ∷ [])) k a
        → ((k ≡ length sets) × (slice_index_or (sets ++ (set ∷ [])) k no_set ≡ set)) ⊎ ((k ≢ length sets) × (slice_index_or (sets ++ (set ∷ [])) k no_set ≡ slice_index_or sets k no_set)) → ⊥
    go k a h (inl (at, is)) = empty a (subst (λ s. Has s a) is h)
    go k a h (inr (at, is)) = none k a (subst (λ s. Has s a) is h)

-- edges
pub edges_none : (edges : List (List ℕ)) → EdgesGrow edges edges (λ _ _. ⊥)
edges_none edges = record { count = refl; gains = gains_none (Edge edges) }

pub edges_push : (old new : List (List ℕ)) (from to : ℕ) → Pushes old new from to → EdgesGrow old new (λ k j. (k ≡ from) × (j ≡ to))
edges_push old new from to t =
    let added = edge_pushed old new from to t in
    record { count = t.size; gains = record { only = added.only; kept = added.kept; more = more } }
  where
    more : (k j : ℕ) → (k ≡ from) × (j ≡ to) → Edge new k j
    more k j (e, f) = subst (λ i. Edge new i j) (sym e) (subst (λ i. Edge new from i) (sym f) (edge_pushed old new from to t).more)

pub edges_then : (a b c : List (List ℕ)) (P Q : ℕ → ℕ → Type 0) → EdgesGrow a b P → EdgesGrow b c Q → EdgesGrow a c (λ k n. P k n ⊎ Q k n)
edges_then a b c P Q t u = record { count = u.count ∙ t.count; gains = gains_then (Edge a) (Edge b) (Edge c) P Q t.gains u.gains }

pub edges_same : (a b : List (List ℕ)) (P Q : ℕ → ℕ → Type 0) → EdgesGrow a b P → ((k n : ℕ) → P k n ↔ Q k n) → EdgesGrow a b Q
edges_same a b P Q t same = record { count = t.count; gains = gains_same (Edge a) (Edge b) P Q t.gains same }

-- graphs
pub grows_none : (a : Graph) → Grows a a (λ _ _. ⊥) (λ _ _. ⊥)
grows_none a = record { edges = edges_none (rows_of a.edges.items); sets = sets_none a.sets.items }

pub grows_then : (a b c : Graph) (P Q R S : ℕ → ℕ → Type 0) → Grows a b P Q → Grows b c R S → Grows a c (λ k n. P k n ⊎ R k n) (λ k n. Q k n ⊎ S k n)
grows_then a b c P Q R S t u =
    record {
      edges = edges_then (rows_of a.edges.items) (rows_of b.edges.items) (rows_of c.edges.items) P R t.edges u.edges;
      sets = sets_then a.sets.items b.sets.items c.sets.items Q S t.sets u.sets;
    }

pub grows_same : (a b : Graph) (P Q R S : ℕ → ℕ → Type 0) → Grows a b P Q → ((k n : ℕ) → P k n ↔ R k n) → ((k n : ℕ) → Q k n ↔ S k n) → Grows a b R S
grows_same a b P Q R S t f h =
    record {
      edges = edges_same (rows_of a.edges.items) (rows_of b.edges.items) P R t.edges f;
      sets = sets_same a.sets.items b.sets.items Q S t.sets h;
    }

-- what is known of the sizes stays so
pub sized_still : (a b : Graph) (P Q : ℕ → ℕ → Type 0) (nodes size : ℕ) → Grows a b P Q → IsSized nodes size a → IsSized nodes size b
sized_still a b P Q nodes size t s =
    record { edges = same_count a b t.edges.count ∙ s.edges; sets = t.sets.count ∙ s.sets; sizes = t.sets.sizes size s.sizes }
  where
    same_count : (a b : Graph) → length (rows_of b.edges.items) ≡ length (rows_of a.edges.items) → length b.edges.items ≡ length a.edges.items
    same_count a b e = sym (length-map b.edges.items (λ r. r.items)) ∙ (e ∙ length-map a.edges.items (λ r. r.items))

-- one value of a list more
pub first_none : {X : Type 0} (P : X → ℕ → ℕ → Type 0) (xs : List X) (k a : ℕ) → ⊥ ↔ OfFirst P xs 0 k a
first_none P xs k a = (λ h. absurd h, λ h. (let low = h.2 in omega (arith, low)))

pub first_next : {X : Type 0} (P : X → ℕ → ℕ → Type 0) (xs : List X) (i : ℕ) (x : X) → slice_get xs i ≡ Some x
    → (k a : ℕ) → (OfFirst P xs i k a ⊎ P x k a) ↔ OfFirst P xs (i + 1) k a
first_next {X} P xs i x at k a = (only, back)
  where
    only : OfFirst P xs i k a ⊎ P x k a → OfFirst P xs (i + 1) k a
    only (inl (j, y, low, is, p)) = (j, y, omega (arith, low), is, p)
    only (inr p) = (i, x, omega arith, at, p)

    back : OfFirst P xs (i + 1) k a → OfFirst P xs i k a ⊎ P x k a
    back (j, y, low, is, p) = go (this_or_less j i low)
      where
        go : (j < i) ⊎ (j ≡ i) → OfFirst P xs i k a ⊎ P x k a
        go (inl less) = inl (j, y, less, is, p)
        go (inr e) = (let same : Some y ≡ Some x = sym is ∙ (ap (slice_get xs) e ∙ at) in let one : y ≡ x = cc in inr (subst (λ z. P z k a) one p))

pub below_none : (P : ℕ → ℕ → ℕ → Type 0) (k a : ℕ) → ⊥ ↔ OfBelow P 0 k a
below_none P k a = (λ h. absurd h, λ h. (let low = h.1 in omega (arith, low)))

pub below_next : (P : ℕ → ℕ → ℕ → Type 0) (i k a : ℕ) → (OfBelow P i k a ⊎ P i k a) ↔ OfBelow P (i + 1) k a
below_next P i k a = (only, back)
  where
    only : OfBelow P i k a ⊎ P i k a → OfBelow P (i + 1) k a
    only (inl (n, low, p)) = (n, omega (arith, low), p)
    only (inr p) = (i, omega arith, p)

    back : OfBelow P (i + 1) k a → OfBelow P i k a ⊎ P i k a
    back (n, low, p) = go (this_or_less n i low)
      where
        go : (n < i) ⊎ (n ≡ i) → OfBelow P i k a ⊎ P i k a
        go (inl less) = inl (n, less, p)
        go (inr e) = inr (subst (λ z. P z k a) e p)

-- the edge to what is called, where the rest can vanish, and what the rest begins with
pub called_grows : (a b : Graph) (sets : Vec BitSet Global) (from to : ℕ) (V : Type 0) (F : ℕ → Type 0) → V
    → SetsGrow a.sets.items sets.items (λ k z. (k ≡ to) × F z)
    → Grows (record { edges = a.edges; sets = sets }) b (λ k j. (k ≡ from) × (j ≡ to)) (λ _ _. ⊥)
    → Grows a b (λ k j. (k ≡ from) × (j ≡ to) × V) (λ k z. (k ≡ to) × F z)
called_grows a b sets from to V F v t u =
    record {
      edges = edges_same (rows_of a.edges.items) (rows_of b.edges.items) (λ k j. (k ≡ from) × (j ≡ to)) (λ k j. (k ≡ from) × (j ≡ to) × V) u.edges
          (λ k j. (λ h. (h.0, h.1, v), λ h. (h.0, h.1)));
      sets = sets_same a.sets.items b.sets.items (λ k z. ((k ≡ to) × F z) ⊎ ⊥) (λ k z. (k ≡ to) × F z)
          (sets_then a.sets.items sets.items b.sets.items (λ k z. (k ≡ to) × F z) (λ _ _. ⊥) t u.sets) (λ k z. (λ h. one k z h, λ h. inl h));
    }
  where
    one : (k z : ℕ) → ((k ≡ to) × F z) ⊎ ⊥ → (k ≡ to) × F z
    one k z (inl h) = h
    one k z (inr h) = absurd h

pub stays_grows : (a : Graph) (edges : Vec (Vec ℕ Global) Global) (sets : Vec BitSet Global) (from to : ℕ) (V : Type 0) (F : ℕ → Type 0) → (V → ⊥)
    → SetsGrow a.sets.items sets.items (λ k z. (k ≡ to) × F z)
    → Grows a (record { edges = a.edges; sets = sets }) (λ k j. (k ≡ from) × (j ≡ to) × V) (λ k z. (k ≡ to) × F z)
stays_grows a edges sets from to V F no_v t =
    record {
      edges = edges_same (rows_of a.edges.items) (rows_of a.edges.items) (λ _ _. ⊥) (λ k j. (k ≡ from) × (j ≡ to) × V) (edges_none (rows_of a.edges.items))
          (λ k j. (λ h. absurd h, λ h. no_v h.2));
      sets = t;
    }
