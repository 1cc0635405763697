-- Nodes of items, targets of moves, and sets of nodes, gathered item by item.
use Rattle.std.proofs.Common.{◌≡◌, ◌≢◌, ℕ, zero, suc, ◌+◌, ◌<◌, ◌≤◌, ◌↔◌, ◌⊎◌, inl, inr, List, [], ◌∷◌, ◌++◌, length, refl, sym, ap, subst, ◌∙◌, arith, slice_get, slice_set, Some, get_or, All, Contains, length-append, slice_index_or, Vec, Global}
use Rattle.std.proofs.lemmas.List.{map-append}
use Rattle.std.proofs.lemmas.List.Elements.{Contains-append_left, Contains-append_right}
use Rattle.std.proofs.lemmas.Option.{slice_get-get_or, slice_get_within, get_or_from_slice_get}
use Rattle.ck_base.specs.BitSet.{BitSet, Has}
use Rattle.cfg_model.specs.declared.symbol.Sym.{Sym}
use Rattle.cfg_model.specs.declared.symbol.Sym.TheVariants.{N}
use Rattle.cfg_model.specs.Cfg.{Cfg, IsSymbol, IsGrammar}
use Rattle.cfg_model.specs.Sets.{AllProductive}
use Rattle.cfg_model.specs.Valid.{InCore, Look}
use Rattle.cfg_model.specs.Cores.{CoreList, items_at, moves_at, IsCore, IsCores}
use Rattle.lalr_look.specs.declared.graph.Graph.{Graph}
use Rattle.lalr_look.specs.within.Flow.{Edge, Flows, no_set, set_at}
use Rattle.lalr_look.specs.within.Rows.{rows_of}
use Rattle.lalr_look.specs.within.Numbered.{Interns}
use Rattle.lalr_look.specs.within.Kernel.{place_of, AreShort}
use Rattle.lalr_look.specs.Promise.{sets_of, sets_at, AreLookaheads}
use Rattle.lalr_look.specs.within.Graph.{Grows, InSet, OfFirst, OfBelow}
use Rattle.lalr_look.specs.within.LookGraph.{slot_of, OwnBy, LeadsBy, OwnIn, LeadsIn, Own, Leads, AreNodes, IsNode, IsNodeSet, AreNodeSets}
use Rattle.lalr_look.proofs.Turns.{this_or_less, contained, placed}
use Rattle.lalr_look.proofs.Grown.{at_end}
use Rattle.cfg_model.specs.Valid.{Valid}
use Rattle.cfg_model.proofs.ItemsOfCores.{item_of}
use Rattle.lalr_look.proofs.OfPrefix.{symbol_one, symbol_after}
use Rattle.lalr_look.proofs.RowsChanged.{same_or_other}
use Rattle.lalr_look.proofs.Numbering.{value_of_longer}
use Rattle.lalr_look.proofs.Growth.{gains_all, first_next, below_next, grows_same, grows_then, grows_none, below_none, first_none}
use Rattle.lalr_look.proofs.Demands.{rule_fits, dot_fits, node_is}
use Rattle.lalr_look.proofs.Looking.{LookGraph, flows_look, row_low, row_inside}

pub interned : {X : Type 0} (old new : List X) (x : X) (n : ℕ) → Interns old new x n → ((y : X) → Contains old y → Contains new y) × Contains new x
interned old new x n (Interns.known e at) =
    (λ y h. subst (λ l. Contains l y) (sym e) h, subst (λ l. Contains l x) (sym e) (contained old n x at))
interned old new x n (Interns.added absent e at) = (
  λ y h. subst (λ l. Contains l y) (sym e) (Contains-append_left old (x ∷ []) y h),
  subst (λ l. Contains l x) (sym e) (Contains-append_right old (x ∷ []) x (0, omega arith, refl)),
)

abbrev pub NodesSoFar : Cfg → ℕ → List (ℕ × ℕ) → ℕ → List (ℕ × ℕ) → Type 0
NodesSoFar g core items i nodes =
    (j r d : ℕ) → j < i → slice_get items j ≡ Some (r, d) → Contains nodes (core, slot_of g r d)

pub nodes_next : (g : Cfg) (core : ℕ) (items : List (ℕ × ℕ)) (i : ℕ) (dflt : ℕ × ℕ) (first old new : List (ℕ × ℕ)) (s n : ℕ) → i < length items
    → ((node : ℕ × ℕ) → Contains first node → Contains old node) × NodesSoFar g core items i old
    → s ≡ slot_of g ((get_or items i dflt).0) ((get_or items i dflt).1) → Interns old new (core, s) n
    → ((node : ℕ × ℕ) → Contains first node → Contains new node) × NodesSoFar g core items (i + 1) new
nodes_next g core items i dflt first old new s n low (kept, so_far) e interns =
    let (more, this) = interned old new (core, s) n interns in
    (λ node h. more node (kept node h), λ j r d less at. go j r d more this at (this_or_less j i less))
  where
    go : (j r d : ℕ) → ((y : ℕ × ℕ) → Contains old y → Contains new y) → Contains new (core, s) → slice_get items j ≡ Some (r, d)
        → (j < i) ⊎ (j ≡ i) → Contains new (core, slot_of g r d)
    go j r d more this at (inl less) = more (core, slot_of g r d) (so_far j r d less at)
    go j r d more this at (inr same) =
        let here = slice_get-get_or items i dflt low in
        let both : Some (get_or items i dflt) ≡ Some (r, d) = sym here ∙ (ap (slice_get items) (sym same) ∙ at) in
        let pair : ◌≡◌ {A = ℕ × ℕ} (get_or items i dflt) (r, d) = cc in
        subst (λ k. Contains new (core, k)) (e ∙ ap (λ p. slot_of g (p.0) (p.1)) pair) this

pub nodes_all : (g : Cfg) (core : ℕ) (items : List (ℕ × ℕ)) (i : ℕ) (nodes : List (ℕ × ℕ)) → length items ≤ i → NodesSoFar g core items i nodes
    → (r d : ℕ) → Contains items (r, d) → Contains nodes (core, slot_of g r d)
nodes_all g core items i nodes all so_far r d (j, low, is) = so_far j r d (omega (arith, low, all)) (placed items j (r, d) low is)

-- targets
get_set_here : (l : List ℕ) (k v : ℕ) → k < length l → slice_get (slice_set l k v) k ≡ Some v
get_set_here [] k v low = absurd (omega (arith, low))
get_set_here (x ∷ l) zero v low = refl
get_set_here (x ∷ l) (suc k) v low = get_set_here l k v (omega (arith, low))

get_set_elsewhere : (l : List ℕ) (k i v : ℕ) → i ≢ k → slice_get (slice_set l k v) i ≡ slice_get l i
get_set_elsewhere [] k i v differ = refl
get_set_elsewhere (x ∷ l) zero zero v differ = absurd (differ refl)
get_set_elsewhere (x ∷ l) zero (suc i) v differ = refl
get_set_elsewhere (x ∷ l) (suc k) zero v differ = refl
get_set_elsewhere (x ∷ l) (suc k) (suc i) v differ = get_set_elsewhere l k i v (λ e. differ (ap suc e))

set_length : (l : List ℕ) (k v : ℕ) → length (slice_set l k v) ≡ length l
set_length [] k v = refl
set_length (x ∷ l) zero v = refl
set_length (x ∷ l) (suc k) v = ap suc (set_length l k v)

abbrev pub TargetsSoFar : Cfg → List (Sym × ℕ) → ℕ → List ℕ → Type 0
TargetsSoFar g moves i targets =
    (j : ℕ) (x : Sym) (o : ℕ) → j < i → slice_get moves j ≡ Some (x, o) → slice_get targets (place_of g x) ≡ Some o

pub targets_next : (g : Cfg) (moves : List (Sym × ℕ)) (targets : List ℕ) (i p count : ℕ) (m : Sym × ℕ) → slice_get moves i ≡ Some m
    → All (λ m. IsSymbol g m.0) moves → ((x : Sym) (o m : ℕ) → Contains moves (x, o) → Contains moves (x, m) → o ≡ m)
    → p ≡ place_of g (m.0) → p < length targets → (length targets ≡ count) × TargetsSoFar g moves i targets
    → (length (slice_set targets p (m.1)) ≡ count) × TargetsSoFar g moves (i + 1) (slice_set targets p (m.1))
targets_next g moves targets i p count m at all one place low (long, so_far) =
    (set_length targets p (m.1) ∙ long, λ j x o less is. go j x o is (this_or_less j i less) (same_or_other (place_of g x) p))
  where
    symbol_at_place : (j : ℕ) (y : Sym × ℕ) → slice_get moves j ≡ Some y → IsSymbol g (y.0)
    symbol_at_place j y is = subst (λ z. IsSymbol g (z.0)) (get_or_from_slice_get moves j y y is) (all j y (slice_get_within moves j y is))

    go : (j : ℕ) (x : Sym) (o : ℕ) → slice_get moves j ≡ Some (x, o) → (j < i) ⊎ (j ≡ i) → (place_of g x ≡ p) ⊎ (place_of g x ≢ p)
        → slice_get (slice_set targets p (m.1)) (place_of g x) ≡ Some o
    go j x o is (inl less) (inr differ) = get_set_elsewhere targets p (place_of g x) (m.1) differ ∙ so_far j x o less is
    go j x o is w (inl e) =
        let same = symbol_one g x (m.0) (symbol_at_place j (x, o) is) (symbol_at_place i m at) (e ∙ place) in
        let target = one x o (m.1) (contained moves j (x, o) is) (subst (λ z. Contains moves (z, m.1)) (sym same) (contained moves i m at)) in
        ap (slice_get (slice_set targets p (m.1))) e ∙ (get_set_here targets p (m.1) low ∙ ap (λ z. Some z) (sym target))
    go j x o is (inr same) (inr differ) =
        let both : Some m ≡ Some (x, o) = sym at ∙ (ap (slice_get moves) (sym same) ∙ is) in
        let pair : ◌≡◌ {A = Sym × ℕ} m (x, o) = cc in
        absurd (differ (sym (place ∙ ap (λ z. place_of g (z.0)) pair)))

pub targets_all : (g : Cfg) (moves : List (Sym × ℕ)) (i : ℕ) (targets : List ℕ) → length moves ≤ i → TargetsSoFar g moves i targets
    → (x : Sym) (o : ℕ) → Contains moves (x, o) → slice_get targets (place_of g x) ≡ Some o
targets_all g moves i targets all so_far x o (j, low, is) = so_far j x o (omega (arith, low, all)) (placed moves j (x, o) low is)

-- sets of nodes
abbrev pub SetsSoFar : Cfg → List (ℕ × ℕ) → List BitSet → ℕ → List (ℕ × ℕ) → List BitSet → Type 0
SetsSoFar g nodes sets core items looks =
    (i r d : ℕ) (set : BitSet) → slice_get items i ≡ Some (r, d) → slice_get looks i ≡ Some set → IsNodeSet g nodes sets core r d set

pub sets_next : (g : Cfg) (nodes : List (ℕ × ℕ)) (sets : List BitSet) (core : ℕ) (items : List (ℕ × ℕ)) (i : ℕ) (item : ℕ × ℕ) (looks after : List BitSet) (set : BitSet)
    → slice_get items i ≡ Some item → IsNodeSet g nodes sets core (item.0) (item.1) set → after ≡ looks ++ (set ∷ [])
    → (length looks ≡ i) × SetsSoFar g nodes sets core items looks → (length after ≡ i + 1) × SetsSoFar g nodes sets core items after
sets_next g nodes sets core items i item looks after set at is e (long, so_far) = (
  ap length e ∙ (length-append looks (set ∷ []) ∙ ap (λ n. n + 1) long),
  λ j r d other at_j there. go j r d other at_j (value_of_longer looks set other j (subst (λ l. slice_get l j ≡ Some other) e there)),
)
  where
    go : (j r d : ℕ) (other : BitSet) → slice_get items j ≡ Some (r, d) → (slice_get looks j ≡ Some other) ⊎ ((j ≡ length looks) × (set ≡ other)) → IsNodeSet g nodes sets core r d other
    go j r d other at_j (inl old) = so_far j r d other at_j old
    go j r d other at_j (inr (last, same)) =
        let both : Some item ≡ Some (r, d) = sym at ∙ (ap (slice_get items) (sym (last ∙ long)) ∙ at_j) in
        let pair : ◌≡◌ {A = ℕ × ℕ} item (r, d) = cc in
        subst (λ p. IsNodeSet g nodes sets core (p.0) (p.1) other) pair (subst (λ s. IsNodeSet g nodes sets core (item.0) (item.1) s) same is)

-- rows of sets
pub record LooksSoFar (g : Cfg) (cores : CoreList) (nodes : List (ℕ × ℕ)) (sets : List BitSet) (count : ℕ) (looks : List (List BitSet)) : Type 0 where
  pub cores_kept : length looks ≡ count
  pub items_kept : (n : ℕ) → n < count → length (sets_at looks n) ≡ length (items_at cores n)
  pub each : (n : ℕ) → n < count → SetsSoFar g nodes sets n (items_at cores n) (sets_at looks n)

pub looks_next : (g : Cfg) (cores : CoreList) (nodes : List (ℕ × ℕ)) (sets : List BitSet) (n : ℕ) (looks after : List (Vec BitSet Global)) (row : Vec BitSet Global)
    → LooksSoFar g cores nodes sets n (sets_of looks) → length row.items ≡ length (items_at cores n)
    → SetsSoFar g nodes sets n (items_at cores n) row.items → after ≡ looks ++ (row ∷ []) → LooksSoFar g cores nodes sets (n + 1) (sets_of after)
looks_next g cores nodes sets n looks after row t long is e =
    subst (λ l. LooksSoFar g cores nodes sets (n + 1) l) (sym (ap sets_of e ∙ map-append (λ v. v.items) looks (row ∷ [])))
    (record {
      cores_kept = length-append (sets_of looks) (row.items ∷ []) ∙ ap (λ k. k + 1) t.cores_kept;
      items_kept = λ k low. kept k (this_or_less k n low) (at_end (sets_of looks) row.items [] k);
      each = λ k low. each k (this_or_less k n low) (at_end (sets_of looks) row.items [] k);
    })
  where
    kept : (k : ℕ) → (k < n) ⊎ (k ≡ n) → ((k ≡ length (sets_of looks)) × (slice_index_or (sets_of looks ++ (row.items ∷ [])) k [] ≡ row.items))
        ⊎ ((k ≢ length (sets_of looks)) × (slice_index_or (sets_of looks ++ (row.items ∷ [])) k [] ≡ slice_index_or (sets_of looks) k []))
        → length (sets_at (sets_of looks ++ (row.items ∷ [])) k) ≡ length (items_at cores k)
    kept k (inl less) (inl (f, at)) = absurd (let c = t.cores_kept in omega (arith, less, f, c))
    kept k (inl less) (inr (f, at)) = ap length at ∙ t.items_kept k less
    kept k (inr same) (inl (f, at)) = ap length at ∙ (long ∙ ap (λ i. length (items_at cores i)) (sym same))
    kept k (inr same) (inr (f, at)) = absurd (f (same ∙ sym t.cores_kept))

    each : (k : ℕ) → (k < n) ⊎ (k ≡ n) → ((k ≡ length (sets_of looks)) × (slice_index_or (sets_of looks ++ (row.items ∷ [])) k [] ≡ row.items))
        ⊎ ((k ≢ length (sets_of looks)) × (slice_index_or (sets_of looks ++ (row.items ∷ [])) k [] ≡ slice_index_or (sets_of looks) k []))
        → SetsSoFar g nodes sets k (items_at cores k) (sets_at (sets_of looks ++ (row.items ∷ [])) k)
    each k (inl less) (inl (f, at)) = absurd (let c = t.cores_kept in omega (arith, less, f, c))
    each k (inl less) (inr (f, at)) = subst (λ l. SetsSoFar g nodes sets k (items_at cores k) l) (sym at) (t.each k less)
    each k (inr same) (inl (f, at)) =
        subst (λ l. SetsSoFar g nodes sets k (items_at cores k) l) (sym at) (subst (λ i. SetsSoFar g nodes sets i (items_at cores i) row.items) (sym same) is)
    each k (inr same) (inr (f, at)) = absurd (f (same ∙ sym t.cores_kept))

pub looks_all : (g : Cfg) (cores : CoreList) (nodes : List (ℕ × ℕ)) (sets : List BitSet) (looks : List (List BitSet)) (n : ℕ) → n ≡ length cores.items
    → LooksSoFar g cores nodes sets n looks → AreNodeSets g cores nodes sets looks
looks_all g cores nodes sets looks n e t =
    record {
      cores_kept = t.cores_kept ∙ e;
      items_kept = λ k low. t.items_kept k (subst (λ i. k < i) (sym e) low);
      each = λ k i r d set low at there. t.each k (subst (λ i. k < i) (sym e) low) i r d set at there;
    }

-- what the items of one core demand
pub items_demand : (P : ℕ → ℕ → ℕ → ℕ → Type 0) (items : List (ℕ × ℕ)) (i k a : ℕ) → length items ≤ i
    → OfFirst (λ item. P (item.0) (item.1)) items i k a ↔ ((r : ℕ) × (d : ℕ) × Contains items (r, d) × P r d k a)
items_demand P items i k a all = (
  λ h. (let (j, x, low, at, p) = h in (x.0, x.1, contained items j x at, p)),
  λ h. (let (r, d, (j, low, is), p) = h in (j, (r, d), omega (arith, low, all), placed items j (r, d) low is, p)),
)

-- the whole graph
pub graph_whole : (g : Cfg) (cores : CoreList) (nodes : List (ℕ × ℕ)) (first second last : Graph) (s n : ℕ) → n ≡ length cores.items
    → ((k j : ℕ) → Edge (rows_of first.edges.items) k j → ⊥) → ((k a : ℕ) → InSet first.sets.items k a → ⊥) → IsNode nodes (0, 0) s
    → Grows first second (λ _ _. ⊥) (λ k a. (k ≡ s) × (a ≡ g.terminals))
    → Grows second last (OfBelow (LeadsIn g cores nodes) n) (OfBelow (OwnIn g cores nodes) n)
    → ((k j : ℕ) → Edge (rows_of last.edges.items) k j ↔ Leads g cores nodes k j) × ((k a : ℕ) → InSet last.sets.items k a ↔ Own g cores nodes k a)
graph_whole g cores nodes first second last s n e no_edge no_number start t u = (edges, own)
  where
    whole : Grows first last (λ k j. ⊥ ⊎ OfBelow (LeadsIn g cores nodes) n k j) (λ k a. ((k ≡ s) × (a ≡ g.terminals)) ⊎ OfBelow (OwnIn g cores nodes) n k a)
    whole = grows_then first second last _ _ _ _ t u

    edges : (k j : ℕ) → Edge (rows_of last.edges.items) k j ↔ Leads g cores nodes k j
    edges k j =
        let is = gains_all _ _ _ no_edge whole.edges.gains k j in
        (λ h. there (is.0 h), λ h. is.1 (inr (back h)))
      where
        there : ⊥ ⊎ OfBelow (LeadsIn g cores nodes) n k j → Leads g cores nodes k j
        there (inl h) = absurd h
        there (inr (m, low, h)) = (m, h)

        back : Leads g cores nodes k j → OfBelow (LeadsIn g cores nodes) n k j
        back (m, (r, d, has, h)) = (m, (let low = row_low cores.items m (r, d) has in omega (arith, low, e)), (r, d, has, h))

    own : (k a : ℕ) → InSet last.sets.items k a ↔ Own g cores nodes k a
    own k a =
        let is = gains_all _ _ _ no_number whole.sets.gains k a in
        (λ h. there (is.0 h), λ h. is.1 (back h))
      where
        there : ((k ≡ s) × (a ≡ g.terminals)) ⊎ OfBelow (OwnIn g cores nodes) n k a → Own g cores nodes k a
        there (inl (f, h)) = inl (subst (λ i. slice_get nodes i ≡ Some (0, 0)) (sym f) start.there, h)
        there (inr (m, low, h)) = inr (m, h)

        back : Own g cores nodes k a → ((k ≡ s) × (a ≡ g.terminals)) ⊎ OfBelow (OwnIn g cores nodes) n k a
        back (inl (f, h)) = inl (start.one k f, h)
        back (inr (m, (r, d, has, h))) = inr (m, (let low = row_low cores.items m (r, d) has in omega (arith, low, e)), (r, d, has, h))

-- numbers of items
pub rules_fit : (g : Cfg) → IsGrammar g → AreShort g → AllProductive g → (cores : CoreList) → IsCores g cores → (n : ℕ)
    → All (λ item. item.0 ≤ length g.rules) (items_at cores n)
rules_fit g ok short all cores c n i d low =
    rule_fits g ok short all cores c n ((get_or (items_at cores n) i d).0) ((get_or (items_at cores n) i d).1) (contained (items_at cores n) i (get_or (items_at cores n) i d) (slice_get-get_or (items_at cores n) i d low))

pub dots_fit : (g : Cfg) → IsGrammar g → AreShort g → AllProductive g → (cores : CoreList) → IsCores g cores → (n : ℕ)
    → All (λ item. item.1 ≤ 1048576) (items_at cores n)
dots_fit g ok short all cores c n i d low =
    dot_fits g ok short all cores c n ((get_or (items_at cores n) i d).0) ((get_or (items_at cores n) i d).1) (contained (items_at cores n) i (get_or (items_at cores n) i d) (slice_get-get_or (items_at cores n) i d low))

-- the sets of the nodes are the united lookaheads
pub are_lookaheads : (g : Cfg) → IsGrammar g → (cores : CoreList) → IsCores g cores → (nodes : List (ℕ × ℕ)) (edges : List (List ℕ)) (sets spread : List BitSet) (looks : List (List BitSet))
    → LookGraph g cores nodes edges sets → ((k a : ℕ) → Has (set_at spread k) a ↔ Flows edges sets k a) → AreNodeSets g cores nodes spread looks
    → All (λ set. set.size ≡ g.terminals + 1) spread → length spread ≡ length nodes → AreLookaheads g cores looks
are_lookaheads g ok cores c nodes edges sets spread looks t flows s sizes long =
    record { cores_kept = s.cores_kept; items_kept = s.items_kept; widths = widths; exact = exact }
  where
    -- a set has the place of an item, and that item's node
    widths : (n i : ℕ) (set : BitSet) → slice_get (sets_at looks n) i ≡ Some set → set.size ≡ g.terminals + 1
    widths n i set there =
        let inside = slice_get_within (sets_at looks n) i set there in
        let core : n < length cores.items = (let l = s.cores_kept in let low = row_inside looks n i inside in omega (arith, l, low)) in
        let count = s.items_kept n core in
        let at = slice_get-get_or (items_at cores n) i (0, 0) (omega (arith, inside, count)) in
        let item : ℕ × ℕ = get_or (items_at cores n) i (0, 0) in
        let one = s.each n i (item.0) (item.1) set core at there in
        let node = slice_get_within nodes one.node _ one.is.there in
        one.size ∙ sizes one.node no_set (omega (arith, node, long))

    exact : (n i r d a : ℕ) (set : BitSet) (p y : List Sym) → IsCore g cores n p → slice_get (items_at cores n) i ≡ Some (r, d)
        → slice_get (sets_at looks n) i ≡ Some set → InCore g p r d y → Has set a ↔ Look g p r d y a
    exact n i r d a set p y is at there item =
        let one = s.each n i r d set is.inside at there in
        let look = flows_look g ok cores c nodes edges sets t one.node n r d p y a one.is is item in
        (λ h. look.0 ((flows one.node a).0 ((one.has a).0 h)), λ l. (one.has a).1 ((flows one.node a).1 (look.1 l)))

-- one core more
pub core_nodes : (g : Cfg) (cores : CoreList) (n : ℕ) (items : List (ℕ × ℕ)) (old new : List (ℕ × ℕ)) → items ≡ items_at cores n
    → ((k r d : ℕ) → k < n → Contains (items_at cores k) (r, d) → Contains old (k, slot_of g r d))
    → ((node : ℕ × ℕ) → Contains old node → Contains new node) → ((r d : ℕ) → Contains items (r, d) → Contains new (n, slot_of g r d))
    → (k r d : ℕ) → k < n + 1 → Contains (items_at cores k) (r, d) → Contains new (k, slot_of g r d)
core_nodes g cores n items old new e so_far kept here k r d low has = go (this_or_less k n low)
  where
    go : (k < n) ⊎ (k ≡ n) → Contains new (k, slot_of g r d)
    go (inl less) = kept (k, slot_of g r d) (so_far k r d less has)
    go (inr same) = subst (λ i. Contains new (i, slot_of g r d)) (sym same)
        (here r d (subst (λ l. Contains l (r, d)) (sym e) (subst (λ i. Contains (items_at cores i) (r, d)) same has)))

pub start_there : (g : Cfg) (cores : CoreList) (nodes : List (ℕ × ℕ)) → IsCores g cores → AreNodes g cores nodes → Contains nodes (0, 0)
start_there g cores nodes c whole = whole 0 0 0 ((c.first.items 0 0).1 (N g.start ∷ [], (g.terminals, Valid.start)))

-- the symbols of moves are the grammar's, each once
pub moves_fit : (g : Cfg) → IsGrammar g → (cores : CoreList) → IsCores g cores → (n : ℕ) → n < length cores.items → (moves : List (Sym × ℕ)) → moves ≡ moves_at cores n
    → All (λ m. IsSymbol g m.0) moves
moves_fit g ok cores c n low moves e i d under =
    let (p, some, is) = c.each n low in
    let has : Contains (moves_at cores n) (get_or moves i d) = subst (λ l. Contains l (get_or moves i d)) e (contained moves i (get_or moves i d) (slice_get-get_or moves i d under)) in
    let (r, dot, y, (a, v)) = ((c.moves p n ((get_or moves i d).0) ((get_or moves i d).1) is).0 has).0 in
    symbol_after g ok p ((get_or moves i d).0) (r, dot, y, item_of g ((get_or moves i d).0 ∷ p) r dot y a v)

pub moves_once : (g : Cfg) (cores : CoreList) → IsCores g cores → (n : ℕ) → n < length cores.items → (moves : List (Sym × ℕ)) → moves ≡ moves_at cores n
    → (x : Sym) (o m : ℕ) → Contains moves (x, o) → Contains moves (x, m) → o ≡ m
moves_once g cores c n low moves e x o m a b =
    let (p, some, is) = c.each n low in
    c.once (x ∷ p) o m (((c.moves p n x o is).0 (subst (λ l. Contains l (x, o)) e a)).1) (((c.moves p n x m is).0 (subst (λ l. Contains l (x, m)) e b)).1)

-- one item more of what a core demands
pub item_demands : (g : Cfg) (cores : CoreList) (nodes : List (ℕ × ℕ)) (n i : ℕ) (items : List (ℕ × ℕ)) (item : ℕ × ℕ) (a b e : Graph) → slice_get items i ≡ Some item
    → Grows a b (OfFirst (λ item. LeadsBy g cores nodes n (item.0) (item.1)) items i) (OfFirst (λ item. OwnBy g nodes n (item.0) (item.1)) items i)
    → Grows b e (LeadsBy g cores nodes n (item.0) (item.1)) (OwnBy g nodes n (item.0) (item.1))
    → Grows a e (OfFirst (λ item. LeadsBy g cores nodes n (item.0) (item.1)) items (i + 1)) (OfFirst (λ item. OwnBy g nodes n (item.0) (item.1)) items (i + 1))
item_demands g cores nodes n i items item a b e at t u =
    grows_same a e _ _ _ _ (grows_then a b e _ _ _ _ t u)
    (first_next (λ item. LeadsBy g cores nodes n (item.0) (item.1)) items i item at)
    (first_next (λ item. OwnBy g nodes n (item.0) (item.1)) items i item at)

pub core_demands : (g : Cfg) (cores : CoreList) (nodes : List (ℕ × ℕ)) (n i : ℕ) (items : List (ℕ × ℕ)) (a b : Graph) → items ≡ items_at cores n → length items ≤ i
    → Grows a b (OfFirst (λ item. LeadsBy g cores nodes n (item.0) (item.1)) items i) (OfFirst (λ item. OwnBy g nodes n (item.0) (item.1)) items i)
    → Grows a b (LeadsIn g cores nodes n) (OwnIn g cores nodes n)
core_demands g cores nodes n i items a b e all t =
    grows_same a b _ _ _ _ t
    (λ k j. subst (λ l. OfFirst (λ item. LeadsBy g cores nodes n (item.0) (item.1)) items i k j ↔ ((r : ℕ) × (d : ℕ) × Contains l (r, d) × LeadsBy g cores nodes n r d k j)) e
    (items_demand (λ r d. LeadsBy g cores nodes n r d) items i k j all))
    (λ k j. subst (λ l. OfFirst (λ item. OwnBy g nodes n (item.0) (item.1)) items i k j ↔ ((r : ℕ) × (d : ℕ) × Contains l (r, d) × OwnBy g nodes n r d k j)) e
    (items_demand (λ r d. OwnBy g nodes n r d) items i k j all))

pub cores_demand : (g : Cfg) (cores : CoreList) (nodes : List (ℕ × ℕ)) (n : ℕ) (a b e : Graph)
    → Grows a b (OfBelow (LeadsIn g cores nodes) n) (OfBelow (OwnIn g cores nodes) n) → Grows b e (LeadsIn g cores nodes n) (OwnIn g cores nodes n)
    → Grows a e (OfBelow (LeadsIn g cores nodes) (n + 1)) (OfBelow (OwnIn g cores nodes) (n + 1))
cores_demand g cores nodes n a b e t u =
    grows_same a e _ _ _ _ (grows_then a b e _ _ _ _ t u) (below_next (LeadsIn g cores nodes) n) (below_next (OwnIn g cores nodes) n)

pub none_demand : (g : Cfg) (cores : CoreList) (nodes : List (ℕ × ℕ)) (a : Graph)
    → Grows a a (OfBelow (LeadsIn g cores nodes) 0) (OfBelow (OwnIn g cores nodes) 0)
none_demand g cores nodes a =
    grows_same a a (λ _ _. ⊥) (λ _ _. ⊥) _ _ (grows_none a) (below_none (LeadsIn g cores nodes)) (below_none (OwnIn g cores nodes))

pub no_items_demand : (g : Cfg) (cores : CoreList) (nodes : List (ℕ × ℕ)) (n : ℕ) (items : List (ℕ × ℕ)) (a : Graph)
    → Grows a a (OfFirst (λ item. LeadsBy g cores nodes n (item.0) (item.1)) items 0) (OfFirst (λ item. OwnBy g nodes n (item.0) (item.1)) items 0)
no_items_demand g cores nodes n items a =
    grows_same a a (λ _ _. ⊥) (λ _ _. ⊥) _ _ (grows_none a) (first_none (λ item. LeadsBy g cores nodes n (item.0) (item.1)) items)
    (first_none (λ item. OwnBy g nodes n (item.0) (item.1)) items)

-- edges lead to nodes
pub leads_inside : (g : Cfg) (cores : CoreList) (nodes : List (ℕ × ℕ)) (k j : ℕ) → Leads g cores nodes k j → j < length nodes
leads_inside g cores nodes k j (n, (r, d, has, LeadsBy.closure _ _ m y from to behind null)) = slice_get_within nodes j (n, suc m) to
leads_inside g cores nodes k j (n, (r, d, has, LeadsBy.move _ _ o x y from to behind moves)) = slice_get_within nodes j (o, slot_of g r (suc d)) to

-- the set of an item's node
pub node_set : (g : Cfg) (nodes : List (ℕ × ℕ)) (sets : List BitSet) (n r d k s : ℕ) (from set : BitSet) → s ≡ slot_of g r d → slice_get nodes k ≡ Some (n, s)
    → ((j : ℕ) → slice_get nodes j ≡ Some (n, s) → j ≡ k) → from ≡ set_at sets k → set.size ≡ from.size → ((a : ℕ) → Has set a ↔ Has from a)
    → IsNodeSet g nodes sets n r d set
node_set g nodes sets n r d k s from set e there one is size has =
    record {
      node = k;
      is = node_is nodes (n, s) (n, slot_of g r d) k (ap (λ i. (n, i)) e) there one;
      has = λ a. subst (λ (b : BitSet). Has set a ↔ Has b a) is (has a);
      size = size ∙ ap (λ b. b.size) is;
    }
