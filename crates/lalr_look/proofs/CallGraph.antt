-- Edges and sets of a graph, and the graph of calls.
use Rattle.std.proofs.Common.{◌≡◌, ◌≢◌, ℕ, zero, suc, ◌+◌, ◌<◌, ◌↔◌, ◌⊎◌, inl, inr, List, [], ◌∷◌, ◌++◌, length, refl, sym, ap, ap₂, subst, subst₂, ◌∙◌, arith, slice_get, Some, Contains, get_or, All, length-append, slice_index_or, take}
use Rattle.std.proofs.lemmas.List.Elements.{Contains-append_left, Contains-append_right, Contains-append_cases}
use Rattle.std.proofs.lemmas.Option.{slice_get_within, get_or_from_slice_get}
use Rattle.ck_base.specs.BitSet.{BitSet, Has, Adds, IsEmpty}
use Rattle.cfg_model.specs.declared.symbol.Sym.{Sym}
use Rattle.cfg_model.specs.declared.symbol.Sym.TheVariants.{N}
use Rattle.cfg_model.specs.Cfg.{Cfg, Rule, IsRule, IsSymbol, IsGrammar}
use Rattle.cfg_model.proofs.InGrammar.{right_in}
use Rattle.std.proofs.lemmas.List.Elements.{All-head}
use Rattle.lalr_look.specs.within.Flow.{Edge, EdgeAdded, Flows, own, along, set_at, no_set}
use Rattle.lalr_look.specs.within.Rows.{row_at, Pushes}
use Rattle.lalr_look.specs.within.Kernel.{Calls, self, on, CallsAt, CallsFirst}
use Rattle.lalr_look.proofs.Turns.{this_or_less}
use Rattle.lalr_look.proofs.Grown.{at_end}
use Rattle.lalr_look.proofs.RowsChanged.{same_or_other}

-- a number at the end of a row is an edge more
pub edge_pushed : (old new : List (List ℕ)) (from to : ℕ) → Pushes old new from to → EdgeAdded old new from to
edge_pushed old new from to t =
    record {
      size = t.size;
      only = λ k n e. only k n e (same_or_other k from);
      kept = λ k n e. kept k n e (same_or_other k from);
      more = subst (λ l. Contains l to) (sym t.here) (Contains-append_right (row_at old from) (to ∷ []) to (0, omega arith, refl));
    }
  where
    only : (k n : ℕ) → Edge new k n → (k ≡ from) ⊎ (k ≢ from) → Edge old k n ⊎ ((k ≡ from) × (n ≡ to))
    only k n e (inr differ) = inl (subst (λ l. Contains l n) (t.elsewhere k differ) e)
    only k n e (inl same) = go (Contains-append_cases (row_at old from) (to ∷ []) n (subst (λ l. Contains l n) t.here (subst (λ i. Edge new i n) same e)))
      where
        go : Contains (row_at old from) n ⊎ Contains (to ∷ []) n → Edge old k n ⊎ ((k ≡ from) × (n ≡ to))
        go (inl there) = inl (subst (λ i. Edge old i n) (sym same) there)
        go (inr (zero, low, is)) = inr (same, sym is)
        go (inr (suc i, low, is)) = absurd (omega (arith, low))

    kept : (k n : ℕ) → Edge old k n → (k ≡ from) ⊎ (k ≢ from) → Edge new k n
    kept k n e (inr differ) = subst (λ l. Contains l n) (sym (t.elsewhere k differ)) e
    kept k n e (inl same) =
        subst (λ i. Edge new i n) (sym same) (subst (λ l. Contains l n) (sym t.here)
        (Contains-append_left (row_at old from) (to ∷ []) n (subst (λ i. Edge old i n) same e)))

-- empty rows are no edges
pub no_edge : (rows : List (List ℕ)) → ((k : ℕ) → row_at rows k ≡ []) → (k m : ℕ) → Edge rows k m → ⊥
no_edge rows empty k m e = (let (i, low, is) = subst (λ l. Contains l m) (empty k) e in absurd (omega (arith, low)))

pub own_set : (sets after : List BitSet) (empty set : BitSet) (n m : ℕ) → length sets ≡ m → All (λ s. s.size ≡ n) sets
    → ((k a : ℕ) → Has (set_at sets k) a ↔ ((k < m) × (a ≡ k))) → empty.size ≡ n → IsEmpty empty → Adds empty set (λ k. k ≡ m) → after ≡ sets ++ (set ∷ [])
    → (length after ≡ m + 1) × All (λ s. s.size ≡ n) after × ((k a : ℕ) → Has (set_at after k) a ↔ ((k < m + 1) × (a ≡ k)))
own_set sets after empty set n m long sizes so_far size none adds e =
    (ap length e ∙ length-append sets (set ∷ []) ∙ ap (λ l. l + 1) long, all, has)
  where
    all : (k : ℕ) (d : BitSet) → k < length after → (get_or after k d).size ≡ n
    all k d low = subst (λ l. (get_or l k d).size ≡ n) (sym e) (go (at_end sets set d k))
      where
        go : ((k ≡ length sets) × (slice_index_or (sets ++ (set ∷ [])) k d ≡ set)) ⊎ ((k ≢ length sets) × (slice_index_or (sets ++ (set ∷ [])) k d ≡ slice_index_or sets k d))
            → (slice_index_or (sets ++ (set ∷ [])) k d).size ≡ n
        go (inl (at, is)) = ap (λ s. s.size) is ∙ (adds.size ∙ size)
        go (inr (at, is)) =
            let l = ap length e ∙ length-append sets (set ∷ []) in
            ap (λ s. s.size) is ∙ sizes k d (less k (length sets) (omega (arith, low, l)) at)
          where
            less : (k l : ℕ) → k < l + 1 → k ≢ l → k < l
            less k l low differ = grind arith

    has : (k a : ℕ) → Has (set_at after k) a ↔ ((k < m + 1) × (a ≡ k))
    has k a = subst (λ l. Has (set_at l k) a ↔ ((k < m + 1) × (a ≡ k))) (sym e) (go (at_end sets set no_set k))
      where
        go : ((k ≡ length sets) × (slice_index_or (sets ++ (set ∷ [])) k no_set ≡ set)) ⊎ ((k ≢ length sets) × (slice_index_or (sets ++ (set ∷ [])) k no_set ≡ slice_index_or sets k no_set))
            → Has (slice_index_or (sets ++ (set ∷ [])) k no_set) a ↔ ((k < m + 1) × (a ≡ k))
        go (inl (at, is)) = subst (λ s. Has s a ↔ ((k < m + 1) × (a ≡ k))) (sym is)
            (λ h. (omega (arith, at, long), only (adds.only a h)), λ h. adds.more a (let (x, y) = h in omega (arith, y, at, long)))
          where
            only : Has empty a ⊎ (a ≡ m) → a ≡ k
            only (inl h) = absurd (none a h)
            only (inr f) = omega (arith, f, at, long)
        go (inr (at, is)) = subst (λ s. Has s a ↔ ((k < m + 1) × (a ≡ k))) (sym is)
            (λ h. (let (low, f) = (so_far k a).0 h in (omega (arith, low), f)), λ h. (so_far k a).1 (less k m h.0 (λ f. at (f ∙ sym long)), h.1))
          where
            less : (k l : ℕ) → k < l + 1 → k ≢ l → k < l
            less k l low differ = grind arith

-- calls as flows
call_before : (g : Cfg) (m n s a : ℕ) (y : List Sym) → IsRule g s m (N n ∷ y) → Calls g n a → Calls g m a
call_before g m n s a y is self = on m s n y self is
call_before g m n s a y is (on o t _ u calls rl) = on o t a u (call_before g m n s o y is calls) rl

pub record CallGraph (g : Cfg) (edges : List (List ℕ)) (sets : List BitSet) : Type 0 where
  pub edge : (k n : ℕ) → Edge edges k n ↔ CallsFirst g (length g.rules) k n
  pub own_of : (m a : ℕ) → Has (set_at sets m) a ↔ ((m < g.nonterminals) × (a ≡ m))

flow_calls : (g : Cfg) (edges : List (List ℕ)) (sets : List BitSet) → CallGraph g edges sets → (m a : ℕ) → Flows edges sets m a → Calls g m a
flow_calls g edges sets t m a (own _ _ h) = let (low, e) = (t.own_of m a).0 h in subst (λ x. Calls g m x) (sym e) self
flow_calls g edges sets t m a (along n _ _ f e) =
    let (i, low, (y, at)) = (t.edge n m).0 e in
    call_before g m n (i + 1) a y (record { place = i; from_one = refl; read = at }) (flow_calls g edges sets t n a f)

flow_on : (g : Cfg) (edges : List (List ℕ)) (sets : List BitSet) → CallGraph g edges sets → (m n k : ℕ) → k < g.nonterminals → Edge edges k n
    → Flows edges sets m n → Flows edges sets m k
flow_on g edges sets t m n k low edge (own _ _ h) =
    let (inside, e) = (t.own_of m n).0 h in
    along k m k (own k k ((t.own_of k k).1 (low, refl))) (subst (λ x. Edge edges k x) e edge)
flow_on g edges sets t m n k low edge (along o _ _ f e) = along o m k (flow_on g edges sets t o n k low edge f) e

calls_flow : (g : Cfg) → IsGrammar g → (edges : List (List ℕ)) (sets : List BitSet) → CallGraph g edges sets → (m a : ℕ) → m < g.nonterminals
    → Calls g m a → Flows edges sets m a
calls_flow g ok edges sets t m a low self = own m m ((t.own_of m m).1 (low, refl))
calls_flow g ok edges sets t m a low (on n s k y calls is) =
    let right = right_in g ok s n (N a ∷ y) is in
    let inside = All-head (IsSymbol g) (N a) y right in
    let one : Rule = record { left = n; right = N a ∷ y } in
    flow_on g edges sets t m n a inside ((t.edge a n).1 (is.place, slice_get_within g.rules is.place one is.read, (y, is.read)))
    (calls_flow g ok edges sets t m n low calls)

pub flows_are_calls : (g : Cfg) → IsGrammar g → (edges : List (List ℕ)) (sets : List BitSet) → CallGraph g edges sets → (m a : ℕ) → m < g.nonterminals
    → Flows edges sets m a ↔ Calls g m a
flows_are_calls g ok edges sets t m a low = (flow_calls g edges sets t m a, calls_flow g ok edges sets t m a low)

pub one_call : (g : Cfg) (i k : ℕ) (one : Rule) (old new : List (List ℕ)) → slice_get g.rules i ≡ Some one → slice_get one.right 0 ≡ Some (N k)
    → EdgeAdded old new k one.left → (j n : ℕ) → Edge new j n ↔ (Edge old j n ⊎ CallsAt g i j n)
one_call g i k one old new at first added j n = (λ e. go (added.only j n e), back)
  where
    rest : (l : List Sym) → slice_get l 0 ≡ Some (N k) → (y : List Sym) × (l ≡ N k ∷ y)
    rest [] e = cc
    rest (x ∷ l) e = (let f : x ≡ N k = cc in (l, ap (λ z. z ∷ l) f))

    go : Edge old j n ⊎ ((j ≡ k) × (n ≡ one.left)) → Edge old j n ⊎ CallsAt g i j n
    go (inl e) = inl e
    go (inr (a, b)) =
        let (y, is) = rest one.right first in
        inr (y, at ∙ ap₂ (λ l r. Some (record { left = l; right = r })) (sym b) (is ∙ ap (λ z. N z ∷ y) (sym a)))

    back : Edge old j n ⊎ CallsAt g i j n → Edge new j n
    back (inl e) = added.kept j n e
    back (inr (y, is)) =
        let same : Some one ≡ Some (record { left = n; right = N j ∷ y }) = sym at ∙ is in
        let (left, right) = parts one (record { left = n; right = N j ∷ y }) same in
        let head : Some (N j) ≡ Some (N k) = ap (λ l. slice_get l 0) (sym right) ∙ first in
        let number : j ≡ k = cc in
        subst₂ (λ a b. Edge new a b) (sym number) left added.more
      where
        parts : (a b : Rule) → Some a ≡ Some b → (a.left ≡ b.left) × (a.right ≡ b.right)
        parts a b e = (let f : a ≡ b = cc in (ap (λ r. r.left) f, ap (λ r. r.right) f))

pub call_next : (g : Cfg) (i : ℕ) (old new : List (List ℕ)) → ((k n : ℕ) → Edge old k n ↔ CallsFirst g i k n)
    → ((k n : ℕ) → Edge new k n ↔ (Edge old k n ⊎ CallsAt g i k n)) → (k n : ℕ) → Edge new k n ↔ CallsFirst g (i + 1) k n
call_next g i old new so_far one k n = (λ e. go ((one k n).0 e), λ c. (one k n).1 (back c))
  where
    go : Edge old k n ⊎ CallsAt g i k n → CallsFirst g (i + 1) k n
    go (inl e) = let (j, low, is) = (so_far k n).0 e in (j, omega (arith, low), is)
    go (inr is) = (i, omega arith, is)

    back : CallsFirst g (i + 1) k n → Edge old k n ⊎ CallsAt g i k n
    back (j, low, is) = which (this_or_less j i low)
      where
        which : (j < i) ⊎ (j ≡ i) → Edge old k n ⊎ CallsAt g i k n
        which (inl less) = inl ((so_far k n).1 (j, less, is))
        which (inr e) = inr (subst (λ x. CallsAt g x k n) e is)

pub take_front : (xs zs : List BitSet) (n : ℕ) → n ≡ length xs → take n (xs ++ zs) ≡ xs
take_front xs zs n e = ap (λ k. take k (xs ++ zs)) e ∙ front xs zs
  where
    front : (xs zs : List BitSet) → take (length xs) (xs ++ zs) ≡ xs
    front [] zs = refl
    front (x ∷ xs) zs = ap (λ l. x ∷ l) (front xs zs)

pub no_calls : (g : Cfg) (edges : List (List ℕ)) → ((k m : ℕ) → Edge edges k m → ⊥) → (k n : ℕ) → Edge edges k n ↔ CallsFirst g 0 k n
no_calls g edges none k n = (λ e. absurd (none k n e), λ c. absurd (let low = c.1 in omega (arith, low)))

pub edge_inside : (g : Cfg) → IsGrammar g → (edges : List (List ℕ)) → ((k n : ℕ) → Edge edges k n ↔ CallsFirst g (length g.rules) k n)
    → (n m : ℕ) → Edge edges n m → m < g.nonterminals
edge_inside g ok edges is n m e =
    let (i, low, (y, at)) = (is n m).0 e in
    let one : Rule = record { left = m; right = N n ∷ y } in
    let left = ok.left i one low in
    let same : get_or g.rules i one ≡ one = get_or_from_slice_get g.rules i one one at in
    subst (λ r. r.left < g.nonterminals) same left
