-- One symbol more from the end of a right side, and one rule more.
use Rattle.std.proofs.Common.{◌≡◌, ℕ, ◌+◌, ◌<◌, ◌≤◌, ◌↔◌, ◌⊎◌, inl, inr, false, Bool, IsTrue, List, [], ◌∷◌, ◌++◌, length, All, refl, sym, ap, subst, arith, slice_get, Some}
use Rattle.std.proofs.lemmas.Option.{slice_get_within}
use Rattle.std.proofs.lemmas.Bool.{cases_eq}
use Rattle.ck_base.specs.BitSet.{BitSet, Has, Adds}
use Rattle.cfg_model.specs.declared.symbol.Sym.{Sym}
use Rattle.cfg_model.specs.declared.symbol.Sym.TheVariants.{T, N}
use Rattle.cfg_model.specs.declared.rows.Edge.{Edge}
use Rattle.cfg_model.specs.Cfg.{Cfg, Rule, IsRule, IsSymbol, IsGrammar}
use Rattle.cfg_model.specs.Sets.{Nullable, First, Follow, Productive, AllProductive}
use Rattle.cfg_model.specs.within.Closing.{AllPass, AreMakers}
use Rattle.cfg_model.specs.Steps.{Steps, none}
use Rattle.cfg_model.specs.Derivation.{Forest, yield, Derive, nothing, Gives}
use Rattle.cfg_model.specs.within.Parts.{Begins}
use Rattle.cfg_model.specs.Rows.{In, IsSetOf, AreRowsOf}
use Rattle.cfg_model.specs.within.Spreading.{IsInside, IsEdge, Leads, here, on, AreSpread}
use Rattle.cfg_model.specs.within.FollowParts.{FollowBase, the_end, behind, FollowEdge}
use Rattle.cfg_model.specs.within.Gather.{Gathers, Behind}
use Rattle.cfg_model.specs.Promise.{AreReachable}
use Rattle.cfg_model.specs.within.Trailers.{JoinsRows, Fronted, IsAhead, StandsIn, BeginsBehind, VanishBehind, AreBehind}
use Rattle.cfg_model.proofs.Forests.{gives_of_steps, steps_both}
use Rattle.cfg_model.proofs.Gathering.{all_of_at, gathers_then, gathers_same, behind_cut, behind_there}
use Rattle.cfg_model.proofs.InRange.{AreSymbols, symbols_from, symbols_of_rule, symbols_right, left_of_rule}
use Rattle.cfg_model.proofs.FirstSets.{first_before, spread_on}
use Rattle.cfg_model.proofs.LeftPaths.{pass_nullable, no_word}
use Rattle.cfg_model.proofs.Makers.{makes_passing}
use Rattle.cfg_model.proofs.FollowSets.{base_follow, edge_follow, follow_all, first_cut, only_terminal}

pub joins_then : (old mid new : List BitSet) (P Q R : ℕ → ℕ → Type 0) → JoinsRows old mid P → JoinsRows mid new Q
    → ((m t : ℕ) → P m t → R m t) → ((m t : ℕ) → Q m t → R m t) → ((m t : ℕ) → R m t → P m t ⊎ Q m t) → JoinsRows old new R
joins_then old mid new P Q R a b first second from = record {
  kept = λ m t has. b.kept m t (a.kept m t has);
  only = λ m t has. elim (b.only m t has) [
    | inl there ↦ elim (a.only m t there) [ inl was ↦ inl was | inr p ↦ inr (first m t p) ]
    | inr q ↦ inr (second m t q)
  ];
  more = λ m t r. elim (from m t r) [ inl p ↦ b.kept m t (a.more m t p) | inr q ↦ b.more m t q ];
}

pub joins_same : (old new : List BitSet) (P Q : ℕ → ℕ → Type 0) → JoinsRows old new P → ((m t : ℕ) → P m t → Q m t) → ((m t : ℕ) → Q m t → P m t) → JoinsRows old new Q
joins_same old new P Q a to from = record {
  kept = a.kept;
  only = λ m t has. elim (a.only m t has) [ inl was ↦ inl was | inr p ↦ inr (to m t p) ];
  more = λ m t q. a.more m t (from m t q);
}

-- the symbol is this nonterminal, and P holds of the rest; or the nonterminal stands in the rest
pub behind_more : (P : List Sym → Type 0) (s : Sym) (w : List Sym) (m : ℕ) → Behind P w m → Behind P (s ∷ w) m
behind_more P (T a) w m stands = stands
behind_more P (N n) w m stands = inr stands

pub behind_first : (P : List Sym → Type 0) (s : Sym) (w : List Sym) (m : ℕ) → s ≡ N m → P w → Behind P (s ∷ w) m
behind_first P (T a) w m same p = cc
behind_first P (N n) w m same p = let number : n ≡ m = cc (same) in inl (sym number, p)

pub behind_cases : (P : List Sym → Type 0) (s : Sym) (w : List Sym) (m : ℕ) → Behind P (s ∷ w) m → Behind P w m ⊎ ((s ≡ N m) × P w)
behind_cases P (T a) w m stands = inl stands
behind_cases P (N n) w m (inl (same, p)) = inr (ap N (sym same), p)
behind_cases P (N n) w m (inr stands) = inl stands

module _ (firsts : List BitSet) (null : BitSet) (s : Sym) (w : List Sym) where
  pub trailer_step : (old new : BitSet) → ((t : ℕ) → Has old t ↔ Begins firsts null w t) → ((t : ℕ) → Has new t ↔ Fronted firsts null s (Has old) t)
      → (t : ℕ) → Has new t ↔ Begins firsts null (s ∷ w) t
  trailer_step old new before step t = by_symbol s (step t)
    where
      by_symbol : (s : Sym) → Has new t ↔ Fronted firsts null s (Has old) t → Has new t ↔ Begins firsts null (s ∷ w) t
      by_symbol (T a) is = is
      by_symbol (N n) is = (
        λ has. elim (is.0 has) [ inl in_row ↦ inl in_row | inr (vanish, there) ↦ inr (vanish, (before t).0 there) ],
        λ begins. elim begins [ inl in_row ↦ is.1 (inl in_row) | inr (vanish, there) ↦ is.1 (inr (vanish, (before t).1 there)) ],
      )

  pub rows_step : (trailer : BitSet) (old mid new : List BitSet) → ((t : ℕ) → Has trailer t ↔ Begins firsts null w t)
      → JoinsRows old mid (BeginsBehind firsts null w) → JoinsRows mid new (λ m t. (s ≡ N m) × Has trailer t) → JoinsRows old new (BeginsBehind firsts null (s ∷ w))
  rows_step trailer old mid new is a b = joins_then old mid new (BeginsBehind firsts null w) (λ m t. (s ≡ N m) × Has trailer t) (BeginsBehind firsts null (s ∷ w)) a b
      (λ m t p. behind_more (λ y. Begins firsts null y t) s w m p)
      (λ m t (same, has). behind_first (λ y. Begins firsts null y t) s w m same ((is t).0 has))
      (λ m t r. elim (behind_cases (λ y. Begins firsts null y t) s w m r) [ inl later ↦ inl later | inr (same, p) ↦ inr (same, (is t).1 p) ])

  pub edges_step : (vanish : Bool) (left : ℕ) (old mid new : List Edge) → (IsTrue vanish ↔ AllPass false (Has null) w)
      → Gathers old mid (VanishBehind null left w) → Gathers mid new (λ e. (e.from ≡ left) × (s ≡ N e.to) × IsTrue vanish) → Gathers old new (VanishBehind null left (s ∷ w))
  edges_step vanish left old mid new is a b = gathers_then old mid new (VanishBehind null left w) (λ e. (e.from ≡ left) × (s ≡ N e.to) × IsTrue vanish) (VanishBehind null left (s ∷ w)) a b
      (λ e (from, stands). (from, behind_more (AllPass false (Has null)) s w e.to stands))
      (λ e (from, same, all). (from, behind_first (AllPass false (Has null)) s w e.to same (is.0 all)))
      (λ e (from, stands). elim (behind_cases (AllPass false (Has null)) s w e.to stands) [ inl later ↦ inl (from, later) | inr (same, p) ↦ inr (from, same, is.1 p) ])

-- the rules before the place
pub record BehindSoFar (g : Cfg) (firsts : List BitSet) (null reach : BitSet) (i : ℕ) (old now : List BitSet) (edges : List Edge) : Type 0 where
  pub joined : JoinsRows old now (λ m t. (a : ℕ) × IsAhead g reach (λ y. Begins firsts null y t) i a m)
  pub gathered : Gathers [] edges (λ e. IsAhead g reach (AllPass false (Has null)) i e.from e.to)

abbrev as_rule : ℕ → List Sym → Rule
as_rule n w = record { left = n; right = w }

module _ (g : Cfg) (reach : BitSet) (P : List Sym → Type 0) (i : ℕ) (one : Rule) (is : slice_get g.rules i ≡ Some one) where
  ahead_more : (a m : ℕ) → IsAhead g reach P i a m → IsAhead g reach P (i + 1) a m
  ahead_more a m d = record { place = d.place; right = d.right; before = (let lt = d.before in omega arith); read = d.read; reached = d.reached; stands = d.stands }

  ahead_here : (m : ℕ) → Has reach one.left → Behind P one.right m → IsAhead g reach P (i + 1) one.left m
  ahead_here m has stands = record { place = i; right = one.right; before = omega arith; read = is; reached = has; stands = stands }

  ahead_cases : (a m : ℕ) → IsAhead g reach P (i + 1) a m → IsAhead g reach P i a m ⊎ ((a ≡ one.left) × Has reach one.left × Behind P one.right m)
  ahead_cases a m d = elim (cases_eq d.place i) [
    | inl at_place ↦
        let read : slice_get g.rules i ≡ Some (record { left = a; right = d.right }) = rw at_place at d.read in
        let same : as_rule a d.right ≡ one = cc (read, is) in
        let left_is : a ≡ one.left = ap (λ (r : Rule). r.left) same in
        inr (left_is, subst (λ (n : ℕ). Has reach n) left_is d.reached, subst (λ (l : List Sym). Behind P l m) (ap (λ (r : Rule). r.right) same) d.stands)
    | inr other ↦ inl (record { place = d.place; right = d.right; before = (let lt = d.before in omega arith); read = d.read; reached = d.reached; stands = d.stands })
  ]

module _ (g : Cfg) (firsts : List BitSet) (null reach : BitSet) where
  module _ (i : ℕ) (one : Rule) (is : slice_get g.rules i ≡ Some one) (old mid : List BitSet) (edges : List Edge) (before : BehindSoFar g firsts null reach i old mid edges) where
    pub behind_rule : (new : List BitSet) (more : List Edge) → Has reach one.left → JoinsRows mid new (BeginsBehind firsts null one.right) → Gathers edges more (VanishBehind null one.left one.right)
        → BehindSoFar g firsts null reach (i + 1) old new more
    behind_rule new more has joins gathers = record {
      joined = joins_then old mid new _ _ _ before.joined joins
          (λ m t (a, d). (a, ahead_more g reach (λ y. Begins firsts null y t) i one is a m d))
          (λ m t stands. (one.left, ahead_here g reach (λ y. Begins firsts null y t) i one is m has stands))
          (λ m t (a, d). elim (ahead_cases g reach (λ y. Begins firsts null y t) i one is a m d) [ inl was ↦ inl (a, was) | inr (_, _, stands) ↦ inr stands ]);
      gathered = gathers_then [] edges more _ _ _ before.gathered gathers
          (λ e d. ahead_more g reach (AllPass false (Has null)) i one is e.from e.to d)
          (λ e (from, stands). subst (λ (n : ℕ). IsAhead g reach (AllPass false (Has null)) (i + 1) n e.to) (sym from) (ahead_here g reach (AllPass false (Has null)) i one is e.to has stands))
          (λ e d. elim (ahead_cases g reach (AllPass false (Has null)) i one is e.from e.to d) [ inl was ↦ inl was | inr (from, _, stands) ↦ inr (from, stands) ]);
    }

    pub behind_other : (Has reach one.left → ⊥) → BehindSoFar g firsts null reach (i + 1) old mid edges
    behind_other lacks = record {
      joined = joins_same old mid _ _ before.joined
          (λ m t (a, d). (a, ahead_more g reach (λ y. Begins firsts null y t) i one is a m d))
          (λ m t (a, d). elim (ahead_cases g reach (λ y. Begins firsts null y t) i one is a m d) [ inl was ↦ (a, was) | inr (_, has, _) ↦ absurd (lacks has) ]);
      gathered = gathers_same [] edges _ _ before.gathered
          (λ e d. ahead_more g reach (AllPass false (Has null)) i one is e.from e.to d)
          (λ e d. elim (ahead_cases g reach (AllPass false (Has null)) i one is e.from e.to d) [ inl was ↦ was | inr (_, has, _) ↦ absurd (lacks has) ]);
    }

  ahead_of : (P : List Sym → Type 0) (a m : ℕ) → StandsIn g reach P a m → (i : ℕ) → length g.rules ≤ i → IsAhead g reach P i a m
  ahead_of P a m s i all = record { place = s.is_rule.place; right = s.right; before = omega (arith, slice_get_within g.rules s.is_rule.place _ s.is_rule.read); read = s.is_rule.read; reached = s.reached; stands = s.stands }

  of_ahead : (P : List Sym → Type 0) (a m i : ℕ) → IsAhead g reach P i a m → StandsIn g reach P a m
  of_ahead P a m i d = record { number = d.place + 1; right = d.right; is_rule = record { place = d.place; from_one = refl; read = d.read }; reached = d.reached; stands = d.stands }

  pub behind_all : (i : ℕ) (old new : List BitSet) (edges : List Edge) → BehindSoFar g firsts null reach i old new edges → length g.rules ≤ i → AreBehind g firsts null reach old new edges
  behind_all i old new edges so_far all = record {
    rows = joins_same old new _ _ so_far.joined (λ m t (a, d). (a, of_ahead (λ y. Begins firsts null y t) a m i d)) (λ m t (a, s). (a, ahead_of (λ y. Begins firsts null y t) a m s i all));
    only = λ a b at. elim (so_far.gathered.only (record { from = a; to = b }) at) [
      | inl (k, read) ↦ absurd (let lt = slice_get_within {A = Edge} [] k _ read in omega arith)
      | inr d ↦ of_ahead (AllPass false (Has null)) a b i d
    ];
    all = λ a b s. so_far.gathered.more (record { from = a; to = b }) (ahead_of (AllPass false (Has null)) a b s i all);
  }

-- what a list begins with is its first terminals
module _ (g : Cfg) (null : BitSet) (is : IsGrammar g) (nullable_is : AreMakers false g null) (productive : (n : ℕ) → n < g.nonterminals → Productive g n) (firsts : List BitSet)
    (only : (n t : ℕ) → In firsts n t → First g (N n ∷ []) t) (all : (n t : ℕ) → First g (N n ∷ []) t → In firsts n t) where
  pub list_first : (u : List Sym) (t : ℕ) → AreSymbols g u → Begins firsts null u t → First g u t
  list_first [] t are begins = absurd begins
  list_first (T a ∷ u) t are begins =
      let (one, rest) = are in
      first_before g null is nullable_is productive (T a ∷ []) u t rest ([], subst (λ (k : ℕ). Steps g (T a ∷ []) (T k ∷ [])) (sym begins) none)
  list_first (N n ∷ u) t are begins = elim begins [
    | inl in_row ↦ first_before g null is nullable_is productive (N n ∷ []) u t are.1 (only n t in_row)
    | inr (vanish, there) ↦ (let (w, steps) = list_first u t are.1 there in (w, steps_both g (nullable_is.only n vanish) steps))
  ]

  pub first_list : (u : List Sym) (t : ℕ) → First g u t → Begins firsts null u t
  first_list [] t (w, steps) = absurd (nothing_first (gives_of_steps g [] (t ∷ w) steps))
    where
      nothing_first : Gives g [] (t ∷ w) → ⊥
      nothing_first gives = by_derive gives.forest gives.derive (sym gives.yields)
        where
          by_derive : (f : Forest ℕ) → Derive (λ t. t) g [] f → yield f ≡ t ∷ w → ⊥
          by_derive _ nothing same = cc
  first_list (T a ∷ u) t first = elim (first_cut g (T a ∷ []) u t first) [
    | inl (w, steps) ↦ only_terminal g a t w (gives_of_steps g (T a ∷ []) (t ∷ w) steps)
    | inr (vanish, _) ↦ absurd (no_word g a [] vanish)
  ]
  first_list (N n ∷ u) t first = elim (first_cut g (N n ∷ []) u t first) [
    | inl here_first ↦ inl (all n t here_first)
    | inr (vanish, later) ↦ inr (nullable_is.all n vanish, first_list u t later)
  ]

  module _ (reach : BitSet) (reach_is : AreReachable g reach) (empty base rows : List BitSet) (edges : List Edge)
      (empty_only : (n t : ℕ) → In empty n t → (n ≡ g.start) × (t ≡ g.terminals)) (empty_more : In empty g.start g.terminals)
      (are : AreBehind g firsts null reach empty base edges) (spread_are : AreSpread edges base rows) where
    symbols_behind : (r a m : ℕ) (w x y : List Sym) → IsRule g r a w → w ≡ x ++ (N m ∷ y) → AreSymbols g y
    symbols_behind r a m w x y rule_is whole = (symbols_right g x (N m ∷ y) (rw whole at (symbols_of_rule g is r a w rule_is))).1

    base_only : (m t : ℕ) → In base m t → FollowBase g m t
    base_only m t has = elim (are.rows.only m t has) [
      | inl was ↦ (let (at_start, at_end) = empty_only m t was in rw (at_start, at_end) the_end)
      | inr (a, s) ↦
          let (x, y, whole, begins) = behind_cut (λ y. Begins firsts null y t) s.right m s.stands in
          behind s.number a m t x y (reach_is.only a s.reached) (rw whole at s.is_rule) (list_first y t (symbols_behind s.number a m s.right x y s.is_rule whole) begins)
    ]

    base_has : (m t : ℕ) → FollowBase g m t → In base m t
    base_has _ _ the_end = are.rows.kept g.start g.terminals empty_more
    base_has _ _ (behind r a m t x y reachable rule_is first) =
        are.rows.more m t (a, record { number = r; right = x ++ (N m ∷ y); is_rule = rule_is; reached = reach_is.all a reachable; stands = behind_there (λ y. Begins firsts null y t) x y m (first_list y t first) })

    edge_only : (a b : ℕ) → IsEdge edges a b → FollowEdge g a b
    edge_only a b edge =
        let s = are.only a b edge in
        let (x, y, whole, vanish) = behind_cut (AllPass false (Has null)) s.right b s.stands in
        record { number = s.number; before = x; after = y; reachable = reach_is.only a s.reached; is_rule = rw whole at s.is_rule; vanish = makes_passing g false (Has null) nullable_is.only y vanish }

    edge_has : (a b : ℕ) → FollowEdge g a b → IsEdge edges a b
    edge_has a b e = are.all a b (record {
      number = e.number;
      right = e.before ++ (N b ∷ e.after);
      is_rule = e.is_rule;
      reached = reach_is.all a e.reachable;
      stands = behind_there (AllPass false (Has null)) e.before e.after b (pass_nullable g null nullable_is e.after e.vanish);
    })

    led : (m n t : ℕ) → Leads edges m n → Follow g m t → Follow g n t
    led m _ t here follows = follows
    led m _ t (on a b leads edge) follows = edge_follow g a b t (edge_only a b edge) (led m a t leads follows)

    pub row_follow : (n t : ℕ) → In rows n t → Follow g n t
    row_follow n t has =
        let (m, leads, was) = spread_are.only n t has in
        led m n t leads (base_follow g m t (base_only m t was))

    pub follow_row : (n t : ℕ) → Follow g n t → In rows n t
    follow_row = follow_all g (In rows) (λ n t b. spread_are.all n n t here (base_has n t b)) (λ a b t e has. spread_on edges base rows spread_are a b t (edge_has a b e) has) null is nullable_is productive

  pub behind_inside : (reach : BitSet) (old new : List BitSet) (edges : List Edge) → AreBehind g firsts null reach old new edges → All (IsInside g.nonterminals) edges
  behind_inside reach old new edges are = all_of_at (IsInside g.nonterminals) edges (λ e at.
      let s = are.only e.from e.to at in
      let (x, y, whole, _) = behind_cut (AllPass false (Has null)) s.right e.to s.stands in
      (left_of_rule g is s.number e.from s.right s.is_rule, (symbols_right g x (N e.to ∷ y) (rw whole at (symbols_of_rule g is s.number e.from s.right s.is_rule))).0))

-- what a list begins with by rows that are FIRST
module _ (g : Cfg) (null : BitSet) (is : IsGrammar g) (null_is : IsSetOf g.nonterminals (λ n. Nullable g (N n ∷ [])) null) (productive : AllProductive g)
    (firsts : List BitSet) (firsts_are : AreRowsOf g.nonterminals (g.terminals + 1) (λ n. First g (N n ∷ [])) firsts) where
  pub begins_are_first : (u : List Sym) (old new : BitSet) → All (IsSymbol g) u → Adds old new (Begins firsts null u) → Adds old new (First g u)
  begins_are_first u old new symbols adds = record {
    size = adds.size;
    only = λ t has. elim (adds.only t has) [
      | inl was ↦ inl was
      | inr begins ↦ inr (list_first g null is null_is productive firsts firsts_are.only firsts_are.all u t (symbols_from g u symbols) begins)
    ];
    kept = adds.kept;
    more = λ t first. adds.more t (first_list g null is null_is productive firsts firsts_are.only firsts_are.all u t first);
  }

pub passes_are_nullable : (g : Cfg) (null : BitSet) → IsSetOf g.nonterminals (λ n. Nullable g (N n ∷ [])) null → (u : List Sym) (vanish : Bool)
    → IsTrue vanish ↔ AllPass false (Has null) u → IsTrue vanish ↔ Nullable g u
passes_are_nullable g null null_is u vanish is =
    (λ flag. makes_passing g false (Has null) null_is.only u (is.0 flag), λ nullable. is.1 (pass_nullable g null null_is u nullable))
