-- Nonterminals beside which all vanishes, and the cycles that they make.
use Rattle.std.proofs.Common.{◌≡◌, ℕ, ◌+◌, ◌≤◌, inl, inr, false, Bool, IsTrue, List, [], ◌∷◌, ◌++◌, length, All, refl, ap, subst, arith, slice_get, Some, ◌↔◌}
use Rattle.std.proofs.lemmas.Option.{slice_get_within}
use Rattle.std.proofs.lemmas.Bool.{cases_eq}
use Rattle.ck_base.specs.BitSet.{BitSet, Has}
use Rattle.cfg_model.specs.declared.symbol.Sym.{Sym}
use Rattle.cfg_model.specs.declared.symbol.Sym.TheVariants.{N}
use Rattle.cfg_model.specs.declared.rows.Edge.{Edge}
use Rattle.cfg_model.specs.Cfg.{Cfg, Rule, IsGrammar}
use Rattle.cfg_model.specs.within.Closing.{AllPass, Passes, AreMakers}
use Rattle.cfg_model.specs.Steps.{StepsOnce}
use Rattle.cfg_model.specs.Searches.{Cyclic}
use Rattle.cfg_model.specs.Rows.{In}
use Rattle.cfg_model.specs.within.Spreading.{IsInside, IsEdge, Leads, here, on}
use Rattle.cfg_model.specs.within.Runs.{AreRuns}
use Rattle.cfg_model.specs.within.Gather.{Gathers, Behind}
use Rattle.cfg_model.specs.within.Middles.{Stops, none_stops, it_passes, it_stops, IsAlone, IsAmong, IsMiddle, IsMiddleBefore, AreMiddle}
use Rattle.cfg_model.proofs.Gathering.{all_of_at, gathers_then, gathers_same, behind_cut, behind_there}
use Rattle.cfg_model.proofs.Trailing.{behind_more, behind_first, behind_cases}
use Rattle.cfg_model.proofs.InRange.{symbols_of_rule, symbols_right, left_of_rule}
use Rattle.cfg_model.proofs.FirstSets.{spread_on}
use Rattle.cfg_model.proofs.Cycles.{MiddlePart, cyclic_met, middle_steps, cycle_then}

module _ (null : BitSet) where
  pub stops_none : (w : List Sym) (k : ℕ) → Stops null w k → k ≡ 0 → AllPass false (Has null) w
  stops_none _ _ none_stops zero_is = tt
  stops_none _ _ (it_passes s w k pass rest) zero_is = (pass, stops_none w k rest zero_is)
  stops_none _ _ (it_stops s w k stop rest) zero_is = absurd (omega arith)

  pub none_stop : (w : List Sym) (k : ℕ) → AllPass false (Has null) w → Stops null w k → k ≡ 0
  none_stop _ _ all none_stops = refl
  none_stop _ _ all (it_passes s w k pass rest) = none_stop w k all.1 rest
  none_stop _ _ all (it_stops s w k stop rest) = absurd (stop all.0)

  -- the others pass where this one is alone
  pub others_pass : (x y : List Sym) (s : Sym) (k : ℕ) → Stops null (x ++ (s ∷ y)) k → IsAlone null k s → AllPass false (Has null) x × AllPass false (Has null) y
  others_pass [] y s _ (it_passes _ _ k pass rest) alone = elim alone [
    | inl zero_is ↦ (tt, stops_none y k rest zero_is)
    | inr (_, stop) ↦ absurd (stop pass)
  ]
  others_pass [] y s _ (it_stops _ _ k stop rest) alone = (tt, stops_none y k rest (elim alone [ inl e ↦ (let e = e in omega arith) | inr (e, _) ↦ (let e = e in omega arith) ]))
  others_pass (c ∷ x) y s _ (it_passes _ _ k pass rest) alone = let (front, back) = others_pass x y s k rest alone in ((pass, front), back)
  others_pass (c ∷ x) y s _ (it_stops _ _ k stop rest) alone = elim alone [
    | inl e ↦ (let e = e in absurd (omega arith))
    | inr (e, stop_s) ↦
        let zero_is : k ≡ 0 = (let e = e in omega arith) in
        absurd (stop_s (in_middle x (stops_none (x ++ (s ∷ y)) k rest zero_is)))
  ]
    where
      in_middle : (x : List Sym) → AllPass false (Has null) (x ++ (s ∷ y)) → Passes false (Has null) s
      in_middle [] all = all.0
      in_middle (d ∷ x) all = in_middle x all.1

  pub pass_alone : (x y : List Sym) (s : Sym) (k : ℕ) → AllPass false (Has null) x → AllPass false (Has null) y → Stops null (x ++ (s ∷ y)) k → IsAlone null k s
  pass_alone [] y s _ front back (it_passes _ _ k pass rest) = inl (none_stop y k back rest)
  pass_alone [] y s _ front back (it_stops _ _ k stop rest) = inr (ap (λ n. n + 1) (none_stop y k back rest), stop)
  pass_alone (c ∷ x) y s _ front back (it_passes _ _ k pass rest) = pass_alone x y s k front.1 back rest
  pass_alone (c ∷ x) y s _ front back (it_stops _ _ k stop rest) = absurd (stop front.0)

  abbrev pub IsStanding : ℕ → ℕ → List Sym → Edge → Type 0
  IsStanding left k w e = (e.from ≡ left) × Behind (λ _. Unit {0}) w e.to × IsAlone null k (N e.to)

  pub standing_more : (left k : ℕ) (s : Sym) (w : List Sym) (alone : Bool) (old mid new : List Edge) → (IsTrue alone ↔ IsAlone null k s) → Gathers old mid (IsStanding left k w)
      → Gathers mid new (λ e. (e.from ≡ left) × (s ≡ N e.to) × IsTrue alone) → Gathers old new (IsStanding left k (s ∷ w))
  standing_more left k s w alone old mid new is a b = gathers_then old mid new (IsStanding left k w) (λ e. (e.from ≡ left) × (s ≡ N e.to) × IsTrue alone) (IsStanding left k (s ∷ w)) a b
      (λ e (from, stands, flag). (from, behind_more (λ _. Unit {0}) s w e.to stands, flag))
      (λ e (from, same, flag). (from, behind_first (λ _. Unit {0}) s w e.to same tt, rw same at (is.0 flag)))
      (λ e (from, stands, flag). elim (behind_cases (λ _. Unit {0}) s w e.to stands) [ inl later ↦ inl (from, later, flag) | inr (same, _) ↦ inr (from, same, is.1 (rw same flag)) ])

  pub standing_done : (left k : ℕ) (right : List Sym) (old new : List Edge) → Stops null right k → Gathers old new (IsStanding left k right) → Gathers old new (IsMiddle null left right)
  standing_done left k right old new stops a = gathers_same old new (IsStanding left k right) (IsMiddle null left right) a
      (λ e (from, stands, alone).
      let (x, y, whole, _) = behind_cut (λ _. Unit {0}) right e.to stands in
      let (front, back) = others_pass x y (N e.to) k (rw whole at stops) alone in
      (from, record { before = x; after = y; whole = whole; vanish = front; vanish_after = back }))
      (λ e (from, among).
      let whole = among.whole in
      (from, rw whole (behind_there (λ _. Unit {0}) among.before among.after e.to tt), pass_alone among.before among.after (N e.to) k among.vanish among.vanish_after (rw whole at stops)))

abbrev as_rule : ℕ → List Sym → Rule
as_rule n w = record { left = n; right = w }

module _ (g : Cfg) (null : BitSet) where
  pub middle_rule : (i : ℕ) (one : Rule) (old mid new : List Edge) → slice_get g.rules i ≡ Some one → Gathers old mid (λ e. IsMiddleBefore g null i e.from e.to)
      → Gathers mid new (IsMiddle null one.left one.right) → Gathers old new (λ e. IsMiddleBefore g null (i + 1) e.from e.to)
  middle_rule i one old mid new is a b = gathers_then old mid new (λ e. IsMiddleBefore g null i e.from e.to) (IsMiddle null one.left one.right) (λ e. IsMiddleBefore g null (i + 1) e.from e.to) a b
      (λ e d. record { place = d.place; right = d.right; before = (let lt = d.before in omega arith); read = d.read; among = d.among })
      (λ e (from, among). record { place = i; right = one.right; before = omega arith; read = rw from is; among = among })
      (λ e d. elim (cases_eq d.place i) [
        | inl at_place ↦
            let read : slice_get g.rules i ≡ Some (record { left = e.from; right = d.right }) = rw at_place at d.read in
            let same : as_rule e.from d.right ≡ one = cc (read, is) in
            inr (ap (λ (r : Rule). r.left) same, subst (λ (l : List Sym). IsAmong null l e.to) (ap (λ (r : Rule). r.right) same) d.among)
        | inr other ↦ inl (record { place = d.place; right = d.right; before = (let lt = d.before in omega arith); read = d.read; among = d.among })
      ])

  pub middle_all : (i : ℕ) (edges : List Edge) → Gathers [] edges (λ e. IsMiddleBefore g null i e.from e.to) → length g.rules ≤ i → AreMiddle g null edges
  middle_all i edges are all = record {
    only = λ a b at. elim (are.only (record { from = a; to = b }) at) [
      | inl (k, is) ↦ absurd (let lt = slice_get_within {A = Edge} [] k _ is in omega arith)
      | inr d ↦ (d.place + 1, d.right, record { place = d.place; from_one = refl; read = d.read }, d.among)
    ];
    all = λ r a b w is among. are.more (record { from = a; to = b }) (record {
      place = is.place;
      right = w;
      before = omega (arith, slice_get_within g.rules is.place _ is.read);
      read = is.read;
      among = among;
    });
  }

  pub middle_inside : (edges : List Edge) → IsGrammar g → AreMiddle g null edges → All (IsInside g.nonterminals) edges
  middle_inside edges is are = all_of_at (IsInside g.nonterminals) edges (λ e at.
      let (r, w, rule_is, among) = are.only e.from e.to at in
      let whole = among.whole in
      (left_of_rule g is r e.from w rule_is, (symbols_right g among.before (N e.to ∷ among.after) (rw whole at (symbols_of_rule g is r e.from w rule_is))).0))

  module _ (nullable_is : AreMakers false g null) (edges : List Edge) (rows : List BitSet) (are : AreMiddle g null edges) (runs : AreRuns g.nonterminals edges rows) where
    edge_part : (a b : ℕ) → IsEdge edges a b → MiddlePart g null a b
    edge_part a b edge =
        let (r, w, rule_is, among) = are.only a b edge in
        let whole = among.whole in
        record { number = r; before = among.before; after = among.after; is_rule = rw whole at rule_is; vanish = among.vanish; vanish_after = among.vanish_after }

    part_edge : (a b : ℕ) → MiddlePart g null a b → IsEdge edges a b
    part_edge a b part = are.all part.number a b (part.before ++ (N b ∷ part.after)) part.is_rule
        (record { before = part.before; after = part.after; whole = refl; vanish = part.vanish; vanish_after = part.vanish_after })

    run_of : (t m n : ℕ) → Leads edges m n → IsEdge edges t m → StepsOnce g (N t ∷ []) (N n ∷ [])
    run_of t m _ here edge = middle_steps g null nullable_is t m (edge_part t m edge)
    run_of t m _ (on a b leads next) edge = cycle_then g null nullable_is t a b (run_of t m a leads edge) (middle_steps g null nullable_is a b (edge_part a b next))

    pub cyclic_of_row : (n : ℕ) → In rows n n → Cyclic g n
    cyclic_of_row n has =
        let (m, leads, was) = runs.spread_are.only n n has in
        run_of n m n leads (runs.base_are.only m n was)

    pub row_of_cyclic : (n : ℕ) → Cyclic g n → In rows n n
    row_of_cyclic = cyclic_met g null nullable_is (λ a b. In rows b a) (λ n m part. runs.spread_are.all m m n here (runs.base_are.all m n (part_edge n m part)))
        (λ a n m has part. spread_on edges runs.base rows runs.spread_are n m a (part_edge n m part) has)
