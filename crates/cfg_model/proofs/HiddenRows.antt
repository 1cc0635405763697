-- Rows of what is met behind something that vanishes, and the hidden left recursion that they tell.
use Rattle.std.proofs.Common.{◌≡◌, ℕ, ◌+◌, ◌≤◌, ◌⊎◌, inl, inr, Bool, true, false, IsTrue, List, [], ◌∷◌, ◌++◌, length, refl, sym, ap, subst, arith, slice_get, Some}
use Rattle.std.proofs.lemmas.Option.{slice_get_within}
use Rattle.std.proofs.lemmas.Bool.{cases_eq}
use Rattle.ck_base.specs.BitSet.{BitSet, Has}
use Rattle.cfg_model.specs.declared.symbol.Sym.{Sym}
use Rattle.cfg_model.specs.declared.symbol.Sym.TheVariants.{T, N}
use Rattle.cfg_model.specs.declared.rows.Edge.{Edge}
use Rattle.cfg_model.specs.Cfg.{Cfg, Rule}
use Rattle.cfg_model.specs.Searches.{HiddenLeft}
use Rattle.cfg_model.specs.Rows.{In, AreRows}
use Rattle.cfg_model.specs.within.Closing.{AllPass, Passes, AreMakers}
use Rattle.cfg_model.specs.within.Spreading.{Leads, here, on, AreSpread}
use Rattle.cfg_model.specs.within.Parts.{LeftPart}
use Rattle.cfg_model.specs.within.Runs.{AreLeftEdges, AreRuns}
use Rattle.cfg_model.specs.within.Trailers.{JoinsRows}
use Rattle.cfg_model.specs.within.Hiding.{Meets, FrontMeets, IsHiddenIn, IsHiddenBefore, AreHidden}
use Rattle.cfg_model.proofs.Cycles.{hidden_left_met, HiddenRun, LeftRun, then_hidden, hidden_then, part_hidden}
use Rattle.cfg_model.proofs.Joining.{leads_then}
use Rattle.cfg_model.proofs.LeftPaths.{part_steps, steps_join}
use Rattle.cfg_model.proofs.Trailing.{joins_then, joins_same}

module _ (null : BitSet) (met : List BitSet) where
  -- so far: what the rest still meets is all that is missing
  pub record Hiding (left : ℕ) (right : List Sym) (behind : Bool) (rest : List Sym) (old now : List BitSet) : Type 0 where
    pub kept : (n t : ℕ) → In old n t → In now n t
    pub only : (n t : ℕ) → In now n t → In old n t ⊎ ((n ≡ left) × FrontMeets null met false right t)
    pub more : (t : ℕ) → FrontMeets null met false right t → In now left t ⊎ FrontMeets null met behind rest t
    pub later : (t : ℕ) → FrontMeets null met behind rest t → FrontMeets null met false right t

  module _ (left : ℕ) (right : List Sym) (behind : Bool) (s : Sym) (rest : List Sym) (old now new : List BitSet) (before : Hiding left right behind (s ∷ rest) old now)
      (joins : JoinsRows now new (λ n t. (n ≡ left) × IsTrue behind × Meets met s t)) where
    pub hiding_pass : Passes false (Has null) s → Hiding left right true rest old new
    hiding_pass pass = record {
      kept = λ n t has. joins.kept n t (before.kept n t has);
      only = λ n t has. elim (joins.only n t has) [
        | inl was ↦ before.only n t was
        | inr (same, flag, meets) ↦ inr (same, before.later t (inl (flag, meets)))
      ];
      more = λ t meets. elim (before.more t meets) [
        | inl has ↦ inl (joins.kept left t has)
        | inr (inl (flag, there)) ↦ inl (joins.more left t (refl, flag, there))
        | inr (inr (_, there)) ↦ inr there
      ];
      later = λ t meets. before.later t (inr (pass, meets));
    }

    pub hiding_stop : (Passes false (Has null) s → ⊥) → JoinsRows old new (λ n t. (n ≡ left) × FrontMeets null met false right t)
    hiding_stop stop = record {
      kept = λ n t has. joins.kept n t (before.kept n t has);
      only = λ n t has. elim (joins.only n t has) [
        | inl was ↦ before.only n t was
        | inr (same, flag, meets) ↦ inr (same, before.later t (inl (flag, meets)))
      ];
      more = λ n t (same, meets). elim (before.more t meets) [
        | inl has ↦ rw same (joins.kept left t has)
        | inr (inl (flag, there)) ↦ joins.more n t (same, flag, there)
        | inr (inr (pass, _)) ↦ absurd (stop pass)
      ];
    }

  -- what is met in front, by cutting the list
  pub record FrontPart (behind : Bool) (w : List Sym) (t : ℕ) : Type 0 where
    pub before : List Sym
    pub middle : ℕ
    pub after : List Sym
    pub whole : w ≡ before ++ (N middle ∷ after)
    pub vanish : AllPass false (Has null) before
    pub some : IsTrue behind ⊎ (before ≡ [] → ⊥)
    pub meets : Meets met (N middle) t

  pub front_cut : (behind : Bool) (w : List Sym) (t : ℕ) → FrontMeets null met behind w t → FrontPart behind w t
  front_cut behind [] t meets = absurd meets
  front_cut behind (T a ∷ w) t (inl (flag, meets)) = absurd meets
  front_cut behind (N n ∷ w) t (inl (flag, meets)) = record { before = []; middle = n; after = w; whole = refl; vanish = tt; some = inl flag; meets = meets }
  front_cut behind (s ∷ w) t (inr (pass, meets)) =
      let rest = front_cut true w t meets in
      record {
        before = s ∷ rest.before;
        middle = rest.middle;
        after = rest.after;
        whole = ap (λ l. s ∷ l) rest.whole;
        vanish = (pass, rest.vanish);
        some = inr (λ e. cc);
        meets = rest.meets;
      }

  pub front_there : (behind : Bool) (x y : List Sym) (m t : ℕ) → AllPass false (Has null) x → IsTrue behind ⊎ (x ≡ [] → ⊥) → Meets met (N m) t
      → FrontMeets null met behind (x ++ (N m ∷ y)) t
  front_there behind [] y m t vanish (inl flag) meets = inl (flag, meets)
  front_there behind [] y m t vanish (inr some) meets = absurd (some refl)
  front_there behind (s ∷ x) y m t vanish some meets = inr (vanish.0, front_there true x y m t vanish.1 (inl refl) meets)

abbrev as_rule : ℕ → List Sym → Rule
as_rule n w = record { left = n; right = w }

-- the rules before the place
module _ (g : Cfg) (null : BitSet) (met : List BitSet) where
  pub hidden_rule : (i : ℕ) (one : Rule) (old mid new : List BitSet) → slice_get g.rules i ≡ Some one → JoinsRows old mid (IsHiddenBefore g null met i)
      → JoinsRows mid new (λ n t. (n ≡ one.left) × FrontMeets null met false one.right t) → JoinsRows old new (IsHiddenBefore g null met (i + 1))
  hidden_rule i one old mid new is a b = joins_then old mid new (IsHiddenBefore g null met i) (λ n t. (n ≡ one.left) × FrontMeets null met false one.right t) (IsHiddenBefore g null met (i + 1)) a b
      (λ n t d. record { place = d.place; right = d.right; before = (let lt = d.before in omega arith); read = d.read; meets = d.meets })
      (λ n t (left, meets). record { place = i; right = one.right; before = omega arith; read = rw left is; meets = meets })
      (λ n t d. elim (cases_eq d.place i) [
        | inl at_place ↦
            let read : slice_get g.rules i ≡ Some (record { left = n; right = d.right }) = rw at_place at d.read in
            let same : as_rule n d.right ≡ one = cc (read, is) in
            inr (ap (λ (r : Rule). r.left) same, subst (λ (l : List Sym). FrontMeets null met false l t) (ap (λ (r : Rule). r.right) same) d.meets)
        | inr other ↦ inl (record { place = d.place; right = d.right; before = (let lt = d.before in omega arith); read = d.read; meets = d.meets })
      ])

  pub hidden_all : (i : ℕ) (old new : List BitSet) → JoinsRows old new (IsHiddenBefore g null met i) → length g.rules ≤ i → JoinsRows old new (IsHiddenIn g null met)
  hidden_all i old new are all = joins_same old new (IsHiddenBefore g null met i) (IsHiddenIn g null met) are
      (λ n t d. (d.place + 1, d.right, record { place = d.place; from_one = refl; read = d.read }, d.meets))
      (λ n t (r, w, is, meets). record {
        place = is.place;
        right = w;
        before = omega (arith, slice_get_within g.rules is.place _ is.read);
        read = is.read;
        meets = meets;
      })

-- the rows that spread from there along the left edges
module _ (g : Cfg) (null : BitSet) (nullable_is : AreMakers false g null) (edges : List Edge) (met empty base rows : List BitSet)
    (edges_are : AreLeftEdges g null edges) (runs : AreRuns g.nonterminals edges met) (empty_is : (n t : ℕ) → In empty n t → ⊥)
    (base_are : JoinsRows empty base (IsHiddenIn g null met)) (spread_are : AreSpread edges base rows) where
  base_part : (n t : ℕ) → In base n t → IsHiddenIn g null met n t
  base_part n t has = elim (base_are.only n t has) [ inl was ↦ absurd (empty_is n t was) | inr there ↦ there ]

  part_base : (n m t : ℕ) (part : LeftPart g null n (N m)) → (part.before ≡ [] → ⊥) → Meets met (N m) t → In base n t
  part_base n m t part some meets = base_are.more n t
      (part.number, part.before ++ (N m ∷ part.after), part.is_rule, front_there null met false part.before part.after m t part.vanish (inr some) meets)

  -- from runs along the edges to derivations
  led : (m n : ℕ) → Leads edges m n → (n ≡ m) ⊎ LeftRun g null nullable_is n m
  led m _ here = inl refl
  led m _ (on a b leads edge) = inr (elim (led m a leads) [
    | inl same ↦ rw same at (part_steps g null nullable_is b a (edges_are.only a b edge))
    | inr run ↦ steps_join g null nullable_is b a m (part_steps g null nullable_is b a (edges_are.only a b edge)) run
  ])

  run_of_met : (j t : ℕ) → In met j t → LeftRun g null nullable_is j t
  run_of_met j t has =
      let (m, leads, was) = runs.spread_are.only j t has in
      let last = part_steps g null nullable_is m t (edges_are.only t m (runs.base_are.only m t was)) in
      elim (led m j leads) [
        | inl same ↦ rw (sym same) at last
        | inr run ↦ steps_join g null nullable_is j m t run last
      ]

  hidden_of_base : (n t : ℕ) → In base n t → HiddenRun g null nullable_is n t
  hidden_of_base n t has =
      let (r, w, is, meets) = base_part n t has in
      let cut = front_cut null met false w t meets in
      let whole = cut.whole in
      let part : LeftPart g null n (N cut.middle) = record { number = r; before = cut.before; after = cut.after; is_rule = rw whole at is; vanish = cut.vanish } in
      let some : cut.before ≡ [] → ⊥ = λ e. elim cut.some [ inl flag ↦ (let f = flag in cc) | inr is_some ↦ is_some e ] in
      let first = part_hidden g null nullable_is n cut.middle part some in
      elim cut.meets [
        | inl same ↦ rw (sym same) at first
        | inr has ↦ hidden_then g null nullable_is n cut.middle t first (run_of_met cut.middle t has)
      ]

  pub hidden_of_row : (n : ℕ) → In rows n n → HiddenLeft g n
  hidden_of_row n has =
      let (m, leads, was) = spread_are.only n n has in
      elim (led m n leads) [
        | inl same ↦ rw (sym same) at (hidden_of_base m n was)
        | inr run ↦ then_hidden g null nullable_is n m n run (hidden_of_base m n was)
      ]

  -- from derivations to rows
  met_part : (n m : ℕ) → LeftPart g null n (N m) → In met n m
  met_part n m part = runs.spread_are.all n n m here (runs.base_are.all n m (edges_are.all m n part))

  met_then : (a n m : ℕ) → In met a n → LeftPart g null n (N m) → In met a m
  met_then a n m has part =
      let (k, leads, was) = runs.spread_are.only a n has in
      runs.spread_are.all n a m (leads_then edges n k a (on n k here (runs.base_are.only k n was)) leads) (runs.base_are.all n m (edges_are.all m n part))

  hide : (n m : ℕ) (part : LeftPart g null n (N m)) → (part.before ≡ [] → ⊥) → In rows n m
  hide n m part some = spread_are.all n n m here (part_base n m m part some (inl refl))

  hide_after : (a n m : ℕ) → In met a n → (part : LeftPart g null n (N m)) → (part.before ≡ [] → ⊥) → In rows a m
  hide_after a n m has part some =
      let (k, leads, was) = runs.spread_are.only a n has in
      spread_are.all n a m (leads_then edges n k a (on n k here (runs.base_are.only k n was)) leads) (part_base n m m part some (inl refl))

  hidden : (a n m : ℕ) → In rows a n → LeftPart g null n (N m) → In rows a m
  hidden a n m has part =
      let (k, leads, was) = spread_are.only a n has in
      let (r, w, is, meets) = base_part k n was in
      let cut = front_cut null met false w n meets in
      let whole = cut.whole in
      let first : LeftPart g null k (N cut.middle) = record { number = r; before = cut.before; after = cut.after; is_rule = rw whole at is; vanish = cut.vanish } in
      let some : cut.before ≡ [] → ⊥ = λ e. elim cut.some [ inl flag ↦ (let f = flag in cc) | inr is_some ↦ is_some e ] in
      let there : In met cut.middle m = elim cut.meets [
        | inl same ↦ rw same at (met_part n m part)
        | inr run ↦ met_then cut.middle n m run part
      ] in
      spread_are.all k a m leads (part_base k cut.middle m first some (inr there))

  pub row_of_hidden : (n : ℕ) → HiddenLeft g n → In rows n n
  row_of_hidden = hidden_left_met g null nullable_is (In met) (In rows) met_part met_then hide hide_after hidden

  pub are_hidden : AreRows g.nonterminals g.nonterminals rows → AreHidden g rows
  are_hidden are = record { are = are; recursive = hidden_of_row; all = row_of_hidden }
