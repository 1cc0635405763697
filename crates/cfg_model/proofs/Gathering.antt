-- One element more, and lists one after the other.
use Rattle.std.proofs.Common.{◌≡◌, ℕ, ◌+◌, ◌≤◌, ◌⊎◌, inl, inr, List, [], ◌∷◌, ◌++◌, length, All, get_or, refl, sym, ap, subst, arith, slice_get, Some}
use Rattle.std.proofs.lemmas.Option.{slice_get_within, slice_get-get_or}
use Rattle.std.proofs.lemmas.Bool.{cases_eq}
use Rattle.ck_base.specs.BitSet.{BitSet}
use Rattle.cfg_model.specs.declared.symbol.Sym.{Sym}
use Rattle.cfg_model.specs.declared.symbol.Sym.TheVariants.{T, N}
use Rattle.cfg_model.specs.declared.rows.Edge.{Edge}
use Rattle.cfg_model.specs.Cfg.{Cfg, Rule, IsGrammar}
use Rattle.cfg_model.specs.Sets.{Reachable}
use Rattle.cfg_model.specs.within.Parts.{At}
use Rattle.cfg_model.specs.Rows.{In}
use Rattle.cfg_model.specs.within.Spreading.{IsInside, Leads, here, on, AreSpread}
use Rattle.cfg_model.specs.within.Gather.{Gathers, Behind, IsDown, IsDownBefore, AreDown}
use Rattle.cfg_model.proofs.Fronts.{at_front, at_end, at_cases}
use Rattle.cfg_model.proofs.InRange.{symbols_of_rule, symbols_right, left_of_rule}
use Rattle.cfg_model.proofs.Reaching.{start_reachable, part_reachable, reachable_in_all}

pub all_of_at : {A : Type 0} (P : A → Type 0) (xs : List A) → ((x : A) → At xs x → P x) → All P xs
all_of_at P xs each = λ k d lt. each (get_or xs k d) (k, slice_get-get_or xs k d lt)

module _ {A : Type 0} where
  pub gathers_same : (old now : List A) (P Q : A → Type 0) → Gathers old now P → ((x : A) → P x → Q x) → ((x : A) → Q x → P x) → Gathers old now Q
  gathers_same old now P Q before to from = record {
    kept = before.kept;
    only = λ x at. elim (before.only x at) [ inl was ↦ inl was | inr p ↦ inr (to x p) ];
    more = λ x q. before.more x (from x q);
  }

  pub gathers_push : (old now : List A) (y : A) (P Q : A → Type 0) → Gathers old now P → ((x : A) → P x → Q x) → ((x : A) → Q x → P x ⊎ (x ≡ y)) → Q y
      → Gathers old (now ++ (y ∷ [])) Q
  gathers_push old now y P Q before to from new = record {
    kept = λ x at. at_front now y x (before.kept x at);
    only = λ x at. elim (at_cases now y x at) [
      | inl there ↦ elim (before.only x there) [ inl was ↦ inl was | inr p ↦ inr (to x p) ]
      | inr same ↦ inr (subst (λ (z : A). Q z) (sym same) new)
    ];
    more = λ x q. elim (from x q) [
      | inl p ↦ at_front now y x (before.more x p)
      | inr same ↦ subst (λ (z : A). At (now ++ (y ∷ [])) z) (sym same) (at_end now y)
    ];
  }

  pub gathers_then : (old mid new : List A) (P Q R : A → Type 0) → Gathers old mid P → Gathers mid new Q → ((x : A) → P x → R x) → ((x : A) → Q x → R x)
      → ((x : A) → R x → P x ⊎ Q x) → Gathers old new R
  gathers_then old mid new P Q R a b first second from = record {
    kept = λ x at. b.kept x (a.kept x at);
    only = λ x at. elim (b.only x at) [
      | inl there ↦ elim (a.only x there) [ inl was ↦ inl was | inr p ↦ inr (first x p) ]
      | inr q ↦ inr (second x q)
    ];
    more = λ x r. elim (from x r) [ inl p ↦ b.kept x (a.more x p) | inr q ↦ b.more x q ];
  }

-- what stands behind, by cutting the list
pub behind_cut : (P : List Sym → Type 0) (w : List Sym) (m : ℕ) → Behind P w m → (x : List Sym) × (y : List Sym) × (w ≡ x ++ (N m ∷ y)) × P y
behind_cut P [] m stands = absurd stands
behind_cut P (T a ∷ w) m stands = let (x, y, whole, p) = behind_cut P w m stands in (T a ∷ x, y, ap (λ l. T a ∷ l) whole, p)
behind_cut P (N n ∷ w) m (inl (same, p)) = ([], w, ap (λ k. N k ∷ w) (sym same), p)
behind_cut P (N n ∷ w) m (inr stands) = let (x, y, whole, p) = behind_cut P w m stands in (N n ∷ x, y, ap (λ l. N n ∷ l) whole, p)

pub behind_there : (P : List Sym → Type 0) (x y : List Sym) (m : ℕ) → P y → Behind P (x ++ (N m ∷ y)) m
behind_there P [] y m p = inl (refl, p)
behind_there P (T a ∷ x) y m p = behind_there P x y m p
behind_there P (N n ∷ x) y m p = inr (behind_there P x y m p)

-- one symbol more of a right side
abbrev as_edge : ℕ → ℕ → Edge
as_edge a b = record { from = a; to = b }

abbrev as_rule : ℕ → List Sym → Rule
as_rule n w = record { left = n; right = w }

module _ (left : ℕ) (w : List Sym) (old now : List Edge) where
  pub down_more : (n : ℕ) → Gathers old now (IsDown left w) → Gathers old (now ++ (record { from = left; to = n } ∷ [])) (IsDown left (N n ∷ w))
  down_more n before = gathers_push old now (record { from = left; to = n }) (IsDown left w) (IsDown left (N n ∷ w)) before
      (λ e (from, stands). (from, inr stands))
      (λ e (from, stands). elim stands [ inl (to, _) ↦ inr (same_edge e from to) | inr later ↦ inl (from, later) ])
      (refl, inl (refl, tt))
    where
      same_edge : (e : Edge) → e.from ≡ left → e.to ≡ n → e ≡ record { from = left; to = n }
      same_edge e from to = let a : as_edge e.from e.to ≡ as_edge left n = rw (from, to) refl in a

-- the rules before the place
module _ (g : Cfg) where
  pub down_rule : (i : ℕ) (one : Rule) (old mid new : List Edge) → slice_get g.rules i ≡ Some one → Gathers old mid (IsDownBefore g i) → Gathers mid new (IsDown one.left one.right)
      → Gathers old new (IsDownBefore g (i + 1))
  down_rule i one old mid new is a b = gathers_then old mid new (IsDownBefore g i) (IsDown one.left one.right) (IsDownBefore g (i + 1)) a b
      (λ e d. record { place = d.place; right = d.right; before = (let lt = d.before in omega arith); read = d.read; stands = d.stands })
      (λ e (from, stands). record { place = i; right = one.right; before = omega arith; read = rw from is; stands = stands })
      (λ e d. elim (cases_eq d.place i) [
        | inl at_place ↦
            let read : slice_get g.rules i ≡ Some (record { left = e.from; right = d.right }) = rw at_place at d.read in
            let same : as_rule e.from d.right ≡ one = cc (read, is) in
            inr (ap (λ (r : Rule). r.left) same, subst (λ (l : List Sym). Behind (λ _. Unit {0}) l e.to) (ap (λ (r : Rule). r.right) same) d.stands)
        | inr other ↦ inl (record { place = d.place; right = d.right; before = (let lt = d.before in omega arith); read = d.read; stands = d.stands })
      ])

  pub down_all : (i : ℕ) (edges : List Edge) → Gathers [] edges (IsDownBefore g i) → length g.rules ≤ i → AreDown g edges
  down_all i edges are all = record {
    only = λ e at. elim (are.only e at) [
      | inl (k, is) ↦ absurd (let lt = slice_get_within {A = Edge} [] k e is in omega arith)
      | inr d ↦ (d.place + 1, d.right, record { place = d.place; from_one = refl; read = d.read }, d.stands)
    ];
    all = λ r a b w is stands. are.more (record { from = a; to = b }) (record {
      place = is.place;
      right = w;
      before = omega (arith, slice_get_within g.rules is.place _ is.read);
      read = is.read;
      stands = stands;
    });
  }

  pub down_inside : (edges : List Edge) → IsGrammar g → AreDown g edges → All (IsInside g.nonterminals) edges
  down_inside edges is are = all_of_at (IsInside g.nonterminals) edges (λ e at.
      let (r, w, rule_is, stands) = are.only e at in
      let (x, y, whole, _) = behind_cut (λ _. Unit {0}) w e.to stands in
      (left_of_rule g is r e.from w rule_is, (symbols_right g x (N e.to ∷ y) (rw whole at (symbols_of_rule g is r e.from w rule_is))).0))

  module _ (edges : List Edge) (base rows : List BitSet) (are : AreDown g edges) (base_only : (n : ℕ) → In base n 0 → n ≡ g.start) (base_more : In base g.start 0)
      (spread_are : AreSpread edges base rows) where
    led : (m n : ℕ) → Leads edges m n → Reachable g m → Reachable g n
    led m _ here reachable = reachable
    led m _ (on a b leads edge) reachable =
        let (r, w, rule_is, stands) = are.only (record { from = a; to = b }) edge in
        let (x, y, whole, _) = behind_cut (λ _. Unit {0}) w b stands in
        part_reachable g r a b x y (rw whole at rule_is) (led m a leads reachable)

    pub row_reachable : (n : ℕ) → In rows n 0 → Reachable g n
    row_reachable n has =
        let (m, leads, was) = spread_are.only n 0 has in
        led m n leads (rw (base_only m was) (start_reachable g))

    pub reachable_row : (n : ℕ) → Reachable g n → In rows n 0
    reachable_row = reachable_in_all g (λ n. In rows n 0) (spread_are.all g.start g.start 0 here base_more)
        (λ r n m x y rule_is has.
        let (k, leads, was) = spread_are.only n 0 has in
        spread_are.all k m 0 (on n m leads (are.all r n m (x ++ (N m ∷ y)) rule_is (behind_there (λ _. Unit {0}) x y m tt))) was)
