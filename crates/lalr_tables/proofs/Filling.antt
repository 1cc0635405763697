-- One move more, and one rule more on a terminal.
use Rattle.std.proofs.Common.{◌≡◌, ◌≢◌, ℕ, ◌+◌, ◌<◌, ◌≤◌, ◌⊎◌, inl, inr, List, length, Option, Some, None, slice_index, slice_set, refl, sym, ap, subst, ◌∙◌, arith, length-set, get_or-set_same, get_or-set_other}
use Rattle.std.proofs.lemmas.Bool.{cases_eq, cases_lt}
use Rattle.ck_base.specs.BitSet.{BitSet, Has}
use Rattle.lalr_tables.specs.declared.clash.Clash.{Clash}
use Rattle.lalr_tables.specs.within.Clashes.{Precedes, IsLeastClash}
use Rattle.lalr_tables.specs.within.Rows.{CellIs, free, of_rule, of_shift, AreCells, ClashesOn, AreClashes, Puts, first, beside_shift, lower, higher, again, PutsAll, none, put, passed}
use Rattle.lalr_tables.proofs.Least.{before_self, least_same, least_more, clashes_map}

-- the same was seen of a terminal
pub cell_same : (M L R Q : ℕ → ℕ → Type 0) (t c : ℕ) → ((m : ℕ) → M t m → L t m) → ((m : ℕ) → L t m → M t m)
    → ((r : ℕ) → R t r → Q t r) → ((r : ℕ) → Q t r → R t r) → CellIs M R t c → CellIs L Q t c
cell_same M L R Q t c to from there back (free e no_move no_rule) = free e (λ m x. no_move m (from m x)) (λ r x. no_rule r (back r x))
cell_same M L R Q t c to from there back (of_rule r e low has no_move least) =
    of_rule r e low (there r has) (λ m x. no_move m (from m x)) (λ s x. least s (back s x))
cell_same M L R Q t c to from there back (of_shift m e has) = of_shift m e (to m has)

module _ (M R : ℕ → ℕ → Type 0) (width t q : ℕ) (small : q < 2047) where
  -- the rules seen, and this one on this terminal
  abbrev pub With : ℕ → ℕ → Type 0
  With u r = R u r ⊎ ((u ≡ t) × (r ≡ q))

  module _ (old new : List ℕ) (found after : Option Clash) (inside : t < length old) where
    pub puts_length : Puts t q old new found after → length new ≡ length old
    puts_length (first e is same) = ap length is ∙ length-set old t (q + 1)
    puts_length (beside_shift big is lesser) = ap length is
    puts_length (lower s e less low is lesser) = ap length is ∙ length-set old t (q + 1)
    puts_length (higher s e less is lesser) = ap length is
    puts_length (again e is same) = ap length is

    was_set : (u : ℕ) → u ≢ t → new ≡ slice_set old t (q + 1) → slice_index new u ≡ slice_index old u
    was_set u other is = ap (λ l. slice_index l u) is ∙ get_or-set_other old t u (q + 1) 0 other

    is_set : new ≡ slice_set old t (q + 1) → slice_index new t ≡ q + 1
    is_set is = ap (λ l. slice_index l t) is ∙ get_or-set_same old t (q + 1) 0 inside

    elsewhere : (u : ℕ) → u ≢ t → Puts t q old new found after → slice_index new u ≡ slice_index old u
    elsewhere u other (first e is same) = was_set u other is
    elsewhere u other (beside_shift big is lesser) = ap (λ l. slice_index l u) is
    elsewhere u other (lower s e less low is lesser) = was_set u other is
    elsewhere u other (higher s e less is lesser) = ap (λ l. slice_index l u) is
    elsewhere u other (again e is same) = ap (λ l. slice_index l u) is

    here : Puts t q old new found after → CellIs M R t (slice_index old t) → CellIs M With t (slice_index new t)
    here (first z is same) (free e no_move no_rule) =
        of_rule q (is_set is) small (inr (refl, refl)) no_move (λ s w. elim w [ inl x ↦ absurd (no_rule s x) | inr (_, x) ↦ omega (arith, x) ])
    here (first z is same) (of_rule r e low has no_move least) = absurd (omega (arith, z, e))
    here (first z is same) (of_shift m e has) = absurd (omega (arith, z, e))
    here (beside_shift big is lesser) (free e no_move no_rule) = absurd (omega (arith, big, e))
    here (beside_shift big is lesser) (of_rule r e low has no_move least) = absurd (omega (arith, big, e, low))
    here (beside_shift big is lesser) (of_shift m e has) = of_shift m (ap (λ l. slice_index l t) is ∙ e) has
    here (lower s z less low is lesser) (free e no_move no_rule) = absurd (omega (arith, z, e))
    here (lower s z less low is lesser) (of_rule r e low2 has no_move least) =
        of_rule q (is_set is) small (inr (refl, refl)) no_move (λ v w. elim w [
          | inl x ↦ (let le = least v x in omega (arith, le, z, e, less))
          | inr (_, x) ↦ omega (arith, x)
        ])
    here (lower s z less low is lesser) (of_shift m e has) = absurd (omega (arith, z, e, low))
    here (higher s z less is lesser) (free e no_move no_rule) = absurd (omega (arith, z, e))
    here (higher s z less is lesser) (of_rule r e low has no_move least) =
        of_rule r (ap (λ l. slice_index l t) is ∙ e) low (inl has) no_move (λ v w. elim w [ inl x ↦ least v x | inr (_, x) ↦ omega (arith, x, z, e, less) ])
    here (higher s z less is lesser) (of_shift m e has) = absurd (omega (arith, z, e, less, small))
    here (again z is same) (free e no_move no_rule) = absurd (omega (arith, z, e))
    here (again z is same) (of_rule r e low has no_move least) =
        of_rule r (ap (λ l. slice_index l t) is ∙ e) low (inl has) no_move (λ v w. elim w [ inl x ↦ least v x | inr (_, x) ↦ omega (arith, x, z, e) ])
    here (again z is same) (of_shift m e has) = absurd (omega (arith, z, e, small))

    pub put_cells : Puts t q old new found after → AreCells width M R (slice_index old) → AreCells width M With (slice_index new)
    put_cells puts cells u low = elim (cases_eq u t) [
      | inl same ↦ rw same (here puts (rw same at (cells u low)))
      | inr other ↦
          rw (elsewhere u other puts) (cell_same M M R With u (slice_index old u) (λ m x. x) (λ m x. x) (λ r x. inl x)
          (λ r w. elim w [ inl x ↦ x | inr (x, _) ↦ absurd (other x) ]) (cells u low))
    ]

    abbrev Covered : Clash → Clash → Type 0
    Covered k c = ((d : Clash) × AreClashes M R d × Precedes d c) ⊎ Precedes k c

    old_clash : (k : Clash) (u s : ℕ) (o : Option ℕ) → ClashesOn M R u s o → Covered k (record { terminal = u; rule = s; other = o })
    old_clash k u s o clash = inl (record { terminal = u; rule = s; other = o }, clash, before_self u s o)

    to_with : (c : Clash) → AreClashes M R c → AreClashes M With c
    to_with c = clashes_map M R With c.terminal c.rule c.other (λ s x. inl x)

    -- nothing is new
    all_old : ((r : ℕ) → R t r → ⊥) → ((m : ℕ) → M t m → ⊥) → (u s : ℕ) (o : Option ℕ) → ClashesOn M With u s o → ClashesOn M R u s o
    all_old no_rule no_move u s None (inl x, m) = (x, m)
    all_old no_rule no_move u s None (inr (e, _), (m, y)) = absurd (no_move m (subst (λ v. M v m) e y))
    all_old no_rule no_move u s (Some v) (inl x, inl y, differ) = (x, y, differ)
    all_old no_rule no_move u s (Some v) (inl x, inr (e, _), differ) = absurd (no_rule s (subst (λ k. R k s) e x))
    all_old no_rule no_move u s (Some v) (inr (e, _), inl y, differ) = absurd (no_rule v (subst (λ k. R k v) e y))
    all_old no_rule no_move u s (Some v) (inr (e, f), inr (_, h), differ) = absurd (differ (f ∙ sym h))

    known : R t q → (u r : ℕ) → With u r → R u r
    known there u r (inl x) = x
    known there u r (inr (e, f)) = subst (λ k. R k r) (sym e) (subst (λ k. R t k) (sym f) there)

    beside : (m : ℕ) → M t m → (u s : ℕ) (o : Option ℕ) → ClashesOn M With u s o
        → Covered (record { terminal = t; rule = q; other = None }) (record { terminal = u; rule = s; other = o })
    beside m has u s None (inl x, y) = old_clash (record { terminal = t; rule = q; other = None }) u s None (x, y)
    beside m has u s None (inr (e, f), y) = inr (inr (sym e, inr (sym f, tt)))
    beside m has u s (Some v) (inl x, inl y, differ) = old_clash (record { terminal = t; rule = q; other = None }) u s (Some v) (x, y, differ)
    beside m has u s (Some v) (inl x, inr (e, f), differ) =
        inl (record { terminal = u; rule = s; other = None }, (x, (m, subst (λ k. M k m) (sym e) has)), inr (refl, inr (refl, tt)))
    beside m has u s (Some v) (inr (e, f), y, differ) = inr (inr (sym e, inr (sym f, tt)))

    -- r is the least rule so far, which stands before this one
    above : (r : ℕ) → r < q → ((m : ℕ) → M t m → ⊥) → ((s : ℕ) → R t s → r ≤ s) → (u s : ℕ) (o : Option ℕ) → ClashesOn M With u s o
        → Covered (record { terminal = t; rule = r; other = Some q }) (record { terminal = u; rule = s; other = o })
    above r less no_move least u s None (inl x, y) = old_clash (record { terminal = t; rule = r; other = Some q }) u s None (x, y)
    above r less no_move least u s None (inr (e, f), (m, y)) = absurd (no_move m (subst (λ v. M v m) e y))
    above r less no_move least u s (Some v) (inl x, inl y, differ) = old_clash (record { terminal = t; rule = r; other = Some q }) u s (Some v) (x, y, differ)
    above r less no_move least u s (Some v) (inl x, inr (e, f), differ) =
        let le = least s (subst (λ k. R k s) e x) in
        elim (cases_lt r s) [
          | inl lt ↦ inr (inr (sym e, inl lt))
          | inr ge ↦ inr (inr (sym e, inr (omega (arith, ge, le), omega (arith, f))))
        ]
    above r less no_move least u s (Some v) (inr (e, f), y, differ) = inr (inr (sym e, inl (omega (arith, f, less))))

    -- r is the least rule so far, which stands behind this one
    below : (r : ℕ) → q < r → ((m : ℕ) → M t m → ⊥) → ((s : ℕ) → R t s → r ≤ s) → (u s : ℕ) (o : Option ℕ) → ClashesOn M With u s o
        → Covered (record { terminal = t; rule = q; other = Some r }) (record { terminal = u; rule = s; other = o })
    below r less no_move least u s None (inl x, y) = old_clash (record { terminal = t; rule = q; other = Some r }) u s None (x, y)
    below r less no_move least u s None (inr (e, f), (m, y)) = absurd (no_move m (subst (λ v. M v m) e y))
    below r less no_move least u s (Some v) (inl x, inl y, differ) = old_clash (record { terminal = t; rule = q; other = Some r }) u s (Some v) (x, y, differ)
    below r less no_move least u s (Some v) (inl x, inr (e, f), differ) =
        let le = least s (subst (λ k. R k s) e x) in
        inr (inr (sym e, inl (omega (arith, le, less))))
    below r less no_move least u s (Some v) (inr (e, f), inl y, differ) =
        let le = least v (subst (λ k. R k v) e y) in
        inr (inr (sym e, inr (sym f, le)))
    below r less no_move least u s (Some v) (inr (e, f), inr (_, h), differ) = absurd (differ (f ∙ sym h))

    pub put_best : Puts t q old new found after → CellIs M R t (slice_index old t) → IsLeastClash (AreClashes M R) found → IsLeastClash (AreClashes M With) after
    put_best (first z is same) (free e no_move no_rule) best =
        rw same (least_same (AreClashes M R) (AreClashes M With) found to_with (λ c. all_old no_rule no_move c.terminal c.rule c.other) best)
    put_best (first z is same) (of_rule r e low has no_move least) best = absurd (omega (arith, z, e))
    put_best (first z is same) (of_shift m e has) best = absurd (omega (arith, z, e))
    put_best (beside_shift big is lesser) (free e no_move no_rule) best = absurd (omega (arith, big, e))
    put_best (beside_shift big is lesser) (of_rule r e low has no_move least) best = absurd (omega (arith, big, e, low))
    put_best (beside_shift big is lesser) (of_shift m e has) best =
        least_more (AreClashes M R) (AreClashes M With) (record { terminal = t; rule = q; other = None }) found after to_with (inr (refl, refl), (m, has))
        (λ c. beside m has c.terminal c.rule c.other) lesser best
    put_best (lower s z less low is lesser) (free e no_move no_rule) best = absurd (omega (arith, z, e))
    put_best (lower s z less low is lesser) (of_rule r e low2 has no_move least) best =
        let same : r ≡ s = omega (arith, z, e) in
        least_more (AreClashes M R) (AreClashes M With) (record { terminal = t; rule = q; other = Some s }) found after to_with
        (inr (refl, refl), inl (subst (λ k. R t k) same has), λ x. omega (arith, x, less))
        (λ c. below s less no_move (λ v x. (let le = least v x in omega (arith, le, same))) c.terminal c.rule c.other) lesser best
    put_best (lower s z less low is lesser) (of_shift m e has) best = absurd (omega (arith, z, e, low))
    put_best (higher s z less is lesser) (free e no_move no_rule) best = absurd (omega (arith, z, e))
    put_best (higher s z less is lesser) (of_rule r e low has no_move least) best =
        let same : r ≡ s = omega (arith, z, e) in
        least_more (AreClashes M R) (AreClashes M With) (record { terminal = t; rule = s; other = Some q }) found after to_with
        (inl (subst (λ k. R t k) same has), inr (refl, refl), λ x. omega (arith, x, less))
        (λ c. above s less no_move (λ v x. (let le = least v x in omega (arith, le, same))) c.terminal c.rule c.other) lesser best
    put_best (higher s z less is lesser) (of_shift m e has) best = absurd (omega (arith, z, e, less, small))
    put_best (again z is same) (free e no_move no_rule) best = absurd (omega (arith, z, e))
    put_best (again z is same) (of_rule r e low has no_move least) best =
        let there : R t q = subst (λ k. R t k) (omega (arith, z, e)) has in
        rw same (least_same (AreClashes M R) (AreClashes M With) found to_with
        (λ c. clashes_map M With R c.terminal c.rule c.other (λ s x. known there c.terminal s x)) best)
    put_best (again z is same) (of_shift m e has) best = absurd (omega (arith, z, e, small))

-- the rules seen, and one on the terminals of a set below a count
abbrev pub WithAll : (ℕ → ℕ → Type 0) → BitSet → ℕ → ℕ → ℕ → ℕ → Type 0
WithAll R set q count u r = R u r ⊎ ((u < count) × Has set u × (r ≡ q))

-- what a row says with a rule more
pub record RowIs (M R : ℕ → ℕ → Type 0) (width : ℕ) (old row : List ℕ) (found : Option Clash) : Type 0 where
  pub long : length row ≡ length old
  pub cells_are : AreCells width M R (slice_index row)
  pub best : IsLeastClash (AreClashes M R) found

pub row_same : (M R Q : ℕ → ℕ → Type 0) (width : ℕ) (old row : List ℕ) (found : Option Clash) → ((u r : ℕ) → R u r → Q u r) → ((u r : ℕ) → Q u r → R u r)
    → RowIs M R width old row found → RowIs M Q width old row found
row_same M R Q width old row found to from is =
    record {
      long = is.long;
      cells_are = λ u low. cell_same M M R Q u (slice_index row u) (λ m x. x) (λ m x. x) (to u) (from u) (is.cells_are u low);
      best = least_same (AreClashes M R) (AreClashes M Q) found (λ c. clashes_map M R Q c.terminal c.rule c.other (to c.terminal))
          (λ c. clashes_map M Q R c.terminal c.rule c.other (from c.terminal)) is.best;
    }

module _ (M R : ℕ → ℕ → Type 0) (width q : ℕ) (small : q < 2047) (set : BitSet) (old : List ℕ) (found : Option Clash) (inside : width ≤ length old)
    (cells : AreCells width M R (slice_index old)) (best : IsLeastClash (AreClashes M R) found) where
  at_none : (u r : ℕ) → WithAll R set q 0 u r → R u r
  at_none u r (inl x) = x
  at_none u r (inr (low, _, _)) = absurd (omega (arith, low))

  one_less : (t u r : ℕ) → WithAll R set q t u r → WithAll R set q (t + 1) u r
  one_less t u r (inl x) = inl x
  one_less t u r (inr (low, has, is)) = inr (omega (arith, low), has, is)

  lacking : (t u r : ℕ) → (Has set t → ⊥) → WithAll R set q (t + 1) u r → WithAll R set q t u r
  lacking t u r lacks (inl x) = inl x
  lacking t u r lacks (inr (low, has, is)) = elim (cases_eq u t) [
    | inl same ↦ absurd (lacks (subst (λ k. Has set k) same has))
    | inr other ↦ inr (omega (arith, low, other), has, is)
  ]

  joined : (t u r : ℕ) → Has set t → With M (WithAll R set q t) width t q small u r → WithAll R set q (t + 1) u r
  joined t u r here (inl x) = one_less t u r x
  joined t u r here (inr (e, is)) = inr (omega (arith, e), subst (λ k. Has set k) (sym e) here, is)

  parted : (t u r : ℕ) → WithAll R set q (t + 1) u r → With M (WithAll R set q t) width t q small u r
  parted t u r (inl x) = inl (inl x)
  parted t u r (inr (low, has, is)) = elim (cases_eq u t) [
    | inl same ↦ inr (same, is)
    | inr other ↦ inl (inr (omega (arith, low, other), has, is))
  ]

  pub puts_all : (n : ℕ) (row : List ℕ) (met : Option Clash) → n ≤ width → PutsAll set q old found n row met → RowIs M (WithAll R set q n) width old row met
  puts_all n row met low none =
      row_same M R (WithAll R set q 0) width old old found (λ u r x. inl x) at_none (record { long = refl; cells_are = cells; best = best })
  puts_all n row met low (put t before new seen after puts has one) =
      let is = puts_all t before seen (omega (arith, low)) puts in
      let there : t < length before = omega (arith, low, inside, is.long) in
      row_same M (With M (WithAll R set q t) width t q small) (WithAll R set q (t + 1)) width old row met (λ u r. joined t u r has) (λ u r. parted t u r) (record {
        long = puts_length M (WithAll R set q t) width t q small before row seen met there one ∙ is.long;
        cells_are = put_cells M (WithAll R set q t) width t q small before row seen met there one is.cells_are;
        best = put_best M (WithAll R set q t) width t q small before row seen met there one (is.cells_are t (omega (arith, low))) is.best;
      })
  puts_all n row met low (passed t before seen puts lacks) =
      row_same M (WithAll R set q t) (WithAll R set q (t + 1)) width old row met (λ u r. one_less t u r) (λ u r. lacking t u r lacks)
      (puts_all t row met (omega (arith, low)) puts)
