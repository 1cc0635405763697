-- One move more in a row of shifts and in one of gotos.
use Rattle.std.proofs.Common.{◌≡◌, ℕ, ◌+◌, ◌<◌, ◌≤◌, inl, inr, List, length, Option, Some, slice_index, slice_set, slice_get, Contains, refl, sym, ap, ◌∙◌, arith, length-set, get_or-set_same, get_or-set_other}
use Rattle.std.proofs.lemmas.Bool.{cases_eq}
use Rattle.std.proofs.lemmas.Option.{same_Some}
use Rattle.cfg_model.specs.declared.symbol.Sym.{Sym}
use Rattle.cfg_model.specs.declared.symbol.Sym.TheVariants.{T, N}
use Rattle.lalr_look.proofs.Turns.{contained, placed}
use Rattle.lalr_tables.specs.within.Rows.{of_shift, AreCells, NoRule, OverTerminal, OverNonterminal, PutsShift, PutsGoto, GotoIs, nowhere, leads, AreGotos}
use Rattle.lalr_tables.proofs.Filling.{cell_same}

-- one of the first moves is over the symbol to core m
abbrev pub AmongFirst : List (Sym × ℕ) → ℕ → Sym → ℕ → Type 0
AmongFirst moves i x m = (j : ℕ) × (j < i) × (slice_get moves j ≡ Some (x, m))

same_symbol : (x y : Sym) (m k : ℕ) → ◌≡◌ {A = Option (Sym × ℕ)} (Some (x, m)) (Some (y, k)) → x ≡ y
same_symbol x y m k e = ap (λ (z : Sym × ℕ). z.0) (same_Some (x, m) (y, k) e)

module _ (moves : List (Sym × ℕ)) where
  among_more : (i : ℕ) (x : Sym) (m : ℕ) → AmongFirst moves i x m → AmongFirst moves (i + 1) x m
  among_more i x m (j, low, is) = (j, omega (arith, low), is)

  among_last : (i : ℕ) (x y : Sym) (m k : ℕ) → slice_get moves i ≡ Some (y, k) → (x ≡ y → ⊥) → AmongFirst moves (i + 1) x m → AmongFirst moves i x m
  among_last i x y m k at other (j, low, is) = elim (cases_eq j i) [
    | inl same ↦ absurd (other (same_symbol x y m k (sym is ∙ (ap (slice_get moves) same ∙ at))))
    | inr less ↦ (j, omega (arith, low, less), is)
  ]

  pub among_all : (i : ℕ) (x : Sym) (m : ℕ) → length moves ≤ i → AmongFirst moves i x m → Contains moves (x, m)
  among_all i x m all (j, low, is) = contained moves j (x, m) is

  pub all_among : (i : ℕ) (x : Sym) (m : ℕ) → length moves ≤ i → Contains moves (x, m) → AmongFirst moves i x m
  all_among i x m all (j, low, is) = (j, omega (arith, low, all), placed moves j (x, m) low is)

  shift_here : (i s k width : ℕ) (old : List ℕ) → slice_get moves i ≡ Some (T s, k) → s < length old
      → AreCells width (λ t. AmongFirst moves i (T t)) NoRule (slice_index old)
      → AreCells width (λ t. AmongFirst moves (i + 1) (T t)) NoRule (slice_index (slice_set old s (k + 2048)))
  shift_here i s k width old at inside before t low = elim (cases_eq t s) [
    | inl same ↦ rw same (of_shift k (get_or-set_same old s (k + 2048) 0 inside) (i, omega arith, at))
    | inr other ↦
        let kept : slice_index (slice_set old s (k + 2048)) t ≡ slice_index old t = get_or-set_other old s t (k + 2048) 0 other in
        rw kept (cell_same (λ t. AmongFirst moves i (T t)) (λ t. AmongFirst moves (i + 1) (T t)) NoRule NoRule t (slice_index old t)
        (λ m. among_more i (T t) m) (λ m. among_last i (T t) (T s) m k at (λ e. other (number t s e))) (λ r x. x) (λ r x. x) (before t low))
  ]
    where
      number : (t s : ℕ) → T t ≡ T s → t ≡ s
      number t s e = cc

  pub shift_more : (i : ℕ) (x : Sym) (k width : ℕ) (old new : List ℕ) → slice_get moves i ≡ Some (x, k) → ((s : ℕ) → x ≡ T s → s < length old)
      → PutsShift x k old new → AreCells width (λ t. AmongFirst moves i (T t)) NoRule (slice_index old)
      → (length new ≡ length old) × AreCells width (λ t. AmongFirst moves (i + 1) (T t)) NoRule (slice_index new)
  shift_more i (T s) k width old new at inside is before =
      (ap length is ∙ length-set old s (k + 2048), rw is (shift_here i s k width old at (inside s refl) before))
  shift_more i (N n) k width old new at inside is before = (
    ap length is,
    λ t low. rw is (cell_same (λ t. AmongFirst moves i (T t)) (λ t. AmongFirst moves (i + 1) (T t)) NoRule NoRule t (slice_index old t)
        (λ m. among_more i (T t) m) (λ m. among_last i (T t) (N n) m k at (λ e. cc)) (λ r x. x) (λ r x. x) (before t low)),
  )

  pub shifts_all : (i width : ℕ) (cells : List ℕ) → length moves ≤ i → AreCells width (λ t. AmongFirst moves i (T t)) NoRule (slice_index cells)
      → AreCells width (OverTerminal moves) NoRule (slice_index cells)
  shifts_all i width cells all is t low =
      cell_same (λ t. AmongFirst moves i (T t)) (OverTerminal moves) NoRule NoRule t (slice_index cells t) (λ m. among_all i (T t) m all) (λ m. all_among i (T t) m all)
      (λ r x. x) (λ r x. x) (is t low)

  goto_kept : (i n c : ℕ) (x : Sym) (k : ℕ) → slice_get moves i ≡ Some (x, k) → (N n ≡ x → ⊥) → GotoIs (λ n. AmongFirst moves i (N n)) n c
      → GotoIs (λ n. AmongFirst moves (i + 1) (N n)) n c
  goto_kept i n c x k at other (nowhere zero_is none) = nowhere zero_is (λ m there. none m (among_last i (N n) x m k at other there))
  goto_kept i n c x k at other (leads there) = leads (among_more i (N n) c there)

  goto_here : (i s k width : ℕ) (old : List ℕ) → slice_get moves i ≡ Some (N s, k) → s < length old
      → AreGotos width (λ n. AmongFirst moves i (N n)) (slice_index old)
      → AreGotos width (λ n. AmongFirst moves (i + 1) (N n)) (slice_index (slice_set old s k))
  goto_here i s k width old at inside before n low = elim (cases_eq n s) [
    | inl same ↦
        let set : slice_index (slice_set old s k) s ≡ k = get_or-set_same old s k 0 inside in
        rw (same, set) (leads (i, omega arith, at))
    | inr other ↦
        let kept : slice_index (slice_set old s k) n ≡ slice_index old n = get_or-set_other old s n k 0 other in
        rw kept (goto_kept i n (slice_index old n) (N s) k at (λ e. other (number n s e)) (before n low))
  ]
    where
      number : (n s : ℕ) → N n ≡ N s → n ≡ s
      number n s e = cc

  pub goto_more : (i : ℕ) (x : Sym) (k width : ℕ) (old new : List ℕ) → slice_get moves i ≡ Some (x, k) → ((s : ℕ) → x ≡ N s → s < length old)
      → PutsGoto x k old new → AreGotos width (λ n. AmongFirst moves i (N n)) (slice_index old)
      → (length new ≡ length old) × AreGotos width (λ n. AmongFirst moves (i + 1) (N n)) (slice_index new)
  goto_more i (N s) k width old new at inside is before =
      (ap length is ∙ length-set old s k, rw is (goto_here i s k width old at (inside s refl) before))
  goto_more i (T t) k width old new at inside is before =
      (ap length is, λ n low. rw is (goto_kept i n (slice_index old n) (T t) k at (λ e. cc) (before n low)))

  pub gotos_all : (i width : ℕ) (cells : List ℕ) → length moves ≤ i → AreGotos width (λ n. AmongFirst moves i (N n)) (slice_index cells)
      → AreGotos width (OverNonterminal moves) (slice_index cells)
  gotos_all i width cells all is n low = go (is n low)
    where
      go : GotoIs (λ n. AmongFirst moves i (N n)) n (slice_index cells n) → GotoIs (OverNonterminal moves) n (slice_index cells n)
      go (nowhere zero_is none) = nowhere zero_is (λ m there. none m (all_among i (N n) m all there))
      go (leads there) = leads (among_all i (N n) (slice_index cells n) all there)
