-- One core's row more.
use Rattle.std.proofs.Common.{◌≡◌, ℕ, ◌+◌, ◌*◌, ◌<◌, ◌⊎◌, inl, inr, List, length, ◌++◌, Option, slice_index, sym, subst, ◌∙◌, arith, length-append}
use Rattle.std.proofs.lemmas.Bool.{cases_eq}
use Rattle.std.proofs.lemmas.List.{get_or_append_left, get_or-append-add}
use Rattle.std.proofs.lemmas.Nat.{mul-add-lt}
use Rattle.ck_base.specs.BitSet.{BitSet}
use Rattle.cfg_model.specs.Cfg.{Cfg}
use Rattle.cfg_model.specs.Cores.{CoreList, items_at, moves_at}
use Rattle.lalr_look.specs.Promise.{sets_at}
use Rattle.lalr_tables.specs.declared.clash.Clash.{Clash}
use Rattle.lalr_tables.specs.within.Clashes.{IsLesserOf}
use Rattle.lalr_tables.specs.within.Rows.{CellIs, OverTerminal, OverNonterminal, CompletedIn, AreClashes, IsRow, GotoIs, AreGotos, cell_in, ClashBelow, AreActions, AreGotoRows}
use Rattle.lalr_tables.proofs.Least.{least_same, least_both}

-- cells of earlier rows stay, and those of the new one follow
cell_before : (w n m t : ℕ) (cells row : List ℕ) → length cells ≡ n * w → m < n → t < w → cell_in w (cells ++ row) m t ≡ cell_in w cells m t
cell_before w n m t cells row long low under =
    get_or_append_left cells row 0 (m * w + t) (omega (arith, mul-add-lt m w t n low under, long))

cell_last : (w n t : ℕ) (cells row : List ℕ) → length cells ≡ n * w → cell_in w (cells ++ row) n t ≡ slice_index row t
cell_last w n t cells row long =
    subst (λ k. slice_index (cells ++ row) (k + t) ≡ slice_index row t) long (get_or-append-add cells row t 0)

rows_long : (w n : ℕ) (cells row : List ℕ) → length cells ≡ n * w → length row ≡ w → length (cells ++ row) ≡ (n + 1) * w
rows_long w n cells row long one = length-append cells row ∙ omega (arith, long, one)

module _ (g : Cfg) (cores : CoreList) (looks : List (List BitSet)) where
  -- the cell of a terminal in core n, and the clashes of core n
  abbrev IsCell : ℕ → ℕ → ℕ → Type 0
  IsCell n t cell = CellIs (OverTerminal (moves_at cores n)) (CompletedIn g cores looks n) t cell

  abbrev ClashIn : ℕ → Clash → Type 0
  ClashIn n = AreClashes (OverTerminal (moves_at cores n)) (CompletedIn g cores looks n)

  abbrev Below : ℕ → Clash → Type 0
  Below = ClashBelow g cores looks

  below_more : (n : ℕ) (c : Clash) → Below n c ⊎ ClashIn n c → Below (n + 1) c
  below_more n c (inl (m, low, clash)) = (m, omega (arith, low), clash)
  below_more n c (inr clash) = (n, omega arith, clash)

  more_below : (n : ℕ) (c : Clash) → Below (n + 1) c → Below n c ⊎ ClashIn n c
  more_below n c (m, low, clash) = elim (cases_eq m n) [
    | inl same ↦ inr (subst (λ k. ClashIn k c) same clash)
    | inr other ↦ inl (m, omega (arith, low, other), clash)
  ]

  pub actions_more : (n : ℕ) (cells row new : List ℕ) (found met after : Option Clash)
      → IsRow g (items_at cores n) (moves_at cores n) (sets_at looks n) (length (items_at cores n)) row met
      → new ≡ cells ++ row → IsLesserOf found met after → AreActions g cores looks n cells found
      → AreActions g cores looks (n + 1) new after
  actions_more n cells row new found met after one is lesser before =
      let w = g.terminals + 1 in
      rw is (record {
        long = rows_long w n cells row before.long one.long;
        each = λ m low. elim (cases_eq m n) [
          | inl same ↦ λ t under.
              let here = subst (IsCell n t) (sym (cell_last w n t cells row before.long)) (one.cells_are t under) in
              subst (λ k. IsCell k t (cell_in w (cells ++ row) k t)) (sym same) here
          | inr other ↦ λ t under.
              let less : m < n = omega (arith, low, other) in
              subst (IsCell m t) (sym (cell_before w n m t cells row before.long less under)) (before.each m less t under)
        ];
        best = least_same (λ c. Below n c ⊎ ClashIn n c) (Below (n + 1)) after (below_more n) (more_below n)
            (least_both (Below n) (ClashIn n) found met after lesser before.best one.best);
      })

module _ (g : Cfg) (cores : CoreList) where
  abbrev IsGoto : ℕ → ℕ → ℕ → Type 0
  IsGoto n t cell = GotoIs (OverNonterminal (moves_at cores n)) t cell

  pub gotos_more : (n : ℕ) (cells row new : List ℕ) → length row ≡ g.nonterminals
      → AreGotos g.nonterminals (OverNonterminal (moves_at cores n)) (slice_index row)
      → new ≡ cells ++ row → AreGotoRows g cores n cells → AreGotoRows g cores (n + 1) new
  gotos_more n cells row new size one is before =
      let w = g.nonterminals in
      rw is (record {
        long = rows_long w n cells row before.long size;
        each = λ m low. elim (cases_eq m n) [
          | inl same ↦ λ t under.
              let here = subst (IsGoto n t) (sym (cell_last w n t cells row before.long)) (one t under) in
              subst (λ k. IsGoto k t (cell_in w (cells ++ row) k t)) (sym same) here
          | inr other ↦ λ t under.
              let less : m < n = omega (arith, low, other) in
              subst (IsGoto m t) (sym (cell_before w n m t cells row before.long less under)) (before.each m less t under)
        ];
      })
