-- One item more in a row of actions.
use Rattle.std.proofs.Common.{◌≡◌, ◌≢◌, ℕ, ◌+◌, ◌<◌, ◌≤◌, inl, inr, List, length, Option, Some, None, is_some, true, false, slice_index, slice_get, refl, sym, ap, subst, ◌∙◌, arith}
use Rattle.std.proofs.lemmas.Bool.{cases_eq}
use Rattle.std.proofs.lemmas.Option.{same_Some}
use Rattle.ck_base.specs.BitSet.{BitSet}
use Rattle.cfg_model.specs.declared.symbol.Sym.{Sym}
use Rattle.cfg_model.specs.Cfg.{Cfg}
use Rattle.cfg_model.specs.Items.{right_of}
use Rattle.cfg_model.specs.Rows.{In, row}
use Rattle.lalr_tables.specs.declared.clash.Clash.{Clash}
use Rattle.lalr_tables.specs.within.Rows.{AreCells, NoRule, OverTerminal, Completed, ClashesOn, IsRow, PutsAll}
use Rattle.lalr_tables.proofs.Filling.{WithAll, RowIs, row_same, puts_all}

no_clash : (M : ℕ → ℕ → Type 0) (t r : ℕ) (o : Option ℕ) → ClashesOn M NoRule t r o → ⊥
no_clash M t r None (x, y) = x
no_clash M t r (Some s) (x, y, z) = x

pub none_is : (o : Option Sym) → is_some o ≡ false → o ≡ None
none_is None e = refl
none_is (Some x) e = cc

pub none_not : (o : Option Sym) → is_some o ≡ true → o ≡ None → ⊥
none_not None e is = cc (e)
none_not (Some x) e is = cc (is)

module _ (g : Cfg) (items : List (ℕ × ℕ)) (moves : List (Sym × ℕ)) (sets : List BitSet) where
  kept : (i j t r : ℕ) → i ≤ j → Completed g items sets i t r → Completed g items sets j t r
  kept i j t r le c =
      record { place = c.place; dot = c.dot; item = c.item; complete = c.complete; has = c.has; terminal = c.terminal; before = omega (arith, c.before, le) }

  earlier : (i t r : ℕ) (c : Completed g items sets (i + 1) t r) → c.place ≢ i → Completed g items sets i t r
  earlier i t r c other =
      record { place = c.place; dot = c.dot; item = c.item; complete = c.complete; has = c.has; terminal = c.terminal; before = omega (arith, c.before, other) }

  none_yet : (t r : ℕ) → Completed g items sets 0 t r → ⊥
  none_yet t r c = omega (arith, c.before)

  to_row : (old cells : List ℕ) (i : ℕ) (found : Option Clash) → length old ≡ g.terminals + 1
      → RowIs (OverTerminal moves) (Completed g items sets i) (g.terminals + 1) old cells found → IsRow g items moves sets i cells found
  to_row old cells i found long is = record { long = is.long ∙ long; cells_are = is.cells_are; best = is.best }

  pub row_first : (cells : List ℕ) → length cells ≡ g.terminals + 1 → AreCells (g.terminals + 1) (OverTerminal moves) NoRule (slice_index cells)
      → IsRow g items moves sets 0 cells None
  row_first cells long are = to_row cells cells 0 None long
      (row_same (OverTerminal moves) NoRule (Completed g items sets 0) (g.terminals + 1) cells cells None
      (λ u r x. absurd x) (λ u r c. none_yet u r c)
      (record { long = refl; cells_are = are; best = λ c clash. no_clash (OverTerminal moves) c.terminal c.rule c.other clash }))

  module _ (i rule dot : ℕ) (at : slice_get items i ≡ Some (rule, dot)) where
    this_item : (j r d : ℕ) → j ≡ i → slice_get items j ≡ Some (r, d) → (r ≡ rule) × (d ≡ dot)
    this_item j r d same is =
        let both = same_Some (r, d) (rule, dot) (sym is ∙ (ap (slice_get items) same ∙ at)) in
        (ap (λ (z : ℕ × ℕ). z.0) both, ap (λ (z : ℕ × ℕ). z.1) both)

    pub row_passed : (cells : List ℕ) (found : Option Clash) → (slice_get (right_of g rule) dot ≡ None → ⊥) → IsRow g items moves sets i cells found
        → IsRow g items moves sets (i + 1) cells found
    row_passed cells found behind is = to_row cells cells (i + 1) found is.long (row_same (OverTerminal moves) (Completed g items sets i) (Completed g items sets (i + 1))
        (g.terminals + 1) cells cells found
        (λ u r c. kept i (i + 1) u r (omega arith) c)
        (λ u r c. earlier i u r c (λ same. again u r c same))
        (record { long = refl; cells_are = is.cells_are; best = is.best }))
      where
        again : (u r : ℕ) (c : Completed g items sets (i + 1) u r) → c.place ≡ i → ⊥
        again u r c same =
            let (rule_is, dot_is) = this_item c.place r c.dot same c.item in
            behind (subst (λ k. slice_get (right_of g k) dot ≡ None) rule_is (subst (λ d. slice_get (right_of g r) d ≡ None) dot_is c.complete))

    pub row_more : (cells new : List ℕ) (found after : Option Clash) → slice_get (right_of g rule) dot ≡ None → rule < 2047
        → PutsAll (row sets i) rule cells found (g.terminals + 1) new after → IsRow g items moves sets i cells found → IsRow g items moves sets (i + 1) new after
    row_more cells new found after complete small puts is =
        to_row cells new (i + 1) after is.long (row_same (OverTerminal moves) (WithAll (Completed g items sets i) (row sets i) rule (g.terminals + 1)) (Completed g items sets (i + 1)) (g.terminals + 1)
        cells new after to from
        (puts_all (OverTerminal moves) (Completed g items sets i) (g.terminals + 1) rule small (row sets i) cells found (omega (arith, is.long)) is.cells_are is.best
        (g.terminals + 1) new after (omega arith) puts))
      where
        to : (u r : ℕ) → WithAll (Completed g items sets i) (row sets i) rule (g.terminals + 1) u r → Completed g items sets (i + 1) u r
        to u r (inl c) = kept i (i + 1) u r (omega arith) c
        to u r (inr (low, has, same)) = subst (λ k. Completed g items sets (i + 1) u k) (sym same)
            (record { place = i; dot = dot; item = at; complete = complete; has = has; terminal = omega (arith, low); before = omega arith })

        from : (u r : ℕ) → Completed g items sets (i + 1) u r → WithAll (Completed g items sets i) (row sets i) rule (g.terminals + 1) u r
        from u r c = elim (cases_eq c.place i) [
          | inl same ↦ inr (omega (arith, c.terminal), subst (λ k. In sets k u) same c.has, (this_item c.place r c.dot same c.item).0)
          | inr other ↦ inl (earlier i u r c other)
        ]
