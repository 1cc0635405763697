-- Filled cells are the actions, and the least clash is the reported conflict.
use Rattle.std.proofs.Common.{◌≡◌, ℕ, zero, suc, ◌+◌, ◌<◌, ◌≤◌, inl, inr, List, [], ◌∷◌, length, drop, All, Option, Some, None, Contains, slice_get, refl, sym, ap, subst, subst₂, ◌∙◌, arith}
use Rattle.std.proofs.lemmas.Bool.{lt-ltb, le-ltb}
use Rattle.std.proofs.lemmas.List.Elements.{All-head}
use Rattle.std.proofs.lemmas.Option.{slice_get-get_or}
use Rattle.ck_base.specs.BitSet.{BitSet}
use Rattle.cfg_model.specs.declared.symbol.Sym.{Sym}
use Rattle.cfg_model.specs.declared.symbol.Sym.TheVariants.{T}
use Rattle.cfg_model.specs.declared.action.LrAction.{LrAction}
use Rattle.cfg_model.specs.declared.action.LrAction.TheVariants.{Shift, Reduce, Accept, Error}
use Rattle.cfg_model.specs.Cfg.{Cfg, IsGrammar}
use Rattle.cfg_model.specs.Items.{right_of}
use Rattle.cfg_model.specs.Rows.{no_row, row}
use Rattle.cfg_model.specs.Valid.{Valid, InCore, HasCore, first_of}
use Rattle.cfg_model.specs.Cores.{CoreList, IsCore, IsCores, items_at, moves_at}
use Rattle.cfg_model.specs.LalrConflicts.{Completes, Shifts, LalrConflict, LalrReport, NotAfter}
use Rattle.cfg_model.proofs.Around.{around}
use Rattle.cfg_model.proofs.CoreNumbers.{behind_is}
use Rattle.lalr_look.proofs.Turns.{contained, placed}
use Rattle.lalr_look.specs.Promise.{AreLookaheads, sets_at}
use Rattle.lalr_tables.specs.declared.clash.Clash.{Clash}
use Rattle.lalr_tables.specs.Table.{as_action, at_end_of}
use Rattle.lalr_tables.specs.within.Clashes.{IsBefore, IsLeastClash}
use Rattle.lalr_tables.specs.within.Rows.{CellIs, free, of_rule, of_shift, OverTerminal, CompletedIn, ClashesOn, ClashBelow}

-- where the dot stands at the end nothing is behind it
none_drop : (d : ℕ) (w : List Sym) → slice_get w d ≡ None → drop d w ≡ []
none_drop zero [] e = refl
none_drop zero (x ∷ w) e = cc
none_drop (suc d) [] e = refl
none_drop (suc d) (x ∷ w) e = none_drop d w e

drop_none : (d : ℕ) (w : List Sym) → drop d w ≡ [] → slice_get w d ≡ None
drop_none zero [] e = refl
drop_none zero (x ∷ w) e = cc
drop_none (suc d) [] e = refl
drop_none (suc d) (x ∷ w) e = drop_none d w e

-- a lookahead is a terminal, or END
lookahead_in : (g : Cfg) → IsGrammar g → (q : List Sym) (r d : ℕ) (y : List Sym) (a : ℕ) → Valid g q r d y a → a ≤ g.terminals
lookahead_in g ok q r d y a v = (let h = around g ok q r d y a v in first_in h.rest h.below h.begins)
  where
    first_in : (rest : List ℕ) → All (λ t. t < g.terminals) rest → first_of rest g.terminals ≡ a → a ≤ g.terminals
    first_in [] below e = omega (arith, e)
    first_in (b ∷ rest) below e = (let low = All-head (λ t. t < g.terminals) b rest below in omega (arith, low, e))

moved_from : (g : Cfg) (q : List Sym) (r d : ℕ) (y : List Sym) (a : ℕ) (x : Sym) (p : List Sym) → Valid g q r d y a → q ≡ x ∷ p
    → (r : ℕ) × (d : ℕ) × (y : List Sym) × InCore g p r d (x ∷ y)
moved_from g q r d y a x p Valid.start e = cc
moved_from g q r d y a x p (Valid.closure _ r2 d2 n y2 a2 s b _ v is begins) e = moved_from g q r2 d2 _ a2 x p v e
moved_from g q r d y a x p (Valid.move p2 r2 d2 z _ _ v) e =
    let same : p2 ≡ p = cc in
    let symbol : z ≡ x = cc in
    (r2, d2, y, (a, subst₂ (λ l u. Valid g l r2 d2 (u ∷ y) a) same symbol v))

-- a shift leads to a core that isn't empty, and only shifts lead there over terminals
pub shift_there : (g : Cfg) (p : List Sym) (t : ℕ) → HasCore g (T t ∷ p) → Shifts g p t
shift_there g p t (r, d, y, (a, v)) = moved_from g (T t ∷ p) r d y a (T t) p v refl

pub there_shift : (g : Cfg) (p : List Sym) (t : ℕ) → Shifts g p t → HasCore g (T t ∷ p)
there_shift g p t (r, d, y, (a, v)) = (r, suc d, y, (a, Valid.move p r d (T t) y a v))

completes_core : (g : Cfg) (p : List Sym) (r t : ℕ) → Completes g p r t → HasCore g p
completes_core g p r t (d, (q, same, v)) = (r, d, [], (same r d []).1 (t, v))

-- cells that stand for an action
pub as_end : (r : ℕ) → r < 2047 → as_action (suc r) ≡ at_end_of r
as_end r low = rw (lt-ltb r 2047 low) refl

pub as_shift : (m : ℕ) → as_action (suc (m + 2047)) ≡ Shift m
as_shift m = rw (le-ltb (m + 2047) 2047 (omega arith)) (ap (λ k. Shift k) (omega arith))

module _ (g : Cfg) (ok : IsGrammar g) (cores : CoreList) (c : IsCores g cores) (looks : List (List BitSet)) (l : AreLookaheads g cores looks) where
  abbrev Over : ℕ → ℕ → ℕ → Type 0
  Over n = OverTerminal (moves_at cores n)

  abbrev Done : ℕ → ℕ → ℕ → Type 0
  Done n = CompletedIn g cores looks n

  module _ (n : ℕ) (p : List Sym) (is : IsCore g cores n p) where
    set_there : (i : ℕ) → i < length (items_at cores n) → slice_get (sets_at looks n) i ≡ Some (row (sets_at looks n) i)
    set_there i low = slice_get-get_or (sets_at looks n) i no_row (omega (arith, low, l.items_kept n is.inside))

    pub completes_of : (t r : ℕ) → Done n t r → Completes g p r t
    completes_of t r done =
        let (y, (a, v)) = (is.items r done.dot).0 (contained (items_at cores n) done.place (r, done.dot) done.item) in
        let end : y ≡ [] = sym (behind_is g p r done.dot y a v) ∙ none_drop done.dot (right_of g r) done.complete in
        let item : InCore g p r done.dot [] = (a, subst (λ z. Valid g p r done.dot z a) end v) in
        (done.dot, (l.exact n done.place r done.dot t (row (sets_at looks n) done.place) p [] is done.item (set_there done.place done.before) item).0 done.has)

    pub of_completes : (t r : ℕ) → Completes g p r t → Done n t r
    of_completes t r (d, (q, same, v)) =
        let item : InCore g p r d [] = (same r d []).1 (t, v) in
        let (place, low, at) = (is.items r d).1 ([], item) in
        let read = placed (items_at cores n) place (r, d) low at in
        record {
          place = place;
          dot = d;
          item = read;
          complete = drop_none d (right_of g r) (behind_is g q r d [] t v);
          has = (l.exact n place r d t (row (sets_at looks n) place) p [] is read (set_there place low) item).1 (q, same, v);
          terminal = lookahead_in g ok q r d [] t v;
          before = low;
        }

    pub shifts_of : (t m : ℕ) → Over n t m → Shifts g p t
    shifts_of t m over = shift_there g p t (((c.moves p n (T t) m is).0 over).0)

    pub of_shifts : (t : ℕ) → Shifts g p t → (m : ℕ) × Over n t m
    of_shifts t shifts =
        let has = there_shift g p t shifts in
        let (m, there) = c.all (T t ∷ p) has in
        (m, (c.moves p n (T t) m is).1 (has, there))

    pub conflict_of : (t r : ℕ) (o : Option ℕ) → ClashesOn (Over n) (Done n) t r o → LalrConflict g t r o
    conflict_of t r None (done, (m, over)) = (p, completes_of t r done, shifts_of t m over)
    conflict_of t r (Some s) (done, other, differ) = (p, completes_of t r done, completes_of t s other, differ)

    -- what the cell of a core says by any prefix that has it
    abbrev pub ActsAt : ℕ → LrAction → Type 0
    ActsAt t (Shift m) = Contains (moves_at cores n) (T t, m)
    ActsAt t (Reduce r) = (1 ≤ r) × Completes g p r t
    ActsAt t Accept = Completes g p 0 t
    ActsAt t Error = (Shifts g p t → ⊥) × ((r : ℕ) → Completes g p r t → ⊥)

    at_end : (t r : ℕ) → Completes g p r t → ActsAt t (at_end_of r)
    at_end t zero completes = completes
    at_end t (suc r) completes = (omega arith, completes)

    pub acts : (t cell : ℕ) → CellIs (Over n) (Done n) t cell → ActsAt t (as_action cell)
    acts t cell (free e no_move no_rule) = subst (λ k. ActsAt t (as_action k)) (sym e) (
      λ shifts. (let (m, over) = of_shifts t shifts in no_move m over),
      λ r completes. no_rule r (of_completes t r completes),
    )
    acts t cell (of_rule r e low has no_move least) =
        let number : suc r ≡ cell = omega (arith, e) in
        subst (λ k. ActsAt t (as_action k)) number (subst (λ a. ActsAt t a) (sym (as_end r low)) (at_end t r (completes_of t r has)))
    acts t cell (of_shift m e has) =
        let number : suc (m + 2047) ≡ cell = omega (arith, e) in
        subst (λ k. ActsAt t (as_action k)) number (subst (λ a. ActsAt t a) (sym (as_shift m)) has)

  pub clash_of : (t r : ℕ) (o : Option ℕ) → LalrConflict g t r o → ClashBelow g cores looks (length cores.items) (record { terminal = t; rule = r; other = o })
  clash_of t r None (p, completes, shifts) =
      let (n, is) = c.all p (completes_core g p r t completes) in
      (n, is.inside, (of_completes n p is t r completes, of_shifts n p is t shifts))
  clash_of t r (Some s) (p, completes, other, differ) =
      let (n, is) = c.all p (completes_core g p r t completes) in
      (n, is.inside, (of_completes n p is t r completes, of_completes n p is t s other, differ))

  pub no_conflict : IsLeastClash (ClashBelow g cores looks (length cores.items)) None → (t r : ℕ) (o : Option ℕ) → LalrConflict g t r o → ⊥
  no_conflict none t r o conflict = none (record { terminal = t; rule = r; other = o }) (clash_of t r o conflict)

  pub reported : (k : Clash) → IsLeastClash (ClashBelow g cores looks (length cores.items)) (Some k) → LalrReport g k.terminal k.rule k.other
  reported k ((n, low, clash), least) =
      let (p, some, is) = c.each n low in
      record {
        conflict = conflict_of n p is k.terminal k.rule k.other clash;
        terminal = λ u s o other. before_terminal k.terminal k.rule u s k.other o (least (record { terminal = u; rule = s; other = o }) (clash_of u s o other));
        rule = λ s o other. before_rule k.terminal k.rule s k.other o (least (record { terminal = k.terminal; rule = s; other = o }) (clash_of k.terminal s o other));
        least = λ o other. before_other k.terminal k.rule k.other o (least (record { terminal = k.terminal; rule = k.rule; other = o }) (clash_of k.terminal k.rule o other));
      }
    where
      before_terminal : (t r u s : ℕ) (o q : Option ℕ) → IsBefore t r o u s q → t ≤ u
      before_terminal t r u s o q (inl less) = omega (arith, less)
      before_terminal t r u s o q (inr (same, _)) = omega (arith, same)

      before_rule : (t r s : ℕ) (o q : Option ℕ) → IsBefore t r o t s q → r ≤ s
      before_rule t r s o q (inl less) = absurd (omega (arith, less))
      before_rule t r s o q (inr (_, inl less)) = omega (arith, less)
      before_rule t r s o q (inr (_, inr (same, _))) = omega (arith, same)

      before_other : (t r : ℕ) (o q : Option ℕ) → IsBefore t r o t r q → NotAfter o q
      before_other t r o q (inl less) = absurd (omega (arith, less))
      before_other t r o q (inr (_, inl less)) = absurd (omega (arith, less))
      before_other t r o q (inr (_, inr (_, after))) = after
