-- A table that is filled from cores and lookaheads is the grammar's.
use Rattle.std.proofs.Common.{◌≡◌, ℕ, ◌+◌, ◌<◌, ◌≤◌, ◌⊎◌, inl, inr, List, [], ◌∷◌, length, None, refl, sym, subst, arith}
use Rattle.std.proofs.lemmas.List.Elements.{All-head}
use Rattle.ck_base.specs.BitSet.{BitSet}
use Rattle.cfg_model.specs.declared.symbol.Sym.{Sym}
use Rattle.cfg_model.specs.declared.symbol.Sym.TheVariants.{T, N}
use Rattle.cfg_model.specs.declared.action.LrAction.{LrAction}
use Rattle.cfg_model.specs.declared.action.LrAction.TheVariants.{Shift, Reduce, Accept, Error}
use Rattle.cfg_model.specs.Cfg.{Cfg, IsSymbol}
use Rattle.cfg_model.specs.CoreTables.{IsTableOfCores}
use Rattle.cfg_model.specs.Valid.{HasCore}
use Rattle.cfg_model.specs.Cores.{CoreList, IsCore, IsCores, moves_at}
use Rattle.cfg_model.specs.LalrConflicts.{Shifts}
use Rattle.cfg_model.specs.LrTables.{IsLr, IsLrTable, IsAction, shifted, state_after}
use Rattle.cfg_model.specs.Table.{Table}
use Rattle.cfg_model.proofs.CoreNumbers.{same_number, number_of_same}
use Rattle.cfg_model.proofs.InGrammar.{behind_dot}
use Rattle.cfg_model.proofs.SameAnswers.{core_below, symbol_in}
use Rattle.lalr_look.specs.Promise.{AreLookaheads}
use Rattle.lalr_tables.specs.Table.{rows_table}
use Rattle.lalr_tables.specs.within.Rows.{AreActions, AreGotoRows, GotoIs, nowhere, leads, OverNonterminal, cell_in}
use Rattle.lalr_tables.proofs.Exact.{ActsAt, acts, shift_there}

module _ (g : Cfg) (accepted : IsLr g) (cores : CoreList) (c : IsCores g cores) (looks : List (List BitSet)) (l : AreLookaheads g cores looks)
    (actions gotos : List ℕ) (filled : AreActions g cores looks (length cores.items) actions None) (rows : AreGotoRows g cores (length cores.items) gotos) where
  abbrev made : Table
  made = rows_table g (length cores.items) actions gotos

  acts_at : (n : ℕ) (p : List Sym) (is : IsCore g cores n p) (t : ℕ) → t ≤ g.terminals → ActsAt g accepted.grammar cores c looks l n p is t (made.act n t)
  acts_at n p is t low =
      acts g accepted.grammar cores c looks l n p is t (cell_in (g.terminals + 1) actions n t) (filled.each n is.inside t (omega (arith, low)))

  shift_in : (p : List Sym) (t : ℕ) → Shifts g p t → t ≤ g.terminals
  shift_in p t (r, d, y, (a, v)) =
      let low = All-head (IsSymbol g) (T t) y (behind_dot g accepted.grammar p r d _ a v) in
      omega (arith, low)

  -- over a terminal the table shifts to the core behind it
  shifts_to : (n m : ℕ) (p : List Sym) (t : ℕ) (action : LrAction) (is : IsCore g cores n p) → HasCore g (T t ∷ p) → IsCore g cores m (T t ∷ p)
      → ActsAt g accepted.grammar cores c looks l n p is t action → shifted action ≡ m
  shifts_to n m p t (Shift k) is has there act = c.once (T t ∷ p) k m (((c.moves p n (T t) k is).0 act).1) there
  shifts_to n m p t (Reduce r) is has there act = absurd (accepted.no_conflict t r None (p, act.1, shift_there g p t has))
  shifts_to n m p t Accept is has there act = absurd (accepted.no_conflict t 0 None (p, act, shift_there g p t has))
  shifts_to n m p t Error is has there act = absurd (act.0 (shift_there g p t has))

  -- over a nonterminal it goes to the core behind it
  goes_to : (n m : ℕ) (p : List Sym) (b cell : ℕ) (is : IsCore g cores n p) → HasCore g (N b ∷ p) → IsCore g cores m (N b ∷ p)
      → GotoIs (OverNonterminal (moves_at cores n)) b cell → cell ≡ m
  goes_to n m p b cell is has there (nowhere zero_is none) = absurd (none m ((c.moves p n (N b) m is).1 (has, there)))
  goes_to n m p b cell is has there (leads to) = c.once (N b ∷ p) cell m (((c.moves p n (N b) cell is).0 to).1) there

  pub numbered : (p : List Sym) → HasCore g p → IsCore g cores (state_after made p) p
  numbered [] has = c.first
  numbered (T t ∷ p) has =
      let is = numbered p (core_below g (T t) p has) in
      let n = state_after made p in
      let (m, there) = c.all (T t ∷ p) has in
      let next = shifts_to n m p t (made.act n t) is has there (acts_at n p is t (shift_in p t (shift_there g p t has))) in
      subst (λ i. IsCore g cores i (T t ∷ p)) (sym next) there
  numbered (N b ∷ p) has =
      let is = numbered p (core_below g (N b) p has) in
      let n = state_after made p in
      let (m, there) = c.all (N b ∷ p) has in
      let next = goes_to n m p b (made.go n b) is has there (rows.each n is.inside b (symbol_in g accepted.grammar (N b) p has)) in
      subst (λ i. IsCore g cores i (N b ∷ p)) (sym next) there

  action_of : (n : ℕ) (p : List Sym) (t : ℕ) (action : LrAction) (is : IsCore g cores n p) → ActsAt g accepted.grammar cores c looks l n p is t action → IsAction g p t action
  action_of n p t (Shift m) is act = shift_there g p t (((c.moves p n (T t) m is).0 act).0)
  action_of n p t (Reduce r) is act = act
  action_of n p t Accept is act = act
  action_of n p t Error is act = act

  pub is_table : IsLrTable g made
  is_table = record {
    accepted = accepted;
    inside = λ p has. (numbered p has).inside;
    cores = λ p q has_p has_q. (
      λ same. same_number g cores (state_after made q) p q (subst (λ n. IsCore g cores n p) same (numbered p has_p)) (numbered q has_q),
      λ same. c.once q (state_after made p) (state_after made q) (number_of_same g cores (state_after made p) p q (numbered p has_p) same) (numbered q has_q),
    );
    acts = λ p t has low. action_of (state_after made p) p t (made.act (state_after made p) t) (numbered p has) (acts_at (state_after made p) p (numbered p has) t low);
  }

  -- over a nonterminal on which no core follows it goes to 0
  goes_nowhere : (n : ℕ) (p : List Sym) (b cell : ℕ) (is : IsCore g cores n p)
      → GotoIs (OverNonterminal (moves_at cores n)) b cell → HasCore g (N b ∷ p) ⊎ (cell ≡ 0)
  goes_nowhere n p b cell is (nowhere zero_is none) = inr zero_is
  goes_nowhere n p b cell is (leads to) = inl ((c.moves p n (N b) cell is).0 to).0

  pub of_cores : IsTableOfCores g cores made
  of_cores = record {
    is_table = is_table;
    are = c;
    numbered = numbered;
    counted = refl;
    nowhere = λ p b has low. goes_nowhere (state_after made p) p b (made.go (state_after made p) b) (numbered p has)
        (rows.each (state_after made p) (numbered p has).inside b low);
  }
