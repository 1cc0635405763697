-- What an LR table must answer on a small grammar: L = X M, M = X M, M = over one terminal, X.
use Rattle.std.proofs.Common.{◌≡◌, ℕ, inl, inr, List, [], ◌∷◌, length, refl, ap, subst, arith}
use Rattle.cfg_model.specs.declared.symbol.Sym.{Sym}
use Rattle.cfg_model.specs.declared.symbol.Sym.TheVariants.{T, N}
use Rattle.cfg_model.specs.declared.action.LrAction.TheVariants.{Error}
use Rattle.cfg_model.specs.Cfg.{IsRule}
use Rattle.cfg_model.specs.CoreTables.{IsTableOfCores, SameAnswers}
use Rattle.cfg_model.specs.Cores.{CoreList}
use Rattle.cfg_model.specs.Steps.{none}
use Rattle.cfg_model.specs.Valid.{Valid, start, closure, move}
use Rattle.cfg_model.specs.LrTables.{IsLrTable, IsAction, state_after}
use Rattle.cfg_model.specs.Table.{Table}
use Rattle.cfg_model.proofs.Examples.{rights}
use Rattle.cfg_model.proofs.GrammarExamples.{by_rules}
use Rattle.cfg_model.proofs.LooksSpread.{same_self}

first_rule : IsRule rights 1 0 (T 0 ∷ N 1 ∷ [])
first_rule = record { place = 0; from_one = refl; read = refl }

empty_rule : IsRule rights 3 1 []
empty_rule = record { place = 2; from_one = refl; read = refl }

-- L = . X M with END before anything is read, and L = X . M and M = . behind X
at_start : Valid rights [] 1 0 (T 0 ∷ N 1 ∷ []) 1
at_start = closure [] 0 0 0 [] 1 1 1 (T 0 ∷ N 1 ∷ []) start first_rule ([], none, refl)

behind_x : Valid rights (T 0 ∷ []) 1 1 (N 1 ∷ []) 1
behind_x = move [] 1 0 (T 0) (N 1 ∷ []) 1 at_start

empty_m : Valid rights (T 0 ∷ []) 3 0 [] 1
empty_m = closure (T 0 ∷ []) 1 1 1 [] 1 3 1 [] behind_x empty_rule ([], none, refl)

-- a table that refuses what an item shifts isn't one of the grammar
refuses_a_shift : (table : Table) → table.act 0 0 ≡ Error → IsLrTable rights table → ⊥
refuses_a_shift table e is =
    let action = is.acts [] 0 (1, 0, T 0 ∷ N 1 ∷ [], (1, at_start)) (omega arith) in
    (subst (λ a. IsAction rights [] 0 a) e action).0 (1, 0, N 1 ∷ [], (1, at_start))

-- nor one that refuses END where a rule is complete with it
refuses_a_rule : (table : Table) → table.act (state_after table (T 0 ∷ [])) 1 ≡ Error → IsLrTable rights table → ⊥
refuses_a_rule table e is =
    let action = is.acts (T 0 ∷ []) 1 (3, 0, [], (1, empty_m)) (omega arith) in
    (subst (λ a. IsAction rights (T 0 ∷ []) 1 a) e action).1 3 (0, (T 0 ∷ [], same_self rights (T 0 ∷ []), empty_m))

-- no rule begins with M, so nothing has a core whose prefix is M alone, and state 0 goes nowhere over it
none_from_m : (q z y : List Sym) (r d a : ℕ) → q ≡ [] → z ≡ N 1 ∷ y → Valid rights q r d z a → ⊥
none_from_m q z y r d a e f start = cc
none_from_m q z y r d a e f (closure _ r2 d2 n y2 a2 s b _ v is begins) =
    by_rules rights (λ r n w. w ≡ N 1 ∷ y → ⊥) ((λ e. cc), ((λ e. cc), ((λ e. cc), tt))) r n z is f
none_from_m q z y r d a e f (move p2 r2 d2 x _ _ v) = cc

no_core_of_m : (q : List Sym) (r d : ℕ) (y : List Sym) (a : ℕ) → q ≡ N 1 ∷ [] → Valid rights q r d y a → ⊥
no_core_of_m q r d y a e start = cc
no_core_of_m q r d y a e (closure _ r2 d2 n y2 a2 s b _ v is begins) = no_core_of_m q r2 d2 (N n ∷ y2) a2 e v
no_core_of_m q r d y a e (move p2 r2 d2 x _ _ v) =
    let one : p2 ≡ [] = cc in
    let two : x ≡ N 1 = cc in
    none_from_m p2 (x ∷ y) y r d2 a one (ap (λ s. s ∷ y) two) v

stray_goto : (cores : CoreList) (table : Table) → table.go 0 1 ≡ 2 → IsTableOfCores rights cores table → ⊥
stray_goto cores table e is = elim (is.nowhere [] 1 (1, 0, T 0 ∷ N 1 ∷ [], (1, at_start)) (omega arith)) [
  | inl has ↦ (let (r, d, y, (a, v)) = has in no_core_of_m (N 1 ∷ []) r d y a refl v)
  | inr none_is ↦ omega (arith, e, none_is)
]

-- a table whose states have other numbers isn't one with the numbers of the cores
other_number : (cores : CoreList) (table : Table) → length cores.items ≡ 4 → state_after table (T 0 ∷ []) ≡ 7
    → IsTableOfCores rights cores table → ⊥
other_number cores table e f is =
    let inside = (is.numbered (T 0 ∷ []) (1, 1, N 1 ∷ [], (1, behind_x))).inside in
    omega (arith, e, f, inside)

-- what is said beyond the last state doesn't count, and that there are as many states does
answers_of_one : (ℕ → ℕ) → Table
answers_of_one after = record { states = 1; act = λ n t. Error; go = λ n m. after n }

beyond_is_free : SameAnswers rights (answers_of_one (λ n. 0)) (answers_of_one (λ n. n))
unfolding answers_of_one
beyond_is_free = record { states = refl; acts = λ n t low under. refl; gotos = λ n m low inside. omega (arith, low) }

more_states : (a b : Table) → a.states ≡ 1 → b.states ≡ 2 → SameAnswers rights a b → ⊥
more_states a b one two same = let states = same.states in omega (arith, states, one, two)
