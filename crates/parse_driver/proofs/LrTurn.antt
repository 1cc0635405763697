-- One step of an LR parser: its stack still says what was read, and how it can finish.
use Rattle.std.proofs.Common.{◌≡◌, ℕ, suc, ◌-◌, ◌<◌, ◌≤◌, List, [], ◌∷◌, ◌++◌, length, take, map, refl, sym, ap, ap₂, append_assoc, append-nil, ◌∙◌, arith, Option, Some, None, length-append, subst}
use mathlib.Core.List.{reverse, reverse-cons}
use Prim.{tt}
use Rattle.cfg_model.specs.declared.symbol.Sym.{Sym}
use Rattle.cfg_model.specs.declared.symbol.Sym.TheVariants.{T, N}
use Rattle.cfg_model.specs.declared.action.LrAction.{LrAction}
use Rattle.cfg_model.specs.declared.action.LrAction.TheVariants as does
use Rattle.cfg_model.specs.Cfg.{Cfg, IsRule}
use Rattle.cfg_model.specs.Derivation.{Forest, empty, leaf, node, yield, Move, shift, reduce, postorder, Derive, nothing, token, rule, IsSentence}
use Rattle.cfg_model.specs.Valid.{first_of, start, move, HasCore}
use Rattle.cfg_model.specs.LalrConflicts.{Completes, Shifts}
use Rattle.cfg_model.specs.LrTables.{shifted, state_after, IsAction, IsLrTable}
use Rattle.cfg_model.specs.Table.{Table}
use Rattle.cfg_model.proofs.CoreNumbers.{below_core}
use Rattle.cfg_model.proofs.Forests.{beside, yield_beside, postorder_beside, join, cut}
use Rattle.parse_driver.specs.Parse.{move_of}
use Rattle.parse_driver.specs.Stream.{terminal_of, terminals_of}
use Rattle.parse_driver.specs.declared.tokens.TokenRef.{TokenRef}
use Rattle.parse_driver.specs.declared.step.Step.{Step}
use Rattle.parse_driver.specs.declared.step.Step.TheVariants as made
use Rattle.parse_driver.specs.within.LrStack.{onto, Finishes, accepts, shifts, reduces, NoConflict, states_of, CanFinish, LrState, top, CanReduce, reduced_states, IsSettled}
use Rattle.parse_driver.proofs.Labels.{terminals_beside}
use Rattle.parse_driver.proofs.LrComplete.{complete}
use Rattle.parse_driver.proofs.LrOneParse.{same_rule, onto_back, one_completes}
use Rattle.parse_driver.proofs.LrPrefix.{Reduces, can_reduce}
use Rattle.parse_driver.proofs.LrStates.{states_length, top_is, states_onto, popped}
use Rattle.parse_driver.proofs.Spine.{left_in}

-- A reduction, on a wrong token too: without a conflict each word that begins with the terminal is
-- finished by the same reduction first, so each can still be finished after it.
pub goes_on_reduced : (g : Cfg) → NoConflict g → (read : List ℕ) (p : List Sym) (r t : ℕ) (k : Reduces g p r)
    → 1 ≤ r → Completes g p r t → CanFinish g read p (Some t) → CanFinish g read (N k.left ∷ k.below) (Some t)
goes_on_reduced g free read p r t k one c on v next is =
    let (ps, parse) = on v next is in step v ps next parse
  where
    here : (v : List ℕ) → first_of v g.terminals ≡ t → Completes g p r (first_of v g.terminals)
    here v next = subst (λ x. Completes g p r x) (sym next) c

    step : (v : List ℕ) (ps : List (Move ℕ)) → first_of v g.terminals ≡ t → Finishes g p v ps
        → (ps : List (Move ℕ)) × Finishes g (N k.left ∷ k.below) v ps
    step v ps next (accepts _ a) =
        let same = one_completes g free p 0 r g.terminals a (here [] next) in absurd (omega (arith, same, one))
    step v ps next (shifts _ s v2 ps2 a h) = absurd (free s r None (p, here (s ∷ v2) next, a))
    step v ps next (reduces _ q s n w _ ps2 is e c2 h) =
        let same : s ≡ r = one_completes g free p s r _ c2 (here v next) in
        let mine : IsRule g s k.left k.right = subst (λ i. IsRule g i k.left k.right) (sym same) k.is_rule in
        let (lefts, rights) = same_rule g s n k.left w k.right is mine in
        let stacks : q ≡ k.below = onto_back w q k.below (sym e ∙ (k.prefix ∙ ap (λ l. onto l k.below) (sym rights))) in
        (ps2, subst (λ l. Finishes g l v ps2) (ap₂ (λ m l. N m ∷ l) lefts stacks) h)

pub reverse_onto : (w p : List Sym) → reverse (onto w p) ≡ reverse p ++ w
reverse_onto [] p = sym (append-nil (reverse p))
reverse_onto (x ∷ w) p =
    reverse_onto w (x ∷ p) ∙ (ap (λ l. l ++ w) (reverse-cons x p) ∙ append_assoc (reverse p) (x ∷ []) w)

-- the forest after a reduction
pub record Folded (g : Cfg) (p : List Sym) (n r : ℕ) (f : Forest TokenRef) : Type 0 where
  pub forest : Forest TokenRef
  pub derives : Derive terminal_of g (reverse (N n ∷ p)) forest
  pub yields : yield forest ≡ yield f
  pub steps_are : postorder forest ≡ postorder f ++ (reduce r ∷ [])

pub folded : (g : Cfg) (p q w : List Sym) (n r : ℕ) (f : Forest TokenRef) → IsRule g r n w → q ≡ onto w p
    → Derive terminal_of g (reverse q) f → Folded g p n r f
folded g p q w n r f is e d =
    let d2 : Derive terminal_of g (reverse p ++ w) f = subst (λ l. Derive terminal_of g l f) (ap reverse e ∙ reverse_onto w p) d in
    let h = cut terminal_of g (reverse p) w (reverse p ++ w) f refl d2 in
    let tree : Forest TokenRef = node r h.right empty in
    let one : Derive terminal_of g (N n ∷ []) tree = rule r n w [] h.right empty is h.from_right nothing in
    let both = join terminal_of g (reverse p) (N n ∷ []) h.left tree h.from_left one in
    record {
      forest = beside h.left tree;
      derives = subst (λ l. Derive terminal_of g l (beside h.left tree)) (sym (reverse-cons (N n) p)) both;
      yields = yield_beside h.left tree ∙ (ap (λ l. yield h.left ++ l) (append-nil (yield h.right))
          ∙ (sym (yield_beside h.left h.right) ∙ ap yield (sym h.is)));
      steps_are = postorder_beside h.left tree
          ∙ (sym (append_assoc (postorder h.left) (postorder h.right) (reduce r ∷ []))
          ∙ ap (λ l. l ++ (reduce r ∷ [])) (sym (postorder_beside h.left h.right) ∙ ap postorder (sym h.is)));
    }

pub moves_more : (steps : List Step) (s : Step) → map move_of (steps ++ (s ∷ [])) ≡ map move_of steps ++ (move_of s ∷ [])
moves_more [] s = refl
moves_more (x ∷ steps) s = ap (λ l. move_of x ∷ l) (moves_more steps s)

-- one reduction more
pub reduced : (g : Cfg) (table : Table) → NoConflict g
    → (read : List TokenRef) (states : List ℕ) (steps : List Step) (t r : ℕ)
    → (c : LrState g table read states steps (Some t)) → 1 ≤ r → Completes g c.prefix r t
    → (k : Reduces g c.prefix r)
    → (let kept = take (length states - length k.right) states in
    LrState g table read (kept ++ (table.go (top kept) k.left ∷ [])) (steps ++ (made.Reduce r ∷ [])) (Some t))
reduced g table free read states steps t r c one done k =
    let f = folded g k.below c.prefix k.right k.left r c.forest k.is_rule k.prefix c.derives in
    let all : states ≡ states_of table (onto k.right k.below) = c.states_are ∙ ap (states_of table) k.prefix in
    let kept : take (length states - length k.right) states ≡ states_of table k.below =
    ap (λ l. take (length l - length k.right) l) all ∙ popped table k.right k.below in
    let next : table.go (top (take (length states - length k.right) states)) k.left ≡ state_after table (N k.left ∷ k.below) =
    ap (λ l. table.go (top l) k.left) kept ∙ ap (λ n. table.go n k.left) (top_is table k.below) in
    record {
      prefix = N k.left ∷ k.below;
      forest = f.forest;
      core = k.after;
      derives = f.derives;
      yields = f.yields ∙ c.yields;
      steps_are = moves_more steps (made.Reduce r) ∙ (ap (λ l. l ++ (reduce r ∷ [])) c.steps_are ∙ sym f.steps_are);
      states_are = ap₂ (λ l n. l ++ (n ∷ [])) kept next;
      finishes = goes_on_reduced g free (terminals_of read) c.prefix r t k one done c.finishes;
    }

-- what the table does on the next token, in an invariant's words
pub does_act : (g : Cfg) (table : Table) → IsLrTable g table
    → (read : List TokenRef) (states : List ℕ) (steps : List Step) (t : ℕ) → t ≤ g.terminals
    → (c : LrState g table read states steps (Some t)) → IsAction g c.prefix t (table.act (top states) t)
does_act g table is read states steps t within c =
    let state : top states ≡ state_after table c.prefix = ap top c.states_are ∙ top_is table c.prefix in
    subst (λ n. IsAction g c.prefix t (table.act n t)) (sym state) (is.acts c.prefix t c.core within)

-- a token more
pub shift_core : (g : Cfg) (p : List Sym) (t : ℕ) → Shifts g p t → HasCore g (T t ∷ p)
shift_core g p t (r, d, y, (a, v)) = (r, suc d, y, (a, move p r d (T t) y a v))

pub goes_on_shifted : (g : Cfg) → NoConflict g → (read : List ℕ) (p : List Sym) (t : ℕ)
    → Shifts g p t → CanFinish g read p (Some t) → CanFinish g (read ++ (t ∷ [])) (T t ∷ p) None
goes_on_shifted g free read p t sh on v next is =
    let whole : IsSentence g (read ++ (t ∷ v)) = subst (IsSentence g) (append_assoc read (t ∷ []) v) is in
    let (ps, parse) = on (t ∷ v) refl whole in step v ps parse
  where
    step : (v : List ℕ) (ps : List (Move ℕ)) → Finishes g p (t ∷ v) ps → (ps : List (Move ℕ)) × Finishes g (T t ∷ p) v ps
    step v ps (shifts _ _ v2 ps2 a h) = (ps2, h)
    step v ps (reduces _ q s n w _ ps2 is2 e c2 h) = absurd (free t s None (p, c2, sh))

pub shifted_on : (g : Cfg) (table : Table) → NoConflict g
    → (read : List TokenRef) (states : List ℕ) (steps : List Step) (k : TokenRef) (n : ℕ)
    → (c : LrState g table read states steps (Some k.terminal)) → table.act (top states) k.terminal ≡ does.Shift n
    → Shifts g c.prefix k.terminal
    → LrState g table (read ++ (k ∷ [])) (states ++ (n ∷ [])) (steps ++ (made.Shift k ∷ [])) None
shifted_on g table free read states steps k n c does_shift sh =
    let p = c.prefix in
    let t : ℕ = k.terminal in
    let tree : Forest TokenRef = leaf k empty in
    let both = join terminal_of g (reverse p) (T t ∷ []) c.forest tree c.derives (token t k [] empty refl nothing) in
    let state : top states ≡ state_after table p = ap top c.states_are ∙ top_is table p in
    let next : n ≡ state_after table (T t ∷ p) =
    ap shifted (sym does_shift) ∙ ap (λ m. shifted (table.act m t)) state in
    record {
      prefix = T t ∷ p;
      forest = beside c.forest tree;
      core = shift_core g p t sh;
      derives = subst (λ l. Derive terminal_of g l (beside c.forest tree)) (sym (reverse-cons (T t) p)) both;
      yields = yield_beside c.forest tree ∙ ap (λ l. l ++ (k ∷ [])) c.yields;
      steps_are = moves_more steps (made.Shift k)
          ∙ (ap (λ l. l ++ (shift k ∷ [])) c.steps_are ∙ sym (postorder_beside c.forest tree));
      states_are = ap₂ (λ l m. l ++ (m ∷ [])) c.states_are next;
      finishes = subst (λ l. CanFinish g l (T t ∷ p) None) (sym (terminals_beside read (k ∷ [])))
          (goes_on_shifted g free (terminals_of read) p t sh c.finishes);
    }

-- the beginning
pub begins : (g : Cfg) (table : Table) → LrState g table [] (0 ∷ []) [] None
begins g table =
    record {
      prefix = [];
      forest = empty;
      core = (0, 0, N g.start ∷ [], (g.terminals, start));
      derives = nothing;
      yields = refl;
      steps_are = refl;
      states_are = refl;
      finishes = λ v next is. (
        postorder is.0,
        subst (λ l. Finishes g [] l (postorder is.0)) (sym is.1.yields) (complete g is.0 is.1.from_start),
      );
    }

-- a token is looked at
pub looked : (g : Cfg) (table : Table) (read : List TokenRef) (states : List ℕ) (steps : List Step) (t : ℕ)
    → LrState g table read states steps None → LrState g table read states steps (Some t)
looked g table read states steps t c =
    record {
      prefix = c.prefix;
      forest = c.forest;
      core = c.core;
      derives = c.derives;
      yields = c.yields;
      steps_are = c.steps_are;
      states_are = c.states_are;
      finishes = λ v next is. c.finishes v tt is;
    }

-- the stack of states is never empty, and its top is a state of the table
pub some_state : (g : Cfg) (table : Table) (read : List TokenRef) (states : List ℕ) (steps : List Step) (look : Option ℕ)
    → (c : LrState g table read states steps look) → 0 < length states
some_state g table read states steps look c =
    let long : length states ≡ suc (length c.prefix) = ap length c.states_are ∙ states_length table c.prefix in
    omega (arith, long)

pub top_inside : (g : Cfg) (table : Table) → IsLrTable g table
    → (read : List TokenRef) (states : List ℕ) (steps : List Step) (look : Option ℕ)
    → (c : LrState g table read states steps look) → top states < table.states
top_inside g table is read states steps look c =
    let state : top states ≡ state_after table c.prefix = ap top c.states_are ∙ top_is table c.prefix in
    let inside = is.inside c.prefix c.core in
    rw state inside

-- what the table says to reduce can be reduced
pub does_reduce : (g : Cfg) (table : Table) → IsLrTable g table
    → (read : List TokenRef) (states : List ℕ) (steps : List Step) (t r : ℕ) → t ≤ g.terminals
    → (c : LrState g table read states steps (Some t)) → table.act (top states) t ≡ does.Reduce r
    → (1 ≤ r) × Completes g c.prefix r t
does_reduce g table is read states steps t r within c e =
    subst (λ a. IsAction g c.prefix t a) e (does_act g table is read states steps t within c)

pub k_below : (g : Cfg) (p : List Sym) (n : ℕ) → HasCore g (N n ∷ p) → HasCore g p
k_below g p n (r, d, y, (a, v)) = below_core g (N n ∷ p) r d y a (N n) p refl v

pub can_reduce_states : (g : Cfg) (table : Table) → IsLrTable g table
    → (read : List TokenRef) (states : List ℕ) (steps : List Step) (t r : ℕ) → t ≤ g.terminals
    → (c : LrState g table read states steps (Some t)) → table.act (top states) t ≡ does.Reduce r
    → CanReduce g table states r
can_reduce_states g table is read states steps t r within c e =
    let (one, done) = does_reduce g table is read states steps t r within c e in
    let k = can_reduce g c.prefix r t one done in
    let all : states ≡ states_of table (onto k.right k.below) = c.states_are ∙ ap (states_of table) k.prefix in
    let kept : take (length states - length k.right) states ≡ states_of table k.below =
    ap (λ l. take (length l - length k.right) l) all ∙ popped table k.right k.below in
    let state : top (take (length states - length k.right) states) ≡ state_after table k.below =
    ap top kept ∙ top_is table k.below in
    let (more, joined, long) = states_onto table k.right k.below in
    let size = length-append (states_of table k.below) more in
    let bottom = states_length table k.below in
    let count : length states ≡ length (states_of table k.below ++ more) = ap length all ∙ ap length joined in
    record {
      left = k.left;
      right = k.right;
      is_rule = k.is_rule;
      room = omega (arith, count, size, bottom, long);
      inside = (let inside = is.inside k.below (k_below g k.below k.left k.after) in rw state inside);
      nonterminal = left_in g is.accepted.grammar r k.left k.right k.is_rule;
    }

-- one turn more
pub turned : (g : Cfg) (table : Table) → IsLrTable g table
    → (read : List TokenRef) (states after : List ℕ) (steps : List Step) (t r : ℕ) → t ≤ g.terminals
    → (c : LrState g table read states steps (Some t)) → table.act (top states) t ≡ does.Reduce r
    → ((n : ℕ) (w : List Sym) → IsRule g r n w → after ≡ reduced_states table states n (length w))
    → LrState g table read after (steps ++ (made.Reduce r ∷ [])) (Some t)
turned g table is read states after steps t r within c e new =
    let (one, done) = does_reduce g table is read states steps t r within c e in
    let k = can_reduce g c.prefix r t one done in
    let next = reduced g table is.accepted.no_conflict read states steps t r c one done k in
    subst (λ l. LrState g table read l (steps ++ (made.Reduce r ∷ [])) (Some t)) (sym (new k.left k.right k.is_rule)) next

pub settled : (g : Cfg) (table : Table) → IsLrTable g table
    → (read : List TokenRef) (states : List ℕ) (steps : List Step) (t : ℕ) (action : LrAction) → t ≤ g.terminals
    → (c : LrState g table read states steps (Some t)) → table.act (top states) t ≡ action
    → ((r : ℕ) → action ≡ does.Reduce r → ⊥)
    → IsSettled g table read states steps t action
settled g table is read states steps t action within c e none =
    record {
      state = c;
      is = e;
      acts = subst (λ a. IsAction g c.prefix t a) e (does_act g table is read states steps t within c);
      no_reduction = none;
    }
