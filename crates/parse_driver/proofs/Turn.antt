-- The state of a parse between two turns.
use Rattle.std.proofs.Common.{◌≡◌, ℕ, inl, inr, List, [], ◌∷◌, ◌++◌, map, Some, refl, sym, ap, subst, ◌∙◌, append_assoc, arith, slice_get}
use Rattle.cfg_model.specs.declared.symbol.Sym.{Sym}
use Rattle.cfg_model.specs.declared.symbol.Sym.TheVariants.{T, N}
use Rattle.cfg_model.specs.Cfg.{Cfg, Rule, IsRule}
use Rattle.cfg_model.specs.Steps.{Steps, step, none, more, word}
use Rattle.cfg_model.specs.Sets.{Follow}
use Rattle.cfg_model.specs.LlConflicts.{Predicts}
use Rattle.cfg_model.specs.Derivation.{Forest, empty, leaf, yield, Derive, nothing, token}
use Rattle.cfg_model.proofs.Forests.{steps_of_trees, terminals_append, steps_then, steps_before, steps_after, steps_both}
use Rattle.parse_driver.specs.Stream.{terminal_of}
use Rattle.parse_driver.specs.declared.ll.Entry.{Entry}
use Rattle.parse_driver.specs.declared.ll.Entry.TheVariants.{Find, Done}
use Rattle.parse_driver.specs.declared.tokens.TokenRef.{TokenRef}
use Rattle.parse_driver.specs.declared.step.Step.{Step}
use Rattle.parse_driver.specs.declared.step.Step.TheVariants as act
use Rattle.parse_driver.proofs.Stack.{ByRule, by_rule, by_token, by_end, after_rule, spread, nothing_left}
use Rattle.parse_driver.specs.within.LlStack.{steps_of, Completes, all_done, finds, ends, finding, symbols, Ahead, read_as, State, Follows, NoneAhead}

module _ (g : Cfg) where
  pub symbols_finding : (u : List Sym) (stack : List Entry) → symbols (finding u ++ stack) ≡ u ++ symbols stack
  symbols_finding [] stack = refl
  symbols_finding (x ∷ u) stack = ap (λ l. x ∷ l) (symbols_finding u stack)

  pub steps_of_completes : (stack : List Entry) (ks : List TokenRef) (zs : List Step) → Completes g stack ks zs → Steps g (symbols stack) (read_as ks)
  steps_of_completes _ _ _ all_done = none
  steps_of_completes _ _ _ (finds x stack f ks zs d rest) =
      rw (terminals_append terminal_of g (yield f) ks) (steps_both g (steps_of_trees terminal_of g (x ∷ []) f d) (steps_of_completes stack ks zs rest))
  steps_of_completes _ _ _ (ends r stack ks zs rest) = steps_of_completes stack ks zs rest

  -- what is ahead, as symbols with END behind them, begins with the terminal
  pub begins_ahead : (t : ℕ) (ks : List TokenRef) → Ahead g.terminals t ks
      → (y : List Sym) × (read_as ks ++ (T g.terminals ∷ []) ≡ T t ∷ y)
  begins_ahead t [] is = ([], rw is refl)
  begins_ahead t (k ∷ ks) is = (read_as ks ++ (T g.terminals ∷ []), rw is refl)

  module _ (n t : ℕ) (read : List TokenRef) (stack : List Entry)
      (reached : Steps g (N g.start ∷ []) (read_as read ++ (N n ∷ symbols stack))) where
    -- a terminal ahead of what the rest of the stack derives is in FOLLOW
    pub follows_here : (ks : List TokenRef) (zs : List Step) → Completes g stack ks zs → Ahead g.terminals t ks → Follow g n t
    follows_here ks zs rest ahead =
        let (y, is) = begins_ahead t ks ahead in
        let after = steps_then g reached (steps_after g (read_as read) (steps_after g (N n ∷ []) (steps_of_completes stack ks zs rest))) in
        let with_end = steps_before g (T g.terminals ∷ []) after in
        let shape : (read_as read ++ (N n ∷ read_as ks)) ++ (T g.terminals ∷ []) ≡ read_as read ++ (N n ∷ T t ∷ y) =
        append_assoc (read_as read) (N n ∷ read_as ks) (T g.terminals ∷ []) ∙ ap (λ l. read_as read ++ (N n ∷ l)) is in
        (read_as read, y, rw shape at with_end)

    -- the rule by which the stack derives what is ahead is for the terminal
    pub for_terminal : (ks : List TokenRef) (zs : List Step) (r : ℕ) (w : List Sym) (children : Forest TokenRef) (tokens : List TokenRef) (steps : List Step)
        → IsRule g r n w → Derive terminal_of g w children → Completes g stack tokens steps
        → (found : List TokenRef) → yield children ≡ found → Ahead g.terminals t (found ++ tokens) → Predicts g n t r
    for_terminal ks zs r w children tokens steps is d rest [] none_found ahead =
        let empty : Steps g w [] = rw none_found at (steps_of_trees terminal_of g w children d) in
        record { right = w; is_rule = is; for_terminal = inr (empty, follows_here tokens steps rest ahead) }
    for_terminal ks zs r w children tokens steps is d rest (k ∷ found) is_found ahead =
        let some : Steps g w (word (k.terminal ∷ map terminal_of found)) = rw is_found at (steps_of_trees terminal_of g w children d) in
        record { right = w; is_rule = is; for_terminal = inl (rw (← ahead) (map terminal_of found, some)) }

    pub by_predicted : (ks : List TokenRef) (zs : List Step) → Ahead g.terminals t ks → (by : ByRule g n stack ks zs) → Predicts g n t by.number
    by_predicted ks zs ahead by =
        for_terminal ks zs by.number by.right by.children by.tokens by.steps by.is_rule by.derive by.rest (yield by.children) refl (rw by.tokens_are at ahead)

  abbrev as_rule : ℕ → List Sym → Rule
  as_rule n w = record { left = n; right = w }

  -- a rule has one left side and one right side
  pub one_rule : (r n m : ℕ) (w u : List Sym) → IsRule g r n w → IsRule g r m u → (n ≡ m) × (w ≡ u)
  one_rule r n m w u a b =
      let same : a.place ≡ b.place = omega (arith, a.from_one, b.from_one) in
      let read : slice_get g.rules b.place ≡ Some (record { left = n; right = w }) = rw same at a.read in
      let other = b.read in
      let rule_is : as_rule n w ≡ as_rule m u = cc (read, other) in
      (ap (λ (one : Rule). one.left) rule_is, ap (λ (one : Rule). one.right) rule_is)

  module _ (read : List TokenRef) (stack : List Entry) (steps : List Step) where
    -- a nonterminal on the stack makes room for the rule
    pub state_expand : (n r : ℕ) (w : List Sym) → IsRule g r n w → State g read (Find (N n) ∷ stack) steps
        → State g read (finding w ++ (Done r ∷ stack)) steps
    state_expand n r w is state = record {
      reached = rw (symbols_finding w (Done r ∷ stack)) (more (read_as read ++ (N n ∷ symbols stack)) (read_as read ++ (w ++ symbols stack)) state.reached (step r n w (read_as read) (symbols stack) is));
      sound = λ ks zs c. state.sound ks zs (after_rule g r n w stack ks zs is c);
    }

    pub follows_expand : (n t r : ℕ) (w : List Sym) → IsRule g r n w → State g read (Find (N n) ∷ stack) steps
        → Predicts g n t r × ((q : ℕ) → Predicts g n t q → q ≡ r)
        → Follows g t read (Find (N n) ∷ stack) steps → Follows g t read (finding w ++ (Done r ∷ stack)) steps
    follows_expand n t r w is state only follows = record {
      each = λ ks zs ahead c.
          let (rest, rest_is, here) = follows.each ks zs ahead c in
          let by = by_rule g n stack ks rest here in
          let same_number : by.number ≡ r = only.1 by.number (by_predicted n t read stack state.reached ks rest ahead by) in
          let same_right : by.right ≡ w = (one_rule r n n by.right w (rw same_number at by.is_rule) is).1 in
          let all = spread g w by.children (Done r ∷ stack) by.tokens (act.Reduce r ∷ by.steps) (rw same_right at by.derive) (ends r stack by.tokens by.steps by.rest) in
          let steps_is : steps_of by.children ++ (act.Reduce r ∷ by.steps) ≡ rest = rw (← same_number) (sym by.steps_are) in
          (rest, rest_is, rw (sym by.tokens_are, steps_is) at all);
    }

    pub state_end : (r : ℕ) → State g read (Done r ∷ stack) steps → State g read stack (steps ++ (act.Reduce r ∷ []))
    state_end r state = record {
      reached = state.reached;
      sound = λ ks zs c. rw (append_assoc steps (act.Reduce r ∷ []) zs) (state.sound ks (act.Reduce r ∷ zs) (ends r stack ks zs c));
    }

    pub follows_end : (r t : ℕ) → Follows g t read (Done r ∷ stack) steps → Follows g t read stack (steps ++ (act.Reduce r ∷ []))
    follows_end r t follows = record {
      each = λ ks zs ahead c.
          let (rest, rest_is, here) = follows.each ks zs ahead c in
          let by = by_end g r stack ks rest here in
          (by.steps, rest_is ∙ ap (λ l. steps ++ l) by.steps_are ∙ sym (append_assoc steps (act.Reduce r ∷ []) by.steps), by.rest);
    }

    -- the terminal on the stack is the next token
    pub state_take : (k : TokenRef) (t : ℕ) → k.terminal ≡ t → State g read (Find (T t) ∷ stack) steps
        → State g (read ++ (k ∷ [])) stack (steps ++ (act.Shift k ∷ []))
    state_take k t is state = record {
      reached = rw (terminals_append terminal_of g read (k ∷ []), is, append_assoc (read_as read) (T t ∷ []) (symbols stack)) state.reached;
      sound = λ ks zs c. rw (append_assoc steps (act.Shift k ∷ []) zs, append_assoc read (k ∷ []) ks)
          (state.sound (k ∷ ks) (act.Shift k ∷ zs) (finds (T t) stack (leaf k empty) ks zs (token t k [] empty is nothing) c));
    }

    pub follows_take : (k : TokenRef) (t : ℕ) → k.terminal ≡ t → Follows g t read (Find (T t) ∷ stack) steps
        → (u : ℕ) → Follows g u (read ++ (k ∷ [])) stack (steps ++ (act.Shift k ∷ []))
    follows_take k t is follows u = record {
      each = λ ks zs ahead c.
          let (rest, rest_is, here) = follows.each (k ∷ ks) zs is (rw (append_assoc read (k ∷ []) ks) at c) in
          let by = by_token g t stack (k ∷ ks) rest here in
          let same_token : k ≡ by.token = cc (by.tokens_are) in
          let same_rest : ks ≡ by.tokens = cc (by.tokens_are) in
          (by.steps, rest_is ∙ ap (λ l. steps ++ l) (by.steps_are ∙ ap (λ x. act.Shift x ∷ by.steps) (sym same_token)) ∙ sym (append_assoc steps (act.Shift k ∷ []) by.steps), subst (λ (l : List TokenRef). Completes g stack l by.steps) (sym same_rest) by.rest);
    }

    pub none_predicted : (n t : ℕ) → State g read (Find (N n) ∷ stack) steps → ((r : ℕ) → Predicts g n t r → ⊥)
        → Follows g t read (Find (N n) ∷ stack) steps → NoneAhead g read t
    none_predicted n t state none_is follows ks zs ahead c =
        let (rest, rest_is, here) = follows.each ks zs ahead c in
        let by = by_rule g n stack ks rest here in
        none_is by.number (by_predicted n t read stack state.reached ks rest ahead by)

    pub other_terminal : (a t : ℕ) → (a ≡ t → ⊥) → Follows g t read (Find (T a) ∷ stack) steps → NoneAhead g read t
    other_terminal a t differ follows ks zs ahead c =
        let (rest, rest_is, here) = follows.each ks zs ahead c in
        let by = by_token g a stack ks rest here in
        let begins : Ahead g.terminals t (by.token ∷ by.tokens) = rw by.tokens_are at ahead in
        differ (sym by.is ∙ begins)

  pub stack_empty : (t : ℕ) (read : List TokenRef) (steps : List Step) → (t ≡ g.terminals → ⊥) → Follows g t read [] steps → NoneAhead g read t
  stack_empty t read steps not_end follows ks zs ahead c =
      let (rest, rest_is, here) = follows.each ks zs ahead c in
      let gone = (nothing_left g ks rest here).0 in
      not_end (rw gone at ahead)
