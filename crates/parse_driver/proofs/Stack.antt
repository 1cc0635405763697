-- What a stack of entries still derives.
use Rattle.std.proofs.Common.{◌≡◌, ℕ, List, [], ◌∷◌, ◌++◌, refl, sym, ap, ◌∙◌, append_assoc}
use Rattle.std.proofs.lemmas.List.{append-nil}
use Rattle.cfg_model.specs.declared.symbol.Sym.{Sym}
use Rattle.cfg_model.specs.declared.symbol.Sym.TheVariants.{T, N}
use Rattle.cfg_model.specs.Cfg.{Cfg, IsRule}
use Rattle.cfg_model.specs.Derivation.{Forest, empty, leaf, node, yield, Derive, nothing, token, rule}
use Rattle.cfg_model.proofs.Forests.{beside, yield_beside, join}
use Rattle.parse_driver.specs.Stream.{terminal_of}
use Rattle.parse_driver.specs.declared.ll.Entry.{Entry}
use Rattle.parse_driver.specs.declared.ll.Entry.TheVariants.{Find, Done}
use Rattle.parse_driver.specs.declared.tokens.TokenRef.{TokenRef}
use Rattle.parse_driver.specs.declared.step.Step.{Step}
use Rattle.parse_driver.specs.declared.step.Step.TheVariants as act
use Rattle.parse_driver.specs.within.LlStack.{steps_of, Completes, all_done, finds, ends, finding}

steps_beside : (f h : Forest TokenRef) → steps_of (beside f h) ≡ steps_of f ++ steps_of h
steps_beside empty h = refl
steps_beside (leaf k f) h = ap (λ l. act.Shift k ∷ l) (steps_beside f h)
steps_beside (node r children f) h = rw (steps_beside f h, append_assoc)

module _ (g : Cfg) where
  -- a forest from several symbols is found symbol by symbol
  pub spread : (u : List Sym) (f : Forest TokenRef) (stack : List Entry) (ks : List TokenRef) (zs : List Step)
      → Derive terminal_of g u f → Completes g stack ks zs
      → Completes g (finding u ++ stack) (yield f ++ ks) (steps_of f ++ zs)
  spread _ _ stack ks zs nothing rest = rest
  spread _ _ stack ks zs (token t k u f is d) rest =
      finds (T t) (finding u ++ stack) (leaf k empty) (yield f ++ ks) (steps_of f ++ zs) (token t k [] empty is nothing) (spread u f stack ks zs d rest)
  spread _ _ stack ks zs (rule r n w u children f is c d) rest =
      let more = spread u f stack ks zs d rest in
      let all = finds (N n) (finding u ++ stack) (node r children empty) (yield f ++ ks) (steps_of f ++ zs) (rule r n w [] children empty is c nothing) more in
      let tokens : (yield children ++ []) ++ (yield f ++ ks) ≡ (yield children ++ yield f) ++ ks = simp (append-nil, append_assoc) in
      let steps : (steps_of children ++ (act.Reduce r ∷ [])) ++ (steps_of f ++ zs) ≡ (steps_of children ++ (act.Reduce r ∷ steps_of f)) ++ zs = simp append_assoc in
      rw (tokens, steps) at all

  -- what is found symbol by symbol is a forest
  pub record Gathered (u : List Sym) (stack : List Entry) (ks : List TokenRef) (zs : List Step) : Type 0 where
    pub forest : Forest TokenRef
    pub tokens : List TokenRef
    pub steps : List Step
    pub derive : Derive terminal_of g u forest
    pub tokens_are : ks ≡ yield forest ++ tokens
    pub steps_are : zs ≡ steps_of forest ++ steps
    pub rest : Completes g stack tokens steps

  pub gather : (u : List Sym) (stack : List Entry) (ks : List TokenRef) (zs : List Step)
      → Completes g (finding u ++ stack) ks zs → Gathered u stack ks zs
  gather [] stack ks zs rest = record { forest = empty; tokens = ks; steps = zs; derive = nothing; tokens_are = refl; steps_are = refl; rest = rest }
  gather (x ∷ u) stack _ _ (finds _ _ f ks zs d rest) =
      let more = gather u stack ks zs rest in
      record {
        forest = beside f more.forest;
        tokens = more.tokens;
        steps = more.steps;
        derive = join terminal_of g (x ∷ []) u f more.forest d more.derive;
        tokens_are = ap (λ l. yield f ++ l) more.tokens_are ∙ sym (append_assoc (yield f) (yield more.forest) more.tokens) ∙ ap (λ l. l ++ more.tokens) (sym (yield_beside f more.forest));
        steps_are = ap (λ l. steps_of f ++ l) more.steps_are ∙ sym (append_assoc (steps_of f) (steps_of more.forest) more.steps) ∙ ap (λ l. l ++ more.steps) (sym (steps_beside f more.forest));
        rest = more.rest;
      }

  -- a rule on the stack in place of its left side
  pub after_rule : (r n : ℕ) (w : List Sym) (stack : List Entry) (ks : List TokenRef) (zs : List Step) → IsRule g r n w
      → Completes g (finding w ++ (Done r ∷ stack)) ks zs → Completes g (Find (N n) ∷ stack) ks zs
  after_rule r n w stack ks zs is c =
      let all = gather w (Done r ∷ stack) ks zs c in
      elim_ends r n w stack ks zs is all all.tokens all.steps all.tokens_are all.steps_are all.rest
    where
      elim_ends : (r n : ℕ) (w : List Sym) (stack : List Entry) (ks : List TokenRef) (zs : List Step) → IsRule g r n w
          → (all : Gathered w (Done r ∷ stack) ks zs) (tokens : List TokenRef) (steps : List Step)
          → ks ≡ yield all.forest ++ tokens → zs ≡ steps_of all.forest ++ steps
          → Completes g (Done r ∷ stack) tokens steps → Completes g (Find (N n) ∷ stack) ks zs
      elim_ends r n w stack ks zs is all _ _ are steps_are (ends _ _ tokens steps rest) =
          let found = finds (N n) stack (node r all.forest empty) tokens steps (rule r n w [] all.forest empty is all.derive nothing) rest in
          let tokens_is : (yield all.forest ++ []) ++ tokens ≡ ks = rw (append-nil (yield all.forest)) (sym are) in
          let steps_is : (steps_of all.forest ++ (act.Reduce r ∷ [])) ++ steps ≡ zs = append_assoc (steps_of all.forest) (act.Reduce r ∷ []) steps ∙ sym steps_are in
          rw (tokens_is, steps_is) at found

  -- what a nonterminal on the stack is by: its rule and the forest from the right side
  pub record ByRule (n : ℕ) (stack : List Entry) (ks : List TokenRef) (zs : List Step) : Type 0 where
    pub number : ℕ
    pub right : List Sym
    pub is_rule : IsRule g number n right
    pub children : Forest TokenRef
    pub derive : Derive terminal_of g right children
    pub tokens : List TokenRef
    pub steps : List Step
    pub tokens_are : ks ≡ yield children ++ tokens
    pub steps_are : zs ≡ steps_of children ++ (act.Reduce number ∷ steps)
    pub rest : Completes g stack tokens steps

  by_rule_of : (n : ℕ) (stack : List Entry) (f : Forest TokenRef) (ks : List TokenRef) (zs : List Step)
      → Derive terminal_of g (N n ∷ []) f → Completes g stack ks zs → ByRule n stack (yield f ++ ks) (steps_of f ++ zs)
  by_rule_of n stack _ ks zs (rule r _ w _ children f is c d) rest = go f d
    where
      go : (f : Forest TokenRef) → Derive terminal_of g [] f → ByRule n stack ((yield children ++ yield f) ++ ks) ((steps_of children ++ (act.Reduce r ∷ steps_of f)) ++ zs)
      go _ nothing = record {
        number = r;
        right = w;
        is_rule = is;
        children = children;
        derive = c;
        tokens = ks;
        steps = zs;
        tokens_are = ap (λ l. l ++ ks) (append-nil (yield children));
        steps_are = append_assoc (steps_of children) (act.Reduce r ∷ []) zs;
        rest = rest;
      }

  pub by_rule : (n : ℕ) (stack : List Entry) (ks : List TokenRef) (zs : List Step)
      → Completes g (Find (N n) ∷ stack) ks zs → ByRule n stack ks zs
  by_rule n stack _ _ (finds _ _ f ks zs d rest) = by_rule_of n stack f ks zs d rest

  -- a terminal on the stack is the next token
  pub record ByToken (t : ℕ) (stack : List Entry) (ks : List TokenRef) (zs : List Step) : Type 0 where
    pub token : TokenRef
    pub tokens : List TokenRef
    pub steps : List Step
    pub is : token.terminal ≡ t
    pub tokens_are : ks ≡ token ∷ tokens
    pub steps_are : zs ≡ act.Shift token ∷ steps
    pub rest : Completes g stack tokens steps

  by_token_of : (t : ℕ) (stack : List Entry) (f : Forest TokenRef) (ks : List TokenRef) (zs : List Step)
      → Derive terminal_of g (T t ∷ []) f → Completes g stack ks zs → ByToken t stack (yield f ++ ks) (steps_of f ++ zs)
  by_token_of t stack _ ks zs (token _ k _ f is d) rest = go f d
    where
      go : (f : Forest TokenRef) → Derive terminal_of g [] f → ByToken t stack (k ∷ (yield f ++ ks)) (act.Shift k ∷ (steps_of f ++ zs))
      go _ nothing = record { token = k; tokens = ks; steps = zs; is = is; tokens_are = refl; steps_are = refl; rest = rest }

  pub by_token : (t : ℕ) (stack : List Entry) (ks : List TokenRef) (zs : List Step)
      → Completes g (Find (T t) ∷ stack) ks zs → ByToken t stack ks zs
  by_token t stack _ _ (finds _ _ f ks zs d rest) = by_token_of t stack f ks zs d rest

  pub record ByEnd (r : ℕ) (stack : List Entry) (ks : List TokenRef) (zs : List Step) : Type 0 where
    pub steps : List Step
    pub steps_are : zs ≡ act.Reduce r ∷ steps
    pub rest : Completes g stack ks steps

  pub by_end : (r : ℕ) (stack : List Entry) (ks : List TokenRef) (zs : List Step)
      → Completes g (Done r ∷ stack) ks zs → ByEnd r stack ks zs
  by_end r stack _ _ (ends _ _ ks zs rest) = record { steps = zs; steps_are = refl; rest = rest }

  pub nothing_left : (ks : List TokenRef) (zs : List Step) → Completes g [] ks zs → (ks ≡ []) × (zs ≡ [])
  nothing_left _ _ all_done = (refl, refl)
