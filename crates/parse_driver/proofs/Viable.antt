-- What was read can be completed, where every nonterminal that is met derives a word.
use Rattle.std.proofs.Common.{◌≡◌, ℕ, List, [], ◌∷◌, ◌++◌, map, refl, sym, ap, subst, ◌∙◌, append_assoc}
use Rattle.std.proofs.lemmas.List.{append-nil}
use Rattle.cfg_model.specs.declared.symbol.Sym.{Sym}
use Rattle.cfg_model.specs.declared.symbol.Sym.TheVariants.{T, N}
use Rattle.cfg_model.specs.Cfg.{Cfg}
use Rattle.cfg_model.specs.Steps.{Steps}
use Rattle.cfg_model.specs.Sets.{Reachable, Productive}
use Rattle.cfg_model.specs.Derivation.{Forest, empty, leaf, yield, nothing, token, Derivation, IsSentence, IsViable}
use Rattle.cfg_model.proofs.Forests.{gives_of_steps, relabel, derive_relabel}
use Rattle.parse_driver.specs.Stream.{terminal_of, terminals_of}
use Rattle.parse_driver.specs.Parse.{IsParsed, move_of}
use Rattle.parse_driver.specs.Stream.{Ending, finished}
use Rattle.parse_driver.specs.declared.ll.Entry.{Entry}
use Rattle.parse_driver.specs.declared.ll.Entry.TheVariants.{Find, Done}
use Rattle.parse_driver.specs.declared.tokens.TokenRef.{TokenRef}
use Rattle.parse_driver.specs.declared.step.Step.{Step}
use Rattle.parse_driver.specs.declared.step.Step.TheVariants as act
use Rattle.parse_driver.proofs.Labels.{terminals_beside, steps_in_postorder, plain_sentence, labelled_sentence}
use Rattle.parse_driver.proofs.Stack.{gather, nothing_left}
use Rattle.parse_driver.specs.within.LlStack.{steps_of, Completes, all_done, finds, ends, symbols, read_as, State, NoneAhead}

-- a token of the terminal
abbrev pub token_for : ℕ → TokenRef
token_for t = record { terminal = t; from = 0; to = 0 }

tokens_for : (v : List ℕ) → terminals_of (map token_for v) ≡ v
tokens_for [] = refl
tokens_for (t ∷ v) = ap (λ l. t ∷ l) (tokens_for v)

module _ (g : Cfg) where
  -- every nonterminal that is met derives a word
  abbrev pub AllProductive : Type 0
  AllProductive = (n : ℕ) → Reachable g n → Productive g n

  pub completion : AllProductive → (x : List Sym) (stack : List Entry) → Steps g (N g.start ∷ []) (x ++ symbols stack)
      → (ks : List TokenRef) × (zs : List Step) × Completes g stack ks zs
  completion productive x [] reached = ([], [], all_done)
  completion productive x (Done r ∷ stack) reached =
      let (ks, zs, c) = completion productive x stack reached in
      (ks, act.Reduce r ∷ zs, ends r stack ks zs c)
  completion productive x (Find (T t) ∷ stack) reached =
      let (ks, zs, c) = completion productive (x ++ (T t ∷ [])) stack (rw (append_assoc x (T t ∷ []) (symbols stack)) reached) in
      (token_for t ∷ ks, act.Shift (token_for t) ∷ zs, finds (T t) stack (leaf (token_for t) empty) ks zs (token t (token_for t) [] empty refl nothing) c)
  completion productive x (Find (N n) ∷ stack) reached =
      let (ks, zs, c) = completion productive (x ++ (N n ∷ [])) stack (rw (append_assoc x (N n ∷ []) (symbols stack)) reached) in
      let (w, steps) = productive n (x, symbols stack, reached) in
      let gives = gives_of_steps g (N n ∷ []) w steps in
      let f = relabel token_for gives.forest in
      (yield f ++ ks, steps_of f ++ zs, finds (N n) stack f ks zs (derive_relabel terminal_of token_for g (λ t. refl) (N n ∷ []) gives.forest gives.derive) c)

  -- a sentence is what the start symbol on the stack completes
  pub sentence_of : (ks : List TokenRef) (zs : List Step) → Completes g (Find (N g.start) ∷ []) ks zs
      → (f : Forest TokenRef) × Derivation terminal_of g ks f × (zs ≡ steps_of f)
  sentence_of ks zs c =
      let all = gather g (N g.start ∷ []) [] ks zs c in
      let gone = nothing_left g all.tokens all.steps all.rest in
      let tokens : ks ≡ yield all.forest = all.tokens_are ∙ ap (λ l. yield all.forest ++ l) gone.0 ∙ append-nil (yield all.forest) in
      let steps : zs ≡ steps_of all.forest = all.steps_are ∙ ap (λ l. steps_of all.forest ++ l) gone.1 ∙ append-nil (steps_of all.forest) in
      (all.forest, record { from_start = all.derive; yields = tokens }, steps)

  pub completes_sentence : (ks : List TokenRef) (f : Forest TokenRef) → Derivation terminal_of g ks f
      → Completes g (Find (N g.start) ∷ []) ks (steps_of f)
  completes_sentence ks f d =
      let c = finds (N g.start) [] f [] [] d.from_start all_done in
      let tokens : yield f ++ [] ≡ ks = append-nil (yield f) ∙ sym d.yields in
      rw (tokens, append-nil (steps_of f)) at c

  pub viable : AllProductive → (read : List TokenRef) (stack : List Entry) (steps : List Step) → State g read stack steps
      → IsViable g (terminals_of read)
  viable productive read stack steps state =
      let (ks, zs, c) = completion productive (read_as read) stack state.reached in
      let (f, d, are) = sentence_of (read ++ ks) (steps ++ zs) (state.sound ks zs c) in
      (terminals_of ks, rw (← terminals_beside read ks) (plain_sentence g (read ++ ks) f d))

  -- where nothing that begins with the token's terminal completes what was read, the token isn't viable
  none_begins : (read ks : List TokenRef) (k : TokenRef) → NoneAhead g read k.terminal → IsSentence g (terminals_of ((read ++ (k ∷ [])) ++ ks)) → ⊥
  none_begins read ks k none_is sentence =
      let (f, d) = labelled_sentence g ((read ++ (k ∷ [])) ++ ks) sentence in
      let c = completes_sentence ((read ++ (k ∷ [])) ++ ks) f d in
      none_is (k ∷ ks) (steps_of f) refl
      (subst (λ (l : List TokenRef). Completes g (Find (N g.start) ∷ []) l (steps_of f)) (append_assoc read (k ∷ []) ks) c)

  pub token_not_viable : (read : List TokenRef) (stack : List Entry) (steps : List Step) (k : TokenRef)
      → NoneAhead g read k.terminal → IsViable g (terminals_of (read ++ (k ∷ []))) → ⊥
  token_not_viable read stack steps k none_is (v, sentence) =
      let same : terminals_of ((read ++ (k ∷ [])) ++ map token_for v) ≡ terminals_of (read ++ (k ∷ [])) ++ v =
      terminals_beside (read ++ (k ∷ [])) (map token_for v) ∙ ap (λ l. terminals_of (read ++ (k ∷ [])) ++ l) (tokens_for v) in
      none_begins read (map token_for v) k none_is (subst (λ (l : List ℕ). IsSentence g l) (sym same) sentence)

  pub end_not_sentence : (read : List TokenRef) (stack : List Entry) (steps : List Step)
      → NoneAhead g read g.terminals → IsSentence g (terminals_of read) → ⊥
  end_not_sentence read stack steps none_is sentence =
      let (f, d) = labelled_sentence g read sentence in
      let c = completes_sentence read f d in
      none_is [] (steps_of f) refl (rw (append-nil read) c)

  -- at the end nothing is left on the stack
  pub parsed : (read : List TokenRef) (steps : List Step) (ending : Ending) (place : ℕ) → ending ≡ finished place
      → State g read [] steps → IsParsed g read ending steps
  parsed read steps ending place ended state =
      let c = state.sound [] [] all_done in
      let (f, d, are) = sentence_of read steps (rw (append-nil read, append-nil steps) at c) in
      record { place = place; ended = ended; forest = f; derivation = d; in_postorder = ap (λ l. map move_of l) are ∙ steps_in_postorder f }
