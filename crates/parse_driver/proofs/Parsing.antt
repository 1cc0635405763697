-- The state of a parse between two tokens, and each of its ends.
use Rattle.std.proofs.Common.{◌≡◌, ℕ, ◌+◌, ◌<◌, List, [], ◌∷◌, ◌++◌, length, All, refl, sym, ap, ◌∙◌, arith, append_assoc, length-append}
use Rattle.std.proofs.lemmas.List.{append-nil}
use Rattle.std.proofs.lemmas.List.Elements.{All-head, All-tail}
use Rattle.cfg_model.specs.declared.symbol.Sym.TheVariants.{T, N}
use Rattle.cfg_model.specs.Cfg.{Cfg}
use Rattle.cfg_model.specs.Steps.{none}
use Rattle.cfg_model.specs.Sets.{Reachable, Productive}
use Rattle.cfg_model.specs.LlTables.{IsLl}
use Rattle.cfg_model.specs.Derivation.{IsSentence}
use Rattle.cfg_model.proofs.InRange.{reachable_in}
use Rattle.parse_driver.specs.Stream.{Ending, finished, bad_at}
use Rattle.parse_driver.specs.Stream.{terminals_of}
use Rattle.parse_driver.specs.Parse.{IsParsed, IsFirstWrong, a_token as wrong_token, the_end, IsBadToken}
use Rattle.parse_driver.specs.declared.ll.Entry.{Entry}
use Rattle.parse_driver.specs.declared.ll.Entry.TheVariants.{Find, Done}
use Rattle.parse_driver.specs.declared.tokens.TokenRef.{TokenRef}
use Rattle.parse_driver.specs.declared.step.Step.{Step}
use Rattle.parse_driver.specs.declared.step.Step.TheVariants as act
use Rattle.cfg_model.proofs.Locate.{not_empty}
use Rattle.parse_driver.specs.within.LlStack.{steps_of, State, Follows, NoneAhead, Goes, IsReady}
use Rattle.parse_driver.proofs.Labels.{labelled_sentence}
use Rattle.parse_driver.proofs.Stack.{by_token}
use Rattle.parse_driver.proofs.Turn.{state_take, follows_take, other_terminal, stack_empty}
use Rattle.parse_driver.proofs.Viable.{viable, token_not_viable, completes_sentence, parsed}

pub record Parsing (g : Cfg) (all coming : List TokenRef) (stack : List Entry) (steps : List Step) (k : ℕ) : Type 0 where
  pub read : List TokenRef
  pub whole : all ≡ read ++ coming
  pub count : k ≡ length read + 1
  pub state : State g read stack steps
  pub follows : (t : ℕ) → Follows g t read stack steps

pub holds_of_token : (P : TokenRef → Type 0) (read : List TokenRef) (k : TokenRef) (rest : List TokenRef) → All P (read ++ (k ∷ rest)) → P k
holds_of_token P [] k rest all = All-head P k rest all
holds_of_token P (x ∷ read) k rest all = holds_of_token P read k rest (All-tail P x (read ++ (k ∷ rest)) all)

module _ (g : Cfg) (accepted : IsLl g) where
  productive : (n : ℕ) → Reachable g n → Productive g n
  productive n reachable = accepted.productive n (reachable_in g accepted.grammar n reachable)

  -- nothing was read, and the start symbol is on the stack
  pub begins : (all : List TokenRef) → Parsing g all all (Find (N g.start) ∷ []) [] 1
  begins all = record {
    read = [];
    whole = refl;
    count = refl;
    state = record { reached = none; sound = λ ks zs c. c };
    follows = λ t. record { each = λ ks zs ahead c. (zs, refl, c) };
  }

  -- the token after what was read is wrong
  pub wrong : (all rest : List TokenRef) (stack : List Entry) (steps : List Step) (k : ℕ) (token : TokenRef) (ending : Ending)
      → (p : Parsing g all (token ∷ rest) stack steps k) → NoneAhead g p.read token.terminal → IsFirstWrong g all ending k token.from
  wrong all rest stack steps k token ending p none_is =
      rw p.count (wrong_token p.read rest token p.whole (viable g productive p.read stack steps p.state) (token_not_viable g p.read stack steps token none_is))

  -- END is wrong
  pub wrong_end : (all : List TokenRef) (stack : List Entry) (steps : List Step) (k place : ℕ) (ending : Ending) → ending ≡ finished place
      → (p : Parsing g all [] stack steps k) → (IsSentence g (terminals_of p.read) → ⊥) → IsFirstWrong g all ending k place
  wrong_end all stack steps k place ending ended p no_sentence =
      let read_all : all ≡ p.read = p.whole ∙ append-nil p.read in
      rw (p.count, ← read_all) (the_end place ended (rw read_all (viable g productive p.read stack steps p.state)) (rw read_all no_sentence))

  pub bad : (all : List TokenRef) (stack : List Entry) (steps : List Step) (k place : ℕ) (ending : Ending) → ending ≡ bad_at place
      → Parsing g all [] stack steps k → IsBadToken g all ending place
  bad all stack steps k place ending ended p =
      let read_all : all ≡ p.read = p.whole ∙ append-nil p.read in
      record { ended = ended; viable = rw read_all (viable g productive p.read stack steps p.state) }

  -- entries that are ready for a token, without its terminal on top
  pub not_taken : (read : List TokenRef) (stack : List Entry) (steps : List Step) (t : ℕ) → t < g.terminals → Follows g t read stack steps
      → IsReady stack → ((rest : List Entry) → stack ≡ Find (T t) ∷ rest → ⊥) → NoneAhead g read t
  not_taken read [] steps t below follows ready none_is = stack_empty g t read steps (λ e. omega arith) follows
  not_taken read (Find (T a) ∷ stack) steps t below follows ready none_is =
      other_terminal g read stack steps a t (λ same. none_is stack (ap (λ x. Find (T x) ∷ stack) same)) follows
  not_taken read (Find (N n) ∷ stack) steps t below follows ready none_is = absurd ready
  not_taken read (Done r ∷ stack) steps t below follows ready none_is = absurd ready

  -- entries that are left at the end
  pub left_over : (read : List TokenRef) (stack : List Entry) (steps : List Step) → Follows g g.terminals read stack steps
      → IsReady stack → (stack ≡ [] → ⊥) → IsSentence g (terminals_of read) → ⊥
  left_over read [] steps follows ready some sentence = some refl
  left_over read (Find (T a) ∷ stack) steps follows ready some sentence =
      let (f, d) = labelled_sentence g read sentence in
      let c = completes_sentence g read f d in
      let found = follows.each [] (steps_of f) refl (rw (append-nil read) c) in
      let by = by_token g a stack [] found.0 found.2 in
      let e : [] ≡ by.token ∷ by.tokens = by.tokens_are in
      absurd (not_empty [] by.token by.tokens e)
  left_over read (Find (N n) ∷ stack) steps follows ready some sentence = absurd ready
  left_over read (Done r ∷ stack) steps follows ready some sentence = absurd ready

  -- a token was taken
  pub taken : (all rest : List TokenRef) (a b c : List Entry) (p q r : List Step) (k : ℕ) (token : TokenRef)
      → Parsing g all (token ∷ rest) a p k → Goes g token.terminal a p b q → b ≡ Find (T token.terminal) ∷ c → r ≡ q ++ (act.Shift token ∷ [])
      → Parsing g all rest c r (k + 1)
  taken all rest a b c p q r k token before goes b_is r_is =
      let state = rw b_is at (goes.state before.read before.state) in
      let follows = rw b_is at (goes.follows before.read before.state (before.follows token.terminal)) in
      record {
        read = before.read ++ (token ∷ []);
        whole = before.whole ∙ sym (append_assoc before.read (token ∷ []) rest);
        count = omega (arith, before.count, length-append before.read (token ∷ []));
        state = rw r_is (state_take g before.read c q token token.terminal refl state);
        follows = λ t. rw r_is (follows_take g before.read c q token token.terminal refl follows t);
      }

  -- nothing is left at the end
  pub done : (all : List TokenRef) (a : List Entry) (p q : List Step) (k place : ℕ) (ending : Ending) → ending ≡ finished place
      → Parsing g all [] a p k → Goes g g.terminals a p [] q → IsParsed g all ending q
  done all a p q k place ending ended before goes =
      let read_all : all ≡ before.read = before.whole ∙ append-nil before.read in
      rw read_all (parsed g before.read q ending place ended (goes.state before.read before.state))

-- for each list that may come: what is still to come, and the state of its parse
abbrev pub ParsingEach : Cfg → (List TokenRef → Ending → Type 0) → (List TokenRef → Ending → Type 0) → List Entry → List Step → ℕ → Type 0
ParsingEach g first now stack steps k = (all : List TokenRef) (ending : Ending) → first all ending
    → (coming : List TokenRef) × now coming ending × Parsing g all coming stack steps k
