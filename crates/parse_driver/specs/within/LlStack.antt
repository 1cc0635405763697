-- What a stack of entries still derives, and the state of a parse between two turns.
use Rattle.std.specs.Prelude.{◌≡◌, ℕ, suc, ◌+◌, ◌-◌, ◌^◌, ◌<◌, ◌≤◌, max, Bool, true, false, List, [], ◌∷◌, ◌++◌, map, reverse, length, Vec, Option, Some, None}
use Rattle.cfg_model.specs.declared.symbol.Sym.{Sym}
use Rattle.cfg_model.specs.declared.symbol.Sym.TheVariants.{T, N}
use Rattle.cfg_model.specs.Cfg.{Cfg, Rule, IsRule}
use Rattle.cfg_model.specs.Sets.{Reachable}
use Rattle.cfg_model.specs.Steps.{Steps, word}
use Rattle.cfg_model.specs.Derivation.{Forest, empty, leaf, node, yield, Derive}
use Rattle.parse_driver.specs.Stream.{terminal_of}
use Rattle.parse_driver.specs.declared.ll.Entry.{Entry}
use Rattle.parse_driver.specs.declared.ll.Entry.TheVariants.{Find, Done}
use Rattle.parse_driver.specs.declared.ll.Turn.{Turn}
use Rattle.parse_driver.specs.declared.ll.Turn.TheVariants.{Went, Ready, Stuck}
use Rattle.parse_driver.specs.declared.tokens.TokenRef.{TokenRef}
use Rattle.parse_driver.specs.declared.step.Step.{Step}
use Rattle.parse_driver.specs.declared.step.Step.TheVariants as act

-- the steps of a forest in postorder
abbrev pub steps_of : Forest TokenRef → List Step
steps_of empty = []
steps_of (leaf k f) = act.Shift k ∷ steps_of f
steps_of (node r children f) = steps_of children ++ (act.Reduce r ∷ steps_of f)

-- the entries, the first one on top, derive these tokens by these steps
pub data Completes (g : Cfg) : List Entry → List TokenRef → List Step → Type 0 where
  all_done : Completes g [] [] []
  finds : (x : Sym) (stack : List Entry) (f : Forest TokenRef) (ks : List TokenRef) (zs : List Step)
      → Derive terminal_of g (x ∷ []) f → Completes g stack ks zs
      → Completes g (Find x ∷ stack) (yield f ++ ks) (steps_of f ++ zs)
  ends : (r : ℕ) (stack : List Entry) (ks : List TokenRef) (zs : List Step) → Completes g stack ks zs
      → Completes g (Done r ∷ stack) ks (act.Reduce r ∷ zs)

-- entries that are to find these symbols
abbrev pub finding : List Sym → List Entry
finding u = map Find u

-- what is to be found
abbrev pub symbols : List Entry → List Sym
symbols [] = []
symbols (Find x ∷ stack) = x ∷ symbols stack
symbols (Done r ∷ stack) = symbols stack

-- the tokens begin with the terminal; where there are none it is END
abbrev pub Ahead : ℕ → ℕ → List TokenRef → Type 0
Ahead end t [] = t ≡ end
Ahead end t (k ∷ ks) = k.terminal ≡ t

-- the terminals of tokens as symbols
abbrev pub read_as : List TokenRef → List Sym
read_as read = word (map terminal_of read)

-- what was read and what is on the stack are derived from the start symbol, and what the stack derives
-- completes what was read
pub record State (g : Cfg) (read : List TokenRef) (stack : List Entry) (steps : List Step) : Type 0 where
  pub reached : Steps g (N g.start ∷ []) (read_as read ++ symbols stack)
  pub sound : (ks : List TokenRef) (zs : List Step) → Completes g stack ks zs
      → Completes g (Find (N g.start) ∷ []) (read ++ ks) (steps ++ zs)

-- what completes what was read, and begins with the terminal, is derived by the stack
pub record Follows (g : Cfg) (t : ℕ) (read : List TokenRef) (stack : List Entry) (steps : List Step) : Type 0 where
  pub each : (ks : List TokenRef) (zs : List Step) → Ahead g.terminals t ks → Completes g (Find (N g.start) ∷ []) (read ++ ks) zs
      → (rest : List Step) × (zs ≡ steps ++ rest) × Completes g stack ks rest

-- nothing that begins with the terminal completes what was read
abbrev pub NoneAhead : Cfg → List TokenRef → ℕ → Type 0
NoneAhead g read t = (ks : List TokenRef) (zs : List Step) → Ahead g.terminals t ks → Completes g (Find (N g.start) ∷ []) (read ++ ks) zs → ⊥

-- how many rules are open: they were taken, and aren't ended yet
abbrev pub open_rules : List Entry → ℕ
open_rules [] = 0
open_rules (Done r ∷ stack) = suc (open_rules stack)
open_rules (Find x ∷ stack) = open_rules stack

-- What was done since the entries were `rest`, without a token: rules were taken, each for the nonterminal
-- that was on top then, and of a rule's right side nothing is gone but what vanishes. The names are these
-- nonterminals, the last one first.
pub data Opened (g : Cfg) (rest : List Entry) : List Entry → List ℕ → Type 0 where
  nothing_opened : Opened g rest rest []
  rule_opened : (r n : ℕ) (v u : List Sym) (below stack : List Entry) (names : List ℕ) → IsRule g r n (v ++ u)
      → Steps g v [] → Reachable g n → Opened g rest (Find (N n) ∷ below) names
      → stack ≡ finding u ++ (Done r ∷ below) → Opened g rest stack (n ∷ names)

-- since some entries with at most so many open rules nothing else was done
pub record OpenedSince (g : Cfg) (most : ℕ) (stack : List Entry) : Type 0 where
  pub rest : List Entry
  pub names : List ℕ
  pub opened : Opened g rest stack names
  pub few : open_rules rest ≤ most

-- the greatest number of symbols in a right side, rule 0's among them
unfoldable pub longest : List Rule → ℕ
longest [] = 1
longest (r ∷ rs) = max (length r.right) (longest rs)

-- how many turns at most a nonterminal takes above which so many more rules are open at most
unfoldable pub weight : ℕ → ℕ → ℕ
weight long more = (long + 2) ^ more

-- how many turns the entries take at most, where no right side is longer and never more rules are open
abbrev pub load : ℕ → ℕ → List Entry → ℕ
load long most [] = 0
load long most (Done r ∷ stack) = 1 + load long most stack
load long most (Find (T t) ∷ stack) = load long most stack
load long most (Find (N n) ∷ stack) = weight long (most - open_rules stack) + load long most stack

-- where so many rules were open, as many are open at most before a token is drawn
abbrev pub load_since : Cfg → ℕ → List Entry → ℕ
load_since g most stack = load (longest g.rules) (most + g.nonterminals) stack

-- the turns before a token end: with each one less is left to do
abbrev pub Nears : Cfg → List Entry → List Entry → Type 0
Nears g old new = (most : ℕ) → OpenedSince g most old
    → OpenedSince g most new × (load_since g most new < load_since g most old)

-- the entries of a list whose last one is on top
abbrev pub entries : {A : Type 0} → Vec Entry A → List Entry
entries stack = reverse stack.items

-- the entry on top, None where there is none
abbrev pub IsTop : List Entry → Option Entry → Type 0
IsTop stack None = stack ≡ []
IsTop stack (Some x) = (rest : List Entry) × (stack ≡ x ∷ rest)

-- a list in which the entries' symbols stand last is derived from the start symbol
abbrev pub IsReached : Cfg → List Entry → Type 0
IsReached g stack = (x : List Sym) × Steps g (N g.start ∷ []) (x ++ symbols stack)

-- the entries and steps go on: whatever was read, its state is kept
pub record Goes (g : Cfg) (t : ℕ) (old : List Entry) (before : List Step) (new : List Entry) (after : List Step) : Type 0 where
  pub reached : IsReached g new
  pub state : (read : List TokenRef) → State g read old before → State g read new after
  pub follows : (read : List TokenRef) → State g read old before → Follows g t read old before → Follows g t read new after

-- a terminal is to be found, or nothing
abbrev pub IsReady : List Entry → Type 0
IsReady [] = Unit {0}
IsReady (Find (T t) ∷ stack) = Unit {0}
IsReady (Find (N n) ∷ stack) = ⊥
IsReady (Done r ∷ stack) = ⊥

-- what one turn says
abbrev pub Turns : Cfg → ℕ → List Entry → List Step → List Entry → List Step → Turn → Type 0
Turns g t old before new after Went = Goes g t old before new after × Nears g old new
Turns g t old before new after Ready = (new ≡ old) × (after ≡ before) × IsReady old
Turns g t old before new after Stuck = (read : List TokenRef) → State g read old before → Follows g t read old before → NoneAhead g read t

-- what the turns before a token is drawn say: the entries are ready, or nothing can follow
abbrev pub Expands : Cfg → ℕ → List Entry → List Step → List Entry → List Step → Bool → Type 0
Expands g t old before new after true = Goes g t old before new after × IsReady new
Expands g t old before new after false = (read : List TokenRef) → State g read old before → Follows g t read old before → NoneAhead g read t

-- what taking a token says: its terminal was on top, or not
abbrev pub Takes : TokenRef → List Entry → List Step → List Entry → List Step → Bool → Type 0
Takes k old before new after true = (old ≡ Find (T k.terminal) ∷ new) × (after ≡ before ++ (act.Shift k ∷ []))
Takes k old before new after false = (rest : List Entry) → old ≡ Find (T k.terminal) ∷ rest → ⊥
