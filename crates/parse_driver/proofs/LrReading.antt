-- The state of an LR parse between two tokens, and what the next one does to it.
use Rattle.std.proofs.Common.{◌≡◌, ℕ, ◌+◌, ◌<◌, List, [], ◌∷◌, ◌++◌, length, None, Some, refl, sym, ◌∙◌, arith, append_assoc, append-nil, length-append}
use Rattle.cfg_model.specs.Cfg.{Cfg}
use Rattle.cfg_model.specs.LrTables.{IsLrTable}
use Rattle.cfg_model.specs.Table.{Table}
use Rattle.cfg_model.specs.declared.action.LrAction.{LrAction}
use Rattle.cfg_model.specs.declared.action.LrAction.TheVariants as does
use Rattle.parse_driver.specs.Parse.{IsParsed, IsFirstWrong, IsBadToken}
use Rattle.parse_driver.specs.Stream.{Ending, finished, bad_at}
use Rattle.parse_driver.specs.declared.tokens.TokenRef.{TokenRef}
use Rattle.parse_driver.specs.declared.step.Step.{Step}
use Rattle.parse_driver.specs.declared.step.Step.TheVariants as made
use Rattle.parse_driver.specs.within.LrStack.{LrState, IsSettled}
use Rattle.parse_driver.proofs.LrEnds as ends
use Rattle.parse_driver.proofs.LrTurn.{begins, looked, shifted_on}

-- what was read and what is coming are all tokens; the states and steps are those of what was read
pub record LrReading (g : Cfg) (table : Table) (all coming : List TokenRef) (states : List ℕ) (steps : List Step) (k : ℕ) : Type 0 where
  pub read : List TokenRef
  pub whole : all ≡ read ++ coming
  pub count : k ≡ length read + 1
  pub state : LrState g table read states steps None

-- for each list that may come: what is still to come, and the state of its parse
abbrev pub LrReadingEach : Cfg → Table → (List TokenRef → Ending → Type 0) → (List TokenRef → Ending → Type 0)
    → List ℕ → List Step → ℕ → Type 0
LrReadingEach g table first now states steps k = (all : List TokenRef) (ending : Ending) → first all ending
    → (coming : List TokenRef) × now coming ending × LrReading g table all coming states steps k

module _ (g : Cfg) (table : Table) where
  -- nothing was read
  pub none_read : (all : List TokenRef) → LrReading g table all all (0 ∷ []) [] 1
  none_read all = record { read = []; whole = refl; count = refl; state = begins g table }

  -- the state is the one before this terminal, too
  pub before : (all coming : List TokenRef) (states : List ℕ) (steps : List Step) (k t : ℕ)
      → (p : LrReading g table all coming states steps k) → LrState g table p.read states steps (Some t)
  before all coming states steps k t p = looked g table p.read states steps t p.state

  all_read : (all : List TokenRef) (states : List ℕ) (steps : List Step) (k : ℕ)
      → (p : LrReading g table all [] states steps k) → all ≡ p.read
  all_read all states steps k p = p.whole ∙ append-nil p.read

-- after what was read the table settles on an action
abbrev pub Settles : Cfg → Table → List ℕ → List Step → List ℕ → List Step → ℕ → LrAction → Type 0
Settles g table states steps mid mids t action = (read : List TokenRef)
    → LrState g table read states steps (Some t) → IsSettled g table read mid mids t action

module _ (g : Cfg) (table : Table) (is : IsLrTable g table) (all : List TokenRef) (states mid : List ℕ) (steps mids : List Step) (k : ℕ) where
  -- a token more
  pub read_on : (rest : List TokenRef) (n : ℕ) (token : TokenRef) → LrReading g table all (token ∷ rest) states steps k
      → Settles g table states steps mid mids token.terminal (does.Shift n)
      → LrReading g table all rest (mid ++ (n ∷ [])) (mids ++ (made.Shift token ∷ [])) (k + 1)
  read_on rest n token p settles =
      let s = settles p.read (before g table all (token ∷ rest) states steps k token.terminal p) in
      record {
        read = p.read ++ (token ∷ []);
        whole = p.whole ∙ sym (append_assoc p.read (token ∷ []) rest);
        count = omega (arith, p.count, length-append p.read (token ∷ []));
        state = shifted_on g table is.accepted.no_conflict p.read mid mids token n s.state s.is s.acts;
      }

  pub at_wrong_token : (rest : List TokenRef) (token : TokenRef) (ending : Ending) (action : LrAction) → token.terminal < g.terminals
      → LrReading g table all (token ∷ rest) states steps k
      → Settles g table states steps mid mids token.terminal action → ((n : ℕ) → action ≡ does.Shift n → ⊥)
      → IsFirstWrong g all ending k token.from
  at_wrong_token rest token ending action below p settles none =
      let s = settles p.read (before g table all (token ∷ rest) states steps k token.terminal p) in
      rw p.count (ends.wrong_token g table is all p.read rest token ending mid mids action p.whole below s none)

  pub at_wrong_end : (ending : Ending) (place : ℕ) (action : LrAction) → ending ≡ finished place
      → LrReading g table all [] states steps k
      → Settles g table states steps mid mids g.terminals action → (action ≡ does.Accept → ⊥)
      → IsFirstWrong g all ending k place
  at_wrong_end ending place action ended p settles none =
      let s = settles p.read (before g table all [] states steps k g.terminals p) in
      rw (p.count, all_read g table all states steps k p) (ends.wrong_end g table is p.read ending place mid mids action ended s none)

  pub at_accepted : (ending : Ending) (place : ℕ) → ending ≡ finished place → LrReading g table all [] states steps k
      → Settles g table states steps mid mids g.terminals does.Accept → IsParsed g all ending mids
  at_accepted ending place ended p settles =
      let s = settles p.read (before g table all [] states steps k g.terminals p) in
      rw (all_read g table all states steps k p) (ends.accepted g table p.read ending place mid mids ended s)

  pub at_bad : (ending : Ending) (place : ℕ) → ending ≡ bad_at place → LrReading g table all [] states steps k
      → IsBadToken g all ending place
  at_bad ending place ended p =
      record { ended = ended; viable = rw (all_read g table all states steps k p) (ends.lr_viable g table is p.read states steps None p.state) }
