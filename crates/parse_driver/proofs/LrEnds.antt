-- Each end of an LR parse.
use Rattle.std.proofs.Common.{◌≡◌, ℕ, ◌+◌, ◌<◌, List, [], ◌∷◌, ◌++◌, length, refl, sym, ap, ap₂, append_assoc, append-nil, ◌∙◌, arith, Option, Some, subst}
use mathlib.Core.List.{reverse}
use Rattle.std.proofs.lemmas.List.Elements.{All-head}
use Rattle.cfg_model.specs.declared.symbol.Sym.{Sym}
use Rattle.cfg_model.specs.declared.symbol.Sym.TheVariants.{T, N}
use Rattle.cfg_model.specs.declared.action.LrAction.{LrAction}
use Rattle.cfg_model.specs.declared.action.LrAction.TheVariants as does
use Rattle.cfg_model.specs.Cfg.{Cfg, IsSymbol, IsGrammar}
use Rattle.cfg_model.specs.Derivation.{Move, Derive, IsSentence, IsViable}
use Rattle.cfg_model.specs.Steps.{Steps, word}
use Rattle.cfg_model.specs.Valid.{first_of, Valid, start, closure, move}
use Rattle.cfg_model.specs.LalrConflicts.{Completes, Shifts}
use Rattle.cfg_model.specs.LrTables.{IsAction, IsLrTable}
use Rattle.cfg_model.specs.Table.{Table}
use Rattle.cfg_model.proofs.CoresViable.{core_viable}
use Rattle.cfg_model.proofs.Forests.{steps_of_trees}
use Rattle.cfg_model.proofs.InGrammar.{behind_dot}
use Rattle.parse_driver.specs.Parse.{IsParsed, IsFirstWrong, a_token, the_end}
use Rattle.parse_driver.specs.Stream.{terminal_of, terminals_of, Ending, finished}
use Rattle.parse_driver.specs.declared.tokens.TokenRef.{TokenRef}
use Rattle.parse_driver.specs.declared.step.Step.{Step}
use Rattle.parse_driver.specs.within.LrStack.{onto, Finishes, accepts, shifts, reduces, LrState, IsSettled}
use Rattle.parse_driver.proofs.Labels.{terminals_beside}
use Rattle.parse_driver.proofs.LrPrefix.{over, completed}
use Rattle.parse_driver.proofs.LrTurn.{reverse_onto}

-- where no action is left, no sentence begins with the tokens and the next one
pub stuck : (g : Cfg) (table : Table) (read : List TokenRef) (states : List ℕ) (steps : List Step) (t : ℕ)
    → (c : LrState g table read states steps (Some t)) → IsAction g c.prefix t does.Error
    → (v : List ℕ) → first_of v g.terminals ≡ t → IsSentence g (terminals_of read ++ v) → ⊥
stuck g table read states steps t c none v next is =
    let (ps, parse) = c.finishes v next is in step v ps next parse
  where
    step : (v : List ℕ) (ps : List (Move ℕ)) → first_of v g.terminals ≡ t → Finishes g c.prefix v ps → ⊥
    step v ps next (accepts _ a) = none.1 0 (subst (λ x. Completes g c.prefix 0 x) next a)
    step v ps next (shifts _ s v2 ps2 a h) = none.0 (subst (λ x. Shifts g c.prefix x) next a)
    step v ps next (reduces _ q s n w _ ps2 is2 e c2 h) = none.1 s (subst (λ x. Completes g c.prefix s x) next c2)

-- what was read is viable
pub lr_viable : (g : Cfg) (table : Table) → IsLrTable g table
    → (read : List TokenRef) (states : List ℕ) (steps : List Step) (next : Option ℕ)
    → (c : LrState g table read states steps next) → IsViable g (terminals_of read)
lr_viable g table is read states steps next c =
    let derived = steps_of_trees terminal_of g (reverse c.prefix) c.forest c.derives in
    core_viable g c.prefix (terminals_of read) is.accepted.grammar is.accepted.productive c.core
    (subst (λ l. Steps g (reverse c.prefix) (word (terminals_of l))) c.yields derived)

-- what was read is a sentence where the table accepts
pub only_start : (g : Cfg) (p : List Sym) (d : ℕ) (w : List Sym) (a : ℕ) → d ≡ 0 → Valid g p 0 d w a
    → (p ≡ []) × (w ≡ N g.start ∷ []) × (a ≡ g.terminals)
only_start g p d w a zero_ start = (refl, refl, refl)
only_start g p d w a zero_ (closure _ r2 d2 n y2 a2 _ _ _ v is begins) = absurd (let one = is.from_one in omega (arith, one))
only_start g p d w a zero_ (move p2 r2 d2 x _ _ v) = absurd (omega arith)

-- rule 0 is complete on END alone
pub accepts_end : (g : Cfg) (p : List Sym) (t : ℕ) → Completes g p 0 t → t ≡ g.terminals
accepts_end g p t (d, (q, same, v)) =
    let o = over g q 0 d [] t v in (only_start g o.below 0 (o.front ++ []) t refl o.begun).2

-- where the table accepts, what was read is a sentence, with the steps of its derivation
pub accepted : (g : Cfg) (table : Table) (read : List TokenRef) (ending : Ending) (place : ℕ) (states : List ℕ) (steps : List Step)
    → ending ≡ finished place → (s : IsSettled g table read states steps g.terminals does.Accept) → IsParsed g read ending steps
accepted g table read ending place states steps ended s =
    let c = s.state in
    let (d, (a, v)) = completed g c.prefix 0 g.terminals s.acts in
    let o = over g c.prefix 0 d [] a v in
    let w : o.front ++ [] ≡ o.front = append-nil o.front in
    let began : Valid g o.below 0 0 o.front a = subst (λ l. Valid g o.below 0 0 l a) w o.begun in
    let (nothing_below, right, end) = only_start g o.below 0 o.front a refl began in
    let prefix : c.prefix ≡ N g.start ∷ [] = o.prefix ∙ ap₂ onto right nothing_below in
    let back : reverse c.prefix ≡ N g.start ∷ [] = ap reverse prefix ∙ reverse_onto (N g.start ∷ []) [] in
    record {
      place = place;
      ended = ended;
      forest = c.forest;
      derivation = record { from_start = subst (λ l. Derive terminal_of g l c.forest) back c.derives; yields = sym c.yields };
      in_postorder = c.steps_are;
    }

-- where it neither shifts nor reduces, the token isn't viable
pub wrong_token : (g : Cfg) (table : Table) → IsLrTable g table → (ts read rest : List TokenRef) (k : TokenRef) (ending : Ending)
    (states : List ℕ) (steps : List Step) (action : LrAction)
    → ts ≡ read ++ (k ∷ rest) → k.terminal < g.terminals
    → (s : IsSettled g table read states steps k.terminal action) → ((n : ℕ) → action ≡ does.Shift n → ⊥)
    → IsFirstWrong g ts ending (length read + 1) k.from
wrong_token g table is ts read rest k ending states steps action whole below s none =
    a_token read rest k whole (lr_viable g table is read states steps (Some k.terminal) s.state) (λ v. fails v.0 v.1)
  where
    no_action : (a : LrAction) → a ≡ action → IsAction g s.state.prefix k.terminal a → IsAction g s.state.prefix k.terminal does.Error
    no_action (does.Shift n) e acts = absurd (none n (sym e))
    no_action (does.Reduce r) e acts = absurd (s.no_reduction r (sym e))
    no_action does.Accept e acts = let end = accepts_end g s.state.prefix k.terminal acts in absurd (omega (arith, end, below))
    no_action does.Error e acts = acts

    fails : (v : List ℕ) → IsSentence g (terminals_of (read ++ (k ∷ [])) ++ v) → ⊥
    fails v sentence =
        let one = terminals_beside read (k ∷ []) in
        let flat = append_assoc (terminals_of read) (k.terminal ∷ []) v in
        stuck g table read states steps k.terminal s.state (no_action action refl s.acts) (k.terminal ∷ v) refl
        (subst (IsSentence g) (ap (λ l. l ++ v) one ∙ flat) sentence)

-- END is never shifted
pub no_shift_of_end : (g : Cfg) → IsGrammar g → (p : List Sym) → Shifts g p g.terminals → ⊥
no_shift_of_end g ok p (r, d, y, (a, v)) =
    let below = All-head (IsSymbol g) (T g.terminals) y (behind_dot g ok p r d _ a v) in omega (arith, below)

-- where it doesn't accept on END, what was read is no sentence
pub wrong_end : (g : Cfg) (table : Table) → IsLrTable g table → (read : List TokenRef) (ending : Ending) (place : ℕ)
    (states : List ℕ) (steps : List Step) (action : LrAction) → ending ≡ finished place
    → (s : IsSettled g table read states steps g.terminals action) → (action ≡ does.Accept → ⊥)
    → IsFirstWrong g read ending (length read + 1) place
wrong_end g table is read ending place states steps action ended s none =
    the_end place ended (lr_viable g table is read states steps (Some g.terminals) s.state) fails
  where
    no_action : (a : LrAction) → a ≡ action → IsAction g s.state.prefix g.terminals a → IsAction g s.state.prefix g.terminals does.Error
    no_action (does.Shift n) e acts = absurd (no_shift_of_end g is.accepted.grammar s.state.prefix acts)
    no_action (does.Reduce r) e acts = absurd (s.no_reduction r (sym e))
    no_action does.Accept e acts = absurd (none (sym e))
    no_action does.Error e acts = acts

    fails : IsSentence g (terminals_of read) → ⊥
    fails sentence =
        stuck g table read states steps g.terminals s.state (no_action action refl s.acts) [] refl
        (subst (IsSentence g) (sym (append-nil (terminals_of read))) sentence)
