-- What one turn does to the state of a parse.
use Rattle.std.proofs.Common.{◌≡◌, ℕ, List, [], ◌∷◌, ◌++◌, Some, None}
use Rattle.cfg_model.specs.declared.symbol.Sym.{Sym}
use Rattle.cfg_model.specs.declared.symbol.Sym.TheVariants.{N}
use Rattle.cfg_model.specs.Cfg.{Cfg, IsRule}
use Rattle.cfg_model.specs.Steps.{Steps, step, more}
use Rattle.cfg_model.specs.Sets.{Reachable}
use Rattle.cfg_model.specs.LlTables.{IsLl, IsPrediction}
use Rattle.parse_driver.specs.declared.ll.Entry.{Entry}
use Rattle.parse_driver.specs.declared.ll.Entry.TheVariants.{Find, Done}
use Rattle.parse_driver.specs.declared.tokens.TokenRef.{TokenRef}
use Rattle.parse_driver.specs.declared.step.Step.{Step}
use Rattle.parse_driver.specs.declared.step.Step.TheVariants as act
use Rattle.parse_driver.specs.within.LlStack.{symbols, finding, State, Follows, NoneAhead, IsReached, Goes, Nears}
use Rattle.parse_driver.proofs.Turn.{symbols_finding, state_expand, follows_expand, state_end, follows_end, none_predicted}
use Rattle.parse_driver.proofs.Opening.{nears_end, nears_rule}

module _ (g : Cfg) (t : ℕ) (old stack : List Entry) (steps : List Step) where
  pub turn_end : (r : ℕ) → old ≡ Done r ∷ stack → IsReached g old
      → Goes g t old steps stack (steps ++ (act.Reduce r ∷ [])) × Nears g old stack
  turn_end r is (x, reached) =
      rw is (
        record {
          reached = (x, rw is at reached);
          state = λ read. state_end g read stack steps r;
          follows = λ read state. follows_end g read stack steps r t;
        },
        nears_end g r stack,
      )

  pub reachable_top : (n : ℕ) → old ≡ Find (N n) ∷ stack → IsReached g old → Reachable g n
  reachable_top n is (x, reached) = (x, symbols stack, rw is at reached)

  pub turn_rule : (n r : ℕ) (w : List Sym) (new : List Entry) → old ≡ Find (N n) ∷ stack → IsReached g old → IsLl g
      → IsPrediction g n t (Some r) → IsRule g r n w → new ≡ finding w ++ (Done r ∷ stack)
      → Goes g t old steps new steps × Nears g old new
  turn_rule n r w new is (x, reached) ok predicted rule new_is =
      let here : Steps g (N g.start ∷ []) (x ++ (N n ∷ symbols stack)) = rw is at reached in
      let next = more (x ++ (N n ∷ symbols stack)) (x ++ (w ++ symbols stack)) here (step r n w x (symbols stack) rule) in
      rw (is, new_is) (
        record {
          reached = (x, rw (symbols_finding g w (Done r ∷ stack)) next);
          state = λ read. state_expand g read stack steps n r w rule;
          follows = λ read state. follows_expand g read stack steps n t r w rule state predicted;
        },
        nears_rule g r n w stack ok (x, symbols stack, here) rule,
      )

  pub turn_stuck : (n : ℕ) → old ≡ Find (N n) ∷ stack → IsPrediction g n t None
      → (read : List TokenRef) → State g read old steps → Follows g t read old steps → NoneAhead g read t
  turn_stuck n is none_is read state follows =
      none_predicted g read stack steps n t (rw is at state) none_is (rw is at follows)
