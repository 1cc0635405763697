-- Each turn does one task.
use Rattle.std.proofs.Common.{◌≡◌, ◌++◌, [], ◌∷◌, subst, ap, ◌∙◌, arith}
use Rattle.beg_registers.specs.declared.choosing.Task.TheVariants as task
use Rattle.beg_model.specs.Applies.{applies}
use Rattle.beg_model.specs.declared.matched.Subgoal.{Subgoal}
use Rattle.beg_model.proofs.AcceptedRules.{accepted_order}
use Rattle.beg_registers.proofs.Walk.{begins, walked, cover_turn, cover_bound, list_turn, list_bounds, none_of_length}
use Rattle.beg_registers.proofs.choosing.list_cover.Goals as goal
use Rattle.beg_registers.proofs.choosing.list_cover.Goals.{in-Cover+in_ok-open-in-Cover, in-List+in_ok-put-in-List}

pub loop-turn-init : goal.loop-turn-init
loop-turn-init c =
    let root : Subgoal = record { node = c.args.root; nonterminal = c.args.rules.now.goal } in
    begins (applies c.args.texts.now c.args.rules.now c.args.types.now c.args.tree.now) root c.push.new.self.items c.new-ready.result.items c.new-list.result.items
    (c.in_ok-push.ensures.items ∙ ap (λ z. z ++ task.Cover root ∷ []) c.new-tasks.ensures.items) c.new-ready.ensures.items c.new-list.ensures.items

pub returns-in_default : goal.returns-in_default
returns-in_default c =
    let (list, tops, cost, stands, few) = c.requires.stands in (
      tops,
      cost,
      walked (applies c.args.texts.now c.args.rules.now c.args.types.now c.args.tree.now) _ c.loop-turn.tasks.items c.loop-turn.ready.items
          c.loop-turn.list.items c.loop-turn.invariant (none_of_length c.loop-turn.tasks.items (omega (arith, c.in_default.ensures.cases.0, c.loop-turn.tasks.ok)))
          list tops cost stands,
    )

pub open-requires-clause-chosen : goal.open-requires-clause-chosen
open-requires-clause-chosen c =
    let (list, tops, cost, stands, few) = c.requires.stands in
    let is = subst (λ z. c.loop-turn.tasks.items ≡ c.pop.new.self.items ++ z ∷ []) c.in-Cover.is c.in-Some.ensures.items in
    cover_bound _ _ _ _ (accepted_order c.args.texts.now c.args.rules.now c.args.types.now c.args.tree.now c.requires.sound c.requires.forest c.requires.accepted)
    _ c.loop-turn.tasks.items c.pop.new.self.items c.loop-turn.ready.items c.loop-turn.list.items c.loop-turn.invariant
    c.in-Cover.place list tops cost stands is

pub put-requires-clause-ready : goal.put-requires-clause-ready
put-requires-clause-ready c =
    let (list, tops, cost, stands, few) = c.requires.stands in
    let is = subst (λ z. c.loop-turn.tasks.items ≡ c.pop.new.self.items ++ z ∷ []) c.in-List.is c.in-Some.ensures.items in
    (list_bounds _ _ _ _ (accepted_order c.args.texts.now c.args.rules.now c.args.types.now c.args.tree.now c.requires.sound c.requires.forest c.requires.accepted)
    _ c.loop-turn.tasks.items c.pop.new.self.items c.loop-turn.ready.items c.loop-turn.list.items c.loop-turn.invariant
    c.in-List.rule c.in-List.node c.in-List.count list tops cost stands is).0

pub put-requires-clause-few : goal.put-requires-clause-few
put-requires-clause-few c =
    let (list, tops, cost, stands, few) = c.requires.stands in
    let is = subst (λ z. c.loop-turn.tasks.items ≡ c.pop.new.self.items ++ z ∷ []) c.in-List.is c.in-Some.ensures.items in
    let (x, le) = list_bounds _ _ _ _ (accepted_order c.args.texts.now c.args.rules.now c.args.types.now c.args.tree.now c.requires.sound c.requires.forest c.requires.accepted)
    _ c.loop-turn.tasks.items c.pop.new.self.items c.loop-turn.ready.items c.loop-turn.list.items c.loop-turn.invariant
    c.in-List.rule c.in-List.node c.in-List.count list tops cost stands is in
    omega (arith, le, few)

pub loop-turn-preserved : goal.loop-turn-preserved
loop-turn-preserved c =
    let order = accepted_order c.args.texts.now c.args.rules.now c.args.types.now c.args.tree.now c.requires.sound c.requires.forest c.requires.accepted in
    elim c.match-task.branch [
      | in-Cover+in_ok-open-in-Cover w ↦ (
          let is = subst (λ z. c.loop-turn.tasks.items ≡ c.pop.new.self.items ++ z ∷ []) w.in-Cover.is c.in-Some.ensures.items in
          rw (w.tasks-is, w.ready-is, w.list-is) (cover_turn _ _ _ _ order _ c.loop-turn.tasks.items c.pop.new.self.items
          c.loop-turn.ready.items c.loop-turn.list.items c.loop-turn.invariant w.in-Cover.place _ is w.in_ok-open-in-Cover.ensures))
      | in-List+in_ok-put-in-List w ↦ (
          let is = subst (λ z. c.loop-turn.tasks.items ≡ c.pop.new.self.items ++ z ∷ []) w.in-List.is c.in-Some.ensures.items in
          rw (w.tasks-is, w.ready-is, w.list-is) (list_turn _ _ _ _ order _ c.loop-turn.tasks.items c.pop.new.self.items
          c.loop-turn.ready.items c.loop-turn.list.items c.loop-turn.invariant w.in-List.rule w.in-List.node w.in-List.count _ _ is
          w.in_ok-put-in-List.ensures))
    ]
