-- At the end of the visits: the values solve, they are the only ones, and each instance was evaluated once.
use Rattle.std.proofs.Common.{◌≡◌, ℕ, suc, ◌+◌, ◌-◌, ◌<◌, ◌≤◌, List, [], ◌∷◌, length, map, refl, sym, ◌∙◌, subst, ap, arith, pos}
use Rattle.value_store.specs.Cells.{Cell}
use Rattle.value_store.specs.declared.value.ValType.TheVariants as ty
use Rattle.expr_lang.specs.Evaluated.{Keeps}
use Rattle.expr_lang.specs.Expression.{Expression}
use Rattle.expr_lang.specs.OfType.{IsOf, is_int}
use Rattle.expr_lang.specs.PureValues.{PureValue, int}
use Rattle.expr_lang.proofs.Evaluates.{keeps-none, keeps-both}
use Rattle.tree_store.specs.Forest.{Node}
use Rattle.ag_model.specs.Attribution.{AttributeGrammar, PureEquation, attributes_of}
use Rattle.ag_model.specs.Numbers.{size_of}
use Rattle.ag_model.specs.Plans.{PurePlan}
use Rattle.ag_model.specs.Solution.{Solves, value_at, result_of, type_family}
use Rattle.ag_model.specs.declared.attribution.Place.{Place}
use Rattle.ag_model.specs.declared.attribution.Place.TheVariants.{Own, Child}
use Rattle.ag_model.proofs.SolvesByEquations.{solves_by_equations, equations_of_solved}
use Rattle.ag_visits.specs.declared.walk.Walk.{Walk}
use Rattle.ag_visits.specs.within.VisitedTree as visited
use Rattle.ag_visits.specs.within.Visits.{State, Known, IsSound, Fitting}
use Rattle.ag_visits.specs.within.OfTree.{tree_of, val_of, kinds_at, sets_at, steps_at, IsReady, IsWide}
use Rattle.ag_visits.specs.within.Walks.{position_of, state_of, Begins, IsRunning, Turns}
use Rattle.ag_visits.specs.Promise.{IsInstance, AreValues, HasOneSolution, no_sources, instances}
use Rattle.ag_visits.proofs.Paths.{map_same}
use Rattle.ag_visits.proofs.Fits.{fitting, is_full, length_kinds}
use Rattle.ag_visits.proofs.OneSolution.{total, total_same, total_front, total_zero, begins_sound, visits_end, solves_at_end, steps_left, fewer_left}
use Rattle.ag_visits.proofs.Ticks.{IsCounted, begins_counted, one_more_counted, counted_at_end, all_known}
use Rattle.ag_visits.proofs.TurnsAreSound.{one_more_turn}

-- the sum over nodes is that of their list
pub total_nodes : (g : AttributeGrammar) (nodes : List Node) → total (λ n. size_of g (type_family g nodes n)) (length nodes) ≡ instances g nodes
total_nodes g [] = total_zero (λ n. size_of g (type_family g [] n))
total_nodes g (node ∷ nodes) =
    let front = total_front (λ n. size_of g (type_family g (node ∷ nodes) n)) (length nodes) in
    let ih = total_nodes g nodes in
    let same = total_same (λ n. size_of g (type_family g (node ∷ nodes) (suc n))) (λ n. size_of g (type_family g nodes n)) (length nodes) (λ k lt. refl) in
    omega (arith, front, ih, same)

module _ (s l : List ℕ) (g : AttributeGrammar) (plan : PurePlan) (nodes : List Node) (ready : IsReady g plan nodes)
    (expressions : List (List Expression)) (width : ℕ) (wide : IsWide g width) where
  val : ℕ → ℕ → List PureValue → PureValue
  val = val_of s l expressions nodes

  abbrev pub fit : Fitting (tree_of g width nodes) (kinds_at g nodes) (sets_at g plan nodes) (steps_at plan nodes)
  fit = fitting g width nodes (val_of s l expressions nodes) plan ready wide

  -- values at places in both forms
  value_same : (values : ℕ → ℕ → PureValue) (n : ℕ) (u : Place) → visited.value_at (tree_of g width nodes) values n u ≡ value_at nodes values n u
  value_same values n (Own a) = refl
  value_same values n (Child c a) = refl

  values_same : (values : ℕ → ℕ → PureValue) (n e : ℕ) (q : PureEquation)
      → val_of s l expressions nodes n e (map (visited.value_at (tree_of g width nodes) values n) q.uses) ≡ result_of s l expressions nodes values n e q
  values_same values n e q =
      ap (val_of s l expressions nodes n e) (map_same (visited.value_at (tree_of g width nodes) values n) (value_at nodes values n) q.uses (λ u has. value_same values n u))

  pub solves_of : (values : ℕ → ℕ → PureValue) → visited.Solves (val_of s l expressions nodes) (tree_of g width nodes) values → Solves s l g expressions nodes values
  solves_of values solves = solves_by_equations s l g expressions nodes values (record {
    each = λ n e q within is. let holds = solves n e q within is in sym (value_same values n q.target) ∙ holds.same ∙ values_same values n e q;
  })

  pub of_solves : (values : ℕ → ℕ → PureValue) → Solves s l g expressions nodes values → visited.Solves (val_of s l expressions nodes) (tree_of g width nodes) values
  of_solves values solves n e q within is =
      let holds = equations_of_solved s l g expressions nodes values ready.complete ready.forest ready.conforms solves in
      record { same = value_same values n q.target ∙ holds.each n e q within is ∙ sym (values_same values n e q) }

  kinds_long : (n : ℕ) → length (kinds_at g nodes n) ≡ size_of g (type_family g nodes n)
  kinds_long n = length_kinds g width nodes (val_of s l expressions nodes) plan ready (attributes_of g (type_family g nodes n))

  module _ (state : State PureValue) (sound : IsSound (val_of s l expressions nodes) (tree_of g width nodes) (steps_at plan nodes) state)
      (done : state.current ≡ length nodes) where
    pub instance_known : (n a : ℕ) → IsInstance g nodes n a → Known (tree_of g width nodes) (steps_at plan nodes) state.position n a
    instance_known n a (within, below) =
        all_known (val_of s l expressions nodes) (tree_of g width nodes) (kinds_at g nodes) (sets_at g plan nodes) (steps_at plan nodes) fit
        (is_full g width nodes (val_of s l expressions nodes) plan ready wide) state sound done n a within (let long = kinds_long n in omega arith)

    pub state_solves : Solves s l g expressions nodes state.values
    state_solves = solves_of state.values
        (solves_at_end (val_of s l expressions nodes) (tree_of g width nodes) (kinds_at g nodes) (sets_at g plan nodes) (steps_at plan nodes) fit state sound done)

    pub state_only : (others : ℕ → ℕ → PureValue) → Solves s l g expressions nodes others → (n a : ℕ) → IsInstance g nodes n a → others n a ≡ state.values n a
    state_only others solves n a instance = sym (sound.agrees others n a (of_solves others solves) (instance_known n a instance))

    pub ticks_are : (start : ℕ) → IsCounted (val_of s l expressions nodes) (tree_of g width nodes) (kinds_at g nodes) (sets_at g plan nodes) (steps_at plan nodes) fit start state.position state.ticks
        → state.ticks ≡ start + instances g nodes
    ticks_are start counted =
        counted_at_end (val_of s l expressions nodes) (tree_of g width nodes) (kinds_at g nodes) (sets_at g plan nodes) (steps_at plan nodes) fit
        (is_full g width nodes (val_of s l expressions nodes) plan ready wide) state sound done start state.ticks counted
        ∙ ap (λ x. start + x) (total_same (λ n. length (kinds_at g nodes n)) (λ n. size_of g (type_family g nodes n)) (length nodes) (λ n lt. kinds_long n) ∙ total_nodes g nodes)

  -- the law: there is one solution
  pub one_solution_of : HasOneSolution s l g expressions nodes
  one_solution_of =
      let within = ready.only.root.within in
      let start : State PureValue = record { current = length nodes - 1; position = λ n. 0; values = λ n a. int (pos 0); ticks = 0 } in
      let begins = begins_sound (val_of s l expressions nodes) (tree_of g width nodes) (kinds_at g nodes) (sets_at g plan nodes) (steps_at plan nodes) fit start (omega arith) (λ n. refl) in
      let (state, sound, done) = visits_end (val_of s l expressions nodes) (tree_of g width nodes) (kinds_at g nodes) (sets_at g plan nodes) (steps_at plan nodes) fit
      (steps_left (val_of s l expressions nodes) (tree_of g width nodes) (kinds_at g nodes) (sets_at g plan nodes) (steps_at plan nodes) fit start) start begins (omega arith) in
      record { values = state.values; solves = state_solves state sound done; only = state_only state sound done }

  -- at the beginning the walk is sound
  pub begins_running : (cells : List Cell) (walk : Walk) (ticks : ℕ) → Begins (length nodes) width walk → IsRunning s l g plan expressions nodes cells walk ticks
  begins_running cells walk ticks begins = record {
    positions = begins.positions;
    nodes_is = begins.nodes;
    wide = subst (IsWide g) (sym begins.width_is) wide;
    sound = subst (λ w. IsSound (val_of s l expressions nodes) (tree_of g w nodes) (steps_at plan nodes) (state_of s l cells walk ticks)) (sym begins.width_is)
        (begins_sound (val_of s l expressions nodes) (tree_of g width nodes) (kinds_at g nodes) (sets_at g plan nodes) (steps_at plan nodes) fit
        (state_of s l cells walk ticks) begins.current begins.none);
    typed = record {
      some = λ n a below. (ty.Int, subst (λ v. IsOf no_sources cells v ty.Int) (sym (begins.zero n a)) (is_int (pos 0)));
      known = λ n a known. absurd (let lt = known.below in let none = begins.none known.by in omega arith);
    };
  }

-- what the loop keeps
pub record IsVisiting (s l : List ℕ) (g : AttributeGrammar) (plan : PurePlan) (nodes : List Node) (expressions : List (List Expression)) (first cells : List Cell) (walk : Walk) (start ticks : ℕ) : Type 0 where
  pub ready : IsReady g plan nodes
  pub running : IsRunning s l g plan expressions nodes cells walk ticks
  pub counted : IsCounted (val_of s l expressions nodes) (tree_of g walk.values.width nodes) (kinds_at g nodes) (sets_at g plan nodes) (steps_at plan nodes)
      (fitting g walk.values.width nodes (val_of s l expressions nodes) plan ready running.wide) start (position_of walk) ticks
  pub kept : Keeps first cells

pub begins_visiting : (s l : List ℕ) (g : AttributeGrammar) (plan : PurePlan) (nodes : List Node) (ready : IsReady g plan nodes) (expressions : List (List Expression))
    (width : ℕ) → IsWide g width → (cells : List Cell) (walk : Walk) (ticks : ℕ) → Begins (length nodes) width walk
    → IsVisiting s l g plan nodes expressions cells cells walk ticks ticks
begins_visiting s l g plan nodes ready expressions width wide cells walk ticks begins =
    let running = begins_running s l g plan nodes ready expressions width wide cells walk ticks begins in
    record {
      ready = ready;
      running = running;
      counted = begins_counted (val_of s l expressions nodes) (tree_of g walk.values.width nodes) (kinds_at g nodes) (sets_at g plan nodes) (steps_at plan nodes)
          (fitting g walk.values.width nodes (val_of s l expressions nodes) plan ready running.wide) ticks (position_of walk) begins.none;
      kept = keeps-none cells;
    }

module _ (s l : List ℕ) (g : AttributeGrammar) (plan : PurePlan) (nodes : List Node) (expressions : List (List Expression)) (first cells : List Cell)
    (walk : Walk) (start ticks : ℕ) (visiting : IsVisiting s l g plan nodes expressions first cells walk start ticks) where
  module _ (cells_new : List Cell) (new : Walk) (ticks_new : ℕ) (runs : walk.current < length nodes)
      (turns : Turns s l g plan expressions nodes cells cells_new walk new ticks ticks_new) where
    turned_width : new.values.width ≡ walk.values.width
    turned_width = turns.width_same

    turned_running : IsRunning s l g plan expressions nodes cells_new new ticks_new
    turned_running =
        let running = visiting.running in
        record {
          positions = turns.positions ∙ running.positions;
          nodes_is = turns.nodes_same ∙ running.nodes_is;
          wide = subst (IsWide g) (sym turns.width_same) running.wide;
          sound = subst (λ w. IsSound (val_of s l expressions nodes) (tree_of g w nodes) (steps_at plan nodes) (state_of s l cells_new new ticks_new)) (sym turns.width_same)
              (one_more_turn (val_of s l expressions nodes) (tree_of g walk.values.width nodes) (kinds_at g nodes) (sets_at g plan nodes) (steps_at plan nodes)
              (fitting g walk.values.width nodes (val_of s l expressions nodes) plan visiting.ready running.wide)
              (state_of s l cells walk ticks) (state_of s l cells_new new ticks_new) running.sound runs turns.turn);
          typed = turns.typed;
        }

    pub keeps_visiting : IsVisiting s l g plan nodes expressions first cells_new new start ticks_new
    keeps_visiting =
        let running = visiting.running in
        let again = turned_running in
        record {
          ready = visiting.ready;
          running = again;
          counted = counted_width walk.values.width new.values.width (sym turns.width_same) running.wide again.wide
              (one_more_counted (val_of s l expressions nodes) (tree_of g walk.values.width nodes) (kinds_at g nodes) (sets_at g plan nodes) (steps_at plan nodes)
              (fitting g walk.values.width nodes (val_of s l expressions nodes) plan visiting.ready running.wide) start
              (state_of s l cells walk ticks) (state_of s l cells_new new ticks_new) running.sound runs turns.turn visiting.counted);
          kept = keeps-both first cells cells_new visiting.kept turns.kept;
        }
      where
        counted_width : (v w : ℕ) → v ≡ w → (one : IsWide g v) (two : IsWide g w)
            → IsCounted (val_of s l expressions nodes) (tree_of g v nodes) (kinds_at g nodes) (sets_at g plan nodes) (steps_at plan nodes)
            (fitting g v nodes (val_of s l expressions nodes) plan visiting.ready one) start (position_of new) ticks_new
            → IsCounted (val_of s l expressions nodes) (tree_of g w nodes) (kinds_at g nodes) (sets_at g plan nodes) (steps_at plan nodes)
            (fitting g w nodes (val_of s l expressions nodes) plan visiting.ready two) start (position_of new) ticks_new
        counted_width v w same one two counted = record {
          marks = counted.marks;
          right = λ n a known. counted.right n a (subst (λ x. Known (tree_of g x nodes) (steps_at plan nodes) (position_of new) n a) (sym same) known);
          only = λ n a m. subst (λ x. Known (tree_of g x nodes) (steps_at plan nodes) (position_of new) n a) same (counted.only n a m);
          is_sum = counted.is_sum;
        }

    pub fewer_steps : total (λ n. length (steps_at plan nodes n) - position_of new n) (length nodes) + 1
        ≡ total (λ n. length (steps_at plan nodes n) - position_of walk n) (length nodes)
    fewer_steps =
        let running = visiting.running in
        fewer_left (val_of s l expressions nodes) (tree_of g walk.values.width nodes) (kinds_at g nodes) (sets_at g plan nodes) (steps_at plan nodes)
        (fitting g walk.values.width nodes (val_of s l expressions nodes) plan visiting.ready running.wide)
        (state_of s l cells walk ticks) (state_of s l cells_new new ticks_new) running.sound runs turns.turn

  module _ (past : length nodes ≤ walk.current) where
    at_end : walk.current ≡ length nodes
    at_end = let running = visiting.running in let sound = running.sound in let inside = sound.inside in omega (arith, past, inside)

    pub values_at_end : AreValues s l g expressions nodes cells walk.values
    values_at_end =
        let running = visiting.running in
        record {
          there = λ n a instance. (
            (let same = running.nodes_is in let lt = instance.0 in omega arith),
            (let wide = running.wide (type_family g nodes n) in let lt = instance.1 in omega arith),
          );
          solves = state_solves s l g plan nodes visiting.ready expressions walk.values.width running.wide (state_of s l cells walk ticks) running.sound at_end;
          typed = λ n a instance. let are = running.typed in are.known n a
              (instance_known s l g plan nodes visiting.ready expressions walk.values.width running.wide (state_of s l cells walk ticks) running.sound at_end n a instance);
        }

    pub ticks_at_end : ticks ≡ start + instances g nodes
    ticks_at_end =
        let running = visiting.running in
        ticks_are s l g plan nodes visiting.ready expressions walk.values.width running.wide (state_of s l cells walk ticks) running.sound at_end start visiting.counted
