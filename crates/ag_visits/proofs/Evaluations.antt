-- An equation of a node is evaluated: its variables are there and have their types, and the turn is one of the visits.
use Rattle.std.proofs.Common.{◌≡◌, ℕ, suc, ◌+◌, ◌<◌, ◌⊎◌, inl, inr, List, [], ◌∷◌, ◌++◌, length, map, Option, Some, None, refl, sym, ◌∙◌, subst, ap, arith}
use Rattle.std.specs.Prelude.{slice_get, Contains}
use Rattle.std.proofs.lemmas.List.{map-append}
use Rattle.std.proofs.lemmas.Bool.{cases_eq}
use Rattle.value_store.specs.Cells.{Cell}
use Rattle.value_store.specs.declared.value.ValType.{ValType}
use Rattle.value_store.specs.declared.value.Value.{Value}
use Rattle.ast_types.specs.Items.{field_types}
use Rattle.ast_types.specs.TypeTable.{type_at}
use Rattle.tree_store.specs.Conforms.{Fits, IsOfKind}
use Rattle.tree_store.specs.Conforms as conforms
use Rattle.tree_store.specs.Forest.{Node, node_at}
use Rattle.expr_lang.specs.Expression.{Expression}
use Rattle.expr_lang.specs.Evaluated.{Ready, Evaluated}
use Rattle.expr_lang.specs.OfType.{IsOf, AreOf, no_values, and_value, is_int, is_bool, is_text, Holds}
use Rattle.expr_lang.specs.PureOf.{pure_of, pure_field}
use Rattle.expr_lang.specs.PureValues.{PureValue}
use Rattle.expr_lang.specs.ValueOf.{no_tokens, value_of}
use Rattle.expr_lang.proofs.Evaluates.{is-kept, pure_of-kept}
use Rattle.ag_model.specs.Attribution.{AttributeGrammar, PureEquation, IsEquation, attributes_at, attributes_of, children_of}
use Rattle.ag_model.specs.Complete.{IsPlace}
use Rattle.ag_model.specs.Typed.{IsTyped, equation_context, place_type, type_in}
use Rattle.ag_model.specs.Plans.{PurePlan}
use Rattle.ag_model.specs.Solution.{expression_at, node_of, attribute_of}
use Rattle.ag_model.specs.ValueTable.{ValueTable, value_in, SetsValue}
use Rattle.ag_model.specs.declared.attribution.Place.{Place}
use Rattle.ag_model.specs.declared.attribution.Place.TheVariants.{Own, Child}
use Rattle.ag_model.specs.declared.plan.PlanStep.TheVariants.{Evaluate}
use Rattle.ag_visits.specs.within.VisitedTree as visited
use Rattle.ag_visits.specs.within.Visits.{State, Known, IsSound, Moves, Puts, Turn, Fitting}
use Rattle.ag_visits.specs.within.Visits as turn
use Rattle.ag_visits.specs.Promise.{no_sources, attribute_type, pure_values}
use Rattle.ag_visits.specs.within.OfTree.{tree_of, val_of, kinds_at, sets_at, steps_at, IsReady, IsWide, AreTyped, env_of}
use Rattle.ag_visits.proofs.Fits.{fitting, child_family}
use Rattle.ag_visits.proofs.KnownAtHand.{at_hand_known, known_below}
use Rattle.ag_visits.proofs.OneMoreTurn.{loud_known}

map_map : {A B C : Type 0} (f : B → C) (h : A → B) (k : A → C) (xs : List A) → ((x : A) → f (h x) ≡ k x) → map f (map h xs) ≡ map k xs
map_map f h k [] same = refl
map_map f h k (x ∷ xs) same = let first = same x in let more = map_map f h k xs same in cc

-- fields are of their types, and mean what fields mean
field_is : (cells : List Cell) (v : Value) (t : ValType) → IsOfKind v t → IsOf no_sources cells v t
field_is cells _ _ (conforms.is_int z) = is_int z
field_is cells _ _ (conforms.is_bool b) = is_bool b
field_is cells _ _ (conforms.is_text t) = is_text t

field_means : (s l : List ℕ) (cells : List Cell) (v : Value) (t : ValType) → IsOfKind v t → pure_of s l cells v ≡ pure_field s l v
field_means s l cells _ _ (conforms.is_int z) = refl
field_means s l cells _ _ (conforms.is_bool b) = refl
field_means s l cells _ _ (conforms.is_text t) = refl

fields_are : (cells : List Cell) (vs : List Value) (ts : List ValType) → length vs ≡ length ts
    → ((k : ℕ) (v : Value) (t : ValType) → slice_get vs k ≡ Some v → slice_get ts k ≡ Some t → IsOfKind v t) → AreOf no_sources cells vs ts
fields_are cells [] [] same each = no_values
fields_are cells [] (t ∷ ts) same each = absurd (omega (arith, same))
fields_are cells (v ∷ vs) [] same each = absurd (omega (arith, same))
fields_are cells (v ∷ vs) (t ∷ ts) same each =
    and_value v vs t ts (field_is cells v t (each 0 v t refl refl)) (fields_are cells vs ts (omega (arith, same)) (λ k w u is also. each (suc k) w u is also))

fields_mean : (s l : List ℕ) (cells : List Cell) (vs : List Value) (ts : List ValType) → length vs ≡ length ts
    → ((k : ℕ) (v : Value) (t : ValType) → slice_get vs k ≡ Some v → slice_get ts k ≡ Some t → IsOfKind v t)
    → map (pure_of s l cells) vs ≡ map (pure_field s l) vs
fields_mean s l cells [] ts same each = refl
fields_mean s l cells (v ∷ vs) [] same each = absurd (omega (arith, same))
fields_mean s l cells (v ∷ vs) (t ∷ ts) same each =
    let first = field_means s l cells v t (each 0 v t refl refl) in
    let more = fields_mean s l cells vs ts (omega (arith, same)) (λ k w u is also. each (suc k) w u is also) in
    cc

are_both : (cells : List Cell) (vs ws : List Value) (ts us : List ValType) → AreOf no_sources cells vs ts → AreOf no_sources cells ws us
    → AreOf no_sources cells (vs ++ ws) (ts ++ us)
are_both cells _ ws _ us no_values more = more
are_both cells _ ws _ us (and_value v vs t ts is are) more = and_value v (vs ++ ws) t (ts ++ us) is (are_both cells vs ws ts us are more)

uses_are : (cells : List Cell) (f : Place → Value) (h : Place → ValType) (us : List Place) → ((u : Place) → Contains us u → IsOf no_sources cells (f u) (h u))
    → AreOf no_sources cells (map f us) (map h us)
uses_are cells f h [] each = no_values
uses_are cells f h (u ∷ us) each =
    and_value (f u) (map f us) (h u) (map h us) (each u (0, omega arith, refl))
    (uses_are cells f h us (λ w has. each w (suc has.0, (let lt = has.1 in omega arith), has.2)))

module _ (s l : List ℕ) (g : AttributeGrammar) (width : ℕ) (nodes : List Node) (plan : PurePlan) (ready : IsReady g plan nodes) (wide : IsWide g width)
    (expressions : List (List Expression)) (typed : IsTyped g expressions) where
  -- a place's node in both forms
  pub node_same : (n : ℕ) (u : Place) → visited.node_at (tree_of g width nodes) n u ≡ node_of nodes n u
  node_same n (Own a) = refl
  node_same n (Child c a) = refl

  -- a place's type is that of the attribute there
  pub place_same : (n : ℕ) (u : Place) → n < length nodes → IsPlace g (node_at nodes n).ty u
      → place_type g (node_at nodes n).ty u ≡ attribute_type g nodes (node_of nodes n u) (attribute_of u)
  place_same n (Own a) within there = refl
  place_same n (Child c a) within (attribute, there) = go (slice_get (children_of g (node_at nodes n).ty) c) refl
    where
      go : (o : Option ℕ) → slice_get (children_of g (node_at nodes n).ty) c ≡ o
          → place_type g (node_at nodes n).ty (Child c a) ≡ attribute_type g nodes (node_of nodes n (Child c a)) a
      go None none = let x : None ≡ Some attribute = subst (λ o. slice_get (attributes_at g o) a ≡ Some attribute) none there in absurd (cc)
      go (Some x) some =
          let (inside, family) = child_family g width nodes (val_of s l expressions nodes) plan ready n c x within some in
          ap (λ o. type_in (slice_get (attributes_at g o) a)) some ∙ ap (λ f. type_in (slice_get (attributes_of g f) a)) (sym family)

  module _ (old : State PureValue) (cells : List Cell) (table : ValueTable) (width_is : table.width ≡ width)
      (sound : IsSound (val_of s l expressions nodes) (tree_of g width nodes) (steps_at plan nodes) old)
      (runs : old.current < length nodes) (are : AreTyped g plan nodes cells table old.position)
      (values_are : old.values ≡ pure_values s l cells table)
      (e : ℕ) (q : PureEquation)
      (at : slice_get (steps_at plan nodes old.current) (old.position old.current) ≡ Some (Evaluate e))
      (there : IsEquation g (node_at nodes old.current).ty e q) where
    use_known : (u : Place) → Contains q.uses u → Known (tree_of g width nodes) (steps_at plan nodes) old.position (node_of nodes old.current u) (attribute_of u)
    use_known u has =
        let fit = fitting g width nodes (val_of s l expressions nodes) plan ready wide in
        let types = fit.types old.current runs in
        subst (λ k. Known (tree_of g width nodes) (steps_at plan nodes) old.position k (attribute_of u)) (node_same old.current u)
        (at_hand_known (val_of s l expressions nodes) (tree_of g width nodes) (kinds_at g nodes) (sets_at g plan nodes) (steps_at plan nodes) fit old sound runs u
        (types.after (old.position old.current) e q u at there has))

    use_is : (u : Place) → Contains q.uses u → IsOf no_sources cells (value_in table (node_of nodes old.current u) (attribute_of u)) (place_type g (node_at nodes old.current).ty u)
    use_is u has =
        let known = subst (λ w. Known (tree_of g w nodes) (steps_at plan nodes) old.position (node_of nodes old.current u) (attribute_of u)) (sym width_is) (use_known u has) in
        subst (IsOf no_sources cells (value_in table (node_of nodes old.current u) (attribute_of u)))
        (sym (place_same old.current u runs (ready.complete.uses (node_at nodes old.current).ty e q u there has)))
        (are.known (node_of nodes old.current u) (attribute_of u) known)

    pub env_is : AreOf no_sources cells (env_of nodes table old.current q.uses) (equation_context g (node_at nodes old.current).ty q).vars
    env_is =
        let fits = ready.conforms old.current runs in
        are_both cells (map (λ u. value_in table (node_of nodes old.current u) (attribute_of u)) q.uses) (node_at nodes old.current).fields
        (map (place_type g (node_at nodes old.current).ty) q.uses) (field_types (type_at g.table.types (node_at nodes old.current).ty).items)
        (uses_are cells (λ u. value_in table (node_of nodes old.current u) (attribute_of u)) (place_type g (node_at nodes old.current).ty) q.uses use_is)
        (fields_are cells (node_at nodes old.current).fields (field_types (type_at g.table.types (node_at nodes old.current).ty).items) fits.as_many_fields fits.of_kinds)

    pub is_held : Holds cells (env_of nodes table old.current q.uses) (equation_context g (node_at nodes old.current).ty q)
    is_held = record { are = env_is; makers = λ n m is. absurd (cc) }

    pub is_ready : Ready cells (env_of nodes table old.current q.uses) (expression_at expressions (node_at nodes old.current).ty e)
    is_ready = record {
      vars = equation_context g (node_at nodes old.current).ty q;
      of = place_type g (node_at nodes old.current).ty q.target;
      typed = typed.each (node_at nodes old.current).ty e q there;
      are = is_held;
    }

    env_means : map (pure_of s l cells) (env_of nodes table old.current q.uses)
        ≡ map (visited.value_at (tree_of g width nodes) old.values old.current) q.uses ++ map (pure_field s l) (node_at nodes old.current).fields
    env_means =
        let fits = ready.conforms old.current runs in
        map-append (pure_of s l cells) (map (λ u. value_in table (node_of nodes old.current u) (attribute_of u)) q.uses) (node_at nodes old.current).fields
        ∙ ap (λ xs. xs ++ map (pure_of s l cells) (node_at nodes old.current).fields)
        (map_map (pure_of s l cells) (λ u. value_in table (node_of nodes old.current u) (attribute_of u)) (visited.value_at (tree_of g width nodes) old.values old.current) q.uses use_means)
        ∙ ap (λ xs. map (visited.value_at (tree_of g width nodes) old.values old.current) q.uses ++ xs)
        (fields_mean s l cells (node_at nodes old.current).fields (field_types (type_at g.table.types (node_at nodes old.current).ty).items) fits.as_many_fields fits.of_kinds)
      where
        use_means : (u : Place) → pure_of s l cells (value_in table (node_of nodes old.current u) (attribute_of u)) ≡ visited.value_at (tree_of g width nodes) old.values old.current u
        use_means u = sym (ap (λ f. f (visited.node_at (tree_of g width nodes) old.current u) (attribute_of u)) values_are
            ∙ ap (λ k. pure_values s l cells table k (attribute_of u)) (node_same old.current u))

    module _ (new : State PureValue) (cells_new : List Cell) (table_new : ValueTable) (v : Value)
        (gives : Evaluated no_tokens s l cells cells_new (env_of nodes table old.current q.uses) (expression_at expressions (node_at nodes old.current).ty e) v)
        (sets : SetsValue table table_new (node_of nodes old.current q.target) (attribute_of q.target) v)
        (stays : new.current ≡ old.current) (moves : Moves old.position new.position old.current) (one : new.ticks ≡ old.ticks + 1)
        (new_are : new.values ≡ pure_values s l cells_new table_new) where
      target_node : visited.node_at (tree_of g width nodes) old.current q.target ≡ node_of nodes old.current q.target
      target_node = node_same old.current q.target

      puts : Puts width old.values new.values (visited.node_at (tree_of g width nodes) old.current q.target) (attribute_of q.target)
          (val_of s l expressions nodes old.current e (map (visited.value_at (tree_of g width nodes) old.values old.current) q.uses))
      puts = record {
        here = ap (λ f. f (visited.node_at (tree_of g width nodes) old.current q.target) (attribute_of q.target)) new_are
            ∙ ap (λ k. pure_values s l cells_new table_new k (attribute_of q.target)) target_node
            ∙ ap (pure_of s l cells_new) sets.here ∙ gives.is
            ∙ ap (λ env. value_of no_tokens env (expression_at expressions (node_at nodes old.current).ty e)) env_means;
        others = λ k b below other.
            let (t, is) = are.some k b (let w = width_is in omega arith) in
            ap (λ f. f k b) new_are
            ∙ ap (pure_of s l cells_new) (sets.others k b (let w = width_is in omega arith) (λ same. other (same.0 ∙ sym target_node, same.1)))
            ∙ pure_of-kept s l (value_in table k b) t gives.kept is
            ∙ sym (ap (λ f. f k b) values_are);
      }

      pub is_turn : Turn (val_of s l expressions nodes) (tree_of g width nodes) (steps_at plan nodes) old new
      is_turn = turn.evaluated e q at there stays moves puts one

      -- the value is of the attribute's type
      value_is : IsOf no_sources cells_new v (attribute_type g nodes (node_of nodes old.current q.target) (attribute_of q.target))
      value_is =
          let (attribute, place, kind) = ready.complete.target (node_at nodes old.current).ty e q there in
          subst (IsOf no_sources cells_new v) (place_same old.current q.target runs (attribute, place))
          (gives.typed (equation_context g (node_at nodes old.current).ty q) (place_type g (node_at nodes old.current).ty q.target)
          (typed.each (node_at nodes old.current).ty e q there) is_held)

      -- the place is that of the target, or its value stays
      place_cases : (n a : ℕ) → a < table.width
          → ((n ≡ node_of nodes old.current q.target) × (a ≡ attribute_of q.target)) ⊎ (value_in table_new n a ≡ value_in table n a)
      place_cases n a below = elim (cases_eq n (node_of nodes old.current q.target)) [
        | inl same ↦ elim (cases_eq a (attribute_of q.target)) [
          | inl also ↦ inl (same, also)
          | inr other ↦ inr (sets.others n a below (λ both. other both.1))
        ]
        | inr other ↦ inr (sets.others n a below (λ both. other both.0))
      ]

      target_is : (n a : ℕ) → n ≡ node_of nodes old.current q.target → a ≡ attribute_of q.target
          → IsOf no_sources cells_new (value_in table_new n a) (attribute_type g nodes n a)
      target_is n a same also =
          subst (λ k. IsOf no_sources cells_new (value_in table_new k a) (attribute_type g nodes k a)) (sym same)
          (subst (λ b. IsOf no_sources cells_new (value_in table_new (node_of nodes old.current q.target) b) (attribute_type g nodes (node_of nodes old.current q.target) b)) (sym also)
          (subst (λ x. IsOf no_sources cells_new x (attribute_type g nodes (node_of nodes old.current q.target) (attribute_of q.target))) (sym sets.here) value_is))

      pub stay_typed : AreTyped g plan nodes cells_new table_new new.position
      stay_typed = record {
        some = λ n a below. elim (place_cases n a (subst (λ w. a < w) sets.width below)) [
          | inl both ↦ (attribute_type g nodes n a, target_is n a both.0 both.1)
          | inr keeps ↦
              let (t, is) = are.some n a (subst (λ w. a < w) sets.width below) in
              (t, subst (λ x. IsOf no_sources cells_new x t) (sym keeps) (is-kept (value_in table n a) t gives.kept is))
        ];
        known = λ n a known. new_known n a (subst (λ w. Known (tree_of g w nodes) (steps_at plan nodes) new.position n a) (sets.width ∙ width_is) known);
      }
        where
          fit : Fitting (tree_of g width nodes) (kinds_at g nodes) (sets_at g plan nodes) (steps_at plan nodes)
          fit = fitting g width nodes (val_of s l expressions nodes) plan ready wide

          new_known : (n a : ℕ) → Known (tree_of g width nodes) (steps_at plan nodes) new.position n a
              → IsOf no_sources cells_new (value_in table_new n a) (attribute_type g nodes n a)
          new_known n a known =
              let below = known_below (val_of s l expressions nodes) (tree_of g width nodes) (kinds_at g nodes) (sets_at g plan nodes) (steps_at plan nodes) fit new.position n a known in
              elim (place_cases n a (subst (λ w. a < w) (sym width_is) below)) [
                | inl both ↦ target_is n a both.0 both.1
                | inr keeps ↦ elim (loud_known (val_of s l expressions nodes) (tree_of g width nodes) (kinds_at g nodes) (sets_at g plan nodes) (steps_at plan nodes)
                    fit old new sound runs moves (Evaluate e) at e q refl there puts n a known) [
                      | inl before ↦ subst (λ x. IsOf no_sources cells_new x (attribute_type g nodes n a)) (sym keeps)
                          (is-kept (value_in table n a) (attribute_type g nodes n a) gives.kept
                          (are.known n a (subst (λ w. Known (tree_of g w nodes) (steps_at plan nodes) old.position n a) (sym width_is) before)))
                      | inr latest ↦ target_is n a (latest.0 ∙ target_node) latest.1
                    ]
              ]
