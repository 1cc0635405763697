-- What an item of a core demands of the graph, and where it stands.
use Rattle.std.proofs.Common.{◌≡◌, ℕ, zero, suc, ◌+◌, ◌<◌, ◌≤◌, ◌⊎◌, inl, inr, List, [], ◌∷◌, length, sym, ap, subst, subst₂, ◌∙◌, arith, Contains, drop, slice_get, Some, None, get_or}
use Rattle.std.proofs.lemmas.Option.{slice_get_within, get_or_from_slice_get}
use Rattle.cfg_model.specs.declared.symbol.Sym.{Sym}
use Rattle.cfg_model.specs.declared.symbol.Sym.TheVariants.{T, N}
use Rattle.cfg_model.specs.Cfg.{Cfg, IsRule, IsGrammar, IsSymbol}
use Rattle.cfg_model.specs.Derivation.{Forest, Derive, rule}
use Rattle.cfg_model.specs.Items.{Item, right_of}
use Rattle.cfg_model.specs.Sets.{First, Nullable, AllProductive}
use Rattle.cfg_model.specs.Valid.{Valid, InCore, HasCore}
use Rattle.cfg_model.specs.Cores.{CoreList, items_at, moves_at, IsCore, IsCores}
use Rattle.cfg_model.proofs.Forests.{gives_of_steps}
use Rattle.cfg_model.proofs.ItemsOfCores.{item_of, item_in}
use Rattle.lalr_look.specs.declared.graph.Graph.{Graph}
use Rattle.lalr_look.specs.within.Kernel.{AreShort, code}
use Rattle.lalr_look.specs.within.Rests.{rest_of}
use Rattle.lalr_look.specs.within.LookGraph.{slot_of, Behind, OwnBy, LeadsBy, AreNodes, IsNode}
use Rattle.lalr_look.specs.within.Graph.{Grows}
use Rattle.lalr_look.proofs.Items.{item_behind, get_drop, right_ok, all_at}
use Rattle.lalr_look.proofs.Grown.{item_dot, right_short}
use Rattle.lalr_look.proofs.Slots.{slot_rule}
use Rattle.lalr_look.proofs.Looking.{row_low}
use Rattle.lalr_look.proofs.Growth.{grows_none, grows_then, grows_same}

one_more : (d : ℕ) → suc d ≡ d + 1
one_more d = omega arith

-- a nonterminal that derives a word has a rule
some_rule : (g : Cfg) → AllProductive g → (m : ℕ) → m < g.nonterminals → (s : ℕ) × (z : List Sym) × IsRule g s m z
some_rule g all m low =
    let (w, steps) = all m low in
    let tree = gives_of_steps g (N m ∷ []) w steps in
    go tree.forest tree.derive
  where
    go : (f : Forest ℕ) → Derive (λ t. t) g (N m ∷ []) f → (s : ℕ) × (z : List Sym) × IsRule g s m z
    go _ (rule s _ z _ _ _ is _ _) = (s, z, is)

module _ (g : Cfg) (ok : IsGrammar g) (short : AreShort g) (all : AllProductive g) (cores : CoreList) (c : IsCores g cores)
    (n r d : ℕ) (has : Contains (items_at cores n) (r, d)) where
  -- the item stands in the core of a prefix
  stands : (p : List Sym) × IsCore g cores n p × ((y : List Sym) × Item g p r d y)
  stands =
      let (p, some, is) = c.each n (row_low cores.items n (r, d) has) in
      let (y, (a, v)) = (is.items r d).0 has in
      (p, is, (y, item_of g p r d y a v))

  pub rule_fits : r ≤ length g.rules
  rule_fits = let (p, is, (y, i)) = stands in (item_dot g p r d y ok i).1

  pub dot_fits : d ≤ 1048576
  dot_fits =
      let (p, is, (y, i)) = stands in
      let low = (item_dot g p r d y ok i).0 in
      let few = right_short g short r in
      omega (arith, low, few)

  module _ (x : Sym) (at : slice_get (right_of g r) d ≡ Some x) where
    pub symbol_fits : IsSymbol g x
    symbol_fits = all_at (IsSymbol g) (right_of g r) d x (right_ok g ok r) at

    pub next_fits : d + 1 ≤ 1048576
    next_fits =
        let low = slice_get_within (right_of g r) d x at in
        let few = right_short g short r in
        omega (arith, low, few)

    pub behind_is_rest : Behind g r d (x ∷ drop (suc d) (right_of g r))
    behind_is_rest = get_drop d (right_of g r) x at

    pub behind_one : (z : Sym) (y : List Sym) → Behind g r d (z ∷ y) → (z ≡ x) × (y ≡ drop (suc d) (right_of g r))
    behind_one z y behind =
        let same : z ∷ y ≡ x ∷ drop (suc d) (right_of g r) = sym behind ∙ behind_is_rest in
        (head_is z x y (drop (suc d) (right_of g r)) same, tail_is z x y (drop (suc d) (right_of g r)) same)
      where
        head_is : (a b : Sym) (u v : List Sym) → a ∷ u ≡ b ∷ v → a ≡ b
        head_is a b u v e = cc

        tail_is : (a b : Sym) (u v : List Sym) → a ∷ u ≡ b ∷ v → u ≡ v
        tail_is a b u v e = cc

    -- the item with the symbol behind its dot stands in the core
    next_item : (p : List Sym) → IsCore g cores n p → InCore g p r d (x ∷ drop (suc d) (right_of g r))
    next_item p is =
        let (y, (a, v)) = (is.items r d).0 has in
        (a, subst (λ l. Valid g p r d l a) (sym (item_behind g p r d y (item_of g p r d y a v)) ∙ behind_is_rest) v)

    -- the move over the symbol, and the item there
    pub moves_there : (o : ℕ) × Contains (moves_at cores n) (x, o) × Contains (items_at cores o) (r, suc d)
    moves_there =
        let (p, is, item) = stands in
        let (a, v) = next_item p is in
        let moved = Valid.move p r d x (drop (suc d) (right_of g r)) a v in
        let some : HasCore g (x ∷ p) = (r, suc d, drop (suc d) (right_of g r), (a, moved)) in
        let (o, there) = c.all (x ∷ p) some in
        (o, (c.moves p n x o is).1 (some, there), (there.items r (suc d)).1 (drop (suc d) (right_of g r), (a, moved)))

    -- a symbol has one move
    pub one_target : (o m : ℕ) → Contains (moves_at cores n) (x, o) → Contains (moves_at cores n) (x, m) → o ≡ m
    one_target o m a b =
        let (p, is, item) = stands in
        c.once (x ∷ p) o m (((c.moves p n x o is).0 a).1) (((c.moves p n x m is).0 b).1)

    -- rules of what is called stand in the core
    pub called_there : (m : ℕ) → x ≡ N m → (s : ℕ) × (z : List Sym) × IsRule g s m z × Contains (items_at cores n) (s, 0)
    called_there m e =
        let (s, z, is_rule) = some_rule g all m (subst (λ k. IsSymbol g k) e symbol_fits) in
        let (p, is, item) = stands in
        let (a, v) = next_item p is in
        let before : Item g p r d (N m ∷ drop (suc d) (right_of g r)) = item_of g p r d _ a (subst (λ k. Valid g p r d (k ∷ drop (suc d) (right_of g r)) a) e v) in
        (s, z, is_rule, (is.items s 0).1 (z, item_in g ok all p s 0 z (Item.closure p r d m _ s z before is_rule)))

    module _ (nodes : List (ℕ × ℕ)) (whole : AreNodes g cores nodes) where
      pub next_there : (o : ℕ) → Contains (moves_at cores n) (x, o) → Contains nodes (o, slot_of g r (d + 1))
      next_there o moves =
          let (m, there, item) = moves_there in
          subst₂ (λ a b. Contains nodes (a, slot_of g r b)) (one_target m o there moves) (one_more d) (whole m r (suc d) item)

      pub called_node : (m : ℕ) → x ≡ N m → Contains nodes (n, m + 1)
      called_node m e =
          let (s, z, is_rule, item) = called_there m e in
          subst (λ k. Contains nodes (n, k)) (slot_rule g s m z is_rule ∙ one_more m) (whole n s 0 item)

      -- the edge from the item to the moved one is what is demanded of its move
      pub moves_by : (o from next : ℕ) → Contains (moves_at cores n) (x, o) → IsNode nodes (n, slot_of g r d) from
          → IsNode nodes (o, slot_of g r (d + 1)) next → (k j : ℕ) → (k ≡ from) × (j ≡ next) → LeadsBy g cores nodes n r d k j
      moves_by o from next moves a b k j (e, f) =
          subst₂ (λ u v. LeadsBy g cores nodes n r d u v) (sym e) (sym f)
          (LeadsBy.move from next o x (drop (suc d) (right_of g r)) a.there
          (subst (λ i. slice_get nodes next ≡ Some (o, slot_of g r i)) (sym (one_more d)) b.there) behind_is_rest moves)

      pub moves_only : (o from next : ℕ) → Contains (moves_at cores n) (x, o) → IsNode nodes (n, slot_of g r d) from
          → IsNode nodes (o, slot_of g r (d + 1)) next → (k j m : ℕ) (z : Sym) (y : List Sym) → slice_get nodes k ≡ Some (n, slot_of g r d)
          → slice_get nodes j ≡ Some (m, code r (suc d)) → Behind g r d (z ∷ y) → Contains (moves_at cores n) (z, m) → (k ≡ from) × (j ≡ next)
      moves_only o from next moves a b k j m z y at_k at_j behind found =
          let (same, tail) = behind_one z y behind in
          let target = one_target m o (subst (λ s. Contains (moves_at cores n) (s, m)) same found) moves in
          (a.one k at_k, b.one j (subst₂ (λ u v. slice_get nodes j ≡ Some (u, slot_of g r v)) target (one_more d) at_j))

      -- an item before a terminal
      pub before_token : (t o from next : ℕ) → x ≡ T t → Contains (moves_at cores n) (x, o) → IsNode nodes (n, slot_of g r d) from
          → IsNode nodes (o, slot_of g r (d + 1)) next → (a b : Graph) → Grows a b (λ k j. (k ≡ from) × (j ≡ next)) (λ _ _. ⊥)
          → Grows a b (LeadsBy g cores nodes n r d) (OwnBy g nodes n r d)
      before_token t o from next e moves f h a b grows =
          grows_same a b (λ k j. (k ≡ from) × (j ≡ next)) (λ _ _. ⊥) (LeadsBy g cores nodes n r d) (OwnBy g nodes n r d) grows
          (λ k j. (moves_by o from next moves f h k j, only k j)) (λ k z. (λ h. absurd h, none k z))
        where
          no_call : (m : ℕ) (y : List Sym) → Behind g r d (N m ∷ y) → ⊥
          no_call m y behind = (let (same, tail) = behind_one (N m) y behind in let both : N m ≡ T t = same ∙ e in cc)

          only : (k j : ℕ) → LeadsBy g cores nodes n r d k j → (k ≡ from) × (j ≡ next)
          only k j (LeadsBy.closure _ _ m y at_k at_j behind null) = absurd (no_call m y behind)
          only k j (LeadsBy.move _ _ m z y at_k at_j behind found) = moves_only o from next moves f h k j m z y at_k at_j behind found

          none : (k z : ℕ) → OwnBy g nodes n r d k z → ⊥
          none k z (OwnBy.called _ m _ y at_k behind first) = no_call m y behind

      -- an item before a nonterminal
      pub before_called : (m o from next to : ℕ) → x ≡ N m → Contains (moves_at cores n) (x, o) → IsNode nodes (n, slot_of g r d) from
          → IsNode nodes (o, slot_of g r (d + 1)) next → IsNode nodes (n, m + 1) to → (a b e : Graph) → Grows a b (λ k j. (k ≡ from) × (j ≡ next)) (λ _ _. ⊥)
          → Grows b e (λ k j. (k ≡ from) × (j ≡ to) × Nullable g (rest_of g r (d + 1))) (λ k z. (k ≡ to) × First g (rest_of g r (d + 1)) z)
          → Grows a e (LeadsBy g cores nodes n r d) (OwnBy g nodes n r d)
      before_called m o from next to e moves f h i a b last grows more =
          grows_same a last (λ k j. ((k ≡ from) × (j ≡ next)) ⊎ ((k ≡ from) × (j ≡ to) × Nullable g (rest_of g r (d + 1))))
          (λ k z. ⊥ ⊎ ((k ≡ to) × First g (rest_of g r (d + 1)) z)) (LeadsBy g cores nodes n r d) (OwnBy g nodes n r d)
          (grows_then a b last _ _ _ _ grows more) (λ k j. (leads k j, leads_only k j)) (λ k z. (owns k z, owns_only k z))
        where
          calls : Behind g r d (N m ∷ rest_of g r (d + 1))
          calls = subst₂ (λ u v. Behind g r d (u ∷ drop v (right_of g r))) e (one_more d) behind_is_rest

          to_there : slice_get nodes to ≡ Some (n, suc m)
          to_there = subst (λ k. slice_get nodes to ≡ Some (n, k)) (sym (one_more m)) i.there

          same_call : (l : ℕ) (y : List Sym) → Behind g r d (N l ∷ y) → (l ≡ m) × (y ≡ rest_of g r (d + 1))
          same_call l y behind =
              (let (same, tail) = behind_one (N l) y behind in let both : N l ≡ N m = same ∙ e in
              (cc, tail ∙ ap (λ v. drop v (right_of g r)) (one_more d)))

          leads : (k j : ℕ) → ((k ≡ from) × (j ≡ next)) ⊎ ((k ≡ from) × (j ≡ to) × Nullable g (rest_of g r (d + 1))) → LeadsBy g cores nodes n r d k j
          leads k j (inl h2) = moves_by o from next moves f h k j h2
          leads k j (inr (ek, ej, null)) =
              subst₂ (λ u v. LeadsBy g cores nodes n r d u v) (sym ek) (sym ej) (LeadsBy.closure from to m (rest_of g r (d + 1)) f.there to_there calls null)

          leads_only : (k j : ℕ) → LeadsBy g cores nodes n r d k j → ((k ≡ from) × (j ≡ next)) ⊎ ((k ≡ from) × (j ≡ to) × Nullable g (rest_of g r (d + 1)))
          leads_only k j (LeadsBy.closure _ _ l y at_k at_j behind null) =
              let (same, tail) = same_call l y behind in
              inr (f.one k at_k, i.one j (subst (λ v. slice_get nodes j ≡ Some (n, v)) (ap suc same ∙ one_more m) at_j), subst (λ v. Nullable g v) tail null)
          leads_only k j (LeadsBy.move _ _ l z y at_k at_j behind found) = inl (moves_only o from next moves f h k j l z y at_k at_j behind found)

          owns : (k z : ℕ) → ⊥ ⊎ ((k ≡ to) × First g (rest_of g r (d + 1)) z) → OwnBy g nodes n r d k z
          owns k z (inl h2) = absurd h2
          owns k z (inr (ek, first)) = subst (λ u. OwnBy g nodes n r d u z) (sym ek) (OwnBy.called to m z (rest_of g r (d + 1)) to_there calls first)

          owns_only : (k z : ℕ) → OwnBy g nodes n r d k z → ⊥ ⊎ ((k ≡ to) × First g (rest_of g r (d + 1)) z)
          owns_only k z (OwnBy.called _ l _ y at_k behind first) =
              let (same, tail) = same_call l y behind in
              inr (i.one k (subst (λ v. slice_get nodes k ≡ Some (n, v)) (ap suc same ∙ one_more m) at_k), subst (λ v. First g v z) tail first)

-- an item with its dot at the end demands nothing
pub at_the_end : (g : Cfg) (cores : CoreList) (nodes : List (ℕ × ℕ)) (n r d : ℕ) → slice_get (right_of g r) d ≡ None → (a : Graph)
    → Grows a a (LeadsBy g cores nodes n r d) (OwnBy g nodes n r d)
at_the_end g cores nodes n r d end a =
    grows_same a a (λ _ _. ⊥) (λ _ _. ⊥) (LeadsBy g cores nodes n r d) (OwnBy g nodes n r d) (grows_none a)
    (λ k j. (λ h. absurd h, leads k j)) (λ k z. (λ h. absurd h, owns k z))
  where
    nothing_there : (d : ℕ) (w : List Sym) (z : Sym) (y : List Sym) → slice_get w d ≡ None → drop d w ≡ z ∷ y → ⊥
    nothing_there zero [] z y e f = cc
    nothing_there zero (x ∷ w) z y e f = cc
    nothing_there (suc d) [] z y e f = cc
    nothing_there (suc d) (x ∷ w) z y e f = nothing_there d w z y e f

    leads : (k j : ℕ) → LeadsBy g cores nodes n r d k j → ⊥
    leads k j (LeadsBy.closure _ _ m y at_k at_j behind null) = nothing_there d (right_of g r) (N m) y end behind
    leads k j (LeadsBy.move _ _ m z y at_k at_j behind found) = nothing_there d (right_of g r) z y end behind

    owns : (k z : ℕ) → OwnBy g nodes n r d k z → ⊥
    owns k z (OwnBy.called _ m _ y at_k behind first) = nothing_there d (right_of g r) (N m) y end behind

-- a node that was found, by what it is found by
pub node_is : (nodes : List (ℕ × ℕ)) (a b : ℕ × ℕ) (k : ℕ) → a ≡ b → slice_get nodes k ≡ Some a
    → ((j : ℕ) → slice_get nodes j ≡ Some a → j ≡ k) → IsNode nodes b k
node_is nodes a b k e there one =
    record { there = subst (λ x. slice_get nodes k ≡ Some x) e there; one = λ j at. one j (subst (λ x. slice_get nodes j ≡ Some x) (sym e) at) }

pub target_at : (targets : List ℕ) (place i o : ℕ) → i ≡ place → slice_get targets place ≡ Some o → get_or targets i 0 ≡ o
target_at targets place i o e at = ap (λ j. get_or targets j 0) e ∙ get_or_from_slice_get targets place o 0 at
