-- What flows along the graph is what spreads over the cores.
use Rattle.std.proofs.Common.{◌≡◌, ℕ, zero, suc, ◌<◌, ◌↔◌, ◌⊎◌, inl, inr, List, [], ◌∷◌, length, refl, sym, ap, subst, subst₂, ◌∙◌, arith, Contains, slice_get, Option, Some, slice_index_or}
use Rattle.std.proofs.lemmas.Option.{slice_get-get_or}
use Rattle.std.proofs.lemmas.List.Elements.{All-head}
use Rattle.ck_base.specs.BitSet.{BitSet, Has}
use Rattle.cfg_model.specs.declared.symbol.Sym.{Sym}
use Rattle.cfg_model.specs.declared.symbol.Sym.TheVariants.{N}
use Rattle.cfg_model.specs.Cfg.{Cfg, IsRule, IsGrammar, IsSymbol}
use Rattle.cfg_model.specs.Sets.{First, Nullable}
use Rattle.cfg_model.specs.Valid.{Valid, InCore, Look, Spreads, Begins, first_of}
use Rattle.cfg_model.specs.Cores.{CoreList, items_at, IsCore, IsCores}
use Rattle.cfg_model.proofs.LooksSpread.{looks_spread}
use Rattle.cfg_model.proofs.InGrammar.{behind_dot}
use Rattle.cfg_model.proofs.ItemsOfCores.{item_of}
use Rattle.cfg_model.proofs.CoreNumbers.{behind_is, rest_is, same_number, each_in, within_move, spread_item}
use Rattle.cfg_model.proofs.LooksSpread.{valid_spreads}
use Rattle.lalr_look.proofs.RestSets.{begins_by_sets}
use Rattle.lalr_look.specs.within.Flow.{Edge, Flows, own, along, set_at}
use Rattle.lalr_look.specs.within.Kernel.{code}
use Rattle.lalr_look.specs.within.LookGraph.{slot_of, Behind, OwnBy, LeadsBy, Own, Leads, AreNodes, IsNode}
use Rattle.lalr_look.proofs.Items.{small_rule}
use Rattle.lalr_look.proofs.Slots.{slot_rule, slot_front, slot_called, slot_moved}

-- the edges and the nodes' own sets are those that the items demand
pub record LookGraph (g : Cfg) (cores : CoreList) (nodes : List (ℕ × ℕ)) (edges : List (List ℕ)) (sets : List BitSet) : Type 0 where
  pub whole : AreNodes g cores nodes
  pub own_of : (k a : ℕ) → Has (set_at sets k) a ↔ Own g cores nodes k a
  pub edge : (k j : ℕ) → Edge edges k j ↔ Leads g cores nodes k j

-- a row with a member is one of the rows
pub row_inside : {X : Type 0} (ls : List (List X)) (n i : ℕ) → i < length (slice_index_or ls n []) → n < length ls
row_inside [] n i low = absurd (omega (arith, low))
row_inside (l ∷ ls) zero i low = omega arith
row_inside (l ∷ ls) (suc n) i low = (let h = row_inside ls n i low in omega (arith, h))

pub row_low : (ls : List (List (ℕ × ℕ))) (n : ℕ) (x : ℕ × ℕ) → Contains (slice_index_or ls n []) x → n < length ls
row_low ls n x (i, low, is) = row_inside ls n i low

-- one place has one node
same_node : (nodes : List (ℕ × ℕ)) (k n s m t : ℕ) → slice_get nodes k ≡ Some (n, s) → slice_get nodes k ≡ Some (m, t) → (n ≡ m) × (s ≡ t)
same_node nodes k n s m t e f =
    let same : ◌≡◌ {A = Option (ℕ × ℕ)} (Some (n, s)) (Some (m, t)) = sym e ∙ f in
    let pair : ◌≡◌ {A = ℕ × ℕ} (n, s) (m, t) = cc in
    (ap (λ p. p.0) pair, ap (λ p. p.1) pair)

module _ (g : Cfg) (ok : IsGrammar g) (cores : CoreList) (c : IsCores g cores) (nodes : List (ℕ × ℕ)) (edges : List (List ℕ)) (sets : List BitSet)
    (t : LookGraph g cores nodes edges sets) where
  -- an item of a core stands in the core of each of its prefixes
  in_behind : (n r d : ℕ) (p y : List Sym) → Contains (items_at cores n) (r, d) → IsCore g cores n p → Behind g r d y → InCore g p r d y
  in_behind n r d p y has is behind =
      let (z, (a, v)) = (is.items r d).0 has in
      (a, subst (λ l. Valid g p r d l a) (sym (behind_is g p r d z a v) ∙ behind) v)

  behind_item : (p : List Sym) (r d : ℕ) (y : List Sym) → InCore g p r d y → Behind g r d y
  behind_item p r d y (a, v) = behind_is g p r d y a v

  spreads_rest : (p : List Sym) (r d : ℕ) (y z : List Sym) (a : ℕ) → InCore g p r d y → Spreads g p r d z a → Spreads g p r d y a
  spreads_rest p r d y z a (b, v) s =
      let (e, w) = spread_item g p r d z a s in
      subst (λ l. Spreads g p r d l a) (rest_is g p p r d z y e b w v) s

  called_low : (p : List Sym) (r d m : ℕ) (y : List Sym) → InCore g p r d (N m ∷ y) → m < 512
  called_low p r d m y (a, v) =
      let low = All-head (IsSymbol g) (N m) y (behind_dot g ok p r d (N m ∷ y) a v) in
      let few = ok.few_symbols in
      omega (arith, low, few)

  rule_low : (p : List Sym) (r d : ℕ) (y : List Sym) → InCore g p r d y → r < 2048
  rule_low p r d y (a, v) = small_rule g ok p r d y (item_of g p r d y a v)

  -- what is called is a rule of the item's slot
  called_rule : (p : List Sym) (r d m : ℕ) (y : List Sym) → InCore g p r d y → slot_of g r d ≡ suc m → m < 512 → (d ≡ 0) × IsRule g r m y
  called_rule p r d m y (a, v) = slot_called g p r d y a m v

  within : (k a : ℕ) → Flows edges sets k a → (n r d : ℕ) (p y : List Sym) → slice_get nodes k ≡ Some (n, slot_of g r d) → IsCore g cores n p
      → InCore g p r d y → Spreads g p r d y a
  within k a (own _ _ h) n r d p y at is item = go ((t.own_of k a).0 h)
    where
      by_item : (n2 r2 d2 : ℕ) → Contains (items_at cores n2) (r2, d2) → OwnBy g nodes n2 r2 d2 k a → Spreads g p r d y a
      by_item n2 r2 d2 has (OwnBy.called _ m _ y2 here behind first) =
          let (en, es) = same_node nodes k n (slot_of g r d) n2 (suc m) at here in
          let caller = in_behind n2 r2 d2 p (N m ∷ y2) has (subst (λ i. IsCore g cores i p) en is) behind in
          let (front, rl) = called_rule p r d m y item es (called_low p r2 d2 m y2 caller) in
          let there = Spreads.closure p r2 d2 m y2 caller.0 r a y (valid_spreads g p r2 d2 (N m ∷ y2) caller.0 caller.1) rl
          ((begins_by_sets g y2 caller.0 a).1 (inl first)) in
          subst (λ i. Spreads g p r i y a) (sym front) there

      at_start : slice_get nodes k ≡ Some (0, 0) → a ≡ g.terminals → Spreads g p r d y a
      at_start first e =
          let (en, es) = same_node nodes k n (slot_of g r d) 0 0 at first in
          let (er, ed) = slot_front g p r d y item.0 item.1 es in
          let same = same_number g cores 0 [] p c.first (subst (λ i. IsCore g cores i p) en is) in
          spreads_rest p r d y (N g.start ∷ []) a item
          (subst (λ b. Spreads g p r d (N g.start ∷ []) b) (sym e)
          (subst₂ (λ u v. Spreads g p u v (N g.start ∷ []) g.terminals) (sym er) (sym ed) (Spreads.start p same)))

      go : Own g cores nodes k a → Spreads g p r d y a
      go (inl (first, e)) = at_start first e
      go (inr (n2, (r2, d2, has, by))) = by_item n2 r2 d2 has by
  within k a (along j _ _ f e) n r d p y at is item = go ((t.edge j k).0 e) (λ n2 r2 d2 p2 y2 at2 is2 item2. within j a f n2 r2 d2 p2 y2 at2 is2 item2)
    where
      by_item : (n2 r2 d2 : ℕ) → Contains (items_at cores n2) (r2, d2) → LeadsBy g cores nodes n2 r2 d2 j k
          → ((n2 r2 d2 : ℕ) (p2 y2 : List Sym) → slice_get nodes j ≡ Some (n2, slot_of g r2 d2) → IsCore g cores n2 p2
          → InCore g p2 r2 d2 y2 → Spreads g p2 r2 d2 y2 a)
          → Spreads g p r d y a
      by_item n2 r2 d2 has (LeadsBy.closure _ _ m y2 from here behind null) ih =
          let (en, es) = same_node nodes k n (slot_of g r d) n2 (suc m) at here in
          let core = subst (λ i. IsCore g cores i p) en is in
          let caller = in_behind n2 r2 d2 p (N m ∷ y2) has core behind in
          let (front, rl) = called_rule p r d m y item es (called_low p r2 d2 m y2 caller) in
          let there = Spreads.closure p r2 d2 m y2 a r a y (ih n2 r2 d2 p (N m ∷ y2) from core caller) rl
          ((begins_by_sets g y2 a a).1 (inr (null, refl))) in
          subst (λ i. Spreads g p r i y a) (sym front) there
      by_item n2 r2 d2 has (LeadsBy.move _ _ o x y2 from here behind moves) ih =
          let (en, es) = same_node nodes k n (slot_of g r d) o (code r2 (suc d2)) at here in
          let (q, some, core) = c.each n2 (row_low cores.items n2 (r2, d2) has) in
          let caller = in_behind n2 r2 d2 q (x ∷ y2) has core behind in
          let (er, ed) = slot_moved g ok p r d y item.0 r2 d2 item.1 (rule_low q r2 d2 (x ∷ y2) caller) es in
          let before = ih n2 r2 d2 q (x ∷ y2) from core caller in
          let next = ((c.moves q n2 x o core).0 moves).1 in
          let here_item = subst₂ (λ u v. InCore g p u v y) er ed item in
          let there = within_move g cores q p n2 o r2 d2 x y2 y a next before (subst (λ i. IsCore g cores i p) en is) here_item in
          subst₂ (λ u v. Spreads g p u v y a) (sym er) (sym ed) there

      go : Leads g cores nodes j k
          → ((n2 r2 d2 : ℕ) (p2 y2 : List Sym) → slice_get nodes j ≡ Some (n2, slot_of g r2 d2) → IsCore g cores n2 p2
          → InCore g p2 r2 d2 y2 → Spreads g p2 r2 d2 y2 a)
          → Spreads g p r d y a
      go (n2, (r2, d2, has, by)) ih = by_item n2 r2 d2 has by ih

  -- what is there at an item's node
  abbrev In : ℕ → ℕ → ℕ → ℕ → Type 0
  In n r d a = (k : ℕ) × (slice_get nodes k ≡ Some (n, slot_of g r d)) × Flows edges sets k a

  -- the node of an item
  node_of : (n r d : ℕ) (p y : List Sym) → IsCore g cores n p → InCore g p r d y → (k : ℕ) × (slice_get nodes k ≡ Some (n, slot_of g r d))
  node_of n r d p y is item =
      let (k, low, at) = t.whole n r d ((is.items r d).1 (y, item)) in
      (k, slice_get-get_or nodes k (n, slot_of g r d) low ∙ ap Some at)

  in_start : In 0 0 0 g.terminals
  in_start =
      let (k, at) = node_of 0 0 0 [] (N g.start ∷ []) c.first (g.terminals, Valid.start) in
      (k, at, own k g.terminals ((t.own_of k g.terminals).1 (inl (at, refl))))

  -- a node that is called has the slot of the called nonterminal
  called_node : (n s m : ℕ) (z : List Sym) (k : ℕ) → IsRule g s m z → slice_get nodes k ≡ Some (n, slot_of g s 0) → slice_get nodes k ≡ Some (n, suc m)
  called_node n s m z k rl at = subst (λ i. slice_get nodes k ≡ Some (n, i)) (slot_rule g s m z rl) at

  in_closure : (p : List Sym) (n r d m : ℕ) (y : List Sym) (a s b : ℕ) (z : List Sym) → IsCore g cores n p → InCore g p r d (N m ∷ y)
      → In n r d a → IsRule g s m z → Begins g y a b → In n s 0 b
  in_closure p n r d m y a s b z is item (k, at, f) rl begins =
      let (e, v) = item in
      let (w, derives, first) = begins in
      let (j, here) = node_of n s 0 p z is (first_of w e, Valid.closure p r d m y e s (first_of w e) z v rl (w, derives, refl)) in
      go j here ((begins_by_sets g y a b).0 begins)
    where
      has : Contains (items_at cores n) (r, d)
      has = (is.items r d).1 (N m ∷ y, item)

      go : (j : ℕ) → slice_get nodes j ≡ Some (n, slot_of g s 0) → First g y b ⊎ (Nullable g y × (a ≡ b)) → In n s 0 b
      go j here (inl first) = (
        j,
        here,
        own j b ((t.own_of j b).1
            (inr (n, (r, d, has, OwnBy.called j m b y (called_node n s m z j rl here) (behind_item p r d (N m ∷ y) item) first)))),
      )
      go j here (inr (null, e)) = (
        j,
        here,
        along k j b (subst (λ x. Flows edges sets k x) e f) ((t.edge k j).1
            (n, (r, d, has, LeadsBy.closure k j m y at (called_node n s m z j rl here) (behind_item p r d (N m ∷ y) item) null))),
      )

  in_move : (p : List Sym) (n m r d : ℕ) (x : Sym) (y : List Sym) (a : ℕ) → IsCore g cores n p → InCore g p r d (x ∷ y)
      → IsCore g cores m (x ∷ p) → In n r d a → In m r (suc d) a
  in_move p n m r d x y a is item next (k, at, f) =
      let (e, v) = item in
      let moved = Valid.move p r d x y e v in
      let (j, here) = node_of m r (suc d) (x ∷ p) y next (e, moved) in
      let moves = (c.moves p n x m is).1 ((r, suc d, y, (e, moved)), next) in
      (j, here, along k j a f ((t.edge k j).1 (n, (r, d, (is.items r d).1 (x ∷ y, item), LeadsBy.move k j m x y at here (behind_item p r d (x ∷ y) item) moves))))

  -- the two agree, and so the sets are the united lookaheads
  pub flows_spread : (k n r d : ℕ) (p y : List Sym) (a : ℕ) → IsNode nodes (n, slot_of g r d) k → IsCore g cores n p → InCore g p r d y
      → Flows edges sets k a ↔ Spreads g p r d y a
  flows_spread k n r d p y a at is item = (
    λ f. within k a f n r d p y at.there is item,
    λ s. (let (j, here, f) = each_in g cores In c (record { start = in_start; closure = in_closure; move = in_move }) p n r d y a s is in
        subst (λ i. Flows edges sets i a) (at.one j here) f),
  )

  pub flows_look : (k n r d : ℕ) (p y : List Sym) (a : ℕ) → IsNode nodes (n, slot_of g r d) k → IsCore g cores n p → InCore g p r d y
      → Flows edges sets k a ↔ Look g p r d y a
  flows_look k n r d p y a at is item = (
    λ f. (looks_spread g p r d y a).1 ((flows_spread k n r d p y a at is item).0 f),
    λ l. (flows_spread k n r d p y a at is item).1 ((looks_spread g p r d y a).0 l),
  )
