-- The kernel of a prefix gives its items, and they give the kernels of longer prefixes.
use Rattle.std.proofs.Common.{◌≡◌, ◌≢◌, ℕ, zero, suc, ◌+◌, ◌<◌, ◌↔◌, ◌⊎◌, inl, inr, List, [], ◌∷◌, ◌++◌, length, refl, sym, ap, subst, subst₂, arith, slice_get, Some, Contains, drop}
use Rattle.std.proofs.lemmas.List.Elements.{Contains-append_left, Contains-append_right, Contains-append_cases}
use Rattle.std.proofs.lemmas.Option.{slice_get_within}
use Rattle.ck_base.specs.BitSet.{Has}
use Rattle.cfg_model.specs.declared.symbol.Sym.{Sym}
use Rattle.cfg_model.specs.declared.symbol.Sym.TheVariants.{T, N}
use Rattle.cfg_model.specs.Cfg.{Cfg, Rule, IsRule, IsSymbol, IsGrammar}
use Rattle.cfg_model.specs.Items.{Item, right_of}
use Rattle.lalr_look.specs.within.Rising.{Climbs, ends, climbs}
use Rattle.lalr_look.proofs.Ordered.{one_rising}
use Rattle.lalr_look.proofs.Turns.{contained, placed}
use Rattle.lalr_look.proofs.Items.{next_symbol, item_next, next_item, climbs_join, MoveFacts, move_facts, OpenFacts, open_facts}
use Rattle.lalr_look.specs.within.Kernel.{code, NextIs, NextAt, HasItem, IsItems, IsKernel, Calls, self, on, CalledBy, Moves, IsOpened, place_of, callers, front_of}

-- the item isn't one of a called rule: its dot is past the front, or it is that of rule 0
pub data Given : List Sym → ℕ → ℕ → Type 0 where
  past : (p : List Sym) (r e : ℕ) → Given p r (suc e)
  first : Given [] 0 0

-- an item of the prefix calls the nonterminal
pub record CalledIn (g : Cfg) (p : List Sym) (n : ℕ) : Type 0 where
  pub r : ℕ
  pub d : ℕ
  pub m : ℕ
  pub y : List Sym
  pub item : Item g p r d (N m ∷ y)
  pub given : Given p r d
  pub calls : Calls g m n

pub data Origin (g : Cfg) (p : List Sym) : ℕ → ℕ → List Sym → Type 0 where
  of_kernel : (r d : ℕ) (y : List Sym) → Given p r d → Origin g p r d y
  of_rule : (r n : ℕ) (y : List Sym) → IsRule g r n y → CalledIn g p n → Origin g p r 0 y

call_on : (g : Cfg) (p : List Sym) (r d n : ℕ) (y : List Sym) → Item g p r d (N n ∷ y) → (z : List Sym) → z ≡ N n ∷ y → Origin g p r d z → CalledIn g p n
call_on g p r d n y i z e (Origin.of_kernel _ _ _ given) =
    record { r = r; d = d; m = n; y = y; item = i; given = given; calls = self }
call_on g p r d n y i z e (Origin.of_rule _ b _ is c) =
    record { r = c.r; d = c.d; m = c.m; y = c.y; item = c.item; given = c.given; calls = on b r n y c.calls (subst (λ l. IsRule g r b l) e is) }

pub origin : (g : Cfg) (p : List Sym) (r d : ℕ) (y : List Sym) → Item g p r d y → Origin g p r d y
origin g p r d y Item.start = Origin.of_kernel 0 0 _ first
origin g p r d y (Item.closure _ r2 d2 n y2 s _ i is) =
    Origin.of_rule r n y is (call_on g p r2 d2 n y2 i (N n ∷ y2) refl (origin g p r2 d2 (N n ∷ y2) i))
origin g p r d y (Item.move p2 r2 d2 x _ i) = Origin.of_kernel r (suc d2) y (past p r d2)

pub opens_item : (g : Cfg) (p : List Sym) (r d m : ℕ) (y : List Sym) → Item g p r d (N m ∷ y) → (n : ℕ) → Calls g m n
    → (s : ℕ) (z : List Sym) → IsRule g s n z → Item g p s 0 z
opens_item g p r d m y i n self s z is = Item.closure p r d m y s z i is
opens_item g p r d m y i n (on o t _ u calls rl) s z is =
    Item.closure p t 0 n u s z (opens_item g p r d m y i o calls t (N n ∷ u) rl) is

-- an item with its dot past the front stands after a symbol
pub unmoved : (g : Cfg) (q : List Sym) (r d : ℕ) (y : List Sym) → Item g q r d y → (p : List Sym) (x : Sym) (e : ℕ) → q ≡ x ∷ p → d ≡ suc e → Item g p r e (x ∷ y)
unmoved g q r d y Item.start p x e h k = cc
unmoved g q r d y (Item.closure _ r2 d2 n y2 s _ i is) p x e h k = absurd (omega (arith, k))
unmoved g q r d y (Item.move p2 r2 d2 z _ i) p x e h k =
    let same : p2 ≡ p = cc in
    let sign : z ≡ x = cc in
    let place : d2 ≡ e = omega (arith, k) in
    subst (λ v. Item g p r v (x ∷ y)) place (subst₂ (λ l u. Item g l r d2 (u ∷ y)) same sign i)

pub none_moved : (g : Cfg) (q : List Sym) (r d : ℕ) (y : List Sym) → Item g q r d y → (e : ℕ) → q ≡ [] → d ≡ suc e → ⊥
none_moved g q r d y Item.start e h k = absurd (omega (arith, k))
none_moved g q r d y (Item.closure _ r2 d2 n y2 s _ i is) e h k = absurd (omega (arith, k))
none_moved g q r d y (Item.move p2 r2 d2 z _ i) e h k = cc

pub has_moved : (g : Cfg) (q : List Sym) (r d : ℕ) (y : List Sym) → Item g q r d y → (p : List Sym) (x : Sym) → q ≡ x ∷ p
    → (r : ℕ) × (e : ℕ) × (y : List Sym) × Item g q r (suc e) y
has_moved g q r d y Item.start p x h = cc
has_moved g q r d y (Item.closure _ r2 d2 n y2 s _ i is) p x h = has_moved g q r2 d2 _ i p x h
has_moved g q r d y (Item.move p2 r2 d2 z _ i) p x h = (r, d2, y, Item.move p2 r d2 z y i)

-- the numbers of the given items
abbrev pub GivenAt : Cfg → List Sym → ℕ → Type 0
GivenAt g p c = (r : ℕ) × (d : ℕ) × (y : List Sym) × (c ≡ code r d) × Item g p r d y × Given p r d

-- the kernel of a prefix of some symbols isn't empty, and that of none is
kernel_none : (g : Cfg) (p : List Sym) → IsKernel g p [] → p ≡ []
kernel_none g [] k = refl
kernel_none g (x ∷ p) k =
    let (r, d, y, i) = k.has in
    let (s, e, z, j) = has_moved g (x ∷ p) r d y i p x refl in
    let (at, low, is) = (k.each (code s (suc e))).1 (s, e, z, refl, j) in
    absurd (omega (arith, low))

kernel_some : (g : Cfg) (p : List Sym) (c : ℕ) (k : List ℕ) → IsKernel g p (c ∷ k) → p ≡ [] → ⊥
kernel_some g p c k is e =
    let (r, d, y, at, i) = (is.each c).0 (0, omega arith, refl) in
    none_moved g p r (suc d) y i d e refl

callers_only : (g : Cfg) (p : List Sym) (kernel : List ℕ) → IsKernel g p kernel → (c : ℕ) → Contains (callers kernel) c → GivenAt g p c
callers_only g p [] k c (zero, low, is) =
    let e = kernel_none g p k in
    subst₂ (λ q b. GivenAt g q b) (sym e) is (0, 0, N g.start ∷ [], refl, Item.start, first)
callers_only g p [] k c (suc i, low, is) = absurd (omega (arith, low))
callers_only g p (b ∷ kernel) k c has =
    let (r, d, y, at, i) = (k.each c).0 has in (r, suc d, y, at, i, past p r d)

callers_all : (g : Cfg) (p : List Sym) (kernel : List ℕ) → IsKernel g p kernel → (r d : ℕ) (y : List Sym) → Item g p r d y → Given p r d
    → Contains (callers kernel) (code r d)
callers_all g p [] k r d y i (past _ _ e) = absurd (none_moved g p r (suc e) y i e (kernel_none g p k) refl)
callers_all g p [] k r d y i first = (0, omega arith, refl)
callers_all g p (b ∷ kernel) k r d y i (past _ _ e) = (k.each (code r (suc e))).1 (r, e, y, refl, i)
callers_all g p (b ∷ kernel) k r d y i first = absurd (kernel_some g p b kernel k refl)

-- what is called by numbers is what is called by items
called_in : (g : Cfg) → IsGrammar g → (p : List Sym) (kernel : List ℕ) → IsKernel g p kernel → (n : ℕ) → CalledBy g (callers kernel) n → CalledIn g p n
called_in g ok p kernel k n by =
    let (r, d, y, at, i, given) = callers_only g p kernel k by.item by.stands in
    let next : NextIs g (code r d) (N by.from) = subst (λ c. NextIs g c (N by.from)) at by.next in
    let is = next_item g ok p r d (N by.from) y i next in
    record { r = r; d = d; m = by.from; y = drop (suc d) (right_of g r); item = subst (λ l. Item g p r d l) is i; given = given; calls = by.calls }

called_by : (g : Cfg) → IsGrammar g → (p : List Sym) (kernel : List ℕ) → IsKernel g p kernel → (n : ℕ) → CalledIn g p n → CalledBy g (callers kernel) n
called_by g ok p kernel k n c =
    record {
      item = code c.r c.d;
      from = c.m;
      stands = callers_all g p kernel k c.r c.d (N c.m ∷ c.y) c.item c.given;
      next = item_next g ok p c.r c.d (N c.m) c.y c.item;
      calls = c.calls;
    }

front_rising : (kernel : List ℕ) → Climbs 0 (front_of kernel)
front_rising [] = climbs 0 0 [] (omega arith) (ends 1)
front_rising (c ∷ kernel) = ends 0

front_zero : (kernel : List ℕ) (c : ℕ) → Contains (front_of kernel) c → c ≡ 0
front_zero [] c (zero, low, is) = sym is
front_zero [] c (suc i, low, is) = absurd (omega (arith, low))
front_zero (b ∷ kernel) c (i, low, is) = absurd (omega (arith, low))

-- the items of a kernel's core are the prefix's
pub items_is : (g : Cfg) → IsGrammar g → (p : List Sym) (kernel items : List ℕ) → IsKernel g p kernel → IsOpened g kernel items → IsItems g p items
items_is g ok p kernel items k o =
    record {
      rising = subst (λ l. Climbs 0 l) (sym o.whole)
          (climbs_join 0 2048 o.front kernel t.rising (λ c h. (let b = t.below c h in let few = ok.few_rules in omega (arith, b, few))) (omega arith) k.rising);
      each = λ c. (
        λ has. only c (Contains-append_cases o.front kernel c (subst (λ l. Contains l c) o.whole has)),
        λ i. subst (λ l. Contains l c) (sym o.whole) (all c i),
      );
    }
  where
    t : OpenFacts g o.called (front_of kernel) (length g.rules) o.front
    t = open_facts g o.called (front_of kernel) (length g.rules) o.front (front_rising kernel) (front_zero kernel) o.opens

    in_front : (kernel : List ℕ) → IsKernel g p kernel → (c : ℕ) → Contains (front_of kernel) c → (r : ℕ) × (d : ℕ) × (y : List Sym) × (c ≡ code r d) × Item g p r d y
    in_front [] k c h =
        (0, 0, N g.start ∷ [], front_zero [] c h, subst (λ q. Item g q 0 0 (N g.start ∷ [])) (sym (kernel_none g p k)) Item.start)
    in_front (b ∷ kernel) k c (i, low, is) = absurd (omega (arith, low))

    opened_one : (c j : ℕ) (one : Rule) → slice_get g.rules j ≡ Some one → Has o.called one.left → c ≡ j + 1 → (r : ℕ) × (d : ℕ) × (y : List Sym) × (c ≡ code r d) × Item g p r d y
    opened_one c j one at has e =
        let called = called_in g ok p kernel k one.left ((o.calls one.left).0 has) in (
          j + 1,
          0,
          one.right,
          omega (arith, e),
          opens_item g p called.r called.d called.m called.y called.item one.left called.calls (j + 1) one.right
              (record { place = j; from_one = refl; read = at }),
        )

    front_only : (c : ℕ) → Contains (front_of kernel) c ⊎ ((j : ℕ) × (one : Rule) × (j < length g.rules) × (slice_get g.rules j ≡ Some one) × Has o.called one.left × (c ≡ j + 1))
        → (r : ℕ) × (d : ℕ) × (y : List Sym) × (c ≡ code r d) × Item g p r d y
    front_only c (inl h) = in_front kernel k c h
    front_only c (inr (j, one, low, at, has, e)) = opened_one c j one at has e

    only : (c : ℕ) → Contains o.front c ⊎ Contains kernel c → (r : ℕ) × (d : ℕ) × (y : List Sym) × (c ≡ code r d) × Item g p r d y
    only c (inl h) = front_only c (t.only c h)
    only c (inr h) = let (r, d, y, e, i) = (k.each c).0 h in (r, suc d, y, e, i)

    put : (kernel : List ℕ) → IsKernel g p kernel → p ≡ [] → Contains (front_of kernel) 0
    put [] k e = (0, omega arith, refl)
    put (b ∷ kernel) k e = absurd (kernel_some g p b kernel k e)

    by_origin : (r d : ℕ) (y : List Sym) (q : List Sym) → q ≡ p → Item g p r d y → Origin g q r d y → Contains (o.front ++ kernel) (code r d)
    by_origin r d y q e i (Origin.of_kernel _ _ _ (past _ _ b)) =
        Contains-append_right o.front kernel (code r (suc b)) ((k.each (code r (suc b))).1 (r, b, y, refl, i))
    by_origin r d y q e i (Origin.of_kernel _ _ _ first) = Contains-append_left o.front kernel (code 0 0) (t.kept (code 0 0) (put kernel k (sym e)))
    by_origin r d y q e i (Origin.of_rule _ n _ is c) =
        let one : Rule = record { left = n; right = y } in
        let called = called_by g ok p kernel k n (subst (λ l. CalledIn g l n) e c) in
        let there = t.all is.place one (slice_get_within g.rules is.place one is.read) is.read ((o.calls n).1 called) in
        Contains-append_left o.front kernel (code r 0) (subst (λ b. Contains o.front b) (let f = is.from_one in omega (arith, f)) there)

    all : (c : ℕ) → ((r : ℕ) × (d : ℕ) × (y : List Sym) × (c ≡ code r d) × Item g p r d y) → Contains (o.front ++ kernel) c
    all c (r, d, y, e, i) = subst (λ b. Contains (o.front ++ kernel) b) (sym e) (by_origin r d y p refl i (origin g p r d y i))

-- the moved items are the kernel of the longer prefix
pub symbol_one : (g : Cfg) (x z : Sym) → IsSymbol g x → IsSymbol g z → place_of g x ≡ place_of g z → x ≡ z
symbol_one g (T a) (T b) ok fine e = ap (λ t. T t) e
symbol_one g (T a) (N b) ok fine e = absurd (omega (arith, ok, e))
symbol_one g (N a) (T b) ok fine e = absurd (omega (arith, fine, e))
symbol_one g (N a) (N b) ok fine e = (let same : a ≡ b = omega (arith, e) in ap (λ n. N n) same)

moved_one : (g : Cfg) → IsGrammar g → (p : List Sym) (x : Sym) (r d : ℕ) (y : List Sym) → IsSymbol g x → Item g p r d y
    → NextAt g (code r d) (place_of g x) → Item g (x ∷ p) r (suc d) (drop (suc d) (right_of g r))
moved_one g ok p x r d y sign i (z, next, at) =
    let same = symbol_one g z x (next_symbol g (code r d) z ok next) sign at in
    let is = next_item g ok p r d z y i next in
    Item.move p r d x (drop (suc d) (right_of g r))
    (subst (λ s. Item g p r d (s ∷ drop (suc d) (right_of g r))) same (subst (λ l. Item g p r d l) is i))

pub moved_members : (g : Cfg) → IsGrammar g → (p : List Sym) (items kernel : List ℕ) (x : Sym) → IsItems g p items → IsSymbol g x
    → MoveFacts g items (place_of g x) (length items) kernel
    → (c : ℕ) → Contains kernel c ↔ ((r : ℕ) × (d : ℕ) × (y : List Sym) × (c ≡ code r (suc d)) × Item g (x ∷ p) r (suc d) y)
moved_members g ok p items kernel x is sign t c = (only, all)
  where
    only : Contains kernel c → (r : ℕ) × (d : ℕ) × (y : List Sym) × (c ≡ code r (suc d)) × Item g (x ∷ p) r (suc d) y
    only h =
        let (j, b, low, at, next, e) = t.only c h in
        let (r, d, y, f, i) = (is.each b).0 (contained items j b at) in (
          r,
          d,
          drop (suc d) (right_of g r),
          omega (arith, e, f),
          moved_one g ok p x r d y sign i (subst (λ a. NextAt g a (place_of g x)) f next),
        )

    all : ((r : ℕ) × (d : ℕ) × (y : List Sym) × (c ≡ code r (suc d)) × Item g (x ∷ p) r (suc d) y) → Contains kernel c
    all (r, d, y, e, i) =
        let before = unmoved g (x ∷ p) r (suc d) y i p x d refl refl in
        let (j, low, at) = (is.each (code r d)).1 (r, d, x ∷ y, refl, before) in
        subst (λ a. Contains kernel a) (omega (arith, e))
        (t.all j (code r d) low (placed items j (code r d) low at) (x, item_next g ok p r d x y before, refl))

pub moved_kernel : (g : Cfg) → IsGrammar g → (p : List Sym) (items : List ℕ) (i : ℕ) (kernel : List ℕ) (x : Sym) → IsItems g p items → IsSymbol g x
    → place_of g x ≡ i → Moves g items i (length items) kernel → kernel ≢ [] → IsKernel g (x ∷ p) kernel
moved_kernel g ok p items i kernel x is sign at m some =
    record { has = go kernel some (λ c. (members c).0); rising = t.rising; each = members }
  where
    t : MoveFacts g items (place_of g x) (length items) kernel
    t = move_facts g items (place_of g x) (length items) kernel is.rising (subst (λ k. Moves g items k (length items) kernel) (sym at) m)

    members : (c : ℕ) → Contains kernel c ↔ ((r : ℕ) × (d : ℕ) × (y : List Sym) × (c ≡ code r (suc d)) × Item g (x ∷ p) r (suc d) y)
    members = moved_members g ok p items kernel x is sign t

    go : (l : List ℕ) → l ≢ [] → ((c : ℕ) → Contains l c → (r : ℕ) × (d : ℕ) × (y : List Sym) × (c ≡ code r (suc d)) × Item g (x ∷ p) r (suc d) y) → HasItem g (x ∷ p)
    go [] no_one f = absurd (no_one refl)
    go (c ∷ l) some f = let (r, d, y, e, i) = f c (0, omega arith, refl) in (r, suc d, y, i)

pub moved_nothing : (g : Cfg) → IsGrammar g → (p : List Sym) (items : List ℕ) (i : ℕ) (x : Sym) → IsItems g p items → IsSymbol g x
    → place_of g x ≡ i → Moves g items i (length items) [] → HasItem g (x ∷ p) → ⊥
moved_nothing g ok p items i x is sign at m (r, d, y, item) =
    let t = move_facts g items (place_of g x) (length items) [] is.rising (subst (λ k. Moves g items k (length items) []) (sym at) m) in
    let (s, e, z, j) = has_moved g (x ∷ p) r d y item p x refl in
    let (k, low, w) = (moved_members g ok p items [] x is sign t (code s (suc e))).1 (s, e, z, refl, j) in
    absurd (omega (arith, low))

-- a symbol after which there are items is the grammar's
pub symbol_after : (g : Cfg) → IsGrammar g → (p : List Sym) (x : Sym) → HasItem g (x ∷ p) → IsSymbol g x
symbol_after g ok p x (r, d, y, item) =
    let (s, e, z, j) = has_moved g (x ∷ p) r d y item p x refl in
    let before = unmoved g (x ∷ p) s (suc e) z j p x e refl refl in
    next_symbol g (code s e) x ok (item_next g ok p s e x z before)

-- one prefix has one kernel; prefixes with one kernel have the same items
pub one_kernel : (g : Cfg) (p : List Sym) (j k : List ℕ) → IsKernel g p j → IsKernel g p k → j ≡ k
one_kernel g p j k a b = one_rising 2048 2048 j k a.rising b.rising (λ c. (λ h. (b.each c).1 ((a.each c).0 h), λ h. (a.each c).1 ((b.each c).0 h)))
