-- What a list of cores that is closed under moves says of all prefixes.
use Rattle.std.proofs.Common.{◌≡◌, ℕ, zero, suc, ◌<◌, ◌⊎◌, inl, inr, Contains, List, [], ◌∷◌, length, refl, sym, ap, subst, ◌∙◌, arith, drop}
use Rattle.cfg_model.specs.declared.symbol.Sym.{Sym}
use Rattle.cfg_model.specs.declared.symbol.Sym.TheVariants.{N}
use Rattle.cfg_model.specs.Cfg.{Cfg, IsRule}
use Rattle.cfg_model.specs.Valid.{Valid, InCore, HasCore, SameCore, Spreads, Begins}
use Rattle.cfg_model.specs.Items.{right_or, right_of}
use Rattle.cfg_model.specs.Cores.{CoreList, IsCore, IsCores, moves_at}
use Rattle.cfg_model.specs.LrTables.{IsLrTable, state_after}
use Rattle.cfg_model.specs.Table.{Table}
use Rattle.cfg_model.proofs.LooksSpread.{same_back, looks_spread}
use Rattle.cfg_model.proofs.RuleZero.{zero_prefix}

pub right_is : (g : Cfg) (r n : ℕ) (w : List Sym) → IsRule g r n w → right_of g r ≡ w
right_is g r n w is =
    let first = is.from_one in
    let place : r ≡ suc is.place = omega (arith, first) in
    ap (right_of g) place ∙ ap right_or is.read

pub drop_next : (d : ℕ) (w y : List Sym) (x : Sym) → drop d w ≡ x ∷ y → drop (suc d) w ≡ y
drop_next zero [] y x e = cc
drop_next zero (z ∷ w) y x e = (let same : w ≡ y = tail_is z x w y e in same)
  where
    tail_is : (z x : Sym) (w y : List Sym) → z ∷ w ≡ x ∷ y → w ≡ y
    tail_is z x w y e = cc
drop_next (suc d) [] y x e = cc
drop_next (suc d) (z ∷ w) y x e = drop_next d w y x e

-- what stands behind the dot is said by rule and dot
pub behind_is : (g : Cfg) (p : List Sym) (r d : ℕ) (y : List Sym) (a : ℕ) → Valid g p r d y a → drop d (right_of g r) ≡ y
behind_is g p r d y a Valid.start = refl
behind_is g p r d y a (Valid.closure _ r2 d2 n y2 a2 s b _ v is begins) = right_is g s n y is
behind_is g p r d y a (Valid.move p2 r2 d2 x _ _ v) = drop_next d2 (right_of g r) y x (behind_is g p2 r2 d2 _ a v)

pub rest_is : (g : Cfg) (p q : List Sym) (r d : ℕ) (y z : List Sym) (a b : ℕ) → Valid g p r d y a → Valid g q r d z b → y ≡ z
rest_is g p q r d y z a b v w = sym (behind_is g p r d y a v) ∙ behind_is g q r d z b w

-- prefixes with one number have the same core
pub same_number : (g : Cfg) (cores : CoreList) (n : ℕ) (p q : List Sym) → IsCore g cores n p → IsCore g cores n q → SameCore g p q
same_number g cores n p q a b r d y = (one p q a b, one q p b a)
  where
    one : (p q : List Sym) → IsCore g cores n p → IsCore g cores n q → InCore g p r d y → InCore g q r d y
    one p q a b (l, v) =
        let (z, (m, w)) = (b.items r d).0 ((a.items r d).1 (y, (l, v))) in
        (m, subst (λ u. Valid g q r d u m) (sym (rest_is g p q r d y z l m v w)) w)

pub number_of_same : (g : Cfg) (cores : CoreList) (n : ℕ) (p q : List Sym) → IsCore g cores n p → SameCore g p q → IsCore g cores n q
number_of_same g cores n p q a s =
    record {
      inside = a.inside;
      items = λ r d. (
        λ has. (let (y, i) = (a.items r d).0 has in (y, (s r d y).0 i)),
        λ has. (a.items r d).1 (has.0, (s r d has.0).1 has.1),
      );
    }

-- what the loop over the cores leaves: every core is some prefix's, and each move is a known core's
pub record Closes (g : Cfg) (cores : CoreList) : Type 0 where
  pub each : (n : ℕ) → n < length cores.items → (p : List Sym) × HasCore g p × IsCore g cores n p
  pub first : IsCore g cores 0 []
  pub moved : (n : ℕ) (p : List Sym) (x : Sym) → IsCore g cores n p → HasCore g (x ∷ p) → (m : ℕ) × IsCore g cores m (x ∷ p)

pub below_core : (g : Cfg) (q : List Sym) (r d : ℕ) (y : List Sym) (a : ℕ) (x : Sym) (p : List Sym) → q ≡ x ∷ p
    → Valid g q r d y a → HasCore g p
below_core g q r d y a x p e Valid.start = cc
below_core g q r d y a x p e (Valid.closure _ r2 d2 n y2 a2 s b _ v is begins) = below_core g q r2 d2 _ a2 x p e v
below_core g q r d y a x p e (Valid.move p2 r2 d2 z _ _ v) =
    let same : p2 ≡ p = cc in
    (r2, d2, z ∷ y, (a, subst (λ l. Valid g l r2 d2 (z ∷ y) a) same v))

-- then every prefix with a core has a number
pub all_known : (g : Cfg) (cores : CoreList) → Closes g cores → (p : List Sym) → HasCore g p → (n : ℕ) × IsCore g cores n p
all_known g cores c [] has = (0, c.first)
all_known g cores c (x ∷ p) has =
    let (r, d, y, (a, v)) = has in
    let (n, is) = all_known g cores c p (below_core g (x ∷ p) r d y a x p refl v) in
    c.moved n p x is has

-- a relation over cores, items and terminals that holds what the three rules demand
pub record Demanded (g : Cfg) (cores : CoreList) (In : ℕ → ℕ → ℕ → ℕ → Type 0) : Type 0 where
  pub start : In 0 0 0 g.terminals
  pub closure : (p : List Sym) (n r d m : ℕ) (y : List Sym) (a s b : ℕ) (z : List Sym) → IsCore g cores n p → InCore g p r d (N m ∷ y)
      → In n r d a → IsRule g s m z → Begins g y a b → In n s 0 b
  pub move : (p : List Sym) (n m r d : ℕ) (x : Sym) (y : List Sym) (a : ℕ) → IsCore g cores n p → InCore g p r d (x ∷ y)
      → IsCore g cores m (x ∷ p) → In n r d a → In m r (suc d) a

pub spread_item : (g : Cfg) (p : List Sym) (r d : ℕ) (y : List Sym) (a : ℕ) → Spreads g p r d y a → InCore g p r d y
spread_item g p r d y a s = let (q, same, v) = (looks_spread g p r d y a).1 s in (same r d y).1 (a, v)

-- each united lookahead is in it
pub each_in : (g : Cfg) (cores : CoreList) (In : ℕ → ℕ → ℕ → ℕ → Type 0) → IsCores g cores → Demanded g cores In
    → (p : List Sym) (n r d : ℕ) (y : List Sym) (a : ℕ) → Spreads g p r d y a → IsCore g cores n p → In n r d a
each_in g cores In c dem p n r d y a (Spreads.start _ same) is =
    let zero_ = c.once p n 0 is (number_of_same g cores 0 [] p c.first same) in
    subst (λ i. In i 0 0 g.terminals) (sym zero_) dem.start
each_in g cores In c dem p n r d y a (Spreads.closure _ r2 d2 m y2 a2 _ _ _ s rl begins) is =
    dem.closure p n r2 d2 m y2 a2 r a y is (spread_item g p r2 d2 _ a2 s) (each_in g cores In c dem p n r2 d2 _ a2 s is) rl begins
each_in g cores In c dem p n r d y a (Spreads.move o _ r2 d2 x _ _ s same) is =
    let item = spread_item g o r2 d2 (x ∷ y) a s in
    let (k, here) = c.all o (r2, d2, x ∷ y, item) in
    dem.move o k n r2 d2 x y a here item (number_of_same g cores n p (x ∷ o) is (same_back g _ _ same))
    (each_in g cores In c dem o k r2 d2 _ a s here)

-- one lookahead more stays within, by a move
pub within_move : (g : Cfg) (cores : CoreList) (o q : List Sym) (k m r d : ℕ) (x : Sym) (y z : List Sym) (a : ℕ)
    → IsCore g cores m (x ∷ o) → Spreads g o r d (x ∷ y) a → IsCore g cores m q → InCore g q r (suc d) z
    → Spreads g q r (suc d) z a
within_move g cores o q k m r d x y z a there s is (b, v) =
    let same = same_number g cores m (x ∷ o) q there is in
    let whole = Spreads.move o q r d x y a s same in
    let (c, w) = spread_item g q r (suc d) y a whole in
    subst (λ l. Spreads g q r (suc d) l a) (rest_is g q q r (suc d) y z c b w v) whole

-- the empty prefix has a core
pub nothing_core : (g : Cfg) → HasCore g []
nothing_core g = (0, 0, N g.start ∷ [], (g.terminals, Valid.start))

-- no other prefix has the same core
alone_at_start : (g : Cfg) (x : Sym) (p : List Sym) → SameCore g (x ∷ p) [] → ⊥
alone_at_start g x p same =
    let (a, v) = (same 0 0 (N g.start ∷ [])).1 (g.terminals, Valid.start) in
    not_it (zero_prefix g (x ∷ p) 0 (N g.start ∷ []) a v).1
  where
    not_it : ((x ∷ p ≡ []) × (N g.start ∷ [] ≡ N g.start ∷ [])) ⊎ ((x ∷ p ≡ N g.start ∷ []) × (N g.start ∷ [] ≡ [])) → ⊥
    not_it (inl (e, f)) = cc
    not_it (inr (e, f)) = cc

-- so no move leads to core 0
pub core_zero_last : (g : Cfg) (cores : CoreList) (n : ℕ) (x : Sym) → IsCores g cores → n < length cores.items
    → Contains (moves_at cores n) (x, 0) → ⊥
core_zero_last g cores n x c inside has =
    let (p, core, is) = c.each n inside in
    let (more, there) = (c.moves p n x 0 is).0 has in
    alone_at_start g x p (same_number g cores 0 (x ∷ p) [] there c.first)

-- nor to state 0
pub state_zero_last : (g : Cfg) (table : Table) (p : List Sym) (x : Sym) → IsLrTable g table → HasCore g (x ∷ p)
    → state_after table (x ∷ p) ≡ 0 → ⊥
state_zero_last g table p x is has zero_is =
    alone_at_start g x p ((is.cores (x ∷ p) [] has (nothing_core g)).0 zero_is)
