-- Kernels and the items that come of them.
use Rattle.std.proofs.Common.{◌≡◌, ℕ, zero, suc, ◌+◌, ◌/◌, ◌%◌, ◌<◌, ◌≤◌, ◌⊎◌, inl, inr, List, [], ◌∷◌, ◌++◌, refl, sym, ap, subst, subst₂, ◌∙◌, arith, slice_get, Option, Some, None, Contains, All, drop}
use Rattle.std.proofs.lemmas.List.Elements.{Contains-append_left, Contains-append_right, Contains-append_cases, All-cons}
use Rattle.std.proofs.lemmas.Option.{slice_get_within, get_or_from_slice_get}
use Rattle.ck_base.specs.BitSet.{BitSet, Has}
use Rattle.cfg_model.specs.declared.symbol.Sym.{Sym}
use Rattle.cfg_model.specs.declared.symbol.Sym.TheVariants.{N}
use Rattle.cfg_model.specs.Cfg.{Cfg, Rule, IsSymbol, IsGrammar}
use Rattle.cfg_model.specs.Items.{Item, right_of, right_or}
use Rattle.lalr_look.specs.within.Rising.{Climbs, ends, climbs}
use Rattle.lalr_look.proofs.Ordered.{climbs_above}
use Rattle.cfg_model.proofs.CoreNumbers.{right_is, drop_next}
use Rattle.cfg_model.proofs.InGrammar.{right_in}
use Rattle.lalr_look.proofs.Turns.{contained, this_or_less}
use Rattle.lalr_look.specs.within.Kernel.{code, NextIs, NextAt, Moves, Opens}

-- every symbol of a right side is the grammar's
pub all_at : (P : Sym → Type 0) (l : List Sym) (i : ℕ) (x : Sym) → All P l → slice_get l i ≡ Some x → P x
all_at P l i x all is = subst P (get_or_from_slice_get l i x x is) (all i x (slice_get_within l i x is))

pub right_ok : (g : Cfg) → IsGrammar g → (r : ℕ) → All (IsSymbol g) (right_of g r)
right_ok g ok zero = All-cons (IsSymbol g) (N g.start) [] ok.start (λ k d under. absurd (omega (arith, under)))
right_ok g ok (suc i) = go (slice_get g.rules i) refl
  where
    go : (o : Option Rule) → slice_get g.rules i ≡ o → All (IsSymbol g) (right_or o)
    go None e = λ k d under. absurd (omega (arith, under))
    go (Some one) e = right_in g ok (i + 1) one.left one.right (record { place = i; from_one = refl; read = e })

pub next_symbol : (g : Cfg) (c : ℕ) (x : Sym) → IsGrammar g → NextIs g c x → IsSymbol g x
next_symbol g c x ok next = all_at (IsSymbol g) (right_of g (c % 2048)) (c / 2048) x (right_ok g ok (c % 2048)) next

-- what stands behind the dot
pub item_behind : (g : Cfg) (p : List Sym) (r d : ℕ) (y : List Sym) → Item g p r d y → drop d (right_of g r) ≡ y
item_behind g p r d y Item.start = refl
item_behind g p r d y (Item.closure _ r2 d2 n y2 s _ i is) = right_is g r n y is
item_behind g p r d y (Item.move p2 r2 d2 x _ i) = drop_next d2 (right_of g r) y x (item_behind g p2 r d2 (x ∷ y) i)

drop_get : (d : ℕ) (w y : List Sym) (x : Sym) → drop d w ≡ x ∷ y → slice_get w d ≡ Some x
drop_get zero [] y x e = cc
drop_get zero (z ∷ w) y x e = (let same : z ≡ x = cc in ap (λ s. Some s) same)
drop_get (suc d) [] y x e = cc
drop_get (suc d) (z ∷ w) y x e = drop_get d w y x e

pub get_drop : (d : ℕ) (w : List Sym) (x : Sym) → slice_get w d ≡ Some x → drop d w ≡ x ∷ drop (suc d) w
get_drop zero [] x e = cc
get_drop zero (z ∷ w) x e = (let same : z ≡ x = cc in ap (λ s. s ∷ w) same)
get_drop (suc d) [] x e = cc
get_drop (suc d) (z ∷ w) x e = get_drop d w x e

pub small_rule : (g : Cfg) → IsGrammar g → (p : List Sym) (r d : ℕ) (y : List Sym) → Item g p r d y → r < 2048
small_rule g ok p r d y Item.start = omega arith
small_rule g ok p r d y (Item.closure _ r2 d2 n y2 s _ i is) =
    let one : Rule = record { left = n; right = y } in
    let low = slice_get_within g.rules is.place one is.read in
    let first = is.from_one in
    let few = ok.few_rules in
    omega (arith, low, first, few)
small_rule g ok p r d y (Item.move p2 r2 d2 x _ i) = small_rule g ok p2 r d2 (x ∷ y) i

pub code_rule : (r d : ℕ) → r < 2048 → code r d % 2048 ≡ r
code_rule r d low = omega (arith, low)

pub code_dot : (r d : ℕ) → r < 2048 → code r d / 2048 ≡ d
code_dot r d low = omega (arith, low)

pub item_next : (g : Cfg) → IsGrammar g → (p : List Sym) (r d : ℕ) (x : Sym) (y : List Sym) → Item g p r d (x ∷ y) → NextIs g (code r d) x
item_next g ok p r d x y i =
    let low = small_rule g ok p r d (x ∷ y) i in
    subst₂ (λ a b. slice_get (right_of g a) b ≡ Some x) (sym (code_rule r d low)) (sym (code_dot r d low))
    (drop_get d (right_of g r) y x (item_behind g p r d (x ∷ y) i))

pub next_item : (g : Cfg) → IsGrammar g → (p : List Sym) (r d : ℕ) (x : Sym) (y : List Sym) → Item g p r d y → NextIs g (code r d) x
    → y ≡ x ∷ drop (suc d) (right_of g r)
next_item g ok p r d x y i next =
    let low = small_rule g ok p r d y i in
    let read = subst₂ (λ a b. slice_get (right_of g a) b ≡ Some x) (code_rule r d low) (code_dot r d low) next in
    sym (item_behind g p r d y i) ∙ get_drop d (right_of g r) x read

-- rising lists
climbs_lower : (j k : ℕ) (ns : List ℕ) → j ≤ k → Climbs k ns → Climbs j ns
climbs_lower j k ns le (ends _) = ends j
climbs_lower j k ns le (climbs _ n rest low c) = climbs j n rest (omega (arith, le, low)) c

pub climbs_join : (k m : ℕ) (xs ys : List ℕ) → Climbs k xs → ((c : ℕ) → Contains xs c → c < m) → k ≤ m → Climbs m ys → Climbs k (xs ++ ys)
climbs_join k m xs ys (ends _) below le up = climbs_lower k m ys le up
climbs_join k m xs ys (climbs _ n rest low c) below le up =
    climbs k n (rest ++ ys) low (climbs_join (suc n) m rest ys c (λ b h. below b (further n b rest h)) (below n (0, omega arith, refl)) up)
  where
    further : (n b : ℕ) (rest : List ℕ) → Contains rest b → Contains (n ∷ rest) b
    further n b rest (i, inside, is) = (suc i, omega (arith, inside), is)

pub climbs_get : (k : ℕ) (ns : List ℕ) → Climbs k ns → (i j b c : ℕ) → i < j → slice_get ns i ≡ Some b → slice_get ns j ≡ Some c → b < c
climbs_get k ns (ends _) i j b c less e f = cc
climbs_get k ns (climbs _ n rest low up) i zero b c less e f = absurd (omega (arith, less))
climbs_get k ns (climbs _ n rest low up) zero (suc j) b c less e f =
    let above = climbs_above (suc n) rest up c (contained rest j c f) in
    let same : n ≡ b = cc in omega (arith, above, same)
climbs_get k ns (climbs _ n rest low up) (suc i) (suc j) b c less e f = climbs_get (suc n) rest up i j b c (omega (arith, less)) e f

-- what moving over a symbol gives
pub record MoveFacts (g : Cfg) (items : List ℕ) (i count : ℕ) (kernel : List ℕ) : Type 0 where
  pub only : (c : ℕ) → Contains kernel c → (j : ℕ) × (b : ℕ) × (j < count) × (slice_get items j ≡ Some b) × NextAt g b i × (c ≡ b + 2048)
  pub all : (j b : ℕ) → j < count → slice_get items j ≡ Some b → NextAt g b i → Contains kernel (b + 2048)
  pub rising : Climbs 2048 kernel

last_one : (kernel : List ℕ) (b c : ℕ) → Contains (kernel ++ (b ∷ [])) c → Contains kernel c ⊎ (c ≡ b)
last_one kernel b c has = go (Contains-append_cases kernel (b ∷ []) c has)
  where
    go : Contains kernel c ⊎ Contains (b ∷ []) c → Contains kernel c ⊎ (c ≡ b)
    go (inl h) = inl h
    go (inr (zero, low, is)) = inr (sym is)
    go (inr (suc i, low, is)) = absurd (omega (arith, low))

one_moved : (g : Cfg) (items : List ℕ) (i j b : ℕ) (before : List ℕ) → Climbs 0 items → MoveFacts g items i j before
    → slice_get items j ≡ Some b → NextAt g b i → MoveFacts g items i (j + 1) (before ++ ((b + 2048) ∷ []))
one_moved g items i j b before up t at next =
    record {
      only = only;
      all = all;
      rising = climbs_join 2048 (b + 2048) before ((b + 2048) ∷ []) t.rising below (omega arith)
          (climbs (b + 2048) (b + 2048) [] (omega arith) (ends (suc (b + 2048))));
    }
  where
    below : (c : ℕ) → Contains before c → c < b + 2048
    below c h =
        let (k, a, less, is, nexts, e) = t.only c h in
        let low = climbs_get 0 items up k j a b less is at in
        omega (arith, low, e)

    only : (c : ℕ) → Contains (before ++ ((b + 2048) ∷ [])) c
        → (k : ℕ) × (a : ℕ) × (k < j + 1) × (slice_get items k ≡ Some a) × NextAt g a i × (c ≡ a + 2048)
    only c h = go (last_one before (b + 2048) c h)
      where
        go : Contains before c ⊎ (c ≡ b + 2048) → (k : ℕ) × (a : ℕ) × (k < j + 1) × (slice_get items k ≡ Some a) × NextAt g a i × (c ≡ a + 2048)
        go (inl l) = let (k, a, less, is, nexts, e) = t.only c l in (k, a, omega (arith, less), is, nexts, e)
        go (inr e) = (j, b, omega arith, at, next, e)

    all : (k a : ℕ) → k < j + 1 → slice_get items k ≡ Some a → NextAt g a i → Contains (before ++ ((b + 2048) ∷ [])) (a + 2048)
    all k a low is nexts = go (this_or_less k j low)
      where
        go : (k < j) ⊎ (k ≡ j) → Contains (before ++ ((b + 2048) ∷ [])) (a + 2048)
        go (inl less) = Contains-append_left before ((b + 2048) ∷ []) (a + 2048) (t.all k a less is nexts)
        go (inr e) =
            let same : Some a ≡ Some b = sym is ∙ (ap (slice_get items) e ∙ at) in
            let one : a ≡ b = cc in
            Contains-append_right before ((b + 2048) ∷ []) (a + 2048) (0, omega arith, ap (λ z. z + 2048) (sym one))

one_passed : (g : Cfg) (items : List ℕ) (i j b : ℕ) (kernel : List ℕ) → MoveFacts g items i j kernel
    → slice_get items j ≡ Some b → (NextAt g b i → ⊥) → MoveFacts g items i (j + 1) kernel
one_passed g items i j b kernel t at not_next =
    record {
      only = λ c h. (let (k, a, less, is, nexts, e) = t.only c h in (k, a, omega (arith, less), is, nexts, e));
      all = all;
      rising = t.rising;
    }
  where
    all : (k a : ℕ) → k < j + 1 → slice_get items k ≡ Some a → NextAt g a i → Contains kernel (a + 2048)
    all k a low is nexts = go (this_or_less k j low)
      where
        go : (k < j) ⊎ (k ≡ j) → Contains kernel (a + 2048)
        go (inl less) = t.all k a less is nexts
        go (inr e) =
            let same : Some b ≡ Some a = sym at ∙ (ap (slice_get items) (sym e) ∙ is) in
            let one : a ≡ b = cc in
            absurd (not_next (subst (λ z. NextAt g z i) one nexts))

pub move_facts : (g : Cfg) (items : List ℕ) (i count : ℕ) (kernel : List ℕ) → Climbs 0 items → Moves g items i count kernel → MoveFacts g items i count kernel
move_facts g items i count kernel up Moves.at_first =
    record { only = λ c h. absurd (let low = h.1 in omega (arith, low)); all = λ j b low. absurd (omega (arith, low)); rising = ends 2048 }
move_facts g items i count kernel up (Moves.moved j b before m at next) =
    one_moved g items i j b before up (move_facts g items i j before up m) at next
move_facts g items i count kernel up (Moves.passed j b _ m at not_next) =
    one_passed g items i j b kernel (move_facts g items i j kernel up m) at not_next

-- what opening the rules gives
pub record OpenFacts (g : Cfg) (called : BitSet) (front : List ℕ) (count : ℕ) (items : List ℕ) : Type 0 where
  pub only : (c : ℕ) → Contains items c → Contains front c ⊎ ((j : ℕ) × (one : Rule) × (j < count) × (slice_get g.rules j ≡ Some one) × Has called one.left × (c ≡ j + 1))
  pub kept : (c : ℕ) → Contains front c → Contains items c
  pub all : (j : ℕ) (one : Rule) → j < count → slice_get g.rules j ≡ Some one → Has called one.left → Contains items (j + 1)
  pub rising : Climbs 0 items
  pub below : (c : ℕ) → Contains items c → c ≤ count

one_opened : (g : Cfg) (called : BitSet) (front items : List ℕ) (j : ℕ) (one : Rule) → OpenFacts g called front j items
    → slice_get g.rules j ≡ Some one → Has called one.left → OpenFacts g called front (j + 1) (items ++ ((j + 1) ∷ []))
one_opened g called front items j one t at has =
    record {
      only = only;
      kept = λ c h. Contains-append_left items ((j + 1) ∷ []) c (t.kept c h);
      all = all;
      rising = climbs_join 0 (j + 1) items ((j + 1) ∷ []) t.rising (λ c h. (let b = t.below c h in omega (arith, b))) (omega arith)
          (climbs (j + 1) (j + 1) [] (omega arith) (ends (suc (j + 1))));
      below = λ c h. low c (last_one items (j + 1) c h);
    }
  where
    low : (c : ℕ) → Contains items c ⊎ (c ≡ j + 1) → c ≤ j + 1
    low c (inl h) = let b = t.below c h in omega (arith, b)
    low c (inr e) = omega (arith, e)

    only : (c : ℕ) → Contains (items ++ ((j + 1) ∷ [])) c
        → Contains front c ⊎ ((k : ℕ) × (other : Rule) × (k < j + 1) × (slice_get g.rules k ≡ Some other) × Has called other.left × (c ≡ k + 1))
    only c h = go (last_one items (j + 1) c h)
      where
        older : Contains front c ⊎ ((k : ℕ) × (other : Rule) × (k < j) × (slice_get g.rules k ≡ Some other) × Has called other.left × (c ≡ k + 1))
            → Contains front c ⊎ ((k : ℕ) × (other : Rule) × (k < j + 1) × (slice_get g.rules k ≡ Some other) × Has called other.left × (c ≡ k + 1))
        older (inl f) = inl f
        older (inr (k, other, less, is, h2, e)) = inr (k, other, omega (arith, less), is, h2, e)

        go : Contains items c ⊎ (c ≡ j + 1)
            → Contains front c ⊎ ((k : ℕ) × (other : Rule) × (k < j + 1) × (slice_get g.rules k ≡ Some other) × Has called other.left × (c ≡ k + 1))
        go (inl l) = older (t.only c l)
        go (inr e) = inr (j, one, omega arith, at, has, e)

    all : (k : ℕ) (other : Rule) → k < j + 1 → slice_get g.rules k ≡ Some other → Has called other.left → Contains (items ++ ((j + 1) ∷ [])) (k + 1)
    all k other less is h = go (this_or_less k j less)
      where
        go : (k < j) ⊎ (k ≡ j) → Contains (items ++ ((j + 1) ∷ [])) (k + 1)
        go (inl l) = Contains-append_left items ((j + 1) ∷ []) (k + 1) (t.all k other l is h)
        go (inr e) = Contains-append_right items ((j + 1) ∷ []) (k + 1) (0, omega arith, omega (arith, e))

one_closed : (g : Cfg) (called : BitSet) (front items : List ℕ) (j : ℕ) (one : Rule) → OpenFacts g called front j items
    → slice_get g.rules j ≡ Some one → (Has called one.left → ⊥) → OpenFacts g called front (j + 1) items
one_closed g called front items j one t at not_has =
    record {
      only = λ c h. older c (t.only c h);
      kept = t.kept;
      all = all;
      rising = t.rising;
      below = λ c h. (let b = t.below c h in omega (arith, b));
    }
  where
    older : (c : ℕ) → Contains front c ⊎ ((k : ℕ) × (other : Rule) × (k < j) × (slice_get g.rules k ≡ Some other) × Has called other.left × (c ≡ k + 1))
        → Contains front c ⊎ ((k : ℕ) × (other : Rule) × (k < j + 1) × (slice_get g.rules k ≡ Some other) × Has called other.left × (c ≡ k + 1))
    older c (inl f) = inl f
    older c (inr (k, other, less, is, h2, e)) = inr (k, other, omega (arith, less), is, h2, e)

    all : (k : ℕ) (other : Rule) → k < j + 1 → slice_get g.rules k ≡ Some other → Has called other.left → Contains items (k + 1)
    all k other less is h = go (this_or_less k j less)
      where
        go : (k < j) ⊎ (k ≡ j) → Contains items (k + 1)
        go (inl l) = t.all k other l is h
        go (inr e) =
            let same : Some one ≡ Some other = sym at ∙ (ap (slice_get g.rules) (sym e) ∙ is) in
            let same_one : other ≡ one = cc in
            absurd (not_has (subst (λ o. Has called o.left) same_one h))

pub open_facts : (g : Cfg) (called : BitSet) (front : List ℕ) (count : ℕ) (items : List ℕ) → Climbs 0 front → ((c : ℕ) → Contains front c → c ≡ 0)
    → Opens g called front count items → OpenFacts g called front count items
open_facts g called front count items up zeros Opens.at_first =
    record {
      only = λ c h. inl h;
      kept = λ c h. h;
      all = λ j one low. absurd (omega (arith, low));
      rising = up;
      below = λ c h. (let e = zeros c h in omega (arith, e));
    }
open_facts g called front count items up zeros (Opens.opened j one before o at has) =
    one_opened g called front before j one (open_facts g called front j before up zeros o) at has
open_facts g called front count items up zeros (Opens.passed j one _ o at not_has) =
    one_closed g called front items j one (open_facts g called front j items up zeros o) at not_has
