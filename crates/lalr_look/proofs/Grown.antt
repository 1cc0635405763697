-- One core more, and what is there at the end.
use Rattle.std.proofs.Common.{◌≡◌, ◌≢◌, ℕ, zero, suc, ◌+◌, ◌/◌, ◌%◌, ◌<◌, ◌≤◌, ◌↔◌, ◌⊎◌, inl, inr, List, [], ◌∷◌, ◌++◌, length, refl, sym, ap, ap₂, subst, subst₂, ◌∙◌, arith, slice_get, Option, Some, None, Contains, get_or, All, map, length-append, slice_index_or}
use Rattle.std.proofs.lemmas.List.Elements.{Contains-get_or}
use Rattle.std.proofs.lemmas.Option.{slice_get-get_or, slice_get_within, get_or_from_slice_get}
use Rattle.cfg_model.specs.declared.symbol.Sym.{Sym}
use Rattle.cfg_model.specs.declared.symbol.Sym.TheVariants.{T, N}
use Rattle.cfg_model.specs.Cfg.{Cfg, Rule, IsSymbol, IsGrammar}
use Rattle.cfg_model.specs.Items.{Item, right_of, right_or}
use Rattle.lalr_look.specs.within.Numbered.{Interns}
use Rattle.cfg_model.specs.Valid.{InCore, HasCore, SameCore}
use Rattle.cfg_model.specs.Sets.{AllProductive}
use Rattle.cfg_model.specs.Cores.{CoreList, items_at, moves_at, IsCore, IsCores, Rising, targets, HasMoreCores}
use Rattle.lalr_look.specs.within.Rising.{Met, Climbs, ends}
use Rattle.cfg_model.proofs.ItemsOfCores.{item_of, item_in}
use Rattle.cfg_model.proofs.CoreNumbers.{same_number, all_known}
use Rattle.ck_base.proofs.Counting.{not_more}
use Rattle.lalr_look.proofs.Numbering.{value_of_longer}
use Rattle.lalr_look.proofs.Turns.{this_or_less}
use Rattle.lalr_look.proofs.Items.{item_next, small_rule, code_rule, code_dot, climbs_get}
use Rattle.lalr_look.proofs.OfPrefix.{items_is, symbol_after, one_kernel, none_moved}
use Rattle.lalr_look.proofs.RowsOf.{RowFacts, row_facts}
use Rattle.lalr_look.specs.within.Kernel.{code, HasItem, IsItems, IsKernel, IsOpened, Rows, place_of, Numbered, Going, pairs, AreShort, IsInside}

-- a list with one more at its end, at a place
pub at_end : {X : Type 0} (l : List X) (x d : X) (j : ℕ) → ((j ≡ length l) × (slice_index_or (l ++ (x ∷ [])) j d ≡ x))
    ⊎ ((j ≢ length l) × (slice_index_or (l ++ (x ∷ [])) j d ≡ slice_index_or l j d))
at_end [] x d zero = inl (refl, refl)
at_end [] x d (suc j) = inr ((λ e. omega (arith, e)), refl)
at_end (y ∷ l) x d zero = inr ((λ e. omega (arith, e)), refl)
at_end (y ∷ l) x d (suc j) = go (at_end l x d j)
  where
    go : ((j ≡ length l) × (slice_index_or (l ++ (x ∷ [])) j d ≡ x)) ⊎ ((j ≢ length l) × (slice_index_or (l ++ (x ∷ [])) j d ≡ slice_index_or l j d))
        → ((suc j ≡ length (y ∷ l)) × (slice_index_or ((y ∷ l) ++ (x ∷ [])) (suc j) d ≡ x))
        ⊎ ((suc j ≢ length (y ∷ l)) × (slice_index_or ((y ∷ l) ++ (x ∷ [])) (suc j) d ≡ slice_index_or (y ∷ l) (suc j) d))
    go (inl (e, is)) = inl (ap suc e, is)
    go (inr (e, is)) = inr ((λ f. e (omega (arith, f))), is)

targets_end : (rows : List (List (Sym × ℕ))) (row : List (Sym × ℕ)) → targets (rows ++ (row ∷ [])) ≡ targets rows ++ map (λ m. m.1) row
targets_end [] row = append_none (map (λ m. m.1) row)
  where
    append_none : (ns : List ℕ) → ns ++ [] ≡ ns
    append_none [] = refl
    append_none (n ∷ ns) = ap (λ l. n ∷ l) (append_none ns)
targets_end (r ∷ rows) row = ap (λ l. map (λ m. m.1) r ++ l) (targets_end rows row) ∙ sym (twice (map (λ m. m.1) r) (targets rows) (map (λ m. m.1) row))
  where
    twice : (a b c : List ℕ) → (a ++ b) ++ c ≡ a ++ (b ++ c)
    twice [] b c = refl
    twice (x ∷ a) b c = ap (λ l. x ∷ l) (twice a b c)

-- items as pairs
pairs_only : (items : List ℕ) (r d : ℕ) → Contains (pairs items) (r, d) → (c : ℕ) × Contains items c × (c % 2048 ≡ r) × (c / 2048 ≡ d)
pairs_only [] r d (i, low, is) = absurd (omega (arith, low))
pairs_only (c ∷ items) r d (zero, low, is) = (c, (0, omega arith, refl), ap (λ p. p.0) is, ap (λ p. p.1) is)
pairs_only (c ∷ items) r d (suc i, low, is) =
    let (b, (j, less, at), e, f) = pairs_only items r d (i, omega (arith, low), is) in (b, (suc j, omega (arith, less), at), e, f)

pairs_all : (items : List ℕ) (c : ℕ) → Contains items c → Contains (pairs items) (c % 2048, c / 2048)
pairs_all [] c (i, low, is) = absurd (omega (arith, low))
pairs_all (b ∷ items) c (zero, low, is) = (0, omega arith, ap (λ n. (n % 2048, n / 2048)) is)
pairs_all (b ∷ items) c (suc i, low, is) =
    let (j, less, at) = pairs_all items c (i, omega (arith, low), is) in (suc j, omega (arith, less), at)

pub pairs_items : (g : Cfg) → IsGrammar g → (p : List Sym) (items : List ℕ) → IsItems g p items
    → (r d : ℕ) → Contains (pairs items) (r, d) ↔ ((y : List Sym) × Item g p r d y)
pairs_items g ok p items is r d = (only, all)
  where
    only : Contains (pairs items) (r, d) → (y : List Sym) × Item g p r d y
    only h =
        let (c, has, er, ed) = pairs_only items r d h in
        let (s, e, y, at, i) = (is.each c).0 has in
        let low = small_rule g ok p s e y i in
        let rule_is : s ≡ r = sym (code_rule s e low) ∙ (ap (λ n. n % 2048) (sym at) ∙ er) in
        let dot_is : e ≡ d = sym (code_dot s e low) ∙ (ap (λ n. n / 2048) (sym at) ∙ ed) in
        (y, subst₂ (λ a b. Item g p a b y) rule_is dot_is i)

    all : ((y : List Sym) × Item g p r d y) → Contains (pairs items) (r, d)
    all (y, i) =
        let low = small_rule g ok p r d y i in
        let there = pairs_all items (code r d) ((is.each (code r d)).1 (r, d, y, refl, i)) in
        subst₂ (λ a b. Contains (pairs items) (a, b)) (code_rule r d low) (code_dot r d low) there

pair_at : (items : List ℕ) (i : ℕ) (x : ℕ × ℕ) → slice_get (pairs items) i ≡ Some x → (b : ℕ) × (slice_get items i ≡ Some b) × (x.0 ≡ b % 2048) × (x.1 ≡ b / 2048)
pair_at [] i x e = cc
pair_at (b ∷ items) zero x e = (let same : ◌≡◌ {A = ℕ × ℕ} (b % 2048, b / 2048) x = cc in (b, refl, ap (λ p. p.0) (sym same), ap (λ p. p.1) (sym same)))
pair_at (b ∷ items) (suc i) x e = pair_at items i x e

order_of : (i j : ℕ) → (i < j) ⊎ ((j < i) ⊎ (i ≡ j))
order_of i j = grind arith

pairs_single : (items : List ℕ) → Climbs 0 items → (i j : ℕ) (x : ℕ × ℕ) → slice_get (pairs items) i ≡ Some x → slice_get (pairs items) j ≡ Some x → i ≡ j
pairs_single items up i j x e f =
    let (b, at, b0, b1) = pair_at items i x e in
    let (c, there, c0, c1) = pair_at items j x f in
    go b c at there (omega (arith, b0, b1, c0, c1)) (order_of i j)
  where
    go : (b c : ℕ) → slice_get items i ≡ Some b → slice_get items j ≡ Some c → b ≡ c → (i < j) ⊎ ((j < i) ⊎ (i ≡ j)) → i ≡ j
    go b c at there same (inl low) = (let less = climbs_get 0 items up i j b c low at there in absurd (omega (arith, less, same)))
    go b c at there same (inr (inl low)) = (let less = climbs_get 0 items up j i c b low there at in absurd (omega (arith, less, same)))
    go b c at there same (inr (inr e)) = e

-- one core more
pub one_core : (g : Cfg) → IsGrammar g → (known after : List (List ℕ)) (made longer : CoreList) (kernel own : List ℕ) (row : List (Sym × ℕ))
    → Going g known made → slice_get known (length made.items) ≡ Some kernel → IsOpened g kernel own
    → Rows g own known (g.terminals + g.nonterminals) after row
    → longer.items ≡ made.items ++ (pairs own ∷ []) → longer.moves ≡ made.moves ++ (row ∷ []) → Going g after longer
one_core g ok known after made longer kernel own row t at opened rows is_items is_moves =
    record {
      whose = λ m k l. whose m k (f.whose m k l);
      apart = f.apart t.apart;
      first = f.kept 0 [] t.first;
      sizes = ap length is_moves ∙ (length-append made.moves (row ∷ []) ∙ (ap (λ n. n + 1) t.sizes ∙ (sym (length-append made.items (pairs own ∷ [])) ∙ sym (ap length is_items))));
      single = λ n i j x a b. single n i j x (at_end made.items (pairs own) [] n)
          (subst (λ l. slice_get (slice_index_or l n []) i ≡ Some x) is_items a) (subst (λ l. slice_get (slice_index_or l n []) j ≡ Some x) is_items b);
      items = λ j q low num r d. items j q num r d (which j low);
      leads = λ j q x m low num c. leads j q x m num (which j low) (subst (λ l. Contains (slice_index_or l j []) (x, m)) is_moves c);
      goes = λ j q x low num has. (let (m, c) = goes j q x num has (which j low) in (m, subst (λ l. Contains (slice_index_or l j []) (x, m)) (sym is_moves) c));
      rising = λ j. subst (λ l. Rising (slice_index_or l j [])) (sym is_moves) (rising j (at_end made.moves row [] j));
      met = subst (λ l. Met (0 ∷ l) (length after)) (sym (ap targets is_moves ∙ targets_end made.moves row)) (f.met (0 ∷ targets made.moves) t.met);
    }
  where
    p : List Sym
    p = (t.whose (length made.items) kernel at).0

    kern : IsKernel g p kernel
    kern = (t.whose (length made.items) kernel at).1

    f : RowFacts g p known (g.terminals + g.nonterminals) after row
    f = row_facts g ok p own known after row (g.terminals + g.nonterminals) (items_is g ok p kernel own kern opened) rows

    single : (n i j : ℕ) (x : ℕ × ℕ) → ((n ≡ length made.items) × (slice_index_or (made.items ++ (pairs own ∷ [])) n [] ≡ pairs own))
        ⊎ ((n ≢ length made.items) × (slice_index_or (made.items ++ (pairs own ∷ [])) n [] ≡ slice_index_or made.items n []))
        → slice_get (slice_index_or (made.items ++ (pairs own ∷ [])) n []) i ≡ Some x → slice_get (slice_index_or (made.items ++ (pairs own ∷ [])) n []) j ≡ Some x → i ≡ j
    single n i j x (inl (e, is)) a b = pairs_single own (items_is g ok p kernel own kern opened).rising i j x
        (subst (λ l. slice_get l i ≡ Some x) is a) (subst (λ l. slice_get l j ≡ Some x) is b)
    single n i j x (inr (e, is)) a b = t.single n i j x (subst (λ l. slice_get l i ≡ Some x) is a) (subst (λ l. slice_get l j ≡ Some x) is b)

    whose : (m : ℕ) (k : List ℕ) → (slice_get known m ≡ Some k) ⊎ ((q : List Sym) × IsKernel g q k) → (q : List Sym) × IsKernel g q k
    whose m k (inl l) = t.whose m k l
    whose m k (inr w) = w

    which : (j : ℕ) → j < length longer.items → (j < length made.items) ⊎ (j ≡ length made.items)
    which j low = this_or_less j (length made.items) (subst (λ n. j < n) (ap length is_items ∙ length-append made.items (pairs own ∷ [])) low)

    -- the kernel at a lower place is an old one
    older : (j : ℕ) (q : List Sym) → j < length made.items → Numbered g after q j → Numbered g known q j
    older j q low (k, is, kq) =
        let inside = slice_get_within known (length made.items) kernel at in
        let old = slice_get-get_or known j [] (omega (arith, low, inside)) in
        let new = f.kept j (get_or known j []) old in
        let same : Some (get_or known j []) ≡ Some k = sym new ∙ is in
        let one : get_or known j [] ≡ k = cc in
        (k, old ∙ ap (λ x. Some x) one, kq)

    this : (j : ℕ) (q : List Sym) → j ≡ length made.items → Numbered g after q j → IsKernel g q kernel
    this j q e (k, is, kq) =
        let new = f.kept (length made.items) kernel at in
        let same : Some k ≡ Some kernel = sym is ∙ (ap (slice_get after) e ∙ new) in
        let one : k ≡ kernel = cc in
        subst (λ l. IsKernel g q l) one kq

    facts : (q : List Sym) → IsKernel g q kernel → RowFacts g q known (g.terminals + g.nonterminals) after row
    facts q kq = row_facts g ok q own known after row (g.terminals + g.nonterminals) (items_is g ok q kernel own kq opened) rows

    renumber : (q : List Sym) (m : ℕ) → Numbered g known q m → Numbered g after q m
    renumber q m (k, is, kq) = (k, f.kept m k is, kq)

    in_range : (x : Sym) → IsSymbol g x → place_of g x < g.terminals + g.nonterminals
    in_range (T a) sign = omega (arith, sign)
    in_range (N b) sign = omega (arith, sign)

    items : (j : ℕ) (q : List Sym) → Numbered g after q j → (r d : ℕ) → (j < length made.items) ⊎ (j ≡ length made.items)
        → Contains (items_at longer j) (r, d) ↔ ((y : List Sym) × Item g q r d y)
    items j q num r d w = subst (λ l. Contains (slice_index_or l j []) (r, d) ↔ ((y : List Sym) × Item g q r d y)) (sym is_items) (go w (at_end made.items (pairs own) [] j))
      where
        go : (j < length made.items) ⊎ (j ≡ length made.items)
            → ((j ≡ length made.items) × (slice_index_or (made.items ++ (pairs own ∷ [])) j [] ≡ pairs own))
            ⊎ ((j ≢ length made.items) × (slice_index_or (made.items ++ (pairs own ∷ [])) j [] ≡ slice_index_or made.items j []))
            → Contains (slice_index_or (made.items ++ (pairs own ∷ [])) j []) (r, d) ↔ ((y : List Sym) × Item g q r d y)
        go (inl low) (inl (e, is)) = absurd (omega (arith, low, e))
        go (inl low) (inr (e, is)) = subst (λ l. Contains l (r, d) ↔ ((y : List Sym) × Item g q r d y)) (sym is) (t.items j q low (older j q low num) r d)
        go (inr same) (inl (e, is)) = subst (λ l. Contains l (r, d) ↔ ((y : List Sym) × Item g q r d y)) (sym is)
            (pairs_items g ok q own (items_is g ok q kernel own (this j q same num) opened) r d)
        go (inr same) (inr (e, is)) = absurd (e same)

    moves_old : (j : ℕ) → j < length made.items → slice_index_or (made.moves ++ (row ∷ [])) j [] ≡ slice_index_or made.moves j []
    moves_old j low = go (at_end made.moves row [] j)
      where
        go : ((j ≡ length made.moves) × (slice_index_or (made.moves ++ (row ∷ [])) j [] ≡ row))
            ⊎ ((j ≢ length made.moves) × (slice_index_or (made.moves ++ (row ∷ [])) j [] ≡ slice_index_or made.moves j []))
            → slice_index_or (made.moves ++ (row ∷ [])) j [] ≡ slice_index_or made.moves j []
        go (inl (e, is)) = (let s = t.sizes in absurd (omega (arith, low, e, s)))
        go (inr (e, is)) = is

    moves_new : (j : ℕ) → j ≡ length made.items → slice_index_or (made.moves ++ (row ∷ [])) j [] ≡ row
    moves_new j same = go (at_end made.moves row [] j)
      where
        go : ((j ≡ length made.moves) × (slice_index_or (made.moves ++ (row ∷ [])) j [] ≡ row))
            ⊎ ((j ≢ length made.moves) × (slice_index_or (made.moves ++ (row ∷ [])) j [] ≡ slice_index_or made.moves j []))
            → slice_index_or (made.moves ++ (row ∷ [])) j [] ≡ row
        go (inl (e, is)) = is
        go (inr (e, is)) = absurd (e (same ∙ sym t.sizes))

    leads : (j : ℕ) (q : List Sym) (x : Sym) (m : ℕ) → Numbered g after q j → (j < length made.items) ⊎ (j ≡ length made.items)
        → Contains (slice_index_or (made.moves ++ (row ∷ [])) j []) (x, m) → Numbered g after (x ∷ q) m
    leads j q x m num (inl low) c =
        renumber (x ∷ q) m (t.leads j q x m low (older j q low num) (subst (λ l. Contains l (x, m)) (moves_old j low) c))
    leads j q x m num (inr same) c =
        let h = facts q (this j q same num) in
        let (low, sign, there) = h.only x m (subst (λ l. Contains l (x, m)) (moves_new j same) c) in there

    goes : (j : ℕ) (q : List Sym) (x : Sym) → Numbered g after q j → HasItem g (x ∷ q) → (j < length made.items) ⊎ (j ≡ length made.items)
        → (m : ℕ) × Contains (slice_index_or (made.moves ++ (row ∷ [])) j []) (x, m)
    goes j q x num has (inl low) =
        let (m, c) = t.goes j q x low (older j q low num) has in (m, subst (λ l. Contains l (x, m)) (sym (moves_old j low)) c)
    goes j q x num has (inr same) =
        let h = facts q (this j q same num) in
        let (m, c) = h.all x (in_range x (symbol_after g ok q x has)) has in
        (m, subst (λ l. Contains l (x, m)) (sym (moves_new j same)) c)

    rising : (j : ℕ) → ((j ≡ length made.moves) × (slice_index_or (made.moves ++ (row ∷ [])) j [] ≡ row))
        ⊎ ((j ≢ length made.moves) × (slice_index_or (made.moves ++ (row ∷ [])) j [] ≡ slice_index_or made.moves j []))
        → Rising (slice_index_or (made.moves ++ (row ∷ [])) j [])
    rising j (inl (e, is)) = subst (λ l. Rising l) (sym is) f.rising
    rising j (inr (e, is)) = subst (λ l. Rising l) (sym is) (t.rising j)

-- prefixes with the same items have the same kernel
pub kernel_same : (g : Cfg) (p q : List Sym) (k : List ℕ) → ((r d : ℕ) (y : List Sym) → Item g p r d y ↔ Item g q r d y) → IsKernel g q k → IsKernel g p k
kernel_same g p q k same is =
    record {
      has = (let (r, d, y, i) = is.has in (r, d, y, (same r d y).1 i));
      rising = is.rising;
      each = λ c. (
        λ h. (let (r, d, y, e, i) = (is.each c).0 h in (r, d, y, e, (same r (suc d) y).1 i)),
        λ h. (is.each c).1 (h.0, h.1, h.2, h.3, (same h.0 (suc h.1) h.2).0 h.4),
      );
    }

core_item : (g : Cfg) (p : List Sym) (r d : ℕ) (y : List Sym) → InCore g p r d y → Item g p r d y
core_item g p r d y (a, v) = item_of g p r d y a v

has_item : (g : Cfg) (p : List Sym) → HasCore g p → HasItem g p
has_item g p (r, d, y, i) = (r, d, y, core_item g p r d y i)

has_core : (g : Cfg) → IsGrammar g → AllProductive g → (p : List Sym) → HasItem g p → HasCore g p
has_core g ok all p (r, d, y, i) = (r, d, y, item_in g ok all p r d y i)

pub first_kernel : (g : Cfg) → IsKernel g [] []
first_kernel g =
    record {
      has = (0, 0, N g.start ∷ [], Item.start);
      rising = ends 2048;
      each = λ c. (λ h. absurd (let low = h.1 in omega (arith, low)), λ h. none h);
    }
  where
    none : {c : ℕ} → ((r : ℕ) × (d : ℕ) × (y : List Sym) × (c ≡ code r (suc d)) × Item g [] r (suc d) y) → Contains [] c
    none (r, d, y, e, i) = absurd (none_moved g [] r (suc d) y i d refl refl)

module _ (g : Cfg) (ok : IsGrammar g) (all : AllProductive g) (known : List (List ℕ)) (made : CoreList) (t : Going g known made)
    (whole : length made.items ≡ length known) where
  core_of : (j : ℕ) (p : List Sym) → Numbered g known p j → IsCore g made j p
  core_of j p num =
      let (k, is, kp) = num in
      let low = slice_get_within known j k is in
      let inside : j < length made.items = omega (arith, low, whole) in
      record {
        inside = inside;
        items = λ r d. (
          λ h. (let (y, i) = (t.items j p inside num r d).0 h in (y, item_in g ok all p r d y i)),
          λ h. (t.items j p inside num r d).1 (h.0, core_item g p r d h.0 h.1),
        );
      }

  same_items : (p q : List Sym) → SameCore g p q → (r d : ℕ) (y : List Sym) → Item g p r d y ↔ Item g q r d y
  same_items p q same r d y =
      (λ i. core_item g q r d y ((same r d y).0 (item_in g ok all p r d y i)), λ i. core_item g p r d y ((same r d y).1 (item_in g ok all q r d y i)))

  kernel_of : (j : ℕ) (p : List Sym) → IsCore g made j p → Numbered g known p j
  kernel_of j p is =
      let low = is.inside in
      let at = slice_get-get_or known j [] (omega (arith, low, whole)) in
      let (q, kq) = t.whose j (get_or known j []) at in
      (get_or known j [], at, kernel_same g p q (get_or known j []) (same_items p q (same_number g made j p q is (core_of j q (get_or known j [], at, kq)))) kq)

  each_core : (n : ℕ) → n < length made.items → (p : List Sym) × HasCore g p × IsCore g made n p
  each_core n low =
      let at = slice_get-get_or known n [] (omega (arith, low, whole)) in
      let (q, kq) = t.whose n (get_or known n []) at in
      (q, has_core g ok all q kq.has, core_of n q (get_or known n [], at, kq))

  first_core : IsCore g made 0 []
  first_core = core_of 0 [] ([], t.first, first_kernel g)

  next_core : (n : ℕ) (p : List Sym) (x : Sym) → IsCore g made n p → HasCore g (x ∷ p) → (m : ℕ) × IsCore g made m (x ∷ p)
  next_core n p x is has =
      let num = kernel_of n p is in
      let (m, c) = t.goes n p x is.inside num (has_item g (x ∷ p) has) in
      (m, core_of m (x ∷ p) (t.leads n p x m is.inside num c))

  one_number : (p : List Sym) (n m : ℕ) → Numbered g known p n → Numbered g known p m → n ≡ m
  one_number p n m (j, at, kj) (k, there, kk) =
      t.apart n m j at (there ∙ ap (λ l. Some l) (one_kernel g p k j kk kj))

  moves_core : (p : List Sym) (n : ℕ) (x : Sym) (m : ℕ) → IsCore g made n p
      → Contains (moves_at made n) (x, m) ↔ (HasCore g (x ∷ p) × IsCore g made m (x ∷ p))
  moves_core p n x m is = (only, back)
    where
      only : Contains (moves_at made n) (x, m) → HasCore g (x ∷ p) × IsCore g made m (x ∷ p)
      only c =
          let num = t.leads n p x m is.inside (kernel_of n p is) c in
          let (k, at, kern) = num in
          (has_core g ok all (x ∷ p) kern.has, core_of m (x ∷ p) num)

      back : HasCore g (x ∷ p) × IsCore g made m (x ∷ p) → Contains (moves_at made n) (x, m)
      back (has, there) =
          let num = kernel_of n p is in
          let (o, c) = t.goes n p x is.inside num (has_item g (x ∷ p) has) in
          let same = one_number (x ∷ p) o m (t.leads n p x o is.inside num c) (kernel_of m (x ∷ p) there) in
          subst (λ i. Contains (moves_at made n) (x, i)) same c

  -- at the end these are the cores
  pub are_cores : IsCores g made
  are_cores =
      record {
        sizes = t.sizes;
        each = each_core;
        all = all_known g made (record { each = each_core; first = first_core; moved = next_core });
        once = λ p n m a b. one_number p n m (kernel_of n p a) (kernel_of m p b);
        first = first_core;
        single = t.single;
        moves = moves_core;
        rising = t.rising;
        order = t.met.first;
      }

-- so many kernels are so many prefixes apart
record Many (g : Cfg) (known : List (List ℕ)) (k : ℕ) : Type 0 where
  pub prefixes : List (List Sym)
  pub long : length prefixes ≡ k
  pub named : (i : ℕ) (q : List Sym) → slice_get prefixes i ≡ Some q → Numbered g known q i

module _ (g : Cfg) (ok : IsGrammar g) (all : AllProductive g) (known : List (List ℕ)) (made : CoreList) (t : Going g known made) where
  moved_over : (p q : List Sym) (m : ℕ) → SameCore g p q → Numbered g known q m → Numbered g known p m
  moved_over p q m same (k, at, kq) = (k, at, kernel_same g p q k items kq)
    where
      items : (r d : ℕ) (y : List Sym) → Item g p r d y ↔ Item g q r d y
      items r d y = (λ i. core_item g q r d y ((same r d y).0 (item_in g ok all p r d y i)), λ i. core_item g p r d y ((same r d y).1 (item_in g ok all q r d y i)))

  numbers_one : (p : List Sym) (n m : ℕ) → Numbered g known p n → Numbered g known p m → n ≡ m
  numbers_one p n m (j, at, kj) (k, there, kk) =
      t.apart n m j at (there ∙ ap (λ l. Some l) (one_kernel g p k j kk kj))

  many : (k : ℕ) → k ≤ length known → Many g known k
  many zero le = record { prefixes = []; long = refl; named = λ i q e. cc }
  many (suc k) le =
      let r = many k (omega (arith, le)) in
      let at = slice_get-get_or known k [] (omega (arith, le)) in
      let (p, kp) = t.whose k (get_or known k []) at in
      let long = r.long in
      let l = length-append r.prefixes (p ∷ []) in
      record {
        prefixes = r.prefixes ++ (p ∷ []);
        long = omega (arith, l, long);
        named = λ i q e. named k p (get_or known k [], at, kp) r i q (value_of_longer r.prefixes p q i e);
      }
    where
      named : (k : ℕ) (p : List Sym) → Numbered g known p k → (r : Many g known k) → (i : ℕ) (q : List Sym)
          → (slice_get r.prefixes i ≡ Some q) ⊎ ((i ≡ length r.prefixes) × (p ≡ q)) → Numbered g known q i
      named k p num r i q (inl e) = r.named i q e
      named k p num r i q (inr (e, same)) = subst₂ (λ x n. Numbered g known x n) same (sym (e ∙ r.long)) num

  pub too_many : (k : ℕ) → k < length known → HasMoreCores g k
  too_many k past =
      let r = many (suc k) past in
      record {
        some = r.prefixes;
        each = λ i q e. (let (kernel, at, kq) = r.named i q e in has_core g ok all q kq.has);
        apart = λ i j p q e f same. numbers_one p i j (r.named i p e) (moved_over p q j same (r.named j q f));
        many = (let l = r.long in omega (arith, l));
      }

-- cores by number, so many and no more
pub no_more : (g : Cfg) (cores : CoreList) (k : ℕ) → IsCores g cores → length cores.items ≤ k → HasMoreCores g k → ⊥
no_more g cores k c few =
    not_more (HasCore g) (SameCore g) k (λ p n. IsCore g cores n p)
    (λ p has. (let (n, is) = c.all p has in let low = is.inside in (n, omega (arith, low, few), is)))
    (λ p q n has some a b. same_number g cores n p q a b)

-- the first kernel alone
pub going_first : (g : Cfg) (known : List (List ℕ)) (made : CoreList) → known ≡ [] ∷ [] → made.items ≡ [] → made.moves ≡ [] → Going g known made
going_first g known made e is_items is_moves =
    subst (λ l. Going g l made) (sym e)
    (record {
      whose = λ m k l. whose m k l;
      apart = λ i j k a b. (let x = slice_get_within ([] ∷ []) i k a in let y = slice_get_within ([] ∷ []) j k b in omega (arith, x, y));
      first = refl;
      sizes = ap length is_moves ∙ sym (ap length is_items);
      single = λ n i j x a. absurd (let l : slice_get (slice_index_or [] n []) i ≡ Some x = subst (λ l. slice_get (slice_index_or l n []) i ≡ Some x) is_items a in no_item i x l);
      items = λ j p low. absurd (let l = ap length is_items in omega (arith, low, l));
      leads = λ j p x m low. absurd (let l = ap length is_items in omega (arith, low, l));
      goes = λ j p x low. absurd (let l = ap length is_items in omega (arith, low, l));
      rising = λ j. subst (λ l. Rising (slice_index_or l j [])) (sym is_moves) Rising.none;
      met = subst (λ l. Met (0 ∷ targets l) 1) (sym is_moves) met_one;
    })
  where
    whose : (m : ℕ) (k : List ℕ) → slice_get ([] ∷ []) m ≡ Some k → (p : List Sym) × IsKernel g p k
    whose zero k l = (let same : [] ≡ k = cc in ([], subst (λ z. IsKernel g [] z) same (first_kernel g)))
    whose (suc m) k l = cc

    no_item : (i : ℕ) (x : ℕ × ℕ) → slice_get [] i ≡ Some x → ⊥
    no_item i x e = cc

    met_one : Met (0 ∷ []) 1
    met_one = record { first = λ a b n k e low. first a b n k e low; each = λ k low. (0, omega arith, omega (arith, low)) }
      where
        first : (a b : List ℕ) (n k : ℕ) → 0 ∷ [] ≡ a ++ (n ∷ b) → k < n → Contains a k
        first [] b n k e low = (let z : 0 ≡ n = cc in absurd (omega (arith, z, low)))
        first (x ∷ a) b n k e low = absurd (let l = ap length e in let m = length-append a (n ∷ b) in omega (arith, l, m))

-- no number of an item is past its rule
pub item_dot : (g : Cfg) (p : List Sym) (r d : ℕ) (y : List Sym) → IsGrammar g → Item g p r d y → (d ≤ length (right_of g r)) × (r ≤ length g.rules)
item_dot g p r d y ok Item.start = (omega arith, omega arith)
item_dot g p r d y ok (Item.closure _ r2 d2 n y2 s _ i is) =
    let one : Rule = record { left = n; right = y } in
    let low = slice_get_within g.rules is.place one is.read in
    let f = is.from_one in
    (omega arith, omega (arith, low, f))
item_dot g p r d y ok (Item.move p2 r2 d2 x _ i) =
    let next = item_next g ok p2 r d2 x y i in
    let low = small_rule g ok p2 r d2 (x ∷ y) i in
    let read = subst₂ (λ a b. slice_get (right_of g a) b ≡ Some x) (code_rule r d2 low) (code_dot r d2 low) next in
    let inside = slice_get_within (right_of g r) d2 x read in
    (omega (arith, inside), (item_dot g p2 r d2 (x ∷ y) ok i).1)

pub right_short : (g : Cfg) → AreShort g → (r : ℕ) → length (right_of g r) ≤ 1048576
right_short g short zero = omega arith
right_short g short (suc i) = go (slice_get g.rules i) refl
  where
    go : (o : Option Rule) → slice_get g.rules i ≡ o → length (right_or o) ≤ 1048576
    go None e = omega arith
    go (Some one) e =
        let l = short i one (slice_get_within g.rules i one e) in
        let same : get_or g.rules i one ≡ one = get_or_from_slice_get g.rules i one one e in
        let m = ap (λ x. length x.right) same in
        omega (arith, l, m)

item_inside : (g : Cfg) → IsGrammar g → AreShort g → (p : List Sym) (c r d : ℕ) (y : List Sym) → c ≡ code r d → Item g p r d y → IsInside g c
item_inside g ok short p c r d y e i =
    let low = small_rule g ok p r d y i in
    let (dot, rule_low) = item_dot g p r d y ok i in
    let few = right_short g short r in
    let a = code_rule r d low in
    let b = code_dot r d low in
    let er = ap (λ n. n % 2048) e in
    let ed = ap (λ n. n / 2048) e in
    (omega (arith, er, a, rule_low), omega (arith, ed, b, dot, few))

pub kernel_inside : (g : Cfg) → IsGrammar g → AreShort g → (p : List Sym) (k : List ℕ) → IsKernel g p k → All (IsInside g) k
kernel_inside g ok short p k is i d low =
    let (r, e, y, at, item) = (is.each (get_or k i d)).0 (Contains-get_or k i d low) in
    item_inside g ok short p (get_or k i d) r (suc e) y at item

pub items_inside : (g : Cfg) → IsGrammar g → AreShort g → (p : List Sym) (k : List ℕ) → IsItems g p k → All (IsInside g) k
items_inside g ok short p k is i d low =
    let (r, e, y, at, item) = (is.each (get_or k i d)).0 (Contains-get_or k i d low) in
    item_inside g ok short p (get_or k i d) r e y at item

pub rows_longer : (g : Cfg) (items : List ℕ) (old : List (List ℕ)) (i : ℕ) (known : List (List ℕ)) (row : List (Sym × ℕ)) → Rows g items old i known row
    → length old ≤ length known
rows_longer g items old i known row Rows.at_first = omega arith
rows_longer g items old i known row (Rows.none j _ _ rows m) = rows_longer g items old j known row rows
rows_longer g items old i known row (Rows.one j m x kernel before _ start rows moves some interns sign at) =
    let low = rows_longer g items old j before start rows in
    let up = longer before known kernel m interns in omega (arith, low, up)
  where
    longer : (a b : List (List ℕ)) (k : List ℕ) (n : ℕ) → Interns a b k n → length a ≤ length b
    longer a b k n (Interns.known e at) = (let l = ap length e in omega (arith, l))
    longer a b k n (Interns.added absent e at) = (let l = ap length e ∙ length-append a (k ∷ []) in omega (arith, l))

pub known_inside : (g : Cfg) → IsGrammar g → AreShort g → (known : List (List ℕ)) (made : CoreList) (k : List ℕ) (n : ℕ) → Going g known made
    → slice_get known n ≡ Some k → All (IsInside g) k
known_inside g ok short known made k n t at = let (p, kp) = t.whose n k at in kernel_inside g ok short p k kp

pub opened_inside : (g : Cfg) → IsGrammar g → AreShort g → (known : List (List ℕ)) (made : CoreList) (k own : List ℕ) (n : ℕ) → Going g known made
    → slice_get known n ≡ Some k → IsOpened g k own → All (IsInside g) own
opened_inside g ok short known made k own n t at o =
    let (p, kp) = t.whose n k at in items_inside g ok short p own (items_is g ok p k own kp o)

pub start_kernels : (old new : List (List ℕ)) (name : List ℕ) (n : ℕ) → old ≡ [] → name ≡ [] → Interns old new name n → new ≡ [] ∷ []
start_kernels old new name n e f (Interns.known is at) = (let past : slice_get [] n ≡ Some name = subst (λ l. slice_get l n ≡ Some name) e at in cc)
start_kernels old new name n e f (Interns.added absent is at) = is ∙ ap₂ (λ a b. a ++ (b ∷ [])) e f
