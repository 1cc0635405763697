-- What going through the symbols of a core gives.
use Rattle.std.proofs.Common.{◌≡◌, ◌≢◌, ℕ, zero, suc, ◌+◌, ◌<◌, ◌⊎◌, inl, inr, List, [], ◌∷◌, ◌++◌, length, refl, sym, ap, subst, subst₂, ◌∙◌, arith, slice_get, Some, Contains, map, length-append}
use Rattle.std.proofs.lemmas.List.Elements.{Contains-append_left, Contains-append_right, Contains-append_cases}
use Rattle.std.proofs.lemmas.List.{map-append}
use Rattle.std.proofs.lemmas.Option.{slice_get_within}
use Rattle.lalr_look.specs.within.Numbered.{Interns}
use Rattle.lalr_look.proofs.Numbering.{value_of_longer}
use Rattle.cfg_model.specs.declared.symbol.Sym.{Sym}
use Rattle.cfg_model.specs.declared.symbol.Sym.TheVariants.{T, N}
use Rattle.cfg_model.specs.Cfg.{Cfg, IsSymbol, IsGrammar}
use Rattle.cfg_model.specs.Cores.{Before, Rising}
use Rattle.lalr_look.specs.within.Rising.{Met}
use Rattle.lalr_look.proofs.Ordered.{meet_known, meet_next}
use Rattle.lalr_look.proofs.Turns.{contained, this_or_less}
use Rattle.lalr_look.proofs.OfPrefix.{moved_kernel, moved_nothing, symbol_after, symbol_one}
use Rattle.lalr_look.specs.within.Kernel.{HasItem, IsItems, IsKernel, Moves, Rows, place_of, Numbered}

-- what interning does to a list of kernels
pub interns_kept : (old new : List (List ℕ)) (name : List ℕ) (n : ℕ) → Interns old new name n
    → (m : ℕ) (k : List ℕ) → slice_get old m ≡ Some k → slice_get new m ≡ Some k
interns_kept old new name n (Interns.known e at) m k is = subst (λ l. slice_get l m ≡ Some k) (sym e) is
interns_kept old new name n (Interns.added absent e at) m k is = subst (λ l. slice_get l m ≡ Some k) (sym e) (longer old name m k is)
  where
    longer : (l : List (List ℕ)) (name : List ℕ) (m : ℕ) (k : List ℕ) → slice_get l m ≡ Some k → slice_get (l ++ (name ∷ [])) m ≡ Some k
    longer [] name m k is = cc
    longer (x ∷ l) name zero k is = is
    longer (x ∷ l) name (suc m) k is = longer l name m k is

pub interns_there : (old new : List (List ℕ)) (name : List ℕ) (n : ℕ) → Interns old new name n → slice_get new n ≡ Some name
interns_there old new name n (Interns.known e at) = subst (λ l. slice_get l n ≡ Some name) (sym e) at
interns_there old new name n (Interns.added absent e at) =
    subst₂ (λ l i. slice_get l i ≡ Some name) (sym e) (sym at) (last old name)
  where
    last : (l : List (List ℕ)) (name : List ℕ) → slice_get (l ++ (name ∷ [])) (length l) ≡ Some name
    last [] name = refl
    last (x ∷ l) name = last l name

pub interns_only : (old new : List (List ℕ)) (name : List ℕ) (n : ℕ) → Interns old new name n
    → (m : ℕ) (k : List ℕ) → slice_get new m ≡ Some k → (slice_get old m ≡ Some k) ⊎ (k ≡ name)
interns_only old new name n (Interns.known e at) m k is = inl (subst (λ l. slice_get l m ≡ Some k) e is)
interns_only old new name n (Interns.added absent e at) m k is = go (value_of_longer old name k m (subst (λ l. slice_get l m ≡ Some k) e is))
  where
    go : (slice_get old m ≡ Some k) ⊎ ((m ≡ length old) × (name ≡ k)) → (slice_get old m ≡ Some k) ⊎ (k ≡ name)
    go (inl l) = inl l
    go (inr (a, b)) = inr (sym b)

abbrev pub AllApart : List (List ℕ) → Type 0
AllApart known = (i j : ℕ) (kernel : List ℕ) → slice_get known i ≡ Some kernel → slice_get known j ≡ Some kernel → i ≡ j

pub interns_apart : (old new : List (List ℕ)) (name : List ℕ) (n : ℕ) → Interns old new name n → AllApart old → AllApart new
interns_apart old new name n (Interns.known e at) apart i j k a b =
    apart i j k (subst (λ l. slice_get l i ≡ Some k) e a) (subst (λ l. slice_get l j ≡ Some k) e b)
interns_apart old new name n (Interns.added absent e at) apart i j k a b =
    go (value_of_longer old name k i (subst (λ l. slice_get l i ≡ Some k) e a)) (value_of_longer old name k j (subst (λ l. slice_get l j ≡ Some k) e b))
  where
    no_name : (m : ℕ) → slice_get old m ≡ Some k → name ≡ k → ⊥
    no_name m is same = absent (contained old m name (is ∙ ap (λ x. Some x) (sym same)))

    go : (slice_get old i ≡ Some k) ⊎ ((i ≡ length old) × (name ≡ k)) → (slice_get old j ≡ Some k) ⊎ ((j ≡ length old) × (name ≡ k)) → i ≡ j
    go (inl l) (inl r) = apart i j k l r
    go (inl l) (inr (r, s)) = absurd (no_name i l s)
    go (inr (l, s)) (inl r) = absurd (no_name j r s)
    go (inr (l, s)) (inr (r, t)) = l ∙ sym r

pub interns_met : (old new : List (List ℕ)) (name : List ℕ) (n : ℕ) → Interns old new name n → (ns : List ℕ)
    → Met ns (length old) → Met (ns ++ (n ∷ [])) (length new)
interns_met old new name n (Interns.known e at) ns met =
    subst (λ l. Met (ns ++ (n ∷ [])) l) (sym (ap length e)) (meet_known ns (length old) n met (slice_get_within old n name at))
interns_met old new name n (Interns.added absent e at) ns met =
    subst₂ (λ i l. Met (ns ++ (i ∷ [])) l) (sym at) (let l = ap length e ∙ length-append old (name ∷ []) in sym l) (meet_next ns (length old) met)

before_of : (g : Cfg) (y x : Sym) → IsSymbol g y → IsSymbol g x → place_of g y < place_of g x → Before y x
before_of g (T a) (T b) ok fine low = low
before_of g (T a) (N b) ok fine low = omega arith
before_of g (N a) (T b) ok fine low = absurd (omega (arith, fine, low))
before_of g (N a) (N b) ok fine low = omega (arith, low)

rising_on : (row : List (Sym × ℕ)) (x : Sym) (m : ℕ) → Rising row → ((y : Sym) (n : ℕ) → Contains row (y, n) → Before y x) → Rising (row ++ ((x, m) ∷ []))
rising_on row x m Rising.none below = Rising.one x m
rising_on row x m (Rising.one y n) below = Rising.more y x n m [] (below y n (0, omega arith, refl)) (Rising.one x m)
rising_on row x m (Rising.more y z n k rest low up) below =
    Rising.more y z n k (rest ++ ((x, m) ∷ [])) low
    (rising_on ((z, k) ∷ rest) x m up (λ w j c. below w j (further (y, n) (w, j) ((z, k) ∷ rest) c)))
  where
    further : (a b : Sym × ℕ) (l : List (Sym × ℕ)) → Contains l b → Contains (a ∷ l) b
    further a b l (i, low, is) = (suc i, omega (arith, low), is)

pub record RowFacts (g : Cfg) (p : List Sym) (old : List (List ℕ)) (i : ℕ) (known : List (List ℕ)) (row : List (Sym × ℕ)) : Type 0 where
  pub kept : (m : ℕ) (k : List ℕ) → slice_get old m ≡ Some k → slice_get known m ≡ Some k
  pub whose : (m : ℕ) (k : List ℕ) → slice_get known m ≡ Some k → (slice_get old m ≡ Some k) ⊎ ((q : List Sym) × IsKernel g q k)
  pub apart : AllApart old → AllApart known
  pub only : (x : Sym) (m : ℕ) → Contains row (x, m) → (place_of g x < i) × IsSymbol g x × Numbered g known (x ∷ p) m
  pub all : (x : Sym) → place_of g x < i → HasItem g (x ∷ p) → (m : ℕ) × Contains row (x, m)
  pub rising : Rising row
  pub met : (ns : List ℕ) → Met ns (length old) → Met (ns ++ map (λ m. m.1) row) (length known)

append_none : (ns : List ℕ) → ns ++ [] ≡ ns
append_none [] = refl
append_none (n ∷ ns) = ap (λ l. n ∷ l) (append_none ns)

append_twice : (a b c : List ℕ) → (a ++ b) ++ c ≡ a ++ (b ++ c)
append_twice [] b c = refl
append_twice (x ∷ a) b c = ap (λ l. x ∷ l) (append_twice a b c)

no_row : (g : Cfg) → IsGrammar g → (p : List Sym) (items : List ℕ) (old known : List (List ℕ)) (row : List (Sym × ℕ)) (i : ℕ) → IsItems g p items
    → RowFacts g p old i known row → Moves g items i (length items) [] → RowFacts g p old (i + 1) known row
no_row g ok p items old known row i is t m =
    record {
      kept = t.kept;
      whose = t.whose;
      apart = t.apart;
      rising = t.rising;
      met = t.met;
      only = λ x n c. (let (low, sign, num) = t.only x n c in (omega (arith, low), sign, num));
      all = λ x low has. go x has (this_or_less (place_of g x) i low);
    }
  where
    go : (x : Sym) → HasItem g (x ∷ p) → (place_of g x < i) ⊎ (place_of g x ≡ i) → (m : ℕ) × Contains row (x, m)
    go x has (inl low) = t.all x low has
    go x has (inr e) = absurd (moved_nothing g ok p items i x is (symbol_after g ok p x has) e m has)

last_move : (row : List (Sym × ℕ)) (b c : Sym × ℕ) → Contains (row ++ (b ∷ [])) c → Contains row c ⊎ (c ≡ b)
last_move row b c has = go (Contains-append_cases row (b ∷ []) c has)
  where
    go : Contains row c ⊎ Contains (b ∷ []) c → Contains row c ⊎ (c ≡ b)
    go (inl h) = inl h
    go (inr (zero, low, is)) = inr (sym is)
    go (inr (suc i, low, is)) = absurd (omega (arith, low))

one_row : (g : Cfg) → IsGrammar g → (p : List Sym) (items : List ℕ) (old known after : List (List ℕ)) (row : List (Sym × ℕ)) (i m : ℕ) (x : Sym) (kernel : List ℕ)
    → IsItems g p items → RowFacts g p old i known row → Moves g items i (length items) kernel → kernel ≢ [] → Interns known after kernel m
    → IsSymbol g x → place_of g x ≡ i → RowFacts g p old (i + 1) after (row ++ ((x, m) ∷ []))
one_row g ok p items old known after row i m x kernel is t moves some interns sign at =
    record {
      kept = λ n k l. interns_kept known after kernel m interns n k (t.kept n k l);
      whose = λ n k l. whose n k (interns_only known after kernel m interns n k l);
      apart = λ a. interns_apart known after kernel m interns (t.apart a);
      only = λ z n c. only z n (last_move row (x, m) (z, n) c);
      all = λ z low has. all z has (this_or_less (place_of g z) i low);
      rising = rising_on row x m t.rising (λ y n c. (let (low, fine, num) = t.only y n c in before_of g y x fine sign (omega (arith, low, at))));
      met = λ ns met. subst (λ l. Met l (length after)) (append_twice ns (map (λ z. z.1) row) (m ∷ []) ∙ ap (λ l. ns ++ l) (sym (map-append (λ z. z.1) row ((x, m) ∷ []))))
          (interns_met known after kernel m interns (ns ++ map (λ z. z.1) row) (t.met ns met));
    }
  where
    here : IsKernel g (x ∷ p) kernel
    here = moved_kernel g ok p items i kernel x is sign at moves some

    whose : (n : ℕ) (k : List ℕ) → (slice_get known n ≡ Some k) ⊎ (k ≡ kernel) → (slice_get old n ≡ Some k) ⊎ ((q : List Sym) × IsKernel g q k)
    whose n k (inl l) = t.whose n k l
    whose n k (inr e) = inr (x ∷ p, subst (λ l. IsKernel g (x ∷ p) l) (sym e) here)

    only : (z : Sym) (n : ℕ) → Contains row (z, n) ⊎ (◌≡◌ {A = Sym × ℕ} (z, n) (x, m)) → (place_of g z < i + 1) × IsSymbol g z × Numbered g after (z ∷ p) n
    only z n (inl c) =
        let (low, fine, (k, l, kern)) = t.only z n c in
        (omega (arith, low), fine, (k, interns_kept known after kernel m interns n k l, kern))
    only z n (inr e) =
        let same : z ≡ x = ap (λ a. a.0) e in
        let number : n ≡ m = ap (λ a. a.1) e in
        subst₂ (λ u v. (place_of g u < i + 1) × IsSymbol g u × Numbered g after (u ∷ p) v) (sym same) (sym number)
        (omega (arith, at), sign, (kernel, interns_there known after kernel m interns, here))

    all : (z : Sym) → HasItem g (z ∷ p) → (place_of g z < i) ⊎ (place_of g z ≡ i) → (n : ℕ) × Contains (row ++ ((x, m) ∷ [])) (z, n)
    all z has (inl low) = let (n, c) = t.all z low has in (n, Contains-append_left row ((x, m) ∷ []) (z, n) c)
    all z has (inr e) =
        let same : z ≡ x = symbol_one g z x (symbol_after g ok p z has) sign (e ∙ sym at) in
        (m, Contains-append_right row ((x, m) ∷ []) (z, m) (0, omega arith, ap (λ u. (u, m)) (sym same)))

pub row_facts : (g : Cfg) → IsGrammar g → (p : List Sym) (items : List ℕ) (old known : List (List ℕ)) (row : List (Sym × ℕ)) (i : ℕ) → IsItems g p items
    → Rows g items old i known row → RowFacts g p old i known row
row_facts g ok p items old known row i is Rows.at_first =
    record {
      kept = λ m k l. l;
      whose = λ m k l. inl l;
      apart = λ a. a;
      only = λ x m c. absurd (let low = c.1 in omega (arith, low));
      all = λ x low. absurd (omega (arith, low));
      rising = Rising.none;
      met = λ ns met. subst (λ l. Met l (length old)) (sym (append_none ns)) met;
    }
row_facts g ok p items old known row i is (Rows.none j _ _ rows m) =
    no_row g ok p items old known row j is (row_facts g ok p items old known row j is rows) m
row_facts g ok p items old known row i is (Rows.one j m x kernel before _ start rows moves some interns sign at) =
    one_row g ok p items old before known start j m x kernel is (row_facts g ok p items old before start j is rows) moves some interns sign at
