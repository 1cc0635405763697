-- One more turn of each loop over cores.
use Rattle.std.proofs.Common.{◌≡◌, ℕ, ◌+◌, ◌<◌, ◌≤◌, ◌↔◌, ◌⊎◌, inl, inr, List, [], ◌∷◌, ◌++◌, length, refl, sym, ap, subst, ◌∙◌, arith, slice_get, Some, Contains, get_or}
use Rattle.std.proofs.lemmas.Option.{slice_get-get_or, slice_get_within, get_or_from_slice_get}
use Rattle.ck_base.specs.BitSet.{BitSet, Has, Adds}
use Rattle.lalr_look.specs.within.Numbered.{Interns}
use Rattle.cfg_model.specs.declared.symbol.Sym.{Sym}
use Rattle.cfg_model.specs.declared.symbol.Sym.TheVariants.{N}
use Rattle.cfg_model.specs.Cfg.{Cfg, Rule, IsSymbol}
use Rattle.lalr_look.specs.within.Kernel.{NextIs, Calls, CalledAt, CalledBy, Moves, Opens, Rows, place_of, IsOpened}

-- the nonterminals that the first items call
abbrev pub CalledFirst : Cfg → List ℕ → ℕ → ℕ → Type 0
CalledFirst g front count n = (j : ℕ) × (c : ℕ) × (j < count) × (slice_get front j ≡ Some c) × CalledAt g c n

pub this_or_less : (j k : ℕ) → j < k + 1 → (j < k) ⊎ (j ≡ k)
this_or_less j k low = grind arith

pub call_on : (g : Cfg) (front : List ℕ) (k c : ℕ) (old new : BitSet) → ((n : ℕ) → Has old n ↔ CalledFirst g front k n)
    → Adds old new (CalledAt g c) → slice_get front k ≡ Some c → (n : ℕ) → Has new n ↔ CalledFirst g front (k + 1) n
call_on g front k c old new so_far adds at n = (λ has. there (adds.only n has), λ called. back called)
  where
    there : Has old n ⊎ CalledAt g c n → CalledFirst g front (k + 1) n
    there (inl h) = let (j, b, low, is, calls) = (so_far n).0 h in (j, b, omega (arith, low), is, calls)
    there (inr calls) = (k, c, omega arith, at, calls)

    back : CalledFirst g front (k + 1) n → Has new n
    back (j, b, low, is, calls) = go (this_or_less j k low)
      where
        go : (j < k) ⊎ (j ≡ k) → Has new n
        go (inl less) = adds.kept n ((so_far n).1 (j, b, less, is, calls))
        go (inr e) =
            let same : Some b ≡ Some c = sym is ∙ (ap (slice_get front) e ∙ at) in
            let one : b ≡ c = cc in
            adds.more n (subst (λ z. CalledAt g z n) one calls)

pub contained : {X : Type 0} (l : List X) (j : ℕ) (c : X) → slice_get l j ≡ Some c → Contains l c
contained l j c is = (j, slice_get_within l j c is, get_or_from_slice_get l j c c is)

pub placed : {X : Type 0} (l : List X) (j : ℕ) (c : X) → j < length l → get_or l j c ≡ c → slice_get l j ≡ Some c
placed l j c low is = slice_get-get_or l j c low ∙ ap Some is

pub called_all : (g : Cfg) (front : List ℕ) (k : ℕ) (set : BitSet) → ((n : ℕ) → Has set n ↔ CalledFirst g front k n) → length front ≤ k
    → (n : ℕ) → Has set n ↔ CalledBy g front n
called_all g front k set so_far all n = (
  λ has. (let (j, c, low, is, calls) = (so_far n).0 has in
      record { item = c; from = calls.0; stands = contained front j c is; next = calls.1; calls = calls.2 }),
  λ called. (let (j, low, is) = called.stands in
      (so_far n).1 (j, called.item, omega (arith, low, all), placed front j called.item low is, (called.from, called.next, called.calls))),
)

-- what one item calls
pub adds_called : (g : Cfg) (c m : ℕ) (old new from : BitSet) → NextIs g c (N m) → ((n : ℕ) → Has from n ↔ Calls g m n)
    → Adds old new (Has from) → Adds old new (CalledAt g c)
adds_called g c m old new from next is adds =
    record {
      size = adds.size;
      only = λ i has. go i (adds.only i has);
      kept = adds.kept;
      more = λ i called. adds.more i ((is i).1 (subst (λ k. Calls g k i) (same called.0 called.1) called.2));
    }
  where
    go : (i : ℕ) → Has old i ⊎ Has from i → Has old i ⊎ CalledAt g c i
    go i (inl h) = inl h
    go i (inr h) = inr (m, next, (is i).0 h)

    same : (k : ℕ) → NextIs g c (N k) → k ≡ m
    same k other = (let one : Some (N k) ≡ Some (N m) = sym other ∙ next in cc)

pub row_none : (g : Cfg) (items : List ℕ) (first known : List (List ℕ)) (row : List (Sym × ℕ)) (i : ℕ) (kernel : List ℕ)
    → Moves g items i (length items) kernel → length kernel ≡ 0 → Rows g items first i known row → Rows g items first (i + 1) known row
row_none g items first known row i [] m e rows = Rows.none i known row rows m
row_none g items first known row i (c ∷ kernel) m e rows = absurd (omega (arith, e))

pub row_one : (g : Cfg) (items : List ℕ) (first known after : List (List ℕ)) (row longer : List (Sym × ℕ)) (i m : ℕ) (x : Sym) (kernel : List ℕ)
    → Moves g items i (length items) kernel → 0 < length kernel → Interns known after kernel m → IsSymbol g x → place_of g x ≡ i
    → longer ≡ row ++ ((x, m) ∷ []) → Rows g items first i known row → Rows g items first (i + 1) after longer
row_one g items first known after row longer i m x kernel moves some interns sym_ok at e rows =
    subst (λ l. Rows g items first (i + 1) after l) (sym e)
    (Rows.one i m x kernel known after row rows moves
    (λ none. (let l : length kernel ≡ 0 = ap length none in omega (arith, l, some))) interns sym_ok at)

pub opened_first : (g : Cfg) (called : BitSet) (front items whole : List ℕ)
    → ((n : ℕ) → Has called n ↔ CalledBy g (0 ∷ []) n) → front ≡ 0 ∷ [] → Opens g called front (length g.rules) items
    → (kernel : List ℕ) → length kernel ≡ 0 → IsOpened g kernel items
opened_first g called front items whole calls is opens [] e =
    record {
      called = called;
      calls = calls;
      front = items;
      opens = subst (λ l. Opens g called l (length g.rules) items) is opens;
      whole = append_empty items;
    }
  where
    append_empty : (l : List ℕ) → l ≡ l ++ []
    append_empty [] = refl
    append_empty (x ∷ l) = ap (λ r. x ∷ r) (append_empty l)
opened_first g called front items whole calls is opens (c ∷ kernel) e = absurd (omega (arith, e))

pub opened_next : (g : Cfg) (called : BitSet) (front items whole kernel : List ℕ)
    → ((n : ℕ) → Has called n ↔ CalledBy g kernel n) → front ≡ [] → Opens g called front (length g.rules) items
    → 0 < length kernel → whole ≡ items ++ kernel → IsOpened g kernel whole
opened_next g called front items whole [] calls is opens some e = absurd (omega (arith, some))
opened_next g called front items whole (c ∷ kernel) calls is opens some e =
    record {
      called = called;
      calls = calls;
      front = items;
      opens = subst (λ l. Opens g called l (length g.rules) items) is opens;
      whole = e;
    }

pub open_on : (g : Cfg) (called : BitSet) (front items after : List ℕ) (j : ℕ) (one : Rule) → Opens g called front j items
    → slice_get g.rules j ≡ Some one → Has called one.left → after ≡ items ++ ((j + 1) ∷ []) → Opens g called front (j + 1) after
open_on g called front items after j one o is has e = subst (λ l. Opens g called front (j + 1) l) (sym e) (Opens.opened j one items o is has)

pub open_past : (g : Cfg) (called : BitSet) (front items after : List ℕ) (j : ℕ) (one : Rule) → Opens g called front j items
    → slice_get g.rules j ≡ Some one → (Has called one.left → ⊥) → after ≡ items → Opens g called front (j + 1) after
open_past g called front items after j one o is has e = subst (λ l. Opens g called front (j + 1) l) (sym e) (Opens.passed j one items o is has)
