-- The symbols that can stand first in a list, one by one.
use Rattle.std.proofs.Common.{◌≡◌, ℕ, zero, suc, ◌+◌, ◌<◌, ◌≤◌, false, ◌⊎◌, inl, inr, List, [], ◌∷◌, ◌++◌, length, refl, sym, ap, subst, arith, slice_get, Some}
use Rattle.std.proofs.lemmas.Option.{slice_get_within}
use Rattle.std.proofs.lemmas.Bool.{cases_eq}
use Rattle.ck_base.specs.BitSet.{BitSet, Has}
use Rattle.cfg_model.specs.declared.symbol.Sym.{Sym}
use Rattle.cfg_model.specs.declared.parts.Part.{Part}
use Rattle.cfg_model.specs.Cfg.{Cfg, Rule}
use Rattle.cfg_model.specs.within.Closing.{AllPass, Passes}
use Rattle.cfg_model.specs.within.Parts.{LeftPart, At, IsFront, AddsParts, AreLeftParts}
use Rattle.cfg_model.proofs.Locate.{not_empty}

pub at_front : {A : Type 0} (xs : List A) (y x : A) → At xs x → At (xs ++ (y ∷ [])) x
at_front [] y x (k, is) = absurd (let lt = slice_get_within [] k x is in omega arith)
at_front (a ∷ xs) y x (zero, is) = (zero, is)
at_front (a ∷ xs) y x (suc k, is) = let (j, there) = at_front xs y x (k, is) in (suc j, there)

pub at_end : {A : Type 0} (xs : List A) (y : A) → At (xs ++ (y ∷ [])) y
at_end [] y = (0, refl)
at_end (a ∷ xs) y = let (j, there) = at_end xs y in (suc j, there)

pub at_cases : {A : Type 0} (xs : List A) (y x : A) → At (xs ++ (y ∷ [])) x → At xs x ⊎ (x ≡ y)
at_cases [] y x (zero, is) = inr (let e : Some y ≡ Some x = is in cc)
at_cases [] y x (suc k, is) = absurd (let lt = slice_get_within (y ∷ []) (suc k) x is in omega arith)
at_cases (a ∷ xs) y x (zero, is) = inl (zero, is)
at_cases (a ∷ xs) y x (suc k, is) = elim (at_cases xs y x (k, is)) [
  | inl there ↦ inl (suc there.0, there.1)
  | inr same ↦ inr same
]

module _ (null : BitSet) where
  pub no_front : (s : Sym) → IsFront null [] s → ⊥
  no_front s front = not_empty front.before s front.after front.whole

  pub front_first : (s : Sym) (w : List Sym) → IsFront null (s ∷ w) s
  front_first s w = record { before = []; after = w; whole = refl; vanish = tt }

  pub front_later : (c s : Sym) (w : List Sym) → Passes false (Has null) c → IsFront null w s → IsFront null (c ∷ w) s
  front_later c s w pass front = record { before = c ∷ front.before; after = front.after; whole = ap (λ l. c ∷ l) front.whole; vanish = (pass, front.vanish) }

  pub front_cases : (c s : Sym) (w : List Sym) → IsFront null (c ∷ w) s → (s ≡ c) ⊎ (Passes false (Has null) c × IsFront null w s)
  front_cases c s w front = go front.before front.after front.whole front.vanish
    where
      go : (before after : List Sym) → c ∷ w ≡ before ++ (s ∷ after) → AllPass false (Has null) before → (s ≡ c) ⊎ (Passes false (Has null) c × IsFront null w s)
      go [] after whole pass = let head : c ≡ s = cc in inl (sym head)
      go (b ∷ before) after whole pass =
          let head : c ≡ b = cc in
          let tail : w ≡ before ++ (s ∷ after) = cc in
          inr (rw head pass.0, record { before = before; after = after; whole = tail; vanish = pass.1 })

  -- so far: what is left can still stand first, and is all that is missing
  pub record Adding (left : ℕ) (right rest : List Sym) (old now : List Part) : Type 0 where
    pub kept : (p : Part) → At old p → At now p
    pub only : (p : Part) → At now p → At old p ⊎ ((p.left ≡ left) × IsFront null right p.symbol)
    pub more : (s : Sym) → IsFront null right s → At now (record { left = left; symbol = s }) ⊎ IsFront null rest s
    pub later : (s : Sym) → IsFront null rest s → IsFront null right s

  abbrev as_part : ℕ → Sym → Part
  as_part left s = record { left = left; symbol = s }

  module _ (left : ℕ) (right : List Sym) (c : Sym) (rest : List Sym) (old now : List Part) (before : Adding left right (c ∷ rest) old now) where
    pub adding_pass : Passes false (Has null) c → Adding left right rest old (now ++ (as_part left c ∷ []))
    adding_pass pass = record {
      kept = λ p at. at_front now (as_part left c) p (before.kept p at);
      only = λ p at. elim (at_cases now (as_part left c) p at) [
        | inl was ↦ before.only p was
        | inr same ↦ inr (ap (λ (q : Part). q.left) same, subst (λ (s : Sym). IsFront null right s) (sym (ap (λ (q : Part). q.symbol) same)) (before.later c (front_first c rest)))
      ];
      more = λ s front. elim (before.more s front) [
        | inl there ↦ inl (at_front now (as_part left c) (as_part left s) there)
        | inr left_over ↦ elim (front_cases c s rest left_over) [
          | inl same ↦ inl (rw same (at_end now (as_part left c)))
          | inr later ↦ inr later.1
        ]
      ];
      later = λ s front. before.later s (front_later c s rest pass front);
    }

    pub adding_stop : (Passes false (Has null) c → ⊥) → Adding left right [] old (now ++ (as_part left c ∷ []))
    adding_stop stop = record {
      kept = λ p at. at_front now (as_part left c) p (before.kept p at);
      only = λ p at. elim (at_cases now (as_part left c) p at) [
        | inl was ↦ before.only p was
        | inr same ↦ inr (ap (λ (q : Part). q.left) same, subst (λ (s : Sym). IsFront null right s) (sym (ap (λ (q : Part). q.symbol) same)) (before.later c (front_first c rest)))
      ];
      more = λ s front. elim (before.more s front) [
        | inl there ↦ inl (at_front now (as_part left c) (as_part left s) there)
        | inr left_over ↦ elim (front_cases c s rest left_over) [
          | inl same ↦ inl (rw same (at_end now (as_part left c)))
          | inr later ↦ absurd (stop later.0)
        ]
      ];
      later = λ s front. absurd (no_front s front);
    }

  pub adding_done : (one : Rule) (rest : List Sym) (old now : List Part) → Adding one.left one.right rest old now → rest ≡ [] → AddsParts null one old now
  adding_done one rest old now adding none_left = record {
    kept = adding.kept;
    only = adding.only;
    more = λ s front. elim (adding.more s front) [ inl there ↦ there | inr left_over ↦ absurd (no_front s (rw none_left at left_over)) ];
  }

  pub adding_of_rule : (one : Rule) (left : ℕ) (right rest : List Sym) (old now : List Part) → left ≡ one.left → right ≡ one.right
      → Adding left right rest old now → rest ≡ [] → AddsParts null one old now
  adding_of_rule one left right rest old now left_is right_is adding none_left =
      adding_done one rest old now (rw (left_is, right_is) at adding) none_left

  -- the rules before the place have given their parts
  pub record PartsSoFar (g : Cfg) (i : ℕ) (parts : List Part) : Type 0 where
    pub only : (p : Part) → At parts p → LeftPart g null p.left p.symbol
    pub all : (k : ℕ) (one : Rule) (s : Sym) → k < i → slice_get g.rules k ≡ Some one → IsFront null one.right s → At parts (as_part one.left s)

  pub parts_more : (g : Cfg) (i : ℕ) (one : Rule) (old new : List Part) → slice_get g.rules i ≡ Some one → PartsSoFar g i old → AddsParts null one old new → PartsSoFar g (i + 1) new
  parts_more g i one old new is so_far adds = record {
    only = λ p at. elim (adds.only p at) [
      | inl was ↦ so_far.only p was
      | inr (left, front) ↦ record {
        number = i + 1;
        before = front.before;
        after = front.after;
        is_rule = record { place = i; from_one = refl; read = rw (left, ← front.whole) is };
        vanish = front.vanish;
      }
    ];
    all = λ k other s lt read front. elim (cases_eq k i) [
      | inl here_is ↦
          let there : slice_get g.rules i ≡ Some other = rw here_is at read in
          let same : other ≡ one = cc (there, is) in
          rw same (adds.more s (rw same at front))
      | inr before ↦ adds.kept (as_part other.left s) (so_far.all k other s (omega arith) read front)
    ];
  }

  pub parts_all : (g : Cfg) (i : ℕ) (parts : List Part) → PartsSoFar g i parts → length g.rules ≤ i → AreLeftParts g null parts
  parts_all g i parts so_far all = record {
    only = so_far.only;
    all = λ n s part.
        let one : Rule = record { left = n; right = part.before ++ (s ∷ part.after) } in
        so_far.all part.is_rule.place one s (omega (arith, slice_get_within g.rules part.is_rule.place one part.is_rule.read)) part.is_rule.read
        (record { before = part.before; after = part.after; whole = refl; vanish = part.vanish });
  }
