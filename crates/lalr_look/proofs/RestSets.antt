-- What the symbols behind a dot begin with, and whether they vanish.
use Rattle.std.proofs.Common.{◌≡◌, ℕ, zero, suc, ◌+◌, ◌↔◌, ◌⊎◌, inl, inr, List, [], ◌∷◌, ◌++◌, refl, sym, ap, subst, ◌∙◌, arith, drop, slice_get, Option, Some, None, All}
use Rattle.std.proofs.lemmas.List.Elements.{All-tail}
use Rattle.ck_base.specs.BitSet.{BitSet, Has, Adds}
use Rattle.cfg_model.specs.declared.symbol.Sym.{Sym}
use Rattle.cfg_model.specs.declared.symbol.Sym.TheVariants.{T}
use Rattle.cfg_model.specs.Cfg.{Cfg, IsGrammar, IsSymbol}
use Rattle.cfg_model.specs.Derivation.{Forest, yield, Derive, nothing, token}
use Rattle.cfg_model.specs.Steps.{Steps, word}
use Rattle.cfg_model.specs.Sets.{First, Nullable, AllProductive}
use Rattle.cfg_model.specs.Items.{right_of}
use Rattle.cfg_model.specs.Valid.{Begins, first_of}
use Rattle.cfg_model.specs.Derivation.{Gives}
use Rattle.cfg_model.proofs.Forests.{gives_cut, gives_of_steps, steps_of_gives, steps_both, word_append}
use Rattle.cfg_model.proofs.InGrammar.{all_derive}
use Rattle.lalr_look.specs.within.Rests.{rest_of}
use Rattle.lalr_look.proofs.Items.{get_drop, right_ok}

-- a word of `y a` begins as one of y, or with a where y vanishes
pub begins_by_sets : (g : Cfg) (y : List Sym) (a b : ℕ) → Begins g y a b ↔ (First g y b ⊎ (Nullable g y × (a ≡ b)))
begins_by_sets g y a b = (λ h. there h.0 h.1 h.2, back)
  where
    there : (w : List ℕ) → Steps g y (word w) → first_of w a ≡ b → First g y b ⊎ (Nullable g y × (a ≡ b))
    there [] s e = inr (s, e)
    there (c ∷ w) s e = inl (w, subst (λ t. Steps g y (word (t ∷ w))) e s)

    back : First g y b ⊎ (Nullable g y × (a ≡ b)) → Begins g y a b
    back (inl (w, s)) = (b ∷ w, s, refl)
    back (inr (s, e)) = ([], s, e)

-- a terminal begins with itself alone
token_gives : (g : Cfg) (t : ℕ) (w : List ℕ) → Gives g (T t ∷ []) w → w ≡ t ∷ []
token_gives g t w x = x.yields ∙ go x.forest x.derive
  where
    go : (f : Forest ℕ) → Derive (λ t. t) g (T t ∷ []) f → yield f ≡ t ∷ []
    go _ (token _ k _ f is nothing) = ap (λ n. n ∷ []) is

pub first_token : (g : Cfg) (t a : ℕ) → First g (T t ∷ []) a ↔ (a ≡ t)
first_token g t a = (
  λ h. (let e = token_gives g t (a ∷ h.0) (gives_of_steps g (T t ∷ []) (a ∷ h.0) h.1) in cc),
  λ e. ([], subst (λ n. Steps g (T t ∷ []) (T n ∷ [])) (sym e) Steps.none),
)

pub token_stays : (g : Cfg) (t : ℕ) → Nullable g (T t ∷ []) → ⊥
token_stays g t h = (let e = token_gives g t [] (gives_of_steps g (T t ∷ []) [] h) in cc)

module _ (g : Cfg) (x : Sym) (u : List Sym) where
  -- the words of a list are those of its first symbol with those of the rest
  two_words : (w : List ℕ) → Steps g (x ∷ u) (word w) → (a : List ℕ) × (b : List ℕ) × (w ≡ a ++ b) × Steps g (x ∷ []) (word a) × Steps g u (word b)
  two_words w s =
      let (a, b, whole, first, second) = gives_cut g (x ∷ []) u (gives_of_steps g (x ∷ u) w s) in
      (a, b, whole, steps_of_gives g (x ∷ []) a first, steps_of_gives g u b second)

  one_word : (a b : List ℕ) → Steps g (x ∷ []) (word a) → Steps g u (word b) → Steps g (x ∷ u) (word (a ++ b))
  one_word a b s t = subst (λ l. Steps g (x ∷ u) l) (sym (word_append g a b)) (steps_both g s t)

  pub vanish_both : Nullable g (x ∷ u) ↔ (Nullable g (x ∷ []) × Nullable g u)
  vanish_both = (λ h. (let (a, b, whole, s, t) = two_words [] h in go a b whole s t), λ h. one_word [] [] h.0 h.1)
    where
      go : (a b : List ℕ) → [] ≡ a ++ b → Steps g (x ∷ []) (word a) → Steps g u (word b) → Nullable g (x ∷ []) × Nullable g u
      go [] [] e s t = (s, t)
      go [] (c ∷ b) e s t = cc
      go (c ∷ a) b e s t = cc

  -- what a list begins with, where the rest derives a word
  pub first_both : ((w : List ℕ) × Steps g u (word w)) → (a : ℕ) → First g (x ∷ u) a ↔ (First g (x ∷ []) a ⊎ (Nullable g (x ∷ []) × First g u a))
  first_both some a = (λ h. (let (v, w, whole, s, t) = two_words (a ∷ h.0) h.1 in go h.0 v w whole s t), back)
    where
      go : (w v z : List ℕ) → a ∷ w ≡ v ++ z → Steps g (x ∷ []) (word v) → Steps g u (word z) → First g (x ∷ []) a ⊎ (Nullable g (x ∷ []) × First g u a)
      go w [] z e s t = inr (s, (w, subst (λ l. Steps g u (word l)) (sym e) t))
      go w (c ∷ v) z e s t = (let same : c ≡ a = cc in inl (v, subst (λ n. Steps g (x ∷ []) (word (n ∷ v))) same s))

      back : First g (x ∷ []) a ⊎ (Nullable g (x ∷ []) × First g u a) → First g (x ∷ u) a
      back (inl (v, s)) = (v ++ some.0, one_word (a ∷ v) some.0 s some.1)
      back (inr (null, (v, t))) = (v, one_word [] (a ∷ v) null t)

-- the symbols of a rule from a place on
pub rest_cons : (g : Cfg) (r place : ℕ) (x : Sym) → slice_get (right_of g r) place ≡ Some x → rest_of g r place ≡ x ∷ rest_of g r (suc place)
rest_cons g r place x at = get_drop place (right_of g r) x at

pub rest_none : (g : Cfg) (r place : ℕ) → slice_get (right_of g r) place ≡ None → rest_of g r place ≡ []
rest_none g r place at = go place (right_of g r) at
  where
    go : (d : ℕ) (w : List Sym) → slice_get w d ≡ None → drop d w ≡ []
    go zero [] e = refl
    go zero (z ∷ w) e = cc
    go (suc d) [] e = refl
    go (suc d) (z ∷ w) e = go d w e

rest_ok : (g : Cfg) → IsGrammar g → (r place : ℕ) → All (IsSymbol g) (rest_of g r place)
rest_ok g ok r place = go place (right_of g r) (right_ok g ok r)
  where
    go : (d : ℕ) (w : List Sym) → All (IsSymbol g) w → All (IsSymbol g) (drop d w)
    go zero w all = all
    go (suc d) [] all = all
    go (suc d) (x ∷ w) all = go d w (All-tail (IsSymbol g) x w all)

-- so far: what the rest begins with is all that is missing
pub record RestSoFar (g : Cfg) (r from place : ℕ) (old now : BitSet) : Type 0 where
  pub size : now.size ≡ old.size
  pub only : (a : ℕ) → Has now a → Has old a ⊎ First g (rest_of g r from) a
  pub kept : (a : ℕ) → Has old a → Has now a
  pub more : (a : ℕ) → First g (rest_of g r from) a → Has now a ⊎ First g (rest_of g r place) a
  pub part : (a : ℕ) → First g (rest_of g r place) a → First g (rest_of g r from) a
  pub vanish : Nullable g (rest_of g r from) ↔ Nullable g (rest_of g r place)

module _ (g : Cfg) (ok : IsGrammar g) (all : AllProductive g) (r from place : ℕ) (x : Sym) (old now next : BitSet)
    (at : slice_get (right_of g r) place ≡ Some x) (t : RestSoFar g r from place old now) (adds : Adds now next (First g (x ∷ []))) where
  both : (a : ℕ) → First g (rest_of g r place) a ↔ (First g (x ∷ []) a ⊎ (Nullable g (x ∷ []) × First g (rest_of g r (suc place)) a))
  both a = subst (λ l. First g l a ↔ (First g (x ∷ []) a ⊎ (Nullable g (x ∷ []) × First g (rest_of g r (suc place)) a))) (sym (rest_cons g r place x at))
      (first_both g x (rest_of g r (suc place)) (all_derive g (rest_of g r (suc place)) all (rest_ok g ok r (suc place))) a)

  vanish_part : Nullable g (rest_of g r place) ↔ (Nullable g (x ∷ []) × Nullable g (rest_of g r (suc place)))
  vanish_part = subst (λ l. Nullable g l ↔ (Nullable g (x ∷ []) × Nullable g (rest_of g r (suc place)))) (sym (rest_cons g r place x at))
      (vanish_both g x (rest_of g r (suc place)))

  now_only : (a : ℕ) → Has now a ⊎ First g (x ∷ []) a → Has old a ⊎ First g (rest_of g r from) a
  now_only a (inl h) = t.only a h
  now_only a (inr f) = inr (t.part a ((both a).1 (inl f)))

  -- a symbol that can vanish
  pub rest_next : Nullable g (x ∷ []) → RestSoFar g r from (place + 1) old next
  rest_next null = subst (λ k. RestSoFar g r from k old next) (let e : suc place ≡ place + 1 = omega arith in e)
      (record {
        size = adds.size ∙ t.size;
        only = λ a h. now_only a (adds.only a h);
        kept = λ a h. adds.kept a (t.kept a h);
        more = λ a f. more a (t.more a f);
        part = λ a f. t.part a ((both a).1 (inr (null, f)));
        vanish = (λ h. (vanish_part.0 (t.vanish.0 h)).1, λ h. t.vanish.1 (vanish_part.1 (null, h)));
      })
    where
      more : (a : ℕ) → Has now a ⊎ First g (rest_of g r place) a → Has next a ⊎ First g (rest_of g r (suc place)) a
      more a (inl h) = inl (adds.kept a h)
      more a (inr f) = go ((both a).0 f)
        where
          go : First g (x ∷ []) a ⊎ (Nullable g (x ∷ []) × First g (rest_of g r (suc place)) a) → Has next a ⊎ First g (rest_of g r (suc place)) a
          go (inl h) = inl (adds.more a h)
          go (inr (n, h)) = inr h

  -- a symbol that can't
  pub rest_stops : (Nullable g (x ∷ []) → ⊥) → Adds old next (First g (rest_of g r from))
  rest_stops stays =
      record { size = adds.size ∙ t.size; only = λ a h. now_only a (adds.only a h); kept = λ a h. adds.kept a (t.kept a h); more = λ a f. more a (t.more a f) }
    where
      more : (a : ℕ) → Has now a ⊎ First g (rest_of g r place) a → Has next a
      more a (inl h) = adds.kept a h
      more a (inr f) = go ((both a).0 f)
        where
          go : First g (x ∷ []) a ⊎ (Nullable g (x ∷ []) × First g (rest_of g r (suc place)) a) → Has next a
          go (inl h) = adds.more a h
          go (inr (n, h)) = absurd (stays n)

  pub rest_stays : (Nullable g (x ∷ []) → ⊥) → Nullable g (rest_of g r from) → ⊥
  rest_stays stays h = stays (vanish_part.0 (t.vanish.0 h)).0

-- no symbol is left
pub rest_ends : (g : Cfg) (r from place : ℕ) (old now : BitSet) → slice_get (right_of g r) place ≡ None → RestSoFar g r from place old now
    → Adds old now (First g (rest_of g r from))
rest_ends g r from place old now at t =
    record { size = t.size; only = t.only; kept = t.kept; more = λ a f. go a (t.more a f) }
  where
    empty_yield : (f : Forest ℕ) → Derive (λ t. t) g [] f → yield f ≡ []
    empty_yield _ nothing = refl

    none_first : (a : ℕ) → First g [] a → ⊥
    none_first a (w, s) =
        let x = gives_of_steps g [] (a ∷ w) s in
        let none : a ∷ w ≡ [] = x.yields ∙ empty_yield x.forest x.derive in cc

    go : (a : ℕ) → Has now a ⊎ First g (rest_of g r place) a → Has now a
    go a (inl h) = h
    go a (inr f) = absurd (none_first a (subst (λ l. First g l a) (rest_none g r place at) f))

pub rest_vanishes : (g : Cfg) (r from place : ℕ) (old now : BitSet) → slice_get (right_of g r) place ≡ None → RestSoFar g r from place old now
    → Nullable g (rest_of g r from)
rest_vanishes g r from place old now at t = t.vanish.1 (subst (λ l. Nullable g l) (sym (rest_none g r place at)) Steps.none)

-- where nothing is found there is none
pub none_of : (o : Option Sym) → ((x : Sym) → o ≡ Some x → ⊥) → o ≡ None
none_of None h = refl
none_of (Some x) h = absurd (h x refl)

-- numbers of which the same holds
pub adds_first : (old new : BitSet) (P Q : ℕ → Type 0) → ((a : ℕ) → (P a → Q a) × (Q a → P a)) → Adds old new P → Adds old new Q
adds_first old new P Q same adds =
    record { size = adds.size; only = λ a h. go a (adds.only a h); kept = adds.kept; more = λ a h. adds.more a ((same a).1 h) }
  where
    go : (a : ℕ) → Has old a ⊎ P a → Has old a ⊎ Q a
    go a (inl h) = inl h
    go a (inr h) = inr ((same a).0 h)
