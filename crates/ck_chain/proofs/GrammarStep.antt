-- The section of a grammar of a file, if there is one, gives a grammar with a table, or is refused in one way.
use Rattle.std.proofs.Common.{◌≡◌, ◌≢◌, ℕ, Bool, true, false, List, Option, None, Some, refl, sym, ◌∙◌, ap, subst}
use Rattle.ck_base.specs.Found.{HasNo}
use Rattle.ck_base.specs.declared.refusal.Refusal.{Refusal}
use Rattle.ck_base.specs.declared.refusal.Refusal.TheVariants as refusal
use Rattle.cfg_model.specs.Cfg.{IsGrammar}
use Rattle.cfg_model.specs.declared.named.NamedGrammar.{NamedGrammar}
use Rattle.cfg_model.specs.declared.refused.LalrError.{LalrError}
use Rattle.cfg_model.specs.declared.refused.LalrError.TheVariants as lalr
use Rattle.ell_tables.specs.declared.refusal.EllError.{EllError}
use Rattle.ell_tables.specs.declared.refusal.EllError.TheVariants as ell
use Rattle.ell_tables.proofs.OneAnswer as ll_law
use Rattle.lalr_tables.proofs.OneAnswer as lr_law
use Rattle.front_spec.specs.GrammarPromise.{DeclaresGrammar}
use Rattle.front_spec.proofs.OneGrammar.{grammar_or_fault, one_grammar, one_grammar_fault, grammar_not_fault}
use Rattle.ck_chain.specs.GrammarAccepts.{ell_refusal, lalr_refusal, HasTable, for_ll, for_lr, HasNoTable, no_ll, no_lr, GivesGrammar, absent, with_table, RefusesGrammar, faulty, no_table}
use Rattle.ck_chain.proofs.InOrder.{IsStep}

-- a cause with a refusal isn't want of memory
ell_cause : (tokens : List (List ℕ)) (g : NamedGrammar) (error : EllError) (r : Refusal) → ell_refusal tokens g error ≡ Some r → error ≢ ell.NoMemory
ell_cause tokens g error r told is = by (rw is at told)
  where
    by : None ≡ Some r → ⊥
    by same = cc

lalr_cause : (tokens : List (List ℕ)) (g : NamedGrammar) (error : LalrError) (r : Refusal) → lalr_refusal tokens g error ≡ Some r
    → error ≢ lalr.NoMemory
lalr_cause tokens g error r told is = by (rw is at told)
  where
    by : None ≡ Some r → ⊥
    by same = cc

-- each cause but want of memory has a refusal
ell_told : (tokens : List (List ℕ)) (g : NamedGrammar) (error : EllError) → error ≢ ell.NoMemory
    → (r : Refusal) × (ell_refusal tokens g error ≡ Some r)
ell_told tokens g (ell.Unproductive n) other = (_, refl)
ell_told tokens g (ell.LeftRecursive n) other = (_, refl)
ell_told tokens g (ell.LlConflict n r q t) other = (_, refl)
ell_told tokens g ell.NoMemory other = absurd (other refl)

lalr_told : (tokens : List (List ℕ)) (g : NamedGrammar) (error : LalrError) → error ≢ lalr.NoMemory
    → (r : Refusal) × (lalr_refusal tokens g error ≡ Some r)
lalr_told tokens g (lalr.Unproductive n) other = (_, refl)
lalr_told tokens g (lalr.Cyclic n) other = (_, refl)
lalr_told tokens g (lalr.HiddenLeft n) other = (_, refl)
lalr_told tokens g lalr.TooManyStates other = (_, refl)
lalr_told tokens g (lalr.LalrConflict t r o) other = (_, refl)
lalr_told tokens g lalr.NoMemory other = absurd (other refl)

not_both_kinds : (g : NamedGrammar) → g.ell ≡ true → g.ell ≡ false → ⊥
not_both_kinds g is is2 = let same = sym is ∙ is2 in cc

some_same : (r s : Refusal) → Some r ≡ Some s → r ≡ s
some_same r s same = cc

module _ (tokens : List (List ℕ)) (g : NamedGrammar) where
  -- a grammar has no table for one reason
  one_reason : (r s : Refusal) → HasNoTable tokens g r → HasNoTable tokens g s → r ≡ s
  one_reason _ _ (no_ll a r is why told) (no_ll b s is2 why2 told2) =
      let same = ll_law.one_refusal g.grammar a b (ell_cause tokens g a r told) (ell_cause tokens g b s told2) why why2 in
      some_same r s (sym told ∙ ap (ell_refusal tokens g) same ∙ told2)
  one_reason _ _ (no_ll a r is why told) (no_lr b s is2 why2 told2) = absurd (not_both_kinds g is is2)
  one_reason _ _ (no_lr a r is why told) (no_ll b s is2 why2 told2) = absurd (not_both_kinds g is2 is)
  one_reason _ _ (no_lr a r is why told) (no_lr b s is2 why2 told2) =
      let same = lr_law.one_refusal g.grammar a b (lalr_cause tokens g a r told) (lalr_cause tokens g b s told2) why why2 in
      some_same r s (sym told ∙ ap (lalr_refusal tokens g) same ∙ told2)

  table_or_reason : (r : Refusal) → HasTable g → HasNoTable tokens g r → ⊥
  table_or_reason _ (for_ll is has) (no_ll a r is2 why told) = ll_law.not_both g.grammar a (ell_cause tokens g a r told) has why
  table_or_reason _ (for_ll is has) (no_lr a r is2 why told) = not_both_kinds g is is2
  table_or_reason _ (for_lr is has) (no_ll a r is2 why told) = not_both_kinds g is2 is
  table_or_reason _ (for_lr is has) (no_lr a r is2 why told) = lr_law.not_both g.grammar a (lalr_cause tokens g a r told) has why

  -- and it can't be that there is neither
  some_table : IsGrammar g.grammar → (HasTable g → ⊥) → HasNo (HasNoTable tokens g) → ⊥
  some_table in_range none no_reason = by g.ell refl
    where
      by : (kind : Bool) → g.ell ≡ kind → ⊥
      by true is = ll_law.table_or_refusal g.grammar in_range (λ has. none (for_ll is has)) (λ error cause why.
          let (r, told) = ell_told tokens g error cause in no_reason r (no_ll error r is why told))
      by false is = lr_law.table_or_refusal g.grammar in_range (λ has. none (for_lr is has)) (λ error cause why.
          let (r, told) = lalr_told tokens g error cause in no_reason r (no_lr error r is why told))

module _ (spec : List ℕ) (tokens : List (List ℕ)) where
  one_gift : (a b : Option NamedGrammar) → GivesGrammar spec tokens a → GivesGrammar spec tokens b → a ≡ b
  one_gift _ _ (absent none) (absent none2) = refl
  one_gift _ _ (absent none) (with_table g declares has) = absurd (none declares.ell declares.lines declares.section)
  one_gift _ _ (with_table g declares has) (absent none) = absurd (none declares.ell declares.lines declares.section)
  one_gift _ _ (with_table g declares has) (with_table h declares2 has2) = ap (λ x. Some x) (one_grammar spec tokens g h declares declares2)

  one_failure : (r s : Refusal) → RefusesGrammar spec tokens r → RefusesGrammar spec tokens s → r ≡ s
  one_failure _ _ (faulty line k first) (faulty other j second) =
      let (lines, kinds) = one_grammar_fault spec tokens line other k j first second in cc
  one_failure _ _ (faulty line k first) (no_table g s declares why) = absurd (grammar_not_fault spec tokens g line k declares first)
  one_failure _ _ (no_table g r declares why) (faulty line k first) = absurd (grammar_not_fault spec tokens g line k declares first)
  one_failure _ _ (no_table g r declares why) (no_table h s declares2 why2) =
      let same = one_grammar spec tokens g h declares declares2 in
      one_reason tokens h r s (subst (λ x. HasNoTable tokens x r) same why) why2

  not_both : (found : Option NamedGrammar) (r : Refusal) → GivesGrammar spec tokens found → RefusesGrammar spec tokens r → ⊥
  not_both _ _ (absent none) (faulty line k first) = none first.ell first.lines first.section
  not_both _ _ (absent none) (no_table h s declares why) = none declares.ell declares.lines declares.section
  not_both _ _ (with_table g declares has) (faulty line k first) = grammar_not_fault spec tokens g line k declares first
  not_both _ _ (with_table g declares has) (no_table h s declares2 why) =
      let same = one_grammar spec tokens h g declares2 declares in
      table_or_reason tokens g s has (subst (λ x. HasNoTable tokens x s) same why)

  module _ (in_range : (g : NamedGrammar) → DeclaresGrammar spec tokens g → IsGrammar g.grammar) where
    some : HasNo (GivesGrammar spec tokens) → HasNo (RefusesGrammar spec tokens) → ⊥
    some none no_refusal = none None (absent (λ is_ell lines has.
        grammar_or_fault spec tokens is_ell lines has
        (λ g declares. some_table tokens g (in_range g declares) (λ table. none (Some g) (with_table g declares table))
        (λ r why. no_refusal r (no_table g r declares why)))
        (λ line k first. no_refusal (refusal.BadSpec line k) (faulty line k first))))

    pub grammar_step : IsStep (GivesGrammar spec tokens) (RefusesGrammar spec tokens)
    grammar_step = record { one_gift = one_gift; one_failure = one_failure; not_both = not_both; some = some }

-- it isn't refused as wrong words
pub grammar_never_usage : (spec : List ℕ) (tokens : List (List ℕ)) (r : Refusal) → RefusesGrammar spec tokens r → r ≡ refusal.Usage → ⊥
grammar_never_usage spec tokens _ (faulty line k first) is = cc
grammar_never_usage spec tokens _ (no_table g r declares why) is = by r why is
  where
    ell_never : (error : EllError) → ell_refusal tokens g error ≡ Some refusal.Usage → ⊥
    ell_never (ell.Unproductive n) told = cc
    ell_never (ell.LeftRecursive n) told = cc
    ell_never (ell.LlConflict n r q t) told = cc
    ell_never ell.NoMemory told = cc

    lalr_never : (error : LalrError) → lalr_refusal tokens g error ≡ Some refusal.Usage → ⊥
    lalr_never (lalr.Unproductive n) told = cc
    lalr_never (lalr.Cyclic n) told = cc
    lalr_never (lalr.HiddenLeft n) told = cc
    lalr_never lalr.TooManyStates told = cc
    lalr_never (lalr.LalrConflict t r o) told = cc
    lalr_never lalr.NoMemory told = cc

    by : (r : Refusal) → HasNoTable tokens g r → r ≡ refusal.Usage → ⊥
    by _ (no_ll error r kind why told) is = ell_never error (told ∙ ap (λ x. Some x) is)
    by _ (no_lr error r kind why told) is = lalr_never error (told ∙ ap (λ x. Some x) is)
