-- What an expression means, and when it means nothing, from what it was resolved to and the type of that.
use Rattle.std.proofs.Common.{◌≡◌, sym, ◌∙◌, subst, ℕ, List, [], ◌++◌, Bool, Some, None}
use Rattle.value_store.specs.declared.value.ValType.{ValType}
use Rattle.expr_lang.specs.Expression.{Expression}
use Rattle.expr_lang.specs.Meaning.{meaning, context_of, IsTypeOf}
use Rattle.expr_lang.specs.Typing.{HasType}
use Rattle.expr_lang.specs.declared.expr.Expr.{Expr}
use Rattle.expr_lang.specs.declared.expr.Scope.{Scope}
use Rattle.expr_read.specs.Resolving.{Vocabulary, Means, MeansNothing, resolved}
use Rattle.expr_read.specs.Spoken.{Spoken}
use Rattle.expr_read.specs.within.Meant.{AlwaysMeans}

none-some : {x : Expression} → None ≡ Some x → ⊥
none-some e = cc

some-some : {x y : Expression} → Some x ≡ Some y → x ≡ y
some-some e = cc

module _ (words : Vocabulary) (scope : Scope) (e : Spoken) (literals : List ℕ) where
  pub nothing_resolved : AlwaysMeans literals None (resolved words e) → (sources : ℕ → ℕ → Bool) → MeansNothing words (context_of scope sources) e
  nothing_resolved always sources x t means = none-some (always [] [] ∙ means.is)

  pub nothing_typed : (m : Expr) → AlwaysMeans literals (Some m) (resolved words e) → IsTypeOf scope m None → (sources : ℕ → ℕ → Bool) → MeansNothing words (context_of scope sources) e
  nothing_typed m always untyped sources x t means =
      untyped [] (literals ++ []) sources t
      (subst (λ y. HasType (context_of scope sources) y t) (sym (some-some (always [] [] ∙ means.is))) means.typed)

  pub means_typed : (m : Expr) (t : ValType) → AlwaysMeans literals (Some m) (resolved words e) → IsTypeOf scope m (Some t) → (source more : List ℕ) (sources : ℕ → ℕ → Bool)
      → Means words (context_of scope sources) e (meaning source (literals ++ more) m) t
  means_typed m t always typed source more sources = record { is = sym (always source more); typed = typed source (literals ++ more) sources }
