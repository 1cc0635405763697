-- Exactly one of these: a section has one first fault, or is accepted with one declaration.
use Rattle.std.proofs.Common.{◌≡◌, ℕ, zero, suc, ◌+◌, ◌<◌, ◌⊎◌, inl, inr, refl, sym, ap, ◌∙◌, arith}
use Rattle.ck_base.specs.declared.fault.Kind.{Kind}
use Rattle.ck_base.specs.declared.fault.Kind.TheVariants.{Section, Syntax, Limit, Twice, Unknown, Typing}
use Rattle.spec_text.specs.Least.{Least}
use Rattle.section_frame.specs.FirstFault.{rank, Judged, Shapeless, NoneEarlier, FirstFault, of_shape, of_kind, Accepts, ExactlyOne}
use Rattle.spec_text.proofs.Least.{one_least, no_least}
use Rattle.spec_text.proofs.Lists.{order}

-- what a section owes for the law: a line has one kind of no shape; lines declare one thing, only where each
-- has a shape, and always then
pub record IsDetermined {D : Type 0} (s : Judged D) : Type 0 where
  pub one_kind : (line : ℕ) (kind other : Kind) → s.NoShape line kind → s.NoShape line other → kind ≡ other
  pub one : (declared others : D) → s.Declares declared → s.Declares others → declared ≡ others
  pub apart : (declared : D) (line : ℕ) (kind : Kind) → s.Declares declared → s.NoShape line kind → ⊥
  pub whole : ((line : ℕ) → Shapeless s line → ⊥) → ((declared : D) → s.Declares declared → ⊥) → ⊥

-- kinds of one rank above 0 are one kind
abbrev kind_at : ℕ → Kind
kind_at zero = Syntax
kind_at (suc zero) = Twice
kind_at (suc (suc zero)) = Unknown
kind_at (suc (suc (suc zero))) = Typing
kind_at (suc (suc (suc (suc n)))) = Limit

by_its_rank : (kind : Kind) → 0 < rank kind → kind_at (rank kind) ≡ kind
by_its_rank Section some = absurd (omega (arith, some))
by_its_rank Syntax some = absurd (omega (arith, some))
by_its_rank Twice some = refl
by_its_rank Unknown some = refl
by_its_rank Typing some = refl
by_its_rank Limit some = refl

one_rank : (kind other : Kind) → 0 < rank kind → rank kind ≡ rank other → kind ≡ other
one_rank kind other some same =
    sym (by_its_rank kind some) ∙ ap kind_at same ∙ by_its_rank other (omega (arith, some, same))

module _ {D : Type 0} (s : Judged D) (is : IsDetermined s) where
  -- two faults of one declaration
  by_rank : (d : D) (line other : ℕ) (kind worse : Kind)
      → (rank kind < rank worse) ⊎ ((rank worse < rank kind) ⊎ (rank kind ≡ rank worse)) → 0 < rank kind → 0 < rank worse
      → NoneEarlier s d kind → NoneEarlier s d worse
      → Least (s.Has d kind) line → Least (s.Has d worse) other → (line ≡ other) × (kind ≡ worse)
  by_rank d line other kind worse (inl less) some some2 none none2 f g = absurd (none2 kind line some less f.is)
  by_rank d line other kind worse (inr (inl less)) some some2 none none2 f g = absurd (none worse other some2 less g.is)
  by_rank d line other kind worse (inr (inr same)) some some2 none none2 f g =
      let k = one_rank kind worse some same in (one_least (s.Has d kind) line other f (rw (← k) at g), k)

  one_fault : (line other : ℕ) (kind worse : Kind) → FirstFault s line kind → FirstFault s other worse → (line ≡ other) × (kind ≡ worse)
  one_fault _ _ _ _ (of_shape line kind least none) (of_shape other worse least2 none2) =
      let same : line ≡ other = one_least _ line other least least2 in (same, is.one_kind line kind worse none (rw (← same) at none2))
  one_fault _ _ _ _ (of_shape line kind least none) (of_kind d other worse declares some earlier least2) = absurd (is.apart d line kind declares none)
  one_fault _ _ _ _ (of_kind d other worse declares some earlier least2) (of_shape line kind least none) = absurd (is.apart d line kind declares none)
  one_fault _ _ _ _ (of_kind d line kind declares some earlier least) (of_kind d2 other worse declares2 some2 earlier2 least2) =
      let same : d2 ≡ d = is.one d2 d declares2 declares in
      by_rank d line other kind worse (order (rank kind) (rank worse)) some some2 earlier (rw same at earlier2) least (rw same at least2)

  not_both : (d : D) (line : ℕ) (kind : Kind) → Accepts s d → FirstFault s line kind → ⊥
  not_both d _ _ accepts (of_shape line kind least none) = is.apart d line kind accepts.declares none
  not_both d _ _ accepts (of_kind d2 line kind declares some earlier least) =
      let same : d2 ≡ d = is.one d2 d declares accepts.declares in
      accepts.no_fault kind line some (rw same at least.is)

  -- where there is no first fault, no line has a fault of any kind
  no_kind : (d : D) → s.Declares d → ((line : ℕ) (kind : Kind) → FirstFault s line kind → ⊥) → (bound : ℕ) (kind : Kind)
      → rank kind < bound → 0 < rank kind → (line : ℕ) → s.Has d kind line → ⊥
  no_kind d declares none zero kind less some line has = omega (arith, less)
  no_kind d declares none (suc bound) kind less some line has =
      let lower = no_kind d declares none bound in
      no_least (s.Has d kind)
      (λ n least. none n kind (of_kind d n kind declares some
      (λ other at some2 below has2. lower other (omega (arith, below, less)) some2 at has2) least))
      (line + 1) line (omega arith) has

  not_neither : ((d : D) → Accepts s d → ⊥) → ((line : ℕ) (kind : Kind) → FirstFault s line kind → ⊥) → ⊥
  not_neither unaccepted none =
      is.whole
      (λ line shapeless. no_least (Shapeless s) (λ n least. none n least.is.0 (of_shape n least.is.0 least least.is.1))
      (line + 1) line (omega arith) shapeless)
      (λ d declares. unaccepted d (record {
        declares = declares;
        no_fault = λ kind line some has. no_kind d declares none (rank kind + 1) kind (omega arith) some line has;
      }))

  pub exactly_one : ExactlyOne s
  exactly_one = record {
    one_fault = one_fault;
    one_declared = λ d e f g. is.one d e f.declares g.declares;
    not_both = not_both;
    not_neither = not_neither;
  }
