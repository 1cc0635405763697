-- The first fault of a section: a line without a shape, else the kinds one after the other. Lines are named
-- by their numbers.
use Rattle.std.specs.Prelude.{◌≡◌, ℕ, ◌<◌}
use Rattle.ck_base.specs.declared.fault.Kind.{Kind}
use Rattle.ck_base.specs.declared.fault.Kind.TheVariants.{Section, Syntax, Limit, Twice, Unknown, Typing}
use Rattle.spec_text.specs.Least.{Least}

-- in which order the kinds are looked for; a line without a shape comes before all of them
abbrev pub rank : Kind → ℕ
rank Section = 0
rank Syntax = 0
rank Twice = 1
rank Unknown = 2
rank Typing = 3
rank Limit = 4

-- how the lines of a section are judged
pub record Judged (D : Type 0) : Type 1 where
  -- the line has no shape, and is reported with this kind
  pub NoShape : ℕ → Kind → Type 0
  -- the lines declare this together
  pub Declares : D → Type 0
  -- where this is declared, the line has a fault of the kind
  pub Has : D → Kind → ℕ → Type 0

module _ {D : Type 0} (s : Judged D) where
  abbrev pub Shapeless : ℕ → Type 0
  Shapeless line = (kind : Kind) × s.NoShape line kind

  -- no line has a fault of a kind that is looked for earlier
  abbrev pub NoneEarlier : D → Kind → Type 0
  NoneEarlier declared kind =
      (other : Kind) (line : ℕ) → 0 < rank other → rank other < rank kind → s.Has declared other line → ⊥

  -- the first fault, by its line and its kind
  pub data FirstFault : ℕ → Kind → Type 0 where
    of_shape : (line : ℕ) (kind : Kind) → Least Shapeless line → s.NoShape line kind → FirstFault line kind
    of_kind : (declared : D) (line : ℕ) (kind : Kind) → s.Declares declared → 0 < rank kind
        → NoneEarlier declared kind → Least (s.Has declared kind) line → FirstFault line kind

  -- all lines declare this, and none has a fault
  pub record Accepts (declared : D) : Type 0 where
    pub declares : s.Declares declared
    pub no_fault : (kind : Kind) (line : ℕ) → 0 < rank kind → s.Has declared kind line → ⊥

  -- a section has one first fault or is accepted with one declaration, and not both
  pub record ExactlyOne : Type 0 where
    pub one_fault : (line other : ℕ) (kind worse : Kind) → FirstFault line kind → FirstFault other worse
        → (line ≡ other) × (kind ≡ worse)
    pub one_declared : (declared others : D) → Accepts declared → Accepts others → declared ≡ others
    pub not_both : (declared : D) (line : ℕ) (kind : Kind) → Accepts declared → FirstFault line kind → ⊥
    pub not_neither : ((declared : D) → Accepts declared → ⊥)
        → ((line : ℕ) (kind : Kind) → FirstFault line kind → ⊥) → ⊥
