-- Which kinds are looked for before which, and what is left when none is found.
use Rattle.std.proofs.Common.{ℕ, ◌<◌, arith}
use Rattle.ck_base.specs.declared.fault.Kind.{Kind}
use Rattle.ck_base.specs.declared.fault.Kind.TheVariants.{Section, Syntax, Limit, Twice, Unknown, Typing}
use Rattle.section_frame.specs.FirstFault.{rank, Judged, NoneEarlier, Accepts}

module _ {D : Type 0} (s : Judged D) (declared : D) where
  -- no line has a fault of the kind
  abbrev pub HasNone : Kind → Type 0
  HasNone kind = (line : ℕ) → s.Has declared kind line → ⊥

  pub before_twice : NoneEarlier s declared Twice
  before_twice other line some less has = omega (arith, some, less)

  pub before_unknown : HasNone Twice → NoneEarlier s declared Unknown
  before_unknown twice Section line some less has = omega (arith, some)
  before_unknown twice Syntax line some less has = omega (arith, some)
  before_unknown twice Twice line some less has = twice line has
  before_unknown twice Unknown line some less has = omega (arith, less)
  before_unknown twice Typing line some less has = omega (arith, less)
  before_unknown twice Limit line some less has = omega (arith, less)

  pub before_typing : HasNone Twice → HasNone Unknown → NoneEarlier s declared Typing
  before_typing twice unknown Section line some less has = omega (arith, some)
  before_typing twice unknown Syntax line some less has = omega (arith, some)
  before_typing twice unknown Twice line some less has = twice line has
  before_typing twice unknown Unknown line some less has = unknown line has
  before_typing twice unknown Typing line some less has = omega (arith, less)
  before_typing twice unknown Limit line some less has = omega (arith, less)

  pub before_limit : HasNone Twice → HasNone Unknown → HasNone Typing → NoneEarlier s declared Limit
  before_limit twice unknown typing Section line some less has = omega (arith, some)
  before_limit twice unknown typing Syntax line some less has = omega (arith, some)
  before_limit twice unknown typing Twice line some less has = twice line has
  before_limit twice unknown typing Unknown line some less has = unknown line has
  before_limit twice unknown typing Typing line some less has = typing line has
  before_limit twice unknown typing Limit line some less has = omega (arith, less)

  pub accepted : s.Declares declared → HasNone Twice → HasNone Unknown → HasNone Typing → HasNone Limit → Accepts s declared
  accepted all twice unknown typing limit = record { declares = all; no_fault = λ kind line some has. by kind line some has }
    where
      by : (kind : Kind) (line : ℕ) → 0 < rank kind → s.Has declared kind line → ⊥
      by Section line some has = omega (arith, some)
      by Syntax line some has = omega (arith, some)
      by Twice line some has = twice line has
      by Unknown line some has = unknown line has
      by Typing line some has = typing line has
      by Limit line some has = limit line has
