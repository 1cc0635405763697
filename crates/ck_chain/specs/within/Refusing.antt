-- What each reader's refusal is for the chain.
use Rattle.std.specs.Prelude.{ℕ, ◌≤◌, List, length, Option, Some, None}
use Rattle.ck_base.specs.declared.fault.SpecFault.{SpecFault}
use Rattle.ck_base.specs.declared.fault.SpecFault.TheVariants as fault
use Rattle.ck_base.specs.declared.refusal.Refusal.{Refusal}
use Rattle.ck_base.specs.declared.refusal.Refusal.TheVariants.{BadSpec, BadToken, SyntaxError}
use Rattle.parse_driver.specs.declared.refusal.ParseError.{ParseError}
use Rattle.parse_driver.specs.declared.refusal.ParseError.TheVariants as wrong
use Rattle.rex_model.specs.Place.{line_at, column_at}
use Rattle.rex_dfa.specs.declared.fault.DfaError.{DfaError}
use Rattle.ck_chain.specs.RexAccepts.{dfa_refusal}
use Rattle.ck_chain.specs.declared.refused.Refused.{Refused}
use Rattle.ck_chain.specs.declared.refused.Refused.TheVariants as why

-- that of a fault of the specification
abbrev pub refused_of : SpecFault → Refused
refused_of (fault.Bad line kind) = why.Refusal (BadSpec line kind)
refused_of fault.NoMemory = why.NoMemory

-- a refusal; want of memory where there is none
abbrev pub refused_with : Option Refusal → Refused
refused_with None = why.NoMemory
refused_with (Some r) = why.Refusal r

-- that of rules without tables
abbrev pub refused_of_tables : DfaError → Refused
refused_of_tables error = refused_with (dfa_refusal error)

-- that of a wrong place of a source
abbrev pub refused_at : List ℕ → ParseError → Refused
refused_at text (wrong.SyntaxError k at) = why.Refusal (SyntaxError (line_at text at) (column_at text at))
refused_at text (wrong.BadToken at) = why.Refusal (BadToken (line_at text at) (column_at text at))
refused_at text wrong.NoMemory = why.NoMemory

-- the place lies in the source, or at its end
abbrev pub IsPlaceIn : List ℕ → ParseError → Type 0
IsPlaceIn text (wrong.SyntaxError k at) = at ≤ length text
IsPlaceIn text (wrong.BadToken at) = at ≤ length text
IsPlaceIn text wrong.NoMemory = Unit {0}
