-- The faults of names and counts among the lines of REX.
use Rattle.std.specs.Prelude.{ℕ, ◌+◌, List, [], ◌∷◌, Option, Some, None, unwrap_or, codes}
use Rattle.ck_base.specs.declared.fault.Kind.{Kind}
use Rattle.ck_base.specs.declared.fault.Kind.TheVariants.{Limit, Twice, Unknown}
use Rattle.rex_model.specs.Language.{Re}
use Rattle.rex_model.specs.Positions.{position_count}
use Rattle.section_frame.specs.Declares.{Declared, Notation}
use Rattle.section_frame.specs.Words.{IsAgain, IsAmong, IsMissing, IsPast, name_before, names_by}
use Rattle.front_spec.specs.RexShapes.{Saying, state, rule, RexShape}

-- states are called by their lines
abbrev pub state_name : Saying → Option (List ℕ)
state_name (state name) = Some name
state_name (rule said) = None

-- tokens are called by the rules that give them
abbrev pub token_name : Saying → Option (List ℕ)
token_name (state name) = None
token_name (rule said) = said.token

-- all start states, in the order of their lines; STD is there without a line
abbrev pub all_states : List (Declared Saying) → List (List ℕ)
all_states ds = codes "STD" ∷ names_by state_name ds

-- the states by which a rule says where it is active
abbrev pub active_names : Saying → List (List ℕ)
active_names (state name) = []
active_names (rule said) = unwrap_or said.states []

-- the state behind GO
abbrev pub go_names : Saying → List (List ℕ)
go_names (state name) = []
go_names (rule said) = name_before said.next []

-- each state counts as one
abbrev pub one_state : Saying → ℕ
one_state (state name) = 1
one_state (rule said) = 0

-- the positions of a context
abbrev pub context_positions : Option Re → ℕ
context_positions None = 0
context_positions (Some context) = position_count context

-- a rule's positions: those of its body and of its context, and one end mark
abbrev pub positions_of : Saying → ℕ
positions_of (state name) = 0
positions_of (rule said) = position_count said.body + context_positions said.context + 1

-- among these declarations the one at the place, which says this, has a fault of the kind
pub data RexFault (ds : List (Declared Saying)) : Kind → ℕ → Saying → Type 0 where
  second_state : (i : ℕ) (said : Saying) → IsAgain state_name ds i said → RexFault ds Twice i said
  -- STD is there without a line
  state_is_std : (i : ℕ) (said : Saying) → IsAmong state_name (codes "STD" ∷ []) said → RexFault ds Twice i said
  -- END is the token at the end of a source
  token_is_end : (i : ℕ) (said : Saying) → IsAmong token_name (codes "END" ∷ []) said → RexFault ds Twice i said
  -- a state that no line declares
  no_active_state : (i : ℕ) (said : Saying) → IsMissing (all_states ds) (active_names said) → RexFault ds Unknown i said
  no_go_state : (i : ℕ) (said : Saying) → IsMissing (all_states ds) (go_names said) → RexFault ds Unknown i said
  -- with STD there are 64 at most
  too_many_states : (i : ℕ) (said : Saying) → IsPast one_state 63 ds i → RexFault ds Limit i said
  too_many_positions : (i : ℕ) (said : Saying) → IsPast positions_of 4096 ds i → RexFault ds Limit i said

-- the notation of REX
abbrev pub rex : Notation Saying
rex = record { Shape = RexShape; Fault = RexFault }
