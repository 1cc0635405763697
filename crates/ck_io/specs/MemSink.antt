-- What a sink in memory is, which puts fail, and how many bytes a put takes.
use Rattle.std.specs.Prelude.{◌≡◌, ℕ, ◌-◌, ◌⊎◌, List, length, min, Contains}
use Rattle.ck_io.specs.Faults.{one_more}

-- a sink in memory as contracts see it: how many bytes a put takes at most, the room for bytes in all, the bytes so
-- far, the count of faults, and the calls so far, of which those with the numbers in `fails` fail
pub record SinkInMemory : Type 0 where
  pub per_call : ℕ
  pub room : ℕ
  pub bytes : List ℕ
  pub faults : ℕ
  pub calls : ℕ
  pub fails : List ℕ

-- the room that is left
abbrev pub room_left : SinkInMemory → ℕ
room_left sink = sink.room - length sink.bytes

-- how many bytes of a piece a put takes, where it does not fail
abbrev pub taken_of : SinkInMemory → List ℕ → ℕ
taken_of sink piece = min (length piece) (min sink.per_call (room_left sink))

-- the next put fails: it is one of the calls that fail, or no room is left
abbrev pub IsFailingPut : SinkInMemory → Type 0
IsFailingPut sink = Contains sink.fails (one_more sink.calls) ⊎ (room_left sink ≡ 0)
