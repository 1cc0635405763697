-- What is told of files and sinks, and counts of faults, tried on cases that are worked by hand.
use Rattle.std.proofs.Common.{◌≡◌, ◌≢◌, ℕ, zero, suc, ◌-◌, ◌^◌, inl, inr, lit<, false, List, [], ◌∷◌, length, slice_index, Some, None, unwrap_or, Ok, Err, codes, refl, ap, arith}
use Rattle.std.specs.Io.KnownBytes.{Appends}
use Rattle.ck_io.specs.Contents.{IsPart, part_len, ReadsAt, IsTold, IsLonger, FitsIn, SameContents, AddsFile}
use Rattle.ck_io.specs.Faults.{one_more, Rose, SameFaults, NoneFell}
use Rattle.ck_io.specs.Folder.{File, has_name, place_in, bytes_at, bytes_in, with_file}
use Rattle.ck_io.specs.MemFiles.{FilesInMemory, contents_of, faults_of, ShareCount, CountsFault, IsFailingRead}
use Rattle.ck_io.specs.MemSink.{SinkInMemory, taken_of}
use Rattle.ck_io.specs.MemSink as sink
use Rattle.ck_io.specs.NeverFails as never_fails

-- two bytes from byte 1 on of "abc", read into a buffer of three
some_part : IsPart (codes "abc") 1 2 (98 ∷ 99 ∷ 0 ∷ [])
some_part = record { bytes = refl; end = (λ e. cc, λ le. omega (arith, le)) }

-- fewer bytes than there are may come
short_part : IsPart (codes "abc") 1 1 (98 ∷ 0 ∷ 0 ∷ [])
short_part = record { bytes = refl; end = (λ e. cc, λ le. omega (arith, le)) }

-- at the end of "abc" no byte comes
end_part : IsPart (codes "abc") 3 0 (0 ∷ [])
end_part = record { bytes = refl; end = (λ e. omega arith, λ le. refl) }

-- no byte before the end is no part of the file
no_part : (into : List ℕ) → IsPart (codes "abc") 1 0 into → ⊥
no_part into part = omega (arith, part.end.0 refl)

-- from byte 1 on there is one byte for a room of 1, there are two for a room of 9, and from byte 5 on there is none
part_lens : (part_len (codes "abc") 1 1 ≡ 1) × (part_len (codes "abc") 1 9 ≡ 2) × (part_len (codes "abc") 5 9 ≡ 0)
part_lens = (refl, refl, refl)

-- a read that failed says nothing of the bytes, and nor does one of a file that isn't told
failed_read : (into : List ℕ) → ReadsAt {E = ℕ} (Some (codes "abc")) 0 (Err 5) into
failed_read into = tt

untold_read : (into : List ℕ) → ReadsAt {E = ℕ} None 0 (Ok 3) into
untold_read into = tt

-- the first bytes of a file aren't all of it
front_only : IsTold (Some (codes "abc")) (codes "ab") → ⊥
front_only same = omega (arith, ap length same)

-- a file of as many bytes as the limit fits, and isn't longer
at_the_limit : FitsIn (Some (codes "abc")) 3 × (IsLonger (Some (codes "abc")) 3 → ⊥)
at_the_limit = (omega arith, λ longer. omega (arith, longer))

-- a file of one byte more is longer, and doesn't fit
past_the_limit : IsLonger (Some (codes "abc")) 2 × (FitsIn (Some (codes "abc")) 2 → ⊥)
past_the_limit = (omega arith, λ fits. omega (arith, fits))

-- an empty file isn't one that isn't told
empty_is_told : SameContents (λ name. None) (λ name. Some []) → ⊥
empty_is_told same = let at_f = same (codes "f") in cc

-- one more than a count, up to the last one
one_mores : (one_more 5 ≡ 6) × (one_more (2 ^ 64 - 2) ≡ 2 ^ 64 - 1) × (one_more (2 ^ 64 - 1) ≡ 2 ^ 64 - 1)
one_mores = (refl, refl, refl)

-- a count rose from 5 to 6, not from 5 to 5, and where it stands at its last number
grew : Rose 5 6
grew = omega arith

stood : Rose 5 5 → ⊥
stood rose = omega (arith, rose)

at_the_last : Rose (2 ^ 64 - 1) (2 ^ 64 - 1)
at_the_last = omega arith

-- a count that has more than one more rose too
by_four : Rose 5 9
by_four = omega arith

-- no count fell where they rose, but they aren't the same
rise_is_no_fall : NoneFell (λ name. 1) (λ name. 2) × (SameFaults (λ name. 1) (λ name. 2) → ⊥)
rise_is_no_fall = (λ name. omega arith, λ same. let at_f = same (codes "f") in cc)

-- the fall of one name's count is a fall, whatever the others do
one_fell : NoneFell (λ name. length name) (λ name. 1) → ⊥
one_fell none = omega (arith, none (codes "fg"))

-- a sink that told "a" tells "abc" once it took "bc"; of a sink that tells nothing all is true
appended : Appends (Some (codes "a")) (Some (codes "abc")) (codes "bc")
appended = refl

untold : Appends None None (codes "bc")
untold = tt

-- bytes that were told are told afterwards
forgotten : Appends (Some (codes "a")) None (codes "bc") → ⊥
forgotten appends = appends

-- a file f with two faults; the names that are missing have one together
abbrev memory : FilesInMemory
memory = record { files = (codes "f", codes "old") ∷ []; counts = 2 ∷ []; others = 1; calls = 3; fails = [] }

has_file : contents_of memory (codes "f") ≡ Some (codes "old")
has_file = refl

lacks_file : contents_of memory (codes "g") ≡ None
lacks_file = refl

counts_apart : (faults_of memory (codes "f") ≡ 2) × (faults_of memory (codes "g") ≡ 1)
counts_apart = (refl, refl)

-- names that are missing share a count, and f has its own
missing_share : ShareCount memory (codes "g") (codes "h")
missing_share = refl

own_count : ShareCount memory (codes "g") (codes "f") → ⊥
own_count share = cc

-- a failed read of g counts one more for h, which is missing too
counts_for_h : (new : FilesInMemory) → CountsFault memory new (codes "g") → faults_of new (codes "h") ≡ 2
counts_for_h new counts = counts.counted (codes "h") refl

-- it counts none for f, and no more than one
not_for_f : CountsFault memory (record memory { counts = 3 ∷ []; others = 2 }) (codes "g") → ⊥
not_for_f counts = omega (arith, counts.others (codes "f") own_count)

not_two : CountsFault memory (record memory { others = 3 }) (codes "g") → ⊥
not_two counts = omega (arith, counts.counted (codes "g") refl)

-- after three calls the next one is call 4
next_fails : IsFailingRead (record memory { fails = 4 ∷ [] }) (codes "f")
next_fails = inl (0, lit< tt, refl)

last_failed : IsFailingRead (record memory { fails = 3 ∷ [] }) (codes "f") → ⊥
last_failed (inl (zero, within, is)) = cc
last_failed (inl (suc k, within, is)) = omega arith
last_failed (inr missing) = cc

-- a missing file fails at each call
missing_fails : IsFailingRead memory (codes "g")
missing_fails = inr refl

-- where no read fails, a missing file is an empty one
missing_is_empty : never_fails.contents_or_empty memory.files (codes "g") ≡ Some []
missing_is_empty = refl

-- a name is the whole of it
whole_name : (has_name (codes "f") (codes "fg", []) ≡ false) × (has_name (codes "fg") (codes "f", []) ≡ false)
whole_name = (refl, refl)

-- two files, of which the second is empty
abbrev two : List File
two = (codes "f", codes "old") ∷ (codes "g", []) ∷ []

-- places count from 0
places : (place_in two (codes "g") ≡ Some 1) × (place_in two (codes "h") ≡ None)
places = (refl, refl)

-- the bytes of a place are its file's, and not its name
bytes_of_first : bytes_at two 0 ≡ codes "old"
bytes_of_first = refl

-- an empty file isn't a missing one
empty_or_missing : (bytes_in two (codes "g") ≡ Some []) × (bytes_in two (codes "h") ≡ None)
empty_or_missing = (refl, refl)

-- what is added to a name isn't put behind what it had
not_behind : AddsFile (bytes_in two) (bytes_in ((codes "f", codes "oldnew") ∷ (codes "g", []) ∷ [])) (codes "f") (codes "new") → ⊥
not_behind adds = omega (arith, ap (λ told. length (unwrap_or told [])) adds.added)

-- the names f and g differ
f_is_not_g : codes "f" ≢ codes "g"
f_is_not_g same = omega (arith, ap (λ name. slice_index name 0) same)

-- the other names stay
others_stay : AddsFile (bytes_in two) (bytes_in ((codes "g", codes "new") ∷ [])) (codes "g") (codes "new") → ⊥
others_stay adds = let at_f : None ≡ Some (codes "old") = adds.others (codes "f") f_is_not_g in cc

-- a new name comes last
new_name_last : with_file two (codes "h", codes "new") ≡ (codes "f", codes "old") ∷ (codes "g", []) ∷ (codes "h", codes "new") ∷ []
new_name_last = refl

-- a name that is given bytes again has the later ones, in the place of the earlier
later_bytes : with_file ((codes "f", codes "old") ∷ (codes "g", []) ∷ []) (codes "f", codes "new")
    ≡ (codes "f", codes "new") ∷ (codes "g", []) ∷ []
later_bytes = refl

-- a sink that takes 3 bytes a call, with room for 4 bytes, of which 2 are taken
abbrev sink_of_4 : SinkInMemory
sink_of_4 = record { per_call = 3; room = 4; bytes = codes "ab"; faults = 0; calls = 1; fails = [] }

-- of 5 bytes a put takes the 2 for which room is left
short_room : taken_of sink_of_4 (codes "cdefg") ≡ 2
short_room = refl

-- with ample room it takes 3 of 5, and 1 of 1
ample_room : (taken_of (record sink_of_4 { room = 99 }) (codes "cdefg") ≡ 3) × (taken_of sink_of_4 (codes "c") ≡ 1)
ample_room = (refl, refl)

-- a put that takes a part of its piece is no failing one
part_is_taken : sink.IsFailingPut sink_of_4 → ⊥
part_is_taken (inl (k, within, is)) = omega arith
part_is_taken (inr full) = cc

-- a put fails where no room is left, and where its number is one of those that fail
full_fails : sink.IsFailingPut (record sink_of_4 { room = 2 })
full_fails = inr refl

second_fails : sink.IsFailingPut (record sink_of_4 { fails = 2 ∷ [] })
second_fails = inl (0, lit< tt, refl)
