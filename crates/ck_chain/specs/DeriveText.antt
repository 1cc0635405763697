-- The printed form of a derivation.
use Rattle.std.specs.Prelude.{ℕ, List, [], ◌∷◌, ◌++◌, flat_map, codes, slice_range, slice_index_or}
use Rattle.cfg_model.specs.Derivation.{Move, shift, reduce}
use Rattle.parse_driver.specs.declared.tokens.TokenRef.{TokenRef}
use Rattle.ck_chain.specs.GrammarAccepts.{label_of}
use Rattle.quoting.specs.Quoted.{quoted}

-- the line of a token that is shifted: its name and its text
abbrev pub shift_line : List (List ℕ) → List ℕ → TokenRef → List ℕ
shift_line names text k =
    codes "shift " ++ (slice_index_or names k.terminal [] ++ (32 ∷ (quoted (slice_range text k.from k.to) ++ 10 ∷ [])))

-- the line of a rule that is reduced: its label
abbrev pub reduce_line : List (List ℕ) → ℕ → List ℕ
reduce_line labels r = codes "reduce " ++ (label_of labels r ++ 10 ∷ [])

-- the line of a step
abbrev pub move_line : List (List ℕ) → List (List ℕ) → List ℕ → Move TokenRef → List ℕ
move_line names labels text (shift k) = shift_line names text k
move_line names labels text (reduce r) = reduce_line labels r

-- the steps, a line each
abbrev pub derive_text : List (List ℕ) → List (List ℕ) → List ℕ → List (Move TokenRef) → List ℕ
derive_text names labels text moves = flat_map (move_line names labels text) moves
