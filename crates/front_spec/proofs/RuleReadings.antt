-- How the line of a rule is read.
use Rattle.std.proofs.Common.{◌≡◌, ℕ, List, [], ◌∷◌, refl, sym, ap, ◌∙◌, Option, Some, None, codes, arith}
use Rattle.rex_model.specs.Language.{Re}
use Rattle.spec_text.specs.Lexemes.{Lexeme, word, sign}
use Rattle.front_spec.specs.Regexes.{Written, Leaf, a_string, a_class, a_dot, Atom, a_leaf, a_group, Piece, without_sign, before_sign, Row, last_piece, piece_before, Rows, last_row, row_before, IsRegex, EndsRegex}
use Rattle.front_spec.specs.RexShapes.{States, Body, Context, NoSlashEnds, Go, Produces, Skips, with_token, without_token, Action, SaidRule, RuleLine}
use Rattle.section_frame.specs.Parts.{Part, Fixed, Name, Opt, absent, present, ListOf, Before, Then, Or, first as by_first, second as by_second, Seen, Follow, Nothing, NotFirst, Reading, NoReading, comma}
use Rattle.section_frame.proofs.Readings.{name_reading, opt_present, opt_absent, opt_none, behind, before, none_behind, not_behind, none_first, none_second}
use Rattle.front_spec.proofs.RegexParts.{same_code, no_glyph, no_leaf_at}

-- the parts of a rule
pub go_reading : (tokens after rest : List Lexeme) (name : List ℕ) → Fixed (word (codes "GO")) tokens after → Name after name rest → Reading (Opt Go) Nothing tokens (Some name) rest
go_reading tokens after rest name at is =
    opt_present Go Nothing tokens rest name (behind Name Nothing (word (codes "GO")) tokens after rest name at (name_reading Nothing after rest name is)) (λ none. let e = sym at ∙ none in cc)

pub no_go : (tokens : List Lexeme) → ((after : List Lexeme) → Fixed (word (codes "GO")) tokens after → ⊥) → Reading (Opt Go) Nothing tokens None tokens
no_go tokens none = opt_absent Go Nothing tokens (not_behind Name Nothing (word (codes "GO")) tokens none)

abbrev pub NotLess : Follow
NotLess = NotFirst (sign (codes "<"))

pub states_reading : (tokens inner rest after : List Lexeme) (names : List (List ℕ)) → Fixed (sign (codes "<")) tokens inner → Reading (ListOf Name) (NotFirst comma) inner names rest
    → Fixed (sign (codes ">")) rest after → Reading (Opt States) NotLess tokens (Some names) after
states_reading tokens inner rest after names at reading end =
    opt_present States NotLess tokens after names
    (behind (Before (ListOf Name) (sign (codes ">"))) NotLess (sign (codes "<")) tokens inner after names at
    (before (ListOf Name) (NotFirst comma) NotLess (sign (codes ">")) (λ rest. greater rest) inner rest after names reading end))
    (λ none. none inner at)
  where
    greater : (rest : List Lexeme) → NotFirst comma (sign (codes ">") ∷ rest)
    greater rest = λ more e. (cc)

pub no_states : (tokens : List Lexeme) → ((after : List Lexeme) → Fixed (sign (codes "<")) tokens after → ⊥) → Reading (Opt States) NotLess tokens None tokens
no_states tokens none = opt_absent States NotLess tokens (not_behind (Before (ListOf Name) (sign (codes ">"))) NotLess (sign (codes "<")) tokens none)

-- what a function sees of a part
module _ {V W : Type 0} (f : V → W) (P : Part V) (F : Follow) where
  pub seen_reading : (tokens rest : List Lexeme) (v : V) → Reading P F tokens v rest → Reading (Seen f P) F tokens (f v) rest
  seen_reading tokens rest v reading = record {
    is = record { v = v; is = reading.is; said = refl };
    only = λ w more follows is. let same = reading.only is.v more follows is.is in (is.said ∙ ap f same.0, same.1);
  }

  pub seen_none : (tokens : List Lexeme) → NoReading P F tokens → NoReading (Seen f P) F tokens
  seen_none tokens none w more follows is = none is.v more follows is.is

-- an expression ends before `/` and `:`
pub ends_at : (code : ℕ) (rest : List Lexeme) → (code ≡ 42 → ⊥) → (code ≡ 43 → ⊥) → (code ≡ 63 → ⊥) → (code ≡ 46 → ⊥) → (code ≡ 40 → ⊥) → (code ≡ 124 → ⊥)
    → EndsRegex (sign (code ∷ []) ∷ rest)
ends_at code rest one two three four five six = record {
  row = record {
    no_sign = no_glyph code rest one two three;
    no_leaf = no_leaf_at code rest four;
    no_open = λ more e. five (same_code code 40 rest more e);
  };
  no_bar = λ more e. six (same_code code 124 rest more e);
}

slash_ends : (rest : List Lexeme) → EndsRegex (sign (codes "/") ∷ rest)
slash_ends rest = ends_at 47 rest (λ e. omega (arith, e)) (λ e. omega (arith, e)) (λ e. omega (arith, e)) (λ e. omega (arith, e)) (λ e. omega (arith, e)) (λ e. omega (arith, e))

colon_ends : (rest : List Lexeme) → EndsRegex (sign (codes ":") ∷ rest)
colon_ends rest = ends_at 58 rest (λ e. omega (arith, e)) (λ e. omega (arith, e)) (λ e. omega (arith, e)) (λ e. omega (arith, e)) (λ e. omega (arith, e)) (λ e. omega (arith, e))

-- an expression doesn't begin with `<`
leaf_no_less : (tokens rest : List Lexeme) (w : Written) → Leaf tokens w rest → NotLess tokens
leaf_no_less _ rest _ (a_string _ said) = λ more e. (cc)
leaf_no_less _ rest _ (a_class _ set) = λ more e. (cc)
leaf_no_less _ rest _ (a_dot dot _ is) = rw is (λ more e. let c = same_code 46 60 rest more e in omega (arith, c))

atom_no_less : (tokens rest : List Lexeme) (w : Written) → Atom tokens w rest → NotLess tokens
atom_no_less _ _ _ (a_leaf tokens rest w is) = leaf_no_less tokens rest w is
atom_no_less _ _ _ (a_group tokens inner after rest rows opens are end) = rw opens (λ more e. let c = same_code 40 60 inner more e in omega (arith, c))

piece_no_less : (tokens rest : List Lexeme) (w : Written) → Piece tokens w rest → NotLess tokens
piece_no_less _ _ _ (without_sign tokens rest w is) = atom_no_less tokens rest w is
piece_no_less _ _ _ (before_sign s tokens after rest w is at) = piece_no_less tokens after w is

regex_no_less : (tokens rest : List Lexeme) (w : Written) → IsRegex tokens w rest → NotLess tokens
regex_no_less tokens rest w is = rows tokens rest is.rows is.are
  where
    row : (tokens rest : List Lexeme) (ws : List Written) → Row tokens ws rest → NotLess tokens
    row _ _ _ (last_piece tokens rest w is) = piece_no_less tokens rest w is
    row _ _ _ (piece_before tokens after rest w ws is more) = piece_no_less tokens after w is

    rows : (tokens rest : List Lexeme) (ws : List Written) → Rows tokens ws rest → NotLess tokens
    rows _ _ _ (last_row tokens rest pieces is) = row tokens rest pieces is
    rows _ _ _ (row_before tokens after rest pieces more is others) = row tokens (sign (codes "|") ∷ after) pieces is

-- what the parts begin with
pub action_first : (tokens : List Lexeme) (w : Option (List ℕ) × Option (List ℕ)) (rest : List Lexeme) → Nothing rest → Action tokens w rest → NoSlashEnds tokens
action_first tokens w rest ends is = rw is.first (colon_ends is.after, λ more e. let c = same_code 58 47 is.after more e in omega (arith, c))

abbrev pub Behind_body : Part (Option Re × (Option (List ℕ) × Option (List ℕ)))
Behind_body = Then (Opt Context) Action

abbrev pub Behind_states : Part (Re × (Option Re × (Option (List ℕ) × Option (List ℕ))))
Behind_states = Then Body Behind_body

context_first : (tokens rest : List Lexeme) (w : Option Re) → Opt Context tokens w rest → EndsRegex rest → EndsRegex tokens
context_first _ _ _ (absent tokens) ends = ends
context_first _ _ _ (present tokens rest v is) ends = rw is.first (slash_ends is.after)

pub behind_body_first : (tokens : List Lexeme) (w : Option Re × (Option (List ℕ) × Option (List ℕ))) (rest : List Lexeme) → Nothing rest → Behind_body tokens w rest → EndsRegex tokens
behind_body_first tokens w rest ends is = context_first tokens is.after w.0 is.first (action_first is.after w.1 rest ends is.second).0

pub body_first : (tokens : List Lexeme) (w : Re × (Option Re × (Option (List ℕ) × Option (List ℕ)))) (rest : List Lexeme) → Nothing rest → Behind_states tokens w rest → NotLess tokens
body_first tokens w rest ends is = regex_no_less tokens is.after is.first.v is.first.is

-- a context, or none
pub context_reading : (tokens inner rest : List Lexeme) (r : Re) → Fixed (sign (codes "/")) tokens inner → Reading Body EndsRegex inner r rest → Reading (Opt Context) NoSlashEnds tokens (Some r) rest
context_reading tokens inner rest r at reading = opt_present Context NoSlashEnds tokens rest r
    (narrow (behind Body EndsRegex (sign (codes "/")) tokens inner rest r at reading)) (λ follows. follows.1 inner at)
  where
    narrow : Reading Context EndsRegex tokens r rest → Reading Context NoSlashEnds tokens r rest
    narrow it = record { is = it.is; only = λ w more follows is. it.only w more follows.0 is }

pub no_context_there : (tokens : List Lexeme) → ((inner : List Lexeme) → Fixed (sign (codes "/")) tokens inner → ⊥) → Reading (Opt Context) NoSlashEnds tokens None tokens
no_context_there tokens none = opt_absent Context NoSlashEnds tokens (not_behind Body NoSlashEnds (sign (codes "/")) tokens none)

module _ (tokens behind_rule behind_states : List Lexeme) (states : Option (List (List ℕ))) (starts : Fixed (word (codes "RULE")) tokens behind_rule)
    (reading : Reading (Opt States) NotLess behind_rule states behind_states) where
  none_of_rest : NoReading Behind_states Nothing behind_states → (rule : SaidRule) → RuleLine tokens rule → ⊥
  none_of_rest none rule is =
      none_behind (Then (Opt States) Behind_states) Nothing (word (codes "RULE")) tokens behind_rule starts
      (none_second (Opt States) Behind_states NotLess Nothing body_first behind_rule behind_states states reading none)
      (rule.states, (rule.body, (rule.context, (rule.token, rule.next)))) [] refl is

  pub no_body : NoReading Body EndsRegex behind_states → (rule : SaidRule) → RuleLine tokens rule → ⊥
  no_body none = none_of_rest (none_first Body Behind_body EndsRegex Nothing behind_body_first behind_states none)

  module _ (body : Re) (behind_body : List Lexeme) (is : Reading Body EndsRegex behind_states body behind_body) where
    none_behind_body : NoReading Behind_body Nothing behind_body → (rule : SaidRule) → RuleLine tokens rule → ⊥
    none_behind_body none = none_of_rest (none_second Body Behind_body EndsRegex Nothing behind_body_first behind_states behind_body body is none)

    pub no_context : NoReading (Opt Context) NoSlashEnds behind_body → (rule : SaidRule) → RuleLine tokens rule → ⊥
    no_context none = none_behind_body (none_first (Opt Context) Action NoSlashEnds Nothing action_first behind_body none)

    pub no_action : (context : Option Re) (behind_context : List Lexeme) → Reading (Opt Context) NoSlashEnds behind_body context behind_context → NoReading Action Nothing behind_context
        → (rule : SaidRule) → RuleLine tokens rule → ⊥
    no_action context behind_context reads none = none_behind_body (none_second (Opt Context) Action NoSlashEnds Nothing action_first behind_body behind_context context reads none)

pub no_context_inside : (tokens inner : List Lexeme) → Fixed (sign (codes "/")) tokens inner → NoReading Body EndsRegex inner → NoReading (Opt Context) NoSlashEnds tokens
no_context_inside tokens inner at none = opt_none Context NoSlashEnds tokens
    (λ w more follows is. none_behind Body EndsRegex (sign (codes "/")) tokens inner at none w more follows.0 is) (λ follows. follows.1 inner at)

pub produces_action : (tokens after : List Lexeme) (name : List ℕ) (next : Option (List ℕ)) → Fixed (sign (codes ":")) tokens after → Produces after (name, next) [] → Action tokens (Some name, next) []
produces_action tokens after name state at is = record { after = after; first = at; is = by_first after [] (Some name, state) (record { v = (name, state); is = is; said = refl }) }

pub skips_action : (tokens after : List Lexeme) (next : Option (List ℕ)) → Fixed (sign (codes ":")) tokens after → Skips after next [] → Action tokens (None, next) []
skips_action tokens after state at is = record { after = after; first = at; is = by_second after [] (None, state) (record { v = state; is = is; said = refl }) }

pub neither_action : (tokens after : List Lexeme) → Fixed (sign (codes ":")) tokens after → NoReading Produces Nothing after → NoReading Skips Nothing after → NoReading Action Nothing tokens
neither_action tokens after at no_token no_skip = none_behind (Or (Seen with_token Produces) (Seen without_token Skips)) Nothing (sign (codes ":")) tokens after at (λ w more follows is. by w more follows is)
  where
    by : (w : Option (List ℕ) × Option (List ℕ)) (more : List Lexeme) → Nothing more → Or (Seen with_token Produces) (Seen without_token Skips) after w more → ⊥
    by _ _ follows (by_first _ more w is) = no_token is.v more follows is.is
    by _ _ follows (by_second _ more w is) = no_skip is.v more follows is.is

pub no_states_part : (tokens behind_rule : List Lexeme) → Fixed (word (codes "RULE")) tokens behind_rule → NoReading (Opt States) NotLess behind_rule → (rule : SaidRule) → RuleLine tokens rule → ⊥
no_states_part tokens behind_rule starts none rule is =
    none_behind (Then (Opt States) Behind_states) Nothing (word (codes "RULE")) tokens behind_rule starts
    (none_first (Opt States) Behind_states NotLess Nothing body_first behind_rule none)
    (rule.states, (rule.body, (rule.context, (rule.token, rule.next)))) [] refl is
