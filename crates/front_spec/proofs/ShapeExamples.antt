-- The definitions on the lines of REX, tried where the nearest wrong reading differs.
use Rattle.std.proofs.Common.{◌≡◌, ℕ, zero, suc, ◌<◌, true, false, List, [], ◌∷◌, length, map, get_or, refl, sym, ap, ◌∙◌, subst, Some, None, Contains, codes, arith}
use Rattle.std.specs.List.{slice_get}
use Rattle.ck_base.specs.declared.fault.Kind.{Kind}
use Rattle.ck_base.specs.declared.fault.Kind.TheVariants.{Twice}
use Rattle.rex_model.specs.Language.{bytes}
use Rattle.section_frame.specs.Declares.{Declared, HasFault}
use Rattle.spec_text.specs.Lexemes.{Lexeme, word, text, sign}
use Rattle.section_frame.specs.Parts.{Or, Seen, absent, present, last, second as by_second, Nothing, Reading}
use Rattle.section_frame.proofs.Readings.{not_behind}
use Rattle.front_spec.specs.Regexes.{Written, is_dot_byte, a_string, a_leaf, without_sign, last_piece, last_row, meaning_of, IsRegex, EndsRegex}
use Rattle.front_spec.specs.RexShapes.{Body, Produces, Skips, with_token, without_token, SaidRule, RuleLine, Saying, state, rule, RexShape}
use Rattle.front_spec.specs.RexFaults.{RexFault, second_state, state_is_std, token_is_end, no_active_state, no_go_state, too_many_states, too_many_positions, rex}
use Rattle.front_spec.specs.RexRules.{rules_by}
use Rattle.front_spec.proofs.RegexForms.{one_expression, no_expression}
use Rattle.front_spec.proofs.OneSaying.{state_or_rule, neither_shape}
use Rattle.front_spec.proofs.RegexParts.{same_code, no_leaf_at, no_open, no_piece, no_row, no_rows}
use Rattle.front_spec.proofs.RuleReadings.{ends_at, seen_none, no_states, no_context_there, no_body, no_action}

-- `.` is any byte but 0x0A, 0x0D too
pub dot_has_the_return : (is_dot_byte 10 ≡ false) × (is_dot_byte 13 ≡ true) × (is_dot_byte 255 ≡ true)
dot_has_the_return = (refl, refl, refl)

-- `RULE : SKIP` lacks its expression
abbrev colon_skip : List Lexeme
colon_skip = sign (codes ":") ∷ word (codes "SKIP") ∷ []

pub no_empty_sequence : (said : Saying) → RexShape (word (codes "RULE") ∷ colon_skip) said → ⊥
no_empty_sequence = neither_shape (word (codes "RULE") ∷ colon_skip) (λ name is. state_or_rule _ _ _ is refl)
    (no_body (word (codes "RULE") ∷ colon_skip) colon_skip colon_skip None refl
    (no_states colon_skip (λ after e. let c = same_code 58 60 _ after e in omega (arith, c)))
    (seen_none meaning_of IsRegex EndsRegex colon_skip (no_expression colon_skip
    (no_rows 64 colon_skip (no_row 64 colon_skip (no_piece 64 colon_skip
    (no_open 63 colon_skip (no_leaf_at 58 _ (λ e. omega (arith, e))) (λ inner e. let c = same_code 58 40 _ inner e in omega (arith, c)))))))))

-- the states stand before the expression, and not behind it
abbrev a_once : Written
a_once = record { re = bytes (codes "a"); nesting = 1 }

a_regex : (rest : List Lexeme) → IsRegex (text (codes "a") ∷ rest) a_once rest
a_regex rest = record {
  rows = a_once ∷ [];
  are = last_row _ rest (a_once ∷ []) (last_piece _ rest a_once (without_sign _ rest a_once (a_leaf _ rest a_once (a_string rest (codes "a")))));
  is = refl;
  within = omega arith;
}

abbrev in_x : List Lexeme → List Lexeme
in_x rest = sign (codes "<") ∷ word (codes "X") ∷ sign (codes ">") ∷ rest

abbrev skips_a_in_x : SaidRule
skips_a_in_x = record { states = Some (codes "X" ∷ []); body = bytes (codes "a"); context = None; token = None; next = None }

pub states_before : RuleLine (word (codes "RULE") ∷ in_x (text (codes "a") ∷ colon_skip)) skips_a_in_x
states_before = record {
  after = in_x (text (codes "a") ∷ colon_skip);
  first = refl;
  is = record {
    after = text (codes "a") ∷ colon_skip;
    first = present _ _ (codes "X" ∷ []) (record {
      after = word (codes "X") ∷ sign (codes ">") ∷ text (codes "a") ∷ colon_skip;
      first = refl;
      is = record { after = sign (codes ">") ∷ text (codes "a") ∷ colon_skip; is = last _ _ (codes "X") refl; end = refl };
    });
    second = record {
      after = colon_skip;
      first = record { v = a_once; is = a_regex colon_skip; said = refl };
      second = record {
        after = colon_skip;
        first = absent colon_skip;
        second = record {
          after = word (codes "SKIP") ∷ [];
          first = refl;
          is = by_second _ [] (None, None) (record { v = None; is = record { after = []; first = refl; is = absent [] }; said = refl });
        };
      };
    };
  };
}

less_ends : (rest : List Lexeme) → EndsRegex (sign (codes "<") ∷ rest)
less_ends rest = ends_at 60 rest (λ e. omega (arith, e)) (λ e. omega (arith, e)) (λ e. omega (arith, e)) (λ e. omega (arith, e)) (λ e. omega (arith, e)) (λ e. omega (arith, e))

a_body : Reading Body EndsRegex (text (codes "a") ∷ in_x colon_skip) (bytes (codes "a")) (in_x colon_skip)
a_body = record {
  is = record { v = a_once; is = a_regex (in_x colon_skip); said = refl };
  only = λ re more ends is.
      let same = one_expression (text (codes "a") ∷ in_x colon_skip) more (in_x colon_skip) is.v a_once ends (less_ends _) is.is (a_regex (in_x colon_skip)) in
      (is.said ∙ ap meaning_of same.0, same.1);
}

pub states_behind : (said : SaidRule) → RuleLine (word (codes "RULE") ∷ text (codes "a") ∷ in_x colon_skip) said → ⊥
states_behind = no_action (word (codes "RULE") ∷ text (codes "a") ∷ in_x colon_skip) (text (codes "a") ∷ in_x colon_skip) (text (codes "a") ∷ in_x colon_skip) None refl
    (no_states (text (codes "a") ∷ in_x colon_skip) (λ after e. cc)) (bytes (codes "a")) (in_x colon_skip) a_body None (in_x colon_skip)
    (no_context_there (in_x colon_skip) (λ inner e. let c = same_code 60 47 _ inner e in omega (arith, c)))
    (not_behind (Or (Seen with_token Produces) (Seen without_token Skips)) Nothing (sign (codes ":")) (in_x colon_skip)
    (λ after e. let c = same_code 60 58 _ after e in omega (arith, c)))

-- a state that no rule names is no fault, and one is there twice only behind another line of it
abbrev state_x : ℕ → Declared Saying
state_x line = record { number = line; said = state (codes "X") }

pub unused_state : (line : ℕ) (kind : Kind) → RexFault (state_x line ∷ []) kind 0 (state (codes "X")) → ⊥
unused_state line kind fault = by kind 0 (state (codes "X")) refl refl fault
  where
    no_std : (name : List ℕ) → codes "X" ≡ name → Contains (codes "STD" ∷ []) name → ⊥
    no_std name is there = at there.0 there.1 there.2
      where
        at : (i : ℕ) → i < 1 → get_or (codes "STD" ∷ []) i name ≡ name → ⊥
        at zero less same = let long = ap length (same ∙ sym is) in omega (arith, long)
        at (suc i) less same = omega (arith, less)

    by : (kind : Kind) (i : ℕ) (said : Saying) → i ≡ 0 → said ≡ state (codes "X") → RexFault (state_x line ∷ []) kind i said → ⊥
    by _ _ _ first is (second_state i said again) =
        let there = rw first at again.before in let less : there.0 < 0 = there.1 in omega (arith, less)
    by _ _ _ first is (state_is_std i said among) =
        let named = rw is at among.is in no_std among.called (let same : codes "X" ≡ among.called = cc in same) among.among
    by _ _ _ first is (token_is_end i said among) = let named = rw is at among.is in cc
    by _ _ _ first is (no_active_state i said missing) =
        let used = rw is at missing.used in let less : used.0 < 0 = used.1 in omega (arith, less)
    by _ _ _ first is (no_go_state i said missing) =
        let used = rw is at missing.used in let less : used.0 < 0 = used.1 in omega (arith, less)
    by _ _ _ first is (too_many_states i said past) =
        let more = rw first at past in let one : 63 < 1 = more in omega (arith, one)
    by _ _ _ first is (too_many_positions i said past) =
        let more = rw first at past in let none : 4096 < 0 = more in omega (arith, none)

pub second_of_two : HasFault rex (state_x 2 ∷ state_x 3 ∷ []) Twice 3 × (HasFault rex (state_x 3 ∷ []) Twice 3 → ⊥)
second_of_two = (
  record { place = 1; declared = state_x 3; is = refl; number = refl; fault = second_state 1 _ (record { called = codes "X"; is = refl; before = (0, omega arith, refl) }) },
  λ has. alone has.place has.declared has.is has.fault,
)
  where
    alone : (i : ℕ) (d : Declared Saying) → slice_get (state_x 3 ∷ []) i ≡ Some d → RexFault (state_x 3 ∷ []) Twice i d.said → ⊥
    alone zero d at fault =
        let same : state_x 3 ≡ d = cc in
        unused_state 3 Twice (subst (λ s. RexFault (state_x 3 ∷ []) Twice 0 s) (sym (ap (λ x. x.said) same)) fault)
    alone (suc i) d at fault = cc

-- tokens are numbered by their names: a second rule of one token has its number again
abbrev rule_of : ℕ → List ℕ → Declared Saying
rule_of line name =
    record { number = line; said = rule (record { states = None; body = bytes name; context = None; token = Some name; next = None }) }

pub token_of_two_rules :
    map (λ r. r.token) (rules_by (rule_of 2 (codes "b") ∷ rule_of 3 (codes "a") ∷ rule_of 4 (codes "b") ∷ [])).list ≡ Some 0 ∷ Some 1 ∷ Some 0 ∷ []
token_of_two_rules = refl
