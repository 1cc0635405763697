-- A line is at most one rule.
use Rattle.std.proofs.Common.{◌≡◌, ℕ, List, ◌∷◌, refl, sym, ap, ◌∙◌, codes, arith}
use Rattle.spec_text.specs.Lexemes.{Lexeme, word, sign}
use Rattle.front_spec.specs.Regexes.{IsRegex, EndsRegex, meaning_of}
use Rattle.front_spec.specs.RexShapes.{States, Body, Context, NoSlashEnds, Go, Produces, Skips, with_token, without_token, Action, RuleShape}
use Rattle.section_frame.specs.Parts.{Part, Name, Opt, ListOf, Before, Then, Or, first as by_first, second as by_second, Seen, Follow, Anything, Nothing, NotFirst, comma}
use Rattle.section_frame.proofs.One.{One, one_name, one_opt, one_behind, one_before, one_list, one_then}
use Rattle.front_spec.proofs.RegexForms.{one_expression}
use Rattle.front_spec.proofs.RuleReadings.{NotLess, Behind_body, Behind_states, action_first, behind_body_first, body_first}

one_seen : {V W : Type 0} (f : V → W) (P : Part V) (F : Follow) → One P F → One (Seen f P) F
one_seen f P F one tokens rest more v w g h is is2 = let same = one tokens rest more is.v is2.v g h is.is is2.is in (is.said ∙ ap f same.0 ∙ sym is2.said, same.1)

one_or : {V : Type 0} (P Q : Part V) (F : Follow) → One P F → One Q F → ((tokens rest more : List Lexeme) (v w : V) → P tokens v rest → Q tokens w more → ⊥) → One (Or P Q) F
one_or P Q F one two apart _ _ _ _ _ f g (by_first tokens rest v is) (by_first _ more w is2) = one tokens rest more v w f g is is2
one_or P Q F one two apart _ _ _ _ _ f g (by_second tokens rest v is) (by_second _ more w is2) = two tokens rest more v w f g is is2
one_or P Q F one two apart _ _ _ _ _ f g (by_first tokens rest v is) (by_second _ more w is2) = absurd (apart tokens rest more v w is is2)
one_or P Q F one two apart _ _ _ _ _ f g (by_second tokens rest v is) (by_first _ more w is2) = absurd (apart tokens more rest w v is2 is)

one_go : One (Opt Go) Nothing
one_go = one_opt Go Nothing (one_behind Name Nothing (one_name Nothing) (word (codes "GO"))) (λ tokens rest v ends is. let e = sym is.first ∙ ends in cc)

one_action : One Action Nothing
one_action = one_behind (Or (Seen with_token Produces) (Seen without_token Skips)) Nothing
    (one_or (Seen with_token Produces) (Seen without_token Skips) Nothing
    (one_seen with_token Produces Nothing (one_behind (Then Name (Opt Go)) Nothing (one_then Name (Opt Go) Anything Nothing (one_name Anything) one_go (λ tokens w rest f is. tt)) (word (codes "TOKEN"))))
    (one_seen without_token Skips Nothing (one_behind (Opt Go) Nothing one_go (word (codes "SKIP"))))
    (λ tokens rest more v w is is2. apart is.is.after is2.is.after (sym is.is.first ∙ is2.is.first)))
    (sign (codes ":"))
  where
    apart : (rest more : List Lexeme) → word (codes "TOKEN") ∷ rest ≡ word (codes "SKIP") ∷ more → ⊥
    apart rest more e = let code : ◌≡◌ {A = ℕ} 84 83 = cc in omega (arith, code)

one_body : One Body EndsRegex
one_body = one_seen meaning_of IsRegex EndsRegex one_expression

one_context : One (Opt Context) NoSlashEnds
one_context = one_opt Context NoSlashEnds
    (λ tokens rest more v w f g is is2. one_behind Body EndsRegex one_body (sign (codes "/")) tokens rest more v w f.0 g.0 is is2)
    (λ tokens rest v f is. f.1 is.after is.first)

one_states : One (Opt States) NotLess
one_states = one_opt States NotLess
    (one_behind (Before (ListOf Name) (sign (codes ">"))) NotLess
    (one_before (ListOf Name) (NotFirst comma) NotLess
    (one_list Name Anything (NotFirst comma) (one_name Anything) comma (λ rest. tt) (λ rest f. tt) (λ rest f. f rest refl))
    (sign (codes ">")) (λ rest. greater rest))
    (sign (codes "<")))
    (λ tokens rest v f is. f is.after is.first)
  where
    greater : (rest : List Lexeme) → NotFirst comma (sign (codes ">") ∷ rest)
    greater rest = λ after e. (cc)

pub one_shape : One RuleShape Nothing
one_shape = one_behind (Then (Opt States) Behind_states) Nothing
    (one_then (Opt States) Behind_states NotLess Nothing one_states
    (one_then Body Behind_body EndsRegex Nothing one_body
    (one_then (Opt Context) Action NoSlashEnds Nothing one_context one_action action_first) behind_body_first) body_first)
    (word (codes "RULE"))
