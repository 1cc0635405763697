-- A line of REX declares one thing at most.
use Rattle.std.proofs.Common.{◌≡◌, ℕ, List, [], ◌∷◌, refl, sym, ap, ◌∙◌, codes, arith}
use Rattle.spec_text.specs.Lexemes.{Lexeme, word}
use Rattle.front_spec.specs.RexShapes.{SaidRule, StateLine, RuleLine, Saying, state, rule, RexShape, a_state, a_rule}
use Rattle.front_spec.proofs.OneRule.{one_shape}

-- a line begins with one word
pub state_or_rule : (tokens rest more : List Lexeme) → tokens ≡ word (codes "STATE") ∷ rest → tokens ≡ word (codes "RULE") ∷ more → ⊥
state_or_rule tokens rest more is is2 =
    let same : word (codes "STATE") ∷ rest ≡ word (codes "RULE") ∷ more = sym is ∙ is2 in
    let code : ◌≡◌ {A = ℕ} 83 82 = cc in omega (arith, code)

one_rule : (tokens : List Lexeme) (said other : SaidRule) → RuleLine tokens said → RuleLine tokens other → said ≡ other
one_rule tokens said other is is2 =
    let same = (one_shape tokens [] [] _ _ refl refl is is2).0 in
    ap (λ p. record { states = p.0; body = p.1.0; context = p.1.1.0; token = p.1.1.1.0; next = p.1.1.1.1 }) same

pub one_saying : (tokens : List Lexeme) (said other : Saying) → RexShape tokens said → RexShape tokens other → said ≡ other
one_saying _ _ _ (a_state tokens name is) (a_state _ other is2) =
    let same : name ≡ other = (let e = sym is ∙ is2 in cc) in ap state same
one_saying _ _ _ (a_state tokens name is) (a_rule _ said is2) = absurd (state_or_rule tokens _ is2.after is is2.first)
one_saying _ _ _ (a_rule tokens said is) (a_state _ name is2) = absurd (state_or_rule tokens _ is.after is2 is.first)
one_saying _ _ _ (a_rule tokens said is) (a_rule _ other is2) = ap rule (one_rule tokens said other is is2)

pub neither_shape : (tokens : List Lexeme) → ((name : List ℕ) → StateLine tokens name → ⊥) → ((said : SaidRule) → RuleLine tokens said → ⊥)
    → (said : Saying) → RexShape tokens said → ⊥
neither_shape tokens no_state no_rule said is = by said is
  where
    by : (said : Saying) → RexShape tokens said → ⊥
    by _ (a_state _ name its) = no_state name its
    by _ (a_rule _ said its) = no_rule said its
