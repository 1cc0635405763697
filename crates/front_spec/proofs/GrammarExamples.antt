-- The definitions on grammars, tried where the nearest wrong reading differs.
use Rattle.std.proofs.Common.{◌≡◌, ℕ, zero, suc, ◌+◌, ◌<◌, ◌≤◌, inl, inr, true, false, List, [], ◌∷◌, ◌++◌, length, take, get_or, slice_get, refl, sym, ap, ◌∙◌, Some, None, Contains, codes, arith}
use Rattle.ck_base.specs.declared.fault.Kind.TheVariants.{Limit, Twice, Unknown}
use Rattle.cfg_model.specs.declared.symbol.Sym.TheVariants.{T, N}
use Rattle.section_frame.specs.Declares.{Declared, no_lines, HasFault}
use Rattle.spec_text.specs.Least.{Least}
use Rattle.section_frame.specs.FirstFault.{FirstFault, of_kind}
use Rattle.spec_text.specs.Lexemes.{word, sign, Begins, a_word}
use Rattle.spec_text.specs.Lines.{Line, none_read, speaks, FileLines}
use Rattle.spec_text.specs.Reading.{nothing, a_token}
use Rattle.spec_text.specs.Sections.{SectionLines, part_from, closed, part}
use Rattle.spec_text.specs.TextLines.{no_lines as no_text, ended}
use Rattle.spec_text.specs.declared.section.Part.{Part}
use Rattle.spec_text.specs.declared.section.Section.TheVariants.{Rex, Ell}
use Rattle.spec_text.proofs.SectionExamples.{word_line, begins_rex, begins_end}
use Rattle.section_frame.proofs.KindOrder.{before_unknown}
use Rattle.front_spec.specs.GrammarShapes.{SaidProduction, ProductionLine}
use Rattle.front_spec.specs.GrammarFaults.{nonterminals_in, left_name, one, empty, GrammarFault, second_label, left_is_token, left_is_end, no_symbol, too_many_rules, too_many_symbols, grammar}
use Rattle.front_spec.specs.GrammarRules.{grammar_by}
use Rattle.front_spec.specs.GrammarPromise.{judged_grammar, HasGrammar}
use Rattle.section_frame.specs.Words.{IsAmong, sum_by}
use Rattle.section_frame.proofs.Using.{none_of_two}
use Rattle.front_spec.proofs.OneGrammar.{one_grammar_section, ell_is_grammar}

-- `RULE one : s = u a t`, `RULE two : t =`, `RULE three : u = t`
abbrev u_a_t : List (List ℕ)
u_a_t = codes "u" ∷ codes "a" ∷ codes "t" ∷ []

abbrev three_rules : List (Declared SaidProduction)
three_rules =
    record { number = 3; said = record { label = codes "one"; left = codes "s"; right = u_a_t } }
    ∷ record { number = 4; said = record { label = codes "two"; left = codes "t"; right = [] } }
    ∷ record { number = 5; said = record { label = codes "three"; left = codes "u"; right = codes "t" ∷ [] } } ∷ []

-- nonterminals are numbered by their rules: u has 2, though it stands on a right side before t
pub numbered : grammar_by (codes "a" ∷ []) three_rules ≡ record {
  terminals = 1;
  nonterminals = 3;
  start = 0;
  rules =
      record { left = 0; right = N 2 ∷ T 0 ∷ N 1 ∷ [] } ∷ record { left = 1; right = [] }
      ∷ record { left = 2; right = N 1 ∷ [] } ∷ [];
}
numbered = refl

-- END is a terminal of each grammar, but no symbol of a rule
abbrev with_end : SaidProduction
with_end = record { label = codes "one"; left = codes "s"; right = codes "END" ∷ [] }

abbrev end_rule : List (Declared SaidProduction)
end_rule = record { number = 3; said = with_end } ∷ []

pub end_is_unknown : GrammarFault (codes "a" ∷ []) end_rule Unknown 0 with_end
end_is_unknown =
    no_symbol 0 with_end (record {
      name = codes "END";
      used = (0, omega arith, refl);
      none = none_of_two (codes "a" ∷ []) (codes "s" ∷ []) (codes "END") (λ there. not_end (codes "a") refl there) (λ there. not_end (codes "s") refl there);
    })
  where
    not_end : (name : List ℕ) → length name ≡ 1 → Contains (name ∷ []) (codes "END") → ⊥
    not_end name one there = by there.0 there.1 there.2
      where
        by : (i : ℕ) → i < length (name ∷ []) → get_or (name ∷ []) i (codes "END") ≡ codes "END" → ⊥
        by zero less is = let long = ap length is in omega (arith, one, long)
        by (suc i) less is = omega (arith, less)

-- a label may be there once, a left side more than once: the second of these is at fault, and not the third
abbrev first_rule : SaidProduction
first_rule = record { label = codes "one"; left = codes "s"; right = [] }

abbrev same_label : SaidProduction
same_label = record { label = codes "one"; left = codes "t"; right = [] }

abbrev same_left : SaidProduction
same_left = record { label = codes "other"; left = codes "s"; right = [] }

abbrev label_twice : List (Declared SaidProduction)
label_twice =
    record { number = 3; said = first_rule } ∷ record { number = 4; said = same_label }
    ∷ record { number = 5; said = same_left } ∷ []

no_end : (name : List ℕ) → length name ≡ 1 → name ≡ codes "END" → ⊥
no_end name one is = let long = ap length is in omega (arith, one, long)

nothing_in : (name : List ℕ) → Contains [] name → ⊥
nothing_in name there = let less = there.1 in omega (arith, less)

end_alone : (said : SaidProduction) → IsAmong left_name (codes "END" ∷ []) said → said.left ≡ codes "s" → ⊥
end_alone said among is =
    let called : among.called ≡ codes "s" = (let a = among.is in cc) in
    by among.called among.among called
  where
    by : (name : List ℕ) → Contains (codes "END" ∷ []) name → name ≡ codes "s" → ⊥
    by name there same = at there.0 there.1 there.2
      where
        at : (i : ℕ) → i < 1 → get_or (codes "END" ∷ []) i name ≡ name → ⊥
        at zero less here = no_end (codes "s") refl (sym same ∙ sym here)
        at (suc i) less here = omega (arith, less)

pub label_is_twice : Least (HasFault (grammar []) label_twice Twice) 4
label_is_twice = record {
  is = record { place = 1; declared = _; is = refl; number = refl; fault = second_label 1 same_label (record { called = codes "one"; is = refl; before = (0, omega arith, refl) }) };
  least = λ line has. by line has.place has.declared has.is has.number has.fault;
}
  where
    first_is_none : (said : SaidProduction) → said ≡ first_rule → GrammarFault [] label_twice Twice 0 said → ⊥
    first_is_none _ is (second_label _ said again) = nothing_in again.called again.before
    first_is_none _ is (left_is_token _ said among) = nothing_in among.called among.among
    first_is_none _ is (left_is_end _ said among) = end_alone said among (ap (λ s. s.left) is)

    by : (line place : ℕ) (d : Declared SaidProduction) → slice_get label_twice place ≡ Some d → line ≡ d.number
        → GrammarFault [] label_twice Twice place d.said → 4 ≤ line
    by line zero d at number fault =
        let same : record { number = 3; said = first_rule } ≡ d = cc in
        absurd (first_is_none d.said (sym (ap (λ x. x.said) same)) fault)
    by line (suc zero) d at number fault =
        let same : record { number = 4; said = same_label } ≡ d = cc in
        let n = ap (λ x. x.number) same in omega (arith, n, number)
    by line (suc (suc zero)) d at number fault =
        let same : record { number = 5; said = same_left } ≡ d = cc in
        let n = ap (λ x. x.number) same in omega (arith, n, number)
    by line (suc (suc (suc i))) d at number fault = cc

pub left_side_again : GrammarFault [] label_twice Twice 2 same_left → ⊥
left_side_again fault = by same_left refl fault
  where
    by : (said : SaidProduction) → said ≡ same_left → GrammarFault [] label_twice Twice 2 said → ⊥
    by _ is (second_label _ said again) =
        let called : again.called ≡ codes "other" = (let a = again.is in let b = ap (λ s. s.label) is in cc) in
        another again.before.0 again.before.1 (rw called at again.before.2)
      where
        another : (i : ℕ) → i < 2 → get_or (codes "one" ∷ codes "one" ∷ []) i (codes "other") ≡ codes "other" → ⊥
        another zero less same = let long = ap length same in omega (arith, long)
        another (suc zero) less same = let long = ap length same in omega (arith, long)
        another (suc (suc i)) less same = omega (arith, less)
    by _ is (left_is_token _ said among) = nothing_in among.called among.among
    by _ is (left_is_end _ said among) = end_alone said among (ap (λ s. s.left) is)

-- where the tokens and END are too many already, the first rule is at fault; with 510 tokens a nonterminal fits,
-- with 511 not
pub tokens_too_many : (tokens : List (List ℕ)) (d : Declared SaidProduction) (ds : List (Declared SaidProduction))
    → 512 < length tokens + 1
    → HasFault (grammar tokens) (d ∷ ds) Limit d.number
tokens_too_many tokens d ds more =
    record { place = 0; declared = d; is = refl; number = refl; fault = too_many_symbols 0 d.said (omega (arith, more)) }

one_nonterminal : (d : Declared SaidProduction) (ds : List (Declared SaidProduction))
    → length (nonterminals_in (take 1 (d ∷ ds))) ≡ 1
one_nonterminal d ds = refl

pub one_too_many : (tokens : List (List ℕ)) (d : Declared SaidProduction) (ds : List (Declared SaidProduction))
    → length tokens ≡ 511
    → GrammarFault tokens (d ∷ ds) Limit 0 d.said
one_too_many tokens d ds full = too_many_symbols 0 d.said (let one = one_nonterminal d ds in omega (arith, full, one))

first_alone : (d : Declared SaidProduction) (ds : List (Declared SaidProduction)) → sum_by one (take 1 (d ∷ ds)) ≡ 1
first_alone d ds = refl

pub just_fits : (tokens : List (List ℕ)) (d : Declared SaidProduction) (ds : List (Declared SaidProduction))
    → length tokens ≡ 510
    → GrammarFault tokens (d ∷ ds) Limit 0 d.said → ⊥
just_fits tokens d ds full fault = by d.said fault
  where
    by : (said : SaidProduction) → GrammarFault tokens (d ∷ ds) Limit 0 said → ⊥
    by _ (too_many_rules _ said more) = let sum = first_alone d ds in omega (arith, more, sum)
    by _ (too_many_symbols _ said more) = let one = one_nonterminal d ds in omega (arith, more, full, one)

-- a section without a rule is at fault at its head's line, and not accepted as a grammar without rules
abbrev no_rules : SectionLines
no_rules = record { head = 7; inside = [] }

pub no_rule_is_unknown : (tokens : List (List ℕ)) → FirstFault (judged_grammar tokens no_rules) 7 Unknown
no_rule_is_unknown tokens =
    of_kind [] 7 Unknown no_lines (omega arith) (before_unknown (judged_grammar tokens no_rules) [] none_twice)
    (record { is = inr (refl, empty refl); least = λ line has. at_seven line has })
  where
    at_seven : (line : ℕ) → (judged_grammar tokens no_rules).Has [] Unknown line → 7 ≤ line
    at_seven line (inl has) = let at = has.is in cc
    at_seven line (inr has) = let is = has.0 in omega (arith, is)

    none_twice : (line : ℕ) → (judged_grammar tokens no_rules).Has [] Twice line → ⊥
    none_twice line (inl has) = let at = has.is in cc
    none_twice line (inr has) = elim has.1 [ ]

-- `RULE one : s =` has an empty right side
pub empty_right_side :
    ProductionLine (word (codes "RULE") ∷ word (codes "one") ∷ sign (codes ":") ∷ word (codes "s") ∷ sign (codes "=") ∷ []) first_rule
empty_right_side = refl

-- a file with the section ELL has no LALR
abbrev pub ell_file : List ℕ
ell_file = codes "REX" ++ 10 ∷ (codes "ELL" ++ 10 ∷ (codes "END" ++ 10 ∷ []))

abbrev pub ell_lines : List Line
ell_lines = word_line 1 0 3 (codes "REX") ∷ word_line 2 4 7 (codes "ELL") ∷ word_line 3 8 11 (codes "END") ∷ []

begins_ell : Begins (codes "ELL") (word (codes "ELL")) 3
begins_ell = record { fits = omega arith; is_token = a_word 69 (codes "LL") refl refl; longest = λ m other fits form. fits }

ell_read : FileLines ell_file ell_lines 3
ell_read = record {
  texts = record { number = 1; at = 0; bytes = codes "REX" } ∷ record { number = 2; at = 4; bytes = codes "ELL" }
      ∷ record { number = 3; at = 8; bytes = codes "END" } ∷ [];
  are = ended 1 0 ell_file (codes "REX") (codes "ELL" ++ 10 ∷ (codes "END" ++ 10 ∷ [])) _ refl refl
      (ended 2 4 (codes "ELL" ++ 10 ∷ (codes "END" ++ 10 ∷ [])) (codes "ELL") (codes "END" ++ 10 ∷ []) _ refl refl
      (ended 3 8 (codes "END" ++ 10 ∷ []) (codes "END") [] [] refl refl (no_text 4 12)));
  read = speaks _ _ _ None _ (a_token 0 3 (codes "REX") (word (codes "REX")) [] None begins_rex tt (nothing 3)) (λ is. let e = is.0 in cc)
      (speaks _ _ _ None _ (a_token 4 3 (codes "ELL") (word (codes "ELL")) [] None begins_ell tt (nothing 7)) (λ is. let e = is.0 in cc)
      (speaks _ _ _ None _ (a_token 8 3 (codes "END") (word (codes "END")) [] None begins_end tt (nothing 11)) (λ is. let e = is.0 in cc) none_read));
  all = refl;
}

abbrev pub ell_parts : List Part
ell_parts = part_from Rex 0 1 ∷ part_from Ell 1 2 ∷ []

pub ell_there : HasGrammar ell_file true (record { head = 2; inside = [] })
ell_there = ell_is_grammar ell_file (record { head = 2; inside = [] }) (record {
  lines = ell_lines;
  parts = ell_parts;
  sections = record {
    count = 3;
    read = ell_read;
    are = part 0 0 Rex (word_line 1 0 3 (codes "REX")) [] (word_line 2 4 7 (codes "ELL") ∷ word_line 3 8 11 (codes "END") ∷ []) _ refl
        (record { good = refl; said = refl }) tt
        (part 1 1 Ell (word_line 2 4 7 (codes "ELL")) [] (word_line 3 8 11 (codes "END") ∷ []) [] refl (record { good = refl; said = refl }) tt
        (closed 2 2 (word_line 3 8 11 (codes "END")) (omega arith) (record { good = refl; said = refl })));
  };
  part = part_from Ell 1 2;
  among = (1, omega arith, refl);
  is = refl;
  part_is = record { line = word_line 2 4 7 (codes "ELL"); at = refl; head = refl; are = refl };
})

pub no_lalr_beside_ell : (lines : SectionLines) → HasGrammar ell_file false lines → ⊥
no_lalr_beside_ell lines has =
    let same = (one_grammar_section ell_file true false (record { head = 2; inside = [] }) lines ell_there has).0 in cc
