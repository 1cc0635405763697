-- The expression at a place, from what was read of the tokens from there on.
use Rattle.std.proofs.Common.{◌≡◌, ap, sym, ◌∙◌, subst, arith, ℕ, ◌+◌, ◌-◌, ◌≤◌, Bool, List, [], ◌++◌, length, take, drop, map, None}
use Rattle.std.proofs.lemmas.List.{take-append-drop, length-map, drop-map}
use Rattle.std.proofs.lemmas.List.Elements.{All-drop}
use Rattle.spec_text.specs.Lexemes.{Lexeme}
use Rattle.spec_text.specs.Lines.{Line, said_by}
use Rattle.section_frame.specs.Parts.{Reading, NoReading}
use Rattle.spec_text.specs.Reading.{Placed}
use Rattle.spec_text.specs.Seen.{seen}
use Rattle.spec_text.specs.Spans.{Spells, span_of, spans_in, spans_of, IsLineOf}
use Rattle.spec_text.specs.declared.line.SpecLine.{SpecLine}
use Rattle.spec_text.specs.declared.token.SpecToken.{SpecToken}
use Rattle.spec_text.specs.declared.view.Token.{Token}
use Rattle.expr_read.specs.Notation.{IsSpoken, MayFollow}
use Rattle.value_store.specs.declared.value.ValType.{ValType}
use Rattle.expr_lang.specs.Meaning.{meaning, context_of}
use Rattle.expr_lang.specs.declared.expr.Expr.{Expr}
use Rattle.expr_lang.specs.declared.expr.Scope.{Scope}
use Rattle.expr_read.specs.Resolving.{Vocabulary, Means, MeansNothing, has_unknown}
use Rattle.expr_read.specs.Spoken.{Spoken}
use Rattle.expr_read.specs.Written.{AreTokensOf, said_in, StandsAt}
use Rattle.expr_read.specs.Strings.{string_bytes}
use Rattle.spec_text.specs.Sizes.{token_bytes}
use Rattle.expr_read.proofs.StringBytes.{spoken_bytes}
use Rattle.expr_read.proofs.Ends.{IsEndOf, level_end, end_on, end_place}

abbrev line_of : List Placed → ℕ → Line
line_of said at = record { number = 1; bad = None; tokens = drop at said }

pub is_line : (file : List ℕ) (tokens : List SpecToken) (at : ℕ) (line : SpecLine) (said : List Placed) → AreTokensOf file tokens said
    → line.tokens.items ≡ drop at tokens → line.number ≡ 1 → line.bad ≡ None → IsLineOf file line (line_of said at)
is_line file tokens at line said are items number bad = record {
  same = spans number bad (items ∙ ap (drop at) are.same ∙ drop-map span_of at said);
  spelled = All-drop (Spells file) at said are.spelled;
}
  where
    spans : line.number ≡ 1 → line.bad ≡ None → line.tokens.items ≡ map span_of (drop at said) → spans_in line ≡ spans_of (line_of said at)
    spans n b s = cc

pub line_there : (file : List ℕ) (tokens : List SpecToken) (at : ℕ) (line : SpecLine) → ((said : List Placed) × AreTokensOf file tokens said)
    → line.tokens.items ≡ drop at tokens → line.number ≡ 1 → line.bad ≡ None → (is : Line) × IsLineOf file line is
line_there file tokens at line (said, are) items number bad = (line_of said at, is_line file tokens at line said are items number bad)

pub seen_from : (file : List ℕ) (tokens : List SpecToken) (at : ℕ) (line : SpecLine) (views : List Token) → line.tokens.items ≡ drop at tokens → line.number ≡ 1 → line.bad ≡ None
    → ((is : Line) → IsLineOf file line is → map seen views ≡ said_by is)
    → (said : List Placed) → AreTokensOf file tokens said → map seen views ≡ drop at (said_in said)
seen_from file tokens at line views items number bad each said are =
    each (line_of said at) (is_line file tokens at line said are items number bad) ∙ sym (drop-map (λ token. token.said) at said)

stands : (all : List Lexeme) (at next : ℕ) (e : Spoken) (rest : List Lexeme) → IsSpoken (drop at all) e rest → MayFollow rest → next ≡ length all - length rest → StandsAt all at next e
stands all at next e rest is follows count =
    let front : IsEndOf (drop at all) all = record { before = take at all; are = sym (take-append-drop at all) } in
    let end = end_place all rest (end_on all (drop at all) rest front (level_end 0 (drop at all) e rest is.at_level)) in
    let place : drop next all ≡ rest = ap (λ n. drop n all) count ∙ end.1 in record {
      within = omega (arith, count);
      is = subst (IsSpoken (drop at all) e) (sym place) is;
      follows = subst MayFollow (sym place) follows;
    }

pub found_stands : (file : List ℕ) (tokens : List SpecToken) (at next : ℕ) (views rest : List Token) (e : Spoken)
    → ((said : List Placed) → AreTokensOf file tokens said → map seen views ≡ drop at (said_in said))
    → Reading IsSpoken MayFollow (map seen views) e (map seen rest) → MayFollow (map seen rest) → next ≡ length tokens - length rest
    → (said : List Placed) → AreTokensOf file tokens said → StandsAt (said_in said) at next e
found_stands file tokens at next views rest e each reading follows count said are =
    stands (said_in said) at next e (map seen rest) (subst (λ ts. IsSpoken ts e (map seen rest)) (each said are) reading.is) follows
    (let tokens_count = ap length are.same ∙ length-map said span_of in
    let said_count = length-map said (λ token. token.said) in
    let rest_count = length-map rest seen in omega (arith, count, tokens_count, said_count, rest_count))

-- what the strings of the expression add, the bytes of the tokens at most
pub read_bytes : (file : List ℕ) (tokens : List SpecToken) (at : ℕ) (views rest : List Token) (e : Spoken)
    → ((said : List Placed) → AreTokensOf file tokens said → map seen views ≡ drop at (said_in said))
    → Reading IsSpoken MayFollow (map seen views) e (map seen rest) → (old new : List ℕ) → length new ≤ length old + string_bytes e
    → (said : List Placed) → AreTokensOf file tokens said → length new ≤ length old + token_bytes (drop at said)
read_bytes file tokens at views rest e each reading old new few said are =
    let most = spoken_bytes file (drop at said) (map seen views) e (map seen rest) (All-drop (Spells file) at said are.spelled)
    (each said are ∙ drop-map (λ token. token.said) at said) reading.is in omega (arith, few, most)

pub none_stands : (file : List ℕ) (tokens : List SpecToken) (at : ℕ) (views : List Token)
    → ((said : List Placed) → AreTokensOf file tokens said → map seen views ≡ drop at (said_in said))
    → NoReading IsSpoken MayFollow (map seen views)
    → (said : List Placed) → AreTokensOf file tokens said → NoReading IsSpoken MayFollow (drop at (said_in said))
none_stands file tokens at views each none said are = λ e rest follows is.
    none e rest follows (subst (λ ts. IsSpoken ts e rest) (sym (each said are)) is)

-- what is said of a vocabulary that is the scope's
module _ (words v : Vocabulary) (is : words ≡ v) (e : Spoken) where
  pub unknown_told : (answer told : Bool) → answer ≡ has_unknown words.makers e → answer ≡ told → has_unknown v.makers e ≡ told
  unknown_told answer told says which = sym (ap (λ w. has_unknown w.makers e) is) ∙ sym says ∙ which

  pub nothing_told : (s : Scope) → ((source more : List ℕ) (sources : ℕ → ℕ → Bool) → MeansNothing words (context_of s sources) e) → (sources : ℕ → ℕ → Bool)
      → MeansNothing v (context_of s sources) e
  nothing_told s each sources = subst (λ w. MeansNothing w (context_of s sources) e) is (each [] [] sources)

  pub meaning_told : (s : Scope) (literals : List ℕ) (x kept : Expr) (t : ValType) → kept ≡ x
      → ((source more : List ℕ) (sources : ℕ → ℕ → Bool) → Means words (context_of s sources) e (meaning source (literals ++ more) x) t)
      → (source more : List ℕ) (sources : ℕ → ℕ → Bool) → Means v (context_of s sources) e (meaning source (literals ++ more) kept) t
  meaning_told s literals x kept t same each source more sources =
      subst (λ w. Means w (context_of s sources) e (meaning source (literals ++ more) kept) t) is
      (subst (λ y. Means words (context_of s sources) e (meaning source (literals ++ more) y) t) (sym same) (each source more sources))
