-- The tokens that a parser draws from a source, and what its answer says of the source.
use Rattle.std.proofs.Common.{◌≡◌, ℕ, ◌+◌, ◌^◌, ◌<◌, ◌≤◌, inl, inr, List, [], ◌∷◌, ◌++◌, length, map, All, Some, Err, sym, subst, arith, slice_get}
use Rattle.std.proofs.lemmas.List.Elements.{All-cons, All-nil, All-head, All-tail}
use Rattle.cfg_model.specs.Cfg.{Cfg}
use Rattle.cfg_model.specs.Derivation.{Forest, empty, leaf, node, yield, Move, shift, reduce, postorder}
use Rattle.cfg_model.specs.LlTables.{IsLlTable}
use Rattle.cfg_model.specs.LrTables.{IsLrTable}
use Rattle.cfg_model.specs.declared.named.NamedGrammar.{NamedGrammar}
use Rattle.rex_model.specs.Rules.{Rule, Rules}
use Rattle.rex_model.specs.Runs.{AreBytes}
use Rattle.rex_model.specs.Tables.{Tables}
use Rattle.ell_tables.specs.Promise as ll
use Rattle.ell_tables.specs.Table as ll_table
use Rattle.ell_tables.specs.declared.plain.PlainLl.{PlainLl}
use Rattle.lalr_tables.specs.Promise as lr
use Rattle.lalr_tables.specs.Table as lr_table
use Rattle.lalr_tables.specs.declared.plain.PlainLr.{PlainLr}
use Rattle.parse_driver.specs.Parse.{move_of, IsParsed, IsFirstWrong, a_token, the_end, Parses}
use Rattle.parse_driver.specs.declared.refusal.ParseError.{ParseError}
use Rattle.parse_driver.specs.declared.refusal.ParseError.TheVariants as fault
use Rattle.parse_driver.specs.Stream.{Ending}
use Rattle.parse_driver.specs.declared.step.Step.{Step}
use Rattle.parse_driver.specs.declared.step.Step.TheVariants as act
use Rattle.parse_driver.specs.declared.tokens.TokenRef.{TokenRef}
use Rattle.parse_driver.proofs.Parsing.{holds_of_token}
use Rattle.ck_chain.specs.DeriveText.{derive_text}
use Rattle.ck_chain.specs.Deriving.{Comes, Deriving, DerivingFails, syntax_error, bad_token}
use Rattle.ck_chain.specs.InOrder.{told}
use Rattle.ck_chain.specs.Outcome.{output}
use Rattle.ck_chain.specs.Promise.{IsParserOf, Refuses}
use Rattle.ck_chain.specs.declared.toolset.Parser.{Parser}
use Rattle.ck_chain.specs.declared.toolset.Parser.TheVariants as parser
use Rattle.ck_chain.specs.within.Refusing.{refused_at, IsPlaceIn}
use Rattle.ck_chain.specs.within.Scanners.{ScansBy}
use Rattle.ck_chain.specs.within.Steps.{IsInside, IsTokenInside}
use Rattle.ck_chain.specs.within.Trees.{AreStepsOf}
use Rattle.ck_chain.specs.within.Streams.{ComesBy, Left}
use Rattle.ck_chain.proofs.HasRun.{has_run, numbers_below, LieInside, comes_inside}

-- the parser's table is one of the grammar
pub ll_of : (p : Parser) (g : NamedGrammar) (table : PlainLl) → p ≡ parser.Ll table → IsParserOf (Some g) p → ll.IsTableOf g.grammar table
ll_of p g table is of = (subst (IsParserOf (Some g)) is of).1

pub lr_of : (p : Parser) (g : NamedGrammar) (table : PlainLr) → p ≡ parser.Lr table → IsParserOf (Some g) p → lr.IsTableOf g.grammar table
lr_of p g table is of = (subst (IsParserOf (Some g)) is of).1

pub some_parser : (p : Parser) (g : NamedGrammar) → p ≡ parser.Nothing → IsParserOf (Some g) p → ⊥
some_parser p g is of = subst (IsParserOf (Some g)) is of

-- as the drivers ask for it
pub is_ll_table : (g : Cfg) (table : PlainLl) → ll.IsTableOf g table
    → IsLlTable (ll_table.grammar_of table) (ll_table.answer_of table)
is_ll_table g table is = subst (λ x. IsLlTable x (ll_table.answer_of table)) (sym is.of_grammar) is.is_table

pub is_lr_table : (g : Cfg) (table : PlainLr) → lr.IsTableOf g table → IsLrTable (lr_table.grammar_of table) (lr_table.answers_of table)
is_lr_table g table is = subst (λ x. IsLrTable x (lr_table.answers_of table)) (sym is.of_grammar) is.of_cores.is_table

module _ (rules : Rules) (tables : Tables) (scans : ScansBy rules tables) (source : List ℕ) (bytes : AreBytes source) (left : Left)
    (is : left ≡ record { tables = tables; source = source; state = 0; at = 0 }) where
  -- there are tokens to draw
  pub stream_some : (tokens : List TokenRef) × (ending : Ending) × ComesBy left.tables left.source left.state left.at tokens ending
  stream_some =
      let (tokens, ending, comes) = has_run rules tables scans source bytes 0 0 scans.some (omega arith) in
      (tokens, ending, rw is (rules, scans, comes))

  -- there are few of them
  pub stream_few : length source + 1 < 2 ^ 32 → (tokens : List TokenRef) (ending : Ending)
      → ComesBy left.tables left.source left.state left.at tokens ending → length tokens + 1 < 2 ^ 32
  stream_few small tokens ending by =
      let (others, scans2, comes) = rw is at by in
      let lie = comes_inside others.list source 0 0 tokens ending (omega arith) comes in
      omega (arith, small, lie.count)

  -- and they are numbered below each bound of the rules' tokens
  pub stream_below : (count : ℕ) → ((i t : ℕ) (rule : Rule) → slice_get rules.list i ≡ Some rule → rule.token ≡ Some t → t < count)
      → (tokens : List TokenRef) (ending : Ending) → ComesBy left.tables left.source left.state left.at tokens ending
      → All (λ k. k.terminal < count) tokens
  stream_below count named tokens ending by =
      let (others, scans2, comes) = rw is at by in
      rw comes.tokens_are (numbers_below rules tables scans source bytes count named others scans2 0 0 comes.scanned comes.ended scans2.some comes.run)

-- steps whose tokens lie in the source
module _ (text : List ℕ) where
  abbrev EachToken : List TokenRef → Type 0
  EachToken [] = Unit {0}
  EachToken (k ∷ ks) = IsTokenInside text k × EachToken ks

  abbrev EachMove : List (Move TokenRef) → Type 0
  EachMove [] = Unit {0}
  EachMove (shift k ∷ ms) = IsTokenInside text k × EachMove ms
  EachMove (reduce r ∷ ms) = EachMove ms

  each_of_all : (ks : List TokenRef) → All (IsTokenInside text) ks → EachToken ks
  each_of_all [] all = tt
  each_of_all (k ∷ ks) all = (All-head (IsTokenInside text) k ks all, each_of_all ks (All-tail (IsTokenInside text) k ks all))

  front : (a b : List TokenRef) → EachToken (a ++ b) → EachToken a
  front [] b each = tt
  front (k ∷ a) b each = (each.0, front a b each.1)

  back : (a b : List TokenRef) → EachToken (a ++ b) → EachToken b
  back [] b each = each
  back (k ∷ a) b each = back a b each.1

  joined : (a b : List (Move TokenRef)) → EachMove a → EachMove b → EachMove (a ++ b)
  joined [] b first second = second
  joined (shift k ∷ a) b first second = (first.0, joined a b first.1 second)
  joined (reduce r ∷ a) b first second = joined a b first second

  of_forest : (f : Forest TokenRef) → EachToken (yield f) → EachMove (postorder f)
  of_forest empty each = tt
  of_forest (leaf k f) each = (each.0, of_forest f each.1)
  of_forest (node r c f) each =
      joined (postorder c) (reduce r ∷ postorder f) (of_forest c (front (yield c) (yield f) each)) (of_forest f (back (yield c) (yield f) each))

  of_steps : (steps : List Step) → EachMove (map move_of steps) → All (IsInside text) steps
  of_steps [] each = All-nil (IsInside text)
  of_steps (act.Shift k ∷ steps) each = All-cons (IsInside text) (act.Shift k) steps each.0 (of_steps steps each.1)
  of_steps (act.Reduce r ∷ steps) each = All-cons (IsInside text) (act.Reduce r) steps tt (of_steps steps each)

  pub steps_inside : (g : Cfg) (tokens : List TokenRef) (ending : Ending) (steps : List Step) → LieInside text 0 tokens ending
      → IsParsed g tokens ending steps → All (IsInside text) steps
  steps_inside g tokens ending steps lie parsed =
      of_steps steps (rw parsed.in_postorder (of_forest parsed.forest (each_of_all (yield parsed.forest)
      (subst (All (IsTokenInside text)) parsed.derivation.yields lie.each))))

  -- the wrong place lies in the source
  pub place_inside : (g : Cfg) (tokens : List TokenRef) (ending : Ending) (error : ParseError) → LieInside text 0 tokens ending
      → Parses g tokens ending (Err error) → IsPlaceIn text error
  place_inside g tokens ending (fault.SyntaxError k at) lie wrong = by k at wrong
    where
      by : (k at : ℕ) → IsFirstWrong g tokens ending k at → at ≤ length text
      by _ _ (a_token before after t are viable wrong) =
          let its = holds_of_token (IsTokenInside text) before t after (subst (All (IsTokenInside text)) are lie.each) in
          omega (arith, its.forward, its.within)
      by _ _ (the_end place is viable wrong) = lie.end place (inl is)
  place_inside g tokens ending (fault.BadToken at) lie bad = lie.end at (inr bad.ended)
  place_inside g tokens ending fault.NoMemory lie free = tt

-- and its refusal is the one with which deriving fails
pub refused_there : (rules : Rules) (g : NamedGrammar) (source : List ℕ) (tokens : List TokenRef) (ending : Ending) (error : ParseError)
    → Comes rules.list source 0 0 tokens ending → Parses g.grammar tokens ending (Err error)
    → Refuses (DerivingFails rules g source) (refused_at source error)
refused_there rules g source tokens ending (fault.SyntaxError k at) comes wrong = syntax_error tokens ending k at comes wrong
refused_there rules g source tokens ending (fault.BadToken at) comes bad = bad_token tokens ending at comes bad
refused_there rules g source tokens ending fault.NoMemory comes free = tt

-- the steps of a parse are those of a derivation of the source
pub steps_derive : (rules : Rules) (g : NamedGrammar) (source : List ℕ) (tokens : List TokenRef) (ending : Ending) (steps : List Step)
    → Comes rules.list source 0 0 tokens ending → LieInside source 0 tokens ending → IsParsed g.grammar tokens ending steps
    → AreStepsOf rules g source steps
steps_derive rules g source tokens ending steps comes lie parsed = record {
  derived = record { tokens = tokens; forest = parsed.forest };
  derives = record {
    place = parsed.place;
    comes = subst (Comes rules.list source 0 0 tokens) parsed.ended comes;
    derivation = parsed.derivation;
  };
  reading = record { derivation = parsed.derivation; in_postorder = parsed.in_postorder };
  inside = steps_inside source g.grammar tokens ending steps lie parsed;
}

-- the printed steps are the derivation's text
pub steps_printed : (rules : Rules) (g : NamedGrammar) (source : List ℕ) (steps : List Step) (text : List ℕ) → AreStepsOf rules g source steps
    → text ≡ derive_text rules.tokens g.labels source (map move_of steps) → Deriving rules g source (output text)
steps_printed rules g source steps text are is = rw (is, are.reading.in_postorder) (told are.derived are.derives)
