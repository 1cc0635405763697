-- The grammar that is made is the one that the lines declare, in its ranges.
use Rattle.std.proofs.Common.{◌≡◌, ℕ, zero, suc, ◌+◌, ◌<◌, ◌≤◌, inl, inr, true, false, cond, if◌then◌else◌, All, List, [], ◌∷◌, ◌++◌, length, take, map, get_or, refl, sym, ap, ◌∙◌, Option, Some, None, Contains, arith}
use Rattle.std.specs.List.{slice_get, position_from}
use Rattle.std.specs.Option.{is_some}
use Rattle.std.specs.Str.{bytes_eq}
use Rattle.std.proofs.lemmas.Iterator.Adapters.{position_from-zero}
use Rattle.std.proofs.lemmas.List.{length-map, map-append}
use Rattle.std.proofs.lemmas.List.Elements.{All-map}
use Rattle.std.proofs.lemmas.Option.{none-some}
use Rattle.std.proofs.lemmas.Slice.Eq.{bytes_eq-Decides}
use Rattle.ck_base.specs.Numbered.{number_of, met}
use Rattle.ck_base.specs.declared.fault.Kind.TheVariants.{Limit, Unknown}
use Rattle.ck_base.proofs.NamesMet.{name_at_number, met_has_number}
use Rattle.cfg_model.specs.Cfg.{IsSymbol, IsGrammar}
use Rattle.cfg_model.specs.declared.named.NamedGrammar.{NamedGrammar}
use Rattle.section_frame.specs.Declares.{Declared}
use Rattle.spec_text.proofs.Lists.{take_step, take_all, get_at, get_fits, map_get}
use Rattle.spec_text.proofs.Parting.{contains_at, some_at}
use Rattle.section_frame.specs.Words.{sum_by}
use Rattle.section_frame.proofs.Named.{names_by_some}
use Rattle.section_frame.proofs.Using.{none_of_two}
use Rattle.front_spec.specs.GrammarShapes.{SaidProduction}
use Rattle.front_spec.specs.GrammarFaults.{nonterminals_in, no_symbol, one, too_many_rules, too_many_symbols, NoProduction, empty, grammar}
use Rattle.front_spec.specs.GrammarRules.{known_number, symbol_or, symbol_by, production_by, grammar_by}
use Rattle.front_spec.specs.GrammarPromise.{DeclaresGrammar}
use Rattle.section_frame.specs.Declares.{HasFault}

-- one element more, seen twice
pub one_seen : {X Y Z : Type 0} (f : Y → Z) (g : X → Y) (xs : List X) (i : ℕ) (x : X) (old new : List Z)
    → slice_get xs i ≡ Some x
    → old ≡ map f (map g (take i xs)) → new ≡ old ++ f (g x) ∷ [] → new ≡ map f (map g (take (i + 1) xs))
one_seen f g xs i x old new at so are =
    are ∙ ap (λ l. l ++ f (g x) ∷ []) so
    ∙ sym (ap (λ l. map f (map g l)) (take_step xs i x at)
    ∙ ap (map f) (map-append g (take i xs) (x ∷ [])) ∙ map-append f (map g (take i xs)) (g x ∷ []))

-- a name that is there has a number
has_place : (name : List ℕ) (names : List (List ℕ)) (k i : ℕ) → slice_get names i ≡ Some name
    → position_from (bytes_eq name) k names ≡ None → ⊥
has_place name [] k i at none = cc
has_place name (first ∷ names) k zero at none =
    let same : first ≡ name = cc in
    let equal : bytes_eq name first ≡ true = rw same ((bytes_eq-Decides name name).1 refl) in
    none-some k (sym none ∙ ap (λ b. cond b (Some k) (position_from (bytes_eq name) (k + 1) names)) equal)
has_place name (first ∷ names) k (suc i) at none =
    elim (bytes_eq name first) as (λ b. cond b (Some k) (position_from (bytes_eq name) (k + 1) names) ≡ None → ⊥) [
      | true ↦ λ here. none-some k (sym here)
      | false ↦ λ later. has_place name names (k + 1) i at later
    ] none

absent_without : (names : List (List ℕ)) (name : List ℕ) → number_of names name ≡ None → Contains names name → ⊥
absent_without names name none there =
    has_place name names 0 there.0 (get_at names there.0 name there.1 ∙ ap (λ x. Some x) there.2)
    (sym (position_from-zero (bytes_eq name) names) ∙ none)

below : (names : List (List ℕ)) (name : List ℕ) (n : ℕ) → number_of names name ≡ Some n → n < length names
below names name n is = get_fits names n name (name_at_number names name n is)

known_below : (names : List (List ℕ)) (name : List ℕ) (n : ℕ) → number_of names name ≡ Some n
    → known_number names name < length names
known_below names name n is = rw is (below names name n is)

-- a name that is met has a number
met_at : (names more : List (List ℕ)) (i : ℕ) (name : List ℕ) → slice_get more i ≡ Some name
    → (n : ℕ) × (number_of (met names more) name ≡ Some n)
met_at names [] i name at = cc
met_at names (first ∷ more) zero name at = let same : first ≡ name = cc in rw (← same) (met_has_number names more first)
met_at names (first ∷ more) (suc i) name at =
    met_at (if is_some (number_of names first) then names else names ++ first ∷ []) more i name at

left_number : (ds : List (Declared SaidProduction)) (i : ℕ) (d : Declared SaidProduction) → slice_get ds i ≡ Some d
    → (n : ℕ) × (number_of (nonterminals_in ds) d.said.left ≡ Some n)
left_number ds i d at = met_at [] (map (λ e. e.said.left) ds) i d.said.left (map_get (λ e. e.said.left) ds i d at)

-- so many rules
all_ones : (ds : List (Declared SaidProduction)) (n : ℕ) → n ≤ length ds → sum_by one (take n ds) ≡ n
all_ones ds zero fits = none ds
  where
    none : (ds : List (Declared SaidProduction)) → sum_by one (take 0 ds) ≡ 0
    none [] = refl
    none (d ∷ ds) = refl
all_ones [] (suc n) fits = absurd (omega (arith, fits))
all_ones (d ∷ ds) (suc n) fits = let more = all_ones ds n (omega (arith, fits)) in omega (arith, more)

-- the grammar's numbers and counts
module _ (tokens : List (List ℕ)) (ds : List (Declared SaidProduction)) (unknown : (line : ℕ) → HasFault (grammar tokens) ds Unknown line → ⊥)
    (limit : (line : ℕ) → HasFault (grammar tokens) ds Limit line → ⊥) where
  at_most : (n most : ℕ) → (most < n → ⊥) → n ≤ most
  at_most n most none = omega (arith, none)

  left_below : (k : ℕ) (d : Declared SaidProduction) → k < length ds
      → known_number (nonterminals_in ds) (get_or ds k d).said.left < length (nonterminals_in ds)
  left_below k d less =
      let at = left_number ds k (get_or ds k d) (get_at ds k d less) in known_below (nonterminals_in ds) _ at.0 at.1

  symbol_in : (name : List ℕ) → ((Contains tokens name → ⊥) → (Contains (nonterminals_in ds) name → ⊥) → ⊥)
      → IsSymbol (grammar_by tokens ds) (symbol_by tokens (nonterminals_in ds) name)
  symbol_in name is = by (number_of tokens name) refl (number_of (nonterminals_in ds) name) refl
    where
      by : (token : Option ℕ) → number_of tokens name ≡ token → (nonterminal : Option ℕ)
          → number_of (nonterminals_in ds) name ≡ nonterminal
          → IsSymbol (grammar_by tokens ds) (symbol_or token (known_number (nonterminals_in ds) name))
      by (Some t) same nonterminal same2 = below tokens name t same
      by None same (Some n) same2 = known_below (nonterminals_in ds) name n same2
      by None same None same2 = absurd (is (absent_without tokens name same) (absent_without (nonterminals_in ds) name same2))

  right_in : (k : ℕ) (d : Declared SaidProduction) → k < length ds
      → All (IsSymbol (grammar_by tokens ds)) (map (symbol_by tokens (nonterminals_in ds)) (get_or ds k d).said.right)
  right_in k d less =
      All-map (IsSymbol (grammar_by tokens ds)) (symbol_by tokens (nonterminals_in ds)) (get_or ds k d).said.right
      (λ j name within. symbol_in (get_or (get_or ds k d).said.right j name)
      (λ no_token no_nonterminal. unknown (get_or ds k d).number (record {
        place = k;
        declared = get_or ds k d;
        is = get_at ds k d less;
        number = refl;
        fault = no_symbol k (get_or ds k d).said (record {
          name = get_or (get_or ds k d).said.right j name;
          used = contains_at _ j _ (get_at (get_or ds k d).said.right j name within);
          none = none_of_two tokens (nonterminals_in ds) _ no_token no_nonterminal;
        });
      })))

  rules_within : length ds ≤ 1024
  rules_within = at_most (length ds) 1024 (λ more.
      let last = some_at ds 1024 more in
      limit last.0.number (record {
        place = 1024;
        declared = last.0;
        is = last.1;
        number = refl;
        fault = too_many_rules 1024 last.0.said (let sum = all_ones ds 1025 (omega (arith, more)) in omega (arith, sum));
      }))

  symbols_within : 0 < length ds → length tokens + 1 + length (nonterminals_in ds) ≤ 512
  symbols_within some = by (length ds) refl some
    where
      by : (n : ℕ) → n ≡ length ds → 0 < n → length tokens + 1 + length (nonterminals_in ds) ≤ 512
      by zero is less = absurd (omega (arith, less))
      by (suc n) is less = at_most _ 512 (λ more.
          let last = some_at ds n (omega (arith, is)) in
          limit last.0.number (record {
            place = n;
            declared = last.0;
            is = last.1;
            number = refl;
            fault = too_many_symbols n last.0.said (rw (take_all ds (n + 1) (omega (arith, is)), names_by_some (λ said. said.left) ds) more);
          }))

  in_range : 0 < length ds → IsGrammar (grammar_by tokens ds)
  in_range some = record {
    few_rules = (let long = length-map ds (λ d. production_by tokens (nonterminals_in ds) d.said) in
        let few = rules_within in omega (arith, long, few));
    few_symbols = symbols_within some;
    start = (let first = some_at ds 0 some in let at = left_number ds 0 first.0 first.1 in
        let less = below (nonterminals_in ds) first.0.said.left at.0 at.1 in omega (arith, less));
    left =
        All-map (λ r. r.left < length (nonterminals_in ds)) (λ d. production_by tokens (nonterminals_in ds) d.said) ds
        left_below;
    right =
        All-map (λ r. All (IsSymbol (grammar_by tokens ds)) r.right)
        (λ d. production_by tokens (nonterminals_in ds) d.said) ds right_in;
  }

-- a section that is accepted has a rule
some_rule : (ds : List (Declared SaidProduction)) → (NoProduction ds Unknown → ⊥) → 0 < length ds
some_rule [] accepted = absurd (accepted (empty refl))
some_rule (d ∷ ds) accepted = omega arith

-- so is each grammar that is declared
module _ (file : List ℕ) (tokens : List (List ℕ)) (g : NamedGrammar) (is : DeclaresGrammar file tokens g) where
  pub declared_in_range : IsGrammar g.grammar
  declared_in_range = rw is.is (in_range tokens is.declared
      (λ line has. is.accepted.no_fault Unknown line (omega arith) (inl has))
      (λ line has. is.accepted.no_fault Limit line (omega arith) (inl has))
      (some_rule is.declared (λ none. is.accepted.no_fault Unknown is.lines.head (omega arith) (inr (refl, none)))))

  pub declared_counts : (g.grammar.terminals ≡ length tokens) × (length g.nonterminals ≡ g.grammar.nonterminals)
      × (length g.labels ≡ length g.grammar.rules)
  declared_counts = rw is.is (
    refl,
    refl,
    length-map is.declared (λ d. d.said.label)
        ∙ sym (length-map is.declared (λ d. production_by tokens (nonterminals_in is.declared) d.said)),
  )
