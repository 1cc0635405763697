-- Tables whose main automaton accepts the least active rule of each word, and whose splits accept the
-- parts of their rules, give the winners.
use Rattle.std.proofs.Common.{◌≡◌, ℕ, suc, zero, ◌-◌, ◌<◌, ◌≤◌, ◌⊎◌, ◌↔◌, List, [], ◌∷◌, length, take, drop, reverse, Option, Some, None, IsSome, IsTrue, arith, refl, sym, ap, subst, ◌∙◌, inl, inr, slice_get, length-take, length-drop}
use Rattle.std.proofs.lemmas.Option.{same_Some}
use Rattle.std.proofs.lemmas.List.{reverse-reverse, drop-take, take-take}
use Rattle.std.proofs.lemmas.List.Elements.{All-take, All-drop}
use Rattle.rex_model.specs.Language.{Re, Language}
use Rattle.rex_model.specs.Winner.{Candidate, Winner, HasNoCandidate}
use Rattle.rex_model.specs.Rules.{Rule, trailing}
use Rattle.rex_model.specs.Tables.{Halves}
use Rattle.rex_model.specs.Tables.{Tables}
use Rattle.rex_model.specs.Runs.{run, accepted, AreBytes, IsLongestRun, AcceptsNothing}
use Rattle.rex_model.specs.Tables.{AreParts, IsCut, whole, parts, start_of, GivesWinners}
use Rattle.rex_dfa.specs.within.Main.{IsFound}
use Rattle.rex_dfa.specs.within.Splits.{AcceptsParts, HasSplit}
use Rattle.rex_dfa.specs.within.Marks.{IsLeast}
use Rattle.rex_dfa.proofs.CutWords.{length_parts, first_part, second_part, cut_at, greatest_up_to, All-reverse}

pub least_alike : (P Q : ℕ → Type 0) (o : Option ℕ) → ((i : ℕ) → P i ↔ Q i) → IsLeast P o → IsLeast Q o
least_alike P Q None same none = λ i h. none i ((same i).1 h)
least_alike P Q (Some i) same (here, least) = ((same i).0 here, λ j h. least j ((same j).1 h))

module _ (tables : Tables) (rules : List Rule)
    (least : (state : ℕ) (w : List ℕ) → state < length tables.starts → AreBytes w
    → IsLeast (λ i. IsFound rules state i w) (accepted tables.main (run tables.main (start_of tables state) w)))
    (splits : (i : ℕ) (rule : Rule) → slice_get rules i ≡ Some rule → HasSplit tables.splits i rule rule.context)
    (actions : (i : ℕ) (rule : Rule) → slice_get rules i ≡ Some rule
    → slice_get tables.actions i ≡ Some (record { token = rule.token; next = rule.next }))
    (bodies : (i : ℕ) (rule : Rule) → slice_get rules i ≡ Some rule → Language rule.body [] → ⊥) where
  -- a candidate's text and context are found, and what is found makes a candidate
  found_of_candidate : (state : ℕ) (text : List ℕ) (i n m : ℕ) → Candidate rules state text i n m → IsFound rules state i (take m text)
  found_of_candidate state text i n m c = record {
    rule = c.rule;
    is_rule = c.is_rule;
    active = c.active;
    word = (take n text, take (m - n) (drop n text), cut_at text n m c.fits, c.body, c.context);
  }

  candidate_of_found : (state : ℕ) (text : List ℕ) (i m : ℕ) → m ≤ length text → IsFound rules state i (take m text)
      → (n : ℕ) × Candidate rules state text i n m
  candidate_of_found state text i m within found =
      let (u, v, is, body, behind) = found.word in
      let sum = length_parts text u v m within is in (
        length u,
        record {
          rule = found.rule;
          is_rule = found.is_rule;
          active = found.active;
          some = some u body;
          fits = omega arith;
          within = within;
          body = subst (Language found.rule.body) (first_part text u v m within is) body;
          context = subst (Language (trailing found.rule.context)) (second_part text u v m within is) behind;
        },
      )
    where
      some : (u : List ℕ) → Language found.rule.body u → 0 < length u
      some [] body = absurd (bodies i found.rule found.is_rule body)
      some (b ∷ u) body = omega arith

  bytes_of_take : (text : List ℕ) (m : ℕ) → AreBytes text → AreBytes (take m text)
  bytes_of_take text m small = All-take (λ byte. byte < 256) m text small

  -- where nothing is accepted there is no candidate
  none_of_nothing : (state : ℕ) (text : List ℕ) → state < length tables.starts → AreBytes text
      → AcceptsNothing tables.main (start_of tables state) text → HasNoCandidate rules state text
  none_of_nothing state text inside bytes nothing i n m c =
      by_case _ refl (least state (take m text) inside (bytes_of_take text m bytes))
    where
      by_case : (o : Option ℕ) → o ≡ accepted tables.main (run tables.main (start_of tables state) (take m text))
          → IsLeast (λ i. IsFound rules state i (take m text)) o → ⊥
      by_case None is none = none i (found_of_candidate state text i n m c)
      by_case (Some j) is found = nothing m j c.within (sym is)

  -- both automata accept at a place or they don't
  some_or_none : (o : Option ℕ) → IsSome o ⊎ (IsSome o → ⊥)
  some_or_none None = inr (λ h. (cc))
  some_or_none (Some x) = inl refl

  parts_or_not : (split : Halves) (word : List ℕ) (n : ℕ) → AreParts split word n ⊎ (AreParts split word n → ⊥)
  parts_or_not split word n = elim (cases_le n (length word)) [
    | inl fits ↦ elim (some_or_none (accepted split.forward (run split.forward 0 (take n word)))) [
      | inl forward ↦ elim (some_or_none (accepted split.backward (run split.backward 0 (reverse (drop n word))))) [
        | inl backward ↦ inl (record { fits = fits; forward = forward; backward = backward })
        | inr none ↦ inr (λ p. none p.backward)
      ]
      | inr none ↦ inr (λ p. none p.forward)
    ]
    | inr over ↦ inr (λ p. let fits = p.fits in omega arith)
  ]
    where
      cases_le : (a b : ℕ) → (a ≤ b) ⊎ (b < a)
      cases_le a b = grind arith

  -- what the main automaton accepts last wins, cut by the split
  winner_of_longest : (state : ℕ) (text : List ℕ) (i m : ℕ) → state < length tables.starts → AreBytes text
      → IsLongestRun tables.main (start_of tables state) text i m
      → (n : ℕ) × IsCut tables.splits (take m text) i n × Winner rules state text i n m
  winner_of_longest state text i m inside small longest =
      let found = subst (IsLeast (λ j. IsFound rules state j (take m text))) longest.accepts (least state (take m text) inside (bytes_of_take text m small)) in
      let (n, candidate) = candidate_of_found state text i m longest.within found.0 in
      by_context candidate.rule candidate.is_rule candidate.rule.context refl n candidate refl found
    where
      long : length (take m text) ≡ m
      long = let within = longest.within in omega (arith, length-take m text)

      longest_of_all : (j k l : ℕ) → Candidate rules state text j k l → l ≤ m
      longest_of_all j k l c = by_case _ refl (least state (take l text) inside (bytes_of_take text l small))
        where
          by_case : (o : Option ℕ) → o ≡ accepted tables.main (run tables.main (start_of tables state) (take l text))
              → IsLeast (λ x. IsFound rules state x (take l text)) o → l ≤ m
          by_case None is none = absurd (none j (found_of_candidate state text j k l c))
          by_case (Some x) is found = longest.longest l x c.within (sym is)

      by_context : (rule : Rule) → slice_get rules i ≡ Some rule → (context : Option Re) → context ≡ rule.context
          → (n : ℕ) (c : Candidate rules state text i n m) → c.rule ≡ rule
          → IsLeast (λ j. IsFound rules state j (take m text)) (Some i)
          → (k : ℕ) × IsCut tables.splits (take m text) i k × Winner rules state text i k m
      by_context rule is None plain n c same found =
          let none_there = subst (HasSplit tables.splits i rule) (sym plain) (splits i rule is) in
          let behind = subst (λ x. Language (trailing x) (take (m - n) (drop n text))) (ap (λ (x : Rule). x.context) same ∙ sym plain) c.context in
          let ends : n ≡ m = nothing_behind n c.fits c.within behind in (
            m,
            subst (IsCut tables.splits (take m text) i) long (whole none_there),
            record {
              candidate = subst (λ k. Candidate rules state text i k m) ends c;
              longest = longest_of_all;
              first = λ j k d. found.1 j (found_of_candidate state text j k m d);
              greatest = λ k d. d.fits;
            },
          )
        where
          nothing_behind : (n : ℕ) → n ≤ m → m ≤ length text → take (m - n) (drop n text) ≡ [] → n ≡ m
          nothing_behind n fits within none = omega (arith, ap length none, length-take (m - n) (drop n text), length-drop n text)
      by_context rule is (Some context) with_context n c same found =
          let (split, is_split, accepts) = subst (HasSplit tables.splits i rule) (sym with_context) (splits i rule is) in
          let g = greatest_up_to (AreParts split (take m text)) (parts_or_not split (take m text)) m n (parts_of_candidate split accepts n c) (λ k p. let fits = p.fits in omega (arith, long)) in (
            g.n,
            parts split g.n is_split g.holds g.greatest,
            record {
              candidate = candidate_of_parts split accepts g.n g.holds;
              longest = longest_of_all;
              first = λ j k d. found.1 j (found_of_candidate state text j k m d);
              greatest = λ k d. g.greatest k (parts_of_candidate split accepts k d);
            },
          )
        where
          behind : ℕ → List ℕ
          behind k = take (m - k) (drop k text)

          same_behind : (k : ℕ) → k ≤ m → drop k (take m text) ≡ behind k
          same_behind k fits = ap (λ j. drop k (take j text)) (omega arith) ∙ drop-take k (m - k) text

          same_front : (k : ℕ) → k ≤ m → take k (take m text) ≡ take k text
          same_front k fits = take-take k m text fits

          small_behind : (k : ℕ) → AreBytes (reverse (behind k))
          small_behind k = All-reverse (λ byte. byte < 256) (behind k) (All-take (λ byte. byte < 256) (m - k) (drop k text) (All-drop (λ byte. byte < 256) k text small))

          same_rule : (k : ℕ) (d : Candidate rules state text i k m) → d.rule ≡ rule
          same_rule k d = same_Some d.rule rule (sym d.is_rule ∙ is)

          fits_of : (k : ℕ) {split : Halves} → AreParts split (take m text) k → k ≤ m
          fits_of k p = let fits = p.fits in omega (arith, long)

          parts_of_candidate : (split : Halves) → AcceptsParts rule split → (k : ℕ) → Candidate rules state text i k m → AreParts split (take m text) k
          parts_of_candidate split accepts k d = record {
            fits = (let fits = d.fits in omega (arith, long));
            forward = subst (λ w. IsSome (accepted split.forward (run split.forward 0 w))) (sym (same_front k d.fits)) ((accepts.forward (take k text) (bytes_of_take text k small)).1
                (subst (λ (r : Rule). Language r.body (take k text)) (same_rule k d) d.body));
            backward = subst (λ w. IsSome (accepted split.backward (run split.backward 0 (reverse w)))) (sym (same_behind k d.fits)) ((accepts.backward (reverse (behind k)) (small_behind k)).1
                (subst (Language (trailing rule.context)) (sym (reverse-reverse (behind k)))
                (subst (λ (r : Rule). Language (trailing r.context) (behind k)) (same_rule k d) d.context)));
          }

          candidate_of_parts : (split : Halves) → AcceptsParts rule split → (k : ℕ) → AreParts split (take m text) k → Candidate rules state text i k m
          candidate_of_parts split accepts k p = record {
            rule = rule;
            is_rule = is;
            active = subst (λ (r : Rule). IsTrue (r.active state)) (same_Some found.0.rule rule (sym found.0.is_rule ∙ is)) found.0.active;
            some = some k body;
            fits = fits_of k p;
            within = longest.within;
            body = body;
            context = subst (Language (trailing rule.context)) (reverse-reverse (behind k))
                ((accepts.backward (reverse (behind k)) (small_behind k)).0 (subst (λ w. IsSome (accepted split.backward (run split.backward 0 (reverse w)))) (same_behind k (fits_of k p)) p.backward));
          }
            where
              body : Language rule.body (take k text)
              body = (accepts.forward (take k text) (bytes_of_take text k small)).0 (subst (λ w. IsSome (accepted split.forward (run split.forward 0 w))) (same_front k (fits_of k p)) p.forward)

              some : (k : ℕ) → Language rule.body (take k text) → 0 < k
              some zero word = absurd (bodies i rule is word)
              some (suc k) word = omega arith

  -- the runs of the tables give the winners
  pub gives_winners : GivesWinners tables rules
  gives_winners = record {
    winner = winner_of_longest;
    none = none_of_nothing;
    action = λ state text i n m inside won. actions i won.candidate.rule won.candidate.is_rule;
  }
