-- What the tables find is what wins.
use Rattle.std.proofs.Common.{◌≡◌, ℕ, ◌+◌, ◌<◌, List, length, take, drop, Option, Some, None, arith, refl, sym, subst, ◌∙◌, slice_get}
use Rattle.std.proofs.lemmas.Option.{none-some, same_Some, slice_get_within}
use Rattle.rex_model.specs.Run.{Scans, token, skip}
use Rattle.rex_model.specs.Winner.{Winner}
use Rattle.rex_model.specs.Rules.{Rule}
use Rattle.scan_driver.specs.within.Found.{scan_with, IsWon}
use Rattle.rex_model.specs.Runs.{AreBytes, IsLongestRun}
use Rattle.rex_model.specs.Tables.{AreParts, IsCut, whole, parts, start_of, GivesWinners}
use Rattle.rex_model.specs.declared.tables.ScanAction.{ScanAction}
use Rattle.rex_model.specs.Tables.{Tables}
use Rattle.rex_model.specs.Tables.{Halves}

-- a word is cut at one place at most
pub one_cut : (splits : List Halves) (word : List ℕ) (i n k : ℕ) → IsCut splits word i n → IsCut splits word i k → n ≡ k
one_cut splits word i n k (whole none) (whole also) = refl
one_cut splits word i n k (whole none) (parts split _ is here greatest) = absurd (none-some split (sym none ∙ is))
one_cut splits word i n k (parts split _ is here greatest) (whole none) = absurd (none-some split (sym none ∙ is))
one_cut splits word i n k (parts split _ is here greatest) (parts other _ also there least) =
    let same : other ≡ split = same_Some other split (sym also ∙ is) in
    let up = greatest k (subst (λ s. AreParts s word k) same there) in
    let down = least n (subst (λ s. AreParts s word n) (sym same) here) in
    omega arith

module _ (tables : Tables) (state : ℕ) (rest : List ℕ) (inside : state < length tables.starts) (small : AreBytes rest) where
  pub won : (i m n : ℕ) → (rules : List Rule) × GivesWinners tables rules → IsLongestRun tables.main (start_of tables state) rest i m
      → IsCut tables.splits (take m rest) i n → IsWon tables state rest i n
  won i m n (rules, gives) longest is_cut =
      let (k, also, wins) = gives.winner state rest i m inside small longest in
      let same = one_cut tables.splits (take m rest) i k n also is_cut in
      let fits = wins.candidate.fits in
      let within = wins.candidate.within in
      record {
        within = omega arith;
        has_action = slice_get_within tables.actions i _ (gives.action state rest i k m inside wins);
        wins = λ others give.
            let (j, too, win) = give.winner state rest i m inside small longest in
            (m, subst (λ x. Winner others state rest i x m) (one_cut tables.splits (take m rest) i j n too is_cut) win);
      }

-- what the action of the winner makes is what a scan answers
pub scan_of_action : (tables : Tables) (rules : List Rule) (text : List ℕ) (state at i n m : ℕ) (action : ScanAction) → GivesWinners tables rules
    → state < length tables.starts → (won : Winner rules state (drop at text) i n m) → slice_get tables.actions i ≡ Some action
    → Scans rules text state at (scan_with action i (at + n) state)
scan_of_action tables rules text state at i n m action gives inside won is =
    let same : action ≡ record { token = won.candidate.rule.token; next = won.candidate.rule.next } =
    same_Some action _ (sym is ∙ gives.action state (drop at text) i n m inside won) in
    rw same (by_token won.candidate.rule.token refl)
  where
    by_token : (named : Option ℕ) → won.candidate.rule.token ≡ named → Scans rules text state at (scan_with (record { token = won.candidate.rule.token; next = won.candidate.rule.next }) i (at + n) state)
    by_token None none = rw none (skip i n m won none)
    by_token (Some t) some = rw some (token i n m t won some)
