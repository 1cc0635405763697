-- The sets of a table of positions are those of the rules from which it was made.
use Rattle.std.proofs.Common.{◌≡◌, ℕ, suc, arith, ◌<◌, ◌↔◌, List, length}
use Rattle.ck_base.specs.BitSet.{BitSet}
use Rattle.rex_model.specs.Positions.{Takes, Follow}
use Rattle.rex_model.specs.Rules.{Rule}
use Rattle.rex_model.specs.Sets.{Goes, there, on, marked_rules, FirstOfActive}
use Rattle.rex_dfa.specs.within.Positions.{TakesAt, FollowsAt}
use Rattle.ck_base.proofs.Counting.{more_of_others}
use Rattle.rex_model.specs.Runs.{AreBytes}
use Rattle.rex_model.specs.ScanSets as model
use Rattle.rex_dfa.specs.within.Subset as table
use Rattle.rex_dfa.specs.declared.positions.Positions.{Positions}

-- the table of positions is that of the rules
pub record ArePositionsOf (rules : List Rule) (states : ℕ) (positions : Positions) (firsts : List BitSet) : Type 0 where
  pub takes : (p b : ℕ) → b < 256 → TakesAt positions p b ↔ Takes (marked_rules rules) 0 p b
  pub follow : (p q : ℕ) → FollowsAt positions p q ↔ Follow (marked_rules rules) 0 p q
  pub count : length firsts ≡ states
  pub first : (k p : ℕ) → k < states → table.FirstAt firsts k p ↔ FirstOfActive rules k 0 p

-- over bytes paths are the same where each step is
pub goes_alike : (takes follow takes' follow' : ℕ → ℕ → Type 0) → ((p b : ℕ) → b < 256 → takes p b → takes' p b) → ((p q : ℕ) → follow p q → follow' p q)
    → (p q : ℕ) (w : List ℕ) → AreBytes w → Goes takes follow p w q → Goes takes' follow' p w q
goes_alike takes follow takes' follow' t f p q w small (there _) = there p
goes_alike takes follow takes' follow' t f p q w small (on _ next _ b v taken follows more) =
    on p next q b v (t p b (small 0 0 (omega arith)) taken) (f p next follows)
    (goes_alike takes follow takes' follow' t f next q v (λ k d within. small (suc k) d (omega arith)) more)

module _ (rules : List Rule) (states : ℕ) (positions : Positions) (firsts : List BitSet) (of_rules : ArePositionsOf rules states positions firsts) where
  abbrev of_way : table.Way → model.Way
  of_way way = record { start = way.start; word = way.word }

  pub same_set : (way : table.Way) → way.start < states → AreBytes way.word → (q : ℕ)
      → table.SetAfter positions firsts way q ↔ model.InScanSet rules (of_way way) q
  same_set way inside small q = (
    λ h. (
      h.0,
      (of_rules.first way.start h.0 inside).0 h.1,
      goes_alike (TakesAt positions) (FollowsAt positions) (Takes (marked_rules rules) 0) (Follow (marked_rules rules) 0)
          (λ p b below. (of_rules.takes p b below).0) (λ p r. (of_rules.follow p r).0) h.0 q way.word small h.2,
    ),
    λ h. (
      h.0,
      (of_rules.first way.start h.0 inside).1 h.1,
      goes_alike (Takes (marked_rules rules) 0) (Follow (marked_rules rules) 0) (TakesAt positions) (FollowsAt positions)
          (λ p b below. (of_rules.takes p b below).1) (λ p r. (of_rules.follow p r).1) h.0 q way.word small h.2,
    ),
  )

  -- as many sets of the table, as many of the rules
  pub more_of_rules : (n : ℕ) → table.HasMoreSets positions firsts n → model.HasMoreScanSets rules states n
  more_of_rules n more = more_of_others of_way (table.IsWay positions firsts) (table.IsSameSet positions firsts) (model.IsScanWay rules states) _ n
      (λ way is. record {
        inside = (let inside = is.inside in omega (arith, of_rules.count));
        bytes = is.bytes;
        filled = λ none. is.filled (λ q h. none q ((same_set way (let inside = is.inside in omega (arith, of_rules.count)) is.bytes q).0 h));
      })
      (λ a b is_a is_b same q.
      let x = same_set a (let inside = is_a.inside in omega (arith, of_rules.count)) is_a.bytes q in
      let y = same_set b (let inside = is_b.inside in omega (arith, of_rules.count)) is_b.bytes q in
      (λ h. y.1 ((same q).0 (x.0 h)), λ h. x.1 ((same q).1 (y.0 h))))
      more

  abbrev of_model : model.Way → table.Way
  of_model way = record { start = way.start; word = way.word }

  pub more_of_table : (n : ℕ) → model.HasMoreScanSets rules states n → table.HasMoreSets positions firsts n
  more_of_table n more = more_of_others of_model (model.IsScanWay rules states) _ (table.IsWay positions firsts) (table.IsSameSet positions firsts) n
      (λ way is. record {
        inside = (let inside = is.inside in omega (arith, of_rules.count));
        bytes = is.bytes;
        filled = λ none. is.filled (λ q h. none q ((same_set (of_model way) is.inside is.bytes q).1 h));
      })
      (λ a b is_a is_b same q.
      let x = same_set (of_model a) is_a.inside is_a.bytes q in
      let y = same_set (of_model b) is_b.inside is_b.bytes q in
      (λ h. y.0 ((same q).0 (x.1 h)), λ h. x.0 ((same q).1 (y.1 h))))
      more
