-- The table of the rules' positions is the main automaton.
use Rattle.std.proofs.Common.{◌≡◌, ℕ, suc, ◌<◌, ◌≤◌, ◌↔◌, List, [], ◌∷◌, length, slice_get, slice_index, Option, Some, None, Result, Ok, Err, IfOk, MatchOption, arith, refl, ap, ◌∙◌}
use Rattle.ck_base.specs.BitSet.{BitSet}
use Rattle.ck_base.proofs.Representing.{no_more_represented, more_than_fewer}
use Rattle.rex_model.specs.Positions.{position_count}
use Rattle.rex_model.specs.Sets.{ComesNext, marked_rules}
use Rattle.rex_model.specs.Rules.{Rule}
use Rattle.rex_dfa.specs.within.Main.{IsFound, IsMain}
use Rattle.rex_dfa.specs.within.Marks.{AreMarks, IsLeast}
use Rattle.rex_dfa.specs.within.Parts.{IsTable}
use Rattle.rex_dfa.specs.within.Positions.{TakesAt, FollowsAt}
use Rattle.rex_model.specs.Runs.{run, accepted, AreBytes}
use Rattle.rex_model.specs.ScanSets as model
use Rattle.rex_dfa.specs.within.Subset.{FirstAt, Way, IsWay, IsSameSet, HasMoreSets}
use Rattle.rex_dfa.specs.declared.positions.Positions.{Positions}
use Rattle.rex_dfa.specs.declared.table.Table.{Table}
use Rattle.rex_model.specs.Runs.{Automaton}
use Rattle.rex_model.specs.TableMeaning.{automaton_of}
use Rattle.rex_dfa.proofs.CountsOfRules.{same_set, more_of_rules, more_of_table}
use Rattle.rex_dfa.proofs.CountsOfRules.{ArePositionsOf}
use Rattle.rex_dfa.proofs.MarkedRules.{found_of_mark, mark_of_found}
use Rattle.rex_dfa.proofs.MarksOfRules.{mark_at}
use Rattle.rex_dfa.proofs.WinnersOfTables.{least_alike}

pub marks_count : (rules : List Rule) (k : ℕ) (marks : List ℕ) → AreMarks rules k marks → length marks ≡ length rules
marks_count [] k [] are = refl
marks_count [] k (m ∷ ms) are = elim are [ ]
marks_count (rule ∷ rules) k [] are = elim are [ ]
marks_count (rule ∷ rules) k (m ∷ ms) are = ap suc (marks_count rules _ ms are.1)

pub few_rules : (rules : List Rule) → length rules ≤ position_count (marked_rules rules)
few_rules [] = omega arith
few_rules (rule ∷ rules) = let rest = few_rules rules in omega arith

module _ (rules : List Rule) (states : ℕ) (positions : Positions) (firsts : List BitSet) (of_rules : ArePositionsOf rules states positions firsts)
    (marks : List ℕ) (are_marks : AreMarks rules 0 marks) where
  least_found : (starts : List ℕ) (dfa : Automaton) → IsTable positions firsts marks starts dfa → (state : ℕ) (w : List ℕ) → state < states → AreBytes w
      → IsLeast (λ i. IsFound rules state i w) (accepted dfa (run dfa (slice_index starts state) w))
  least_found starts dfa is state w below small = least_alike _ _ (accepted dfa (run dfa (slice_index starts state) w)) same (is.least state w (omega (arith, of_rules.count)) small)
    where
      way : Way
      way = record { start = state; word = w }

      same : (i : ℕ) → ((q : ℕ) × (slice_get marks i ≡ Some q) × ComesNext (TakesAt positions) (FollowsAt positions) (FirstAt firsts state) w q) ↔ IsFound rules state i w
      same i = (
        λ h.
            let comes = (same_set rules states positions firsts of_rules way below small h.0).0 h.2 in
            found_of_mark rules state 0 i comes.0 h.0 w comes.1 comes.2 ((mark_at rules 0 marks are_marks i h.0).0 h.1),
        λ found.
            let (p, q, first, goes, mark) = mark_of_found rules state 0 i found.rule w found.is_rule found.active found.word in
            (q, (mark_at rules 0 marks are_marks i q).1 mark, (same_set rules states positions firsts of_rules way below small q).1 (p, first, goes)),
      )

  main_is : (starts : List ℕ) (dfa : Automaton) → IsTable positions firsts marks starts dfa → IsMain rules states starts dfa
  main_is starts dfa is = record {
    count = is.starts_count ∙ of_rules.count;
    is_dfa = is.is_dfa;
    inside = λ k below. is.inside k (omega (arith, of_rules.count));
    least = least_found starts dfa is;
    marked = λ s i at. let below = is.marked s i at in omega (arith, marks_count rules 0 marks are_marks);
    few = λ more. no_more_represented (IsWay positions firsts) (IsSameSet positions firsts) is.ways is.represent
        (λ a b same q. (λ h. (same q).1 h, λ h. (same q).0 h))
        (λ a b c x y q. (λ h. (y q).0 ((x q).0 h), λ h. (x q).1 ((y q).1 h)))
        (more_than_fewer (IsWay positions firsts) (IsSameSet positions firsts) 4096 (length is.ways) (let few = is.few in omega (arith, is.as_many)) (more_of_table rules states positions firsts of_rules 4096 more));
  }

  pub mains : {E : Type 0} (result : Result (Option Table) E) → IfOk result (λ table. MatchOption table (HasMoreSets positions firsts 4096) (λ table. IsTable positions firsts marks table.starts.items (automaton_of table.dfa)))
      → IfOk result (λ table. MatchOption table (model.HasMoreScanSets rules states 4096) (λ table. IsMain rules states table.starts.items (automaton_of table.dfa)))
  mains (Ok None) more = more_of_rules rules states positions firsts of_rules 4096 more
  mains (Ok (Some table)) is = main_is table.starts.items (automaton_of table.dfa) is
  mains (Err e) h = tt
