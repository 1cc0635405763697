-- An automaton whose one state accepts nothing and goes nowhere.
use Rattle.std.proofs.Common.{◌≡◌, ℕ, ◌+◌, ◌*◌, ◌<◌, List, [], ◌∷◌, length, None, All, replicate, arith, refl, ap, ◌∙◌, inl}
use Rattle.std.proofs.lemmas.List.{length-replicate}
use Rattle.std.proofs.lemmas.List.Elements.{All-replicate}
use Rattle.rex_dfa.specs.within.Dead.{IsDead}
use Rattle.rex_model.specs.Runs.{nowhere, moved, run, accepted, AreBytes}
use Rattle.rex_model.specs.Runs.{Automaton}
use Rattle.rex_dfa.proofs.DfaOfSets.{moved_is}
use Rattle.rex_model.proofs.RunsOfAutomata.{run_nowhere}

pub dead_is : (dfa : Automaton) → dfa.moves ≡ replicate 256 nowhere → dfa.accepts ≡ None ∷ [] → IsDead dfa
dead_is dfa moves accepts = record {
  is_dfa = record {
    count = rw accepts (omega (arith, long));
    inside = λ k d within. inl (none k d within);
  };
  begins = rw accepts (omega arith);
  nothing = nothing;
}
  where
    long : length dfa.moves ≡ 256
    long = ap length moves ∙ length-replicate 256 nowhere

    none : All (λ m. m ≡ nowhere) dfa.moves
    none = rw moves (All-replicate (λ m. m ≡ nowhere) 256 nowhere refl)

    nothing : (w : List ℕ) → AreBytes w → accepted dfa (run dfa 0 w) ≡ None
    nothing [] small = rw accepts refl
    nothing (b ∷ w) small =
        let below : b < 256 = small 0 0 (omega arith) in
        let goes : moved dfa 0 b ≡ nowhere = moved_is dfa 0 b (omega arith) ∙ none (256 * 0 + b) 0 (omega (arith, long)) in
        rw goes (rw (run_nowhere dfa w) refl)
