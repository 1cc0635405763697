-- The set is sound, and lacks fewer numbers after each round.
use Rattle.std.proofs.Common.{◌≡◌}
use Rattle.cfg_model.specs.within.Closing.{IsSound}
use Rattle.cfg_model.specs.within.Missing.{missing}
use Rattle.cfg_model.proofs.closing.makers.Given as goal

abbrev pub invariant-rounds : goal.invariant-rounds
invariant-rounds l = record { size : l.set.size ≡ l.g.nonterminals; sound : IsSound l.words l.g l.set; same_g : l.g ≡ l.initial.g; same_words : l.words ≡ l.initial.words }

abbrev pub decreases-rounds : goal.decreases-rounds
decreases-rounds l = missing l.set
