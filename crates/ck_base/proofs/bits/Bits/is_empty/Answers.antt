-- All words are 0 exactly where no number is in the set.
use Rattle.std.proofs.Common.{◌↔◌, IsTrue, rules}
use Rattle.ck_base.proofs.WordsActAsSets.{AreWords, AreZeros, empty_of_zeros, zeros_of_empty}
use Rattle.ck_base.proofs.bits.Bits.is_empty.Goals as goal

pub returns : goal.returns
returns c =
    let size = c.self.inside.size in
    let words = c.self.inside.words.items in
    let same = c.as_slice-words.ensures.value in
    let range : AreWords words = rw (← same) (search rules) in
    let zeros : IsTrue c.all.result ↔ AreZeros words = rw (← same) (search rules) in
    rw (← c.self.view_is) (λ all. empty_of_zeros size words (zeros.0 all), λ empty. zeros.1 (zeros_of_empty size words c.self.invariant range empty))
