-- The words of the two sets are joined, and the new words stand in the place of the old ones.
use Rattle.std.proofs.Common.{◌≡◌, ◌↔◌, IsTrue, rules, arith, length, take, drop, ◌++◌}
use Rattle.std.proofs.lemmas.Grind.{common_steps}
use Rattle.ck_base.specs.Words.{IsFit, AreJoined, Differ}
use Rattle.ck_base.proofs.WordsActAsSets.{AreWords, joined_adds, grown_where_changed, changed_where_grown}
use Rattle.ck_base.proofs.bits.Bits.join.Goals as goal

pub returns : goal.returns
returns c =
    let size = c.self.inside.size in
    let mine = c.self.inside.words.items in
    let theirs = c.other.inside.words.items in
    let joined = c.join_words.new.mine in
    let is_mine = c.as_mut_slice-mine.ensures.value in
    let is_theirs = c.as_slice-theirs.ensures.value in
    let my_range : AreWords mine = rw (← is_mine) (search rules) in
    let their_range : AreWords theirs = rw (← is_theirs) (search rules) in
    let sizes : size ≡ c.other.inside.size = rw (← c.self.view_is, ← c.other.view_is) at c.requires in
    let their_fit : IsFit size theirs = rw sizes c.other.invariant in
    let are : AreJoined mine theirs joined = rw (is_mine, is_theirs) at c.join_words.ensures.joined in
    let changed : IsTrue c.join_words.result ↔ Differ mine joined = rw is_mine at c.join_words.ensures.changed in
    let whole : take c.self.inside.words.len (joined ++ drop (length joined) mine) ≡ joined = grind (arith, common_steps) in
    record {
      joined = rw (← c.self.view_is, ← c.other.view_is, ← sizes, whole) (joined_adds size mine theirs joined are);
      grew = rw (← c.self.view_is, whole) (
        λ yes. grown_where_changed size mine theirs joined are their_fit my_range their_range (changed.0 yes),
        λ grown. changed.1 (changed_where_grown size mine theirs joined are grown),
      );
    }
