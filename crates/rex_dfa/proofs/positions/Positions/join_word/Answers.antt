use Rattle.std.proofs.Common.{◌≡◌, ◌*◌, ◌+◌, arith, subst, sym, ◌∙◌}
use Rattle.std.proofs.lemmas.Option.{slice_get_read}
use Rattle.ck_base.specs.BitSet.{BitSet}
use Rattle.rex_dfa.specs.within.Positions.{Joining}
use Rattle.rex_dfa.proofs.Joining.{join_nothing, join_joins, join_goes_on, here_of_bit, bit_of_here}
use Rattle.rex_dfa.proofs.positions.Positions.join_word.Goals as goal
use Rattle.rex_dfa.proofs.positions.Positions.join_word.Goals.{then-is_set, else-is_set}

pub returns-then-bits-eq0 : goal.returns-then-bits-eq0
returns-then-bits-eq0 c = join_nothing c.args.self.now c.args.from.now c.args.takers.now c.args.byte c.requires.fit c.requires.takers c.args.w _ c.if-bits-eq0.true c.requires.joining

pub index-requires : goal.index-requires
index-requires c =
    let here = here_of_bit c.args.self.now c.args.from.now c.args.takers.now c.args.byte c.requires.fit c.requires.takers c.args.w c.loop-bit.bit (omega arith) (c.is_set.ensures.0 c.if-is_set.true) in
    let within = here.0.0 in
    omega (arith, within, c.requires.positions.follows)

pub join-requires : goal.join-requires
join-requires c =
    let here = here_of_bit c.args.self.now c.args.from.now c.args.takers.now c.args.byte c.requires.fit c.requires.takers c.args.w c.loop-bit.bit (omega arith) (c.is_set.ensures.0 c.if-is_set.true) in
    let within = here.0.0 in
    c.loop-bit.invariant.size ∙ sym (subst (λ (set : BitSet). set.size ≡ c.args.self.now.size) (sym c.index.ensures)
    (c.requires.positions.sizes (64 * c.args.w + c.loop-bit.bit) c.index.result.now (omega (arith, within, c.requires.positions.follows))))

pub loop-bit-preserved : goal.loop-bit-preserved
loop-bit-preserved c = elim c.if-is_set.branch [
  | then-is_set w ↦
      let here = here_of_bit c.args.self.now c.args.from.now c.args.takers.now c.args.byte c.requires.fit c.requires.takers c.args.w c.loop-bit.bit (omega arith) (c.is_set.ensures.0 w.if-is_set.true) in
      let within = here.0.0 in
      let there = slice_get_read c.args.self.now.follows.items c.args.self.now.size (64 * c.args.w + c.loop-bit.bit) w.index.result.now (omega arith) within w.index.ensures in
      rw w.to-is (subst (λ i. Joining c.args.self.now c.args.from.now c.args.byte i w.join.new.self) (omega arith)
      (join_joins c.args.self.now c.args.from.now c.args.byte (64 * c.args.w + c.loop-bit.bit) c.loop-bit.to w.join.new.self w.index.result.now c.loop-bit.invariant here there w.join.ensures.joined))
  | else-is_set w ↦
      rw w.to-is (subst (λ i. Joining c.args.self.now c.args.from.now c.args.byte i c.loop-bit.to) (omega arith)
      (join_goes_on c.args.self.now c.args.from.now c.args.byte (64 * c.args.w + c.loop-bit.bit) c.loop-bit.to c.loop-bit.invariant (λ here.
      let yes = c.is_set.ensures.1 (bit_of_here c.args.self.now c.args.from.now c.args.takers.now c.args.byte c.requires.fit c.requires.takers c.args.w c.loop-bit.bit (omega arith) here) in cc)))
]
