use Rattle.std.proofs.Common.{ℕ, ◌↔◌, refl, arith}
use Rattle.ck_base.specs.BitSet.{Has}
use Rattle.ck_base.specs.Words.{IsFit}
use Rattle.rex_dfa.specs.within.Positions.{set_with}
use Rattle.rex_dfa.specs.within.Subset.{empty}
use Rattle.rex_dfa.proofs.StateNumbers.{interned, too_many, numbered}
use Rattle.rex_dfa.proofs.subset.number_of.Goals as goal

pub returns-then-is_empty : goal.returns-then-is_empty
returns-then-is_empty c = empty refl (c.is_empty.ensures.0 c.if-is_empty.true)

pub returns-then-number-ge-MOST : goal.returns-then-number-ge-MOST
returns-then-number-ge-MOST c =
    let fit : IsFit c.args.positions.now.size c.words-words.result.now = rw (← c.requires.size, c.words-words.ensures.words) c.words-words.ensures.fit in
    let has : (q : ℕ) → Has (set_with c.args.positions.now c.words-words.result.now) q ↔ Has c.args.set.now q
    = rw (← c.requires.size, c.words-words.ensures.words) (λ q. (λ h. h, λ h. h)) in
    let some : ((q : ℕ) → Has c.args.set.now q → ⊥) → ⊥ = λ none. let yes = c.is_empty.ensures.1 none in cc in
    too_many c.args.positions.now c.args.sets.now c.intern.new.self c.words-words.result.now (Has c.args.set.now) c.in_ok-number.number
    c.requires.few fit c.known_small.ensures some has (interned c.args.sets.now c.intern.new.self c.words-words.result.now c.in_ok-number.number c.in_ok-number.ensures.met c.in_ok-number.ensures.number) (omega arith)

pub returns : goal.returns
returns c =
    let fit : IsFit c.args.positions.now.size c.words-words.result.now = rw (← c.requires.size, c.words-words.ensures.words) c.words-words.ensures.fit in
    let has : (q : ℕ) → Has (set_with c.args.positions.now c.words-words.result.now) q ↔ Has c.args.set.now q
    = rw (← c.requires.size, c.words-words.ensures.words) (λ q. (λ h. h, λ h. h)) in
    let some : ((q : ℕ) → Has c.args.set.now q → ⊥) → ⊥ = λ none. let yes = c.is_empty.ensures.1 none in cc in
    numbered c.args.positions.now c.args.sets.now c.intern.new.self c.words-words.result.now (Has c.args.set.now) c.in_ok-number.number
    c.requires.few fit c.known_small.ensures some has (interned c.args.sets.now c.intern.new.self c.words-words.result.now c.in_ok-number.number c.in_ok-number.ensures.met c.in_ok-number.ensures.number) (omega arith)
