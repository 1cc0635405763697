use Rattle.std.proofs.Common.{◌<◌, ◌+◌, ◌-◌, length, arith, sym, ◌∙◌, refl, slice_get}
use Rattle.std.proofs.lemmas.Option.{slice_get_within}
use Rattle.cfg_model.specs.Items.{right_of}
use Rattle.lalr_look.proofs.Grown.{right_short}
use Rattle.lalr_look.proofs.RestSets.{rest_next, rest_stops, rest_stays, rest_ends, rest_vanishes, none_of}
use Rattle.lalr_look.proofs.rests.Rests.add.Goals as goal

pub returns-then-not-add_symbol-clause-begins : goal.returns-then-not-add_symbol-clause-begins
returns-then-not-add_symbol-clause-begins c =
    rest_stops c.args.g.now c.requires.grammar c.requires.productive c.args.rule c.args.from c.loop-symbol.place c.in-Some.symbol
    c.args.to.now c.loop-symbol.to c.add_symbol.new.to (sym c.behind.ensures ∙ c.in-Some.is) c.loop-symbol.invariant c.add_symbol.ensures.begins
    (λ null. (let e = c.add_symbol.ensures.vanish.1 null in let f = c.if-not-add_symbol.true in cc))

pub returns-then-not-add_symbol-clause-vanish : goal.returns-then-not-add_symbol-clause-vanish
returns-then-not-add_symbol-clause-vanish c = (
  λ e. absurd (let f = e in cc),
  λ h. absurd (rest_stays c.args.g.now c.requires.grammar c.requires.productive c.args.rule c.args.from c.loop-symbol.place c.in-Some.symbol
      c.args.to.now c.loop-symbol.to c.add_symbol.new.to (sym c.behind.ensures ∙ c.in-Some.is) c.loop-symbol.invariant c.add_symbol.ensures.begins
      (λ null. (let e = c.add_symbol.ensures.vanish.1 null in let f = c.if-not-add_symbol.true in cc)) h),
)

pub overflow_add-place : goal.overflow_add-place
overflow_add-place c =
    let low = slice_get_within (right_of c.args.g.now c.args.rule) c.loop-symbol.place c.in-Some.symbol (sym c.behind.ensures ∙ c.in-Some.is) in
    let short = right_short c.args.g.now c.requires.short c.args.rule in
    omega (arith, low, short)

pub loop-symbol-smaller : goal.loop-symbol-smaller
loop-symbol-smaller c =
    let low = slice_get_within (right_of c.args.g.now c.args.rule) c.loop-symbol.place c.in-Some.symbol (sym c.behind.ensures ∙ c.in-Some.is) in
    let e : length (right_of c.args.g.now c.args.rule) - (c.loop-symbol.place + 1) < length (right_of c.args.g.now c.args.rule) - c.loop-symbol.place = omega (arith, low) in e

pub loop-symbol-preserved : goal.loop-symbol-preserved
loop-symbol-preserved c =
    rest_next c.args.g.now c.requires.grammar c.requires.productive c.args.rule c.args.from c.loop-symbol.place c.in-Some.symbol
    c.args.to.now c.loop-symbol.to c.add_symbol.new.to (sym c.behind.ensures ∙ c.in-Some.is) c.loop-symbol.invariant c.add_symbol.ensures.begins
    (c.add_symbol.ensures.vanish.0 c.if-not-add_symbol.false)

pub returns-clause-begins : goal.returns-clause-begins
returns-clause-begins c =
    rest_ends c.args.g.now c.args.rule c.args.from c.loop-symbol.place c.args.to.now c.loop-symbol.to
    (none_of (slice_get (right_of c.args.g.now c.args.rule) c.loop-symbol.place) (λ x e. c.in_default.not-Some x (c.behind.ensures ∙ e))) c.loop-symbol.invariant

pub returns-clause-vanish : goal.returns-clause-vanish
returns-clause-vanish c = (
  λ e. rest_vanishes c.args.g.now c.args.rule c.args.from c.loop-symbol.place c.args.to.now c.loop-symbol.to
      (none_of (slice_get (right_of c.args.g.now c.args.rule) c.loop-symbol.place) (λ x e. c.in_default.not-Some x (c.behind.ensures ∙ e))) c.loop-symbol.invariant,
  λ h. refl,
)
