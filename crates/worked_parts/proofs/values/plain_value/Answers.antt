use Rattle.std.proofs.Common.{arith, false}
use Rattle.expr_lang.specs.Meaning.{meant}
use Rattle.worked_parts.proofs.PlainReady.{plain_ready}
use Rattle.worked_parts.proofs.values.plain_value.Goals as goal

pub plain-value-requires : goal.plain-value-requires
plain-value-requires c = let texts = c.args.texts.now in
    plain_ready (meant texts c.args.e.now) c.in-Some.of c.units.result (c.in-Some.ensures texts.source.now texts.literals.now (λ node family. false))
    (c.is_plain.ensures (cc)) (c.units.ensures texts.source.now texts.literals.now) (omega (arith, c.if-units-ge9223372036854775808.false))
