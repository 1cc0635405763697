-- A section is missing, or the source is too long, or the stage makes its answer of it.
use Rattle.std.proofs.Common.{arith}
use Rattle.std.proofs.lemmas.Option.{IfSome_then}
use Rattle.ck_chain.specs.Answers.{AnswerOf, makes}
use Rattle.ck_chain.specs.Promise.{answer_in}
use Rattle.ck_chain.proofs.RefusedSpec.{refused_without}
use Rattle.ck_chain.proofs.answering.meaning.Goals as goal

pub returns-in-Some : goal.returns-in-Some
returns-in-Some c = refused_without _ _ _ c.in-Some.section c.in-Some.ensures c.without_section.result c.without_section.ensures

pub returns-then-source-gt-SOURCE_LIMIT : goal.returns-then-source-gt-SOURCE_LIMIT
returns-then-source-gt-SOURCE_LIMIT c = AnswerOf.too_long c.in_default.ensures (omega (arith, c.if-source-gt-SOURCE_LIMIT.true))

pub returns : goal.returns
returns c = IfSome_then (answer_in c.make.result) c.make.ensures
    (λ answer made. makes answer c.in_default.ensures (omega (arith, c.if-source-gt-SOURCE_LIMIT.false)) made)
