-- What was read, looked up and typed is the expression at the place.
use Rattle.std.proofs.Common.{true, false}
use Rattle.expr_read.specs.Written.{vocabulary_of, no_expression, unknown_name, no_meaning}
use Rattle.expr_read.specs.Writing.{spoken_of}
use Rattle.expr_read.proofs.AtPlace.{grown_behind, grown_between, place_further, place_units, wanted_told}
use Rattle.expr_read.proofs.FoundParts.{unknown_told, nothing_told, meaning_told}
use Rattle.expr_read.proofs.expression.read_expr.Goals as goal

pub returns-in_default-clause-fault : goal.returns-in_default-clause-fault
returns-in_default-clause-fault c = λ said sources are.
    no_expression ((rw c.in_default.is at c.in_ok-written.ensures) said are)

pub returns-then-has_unknown-clause-fault : goal.returns-then-has_unknown-clause-fault
returns-then-has_unknown-clause-fault c = λ said sources are.
    unknown_name (spoken_of c.in-Some.written) c.in-Some.next ((rw c.in-Some.is at c.in_ok-written.ensures) said are)
    (unknown_told c.words_of-words.result (vocabulary_of c.args.scope.now) c.words_of-words.ensures (spoken_of c.in-Some.written) c.has_unknown.result true c.has_unknown.ensures c.if-has_unknown.true)

pub returns-in_default-2-clause-fault : goal.returns-in_default-2-clause-fault
returns-in_default-2-clause-fault c = λ said sources are.
    no_meaning (spoken_of c.in-Some.written) c.in-Some.next ((rw c.in-Some.is at c.in_ok-written.ensures) said are)
    (unknown_told c.words_of-words.result (vocabulary_of c.args.scope.now) c.words_of-words.ensures (spoken_of c.in-Some.written) c.has_unknown.result false c.has_unknown.ensures c.if-has_unknown.false)
    (nothing_told c.words_of-words.result (vocabulary_of c.args.scope.now) c.words_of-words.ensures (spoken_of c.in-Some.written) c.args.scope.now.scope (rw c.in_default-2.is at c.in_ok-e.ensures.means) sources)

pub returns-clause-found : goal.returns-clause-found
returns-clause-found c = λ said source more sources are. record {
  written = spoken_of c.in-Some.written;
  stands = (rw c.in-Some.is at c.in_ok-written.ensures) said are;
  means = meaning_told c.words_of-words.result (vocabulary_of c.args.scope.now) c.words_of-words.ensures (spoken_of c.in-Some.written) c.args.scope.now.scope c.meant_in.new.literals
      c.in-Some-2.e c.in_ok-kept_in.field-0.now c.in-Some-2.ty c.in_ok-kept_in.ensures (rw c.in-Some-2.is at c.in_ok-e.ensures.means) source more sources;
}

pub returns-in_err-e-clause-few : goal.returns-in_err-e-clause-few
returns-in_err-e-clause-few c =
    grown_behind c.args.spec.now c.args.tokens.now c.args.at c.in-Some.next (spoken_of c.in-Some.written) (rw c.in-Some.is at c.in_ok-written.ensures) c.args.literals.now c.meant_in.new.literals c.meant_in.ensures.few

pub returns-in_default-2-clause-few : goal.returns-in_default-2-clause-few
returns-in_default-2-clause-few c =
    grown_behind c.args.spec.now c.args.tokens.now c.args.at c.in-Some.next (spoken_of c.in-Some.written) (rw c.in-Some.is at c.in_ok-written.ensures) c.args.literals.now c.meant_in.new.literals c.meant_in.ensures.few

pub returns-in_err-kept_in-clause-few : goal.returns-in_err-kept_in-clause-few
returns-in_err-kept_in-clause-few c =
    grown_behind c.args.spec.now c.args.tokens.now c.args.at c.in-Some.next (spoken_of c.in-Some.written) (rw c.in-Some.is at c.in_ok-written.ensures) c.args.literals.now c.meant_in.new.literals c.meant_in.ensures.few

pub returns-clause-few : goal.returns-clause-few
returns-clause-few c =
    grown_behind c.args.spec.now c.args.tokens.now c.args.at c.in-Some.next (spoken_of c.in-Some.written) (rw c.in-Some.is at c.in_ok-written.ensures) c.args.literals.now c.meant_in.new.literals c.meant_in.ensures.few

pub returns-in_default-2-clause-few_told : goal.returns-in_default-2-clause-few_told
returns-in_default-2-clause-few_told c =
    grown_between c.args.spec.now c.args.tokens.now c.args.at c.in-Some.next (spoken_of c.in-Some.written) (rw c.in-Some.is at c.in_ok-written.ensures) c.args.literals.now c.meant_in.new.literals c.meant_in.ensures.few

pub returns-clause-few_read : goal.returns-clause-few_read
returns-clause-few_read c =
    grown_between c.args.spec.now c.args.tokens.now c.args.at c.in-Some.next (spoken_of c.in-Some.written) (rw c.in-Some.is at c.in_ok-written.ensures) c.args.literals.now c.meant_in.new.literals c.meant_in.ensures.few

pub returns-in_err-e-clause-few_told : goal.returns-in_err-e-clause-few_told
returns-in_err-e-clause-few_told c =
    wanted_told c.from_residual-in_err-e.result c.args.spec.now c.args.tokens.now c.args.at c.args.literals.now c.meant_in.new.literals c.from_residual-in_err-e.ensures.1
    (grown_behind c.args.spec.now c.args.tokens.now c.args.at c.in-Some.next (spoken_of c.in-Some.written)
    (rw c.in-Some.is at c.in_ok-written.ensures) c.args.literals.now c.meant_in.new.literals c.meant_in.ensures.few)

pub returns-in_err-kept_in-clause-few_told : goal.returns-in_err-kept_in-clause-few_told
returns-in_err-kept_in-clause-few_told c =
    wanted_told c.from_residual-in_err-kept_in.result c.args.spec.now c.args.tokens.now c.args.at c.args.literals.now c.meant_in.new.literals c.from_residual-in_err-kept_in.ensures.1
    (grown_behind c.args.spec.now c.args.tokens.now c.args.at c.in-Some.next (spoken_of c.in-Some.written)
    (rw c.in-Some.is at c.in_ok-written.ensures) c.args.literals.now c.meant_in.new.literals c.meant_in.ensures.few)

pub returns-clause-further : goal.returns-clause-further
returns-clause-further c = place_further c.args.spec.now c.args.tokens.now c.args.at c.in-Some.next (spoken_of c.in-Some.written) (rw c.in-Some.is at c.in_ok-written.ensures) c.requires.spelled

pub returns-clause-units : goal.returns-clause-units
returns-clause-units c = λ source more.
    let means = meaning_told c.words_of-words.result (vocabulary_of c.args.scope.now) c.words_of-words.ensures (spoken_of c.in-Some.written) c.args.scope.now.scope c.meant_in.new.literals
    c.in-Some-2.e c.in_ok-kept_in.field-0.now c.in-Some-2.ty c.in_ok-kept_in.ensures (rw c.in-Some-2.is at c.in_ok-e.ensures.means) source more (λ node family. false) in
    place_units c.args.spec.now c.args.tokens.now c.args.at c.in-Some.next (spoken_of c.in-Some.written) (rw c.in-Some.is at c.in_ok-written.ensures) c.requires.spelled (vocabulary_of c.args.scope.now) _ means.is
