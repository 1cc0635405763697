-- What was resolved has a type, or the expression means nothing.
use Rattle.expr_read.specs.Writing.{spoken_of}
use Rattle.expr_read.proofs.MeantParts.{nothing_resolved, nothing_typed, means_typed}
use Rattle.expr_read.proofs.resolving.meant_in.Goals as goal

pub returns-in_default-clause-means : goal.returns-in_default-clause-means
returns-in_default-clause-means c = λ source more sources.
    nothing_resolved c.args.words.now c.args.scope.now (spoken_of c.args.e.now) c.resolved_expr.new.literals (rw c.in_default.is at c.in_ok-meant.ensures.is) sources

pub returns-in_default-typed-clause-means : goal.returns-in_default-typed-clause-means
returns-in_default-typed-clause-means c = λ source more sources.
    nothing_typed c.args.words.now c.args.scope.now (spoken_of c.args.e.now) c.resolved_expr.new.literals c.in-Some.meant (rw c.in-Some.is at c.in_ok-meant.ensures.is)
    c.in_default-typed.ensures sources

pub returns-clause-means : goal.returns-clause-means
returns-clause-means c = λ source more sources.
    means_typed c.args.words.now c.args.scope.now (spoken_of c.args.e.now) c.resolved_expr.new.literals c.in-Some.meant c.in-Some-typed.ty
    (rw c.in-Some.is at c.in_ok-meant.ensures.is) c.in-Some-typed.ensures source more sources
