-- No rule so far lacks a build.
use Rattle.node_spec.proofs.AstUnknownHead.{BuildsBefore}
use Rattle.node_spec.proofs.unknown_head.one_lacks_build.Given as goal

abbrev pub invariant-loop-n : goal.invariant-loop-n
invariant-loop-n l = BuildsBefore l.g.labels l.g.grammar.rules l.lines l.n
