-- None of the words so far is this one.
use Rattle.std.proofs.Common.{◌≡◌, map}
use Rattle.spec_text.specs.Seen.{bytes_of}
use Rattle.node_spec.proofs.AstTwicePasses.{NoneYet}
use Rattle.node_spec.proofs.reserved.is_among.Given as goal

abbrev pub invariant-loop-known : goal.invariant-loop-known
invariant-loop-known l = NoneYet (λ known. known ≡ l.word) (map bytes_of l.words) l.known-index
