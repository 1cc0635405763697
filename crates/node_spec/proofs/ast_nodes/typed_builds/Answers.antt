-- The head's fault of kind type, else the earlier of a part of the wrong side and an expression that builds no node.
use Rattle.std.proofs.Common.{refl, inr, []}
use Rattle.node_spec.proofs.AstStages.{first_of_both, first_side, none_typing, not_so}
use Rattle.node_spec.proofs.ast_nodes.typed_builds.Goals as goal

pub builds_of-requires-clause-there : goal.builds_of-requires-clause-there
builds_of-requires-clause-there c = λ is. c.requires.unknown c.args.head (inr (refl, is))

pub returns-in-Wrong-clause-fault : goal.returns-in-Wrong-clause-fault
returns-in-Wrong-clause-fault c = (
  refl,
  rw c.earlier_or.ensures (first_of_both _ _ _ (not_so _ c.in_ok-joins_families.ensures c.if-branch.false) _ _ c.first_of_wrong_side-wrong.ensures
      (rw c.in-Wrong.is at (c.in_ok-line.ensures.builds [] []))),
)

pub returns-in-Some-clause-fault : goal.returns-in-Some-clause-fault
returns-in-Some-clause-fault c =
    let found = rw c.in-Builds.is at (c.in_ok-line.ensures.builds [] []) in
    (refl, first_side _ _ _ (not_so _ c.in_ok-joins_families.ensures c.if-branch.false) _ (rw c.in-Some.is at c.first_of_wrong_side-wrong.ensures) found.2)

pub returns-clause-builds : goal.returns-clause-builds
returns-clause-builds c = λ source more. (rw c.in-Builds.is at (c.in_ok-line.ensures.builds source more)).0

pub returns-clause-all : goal.returns-clause-all
returns-clause-all c = (rw c.in-Builds.is at (c.in_ok-line.ensures.builds [] [])).1

pub returns-clause-none : goal.returns-clause-none
returns-clause-none c =
    let found = rw c.in-Builds.is at (c.in_ok-line.ensures.builds [] []) in
    none_typing _ _ _ (not_so _ c.in_ok-joins_families.ensures c.if-branch.false) (rw c.in-None.is at c.first_of_wrong_side-wrong.ensures) found.2
