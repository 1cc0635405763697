-- The families of the nonterminals so far.
use Rattle.std.proofs.Common.{List, ◌≡◌, map, take}
use Rattle.section_frame.specs.Declares.{Declared}
use Rattle.node_spec.specs.AstShapes.{AstSaying}
use Rattle.node_spec.specs.within.AstUnknown.{AreNodes, family_after}
use Rattle.node_spec.proofs.families.families_each.Given as goal

abbrev pub invariant-loop-n : goal.invariant-loop-n
invariant-loop-n l =
    (ds : List (Declared AstSaying)) → AreNodes l.families.names ds l.nodes
    → l.found.items ≡ map (family_after l.families.names ds) (take l.n l.nonterminals)
