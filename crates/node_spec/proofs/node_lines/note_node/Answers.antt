-- Other lines note nothing.
use Rattle.std.proofs.Common.{refl}
use Rattle.node_spec.specs.within.AstUnknown.{other_line}
use Rattle.node_spec.proofs.node_lines.note_node.Goals as goal

pub returns-in-Family : goal.returns-in-Family
returns-in-Family c = rw c.in-Family.is (other_line _ refl refl refl)

pub returns-in-Target : goal.returns-in-Target
returns-in-Target c = rw c.in-Target.is (other_line _ refl refl refl)

pub returns-in-NodeType : goal.returns-in-NodeType
returns-in-NodeType c = rw c.in-NodeType.is (other_line _ refl refl refl)

pub returns-in-Build : goal.returns-in-Build
returns-in-Build c = rw c.in-Build.is (other_line _ refl refl refl)
