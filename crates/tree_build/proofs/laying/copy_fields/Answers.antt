use Rattle.std.proofs.Common.{arith}
use Rattle.std.proofs.lemmas.List.{length-set}
use Rattle.tree_build.proofs.NodeLaid.{fields_more}
use Rattle.tree_build.proofs.laying.copy_fields.Goals as goal

pub loop-i-preserved : goal.loop-i-preserved
loop-i-preserved c =
    let long = c.loop-i.invariant.0 in (
      omega (arith, long, length-set c.loop-i.into c.loop-i.i c.as_field.result),
      fields_more c.loop-i.into _ c.loop-i.i c.field.result c.as_field.result (omega (arith, long)) c.field.ensures c.as_field.ensures c.loop-i.invariant.1,
    )
