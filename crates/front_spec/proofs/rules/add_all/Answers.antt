-- Each turn takes one name.
use Rattle.std.proofs.Common.{map, ◌∙◌}
use Rattle.spec_text.specs.Seen.{bytes_of}
use Rattle.spec_text.proofs.Lists.{map_get, get_at}
use Rattle.front_spec.proofs.MadeRules.{one_name_more}
use Rattle.front_spec.proofs.rules.add_all.Goals as goal

pub loop-name-preserved : goal.loop-name-preserved
loop-name-preserved c = (
  one_name_more _ _ _ _ (map bytes_of c.args.names.now) c.loop-name.name-index _ c.loop-name.invariant.0 c.add_one.ensures
      (map_get bytes_of c.args.names.now c.loop-name.name-index _ (get_at c.args.names.now c.loop-name.name-index _ c.loop-name-test.true)),
  c.add_one.ensures.size ∙ c.loop-name.invariant.1,
)
