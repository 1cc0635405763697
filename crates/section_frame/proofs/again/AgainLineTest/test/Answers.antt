-- A line with a name, and one without.
use Rattle.std.proofs.Common.{map, arith, ap, ◌∙◌}
use Rattle.spec_text.proofs.Lists.{get_fits, map_get}
use Rattle.section_frame.specs.Passes.{as_seen}
use Rattle.section_frame.proofs.Named.{none_more_named, means_again, one_more_named}
use Rattle.section_frame.proofs.again.AgainLineTest.test.Goals as goal

pub returns-in_default-clause-kept : goal.returns-in_default-clause-kept
returns-in_default-clause-kept g c = λ ds i d keeps at seen missed.
    let few = keeps.1 in (
      none_more_named g.N.Naming.name (map (as_seen g.N.Naming.seen) ds) i (as_seen g.N.Naming.seen d) c.args.self.now.names c.args.self.now.names
          keeps.0 (map_get (as_seen g.N.Naming.seen) ds i d at) (ap (λ t. g.N.Naming.name (g.N.Naming.seen t)) seen ∙ c.in_default.ensures),
      omega (arith, few),
    )

pub is_met-requires : goal.is_met-requires
is_met-requires g c =
    let keeps = c.requires.3 in let few = c.requires.6 in
    let less = get_fits c.requires.0 c.requires.1 c.requires.2 c.requires.4 in
    let size = keeps.1 in omega (arith, few, less, size)

pub returns-clause-found : goal.returns-clause-found
returns-clause-found g c = λ ds i d keeps at seen.
    means_again g.N.Naming.name (map (as_seen g.N.Naming.seen) ds) i (as_seen g.N.Naming.seen d) _ _ keeps.0
    (map_get (as_seen g.N.Naming.seen) ds i d at) _ (ap (λ t. g.N.Naming.name (g.N.Naming.seen t)) seen ∙ c.in-Some.ensures) _ c.in_ok-found.ensures

pub returns-clause-kept : goal.returns-clause-kept
returns-clause-kept g c = λ ds i d keeps at seen missed.
    one_more_named g.N.Naming.name (map (as_seen g.N.Naming.seen) ds) i (as_seen g.N.Naming.seen d) _ _ keeps.0
    (map_get (as_seen g.N.Naming.seen) ds i d at) _ (ap (λ t. g.N.Naming.name (g.N.Naming.seen t)) seen ∙ c.in-Some.ensures) _ missed
    c.in_ok-found.ensures keeps.1
