-- One attribute more of its family.
use Rattle.std.proofs.Common.{◌∙◌, ap, arith, map, sym}
use Rattle.spec_text.proofs.Lists.{get_fits, map_get}
use Rattle.section_frame.specs.Passes.{as_seen}
use Rattle.ag_spec.specs.within.AgSeen.{saying_seen}
use Rattle.ag_spec.specs.within.Counts.{family_said}
use Rattle.ag_spec.proofs.Crowds.{finds, never, none_then, of_family, raises, stays}
use Rattle.ag_spec.proofs.crowded.CrowdedLineTestSaying.test.Goals as goal

pub returns-in_default-clause-found : goal.returns-in_default-clause-found
returns-in_default-clause-found c = λ ds i d keeps at seen.
    never c.args.self.now.table.now (saying_seen d.said)
    (c.in_default.ensures.is ∙ ap (λ t. family_said c.args.self.now.table.now (saying_seen t)) (sym seen))
    (map (as_seen saying_seen) ds) i

pub returns-in_default-clause-kept : goal.returns-in_default-clause-kept
returns-in_default-clause-kept c = λ ds i d keeps at seen missed.
    stays c.args.self.now.table.now (map (as_seen saying_seen) ds) i (as_seen saying_seen d) (map_get (as_seen saying_seen) ds i d at)
    (none_then c.args.self.now.table.now (saying_seen d.said)
    (c.in_default.ensures.is ∙ ap (λ t. family_said c.args.self.now.table.now (saying_seen t)) (sym seen)))
    c.args.self.now.counts.items keeps

pub raise-count-requires-clause-few : goal.raise-count-requires-clause-few
raise-count-requires-clause-few c =
    let so = c.requires.3 in
    let within = c.in-Some.ensures.within in
    let each = so.each in
    let count = so.count c.in-Some.family (omega (arith, within, each)) in
    let few = so.few c.in-Some.family in
    let fits = get_fits c.requires.0 c.requires.1 c.requires.2 c.requires.4 in
    let size = c.requires.6 in
    omega (arith, count, few, fits, size)

pub returns-clause-found : goal.returns-clause-found
returns-clause-found c = λ ds i d keeps at seen.
    let table = c.args.self.now.table.now in
    let of = of_family table (saying_seen d.said) c.in-Some.family
    (c.in-Some.ensures.is ∙ ap (λ t. family_said table (saying_seen t)) (sym seen)) in
    let within = c.in-Some.ensures.within in
    let each = keeps.each in
    finds table (map (as_seen saying_seen) ds) i (as_seen saying_seen d) (map_get (as_seen saying_seen) ds i d at) of.line c.in-Some.family of.is
    of.number _ _ keeps c.raise-count.ensures.raised (omega (arith, within, each)) _ c.raise-count.ensures.count _ c.is_past.ensures

pub returns-clause-kept : goal.returns-clause-kept
returns-clause-kept c = λ ds i d keeps at seen missed.
    let table = c.args.self.now.table.now in
    let of = of_family table (saying_seen d.said) c.in-Some.family
    (c.in-Some.ensures.is ∙ ap (λ t. family_said table (saying_seen t)) (sym seen)) in
    let within = c.in-Some.ensures.within in
    let each = keeps.each in
    raises table (map (as_seen saying_seen) ds) i (as_seen saying_seen d) (map_get (as_seen saying_seen) ds i d at) of.line c.in-Some.family of.is
    of.number _ _ keeps c.raise-count.ensures.raised (omega (arith, within, each))
