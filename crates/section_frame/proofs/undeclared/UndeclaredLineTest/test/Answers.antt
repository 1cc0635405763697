-- A line that uses what isn't there yet; else its own name is there.
use Rattle.std.proofs.Common.{◌≡◌, ◌↔◌, IsTrue, map, take, ap, ◌∙◌, sym, subst, refl, arith, []}
use Rattle.ck_base.specs.Numbered.{met}
use Rattle.spec_text.proofs.Lists.{get_fits, map_get}
use Rattle.section_frame.specs.Passes.{as_seen}
use Rattle.section_frame.specs.Words.{IsMissing, name_before, names_by}
use Rattle.section_frame.proofs.Counting.{names_met, names_few, named}
use Rattle.section_frame.proofs.MetNames.{lacks_met}
use Rattle.section_frame.proofs.undeclared.UndeclaredLineTest.test.Goals as goal

pub returns-then-lacks-clause-found : goal.returns-then-lacks-clause-found
returns-then-lacks-clause-found g c = λ ds i d keeps at seen.
    lacks_met (names_by g.N.Naming.name (take i (map (as_seen g.N.Naming.seen) ds))) _ _ _ keeps.0
    (ap (λ t. g.U.Uses.uses (g.U.Uses.seen t)) seen) c.if-lacks.true c.lacks.ensures

pub meet-requires : goal.meet-requires
meet-requires g c =
    let keeps = c.requires.3 in let few = c.requires.6 in
    let less = get_fits c.requires.0 c.requires.1 c.requires.2 c.requires.4 in
    let size = keeps.1 in omega (arith, few, less, size)

pub returns-clause-found : goal.returns-clause-found
returns-clause-found g c = λ ds i d keeps at seen.
    lacks_met (names_by g.N.Naming.name (take i (map (as_seen g.N.Naming.seen) ds))) _ _ _ keeps.0
    (ap (λ t. g.U.Uses.uses (g.U.Uses.seen t)) seen) c.if-lacks.false c.lacks.ensures

pub returns-clause-kept : goal.returns-clause-kept
returns-clause-kept g c = λ ds i d keeps at seen missed.
    let there = map_get (as_seen g.N.Naming.seen) ds i d at in
    let is = c.in_ok-meet.ensures ∙ ap (λ o. met c.args.self.now.names (name_before o []))
    (named _ _ c.name_of.ensures ∙ sym (ap (λ t. g.N.Naming.name (g.N.Naming.seen t)) seen)) in (
      names_met g.N.Naming.name (map (as_seen g.N.Naming.seen) ds) i (as_seen g.N.Naming.seen d) there _ _ is [] keeps.0,
      names_few g.N.Naming.name (map (as_seen g.N.Naming.seen) ds) i (as_seen g.N.Naming.seen d) there _ _ is i keeps.1,
    )
