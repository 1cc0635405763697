-- The first rule that matches, and whose IF is true; one that isn't used is passed over.
use Rattle.std.proofs.Common.{arith, ap, sym, subst, ◌∙◌, refl, length, take}
use Rattle.value_store.specs.Cells.{cells_of}
use Rattle.expr_lang.proofs.Evaluates.{keeps-both, keeps-none}
use Rattle.puma_model.specs.Found.{scene_of, patterns_at, IsFirstMatch, NoneMatches}
use Rattle.puma_model.specs.Rules.{rule_of}
use Rattle.puma_model.specs.Typed.{pures}
use Rattle.puma_model.proofs.TypedValues.{in_kept, pures_kept}
use Rattle.puma_eval.specs.Answers.{routines_in}
use Rattle.puma_eval.specs.within.Evaluating.{TestIs, TestReady}
use Rattle.puma_eval.specs.within.Frames.{HasRoom, AreArgs, program}
use Rattle.puma_eval.proofs.Steps.{ties_self, ties_on, ties_past}
use Rattle.puma_eval.proofs.Starting.{stands_kept, args_kept, can_match, match_within, match_bound, reads_ready, matched_rule, test_ready, passes_of, fails_of, ties_matched, ties_none_left, frame_leads, rules_few}
use Rattle.puma_eval.proofs.frames.start.Goals as goal

pub loop-rule-init : goal.loop-rule-init
loop-rule-init g c = record { kept = keeps-none (cells_of c.args.cells.now.units); size = refl; ties = λ setting stands. ties_self _ }

pub first-requires-clause-can : goal.first-requires-clause-can
first-requires-clause-can g c = can_match c.args.world.now c.args.routines.now (cells_of c.loop-rule.cells.units) c.requires.ready.0 c.args.call.routine c.deref.result.now (length c.loop-rule.bindings) (patterns_at (g.M.Matcher.patterns c.args.matcher.now c.args.world.now.texts.source.now c.args.world.now.texts.literals.now) c.args.call.routine) (ap (λ z. patterns_at z c.args.call.routine) (c.requires.made c.args.world.now.texts.source.now c.args.world.now.texts.literals.now))
    (stands_kept c.args.world.now c.args.routines.now (cells_of c.args.cells.now.units) (cells_of c.loop-rule.cells.units) c.requires.ready.0 c.loop-rule.invariant.kept c.requires.ready.1) (subst (AreArgs c.args.world.now c.args.routines.now (cells_of c.loop-rule.cells.units) c.args.call.routine) (sym c.deref.ensures.value) (args_kept c.args.world.now c.args.routines.now (cells_of c.args.cells.now.units) (cells_of c.loop-rule.cells.units) c.args.call.routine c.args.call.args.items c.loop-rule.invariant.kept c.requires.args))
    (subst (HasRoom (routines_in c.args.world.now c.args.routines.now)) (sym c.loop-rule.invariant.size) c.requires.room)

pub rule_in-it-requires : goal.rule_in-it-requires
rule_in-it-requires g c = (c.args.world.now.texts.source.now, c.args.world.now.texts.literals.now, match_within c.args.world.now c.args.routines.now (cells_of c.args.cells.now.units) (cells_of c.loop-rule.cells.units) c.requires.ready.0 c.args.call.routine c.args.call.args.items c.first.new.bindings c.loop-rule.next c.in-Some.rule (patterns_at (g.M.Matcher.patterns c.args.matcher.now c.args.world.now.texts.source.now c.args.world.now.texts.literals.now) c.args.call.routine) (ap (λ z. patterns_at z c.args.call.routine) (c.requires.made c.args.world.now.texts.source.now c.args.world.now.texts.literals.now)) (pures_kept (scene_of c.args.world.now) (cells_of c.args.cells.now.units) (cells_of c.loop-rule.cells.units) c.args.call.args.items _ c.loop-rule.invariant.kept c.requires.args.are) (subst (λ z. IsFirstMatch (scene_of c.args.world.now) (cells_of c.loop-rule.cells.units) (patterns_at (g.M.Matcher.patterns c.args.matcher.now c.args.world.now.texts.source.now c.args.world.now.texts.literals.now) c.args.call.routine) z c.loop-rule.next c.first.new.bindings c.in-Some.rule) c.deref.ensures.value c.in-Some.ensures.first))

pub copied-requires : goal.copied-requires
copied-requires g c =
    let n = c.variables.ensures c.args.world.now.texts.source.now c.args.world.now.texts.literals.now in
    let enough = c.requires.room.enough c.args.call.routine c.in-Some.rule (rule_of c.args.world.now.texts.source.now c.args.world.now.texts.literals.now c.rule_in-it.result) (c.rule_in-it.ensures c.args.world.now.texts.source.now c.args.world.now.texts.literals.now) in
    let values = ap (λ z. length z) c.values.ensures in
    let size = c.first.ensures.size in
    let before = c.loop-rule.invariant.size in
    omega (arith, n, enough, values, size, before)

pub bind_reads-requires : goal.bind_reads-requires
bind_reads-requires g c = reads_ready c.args.world.now c.args.routines.now (cells_of c.loop-rule.cells.units) c.requires.ready.0 c.args.call.routine c.in-Some.rule (rule_of c.args.world.now.texts.source.now c.args.world.now.texts.literals.now c.rule_in-it.result) c.args.call.args.items c.in_ok-env.env.items (stands_kept c.args.world.now c.args.routines.now (cells_of c.args.cells.now.units) (cells_of c.loop-rule.cells.units) c.requires.ready.0 c.loop-rule.invariant.kept c.requires.ready.1) c.requires.args.there (c.rule_in-it.ensures c.args.world.now.texts.source.now c.args.world.now.texts.literals.now) (match_bound c.args.world.now c.args.routines.now (cells_of c.args.cells.now.units) (cells_of c.loop-rule.cells.units) c.requires.ready.0 c.args.call.routine c.args.call.args.items c.first.new.bindings c.loop-rule.next c.in-Some.rule (patterns_at (g.M.Matcher.patterns c.args.matcher.now c.args.world.now.texts.source.now c.args.world.now.texts.literals.now) c.args.call.routine) (ap (λ z. patterns_at z c.args.call.routine) (c.requires.made c.args.world.now.texts.source.now c.args.world.now.texts.literals.now)) (pures_kept (scene_of c.args.world.now) (cells_of c.args.cells.now.units) (cells_of c.loop-rule.cells.units) c.args.call.args.items _ c.loop-rule.invariant.kept c.requires.args.are) (rule_of c.args.world.now.texts.source.now c.args.world.now.texts.literals.now c.rule_in-it.result) c.variables.result (length c.args.bindings.now) c.in_ok-env.env.items _ (subst (λ z. IsFirstMatch (scene_of c.args.world.now) (cells_of c.loop-rule.cells.units) (patterns_at (g.M.Matcher.patterns c.args.matcher.now c.args.world.now.texts.source.now c.args.world.now.texts.literals.now) c.args.call.routine) z c.loop-rule.next c.first.new.bindings c.in-Some.rule) c.deref.ensures.value c.in-Some.ensures.first) (c.rule_in-it.ensures c.args.world.now.texts.source.now c.args.world.now.texts.literals.now) (in_kept (scene_of c.args.world.now) (cells_of c.args.cells.now.units) (cells_of c.loop-rule.cells.units) c.args.call.args.items _ c.loop-rule.invariant.kept c.requires.args.are) (c.variables.ensures c.args.world.now.texts.source.now c.args.world.now.texts.literals.now) c.requires.room (c.in_ok-env.ensures ∙ ap (take c.variables.result) c.values.ensures))

pub test_holds-requires : goal.test_holds-requires
test_holds-requires g c =
    let m = (matched_rule c.args.world.now c.args.routines.now (cells_of c.args.cells.now.units) (cells_of c.loop-rule.cells.units) c.requires.ready.0 c.args.call.routine c.in-Some.rule (rule_of c.args.world.now.texts.source.now c.args.world.now.texts.literals.now c.rule_in-it.result) c.args.call.args.items c.in_ok-env.env.items c.bind_reads.new.env.items c.in_ok-read.read (stands_kept c.args.world.now c.args.routines.now (cells_of c.args.cells.now.units) (cells_of c.loop-rule.cells.units) c.requires.ready.0 c.loop-rule.invariant.kept c.requires.ready.1) c.requires.args.there (c.rule_in-it.ensures c.args.world.now.texts.source.now c.args.world.now.texts.literals.now) (match_bound c.args.world.now c.args.routines.now (cells_of c.args.cells.now.units) (cells_of c.loop-rule.cells.units) c.requires.ready.0 c.args.call.routine c.args.call.args.items c.first.new.bindings c.loop-rule.next c.in-Some.rule (patterns_at (g.M.Matcher.patterns c.args.matcher.now c.args.world.now.texts.source.now c.args.world.now.texts.literals.now) c.args.call.routine) (ap (λ z. patterns_at z c.args.call.routine) (c.requires.made c.args.world.now.texts.source.now c.args.world.now.texts.literals.now)) (pures_kept (scene_of c.args.world.now) (cells_of c.args.cells.now.units) (cells_of c.loop-rule.cells.units) c.args.call.args.items _ c.loop-rule.invariant.kept c.requires.args.are) (rule_of c.args.world.now.texts.source.now c.args.world.now.texts.literals.now c.rule_in-it.result) c.variables.result (length c.args.bindings.now) c.in_ok-env.env.items _ (subst (λ z. IsFirstMatch (scene_of c.args.world.now) (cells_of c.loop-rule.cells.units) (patterns_at (g.M.Matcher.patterns c.args.matcher.now c.args.world.now.texts.source.now c.args.world.now.texts.literals.now) c.args.call.routine) z c.loop-rule.next c.first.new.bindings c.in-Some.rule) c.deref.ensures.value c.in-Some.ensures.first) (c.rule_in-it.ensures c.args.world.now.texts.source.now c.args.world.now.texts.literals.now) (in_kept (scene_of c.args.world.now) (cells_of c.args.cells.now.units) (cells_of c.loop-rule.cells.units) c.args.call.args.items _ c.loop-rule.invariant.kept c.requires.args.are) (c.variables.ensures c.args.world.now.texts.source.now c.args.world.now.texts.literals.now) c.requires.room (c.in_ok-env.ensures ∙ ap (take c.variables.result) c.values.ensures)) c.in_ok-read.ensures (pures_kept (scene_of c.args.world.now) (cells_of c.args.cells.now.units) (cells_of c.loop-rule.cells.units) c.args.call.args.items _ c.loop-rule.invariant.kept c.requires.args.are)) in
    subst (λ z. TestReady (scene_of c.args.world.now) (cells_of c.loop-rule.cells.units) z (rule_of c.args.world.now.texts.source.now c.args.world.now.texts.literals.now c.rule_in-it.result).test) (sym c.deref-in-Some.ensures.value)
    (test_ready c.args.world.now (cells_of c.loop-rule.cells.units) c.requires.ready.0.kinds m.vars c.bind_reads.new.env.items (rule_of c.args.world.now.texts.source.now c.args.world.now.texts.literals.now c.rule_in-it.result).test c.requires.ready.1.fit.kinds_are m.env_are m.test_fits)

pub returns-then-holds-clause-ok : goal.returns-then-holds-clause-ok
returns-then-holds-clause-ok g c = λ setting stands.
    (let m = (matched_rule c.args.world.now c.args.routines.now (cells_of c.args.cells.now.units) (cells_of c.loop-rule.cells.units) setting c.args.call.routine c.in-Some.rule (rule_of c.args.world.now.texts.source.now c.args.world.now.texts.literals.now c.rule_in-it.result) c.args.call.args.items c.in_ok-env.env.items c.bind_reads.new.env.items c.in_ok-read.read (stands_kept c.args.world.now c.args.routines.now (cells_of c.args.cells.now.units) (cells_of c.loop-rule.cells.units) setting c.loop-rule.invariant.kept stands) c.requires.args.there (c.rule_in-it.ensures c.args.world.now.texts.source.now c.args.world.now.texts.literals.now) (match_bound c.args.world.now c.args.routines.now (cells_of c.args.cells.now.units) (cells_of c.loop-rule.cells.units) setting c.args.call.routine c.args.call.args.items c.first.new.bindings c.loop-rule.next c.in-Some.rule (patterns_at (g.M.Matcher.patterns c.args.matcher.now c.args.world.now.texts.source.now c.args.world.now.texts.literals.now) c.args.call.routine) (ap (λ z. patterns_at z c.args.call.routine) (c.requires.made c.args.world.now.texts.source.now c.args.world.now.texts.literals.now)) (pures_kept (scene_of c.args.world.now) (cells_of c.args.cells.now.units) (cells_of c.loop-rule.cells.units) c.args.call.args.items _ c.loop-rule.invariant.kept c.requires.args.are) (rule_of c.args.world.now.texts.source.now c.args.world.now.texts.literals.now c.rule_in-it.result) c.variables.result (length c.args.bindings.now) c.in_ok-env.env.items _ (subst (λ z. IsFirstMatch (scene_of c.args.world.now) (cells_of c.loop-rule.cells.units) (patterns_at (g.M.Matcher.patterns c.args.matcher.now c.args.world.now.texts.source.now c.args.world.now.texts.literals.now) c.args.call.routine) z c.loop-rule.next c.first.new.bindings c.in-Some.rule) c.deref.ensures.value c.in-Some.ensures.first) (c.rule_in-it.ensures c.args.world.now.texts.source.now c.args.world.now.texts.literals.now) (in_kept (scene_of c.args.world.now) (cells_of c.args.cells.now.units) (cells_of c.loop-rule.cells.units) c.args.call.args.items _ c.loop-rule.invariant.kept c.requires.args.are) (c.variables.ensures c.args.world.now.texts.source.now c.args.world.now.texts.literals.now) c.requires.room (c.in_ok-env.ensures ∙ ap (take c.variables.result) c.values.ensures)) c.in_ok-read.ensures (pures_kept (scene_of c.args.world.now) (cells_of c.args.cells.now.units) (cells_of c.loop-rule.cells.units) c.args.call.args.items _ c.loop-rule.invariant.kept c.requires.args.are)) in
    frame_leads c.args.world.now c.args.routines.now (cells_of c.args.cells.now.units) (cells_of c.loop-rule.cells.units) (cells_of c.test_holds.new.cells.units) setting c.args.call.routine c.in-Some.rule c.in_ok-read.read (rule_of c.args.world.now.texts.source.now c.args.world.now.texts.literals.now c.rule_in-it.result) _ _ c.loop-rule.invariant.kept c.in_ok-holds.ensures.kept c.requires.args (c.rule_in-it.ensures c.args.world.now.texts.source.now c.args.world.now.texts.literals.now) m
    (passes_of (pures (scene_of c.args.world.now) (cells_of c.loop-rule.cells.units) c.bind_reads.new.env.items) (rule_of c.args.world.now.texts.source.now c.args.world.now.texts.literals.now c.rule_in-it.result).test c.in_ok-holds.holds (subst (λ z. TestIs (pures (scene_of c.args.world.now) (cells_of c.loop-rule.cells.units) z) (rule_of c.args.world.now.texts.source.now c.args.world.now.texts.literals.now c.rule_in-it.result).test c.in_ok-holds.holds) c.deref-in-Some.ensures.value c.in_ok-holds.ensures.ok) c.if-holds.true) refl refl refl refl
    (ties_on (c.loop-rule.invariant.ties setting stands) (ties_matched c.args.world.now c.args.routines.now (cells_of c.args.cells.now.units) (cells_of c.loop-rule.cells.units) setting c.args.call.routine c.args.call.args.items c.first.new.bindings c.loop-rule.next c.in-Some.rule (patterns_at (g.M.Matcher.patterns c.args.matcher.now c.args.world.now.texts.source.now c.args.world.now.texts.literals.now) c.args.call.routine) (ap (λ z. patterns_at z c.args.call.routine) (c.requires.made c.args.world.now.texts.source.now c.args.world.now.texts.literals.now)) (pures_kept (scene_of c.args.world.now) (cells_of c.args.cells.now.units) (cells_of c.loop-rule.cells.units) c.args.call.args.items _ c.loop-rule.invariant.kept c.requires.args.are) (rule_of c.args.world.now.texts.source.now c.args.world.now.texts.literals.now c.rule_in-it.result) (subst (λ z. IsFirstMatch (scene_of c.args.world.now) (cells_of c.loop-rule.cells.units) (patterns_at (g.M.Matcher.patterns c.args.matcher.now c.args.world.now.texts.source.now c.args.world.now.texts.literals.now) c.args.call.routine) z c.loop-rule.next c.first.new.bindings c.in-Some.rule) c.deref.ensures.value c.in-Some.ensures.first) (c.rule_in-it.ensures c.args.world.now.texts.source.now c.args.world.now.texts.literals.now))))

pub overflow_add-next : goal.overflow_add-next
overflow_add-next g c =
    let within = match_within c.args.world.now c.args.routines.now (cells_of c.args.cells.now.units) (cells_of c.loop-rule.cells.units) c.requires.ready.0 c.args.call.routine c.args.call.args.items c.first.new.bindings c.loop-rule.next c.in-Some.rule (patterns_at (g.M.Matcher.patterns c.args.matcher.now c.args.world.now.texts.source.now c.args.world.now.texts.literals.now) c.args.call.routine) (ap (λ z. patterns_at z c.args.call.routine) (c.requires.made c.args.world.now.texts.source.now c.args.world.now.texts.literals.now)) (pures_kept (scene_of c.args.world.now) (cells_of c.args.cells.now.units) (cells_of c.loop-rule.cells.units) c.args.call.args.items _ c.loop-rule.invariant.kept c.requires.args.are) (subst (λ z. IsFirstMatch (scene_of c.args.world.now) (cells_of c.loop-rule.cells.units) (patterns_at (g.M.Matcher.patterns c.args.matcher.now c.args.world.now.texts.source.now c.args.world.now.texts.literals.now) c.args.call.routine) z c.loop-rule.next c.first.new.bindings c.in-Some.rule) c.deref.ensures.value c.in-Some.ensures.first) in
    let few = rules_few c.args.world.now c.args.routines.now (cells_of c.args.cells.now.units) c.requires.ready.0 c.args.call.routine c.requires.ready.1 c.requires.args.there in
    omega (arith, within, few)

pub loop-rule-smaller : goal.loop-rule-smaller
loop-rule-smaller g c =
    let within = match_within c.args.world.now c.args.routines.now (cells_of c.args.cells.now.units) (cells_of c.loop-rule.cells.units) c.requires.ready.0 c.args.call.routine c.args.call.args.items c.first.new.bindings c.loop-rule.next c.in-Some.rule (patterns_at (g.M.Matcher.patterns c.args.matcher.now c.args.world.now.texts.source.now c.args.world.now.texts.literals.now) c.args.call.routine) (ap (λ z. patterns_at z c.args.call.routine) (c.requires.made c.args.world.now.texts.source.now c.args.world.now.texts.literals.now)) (pures_kept (scene_of c.args.world.now) (cells_of c.args.cells.now.units) (cells_of c.loop-rule.cells.units) c.args.call.args.items _ c.loop-rule.invariant.kept c.requires.args.are) (subst (λ z. IsFirstMatch (scene_of c.args.world.now) (cells_of c.loop-rule.cells.units) (patterns_at (g.M.Matcher.patterns c.args.matcher.now c.args.world.now.texts.source.now c.args.world.now.texts.literals.now) c.args.call.routine) z c.loop-rule.next c.first.new.bindings c.in-Some.rule) c.deref.ensures.value c.in-Some.ensures.first) in
    let first = (subst (λ z. IsFirstMatch (scene_of c.args.world.now) (cells_of c.loop-rule.cells.units) (patterns_at (g.M.Matcher.patterns c.args.matcher.now c.args.world.now.texts.source.now c.args.world.now.texts.literals.now) c.args.call.routine) z c.loop-rule.next c.first.new.bindings c.in-Some.rule) c.deref.ensures.value c.in-Some.ensures.first) in
    let later = first.later in
    omega (arith, within, later)

pub loop-rule-preserved : goal.loop-rule-preserved
loop-rule-preserved g c = record {
  kept = keeps-both (cells_of c.args.cells.now.units) (cells_of c.loop-rule.cells.units) (cells_of c.test_holds.new.cells.units) c.loop-rule.invariant.kept c.in_ok-holds.ensures.kept;
  size = c.first.ensures.size ∙ c.loop-rule.invariant.size;
  ties = λ setting stands.
      (let m = (matched_rule c.args.world.now c.args.routines.now (cells_of c.args.cells.now.units) (cells_of c.loop-rule.cells.units) setting c.args.call.routine c.in-Some.rule (rule_of c.args.world.now.texts.source.now c.args.world.now.texts.literals.now c.rule_in-it.result) c.args.call.args.items c.in_ok-env.env.items c.bind_reads.new.env.items c.in_ok-read.read (stands_kept c.args.world.now c.args.routines.now (cells_of c.args.cells.now.units) (cells_of c.loop-rule.cells.units) setting c.loop-rule.invariant.kept stands) c.requires.args.there (c.rule_in-it.ensures c.args.world.now.texts.source.now c.args.world.now.texts.literals.now) (match_bound c.args.world.now c.args.routines.now (cells_of c.args.cells.now.units) (cells_of c.loop-rule.cells.units) setting c.args.call.routine c.args.call.args.items c.first.new.bindings c.loop-rule.next c.in-Some.rule (patterns_at (g.M.Matcher.patterns c.args.matcher.now c.args.world.now.texts.source.now c.args.world.now.texts.literals.now) c.args.call.routine) (ap (λ z. patterns_at z c.args.call.routine) (c.requires.made c.args.world.now.texts.source.now c.args.world.now.texts.literals.now)) (pures_kept (scene_of c.args.world.now) (cells_of c.args.cells.now.units) (cells_of c.loop-rule.cells.units) c.args.call.args.items _ c.loop-rule.invariant.kept c.requires.args.are) (rule_of c.args.world.now.texts.source.now c.args.world.now.texts.literals.now c.rule_in-it.result) c.variables.result (length c.args.bindings.now) c.in_ok-env.env.items _ (subst (λ z. IsFirstMatch (scene_of c.args.world.now) (cells_of c.loop-rule.cells.units) (patterns_at (g.M.Matcher.patterns c.args.matcher.now c.args.world.now.texts.source.now c.args.world.now.texts.literals.now) c.args.call.routine) z c.loop-rule.next c.first.new.bindings c.in-Some.rule) c.deref.ensures.value c.in-Some.ensures.first) (c.rule_in-it.ensures c.args.world.now.texts.source.now c.args.world.now.texts.literals.now) (in_kept (scene_of c.args.world.now) (cells_of c.args.cells.now.units) (cells_of c.loop-rule.cells.units) c.args.call.args.items _ c.loop-rule.invariant.kept c.requires.args.are) (c.variables.ensures c.args.world.now.texts.source.now c.args.world.now.texts.literals.now) c.requires.room (c.in_ok-env.ensures ∙ ap (take c.variables.result) c.values.ensures)) c.in_ok-read.ensures (pures_kept (scene_of c.args.world.now) (cells_of c.args.cells.now.units) (cells_of c.loop-rule.cells.units) c.args.call.args.items _ c.loop-rule.invariant.kept c.requires.args.are)) in
      ties_on (c.loop-rule.invariant.ties setting stands) (ties_on (ties_matched c.args.world.now c.args.routines.now (cells_of c.args.cells.now.units) (cells_of c.loop-rule.cells.units) setting c.args.call.routine c.args.call.args.items c.first.new.bindings c.loop-rule.next c.in-Some.rule (patterns_at (g.M.Matcher.patterns c.args.matcher.now c.args.world.now.texts.source.now c.args.world.now.texts.literals.now) c.args.call.routine) (ap (λ z. patterns_at z c.args.call.routine) (c.requires.made c.args.world.now.texts.source.now c.args.world.now.texts.literals.now)) (pures_kept (scene_of c.args.world.now) (cells_of c.args.cells.now.units) (cells_of c.loop-rule.cells.units) c.args.call.args.items _ c.loop-rule.invariant.kept c.requires.args.are) (rule_of c.args.world.now.texts.source.now c.args.world.now.texts.literals.now c.rule_in-it.result) (subst (λ z. IsFirstMatch (scene_of c.args.world.now) (cells_of c.loop-rule.cells.units) (patterns_at (g.M.Matcher.patterns c.args.matcher.now c.args.world.now.texts.source.now c.args.world.now.texts.literals.now) c.args.call.routine) z c.loop-rule.next c.first.new.bindings c.in-Some.rule) c.deref.ensures.value c.in-Some.ensures.first) (c.rule_in-it.ensures c.args.world.now.texts.source.now c.args.world.now.texts.literals.now))
      (ties_past (program c.args.world.now c.args.routines.now setting) c.args.call.routine _ (rule_of c.args.world.now.texts.source.now c.args.world.now.texts.literals.now c.rule_in-it.result) _
      (m.no_use (fails_of (pures (scene_of c.args.world.now) (cells_of c.loop-rule.cells.units) c.bind_reads.new.env.items) (rule_of c.args.world.now.texts.source.now c.args.world.now.texts.literals.now c.rule_in-it.result).test c.in_ok-holds.holds (subst (λ z. TestIs (pures (scene_of c.args.world.now) (cells_of c.loop-rule.cells.units) z) (rule_of c.args.world.now.texts.source.now c.args.world.now.texts.literals.now c.rule_in-it.result).test c.in_ok-holds.holds) c.deref-in-Some.ensures.value c.in_ok-holds.ensures.ok) c.if-holds.false)))));
}

pub returns-clause-ok : goal.returns-clause-ok
returns-clause-ok g c = λ setting stands.
    ties_on (c.loop-rule.invariant.ties setting stands)
    (ties_none_left c.args.world.now c.args.routines.now (cells_of c.args.cells.now.units) (cells_of c.loop-rule.cells.units) setting c.args.call.routine c.args.call.args.items c.first.new.bindings c.loop-rule.next 0 (patterns_at (g.M.Matcher.patterns c.args.matcher.now c.args.world.now.texts.source.now c.args.world.now.texts.literals.now) c.args.call.routine) (ap (λ z. patterns_at z c.args.call.routine) (c.requires.made c.args.world.now.texts.source.now c.args.world.now.texts.literals.now)) (pures_kept (scene_of c.args.world.now) (cells_of c.args.cells.now.units) (cells_of c.loop-rule.cells.units) c.args.call.args.items _ c.loop-rule.invariant.kept c.requires.args.are)
    (subst (λ z. NoneMatches (scene_of c.args.world.now) (cells_of c.loop-rule.cells.units) (patterns_at (g.M.Matcher.patterns c.args.matcher.now c.args.world.now.texts.source.now c.args.world.now.texts.literals.now) c.args.call.routine) z c.loop-rule.next) c.deref.ensures.value c.in_default.ensures.first))
