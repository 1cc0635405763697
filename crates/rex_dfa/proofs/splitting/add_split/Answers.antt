-- The split of rule i, or none, by what it adds to the splits of the rules before.
use Rattle.std.proofs.Common.{◌≡◌, ◌∷◌, [], length, map, arith, refl, ap, inl, inr, Some, true, false}
use Rattle.std.proofs.lemmas.List.{length-map, map-append}
use Rattle.std.proofs.lemmas.Option.{slice_get_read}
use Rattle.rex_model.specs.Meaning.{meaning}
use Rattle.rex_model.specs.RuleMeaning.{context_of, rule_of}
use Rattle.rex_model.specs.TableMeaning.{halves_of}
use Rattle.rex_model.proofs.MeantRules.{meant_at}
use Rattle.rex_dfa.proofs.MainTable.{few_rules}
use Rattle.rex_dfa.proofs.SplitSets.{small_rule, small_context, splitting_full, splitting_more, splitting_same, more_of_half}
use Rattle.rex_dfa.proofs.splitting.add_split.Goals as goal

pub overflow_cast-i : goal.overflow_cast-i
overflow_cast-i c = omega (arith, few_rules (map rule_of c.args.rules.now), length-map c.args.rules.now rule_of, c.requires.few, c.requires.inside)

pub made_of-requires-clause-body : goal.made_of-requires-clause-body
made_of-requires-clause-body c =
    let rules = map rule_of c.args.rules.now in
    let read = slice_get_read c.args.rules.now (length c.args.rules.now) c.args.i c.index-rules-i.result refl c.requires.inside c.index-rules-i.is in
    omega (arith, small_rule rules c.args.i (rule_of c.index-rules-i.result) (meant_at c.args.rules.now c.args.i c.index-rules-i.result read), c.requires.few)

pub made_of-requires-clause-context : goal.made_of-requires-clause-context
made_of-requires-clause-context c =
    let rules = map rule_of c.args.rules.now in
    let rule = rule_of c.index-rules-i.result in
    let read = slice_get_read c.args.rules.now (length c.args.rules.now) c.args.i c.index-rules-i.result refl c.requires.inside c.index-rules-i.is in
    let has_context : rule.context ≡ Some (meaning c.in-Some.context.now) = ap context_of c.in-Some.is in
    omega (arith, small_rule rules c.args.i rule (meant_at c.args.rules.now c.args.i c.index-rules-i.result read), small_context rule (meaning c.in-Some.context.now) has_context, c.requires.few)

pub returns-then-sum-gt-MOST : goal.returns-then-sum-gt-MOST
returns-then-sum-gt-MOST c =
    let rules = map rule_of c.args.rules.now in
    let rule = rule_of c.index-rules-i.result in
    let read = slice_get_read c.args.rules.now (length c.args.rules.now) c.args.i c.index-rules-i.result refl c.requires.inside c.index-rules-i.is in
    let has_context : rule.context ≡ Some (meaning c.in-Some.context.now) = ap context_of c.in-Some.is in
    splitting_full rules c.args.i rule (meaning c.in-Some.context.now) (meant_at c.args.rules.now c.args.i c.index-rules-i.result read) has_context (map halves_of c.args.splits.now.items) c.args.total
    (halves_of c.in-Some-2.made.split) c.in-Some-2.made.count c.requires.splitting (rw c.in-Some-2.is at c.in_ok-made-in-Some.ensures) (omega arith)

pub returns-in_ok-push-in-Some-2 : goal.returns-in_ok-push-in-Some-2
returns-in_ok-push-in-Some-2 c =
    let rules = map rule_of c.args.rules.now in
    let rule = rule_of c.index-rules-i.result in
    let read = slice_get_read c.args.rules.now (length c.args.rules.now) c.args.i c.index-rules-i.result refl c.requires.inside c.index-rules-i.is in
    let has_context : rule.context ≡ Some (meaning c.in-Some.context.now) = ap context_of c.in-Some.is in
    rw (c.in_ok-push-in-Some-2.ensures.items, map-append halves_of c.args.splits.now.items (c.in-Some-2.made.split ∷ [])) (
    splitting_more rules c.args.i rule (meaning c.in-Some.context.now) (meant_at c.args.rules.now c.args.i c.index-rules-i.result read) has_context (map halves_of c.args.splits.now.items) c.args.total
    (halves_of c.in-Some-2.made.split) c.in-Some-2.made.count c.requires.splitting (rw c.in-Some-2.is at c.in_ok-made-in-Some.ensures) (omega arith)
    )

pub returns-in-None-2 : goal.returns-in-None-2
returns-in-None-2 c =
    let rules = map rule_of c.args.rules.now in
    let rule = rule_of c.index-rules-i.result in
    let read = slice_get_read c.args.rules.now (length c.args.rules.now) c.args.i c.index-rules-i.result refl c.requires.inside c.index-rules-i.is in
    let has_context : rule.context ≡ Some (meaning c.in-Some.context.now) = ap context_of c.in-Some.is in
    elim (rw c.in-None-2.is at c.in_ok-made-in-Some.ensures) [
      | inl more ↦ more_of_half rules c.args.i rule (meaning c.in-Some.context.now) (meant_at c.args.rules.now c.args.i c.index-rules-i.result read) has_context false 4096 more
      | inr more ↦ more_of_half rules c.args.i rule (meaning c.in-Some.context.now) (meant_at c.args.rules.now c.args.i c.index-rules-i.result read) has_context true 4096 more
    ]

pub returns-in-None : goal.returns-in-None
returns-in-None c =
    let rules = map rule_of c.args.rules.now in
    let rule = rule_of c.index-rules-i.result in
    let read = slice_get_read c.args.rules.now (length c.args.rules.now) c.args.i c.index-rules-i.result refl c.requires.inside c.index-rules-i.is in
    splitting_same rules c.args.i rule (meant_at c.args.rules.now c.args.i c.index-rules-i.result read) (ap context_of c.in-None.is) (map halves_of c.args.splits.now.items) c.args.total c.requires.splitting
