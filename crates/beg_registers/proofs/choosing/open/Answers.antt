-- The chosen rule applies at the place.
use Rattle.std.proofs.Common.{◌≡◌, ℕ, Option, Some, refl, sym, subst, ◌∙◌, arith}
use Rattle.std.proofs.lemmas.Option.{slice_get_read}
use Rattle.beg_registers.proofs.Choices.{cover_within, left_within, chosen_label, choice_there, rule_typed, opened}
use Rattle.beg_model.specs.Applies.{applies}
use Rattle.beg_model.specs.Cover.{Chosen}
use Rattle.beg_registers.proofs.Walk.{opened_tasks}
use Rattle.beg_registers.proofs.choosing.open.Goals as goal

same_number : {o : Option ℕ} {a b : ℕ} → o ≡ Some a → o ≡ Some b → a ≡ b
same_number e f = cc

pub rule-requires-clause-node : goal.rule-requires-clause-node
rule-requires-clause-node c =
    let (k, r, chosen) = c.requires.chosen in
    let lt = cover_within c.args.texts.now c.args.rules.now c.args.types.now c.args.tree.now chosen.least.reached in
    omega (arith, lt, c.requires.labels.nodes_are)

pub rule-requires-clause-nonterminal : goal.rule-requires-clause-nonterminal
rule-requires-clause-nonterminal c =
    let (k, r, chosen) = c.requires.chosen in
    let lt = left_within c.args.texts.now c.args.rules.now c.args.types.now c.args.tree.now c.requires.accepted chosen in
    omega (arith, lt, c.requires.labels.nonterminals_are)

pub index-requires : goal.index-requires
index-requires c =
    let (k, r, chosen) = c.requires.chosen in
    let label = chosen_label c.args.texts.now c.args.rules.now c.args.types.now c.args.tree.now c.args.labels.now c.requires.labels
    c.args.place.node c.args.place.nonterminal k r chosen in
    let lt = choice_there c.args.texts.now c.args.rules.now c.args.types.now c.args.tree.now c.args.place.node c.args.place.nonterminal k r chosen in
    let same : c.unwrap-rule.result ≡ r = same_number c.unwrap-rule.ensures (c.rule.ensures ∙ label) in
    omega (arith, lt, same, c.args.rules.now.rules.ok)

pub applies_at-applies-requires-clause-rule : goal.applies_at-applies-requires-clause-rule
applies_at-applies-requires-clause-rule c =
    let (k, r, chosen) = c.requires.chosen in
    let label = chosen_label c.args.texts.now c.args.rules.now c.args.types.now c.args.tree.now c.args.labels.now c.requires.labels
    c.args.place.node c.args.place.nonterminal k r chosen in
    let lt = choice_there c.args.texts.now c.args.rules.now c.args.types.now c.args.tree.now c.args.place.node c.args.place.nonterminal k r chosen in
    let same : c.unwrap-rule.result ≡ r = same_number c.unwrap-rule.ensures (c.rule.ensures ∙ label) in
    rule_typed c.args.texts.now c.args.rules.now c.args.types.now c.args.tree.now c.requires.accepted c.unwrap-rule.result c.index.result.now
    (slice_get_read c.args.rules.now.rules.items _ c.unwrap-rule.result c.index.result.now refl (omega (arith, lt, same)) c.index.ensures)

pub applies_at-applies-requires-clause-node : goal.applies_at-applies-requires-clause-node
applies_at-applies-requires-clause-node c =
    let (k, r, chosen) = c.requires.chosen in
    cover_within c.args.texts.now c.args.rules.now c.args.types.now c.args.tree.now chosen.least.reached

pub returns : goal.returns
returns c =
    let (k, r, chosen) = c.requires.chosen in
    let label = chosen_label c.args.texts.now c.args.rules.now c.args.types.now c.args.tree.now c.args.labels.now c.requires.labels
    c.args.place.node c.args.place.nonterminal k r chosen in
    let lt = choice_there c.args.texts.now c.args.rules.now c.args.types.now c.args.tree.now c.args.place.node c.args.place.nonterminal k r chosen in
    let same : c.unwrap-rule.result ≡ r = same_number c.unwrap-rule.ensures (c.rule.ensures ∙ label) in
    let read = slice_get_read c.args.rules.now.rules.items _ c.unwrap-rule.result c.index.result.now refl (omega (arith, lt, same)) c.index.ensures in
    let here = subst (λ z. Chosen (applies c.args.texts.now c.args.rules.now c.args.types.now c.args.tree.now) c.args.place.node c.args.place.nonterminal k z)
    (sym same) chosen in
    record {
      cost = k;
      rule = c.unwrap-rule.result;
      own = _;
      operands = c.applies_at-applies.new.found.operands;
      chosen = here;
      applies = opened c.args.texts.now c.args.rules.now c.args.types.now c.args.tree.now c.args.place k c.unwrap-rule.result c.index.result.now
          c.applies_at-applies.new.found c.applies_at-applies.result read here c.applies_at-applies.ensures;
      tasks = opened_tasks c.operands-operands.result.now c.applies_at-applies.new.found.operands c.args.tasks.now.items c.push.new.self.items
          c.push_covers.new.tasks.items c.unwrap-rule.result c.args.place.node c.operands-operands.ensures.is c.in_ok-push.ensures.items
          c.in_ok-push_covers.ensures;
    }
