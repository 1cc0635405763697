-- The equation is one of the node's type, and its expression is evaluated in its variables.
use Rattle.std.proofs.Common.{◌∙◌, sym, ap, subst}
use Rattle.std.specs.Prelude.{Contains}
use Rattle.value_store.specs.Cells.{cells_of}
use Rattle.expr_lang.specs.Evaluated.{Ready, Evaluated}
use Rattle.expr_lang.specs.Meaning.{meaning}
use Rattle.ag_model.specs.Attribution.{IsEquation, grammar_of, equation_of}
use Rattle.expr_lang.specs.ValueOf.{no_tokens}
use Rattle.ag_model.specs.Solution.{expression_at, expressions_of}
use Rattle.ag_visits.specs.within.OfTree.{env_of}
use Rattle.ag_visits.proofs.evaluation.evaluate.Goals as goal

pub gather-requires-clause-uses : goal.gather-requires-clause-uses
gather-requires-clause-uses c =
    let q = equation_of c.equation_at-equation.result.now in
    let at = subst (λ t. IsEquation (grammar_of c.args.types.now c.args.a.now) t c.args.e q) c.type_of.ensures c.equation_at-equation.ensures.is in
    λ u has. c.requires.uses q u at (subst (λ us. Contains us u) c.as_slice.ensures.value has)

pub eval-requires : goal.eval-requires
eval-requires c =
    let q = equation_of c.equation_at-equation.result.now in
    let s = c.args.texts.now.source.now in
    let l = c.args.texts.now.literals.now in
    let es = expressions_of s l c.args.a.now in
    let at = subst (λ t. IsEquation (grammar_of c.args.types.now c.args.a.now) t c.args.e q) c.type_of.ensures c.equation_at-equation.ensures.is in
    let env = c.as_slice-2.ensures.value ∙ c.in_ok-gather.ensures ∙ ap (env_of c.args.tree.now c.args.values.now c.args.node) c.as_slice.ensures.value in
    let means = sym (ap (λ t. expression_at es t c.args.e) c.type_of.ensures) ∙ c.equation_at-equation.ensures.meaning s l in
    subst (λ xs. Ready (cells_of c.args.cells.now.units) xs (meaning s l c.equation_at-equation.result.now.value.now)) (sym env)
    (subst (Ready (cells_of c.args.cells.now.units) (env_of c.args.tree.now c.args.values.now c.args.node q.uses)) means (c.requires.ready q at))

pub set_at-requires : goal.set_at-requires
set_at-requires c =
    let q = equation_of c.equation_at-equation.result.now in
    let at = subst (λ t. IsEquation (grammar_of c.args.types.now c.args.a.now) t c.args.e q) c.type_of.ensures c.equation_at-equation.ensures.is in
    c.requires.target q at

pub returns-clause-ok : goal.returns-clause-ok
returns-clause-ok c =
    let q = equation_of c.equation_at-equation.result.now in
    let s = c.args.texts.now.source.now in
    let l = c.args.texts.now.literals.now in
    let es = expressions_of s l c.args.a.now in
    let at = subst (λ t. IsEquation (grammar_of c.args.types.now c.args.a.now) t c.args.e q) c.type_of.ensures c.equation_at-equation.ensures.is in
    let env = c.as_slice-2.ensures.value ∙ c.in_ok-gather.ensures ∙ ap (env_of c.args.tree.now c.args.values.now c.args.node) c.as_slice.ensures.value in
    let means = sym (ap (λ t. expression_at es t c.args.e) c.type_of.ensures) ∙ c.equation_at-equation.ensures.meaning s l in
    let old = cells_of c.args.cells.now.units in
    let new = cells_of c.eval.new.cells.units in
    record {
      equation = q;
      is_there = at;
      value = c.in_ok-value.value;
      gives = subst (λ x. Evaluated no_tokens s l old new (env_of c.args.tree.now c.args.values.now c.args.node q.uses) x c.in_ok-value.value) (sym means)
          (subst (λ xs. Evaluated no_tokens s l old new xs (meaning s l c.equation_at-equation.result.now.value.now) c.in_ok-value.value) env c.in_ok-value.ensures.ok);
      sets = c.set_at.ensures;
    }
