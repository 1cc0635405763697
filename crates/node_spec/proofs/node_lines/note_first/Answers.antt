-- The nonterminal is there, or it is put there with its family.
use Rattle.std.proofs.Common.{◌∙◌, ap, ◌∷◌, [], ◌++◌, refl, sym}
use Rattle.ck_base.proofs.NamesMet.{met_new, none_where_absent}
use Rattle.node_spec.specs.within.AstUnknown.{first_line, later_line}
use Rattle.node_spec.proofs.node_lines.note_first.Goals as goal

pub returns-in-Some : goal.returns-in-Some
returns-in-Some c = later_line _ _ c.in-Some.field-0 (sym c.find.ensures.number ∙ c.in-Some.is) refl refl

pub returns : goal.returns
returns c =
    let absent = c.find.ensures.absent.0 (rw c.in_default.is refl) in
    first_line _ _ absent
    (c.in_ok-intern.ensures.met ∙ met_new c.args.nonterminals.now c.args.nonterminal.now
    (none_where_absent c.args.nonterminals.now c.args.nonterminal.now absent))
    (c.in_ok-push.ensures.items ∙ ap (λ n. c.args.numbers.now.items ++ n ∷ []) c.number_of-number.ensures)
