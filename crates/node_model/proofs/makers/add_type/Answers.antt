-- A type of the other side is passed over.
use Rattle.std.proofs.Common.{◌∙◌, ap, sym}
use Rattle.ast_types.specs.TypeTable.{family_at}
use Rattle.node_model.specs.Makers.{is_side}
use Rattle.node_model.proofs.MakersFound.{one_made, other_passed}
use Rattle.node_model.proofs.makers.add_type.Goals as goal

pub returns-then-not-is_side : goal.returns-then-not-is_side
returns-then-not-is_side c =
    other_passed c.args.types.now c.args.target c.args.t _ c.requires.within
    (ap (λ f. is_side (family_at c.args.types.now.families f).target c.args.target) (sym c.family_of-family.ensures.is)
    ∙ ap (λ b. is_side b c.args.target) (sym c.is_target.ensures) ∙ sym c.is_side.ensures ∙ c.if-not-is_side.true)
    c.requires.so

pub returns : goal.returns
returns c =
    one_made c.args.types.now c.args.target c.args.t _ _ _ _ c.requires.within
    (ap (λ f. is_side (family_at c.args.types.now.families f).target c.args.target) (sym c.family_of-family.ensures.is)
    ∙ ap (λ b. is_side b c.args.target) (sym c.is_target.ensures) ∙ sym c.is_side.ensures ∙ c.if-not-is_side.false)
    (c.in_ok-name.ensures ∙ c.type_name.ensures) c.in_ok-maker.ensures.kind c.in_ok-maker.ensures.is
    c.in_ok-push.ensures.items c.in_ok-push-2.ensures.items c.in_ok-push-3.ensures.items c.requires.so
