use Rattle.std.proofs.Common.{◌≡◌, refl, subst, Some, slice_get, sym, Contains}
use Rattle.lalr_look.proofs.Numbering.{finds, absent_where_none, pair_eq, pair_eq-decides}
use Rattle.lalr_look.proofs.nodes.Nodes.find.Goals as goal

there : (c : goal.In-Some) → slice_get c.self.inside.nodes.keys c.in-Some.index ≡ Some c.args.node
there c = (finds pair_eq pair_eq-decides c.self.inside.nodes.keys c.args.node c.self.invariant.apart (Some c.in-Some.index) c.in-Some.ensures.index c.in-Some.index).0 refl

pub returns-in-Some-clause-there : goal.returns-in-Some-clause-there
returns-in-Some-clause-there c = subst (λ l. slice_get l c.in-Some.index ≡ Some c.args.node) c.self.view_is (there c)

pub returns-in-Some-clause-one : goal.returns-in-Some-clause-one
returns-in-Some-clause-one c k at =
    c.self.invariant.apart k c.in-Some.index c.args.node (subst (λ l. slice_get l k ≡ Some c.args.node) (sym c.self.view_is) at) (there c)

pub returns-in-None-clause-one : goal.returns-in-None-clause-one
returns-in-None-clause-one c k at =
    absurd (absent_where_none pair_eq pair_eq-decides c.self.inside.nodes.keys c.args.node c.self.invariant.apart (sym c.in-None.ensures.index)
    (subst (λ l. Contains l c.args.node) (sym c.self.view_is) c.requires))
