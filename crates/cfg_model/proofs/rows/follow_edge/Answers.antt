-- The row that the edge leads to gets what the scratch set got.
use Rattle.std.proofs.Common.{◌≡◌, ◌<◌, ◌∙◌, inl, inr, length, subst, sym, arith}
use Rattle.std.proofs.lemmas.List.{get_or_default}
use Rattle.ck_base.specs.BitSet.{BitSet, Has}
use Rattle.cfg_model.specs.Rows.{no_row, row}
use Rattle.cfg_model.proofs.Joining.{is_joined}
use Rattle.cfg_model.proofs.rows.follow_edge.Goals as goal

pub returns-clause-joined : goal.returns-clause-joined
returns-clause-joined c =
    let old = c.args.rows.now.items in
    let inside : c.args.edge.from < length old = omega (arith, c.requires.rows.count_is, c.requires.edge.0) in
    let inside2 : c.args.edge.to < length old = omega (arith, c.requires.rows.count_is, c.requires.edge.1) in
    let source : c.index.result.now ≡ row old c.args.edge.from = c.index.ensures ∙ get_or_default old c.args.edge.from c.index.result.now no_row inside in
    is_joined old c.join_row.new.rows.items c.args.edge.from c.args.edge.to c.join_row.result c.join.new.self inside2
    c.join_row.ensures.set c.join_row.ensures.joined
    (λ t. (
      λ has. elim (c.join.ensures.joined.only t has) [ inl was ↦ absurd (c.clear.ensures.empty t was) | inr got ↦ subst (λ (s : BitSet). Has s t) source got ],
      λ has. c.join.ensures.joined.more t (subst (λ (s : BitSet). Has s t) (sym source) has),
    ))
    c.join_row.ensures.grew
