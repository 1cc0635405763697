use Rattle.std.proofs.Common.{◌≡◌, ◌∷◌, [], ◌++◌, length, sym, ap, ◌∙◌, codes, append_assoc}
use Rattle.std.specs.Fmt.{decimal}
use Rattle.value_store.specs.Cells.{cells_of, pairs_at}
use Rattle.value_store.specs.Maps.{entries}
use Rattle.expr_lang.proofs.Applies.{length-entries}
use Rattle.tree_lines.proofs.value.push_map.Goals as goal

pub returns : goal.returns
returns c =
    let s = c.args.texts.now.source.now in
    let l = c.args.texts.now.literals.now in
    let many = length-entries s l (pairs_at (cells_of c.args.cells.now.units) c.args.m) in
    let size : c.size.result ≡ length (entries s l (pairs_at (cells_of c.args.cells.now.units) c.args.m)) = c.size.ensures.is ∙ sym many in
    let old = c.args.out.now.items in
    c.in_ok-push.ensures.items ∙ ap (λ xs. xs ++ 41 ∷ []) (c.in_ok-push_decimal.ensures ∙ ap (λ xs. xs ++ decimal c.size.result) c.in_ok-extend_from_slice.ensures.items)
    ∙ append_assoc (old ++ codes "map(") (decimal c.size.result) (41 ∷ [])
    ∙ append_assoc old (codes "map(") (decimal c.size.result ++ 41 ∷ [])
    ∙ ap (λ n. old ++ (codes "map(" ++ (decimal n ++ 41 ∷ []))) size
