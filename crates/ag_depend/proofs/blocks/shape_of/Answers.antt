-- Blocks and uses are the type in numbers.
use Rattle.std.proofs.Common.{◌≡◌, ℕ, ◌+◌, ◌-◌, List, sym, ◌∙◌, subst, ap, arith, length, Some, refl}
use Rattle.std.specs.Prelude.{slice_get}
use Rattle.std.proofs.lemmas.List.{length-map}
use Rattle.ck_base.proofs.Representing.{element_at}
use Rattle.ag_model.specs.Attribution.{AttributeGrammar, grammar_of, equation_of, equations_of, children_of}
use Rattle.ag_model.specs.Numbers.{place_count}
use Rattle.ag_model.proofs.PlacesNumbered.{few_numbers}
use Rattle.ag_depend.specs.declared.shapes.Block.{Block}
use Rattle.ag_depend.specs.Blocks.{AreAllBlocks, AreUses}
use Rattle.ag_depend.proofs.ShapeOfType.{have_numbers, last_block, is_shape}
use Rattle.ag_depend.proofs.blocks.shape_of.Goals as goal

pub end_of-count-requires-clause-few : goal.end_of-count-requires-clause-few
end_of-count-requires-clause-few c = λ block is.
    let g = grammar_of c.args.types.now c.args.a.now in
    let few = few_numbers g c.requires.complete c.args.t (length (children_of g c.args.t)) in
    let end = last_block g c.args.t c.in_ok-at.at.items c.in_ok-at.ensures block (subst (λ (xs : List Block). slice_get xs (length xs - 1) ≡ Some block) c.as_slice.ensures.value is) in
    omega arith

-- how many numbers there are
count_is : (g : AttributeGrammar) (t : ℕ) (blocks slice : List Block) (count : ℕ) → AreAllBlocks g t blocks → slice ≡ blocks
    → ((block : Block) → slice_get slice (length slice - 1) ≡ Some block → count ≡ block.base + block.size) → count ≡ place_count g t
count_is g t blocks slice count are same is =
    let some = are.count in
    let e = ap length same in
    let (block, there) = element_at slice (length slice - 1) (omega arith) in
    is block there ∙ last_block g t blocks are block (subst (λ (xs : List Block). slice_get xs (length xs - 1) ≡ Some block) same there)

pub direct_of-requires : goal.direct_of-requires
direct_of-requires c =
    let g = grammar_of c.args.types.now c.args.a.now in
    let count = count_is g c.args.t c.in_ok-at.at.items c.as_slice.result.now c.end_of-count.result c.in_ok-at.ensures c.as_slice.ensures.value c.end_of-count.ensures in
    rw (c.as_slice-2.ensures.value, count, c.equations_of.ensures.is) (have_numbers g c.args.t c.in_ok-at.at.items c.in_ok-at.ensures c.requires.complete)

pub returns : goal.returns
returns c =
    let g = grammar_of c.args.types.now c.args.a.now in
    let count = count_is g c.args.t c.in_ok-at.at.items c.as_slice.result.now c.end_of-count.result c.in_ok-at.ensures c.as_slice.ensures.value c.end_of-count.ensures in
    let size : length c.equations_of.result.now ≡ length (equations_of g c.args.t) =
    sym (length-map c.equations_of.result.now equation_of) ∙ ap length c.equations_of.ensures.is in
    let uses : AreUses c.in_ok-at.at.items (equations_of g c.args.t) (length (equations_of g c.args.t)) c.in_ok-direct.direct =
    rw (c.as_slice-2.ensures.value, c.equations_of.ensures.is, size) at c.in_ok-direct.ensures.uses in
    is_shape g c.args.t c.in_ok-at.at.items c.in_ok-at.ensures c.requires.complete _ refl (c.in_ok-direct.ensures.size ∙ count) uses
