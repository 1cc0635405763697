-- The families and types of the lines, one line more at a time.
use Rattle.std.proofs.Common.{◌≡◌, ℕ, ◌+◌, List, [], ◌∷◌, ◌++◌, length, take, refl, ap, ◌∙◌, Some, arith, length-append}
use Rattle.std.specs.List.{slice_get}
use Rattle.section_frame.specs.Declares.{Declared}
use Rattle.spec_text.proofs.Lists.{take_step}
use Rattle.node_spec.specs.AstShapes.{AstSaying, SaidItem, family, target, a_type, node, build}
use Rattle.node_spec.specs.AstTables.{Row, families_in, family_then, row_after, row_in, row_of, rows_in}
use Rattle.node_spec.specs.AstFaults.{row_at}
use Rattle.node_spec.specs.within.AstWalks.{families_said, types_said, row_number}
use Rattle.node_spec.proofs.AstLists.{families_in-append, rows_in-step, row_of_line}

-- families
pub next_families : (ds : List (Declared AstSaying)) (i : ℕ) (d : Declared AstSaying) → slice_get ds i ≡ Some d
    → families_in (take (i + 1) ds) ≡ families_in (take i ds) ++ family_then d.said []
next_families ds i d at = ap families_in (take_step ds i d at) ∙ families_in-append (take i ds) (d ∷ [])

then_count : (said : AstSaying) → length (family_then said []) ≡ families_said said
then_count (family name) = refl
then_count (target name) = refl
then_count (a_type name base items) = refl
then_count (node nonterminal name) = refl
then_count (build label e) = refl

pub next_family_count : (ds : List (Declared AstSaying)) (i : ℕ) (d : Declared AstSaying) → slice_get ds i ≡ Some d
    → length (families_in (take (i + 1) ds)) ≡ length (families_in (take i ds)) + families_said d.said
next_family_count ds i d at =
    ap length (next_families ds i d at) ∙ length-append (families_in (take i ds)) (family_then d.said [])
    ∙ ap (λ n. length (families_in (take i ds)) + n) (then_count d.said)

-- types
after_count : (rows : List Row) (said : AstSaying) → length (row_after rows said) ≡ length rows + types_said said
after_count rows (family name) = omega arith
after_count rows (target name) = omega arith
after_count rows (a_type name base items) = length-append rows (row_of rows name base items ∷ [])
after_count rows (node nonterminal name) = omega arith
after_count rows (build label e) = omega arith

pub next_type_count : (ds : List (Declared AstSaying)) (i : ℕ) (d : Declared AstSaying) → slice_get ds i ≡ Some d
    → length (rows_in (take (i + 1) ds)) ≡ length (rows_in (take i ds)) + types_said d.said
next_type_count ds i d at = ap length (rows_in-step ds i d at) ∙ after_count (rows_in (take i ds)) d.said

-- the type of a line stands at the number of types before it
pub row_here : (ds : List (Declared AstSaying)) (i : ℕ) (d : Declared AstSaying) (name base : List ℕ) (items : List SaidItem)
    → slice_get ds i ≡ Some d → d.said ≡ a_type name base items
    → row_number (rows_in ds) (length (rows_in (take i ds))) ≡ row_at ds i name base items
row_here ds i d name base items at is = ap row_in (row_of_line ds i d name base items at is)
