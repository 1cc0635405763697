-- What the lines of AST declare together: over lines one behind the other, over one line more, and the type of a line.
use Rattle.std.proofs.Common.{◌≡◌, ℕ, zero, suc, ◌+◌, List, [], ◌∷◌, ◌++◌, length, map, take, drop, refl, sym, ap, ◌∙◌, Some, arith}
use Rattle.std.specs.List.{slice_get}
use Rattle.std.proofs.lemmas.List.{map-append, take-append-drop}
use Rattle.ast_types.specs.TypeTable.{Family}
use Rattle.section_frame.specs.Declares.{Declared}
use Rattle.spec_text.proofs.Lists.{take_step}
use Rattle.node_spec.specs.AstShapes.{AstSaying, SaidItem, family, target, a_type, node, build}
use Rattle.node_spec.specs.AstTables.{Row, family_then, families_in, family_names, row_of, row_after, rows_from, rows_in}
use Rattle.node_spec.specs.AstFaults.{row_at}

-- what stands in front stays at its place
pub get_in_front : {X : Type 0} (xs more : List X) (n : ℕ) (x : X) → slice_get xs n ≡ Some x → slice_get (xs ++ more) n ≡ Some x
get_in_front [] more n x at = cc
get_in_front (y ∷ xs) more zero x at = at
get_in_front (y ∷ xs) more (suc n) x at = get_in_front xs more n x at

pub get_at_end : {X : Type 0} (xs more : List X) (n : ℕ) (x : X) → n ≡ length xs → slice_get (xs ++ x ∷ more) n ≡ Some x
get_at_end [] more zero x is = refl
get_at_end [] more (suc n) x is = absurd (omega (arith, is))
get_at_end (y ∷ xs) more zero x is = absurd (omega (arith, is))
get_at_end (y ∷ xs) more (suc n) x is = get_at_end xs more n x (omega (arith, is))

-- one behind the other
family_then-append : (said : AstSaying) (more others : List Family)
    → family_then said (more ++ others) ≡ family_then said more ++ others
family_then-append (family name) more others = refl
family_then-append (target name) more others = refl
family_then-append (a_type name base items) more others = refl
family_then-append (node nonterminal name) more others = refl
family_then-append (build label e) more others = refl

pub families_in-append : (ds es : List (Declared AstSaying)) → families_in (ds ++ es) ≡ families_in ds ++ families_in es
families_in-append [] es = refl
families_in-append (d ∷ ds) es =
    ap (λ l. family_then d.said l) (families_in-append ds es)
    ∙ family_then-append d.said (families_in ds) (families_in es)

pub family_names-append : (ds es : List (Declared AstSaying))
    → family_names (ds ++ es) ≡ family_names ds ++ family_names es
family_names-append ds es =
    ap (λ l. map (λ f. f.name) l) (families_in-append ds es) ∙ map-append (λ f. f.name) (families_in ds)
    (families_in es)

pub rows_from-append : (rows : List Row) (ds es : List (Declared AstSaying))
    → rows_from rows (ds ++ es) ≡ rows_from (rows_from rows ds) es
rows_from-append rows [] es = refl
rows_from-append rows (d ∷ ds) es = rows_from-append (row_after rows d.said) ds es

pub rows_in-append : (ds es : List (Declared AstSaying)) → rows_in (ds ++ es) ≡ rows_from (rows_in ds) es
rows_in-append ds es = rows_from-append [] ds es

-- one line more
module _ (ds : List (Declared AstSaying)) (i : ℕ) (d : Declared AstSaying) (at : slice_get ds i ≡ Some d) where
  pub rows_in-step : rows_in (take (i + 1) ds) ≡ row_after (rows_in (take i ds)) d.said
  rows_in-step = ap rows_in (take_step ds i d at) ∙ rows_in-append (take i ds) (d ∷ [])

-- a type keeps its number, whatever lines follow
row_after_kept : (rows : List Row) (said : AstSaying) (k : ℕ) (row : Row) → slice_get rows k ≡ Some row
    → slice_get (row_after rows said) k ≡ Some row
row_after_kept rows (family name) k row at = at
row_after_kept rows (target name) k row at = at
row_after_kept rows (a_type name base own) k row at = get_in_front rows (row_of rows name base own ∷ []) k row at
row_after_kept rows (node nonterminal name) k row at = at
row_after_kept rows (build label e) k row at = at

rows_kept : (rows : List Row) (ds : List (Declared AstSaying)) (k : ℕ) (row : Row) → slice_get rows k ≡ Some row
    → slice_get (rows_from rows ds) k ≡ Some row
rows_kept rows [] k row at = at
rows_kept rows (d ∷ ds) k row at = rows_kept (row_after rows d.said) ds k row (row_after_kept rows d.said k row at)

-- the type of a line stands behind those of the lines before it
pub row_of_line : (ds : List (Declared AstSaying)) (i : ℕ) (d : Declared AstSaying) (name base : List ℕ)
    (own : List SaidItem) → slice_get ds i ≡ Some d → d.said ≡ a_type name base own
    → slice_get (rows_in ds) (length (rows_in (take i ds))) ≡ Some (row_at ds i name base own)
row_of_line ds i d name base own at is =
    rw (whole, here) (rows_kept (before ++ row_at ds i name base own ∷ []) (drop (i + 1) ds) (length before)
    (row_at ds i name base own) (get_at_end before [] (length before) (row_at ds i name base own) refl))
  where
    before : List Row
    before = rows_in (take i ds)

    here : rows_in (take (i + 1) ds) ≡ rows_in (take i ds) ++ row_at ds i name base own ∷ []
    here = rows_in-step ds i d at ∙ ap (row_after (rows_in (take i ds))) is

    whole : rows_in ds ≡ rows_from (rows_in (take (i + 1) ds)) (drop (i + 1) ds)
    whole = ap rows_in (sym (take-append-drop (i + 1) ds)) ∙ rows_from-append [] (take (i + 1) ds) (drop (i + 1) ds)
