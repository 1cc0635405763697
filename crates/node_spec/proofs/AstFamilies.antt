-- The families and types that the lines declare, and the families of nonterminals.
use Rattle.std.proofs.Common.{◌≡◌, ℕ, zero, suc, ◌+◌, ◌⊎◌, inl, inr, Bool, true, false, List, [], ◌∷◌, ◌++◌, append_assoc, length, take, map, get_or, refl, sym, ap, subst, ◌∙◌, Option, Some, None, unwrap_or, Contains, if◌then◌else◌, arith}
use Rattle.std.specs.List.{slice_get}
use Rattle.std.specs.Str.{bytes_eq}
use Rattle.std.proofs.lemmas.List.{append-nil, get_or-map, length-map, map-append}
use Rattle.std.proofs.lemmas.Option.{get_or_from_slice_get, none-some}
use Rattle.std.proofs.lemmas.Slice.Eq.{bytes_eq-Decides}
use Rattle.ast_types.specs.TypeTable.{Family}
use Rattle.ck_base.specs.Numbered.{AreApart, met, number_of}
use Rattle.ck_base.proofs.NameFound.{contained_at}
use Rattle.ck_base.proofs.NamesMet.{met_new, met_known, none_where_absent}
use Rattle.section_frame.specs.Declares.{Declared}
use Rattle.spec_text.proofs.Lists.{take_step, take_all, get_fits}
use Rattle.node_spec.specs.AstShapes.{AstSaying, SaidItem, family, target, a_type, node, build}
use Rattle.node_spec.specs.AstTables.{Row, family_then, families_in, family_names, rows_from, row_names, row_of, row_over, row_after, type_names, node_or, node_family, family_number, families_by}
use Rattle.node_spec.specs.AstFaults.{name_then, names_in, node_then, nodes_in}
use Rattle.node_spec.specs.declared.families.Families.{Families}
use Rattle.node_spec.specs.declared.node_lines.NodeLines.{NodeLines}
use Rattle.node_spec.specs.within.AstSteps.{AreFamilies}
use Rattle.node_spec.specs.within.AstUnknown.{type_then, types_in, family_after, AreNodes, NotesNode, first_line, later_line, other_line}
use Rattle.node_spec.proofs.AstGathered.{MetSoFar, family_name_of, node_of, none_met, met_more, met_all, families_gather, nodes_gather}
use Rattle.node_spec.proofs.AstUnknownLists.{Within, nothing, left_out, taken, apart_within, met_as_they_stand, met_has, met_had, first_or_later, at_first, at_later}

-- families stand among the names, and so do types
pub families_within : (ds : List (Declared AstSaying)) → Within (family_names ds) (names_in ds)
families_within [] = nothing
families_within (d ∷ ds) = by d.said (families_in ds) (names_in ds) (families_within ds)
  where
    by : (said : AstSaying) (fs : List Family) (names : List (List ℕ)) → Within (map (λ f. f.name) fs) names
        → Within (map (λ f. f.name) (family_then said fs)) (name_then said names)
    by (family name) fs names w = taken name (map (λ f. f.name) fs) names w
    by (target name) fs names w = taken name (map (λ f. f.name) fs) names w
    by (a_type name base items) fs names w = left_out name (map (λ f. f.name) fs) names w
    by (node nonterminal name) fs names w = w
    by (build label e) fs names w = w

pub types_within : (ds : List (Declared AstSaying)) → Within (types_in ds) (names_in ds)
types_within [] = nothing
types_within (d ∷ ds) = by d.said (types_in ds) (names_in ds) (types_within ds)
  where
    by : (said : AstSaying) (types names : List (List ℕ)) → Within types names
        → Within (type_then said types) (name_then said names)
    by (family name) types names w = left_out name types names w
    by (target name) types names w = left_out name types names w
    by (a_type name base items) types names w = taken name types names w
    by (node nonterminal name) types names w = w
    by (build label e) types names w = w

-- the names of the types are those that their lines have
row_name : (rows : List Row) (name base : List ℕ) (own : List SaidItem) → (row_of rows name base own).name ≡ name
row_name rows name base own = by (number_of (row_names rows) base)
  where
    by : (number : Option ℕ) → (row_over rows name base own number).name ≡ name
    by None = refl
    by (Some b) = refl

rows_named : (ds : List (Declared AstSaying)) (rows : List Row)
    → row_names (rows_from rows ds) ≡ row_names rows ++ types_in ds
rows_named [] rows = sym (append-nil (row_names rows))
rows_named (d ∷ ds) rows = rows_named ds (row_after rows d.said) ∙ by d.said (types_in ds)
  where
    by : (said : AstSaying) (types : List (List ℕ))
        → row_names (row_after rows said) ++ types ≡ row_names rows ++ type_then said types
    by (family name) types = refl
    by (target name) types = refl
    by (a_type name base own) types =
        ap (λ l. l ++ types) (map-append (λ row. row.name) rows (row_of rows name base own ∷ []))
        ∙ append_assoc (row_names rows) ((row_of rows name base own).name ∷ []) types
        ∙ ap (λ n. row_names rows ++ n ∷ types) (row_name rows name base own)
    by (node nonterminal name) types = refl
    by (build label e) types = refl

pub types_named : (ds : List (Declared AstSaying)) → type_names ds ≡ types_in ds
types_named ds = rows_named ds []

pub types_apart : (ds : List (Declared AstSaying)) (names : List (List ℕ)) → AreApart (names_in ds)
    → names ≡ met [] (types_in ds)
    → names ≡ type_names ds
types_apart ds names apart are =
    are ∙ met_as_they_stand [] (types_in ds) (apart_within (types_in ds) (names_in ds) (types_within ds) apart)
    ∙ sym (types_named ds)

-- the families of the first i lines
pub record FamiliesSoFar (ds : List (Declared AstSaying)) (i : ℕ) (names : List (List ℕ))
    (targets : List Bool) : Type 0 where
  pub named : MetSoFar family_names ds i names
  pub sides : targets ≡ map (λ f. f.target) (families_in (take i ds))

pub no_families_yet : (ds : List (Declared AstSaying)) (names : List (List ℕ)) (targets : List Bool) → names ≡ []
    → targets ≡ []
    → FamiliesSoFar ds 0 names targets
no_families_yet ds names targets none no_sides = record {
  named = none_met family_names family_name_of families_gather ds names none;
  sides = no_sides;
}

one_side : (ds : List (Declared AstSaying)) (d : Declared AstSaying)
    → families_in (ds ++ d ∷ []) ≡ families_in ds ++ family_then d.said []
one_side [] d = refl
one_side (e ∷ ds) d = by e.said (one_side ds d)
  where
    by : (said : AstSaying) → families_in (ds ++ d ∷ []) ≡ families_in ds ++ family_then d.said []
        → family_then said (families_in (ds ++ d ∷ [])) ≡ family_then said (families_in ds) ++ family_then d.said []
    by (family name) same = ap (λ l. record { name = name; target = false } ∷ l) same
    by (target name) same = ap (λ l. record { name = name; target = true } ∷ l) same
    by (a_type name base items) same = same
    by (node nonterminal name) same = same
    by (build label e) same = same

pub family_more : (ds : List (Declared AstSaying)) (i : ℕ) (old new : List (List ℕ)) (sides now : List Bool)
    (d : Declared AstSaying) → slice_get ds i ≡ Some d → FamiliesSoFar ds i old sides
    → new ≡ met old (map (λ f. f.name) (family_then d.said []))
    → now ≡ sides ++ map (λ f. f.target) (family_then d.said []) → FamiliesSoFar ds (i + 1) new now
family_more ds i old new sides now d at so names are = record {
  named = met_more family_names family_name_of families_gather ds i old new d at so.named names;
  sides =
      are ∙ ap (λ l. l ++ map (λ f. f.target) (family_then d.said [])) so.sides
      ∙ sym (map-append (λ f. f.target) (families_in (take i ds)) (family_then d.said []))
      ∙ sym (ap (map (λ f. f.target)) (ap families_in (take_step ds i d at) ∙ one_side (take i ds) d));
}

pub families_apart : (ds : List (Declared AstSaying)) (i : ℕ) (families : Families) → i ≡ length ds
    → AreApart (names_in ds)
    → FamiliesSoFar ds i families.names families.targets.items → AreFamilies ds families
families_apart ds i families end apart so = record {
  names =
      met_all family_names family_name_of families_gather ds i families.names end so.named
      ∙ met_as_they_stand [] (family_names ds)
      (apart_within (family_names ds) (names_in ds) (families_within ds) apart);
  sides = so.sides ∙ ap (λ l. map (λ f. f.target) (families_in l)) (take_all ds i end);
}

-- the family that a NODE line names, before that of later lines
abbrev pub or_later : Option (List ℕ) → Option (List ℕ) → Option (List ℕ)
or_later None later = later
or_later (Some name) later = Some name

node_family_behind : (ds : List (Declared AstSaying)) (d : Declared AstSaying) (wanted : List ℕ)
    → node_family (ds ++ d ∷ []) wanted ≡ or_later (node_family ds wanted) (node_or d.said wanted None)
node_family_behind [] d wanted = refl
node_family_behind (e ∷ ds) d wanted =
    ap (node_or e.said wanted) (node_family_behind ds d wanted)
    ∙ by e.said (node_family ds wanted) (node_or d.said wanted None)
  where
    by : (said : AstSaying) (first later : Option (List ℕ))
        → node_or said wanted (or_later first later) ≡ or_later (node_or said wanted first) later
    by (family name) first later = refl
    by (target name) first later = refl
    by (a_type name base items) first later = refl
    by (node nonterminal name) first later =
        elim (bytes_eq nonterminal wanted) as (λ b. (if b then Some name else or_later first later)
        ≡ or_later (if b then Some name else first) later) [
          | true ↦ refl
          | false ↦ refl
        ]
    by (build label e) first later = refl

-- a nonterminal has no family by NODE lines exactly where none is of it
pub none_named : (ds : List (Declared AstSaying)) (wanted : List ℕ) → (Contains (nodes_in ds) wanted → ⊥)
    → node_family ds wanted ≡ None
none_named [] wanted absent = refl
none_named (d ∷ ds) wanted absent = by d.said absent (none_named ds wanted)
  where
    by : (said : AstSaying) → (Contains (node_then said (nodes_in ds)) wanted → ⊥)
        → ((Contains (nodes_in ds) wanted → ⊥) → node_family ds wanted ≡ None)
        → node_or said wanted (node_family ds wanted) ≡ None
    by (family name) absent later = later absent
    by (target name) absent later = later absent
    by (a_type name base items) absent later = later absent
    by (node nonterminal name) absent later =
        elim (bytes_eq nonterminal wanted) as (λ b. bytes_eq nonterminal wanted ≡ b
        → (if b then Some name else node_family ds wanted) ≡ None) [
          | true ↦ λ same. absurd (absent
              (at_first nonterminal (nodes_in ds) wanted ((bytes_eq-Decides nonterminal wanted).0 same)))
          | false ↦ λ other. later (λ has. absent (at_later nonterminal (nodes_in ds) wanted has))
        ] refl
    by (build label e) absent later = later absent

pub unnamed : (ds : List (Declared AstSaying)) (wanted : List ℕ) → node_family ds wanted ≡ None
    → Contains (nodes_in ds) wanted → ⊥
unnamed [] wanted none has = let less = has.1 in omega (arith, less)
unnamed (d ∷ ds) wanted none has = by d.said none has (unnamed ds wanted)
  where
    behind : (nonterminal : List ℕ) → bytes_eq nonterminal wanted ≡ false → (Contains (nodes_in ds) wanted → ⊥)
        → (nonterminal ≡ wanted) ⊎ Contains (nodes_in ds) wanted → ⊥
    behind nonterminal other later (inl same) = let e = (bytes_eq-Decides nonterminal wanted).1 same in cc
    behind nonterminal other later (inr there) = later there

    by : (said : AstSaying) → node_or said wanted (node_family ds wanted) ≡ None
        → Contains (node_then said (nodes_in ds)) wanted
        → (node_family ds wanted ≡ None → Contains (nodes_in ds) wanted → ⊥) → ⊥
    by (family name) none has later = later none has
    by (target name) none has later = later none has
    by (a_type name base items) none has later = later none has
    by (node nonterminal name) none has later =
        elim (bytes_eq nonterminal wanted) as (λ b. bytes_eq nonterminal wanted ≡ b
        → (if b then Some name else node_family ds wanted) ≡ None → ⊥) [
          | true ↦ λ same is. absurd (none-some name (sym is))
          | false ↦ λ other is. behind nonterminal other (later is)
              (first_or_later nonterminal (nodes_in ds) wanted has)
        ] refl none
    by (build label e) none has later = later none has

-- a nonterminal that is there keeps its family
kept : (families : List (List ℕ)) (ds : List (Declared AstSaying)) (d : Declared AstSaying) (wanted : List ℕ)
    → Contains (nodes_in ds) wanted → family_after families (ds ++ d ∷ []) wanted ≡ family_after families ds wanted
kept families ds d wanted has =
    ap (λ o. family_number families (unwrap_or o wanted))
    (node_family_behind ds d wanted ∙ by (node_family ds wanted) refl)
  where
    by : (first : Option (List ℕ)) → node_family ds wanted ≡ first
        → or_later (node_family ds wanted) (node_or d.said wanted None) ≡ node_family ds wanted
    by None none = absurd (unnamed ds wanted none has)
    by (Some name) some = ap (λ o. or_later o (node_or d.said wanted None)) some ∙ sym some

-- a function of each name, where another gives the same
same_map : (f g : List ℕ → ℕ) (names : List (List ℕ))
    → ((k : ℕ) (name : List ℕ) → slice_get names k ≡ Some name → f name ≡ g name)
    → map f names ≡ map g names
same_map f g [] same = refl
same_map f g (name ∷ names) same =
    ap (λ n. n ∷ map f names) (same zero name refl)
    ∙ ap (λ l. g name ∷ l) (same_map f g names (λ k other at. same (suc k) other at))

-- the NODE lines among the first i lines
pub record NodesSoFar (families : List (List ℕ)) (ds : List (Declared AstSaying)) (i : ℕ) (names : List (List ℕ))
    (numbers : List ℕ) : Type 0 where
  pub named : MetSoFar nodes_in ds i names
  pub their_numbers : numbers ≡ map (family_after families (take i ds)) names

pub no_nodes_yet : (families : List (List ℕ)) (ds : List (Declared AstSaying)) (names : List (List ℕ))
    (numbers : List ℕ)
    → names ≡ [] → numbers ≡ [] → NodesSoFar families ds 0 names numbers
no_nodes_yet families ds names numbers none no_numbers = record {
  named = none_met nodes_in node_of nodes_gather ds names none;
  their_numbers = no_numbers ∙ sym (ap (map (family_after families (take 0 ds))) none);
}

module _ (families : List (List ℕ)) (ds : List (Declared AstSaying)) (i : ℕ) (old : List (List ℕ)) (before : List ℕ)
    (d : Declared AstSaying) (at : slice_get ds i ≡ Some d) (so : NodesSoFar families ds i old before) where
  there : (name : List ℕ) → Contains old name → Contains (nodes_in (take i ds)) name
  there name has = met_had [] (nodes_in (take i ds)) name (subst (λ l. Contains l name) so.named.are has)

  numbers_kept : before ≡ map (family_after families (take (i + 1) ds)) old
  numbers_kept =
      so.their_numbers ∙ same_map (family_after families (take i ds)) (family_after families (take (i + 1) ds)) old
      (λ k name at_k. sym (ap (λ l. family_after families l name) (take_step ds i d at)
      ∙ kept families (take i ds) d name (there name (contained_at old name k at_k))))

  with_same : old ≡ met old (node_of d.said) → NodesSoFar families ds (i + 1) old before
  with_same same = record {
    named = met_more nodes_in node_of nodes_gather ds i old old d at so.named same;
    their_numbers = numbers_kept;
  }

  its_number : (nonterminal name : List ℕ) → d.said ≡ node nonterminal name → (Contains old nonterminal → ⊥)
      → family_after families (take (i + 1) ds) nonterminal ≡ family_number families name
  its_number nonterminal name is new =
      ap (λ o. family_number families (unwrap_or o nonterminal))
      (ap (λ l. node_family l nonterminal) (take_step ds i d at) ∙ node_family_behind (take i ds) d nonterminal
      ∙ ap (λ o. or_later o (node_or d.said nonterminal None)) (none_named (take i ds) nonterminal absent)
      ∙ ap (λ said. node_or said nonterminal None) is
      ∙ ap (λ b. if b then Some name else None) ((bytes_eq-Decides nonterminal nonterminal).1 refl))
    where
      absent : Contains (nodes_in (take i ds)) nonterminal → ⊥
      absent has =
          new (subst (λ l. Contains l nonterminal) (sym so.named.are)
          (met_has [] (nodes_in (take i ds)) nonterminal has))

  pub node_more : (new : List (List ℕ)) (now : List ℕ) → NotesNode families d.said old before new now
      → NodesSoFar families ds (i + 1) new now
  node_more new now notes = by d.said refl notes
    where
      by : (said : AstSaying) → d.said ≡ said → NotesNode families said old before new now
          → NodesSoFar families ds (i + 1) new now
      by _ is (first_line nonterminal name absent names_are numbers_are) = record {
        named = met_more nodes_in node_of nodes_gather ds i old new d at so.named
            (names_are ∙ sym (ap (λ said. met old (node_then said [])) is
            ∙ met_new old nonterminal (none_where_absent old nonterminal absent)));
        their_numbers =
            numbers_are ∙ ap (λ l. l ++ family_number families name ∷ []) numbers_kept
            ∙ ap (λ n. map (family_after families (take (i + 1) ds)) old ++ n ∷ [])
            (sym (its_number nonterminal name is absent))
            ∙ sym (map-append (family_after families (take (i + 1) ds)) old (nonterminal ∷ []))
            ∙ sym (ap (map (family_after families (take (i + 1) ds))) names_are);
      }
      by _ is (later_line nonterminal name n found names_are numbers_are) =
          rw (names_are, numbers_are) (with_same
          (sym (ap (λ said. met old (node_then said [])) is ∙ met_known old nonterminal n found)))
      by _ is (other_line said none names_are numbers_are) =
          rw (names_are, numbers_are) (with_same
          (sym (ap (λ said. met old (node_then said [])) is ∙ ap (met old) none)))

pub nodes_all : (families : List (List ℕ)) (ds : List (Declared AstSaying)) (i : ℕ) (nodes : NodeLines) → i ≡ length ds
    → NodesSoFar families ds i nodes.nonterminals nodes.families.items → AreNodes families ds nodes
nodes_all families ds i nodes end so = record {
  names = met_all nodes_in node_of nodes_gather ds i nodes.nonterminals end so.named;
  numbers = so.their_numbers ∙ ap (λ l. map (family_after families l) nodes.nonterminals) (take_all ds i end);
}

-- the family of one nonterminal
pub by_its_line : (families : List (List ℕ)) (ds : List (Declared AstSaying)) (nodes : NodeLines) (wanted : List ℕ)
    (n d : ℕ)
    → AreNodes families ds nodes → slice_get nodes.nonterminals n ≡ Some wanted
    → get_or nodes.families.items n d ≡ family_after families ds wanted
by_its_line families ds nodes wanted n d are at =
    ap (λ l. get_or l n d) are.numbers
    ∙ get_or-map (family_after families ds) nodes.nonterminals n [] d (get_fits nodes.nonterminals n wanted at)
    ∙ ap (family_after families ds) (get_or_from_slice_get nodes.nonterminals n wanted [] at)

pub by_its_name : (families : List (List ℕ)) (ds : List (Declared AstSaying)) (nodes : NodeLines) (wanted : List ℕ)
    → AreNodes families ds nodes → (Contains nodes.nonterminals wanted → ⊥)
    → family_number families wanted ≡ family_after families ds wanted
by_its_name families ds nodes wanted are absent =
    sym (ap (λ o. family_number families (unwrap_or o wanted)) (none_named ds wanted
    (λ has. absent (subst (λ l. Contains l wanted) (sym are.names) (met_has [] (nodes_in ds) wanted has)))))

-- one nonterminal more
pub one_family_more : (families : List (List ℕ)) (ds : List (Declared AstSaying)) (nonterminals : List (List ℕ)) (n : ℕ)
    (name : List ℕ) (found now : List ℕ) (number : ℕ) → slice_get nonterminals n ≡ Some name
    → found ≡ map (family_after families ds) (take n nonterminals) → number ≡ family_after families ds name
    → now ≡ found ++ number ∷ [] → now ≡ map (family_after families ds) (take (n + 1) nonterminals)
one_family_more families ds nonterminals n name found now number at are is more =
    more ∙ ap (λ l. l ++ number ∷ []) are ∙ ap (λ x. map (family_after families ds) (take n nonterminals) ++ x ∷ []) is
    ∙ sym (map-append (family_after families ds) (take n nonterminals) (name ∷ []))
    ∙ sym (ap (map (family_after families ds)) (take_step nonterminals n name at))

pub nodes_as_many : (families : List (List ℕ)) (ds : List (Declared AstSaying)) (nodes : NodeLines)
    → AreNodes families ds nodes
    → length nodes.nonterminals ≡ length nodes.families.items
nodes_as_many families ds nodes are =
    sym (ap length are.numbers ∙ length-map nodes.nonterminals (family_after families ds))

-- by the names of the families that the lines declare
pub by_these_families : (families : List (List ℕ)) (ds : List (Declared AstSaying)) (nonterminals : List (List ℕ))
    (found : List ℕ) → families ≡ family_names ds → found ≡ map (family_after families ds) nonterminals
    → found ≡ families_by ds nonterminals
by_these_families families ds nonterminals found same are = are ∙ ap (λ l. map (family_after l ds) nonterminals) same
