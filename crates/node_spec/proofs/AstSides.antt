-- The first line with an item or a nonterminal of the wrong side.
use Rattle.std.proofs.Common.{◌≡◌, ℕ, zero, suc, ◌+◌, ◌<◌, ◌≤◌, ◌⊎◌, inl, inr, Bool, false, List, [], ◌∷◌, length, take, map, get_or, refl, sym, ap, subst, ◌∙◌, Some, unwrap_or, arith}
use Rattle.std.specs.List.{slice_get}
use Rattle.std.proofs.lemmas.List.{length-map}
use Rattle.ast_types.specs.TypeTable.{Family, family_at}
use Rattle.section_frame.specs.Declares.{Declared, HasAt, Grow}
use Rattle.spec_text.specs.Least.{Least}
use Rattle.section_frame.proofs.Frame.{NoneBefore, none_at_first, none_more, first_here}
use Rattle.spec_text.proofs.Parting.{contains_at}
use Rattle.spec_text.proofs.Lists.{order, map_get, get_at}
use Rattle.node_spec.specs.AstShapes.{AstSaying, SaidItem, family, target, a_type, node, build}
use Rattle.node_spec.specs.AstTables.{Row, families_in, family_number, rows_in}
use Rattle.node_spec.specs.AstFaults.{is_target, row_at}
use Rattle.node_spec.specs.within.AstSeen.{item_seen}
use Rattle.node_spec.specs.within.AstSteps.{AreFamilies, IsOfWrongSide, a_map, of_other_side, of_target}
use Rattle.node_spec.specs.within.AstWalks.{HasWrongItem, IsWrongItem, IsWrongLine, row_number, target_of, types_said}
use Rattle.node_spec.specs.declared.ast_line.ItemText.{ItemText}
use Rattle.node_spec.specs.declared.families.Families.{Families}
use Rattle.node_spec.proofs.AstRowLists.{next_type_count, row_here}

-- a family's side, by its number
side_at : (fs : List Family) (n : ℕ) → unwrap_or (slice_get (map (λ f. f.target) fs) n) false ≡ (family_at fs n).target
side_at [] n = refl
side_at (f ∷ fs) zero = refl
side_at (f ∷ fs) (suc n) = side_at fs n

pub target_is : (ds : List (Declared AstSaying)) (families : Families) (name : List ℕ) → AreFamilies ds families
    → target_of families name ≡ is_target ds name
target_is ds families name are =
    ap (λ l. unwrap_or (slice_get l (family_number families.names name)) false) are.sides
    ∙ side_at (families_in ds) (family_number families.names name)
    ∙ ap (λ l. (family_at (families_in ds) (family_number l name)).target) are.names

-- none of the items so far is wrong
abbrev pub NoWrongItem : Families → Bool → List SaidItem → ℕ → Type 0
NoWrongItem families side items i =
    (j : ℕ) (item : SaidItem) → j < i → slice_get items j ≡ Some item → IsWrongItem families side item → ⊥

pub wrong_here : (families : Families) (side : Bool) (items : List ItemText) (i : ℕ) (p : ItemText) → i < length items
    → IsWrongItem families side (item_seen (get_or items i p)) → HasWrongItem families side (map item_seen items)
wrong_here families side items i p less wrong = record {
  item = item_seen (get_or items i p);
  among = contains_at (map item_seen items) i (item_seen (get_or items i p)) (map_get item_seen items i (get_or items i p) (get_at items i p less));
  wrong = wrong;
}

pub one_right : (families : Families) (side : Bool) (items : List ItemText) (i : ℕ) (p : ItemText)
    → NoWrongItem families side (map item_seen items) i → i < length items
    → (IsWrongItem families side (item_seen (get_or items i p)) → ⊥) → NoWrongItem families side (map item_seen items) (i + 1)
one_right families side items i p before less right j other less_j at_j wrong = by (order j i)
  where
    at : slice_get (map item_seen items) i ≡ Some (item_seen (get_or items i p))
    at = map_get item_seen items i (get_or items i p) (get_at items i p less)

    by : (j < i) ⊎ ((i < j) ⊎ (j ≡ i)) → ⊥
    by (inl below) = before j other below at_j wrong
    by (inr (inl above)) = omega (arith, above, less_j)
    by (inr (inr same)) =
        let it : other ≡ item_seen (get_or items i p) = (let a = rw same at at_j in let b = sym a ∙ at in cc) in
        right (subst (λ x. IsWrongItem families side x) it wrong)

pub all_right : (families : Families) (side : Bool) (items : List ItemText) (i : ℕ) → length items ≤ i
    → NoWrongItem families side (map item_seen items) i → HasWrongItem families side (map item_seen items) → ⊥
all_right families side items i end before has =
    before has.among.0 has.item (let n = has.among.1 in omega (arith, n, end, length-map items item_seen))
    (get_at (map item_seen items) has.among.0 has.item has.among.1 ∙ ap (λ x. Some x) has.among.2) has.wrong

-- no line so far is of the wrong side
pub record SidesSoFar (ds : List (Declared AstSaying)) (i types : ℕ) : Type 0 where
  pub types_are : types ≡ length (rows_in (take i ds))
  pub few : types ≤ i
  pub none : NoneBefore ds (IsOfWrongSide ds) i

pub no_side_yet : (ds : List (Declared AstSaying)) → SidesSoFar ds 0 0
no_side_yet ds = record { types_are = refl; few = omega arith; none = none_at_first ds (IsOfWrongSide ds) }

one_type : (said : AstSaying) → types_said said ≤ 1
one_type (family name) = omega arith
one_type (target name) = omega arith
one_type (a_type name base items) = omega arith
one_type (node nonterminal name) = omega arith
one_type (build label e) = omega arith

module _ (ds : List (Declared AstSaying)) (i types : ℕ) (d : Declared AstSaying) (rows : List Row) (families : Families)
    (at : slice_get ds i ≡ Some d) (so : SidesSoFar ds i types) (rows_are : rows ≡ rows_in ds)
    (are : AreFamilies ds families) where
  abbrev Wrong : AstSaying → Type 0
  Wrong said = IsWrongLine families (row_number rows types) said

  row_is : (name base : List ℕ) (items : List SaidItem) → d.said ≡ a_type name base items
      → row_number rows types ≡ row_at ds i name base items
  row_is name base items is = rw (rows_are, so.types_are) (row_here ds i d name base items at is)

  side_is : (name base : List ℕ) (items : List SaidItem) → d.said ≡ a_type name base items
      → target_of families (row_number rows types).family ≡ is_target ds (row_at ds i name base items).family
  side_is name base items is =
      target_is ds families (row_number rows types).family are ∙ ap (λ row. is_target ds row.family) (row_is name base items is)

  wrong_at : (said : AstSaying) → said ≡ d.said → Wrong said → IsOfWrongSide ds i said
  wrong_at (family name) is wrong = absurd wrong
  wrong_at (target name) is wrong = absurd wrong
  wrong_at (a_type name base items) is has = by has.wrong
    where
      by : IsWrongItem families (target_of families (row_number rows types).family) has.item → IsOfWrongSide ds i (a_type name base items)
      by (inl map_there) = a_map i name base items has.item has.among map_there
      by (inr differs) =
          of_other_side i name base items has.item has.among differs.0
          (λ same. differs.1 (target_is ds families has.item.of are ∙ same ∙ sym (side_is name base items (sym is))))
  wrong_at (node nonterminal name) is wrong = of_target i nonterminal name (sym (target_is ds families name are) ∙ wrong)
  wrong_at (build label e) is wrong = absurd wrong

  right_at : (Wrong d.said → ⊥) → (said : AstSaying) → said ≡ d.said → IsOfWrongSide ds i said → ⊥
  right_at right _ is (a_map _ name base items item among map_there) =
      right (subst (λ said. Wrong said) is (record { item = item; among = among; wrong = inl map_there }))
  right_at right _ is (of_other_side _ name base items item among no_word differs) =
      right (subst (λ said. Wrong said) is (record {
        item = item;
        among = among;
        wrong = inr (no_word, λ same. differs (sym (target_is ds families item.of are) ∙ same ∙ side_is name base items (sym is)));
      }))
  right_at right _ is (of_target _ nonterminal name there) =
      right (subst (λ said. Wrong said) is (target_is ds families name are ∙ there))

  pub step_side : (next : ℕ) → next ≡ types + types_said d.said → (Wrong d.said → ⊥) → SidesSoFar ds (i + 1) next
  step_side next next_is right = record {
    types_are = next_is ∙ ap (λ n. n + types_said d.said) so.types_are ∙ sym (next_type_count ds i d at);
    few = let a = so.few in let b = one_type d.said in omega (arith, a, b, next_is);
    none = none_more ds (IsOfWrongSide ds) i d so.none at (right_at right d.said refl);
  }

  pub found_side : Wrong d.said → Grow ds → Least (HasAt ds (IsOfWrongSide ds)) d.number
  found_side wrong grow = first_here ds (IsOfWrongSide ds) i d grow so.none at (wrong_at d.said refl wrong)
