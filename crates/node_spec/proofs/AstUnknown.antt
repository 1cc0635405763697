-- The passes over the lines for kind unknown, and the first of what they find.
use Rattle.std.proofs.Common.{◌≡◌, ℕ, ◌+◌, ◌<◌, ◌≤◌, ◌⊎◌, inl, inr, List, [], ◌∷◌, length, take, map, get_or, refl, sym, ap, subst, ◌∙◌, Option, Some, None, Contains, MatchOption, arith}
use Rattle.std.specs.List.{slice_get}
use Rattle.std.proofs.lemmas.List.{length-map}
use Rattle.ck_base.specs.Numbered.{met}
use Rattle.ck_base.specs.declared.fault.Kind.TheVariants.{Unknown}
use Rattle.cfg_model.specs.declared.named.NamedGrammar.{NamedGrammar}
use Rattle.section_frame.specs.Declares.{Declared, Grow, HasAt}
use Rattle.spec_text.specs.Least.{Least}
use Rattle.section_frame.proofs.Frame.{NoneBefore, none_at_first, none_more, first_here}
use Rattle.spec_text.proofs.Lists.{order, map_get, get_at}
use Rattle.spec_text.proofs.Parting.{contains_at}
use Rattle.node_spec.specs.AstShapes.{AstSaying, SaidItem, family, target, a_type, node, build}
use Rattle.node_spec.specs.AstTables.{families_in, family_names, family_then, type_names}
use Rattle.node_spec.specs.AstFaults.{AstFault, no_base, no_item_type, no_nonterminal, no_family, no_rule, no_maker, AstHeadFault, name_then, names_in}
use Rattle.node_spec.specs.declared.ast_line.ItemText.{ItemText}
use Rattle.node_spec.specs.within.AstSeen.{item_seen}
use Rattle.node_spec.specs.within.AstSteps.{FirstWith, HasIn, IsBefore, Either, earlier_of}
use Rattle.node_spec.specs.within.AstUnknown.{type_then, types_in, HasNoBase, IsUnknownType, HasUnknownItem, BaseFault, ItemFault, NodeFault, BuildFault}
use Rattle.node_spec.proofs.AstGathered.{MetSoFar, name_of, names_gather, none_met, met_more}
use Rattle.node_spec.proofs.AstFamilies.{families_within, types_within, types_named}
use Rattle.node_spec.proofs.AstUnknownLists.{at_first, at_later, first_or_later, met_has, met_had, contains_within}
use Rattle.node_spec.proofs.FirstLines.{first_as, first_of_two}

-- the bases of the first i lines
pub record BasesSoFar (ds : List (Declared AstSaying)) (i : ℕ) (known : List (List ℕ)) : Type 0 where
  pub gathered : MetSoFar names_in ds i known
  pub none : NoneBefore ds (BaseFault ds) i

pub no_bases_yet : (ds : List (Declared AstSaying)) (known : List (List ℕ)) → known ≡ [] → BasesSoFar ds 0 known
no_bases_yet ds known is = record {
  gathered = none_met names_in name_of names_gather ds known is;
  none = none_at_first ds (BaseFault ds);
}

other_names : (known names : List (List ℕ)) → ((name : List ℕ) → Contains names name → Contains known name)
    → (said : AstSaying) → HasNoBase known said → HasNoBase names said
other_names known names there (family name) has = has
other_names known names there (target name) has = has
other_names known names there (a_type name base items) has = λ among. has (there base among)
other_names known names there (node nonterminal name) has = has
other_names known names there (build label e) has = has

module _ (ds : List (Declared AstSaying)) (i : ℕ) (old : List (List ℕ)) (d : Declared AstSaying)
    (at : slice_get ds i ≡ Some d) (so : BasesSoFar ds i old) where
  pub base_found : Grow ds → HasNoBase old d.said → Least (HasAt ds (BaseFault ds)) d.number
  base_found grow has = first_here ds (BaseFault ds) i d grow so.none at
      (other_names old (names_in (take i ds)) there d.said has)
    where
      there : (name : List ℕ) → Contains (names_in (take i ds)) name → Contains old name
      there name among = subst (λ l. Contains l name) (sym so.gathered.are)
          (met_has [] (names_in (take i ds)) name among)

  pub base_more : (new : List (List ℕ)) → (HasNoBase old d.said → ⊥) → new ≡ met old (name_of d.said)
      → BasesSoFar ds (i + 1) new
  base_more new clean are = record {
    gathered = met_more names_in name_of names_gather ds i old new d at so.gathered are;
    none = none_more ds (BaseFault ds) i d so.none at
        (λ has. clean (other_names (names_in (take i ds)) old back d.said has));
  }
    where
      back : (name : List ℕ) → Contains old name → Contains (names_in (take i ds)) name
      back name among = met_had [] (names_in (take i ds)) name (subst (λ l. Contains l name) so.gathered.are among)

-- the items before the one of a number
abbrev pub ItemsBefore : List (List ℕ) → List SaidItem → ℕ → Type 0
ItemsBefore families items i =
    (j : ℕ) (item : SaidItem) → j < i → slice_get items j ≡ Some item → IsUnknownType families item.of → ⊥

pub item_here : (families : List (List ℕ)) (items : List SaidItem) (i : ℕ) (item : SaidItem)
    → slice_get items i ≡ Some item
    → IsUnknownType families item.of → HasUnknownItem families items
item_here families items i item at unknown =
    record { item = item; among = contains_at items i item at; unknown = unknown }

pub item_more : (families : List (List ℕ)) (items : List SaidItem) (i : ℕ) (item : SaidItem)
    → slice_get items i ≡ Some item
    → ItemsBefore families items i → (IsUnknownType families item.of → ⊥) → ItemsBefore families items (i + 1)
item_more families items i item at before known j other less at_j unknown = by (order j i)
  where
    by : (j < i) ⊎ ((i < j) ⊎ (j ≡ i)) → ⊥
    by (inl below) = before j other below at_j unknown
    by (inr (inl above)) = omega (arith, above, less)
    by (inr (inr same)) =
        let it : other ≡ item = (let a = rw same at at_j in let b = sym a ∙ at in cc) in known (rw it at unknown)

pub items_all : (families : List (List ℕ)) (items : List SaidItem) (i : ℕ) → length items ≤ i
    → ItemsBefore families items i
    → HasUnknownItem families items → ⊥
items_all families items i end before has =
    before has.among.0 has.item (let n = has.among.1 in omega (arith, n, end))
    (get_at items has.among.0 has.item has.among.1 ∙ ap (λ x. Some x) has.among.2) has.unknown

-- the item of the program at a place
pub item_at : (list : List ItemText) (i : ℕ) (p item : ItemText) → item ≡ get_or list i p → i < length list
    → slice_get (map item_seen list) i ≡ Some (item_seen item)
item_at list i p item is less = rw is (map_get item_seen list i (get_or list i p) (get_at list i p less))

pub items_end : (list : List ItemText) (i : ℕ) → length list ≤ i → length (map item_seen list) ≤ i
items_end list i end = omega (arith, end, length-map list item_seen)

-- a name is a family's or a type's
module _ (name : List ℕ) where
  pub names_split : (ds : List (Declared AstSaying)) → Contains (names_in ds) name
      → Contains (family_names ds) name ⊎ Contains (types_in ds) name
  names_split [] has = let less = has.1 in absurd (omega (arith, less))
  names_split (d ∷ ds) has = by d.said has (names_split ds)
    where
      of_family : (first : List ℕ) → (first ≡ name) ⊎ Contains (names_in ds) name
          → (Contains (names_in ds) name → Contains (family_names ds) name ⊎ Contains (types_in ds) name)
          → Contains (first ∷ family_names ds) name ⊎ Contains (types_in ds) name
      of_family first (inl same) later = inl (at_first first (family_names ds) name same)
      of_family first (inr there) later = in_later (later there)
        where
          in_later : Contains (family_names ds) name ⊎ Contains (types_in ds) name
              → Contains (first ∷ family_names ds) name ⊎ Contains (types_in ds) name
          in_later (inl there) = inl (at_later first (family_names ds) name there)
          in_later (inr there) = inr there

      of_type : (first : List ℕ) → (first ≡ name) ⊎ Contains (names_in ds) name
          → (Contains (names_in ds) name → Contains (family_names ds) name ⊎ Contains (types_in ds) name)
          → Contains (family_names ds) name ⊎ Contains (first ∷ types_in ds) name
      of_type first (inl same) later = inr (at_first first (types_in ds) name same)
      of_type first (inr there) later = in_later (later there)
        where
          in_later : Contains (family_names ds) name ⊎ Contains (types_in ds) name
              → Contains (family_names ds) name ⊎ Contains (first ∷ types_in ds) name
          in_later (inl there) = inl there
          in_later (inr there) = inr (at_later first (types_in ds) name there)

      by : (said : AstSaying) → Contains (name_then said (names_in ds)) name
          → (Contains (names_in ds) name → Contains (family_names ds) name ⊎ Contains (types_in ds) name)
          → Contains (map (λ f. f.name) (family_then said (families_in ds))) name
          ⊎ Contains (type_then said (types_in ds)) name
      by (family first) has later = of_family first (first_or_later first (names_in ds) name has) later
      by (target first) has later = of_family first (first_or_later first (names_in ds) name has) later
      by (a_type first base items) has later = of_type first (first_or_later first (names_in ds) name has) later
      by (node nonterminal first) has later = later has
      by (build label e) has later = later has

-- what the passes look for is what kind unknown is, and nothing else
module _ (g : NamedGrammar) (ds : List (Declared AstSaying)) (families types : List (List ℕ))
    (families_are : families ≡ family_names ds) (types_are : types ≡ type_names ds) where
  abbrev pub InTypes : ℕ → AstSaying → Type 0
  InTypes = Either (BaseFault ds) (ItemFault families)

  abbrev pub InUses : ℕ → AstSaying → Type 0
  InUses = Either (NodeFault g.nonterminals families) (BuildFault g.labels types)

  abbrev pub InAny : ℕ → AstSaying → Type 0
  InAny = Either InTypes InUses

  looked_for : (i : ℕ) (said : AstSaying) → AstFault g ds Unknown i said → InAny i said
  looked_for _ _ (no_base i name base items not_family not_type) =
      inl (inl (λ has. by (names_split base (take i ds) has)))
    where
      by : Contains (family_names (take i ds)) base ⊎ Contains (types_in (take i ds)) base → ⊥
      by (inl there) = not_family there
      by (inr there) = not_type (subst (λ l. Contains l base) (sym (types_named (take i ds))) there)
  looked_for _ _ (no_item_type i name base items item among not_word not_family) = inl (inr (record {
    item = item;
    among = among;
    unknown = record {
      no_word = not_word;
      no_family = λ has. not_family (subst (λ l. Contains l item.of) families_are has);
    };
  }))
  looked_for _ _ (no_nonterminal i nonterminal name absent) = inr (inl (inl absent))
  looked_for _ _ (no_family i nonterminal name absent) =
      inr (inl (inr (λ has. absent (subst (λ l. Contains l name) families_are has))))
  looked_for _ _ (no_rule i label e absent) = inr (inr (inl absent))
  looked_for _ _ (no_maker i label e unknown) = inr (inr (inr (rw types_are unknown)))

  is_fault : (i : ℕ) (said : AstSaying) → InAny i said → AstFault g ds Unknown i said
  is_fault i (family name) (inl (inl none)) = absurd none
  is_fault i (family name) (inl (inr none)) = absurd none
  is_fault i (family name) (inr (inl none)) = absurd none
  is_fault i (family name) (inr (inr none)) = absurd none
  is_fault i (target name) (inl (inl none)) = absurd none
  is_fault i (target name) (inl (inr none)) = absurd none
  is_fault i (target name) (inr (inl none)) = absurd none
  is_fault i (target name) (inr (inr none)) = absurd none
  is_fault i (a_type name base items) (inl (inl absent)) =
      no_base i name base items (λ has. absent
      (contains_within (family_names (take i ds)) (names_in (take i ds)) (families_within (take i ds)) base has))
      (λ has. absent (contains_within (types_in (take i ds)) (names_in (take i ds)) (types_within (take i ds)) base
      (subst (λ l. Contains l base) (types_named (take i ds)) has)))
  is_fault i (a_type name base items) (inl (inr has)) =
      no_item_type i name base items has.item has.among has.unknown.no_word
      (λ there. has.unknown.no_family (subst (λ l. Contains l has.item.of) (sym families_are) there))
  is_fault i (a_type name base items) (inr (inl none)) = absurd none
  is_fault i (a_type name base items) (inr (inr none)) = absurd none
  is_fault i (node nonterminal name) (inl (inl none)) = absurd none
  is_fault i (node nonterminal name) (inl (inr none)) = absurd none
  is_fault i (node nonterminal name) (inr (inl (inl absent))) = no_nonterminal i nonterminal name absent
  is_fault i (node nonterminal name) (inr (inl (inr absent))) =
      no_family i nonterminal name (λ has. absent (subst (λ l. Contains l name) (sym families_are) has))
  is_fault i (node nonterminal name) (inr (inr none)) = absurd none
  is_fault i (build label e) (inl (inl none)) = absurd none
  is_fault i (build label e) (inl (inr none)) = absurd none
  is_fault i (build label e) (inr (inl none)) = absurd none
  is_fault i (build label e) (inr (inr (inl absent))) = no_rule i label e absent
  is_fault i (build label e) (inr (inr (inr unknown))) = no_maker i label e (rw types_are at unknown)

  pub first_of_all : (base item in_nodes in_builds first second found : Option ℕ) → FirstWith ds (BaseFault ds) base
      → FirstWith ds (ItemFault families) item → FirstWith ds (NodeFault g.nonterminals families) in_nodes
      → FirstWith ds (BuildFault g.labels types) in_builds → first ≡ earlier_of base item
      → second ≡ earlier_of in_nodes in_builds → found ≡ earlier_of first second
      → FirstWith ds (AstFault g ds Unknown) found
  first_of_all base item in_nodes in_builds first second found of_base of_item of_node of_build first_is second_is is =
      subst (FirstWith ds (AstFault g ds Unknown))
      (sym (is ∙ ap (λ x. earlier_of x second) first_is ∙ ap (earlier_of (earlier_of base item)) second_is))
      (first_as ds InAny (AstFault g ds Unknown) is_fault looked_for
      (earlier_of (earlier_of base item) (earlier_of in_nodes in_builds))
      (first_of_two ds InTypes InUses (earlier_of base item) (earlier_of in_nodes in_builds)
      (first_of_two ds (BaseFault ds) (ItemFault families) base item of_base of_item)
      (first_of_two ds (NodeFault g.nonterminals families) (BuildFault g.labels types) in_nodes in_builds of_node of_build)))

-- the head stands before all lines
module _ (g : NamedGrammar) (head : ℕ) (ds : List (Declared AstSaying)) where
  pub at_head : IsBefore head ds → AstHeadFault g ds Unknown → Least (HasIn g head ds Unknown) head
  at_head before fault = record { is = inr (refl, fault); least = λ line has. by line has }
    where
      by : (line : ℕ) → HasIn g head ds Unknown line → head ≤ line
      by line (inl has) =
          let less = before has.place has.declared has.is in let number = has.number in omega (arith, less, number)
      by line (inr has) = let same = has.0 in omega (arith, same)

  pub not_at_head : (AstHeadFault g ds Unknown → ⊥) → (found : Option ℕ) → FirstWith ds (AstFault g ds Unknown) found
      → MatchOption found ((line : ℕ) → HasIn g head ds Unknown line → ⊥) (Least (HasIn g head ds Unknown))
  not_at_head no_head None none = λ line has. by line has
    where
      by : (line : ℕ) → HasIn g head ds Unknown line → ⊥
      by line (inl has) = none line has
      by line (inr has) = no_head has.1
  not_at_head no_head (Some n) first = record { is = inl first.is; least = λ line has. by line has }
    where
      by : (line : ℕ) → HasIn g head ds Unknown line → n ≤ line
      by line (inl has) = first.least line has
      by line (inr has) = absurd (no_head has.1)
