-- The passes joined: each fault of kind twice.
use Rattle.std.proofs.Common.{◌≡◌, ℕ, inl, inr, List, [], ◌∷◌, take, refl, sym, ap, ◌∙◌, subst, Option, Some, None, Contains, MatchOption}
use Rattle.ck_base.specs.Numbered.{AreApart}
use Rattle.ck_base.specs.declared.fault.Kind.TheVariants.{Twice}
use Rattle.cfg_model.specs.declared.named.NamedGrammar.{NamedGrammar}
use Rattle.section_frame.specs.Declares.{Declared}
use Rattle.node_spec.specs.AstShapes.{AstSaying, family, target, a_type, node, build}
use Rattle.node_spec.specs.AstFaults.{AstFault, named_again, second_node, second_build, reserved_name, reserved_item, item_twice, used_twice, DeclaresName, of_family, of_target, of_type, label_then, labels_in, name_then, names_in, node_then, nodes_in}
use Rattle.node_spec.specs.declared.declared_again.Sort.TheVariants as sort
use Rattle.node_spec.specs.within.AstSteps.{FirstWith, Either, earlier_of}
use Rattle.node_spec.specs.within.AstTwice.{IsAgain, name_before, name_said, names_said, IsReserved, of_name, of_item, HasItemTwice, item_again, UsesTwice, of_rule}
use Rattle.node_spec.proofs.FirstLines.{first_as, first_of_two}

-- names of the three sorts
same_names : (said : AstSaying) (more : List (List ℕ)) → name_before (name_said sort.Declared said) more ≡ name_then said more
same_names (family name) more = refl
same_names (target name) more = refl
same_names (a_type name base items) more = refl
same_names (node nonterminal name) more = refl
same_names (build label e) more = refl

same_nodes : (said : AstSaying) (more : List (List ℕ)) → name_before (name_said sort.Nonterminal said) more ≡ node_then said more
same_nodes (family name) more = refl
same_nodes (target name) more = refl
same_nodes (a_type name base items) more = refl
same_nodes (node nonterminal name) more = refl
same_nodes (build label e) more = refl

same_labels : (said : AstSaying) (more : List (List ℕ)) → name_before (name_said sort.Label said) more ≡ label_then said more
same_labels (family name) more = refl
same_labels (target name) more = refl
same_labels (a_type name base items) more = refl
same_labels (node nonterminal name) more = refl
same_labels (build label e) more = refl

pub names_are : (ds : List (Declared AstSaying)) → names_said sort.Declared ds ≡ names_in ds
names_are [] = refl
names_are (d ∷ ds) = same_names d.said (names_said sort.Declared ds) ∙ ap (name_then d.said) (names_are ds)

nodes_are : (ds : List (Declared AstSaying)) → names_said sort.Nonterminal ds ≡ nodes_in ds
nodes_are [] = refl
nodes_are (d ∷ ds) = same_nodes d.said (names_said sort.Nonterminal ds) ∙ ap (node_then d.said) (nodes_are ds)

labels_are : (ds : List (Declared AstSaying)) → names_said sort.Label ds ≡ labels_in ds
labels_are [] = refl
labels_are (d ∷ ds) = same_labels d.said (names_said sort.Label ds) ∙ ap (label_then d.said) (labels_are ds)

declares : (said : AstSaying) (name : List ℕ) → name_said sort.Declared said ≡ Some name → DeclaresName said name
declares (family n) name is = let e : n ≡ name = cc in subst (DeclaresName (family n)) e (of_family n)
declares (target n) name is = let e : n ≡ name = cc in subst (DeclaresName (target n)) e (of_target n)
declares (a_type n base items) name is =
    let e : n ≡ name = cc in subst (DeclaresName (a_type n base items)) e (of_type n base items)
declares (node nonterminal n) name is = cc
declares (build label e) name is = cc

name_of_it : (said : AstSaying) (name : List ℕ) → DeclaresName said name → name_said sort.Declared said ≡ Some name
name_of_it _ name (of_family _) = refl
name_of_it _ name (of_target _) = refl
name_of_it _ name (of_type _ base items) = refl

-- the faults that the passes look for are those of kind twice
module _ (g : NamedGrammar) (ds : List (Declared AstSaying)) where
  abbrev pub Again : ℕ → AstSaying → Type 0
  Again = Either (IsAgain sort.Declared ds) (Either (IsAgain sort.Nonterminal ds) (IsAgain sort.Label ds))

  abbrev pub Other : ℕ → AstSaying → Type 0
  Other = Either IsReserved (Either (HasItemTwice ds) (UsesTwice g))

  of_again : (i : ℕ) (said : AstSaying) → Again i said → AstFault g ds Twice i said
  of_again i said (inl f) =
      named_again i said f.name (declares said f.name f.is)
      (subst (λ l. Contains l f.name) (names_are (take i ds)) f.before)
  of_again i said (inr (inl f)) = by said f.name f.is (subst (λ l. Contains l f.name) (nodes_are (take i ds)) f.before)
    where
      by : (said : AstSaying) (name : List ℕ) → name_said sort.Nonterminal said ≡ Some name
          → Contains (nodes_in (take i ds)) name → AstFault g ds Twice i said
      by (node n of) name is there =
          second_node i n of (subst (Contains (nodes_in (take i ds))) (let e : name ≡ n = cc in e) there)
      by (family n) name is there = cc
      by (target n) name is there = cc
      by (a_type n base items) name is there = cc
      by (build label e) name is there = cc
  of_again i said (inr (inr f)) = by said f.name f.is (subst (λ l. Contains l f.name) (labels_are (take i ds)) f.before)
    where
      by : (said : AstSaying) (name : List ℕ) → name_said sort.Label said ≡ Some name
          → Contains (labels_in (take i ds)) name → AstFault g ds Twice i said
      by (build label e) name is there =
          second_build i label e (subst (Contains (labels_in (take i ds))) (let same : name ≡ label = cc in same) there)
      by (node n of) name is there = cc
      by (family n) name is there = cc
      by (target n) name is there = cc
      by (a_type n base items) name is there = cc

  of_other : (i : ℕ) (said : AstSaying) → Other i said → AstFault g ds Twice i said
  of_other _ _ (inl (of_name i said name declares there)) = reserved_name i said name declares there
  of_other _ _ (inl (of_item i name base items has)) = reserved_item i name base items has.item has.among has.word
  of_other _ _ (inr (inl (item_again i name base items has))) = item_twice i name base items has.name has.twice
  of_other _ _ (inr (inr (of_rule i label e rule is used))) =
      used_twice i label e rule used.place used.nonterminal is used.at used.twice

  of_either : (i : ℕ) (said : AstSaying) → Either Again Other i said → AstFault g ds Twice i said
  of_either i said (inl f) = of_again i said f
  of_either i said (inr f) = of_other i said f

  each : (i : ℕ) (said : AstSaying) → AstFault g ds Twice i said → Either Again Other i said
  each _ _ (named_again i said name declares there) = inl (inl (record {
    name = name;
    is = name_of_it said name declares;
    before = subst (λ l. Contains l name) (sym (names_are (take i ds))) there;
  }))
  each _ _ (second_node i nonterminal name there) = inl (inr (inl (record {
    name = nonterminal;
    is = refl;
    before = subst (λ l. Contains l nonterminal) (sym (nodes_are (take i ds))) there;
  })))
  each _ _ (second_build i label e there) = inl (inr (inr (record {
    name = label;
    is = refl;
    before = subst (λ l. Contains l label) (sym (labels_are (take i ds))) there;
  })))
  each _ _ (reserved_name i said name declares there) = inr (inl (of_name i said name declares there))
  each _ _ (reserved_item i name base items item among there) =
      inr (inl (of_item i name base items (record { item = item; among = among; word = there })))
  each _ _ (item_twice i name base items item twice) =
      inr (inr (inl (item_again i name base items (record { name = item; twice = twice }))))
  each _ _ (used_twice i label e rule k n is at twice) =
      inr (inr (inr (of_rule i label e rule is (record { place = k; nonterminal = n; at = at; twice = twice }))))

  -- the six passes together
  module _ (declared nonterminals labels reserved items used : Option ℕ)
      (a : FirstWith ds (IsAgain sort.Declared ds) declared)
      (b : FirstWith ds (IsAgain sort.Nonterminal ds) nonterminals)
      (c : FirstWith ds (IsAgain sort.Label ds) labels)
      (d : FirstWith ds IsReserved reserved)
      (e : FirstWith ds (HasItemTwice ds) items)
      (f : FirstWith ds (UsesTwice g) used) where
    pub first_of_all : (found : Option ℕ)
        → found ≡ earlier_of (earlier_of declared (earlier_of nonterminals labels)) (earlier_of reserved (earlier_of items used))
        → FirstWith ds (AstFault g ds Twice) found
    first_of_all found is = subst (FirstWith ds (AstFault g ds Twice)) (sym is)
        (first_as ds (Either Again Other) (AstFault g ds Twice) of_either each _
        (first_of_two ds Again Other (earlier_of declared (earlier_of nonterminals labels))
        (earlier_of reserved (earlier_of items used))
        (first_of_two ds (IsAgain sort.Declared ds) (Either (IsAgain sort.Nonterminal ds) (IsAgain sort.Label ds)) declared
        (earlier_of nonterminals labels) a
        (first_of_two ds (IsAgain sort.Nonterminal ds) (IsAgain sort.Label ds) nonterminals labels b c))
        (first_of_two ds IsReserved (Either (HasItemTwice ds) (UsesTwice g)) reserved (earlier_of items used) d
        (first_of_two ds (HasItemTwice ds) (UsesTwice g) items used e f))))

-- where there is no earlier of two lines, there is none of both
pub neither : (a b : Option ℕ) → earlier_of a b ≡ None → (a ≡ None) × (b ≡ None)
neither None b is = (refl, is)
neither (Some n) None is = cc
neither (Some n) (Some m) is = cc

pub none_apart : (ds : List (Declared AstSaying)) (found declared nonterminals labels others : Option ℕ)
    → found ≡ earlier_of (earlier_of declared (earlier_of nonterminals labels)) others
    → MatchOption declared (AreApart (names_said sort.Declared ds)) (λ line. line ≡ line)
    → MatchOption found (AreApart (names_in ds)) (λ line. line ≡ line)
none_apart ds (Some n) declared nonterminals labels others is apart = refl
none_apart ds None declared nonterminals labels others is apart =
    let first = (neither (earlier_of declared (earlier_of nonterminals labels)) others (sym is)).0 in
    let none = (neither declared (earlier_of nonterminals labels) first).0 in
    subst AreApart (names_are ds) (by declared none apart)
  where
    by : (o : Option ℕ) → o ≡ None → MatchOption o (AreApart (names_said sort.Declared ds)) (λ line. line ≡ line)
        → AreApart (names_said sort.Declared ds)
    by None none apart = apart
    by (Some n) none apart = cc

-- the same for the labels of BUILD lines
pub none_labelled : (ds : List (Declared AstSaying)) (found declared nonterminals labels others : Option ℕ)
    → found ≡ earlier_of (earlier_of declared (earlier_of nonterminals labels)) others
    → MatchOption labels (AreApart (names_said sort.Label ds)) (λ line. line ≡ line)
    → MatchOption found (AreApart (labels_in ds)) (λ line. line ≡ line)
none_labelled ds (Some n) declared nonterminals labels others is apart = refl
none_labelled ds None declared nonterminals labels others is apart =
    let first = (neither (earlier_of declared (earlier_of nonterminals labels)) others (sym is)).0 in
    let both = (neither declared (earlier_of nonterminals labels) first).1 in
    let none = (neither nonterminals labels both).1 in
    subst AreApart (labels_are ds) (by labels none apart)
  where
    by : (o : Option ℕ) → o ≡ None → MatchOption o (AreApart (names_said sort.Label ds)) (λ line. line ≡ line)
        → AreApart (names_said sort.Label ds)
    by None none apart = apart
    by (Some n) none apart = cc
