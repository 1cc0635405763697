-- A made node laid out over its children, which are the last ones that are done.
use Rattle.std.proofs.Common.{◌≡◌, ℕ, ◌+◌, ◌-◌, ◌<◌, ◌≤◌, List, [], ◌∷◌, ◌++◌, length, map, take, drop, set, get_or, Some, refl, sym, ap, ap₂, ◌∙◌, subst, arith, zero, suc, ◌⊎◌, inl, inr, length-append}
use Rattle.std.specs.Prelude.{slice_get}
use Rattle.std.proofs.lemmas.List.{take-append-drop, length-map, take_all, length-drop}
use Rattle.value_store.proofs.CellsStay.{slice_get-more, slice_get-end, slice_get-pushed}
use Rattle.value_store.specs.Cells.{Cell, tree_at, IsMade}
use Rattle.value_store.specs.MadeTrees.{MadeTree, MadeTrees, made, no_trees, and_trees, type_of, children_of, fields_of}
use Rattle.value_store.specs.declared.value.Value.{Value}
use Rattle.value_store.specs.declared.value.ValType.{ValType}
use Rattle.ast_types.specs.Items.{child_families, field_types}
use Rattle.ast_types.specs.TypeTable.{TypeTable, type_at}
use Rattle.tree_store.specs.Conforms.{IsOfKind, Fits, Conforms}
use Rattle.tree_store.specs.Forest.{Node, node_at, children_at, IsChild, IsForest, AreRoots, Under, here, below}
use Rattle.tree_store.proofs.NodeAdded.{nat_lt_tells, child_of_more, child_kept, child_new}
use Rattle.tree_store.specs.Fitting.{as_field, FieldsFit, no_field_fits, and_field_fits, TreeFits, TreesFit, no_tree_fits, and_tree_fits}
use Rattle.ast_types.specs.FitTypes.{AreTypes}
use Rattle.ast_types.proofs.FitItems.{fit_items}
use Rattle.tree_build.specs.within.Laying.{joined, trees_count, Stand, none_stand, and_stands, Due, to_make, UnderOne, AreNodesOf, Laying}
use Rattle.tree_build.specs.declared.laying.Task.{Task}
use Rattle.tree_build.specs.declared.laying.Task.TheVariants as task
use Rattle.tree_build.proofs.Visiting.{parts_of, as_many_trees}
use Rattle.tree_build.proofs.NodesNumbered.{nodes_of_more}

-- numbers behind others
behind : (a b : List ℕ) (i j c : ℕ) → j ≡ length a + i → slice_get b i ≡ Some c → slice_get (a ++ b) j ≡ Some c
behind [] b i j c e is = (let same : i ≡ j = omega (arith, e) in subst (λ k. slice_get b k ≡ Some c) same is)
behind (x ∷ a) b i zero c e is = absurd (omega (arith, e))
behind (x ∷ a) b i (suc j) c e is = behind a b i j c (omega (arith, e)) is

record IsBehind (a b : List ℕ) (j c : ℕ) : Type 0 where
  pub place : ℕ
  pub there : j ≡ length a + place
  pub is : slice_get b place ≡ Some c

front_or_behind : (a b : List ℕ) (j c : ℕ) → slice_get (a ++ b) j ≡ Some c → (slice_get a j ≡ Some c) ⊎ IsBehind a b j c
front_or_behind [] b j c is = inr (record { place = j; there = omega arith; is = is })
front_or_behind (x ∷ a) b zero c is = inl is
front_or_behind (x ∷ a) b (suc j) c is = elim (front_or_behind a b j c is) [
  | inl e ↦ inl e
  | inr e ↦ inr (let at = e.there in record { place = e.place; there = omega (arith, at); is = e.is })
]

within_of : (a : List ℕ) (j c : ℕ) → slice_get a j ≡ Some c → j < length a
within_of [] j c is = (cc)
within_of (x ∷ a) zero c is = omega arith
within_of (x ∷ a) (suc j) c is = (let e = within_of a j c is in omega (arith, e))

-- one node more over the last roots
pub forest_more : (nodes : List Node) (x : Node) (a : List ℕ) → IsForest nodes → AreRoots nodes (a ++ x.children) → IsForest (nodes ++ x ∷ [])
forest_more nodes x a forest roots = record {
  before = λ p i c child. elim (child_of_more nodes x p i c child) [
    | inl old ↦ forest.before p i c old.1
    | inr new ↦ (let within = roots.within (length a + i) c (behind a x.children i (length a + i) c refl new.1) in let at = new.0 in omega (arith, within, at))
  ];
  one_place = λ p i q j c one two. elim (child_of_more nodes x p i c one) [
    | inl o1 ↦ elim (child_of_more nodes x q j c two) [
      | inl o2 ↦ forest.one_place p i q j c o1.1 o2.1
      | inr n2 ↦ absurd (roots.no_child (length a + j) c (behind a x.children j (length a + j) c refl n2.1) p i o1.1)
    ]
    | inr n1 ↦ elim (child_of_more nodes x q j c two) [
      | inl o2 ↦ absurd (roots.no_child (length a + i) c (behind a x.children i (length a + i) c refl n1.1) q j o2.1)
      | inr n2 ↦ (n1.0 ∙ sym n2.0, (let e = roots.differ (length a + i) (length a + j) c (behind a x.children i (length a + i) c refl n1.1) (behind a x.children j (length a + j) c refl n2.1) in omega (arith, e)))
    ]
  ];
}

no_child_still : (nodes : List Node) (x : Node) (a : List ℕ) → AreRoots nodes (a ++ x.children) → (k c : ℕ) → slice_get a k ≡ Some c
    → (p i : ℕ) → IsChild (nodes ++ x ∷ []) p i c → ⊥
no_child_still nodes x a roots k c at p i child =
    let front = slice_get-more a x.children k c at in
    elim (child_of_more nodes x p i c child) [
      | inl old ↦ roots.no_child k c front p i old.1
      | inr new ↦ (let e = roots.differ k (length a + i) c front (behind a x.children i (length a + i) c refl new.1) in let low = within_of a k c at in omega (arith, e, low))
    ]

new_no_child : (nodes : List Node) (x : Node) (a : List ℕ) → IsForest nodes → AreRoots nodes (a ++ x.children) → (p i c : ℕ) → c ≡ length nodes → IsChild (nodes ++ x ∷ []) p i c → ⊥
new_no_child nodes x a forest roots p i c e child = elim (child_of_more nodes x p i c child) [
  | inl old ↦ (let low = forest.before p i c old.1 in let high = old.0 in omega (arith, e, low, high))
  | inr new ↦ (let low = roots.within (length a + i) c (behind a x.children i (length a + i) c refl new.1) in omega (arith, e, low))
]

pub roots_more : (nodes : List Node) (x : Node) (a : List ℕ) → IsForest nodes → AreRoots nodes (a ++ x.children) → AreRoots (nodes ++ x ∷ []) (a ++ length nodes ∷ [])
roots_more nodes x a forest roots = record {
  within = λ k c at. elim (slice_get-pushed a (length nodes) k c at) [
    | inl new ↦ (let e = new.1 in omega (arith, e, length-append nodes (x ∷ [])))
    | inr old ↦ (let low = roots.within k c (slice_get-more a x.children k c old) in omega (arith, low, length-append nodes (x ∷ [])))
  ];
  no_child = λ k c at. elim (slice_get-pushed a (length nodes) k c at) [
    | inl new ↦ (λ p i child. new_no_child nodes x a forest roots p i c new.1 child)
    | inr old ↦ (λ p i child. no_child_still nodes x a roots k c old p i child)
  ];
  differ = λ j k c one two. elim (slice_get-pushed a (length nodes) j c one) [
    | inl n1 ↦ elim (slice_get-pushed a (length nodes) k c two) [
      | inl n2 ↦ n1.0 ∙ sym n2.0
      | inr o2 ↦ (let low = roots.within k c (slice_get-more a x.children k c o2) in let e = n1.1 in absurd (omega (arith, low, e)))
    ]
    | inr o1 ↦ elim (slice_get-pushed a (length nodes) k c two) [
      | inl n2 ↦ (let low = roots.within j c (slice_get-more a x.children j c o1) in let e = n2.1 in absurd (omega (arith, low, e)))
      | inr o2 ↦ roots.differ j k c (slice_get-more a x.children j c o1) (slice_get-more a x.children k c o2)
    ]
  ];
}

under_kept : (nodes : List Node) (x : Node) (root n : ℕ) → Under nodes root n → Under (nodes ++ x ∷ []) root n
under_kept nodes x root _ (here n is) = here n is
under_kept nodes x root _ (below p i c up child) = below p i c (under_kept nodes x root p up) (child_kept nodes x p i c child)

under_over : (nodes : List Node) (top root n : ℕ) → Under nodes top root → Under nodes root n → Under nodes top n
under_over nodes top root _ over (here n is) = subst (λ m. Under nodes top m) (sym is) over
under_over nodes top root _ over (below p i c up child) = below p i c (under_over nodes top root p over up) child

pub under_more : (nodes : List Node) (x : Node) (a : List ℕ) → ((n : ℕ) → n < length nodes → UnderOne nodes (a ++ x.children) n)
    → (n : ℕ) → n < length (nodes ++ x ∷ []) → UnderOne (nodes ++ x ∷ []) (a ++ length nodes ∷ []) n
under_more nodes x a all n within = elim (nat_lt_tells n (length nodes)) [
  | inl low ↦ old (all n low.1)
  | inr high ↦ (let bound = high.1 in record { place = length a; root = length nodes; is = slice_get-end a (length nodes); under = here n (omega (arith, within, bound, length-append nodes (x ∷ []))) })
]
  where
    old : UnderOne nodes (a ++ x.children) n → UnderOne (nodes ++ x ∷ []) (a ++ length nodes ∷ []) n
    old one = elim (front_or_behind a x.children one.place one.root one.is) [
      | inl front ↦ record { place = one.place; root = one.root; is = slice_get-more a (length nodes ∷ []) one.place one.root front; under = under_kept nodes x one.root n one.under }
      | inr back ↦ record {
        place = length a;
        root = length nodes;
        is = slice_get-end a (length nodes);
        under = under_over (nodes ++ x ∷ []) (length nodes) one.root n
            (below (length nodes) back.place one.root (here (length nodes) refl) (child_new nodes x (length nodes) back.place one.root refl back.is))
            (under_kept nodes x one.root n one.under);
      }
    ]

-- nodes of before, and the new one
node_kept : (nodes : List Node) (x : Node) (n : ℕ) → n < length nodes → node_at (nodes ++ x ∷ []) n ≡ node_at nodes n
node_kept [] x n within = absurd (omega (arith, within))
node_kept (m ∷ nodes) x zero within = refl
node_kept (m ∷ nodes) x (suc n) within = node_kept nodes x n (omega (arith, within))

node_new : (nodes : List Node) (x : Node) → node_at (nodes ++ x ∷ []) (length nodes) ≡ x
node_new [] x = refl
node_new (m ∷ nodes) x = node_new nodes x

stand_kept : (nodes : List Node) (x : Node) (ns : List ℕ) (ts : MadeTrees) → Stand nodes ns ts → Stand (nodes ++ x ∷ []) ns ts
stand_kept nodes x _ _ none_stand = none_stand
stand_kept nodes x _ _ (and_stands n ns ty children ts fields within is kids are more) =
    let same = node_kept nodes x n within in
    and_stands n ns ty children ts fields (omega (arith, within, length-append nodes (x ∷ []))) (ap (λ m. m.ty) same ∙ is)
    (subst (λ cs. Stand (nodes ++ x ∷ []) cs children) (sym (ap (λ m. m.children) same)) (stand_kept nodes x (children_at nodes n) children kids))
    (ap (λ m. m.fields) same ∙ are) (stand_kept nodes x ns ts more)

node_stands : (nodes : List Node) (x : Node) (t : MadeTree) → x.ty ≡ type_of t → Stand nodes x.children (children_of t) → x.fields ≡ map as_field (fields_of t)
    → Stand (nodes ++ x ∷ []) (length nodes ∷ []) (and_trees t no_trees)
node_stands nodes x (made ty children fields) is kids are =
    let same = node_new nodes x in
    and_stands (length nodes) [] ty children no_trees fields (omega (arith, length-append nodes (x ∷ []))) (ap (λ m. m.ty) same ∙ is)
    (subst (λ cs. Stand (nodes ++ x ∷ []) cs children) (sym (ap (λ m. m.children) same)) (stand_kept nodes x x.children children kids))
    (ap (λ m. m.fields) same ∙ are) none_stand

stand_joined : (nodes : List Node) (ns ms : List ℕ) (ts us : MadeTrees) → Stand nodes ns ts → Stand nodes ms us → Stand nodes (ns ++ ms) (joined ts us)
stand_joined nodes _ ms _ us none_stand more = more
stand_joined nodes _ ms _ us (and_stands n ns ty children ts fields within is kids are rest) more =
    and_stands n (ns ++ ms) ty children (joined ts us) fields within is kids are (stand_joined nodes ns ms ts us rest more)

-- the last ones that are done stand for the last trees
pub record Cut (nodes : List Node) (done : List ℕ) (ts us : MadeTrees) : Type 0 where
  pub front : Stand nodes (take (trees_count ts) done) ts
  pub back : Stand nodes (drop (trees_count ts) done) us

pub cut : (nodes : List Node) (done : List ℕ) (ts us : MadeTrees) → Stand nodes done (joined ts us) → Cut nodes done ts us
cut nodes done no_trees us stand = record { front = subst (λ ns. Stand nodes ns no_trees) (sym (none_taken done)) none_stand; back = subst (λ ns. Stand nodes ns us) (sym (none_dropped done)) stand }
  where
    none_taken : (xs : List ℕ) → take 0 xs ≡ []
    none_taken [] = refl
    none_taken (x ∷ xs) = refl

    none_dropped : (xs : List ℕ) → drop 0 xs ≡ xs
    none_dropped [] = refl
    none_dropped (x ∷ xs) = refl
cut nodes _ (and_trees _ ts) us (and_stands n ns ty children _ fields within is kids are rest) =
    let more = cut nodes ns ts us rest in
    record { front = and_stands n (take (trees_count ts) ns) ty children ts fields within is kids are more.front; back = more.back }

pub as_many_stand : (nodes : List Node) (ns : List ℕ) (ts : MadeTrees) → Stand nodes ns ts → length ns ≡ trees_count ts
as_many_stand nodes _ _ none_stand = refl
as_many_stand nodes _ _ (and_stands n ns ty children ts fields within is kids are rest) = (let e = as_many_stand nodes ns ts rest in omega (arith, e))

pub count_joined : (ts us : MadeTrees) → trees_count (joined ts us) ≡ trees_count ts + trees_count us
count_joined no_trees us = omega arith
count_joined (and_trees t ts) us = (let e = count_joined ts us in omega (arith, e))

-- what is laid out fits
families_fit : (table : TypeTable) (nodes : List Node) (ns : List ℕ) (ts : MadeTrees) (fs : List ℕ) → Stand nodes ns ts → TreesFit table ts fs
    → (k c f : ℕ) → slice_get ns k ≡ Some c → slice_get fs k ≡ Some f → (type_at table.types (node_at nodes c).ty).family ≡ f
families_fit table nodes _ _ _ none_stand no_tree_fits k c f at item = (cc)
families_fit table nodes _ _ _ (and_stands n ns ty children ts fields within is kids are rest) (and_tree_fits _ _ g gs of fit more) zero c f at item =
    let same : n ≡ c = cc in
    let kind : g ≡ f = cc in
    subst (λ m. (type_at table.types (node_at nodes m).ty).family ≡ f) same (ap (λ k. (type_at table.types k).family) is ∙ of ∙ kind)
families_fit table nodes _ _ _ (and_stands n ns ty children ts fields within is kids are rest) (and_tree_fits _ _ g gs of fit more) (suc k) c f at item =
    families_fit table nodes ns ts gs rest more k c f at item

pub as_many_fields : (vs : List Value) (kinds : List ValType) → FieldsFit vs kinds → length vs ≡ length kinds
as_many_fields _ _ no_field_fits = refl
as_many_fields _ _ (and_field_fits v vs kind kinds is more) = (let e = as_many_fields vs kinds more in omega (arith, e))

kinds_fit : (vs : List Value) (kinds : List ValType) → FieldsFit vs kinds → (k : ℕ) (v : Value) (kind : ValType) → slice_get (map as_field vs) k ≡ Some v → slice_get kinds k ≡ Some kind → IsOfKind v kind
kinds_fit _ _ no_field_fits k v kind at item = (cc)
kinds_fit _ _ (and_field_fits w vs wanted kinds is more) zero v kind at item =
    let same : as_field w ≡ v = cc in
    let of : wanted ≡ kind = cc in
    subst (λ x. IsOfKind v x) of (subst (λ x. IsOfKind x wanted) same is)
kinds_fit _ _ (and_field_fits w vs wanted kinds is more) (suc k) v kind at item = kinds_fit vs kinds more k v kind at item

-- what a node is made of, before it is added
pub record Ready (cells : List Cell) (table : TypeTable) (c : ℕ) (done : List ℕ) (nodes : List Node) (front : ℕ) : Type 0 where
  pub stands : IsMade cells c
  pub fits : TreeFits table (tree_at cells c)
  pub long : length done ≡ front + trees_count (children_of (tree_at cells c))
  pub kids : Stand nodes (drop front done) (children_of (tree_at cells c))

record Making (cells : List Cell) (table : TypeTable) (whole : MadeTree) (c : ℕ) (tasks : List Task) (trees : MadeTrees) : Type 0 where
  pub stands : IsMade cells c
  pub fits : TreeFits table (tree_at cells c)
  pub below : MadeTrees
  pub are : trees ≡ joined below (children_of (tree_at cells c))
  pub rest : Due cells table whole tasks (joined below (and_trees (tree_at cells c) no_trees))

making : (cells : List Cell) (table : TypeTable) (whole : MadeTree) (c : ℕ) (tasks : List Task) (trees : MadeTrees) → Due cells table whole (task.Make c ∷ tasks) trees → Making cells table whole c tasks trees
making cells table whole _ _ _ (to_make c tasks trees under is_made fit e rest) = record { stands = is_made; fits = fit; below = under; are = e; rest = rest }

pub ready : (cells : List Cell) (table : TypeTable) (whole : MadeTree) (c : ℕ) (tasks : List Task) (done : List ℕ) (nodes : List Node) (front : ℕ) → Laying cells table whole (task.Make c ∷ tasks) done nodes
    → front ≡ length done - trees_count (children_of (tree_at cells c)) → Ready cells table c done nodes front
ready cells table whole c tasks done nodes front laying e =
    let m = making cells table whole c tasks laying.trees laying.due in
    let stand = subst (Stand nodes done) m.are laying.stand in
    let long = as_many_stand nodes done _ stand in
    let count = count_joined m.below (children_of (tree_at cells c)) in
    let at : trees_count m.below ≡ front = omega (arith, e, long, count) in
    let parts = cut nodes done m.below (children_of (tree_at cells c)) stand in
    record { stands = m.stands; fits = m.fits; long = omega (arith, e, long, count); kids = subst (λ k. Stand nodes (drop k done) (children_of (tree_at cells c))) at parts.back }

pub fits_here : (cells : List Cell) (table : TypeTable) (c : ℕ) (done : List ℕ) (nodes : List Node) (front kind : ℕ) (kids : List ℕ) (fields : List Value) → Ready cells table c done nodes front
    → kind ≡ type_of (tree_at cells c) → kids ≡ drop front done → fields ≡ map as_field (fields_of (tree_at cells c)) → Fits table nodes kind kids fields
fits_here cells table c done nodes front kind kids fields r e are is =
    let parts = parts_of table (tree_at cells c) r.fits in
    let stand = subst (λ ns. Stand nodes ns (children_of (tree_at cells c))) (sym are) r.kids in
    subst (λ k. Fits table nodes k kids fields) (sym e) (record {
      type_there = parts.there;
      as_many_children = as_many_stand nodes kids _ stand ∙ as_many_trees table _ _ parts.children;
      of_families = families_fit table nodes kids _ _ stand parts.children;
      as_many_fields = ap (λ vs. length vs) is ∙ (length-map (fields_of (tree_at cells c)) as_field ∙ as_many_fields _ _ parts.fields);
      of_kinds = λ k v kind at item. kinds_fit _ _ parts.fields k v kind (ap (λ vs. slice_get vs k) (sym is) ∙ at) item;
    })

-- how many children and fields the next node has
pub record Counts (cells : List Cell) (table : TypeTable) (c : ℕ) (done : List ℕ) (kind : ℕ) : Type 0 where
  pub there : kind < length table.types
  pub fields : length (field_types (type_at table.types kind).items) ≡ length (fields_of (tree_at cells c))
  pub few_fields : length (fields_of (tree_at cells c)) ≤ 8
  pub children : length (child_families (type_at table.types kind).items) ≡ trees_count (children_of (tree_at cells c))
  pub few_children : trees_count (children_of (tree_at cells c)) ≤ 8
  pub enough : trees_count (children_of (tree_at cells c)) ≤ length done

pub counts : (cells : List Cell) (table : TypeTable) (whole : MadeTree) (c : ℕ) (tasks : List Task) (done : List ℕ) (nodes : List Node) (kind : ℕ) → AreTypes table
    → Laying cells table whole (task.Make c ∷ tasks) done nodes → kind ≡ type_of (tree_at cells c) → Counts cells table c done kind
counts cells table whole c tasks done nodes kind types laying e =
    let m = making cells table whole c tasks laying.trees laying.due in
    let parts = parts_of table (tree_at cells c) m.fits in
    let long = as_many_stand nodes done _ (subst (Stand nodes done) m.are laying.stand) in
    let count = count_joined m.below (children_of (tree_at cells c)) in
    let f = as_many_fields _ _ parts.fields in
    let t = as_many_trees table _ _ parts.children in
    let short = fit_items table (type_of (tree_at cells c)) types.items parts.there in
    subst (λ k. Counts cells table c done k) (sym e) (record {
      there = parts.there;
      fields = sym f;
      few_fields = (let low = short.few_fields in omega (arith, low, f));
      children = sym t;
      few_children = (let low = short.few_children in omega (arith, low, t));
      enough = omega (arith, long, count);
    })

-- the node was added
pub added : (cells : List Cell) (table : TypeTable) (whole : MadeTree) (c : ℕ) (tasks : List Task) (done : List ℕ) (nodes : List Node) (front : ℕ) (x : Node) (new : List Node) (now : List ℕ)
    → Laying cells table whole (task.Make c ∷ tasks) done nodes → front ≡ length done - trees_count (children_of (tree_at cells c))
    → x.ty ≡ type_of (tree_at cells c) → x.children ≡ drop front done → x.fields ≡ map as_field (fields_of (tree_at cells c))
    → new ≡ nodes ++ x ∷ [] → now ≡ take front done ++ length nodes ∷ [] → Conforms table new → Laying cells table whole tasks now new
added cells table whole c tasks done nodes front x new now laying e is kids are news nows conforms =
    let m = making cells table whole c tasks laying.trees laying.due in
    let stand = subst (Stand nodes done) m.are laying.stand in
    let long = as_many_stand nodes done _ stand in
    let count = count_joined m.below (children_of (tree_at cells c)) in
    let at : trees_count m.below ≡ front = omega (arith, e, long, count) in
    let parts = cut nodes done m.below (children_of (tree_at cells c)) stand in
    let before : Stand nodes (take front done) m.below = subst (λ k. Stand nodes (take k done) m.below) at parts.front in
    let under : Stand nodes x.children (children_of (tree_at cells c)) = subst (λ ns. Stand nodes ns (children_of (tree_at cells c))) (sym kids) (subst (λ k. Stand nodes (drop k done) (children_of (tree_at cells c))) at parts.back) in
    let whole_list : take front done ++ x.children ≡ done = ap (λ ns. take front done ++ ns) kids ∙ take-append-drop front done in
    let roots = subst (λ ns. AreRoots nodes ns) (sym whole_list) laying.roots in
    let all : (n : ℕ) → n < length nodes → UnderOne nodes (take front done ++ x.children) n = λ n within. subst (λ ns. UnderOne nodes ns n) (sym whole_list) (laying.under n within) in
    let result : Laying cells table whole tasks (take front done ++ length nodes ∷ []) (nodes ++ x ∷ []) = record {
      trees = joined m.below (and_trees (tree_at cells c) no_trees);
      due = m.rest;
      stand = stand_joined (nodes ++ x ∷ []) (take front done) (length nodes ∷ []) m.below (and_trees (tree_at cells c) no_trees) (stand_kept nodes x (take front done) m.below before)
          (node_stands nodes x (tree_at cells c) is under are);
      are = nodes_of_more m.below (tree_at cells c) done nodes front x (sym at) (subst (λ ts. AreNodesOf ts done nodes) m.are laying.are) is kids are;
      forest = forest_more nodes x (take front done) laying.forest roots;
      roots = roots_more nodes x (take front done) laying.forest roots;
      under = under_more nodes x (take front done) all;
      count = (let f = laying.count in omega (arith, f, length-append nodes (x ∷ [])));
      conforms = subst (Conforms table) news conforms;
    } in
    subst (λ ns. Laying cells table whole tasks ns new) (sym nows) (subst (λ ns. Laying cells table whole tasks (take front done ++ length nodes ∷ []) ns) (sym news) result)

-- the fields that were copied, and one more
none_at_all : {A : Type 0} (xs : List A) → take 0 xs ≡ []
none_at_all [] = refl
none_at_all (x ∷ xs) = refl

one_more_field : (into fields : List Value) (i : ℕ) (v w : Value) → i < length into → slice_get fields i ≡ Some v → w ≡ as_field v → take i into ≡ map as_field (take i fields)
    → take (suc i) (set into i w) ≡ map as_field (take (suc i) fields)
one_more_field [] fields i v w within at is so_far = absurd (omega (arith, within))
one_more_field (x ∷ into) [] i v w within at is so_far = (cc)
one_more_field (x ∷ into) (f ∷ fields) zero v w within at is so_far =
    let same : f ≡ v = cc in
    ap₂ (λ y ys. y ∷ ys) (is ∙ ap as_field (sym same)) (none_at_all into ∙ sym (ap (λ ys. map as_field ys) (none_at_all fields)))
one_more_field (x ∷ into) (f ∷ fields) (suc i) v w within at is so_far =
    let tails : take i into ≡ map as_field (take i fields) = ap (λ ys. drop 1 ys) so_far in
    let heads : x ≡ as_field f = ap (λ ys. get_or ys 0 x) so_far in
    ap₂ (λ y ys. y ∷ ys) heads (one_more_field into fields i v w (omega (arith, within)) at is tails)

pub fields_more : (into fields : List Value) (i : ℕ) (v w : Value) → i < length into → slice_get fields i ≡ Some v → w ≡ as_field v → take i into ≡ map as_field (take i fields)
    → take (i + 1) (set into i w) ≡ map as_field (take (i + 1) fields)
fields_more into fields i v w within at is so_far =
    let next : suc i ≡ i + 1 = omega arith in
    subst (λ k. take k (set into i w) ≡ map as_field (take k fields)) next (one_more_field into fields i v w within at is so_far)

-- the rest of a list, as a slice of it
pub rest_is : {A : Type 0} (xs done : List A) (front : ℕ) → xs ≡ done → take (length xs - front) (drop front xs) ≡ drop front done
rest_is xs done front e = take_all (length xs - front) (drop front xs) (let l = length-drop front xs in omega (arith, l)) ∙ ap (drop front) e
