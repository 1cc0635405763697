-- Visits of the children of a made node: what they leave to do, and that it is less.
use Rattle.std.proofs.Common.{◌≡◌, ℕ, ◌+◌, ◌*◌, ◌-◌, ◌<◌, List, [], ◌∷◌, ◌++◌, length, map, reverse, Some, refl, sym, ap, ◌∙◌, subst, arith, zero, suc, IsSome}
use Rattle.std.proofs.lemmas.List.{reverse-append}
use Rattle.value_store.specs.Cells.{Cell, tree_at, trees_at, IsMade, AreMade}
use Rattle.value_store.specs.MadeTrees.{MadeTree, MadeTrees, made, no_trees, and_trees, type_of, children_of, fields_of, child_at, node_count, node_count_all}
use Rattle.ast_types.specs.Items.{child_families, field_types}
use Rattle.ast_types.specs.TypeTable.{TypeTable, type_at}
use Rattle.tree_store.specs.Forest.{Node}
use Rattle.tree_store.specs.Fitting.{FieldsFit, TreeFits, tree_fits, TreesFit, no_tree_fits, and_tree_fits}
use Rattle.tree_build.specs.within.Laying.{joined, trees_count, trees_from, Due, to_visit, to_make, load, to_come, Laying, Visits}
use Rattle.tree_build.specs.declared.laying.Task.{Task}
use Rattle.tree_build.specs.declared.laying.Task.TheVariants as task

pub trees_from-end : (ts : MadeTrees) (n : ℕ) → n ≡ trees_count ts → trees_from n ts ≡ no_trees
trees_from-end no_trees zero e = refl
trees_from-end no_trees (suc n) e = refl
trees_from-end (and_trees t ts) zero e = absurd (omega (arith, e))
trees_from-end (and_trees t ts) (suc n) e = trees_from-end ts n (omega (arith, e))

pub child_there : (ts : MadeTrees) (i : ℕ) → i < trees_count ts → IsSome (child_at ts i)
child_there no_trees i within = absurd (omega (arith, within))
child_there (and_trees t ts) zero within = refl
child_there (and_trees t ts) (suc i) within = child_there ts i (omega (arith, within))

from_child : (ts : MadeTrees) (i : ℕ) (t : MadeTree) → child_at ts i ≡ Some t → trees_from i ts ≡ and_trees t (trees_from (suc i) ts)
from_child no_trees i t is = (cc)
from_child (and_trees u ts) zero t is = (let same : u ≡ t = cc in ap (λ x. and_trees x ts) same)
from_child (and_trees u ts) (suc i) t is = from_child ts i t is

-- tasks that were pushed stand in front
pub pushed : (xs ys : List Task) (t : Task) → ys ≡ xs ++ t ∷ [] → reverse ys ≡ t ∷ reverse xs
pushed xs ys t e = ap (λ zs. reverse zs) e ∙ reverse-append xs (t ∷ [])

pub visits_none : (cells : List Cell) (trees : MadeTrees) (n : ℕ) (tasks : List Task) → n ≡ trees_count trees → Visits cells (trees_from n trees) tasks tasks
visits_none cells trees n tasks e = record { children = []; are = tt; trees_are = sym (trees_from-end trees n e); in_front = refl }

pub visits_more : (cells : List Cell) (trees : MadeTrees) (i c : ℕ) (old xs ys : List _) → 0 < i → IsMade cells c → child_at trees (i - 1) ≡ Some (tree_at cells c)
    → ys ≡ xs ++ task.Visit c ∷ [] → Visits cells (trees_from i trees) old (reverse xs) → Visits cells (trees_from (i - 1) trees) old (reverse ys)
visits_more cells trees zero c old xs ys some is_made is e visits = absurd (omega (arith, some))
visits_more cells trees (suc i) c old xs ys some is_made is e visits =
    let back : suc i - 1 ≡ i = omega arith in
    let there : child_at trees i ≡ Some (tree_at cells c) = subst (λ k. child_at trees k ≡ Some (tree_at cells c)) back is in
    record {
      children = c ∷ visits.children;
      are = (is_made, visits.are);
      trees_are = ap (λ ts. and_trees (tree_at cells c) ts) visits.trees_are ∙ (sym (from_child trees i (tree_at cells c) there) ∙ ap (λ k. trees_from k trees) (sym back));
      in_front = pushed xs ys (task.Visit c) e ∙ ap (λ ts. task.Visit c ∷ ts) visits.in_front;
    }

-- the parts of a tree that conforms
pub record Parts (table : TypeTable) (t : MadeTree) : Type 0 where
  pub there : type_of t < length table.types
  pub children : TreesFit table (children_of t) (child_families (type_at table.types (type_of t)).items)
  pub fields : FieldsFit (fields_of t) (field_types (type_at table.types (type_of t)).items)

pub parts_of : (table : TypeTable) (t : MadeTree) → TreeFits table t → Parts table t
parts_of table _ (tree_fits ty children fields there fit kinds) = record { there = there; children = fit; fields = kinds }

pub as_many_trees : (table : TypeTable) (ts : MadeTrees) (fs : List ℕ) → TreesFit table ts fs → trees_count ts ≡ length fs
as_many_trees table _ _ no_tree_fits = refl
as_many_trees table _ _ (and_tree_fits t ts f fs of fit more) = (let e = as_many_trees table ts fs more in omega (arith, e))

pub joined_none : (ts : MadeTrees) → joined ts no_trees ≡ ts
joined_none no_trees = refl
joined_none (and_trees t ts) = ap (λ x. and_trees t x) (joined_none ts)

pub joined_again : (ts : MadeTrees) (t : MadeTree) (us : MadeTrees) → joined (joined ts (and_trees t no_trees)) us ≡ joined ts (and_trees t us)
joined_again no_trees t us = refl
joined_again (and_trees s ts) t us = ap (λ x. and_trees s x) (joined_again ts t us)

due_visits : (cells : List Cell) (table : TypeTable) (whole : MadeTree) (cs : List ℕ) (tasks : List Task) (done : MadeTrees) (fs : List ℕ) → AreMade cells cs → TreesFit table (trees_at cells cs) fs
    → Due cells table whole tasks (joined done (trees_at cells cs)) → Due cells table whole (map (λ c. task.Visit c) cs ++ tasks) done
due_visits cells table whole [] tasks done fs are fit due = subst (Due cells table whole tasks) (joined_none done) due
due_visits cells table whole (c ∷ cs) tasks done _ are (and_tree_fits _ _ f fs of fit more) due =
    to_visit c (map (λ c. task.Visit c) cs ++ tasks) done are.0 fit
    (due_visits cells table whole cs tasks (joined done (and_trees (tree_at cells c) no_trees)) fs are.1 more
    (subst (Due cells table whole tasks) (sym (joined_again done (tree_at cells c) (trees_at cells cs))) due))

visited_due : (cells : List Cell) (table : TypeTable) (whole : MadeTree) (c : ℕ) (tasks new : List Task) (done : MadeTrees) → Visits cells (children_of (tree_at cells c)) (task.Make c ∷ tasks) new
    → Due cells table whole (task.Visit c ∷ tasks) done → Due cells table whole new done
visited_due cells table whole _ _ new _ visits (to_visit c tasks done is_made fit rest) =
    let parts = parts_of table (tree_at cells c) fit in
    let kids = subst (λ ts. TreesFit table ts (child_families (type_at table.types (type_of (tree_at cells c))).items)) (sym visits.trees_are) parts.children in
    subst (λ ts. Due cells table whole ts done) (sym visits.in_front)
    (due_visits cells table whole visits.children (task.Make c ∷ tasks) done _ visits.are kids
    (to_make c tasks (joined done (trees_at cells visits.children)) done is_made fit (ap (joined done) visits.trees_are) rest))

load_visits : (cells : List Cell) (cs : List ℕ) (tasks : List Task) → load cells (map (λ c. task.Visit c) cs ++ tasks) ≡ 2 * node_count_all (trees_at cells cs) + load cells tasks
load_visits cells [] tasks = omega arith
load_visits cells (c ∷ cs) tasks = (let e = load_visits cells cs tasks in omega (arith, e))

count_is : (t : MadeTree) → node_count t ≡ node_count_all (children_of t) + 1
count_is (made ty children fields) = refl

to_come_visits : (cells : List Cell) (cs : List ℕ) (tasks : List Task) → to_come cells (map (λ c. task.Visit c) cs ++ tasks) ≡ node_count_all (trees_at cells cs) + to_come cells tasks
to_come_visits cells [] tasks = omega arith
to_come_visits cells (c ∷ cs) tasks = (let e = to_come_visits cells cs tasks in omega (arith, e))

to_come_same : (cells : List Cell) (c : ℕ) (tasks new : List Task) → Visits cells (children_of (tree_at cells c)) (task.Make c ∷ tasks) new → to_come cells new ≡ to_come cells (task.Visit c ∷ tasks)
to_come_same cells c tasks new visits =
    let a = ap (to_come cells) visits.in_front in
    let b = to_come_visits cells visits.children (task.Make c ∷ tasks) in
    let d = ap node_count_all visits.trees_are in
    let e = count_is (tree_at cells c) in
    omega (arith, a, b, d, e)

-- a visit was taken up
pub visited : (cells : List Cell) (table : TypeTable) (whole : MadeTree) (c : ℕ) (tasks new : List Task) (done : List ℕ) (nodes : List Node)
    → Visits cells (children_of (tree_at cells c)) (task.Make c ∷ tasks) new → Laying cells table whole (task.Visit c ∷ tasks) done nodes → Laying cells table whole new done nodes
visited cells table whole c tasks new done nodes visits laying = record {
  trees = laying.trees;
  due = visited_due cells table whole c tasks new laying.trees visits laying.due;
  stand = laying.stand;
  are = laying.are;
  forest = laying.forest;
  roots = laying.roots;
  under = laying.under;
  count = (let e = to_come_same cells c tasks new visits in let f = laying.count in omega (arith, e, f));
  conforms = laying.conforms;
}

pub less_to_do : (cells : List Cell) (c : ℕ) (tasks new : List Task) → Visits cells (children_of (tree_at cells c)) (task.Make c ∷ tasks) new → load cells new < load cells (task.Visit c ∷ tasks)
less_to_do cells c tasks new visits =
    let a = ap (load cells) visits.in_front in
    let b = load_visits cells visits.children (task.Make c ∷ tasks) in
    let d = ap node_count_all visits.trees_are in
    let e = count_is (tree_at cells c) in
    omega (arith, a, b, d, e)

-- the next task is on a made node whose tree conforms
pub visit_is : (cells : List Cell) (table : TypeTable) (whole : MadeTree) (c : ℕ) (tasks : List Task) (done : MadeTrees) → Due cells table whole (task.Visit c ∷ tasks) done → IsMade cells c × TreeFits table (tree_at cells c)
visit_is cells table whole _ _ _ (to_visit c tasks done is_made fit rest) = (is_made, fit)
