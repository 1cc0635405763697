-- Nodes that stand for made trees show their values.
use Rattle.std.proofs.Common.{◌≡◌, ℕ, ◌<◌, arith, suc, zero, ◌+◌, ◌≤◌, true, false, nat_lt, ◌⊎◌, inl, inr, Ok, Err, Result, IfOk, ◌↔◌, List, [], ◌∷◌, length, map, reverse, Some, refl, sym, ap, ◌∙◌, subst}
use Rattle.std.specs.Prelude.{slice_get}
use Rattle.value_store.specs.Cells.{Cell, tree_at, IsMade}
use Rattle.value_store.specs.MadeTrees.{MadeTree, MadeTrees, made, no_trees, and_trees, node_count, node_count_all}
use Rattle.value_store.specs.declared.value.Value.TheVariants as value
use Rattle.ast_types.specs.TypeTable.{TypeTable}
use Rattle.expr_lang.specs.PureOf.{pure_fields, pure_trees, pure_tree}
use Rattle.expr_lang.specs.PureValues.{PureValue, and_pure, no_pure}
use Rattle.tree_store.specs.Forest.{Node, children_at, IsRoot, IsChild, AreRoots, Under, here, below}
use Rattle.node_model.specs.Nodes.{Nodes}
use Rattle.tree_store.proofs.NodeAdded.{nat_lt_tells}
use Rattle.tree_build.specs.Built.{IsBuilt}
use Rattle.tree_build.specs.declared.error.BuildError.{BuildError}
use Rattle.tree_build.specs.declared.error.BuildError.TheVariants as error
use Rattle.tree_store.specs.Fitting.{TreeFits}
use Rattle.tree_build.specs.Shown.{Show, none_shown, and_shown, pure_count, pure_count_all, all_nodes_from, pure_node, IsTreeOf}
use Rattle.tree_build.specs.within.Laying.{Stand, none_stand, and_stands, Due, all_done, to_visit, to_come, Laying, UnderOne}
use Rattle.tree_build.proofs.NodesNumbered.{fields_shown, nodes_of_whole}
use Rattle.tree_build.specs.declared.laying.Task.{Task}
use Rattle.tree_build.specs.declared.laying.Task.TheVariants as task

pub show_of : (s l : List ℕ) (nodes : List Node) (ns : List ℕ) (ts : MadeTrees) → Stand nodes ns ts → Show s l nodes ns (pure_trees s l ts)
show_of s l nodes _ _ none_stand = none_shown
show_of s l nodes _ _ (and_stands n ns ty children ts fields within is kids are more) =
    and_shown n ns ty (pure_trees s l children) (pure_fields s l fields) (pure_trees s l ts) within is (show_of s l nodes (children_at nodes n) children kids)
    (ap (pure_fields s l) are ∙ fields_shown s l fields) (show_of s l nodes ns ts more)

-- one root stands for the whole
record OneRoot (nodes : List Node) (done : List ℕ) (whole : MadeTree) : Type 0 where
  pub root : ℕ
  pub alone : done ≡ root ∷ []
  pub shown : (s l : List ℕ) → Show s l nodes (root ∷ []) (and_pure (pure_tree s l whole) no_pure)

one_root : (nodes : List Node) (done : List ℕ) (whole : MadeTree) → Stand nodes done (and_trees whole no_trees) → OneRoot nodes done whole
one_root nodes _ _ (and_stands n _ ty children _ fields within is kids are none_stand) = record {
  root = n;
  alone = refl;
  shown = λ s l. show_of s l nodes (n ∷ []) (and_trees (made ty children fields) no_trees) (and_stands n [] ty children no_trees fields within is kids are none_stand);
}

all_due : (cells : List Cell) (table : TypeTable) (whole : MadeTree) (ts : MadeTrees) → Due cells table whole [] ts → ts ≡ and_trees whole no_trees
all_due cells table whole _ all_done = refl

only_under : (nodes : List Node) (root n : ℕ) → Under nodes root n → IsRoot nodes n → n ≡ root
only_under nodes root _ (here n is) top = is
only_under nodes root _ (below p i c up child) top = absurd (top.no_child p i child)

under_the_root : (nodes : List Node) (root n : ℕ) → UnderOne nodes (root ∷ []) n → Under nodes root n
under_the_root nodes root n one = at one.place one.is
  where
    at : (place : ℕ) → slice_get (root ∷ []) place ≡ Some one.root → Under nodes root n
    at zero is = (let same : root ≡ one.root = cc in subst (λ r. Under nodes r n) (sym same) one.under)
    at (suc place) is = (cc)

-- a made tree and its value have as many nodes
pub count_all : (s l : List ℕ) (ts : MadeTrees) → pure_count_all (pure_trees s l ts) ≡ node_count_all ts
count_all s l no_trees = refl
count_all s l (and_trees (made ty children fields) ts) =
    let a = count_all s l children in
    let b = count_all s l ts in
    omega (arith, a, b)

pub count_tree : (s l : List ℕ) (t : MadeTree) → pure_count (pure_tree s l t) ≡ node_count t
count_tree s l (made ty children fields) = ap (λ n. n + 1) (count_all s l children)

-- no task is left
pub none_left : (tasks : List Task) → length tasks ≡ 0 → reverse tasks ≡ []
none_left [] e = refl
none_left (t ∷ tasks) e = absurd (omega (arith, e))

-- where nothing is left to do, the nodes are the tree
pub laid_out : (cells : List Cell) (table : TypeTable) (whole : MadeTree) (tasks : List _) (done : List ℕ) (nodes : List Node) → tasks ≡ [] → Laying cells table whole tasks done nodes
    → (s l : List ℕ) → IsTreeOf s l table nodes (pure_tree s l whole)
laid_out cells table whole tasks done nodes e laying s l =
    let due = all_due cells table whole laying.trees (subst (λ ts. Due cells table whole ts laying.trees) e laying.due) in
    let one = one_root nodes done whole (subst (λ ts. Stand nodes done ts) due laying.stand) in
    let under : (n : ℕ) → n < length nodes → Under nodes one.root n = λ n within. under_the_root nodes one.root n (subst (λ ns. UnderOne nodes ns n) one.alone (laying.under n within)) in
    let roots = subst (λ ns. AreRoots nodes ns) one.alone laying.roots in
    record {
      root = one.root;
      only = record {
        root = record { within = roots.within 0 one.root refl; no_child = roots.no_child 0 one.root refl };
        only = λ n top. only_under nodes one.root n (under n top.within) top;
      };
      under = under;
      shows = one.shown s l;
      count = (let n = laying.count in let m = ap (to_come cells) e in let k = count_tree s l whole in omega (arith, n, m, k));
      are = subst (λ ts. map (pure_node s l) nodes ≡ all_nodes_from 0 (pure_trees s l ts)) due (laying.are.nodes_are s l) ∙ nodes_of_whole s l whole;
      conforms = laying.conforms;
    }

-- where the whole is still to be visited, nothing is done
pub begun : (cells : List Cell) (table : TypeTable) (c : ℕ) (tasks : List Task) (done : List ℕ) (nodes : List Node) → IsMade cells c → TreeFits table (tree_at cells c)
    → tasks ≡ task.Visit c ∷ [] → done ≡ [] → nodes ≡ [] → Laying cells table (tree_at cells c) tasks done nodes
begun cells table c tasks done nodes is_made fits e f g =
    let start : Laying cells table (tree_at cells c) (task.Visit c ∷ []) [] [] = record {
      trees = no_trees;
      due = to_visit c [] no_trees is_made fits all_done;
      stand = none_stand;
      are = record { nodes_are = λ s l. refl; roots_are = λ s l. refl };
      forest = record { before = λ p i c child. absurd (no_child p i c child); one_place = λ p i q j c child other. absurd (no_child p i c child) };
      roots = record { within = λ k c at. absurd (nothing [] k c refl at); no_child = λ k c at. absurd (nothing [] k c refl at); differ = λ j k c at other. absurd (nothing [] j c refl at) };
      under = λ n within. absurd (omega (arith, within));
      count = omega arith;
      conforms = λ n within. absurd (omega (arith, within));
    } in
    subst (λ ts. Laying cells table (tree_at cells c) ts done nodes) (sym e)
    (subst (λ ns. Laying cells table (tree_at cells c) (task.Visit c ∷ []) ns nodes) (sym f)
    (subst (λ ns. Laying cells table (tree_at cells c) (task.Visit c ∷ []) [] ns) (sym g) start))
  where
    nothing : (xs : List ℕ) (k c : ℕ) → xs ≡ [] → slice_get xs k ≡ Some c → ⊥
    nothing xs k c none at = (cc)

    no_child : (p i c : ℕ) → IsChild [] p i c → ⊥
    no_child p i c child = (cc)

-- what a build answers, by what was laid out
pub answered : (s l : List ℕ) (nodes : Nodes) (t : MadeTree) (v : PureValue) (result : Result (List Node) BuildError) → pure_tree s l t ≡ v
    → IfOk result (λ tree. (source literals : List ℕ) → IsTreeOf source literals nodes.table tree (pure_tree source literals t))
    → (result ≡ Err error.TooLarge) ↔ (1048576 < node_count t) → IsBuilt s l nodes v result
answered s l nodes t v (Ok tree) is shown full =
    let count = count_tree s l t in
    let same = ap pure_count is in
    (subst (λ x. IsTreeOf s l nodes.table tree x) is (shown s l), few (nat_lt_tells 1048576 (node_count t)) count same)
  where
    few : ((nat_lt 1048576 (node_count t) ≡ true) × (1048576 < node_count t)) ⊎ ((nat_lt 1048576 (node_count t) ≡ false) × (node_count t ≤ 1048576)) → pure_count (pure_tree s l t) ≡ node_count t
        → pure_count (pure_tree s l t) ≡ pure_count v → pure_count v ≤ 1048576
    few (inl more) a b = (let e = full.1 more.1 in cc)
    few (inr less) a b = (let low = less.1 in omega (arith, low, a, b))
answered s l nodes t v (Err error.TooLarge) is shown full =
    let large = full.0 refl in
    let count = count_tree s l t in
    let same = ap pure_count is in
    omega (arith, large, count, same)
answered s l nodes t v (Err error.NoMemory) is shown full = tt
