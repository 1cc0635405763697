-- A walk that went on to the end has printed the trees.
use Rattle.std.proofs.Common.{◌≡◌, ℕ, ◌+◌, ◌<◌, ◌≤◌, List, [], ◌∷◌, ◌++◌, length, map, Option, Some, None, Bool, true, false, is_some, slice_get, zero, suc, refl, sym, ap, ◌∙◌, subst, arith, append_assoc, append-nil}
use Rattle.ast_types.specs.TypeTable.{TypeTable}
use Rattle.expr_lang.specs.PureValues.{PureValue, PureValues, int, bool, text, map_of, token, source, node, no_pure, and_pure}
use Rattle.tree_store.specs.Forest.{Node, node_at, children_at, IsForest, OnlyRoot}
use Rattle.tree_store.specs.Folds.{Folds, at_end, not_entered, stops_within, not_left, goes_on}
use Rattle.tree_build.specs.Shown.{pure_count, pure_count_all, roots_from, nodes_from, all_nodes_from, pure_node, Show, and_shown, IsTreeOf}
use Rattle.tree_lines.specs.TreeText.{line_with, lines_of, all_lines_of}
use Rattle.tree_lines.specs.within.Printing.{Printing, SameBase, Enters, Leaves}
use Rattle.tree_lines.proofs.Placed.{Placed, parts, skip}

-- the nodes are so low that a walk down from them doesn't come to the greatest depth
abbrev AreLow : List ℕ → ℕ → Type 0
AreLow ns depth = (k n : ℕ) → slice_get ns k ≡ Some n → n + depth < 4294967295

-- the line of a node, then those of its children and of the nodes beside it
in_order : (old line under beside : List ℕ) → ((old ++ line) ++ under) ++ beside ≡ old ++ ((line ++ under) ++ beside)
in_order old line under beside =
    append_assoc (old ++ line) under beside ∙ append_assoc old line (under ++ beside)
    ∙ ap (λ x. old ++ x) (sym (append_assoc line under beside))

-- the children of a low node are low, one deeper
children_low : (nodes : List Node) (n : ℕ) (ns : List ℕ) (depth : ℕ) → IsForest nodes → AreLow (n ∷ ns) depth
    → AreLow (children_at nodes n) (depth + 1)
children_low nodes n ns depth forest low k c at =
    let before = forest.before n k c at in
    let here = low 0 n refl in
    omega (arith, before, here)

others_low : (n : ℕ) (ns : List ℕ) (depth : ℕ) → AreLow (n ∷ ns) depth → AreLow ns depth
others_low n ns depth low k m at = low (suc k) m at

module _ {X : Type 0} (rest : X → List Node → ℕ → List ℕ) where
  -- the printer is where it was, and these lines were added
  pub record Printed (s t : Printing X) (lines : List ℕ) : Type 0 where
    pub base : SameBase s t
    pub depth : t.depth ≡ s.depth
    pub output : t.output ≡ s.output ++ lines

  -- entered, the walk is one deeper; left again, it is where it was
  deeper : (nodes : List Node) (n : ℕ) (s t : Printing X) (on : Bool) → s.depth < 4294967295 → Enters rest nodes n s on t
      → t.depth ≡ s.depth + 1
  deeper nodes n s t on low enters = let e = enters.depth in omega (arith, e, low)

  back_up : (nodes : List Node) (n : ℕ) (s t u v : Printing X) (on : Bool) → t.depth ≡ s.depth + 1 → u.depth ≡ t.depth
      → Leaves nodes n u on v → v.depth ≡ s.depth
  back_up nodes n s t u v on down same leaves = let e = leaves.depth in omega (arith, e, same, down)

  -- entered, the children printed, left, the rest printed
  printed_one : (nodes : List Node) (k ty : ℕ) (children fields more : PureValues) (s t u v w : Printing X)
      → s.depth < 4294967295 → (node_at nodes (k + pure_count_all children)).ty ≡ ty
      → Enters rest nodes (k + pure_count_all children) s true t
      → Printed t u (all_lines_of t.table (rest t.about nodes) t.depth k children)
      → Leaves nodes (k + pure_count_all children) u true v
      → Printed v w (all_lines_of v.table (rest v.about nodes) v.depth (k + pure_count (node ty children fields)) more)
      → Printed s w (all_lines_of s.table (rest s.about nodes) s.depth k (and_pure (node ty children fields) more))
  printed_one nodes k ty children fields more s t u v w low is_ty enters under leaves beside_it =
      let n : ℕ = k + pure_count_all children in
      let down = deeper nodes n s t true low enters in
      let up = back_up nodes n s t u v true down under.depth leaves in
      let table_v : v.table ≡ s.table = leaves.base.table ∙ under.base.table ∙ enters.base.table in
      let about_v : v.about ≡ s.about = leaves.base.about ∙ under.base.about ∙ enters.base.about in
      let first : t.output ≡ s.output ++ line_with s.table s.depth ty (rest s.about nodes n) = rw is_ty at (enters.line refl) in
      let below : u.output ≡ t.output ++ all_lines_of s.table (rest s.about nodes) (s.depth + 1) k children =
      rw (enters.base.table, enters.base.about, down) at under.output in
      let beside : w.output ≡ v.output ++ all_lines_of s.table (rest s.about nodes) s.depth (k + pure_count (node ty children fields)) more =
      rw (table_v, about_v, up) at beside_it.output in
      record {
        base = record { table = beside_it.base.table ∙ table_v; about = beside_it.base.about ∙ about_v };
        depth = beside_it.depth ∙ up;
        output = beside ∙ rw (leaves.output, below, first) (in_order s.output (line_with s.table s.depth ty (rest s.about nodes n))
            (all_lines_of s.table (rest s.about nodes) (s.depth + 1) k children)
            (all_lines_of s.table (rest s.about nodes) s.depth (k + pure_count (node ty children fields)) more));
      }

  pub all_printed : (s_bytes l_bytes : List ℕ) (nodes : List Node) → IsForest nodes → (vs : PureValues) (k : ℕ) (ns : List ℕ)
      (s u : Printing X) (end : Option ℕ)
      → Folds (Enters rest nodes) (Leaves nodes) nodes ns s u end → end ≡ None
      → Placed (map (pure_node s_bytes l_bytes) nodes) k (all_nodes_from k vs) → ns ≡ roots_from k vs → AreLow ns s.depth
      → Printed s u (all_lines_of s.table (rest s.about nodes) s.depth k vs)
  all_printed s_bytes l_bytes nodes forest no_pure k _ _ _ _ (at_end s) none placed are low =
      record { base = record { table = refl; about = refl }; depth = refl; output = sym (append-nil _) }
  all_printed s_bytes l_bytes nodes forest no_pure k _ _ _ _ (not_entered _ _ _ _ _) none placed are low = (cc)
  all_printed s_bytes l_bytes nodes forest no_pure k _ _ _ _ (stops_within _ _ _ _ _ _ _ _) none placed are low = (cc)
  all_printed s_bytes l_bytes nodes forest no_pure k _ _ _ _ (not_left _ _ _ _ _ _ _ _ _) none placed are low = (cc)
  all_printed s_bytes l_bytes nodes forest no_pure k _ _ _ _ (goes_on _ _ _ _ _ _ _ _ _ _ _ _) none placed are low = (cc)
  all_printed s_bytes l_bytes nodes forest (and_pure (int z) vs) k ns s u end fold none placed are low =
      all_printed s_bytes l_bytes nodes forest vs (k + 0) ns s u end fold none (skip _ k _ placed) are low
  all_printed s_bytes l_bytes nodes forest (and_pure (bool b) vs) k ns s u end fold none placed are low =
      all_printed s_bytes l_bytes nodes forest vs (k + 0) ns s u end fold none (skip _ k _ placed) are low
  all_printed s_bytes l_bytes nodes forest (and_pure (text bytes) vs) k ns s u end fold none placed are low =
      all_printed s_bytes l_bytes nodes forest vs (k + 0) ns s u end fold none (skip _ k _ placed) are low
  all_printed s_bytes l_bytes nodes forest (and_pure (map_of es) vs) k ns s u end fold none placed are low =
      all_printed s_bytes l_bytes nodes forest vs (k + 0) ns s u end fold none (skip _ k _ placed) are low
  all_printed s_bytes l_bytes nodes forest (and_pure (token t) vs) k ns s u end fold none placed are low =
      all_printed s_bytes l_bytes nodes forest vs (k + 0) ns s u end fold none (skip _ k _ placed) are low
  all_printed s_bytes l_bytes nodes forest (and_pure (source n) vs) k ns s u end fold none placed are low =
      all_printed s_bytes l_bytes nodes forest vs (k + 0) ns s u end fold none (skip _ k _ placed) are low
  all_printed s_bytes l_bytes nodes forest (and_pure (node ty children fields) vs) k _ _ _ _ (at_end s) none placed are low = (cc)
  all_printed s_bytes l_bytes nodes forest (and_pure (node ty children fields) vs) k _ _ _ _ (not_entered _ _ _ _ _) none placed are low = (cc)
  all_printed s_bytes l_bytes nodes forest (and_pure (node ty children fields) vs) k _ _ _ _ (stops_within _ _ _ _ _ _ _ _) none placed are low = (cc)
  all_printed s_bytes l_bytes nodes forest (and_pure (node ty children fields) vs) k _ _ _ _ (not_left _ _ _ _ _ _ _ _ _) none placed are low = (cc)
  all_printed s_bytes l_bytes nodes forest (and_pure (node ty children fields) vs) k _ _ _ _ (goes_on n ns s t u v w end enters under leaves after) none placed are low =
      let p = parts s_bytes l_bytes nodes k ty children fields vs placed in
      let same : n ≡ k + pure_count_all children = cc in
      let others : ns ≡ roots_from (k + pure_count (node ty children fields)) vs = cc in
      let low_here : s.depth < 4294967295 = let l = low 0 n refl in omega (arith, l) in
      let down = deeper nodes n s t true low_here enters in
      let inner = all_printed s_bytes l_bytes nodes forest children k (children_at nodes n) t u None under refl p.under
      (subst (λ i. children_at nodes i ≡ roots_from k children) (sym same) p.root.children_are)
      (rw down (children_low nodes n ns s.depth forest low)) in
      let up = back_up nodes n s t u v true down inner.depth leaves in
      let outer = all_printed s_bytes l_bytes nodes forest vs (k + pure_count (node ty children fields)) ns v w end after none p.beside others
      (rw up (others_low n ns s.depth low)) in
      printed_one nodes k ty children fields vs s t u v w low_here p.root.type_is
      (subst (λ i. Enters rest nodes i s true t) same enters) inner (subst (λ i. Leaves nodes i u true v) same leaves) outer

  -- the whole tree, from depth 0
  pub tree_printed : (s_bytes l_bytes : List ℕ) (table : TypeTable) (nodes : List Node) (root : ℕ)
      (s u : Printing X) (end : Option ℕ) (v : PureValue)
      → IsForest nodes → length nodes ≤ 1048576 → OnlyRoot nodes root → root + 1 ≡ length nodes → IsTreeOf s_bytes l_bytes table nodes v
      → Folds (Enters rest nodes) (Leaves nodes) nodes (root ∷ []) s u end → is_some end ≡ false → s.depth ≡ 0
      → u.output ≡ s.output ++ lines_of s.table (rest s.about nodes) 0 0 v
  tree_printed s_bytes l_bytes table nodes root s u end v forest few only last is fold went_on at_top =
      let same : is.root ≡ root = only.only is.root is.only.root in
      let shown : Show s_bytes l_bytes nodes (root ∷ []) (and_pure v no_pure) = rw same at is.shows in
      let count = is.count in
      let placed : Placed (map (pure_node s_bytes l_bytes) nodes) 0 (all_nodes_from 0 (and_pure v no_pure)) = record {
        before = [];
        after = [];
        long = refl;
        is = is.are ∙ sym (append-nil (nodes_from 0 v)) ∙ sym (append-nil (nodes_from 0 v ++ []));
      } in
      let all = all_printed s_bytes l_bytes nodes forest (and_pure v no_pure) 0 (root ∷ []) s u end fold (none_of end went_on) placed
      (root_is root v shown (omega (arith, last, count)))
      (root_low root s.depth (omega (arith, last, few, at_top))) in
      rw (at_top, append-nil (lines_of s.table (rest s.about nodes) 0 0 v)) at all.output
    where
      none_of : (end : Option ℕ) → is_some end ≡ false → end ≡ None
      none_of None is = refl
      none_of (Some n) is = (cc)

      root_low : (n depth : ℕ) → n + depth < 4294967295 → AreLow (n ∷ []) depth
      root_low n depth low zero m is = let e : n ≡ m = cc in omega (arith, e, low)
      root_low n depth low (suc k) m is = (cc)

      root_is : (n : ℕ) (v : PureValue) → Show s_bytes l_bytes nodes (n ∷ []) (and_pure v no_pure) → n + 1 ≡ pure_count v
          → n ∷ [] ≡ roots_from 0 (and_pure v no_pure)
      root_is _ _ (and_shown n _ ty children fields _ within is_ty below are_fields beside) e =
          ap (λ i. i ∷ []) (let same : n ≡ 0 + pure_count_all children = omega (arith, e) in same)
