-- What the links of a node say of its children, its siblings and its parent.
use Rattle.std.proofs.Common.{◌≡◌, ℕ, ◌+◌, ◌<◌, ◌≤◌, List, [], ◌∷◌, length, drop, map, Some, refl, sym, ap, subst, arith, suc, zero, get_or}
use Rattle.std.specs.Prelude.{slice_get, slice_index}
use Rattle.value_store.specs.declared.value.Value.{Value}
use Rattle.tree_store.specs.declared.tree.Label.{Label}
use Rattle.tree_store.specs.Forest.{Node, node_at, children_at, IsChild, Under, here, below}
use Rattle.tree_store.specs.Links.{Labelled, label_of, Chain, ends, links, chain, nodes_from, Linked, IsLinkedTree}
use Rattle.tree_store.proofs.WalkSteps.{siblings}

pub record Tied (nodes : List Node) (parents numbers firsts nexts : List ℕ) : Type 0 where
  pub few : length nodes ≤ 1048576
  pub as_many : length nexts ≡ length nodes
  pub as_many_parents : length parents ≡ length nodes
  pub as_many_firsts : length firsts ≡ length nodes
  pub down : (n : ℕ) → n < length nodes → Chain nexts (slice_index firsts n) (children_at nodes n)
  pub up : (p i c : ℕ) → IsChild nodes p i c → (slice_index parents c ≡ p) × (slice_index numbers c ≡ i) × (c < p)
  pub back : (c : ℕ) → c < length nodes → (slice_index parents c ≡ 4294967295 → ⊥) → IsChild nodes (slice_index parents c) (slice_index numbers c) c

pub chain_none : (nexts : List ℕ) (n : ℕ) (ns : List ℕ) → length nexts ≤ 1048576 → n ≡ 4294967295 → Chain nexts n ns → ns ≡ []
chain_none nexts n ns few none (ends _ e) = refl
chain_none nexts n ns few none (links _ more within _) = absurd (omega (arith, within, few, none))

pub chain_some : (nexts : List ℕ) (n : ℕ) (ns : List ℕ) → (n ≡ 4294967295 → ⊥) → Chain nexts n ns → (more : List ℕ) × (ns ≡ n ∷ more)
chain_some nexts n ns some (ends _ e) = absurd (some e)
chain_some nexts n ns some (links _ more within _) = (more, refl)

pub chain_next : (nexts : List ℕ) (n : ℕ) (ns : List ℕ) (i c : ℕ) → Chain nexts n ns → slice_get ns i ≡ Some c → Chain nexts (slice_index nexts c) (drop (suc i) ns)
chain_next nexts n ns i c (ends _ e) is = (cc)
chain_next nexts n ns zero c (links _ more within rest) is = let same : n ≡ c = cc in rw (← same) rest
chain_next nexts n ns (suc i) c (links _ more within rest) is = chain_next nexts (slice_index nexts n) more i c rest is

pub drop-first : (xs : List ℕ) (k m : ℕ) (ms : List ℕ) → drop k xs ≡ m ∷ ms → (slice_get xs k ≡ Some m) × (drop (suc k) xs ≡ ms)
drop-first [] zero m ms is = (cc)
drop-first [] (suc k) m ms is = (cc)
drop-first (x ∷ xs) zero m ms is = (let same : x ≡ m = cc in ap Some same, let same : xs ≡ ms = cc in same)
drop-first (x ∷ xs) (suc k) m ms is = drop-first xs k m ms is

pub is_within : (nodes : List Node) (p i c : ℕ) → IsChild nodes p i c → p < length nodes
is_within [] p i c is = (cc)
is_within (node ∷ nodes) zero i c is = omega arith
is_within (node ∷ nodes) (suc p) i c is = let more = is_within nodes p i c is in omega (arith, more)

pub under_le : {nodes : List Node} {parents numbers firsts nexts : List ℕ} (root n : ℕ) → Tied nodes parents numbers firsts nexts → Under nodes root n → n ≤ root
under_le root n tied (here _ e) = omega (arith, e)
under_le root n tied (below p i _ under is) = let more = under_le root p tied under in let before = (tied.up p i n is).2 in omega (arith, more, before)

-- a node under the root that isn't the root has its parent there
pub record HasParent (nodes : List Node) (parents numbers : List ℕ) (root n : ℕ) : Type 0 where
  pub under : Under nodes root (slice_index parents n)
  pub is : IsChild nodes (slice_index parents n) (slice_index numbers n) n
  pub before : n < slice_index parents n

pub has_parent : {nodes : List Node} {parents numbers firsts nexts : List ℕ} (root n : ℕ) → Tied nodes parents numbers firsts nexts → Under nodes root n → (n ≡ root → ⊥) → HasParent nodes parents numbers root n
has_parent root n tied (here _ e) differ = absurd (differ e)
has_parent root n tied (below p i _ under is) differ =
    let up = tied.up p i n is in
    record { under = rw up.0 under; is = rw (up.0, up.1) is; before = rw up.0 (up.2) }

-- the first child
pub first_child : {nodes : List Node} {parents numbers firsts nexts : List ℕ} (root n c : ℕ) (cs : List ℕ) → Tied nodes parents numbers firsts nexts → Under nodes root n → children_at nodes n ≡ c ∷ cs
    → Under nodes root c × (slice_index parents c ≡ n) × (siblings nodes (slice_index parents) (slice_index numbers) c ≡ cs) × (c ≡ root → ⊥)
first_child {nodes = nodes} root n c cs tied under are =
    let is : IsChild nodes n 0 c = ap (λ xs. slice_get xs 0) are in
    let up = tied.up n 0 c is in
    let le = under_le root n tied under in
    (below n 0 c under is, up.0, rw (up.1, up.0, are) refl, λ e. omega (arith, e, up.2, le))

-- the next sibling
pub next_sibling : {nodes : List Node} {parents numbers firsts nexts : List ℕ} (root n m : ℕ) (ms : List ℕ) → Tied nodes parents numbers firsts nexts → HasParent nodes parents numbers root n
    → siblings nodes (slice_index parents) (slice_index numbers) n ≡ m ∷ ms
    → Under nodes root m × (slice_index parents m ≡ slice_index parents n) × (siblings nodes (slice_index parents) (slice_index numbers) m ≡ ms) × (m ≡ root → ⊥)
next_sibling {nodes = nodes} {parents = parents} {numbers = numbers} root n m ms tied has are =
    let at = drop-first (children_at nodes (slice_index parents n)) (slice_index numbers n + 1) m ms are in
    let up = tied.up (slice_index parents n) (slice_index numbers n + 1) m at.0 in
    let le = under_le root (slice_index parents n) tied has.under in
    let next : suc (slice_index numbers n + 1) ≡ slice_index numbers n + 1 + 1 = omega arith in
    (below (slice_index parents n) _ m has.under at.0, up.0, rw (up.1, up.0) (subst (λ k. drop k (children_at nodes (slice_index parents n)) ≡ ms) next at.1), λ e. omega (arith, e, up.2, le))

-- the nodes that the links say, one by one
pub children_linked : (nexts : List ℕ) (labels : List Labelled) (firsts : List ℕ) (n : ℕ) → n < length labels → length firsts ≡ length labels
    → children_at (nodes_from nexts labels firsts) n ≡ chain nexts 8 (slice_index firsts n)
children_linked nexts [] firsts n within same = absurd (omega (arith, within))
children_linked nexts (label ∷ labels) [] n within same = absurd (omega (arith, same))
children_linked nexts (label ∷ labels) (first ∷ firsts) zero within same = refl
children_linked nexts (label ∷ labels) (first ∷ firsts) (suc n) within same = children_linked nexts labels firsts n (omega (arith, within)) (omega (arith, same))

pub length-nodes : (nexts : List ℕ) (labels : List Labelled) (firsts : List ℕ) → length firsts ≡ length labels → length (nodes_from nexts labels firsts) ≡ length labels
length-nodes nexts [] firsts same = refl
length-nodes nexts (label ∷ labels) [] same = absurd (omega (arith, same))
length-nodes nexts (label ∷ labels) (first ∷ firsts) same = ap suc (length-nodes nexts labels firsts (omega (arith, same)))

pub tied_of : (labels : List Labelled) (parents numbers firsts nexts : List ℕ) → Linked labels parents numbers firsts nexts → Tied (nodes_from nexts labels firsts) parents numbers firsts nexts
tied_of labels parents numbers firsts nexts linked =
    let long = length-nodes nexts labels firsts linked.as_many_firsts in
    record {
      few = omega (arith, long, linked.few);
      as_many = omega (arith, long, linked.as_many_nexts);
      down = λ n within.
          let there : n < length labels = omega (arith, long, within) in
          subst (λ ns. Chain nexts (slice_index firsts n) ns) (sym (children_linked nexts labels firsts n there linked.as_many_firsts)) (linked.down n there);
      as_many_parents = omega (arith, long, linked.as_many_parents);
      as_many_firsts = omega (arith, long, linked.as_many_firsts);
      up = linked.up;
      back = λ c within. linked.back c (omega (arith, long, within));
    }

-- what the links of a node say of its children and siblings
pub first_some : {nodes : List Node} {parents numbers firsts nexts : List ℕ} (n f : ℕ) → Tied nodes parents numbers firsts nexts → n < length nodes → f ≡ slice_index firsts n → (f ≡ 4294967295 → ⊥)
    → (cs : List ℕ) × (children_at nodes n ≡ f ∷ cs)
first_some {nodes = nodes} {nexts = nexts} n f tied within is some = chain_some nexts f (children_at nodes n) some (rw is (tied.down n within))

pub first_none : {nodes : List Node} {parents numbers firsts nexts : List ℕ} (n f : ℕ) → Tied nodes parents numbers firsts nexts → n < length nodes → f ≡ slice_index firsts n → f ≡ 4294967295
    → children_at nodes n ≡ []
first_none {nodes = nodes} {nexts = nexts} n f tied within is none = chain_none nexts f (children_at nodes n) (omega (arith, tied.few, tied.as_many)) none (rw is (tied.down n within))

pub next_chain : {nodes : List Node} {parents numbers firsts nexts : List ℕ} (root n m : ℕ) → Tied nodes parents numbers firsts nexts → HasParent nodes parents numbers root n → m ≡ slice_index nexts n
    → Chain nexts m (siblings nodes (slice_index parents) (slice_index numbers) n)
next_chain {nodes = nodes} {parents = parents} {numbers = numbers} {nexts = nexts} root n m tied has is =
    let p = slice_index parents n in
    let i = slice_index numbers n in
    let chained = chain_next nexts _ (children_at nodes p) i n (tied.down p (is_within nodes p i n has.is)) has.is in
    let next : suc i ≡ i + 1 = omega arith in
    rw is (subst (λ k. Chain nexts (slice_index nexts n) (drop k (children_at nodes p))) next chained)

pub next_some : {nodes : List Node} {parents numbers firsts nexts : List ℕ} (root n m : ℕ) → Tied nodes parents numbers firsts nexts → HasParent nodes parents numbers root n → m ≡ slice_index nexts n → (m ≡ 4294967295 → ⊥)
    → (ms : List ℕ) × (siblings nodes (slice_index parents) (slice_index numbers) n ≡ m ∷ ms)
next_some {nexts = nexts} root n m tied has is some = chain_some nexts m _ some (next_chain root n m tied has is)

pub next_none : {nodes : List Node} {parents numbers firsts nexts : List ℕ} (root n m : ℕ) → Tied nodes parents numbers firsts nexts → HasParent nodes parents numbers root n → m ≡ slice_index nexts n → m ≡ 4294967295
    → siblings nodes (slice_index parents) (slice_index numbers) n ≡ []
next_none {nexts = nexts} root n m tied has is none = chain_none nexts m _ (omega (arith, tied.few, tied.as_many)) none (next_chain root n m tied has is)

pub under_within : {nodes : List Node} {parents numbers firsts nexts : List ℕ} (root n : ℕ) → Tied nodes parents numbers firsts nexts → Under nodes root n → root < length nodes → n < length nodes
under_within root n tied under within = let le = under_le root n tied under in omega (arith, le, within)

pub index_is : (xs : List ℕ) (i x : ℕ) → i < length xs → x ≡ get_or xs i x → x ≡ slice_index xs i
index_is [] i x within is = absurd (omega (arith, within))
index_is (y ∷ xs) zero x within is = is
index_is (y ∷ xs) (suc i) x within is = index_is xs i x (omega (arith, within)) is

-- the same of a tree that is seen as these nodes
pub tied_now : (rows : List Label) (fields : List Value) (parents numbers firsts nexts : List ℕ) (nodes : List Node)
    → IsLinkedTree rows fields parents numbers firsts nexts → nodes_from nexts (map (label_of fields) rows) firsts ≡ nodes
    → Tied nodes parents numbers firsts nexts
tied_now rows fields parents numbers firsts nexts nodes whole view =
    subst (λ ns. Tied ns parents numbers firsts nexts) view (tied_of (map (label_of fields) rows) parents numbers firsts nexts whole.linked)

-- the child that a chain has come to
not_past : (cs : List ℕ) (i : ℕ) → drop i cs ≡ [] → i < length cs → ⊥
not_past [] i is within = omega (arith, within)
not_past (c ∷ cs) zero is within = (cc)
not_past (c ∷ cs) (suc i) is within = not_past cs i is (omega (arith, within))

pub chain_at : (nexts cs : List ℕ) (i at : ℕ) (ns : List ℕ) → drop i cs ≡ ns → Chain nexts at ns → i < length cs
    → (slice_get cs i ≡ Some at) × (at < length nexts) × Chain nexts (slice_index nexts at) (drop (i + 1) cs)
chain_at nexts cs i at _ is (ends _ e) within = absurd (not_past cs i is within)
chain_at nexts cs i at _ is (links _ ms low rest) within =
    let d = drop-first cs i at ms is in
    let next : suc i ≡ i + 1 = omega arith in
    (d.0, low, subst (λ k. Chain nexts (slice_index nexts at) (drop k cs)) next (subst (λ x. Chain nexts (slice_index nexts at) x) (sym d.1) rest))

pub has_children : (nodes : List Node) (n i : ℕ) → i < length (children_at nodes n) → n < length nodes
has_children [] n i within = absurd (omega (arith, within))
has_children (m ∷ nodes) zero i within = omega arith
has_children (m ∷ nodes) (suc n) i within = let more = has_children nodes n i within in omega (arith, more)

pub has_fields : (nodes : List Node) (n i : ℕ) → i < length (node_at nodes n).fields → n < length nodes
has_fields [] n i within = absurd (omega (arith, within))
has_fields (m ∷ nodes) zero i within = omega arith
has_fields (m ∷ nodes) (suc n) i within = let more = has_fields nodes n i within in omega (arith, more)
