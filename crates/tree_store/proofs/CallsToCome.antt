-- How many calls of a walk are still to come: the measure by which it ends.
use Rattle.std.proofs.Common.{◌≡◌, ℕ, ◌+◌, ◌*◌, ◌<◌, List, [], ◌∷◌, ◌++◌, length, Some, Bool, true, false, refl, sym, ap, ◌∙◌, subst, arith, suc, zero, inl, inr, length-append, append-nil, append_assoc}
use Rattle.std.proofs.lemmas.Bool.{ne_eqb}
use Rattle.std.proofs.lemmas.Bool.Decides.{eqb_tells}
use Rattle.std.specs.Prelude.{slice_get, slice_index, nat_eq, if◌then◌else◌}
use Rattle.tree_store.specs.Forest.{Node, children_at, Under}
use Rattle.tree_store.proofs.WalkSteps.{siblings}
use Rattle.tree_store.proofs.LinksAgree.{Tied, under_le, HasParent, has_parent, first_child, next_sibling}

-- the sum of the sizes of nodes
abbrev pub total : List ℕ → List ℕ → ℕ
total sizes [] = 0
total sizes (c ∷ cs) = slice_index sizes c + total sizes cs

-- how many nodes lie under each node
abbrev pub sizes_from : List ℕ → List Node → List ℕ
sizes_from done [] = done
sizes_from done (node ∷ nodes) = sizes_from (done ++ (total done node.children + 1) ∷ []) nodes

abbrev pub sizes : List Node → List ℕ
sizes nodes = sizes_from [] nodes

pub index-front : (xs ys : List ℕ) (i : ℕ) → i < length xs → slice_index (xs ++ ys) i ≡ slice_index xs i
index-front [] ys i within = absurd (omega (arith, within))
index-front (x ∷ xs) ys zero within = refl
index-front (x ∷ xs) ys (suc i) within = index-front xs ys i (omega (arith, within))

pub index-end : (xs : List ℕ) (x : ℕ) → slice_index (xs ++ x ∷ []) (length xs) ≡ x
index-end [] x = refl
index-end (y ∷ xs) x = index-end xs x

-- all are below
abbrev pub AllBelow : ℕ → List ℕ → Type 0
AllBelow n [] = Unit {0}
AllBelow n (c ∷ cs) = (c < n) × AllBelow n cs

pub total-front : (xs ys cs : List ℕ) → AllBelow (length xs) cs → total (xs ++ ys) cs ≡ total xs cs
total-front xs ys [] low = refl
total-front xs ys (c ∷ cs) low = rw (index-front xs ys c low.0, total-front xs ys cs low.1) refl

pub sizes-begin : (done : List ℕ) (nodes : List Node) → (more : List ℕ) × (sizes_from done nodes ≡ done ++ more)
sizes-begin done [] = ([], sym (append-nil done))
sizes-begin done (node ∷ nodes) =
    let x = total done node.children + 1 in
    let rest = sizes-begin (done ++ x ∷ []) nodes in
    (x ∷ rest.0, rest.1 ∙ append_assoc done (x ∷ []) rest.0)

pub size_is : (done : List ℕ) (nodes : List Node) (k n : ℕ) → k < length nodes → n ≡ length done + k → AllBelow n (children_at nodes k)
    → slice_index (sizes_from done nodes) n ≡ total (sizes_from done nodes) (children_at nodes k) + 1
size_is done [] k n within at low = absurd (omega (arith, within))
size_is done (node ∷ nodes) zero n within at low =
    let x = total done node.children + 1 in
    let begin = sizes-begin (done ++ x ∷ []) nodes in
    let here : n ≡ length done = omega (arith, at) in
    let all : AllBelow (length done) node.children = subst (λ m. AllBelow m node.children) here low in
    let whole : sizes_from (done ++ x ∷ []) nodes ≡ done ++ (x ∷ begin.0) = begin.1 ∙ append_assoc done (x ∷ []) begin.0 in
    let long : length done < length (done ++ x ∷ []) = omega (arith, length-append done (x ∷ [])) in
    ap (λ m. slice_index (sizes_from (done ++ x ∷ []) nodes) m) here
    ∙ ap (λ xs. slice_index xs (length done)) begin.1
    ∙ index-front (done ++ x ∷ []) begin.0 (length done) long
    ∙ index-end done x
    ∙ ap (λ m. m + 1) (sym (ap (λ xs. total xs node.children) whole ∙ total-front done (x ∷ begin.0) node.children all))
size_is done (node ∷ nodes) (suc k) n within at low =
    let x = total done node.children + 1 in
    size_is (done ++ x ∷ []) nodes k n (omega (arith, within)) (omega (arith, at, length-append done (x ∷ []))) low

-- all children come before
pub all_below : (n : ℕ) (cs : List ℕ) → ((i c : ℕ) → slice_get cs i ≡ Some c → c < n) → AllBelow n cs
all_below n [] before = tt
all_below n (c ∷ cs) before = (before 0 c refl, all_below n cs (λ i d is. before (suc i) d is))

pub size_at : {nodes : List Node} {parents numbers firsts nexts : List ℕ} (n : ℕ) → Tied nodes parents numbers firsts nexts → n < length nodes
    → slice_index (sizes nodes) n ≡ total (sizes nodes) (children_at nodes n) + 1
size_at {nodes = nodes} n tied within =
    size_is [] nodes n n within (omega arith) (all_below n (children_at nodes n) (λ i c is. (tied.up n i c is).2))

-- how many calls are to come after a node was left
abbrev pub later : List Node → (ℕ → ℕ) → (ℕ → ℕ) → ℕ → ℕ → ℕ → ℕ
later nodes par num root zero n = 0
later nodes par num root (suc more) n =
    if nat_eq n root then 0 else (2 * total (sizes nodes) (siblings nodes par num n) + 1 + later nodes par num root more (par n))

-- how many calls are to come
abbrev pub to_come : List Node → (ℕ → ℕ) → (ℕ → ℕ) → ℕ → Bool → ℕ → ℕ
to_come nodes par num root true n = later nodes par num root (suc root) n + 1
to_come nodes par num root false n = later nodes par num root (suc root) n + 2 * slice_index (sizes nodes) n

pub later_enough : {nodes : List Node} {parents numbers firsts nexts : List ℕ} (root more n : ℕ) → Tied nodes parents numbers firsts nexts → Under nodes root n → root < n + more
    → later nodes (slice_index parents) (slice_index numbers) root more n ≡ later nodes (slice_index parents) (slice_index numbers) root (suc more) n
later_enough root zero n tied under enough = let le = under_le root n tied under in absurd (omega (arith, le, enough))
later_enough {nodes = nodes} {parents = parents} {numbers = numbers} root (suc more) n tied under enough =
    elim (eqb_tells n root) [
      | inl e ↦ rw e.0 refl
      | inr e ↦ rw e.0 (
          let has = has_parent root n tied under e.1 in
          let above = has.before in
          ap (λ m. 2 * total (sizes nodes) (siblings nodes (slice_index parents) (slice_index numbers) n) + 1 + m)
          (later_enough root more (slice_index parents n) tied has.under (omega (arith, above, enough))))
    ]

-- what is to come after a node that isn't the root
pub later_step : {nodes : List Node} {parents numbers firsts nexts : List ℕ} (root n : ℕ) → Tied nodes parents numbers firsts nexts → HasParent nodes parents numbers root n → (n ≡ root → ⊥)
    → later nodes (slice_index parents) (slice_index numbers) root (suc root) n
    ≡ 2 * total (sizes nodes) (siblings nodes (slice_index parents) (slice_index numbers) n) + 1 + later nodes (slice_index parents) (slice_index numbers) root (suc root) (slice_index parents n)
later_step {nodes = nodes} {parents = parents} {numbers = numbers} root n tied has differ =
    let no = ne_eqb n root differ in
    let above = has.before in
    rw no (ap (λ m. 2 * total (sizes nodes) (siblings nodes (slice_index parents) (slice_index numbers) n) + 1 + m)
    (later_enough root root (slice_index parents n) tied has.under (omega (arith, above))))

-- each step leaves less to come
pub less_down : {nodes : List Node} {parents numbers firsts nexts : List ℕ} (root n c : ℕ) (cs : List ℕ) → Tied nodes parents numbers firsts nexts → Under nodes root n → n < length nodes → children_at nodes n ≡ c ∷ cs
    → to_come nodes (slice_index parents) (slice_index numbers) root false c < to_come nodes (slice_index parents) (slice_index numbers) root false n
less_down {nodes = nodes} {parents = parents} {numbers = numbers} root n c cs tied under within are =
    let child = first_child root n c cs tied under are in
    let has = has_parent root c tied child.0 child.3 in
    let step = later_step root c tied has child.3 in
    let size = size_at n tied within in
    let sum : total (sizes nodes) (children_at nodes n) ≡ slice_index (sizes nodes) c + total (sizes nodes) cs = ap (λ xs. total (sizes nodes) xs) are in
    let beside : total (sizes nodes) (siblings nodes (slice_index parents) (slice_index numbers) c) ≡ total (sizes nodes) cs = ap (λ xs. total (sizes nodes) xs) child.2 in
    let above : later nodes (slice_index parents) (slice_index numbers) root (suc root) (slice_index parents c) ≡ later nodes (slice_index parents) (slice_index numbers) root (suc root) n = ap (λ m. later nodes (slice_index parents) (slice_index numbers) root (suc root) m) child.1 in
    omega (arith, step, size, sum, beside, above)

pub less_bare : {nodes : List Node} {parents numbers firsts nexts : List ℕ} (root n : ℕ) → Tied nodes parents numbers firsts nexts → n < length nodes
    → to_come nodes (slice_index parents) (slice_index numbers) root true n < to_come nodes (slice_index parents) (slice_index numbers) root false n
less_bare {nodes = nodes} root n tied within = let size = size_at n tied within in omega (arith, size)

pub less_next : {nodes : List Node} {parents numbers firsts nexts : List ℕ} (root n m : ℕ) (ms : List ℕ) → Tied nodes parents numbers firsts nexts → HasParent nodes parents numbers root n → (n ≡ root → ⊥)
    → siblings nodes (slice_index parents) (slice_index numbers) n ≡ m ∷ ms
    → to_come nodes (slice_index parents) (slice_index numbers) root false m < to_come nodes (slice_index parents) (slice_index numbers) root true n
less_next {nodes = nodes} {parents = parents} {numbers = numbers} root n m ms tied has differ are =
    let next = next_sibling root n m ms tied has are in
    let has_too = has_parent root m tied next.0 next.3 in
    let step = later_step root n tied has differ in
    let step_too = later_step root m tied has_too next.3 in
    let sum : total (sizes nodes) (siblings nodes (slice_index parents) (slice_index numbers) n) ≡ slice_index (sizes nodes) m + total (sizes nodes) ms = ap (λ xs. total (sizes nodes) xs) are in
    let beside : total (sizes nodes) (siblings nodes (slice_index parents) (slice_index numbers) m) ≡ total (sizes nodes) ms = ap (λ xs. total (sizes nodes) xs) next.2 in
    let above : later nodes (slice_index parents) (slice_index numbers) root (suc root) (slice_index parents m) ≡ later nodes (slice_index parents) (slice_index numbers) root (suc root) (slice_index parents n) = ap (λ k. later nodes (slice_index parents) (slice_index numbers) root (suc root) k) next.1 in
    omega (arith, step, step_too, sum, beside, above)

pub less_up : {nodes : List Node} {parents numbers firsts nexts : List ℕ} (root n : ℕ) → Tied nodes parents numbers firsts nexts → HasParent nodes parents numbers root n → (n ≡ root → ⊥)
    → to_come nodes (slice_index parents) (slice_index numbers) root true (slice_index parents n) < to_come nodes (slice_index parents) (slice_index numbers) root true n
less_up root n tied has differ = let step = later_step root n tied has differ in omega (arith, step)
