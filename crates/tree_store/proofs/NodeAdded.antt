-- A forest with one more node over some of its roots, and links that agree with it again.
use Rattle.std.proofs.Common.{◌≡◌, ℕ, ◌+◌, ◌<◌, ◌≤◌, List, [], ◌∷◌, ◌++◌, length, drop, Some, Bool, true, false, refl, sym, ap, ◌∙◌, subst, arith, suc, zero, ◌⊎◌, inl, inr, get_or, set, length-append, get_or-set_same, get_or-set_other, length-set}
use Rattle.std.specs.Prelude.{slice_get, slice_index, nat_lt}
use Rattle.std.proofs.lemmas.Bool.{lt-ltb, ltb-true, ltb-false}
use Rattle.std.proofs.lemmas.Bool.Decides.{eqb_tells}
use Rattle.std.proofs.lemmas.Option.{slice_get_within}
use Rattle.tree_store.specs.Forest.{Node, IsChild, AreRoots, IsForest}
use Rattle.tree_store.specs.Links.{Labelled, Chain, ends, links, chain, nodes_from, Linked}
use Rattle.tree_store.specs.Linking.{Linking}
use Rattle.tree_store.proofs.LinksAgree.{drop-first, children_linked, length-nodes}

pub nat_lt_tells : (a b : ℕ) → ((nat_lt a b ≡ true) × (a < b)) ⊎ ((nat_lt a b ≡ false) × (b ≤ a))
nat_lt_tells a b = go (nat_lt a b) refl
  where
    go : (x : Bool) → nat_lt a b ≡ x → ((nat_lt a b ≡ true) × (a < b)) ⊎ ((nat_lt a b ≡ false) × (b ≤ a))
    go true e = inl (e, ltb-true a b e)
    go false e = inr (e, ltb-false a b e)

pub same_Some : {x y : ℕ} → Some x ≡ Some y → x ≡ y
same_Some e = cc

-- one more link set
pub linking_more : (cs : List ℕ) (n c v : ℕ) (old new : List ℕ) (value : ℕ → ℕ) → Linking cs n old new value → slice_get cs n ≡ Some c → c < length new
    → ((j k d : ℕ) → slice_get cs j ≡ Some d → slice_get cs k ≡ Some d → j ≡ k) → v ≡ value n → Linking cs (n + 1) old (set new c v) value
linking_more cs n c v old new value linking at within differ is = record {
  size = length-set new c v ∙ linking.size;
  set = λ k d below there. elim (eqb_tells k n) [
    | inl e ↦ (let same : d ≡ c = same_Some (sym there ∙ ap (λ i. slice_get cs i) e.1 ∙ at) in
        ap (λ x. slice_index (set new c v) x) same ∙ get_or-set_same new c v 0 within ∙ is ∙ ap value (sym e.1))
    | inr e ↦ (let other : d ≡ c → ⊥ = λ same. e.1 (differ k n d there (at ∙ ap Some (sym same))) in
        get_or-set_other new c d v 0 other ∙ linking.set k d (let no = e.1 in omega (arith, below, no)) there)
  ];
  kept = λ d none. get_or-set_other new c d v 0 (λ same. none n (at ∙ ap Some (sym same))) ∙ linking.kept d none;
}

-- a chain whose links stay
pub chain_kept : (nexts new : List ℕ) (n : ℕ) (ns : List ℕ) → Chain nexts n ns → ((k c : ℕ) → slice_get ns k ≡ Some c → (slice_index new c ≡ slice_index nexts c) × (c < length new)) → Chain new n ns
chain_kept nexts new n _ (ends _ e) stay = ends n e
chain_kept nexts new n _ (links _ ns within rest) stay =
    let here = stay 0 n refl in
    links n ns here.1 (rw here.0 (chain_kept nexts new (slice_index nexts n) ns rest (λ k c at. stay (suc k) c at)))

pub chain_is : (new : List ℕ) (more n : ℕ) (ns : List ℕ) → length new ≤ 1048577 → Chain new n ns → length ns ≤ more → chain new more n ≡ ns
chain_is new zero n _ few (ends _ e) short = refl
chain_is new zero n _ few (links _ ns within rest) short = absurd (omega (arith, short))
chain_is new (suc more) n _ few (ends _ e) short = elim (nat_lt_tells n (length new)) [ inl t ↦ (let within = t.1 in absurd (omega (arith, within, few, e))) | inr t ↦ rw t.0 refl ]
chain_is new (suc more) n _ few (links _ ns within rest) short = rw (lt-ltb n (length new) within) (ap (λ ms. n ∷ ms) (chain_is new more (slice_index new n) ns few rest (omega (arith, short))))

pub chain_short : (nexts : List ℕ) (more n : ℕ) → length (chain nexts more n) ≤ more
chain_short nexts zero n = omega arith
chain_short nexts (suc more) n = elim (nat_lt_tells n (length nexts)) [ inl t ↦ rw t.0 (let short = chain_short nexts more (slice_index nexts n) in omega (arith, short)) | inr t ↦ rw t.0 (omega arith) ]

-- the chain of the new node
pub new_chain : (cs : List ℕ) (old new : List ℕ) (rest : List ℕ) (k : ℕ) → Linking cs (length cs) old new (λ i. get_or cs (i + 1) 4294967295)
    → ((i c : ℕ) → slice_get cs i ≡ Some c → c < length old) → drop k cs ≡ rest → Chain new (get_or cs k 4294967295) rest
new_chain cs old new [] k linking within is = ends _ (past cs k is)
  where
    past : (cs : List ℕ) (k : ℕ) → drop k cs ≡ [] → get_or cs k 4294967295 ≡ 4294967295
    past [] k is = refl
    past (c ∷ cs) zero is = (cc)
    past (c ∷ cs) (suc k) is = past cs k is
new_chain cs old new (c ∷ rest) k linking within is =
    let at = drop-first cs k c rest is in
    let here = slice_get_within cs k c at.0 in
    let next : suc k ≡ k + 1 = omega arith in
    let size = linking.size in
    let there = within k c at.0 in
    let link = linking.set k c here at.0 in
    rw (read cs k c at.0) (links c rest (omega (arith, size, there)) (rw link (new_chain cs old new rest (k + 1) linking within (subst (λ j. drop j cs ≡ rest) next at.1))))
  where
    read : (cs : List ℕ) (k c : ℕ) → slice_get cs k ≡ Some c → get_or cs k 4294967295 ≡ c
    read [] k c is = (cc)
    read (d ∷ cs) zero c is = (cc)
    read (d ∷ cs) (suc k) c is = read cs k c is

pub nodes-append : (nexts : List ℕ) (labels : List Labelled) (firsts : List ℕ) (label : Labelled) (first : ℕ) → length firsts ≡ length labels
    → nodes_from nexts (labels ++ label ∷ []) (firsts ++ first ∷ []) ≡ nodes_from nexts labels firsts ++ record { ty = label.ty; fields = label.fields; children = chain nexts 8 first } ∷ []
nodes-append nexts [] [] label first same = refl
nodes-append nexts [] (f ∷ firsts) label first same = absurd (omega (arith, same))
nodes-append nexts (t ∷ labels) [] label first same = absurd (omega (arith, same))
nodes-append nexts (t ∷ labels) (f ∷ firsts) label first same = ap (λ ns. record { ty = t.ty; fields = t.fields; children = chain nexts 8 f } ∷ ns) (nodes-append nexts labels firsts label first (omega (arith, same)))

pub nodes-same : (nexts new : List ℕ) (labels : List Labelled) (firsts : List ℕ) → length firsts ≡ length labels → ((n : ℕ) → n < length labels → chain new 8 (slice_index firsts n) ≡ chain nexts 8 (slice_index firsts n))
    → nodes_from new labels firsts ≡ nodes_from nexts labels firsts
nodes-same nexts new [] firsts long same = refl
nodes-same nexts new (t ∷ labels) [] long same = absurd (omega (arith, long))
nodes-same nexts new (t ∷ labels) (f ∷ firsts) long same =
    rw (same 0 (omega arith), nodes-same nexts new labels firsts (omega (arith, long)) (λ n within. same (suc n) (omega (arith, within)))) refl

pub child_of_more : (nodes : List Node) (x : Node) (p i c : ℕ) → IsChild (nodes ++ x ∷ []) p i c
    → ((p < length nodes) × IsChild nodes p i c) ⊎ ((p ≡ length nodes) × (slice_get x.children i ≡ Some c))
child_of_more [] x zero i c is = inr (refl, is)
child_of_more [] x (suc p) i c is = (cc)
child_of_more (n ∷ nodes) x zero i c is = inl (omega arith, is)
child_of_more (n ∷ nodes) x (suc p) i c is = elim (child_of_more nodes x p i c is) [ inl e ↦ inl (let low = e.0 in omega (arith, low), e.1) | inr e ↦ inr (ap suc e.0, e.1) ]

pub index-front : (xs ys : List ℕ) (i : ℕ) → i < length xs → slice_index (xs ++ ys) i ≡ slice_index xs i
index-front [] ys i within = absurd (omega (arith, within))
index-front (x ∷ xs) ys zero within = refl
index-front (x ∷ xs) ys (suc i) within = index-front xs ys i (omega (arith, within))

pub index-end : (xs : List ℕ) (x n : ℕ) → n ≡ length xs → slice_index (xs ++ x ∷ []) n ≡ x
index-end [] x zero e = refl
index-end [] x (suc n) e = absurd (omega (arith, e))
index-end (y ∷ xs) x zero e = absurd (omega (arith, e))
index-end (y ∷ xs) x (suc n) e = index-end xs x n (omega (arith, e))

-- the forest before and after
pub record Added (labels : List Labelled) (parents numbers firsts nexts : List ℕ) (label : Labelled) (cs : List ℕ) (p2 n2 x2 : List ℕ) : Type 0 where
  pub linked : Linked labels parents numbers firsts nexts
  pub roots : AreRoots (nodes_from nexts labels firsts) cs
  pub short : length cs ≤ 8
  pub room : length labels < 1048576
  pub parents_set : Linking cs (length cs) parents p2 (λ k. length labels)
  pub numbers_set : Linking cs (length cs) numbers n2 (λ k. k)
  pub nexts_set : Linking cs (length cs) nexts x2 (λ k. get_or cs (k + 1) 4294967295)

pub old_chain : (labels : List Labelled) (parents numbers firsts nexts : List ℕ) (label : Labelled) (cs p2 n2 x2 : List ℕ) → Added labels parents numbers firsts nexts label cs p2 n2 x2
    → (n : ℕ) → n < length labels → Chain (x2 ++ 4294967295 ∷ []) (slice_index firsts n) (chain nexts 8 (slice_index firsts n))
old_chain labels parents numbers firsts nexts label cs p2 n2 x2 a n within =
    let is = children_linked nexts labels firsts n within a.linked.as_many_firsts in
    chain_kept nexts (x2 ++ 4294967295 ∷ []) _ _ (a.linked.down n within) (λ k c at.
    let child : IsChild (nodes_from nexts labels firsts) n k c = ap (λ ns. slice_get ns k) is ∙ at in
    let up = a.linked.up n k c child in
    let low : c < length x2 = omega (arith, up.2, within, a.nexts_set.size, a.linked.as_many_nexts) in (
      index-front x2 (4294967295 ∷ []) c low ∙ a.nexts_set.kept c (λ j there. a.roots.no_child j c there n k child),
      omega (arith, low, length-append x2 (4294967295 ∷ [])),
    ))

pub old_nodes : (labels : List Labelled) (parents numbers firsts nexts : List ℕ) (label : Labelled) (cs p2 n2 x2 : List ℕ) → Added labels parents numbers firsts nexts label cs p2 n2 x2
    → (n : ℕ) → n < length labels → chain (x2 ++ 4294967295 ∷ []) 8 (slice_index firsts n) ≡ chain nexts 8 (slice_index firsts n)
old_nodes labels parents numbers firsts nexts label cs p2 n2 x2 a n within =
    chain_is (x2 ++ 4294967295 ∷ []) 8 _ _ (omega (arith, a.room, a.nexts_set.size, a.linked.as_many_nexts, length-append x2 (4294967295 ∷ [])))
    (old_chain labels parents numbers firsts nexts label cs p2 n2 x2 a n within) (chain_short nexts 8 (slice_index firsts n))

pub its_chain : (labels : List Labelled) (parents numbers firsts nexts : List ℕ) (label : Labelled) (cs p2 n2 x2 : List ℕ) → Added labels parents numbers firsts nexts label cs p2 n2 x2
    → Chain (x2 ++ 4294967295 ∷ []) (get_or cs 0 4294967295) cs
its_chain labels parents numbers firsts nexts label cs p2 n2 x2 a =
    let all = length-nodes nexts labels firsts a.linked.as_many_firsts in
    let low : (i c : ℕ) → slice_get cs i ≡ Some c → c < length nexts = λ i c at. (let w = a.roots.within i c at in omega (arith, w, all, a.linked.as_many_nexts)) in
    chain_kept x2 (x2 ++ 4294967295 ∷ []) _ _ (new_chain cs nexts x2 cs 0 a.nexts_set low refl) (λ k c at.
    let w = low k c at in
    let there : c < length x2 = omega (arith, w, a.nexts_set.size) in
    (index-front x2 (4294967295 ∷ []) c there, omega (arith, there, length-append x2 (4294967295 ∷ []))))

pub its_children : (labels : List Labelled) (parents numbers firsts nexts : List ℕ) (label : Labelled) (cs p2 n2 x2 : List ℕ) → Added labels parents numbers firsts nexts label cs p2 n2 x2
    → chain (x2 ++ 4294967295 ∷ []) 8 (get_or cs 0 4294967295) ≡ cs
its_children labels parents numbers firsts nexts label cs p2 n2 x2 a =
    chain_is (x2 ++ 4294967295 ∷ []) 8 _ cs (omega (arith, a.room, a.nexts_set.size, a.linked.as_many_nexts, length-append x2 (4294967295 ∷ [])))
    (its_chain labels parents numbers firsts nexts label cs p2 n2 x2 a) a.short

-- the nodes are the old ones and the new one
pub added_nodes : (labels : List Labelled) (parents numbers firsts nexts : List ℕ) (label : Labelled) (cs p2 n2 x2 : List ℕ) → Added labels parents numbers firsts nexts label cs p2 n2 x2
    → nodes_from (x2 ++ 4294967295 ∷ []) (labels ++ label ∷ []) (firsts ++ get_or cs 0 4294967295 ∷ []) ≡ nodes_from nexts labels firsts ++ record { ty = label.ty; fields = label.fields; children = cs } ∷ []
added_nodes labels parents numbers firsts nexts label cs p2 n2 x2 a =
    nodes-append (x2 ++ 4294967295 ∷ []) labels firsts label (get_or cs 0 4294967295) a.linked.as_many_firsts
    ∙ ap (λ ns. ns ++ record { ty = label.ty; fields = label.fields; children = chain (x2 ++ 4294967295 ∷ []) 8 (get_or cs 0 4294967295) } ∷ []) (nodes-same nexts (x2 ++ 4294967295 ∷ []) labels firsts a.linked.as_many_firsts (old_nodes labels parents numbers firsts nexts label cs p2 n2 x2 a))
    ∙ ap (λ ds. nodes_from nexts labels firsts ++ record { ty = label.ty; fields = label.fields; children = ds } ∷ []) (its_children labels parents numbers firsts nexts label cs p2 n2 x2 a)

-- a number stands among these, or doesn't
pub in_or_not : (cs : List ℕ) (c : ℕ) → ((k : ℕ) × (slice_get cs k ≡ Some c)) ⊎ ((k : ℕ) → slice_get cs k ≡ Some c → ⊥)
in_or_not [] c = inr (λ k at. (cc))
in_or_not (d ∷ cs) c = elim (eqb_tells d c) [
  | inl e ↦ inl (0, ap Some e.1)
  | inr e ↦ elim (in_or_not cs c) [ inl there ↦ inl (suc there.0, there.1) | inr free ↦ inr (not_there d cs c e.1 free) ]
]
  where
    not_there : (d : ℕ) (cs : List ℕ) (c : ℕ) → (d ≡ c → ⊥) → ((k : ℕ) → slice_get cs k ≡ Some c → ⊥) → (k : ℕ) → slice_get (d ∷ cs) k ≡ Some c → ⊥
    not_there d cs c differ free zero at = differ (same_Some at)
    not_there d cs c differ free (suc k) at = free k at

pub child_by : (nodes : List Node) (p q i j c : ℕ) → p ≡ q → i ≡ j → IsChild nodes q j c → IsChild nodes p i c
child_by nodes p q i j c ps is child = subst (λ x. IsChild nodes x i c) (sym ps) (subst (λ x. IsChild nodes q x c) (sym is) child)

-- children of old nodes stay, and the new node has its own
pub child_kept : (nodes : List Node) (x : Node) (p i c : ℕ) → IsChild nodes p i c → IsChild (nodes ++ x ∷ []) p i c
child_kept [] x p i c is = (cc)
child_kept (n ∷ nodes) x zero i c is = is
child_kept (n ∷ nodes) x (suc p) i c is = child_kept nodes x p i c is

pub child_new : (nodes : List Node) (x : Node) (p i c : ℕ) → p ≡ length nodes → slice_get x.children i ≡ Some c → IsChild (nodes ++ x ∷ []) p i c
child_new [] x zero i c e is = is
child_new [] x (suc p) i c e is = absurd (omega (arith, e))
child_new (n ∷ nodes) x zero i c e is = absurd (omega (arith, e))
child_new (n ∷ nodes) x (suc p) i c e is = child_new nodes x p i c (omega (arith, e)) is

-- the parent that a link says has the node as child
pub added_back : (labels : List Labelled) (parents numbers firsts nexts : List ℕ) (label : Labelled) (cs p2 n2 x2 : List ℕ) → Added labels parents numbers firsts nexts label cs p2 n2 x2
    → (n : ℕ) → n < length (labels ++ label ∷ []) → (slice_index (p2 ++ 4294967295 ∷ []) n ≡ 4294967295 → ⊥)
    → IsChild (nodes_from (x2 ++ 4294967295 ∷ []) (labels ++ label ∷ []) (firsts ++ get_or cs 0 4294967295 ∷ [])) (slice_index (p2 ++ 4294967295 ∷ []) n) (slice_index (n2 ++ 0 ∷ []) n) n
added_back labels parents numbers firsts nexts label cs p2 n2 x2 a n within some =
    subst (λ ns. IsChild ns (slice_index (p2 ++ 4294967295 ∷ []) n) (slice_index (n2 ++ 0 ∷ []) n) n) (sym (added_nodes labels parents numbers firsts nexts label cs p2 n2 x2 a))
    (elim (nat_lt_tells n (length labels)) [
      | inl t ↦ old_node t.1
      | inr t ↦ (let high = t.1 in absurd (some (index-end p2 4294967295 n (omega (arith, high, within, length-append labels (label ∷ []), a.parents_set.size, a.linked.as_many_parents)))))
    ])
  where
    old_node : n < length labels → IsChild (nodes_from nexts labels firsts ++ record { ty = label.ty; fields = label.fields; children = cs } ∷ []) (slice_index (p2 ++ 4294967295 ∷ []) n) (slice_index (n2 ++ 0 ∷ []) n) n
    old_node low =
        let pf = index-front p2 (4294967295 ∷ []) n (omega (arith, low, a.parents_set.size, a.linked.as_many_parents)) in
        let nf = index-front n2 (0 ∷ []) n (omega (arith, low, a.numbers_set.size, a.linked.as_many_numbers)) in
        elim (in_or_not cs n) [
          | inl e ↦ (let here = slice_get_within cs e.0 n e.1 in
              child_by _ _ (length labels) _ e.0 n (pf ∙ a.parents_set.set e.0 n here e.1) (nf ∙ a.numbers_set.set e.0 n here e.1)
              (child_new (nodes_from nexts labels firsts) _ (length labels) e.0 n (sym (length-nodes nexts labels firsts a.linked.as_many_firsts)) e.1))
          | inr free ↦ child_by _ _ (slice_index parents n) _ (slice_index numbers n) n (pf ∙ a.parents_set.kept n free) (nf ∙ a.numbers_set.kept n free)
              (child_kept (nodes_from nexts labels firsts) _ _ _ n (a.linked.back n low (λ e. some (pf ∙ a.parents_set.kept n free ∙ e))))
        ]

-- the links agree again
pub added_linked : (labels : List Labelled) (parents numbers firsts nexts : List ℕ) (label : Labelled) (cs p2 n2 x2 : List ℕ) → Added labels parents numbers firsts nexts label cs p2 n2 x2
    → Linked (labels ++ label ∷ []) (p2 ++ 4294967295 ∷ []) (n2 ++ 0 ∷ []) (firsts ++ get_or cs 0 4294967295 ∷ []) (x2 ++ 4294967295 ∷ [])
added_linked labels parents numbers firsts nexts label cs p2 n2 x2 a =
    let f = get_or cs 0 4294967295 in
    let long = length-append labels (label ∷ []) in
    let all = length-nodes nexts labels firsts a.linked.as_many_firsts in
    record {
      as_many_parents = omega (arith, long, length-append p2 (4294967295 ∷ []), a.parents_set.size, a.linked.as_many_parents);
      as_many_numbers = omega (arith, long, length-append n2 (0 ∷ []), a.numbers_set.size, a.linked.as_many_numbers);
      as_many_firsts = omega (arith, long, length-append firsts (f ∷ []), a.linked.as_many_firsts);
      as_many_nexts = omega (arith, long, length-append x2 (4294967295 ∷ []), a.nexts_set.size, a.linked.as_many_nexts);
      few = omega (arith, long, a.room);
      down = λ n within. elim (nat_lt_tells n (length labels)) [
        | inl t ↦ (let low = t.1 in
            let here = index-front firsts (f ∷ []) n (omega (arith, low, a.linked.as_many_firsts)) in
            rw (here, old_nodes labels parents numbers firsts nexts label cs p2 n2 x2 a n low) (old_chain labels parents numbers firsts nexts label cs p2 n2 x2 a n low))
        | inr t ↦ (let high = t.1 in
            let here = index-end firsts f n (omega (arith, high, within, long, a.linked.as_many_firsts)) in
            rw (here, its_children labels parents numbers firsts nexts label cs p2 n2 x2 a) (its_chain labels parents numbers firsts nexts label cs p2 n2 x2 a))
      ];
      up = λ p i c is. elim (child_of_more (nodes_from nexts labels firsts) _ p i c (subst (λ ns. IsChild ns p i c) (added_nodes labels parents numbers firsts nexts label cs p2 n2 x2 a) is)) [
        | inl e ↦ (let child = e.1 in let low = e.0 in
            let up = a.linked.up p i c child in
            let free : (k : ℕ) → slice_get cs k ≡ Some c → ⊥ = λ k there. a.roots.no_child k c there p i child in (
              index-front p2 (4294967295 ∷ []) c (omega (arith, up.2, low, all, a.parents_set.size, a.linked.as_many_parents)) ∙ a.parents_set.kept c free ∙ up.0,
              index-front n2 (0 ∷ []) c (omega (arith, up.2, low, all, a.numbers_set.size, a.linked.as_many_numbers)) ∙ a.numbers_set.kept c free ∙ up.1,
              up.2,
            ))
        | inr e ↦ (let w = a.roots.within i c e.1 in let here = slice_get_within cs i c e.1 in let at = e.0 in (
          index-front p2 (4294967295 ∷ []) c (omega (arith, w, all, a.parents_set.size, a.linked.as_many_parents)) ∙ a.parents_set.set i c here e.1 ∙ sym all ∙ sym at,
          index-front n2 (0 ∷ []) c (omega (arith, w, all, a.numbers_set.size, a.linked.as_many_numbers)) ∙ a.numbers_set.set i c here e.1,
          omega (arith, w, at),
        ))
      ];
      back = λ n within some. added_back labels parents numbers firsts nexts label cs p2 n2 x2 a n within some;
    }

-- the lists after all pushes
pub finished : (labels : List Labelled) (parents numbers firsts nexts : List ℕ) (label : Labelled) (cs p2 n2 x2 : List ℕ) (nodes : List Node) (t1 t3 : List Labelled) (p3 n3 f1 f3 x3 : List ℕ) (f : ℕ)
    → Added labels parents numbers firsts nexts label cs p2 n2 x2 → nodes_from nexts labels firsts ≡ nodes
    → t1 ≡ labels → t3 ≡ t1 ++ label ∷ [] → p3 ≡ p2 ++ 4294967295 ∷ [] → n3 ≡ n2 ++ 0 ∷ [] → f1 ≡ firsts → f3 ≡ f1 ++ f ∷ [] → f ≡ get_or cs 0 4294967295 → x3 ≡ x2 ++ 4294967295 ∷ []
    → Linked t3 p3 n3 f3 x3 × (nodes_from x3 t3 f3 ≡ nodes ++ record { ty = label.ty; fields = label.fields; children = cs } ∷ []) × (length t1 ≡ length nodes)
finished labels parents numbers firsts nexts label cs p2 n2 x2 nodes t1 t3 p3 n3 f1 f3 x3 f a view t1is t3is p3is n3is f1is f3is fis x3is =
    let t : t3 ≡ labels ++ label ∷ [] = t3is ∙ ap (λ x. x ++ label ∷ []) t1is in
    let g : f3 ≡ firsts ++ get_or cs 0 4294967295 ∷ [] = f3is ∙ ap (λ x. x ++ f ∷ []) f1is ∙ ap (λ x. firsts ++ x ∷ []) fis in (
      rw (t, p3is, n3is, g, x3is) (added_linked labels parents numbers firsts nexts label cs p2 n2 x2 a),
      rw (t, g, x3is) (added_nodes labels parents numbers firsts nexts label cs p2 n2 x2 a) ∙ ap (λ ns. ns ++ record { ty = label.ty; fields = label.fields; children = cs } ∷ []) view,
      omega (arith, ap (λ x. length x) t1is, length-nodes nexts labels firsts a.linked.as_many_firsts, ap (λ x. length x) view),
    )

pub is_forest : (labels : List Labelled) (parents numbers firsts nexts : List ℕ) (nodes : List Node) → Linked labels parents numbers firsts nexts → nodes_from nexts labels firsts ≡ nodes → IsForest nodes
is_forest labels parents numbers firsts nexts nodes linked view = subst IsForest view (record {
  before = λ p i c is. (linked.up p i c is).2;
  one_place = λ p i q j c is js. (let a = linked.up p i c is in let b = linked.up q j c js in (sym a.0 ∙ b.0, sym a.1 ∙ b.1));
})
