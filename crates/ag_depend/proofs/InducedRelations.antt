-- The relations that were made are IDS and IDP.
use Rattle.std.proofs.Common.{◌≡◌, ℕ, ◌+◌, ◌<◌, ◌≤◌, ◌↔◌, inl, inr, ◌∷◌, ◌++◌, [], List, length, Some, take, refl, sym, ◌∙◌, subst, ap, arith, length-append}
use Rattle.std.specs.Prelude.{slice_get, Contains}
use Rattle.std.proofs.lemmas.Bool.{cases_eq, cases_lt}
use Rattle.std.proofs.lemmas.List.{get_or_past}
use Rattle.std.proofs.Math.Seq.{take-append_seam}
use Rattle.std.proofs.lemmas.Option.{slice_get-get_or, slice_get_within, get_or_from_slice_get}
use Rattle.ck_base.specs.Pairs.{Pairs, Relates, Closure, HasNoCycle, one}
use Rattle.ast_types.specs.TypeTable.{family_at}
use Rattle.ck_base.proofs.Representing.{element_at, element_of_first, element_of_second}
use Rattle.ag_model.specs.Attribution.{AttributeGrammar, Occurrence, itself, nth, FamilyAt, attributes_of, children_of}
use Rattle.ag_model.specs.Complete.{IsComplete, IsPlace}
use Rattle.ag_model.specs.Induced.{Idp, Ids}
use Rattle.ag_model.specs.Numbers.{size_of, first_number, number_of, place_count}
use Rattle.ag_model.specs.Ordered.{HasAcyclicIds, IsFirstIdsCycle, name_in}
use Rattle.ag_model.specs.declared.attribution.Place.{Place}
use Rattle.ag_model.proofs.TypesInRange.{family_there, child_there}
use Rattle.ag_model.proofs.IdsJoin.{ids_closed}
use Rattle.ag_model.proofs.PlacesNumbered.{ends_within, few_numbers, one_place}
use Rattle.ag_depend.specs.declared.shapes.Block.{Block}
use Rattle.ag_depend.specs.declared.shapes.Shape.{Shape}
use Rattle.ag_depend.specs.Blocks.{AreShapes}
use Rattle.ag_depend.specs.Promise.{AreIds, AreIdps, SaysIdsCycle, Names}
use Rattle.ag_depend.specs.declared.fault.OrderFault.{OrderFault}
use Rattle.ag_depend.specs.declared.fault.OrderFault.TheVariants.{NotOrdered, NoMemory}
use Rattle.ag_depend.specs.within.Rows.{AreWorks, HaveNoCycle, IsFirstIn}
use Rattle.ag_depend.specs.Shapes.{pairs_of, Needs, directly, lifted, IsWork, AreAllInside, IsSound, NumberedIdp, NumberedIds}
use Rattle.ag_depend.specs.Shapes.NumberedIdp.{direct, lift}
use Rattle.ag_depend.proofs.NumbersAreIds.{IdpAt, idp_of_numbers, ids_of_numbers, numbers_of_idp, numbers_of_ids}
use Rattle.ag_depend.proofs.StepsSoFar.{need_of}

-- the front of what stands before a rest
pub front_taken : {X : Type 0} (xs ys : List X) (n : ℕ) → n ≡ length xs → take n (xs ++ ys) ≡ xs
front_taken xs ys n same = ap (λ k. take k (xs ++ ys)) same ∙ take-append_seam xs ys

-- a relation that isn't there has no pair
pub none_past : (ids : List Pairs) (x a b : ℕ) → Relates (pairs_of ids x) a b → x < length ids
none_past ids x a b r = elim (cases_lt x (length ids)) [
  | inl lt ↦ lt
  | inr past ↦
      let gone : pairs_of ids x ≡ record { size = 0; rows = [] } = get_or_past ids x (record { size = 0; rows = [] }) past in
      let none = ap (λ (p : Pairs). p.size) gone in
      let below = r.0 in
      absurd (omega arith)
]

-- the families of a type are there
pub family_in : (g : AttributeGrammar) → IsComplete g → (t : ℕ) (o : Occurrence) (x : ℕ) → t < length g.table.types → FamilyAt g t o x → x < length g.table.families
family_in g complete t itself x below stands = let there = family_there g complete t below in omega (arith, stands)
family_in g complete t (nth c) x below stands = child_there g complete t c x stands

module _ (g : AttributeGrammar) (complete : IsComplete g) (shapes : List Shape) (are : AreShapes g (length g.table.types) shapes) where
  shape_there : (s : Shape) → Contains shapes s → (t : ℕ) × (t < length g.table.types) × (slice_get shapes t ≡ Some s)
  shape_there s (t, lt, is) = (t, (let count = are.count in omega arith), slice_get-get_or shapes t s lt ∙ ap Some is)

  module _ (ids : List Pairs) (count : length ids ≡ length g.table.families) (sizes : (x : ℕ) → x < length g.table.families → (pairs_of ids x).size ≡ size_of g x) where
    block_inside : (t : ℕ) (s : Shape) (b : Block) → t < length g.table.types → slice_get shapes t ≡ Some s → Contains s.at.items b
        → (b.family < length g.table.families) × (b.base + size_of g b.family ≤ place_count g t) × (b.size ≡ size_of g b.family)
    block_inside t s b below is has =
        let shape = are.each t s is in
        let (o, stands, block) = shape.each b has in
        let ends = ends_within g t o b.family stands in
        let base : b.base ≡ first_number g t o = ap (λ (z : Block). z.base) block in
        (family_in g complete t o b.family below stands, omega arith, ap (λ (z : Block). z.size) block)

    pub all_inside : AreAllInside shapes ids
    all_inside = record {
      inside = λ s has.
          let (t, below, is) = shape_there s has in
          let shape = are.each t s is in
          let size = shape.size in
          record {
            few = let few = few_numbers g complete t (length (children_of g t)) in omega arith;
            family = λ b at. let inside = block_inside t s b below is at in let lt = inside.0 in omega arith;
            fits = λ b at. let inside = block_inside t s b below is at in let le = inside.1 in let same = sizes b.family inside.0 in omega arith;
          };
      sizes = λ s b has at.
          let (t, below, is) = shape_there s has in
          let inside = block_inside t s b below is at in
          inside.2 ∙ sym (sizes b.family inside.0);
    }

    pub are_ids : ((x a b : ℕ) → Relates (pairs_of ids x) a b ↔ NumberedIds shapes x a b) → AreIds g ids
    are_ids exact = record {
      count = count;
      sizes = sizes;
      exact = λ x a b. (
        λ r. let i = ids_of_numbers g complete shapes are x a b ((exact x a b).0 r) in i.ids,
        λ i. (exact x a b).1 (numbers_of_ids g complete shapes are x a b i),
      );
    }

  module _ (ids : List Pairs) (are_all : AreIds g ids) where
    sound : IsSound shapes ids
    sound x a b r = numbers_of_ids g complete shapes are x a b ((are_all.exact x a b).0 r)

    needs_of : (s : Shape) (x y : ℕ) → NumberedIdp shapes s x y → Needs s ids x y
    needs_of s x y (direct _ _ _ has r) = directly r
    needs_of s x y (lift _ b m n _ _ has at first second i) =
        let found = ids_of_numbers g complete shapes are b.family m n i in
        lifted b at (record { a = m; b = n; first = first; second = second; pair = (are_all.exact b.family m n).1 found.ids })

    pub are_idps : (works : List Pairs) → AreWorks shapes ids (length shapes) works → AreIdps g works
    are_idps works work = record {
      count = work.count ∙ are.count;
      sizes = λ t below.
          let (s, is) = element_at shapes t (let count = are.count in omega arith) in
          let w = work.each t s (let count = are.count in omega arith) is in
          let shape = are.each t s is in
          w.size ∙ shape.size;
      exact = λ t u v below u_there v_there.
          let (s, is) = element_at shapes t (let count = are.count in omega arith) in
          let w = work.each t s (let count = are.count in omega arith) is in (
            λ r. idp_is t u v u_there v_there (idp_of_numbers g complete shapes are t s is (number_of g t u) (number_of g t v)
                (need_of shapes s ids (t, slice_get_within shapes t s is, get_or_from_slice_get shapes t s s is) sound (number_of g t u) (number_of g t v)
                (w.only (number_of g t u) (number_of g t v) r))),
            λ i. w.more (number_of g t u) (number_of g t v) (needs_of s (number_of g t u) (number_of g t v) (numbers_of_idp g complete shapes are t s is u v i)),
          );
    }
      where
        idp_is : (t : ℕ) (u v : Place) → IsPlace g t u → IsPlace g t v → IdpAt g complete shapes are t (number_of g t u) (number_of g t v) → Idp g t u v
        idp_is t u v u_there v_there i =
            let first : u ≡ i.a = one_place g t u i.a u_there i.a_there i.from in
            let second : v ≡ i.b = one_place g t v i.b v_there i.b_there i.to in
            subst (Idp g t u) (sym second) (subst (λ z. Idp g t z i.b) (sym first) i.idp)

    -- no cycle, or the first one
    no_cycle : (x a : ℕ) → HasNoCycle (pairs_of ids x) → Closure (Ids g x) a a → ⊥
    no_cycle x a free c = free a ((are_all.exact x a a).1 (ids_closed g x a a c))

    pub acyclic_ids : HaveNoCycle ids (length ids) → HasAcyclicIds g
    acyclic_ids none x a c =
        let r = (are_all.exact x a a).1 (ids_closed g x a a c) in
        none x (none_past ids x a a r) a r

    pub first_cycle_is : (x a : ℕ) → IsFirstIn ids x a → IsFirstIdsCycle g x a
    first_cycle_is x a first = record {
      cycle = let cycle = first.cycle in one a a ((are_all.exact x a a).0 cycle.cycle);
      first_family = λ y lt b c. no_cycle y b (first.before y lt) c;
      first = λ b lt c. let cycle = first.cycle in let le = cycle.first b ((are_all.exact x b b).1 (ids_closed g x b b c)) in absurd (omega arith);
    }

-- one more type's work
pub one_more_work : (shapes : List Shape) (ids : List Pairs) (t : ℕ) (shape : Shape) (works : List Pairs) (work : Pairs) → AreWorks shapes ids t works
    → slice_get shapes t ≡ Some shape → IsWork shape ids work → AreWorks shapes ids (t + 1) (works ++ work ∷ [])
one_more_work shapes ids t shape works work are is last = record {
  count = let count = are.count in let more = length-append works (work ∷ []) in omega arith;
  each = λ s p lt there. elim (cases_eq s t) [
    | inl same ↦
        let e : Some p ≡ Some shape = sym there ∙ ap (slice_get shapes) same ∙ is in
        let equal : p ≡ shape = cc in
        subst (IsWork p ids) (sym (new_read s same)) (subst (λ z. IsWork z ids work) (sym equal) last)
    | inr other ↦ subst (IsWork p ids) (sym (old_read s (omega arith))) (are.each s p (omega arith) there)
  ];
}
  where
    new_read : (s : ℕ) → s ≡ t → pairs_of (works ++ work ∷ []) s ≡ work
    new_read s same =
        let place : length works + 0 ≡ s = let count = are.count in omega arith in
        get_or_from_slice_get (works ++ work ∷ []) s work (record { size = 0; rows = [] })
        (subst (λ z. slice_get (works ++ work ∷ []) z ≡ Some work) place (element_of_second works (work ∷ []) work 0 refl))

    old_read : (s : ℕ) → s < t → pairs_of (works ++ work ∷ []) s ≡ pairs_of works s
    old_read s lt =
        let count = are.count in
        let (w, read) = element_at works s (omega arith) in
        get_or_from_slice_get (works ++ work ∷ []) s w (record { size = 0; rows = [] }) (element_of_first works (work ∷ []) w s read)
        ∙ sym (get_or_from_slice_get works s w (record { size = 0; rows = [] }) read)

-- the fault that names the first cycle reports it
pub reported : (g : AttributeGrammar) (x a : ℕ) (holder target : List ℕ) (fault : OrderFault) → IsFirstIdsCycle g x a → holder ≡ (family_at g.table.families x).name
    → target ≡ name_in (slice_get (attributes_of g x) a) → Names holder target fault → SaysIdsCycle g fault
reported g x a holder target (NotOrdered h t) first holder_is target_is names =
    record { family = x; attribute = a; cycle = first; holder_is = names.0 ∙ holder_is; target_is = names.1 ∙ target_is }
reported g x a holder target NoMemory first holder_is target_is names = tt
