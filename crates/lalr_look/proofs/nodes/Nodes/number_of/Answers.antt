use Rattle.std.proofs.Common.{◌≡◌, ℕ, List, [], ◌∷◌, ap, refl, ◌∙◌, ◌<◌, ◌+◌, ◌^◌, subst, subst₂, Some, slice_get, sym, Contains, length, map, arith}
use Rattle.lalr_look.specs.within.Numbered.{Interns, known, AreNumbered}
use Rattle.lalr_look.proofs.Numbering.{finds, absent_where_none, insertion_interns, insertion_numbered, pair_eq, pair_eq-decides}
use Rattle.lalr_look.proofs.nodes.Nodes.number_of.Goals as goal

pub returns-in-Some : goal.returns-in-Some
returns-in-Some c =
    known refl (subst (λ l. slice_get l c.in-Some.index ≡ Some c.args.node) c.self.view_is
    ((finds pair_eq pair_eq-decides c.self.inside.nodes.keys c.args.node c.self.invariant.apart (Some c.in-Some.index) c.in-Some.ensures.index c.in-Some.index).0 refl))

map_same : (l : List (ℕ × ℕ)) → map (λ k. k) l ≡ l
map_same [] = refl
map_same (k ∷ l) = ap (λ r. k ∷ r) (map_same l)

absent : (c : goal.In_ok-index) → Contains c.self.inside.nodes.keys c.args.node → ⊥
absent c = absent_where_none pair_eq pair_eq-decides c.self.inside.nodes.keys c.args.node c.self.invariant.apart (sym c.in_default.ensures.index)

seen_absent : (c : goal.In_ok-index) → Contains (map (λ k. k) c.self.inside.nodes.keys) c.args.node → ⊥
seen_absent c has = absent c (subst (λ l. Contains l c.args.node) (map_same c.self.inside.nodes.keys) has)

pub invariant_of-self-2 : goal.invariant_of-self-2
invariant_of-self-2 c =
    let full = c.if-len-ge4294967295.false in
    let len = c.len.ensures.len in
    let room : length c.self.inside.nodes.keys + 1 < 2 ^ 32 = omega (arith, full, len) in
    subst (λ l. AreNumbered l) (map_same c.insert_full.new.self.keys)
    (insertion_numbered (λ k. k) pair_eq pair_eq-decides c.self.inside.nodes.keys c.insert_full.new.self.keys c.args.node (seen_absent c) c.in_ok-index.ensures.keys
    (subst (λ l. AreNumbered l) (sym (map_same c.self.inside.nodes.keys)) c.self.invariant)
    (subst (λ l. length l + 1 < 2 ^ 32) (sym (map_same c.self.inside.nodes.keys)) room))

pub returns : goal.returns
returns c =
    let old = c.self.inside.nodes.keys in
    let new = c.insert_full.new.self.keys in
    subst₂ (λ a b. Interns {X = ℕ × ℕ} a b c.args.node c.in_ok-index.index) (map_same old ∙ c.self.view_is) (map_same new)
    (insertion_interns (λ k. k) pair_eq pair_eq-decides old new c.args.node (seen_absent c) c.in_ok-index.ensures.keys _ c.in_ok-index.ensures.index)
