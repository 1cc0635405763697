-- Without a conflict a parser finishes a word in one way.
use Rattle.std.proofs.Common.{◌≡◌, ◌≢◌, ℕ, ◌⊎◌, List, [], ◌∷◌, refl, sym, ap, ap₂, ◌∙◌, arith, Some, None, slice_get, inl, inr}
use Rattle.cfg_model.specs.declared.symbol.Sym.{Sym}
use Rattle.cfg_model.specs.declared.symbol.Sym.TheVariants.{T, N}
use Rattle.cfg_model.specs.Cfg.{Cfg, Rule, IsRule}
use Rattle.cfg_model.specs.Derivation.{Move, shift, reduce}
use Rattle.cfg_model.specs.LalrConflicts.{Completes}
use Rattle.parse_driver.specs.within.LrStack.{onto, Finishes, accepts, shifts, reduces, NoConflict}

some_path : (a b : Rule) → Some a ≡ Some b → a ≡ b
some_path a b e = cc

pub same_rule : (g : Cfg) (r n m : ℕ) (w x : List Sym) → IsRule g r n w → IsRule g r m x → (n ≡ m) × (w ≡ x)
same_rule g r n m w x a b =
    let places : a.place ≡ b.place = omega (arith, a.from_one, b.from_one) in
    let first = a.read in
    let second : slice_get g.rules a.place ≡ Some (record { left = m; right = x }) = rw places b.read in
    let one : Rule = record { left = n; right = w } in
    let two : Rule = record { left = m; right = x } in
    let rules : one ≡ two = some_path one two (sym first ∙ second) in
    (ap (λ rule. rule.left) rules, ap (λ rule. rule.right) rules)

pub onto_back : (w p q : List Sym) → onto w p ≡ onto w q → p ≡ q
onto_back [] p q e = e
onto_back (x ∷ w) p q e = let more : x ∷ p ≡ x ∷ q = onto_back w (x ∷ p) (x ∷ q) e in cc

pub same_or_not : (r s : ℕ) → (r ≡ s) ⊎ (r ≢ s)
same_or_not r s = grind arith

pub one_completes : (g : Cfg) → NoConflict g → (p : List Sym) (r s t : ℕ) → Completes g p r t → Completes g p s t → r ≡ s
one_completes g free p r s t a b = elim (same_or_not r s) [ inl e ↦ e | inr e ↦ absurd (free t r (Some s) (p, a, b, e)) ]

pub one_parse : (g : Cfg) → NoConflict g → (p : List Sym) (v : List ℕ) (ps qs : List (Move ℕ))
    → Finishes g p v ps → Finishes g p v qs → ps ≡ qs
one_parse g free p v ps qs (accepts _ a) (accepts _ b) = refl
one_parse g free p v ps qs (accepts _ a) (reduces _ q r n w _ ps2 is e c h) =
    let same = one_completes g free p 0 r g.terminals a c in
    let one = is.from_one in
    absurd (omega (arith, same, one))
one_parse g free p v ps qs (shifts _ t v2 ps2 a h) (shifts _ _ _ qs2 b k) =
    ap (λ l. shift t ∷ l) (one_parse g free (T t ∷ p) v2 ps2 qs2 h k)
one_parse g free p v ps qs (shifts _ t v2 ps2 a h) (reduces _ q r n w _ qs2 is e c k) =
    absurd (free t r None (p, c, a))
one_parse g free p v ps qs (reduces _ q r n w _ ps2 is e c h) (accepts _ b) =
    let same = one_completes g free p 0 r g.terminals b c in
    let one = is.from_one in
    absurd (omega (arith, same, one))
one_parse g free p v ps qs (reduces _ q r n w _ ps2 is e c h) (shifts _ t v2 qs2 a k) =
    absurd (free t r None (p, c, a))
one_parse g free p v ps qs (reduces _ q r n w _ ps2 is e c h) (reduces _ q2 s m x _ qs2 is2 e2 c2 k) =
    let same : r ≡ s = one_completes g free p r s _ c c2 in
    let (lefts, rights) = same_rule g r n m w x is (rw same is2) in
    let stacks : q ≡ q2 = onto_back w q q2 (sym e ∙ (e2 ∙ ap (λ l. onto l q2) (sym rights))) in
    let k2 : Finishes g (N n ∷ q) v qs2 = rw (lefts, stacks) k in
    let more = one_parse g free (N n ∷ q) v ps2 qs2 h k2 in
    ap₂ (λ i l. reduce i ∷ l) same more
