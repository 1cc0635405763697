-- What the slot of an item says of it.
use Rattle.std.proofs.Common.{◌≡◌, ℕ, suc, ◌<◌, List, ◌∷◌, refl, ap, subst, ◌∙◌, arith}
use Rattle.std.proofs.lemmas.Option.{slice_get_within, get_or_from_slice_get}
use Rattle.cfg_model.specs.declared.symbol.Sym.{Sym}
use Rattle.cfg_model.specs.Cfg.{Cfg, Rule, IsRule, IsGrammar}
use Rattle.cfg_model.specs.Valid.{Valid, start, closure, move}
use Rattle.cfg_model.proofs.ItemsOfCores.{item_of}
use Rattle.lalr_look.specs.within.Kernel.{code}
use Rattle.lalr_look.specs.within.LookGraph.{slot_or, front_slot, slot_of}
use Rattle.lalr_look.proofs.Items.{small_rule}

pub slot_rule : (g : Cfg) (s m : ℕ) (z : List Sym) → IsRule g s m z → slot_of g s 0 ≡ suc m
slot_rule g s m z is =
    let first = is.from_one in
    let place : s ≡ suc is.place = omega (arith, first) in
    ap (front_slot g) place ∙ ap slot_or is.read

-- the left side of a rule is one of the grammar's nonterminals
pub left_low : (g : Cfg) → IsGrammar g → (s m : ℕ) (z : List Sym) → IsRule g s m z → m < 512
left_low g ok s m z is =
    let one : Rule = record { left = m; right = z } in
    let low = ok.left is.place one (slice_get_within g.rules is.place one is.read) in
    let same = ap (λ r. r.left) (get_or_from_slice_get g.rules is.place one one is.read) in
    let few = ok.few_symbols in
    omega (arith, low, same, few)

-- slot 0 is that of rule 0
pub slot_front : (g : Cfg) (p : List Sym) (r d : ℕ) (y : List Sym) (a : ℕ) → Valid g p r d y a → slot_of g r d ≡ 0 → (r ≡ 0) × (d ≡ 0)
slot_front g p r d y a start e = (refl, refl)
slot_front g p r d y a (closure _ r2 d2 n y2 a2 s _ _ v is begins) e = absurd (let f = slot_rule g r n y is in omega (arith, e, f))
slot_front g p r d y a (move p2 r2 d2 x _ _ v) e = absurd (omega (arith, e))

-- slot m + 1 is that of the rules of m with their dot in front
pub slot_called : (g : Cfg) (p : List Sym) (r d : ℕ) (y : List Sym) (a m : ℕ) → Valid g p r d y a → slot_of g r d ≡ suc m → m < 512
    → (d ≡ 0) × IsRule g r m y
slot_called g p r d y a m start e low = absurd (omega (arith, e))
slot_called g p r d y a m (closure _ r2 d2 n y2 a2 s _ _ v is begins) e low =
    let f = slot_rule g r n y is in
    let same : n ≡ m = omega (arith, e, f) in
    (refl, subst (λ i. IsRule g r i y) same is)
slot_called g p r d y a m (move p2 r2 d2 x _ _ v) e low = absurd (omega (arith, e, low))

-- the other slots are those of one item
pub slot_moved : (g : Cfg) → IsGrammar g → (p : List Sym) (r d : ℕ) (y : List Sym) (a s e : ℕ) → Valid g p r d y a → s < 2048
    → slot_of g r d ≡ code s (suc e) → (r ≡ s) × (d ≡ suc e)
slot_moved g ok p r d y a s e start low is = absurd (omega (arith, is))
slot_moved g ok p r d y a s e (closure _ r2 d2 n y2 a2 _ _ _ v rl begins) low is =
    absurd (let f = slot_rule g r n y rl in let few = left_low g ok r n y rl in omega (arith, is, f, few))
slot_moved g ok p r d y a s e (move p2 r2 d2 x _ _ v) low is =
    let small = small_rule g ok p2 r d2 (x ∷ y) (item_of g p2 r d2 (x ∷ y) a v) in
    (omega (arith, is, low, small), omega (arith, is, low, small))
