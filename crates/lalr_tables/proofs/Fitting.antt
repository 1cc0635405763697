-- Numbers of items and moves are in range.
use Rattle.std.proofs.Common.{◌≡◌, ℕ, zero, suc, ◌<◌, ◌≤◌, List, [], ◌∷◌, length, All, Contains, refl, subst, arith, get_or, Vec, Global}
use Rattle.std.proofs.lemmas.Option.{slice_get-get_or}
use Rattle.ck_base.specs.BitSet.{BitSet}
use Rattle.cfg_model.specs.declared.symbol.Sym.{Sym}
use Rattle.cfg_model.specs.Cfg.{Cfg}
use Rattle.cfg_model.specs.Valid.{Valid}
use Rattle.cfg_model.specs.Cores.{CoreList, IsCores, items_at, moves_at}
use Rattle.cfg_model.proofs.InRange.{number_of_rule}
use Rattle.lalr_look.proofs.Turns.{contained}
use Rattle.lalr_look.specs.Promise.{sets_of, sets_at}

pub rule_in : (g : Cfg) (p : List Sym) (r d : ℕ) (y : List Sym) (a : ℕ) → Valid g p r d y a → r ≤ length g.rules
rule_in g p r d y a Valid.start = omega arith
rule_in g p r d y a (Valid.closure _ r2 d2 n y2 a2 s b _ v is begins) = (number_of_rule g s n y is).1
rule_in g p r d y a (Valid.move p2 r2 d2 x _ _ v) = rule_in g p2 r d2 (x ∷ y) a v

pub rules_in : (g : Cfg) (cores : CoreList) → IsCores g cores → (n : ℕ) → n < length cores.items → (items : List (ℕ × ℕ)) → items ≡ items_at cores n
    → All (λ item. item.0 ≤ length g.rules) items
rules_in g cores c n low items e i d under =
    let (p, some, is) = c.each n low in
    let item = get_or items i d in
    let has = subst (λ l. Contains l item) e (contained items i item (slice_get-get_or items i d under)) in
    let (y, (a, v)) = (is.items (item.0) (item.1)).0 has in
    rule_in g p (item.0) (item.1) y a v

pub targets_in : (g : Cfg) (cores : CoreList) → IsCores g cores → length cores.items ≤ 4096 → (n : ℕ) → n < length cores.items
    → (moves : List (Sym × ℕ)) → moves ≡ moves_at cores n
    → All (λ m. m.1 < 4096) moves
targets_in g cores c few n low moves e i d under =
    let (p, some, is) = c.each n low in
    let move = get_or moves i d in
    let has = subst (λ l. Contains l move) e (contained moves i move (slice_get-get_or moves i d under)) in
    let inside = ((c.moves p n (move.0) (move.1) is).0 has).1.inside in
    omega (arith, inside, few)

-- the sets of a core are those of its vector
pub sets_read : (looks : List (Vec BitSet Global)) (n : ℕ) (d : Vec BitSet Global) → n < length looks → sets_at (sets_of looks) n ≡ (get_or looks n d).items
sets_read [] n d low = absurd (omega (arith, low))
sets_read (x ∷ looks) zero d low = refl
sets_read (x ∷ looks) (suc n) d low = sets_read looks n d (omega (arith, low))

pub sets_count : (looks : List (Vec BitSet Global)) → length (sets_of looks) ≡ length looks
sets_count [] = refl
sets_count (x ∷ looks) = (let e = sets_count looks in omega (arith, e))
