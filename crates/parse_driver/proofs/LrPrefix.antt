-- What a complete item says of the prefix: its right side stands last, and behind what called it.
use Rattle.std.proofs.Common.{◌≡◌, ℕ, suc, ◌≤◌, List, [], ◌∷◌, ◌++◌, length, refl, sym, ap, append_assoc, append-nil, ◌∙◌, arith, length-append}
use Rattle.cfg_model.specs.declared.symbol.Sym.{Sym}
use Rattle.cfg_model.specs.declared.symbol.Sym.TheVariants.{N}
use Rattle.cfg_model.specs.Cfg.{Cfg, IsRule}
use Rattle.cfg_model.specs.Valid.{Valid, start, closure, move, InCore, HasCore}
use Rattle.cfg_model.specs.LalrConflicts.{Completes}
use Rattle.parse_driver.specs.within.LrStack.{onto}

-- an item of a core stands over the symbols before its dot
pub record Over (g : Cfg) (p : List Sym) (r d : ℕ) (y : List Sym) (a : ℕ) : Type 0 where
  pub below : List Sym
  pub front : List Sym
  pub prefix : p ≡ onto front below
  pub long : length front ≡ d
  pub begun : Valid g below r 0 (front ++ y) a

pub onto_last : (w q : List Sym) (x : Sym) → onto (w ++ (x ∷ [])) q ≡ x ∷ onto w q
onto_last [] q x = refl
onto_last (z ∷ w) q x = onto_last w (z ∷ q) x

pub over : (g : Cfg) (p : List Sym) (r d : ℕ) (y : List Sym) (a : ℕ) → Valid g p r d y a → Over g p r d y a
over g p r d y a start = record { below = []; front = []; prefix = refl; long = refl; begun = start }
over g p r d y a (closure _ r2 d2 n y2 a2 s b _ v is begins) =
    record { below = p; front = []; prefix = refl; long = refl; begun = closure _ _ _ _ _ _ _ _ _ v is begins }
over g p r d y a (move p2 r2 d2 x _ _ v) =
    let o = over g p2 r2 d2 (x ∷ y) a v in
    let long : length (o.front ++ (x ∷ [])) ≡ suc d2 =
    (let more = length-append o.front (x ∷ []) in let l = o.long in omega (arith, more, l)) in
    record {
      below = o.below;
      front = o.front ++ (x ∷ []);
      prefix = ap (λ q. x ∷ q) o.prefix ∙ sym (onto_last o.front o.below x);
      long = long;
      begun = rw (append_assoc o.front (x ∷ []) y) o.begun;
    }

-- what an item with its dot in front came from
pub record Called (g : Cfg) (p : List Sym) (r : ℕ) (w : List Sym) : Type 0 where
  pub left : ℕ
  pub is_rule : IsRule g r left w
  pub after : HasCore g (N left ∷ p)

pub called : (g : Cfg) (p : List Sym) (r d : ℕ) (w : List Sym) (a : ℕ) → d ≡ 0 → 1 ≤ r → Valid g p r d w a → Called g p r w
called g p r d w a zero_ one start = absurd (omega arith)
called g p r d w a zero_ one (closure _ r2 d2 n y2 a2 _ _ _ v is begins) =
    record { left = n; is_rule = is; after = (r2, suc d2, y2, (a2, move p r2 d2 (N n) y2 a2 v)) }
called g p r d w a zero_ one (move p2 r2 d2 x _ _ v) = absurd (omega arith)

-- a complete item of a core with a lookahead that is united in
pub completed : (g : Cfg) (p : List Sym) (r t : ℕ) → Completes g p r t → (d : ℕ) × InCore g p r d []
completed g p r t (d, (q, same, v)) = (d, (same r d []).1 (t, v))

-- a rule that can be reduced: what the prefix was before its right side
pub record Reduces (g : Cfg) (p : List Sym) (r : ℕ) : Type 0 where
  pub below : List Sym
  pub left : ℕ
  pub right : List Sym
  pub is_rule : IsRule g r left right
  pub prefix : p ≡ onto right below
  pub after : HasCore g (N left ∷ below)

pub can_reduce : (g : Cfg) (p : List Sym) (r t : ℕ) → 1 ≤ r → Completes g p r t → Reduces g p r
can_reduce g p r t one c =
    let (d, (a, v)) = completed g p r t c in
    let o = over g p r d [] a v in
    let w : o.front ++ [] ≡ o.front = append-nil o.front in
    let began : Valid g o.below r 0 o.front a = rw w at o.begun in
    let k = called g o.below r 0 o.front a refl one began in
    record { below = o.below; left = k.left; right = o.front; is_rule = k.is_rule; prefix = o.prefix; after = k.after }
