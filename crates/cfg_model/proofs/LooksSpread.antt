-- The united lookaheads are the least relation on cores.
use Rattle.std.proofs.Common.{ℕ, ◌↔◌, List, [], ◌∷◌, refl}
use Rattle.cfg_model.specs.declared.symbol.Sym.{Sym}
use Rattle.cfg_model.specs.declared.symbol.Sym.TheVariants.{N}
use Rattle.cfg_model.specs.Cfg.{Cfg}
use Rattle.cfg_model.specs.Valid.{first_of, Valid, start, closure, move, InCore, SameCore, Look, Spreads}

pub same_self : (g : Cfg) (p : List Sym) → SameCore g p p
same_self g p r d y = (λ h. h, λ h. h)

pub same_back : (g : Cfg) (p q : List Sym) → SameCore g p q → SameCore g q p
same_back g p q s r d y = ((s r d y).1, (s r d y).0)

pub same_on : (g : Cfg) (p q o : List Sym) → SameCore g p q → SameCore g q o → SameCore g p o
same_on g p q o s t r d y = (λ h. (t r d y).0 ((s r d y).0 h), λ h. (s r d y).1 ((t r d y).1 h))

-- whether an item is in the core of a longer prefix is said by the shorter prefix's core alone
pub moved_core : (g : Cfg) (p q : List Sym) (x : Sym) (r d : ℕ) (y : List Sym) (a : ℕ)
    → ((r d : ℕ) (y : List Sym) → InCore g p r d y → InCore g q r d y)
    → Valid g (x ∷ p) r d y a → InCore g (x ∷ q) r d y
moved_core g p q x r d y a sub (closure _ r2 d2 b y2 a2 _ _ _ v is (w, der, first)) =
    let (a3, v3) = moved_core g p q x r2 d2 (N b ∷ y2) a2 sub v in
    (first_of w a3, closure _ _ _ _ _ _ _ _ _ v3 is (w, der, refl))
moved_core g p q x r d y a sub (move _ r2 d2 _ _ _ v) =
    let (a3, v3) = sub r2 d2 (x ∷ y) (a, v) in
    (a3, move _ _ _ _ _ _ v3)

-- equal cores move to equal cores
pub same_moved : (g : Cfg) (p q : List Sym) (x : Sym) → SameCore g p q → SameCore g (x ∷ p) (x ∷ q)
same_moved g p q x s r d y = (
  λ h. moved_core g p q x r d y h.0 (λ r d y. (s r d y).0) h.1,
  λ h. moved_core g q p x r d y h.0 (λ r d y. (s r d y).1) h.1,
)

-- what is valid spreads
pub valid_spreads : (g : Cfg) (p : List Sym) (r d : ℕ) (y : List Sym) (a : ℕ)
    → Valid g p r d y a → Spreads g p r d y a
valid_spreads g p r d y a start = Spreads.start [] (same_self g [])
valid_spreads g p r d y a (closure _ r2 d2 b y2 a2 _ _ _ v is begins) =
    Spreads.closure _ _ _ _ _ _ _ _ _ (valid_spreads g p r2 d2 _ a2 v) is begins
valid_spreads g p r d y a (move p2 r2 d2 x _ _ v) =
    Spreads.move p2 _ _ _ x _ _ (valid_spreads g p2 r2 d2 _ a v) (same_self g _)

-- what spreads in a core spreads in each equal core
pub same_spreads : (g : Cfg) (p q : List Sym) (r d : ℕ) (y : List Sym) (a : ℕ)
    → SameCore g p q → Spreads g p r d y a → Spreads g q r d y a
same_spreads g p q r d y a s (Spreads.start _ t) = Spreads.start q (same_on g _ p q t s)
same_spreads g p q r d y a s (Spreads.closure _ r2 d2 b y2 a2 _ _ _ v is begins) =
    Spreads.closure _ _ _ _ _ _ _ _ _ (same_spreads g p q r2 d2 _ a2 s v) is begins
same_spreads g p q r d y a s (Spreads.move o _ r2 d2 x _ _ v t) =
    Spreads.move o q _ _ x _ _ v (same_on g _ p q t s)

-- what spreads is a united lookahead
pub spreads_look : (g : Cfg) (p : List Sym) (r d : ℕ) (y : List Sym) (a : ℕ)
    → Spreads g p r d y a → Look g p r d y a
spreads_look g p r d y a (Spreads.start _ t) = ([], same_back g _ _ t, start)
spreads_look g p r d y a (Spreads.closure _ r2 d2 b y2 a2 _ _ _ v is begins) =
    let (q, s, valid) = spreads_look g p r2 d2 _ a2 v in
    (q, s, closure _ _ _ _ _ _ _ _ _ valid is begins)
spreads_look g p r d y a (Spreads.move o _ r2 d2 x _ _ v t) =
    let (q, s, valid) = spreads_look g o r2 d2 _ a v in
    ((x ∷ q), same_on g p _ _ (same_back g _ _ t) (same_moved g o q x s), move _ _ _ _ _ _ valid)

-- the united lookaheads are the least relation on cores
pub looks_spread : (g : Cfg) (p : List Sym) (r d : ℕ) (y : List Sym) (a : ℕ)
    → Look g p r d y a ↔ Spreads g p r d y a
looks_spread g p r d y a = (
  λ h. same_spreads g h.0 p r d y a (same_back g _ _ h.1) (valid_spreads g h.0 r d y a h.2),
  spreads_look g p r d y a,
)
