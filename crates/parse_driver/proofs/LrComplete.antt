-- A parser makes the steps of each derivation.
use Rattle.std.proofs.Common.{◌≡◌, ℕ, suc, ◌+◌, List, [], ◌∷◌, ◌++◌, length, refl, ap, append_assoc, append-nil, ◌∙◌, arith}
use Rattle.cfg_model.specs.declared.symbol.Sym.{Sym}
use Rattle.cfg_model.specs.declared.symbol.Sym.TheVariants.{T, N}
use Rattle.cfg_model.specs.Cfg.{Cfg}
use Rattle.cfg_model.specs.Derivation.{Forest, yield, Move, reduce, postorder, Derive, nothing, token, rule}
use Rattle.cfg_model.specs.Valid.{first_of, Valid, start, closure, move, Look}
use Rattle.cfg_model.proofs.Around.{first_of-append}
use Rattle.cfg_model.proofs.Forests.{steps_of_derive}
use Rattle.cfg_model.proofs.LooksSpread.{same_self}
use Rattle.parse_driver.specs.within.LrStack.{onto, Finishes, accepts, shifts, reduces}

-- what is valid is united in
pub valid_look : (g : Cfg) (p : List Sym) (r d : ℕ) (y : List Sym) (a : ℕ) → Valid g p r d y a → Look g p r d y a
valid_look g p r d y a v = (p, same_self g p, v)

-- the dot moves over all that stands behind it
pub moved_over : (g : Cfg) (p : List Sym) (r d : ℕ) (y : List Sym) (a : ℕ) → Valid g p r d y a
    → Valid g (onto y p) r (d + length y) [] a
moved_over g p r d [] a v = let e : d + 0 ≡ d = omega arith in rw e v
moved_over g p r d (x ∷ y) a v =
    let e : suc d + length y ≡ d + suc (length y) = omega arith in
    let h = moved_over g (x ∷ p) r (suc d) y a (move p r d x y a v) in
    rw e at h

-- With an item that is valid with the lookahead that comes after what the symbols behind its dot
-- derive, the parser makes the derivation's steps and goes on as it does after them.
pub goes : (g : Cfg) (p : List Sym) (r d : ℕ) (ss : List Sym) (f : Forest ℕ) (rest : List ℕ) (a : ℕ) (qs : List (Move ℕ))
    → Derive (λ t. t) g ss f → Valid g p r d ss a → first_of rest g.terminals ≡ a
    → Finishes g (onto ss p) rest qs → Finishes g p (yield f ++ rest) (postorder f ++ qs)
goes g p r d ss f rest a qs nothing v next h = h
goes g p r d ss f rest a qs (token t k u f2 is e) v next h =
    let after = goes g (T t ∷ p) r (suc d) u f2 rest a qs e (move p r d (T t) u a v) next h in
    rw is (shifts p t _ _ (r, d, u, (a, v)) after)
goes g p r d ss f rest a qs (rule s n w u c f2 is dc e) v next h =
    let b : ℕ = first_of (yield f2) a in
    let there : first_of (yield f2 ++ rest) g.terminals ≡ b =
    first_of-append (yield f2) rest g.terminals ∙ ap (first_of (yield f2)) next in
    let begun : Valid g p s 0 w b = closure p r d n u a s b w v is (yield f2, steps_of_derive g u f2 e, refl) in
    let after = goes g (N n ∷ p) r (suc d) u f2 rest a qs e (move p r d (N n) u a v) next h in
    let done = valid_look g _ _ _ _ _ (moved_over g p s 0 w b begun) in
    let reduced = reduces (onto w p) p s n w _ _ is refl (0 + length w, (rw there done)) after in
    let whole = goes g p s 0 w c (yield f2 ++ rest) b _ dc begun there reduced in
    rw (append_assoc (yield c) (yield f2) rest, append_assoc (postorder c) (reduce s ∷ postorder f2) qs) whole

-- each sentence is accepted, with the steps of each of its derivations
pub complete : (g : Cfg) (f : Forest ℕ) → Derive (λ t. t) g (N g.start ∷ []) f → Finishes g [] (yield f) (postorder f)
complete g f d =
    let last : Valid g (N g.start ∷ []) 0 1 [] g.terminals = move [] 0 0 (N g.start) [] g.terminals start in
    let end = accepts (N g.start ∷ []) (1, valid_look g _ _ _ _ _ last) in
    let all = goes g [] 0 0 (N g.start ∷ []) f [] g.terminals [] d start refl end in
    rw (append-nil (yield f), append-nil (postorder f)) at all
