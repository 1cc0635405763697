-- The states on the way to a prefix.
use Rattle.std.proofs.Common.{◌≡◌, ℕ, suc, ◌+◌, ◌-◌, List, [], ◌∷◌, ◌++◌, length, take, refl, sym, ap, append_assoc, append-nil, ◌∙◌, arith, length-append, get_or}
use Rattle.std.proofs.lemmas.List.{get_or-append-add}
use Rattle.cfg_model.specs.declared.symbol.Sym.{Sym}
use Rattle.cfg_model.specs.LrTables.{state_after}
use Rattle.cfg_model.specs.Table.{Table}
use Rattle.parse_driver.specs.within.LrStack.{onto, states_of, top}

pub states_length : (table : Table) (p : List Sym) → length (states_of table p) ≡ suc (length p)
states_length table [] = refl
states_length table (x ∷ p) =
    let more = length-append (states_of table p) (state_after table (x ∷ p) ∷ []) in
    let ih = states_length table p in
    omega (arith, more, ih)

-- the last state is that after the whole prefix
pub last_state : (table : Table) (p : List Sym) → get_or (states_of table p) (length p) 0 ≡ state_after table p
last_state table [] = refl
last_state table (x ∷ p) =
    let long = states_length table p in
    let at = get_or-append-add (states_of table p) (state_after table (x ∷ p) ∷ []) 0 0 in
    let e : suc (length p) ≡ length (states_of table p) + 0 = omega (arith, long) in
    rw e at

pub top_is : (table : Table) (p : List Sym) → top (states_of table p) ≡ state_after table p
top_is table p =
    let long : length (states_of table p) - 1 ≡ length p = (let l = states_length table p in omega (arith, l)) in
    rw long (last_state table p)

-- the states of a longer prefix begin with those of the shorter one
pub states_onto : (table : Table) (w q : List Sym)
    → (more : List ℕ) × (states_of table (onto w q) ≡ states_of table q ++ more) × (length more ≡ length w)
states_onto table [] q = ([], sym (append-nil (states_of table q)), refl)
states_onto table (x ∷ w) q =
    let (more, is, long) = states_onto table w (x ∷ q) in (
      state_after table (x ∷ q) ∷ more,
      is ∙ append_assoc (states_of table q) (state_after table (x ∷ q) ∷ []) more,
      ap suc long,
    )

pub take_front : {A : Type 0} (a b : List A) → take (length a) (a ++ b) ≡ a
take_front [] b = refl
take_front (x ∷ a) b = ap (λ l. x ∷ l) (take_front a b)

pub popped : (table : Table) (w q : List Sym)
    → take (length (states_of table (onto w q)) - length w) (states_of table (onto w q)) ≡ states_of table q
popped table w q =
    let (more, is, long) = states_onto table w q in
    let size = length-append (states_of table q) more in
    let kept : length (states_of table q ++ more) - length w ≡ length (states_of table q) = omega (arith, size, long) in
    rw (is, kept) (take_front (states_of table q) more)
