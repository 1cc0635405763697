-- The empty word is in the language exactly where `has_empty` says so.
use Rattle.std.proofs.Common.{◌≡◌, ℕ, List, [], ◌∷◌, ◌++◌, Bool, true, false, ◌&&◌, ◌||◌, ◌⊎◌, refl, sym, inl, inr}
use Rattle.rex_model.specs.Language.{Re, none, bytes, class, sequence, alternative, star, plus, optional, no_more, Language}
use Rattle.rex_model.specs.Positions.{has_empty}

-- two words whose join is empty are empty
pub both_empty : (u v : List ℕ) → [] ≡ u ++ v → (u ≡ []) × (v ≡ [])
both_empty [] v e = (refl, sym e)
both_empty (b ∷ u) v e = cc

-- `&&` from its parts
pub and_from : (a b : Bool) → a ≡ true → b ≡ true → (a && b) ≡ true
and_from a b x y = cc

-- the parts of an `&&`
pub and_parts : (a b : Bool) → (a && b) ≡ true → (a ≡ true) × (b ≡ true)
and_parts true b x = (refl, x)
and_parts false b x = cc

-- `||` from its first part
pub or_first : (a b : Bool) → a ≡ true → (a || b) ≡ true
or_first a b x = cc

-- `||` from its second part
pub or_second : (a b : Bool) → b ≡ true → (a || b) ≡ true
or_second true b x = refl
or_second false b x = x

-- one of the parts of an `||`
pub or_parts : (a b : Bool) → (a || b) ≡ true → (a ≡ true) ⊎ (b ≡ true)
or_parts true b x = inl refl
or_parts false b x = inr x

-- `has_empty` says so where the empty word is in the language
pub empty_of : (r : Re) → Language r [] → has_empty r ≡ true
empty_of none h = elim h [ ]
empty_of (bytes []) h = refl
empty_of (bytes (b ∷ bs)) h = cc
empty_of (class set) (byte, is, among) = cc
empty_of (sequence r s) (u, v, is, first, second) =
    let e = both_empty u v is in
    and_from _ _ (empty_of r (rw e.0 at first)) (empty_of s (rw e.1 at second))
empty_of (alternative r s) (inl h) = or_first _ _ (empty_of r h)
empty_of (alternative r s) (inr h) = or_second _ _ (empty_of s h)
empty_of (star r) h = refl
empty_of (plus r) (u, v, is, first, more) =
    let e = both_empty u v is in
    empty_of r (rw e.0 at first)
empty_of (optional r) h = refl

-- the empty word is in the language where `has_empty` says so
pub has_empty_of : (r : Re) → has_empty r ≡ true → Language r []
has_empty_of none h = (cc)
has_empty_of (bytes []) h = refl
has_empty_of (bytes (b ∷ bs)) h = (cc)
has_empty_of (class set) h = (cc)
has_empty_of (sequence r s) h =
    let e = and_parts (has_empty r) (has_empty s) h in
    ([], [], refl, has_empty_of r e.0, has_empty_of s e.1)
has_empty_of (alternative r s) h = elim (or_parts (has_empty r) (has_empty s) h)
    [ inl e ↦ inl (has_empty_of r e) | inr e ↦ inr (has_empty_of s e) ]
has_empty_of (star r) h = no_more
has_empty_of (plus r) h = ([], [], refl, has_empty_of r h, no_more)
has_empty_of (optional r) h = inl refl
