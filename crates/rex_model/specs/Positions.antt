-- The positions of a regular expression: the byte places of its strings and classes, after Glushkov.
-- They are numbered from left to right, from a first number k on.
use Rattle.std.specs.Prelude.{◌≡◌, ℕ, ◌+◌, ◌<◌, ◌≤◌, ◌⊎◌, Bool, true, false, ◌&&◌, ◌||◌, List, [], ◌∷◌, length, IsTrue, All}
use Rattle.ck_base.specs.BitSet.{BitSet, Has}
use Rattle.rex_model.specs.Language.{Re, none, bytes, class, sequence, alternative, star, plus, optional, IsIn}
use Rattle.rex_model.specs.Rules.{Rule, trailing}

-- how many positions there are: one for each byte of a string and one for each class
abbrev pub position_count : Re → ℕ
position_count none = 0
position_count (bytes string) = length string
position_count (class set) = 1
position_count (sequence r s) = position_count r + position_count s
position_count (alternative r s) = position_count r + position_count s
position_count (star r) = position_count r
position_count (plus r) = position_count r
position_count (optional r) = position_count r

-- whether the empty word is in the language
abbrev pub has_empty : Re → Bool
has_empty none = false
has_empty (bytes []) = true
has_empty (bytes (b ∷ bs)) = false
has_empty (class set) = false
has_empty (sequence r s) = has_empty r && has_empty s
has_empty (alternative r s) = has_empty r || has_empty s
has_empty (star r) = true
has_empty (plus r) = has_empty r
has_empty (optional r) = true

-- position p of a string, whose first one is k, takes the byte
abbrev pub TakesIn : List ℕ → ℕ → ℕ → ℕ → Type 0
TakesIn [] k p byte = ⊥
TakesIn (b ∷ bs) k p byte = ((p ≡ k) × (byte ≡ b)) ⊎ TakesIn bs (k + 1) p byte

-- position p takes the byte: it is the byte of the string, or in the class, at that place
abbrev pub Takes : Re → ℕ → ℕ → ℕ → Type 0
Takes none k p byte = ⊥
Takes (bytes string) k p byte = TakesIn string k p byte
Takes (class set) k p byte = (p ≡ k) × IsIn set byte
Takes (sequence r s) k p byte = Takes r k p byte ⊎ Takes s (k + position_count r) p byte
Takes (alternative r s) k p byte = Takes r k p byte ⊎ Takes s (k + position_count r) p byte
Takes (star r) k p byte = Takes r k p byte
Takes (plus r) k p byte = Takes r k p byte
Takes (optional r) k p byte = Takes r k p byte

-- a word may begin at position p
abbrev pub First : Re → ℕ → ℕ → Type 0
First none k p = ⊥
First (bytes string) k p = (p ≡ k) × (0 < length string)
First (class set) k p = p ≡ k
First (sequence r s) k p = First r k p ⊎ (IsTrue (has_empty r) × First s (k + position_count r) p)
First (alternative r s) k p = First r k p ⊎ First s (k + position_count r) p
First (star r) k p = First r k p
First (plus r) k p = First r k p
First (optional r) k p = First r k p

-- a word may end with position p
abbrev pub Last : Re → ℕ → ℕ → Type 0
Last none k p = ⊥
Last (bytes string) k p = (k ≤ p) × (p + 1 ≡ k + length string)
Last (class set) k p = p ≡ k
Last (sequence r s) k p = Last s (k + position_count r) p ⊎ (IsTrue (has_empty s) × Last r k p)
Last (alternative r s) k p = Last r k p ⊎ Last s (k + position_count r) p
Last (star r) k p = Last r k p
Last (plus r) k p = Last r k p
Last (optional r) k p = Last r k p

-- position q may come directly after position p in a word
abbrev pub Follow : Re → ℕ → ℕ → ℕ → Type 0
Follow none k p q = ⊥
Follow (bytes string) k p q = (k ≤ p) × (q ≡ p + 1) × (q < k + length string)
Follow (class set) k p q = ⊥
Follow (sequence r s) k p q =
    Follow r k p q ⊎ (Follow s (k + position_count r) p q ⊎ (Last r k p × First s (k + position_count r) q))
Follow (alternative r s) k p q = Follow r k p q ⊎ Follow s (k + position_count r) p q
Follow (star r) k p q = Follow r k p q ⊎ (Last r k p × First r k q)
Follow (plus r) k p q = Follow r k p q ⊎ (Last r k p × First r k q)
Follow (optional r) k p q = Follow r k p q

-- position q comes after the byte was taken at some position of the set
abbrev pub Moves : Re → ℕ → BitSet → ℕ → ℕ → Type 0
Moves r k from byte q = (p : ℕ) × Has from p × Takes r k p byte × Follow r k p q

-- a word may end with the byte, taken at some position of the set
abbrev pub Ends : Re → ℕ → BitSet → ℕ → Type 0
Ends r k from byte = (p : ℕ) × Has from p × Takes r k p byte × Last r k p

-- a set of this size has room for the positions of each rule's body, and for those of its context
abbrev pub HasRoomFor : ℕ → List Rule → Type 0
HasRoomFor size rules =
    All (λ rule. (position_count rule.body ≤ size) × (position_count (trailing rule.context) ≤ size)) rules
