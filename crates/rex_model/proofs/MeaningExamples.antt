-- What expressions and rules of the program mean, tried on cases that are worked by hand.
use Rattle.std.proofs.Common.{◌≡◌, ℕ, zero, suc, ◌^◌, ◌-◌, List, [], ◌∷◌, Some, None, true, false, refl, sym, ap, ◌∙◌, arith}
use Rattle.std.proofs.Math.Path.{fun_ext}
use Rattle.std.proofs.lemmas.Bool.{and_left, le-ltb}
use Rattle.std.specs.Prelude.{codes}
use Rattle.std.specs.Borrow.{Bor}
use Rattle.ck_base.specs.BitSet.{BitSet}
use Rattle.rex_model.specs.Language.{none, bytes, class, sequence, alternative, star, plus, optional}
use Rattle.rex_model.specs.Meaning.{meaning, set_of}
use Rattle.rex_model.specs.Rules.{Rule}
use Rattle.rex_model.specs.RuleMeaning.{contains, rule_of}
use Rattle.rex_model.specs.declared.regex.Regex.{Regex}
use Rattle.rex_model.specs.declared.regex.Regex.TheVariants as regex
use Rattle.rex_model.specs.declared.rules.ScanRule.{ScanRule}
use Rattle.rex_model.proofs.Meanings.{meaning-Bytes, meaning-Class, meaning-Seq, meaning-Alt, meaning-Star, meaning-Plus, meaning-Opt}

-- a reference to a value, which lies at an address
abbrev at : {X : Type 0} → ℕ → X → Bor X
at address x = record { ref_ptr = (1, address); now = x }

-- the class of the letters a to z: bits 97 to 122
abbrev a_to_z : List ℕ
a_to_z = 0 ∷ (2 ^ 59 - 2 ^ 33) ∷ 0 ∷ 0 ∷ []

-- one letter or more
abbrev name : Regex
name = regex.Plus (at 0 (regex.Class a_to_z))

-- the expression of a string
abbrev keyword : Regex
keyword = regex.Bytes (at 0 (codes "if"))

name_meaning : meaning name ≡ plus (class (set_of a_to_z))
name_meaning = meaning-Plus (at 0 (regex.Class a_to_z)) ∙ ap plus (meaning-Class a_to_z)

keyword_meaning : meaning keyword ≡ bytes (codes "if")
keyword_meaning = meaning-Bytes (at 0 (codes "if"))

-- bits 97 and 122 are the letters a and z, and their neighbours aren't in
letters_alone : (set_of a_to_z 96 ≡ false) × (set_of a_to_z 97 ≡ true) × (set_of a_to_z 122 ≡ true) × (set_of a_to_z 123 ≡ false)
letters_alone = (refl, refl, refl, refl)

-- two keywords, one after the other
two_keywords : meaning (regex.Seq (at 0 (keyword ∷ keyword ∷ [])))
    ≡ sequence (bytes (codes "if")) (sequence (bytes (codes "if")) (bytes []))
two_keywords = meaning-Seq (at 0 (keyword ∷ keyword ∷ [])) ∙ rw keyword_meaning

-- a name as an option, the keyword as the only alternative, and any number of names
forms : (meaning (regex.Opt (at 0 name)) ≡ optional (plus (class (set_of a_to_z))))
    × (meaning (regex.Alt (at 0 (keyword ∷ []))) ≡ alternative (bytes (codes "if")) none)
    × (meaning (regex.Star (at 0 name)) ≡ star (plus (class (set_of a_to_z))))
forms = (
  meaning-Opt (at 0 name) ∙ ap optional name_meaning,
  meaning-Alt (at 0 (keyword ∷ [])) ∙ rw keyword_meaning,
  meaning-Star (at 0 name) ∙ ap star name_meaning,
)

-- the keyword in state 0, with a set of some size at some address
abbrev keyword_rule : BitSet → ℕ → ScanRule
keyword_rule states address = record {
  states = states;
  body = at address keyword;
  context = None;
  token = Some 1;
  next = None;
}

abbrev small : BitSet
small = record { size = 1; words = 1 ∷ [] }

abbrev large : BitSet
large = record { size = 2; words = 1 ∷ [] }

same_states : (state : ℕ) → contains small state ≡ contains large state
same_states zero = refl
same_states (suc zero) = refl
same_states (suc (suc state)) =
    and_left _ _ (le-ltb (suc (suc state)) 1 (omega arith)) ∙ sym (and_left _ _ (le-ltb (suc (suc state)) 2 (omega arith)))

-- neither the set's size nor where the expression lies counts: these rules are one
one_rule : rule_of (keyword_rule small 0) ≡ rule_of (keyword_rule large 8)
one_rule = rw (fun_ext same_states)

-- no parts in a row are the empty string
one_meaning : meaning (regex.Seq (at 0 [])) ≡ meaning (regex.Bytes (at 8 []))
one_meaning = meaning-Seq (at 0 []) ∙ sym (meaning-Bytes (at 8 []))

-- the same words aren't enough: what is optional twice is another expression
other_meaning : meaning (regex.Opt (at 0 keyword)) ≡ meaning (regex.Opt (at 0 (regex.Opt (at 0 keyword)))) → ⊥
other_meaning same =
    let once = meaning-Opt (at 0 keyword) in
    let twice = meaning-Opt (at 0 (regex.Opt (at 0 keyword))) in
    let word = keyword_meaning in
    cc

-- one state more is another rule
other_states : rule_of (keyword_rule small 0) ≡ rule_of (keyword_rule (record { size = 2; words = 3 ∷ [] }) 0) → ⊥
other_states same =
    let one : contains small 1 ≡ contains (record { size = 2; words = 3 ∷ [] }) 1 = ap (λ (r : Rule). r.active 1) same in
    cc

-- no context isn't the context of the empty word
other_context : rule_of (keyword_rule small 0)
    ≡ rule_of (record (keyword_rule small 0) { context = Some (at 0 (regex.Bytes (at 0 []))) }) → ⊥
other_context same = let e = ap (λ (r : Rule). r.context) same in cc
