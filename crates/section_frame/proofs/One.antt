-- A line has one reading at most.
use Rattle.std.proofs.Common.{◌≡◌, List, [], ◌∷◌, refl, sym, ap, ◌∙◌, Some}
use Rattle.spec_text.specs.Lexemes.{Lexeme, word}
use Rattle.section_frame.specs.Parts.{Part, Name, Opt, absent, present, ListBy, last, next, Some1, last_one, one_more, Behind, Before, Then, Follow}
use Rattle.section_frame.proofs.Readings.{pair_is}

-- what is read, and what follows it, are one
abbrev pub Same : {V : Type 0} → V → V → List Lexeme → List Lexeme → Type 0
Same v w rest more = (v ≡ w) × (rest ≡ more)

abbrev pub One : {V : Type 0} → Part V → Follow → Type 0
One {V} P F = (tokens rest more : List Lexeme) (v w : V) → F rest → F more → P tokens v rest → P tokens w more → Same v w rest more

pub one_name : (F : Follow) → One Name F
one_name F tokens rest more v w f g is is2 = let e : word v ∷ rest ≡ word w ∷ more = sym is ∙ is2 in ((cc), (cc))

module _ {V : Type 0} (P : Part V) (F : Follow) (one : One P F) where
  pub one_opt : ((tokens rest : List Lexeme) (v : V) → F tokens → P tokens v rest → ⊥) → One (Opt P) F
  one_opt apart _ _ _ _ _ f g (absent tokens) (absent _) = (refl, refl)
  one_opt apart _ _ more _ _ f g (absent tokens) (present _ _ w is) = absurd (apart tokens more w f is)
  one_opt apart _ rest _ _ _ f g (present tokens _ v is) (absent _) = absurd (apart tokens rest v g is)
  one_opt apart _ rest more _ _ f g (present tokens _ v is) (present _ _ w is2) = let same = one tokens rest more v w f g is is2 in (ap (λ x. Some x) same.0, same.1)

  pub one_behind : (token : Lexeme) → One (Behind token P) F
  one_behind token tokens rest more v w f g is is2 =
      let same : is.after ≡ is2.after = (let e = sym is.first ∙ is2.first in cc) in
      one is2.after rest more v w f g (rw same at is.is) is2.is

module _ {V : Type 0} (P : Part V) (E F : Follow) (one : One P E) where
  pub one_before : (token : Lexeme) → ((rest : List Lexeme) → E (token ∷ rest)) → One (Before P token) F
  one_before token ends tokens rest more v w f g is is2 =
      let same = one tokens is.after is2.after v w (rw is.end (ends rest)) (rw is2.end (ends more)) is.is is2.is in
      (same.0, let e = sym is.end ∙ same.1 ∙ is2.end in cc)

  pub one_list : (sep : Lexeme) → ((rest : List Lexeme) → E (sep ∷ rest)) → ((rest : List Lexeme) → F rest → E rest) → ((rest : List Lexeme) → F (sep ∷ rest) → ⊥) → One (ListBy sep P) F
  one_list sep at_sep at_end no_sep _ rest more _ _ f g (last tokens _ v is) (last _ _ w is2) =
      let same = one tokens rest more v w (at_end rest f) (at_end more g) is is2 in (ap (λ x. x ∷ []) same.0, same.1)
  one_list sep at_sep at_end no_sep _ rest more _ _ f g (last tokens _ v is) (next _ after _ w ws is2 others) =
      let same = one tokens rest (sep ∷ after) v w (at_end rest f) (at_sep after) is is2 in absurd (no_sep after (rw same.1 at f))
  one_list sep at_sep at_end no_sep _ rest more _ _ f g (next tokens after _ v vs is others) (last _ _ w is2) =
      let same = one tokens (sep ∷ after) more v w (at_sep after) (at_end more g) is is2 in absurd (no_sep after (rw (← same.1) at g))
  one_list sep at_sep at_end no_sep _ rest more _ _ f g (next tokens after _ v vs is others) (next _ behind _ w ws is2 others2) =
      let same = one tokens (sep ∷ after) (sep ∷ behind) v w (at_sep after) (at_sep behind) is is2 in
      let here : after ≡ behind = (let e = same.1 in cc) in
      let all = one_list sep at_sep at_end no_sep behind rest more vs ws f g (rw here at others) others2 in
      (rw (same.0, all.0) refl, all.1)

  starts_some : ((tokens rest : List Lexeme) (v : V) → P tokens v rest → E tokens) → (tokens rest : List Lexeme) (vs : List V) → Some1 P tokens vs rest → E tokens
  starts_some at_next _ _ _ (last_one tokens rest v is) = at_next tokens rest v is
  starts_some at_next _ _ _ (one_more tokens after rest v vs is others) = at_next tokens after v is

  begins_some : ((tokens rest : List Lexeme) (v : V) → F tokens → P tokens v rest → ⊥) → (tokens rest : List Lexeme) (vs : List V) → F tokens → Some1 P tokens vs rest → ⊥
  begins_some stops _ _ _ f (last_one tokens rest v is) = stops tokens rest v f is
  begins_some stops _ _ _ f (one_more tokens after rest v vs is others) = stops tokens after v f is

  pub one_some : ((tokens rest : List Lexeme) (v : V) → P tokens v rest → E tokens) → ((rest : List Lexeme) → F rest → E rest)
      → ((tokens rest : List Lexeme) (v : V) → F tokens → P tokens v rest → ⊥) → One (Some1 P) F
  one_some at_next at_end stops _ rest more _ _ f g (last_one tokens _ v is) (last_one _ _ w is2) =
      let same = one tokens rest more v w (at_end rest f) (at_end more g) is is2 in (ap (λ x. x ∷ []) same.0, same.1)
  one_some at_next at_end stops _ rest more _ _ f g (last_one tokens _ v is) (one_more _ after _ w ws is2 others) =
      let same = one tokens rest after v w (at_end rest f) (starts_some at_next after more ws others) is is2 in absurd (begins_some stops after more ws (rw same.1 at f) others)
  one_some at_next at_end stops _ rest more _ _ f g (one_more tokens after _ v vs is others) (last_one _ _ w is2) =
      let same = one tokens after more v w (starts_some at_next after rest vs others) (at_end more g) is is2 in absurd (begins_some stops after rest vs (rw (← same.1) at g) others)
  one_some at_next at_end stops _ rest more _ _ f g (one_more tokens after _ v vs is others) (one_more _ behind _ w ws is2 others2) =
      let same = one tokens after behind v w (starts_some at_next after rest vs others) (starts_some at_next behind more ws others2) is is2 in
      let all = one_some at_next at_end stops behind rest more vs ws f g (rw same.1 at others) others2 in
      (rw (same.0, all.0) refl, all.1)

pub one_then : {V W : Type 0} (P : Part V) (Q : Part W) (E F : Follow) → One P E → One Q F → ((tokens : List Lexeme) (w : W) (rest : List Lexeme) → F rest → Q tokens w rest → E tokens) → One (Then P Q) F
one_then P Q E F one two starts tokens rest more v w f g is is2 =
    let same = one tokens is.after is2.after v.0 w.0 (starts is.after v.1 rest f is.second) (starts is2.after w.1 more g is2.second) is.first is2.first in
    let other = two is2.after rest more v.1 w.1 f g (rw same.1 at is.second) is2.second in
    (pair_is v w.0 w.1 same.0 other.0 ∙ sym (pair_is w w.0 w.1 refl refl), other.1)
