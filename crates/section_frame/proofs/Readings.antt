-- How the parts of a line are read, from those that they are made of.
use Rattle.std.proofs.Common.{◌≡◌, ℕ, ◌⊎◌, inl, inr, List, [], ◌∷◌, ◌++◌, refl, sym, ap, ◌∙◌, Option, Some, None, append_assoc}
use Rattle.spec_text.specs.Lexemes.{Lexeme, word}
use Rattle.section_frame.specs.Parts.{Part, Fixed, Name, Opt, absent, present, ListBy, last, next, Some1, last_one, one_more, Behind, Before, Then, Follow, Reading, NoReading}

-- a name
pub name_reading : (F : Follow) (tokens rest : List Lexeme) (name : List ℕ) → Name tokens name rest → Reading Name F tokens name rest
name_reading F tokens rest name is = record { is = is; only = λ other more follows is2. (let e : word other ∷ more ≡ word name ∷ rest = sym is2 ∙ is in (cc), let e : word other ∷ more ≡ word name ∷ rest = sym is2 ∙ is in cc) }

module _ {V : Type 0} (P : Part V) (F : Follow) where
  -- an optional part
  pub opt_present : (tokens rest : List Lexeme) (v : V) → Reading P F tokens v rest → (F tokens → ⊥) → Reading (Opt P) F tokens (Some v) rest
  opt_present tokens rest v reading starts = record { is = present tokens rest v reading.is; only = λ w more follows is. only w more follows is }
    where
      only : (w : Option V) (more : List Lexeme) → F more → Opt P tokens w more → (w ≡ Some v) × (more ≡ rest)
      only _ _ follows (absent _) = absurd (starts follows)
      only _ _ follows (present _ more w is) = let same = reading.only w more follows is in (ap (λ x. Some x) same.0, same.1)

  pub opt_absent : (tokens : List Lexeme) → NoReading P F tokens → Reading (Opt P) F tokens None tokens
  opt_absent tokens none = record { is = absent tokens; only = λ w more follows is. only w more follows is }
    where
      only : (w : Option V) (more : List Lexeme) → F more → Opt P tokens w more → (w ≡ None) × (more ≡ tokens)
      only _ _ follows (absent _) = (refl, refl)
      only _ _ follows (present _ more w is) = absurd (none w more follows is)

  pub opt_none : (tokens : List Lexeme) → NoReading P F tokens → (F tokens → ⊥) → NoReading (Opt P) F tokens
  opt_none tokens none starts = λ w more follows is. no_opt w more follows is
    where
      no_opt : (w : Option V) (more : List Lexeme) → F more → Opt P tokens w more → ⊥
      no_opt _ _ follows (absent _) = starts follows
      no_opt _ _ follows (present _ more w is) = none w more follows is

  -- behind a fixed token
  pub behind : (token : Lexeme) (tokens after rest : List Lexeme) (v : V) → Fixed token tokens after → Reading P F after v rest → Reading (Behind token P) F tokens v rest
  behind token tokens after rest v first reading = record {
    is = record { after = after; first = first; is = reading.is };
    only = λ w more follows is. let same : is.after ≡ after = (let e = sym is.first ∙ first in cc) in reading.only w more follows (rw same at is.is);
  }

  pub none_behind : (token : Lexeme) (tokens after : List Lexeme) → Fixed token tokens after → NoReading P F after → NoReading (Behind token P) F tokens
  none_behind token tokens after first none = λ w more follows is.
      let same : is.after ≡ after = (let e = sym is.first ∙ first in cc) in none w more follows (rw same at is.is)

  pub not_behind : (token : Lexeme) (tokens : List Lexeme) → ((after : List Lexeme) → Fixed token tokens after → ⊥) → NoReading (Behind token P) F tokens
  not_behind token tokens none = λ w more follows is. none is.after is.first

module _ {V : Type 0} (P : Part V) (E F : Follow) (token : Lexeme) (ends : (rest : List Lexeme) → E (token ∷ rest)) where
  -- before a fixed token
  pub before : (tokens after rest : List Lexeme) (v : V) → Reading P E tokens v after → Fixed token after rest → Reading (Before P token) F tokens v rest
  before tokens after rest v reading end = record {
    is = record { after = after; is = reading.is; end = end };
    only = λ w more follows is.
        let same = reading.only w is.after (rw is.end (ends more)) is.is in
        (same.0, let e = sym is.end ∙ same.1 ∙ end in cc);
  }

  pub none_before : (tokens : List Lexeme) → NoReading P E tokens → NoReading (Before P token) F tokens
  none_before tokens none = λ w more follows is. none w is.after (rw is.end (ends more)) is.is

  pub not_before : (tokens after : List Lexeme) (v : V) → Reading P E tokens v after → ((rest : List Lexeme) → Fixed token after rest → ⊥) → NoReading (Before P token) F tokens
  not_before tokens after v reading none = λ w more follows is.
      let same = reading.only w is.after (rw is.end (ends more)) is.is in
      none more (sym same.1 ∙ is.end)

pub pair_is : {V W : Type 0} (pair : V × W) (v : V) (w : W) → pair.0 ≡ v → pair.1 ≡ w → pair ≡ (v, w)
pair_is (a, b) v w first second = rw (first, second) refl

module _ {V W : Type 0} (P : Part V) (Q : Part W) (E F : Follow) (starts : (tokens : List Lexeme) (w : W) (rest : List Lexeme) → F rest → Q tokens w rest → E tokens) where
  -- one after the other
  pub none_first : (tokens : List Lexeme) → NoReading P E tokens → NoReading (Then P Q) F tokens
  none_first tokens none = λ pair more follows is. none pair.0 is.after (starts is.after pair.1 more follows is.second) is.first

  pub none_second : (tokens after : List Lexeme) (v : V) → Reading P E tokens v after → NoReading Q F after → NoReading (Then P Q) F tokens
  none_second tokens after v first none = λ pair more follows is.
      let same = first.only pair.0 is.after (starts is.after pair.1 more follows is.second) is.first in
      none pair.1 more follows (rw same.1 at is.second)

module _ {V : Type 0} (sep : Lexeme) (P : Part V) (E F : Follow) (at_comma : (rest : List Lexeme) → E (sep ∷ rest)) (at_end : (rest : List Lexeme) → F rest → E rest)
    (no_comma : (rest : List Lexeme) → F (sep ∷ rest) → ⊥) where
  -- what the list goes on with behind a comma
  pub record Goes (rest : List Lexeme) (vs ws : List V) (more : List Lexeme) : Type 0 where
    pub after : List Lexeme
    pub others : List V
    pub are : rest ≡ sep ∷ after
    pub all : ws ≡ vs ++ others
    pub is : ListBy sep P after others more

  -- the list so far
  pub record ListSoFar (tokens rest : List Lexeme) (vs : List V) : Type 0 where
    pub is : ListBy sep P tokens vs rest
    pub only : (ws : List V) (more : List Lexeme) → F more → ListBy sep P tokens ws more → ((ws ≡ vs) × (more ≡ rest)) ⊎ Goes rest vs ws more

  pub list_first : (tokens rest : List Lexeme) (v : V) → Reading P E tokens v rest → ListSoFar tokens rest (v ∷ [])
  list_first tokens rest v reading = record { is = last tokens rest v reading.is; only = λ ws more follows is. only ws more follows is }
    where
      only : (ws : List V) (more : List Lexeme) → F more → ListBy sep P tokens ws more → ((ws ≡ v ∷ []) × (more ≡ rest)) ⊎ Goes rest (v ∷ []) ws more
      only _ _ follows (last _ more w is) = let same = reading.only w more (at_end more follows) is in inl (ap (λ x. x ∷ []) same.0, same.1)
      only _ _ follows (next _ after more w ws is others) =
          let same = reading.only w (sep ∷ after) (at_comma after) is in
          inr (record { after = after; others = ws; are = sym same.1; all = ap (λ x. x ∷ ws) same.0; is = others })

  at_list_end : (tokens rest after behind : List Lexeme) (vs : List V) (v : V) → ListBy sep P tokens vs rest → rest ≡ sep ∷ after → P after v behind → ListBy sep P tokens (vs ++ v ∷ []) behind
  at_list_end _ _ after behind _ v (last tokens rest w is) are one = next tokens after behind w (v ∷ []) (rw are at is) (last after behind v one)
  at_list_end _ _ after behind _ v (next tokens between rest w ws is others) are one = next tokens between behind w (ws ++ v ∷ []) is (at_list_end between rest after behind ws v others are one)

  pub list_more : (tokens rest after behind : List Lexeme) (vs : List V) (v : V) → ListSoFar tokens rest vs → rest ≡ sep ∷ after → Reading P E after v behind
      → ListSoFar tokens behind (vs ++ v ∷ [])
  list_more tokens rest after behind vs v so are reading = record {
    is = at_list_end tokens rest after behind vs v so.is are reading.is;
    only = λ ws more follows is. on ws more follows (so.only ws more follows is);
  }
    where
      again : (ws others : List V) (more : List Lexeme) → ws ≡ vs ++ others → ((others ≡ v ∷ []) × (more ≡ behind)) ⊎ Goes behind (v ∷ []) others more
          → ((ws ≡ vs ++ v ∷ []) × (more ≡ behind)) ⊎ Goes behind (vs ++ v ∷ []) ws more
      again ws others more all (inl same) = inl (all ∙ ap (λ l. vs ++ l) same.0, same.1)
      again ws others more all (inr goes) = inr (record {
        after = goes.after;
        others = goes.others;
        are = goes.are;
        all = all ∙ ap (λ l. vs ++ l) goes.all ∙ sym (append_assoc vs (v ∷ []) goes.others);
        is = goes.is;
      })

      on : (ws : List V) (more : List Lexeme) → F more → ((ws ≡ vs) × (more ≡ rest)) ⊎ Goes rest vs ws more → ((ws ≡ vs ++ v ∷ []) × (more ≡ behind)) ⊎ Goes behind (vs ++ v ∷ []) ws more
      on ws more follows (inl same) = absurd (no_comma after (rw (same.1, are) at follows))
      on ws more follows (inr goes) =
          let here : goes.after ≡ after = (let e = sym goes.are ∙ are in cc) in
          again ws goes.others more goes.all ((list_first after behind v reading).only goes.others more follows (rw here at goes.is))

  pub list_none : (tokens rest after : List Lexeme) (vs : List V) → ListSoFar tokens rest vs → rest ≡ sep ∷ after → NoReading P E after → NoReading (ListBy sep P) F tokens
  list_none tokens rest after vs so are none = λ ws more follows is. on ws more follows (so.only ws more follows is)
    where
      no_list : (others : List V) (more : List Lexeme) → F more → ListBy sep P after others more → ⊥
      no_list _ _ follows (last _ more w is) = none w more (at_end more follows) is
      no_list _ _ follows (next _ between more w ws is others) = none w (sep ∷ between) (at_comma between) is

      on : (ws : List V) (more : List Lexeme) → F more → ((ws ≡ vs) × (more ≡ rest)) ⊎ Goes rest vs ws more → ⊥
      on ws more follows (inl same) = no_comma after (rw (same.1, are) at follows)
      on ws more follows (inr goes) =
          let here : goes.after ≡ after = (let e = sym goes.are ∙ are in cc) in
          no_list goes.others more follows (rw here at goes.is)

  pub list_none_first : (tokens : List Lexeme) → NoReading P E tokens → NoReading (ListBy sep P) F tokens
  list_none_first tokens none = λ ws more follows is. no_list ws more follows is
    where
      no_list : (others : List V) (more : List Lexeme) → F more → ListBy sep P tokens others more → ⊥
      no_list _ _ follows (last _ more w is) = none w more (at_end more follows) is
      no_list _ _ follows (next _ between more w ws is others) = none w (sep ∷ between) (at_comma between) is

module _ {V : Type 0} (P : Part V) (E F : Follow) (at_next : (tokens rest : List Lexeme) (v : V) → P tokens v rest → E tokens) (at_end : (rest : List Lexeme) → F rest → E rest)
    (stops : (tokens rest : List Lexeme) (v : V) → F tokens → P tokens v rest → ⊥) where
  starts_some : (tokens rest : List Lexeme) (vs : List V) → Some1 P tokens vs rest → E tokens
  starts_some _ _ _ (last_one tokens rest v is) = at_next tokens rest v is
  starts_some _ _ _ (one_more tokens after rest v vs is others) = at_next tokens after v is

  -- what goes on behind those so far
  pub record GoesOn (rest : List Lexeme) (vs ws : List V) (more : List Lexeme) : Type 0 where
    pub others : List V
    pub all : ws ≡ vs ++ others
    pub is : Some1 P rest others more

  -- those so far
  pub record SomeSoFar (tokens rest : List Lexeme) (vs : List V) : Type 0 where
    pub is : Some1 P tokens vs rest
    pub only : (ws : List V) (more : List Lexeme) → F more → Some1 P tokens ws more → ((ws ≡ vs) × (more ≡ rest)) ⊎ GoesOn rest vs ws more

  pub some_first : (tokens rest : List Lexeme) (v : V) → Reading P E tokens v rest → SomeSoFar tokens rest (v ∷ [])
  some_first tokens rest v reading = record { is = last_one tokens rest v reading.is; only = λ ws more follows is. only ws more follows is }
    where
      only : (ws : List V) (more : List Lexeme) → F more → Some1 P tokens ws more → ((ws ≡ v ∷ []) × (more ≡ rest)) ⊎ GoesOn rest (v ∷ []) ws more
      only _ _ follows (last_one _ more w is) = let same = reading.only w more (at_end more follows) is in inl (ap (λ x. x ∷ []) same.0, same.1)
      only _ more follows (one_more _ after _ w ws is others) =
          let same = reading.only w after (starts_some after more ws others) is in
          inr (record { others = ws; all = ap (λ x. x ∷ ws) same.0; is = rw same.1 at others })

  at_some_end : (tokens rest behind : List Lexeme) (vs : List V) (v : V) → Some1 P tokens vs rest → P rest v behind → Some1 P tokens (vs ++ v ∷ []) behind
  at_some_end _ _ behind _ v (last_one tokens rest w is) one = one_more tokens rest behind w (v ∷ []) is (last_one rest behind v one)
  at_some_end _ _ behind _ v (one_more tokens between rest w ws is others) one = one_more tokens between behind w (ws ++ v ∷ []) is (at_some_end between rest behind ws v others one)

  pub some_more : (tokens rest behind : List Lexeme) (vs : List V) (v : V) → SomeSoFar tokens rest vs → Reading P E rest v behind → SomeSoFar tokens behind (vs ++ v ∷ [])
  some_more tokens rest behind vs v so reading = record {
    is = at_some_end tokens rest behind vs v so.is reading.is;
    only = λ ws more follows is. on ws more follows (so.only ws more follows is);
  }
    where
      again : (ws others : List V) (more : List Lexeme) → ws ≡ vs ++ others → ((others ≡ v ∷ []) × (more ≡ behind)) ⊎ GoesOn behind (v ∷ []) others more
          → ((ws ≡ vs ++ v ∷ []) × (more ≡ behind)) ⊎ GoesOn behind (vs ++ v ∷ []) ws more
      again ws others more all (inl same) = inl (all ∙ ap (λ l. vs ++ l) same.0, same.1)
      again ws others more all (inr goes) = inr (record {
        others = goes.others;
        all = all ∙ ap (λ l. vs ++ l) goes.all ∙ sym (append_assoc vs (v ∷ []) goes.others);
        is = goes.is;
      })

      on : (ws : List V) (more : List Lexeme) → F more → ((ws ≡ vs) × (more ≡ rest)) ⊎ GoesOn rest vs ws more → ((ws ≡ vs ++ v ∷ []) × (more ≡ behind)) ⊎ GoesOn behind (vs ++ v ∷ []) ws more
      on ws more follows (inl same) = absurd (stops rest behind v (rw same.1 at follows) reading.is)
      on ws more follows (inr goes) = again ws goes.others more goes.all ((some_first rest behind v reading).only goes.others more follows goes.is)

  no_some : (tokens : List Lexeme) → NoReading P E tokens → (vs : List V) (more : List Lexeme) → F more → Some1 P tokens vs more → ⊥
  no_some _ none _ _ follows (last_one _ more w is) = none w more (at_end more follows) is
  no_some _ none _ more follows (one_more _ after _ w ws is others) = none w after (starts_some after more ws others) is

  pub some_none : (tokens : List Lexeme) → NoReading P E tokens → NoReading (Some1 P) F tokens
  some_none tokens none = λ ws more follows is. no_some tokens none ws more follows is

  pub some_end : (tokens rest : List Lexeme) (vs : List V) → SomeSoFar tokens rest vs → NoReading P E rest → Reading (Some1 P) F tokens vs rest
  some_end tokens rest vs so none = record { is = so.is; only = λ ws more follows is. on ws more follows (so.only ws more follows is) }
    where
      on : (ws : List V) (more : List Lexeme) → F more → ((ws ≡ vs) × (more ≡ rest)) ⊎ GoesOn rest vs ws more → (ws ≡ vs) × (more ≡ rest)
      on ws more follows (inl same) = same
      on ws more follows (inr goes) = absurd (no_some rest none goes.others more follows goes.is)
