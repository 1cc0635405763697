-- Parts that stand more than once, as they are read.
use Rattle.std.proofs.Common.{◌≡◌, ◌⊎◌, inl, inr, List, [], ◌∷◌, ◌++◌, refl, sym, ap, ◌∙◌, subst, append_assoc, append-nil, Option, Some, None}
use Rattle.spec_text.specs.Lexemes.{Lexeme}
use Rattle.section_frame.specs.Parts.{Part, Follow, ListOf, Opt, absent, present, Fixed, Reading, NoReading, comma}
use Rattle.section_frame.proofs.Readings.{ListSoFar, list_first, list_more, list_none, list_none_first, Goes}
use Rattle.section_frame.specs.Read.{Rep, no_part, one_part, EndsList, EndsParts, GainsPart}

-- lists
module _ {V : Type 0} (P : Part V) (E : Follow) (at_comma : (rest : List Lexeme) → E (comma ∷ rest)) where
  abbrev pub ListedSoFar : List Lexeme → List Lexeme → List V → Type 0
  ListedSoFar = ListSoFar comma P E (EndsList E) at_comma (λ rest ends. ends.0) (λ rest ends. ends.1 rest refl)

  pub listed_first : (tokens rest : List Lexeme) (v : V) → Reading P E tokens v rest → ListedSoFar tokens rest (v ∷ [])
  listed_first = list_first comma P E (EndsList E) at_comma (λ rest ends. ends.0) (λ rest ends. ends.1 rest refl)

  pub listed_more : (tokens rest after behind : List Lexeme) (vs : List V) (v : V) → ListedSoFar tokens rest vs → rest ≡ comma ∷ after
      → Reading P E after v behind → ListedSoFar tokens behind (vs ++ v ∷ [])
  listed_more = list_more comma P E (EndsList E) at_comma (λ rest ends. ends.0) (λ rest ends. ends.1 rest refl)

  pub listed_none : (tokens rest after : List Lexeme) (vs : List V) → ListedSoFar tokens rest vs → rest ≡ comma ∷ after
      → NoReading P E after → NoReading (ListOf P) (EndsList E) tokens
  listed_none = list_none comma P E (EndsList E) at_comma (λ rest ends. ends.0) (λ rest ends. ends.1 rest refl)

  pub listed_none_first : (tokens : List Lexeme) → NoReading P E tokens → NoReading (ListOf P) (EndsList E) tokens
  listed_none_first = list_none_first comma P E (EndsList E) at_comma (λ rest ends. ends.0) (λ rest ends. ends.1 rest refl)

  pub listed_end : (tokens rest : List Lexeme) (vs : List V) → ListedSoFar tokens rest vs
      → ((after : List Lexeme) → Fixed comma rest after → ⊥) → Reading (ListOf P) (EndsList E) tokens vs rest
  listed_end tokens rest vs so none = record { is = so.is; only = λ ws more ends is. on ws more (so.only ws more ends is) }
    where
      on : (ws : List V) (more : List Lexeme)
          → ((ws ≡ vs) × (more ≡ rest)) ⊎ Goes comma P E (EndsList E) at_comma (λ rest ends. ends.0) (λ rest ends. ends.1 rest refl) rest vs ws more
          → (ws ≡ vs) × (more ≡ rest)
      on ws more (inl same) = same
      on ws more (inr goes) = absurd (none goes.after goes.are)

-- none or more
module _ {V : Type 0} (P : Part V) (E : Follow)
    (at_next : (tokens rest : List Lexeme) (v : V) → P tokens v rest → E tokens) where
  -- what goes on behind those so far
  pub record GoesOn (rest : List Lexeme) (vs ws : List V) (more : List Lexeme) : Type 0 where
    pub others : List V
    pub all : ws ≡ vs ++ others
    pub is : Rep P rest others more

  -- those so far
  pub record RepSoFar (tokens rest : List Lexeme) (vs : List V) : Type 0 where
    pub is : Rep P tokens vs rest
    pub only : (ws : List V) (more : List Lexeme) → EndsParts P E more → Rep P tokens ws more → GoesOn rest vs ws more

  pub rep_first : (tokens : List Lexeme) → RepSoFar tokens tokens []
  rep_first tokens = record { is = no_part tokens; only = λ ws more ends is. record { others = ws; all = refl; is = is } }

  at_rep_end : (tokens rest behind : List Lexeme) (vs : List V) (v : V) → Rep P tokens vs rest → P rest v behind
      → Rep P tokens (vs ++ v ∷ []) behind
  at_rep_end _ _ behind _ v (no_part tokens) one = one_part tokens behind behind v [] one (no_part behind)
  at_rep_end _ _ behind _ v (one_part tokens after rest w ws is others) one =
      one_part tokens after behind w (ws ++ v ∷ []) is (at_rep_end after rest behind ws v others one)

  starts : (tokens more : List Lexeme) (vs : List V) → EndsParts P E more → Rep P tokens vs more → E tokens
  starts _ _ _ ends (no_part tokens) = ends.0
  starts _ _ _ ends (one_part tokens after rest v vs is others) = at_next tokens after v is

  pub rep_more : (tokens rest behind : List Lexeme) (vs : List V) (v : V) → RepSoFar tokens rest vs → Reading P E rest v behind
      → RepSoFar tokens behind (vs ++ v ∷ [])
  rep_more tokens rest behind vs v so reading = record {
    is = at_rep_end tokens rest behind vs v so.is reading.is;
    only = λ ws more ends is. let goes = so.only ws more ends is in on ws goes.others rest more reading goes.all ends goes.is;
  }
    where
      on : (ws others : List V) (from more : List Lexeme) → Reading P E from v behind → ws ≡ vs ++ others → EndsParts P E more → Rep P from others more
          → GoesOn behind (vs ++ v ∷ []) ws more
      on ws _ _ more reading all ends (no_part _) = absurd (ends.1 v behind reading.is)
      on ws _ _ more reading all ends (one_part from after _ w others is more_of) =
          let same = reading.only w after (starts after more others ends more_of) is in
          record {
            others = others;
            all = all ∙ ap (λ x. vs ++ x ∷ others) same.0 ∙ sym (append_assoc vs (v ∷ []) others);
            is = subst (λ l. Rep P l others more) same.1 more_of;
          }

  pub rep_end : (tokens rest : List Lexeme) (vs : List V) → RepSoFar tokens rest vs → NoReading P E rest
      → Reading (Rep P) (EndsParts P E) tokens vs rest
  rep_end tokens rest vs so none = record {
    is = so.is;
    only = λ ws more ends is. let goes = so.only ws more ends is in on ws goes.others rest more none goes.all ends goes.is;
  }
    where
      on : (ws others : List V) (from more : List Lexeme) → NoReading P E from → ws ≡ vs ++ others → EndsParts P E more → Rep P from others more
          → (ws ≡ vs) × (more ≡ from)
      on ws _ _ more none all ends (no_part _) = (all ∙ append-nil vs, refl)
      on ws _ _ more none all ends (one_part from after _ w others is more_of) =
          absurd (none w after (starts after more others ends more_of) is)

-- one that may be missing
module _ {V : Type 0} (P : Part V) (E : Follow) where
  pub is_present : (tokens rest : List Lexeme) (v : V) → Reading P E tokens v rest → Reading (Opt P) (EndsParts P E) tokens (Some v) rest
  is_present tokens rest v reading = record { is = present tokens rest v reading.is; only = λ w more ends is. only w tokens more reading ends is }
    where
      only : (w : Option V) (from more : List Lexeme) → Reading P E from v rest → EndsParts P E more → Opt P from w more → (w ≡ Some v) × (more ≡ rest)
      only _ _ _ reading ends (absent from) = absurd (ends.1 v rest reading.is)
      only _ _ _ reading ends (present from more w is) = let same = reading.only w more ends.0 is in (ap (λ x. Some x) same.0, same.1)

  pub is_absent : (tokens : List Lexeme) → NoReading P E tokens → Reading (Opt P) (EndsParts P E) tokens None tokens
  is_absent tokens none = record { is = absent tokens; only = λ w more ends is. only w tokens more none ends is }
    where
      only : (w : Option V) (from more : List Lexeme) → NoReading P E from → EndsParts P E more → Opt P from w more → (w ≡ None) × (more ≡ from)
      only _ _ _ none ends (absent from) = (refl, refl)
      only _ _ _ none ends (present from more w is) = absurd (none w more ends.0 is)

-- a part more, and none
pub rep_gained : {V : Type 0} (P : Part V) (E : Follow) (at_next : (tokens rest : List Lexeme) (v : V) → P tokens v rest → E tokens)
    (tokens rest behind : List Lexeme) (old new : List V) → RepSoFar P E at_next tokens rest old → GainsPart P E rest behind old new
    → RepSoFar P E at_next tokens behind new
rep_gained P E at_next tokens rest behind old new so gains =
    subst (RepSoFar P E at_next tokens behind) (sym gains.are) (rep_more P E at_next tokens rest behind old gains.v so gains.reading)
