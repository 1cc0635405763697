-- A list of names, as it is read.
use Rattle.std.proofs.Common.{◌≡◌, ℕ, List, [], ◌∷◌, ◌++◌, map, refl}
use Rattle.std.specs.Borrow.{Bor}
use Rattle.std.proofs.lemmas.List.{map-append}
use Rattle.spec_text.specs.Lexemes.{Lexeme}
use Rattle.spec_text.specs.Seen.{bytes_of}
use Rattle.section_frame.specs.Parts.{Name, ListOf, Anything, NotFirst, NoReading, comma}
use Rattle.section_frame.proofs.Readings.{name_reading, ListSoFar, list_first, list_more, list_none}

abbrev pub NamesSoFar : List Lexeme → List Lexeme → List (List ℕ) → Type 0
NamesSoFar = ListSoFar comma Name Anything (NotFirst comma) (λ rest. tt) (λ rest follows. tt) (λ rest other. other rest refl)

module _ (tokens rest behind after : List Lexeme) (old new : List (Bor (List ℕ))) (name : Bor (List ℕ)) where
  pub first_name : old ≡ [] → new ≡ old ++ name ∷ [] → Name tokens name.now after → NamesSoFar tokens after (map bytes_of new)
  first_name empty are is = rw (are, empty)
      (list_first comma Name Anything (NotFirst comma) (λ rest. tt) (λ rest follows. tt) (λ rest other. other rest refl) tokens after name.now
      (name_reading Anything tokens after name.now is))

  pub more_names : NamesSoFar tokens rest (map bytes_of old) → rest ≡ comma ∷ behind → Name behind name.now after → new ≡ old ++ name ∷ []
      → NamesSoFar tokens after (map bytes_of new)
  more_names so at is are = rw (are, map-append bytes_of old (name ∷ []))
      (list_more comma Name Anything (NotFirst comma) (λ rest. tt) (λ rest follows. tt) (λ rest other. other rest refl) tokens rest behind after (map bytes_of old) name.now
      so at (name_reading Anything behind after name.now is))

pub no_names : (tokens rest behind : List Lexeme) (names : List (List ℕ)) → NamesSoFar tokens rest names → rest ≡ comma ∷ behind
    → ((name : List ℕ) (after : List Lexeme) → Name behind name after → ⊥) → NoReading (ListOf Name) (NotFirst comma) tokens
no_names tokens rest behind names so at none =
    list_none comma Name Anything (NotFirst comma) (λ rest. tt) (λ rest follows. tt) (λ rest other. other rest refl) tokens rest behind names so at (λ name after follows is. none name after is)
