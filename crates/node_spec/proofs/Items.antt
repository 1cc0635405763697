-- A list of items, as it is read.
use Rattle.std.proofs.Common.{◌≡◌, List, [], ◌∷◌, ◌++◌, map, refl, sym, ap, ◌∙◌}
use Rattle.std.proofs.lemmas.List.{map-append}
use Rattle.spec_text.specs.Lexemes.{Lexeme}
use Rattle.section_frame.specs.Parts.{ListOf, Anything, Follow, NotFirst, NoReading, Reading, comma}
use Rattle.section_frame.proofs.Readings.{ListSoFar, list_first, list_more, list_none}
use Rattle.node_spec.specs.AstShapes.{SaidItem, ItemPart}
use Rattle.node_spec.specs.declared.ast_line.ItemText.{ItemText}
use Rattle.node_spec.specs.within.AstSeen.{item_seen}

pub same_item : (one other : SaidItem) → one.name ≡ other.name → one.of ≡ other.of → one ≡ other
same_item one other name of =
    ap (λ x. record { name = x; of = one.of }) name ∙ ap (λ x. record { name = other.name; of = x }) of

pub one_item : (tokens rest more : List Lexeme) (one other : SaidItem) → ItemPart tokens one rest
    → ItemPart tokens other more
    → (one ≡ other) × (rest ≡ more)
one_item tokens rest more one other it also =
    let same = sym it.is ∙ also.is in
    let name : one.name ≡ other.name = cc in
    let of : one.of ≡ other.of = cc in
    (same_item one other name of, (cc))

pub item_reading : (F : Follow) (tokens rest : List Lexeme) (item : SaidItem) → ItemPart tokens item rest
    → Reading ItemPart F tokens item rest
item_reading F tokens rest item it =
    record { is = it; only = λ other more follows also. one_item tokens more rest other item also it }

abbrev pub ItemsSoFar : List Lexeme → List Lexeme → List SaidItem → Type 0
ItemsSoFar = ListSoFar comma ItemPart Anything (NotFirst comma) (λ rest. tt) (λ rest follows. tt)
    (λ rest other. other rest refl)

module _ (tokens rest behind after : List Lexeme) (old new : List ItemText) (item : ItemText) where
  pub first_item : old ≡ [] → new ≡ old ++ item ∷ [] → ItemPart tokens (item_seen item) after
      → ItemsSoFar tokens after (map item_seen new)
  first_item empty are is = rw (are, empty)
      (list_first comma ItemPart Anything (NotFirst comma) (λ rest. tt) (λ rest follows. tt)
      (λ rest other. other rest refl) tokens after (item_seen item)
      (item_reading Anything tokens after (item_seen item) is))

  pub more_items : ItemsSoFar tokens rest (map item_seen old) → rest ≡ comma ∷ behind
      → ItemPart behind (item_seen item) after → new ≡ old ++ item ∷ []
      → ItemsSoFar tokens after (map item_seen new)
  more_items so at is are = rw (are, map-append item_seen old (item ∷ []))
      (list_more comma ItemPart Anything (NotFirst comma) (λ rest. tt) (λ rest follows. tt)
      (λ rest other. other rest refl) tokens rest behind after (map item_seen old) (item_seen item)
      so at (item_reading Anything behind after (item_seen item) is))

pub no_more_items : (tokens rest behind : List Lexeme) (items : List SaidItem) → ItemsSoFar tokens rest items
    → rest ≡ comma ∷ behind
    → ((item : SaidItem) (after : List Lexeme) → ItemPart behind item after → ⊥)
    → NoReading (ListOf ItemPart) (NotFirst comma) tokens
no_more_items tokens rest behind items so at none =
    list_none comma ItemPart Anything (NotFirst comma) (λ rest. tt) (λ rest follows. tt)
    (λ rest other. other rest refl) tokens rest behind items so at (λ item after follows is. none item after is)
