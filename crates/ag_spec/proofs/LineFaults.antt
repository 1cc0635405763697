-- The faults of AG's lines, by the tests that find them.
use Rattle.std.proofs.Common.{◌≡◌, ℕ, ◌⊎◌, inl, inr, ◌↔◌, IsTrue, Bool, true, false, List, [], ◌∷◌, ◌++◌, refl, sym, ap, ◌∙◌, Option, Some, None, is_some, Contains, zero, suc, ◌+◌, cond}
use Rattle.std.specs.List.{slice_get, position_from}
use Rattle.std.specs.Str.{bytes_eq}
use Rattle.std.proofs.lemmas.Iterator.Adapters.{position_from-zero}
use Rattle.std.proofs.lemmas.Option.{none-some}
use Rattle.std.proofs.lemmas.Slice.Eq.{bytes_eq-Decides}
use Rattle.ast_types.specs.TypeTable.{TypeTable}
use Rattle.ck_base.specs.Numbered.{number_of}
use Rattle.ck_base.proofs.NamesMet.{name_at_number}
use Rattle.ck_base.specs.declared.fault.Kind.TheVariants.{Limit, Twice, Unknown}
use Rattle.section_frame.specs.Declares.{Declared}
use Rattle.section_frame.specs.Words.{IsAgain, IsAmong, IsMissing}
use Rattle.spec_text.proofs.Lists.{get_at}
use Rattle.spec_text.proofs.Parting.{contains_at}
use Rattle.node_model.specs.TypeNames.{names_of_all, names_of_families}
use Rattle.ag_spec.specs.AgShapes.{AgSaying}
use Rattle.ag_spec.specs.AgFaults.{reserved_words, attribute_words, attribute_called, attribute_name, families_used, types_used, holders_used, item_names, HasUnknown, IsCrowded, AgFault, too_many_attributes, declared_again, is_item, reserved_name, no_family, no_type, no_holder, no_maker}

-- a name without a number isn't there
has_place : (name : List ℕ) (names : List (List ℕ)) (k i : ℕ) → slice_get names i ≡ Some name
    → position_from (bytes_eq name) k names ≡ None → ⊥
has_place name [] k i at none = cc
has_place name (first ∷ names) k zero at none =
    let same : first ≡ name = cc in
    let equal : bytes_eq name first ≡ true = rw same ((bytes_eq-Decides name name).1 refl) in
    none-some k (sym none ∙ ap (λ b. cond b (Some k) (position_from (bytes_eq name) (k + 1) names)) equal)
has_place name (first ∷ names) k (suc i) at none =
    elim (bytes_eq name first) as (λ b. cond b (Some k) (position_from (bytes_eq name) (k + 1) names) ≡ None → ⊥) [
      | true ↦ λ here. none-some k (sym here)
      | false ↦ λ later. has_place name names (k + 1) i at later
    ] none

absent_without : (names : List (List ℕ)) (name : List ℕ) → number_of names name ≡ None → Contains names name → ⊥
absent_without names name none there =
    has_place name names 0 there.0 (get_at names there.0 name there.1 ∙ ap (λ x. Some x) there.2)
    (sym (position_from-zero (bytes_eq name) names) ∙ none)

-- whether a name is there, by its number
pub has_number : (names : List (List ℕ)) (name : List ℕ) (found : Option ℕ) (is : Bool) → is ≡ is_some found → found ≡ number_of names name
    → IsTrue is ↔ Contains names name
has_number names name None is means at =
    (λ hit. let e = sym hit ∙ means in cc, λ there. absurd (absent_without names name (sym at) there))
has_number names name (Some n) is means at = (λ hit. contains_at names n name (name_at_number names name n (sym at)), λ there. means)

-- one kind of fault is what its tests find
abbrev pub TwicesBy : List (List ℕ) → List (Declared AgSaying) → ℕ → AgSaying → Type 0
TwicesBy items ds i said = IsAgain attribute_called ds i said
    ⊎ (IsAmong attribute_called items said ⊎ IsAmong attribute_name reserved_words said)

module _ (table : TypeTable) (ds : List (Declared AgSaying)) where
  abbrev pub Twices : ℕ → AgSaying → Type 0
  Twices i said = TwicesBy (item_names table) ds i said

  pub to_twice : (i : ℕ) (said : AgSaying) → Twices i said → AgFault table ds Twice i said
  to_twice i said (inl is) = declared_again i said is
  to_twice i said (inr (inl is)) = is_item i said is
  to_twice i said (inr (inr is)) = reserved_name i said is

  pub of_twice : (i : ℕ) (said : AgSaying) → AgFault table ds Twice i said → Twices i said
  of_twice _ _ (declared_again i said is) = inl is
  of_twice _ _ (is_item i said is) = inr (inl is)
  of_twice _ _ (reserved_name i said is) = inr (inr is)

  abbrev pub Unknowns : ℕ → AgSaying → Type 0
  Unknowns i said = IsMissing (names_of_families table) (families_used said)
      ⊎ (IsMissing (attribute_words ++ names_of_families table) (types_used said)
      ⊎ (IsMissing (names_of_all table ++ names_of_families table) (holders_used said) ⊎ HasUnknown table said))

  pub to_unknown : (i : ℕ) (said : AgSaying) → Unknowns i said → AgFault table ds Unknown i said
  to_unknown i said (inl is) = no_family i said is
  to_unknown i said (inr (inl is)) = no_type i said is
  to_unknown i said (inr (inr (inl is))) = no_holder i said is
  to_unknown i said (inr (inr (inr is))) = no_maker i said is

  pub of_unknown : (i : ℕ) (said : AgSaying) → AgFault table ds Unknown i said → Unknowns i said
  of_unknown _ _ (no_family i said is) = inl is
  of_unknown _ _ (no_type i said is) = inr (inl is)
  of_unknown _ _ (no_holder i said is) = inr (inr (inl is))
  of_unknown _ _ (no_maker i said is) = inr (inr (inr is))

  pub of_limit : (i : ℕ) (said : AgSaying) → AgFault table ds Limit i said → IsCrowded table ds i said
  of_limit _ _ (too_many_attributes i said is) = is
