-- What is printed at a place is the line of the token, or of END, there.
use Rattle.std.proofs.Common.{◌≡◌, ℕ, List, [], length, map, Option, None, Some, IfSome, option_map, slice_get, slice_range, refl, sym, ap, ◌∙◌}
use Rattle.std.proofs.lemmas.Option.{get_or_from_slice_get, slice_get-map}
use Rattle.rex_model.specs.RuleMeaning.{rule_of}
use Rattle.rex_model.specs.Rules.{Rule}
use Rattle.rex_model.specs.declared.rules.ScanRule.{ScanRule}
use Rattle.rex_model.specs.Place.{IsPlace}
use Rattle.ck_chain.specs.within.Places.{printed_place, printed_token, printed_end}
use Rattle.ck_chain.specs.TokenText.{place_text, token_line, end_line}
use Rattle.rex_model.specs.declared.place.Place.{Place}

-- line and column of the place
printed_place-is : (text : List ℕ) (place : Place) → IsPlace text place → printed_place place ≡ place_text text place.at
printed_place-is text place is = rw (is.line, is.column) refl

-- the line of a token whose text begins at the place
pub token_line_here : (names : List (List ℕ)) (text name : List ℕ) (place : Place) (number to : ℕ) → IsPlace text place
    → slice_get names number ≡ Some name
    → printed_token place name (slice_range text place.at to)
    ≡ token_line names text (record { number = number; from = place.at; to = to })
token_line_here names text name place number to is has_name =
    rw (printed_place-is text place is, get_or_from_slice_get names number name [] has_name) refl

-- the line of END
pub end_line_here : (text : List ℕ) (place : Place) → IsPlace text place → place.at ≡ length text
    → printed_end place ≡ end_line text
end_line_here text place is at_end = rw (printed_place-is text place is, at_end) refl

-- the rule's token has the name that was looked up for the rule
pub name_of_token : (rules : List ScanRule) (names : List (List ℕ)) (name : List ℕ) (i number : ℕ) (rule : Rule)
    → slice_get (map rule_of rules) i ≡ Some rule → rule.token ≡ Some number
    → IfSome (slice_get rules i) (λ found. IfSome found.token (λ t. slice_get names t ≡ Some name)) → slice_get names number ≡ Some name
name_of_token rules names name i number rule is_rule has_number named =
    of_rule (slice_get rules i) (sym (slice_get-map rule_of rules i) ∙ is_rule) named
  where
    of_rule : (found : Option ScanRule) → option_map rule_of found ≡ Some rule
        → IfSome found (λ scan. IfSome scan.token (λ t. slice_get names t ≡ Some name)) → slice_get names number ≡ Some name
    of_rule None is its = cc
    of_rule (Some scan) is its =
        let same : rule_of scan ≡ rule = cc in
        let token : scan.token ≡ Some number = ap (λ r. r.token) same ∙ has_number in
        rw token at its
