-- Lists whose last element is on top.
use Rattle.std.proofs.Common.{◌≡◌, ◌+◌, ◌-◌, List, [], ◌∷◌, ◌++◌, Option, Some, None, reverse, length, take, refl, sym, ap, ◌∙◌, arith, slice_get}
use Rattle.std.proofs.lemmas.List.{take_more, reverse-append, take_all}
use Rattle.std.proofs.lemmas.Option.{slice_get_within, slice_get-get_or, get_or_from_slice_get}
use Rattle.parse_driver.specs.declared.ll.Entry.{Entry}
use Rattle.parse_driver.specs.within.LlStack.{IsTop}

pub top_is : (items : List Entry) (top : Option Entry) → top ≡ slice_get items (length items - 1) → IsTop (reverse items) top
top_is [] None is = refl
top_is (x ∷ items) None is = let s = slice_get-get_or (x ∷ items) (length (x ∷ items) - 1) x (omega arith) in cc
top_is items (Some x) is =
    let within = slice_get_within items (length items - 1) x (sym is) in
    let last = get_or_from_slice_get items (length items - 1) x x (sym is) in
    let back : length items - 1 + 1 ≡ length items = omega arith in
    let whole : items ≡ take (length items - 1) items ++ (x ∷ []) =
    sym (take_all (length items - 1 + 1) items (omega arith)) ∙ take_more items (length items - 1) x within ∙ ap (λ (y : Entry). take (length items - 1) items ++ (y ∷ [])) last in
    (reverse (take (length items - 1) items), ap reverse whole ∙ reverse-append (take (length items - 1) items) (x ∷ []))
