-- What a folder tells after a file was put.
use Rattle.std.proofs.Common.{◌≡◌, ◌≢◌, ℕ, ◌<◌, Bool, true, false, cond, ltb, List, [], ◌∷◌, ◌++◌, length, get_or, set, find, position, Option, None, Some, option_map, unwrap_or, refl, sym, ap, ◌∙◌, arith}
use Rattle.std.specs.List.{position_or_len, slice_get}
use Rattle.std.specs.Option.{option_map_or, option_or}
use Rattle.std.specs.Str.{bytes_eq}
use Rattle.std.proofs.lemmas.Bool.{false_from_ne_true}
use Rattle.std.proofs.lemmas.Bool.Decides.{nat_tests}
use Rattle.std.proofs.lemmas.Grind.{common_steps}
use Rattle.std.proofs.lemmas.List.Folds.{find_at, find-set, find_past, find-append}
use Rattle.std.proofs.lemmas.List.Quantifiers.{position-Some}
use Rattle.std.proofs.lemmas.Option.{slice_get-get_or, slice_get_past}
use Rattle.std.proofs.lemmas.Slice.Eq.{bytes_eq-Decides}
use Rattle.ck_io.specs.Contents.{AddsFile}
use Rattle.ck_io.specs.Folder.{File, has_name, place_in, bytes_in, with_file}

-- the test for a name passes on that name, and on no other
bytes_eq-same : (name : List ℕ) → bytes_eq name name ≡ true
bytes_eq-same name = (bytes_eq-Decides name name).1 refl

bytes_eq-other : (name other : List ℕ) → other ≢ name → bytes_eq name other ≡ false
bytes_eq-other name other ne = false_from_ne_true _ (λ e. ne (sym ((bytes_eq-Decides name other).0 e)))

-- a default that isn't there changes nothing
option_or-None : {X : Type 0} (o : Option X) → option_or o None ≡ o
option_or-None None = refl
option_or-None (Some x) = refl

-- two maps in a row are one
option_map-twice : {X Y Z : Type 0} (f : X → Y) (g : Y → Z) (o : Option X) → option_map g (option_map f o) ≡ option_map (λ x. g (f x)) o
option_map-twice f g None = refl
option_map-twice f g (Some x) = refl

-- a place inside the list as an option, and what stands there
get_or-place : {X : Type 0} (xs : List X) (i : ℕ) (d : X)
    → option_map (λ k. get_or xs k d) (cond (ltb i (length xs)) (Some i) None) ≡ slice_get xs i
get_or-place xs i d = grind (arith, nat_tests, slice_get-get_or xs i d, slice_get_past xs i)

-- the element at the first place that passes is the first element that does
get_or-position : {X : Type 0} (p : X → Bool) (xs : List X) (d : X) → option_map (λ k. get_or xs k d) (position p xs) ≡ find p xs
get_or-position p xs d = get_or-place xs (position_or_len p xs) d ∙ sym (find_at p xs)

-- the first place that passes, as a number
position-is : {X : Type 0} (p : X → Bool) (xs : List X) (i : ℕ) → position p xs ≡ Some i → (i ≡ position_or_len p xs) × (i < length xs)
position-is p xs i e = grind (arith, nat_tests)

module _ (files : List File) where
  -- the first file that has the name
  file_of : (name : List ℕ) → option_map (λ k. get_or files k ([], [])) (place_in files name) ≡ find (has_name name) files
  file_of name = get_or-position (has_name name) files ([], [])

  -- the bytes of a name are those of the first file that has it
  bytes_in-find : (name : List ℕ) → bytes_in files name ≡ option_map (λ file. file.1) (find (has_name name) files)
  bytes_in-find name =
      sym (option_map-twice (λ k. get_or files k ([], [])) (λ file. file.1) (place_in files name)) ∙ ap (option_map (λ file. file.1)) (file_of name)

  -- the file at the place of a name has that name
  name_at-place : (name : List ℕ) (place : ℕ) → place_in files name ≡ Some place → (get_or files place ([], [])).0 ≡ name
  name_at-place name place e = (bytes_eq-Decides _ name).0 (position-Some (has_name name) files place ([], []) e).1

module _ (files : List File) (file : File) where
  -- in place of the file of its name
  AddsFile-set : (place : ℕ) → place_in files file.0 ≡ Some place → AddsFile (bytes_in files) (bytes_in (set files place file)) file.0 file.1
  AddsFile-set place e =
      let at = position-is (has_name file.0) files place e in
      record {
        added = rw (bytes_in-find (set files place file) file.0, find-set (has_name file.0) files place file at.0 at.1 (bytes_eq-same file.0)) refl;
        others = λ other ne.
            let now = bytes_eq-other file.0 other ne in
            let was : has_name other (get_or files place ([], [])) ≡ false = rw (name_at-place files file.0 place e) now in
            rw (bytes_in-find (set files place file) other, bytes_in-find files other, find_past (has_name other) files place file ([], []) was now) refl;
      }

  -- as the last file
  AddsFile-push : place_in files file.0 ≡ None → AddsFile (bytes_in files) (bytes_in (files ++ file ∷ [])) file.0 file.1
  AddsFile-push e =
      let missing : find (has_name file.0) files ≡ None = sym (file_of files file.0) ∙ ap (option_map (λ k. get_or files k ([], []))) e in
      let grown = λ (name : List ℕ). find-append (has_name name) files (file ∷ []) in
      record {
        added = rw (bytes_in-find (files ++ file ∷ []) file.0, grown file.0, missing, bytes_eq-same file.0) refl;
        others = λ other ne.
            let now = bytes_eq-other file.0 other ne in
            rw (bytes_in-find (files ++ file ∷ []) other, bytes_in-find files other, grown other, now, option_or-None (find (has_name other) files)) refl;
      }

  pub AddsFile-with_file : AddsFile (bytes_in files) (bytes_in (with_file files file)) file.0 file.1
  AddsFile-with_file = either (place_in files file.0) refl where
    either : (o : Option ℕ) → place_in files file.0 ≡ o
        → AddsFile (bytes_in files) (bytes_in (option_map_or (λ place. set files place file) o (files ++ file ∷ []))) file.0 file.1
    either None e = AddsFile-push e
    either (Some place) e = AddsFile-set place e

  -- a file that takes the place of the one of its name changes no place
  pub place_in-with_file : (place : ℕ) → place_in files file.0 ≡ Some place → (other : List ℕ)
      → place_in (with_file files file) other ≡ place_in files other
  place_in-with_file place e other =
      let same : has_name other (get_or files place ([], [])) ≡ bytes_eq file.0 other = rw (name_at-place files file.0 place e) refl in
      rw e (grind (arith, common_steps))

-- the same where a name without a file is told to be empty
pub AddsFile-unwrap_or : (old new : List ℕ → Option (List ℕ)) (name bytes : List ℕ) → AddsFile old new name bytes
    → AddsFile (λ n. Some (unwrap_or (old n) [])) (λ n. Some (unwrap_or (new n) [])) name bytes
AddsFile-unwrap_or old new name bytes adds = record {
  added = ap (λ o. Some (unwrap_or o [])) adds.added;
  others = λ other ne. ap (λ o. Some (unwrap_or o [])) (adds.others other ne);
}
