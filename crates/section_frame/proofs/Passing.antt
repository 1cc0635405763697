-- What a pass over lines has seen.
use Rattle.std.proofs.Common.{◌≡◌, get_or, ℕ, zero, suc, ◌+◌, ◌<◌, ◌↔◌, List, [], ◌∷◌, IsTrue, Bool, false, true, length, take, map, Some, None, Option, Result, Ok, Err, IfOk, refl, sym, ap, ◌∙◌, subst}
use Rattle.std.specs.List.{slice_get}
use Rattle.section_frame.specs.Declares.{Declared, HasAt, Grow}
use Rattle.spec_text.specs.Least.{Least}
use Rattle.spec_text.proofs.Lists.{map_get, get_at}
use Rattle.section_frame.specs.Passes.{FirstWith, as_seen, judged_by, numbered}
use Rattle.section_frame.specs.declared.pass.Numbered.{Numbered}
use Rattle.section_frame.proofs.Frame.{NoneBefore, none_at_first, none_more, none_in_all, first_here}

-- an element of a mapped list is one of the list, mapped
get_map : {X Y : Type 0} {f : X → Y} (xs : List X) (i : ℕ) (y : Y) → slice_get (map f xs) i ≡ Some y
    → (x : X) × (slice_get xs i ≡ Some x) × (f x ≡ y)
get_map [] i y at = cc
get_map (x ∷ xs) zero y at = (x, refl, (cc))
get_map (x ∷ xs) (suc i) y at = get_map xs i y at

-- the line of the program at a place
pub row_at : {T : Type 0} (list : List (Numbered T)) (i : ℕ) (p item : Numbered T) → item ≡ get_or list i p
    → i < length list → slice_get (map numbered list) i ≡ Some (numbered item)
row_at list i p item is less = rw is (map_get numbered list i (get_or list i p) (get_at list i p less))

pub record PassSoFar {K S : Type 0} (Finds : K → List (Declared S) → ℕ → S → Type 0)
    (Keeps : K → List (Declared S) → ℕ → Type 0) (ds : List (Declared S)) (first now : K) (i : ℕ) : Type 0 where
  pub none : NoneBefore ds (Finds first ds) i
  pub keeps : Keeps now ds i
  pub same : (es : List (Declared S)) (j : ℕ) (said : S) → Finds now es j said ↔ Finds first es j said

module _ {K S : Type 0} (Finds : K → List (Declared S) → ℕ → S → Type 0)
    (Keeps : K → List (Declared S) → ℕ → Type 0) (ds : List (Declared S)) (first : K) where
  pub begin : Keeps first ds 0 → PassSoFar Finds Keeps ds first first 0
  begin keeps = record {
    none = none_at_first ds (Finds first ds);
    keeps = keeps;
    same = λ es j said. (λ f. f, λ f. f);
  }

  module _ (now new : K) (i : ℕ) (d : Declared S) (so : PassSoFar Finds Keeps ds first now i)
      (at : slice_get ds i ≡ Some d) (found : Bool) (means : IsTrue found ↔ Finds now ds i d.said) where
    pub is_first : Grow ds → found ≡ true → Least (HasAt ds (Finds first ds)) d.number
    is_first grow hit =
        first_here ds (Finds first ds) i d grow so.none at ((so.same ds i d.said).0 (means.0 hit))

    pub one_more : found ≡ false → Keeps new ds (i + 1)
        → ((es : List (Declared S)) (j : ℕ) (said : S) → Finds new es j said ↔ Finds now es j said)
        → PassSoFar Finds Keeps ds first new (i + 1)
    one_more missed keeps same = record {
      none = none_more ds (Finds first ds) i d so.none at
          (λ f. let hit = means.1 ((so.same ds i d.said).1 f) in cc);
      keeps = keeps;
      same = λ es j said.
          (λ f. (so.same es j said).0 ((same es j said).0 f), λ f. (same es j said).1 ((so.same es j said).1 f));
    }

  pub all_passed : (now : K) (i : ℕ) → PassSoFar Finds Keeps ds first now i → i ≡ length ds
      → (line : ℕ) → HasAt ds (Finds first ds) line → ⊥
  all_passed now i so end = none_in_all ds (Finds first ds) i end so.none

  pub all_kept : (now : K) (i : ℕ) → PassSoFar Finds Keeps ds first now i → i ≡ length ds → Keeps now ds (length ds)
  all_kept now i so end = subst (Keeps now ds) end so.keeps

-- the first line that the test finds is the first one with the fault, where these are the same
module _ {T S : Type 0} (seen : T → S) where
  pub seen_rows : (list : List (Numbered T)) → map (as_seen seen) (map numbered list) ≡ map (judged_by seen) list
  seen_rows [] = refl
  seen_rows (line ∷ list) = ap (λ l. judged_by seen line ∷ l) (seen_rows list)

  module _ (ts : List (Declared T)) (F : ℕ → T → Type 0) (G : ℕ → S → Type 0) (to : (i : ℕ) (t : T) → F i t → G i (seen t))
      (from : (i : ℕ) (t : T) → G i (seen t) → F i t) where
    has_seen : (line : ℕ) → HasAt ts F line → HasAt (map (as_seen seen) ts) G line
    has_seen line has = record {
      place = has.place;
      declared = as_seen seen has.declared;
      is = map_get (as_seen seen) ts has.place has.declared has.is;
      number = has.number;
      fault = to has.place has.declared.said has.fault;
    }

    seen_has : (line : ℕ) → HasAt (map (as_seen seen) ts) G line → HasAt ts F line
    seen_has line has = by (get_map ts has.place has.declared has.is)
      where
        by : (d : Declared T) × (slice_get ts has.place ≡ Some d) × (as_seen seen d ≡ has.declared) → HasAt ts F line
        by (d, at, same) = record {
          place = has.place;
          declared = d;
          is = at;
          number = has.number ∙ ap (λ x. x.number) (sym same);
          fault = from has.place d.said (subst (λ x. G has.place x.said) (sym same) has.fault);
        }

    pub first_seen : (found : Option ℕ) → FirstWith ts F found → FirstWith (map (as_seen seen) ts) G found
    first_seen None none = λ line has. none line (seen_has line has)
    first_seen (Some n) least = record {
      is = has_seen n least.is;
      least = λ m has. least.least m (seen_has m has);
    }

  -- so it is for the words of the frame, and for what they are called in the section
  pub first_judged : (list : List (Numbered T)) (F : List (Declared S) → ℕ → S → Type 0) (G : List (Declared S) → ℕ → S → Type 0)
      → ((ds : List (Declared S)) (i : ℕ) (said : S) → F ds i said → G ds i said)
      → ((ds : List (Declared S)) (i : ℕ) (said : S) → G ds i said → F ds i said) → (found : Option ℕ)
      → FirstWith (map numbered list) (λ i t. F (map (as_seen seen) (map numbered list)) i (seen t)) found
      → FirstWith (map (judged_by seen) list) (G (map (judged_by seen) list)) found
  first_judged list F G to from found first =
      let ds = map (as_seen seen) (map numbered list) in
      subst (λ l. FirstWith l (G l) found) (seen_rows list)
      (first_seen (map numbered list) (λ i t. F ds i (seen t)) (G ds) (λ i t. to ds i (seen t)) (λ i t. from ds i (seen t)) found first)

-- numbers of lines grow, whatever the lines say
pub grow_numbered : {T S : Type 0} (seen : T → S) (list : List (Numbered T)) → Grow (map (judged_by seen) list) → Grow (map numbered list)
grow_numbered seen list grow i j d e at_i at_j less =
    let a = get_map {f = numbered} list i d at_i in
    let b = get_map {f = numbered} list j e at_j in
    let more = grow i j _ _ (map_get (judged_by seen) list i a.0 a.1) (map_get (judged_by seen) list j b.0 b.1) less in
    rw (← a.2, ← b.2) more

-- of no line anything is kept
pub none_taken : {T S : Type 0} (f : T → S) (xs : List T) → [] ≡ take 0 (map f xs)
none_taken f [] = refl
none_taken f (x ∷ xs) = refl

-- what is known of a value, by another word
pub ok_as : {T E : Type 0} (r : Result T E) (P Q : T → Type 0) → ((x : T) → P x → Q x) → IfOk r P → IfOk r Q
ok_as (Ok x) P Q to is = to x is
ok_as (Err e) P Q to is = tt
