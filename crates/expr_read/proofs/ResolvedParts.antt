-- What an expression means, from what its parts mean.
use Rattle.std.proofs.Common.{◌≡◌, ap, ap₂, refl, sym, ◌∙◌, ℕ, ◌+◌, ◌<◌, ◌≤◌, List, [], ◌∷◌, ◌++◌, map, length, drop, get_or, pos, append_assoc, append-nil, Option, Some, None, arith}
use Rattle.std.proofs.lemmas.List.{drop_more, map-append, drop_all}
use Rattle.std.specs.Prelude.{IfOk, Result, Ok, Err}
use Rattle.std.specs.Borrow.{Bor}
use Rattle.value_store.specs.declared.memory.NoMemory.{NoMemory}
use Rattle.expr_lang.specs.Expression.{Expression, Expressions, no_expressions, and_expression}
use Rattle.expr_lang.specs.Expression as ex
use Rattle.expr_lang.specs.Meaning.{meaning, expressions_of}
use Rattle.expr_lang.specs.declared.expr.Expr.{Expr}
use Rattle.expr_lang.specs.declared.expr.Op.{Op}
use Rattle.value_store.specs.Texts.{Grew}
use Rattle.expr_read.specs.Resolving.{Vocabulary, resolved, resolved_all, of_one, of_two, of_three, and_all}
use Rattle.expr_read.specs.declared.written.Written.{Written}
use Rattle.expr_read.specs.declared.written.Written.TheVariants.{Number, Negative, Negated, Binary, If}
use Rattle.expr_read.proofs.Sayings.{says-Number, says-Negative, says-Negated, says-Binary, says-If}
use Rattle.expr_read.specs.within.Meant.{AlwaysMeans, AlwaysMeanAll, meaning_in}
use Rattle.expr_read.specs.Writing.{spoken_of, spoken_list}
use Rattle.expr_read.specs.Strings.{string_bytes}
use Rattle.expr_read.proofs.WrittenBytes.{bytes_of_list, next_bytes}

pub grew_not : (l : List ℕ) → Grew l l
grew_not l = ([], sym (append-nil l))

pub grew_on : (l m n : List ℕ) → Grew l m → Grew m n → Grew l n
grew_on l m n (x, first) (y, second) = (x ++ y, second ∙ ap (λ z. z ++ y) first ∙ append_assoc l x y)

-- what is put behind more literals is put behind the first ones as well
behind : (l m more : List ℕ) (grew : Grew l m) → m ++ more ≡ l ++ (grew.0 ++ more)
behind l m more (x, is) = ap (λ z. z ++ more) is ∙ append_assoc l x more

pub later : (l m : List ℕ) (found : Option Expr) (wanted : Option Expression) → Grew l m → AlwaysMeans l found wanted → AlwaysMeans m found wanted
later l m found wanted grew always = λ s more. ap (λ z. meaning_in s z found) (behind l m more grew) ∙ always s (grew.0 ++ more)

-- what is said of an answer that was made
on : {P Q : Option Expr → Type 0} (made : Result (Option Expr) NoMemory) → IfOk made P → ((found : Option Expr) → P found → Q found) → IfOk made Q
on (Ok found) = λ is f. f found is
on (Err e) = λ is f. tt

at_each : (P : List ℕ → List ℕ → Option Expr → Type 0) (made : Result (Option Expr) NoMemory) → ((s l : List ℕ) → IfOk made (P s l)) → IfOk made (λ found. (s l : List ℕ) → P s l found)
at_each P (Ok found) = λ is. is
at_each P (Err e) = λ is. tt

pub number_made : (words : Vocabulary) (l : List ℕ) (e : Written) (n : ℕ) (made : Result (Option Expr) NoMemory) → e ≡ Number n
    → ((s b : List ℕ) → IfOk made (λ found. meaning_in s b found ≡ Some (ex.number (pos n))))
    → IfOk made (λ found. AlwaysMeans l found (resolved words (spoken_of e)))
number_made words l e n made is each = on made (at_each (λ s b found. meaning_in s b found ≡ Some (ex.number (pos n))) made each)
    (λ found at s more. at s (l ++ more) ∙ ap (resolved words) (sym (ap spoken_of is ∙ says-Number n)))

pub negative_made : (words : Vocabulary) (l : List ℕ) (e : Written) (a : Bor Written) (part : Option Expr) (made : Result (Option Expr) NoMemory) → e ≡ Negative a
    → AlwaysMeans l part (resolved words (spoken_of a.now))
    → ((s b : List ℕ) → IfOk made (λ found. meaning_in s b found ≡ of_one ex.negative (meaning_in s b part)))
    → IfOk made (λ found. AlwaysMeans l found (resolved words (spoken_of e)))
negative_made words l e a part made is of_part each = on made (at_each (λ s b found. meaning_in s b found ≡ of_one ex.negative (meaning_in s b part)) made each)
    (λ found at s more. at s (l ++ more) ∙ ap (of_one ex.negative) (of_part s more) ∙ ap (resolved words) (sym (ap spoken_of is ∙ says-Negative a)))

pub negated_made : (words : Vocabulary) (l : List ℕ) (e : Written) (a : Bor Written) (part : Option Expr) (made : Result (Option Expr) NoMemory) → e ≡ Negated a
    → AlwaysMeans l part (resolved words (spoken_of a.now))
    → ((s b : List ℕ) → IfOk made (λ found. meaning_in s b found ≡ of_one ex.negated (meaning_in s b part)))
    → IfOk made (λ found. AlwaysMeans l found (resolved words (spoken_of e)))
negated_made words l e a part made is of_part each = on made (at_each (λ s b found. meaning_in s b found ≡ of_one ex.negated (meaning_in s b part)) made each)
    (λ found at s more. at s (l ++ more) ∙ ap (of_one ex.negated) (of_part s more) ∙ ap (resolved words) (sym (ap spoken_of is ∙ says-Negated a)))

pub binary_made : (words : Vocabulary) (l m : List ℕ) (e : Written) (o : Op) (a b : Bor Written) (left right : Option Expr) (made : Result (Option Expr) NoMemory)
    → e ≡ Binary o a b → AlwaysMeans l left (resolved words (spoken_of a.now)) → Grew l m → AlwaysMeans m right (resolved words (spoken_of b.now))
    → ((s b : List ℕ) → IfOk made (λ found. meaning_in s b found ≡ of_two (ex.binary o) (meaning_in s b left) (meaning_in s b right)))
    → IfOk made (λ found. AlwaysMeans m found (resolved words (spoken_of e)))
binary_made words l m e o a b left right made is of_left grew of_right each =
    let of_left_now = later l m left (resolved words (spoken_of a.now)) grew of_left in
    on made (at_each (λ s b found. meaning_in s b found ≡ of_two (ex.binary o) (meaning_in s b left) (meaning_in s b right)) made each) (λ found at s more.
    at s (m ++ more) ∙ ap₂ (of_two (ex.binary o)) (of_left_now s more) (of_right s more) ∙ ap (resolved words) (sym (ap spoken_of is ∙ says-Binary o a b)))

same_three : (make : Expression → Expression → Expression → Expression) (c d a f b g : Option Expression) → c ≡ d → a ≡ f → b ≡ g → of_three make c a b ≡ of_three make d f g
same_three make c d a f b g first second third = ap (λ x. of_three make x a b) first ∙ ap₂ (of_three make d) second third

pub if_made : (words : Vocabulary) (k l m : List ℕ) (e : Written) (c a b : Bor Written) (condition left right : Option Expr) (made : Result (Option Expr) NoMemory)
    → e ≡ If c a b → AlwaysMeans k condition (resolved words (spoken_of c.now)) → Grew k l → AlwaysMeans l left (resolved words (spoken_of a.now)) → Grew l m
    → AlwaysMeans m right (resolved words (spoken_of b.now))
    → ((s b : List ℕ) → IfOk made (λ found. meaning_in s b found ≡ of_three ex.if_then (meaning_in s b condition) (meaning_in s b left) (meaning_in s b right)))
    → IfOk made (λ found. AlwaysMeans m found (resolved words (spoken_of e)))
if_made words k l m e c a b condition left right made is of_condition grew of_left grew_more of_right each =
    let of_condition_now = later k m condition (resolved words (spoken_of c.now)) (grew_on k l m grew grew_more) of_condition in
    let of_left_now = later l m left (resolved words (spoken_of a.now)) grew_more of_left in
    on made (at_each (λ s b found. meaning_in s b found ≡ of_three ex.if_then (meaning_in s b condition) (meaning_in s b left) (meaning_in s b right)) made each) (λ found at s more.
    at s (m ++ more) ∙ same_three ex.if_then _ _ _ _ _ _ (of_condition_now s more) (of_left_now s more) (of_right s more)
    ∙ ap (resolved words) (sym (ap spoken_of is ∙ says-If c a b)))

-- expressions before others, where those are there
abbrev with_front : List Expression → Option Expressions → Option Expressions
with_front [] more = more
with_front (x ∷ xs) more = and_all (Some x) (with_front xs more)

with_front-None : (xs : List Expression) → with_front xs None ≡ None
with_front-None [] = refl
with_front-None (x ∷ xs) = ap (and_all (Some x)) (with_front-None xs)

with_front-last : (xs : List Expression) (x : Expression) (more : Option Expressions) → with_front (xs ++ x ∷ []) more ≡ with_front xs (and_all (Some x) more)
with_front-last [] x more = refl
with_front-last (y ∷ xs) x more = ap (and_all (Some y)) (with_front-last xs x more)

with_front-end : (xs : List Expression) → with_front xs (Some no_expressions) ≡ Some (expressions_of xs)
with_front-end [] = refl
with_front-end (x ∷ xs) = ap (and_all (Some x)) (with_front-end xs)

abbrev rest_of : Vocabulary → List Written → Option Expressions
rest_of words list = resolved_all words (spoken_list (map spoken_of list))

-- the first expressions of a list are these, and their strings, and no more, were put behind the literals
pub record ListSoFar (words : Vocabulary) (old now : List ℕ) (found : List Expr) (list : List Written) (i : ℕ) : Type 0 where
  pub grew : Grew old now
  pub few : length now + bytes_of_list (drop i list) ≤ length old + bytes_of_list list
  pub are : (s more : List ℕ) → with_front (map (meaning s (now ++ more)) found) (rest_of words (drop i list)) ≡ rest_of words list

pub list_first : (words : Vocabulary) (old : List ℕ) (found : List Expr) (list : List Written) → found ≡ [] → ListSoFar words old old found list 0
list_first words old found list none = record { grew = grew_not old; few = omega arith; are = λ s more. ap (λ es. with_front (map (meaning s (old ++ more)) es) (rest_of words list)) none }

-- what is at the place, and what is behind it
module _ (words : Vocabulary) (old now : List ℕ) (found : List Expr) (list : List Written) (i : ℕ) (x : Written) (so_far : ListSoFar words old now found list i)
    (within : i < length list) (is : x ≡ get_or list i x) (new : List ℕ) (grew : Grew now new) where
  next : rest_of words (drop i list) ≡ and_all (resolved words (spoken_of x)) (rest_of words (drop (i + 1) list))
  next = ap (rest_of words) (drop_more list i x within) ∙ ap (λ y. and_all (resolved words (spoken_of y)) (rest_of words (drop (i + 1) list))) (sym is)

  still : (s more : List ℕ) → with_front (map (meaning s (new ++ more)) found) (and_all (resolved words (spoken_of x)) (rest_of words (drop (i + 1) list))) ≡ rest_of words list
  still s more = ap (with_front (map (meaning s (new ++ more)) found)) (sym next)
      ∙ ap (λ z. with_front (map (meaning s z) found) (rest_of words (drop i list))) (behind now new more grew) ∙ so_far.are s (grew.0 ++ more)

  -- what the next one adds, its strings at most
  pub few_more : length new ≤ length now + string_bytes (spoken_of x)
      → length new + bytes_of_list (drop (i + 1) list) ≤ length old + bytes_of_list list
  few_more few = let step = next_bytes list i x within is in let before = so_far.few in omega (arith, step, before, few)

  pub list_more : (e : Expr) (longer : List Expr) → longer ≡ found ++ e ∷ [] → AlwaysMeans new (Some e) (resolved words (spoken_of x))
      → length new ≤ length now + string_bytes (spoken_of x) → ListSoFar words old new longer list (i + 1)
  list_more e longer one means few = record {
    grew = grew_on old now new so_far.grew grew;
    few = few_more few;
    are = λ s more. ap (λ es. with_front (map (meaning s (new ++ more)) es) (rest_of words (drop (i + 1) list))) one
        ∙ ap (λ es. with_front es (rest_of words (drop (i + 1) list))) (map-append (meaning s (new ++ more)) found (e ∷ []))
        ∙ with_front-last (map (meaning s (new ++ more)) found) (meaning s (new ++ more) e) (rest_of words (drop (i + 1) list))
        ∙ ap (λ y. with_front (map (meaning s (new ++ more)) found) (and_all y (rest_of words (drop (i + 1) list)))) (means s more)
        ∙ still s more;
  }

  pub list_none : AlwaysMeans new None (resolved words (spoken_of x)) → AlwaysMeanAll new None (rest_of words list)
  list_none means = λ s more. sym (with_front-None (map (meaning s (new ++ more)) found))
      ∙ ap (λ y. with_front (map (meaning s (new ++ more)) found) (and_all y (rest_of words (drop (i + 1) list)))) (means s more) ∙ still s more

pub list_end : (words : Vocabulary) (old now : List ℕ) (found : List Expr) (list : List Written) (i : ℕ) (slice : Bor (List Expr)) → ListSoFar words old now found list i → length list ≤ i
    → slice.now ≡ found → AlwaysMeanAll now (Some slice) (rest_of words list)
list_end words old now found list i slice so_far end is = λ s more. ap (λ es. Some (expressions_of (map (meaning s (now ++ more)) es))) is
    ∙ sym (with_front-end (map (meaning s (now ++ more)) found))
    ∙ ap (λ ys. with_front (map (meaning s (now ++ more)) found) (rest_of words ys)) (sym (drop_all i list end)) ∙ so_far.are s more
