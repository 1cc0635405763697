-- The types that the lines of AST declare: each is that of its line, over those of the lines before it.
use Rattle.std.proofs.Common.{◌≡◌, ℕ, zero, suc, ◌+◌, ◌<◌, ◌≤◌, ◌⊎◌, inl, inr, List, [], ◌∷◌, ◌++◌, map, take, drop, length, refl, sym, ap, ◌∙◌, subst, Option, Some, None, All, arith, append_assoc}
use Rattle.std.specs.List.{slice_get}
use Rattle.std.proofs.lemmas.List.{append-nil, take-append-drop}
use Rattle.std.proofs.lemmas.List.Elements.{All-append, All-cons, All-nil}
use Rattle.std.proofs.lemmas.Option.{none-some, slice_get_within}
use Rattle.ck_base.specs.Numbered.{number_of}
use Rattle.ck_base.proofs.NamesMet.{name_at_number}
use Rattle.section_frame.specs.Declares.{Declared}
use Rattle.spec_text.proofs.Lists.{take_all}
use Rattle.node_spec.specs.AstShapes.{AstSaying, SaidItem, family, target, a_type, node, build}
use Rattle.node_spec.specs.AstTables.{Row, row_in, row_over, row_of, row_after, row_names, rows_from, rows_in}
use Rattle.node_spec.specs.AstFaults.{row_at}
use Rattle.node_spec.proofs.AstLists.{rows_in-append, rows_in-step}

-- places in lists
pub there : {X : Type 0} (xs : List X) (i : ℕ) → i < length xs → (x : X) × (slice_get xs i ≡ Some x)
there [] i less = absurd (omega (arith, less))
there (x ∷ xs) zero less = (x, refl)
there (x ∷ xs) (suc i) less = there xs i (omega (arith, less))

pub get_front : {X : Type 0} (xs ys : List X) (i : ℕ) (x : X) → slice_get xs i ≡ Some x
    → slice_get (xs ++ ys) i ≡ Some x
get_front [] ys i x at = absurd (none-some x at)
get_front (y ∷ xs) ys zero x at = at
get_front (y ∷ xs) ys (suc i) x at = get_front xs ys i x at

pub front_or_last : {X : Type 0} (xs : List X) (new : X) (i : ℕ) (x : X) → slice_get (xs ++ new ∷ []) i ≡ Some x
    → (slice_get xs i ≡ Some x) ⊎ ((i ≡ length xs) × (new ≡ x))
front_or_last [] new zero x at = inr (refl, (cc))
front_or_last [] new (suc i) x at = absurd (none-some x at)
front_or_last (y ∷ xs) new zero x at = inl at
front_or_last (y ∷ xs) new (suc i) x at = by (front_or_last xs new i x at)
  where
    by : (slice_get xs i ≡ Some x) ⊎ ((i ≡ length xs) × (new ≡ x))
        → (slice_get (y ∷ xs) (suc i) ≡ Some x) ⊎ ((suc i ≡ length (y ∷ xs)) × (new ≡ x))
    by (inl at) = inl at
    by (inr last) = inr (ap suc last.0, last.1)

pub got_of_map : {X Y : Type 0} (f : X → Y) (xs : List X) (i : ℕ) (y : Y) → slice_get (map f xs) i ≡ Some y
    → (x : X) × (slice_get xs i ≡ Some x) × (f x ≡ y)
got_of_map f [] i y at = absurd (none-some y at)
got_of_map f (x ∷ xs) zero y at = (x, refl, (cc))
got_of_map f (x ∷ xs) (suc i) y at = got_of_map f xs i y at

-- types that are there stay there, whatever the lines behind declare
after_longer : (said : AstSaying) (rows : List Row) → (more : List Row) × (row_after rows said ≡ rows ++ more)
after_longer (family name) rows = ([], sym (append-nil rows))
after_longer (target name) rows = ([], sym (append-nil rows))
after_longer (a_type name base items) rows = (row_of rows name base items ∷ [], refl)
after_longer (node nonterminal name) rows = ([], sym (append-nil rows))
after_longer (build label e) rows = ([], sym (append-nil rows))

pub rows_longer : (rows : List Row) (ds : List (Declared AstSaying))
    → (more : List Row) × (rows_from rows ds ≡ rows ++ more)
rows_longer rows [] = ([], sym (append-nil rows))
rows_longer rows (d ∷ ds) =
    let first = after_longer d.said rows in
    let later = rows_longer (row_after rows d.said) ds in
    (first.0 ++ later.0, later.1 ∙ ap (λ l. l ++ later.0) first.1 ∙ append_assoc rows first.0 later.0)

pub row_stays : (ds : List (Declared AstSaying)) (i k : ℕ) (row : Row) → slice_get (rows_in (take i ds)) k ≡ Some row
    → slice_get (rows_in ds) k ≡ Some row
row_stays ds i k row at =
    let longer = rows_longer (rows_in (take i ds)) (drop i ds) in
    let same : rows_in ds ≡ rows_in (take i ds) ++ longer.0 =
    ap rows_in (sym (take-append-drop i ds)) ∙ rows_in-append (take i ds) (drop i ds) ∙ longer.1 in
    subst (λ rows. slice_get rows k ≡ Some row) (sym same) (get_front (rows_in (take i ds)) longer.0 k row at)

-- what holds of each type that is declared over types of which it holds, holds of all
module _ (ds : List (Declared AstSaying)) (P : Row → Type 0)
    (step : (i : ℕ) (d : Declared AstSaying) (name base : List ℕ) (own : List SaidItem) → slice_get ds i ≡ Some d
    → d.said ≡ a_type name base own → All P (rows_in (take i ds)) → P (row_at ds i name base own)) where
  after_one : (i : ℕ) (d : Declared AstSaying) (said : AstSaying) → slice_get ds i ≡ Some d → d.said ≡ said
      → All P (rows_in (take i ds)) → All P (row_after (rows_in (take i ds)) said)
  after_one i d (family name) at is all = all
  after_one i d (target name) at is all = all
  after_one i d (a_type name base own) at is all =
      All-append P (rows_in (take i ds)) (row_at ds i name base own ∷ []) all
      (All-cons P (row_at ds i name base own) [] (step i d name base own at is all) (All-nil P))
  after_one i d (node nonterminal name) at is all = all
  after_one i d (build label e) at is all = all

  rows_to : (i : ℕ) → i ≤ length ds → All P (rows_in (take i ds))
  rows_to zero within = All-nil P
  rows_to (suc i) within =
      let d = there ds i (omega (arith, within)) in
      let one : i + 1 ≡ suc i = omega arith in
      subst (λ n. All P (rows_in (take n ds))) one
      (subst (λ rows. All P rows) (sym (rows_in-step ds i d.0 d.1))
      (after_one i d.0 d.0.said d.1 refl (rows_to i (omega (arith, within)))))

  pub each_row : All P (rows_in ds)
  each_row = subst (λ l. All P (rows_in l)) (take_all ds (length ds) refl) (rows_to (length ds) (omega arith))

-- the line of a type
pub record IsRowOfLine (ds : List (Declared AstSaying)) (k : ℕ) (row : Row) : Type 0 where
  pub place : ℕ
  pub declared : Declared AstSaying
  pub name : List ℕ
  pub base : List ℕ
  pub own : List SaidItem
  pub at : slice_get ds place ≡ Some declared
  pub said : declared.said ≡ a_type name base own
  pub is : row ≡ row_at ds place name base own
  pub number : k ≡ length (rows_in (take place ds))

module _ (ds : List (Declared AstSaying)) where
  line_after : (i : ℕ) (d : Declared AstSaying) (said : AstSaying) → slice_get ds i ≡ Some d → d.said ≡ said
      → ((k : ℕ) (row : Row) → slice_get (rows_in (take i ds)) k ≡ Some row → IsRowOfLine ds k row)
      → (k : ℕ) (row : Row) → slice_get (row_after (rows_in (take i ds)) said) k ≡ Some row → IsRowOfLine ds k row
  line_after i d (family name) at is before k row got = before k row got
  line_after i d (target name) at is before k row got = before k row got
  line_after i d (a_type name base own) at is before k row got =
      by (front_or_last (rows_in (take i ds)) (row_at ds i name base own) k row got)
    where
      by : (slice_get (rows_in (take i ds)) k ≡ Some row)
          ⊎ ((k ≡ length (rows_in (take i ds))) × (row_at ds i name base own ≡ row))
          → IsRowOfLine ds k row
      by (inl earlier) = before k row earlier
      by (inr last) = record {
        place = i;
        declared = d;
        name = name;
        base = base;
        own = own;
        at = at;
        said = is;
        is = sym last.1;
        number = last.0;
      }
  line_after i d (node nonterminal name) at is before k row got = before k row got
  line_after i d (build label e) at is before k row got = before k row got

  lines_to : (i : ℕ) → i ≤ length ds → (k : ℕ) (row : Row) → slice_get (rows_in (take i ds)) k ≡ Some row
      → IsRowOfLine ds k row
  lines_to zero within k row got = absurd (none-some row got)
  lines_to (suc i) within k row got =
      let d = there ds i (omega (arith, within)) in
      let one : suc i ≡ i + 1 = omega arith in
      line_after i d.0 d.0.said d.1 refl (λ k row got. lines_to i (omega (arith, within)) k row got) k row
      (subst (λ rows. slice_get rows k ≡ Some row) (rows_in-step ds i d.0 d.1)
      (subst (λ n. slice_get (rows_in (take n ds)) k ≡ Some row) one got))

  pub line_of_row : (k : ℕ) (row : Row) → slice_get (rows_in ds) k ≡ Some row → IsRowOfLine ds k row
  line_of_row k row got =
      lines_to (length ds) (omega arith) k row
      (subst (λ l. slice_get (rows_in l) k ≡ Some row) (sym (take_all ds (length ds) refl)) got)

-- the base of a type is one of those before it, of whose family it is and whose items it begins with
pub record ExtendsOne (ds : List (Declared AstSaying)) (k b : ℕ) (row : Row) : Type 0 where
  pub before : b < k
  pub from : Row
  pub from_at : slice_get (rows_in ds) b ≡ Some from
  pub family : row.family ≡ from.family
  pub own : List SaidItem
  pub items : row.items ≡ from.items ++ own

pub row_over-base : (rows : List Row) (name base : List ℕ) (own : List SaidItem) (number : Option ℕ)
    → (row_over rows name base own number).base ≡ number
row_over-base rows name base own None = refl
row_over-base rows name base own (Some b) = refl

-- what a type takes from its base
pub over_base : (rows : List Row) (name base : List ℕ) (own : List SaidItem) (number : Option ℕ) (b : ℕ) (from : Row)
    → number ≡ Some b → slice_get rows b ≡ Some from
    → ((row_over rows name base own number).family ≡ from.family)
    × ((row_over rows name base own number).items ≡ from.items ++ own)
over_base rows name base own number b from is at =
    subst (λ n. ((row_over rows name base own n).family ≡ from.family)
    × ((row_over rows name base own n).items ≡ from.items ++ own))
    (sym is) (ap (λ r. (row_in r).family) at, ap (λ r. (row_in r).items ++ own) at)

pub without_base : (rows : List Row) (name base : List ℕ) (own : List SaidItem) (number : Option ℕ) → number ≡ None
    → ((row_over rows name base own number).family ≡ base) × ((row_over rows name base own number).items ≡ own)
without_base rows name base own number is =
    subst (λ n. ((row_over rows name base own n).family ≡ base) × ((row_over rows name base own n).items ≡ own))
    (sym is) (refl, refl)

pub base_there : (rows : List Row) (base : List ℕ) (b : ℕ) → number_of (row_names rows) base ≡ Some b
    → (from : Row) × (slice_get rows b ≡ Some from) × (from.name ≡ base)
base_there rows base b is = got_of_map (λ row. row.name) rows b base (name_at_number (row_names rows) base b is)

pub extends_one : (ds : List (Declared AstSaying)) (k b : ℕ) (row : Row) → slice_get (rows_in ds) k ≡ Some row
    → row.base ≡ Some b
    → ExtendsOne ds k b row
extends_one ds k b row got is =
    let line = line_of_row ds k row got in
    let rows = rows_in (take line.place ds) in
    let number = number_of (row_names rows) line.base in
    let found : number ≡ Some b =
    sym (row_over-base rows line.name line.base line.own number) ∙ sym (ap (λ r. r.base) line.is) ∙ is in
    let from = base_there rows line.base b found in
    let parts = over_base rows line.name line.base line.own number b from.0 found from.1 in
    let within = slice_get_within rows b from.0 from.1 in
    let place = line.number in
    record {
      before = omega (arith, within, place);
      from = from.0;
      from_at = row_stays ds line.place b from.0 from.1;
      family = ap (λ r. r.family) line.is ∙ parts.0;
      own = line.own;
      items = ap (λ r. r.items) line.is ∙ parts.1;
    }
