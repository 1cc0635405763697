-- The label of a pair stands at its place among the entries.
use Rattle.std.proofs.Common.{◌≡◌, ℕ, ◌+◌, ◌*◌, ◌<◌, ◌≤◌, inl, inr, ltb, List, [], ◌∷◌, length, map, set, Some, None, arith, refl, sym, ap, subst, ◌∙◌, zero, suc}
use Rattle.std.specs.Prelude.{slice_get, option_map}
use Rattle.std.proofs.Math.Nat.{mul-le-mul_right}
use Rattle.std.proofs.lemmas.Option.{slice_get-map, slice_get-get_or, slice_get_past}
use Rattle.std.proofs.lemmas.List.{get_or-replicate, length-replicate}
use Rattle.std.proofs.Math.ListN.{replicate}
use Rattle.std.proofs.lemmas.Bool.{cases_eq, cases_lt, cases_Bool, ltb-true, lt-ltb}
use Rattle.beg_model.specs.Labels.{LabelTable, label_in, label_at, IsBlank, Puts}
use Rattle.beg_model.specs.within.Entries.{label_of}
use Rattle.beg_model.specs.declared.labels.Entry.{Entry}

pub same_place : (w n t m u : ℕ) → t < w → u < w → n * w + t ≡ m * w + u → (n ≡ m) × (t ≡ u)
same_place w n t m u t_in u_in same = elim (cases_lt n m) [
  | inl less ↦ (let more = mul-le-mul_right {m = n + 1} {n = m} w (omega arith) in absurd (omega arith))
  | inr not_less ↦ elim (cases_lt m n) [
    | inl less ↦ (let more = mul-le-mul_right {m = m + 1} {n = n} w (omega arith) in absurd (omega arith))
    | inr also ↦
        let number : n ≡ m = omega arith in
        let moved : m * w + t ≡ m * w + u = rw number at same in
        (number, omega arith)
  ]
]

pub place_within : (nodes w n x : ℕ) → n < nodes → x < w → n * w + x < nodes * w
place_within nodes w n x n_in x_in = let more = mul-le-mul_right {m = n + 1} {n = nodes} w (omega arith) in omega arith

-- the table that entries make
abbrev pub table_of : ℕ → ℕ → List Entry → LabelTable
table_of nodes w entries = record { nodes = nodes; nonterminals = w; labels = map label_of entries }

pub label_inside : (nodes w : ℕ) (es : List Entry) (n x : ℕ) → x < w
    → label_at (table_of nodes w es) n x ≡ label_in (option_map label_of (slice_get es (n * w + x)))
label_inside nodes w es n x below = rw (lt-ltb x w below) (ap label_in (slice_get-map label_of es (n * w + x)))

pub label_outside : (nodes w : ℕ) (es : List Entry) (n x : ℕ) → (x < w → ⊥) → label_at (table_of nodes w es) n x ≡ None
label_outside nodes w es n x past = elim (cases_Bool (ltb x w)) [
  | inl below ↦ absurd (past (ltb-true x w below))
  | inr above ↦ rw above refl
]

pub label_read : (nodes w : ℕ) (es : List Entry) (n x : ℕ) (e : Entry) → x < w → slice_get es (n * w + x) ≡ Some e
    → label_at (table_of nodes w es) n x ≡ label_of e
label_read nodes w es n x e below is = label_inside nodes w es n x below ∙ ap (λ o. label_in (option_map label_of o)) is

pub set_same : {A : Type 0} (xs : List A) (i : ℕ) (x : A) → i < length xs → slice_get (set xs i x) i ≡ Some x
set_same [] i x within = absurd (omega (arith, within))
set_same (y ∷ xs) zero x within = refl
set_same (y ∷ xs) (suc i) x within = set_same xs i x (omega (arith, within))

pub set_other : {A : Type 0} (xs : List A) (i j : ℕ) (x : A) → (j ≡ i → ⊥) → slice_get (set xs i x) j ≡ slice_get xs j
set_other [] i j x differ = refl
set_other (y ∷ xs) zero zero x differ = absurd (differ refl)
set_other (y ∷ xs) zero (suc j) x differ = refl
set_other (y ∷ xs) (suc i) zero x differ = refl
set_other (y ∷ xs) (suc i) (suc j) x differ = set_other xs i j x (λ e. differ (omega (arith, e)))

pub puts : (nodes w : ℕ) (es : List Entry) (n x cost rule : ℕ) (new : Entry) → length es ≡ nodes * w → n < nodes → x < w
    → label_of new ≡ Some (record { cost = cost; rule = rule })
    → Puts (table_of nodes w es) (table_of nodes w (set es (n * w + x) new)) n x cost rule
puts nodes w es n x cost rule new size n_in x_in is =
    let within : n * w + x < length es = (let lt = place_within nodes w n x n_in x_in in omega (arith, lt, size)) in
    record {
      nodes_are = refl;
      nonterminals_are = refl;
      here = label_read nodes w (set es (n * w + x) new) n x new x_in (set_same es (n * w + x) new within) ∙ is;
      others = λ m y. elim (cases_lt y w) [
        | inr past ↦ inr (label_outside nodes w (set es (n * w + x) new) m y (λ lt. omega (arith, past, lt))
            ∙ sym (label_outside nodes w es m y (λ lt. omega (arith, past, lt))))
        | inl below ↦ elim (cases_eq (m * w + y) (n * w + x)) [
          | inl same ↦ inl (same_place w m y n x below x_in same)
          | inr differ ↦ inr (label_inside nodes w (set es (n * w + x) new) m y below
              ∙ ap (λ o. label_in (option_map label_of o)) (set_other es (n * w + x) (m * w + y) new differ)
              ∙ sym (label_inside nodes w es m y below))
        ]
      ];
    }

abbrev pub blank : Entry
blank = record { low = 0; high = 0; rule = 4294967295 }

pub blank_none : (nodes w : ℕ) (es : List Entry) → es ≡ replicate (nodes * w) blank → IsBlank nodes w (table_of nodes w es)
blank_none nodes w es are = record {
  nodes_are = refl;
  nonterminals_are = refl;
  none = λ n x. elim (cases_lt x w) [
    | inr past ↦ label_outside nodes w es n x (λ lt. omega (arith, past, lt))
    | inl below ↦ label_inside nodes w es n x below ∙ ap (λ l. label_in (option_map label_of (slice_get l (n * w + x)))) are ∙ elim (cases_lt (n * w + x) (nodes * w)) [
      | inl within ↦ ap (λ o. label_in (option_map label_of o)) (slice_get-get_or (replicate (nodes * w) blank) (n * w + x) blank
          (rw (length-replicate (nodes * w) blank) within) ∙ ap Some (get_or-replicate (nodes * w) (n * w + x) blank blank within))
      | inr past ↦ ap (λ o. label_in (option_map label_of o)) (slice_get_past (replicate (nodes * w) blank) (n * w + x)
          (rw (length-replicate (nodes * w) blank) (omega (arith, past))))
    ]
  ];
}

pub puts_is : (old : LabelTable) (nodes w : ℕ) (es : List Entry) (n x cost rule : ℕ) (new : Entry) → table_of nodes w es ≡ old → length es ≡ nodes * w
    → n < old.nodes → x < old.nonterminals → label_of new ≡ Some (record { cost = cost; rule = rule })
    → Puts old (table_of nodes w (set es (n * w + x) new)) n x cost rule
puts_is old nodes w es n x cost rule new same size n_in x_in is =
    subst (λ (z : LabelTable). Puts z (table_of nodes w (set es (n * w + x) new)) n x cost rule) same
    (puts nodes w es n x cost rule new size (subst (λ (z : LabelTable). n < z.nodes) (sym same) n_in) (subst (λ (z : LabelTable). x < z.nonterminals) (sym same) x_in) is)

pub label_past : (nodes w : ℕ) (es : List Entry) (n x : ℕ) → length es ≡ nodes * w → nodes ≤ n → label_at (table_of nodes w es) n x ≡ None
label_past nodes w es n x size past = elim (cases_lt x w) [
  | inr above ↦ label_outside nodes w es n x (λ lt. omega (arith, above, lt))
  | inl below ↦ label_inside nodes w es n x below ∙ ap (λ o. label_in (option_map label_of o)) (slice_get_past es (n * w + x)
      (let more = mul-le-mul_right {m = nodes} {n = n} w past in omega (arith, more, size)))
]

pub label_past_is : (old : LabelTable) (nodes w : ℕ) (es : List Entry) → table_of nodes w es ≡ old → length es ≡ nodes * w
    → (n x : ℕ) → old.nodes ≤ n → label_at old n x ≡ None
label_past_is old nodes w es is size n x past = subst (λ (z : LabelTable). label_at z n x ≡ None) is
    (label_past nodes w es n x size (subst (λ (z : LabelTable). z.nodes ≤ n) (sym is) past))
