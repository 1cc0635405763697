-- What each rule gives at a pair tells whether its label is its own rule's, and whether a rule undercuts or fills it.
use Rattle.std.proofs.Common.{◌≡◌, ℕ, ◌+◌, ◌<◌, ◌≤◌, List, Option, Some, None, Bool, true, false, inl, inr, arith, refl, sym, subst, ◌∙◌}
use Rattle.std.specs.Prelude.{nat_lt, nat_eq}
use Rattle.std.proofs.lemmas.Bool.{cases_lt, eq-eqb, eqb-true, lt-ltb, ltb-true}
use Rattle.beg_model.specs.Cover.{Application}
use Rattle.beg_model.specs.declared.matched.Subgoal.{Subgoal}
use Rattle.beg_model.specs.Labels.{Costs, Sums, IsRightAt}
use Rattle.beg_model.proofs.Closing.{one_sum}
use Rattle.beg_model.proofs.Search.{last_or_before}
use Rattle.cover_check.specs.declared.giving.Given.{Given}
use Rattle.cover_check.specs.declared.giving.Given.TheVariants.{Nothing, Cost, Past}
use Rattle.cover_check.specs.within.Givings.{Gives, GivenIs}
use Rattle.cover_check.specs.within.Pairs.{breaks, comes_to, IsOwn, IsUnder, Tells}

-- a rule has one application at most
abbrev pub OneEach : Application → Type 0
OneEach A = (r n x y k l : ℕ) (ps qs : List Subgoal) → A r n x k ps → A r n y l qs → (x ≡ y) × (k ≡ l) × (ps ≡ qs)

one_total : (A : Application) (costs : Costs) (n x r a b : ℕ) → OneEach A → Gives A costs n x r a → Gives A costs n x r b → a ≡ b
one_total A costs n x r a b one g h =
    let (s, k, ps) = one r n x x g.k h.k g.ps h.ps g.applies h.applies in
    let e = one_sum costs g.sums (subst (λ z. Sums costs z h.e) (sym ps) h.sums) in
    let ga = g.total_is in let hb = h.total_is in omega (arith, e, k, ga, hb)

same_cost : {o : Option ℕ} {a b : ℕ} → o ≡ Some a → o ≡ Some b → a ≡ b
same_cost e f = cc

less : (a b : ℕ) → nat_lt a b ≡ true → a < b
less a b e = ltb-true a b e

not_less : (a b : ℕ) → nat_lt a b ≡ false → b ≤ a
not_less a b e = elim (cases_lt a b) [
  | inl lt ↦ (let no : true ≡ false = sym (lt-ltb a b lt) ∙ e in cc)
  | inr le ↦ le
]

equal : (a b : ℕ) → nat_eq a b ≡ true → a ≡ b
equal a b e = eqb-true a b e

not_equal : (a b : ℕ) → nat_eq a b ≡ false → a ≡ b → ⊥
not_equal a b e = λ same. (let no : true ≡ false = sym (eq-eqb a b same) ∙ e in cc)

-- ------------------------------------------------------------------ the own rule

own_yes : (A : Application) (costs rules : Costs) (n x c r : ℕ) → costs n x ≡ Some c → rules n x ≡ Some r → Gives A costs n x r c → IsOwn A costs rules n x
own_yes A costs rules n x c r label chosen g = λ d is.
    (let same = same_cost is label in (r, g.k, g.e, g.ps, chosen, g.applies, g.sums, same ∙ g.total_is))

own_gives : (A : Application) (costs rules : Costs) (n x c r : ℕ) → costs n x ≡ Some c → rules n x ≡ Some r → IsOwn A costs rules n x → Gives A costs n x r c
own_gives A costs rules n x c r label chosen own =
    let (q, k, e, ps, is, a, sums, total) = own c label in
    let same = same_cost is chosen in
    record { k = k; e = e; ps = ps; applies = subst (λ z. A z n x k ps) same a; sums = sums; total_is = total }

pub own_told : (A : Application) (costs rules : Costs) (n x c r : ℕ) (given : Given) (told : Bool) → OneEach A → c < 18446744073709551616 → costs n x ≡ Some c → rules n x ≡ Some r
    → GivenIs A costs n x r given → told ≡ comes_to given c → Tells (IsOwn A costs rules n x) told
own_told A costs rules n x c r Nothing true one lt label chosen none e = cc
own_told A costs rules n x c r Nothing false one lt label chosen none e = λ own. none c (own_gives A costs rules n x c r label chosen own)
own_told A costs rules n x c r Past true one lt label chosen (total, g, past) e = cc
own_told A costs rules n x c r Past false one lt label chosen (total, g, past) e =
    λ own. (let same = one_total A costs n x r total c one g (own_gives A costs rules n x c r label chosen own) in omega (arith, same, lt, past))
own_told A costs rules n x c r (Cost d) true one lt label chosen g e =
    own_yes A costs rules n x c r label chosen (subst (λ z. Gives A costs n x r z) (equal d c (sym e)) g)
own_told A costs rules n x c r (Cost d) false one lt label chosen g e =
    λ own. not_equal d c (sym e) (one_total A costs n x r d c one g (own_gives A costs rules n x c r label chosen own))

pub own_none : (A : Application) (costs rules : Costs) (n x : ℕ) → costs n x ≡ None → Tells (IsOwn A costs rules n x) true
own_none A costs rules n x none = λ c is. (let no : Some c ≡ None = sym is ∙ none in cc)

pub own_without : (A : Application) (costs rules : Costs) (n x c : ℕ) → costs n x ≡ Some c → rules n x ≡ None → Tells (IsOwn A costs rules n x) false
own_without A costs rules n x c label none = λ own. (let (r, k, e, ps, is, a, sums, total) = own c label in let no : Some r ≡ None = sym is ∙ none in cc)

pub own_past : (A : Application) (costs rules : Costs) (n x c r count : ℕ) → ((r n x k : ℕ) (ps : List Subgoal) → A r n x k ps → r < count)
    → costs n x ≡ Some c → rules n x ≡ Some r → count ≤ r → Tells (IsOwn A costs rules n x) false
own_past A costs rules n x c r count among label chosen past = λ own.
    (let g = own_gives A costs rules n x c r label chosen own in let lt = among r n x g.k g.ps g.applies in omega (arith, lt, past))

-- ------------------------------------------------------------------ the other rules

-- the rules before this one don't undercut the label, nor fill it
abbrev pub UnderTo : Application → Costs → ℕ → ℕ → Option ℕ → ℕ → Type 0
UnderTo A costs n x label r = (q k e : ℕ) (ps : List Subgoal) → q < r → A q n x k ps → Sums costs ps e → (c : ℕ) × (label ≡ Some c) × (c ≤ k + e)

pub under_begin : (A : Application) (costs : Costs) (n x : ℕ) (label : Option ℕ) → UnderTo A costs n x label 0
under_begin A costs n x label = λ q k e ps lt a sums. absurd (omega (arith, lt))

here_under : (A : Application) (costs : Costs) (n x r : ℕ) (given : Given) (label : Option ℕ) → OneEach A → ((c : ℕ) → label ≡ Some c → c < 18446744073709551616)
    → GivenIs A costs n x r given → breaks given label ≡ false → (total : ℕ) → Gives A costs n x r total → (c : ℕ) × (label ≡ Some c) × (c ≤ total)
here_under A costs n x r Nothing label one fits none e total g = absurd (none total g)
here_under A costs n x r (Cost d) None one fits own e total g = cc
here_under A costs n x r (Cost d) (Some l) one fits own e total g =
    let same = one_total A costs n x r d total one own g in let le = not_less d l e in (l, refl, omega (arith, same, le))
here_under A costs n x r Past None one fits (most, own, past) e total g = cc
here_under A costs n x r Past (Some l) one fits (most, own, past) e total g =
    let same = one_total A costs n x r most total one own g in let lt = fits l refl in (l, refl, omega (arith, same, lt, past))

pub under_step : (A : Application) (costs : Costs) (n x r : ℕ) (given : Given) (label : Option ℕ) → OneEach A → ((c : ℕ) → label ≡ Some c → c < 18446744073709551616)
    → GivenIs A costs n x r given → breaks given label ≡ false → UnderTo A costs n x label r → UnderTo A costs n x label (r + 1)
under_step A costs n x r given label one fits is whole so_far = λ q k e ps lt a sums. elim (last_or_before q r (omega (arith, lt))) [
  | inl same ↦ here_under A costs n x r given label one fits is whole (k + e)
      (record { k = k; e = e; ps = ps; applies = subst (λ z. A z n x k ps) (sym same) a; sums = sums; total_is = refl })
  | inr before ↦ so_far q k e ps before a sums
]

pub under_broken : (A : Application) (costs : Costs) (n x r : ℕ) (given : Given) (label : Option ℕ) → label ≡ costs n x
    → GivenIs A costs n x r given → breaks given label ≡ true → Tells (IsUnder A costs n x) false
under_broken A costs n x r Nothing label is none e = λ under. (cc)
under_broken A costs n x r (Cost d) None is g e = λ under.
    (let (c, at, le) = under r g.k g.e g.ps g.applies g.sums in let no : None ≡ Some c = is ∙ at in cc)
under_broken A costs n x r (Cost d) (Some l) is g e = λ under.
    (let (c, at, le) = under r g.k g.e g.ps g.applies g.sums in
    let same : l ≡ c = same_cost (sym is) at in let lt = less d l e in let total = g.total_is in omega (arith, same, lt, total, le))
under_broken A costs n x r Past None is (most, g, past) e = λ under.
    (let (c, at, le) = under r g.k g.e g.ps g.applies g.sums in let no : None ≡ Some c = is ∙ at in cc)
under_broken A costs n x r Past (Some l) is (most, g, past) e = λ under. (cc)

pub under_end : (A : Application) (costs : Costs) (n x count r : ℕ) (label : Option ℕ) → label ≡ costs n x
    → ((r n x k : ℕ) (ps : List Subgoal) → A r n x k ps → r < count) → count ≤ r → UnderTo A costs n x label r → Tells (IsUnder A costs n x) true
under_end A costs n x count r label is among past so_far = λ q k e ps a sums.
    (let lt = among q n x k ps a in let (c, at, le) = so_far q k e ps (omega (arith, lt, past)) a sums in (c, sym is ∙ at, le))

-- ------------------------------------------------------------------ both

pub right_told : (A : Application) (costs rules : Costs) (n x : ℕ) (under : Bool) → IsOwn A costs rules n x → Tells (IsUnder A costs n x) under
    → Tells (IsRightAt A costs rules n x) under
right_told A costs rules n x true own under = record { own = own; under = under }
right_told A costs rules n x false own none = λ right. none right.under

pub right_not : (A : Application) (costs rules : Costs) (n x : ℕ) → (IsOwn A costs rules n x → ⊥) → IsRightAt A costs rules n x → ⊥
right_not A costs rules n x none right = none right.own
