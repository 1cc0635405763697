-- What names stand for, tried on cases that are worked by hand.
use Rattle.std.proofs.Common.{◌≡◌, true, false, [], ◌∷◌, Some, None, codes, pos, refl, sym, subst}
use Rattle.std.specs.Fmt.{digits}
use Rattle.std.proofs.lemmas.Option.{same_Some}
use Rattle.expr_lang.specs.Expression.{no_expressions, and_expression}
use Rattle.expr_lang.specs.Expression as ex
use Rattle.expr_lang.specs.declared.expr.Function.TheVariants as function
use Rattle.expr_lang.specs.declared.expr.Op.TheVariants as op
use Rattle.expr_lang.specs.Typing.{Context, HasType, a_binary, plus_takes}
use Rattle.expr_lang.specs.Typing as typing
use Rattle.spec_text.specs.Lexemes as lex
use Rattle.spec_text.specs.Lexemes.{Form, a_number}
use Rattle.value_store.specs.declared.value.ValType.{ValType}
use Rattle.value_store.specs.declared.value.ValType.TheVariants as ty
use Rattle.expr_read.specs.Mentions.{dollars_in, named_in, by_name, by_pair}
use Rattle.expr_read.specs.Resolving.{Vocabulary, resolved, has_unknown, dollar_name, Means, MeansNothing}
use Rattle.expr_read.specs.Spoken.{number, truth, name, dollar, pair, binary, if_then, applied, no_spoken, and_spoken}

-- variables `a`, `b` and `a`; makers `text`, `P` and `P`, of the types 4, 5 and 6; `a.b` is variable 7, and then 8
abbrev tried : Vocabulary
tried = record {
  variables = codes "a" ∷ codes "b" ∷ codes "a" ∷ [];
  makers = codes "text" ∷ codes "P" ∷ codes "P" ∷ [];
  types = 4 ∷ 5 ∷ 6 ∷ [];
  dotted = record { before = codes "a"; after = codes "b"; variable = 7 } ∷ record { before = codes "a"; after = codes "b"; variable = 8 } ∷ [];
}

-- of equal names the first one counts
first_variable : resolved tried (name (codes "a")) ≡ Some (ex.var 0)
first_variable = refl

first_maker : resolved tried (applied (codes "P") no_spoken) ≡ Some (ex.make 5 no_expressions)
first_maker = refl

first_pair : resolved tried (pair (codes "a") (codes "b")) ≡ Some (ex.var 7)
first_pair = refl

-- a function comes before a maker of its name
function_first : resolved tried (applied (codes "text") (and_spoken (name (codes "b")) no_spoken)) ≡ Some (ex.call function.Text (and_expression (ex.var 1) no_expressions))
function_first = refl

-- a maker's name is no variable's, and the other way round
no_variable : resolved tried (name (codes "P")) ≡ None
no_variable = refl

no_maker : resolved tried (applied (codes "a") no_spoken) ≡ None
no_maker = refl

-- what stands for nothing within a branch makes the whole stand for nothing
nothing_inside : resolved tried (if_then (truth true) (number 1) (name (codes "c"))) ≡ None
nothing_inside = refl

-- it is unknown where it stands before parentheses, and only there
unknown_inside : has_unknown tried.makers (if_then (truth true) (number 1) (applied (codes "Q") no_spoken)) ≡ true
unknown_inside = refl

unknown_argument : has_unknown tried.makers (applied (codes "P") (and_spoken (number 1) (and_spoken (applied (codes "a") no_spoken) no_spoken))) ≡ true
unknown_argument = refl

name_alone : has_unknown tried.makers (name (codes "c")) ≡ false
name_alone = refl

known_ones : has_unknown tried.makers (applied (codes "P") (and_spoken (applied (codes "size") no_spoken) no_spoken)) ≡ false
known_ones = refl

-- the name of a symbol has its number without zeros in front
dollar_one : dollar_name 1 ≡ codes "$1"
unfolding digits
dollar_one = refl

dollar_ten : dollar_name 10 ≡ codes "$10"
unfolding digits
dollar_ten = refl

-- `01` says 1, so `$01` is `$1`, and a variable called `$01` isn't named by it
zero_in_front : Form (codes "01") (lex.number 1)
zero_in_front = a_number 48 (codes "1") refl refl

by_its_number : resolved (record { variables = codes "$01" ∷ codes "$1" ∷ []; makers = []; types = []; dotted = [] }) (dollar 1) ≡ Some (ex.var 1)
unfolding digits
by_its_number = refl

-- variables from left to right, each as often as it stands there; a maker's name is none
names : named_in (binary op.Plus (pair (codes "c") (codes "n")) (applied (codes "P") (and_spoken (name (codes "n")) (and_spoken (name (codes "n")) no_spoken))))
    ≡ by_pair (codes "c") (codes "n") ∷ by_name (codes "n") ∷ by_name (codes "n") ∷ []
names = refl

-- the numbers from left to right
dollars : dollars_in (if_then (dollar 3) (applied (codes "P") (and_spoken (dollar 1) (and_spoken (dollar 2) no_spoken))) (dollar 1)) ≡ 3 ∷ 1 ∷ 2 ∷ 1 ∷ []
dollars = refl

-- 1 + 2 means a sum, an int; of 1 + true the names stand for something, but it has no type
abbrev no_vars : Context
no_vars = record { vars = []; makers = []; sources = λ n f. false }

pub a_sum : Means tried no_vars (binary op.Plus (number 1) (number 2)) (ex.binary op.Plus (ex.number (pos 1)) (ex.number (pos 2))) ty.Int
a_sum = record { is = refl; typed = a_binary op.Plus _ _ ty.Int ty.Int plus_takes (typing.a_number (pos 1)) (typing.a_number (pos 2)) }

no_truth : HasType no_vars (ex.truth true) ty.Int → ⊥
no_truth is = elim is [ ]

pub no_sum : MeansNothing tried no_vars (binary op.Plus (number 1) (truth true))
no_sum x t means =
    let same : ex.binary op.Plus (ex.number (pos 1)) (ex.truth true) ≡ x = same_Some _ x means.is in
    by t (subst (λ y. HasType no_vars y t) (sym same) means.typed)
  where
    by : (t : ValType) → HasType no_vars (ex.binary op.Plus (ex.number (pos 1)) (ex.truth true)) t → ⊥
    by t (a_binary _ _ _ _ _ plus_takes first second) = no_truth second
