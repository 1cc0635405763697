-- How many turns a parse can take before it draws a token, at most.
use Rattle.std.proofs.Common.{◌≡◌, ℕ, suc, ◌+◌, ◌-◌, ◌*◌, ◌^◌, ◌<◌, ◌≤◌, List, [], ◌∷◌, ◌++◌, length, refl, arith, add-one, suc-mul, mul-add}
use Rattle.std.proofs.Math.Nat.{pow-suc, mul-le-mul_right, one-le-pow}
use Rattle.cfg_model.specs.declared.symbol.Sym.{Sym}
use Rattle.cfg_model.specs.declared.symbol.Sym.TheVariants.{T, N}
use Rattle.parse_driver.specs.declared.ll.Entry.{Entry}
use Rattle.parse_driver.specs.declared.ll.Entry.TheVariants.{Find, Done}
use Rattle.parse_driver.specs.within.LlStack.{finding, open_rules, weight, load}

-- symbols that are to be found open no rule
pub open_finding : (u : List Sym) (stack : List Entry) → open_rules (finding u ++ stack) ≡ open_rules stack
open_finding [] stack = refl
open_finding (x ∷ u) stack = open_finding u stack

module _ (long most r : ℕ) (stack : List Entry) where
  pub unit : ℕ
  unit = (long + 2) ^ (most - suc (open_rules stack))

  -- a right side takes at most a unit for each symbol
  pub load_right : (u : List Sym) → load long most (finding u ++ (Done r ∷ stack)) ≤ length u * unit + 1 + load long most stack
  unfolding unit weight
  load_right [] = omega arith
  load_right (T t ∷ u) = let rest = load_right u in omega (arith, rest)
  load_right (N n ∷ u) = (
      let rest = load_right u in
      let same = weight_here u in
      omega (arith, rest, same)
      )
    where
      weight_here : (u : List Sym) → weight long (most - open_rules (finding u ++ (Done r ∷ stack))) ≡ unit
      weight_here u = rw (open_finding u (Done r ∷ stack)) refl

-- a rule in the place of its left side is less
pub load_falls : (long most r n : ℕ) (u : List Sym) (stack : List Entry) → length u ≤ long → open_rules stack < most
    → load long most (finding u ++ (Done r ∷ stack)) < load long most (Find (N n) ∷ stack)
unfolding unit weight
load_falls long most r n u stack fits room =
    let e : ℕ = most - suc (open_rules stack) in
    let one : 1 ≤ (long + 2) ^ (most - suc (open_rules stack)) = one-le-pow (most - suc (open_rules stack)) (long + 2) (omega arith) in
    let next : most - open_rules stack ≡ suc (most - suc (open_rules stack)) = omega (arith, room) in
    let power : (long + 2) ^ (suc (most - suc (open_rules stack))) ≡ (long + 2) ^ (most - suc (open_rules stack)) * (long + 2) =
    pow-suc (long + 2) (most - suc (open_rules stack)) in
    let many : length u * (long + 2) ^ (most - suc (open_rules stack)) ≤ long * (long + 2) ^ (most - suc (open_rules stack)) =
    mul-le-mul_right ((long + 2) ^ (most - suc (open_rules stack))) fits in
    let all = load_right long most r stack u in
    rw (next, power) (omega arith)
