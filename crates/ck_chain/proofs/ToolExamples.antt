-- Refusals of a specification and the tools of an accepted one, tried on cases where a wrong reading would differ.
use Rattle.std.proofs.Common.{◌≡◌, ℕ, inl, ◌≤◌, true, false, List, [], ◌∷◌, length, Option, Some, None, codes, refl, arith}
use Rattle.ck_base.specs.declared.fault.Kind.{Kind}
use Rattle.ck_base.specs.declared.refusal.Refusal.{Refusal}
use Rattle.ck_base.specs.declared.refusal.Refusal.TheVariants as refusal
use Rattle.cfg_model.specs.declared.named.NamedGrammar.{NamedGrammar}
use Rattle.cfg_model.specs.declared.refused.LalrError.{LalrError}
use Rattle.cfg_model.specs.declared.refused.LalrError.TheVariants as lalr
use Rattle.ell_tables.specs.Promise as ll
use Rattle.ell_tables.specs.declared.refusal.EllError.{EllError}
use Rattle.ell_tables.specs.declared.refusal.EllError.TheVariants as ell
use Rattle.rex_dfa.specs.declared.fault.DfaError.TheVariants as fault
use Rattle.ck_chain.specs.Accepts.{RefusesSpec, of_one}
use Rattle.ck_chain.specs.GrammarAccepts.{HasTable, for_ll, for_lr, HasNoTable, no_ll, no_lr, ell_refusal, lalr_refusal}
use Rattle.ck_chain.specs.Promise.{IsParserOf, IsNamed}
use Rattle.ck_chain.specs.RexAccepts.{RefusesRex, dfa_refusal}
use Rattle.ck_chain.specs.declared.toolset.Parser.TheVariants as parser
use Rattle.ck_chain.proofs.AcceptedOrRefused.{one_refusal}

-- the first rule is told as rule 1
told_as_1 : dfa_refusal (fault.NullableRule 0) ≡ Some (refusal.NullableRule 1)
told_as_1 = refl

-- rules without tables are the answer, whatever faults the sections behind REX have
rex_first : (spec : List ℕ) (line : ℕ) (kind : Kind) → length spec ≤ 1048576 → RefusesRex spec (refusal.NullableRule 1)
    → RefusesSpec spec (refusal.BadSpec line kind) → ⊥
rex_first spec line kind fits refuses other =
    let same = one_refusal spec _ _ (of_one fits _ (inl refuses)) other in cc

module _ (tokens : List (List ℕ)) (g : NamedGrammar) where
  -- a grammar under ELL needs an LL(1) table and no other
  ell_by_ll : g.ell ≡ true → ll.HasTable g.grammar → HasTable g
  ell_by_ll is has = for_ll is has

  only_by_ll : g.ell ≡ true → HasTable g → ll.HasTable g.grammar
  only_by_ll is (for_ll its has) = has
  only_by_ll is (for_lr its has) = cc

  -- it isn't refused for a conflict of LALR(1)
  no_lalr_conflict : (t r : List ℕ) (other : Option (List ℕ)) → g.ell ≡ true → HasNoTable tokens g (refusal.LalrConflict t r other) → ⊥
  no_lalr_conflict t r other is none = by (refusal.LalrConflict t r other) none refl
    where
      none_told : (error : EllError) → ell_refusal tokens g error ≡ Some (refusal.LalrConflict t r other) → ⊥
      none_told (ell.Unproductive n) told = cc
      none_told (ell.LeftRecursive n) told = cc
      none_told (ell.LlConflict n r q t) told = cc
      none_told ell.NoMemory told = cc

      by : (x : Refusal) → HasNoTable tokens g x → x ≡ refusal.LalrConflict t r other → ⊥
      by _ (no_ll error x kind refused told) same = none_told error (rw same at told)
      by _ (no_lr error x kind refused told) same = cc

  -- and one under LALR isn't for left recursion
  may_recurse_left : (n : List ℕ) → g.ell ≡ false → HasNoTable tokens g (refusal.LeftRecursive n) → ⊥
  may_recurse_left n is none = by (refusal.LeftRecursive n) none refl
    where
      none_told : (error : LalrError) → lalr_refusal tokens g error ≡ Some (refusal.LeftRecursive n) → ⊥
      none_told (lalr.Unproductive n) told = cc
      none_told (lalr.Cyclic n) told = cc
      none_told (lalr.HiddenLeft n) told = cc
      none_told lalr.TooManyStates told = cc
      none_told (lalr.LalrConflict t r other) told = cc
      none_told lalr.NoMemory told = cc

      by : (x : Refusal) → HasNoTable tokens g x → x ≡ refusal.LeftRecursive n → ⊥
      by _ (no_ll error x kind refused told) same = cc
      by _ (no_lr error x kind refused told) same = none_told error (rw same at told)

-- the grammar with the nonterminals `S` and `A` and the rules `a` and `b`
abbrev named : NamedGrammar
named = record {
  grammar = record { terminals = 1; nonterminals = 2; start = 0; rules = record { left = 0; right = [] } ∷ record { left = 1; right = [] } ∷ [] };
  nonterminals = codes "S" ∷ codes "A" ∷ [];
  labels = codes "a" ∷ codes "b" ∷ [];
  ell = true;
}

-- a conflict tells the nonterminal, the two rules and the terminal by their names
names_told : ell_refusal (codes "X" ∷ []) named (ell.LlConflict 1 1 2 1)
    ≡ Some (refusal.LlConflict (codes "A") (codes "a") (codes "b") (codes "END"))
names_told = refl

-- one with a shift has no second rule
shift_told : lalr_refusal (codes "X" ∷ []) named (lalr.LalrConflict 0 2 None) ≡ Some (refusal.LalrConflict (codes "X") (codes "b") None)
shift_told = refl

-- a parser of the other kind is none of the grammar, nor is none
lr_for_ell : (g : NamedGrammar) (table : _) → g.ell ≡ true → IsParserOf (Some g) (parser.Lr table) → ⊥
lr_for_ell g table is its = let other = its.0 in cc

ll_for_lalr : (g : NamedGrammar) (table : _) → g.ell ≡ false → IsParserOf (Some g) (parser.Ll table) → ⊥
ll_for_lalr g table is its = let other = its.0 in cc

none_for_one : (g : NamedGrammar) → IsParserOf (Some g) parser.Nothing → ⊥
none_for_one g its = its

-- the terminals are the tokens, without END
one_token : IsNamed 1 (Some named)
one_token = (refl, refl)

end_is_none : IsNamed 2 (Some named) → ⊥
end_is_none its = let count = its.0 in omega (arith, count)
