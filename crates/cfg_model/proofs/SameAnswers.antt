-- A table that answers the same is a table of the same grammar.
use Rattle.std.proofs.Common.{◌≡◌, ℕ, ◌<◌, ◌≤◌, ◌⊎◌, inl, inr, List, [], ◌∷◌, refl, sym, ap, subst, ◌∙◌, arith}
use Rattle.std.proofs.lemmas.List.Elements.{All-head}
use Rattle.cfg_model.specs.declared.symbol.Sym.{Sym}
use Rattle.cfg_model.specs.declared.symbol.Sym.TheVariants.{T, N}
use Rattle.cfg_model.specs.Cfg.{Cfg, IsGrammar, IsSymbol}
use Rattle.cfg_model.specs.Cores.{CoreList, IsCore}
use Rattle.cfg_model.specs.CoreTables.{IsTableOfCores, SameAnswers}
use Rattle.cfg_model.specs.LrTables.{IsLrTable, IsAction, shifted, state_after}
use Rattle.cfg_model.specs.Table.{Table}
use Rattle.cfg_model.specs.Valid.{Valid, HasCore}
use Rattle.cfg_model.proofs.CoreNumbers.{below_core}
use Rattle.cfg_model.proofs.InGrammar.{behind_dot}

-- the last symbol of a prefix with a core is one of the grammar
last_in : (g : Cfg) → IsGrammar g → (q : List Sym) (r d : ℕ) (y : List Sym) (a : ℕ) (x : Sym) (p : List Sym) → q ≡ x ∷ p
    → Valid g q r d y a → IsSymbol g x
last_in g ok q r d y a x p e Valid.start = cc
last_in g ok q r d y a x p e (Valid.closure _ r2 d2 n y2 a2 s b _ v is begins) = last_in g ok q r2 d2 _ a2 x p e v
last_in g ok q r d y a x p e (Valid.move p2 r2 d2 z _ _ v) =
    let same : z ≡ x = cc in
    subst (IsSymbol g) same (All-head (IsSymbol g) z y (behind_dot g ok p2 r2 d2 (z ∷ y) a v))

pub symbol_in : (g : Cfg) → IsGrammar g → (x : Sym) (p : List Sym) → HasCore g (x ∷ p) → IsSymbol g x
symbol_in g ok x p (r, d, y, (a, v)) = last_in g ok (x ∷ p) r d y a x p refl v

pub core_below : (g : Cfg) (x : Sym) (p : List Sym) → HasCore g (x ∷ p) → HasCore g p
core_below g x p (r, d, y, (a, v)) = below_core g (x ∷ p) r d y a x p refl v

module _ (g : Cfg) (a b : Table) (same : SameAnswers g a b) (is : IsLrTable g a) where
  -- a prefix has the same state in both
  pub same_state : (p : List Sym) → HasCore g p → state_after a p ≡ state_after b p
  same_state [] has = refl
  same_state (T t ∷ p) has =
      let before = core_below g (T t) p has in
      let low : t < g.terminals = symbol_in g is.accepted.grammar (T t) p has in
      ap shifted (same.acts (state_after a p) t (is.inside p before) (omega (arith, low)))
      ∙ ap (λ n. shifted (b.act n t)) (same_state p before)
  same_state (N n ∷ p) has =
      let before = core_below g (N n) p has in
      let low : n < g.nonterminals = symbol_in g is.accepted.grammar (N n) p has in
      same.gotos (state_after a p) n (is.inside p before) low ∙ ap (λ m. b.go m n) (same_state p before)

  pub same_table : IsLrTable g b
  same_table = record {
    accepted = is.accepted;
    inside = λ p has. (let low = is.inside p has in let at = same_state p has in let states = same.states in omega (arith, low, at, states));
    cores = λ p q has has2. (
      λ e. (is.cores p q has has2).0 (same_state p has ∙ (e ∙ sym (same_state q has2))),
      λ c. sym (same_state p has) ∙ ((is.cores p q has has2).1 c ∙ same_state q has2),
    );
    acts = λ p t has under. subst (IsAction g p t) (same.acts (state_after a p) t (is.inside p has) under
        ∙ ap (λ n. b.act n t) (same_state p has)) (is.acts p t has under);
  }

pub same_table_of_cores : (g : Cfg) (cores : CoreList) (a b : Table) → SameAnswers g a b → IsTableOfCores g cores a → IsTableOfCores g cores b
same_table_of_cores g cores a b same is = record {
  is_table = same_table g a b same is.is_table;
  are = is.are;
  numbered = λ p has. subst (λ n. IsCore g cores n p) (same_state g a b same is.is_table p has) (is.numbered p has);
  counted = sym same.states ∙ is.counted;
  nowhere = λ p n has low. (elim (is.nowhere p n has low) [
    | inl next ↦ inl next
    | inr none_is ↦ inr (sym (same.gotos (state_after a p) n (is.is_table.inside p has) low
        ∙ ap (λ m. b.go m n) (same_state g a b same is.is_table p has)) ∙ none_is)
  ]);
}
