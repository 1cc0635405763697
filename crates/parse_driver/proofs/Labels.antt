-- A derivation of tokens is one of their terminals, and the other way round.
use Rattle.std.proofs.Common.{◌≡◌, ℕ, List, [], ◌∷◌, ◌++◌, map, refl, sym, ap, ◌∙◌, append_assoc}
use Rattle.std.proofs.lemmas.List.{append-nil}
use Rattle.cfg_model.specs.declared.symbol.Sym.{Sym}
use Rattle.cfg_model.specs.declared.symbol.Sym.TheVariants.{N}
use Rattle.cfg_model.specs.Cfg.{Cfg}
use Rattle.cfg_model.specs.Derivation.{Forest, empty, leaf, node, yield, shift, reduce, postorder, Derive, nothing, token, rule, Derivation, IsSentence}
use Rattle.parse_driver.specs.Stream.{terminal_of, terminals_of}
use Rattle.parse_driver.specs.Parse.{move_of}
use Rattle.parse_driver.specs.declared.tokens.TokenRef.{TokenRef}
use Rattle.parse_driver.specs.declared.step.Step.{Step}
use Rattle.parse_driver.specs.declared.step.Step.TheVariants as act
use Rattle.parse_driver.specs.within.LlStack.{steps_of}

pub terminals_beside : (a b : List TokenRef) → terminals_of (a ++ b) ≡ terminals_of a ++ terminals_of b
terminals_beside [] b = refl
terminals_beside (k ∷ a) b = ap (λ l. k.terminal ∷ l) (terminals_beside a b)

-- the steps of a forest are its vertices in postorder
moves_beside : (a b : List Step) → map move_of (a ++ b) ≡ map move_of a ++ map move_of b
moves_beside [] b = refl
moves_beside (s ∷ a) b = ap (λ l. move_of s ∷ l) (moves_beside a b)

pub steps_in_postorder : (f : Forest TokenRef) → map move_of (steps_of f) ≡ postorder f
steps_in_postorder empty = refl
steps_in_postorder (leaf k f) = ap (λ l. shift k ∷ l) (steps_in_postorder f)
steps_in_postorder (node r children f) =
    moves_beside (steps_of children) (act.Reduce r ∷ steps_of f) ∙ ap (λ l. l ++ (reduce r ∷ map move_of (steps_of f))) (steps_in_postorder children)
    ∙ ap (λ l. postorder children ++ (reduce r ∷ l)) (steps_in_postorder f)

-- the forest with the terminals of its tokens
abbrev pub plain : Forest TokenRef → Forest ℕ
plain empty = empty
plain (leaf k f) = leaf k.terminal (plain f)
plain (node r children f) = node r (plain children) (plain f)

pub plain_yield : (f : Forest TokenRef) → yield (plain f) ≡ terminals_of (yield f)
plain_yield empty = refl
plain_yield (leaf k f) = ap (λ l. k.terminal ∷ l) (plain_yield f)
plain_yield (node r children f) = rw (plain_yield children, plain_yield f) (sym (terminals_beside (yield children) (yield f)))

module _ (g : Cfg) where
  pub plain_derives : (u : List Sym) (f : Forest TokenRef) → Derive terminal_of g u f → Derive (λ t. t) g u (plain f)
  plain_derives _ _ nothing = nothing
  plain_derives _ _ (token t k u f is d) = token t k.terminal u (plain f) is (plain_derives u f d)
  plain_derives _ _ (rule r n w u children f is c d) = rule r n w u (plain children) (plain f) is (plain_derives w children c) (plain_derives u f d)

  pub plain_sentence : (ks : List TokenRef) (f : Forest TokenRef) → Derivation terminal_of g ks f → IsSentence g (terminals_of ks)
  plain_sentence ks f d = (plain f, record { from_start = plain_derives (N g.start ∷ []) f d.from_start; yields = ap terminals_of d.yields ∙ sym (plain_yield f) })

  -- tokens in the places of their terminals
  pub record Labelled (u : List Sym) (ks : List TokenRef) (rest : List ℕ) : Type 0 where
    pub forest : Forest TokenRef
    pub derive : Derive terminal_of g u forest
    pub tokens : List TokenRef
    pub whole : ks ≡ yield forest ++ tokens
    pub rest_is : terminals_of tokens ≡ rest

  pub label : (u : List Sym) (f : Forest ℕ) → Derive (λ t. t) g u f → (ks : List TokenRef) (rest : List ℕ) → terminals_of ks ≡ yield f ++ rest → Labelled u ks rest
  label _ _ nothing ks rest same = record { forest = empty; derive = nothing; tokens = ks; whole = refl; rest_is = same }
  label _ _ (token t a u f is d) [] rest same = cc
  label _ _ (token t a u f is d) (k ∷ ks) rest same =
      let head : k.terminal ≡ a = cc in
      let tail : terminals_of ks ≡ yield f ++ rest = cc in
      let more = label u f d ks rest tail in
      record { forest = leaf k more.forest; derive = token t k u more.forest (head ∙ is) more.derive; tokens = more.tokens; whole = ap (λ l. k ∷ l) more.whole; rest_is = more.rest_is }
  label _ _ (rule r n w u children f is c d) ks rest same =
      let first = label w children c ks (yield f ++ rest) (same ∙ append_assoc (yield children) (yield f) rest) in
      let more = label u f d first.tokens rest first.rest_is in
      record {
        forest = node r first.forest more.forest;
        derive = rule r n w u first.forest more.forest is first.derive more.derive;
        tokens = more.tokens;
        whole = first.whole ∙ ap (λ l. yield first.forest ++ l) more.whole ∙ sym (append_assoc (yield first.forest) (yield more.forest) more.tokens);
        rest_is = more.rest_is;
      }

  pub labelled_sentence : (ks : List TokenRef) → IsSentence g (terminals_of ks) → (f : Forest TokenRef) × Derivation terminal_of g ks f
  labelled_sentence ks (f, d) =
      let all = label (N g.start ∷ []) f d.from_start ks [] (d.yields ∙ sym (append-nil (yield f))) in
      let gone : all.tokens ≡ [] = none_left all.tokens all.rest_is in
      (all.forest, record { from_start = all.derive; yields = all.whole ∙ ap (λ l. yield all.forest ++ l) gone ∙ append-nil (yield all.forest) })
    where
      none_left : (ks : List TokenRef) → terminals_of ks ≡ [] → ks ≡ []
      none_left [] same = refl
      none_left (k ∷ ks) same = cc
