-- What the start symbol derives around an item that is valid for a prefix.
use Rattle.std.proofs.Common.{◌≡◌, ℕ, ◌<◌, ◌≤◌, List, [], ◌∷◌, ◌++◌, refl, sym, ap, subst, append_assoc, ◌∙◌, arith, All}
use mathlib.Core.List.{reverse, reverse-cons}
use Rattle.std.proofs.lemmas.List.Elements.{All-tail, All-append}
use Rattle.cfg_model.specs.declared.symbol.Sym.{Sym}
use Rattle.cfg_model.specs.declared.symbol.Sym.TheVariants.{N}
use Rattle.cfg_model.specs.Cfg.{Cfg, IsGrammar, IsSymbol}
use Rattle.cfg_model.specs.Steps.{step, Steps, none, more, StepsOnce, word}
use Rattle.cfg_model.specs.Valid.{Valid, start, closure, move, first_of}
use Rattle.cfg_model.proofs.Forests.{steps_then, steps_within, word_append}
use Rattle.cfg_model.proofs.InGrammar.{behind_dot, known_word}

pub first_of-append : (u v : List ℕ) (a : ℕ) → first_of (u ++ v) a ≡ first_of u (first_of v a)
first_of-append [] v a = refl
first_of-append (b ∷ u) v a = refl

pub once_then : (g : Cfg) (u v w : List Sym) → StepsOnce g u v → Steps g v w → StepsOnce g u w
once_then g u v w s none = s
once_then g u v w (x, first, one) (more y _ t last) = (y, steps_then g (more x v first one) t, last)

-- the start symbol derives the prefix, what stands behind the dot and a word that begins with the
-- lookahead, in one or more steps where the rule isn't rule 0
pub record Around (g : Cfg) (q : List Sym) (r : ℕ) (y : List Sym) (a : ℕ) : Type 0 where
  pub rest : List ℕ
  pub begins : first_of rest g.terminals ≡ a
  pub below : All (λ t. t < g.terminals) rest
  pub steps : Steps g (N g.start ∷ []) (reverse q ++ (y ++ word rest))
  pub some : 1 ≤ r → StepsOnce g (N g.start ∷ []) (reverse q ++ (y ++ word rest))

pub around : (g : Cfg) → IsGrammar g → (q : List Sym) (r d : ℕ) (y : List Sym) (a : ℕ) → Valid g q r d y a → Around g q r y a
around g ok q r d y a start =
    record {
      rest = [];
      begins = refl;
      below = λ k d under. absurd (omega arith);
      steps = none;
      some = λ one. absurd (omega (arith, one));
    }
around g ok q r d y a (closure _ r2 d2 n y2 a2 s _ _ v is (w, derives, first)) =
    let h = around g ok q r2 d2 _ a2 v in
    let once : StepsOnce g (N g.start ∷ []) (reverse q ++ (y ++ (y2 ++ word h.rest))) =
    (reverse q ++ (N n ∷ (y2 ++ word h.rest)), h.steps, step s n y (reverse q) (y2 ++ word h.rest) is) in
    let tail : Steps g (reverse q ++ (y ++ (y2 ++ word h.rest))) (reverse q ++ (y ++ (word w ++ word h.rest))) =
    subst (λ l. Steps g l (reverse q ++ (y ++ (word w ++ word h.rest)))) (append_assoc (reverse q) y (y2 ++ word h.rest))
    (subst (λ l. Steps g ((reverse q ++ y) ++ (y2 ++ word h.rest)) l) (append_assoc (reverse q) y (word w ++ word h.rest))
    (steps_within g (reverse q ++ y) (word h.rest) derives)) in
    let whole : StepsOnce g (N g.start ∷ []) (reverse q ++ (y ++ word (w ++ h.rest))) =
    subst (λ l. StepsOnce g (N g.start ∷ []) (reverse q ++ (y ++ l))) (sym (word_append g w h.rest)) (once_then g _ _ _ once tail) in
    record {
      rest = w ++ h.rest;
      begins = first_of-append w h.rest g.terminals ∙ (ap (first_of w) h.begins ∙ first);
      below = All-append (λ t. t < g.terminals) w h.rest
          (known_word g ok y2 w (All-tail (IsSymbol g) (N n) y2 (behind_dot g ok q r2 d2 _ a2 v)) derives) h.below;
      steps = more _ _ whole.1 whole.2;
      some = λ one. whole;
    }
around g ok q r d y a (move p2 r2 d2 x _ _ v) =
    let h = around g ok p2 r2 d2 _ a v in
    let flat : reverse p2 ++ ((x ∷ y) ++ word h.rest) ≡ reverse (x ∷ p2) ++ (y ++ word h.rest) =
    sym (append_assoc (reverse p2) (x ∷ []) (y ++ word h.rest)) ∙ ap (λ l. l ++ (y ++ word h.rest)) (sym (reverse-cons x p2)) in
    record {
      rest = h.rest;
      begins = h.begins;
      below = h.below;
      steps = subst (λ l. Steps g (N g.start ∷ []) l) flat h.steps;
      some = λ one. subst (λ l. StepsOnce g (N g.start ∷ []) l) flat (h.some one);
    }
