-- Forests side by side, and cut in two.
use Rattle.std.proofs.Common.{◌≡◌, ℕ, List, [], ◌∷◌, ◌++◌, refl, ap, ◌∙◌, map, sym, subst, append_assoc}
use Rattle.std.proofs.lemmas.List.{append-nil}
use Rattle.cfg_model.specs.declared.symbol.Sym.{Sym}
use Rattle.cfg_model.specs.declared.symbol.Sym.TheVariants.{T, N}
use Rattle.cfg_model.specs.Cfg.{Cfg, IsRule}
use Rattle.cfg_model.specs.Derivation.{Forest, empty, leaf, node, yield, shift, postorder, Derive, nothing, token, rule, Gives}
use Rattle.cfg_model.specs.Steps.{Step, step, Steps, none, more, word}

abbrev pub beside : {K : Type 0} → Forest K → Forest K → Forest K
beside empty h = h
beside (leaf k f) h = leaf k (beside f h)
beside (node r children f) h = node r children (beside f h)

pub yield_beside : {K : Type 0} (f h : Forest K) → yield (beside f h) ≡ yield f ++ yield h
yield_beside empty h = refl
yield_beside (leaf k f) h = ap (λ l. k ∷ l) (yield_beside f h)
yield_beside (node r children f) h = rw (yield_beside f h, append_assoc)

pub postorder_beside : {K : Type 0} (f h : Forest K) → postorder (beside f h) ≡ postorder f ++ postorder h
postorder_beside empty h = refl
postorder_beside (leaf k f) h = ap (λ l. shift k ∷ l) (postorder_beside f h)
postorder_beside (node r children f) h = rw (postorder_beside f h, append_assoc)

module _ {K : Type 0} (terminal : K → ℕ) (g : Cfg) where
  pub join : (u v : List Sym) (f h : Forest K) → Derive terminal g u f → Derive terminal g v h
      → Derive terminal g (u ++ v) (beside f h)
  join _ v _ h nothing b = b
  join _ v _ h (token t k u f is a) b = token t k (u ++ v) (beside f h) is (join u v f h a b)
  join _ v _ h (rule r n w u children f is c a) b = rule r n w (u ++ v) children (beside f h) is c (join u v f h a b)

  pub record Cut (u v : List Sym) (f : Forest K) : Type 0 where
    pub left : Forest K
    pub right : Forest K
    pub is : f ≡ beside left right
    pub from_left : Derive terminal g u left
    pub from_right : Derive terminal g v right

  pub cut : (u v s : List Sym) (f : Forest K) → s ≡ u ++ v → Derive terminal g s f → Cut u v f
  cut [] v s f same d = record { left = empty; right = f; is = refl; from_left = nothing; from_right = rw (← same) d }
  cut (x ∷ u) v _ _ same nothing = cc
  cut (x ∷ u) v _ _ same (token t k s f is d) =
      let head : T t ≡ x = cc in
      let tail : s ≡ u ++ v = cc in
      let c = cut u v s f tail d in
      record { left = leaf k c.left; right = c.right; is = ap (λ l. leaf k l) c.is; from_left = subst (λ (z : Sym). Derive terminal g (z ∷ u) (leaf k c.left)) head (token t k u c.left is c.from_left); from_right = c.from_right }
  cut (x ∷ u) v _ _ same (rule r n w s children f is dc d) =
      let head : N n ≡ x = cc in
      let tail : s ≡ u ++ v = cc in
      let c = cut u v s f tail d in
      record { left = node r children c.left; right = c.right; is = ap (λ l. node r children l) c.is; from_left = subst (λ (z : Sym). Derive terminal g (z ∷ u) (node r children c.left)) head (rule r n w u children c.left is dc c.from_left); from_right = c.from_right }

-- words that a list derives, by trees
module _ (g : Cfg) where
  pub gives_none : Gives g [] []
  gives_none = record { forest = empty; derive = nothing; yields = refl }

  pub gives_join : {u v : List Sym} {a b : List ℕ} → Gives g u a → Gives g v b → Gives g (u ++ v) (a ++ b)
  gives_join {u} {v} x y = record {
    forest = beside x.forest y.forest;
    derive = join (λ t. t) g u v x.forest y.forest x.derive y.derive;
    yields = rw (yield_beside, x.yields, y.yields) refl;
  }

  pub gives_rule : (r n : ℕ) (w : List Sym) {a : List ℕ} → IsRule g r n w → Gives g w a → Gives g (N n ∷ []) a
  gives_rule r n w is x = record {
    forest = node r x.forest empty;
    derive = rule r n w [] x.forest empty is x.derive nothing;
    yields = x.yields ∙ sym (append-nil (yield x.forest));
  }

  pub gives_cut : (u v : List Sym) {w : List ℕ} → Gives g (u ++ v) w
      → (a : List ℕ) × (b : List ℕ) × (w ≡ a ++ b) × Gives g u a × Gives g v b
  gives_cut u v x =
      let c = cut (λ t. t) g u v (u ++ v) x.forest refl x.derive in (
        yield c.left,
        yield c.right,
        x.yields ∙ ap yield c.is ∙ yield_beside c.left c.right,
        record { forest = c.left; derive = c.from_left; yields = refl },
        record { forest = c.right; derive = c.from_right; yields = refl },
      )

  pub gives_word : (w : List ℕ) → Gives g (word w) w
  gives_word [] = gives_none
  gives_word (t ∷ w) =
      let rest = gives_word w in
      record { forest = leaf t rest.forest; derive = token t t (word w) rest.forest refl rest.derive; yields = ap (λ l. t ∷ l) rest.yields }

  -- a word that is derived after a step is derived before it
  pub gives_before : {u v : List Sym} (w : List ℕ) → Step g u v → Gives g v w → Gives g u w
  gives_before w (step r n right x y is) gives =
      let (a, bc, whole, ga, gbc) = gives_cut x (right ++ y) gives in
      let (b, c, whole2, gb, gc) = gives_cut right y gbc in
      let all = gives_join ga (gives_join (gives_rule r n right is gb) gc) in
      rw (whole, whole2) all

  pub gives_back : {u v : List Sym} (w : List ℕ) → Steps g u v → Gives g v w → Gives g u w
  gives_back w none gives = gives
  gives_back w (more v z steps last) gives = gives_back w steps (gives_before w last gives)

  pub gives_of_steps : (u : List Sym) (w : List ℕ) → Steps g u (word w) → Gives g u w
  gives_of_steps u w steps = gives_back w steps (gives_word w)

  -- steps one after the other, and steps within a list
  pub steps_then : {u v w : List Sym} → Steps g u v → Steps g v w → Steps g u w
  steps_then a none = a
  steps_then a (more x z b last) = more x z (steps_then a b) last

  pub step_within : (p q : List Sym) {u v : List Sym} → Step g u v → Step g (p ++ (u ++ q)) (p ++ (v ++ q))
  step_within p q (step r n w x y is) =
      let before : (p ++ x) ++ (N n ∷ (y ++ q)) ≡ p ++ ((x ++ (N n ∷ y)) ++ q) = simp append_assoc in
      let after : (p ++ x) ++ (w ++ (y ++ q)) ≡ p ++ ((x ++ (w ++ y)) ++ q) = simp append_assoc in
      rw (← before, ← after) (step r n w (p ++ x) (y ++ q) is)

  pub steps_within : (p q : List Sym) {u v : List Sym} → Steps g u v → Steps g (p ++ (u ++ q)) (p ++ (v ++ q))
  steps_within p q none = none
  steps_within p q (more v w steps last) = more (p ++ (v ++ q)) (p ++ (w ++ q)) (steps_within p q steps) (step_within p q last)

  pub steps_before : (q : List Sym) {u v : List Sym} → Steps g u v → Steps g (u ++ q) (v ++ q)
  steps_before q steps = steps_within [] q steps

  pub steps_after : (p : List Sym) {u v : List Sym} → Steps g u v → Steps g (p ++ u) (p ++ v)
  steps_after p {u} {v} steps =
      rw (append-nil u, append-nil v) at (steps_within p [] steps)

  pub steps_both : {u v x y : List Sym} → Steps g u x → Steps g v y → Steps g (u ++ v) (x ++ y)
  steps_both {u} {v} {x} {y} a b = steps_then (steps_before v a) (steps_after x b)

  pub word_append : (a b : List ℕ) → word (a ++ b) ≡ word a ++ word b
  word_append [] b = refl
  word_append (t ∷ a) b = ap (λ l. T t ∷ l) (word_append a b)

  pub steps_of_rule : (r n : ℕ) (w : List Sym) → IsRule g r n w → Steps g (N n ∷ []) w
  steps_of_rule r n w is = more (N n ∷ []) w none (rw (append-nil w) at (step r n w [] [] is))

  pub steps_of_derive : (u : List Sym) (f : Forest ℕ) → Derive (λ t. t) g u f → Steps g u (word (yield f))
  steps_of_derive _ _ nothing = none
  steps_of_derive _ _ (token t k u f is d) =
      rw is (steps_after (T t ∷ []) (steps_of_derive u f d))
  steps_of_derive _ _ (rule r n w u children f is c d) =
      let first = steps_then (steps_of_rule r n w is) (steps_of_derive w children c) in
      rw (word_append (yield children) (yield f)) (steps_both first (steps_of_derive u f d))

  pub steps_of_gives : (u : List Sym) (w : List ℕ) → Gives g u w → Steps g u (word w)
  steps_of_gives u w x = rw x.yields (steps_of_derive u x.forest x.derive)

-- a derivation of tokens is a derivation of their terminals
module _ {K : Type 0} (terminal : K → ℕ) (g : Cfg) where
  pub terminals_append : (a b : List K) → word (map terminal (a ++ b)) ≡ word (map terminal a) ++ word (map terminal b)
  terminals_append [] b = refl
  terminals_append (k ∷ a) b = ap (λ l. T (terminal k) ∷ l) (terminals_append a b)

  pub steps_of_trees : (u : List Sym) (f : Forest K) → Derive terminal g u f → Steps g u (word (map terminal (yield f)))
  steps_of_trees _ _ nothing = none
  steps_of_trees _ _ (token t k u f is d) = rw is (steps_after g (T t ∷ []) (steps_of_trees u f d))
  steps_of_trees _ _ (rule r n w u children f is c d) =
      let first = steps_then g (steps_of_rule g r n w is) (steps_of_trees w children c) in
      rw (terminals_append (yield children) (yield f)) (steps_both g first (steps_of_trees u f d))

-- a derivation of terminals, with a token of each terminal in its place
abbrev pub relabel : {K : Type 0} → (ℕ → K) → Forest ℕ → Forest K
relabel as_token empty = empty
relabel as_token (leaf t f) = leaf (as_token t) (relabel as_token f)
relabel as_token (node r children f) = node r (relabel as_token children) (relabel as_token f)

pub derive_relabel : {K : Type 0} (terminal : K → ℕ) (as_token : ℕ → K) (g : Cfg) → ((t : ℕ) → terminal (as_token t) ≡ t)
    → (u : List Sym) (f : Forest ℕ) → Derive (λ t. t) g u f → Derive terminal g u (relabel as_token f)
derive_relabel terminal as_token g back _ _ nothing = nothing
derive_relabel terminal as_token g back _ _ (token t k u f is d) = token t (as_token k) u (relabel as_token f) (back k ∙ is) (derive_relabel terminal as_token g back u f d)
derive_relabel terminal as_token g back _ _ (rule r n w u children f is c d) =
    rule r n w u (relabel as_token children) (relabel as_token f) is (derive_relabel terminal as_token g back w children c) (derive_relabel terminal as_token g back u f d)
