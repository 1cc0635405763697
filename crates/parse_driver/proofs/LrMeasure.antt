-- How long reductions go on at most: the trees on the stack, read as a number.
use Rattle.std.proofs.Common.{◌≡◌, ℕ, zero, suc, ◌<◌, List, [], ◌∷◌, ◌++◌, Some, map, refl, sym, ap, ◌∙◌, subst, subst₂, append-nil, append_assoc}
use mathlib.Core.List.{reverse, reverse-reverse, reverse-cons}
use Rattle.cfg_model.specs.declared.symbol.Sym.{Sym}
use Rattle.cfg_model.specs.declared.symbol.Sym.TheVariants.{T, N}
use Rattle.cfg_model.specs.Cfg.{Cfg}
use Rattle.cfg_model.specs.Derivation.{Forest, empty, leaf, node, reduce, postorder, Derive, nothing, token, rule}
use Rattle.cfg_model.specs.LrTables.{IsLr}
use Rattle.cfg_model.specs.Table.{Table}
use Rattle.parse_driver.specs.Parse.{move_of}
use Rattle.parse_driver.specs.Stream.{terminal_of}
use Rattle.parse_driver.specs.declared.tokens.TokenRef.{TokenRef}
use Rattle.parse_driver.specs.declared.step.Step.{Step}
use Rattle.parse_driver.specs.declared.step.Step.TheVariants as made
use Rattle.parse_driver.specs.within.LrStack.{onto, LrState}
use Rattle.parse_driver.proofs.Ending as ending
use Rattle.parse_driver.proofs.LrTurn.{moves_more}
use Rattle.parse_driver.proofs.Replay.{replay, replays, replay-append, taken, below, rule_size}
use Rattle.parse_driver.proofs.StackNumber.{tipped}

-- the trees on the stack, the last one first
pub tree_stack : Cfg → List Step → Forest TokenRef
tree_stack g steps = replay g (map move_of steps) empty

pub measure : Cfg → List Step → ℕ
measure g steps = ending.left g (tree_stack g steps)

pub derive_tipped : (g : Cfg) (xs ys : List Sym) (f h : Forest TokenRef) → Derive terminal_of g xs f → Derive terminal_of g ys h
    → Derive terminal_of g (onto xs ys) (tipped f h)
derive_tipped g xs ys f h nothing e = e
derive_tipped g xs ys f h (token t k u f2 is d) e = derive_tipped g u (T t ∷ ys) f2 (leaf k h) d (token t k ys h is e)
derive_tipped g xs ys f h (rule r n w u c f2 is dc d) e =
    derive_tipped g u (N n ∷ ys) f2 (node r c h) d (rule r n w ys c h is dc e)

pub onto_reverse : (xs ys : List Sym) → onto xs ys ≡ reverse xs ++ ys
onto_reverse [] ys = refl
onto_reverse (x ∷ xs) ys =
    onto_reverse xs (x ∷ ys) ∙ (sym (append_assoc (reverse xs) (x ∷ []) ys) ∙ ap (λ l. l ++ ys) (sym (reverse-cons x xs)))

-- the stack's trees are derived from the prefix
pub stack_derives : (g : Cfg) (table : Table) (read : List TokenRef) (states : List ℕ) (steps : List Step) (t : ℕ)
    → (c : LrState g table read states steps (Some t)) → Derive terminal_of g c.prefix (tree_stack g steps)
unfolding tree_stack
stack_derives g table read states steps t c =
    let whole = replays terminal_of g (reverse c.prefix) c.forest empty [] c.derives in
    let same : replay g (map move_of steps) empty ≡ tipped c.forest empty =
    ap (λ l. replay g l empty) (c.steps_are ∙ sym (append-nil (postorder c.forest))) ∙ whole in
    let there = derive_tipped g (reverse c.prefix) [] c.forest empty c.derives nothing in
    let back : onto (reverse c.prefix) [] ≡ c.prefix =
    onto_reverse (reverse c.prefix) [] ∙ (append-nil (reverse (reverse c.prefix)) ∙ reverse-reverse c.prefix) in
    subst₂ (λ l h. Derive terminal_of g l h) back (sym same) there

pub stack_more : (g : Cfg) (steps : List Step) (r : ℕ) → tree_stack g (steps ++ (made.Reduce r ∷ []))
    ≡ node r (taken (rule_size g r) (tree_stack g steps) empty) (below (rule_size g r) (tree_stack g steps))
unfolding tree_stack
stack_more g steps r =
    ap (λ l. replay g l empty) (moves_more steps (made.Reduce r)) ∙ replay-append g (map move_of steps) (reduce r ∷ []) empty

-- what is taken and what is left are the whole
pub taken_below : (k : ℕ) (st acc : Forest TokenRef) → tipped (taken k st acc) (below k st) ≡ tipped acc st
taken_below zero st acc = refl
taken_below (suc k) empty acc = refl
taken_below (suc k) (leaf t st) acc = taken_below k st (leaf t acc)
taken_below (suc k) (node r c st) acc = taken_below k st (node r c acc)

pub falls : (g : Cfg) (table : Table) → IsLr g → (read : List TokenRef) (states after : List ℕ) (steps : List Step) (t r : ℕ)
    → LrState g table read states steps (Some t)
    → LrState g table read after (steps ++ (made.Reduce r ∷ [])) (Some t)
    → measure g (steps ++ (made.Reduce r ∷ [])) < measure g steps
unfolding measure
falls g table ok read states after steps t r c c2 =
    let (r1, d1, y1, (a1, v1)) = c.core in
    let (r2, d2, y2, (a2, v2)) = c2.core in
    let top : Forest TokenRef = taken (rule_size g r) (tree_stack g steps) empty in
    let rest : Forest TokenRef = below (rule_size g r) (tree_stack g steps) in
    let whole : tipped (taken (rule_size g r) (tree_stack g steps) empty) (below (rule_size g r) (tree_stack g steps)) ≡ tree_stack g steps =
    taken_below (rule_size g r) (tree_stack g steps) empty in
    let next = stack_more g steps r in
    let d = subst (λ h. Derive terminal_of g c.prefix h) (sym whole) (stack_derives g table read states steps t c) in
    let e = subst (λ h. Derive terminal_of g c2.prefix h) next (stack_derives g table read after _ t c2) in
    let less = ending.falls terminal_of g ok c.prefix c2.prefix _ _ r r1 d1 y1 a1 r2 d2 y2 a2 v1 d v2 e in
    subst₂ (λ x y. ending.left g x < ending.left g y) (sym next) whole less
