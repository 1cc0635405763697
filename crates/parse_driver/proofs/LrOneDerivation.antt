-- A grammar without conflicts gives a list of tokens one derivation.
use Rattle.std.proofs.Common.{◌≡◌, ℕ, List, [], ◌∷◌, ◌++◌, refl, sym, ap, ap₂, subst, append_assoc, ◌∙◌}
use Rattle.cfg_model.specs.declared.symbol.Sym.TheVariants.{N}
use Rattle.cfg_model.specs.Cfg.{Cfg}
use Rattle.cfg_model.specs.Derivation.{Forest, empty, leaf, node, yield, postorder, Derivation}
use Rattle.parse_driver.specs.Stream.{terminal_of, terminals_of}
use Rattle.parse_driver.specs.declared.tokens.TokenRef.{TokenRef}
use Rattle.parse_driver.specs.within.LrStack.{Finishes, NoConflict}
use Rattle.parse_driver.proofs.Labels.{plain, plain_yield, plain_derives}
use Rattle.parse_driver.proofs.LrComplete.{complete}
use Rattle.parse_driver.proofs.LrOneParse.{one_parse}
use Rattle.parse_driver.proofs.Replay.{replay, replays, one_forest}
use Rattle.parse_driver.proofs.StackNumber.{tipped}

-- law: without a conflict a sentence has one derivation
pub one_plain_derivation : (g : Cfg) → NoConflict g → (u : List ℕ) (f h : Forest ℕ)
    → Derivation (λ t. t) g u f → Derivation (λ t. t) g u h → f ≡ h
one_plain_derivation g free u f h d e =
    let first = complete g f d.from_start in
    let second = complete g h e.from_start in
    let words : yield f ≡ yield h = sym d.yields ∙ e.yields in
    let steps : postorder f ≡ postorder h =
    one_parse g free [] (yield f) _ _ first (subst (λ l. Finishes g [] l (postorder h)) (sym words) second) in
    let left = replays (λ t. t) g _ f empty [] d.from_start in
    let right = replays (λ t. t) g _ h empty [] e.from_start in
    let same : tipped f empty ≡ tipped h empty =
    sym left ∙ (ap (λ l. replay g (l ++ []) empty) steps ∙ right) in
    one_forest f h same

-- trees with the same terminals over the same tokens are the same
same_trees : (f h : Forest TokenRef) (a b : List TokenRef) → plain f ≡ plain h → yield f ++ a ≡ yield h ++ b → (f ≡ h) × (a ≡ b)
same_trees empty empty a b e y = (refl, y)
same_trees empty (leaf k h) a b e y = cc
same_trees empty (node r c h) a b e y = cc
same_trees (leaf k f) empty a b e y = cc
same_trees (leaf k f) (leaf k2 h) a b e y =
    let first : k ≡ k2 = cc in
    let trees : plain f ≡ plain h = cc in
    let others : yield f ++ a ≡ yield h ++ b = cc in
    let (rest, behind) = same_trees f h a b trees others in
    (ap₂ (λ x y. leaf x y) first rest, behind)
same_trees (leaf k f) (node r c h) a b e y = cc
same_trees (node r c f) empty a b e y = cc
same_trees (node r c f) (leaf k h) a b e y = cc
same_trees (node r c f) (node r2 c2 h) a b e y =
    let number : r ≡ r2 = cc in
    let below : plain c ≡ plain c2 = cc in
    let trees : plain f ≡ plain h = cc in
    let whole = sym (append_assoc (yield c) (yield f) a) ∙ (y ∙ append_assoc (yield c2) (yield h) b) in
    let (children, others) = same_trees c c2 (yield f ++ a) (yield h ++ b) below whole in
    let (rest, behind) = same_trees f h a b trees others in
    (rw (number, children, rest) refl, behind)

pub one_derivation : (g : Cfg) → NoConflict g → (tokens : List TokenRef) (f h : Forest TokenRef)
    → Derivation terminal_of g tokens f → Derivation terminal_of g tokens h → f ≡ h
one_derivation g free tokens f h d e =
    let first : Derivation (λ t. t) g (terminals_of tokens) (plain f) =
    record { from_start = plain_derives g (N g.start ∷ []) f d.from_start; yields = ap terminals_of d.yields ∙ sym (plain_yield f) } in
    let second : Derivation (λ t. t) g (terminals_of tokens) (plain h) =
    record { from_start = plain_derives g (N g.start ∷ []) h e.from_start; yields = ap terminals_of e.yields ∙ sym (plain_yield h) } in
    let same = one_plain_derivation g free (terminals_of tokens) (plain f) (plain h) first second in
    (same_trees f h [] [] same (ap (λ l. l ++ []) (sym d.yields ∙ e.yields))).0
