-- Where a prefix has a core, each word that it derives is viable.
use Rattle.std.proofs.Common.{◌≡◌, ℕ, List, [], ◌∷◌, ◌++◌, sym, ap, subst, ◌∙◌}
use mathlib.Core.List.{reverse}
use Rattle.cfg_model.specs.declared.symbol.Sym.{Sym}
use Rattle.cfg_model.specs.declared.symbol.Sym.TheVariants.{N}
use Rattle.cfg_model.specs.Cfg.{Cfg, IsGrammar}
use Rattle.cfg_model.specs.Derivation.{IsSentence, IsViable}
use Rattle.cfg_model.specs.Steps.{Steps, word}
use Rattle.cfg_model.specs.Sets.{AllProductive}
use Rattle.cfg_model.specs.Valid.{HasCore}
use Rattle.cfg_model.proofs.Forests.{gives_of_steps, steps_then, steps_both, steps_before, word_append}
use Rattle.cfg_model.proofs.InGrammar.{behind_dot, all_derive}
use Rattle.cfg_model.proofs.Around.{around}

-- a word that the start symbol derives is a sentence
pub sentence_of : (g : Cfg) (w : List ℕ) → Steps g (N g.start ∷ []) (word w) → IsSentence g w
sentence_of g w steps =
    let tree = gives_of_steps g (N g.start ∷ []) w steps in
    (tree.forest, record { from_start = tree.derive; yields = tree.yields })

pub core_viable : (g : Cfg) (p : List Sym) (u : List ℕ) → IsGrammar g → AllProductive g → HasCore g p
    → Steps g (reverse p) (word u) → IsViable g u
core_viable g p u ok all (r, d, y, (a, v)) derives =
    let h = around g ok p r d y a v in
    let (m, e) = all_derive g y all (behind_dot g ok p r d y a v) in
    let whole = steps_then g h.steps (steps_both g derives (steps_before g (word h.rest) e)) in
    let flat : word u ++ (word m ++ word h.rest) ≡ word (u ++ (m ++ h.rest)) =
    ap (λ l. word u ++ l) (sym (word_append g m h.rest)) ∙ sym (word_append g u (m ++ h.rest)) in
    (m ++ h.rest, sentence_of g (u ++ (m ++ h.rest)) (subst (λ l. Steps g (N g.start ∷ []) l) flat whole))
