-- One derivation of tokens is one of terminals.
use Rattle.std.proofs.Common.{◌≡◌, ℕ, List, [], ◌∷◌, ◌++◌, map, refl, sym, ap, ◌∙◌}
use Rattle.cfg_model.specs.declared.symbol.Sym.TheVariants.{N}
use Rattle.cfg_model.specs.Cfg.{Cfg}
use Rattle.cfg_model.specs.Derivation.{Forest, empty, leaf, node, yield, Derivation}
use Rattle.cfg_model.proofs.Forests.{relabel, derive_relabel}
use Rattle.parse_driver.specs.Stream.{terminal_of}
use Rattle.parse_driver.specs.declared.tokens.TokenRef.{TokenRef}
use Rattle.parse_driver.proofs.Labels.{plain}
use Rattle.parse_driver.proofs.Viable.{token_for}

map_beside : (a b : List ℕ) → map token_for (a ++ b) ≡ map token_for a ++ map token_for b
map_beside [] b = refl
map_beside (t ∷ a) b = ap (λ l. token_for t ∷ l) (map_beside a b)

relabel_yield : (f : Forest ℕ) → yield (relabel token_for f) ≡ map token_for (yield f)
relabel_yield empty = refl
relabel_yield (leaf t f) = ap (λ l. token_for t ∷ l) (relabel_yield f)
relabel_yield (node r children f) = rw (relabel_yield children, relabel_yield f) (sym (map_beside (yield children) (yield f)))

plain_relabel : (f : Forest ℕ) → plain (relabel token_for f) ≡ f
plain_relabel empty = refl
plain_relabel (leaf t f) = ap (λ h. leaf t h) (plain_relabel f)
plain_relabel (node r children f) = ap (λ h. node r h (plain (relabel token_for f))) (plain_relabel children) ∙ ap (λ h. node r children h) (plain_relabel f)

module _ (g : Cfg) where
  as_tokens : (u : List ℕ) (f : Forest ℕ) → Derivation (λ t. t) g u f → Derivation terminal_of g (map token_for u) (relabel token_for f)
  as_tokens u f d = record {
    from_start = derive_relabel terminal_of token_for g (λ t. refl) (N g.start ∷ []) f d.from_start;
    yields = ap (λ l. map token_for l) d.yields ∙ sym (relabel_yield f);
  }

  pub one_of_terminals : ((tokens : List TokenRef) (f h : Forest TokenRef) → Derivation terminal_of g tokens f → Derivation terminal_of g tokens h → f ≡ h)
      → (u : List ℕ) (f h : Forest ℕ) → Derivation (λ t. t) g u f → Derivation (λ t. t) g u h → f ≡ h
  one_of_terminals one u f h a b =
      sym (plain_relabel f) ∙ ap plain (one (map token_for u) (relabel token_for f) (relabel token_for h) (as_tokens u f a) (as_tokens u h b)) ∙ plain_relabel h
