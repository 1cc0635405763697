-- What a viable list begins with is viable, and so is a sentence.
use Rattle.std.proofs.Common.{◌≡◌, ℕ, List, [], ◌∷◌, ◌++◌, sym, subst, append_assoc}
use Rattle.std.proofs.lemmas.List.{append-nil}
use Rattle.cfg_model.specs.declared.symbol.Sym.TheVariants.{N}
use Rattle.cfg_model.specs.Cfg.{Cfg, IsGrammar}
use Rattle.cfg_model.specs.Derivation.{IsSentence, IsViable}
use Rattle.cfg_model.specs.Sets.{AllProductive}
use Rattle.cfg_model.proofs.CoresViable.{sentence_of}

pub viable_front : (g : Cfg) (u v : List ℕ) → IsViable g (u ++ v) → IsViable g u
viable_front g u v (w, sentence) = (v ++ w, subst (IsSentence g) (append_assoc u v w) sentence)

pub sentence_viable : (g : Cfg) (u : List ℕ) → IsSentence g u → IsViable g u
sentence_viable g u sentence = ([], subst (IsSentence g) (sym (append-nil u)) sentence)

-- the start symbol derives a word
pub nothing_viable : (g : Cfg) → IsGrammar g → AllProductive g → IsViable g []
nothing_viable g ok all = let (w, steps) = all g.start ok.start in (w, sentence_of g w steps)
