use Rattle.std.proofs.Common.{[], ◌∷◌}
use Rattle.cfg_model.specs.declared.symbol.Sym.TheVariants.{N}
use Rattle.parse_driver.specs.Stream.{terminal_of}
use Rattle.tree_build.proofs.Typed.{built_typed, first_typed}
use Rattle.tree_build.proofs.laws.built_of_its_family.Goals as goal

pub returns-clause-each : goal.returns-clause-each
returns-clause-each c = λ g nodes tokens makers symbols forest k fit are derive. built_typed terminal_of g nodes tokens fit makers are symbols forest k derive

pub returns-clause-whole : goal.returns-clause-whole
returns-clause-whole c = λ g nodes tokens makers found forest fit are derivation.
    first_typed _ _ _ _ _ (built_typed terminal_of g nodes tokens fit makers are (N g.start ∷ []) forest 0 derivation.from_start)
