-- Without LALR it is ELL.
use Rattle.front_spec.proofs.Productions.{lalr_text, some_ell, is_ell}
use Rattle.front_spec.proofs.grammar_text.grammar_of.Goals as goal

pub returns-in-Some : goal.returns-in-Some
returns-in-Some c = λ file are. lalr_text file _ (rw c.in-Some.is at (c.section_of.ensures file are))

pub unwrap-requires : goal.unwrap-requires
unwrap-requires c =
    let file = c.requires.0 in
    let no_lalr = rw c.in_default.is at (c.section_of.ensures file c.requires.3) in
    some_ell file c.requires.1 c.requires.2 _ c.requires.4 no_lalr (c.section_of-2.ensures file c.requires.3)

pub returns : goal.returns
returns c = λ file are. is_ell file _ _ c.unwrap.ensures (c.section_of-2.ensures file are)
