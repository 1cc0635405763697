-- A string, a class or `.`.
use Rattle.rex_model.proofs.Meanings.{meaning-Bytes, meaning-Class}
use Rattle.rex_model.specs.Meaning.{set_of}
use Rattle.front_spec.specs.Regexes.{a_string, a_class, a_dot}
use Rattle.front_spec.proofs.regexes.leaf.Goals as goal

pub returns-in_ok-try_alloc_slice_copy-in-Text-clause-reading : goal.returns-in_ok-try_alloc_slice_copy-in-Text-clause-reading
returns-in_ok-try_alloc_slice_copy-in-Text-clause-reading c =
    rw (c.in-Some.ensures.cases.0, c.in-Text.is, meaning-Bytes, c.in_ok-try_alloc_slice_copy-in-Text.ensures) (a_string _ _)

pub returns-in-Class-clause-reading : goal.returns-in-Class-clause-reading
returns-in-Class-clause-reading c = rw (c.in-Some.ensures.cases.0, c.in-Class.is, meaning-Class) (a_class _ (set_of c.in-Class.set))

pub returns-then-is_sign-clause-reading : goal.returns-then-is_sign-clause-reading
returns-then-is_sign-clause-reading c = rw (c.in-Some.ensures.cases.0, meaning-Class, c.dot_set.ensures) (a_dot _ _ (c.is_sign.ensures.0 c.if-is_sign.true))
