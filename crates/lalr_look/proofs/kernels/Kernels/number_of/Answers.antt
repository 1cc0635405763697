use Rattle.std.proofs.Common.{◌<◌, ◌+◌, ◌^◌, Contains, length, refl, sym, ◌∙◌, Some}
use Rattle.std.specs.Str.{bytes_eq}
use Rattle.std.proofs.lemmas.Slice.Eq.{bytes_eq-Decides}
use Rattle.lalr_look.specs.within.Rows.{rows_of}
use Rattle.lalr_look.specs.within.Numbered.{known}
use Rattle.lalr_look.proofs.Numbering.{position-seen, finds, absent_where_none, insertion_interns, insertion_numbered}
use Rattle.lalr_look.proofs.kernels.Kernels.number_of.Goals as goal

pub returns-in-Some : goal.returns-in-Some
returns-in-Some c =
    let numbered = c.self.invariant in
    let place = c.in-Some.ensures.index ∙ position-seen (λ v. v.items) (bytes_eq c.as_slice.result.now) c.self.inside.kernels.keys in
    let there = (finds bytes_eq bytes_eq-Decides (rows_of c.self.inside.kernels.keys) c.as_slice.result.now numbered.apart (Some c.in-Some.index) place c.in-Some.index).0 refl in
    record { number = known refl (rw (← c.self.view_is, ← c.as_slice.ensures.value) there) }

absent : (c : goal.In_ok-index) → Contains (rows_of c.self.inside.kernels.keys) c.args.kernel.items → ⊥
absent c =
    let numbered = c.self.invariant in
    let place = c.in_default.ensures.index ∙ position-seen (λ v. v.items) (bytes_eq c.as_slice.result.now) c.self.inside.kernels.keys in
    rw (← c.as_slice.ensures.value) (absent_where_none bytes_eq bytes_eq-Decides (rows_of c.self.inside.kernels.keys) c.as_slice.result.now numbered.apart (sym place))

pub invariant_of-self-2 : goal.invariant_of-self-2
invariant_of-self-2 c =
    let room : length (rows_of c.self.inside.kernels.keys) + 1 < 2 ^ 32 = rw c.self.view_is c.requires in
    insertion_numbered (λ v. v.items) bytes_eq bytes_eq-Decides _ _ c.args.kernel (absent c) c.in_ok-index.ensures.keys c.self.invariant room

pub returns : goal.returns
returns c =
    record { number = rw (← c.self.view_is) (insertion_interns (λ v. v.items) bytes_eq bytes_eq-Decides _ _ c.args.kernel (absent c) c.in_ok-index.ensures.keys _ c.in_ok-index.ensures.index) }
