-- A name that isn't found goes to the end.
use Rattle.std.proofs.Common.{◌≡◌, ◌<◌, ◌+◌, ◌^◌, ◌∙◌, Contains, None, Some, ap, length, refl, sym}
use Rattle.ck_base.specs.Numbered.{texts, number_of}
use Rattle.ck_base.proofs.NameAdded.{goes_last, has_next_number, insertion_numbered}
use Rattle.ck_base.proofs.NamesMet.{met_new, number_of-new}
use Rattle.ck_base.proofs.names.Names.intern.Goals as goal

absent : (c : goal.In_ok-index) → Contains (texts c.self.inside.names.keys) c.in_ok-owned.owned.items → ⊥
absent c = rw (c.self.view_is, c.in_ok-owned.ensures.items) (c.in_default.ensures.absent.0 refl)

pub invariant_of-self-2 : goal.invariant_of-self-2
invariant_of-self-2 c =
    let room : length (texts c.self.inside.names.keys) + 1 < 2 ^ 32 = rw (c.self.view_is) (c.requires (c.in_default.ensures.absent.0 refl)) in
    insertion_numbered _ _ _ (absent c) c.in_ok-index.ensures.keys c.self.invariant room

has_none : (c : goal.In_ok-index) → number_of c.args.self.now c.args.name.now ≡ None
has_none c = sym c.in_default.ensures.number

pub returns-clause-met : goal.returns-clause-met
returns-clause-met c =
    let last = goes_last _ _ _ (absent c) c.in_ok-index.ensures.keys in
    rw (c.self.view_is, c.in_ok-owned.ensures.items) at last ∙ sym (met_new _ _ (has_none c))

pub returns-clause-number : goal.returns-clause-number
returns-clause-number c =
    let next = has_next_number _ _ _ (absent c) c.in_ok-index.ensures.keys _ c.in_ok-index.ensures.index in
    ap (λ names. number_of names c.args.name.now) (returns-clause-met c ∙ met_new _ _ (has_none c))
    ∙ number_of-new _ _ (has_none c) ∙ ap Some (sym (rw c.self.view_is at next))
