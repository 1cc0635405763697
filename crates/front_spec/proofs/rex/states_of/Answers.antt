-- STD, and the states behind it.
use Rattle.std.proofs.Common.{map, ap, ◌∙◌, [], ◌∷◌, codes}
use Rattle.ck_base.specs.Numbered.{met}
use Rattle.section_frame.specs.Passes.{judged_by}
use Rattle.section_frame.specs.Words.{names_by}
use Rattle.front_spec.specs.RexFaults.{state_name}
use Rattle.front_spec.specs.Seen.{saying}
use Rattle.front_spec.proofs.SayingFaults.{states_apart}
use Rattle.front_spec.proofs.rex.states_of.Goals as goal

pub returns : goal.returns
returns c =
    let ds = map (judged_by saying) c.args.list.now in
    c.in_ok-gather.ensures ∙ ap (λ names. met names (names_by state_name ds))
    (c.in_ok-intern.ensures.met ∙ ap (λ names. met names (codes "STD" ∷ [])) c.new-names.ensures)
    ∙ states_apart ds c.requires.apart
