-- Each turn takes a part.
use Rattle.std.proofs.Common.{map, ap, ◌∙◌, subst, sym}
use Rattle.spec_text.specs.Seen.{seen}
use Rattle.section_frame.specs.Parts.{Reading}
use Rattle.section_frame.specs.Read.{Rep, EndsParts}
use Rattle.section_frame.proofs.PartLists.{RepSoFar, rep_first, rep_gained, rep_end}
use Rattle.section_frame.proofs.reading.repeated.Goals as goal

pub returns-in_default : goal.returns-in_default
returns-in_default g c =
    let none = rw c.in_default.is at c.in_ok-first.ensures.read in
    subst (λ vs. Reading (Rep g.P.ReadPart.part) (EndsParts g.P.ReadPart.part g.P.ReadPart.follow) (map seen c.args.tokens.now) vs (map seen c.args.tokens.now))
    (sym (none.1 ∙ ap (map g.P.ReadPart.seen) c.new-parts.ensures.items))
    (rep_end g.P.ReadPart.part g.P.ReadPart.follow c.requires _ _ _ (rep_first g.P.ReadPart.part g.P.ReadPart.follow c.requires (map seen c.args.tokens.now)) none.0)

pub loop-parts-init : goal.loop-parts-init
loop-parts-init g c = λ at_next.
    rep_gained g.P.ReadPart.part g.P.ReadPart.follow at_next _ _ _ _ _
    (subst (RepSoFar g.P.ReadPart.part g.P.ReadPart.follow at_next (map seen c.args.tokens.now) (map seen c.args.tokens.now))
    (sym (ap (map g.P.ReadPart.seen) c.new-parts.ensures.items))
    (rep_first g.P.ReadPart.part g.P.ReadPart.follow at_next (map seen c.args.tokens.now)))
    (rw c.in-Some.is at c.in_ok-first.ensures.read)

pub loop-parts-preserved : goal.loop-parts-preserved
loop-parts-preserved g c = λ at_next.
    rep_gained g.P.ReadPart.part g.P.ReadPart.follow at_next _ _ _ _ _ (c.loop-parts.invariant at_next) (rw c.in-Some-2.is at c.in_ok-after.ensures.read)

pub returns : goal.returns
returns g c =
    let none = rw c.in_default-2.is at c.in_ok-after.ensures.read in
    subst (λ vs. Reading (Rep g.P.ReadPart.part) (EndsParts g.P.ReadPart.part g.P.ReadPart.follow) (map seen c.args.tokens.now) vs (map seen c.loop-parts.rest.now))
    (sym none.1) (rep_end g.P.ReadPart.part g.P.ReadPart.follow c.requires _ _ _ (c.loop-parts.invariant c.requires) none.0)
