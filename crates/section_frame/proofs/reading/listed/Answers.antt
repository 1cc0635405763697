-- Each turn takes a comma and a part.
use Rattle.std.proofs.Common.{◌++◌, ◌∷◌, [], length, map, ap, ◌∙◌, subst, sym, arith}
use Rattle.std.proofs.lemmas.List.{map-append, length-map}
use Rattle.spec_text.specs.Seen.{seen}
use Rattle.section_frame.proofs.PartLists.{ListedSoFar, listed_first, listed_more, listed_none, listed_none_first, listed_end}
use Rattle.section_frame.proofs.reading.listed.Goals as goal

pub returns-in_default-clause-read : goal.returns-in_default-clause-read
returns-in_default-clause-read g c =
    listed_none_first g.P.ReadPart.part g.P.ReadPart.follow c.requires _ (rw c.in_default.is at c.in_ok-first.ensures.read)

pub loop-behind-init : goal.loop-behind-init
loop-behind-init g c = (
  λ at_comma. subst (ListedSoFar g.P.ReadPart.part g.P.ReadPart.follow at_comma (map seen c.args.tokens.now) (map seen c.in-Some.after.now))
      (sym (ap (map g.P.ReadPart.seen) (c.in_ok-push.ensures.items ∙ ap (λ l. l ++ c.in-Some.first ∷ []) c.new-parts.ensures.items)))
      (listed_first g.P.ReadPart.part g.P.ReadPart.follow at_comma _ _ _ (rw c.in-Some.is at c.in_ok-first.ensures.read)),
  rw c.in-Some.is at c.in_ok-first.ensures.less,
)

pub returns-in_default-2-clause-read : goal.returns-in_default-2-clause-read
returns-in_default-2-clause-read g c =
    listed_none g.P.ReadPart.part g.P.ReadPart.follow c.requires _ _ _ _ (c.loop-behind.invariant.0 c.requires) c.in-Some-after_sign.ensures
    (rw c.in_default-2.is at c.in_ok-next.ensures.read)

pub loop-behind-preserved : goal.loop-behind-preserved
loop-behind-preserved g c =
    let reads = rw c.in-Some-2.is at c.in_ok-next.ensures.read in
    let less = rw c.in-Some-2.is at c.in_ok-next.ensures.less in
    let before = ap length c.in-Some-after_sign.ensures in
    let size = length-map c.loop-behind.rest.now seen in
    let size2 = length-map c.in-Some-after_sign.behind.now seen in
    let old = c.loop-behind.invariant.1 in (
      λ at_comma. subst (ListedSoFar g.P.ReadPart.part g.P.ReadPart.follow at_comma (map seen c.args.tokens.now) (map seen c.in-Some-2.after.now))
          (sym (ap (map g.P.ReadPart.seen) c.in_ok-push-2.ensures.items ∙ map-append g.P.ReadPart.seen c.loop-behind.parts.items (c.in-Some-2.next ∷ [])))
          (listed_more g.P.ReadPart.part g.P.ReadPart.follow at_comma _ _ _ _ _ _ (c.loop-behind.invariant.0 at_comma) c.in-Some-after_sign.ensures reads),
      omega (arith, less, before, size, size2, old),
    )

pub loop-behind-smaller : goal.loop-behind-smaller
loop-behind-smaller g c =
    let less = rw c.in-Some-2.is at c.in_ok-next.ensures.less in
    let before = ap length c.in-Some-after_sign.ensures in
    let size = length-map c.loop-behind.rest.now seen in
    let size2 = length-map c.in-Some-after_sign.behind.now seen in
    omega (arith, less, before, size, size2)

pub returns-clause-read : goal.returns-clause-read
returns-clause-read g c =
    listed_end g.P.ReadPart.part g.P.ReadPart.follow c.requires _ _ _ (c.loop-behind.invariant.0 c.requires)
    (rw c.in_default-after_sign.is at c.after_sign.ensures)
