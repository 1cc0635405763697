use Rattle.std.proofs.Common.{◌≡◌, subst, ◌∙◌}
use Rattle.std.proofs.lemmas.List.{get_or_default}
use Rattle.ck_base.specs.BitSet.{BitSet, Adds}
use Rattle.cfg_model.specs.Sets.{First}
use Rattle.lalr_look.specs.within.Flow.{set_at, no_set}
use Rattle.lalr_look.specs.within.Rests.{rest_of}
use Rattle.lalr_look.proofs.Growth.{set_grows}
use Rattle.lalr_look.proofs.lookahead_sets.add_rest.Goals as goal

pub returns-clause-sets : goal.returns-clause-sets
returns-clause-sets c =
    let set = c.index_mut-set.result.now in
    let same : set ≡ set_at c.args.sets.now.items c.args.node =
    c.index_mut-set.ensures.value ∙ get_or_default c.args.sets.now.items c.args.node set no_set c.requires.node in
    set_grows c.args.sets.now.items c.args.node c.add.new.to (First c.args.g.now (rest_of c.args.g.now c.args.rule c.args.from)) c.requires.node
    (subst (λ (s : BitSet). Adds s c.add.new.to (First c.args.g.now (rest_of c.args.g.now c.args.rule c.args.from))) same c.add.ensures.begins)
