-- What spreads from the base is FOLLOW.
use Rattle.std.proofs.Common.{◌≡◌, ap, ◌∙◌, inl, inr}
use Rattle.cfg_model.specs.Cfg.{Cfg}
use Rattle.cfg_model.proofs.Trailing.{behind_inside, row_follow, follow_row}
use Rattle.cfg_model.proofs.follow_sets.follow.Goals as goal

pub spread-requires-clause-edges : goal.spread-requires-clause-edges
spread-requires-clause-edges c =
    let count : c.g.inside.nonterminals ≡ c.args.g.now.nonterminals = ap (λ (g : Cfg). g.nonterminals) c.g.view_is in
    let are = rw c.deref.ensures.value at c.in_ok-edges.ensures.behind in
    rw (c.deref-2.ensures.value, count) (behind_inside c.args.g.now c.in_ok-null.null c.requires.grammar c.in_ok-null.ensures c.requires.productive c.in_ok-firsts.firsts.items c.in_ok-firsts.ensures.only c.in_ok-firsts.ensures.all
    c.in_ok-reach.reach c.add_at.new.rows.items c.add_rules.new.rows.items c.in_ok-edges.edges.items are)

pub returns : goal.returns
returns c =
    let g = c.args.g.now in
    let start : c.g.inside.start ≡ g.start = ap (λ (g : Cfg). g.start) c.g.view_is in
    let last : c.g.inside.terminals ≡ g.terminals = ap (λ (g : Cfg). g.terminals) c.g.view_is in
    let are = rw c.deref.ensures.value at c.in_ok-edges.ensures.behind in
    let spread_are = rw c.deref-2.ensures.value at c.in_ok-spread.ensures.spread in
    let count : c.g.inside.nonterminals ≡ g.nonterminals = ap (λ (g : Cfg). g.nonterminals) c.g.view_is in
    record {
      are = rw (count, last) at c.spread.ensures.rows;
      only = row_follow g c.in_ok-null.null c.requires.grammar c.in_ok-null.ensures c.requires.productive c.in_ok-firsts.firsts.items c.in_ok-firsts.ensures.only c.in_ok-firsts.ensures.all
          c.in_ok-reach.reach c.in_ok-reach.ensures c.add_at.new.rows.items c.add_rules.new.rows.items c.spread.new.rows.items c.in_ok-edges.edges.items
          (λ n t has. elim (c.add_at.ensures.added.only n t has) [
            | inl was ↦ absurd (c.in_ok-rows.ensures.empty n t was)
            | inr (same, number) ↦ (same ∙ start, number ∙ last)
          ])
          (rw (start, last) at c.add_at.ensures.added.more) are spread_are;
      all = follow_row g c.in_ok-null.null c.requires.grammar c.in_ok-null.ensures c.requires.productive c.in_ok-firsts.firsts.items c.in_ok-firsts.ensures.only c.in_ok-firsts.ensures.all
          c.in_ok-reach.reach c.in_ok-reach.ensures c.add_at.new.rows.items c.add_rules.new.rows.items c.spread.new.rows.items c.in_ok-edges.edges.items
          (λ n t has. elim (c.add_at.ensures.added.only n t has) [
            | inl was ↦ absurd (c.in_ok-rows.ensures.empty n t was)
            | inr (same, number) ↦ (same ∙ start, number ∙ last)
          ])
          (rw (start, last) at c.add_at.ensures.added.more) are spread_are;
    }
