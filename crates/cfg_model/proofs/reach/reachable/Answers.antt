-- The edges are inside, and what spreads from the start symbol is reachable.
use Rattle.std.proofs.Common.{◌≡◌, ℕ, ap, ◌∙◌, inl, inr}
use Rattle.cfg_model.specs.Cfg.{Cfg}
use Rattle.cfg_model.specs.Rows.{In}
use Rattle.cfg_model.proofs.Gathering.{down_inside, row_reachable, reachable_row}
use Rattle.cfg_model.proofs.reach.reachable.Goals as goal

pub spread-requires-clause-edges : goal.spread-requires-clause-edges
spread-requires-clause-edges c =
    let count : c.g.inside.nonterminals ≡ c.args.g.now.nonterminals = ap (λ (g : Cfg). g.nonterminals) c.g.view_is in
    rw (c.deref.ensures.value, count) (down_inside c.args.g.now c.in_ok-edges.edges.items c.requires c.in_ok-edges.ensures)

pub returns : goal.returns
returns c =
    let g = c.args.g.now in
    let count : c.g.inside.nonterminals ≡ g.nonterminals = ap (λ (g : Cfg). g.nonterminals) c.g.view_is in
    let start : c.g.inside.start ≡ g.start = ap (λ (g : Cfg). g.start) c.g.view_is in
    let spread_are = rw c.deref.ensures.value at c.in_ok-spread.ensures.spread in
    let base = c.add_at.new.rows.items in
    let rows = c.spread.new.rows.items in
    let only : (n : ℕ) → In base n 0 → n ≡ g.start = λ n has. elim (c.add_at.ensures.added.only n 0 has) [
      | inl was ↦ absurd (c.in_ok-rows.ensures.empty n 0 was)
      | inr (same, _) ↦ same ∙ start
    ] in
    let more : In base g.start 0 = rw start at c.add_at.ensures.added.more in
    let has = rw c.deref-2.ensures.value at c.in_ok-set.ensures.has in
    record {
      size = c.in_ok-set.ensures.size ∙ count;
      only = λ n there. row_reachable g c.in_ok-edges.edges.items base rows c.in_ok-edges.ensures only more spread_are n ((has n).0 there);
      all = λ n reachable. (has n).1 (reachable_row g c.in_ok-edges.edges.items base rows c.in_ok-edges.ensures only more spread_are n reachable);
    }
