use Rattle.std.proofs.Common.{◌≡◌, ◌<◌, get_or, [], ◌∷◌, subst, sym, ◌∙◌}
use Rattle.std.proofs.lemmas.List.{get_or_default}
use Rattle.ck_base.specs.BitSet.{BitSet, Has, Adds}
use Rattle.cfg_model.specs.declared.symbol.Sym.TheVariants.{T, N}
use Rattle.cfg_model.specs.Cfg.{IsSymbol}
use Rattle.cfg_model.specs.Rows.{no_row}
use Rattle.cfg_model.specs.Sets.{First, Nullable}
use Rattle.lalr_look.proofs.RestSets.{first_token, token_stays, adds_first}
use Rattle.lalr_look.proofs.rests.add_symbol.Goals as goal

pub returns-in-T-clause-begins : goal.returns-in-T-clause-begins
returns-in-T-clause-begins c =
    subst (λ x. Adds c.args.to.now c.add.new.self (First c.args.g.now (x ∷ []))) (sym c.in-T.is)
    (adds_first c.args.to.now c.add.new.self (λ k. k ≡ c.in-T.t) (First c.args.g.now (T c.in-T.t ∷ []))
    (λ a. ((first_token c.args.g.now c.in-T.t a).1, (first_token c.args.g.now c.in-T.t a).0)) c.add.ensures)

pub returns-in-T-clause-vanish : goal.returns-in-T-clause-vanish
returns-in-T-clause-vanish c =
    (λ e. absurd (let f = e in cc), λ h. absurd (token_stays c.args.g.now c.in-T.t (subst (λ x. Nullable c.args.g.now (x ∷ [])) c.in-T.is h)))

pub returns-in-N-clause-begins : goal.returns-in-N-clause-begins
returns-in-N-clause-begins c =
    let firsts = c.requires.rests.firsts in
    let low : c.in-N.n < c.args.g.now.nonterminals = subst (λ x. IsSymbol c.args.g.now x) c.in-N.is c.requires.symbol in
    let same : c.index.result.now ≡ get_or c.args.rests.now.firsts.items c.in-N.n no_row =
    c.index.ensures ∙ get_or_default c.args.rests.now.firsts.items c.in-N.n c.index.result.now no_row (subst (λ k. c.in-N.n < k) (sym firsts.are.count_is) low) in
    subst (λ x. Adds c.args.to.now c.join.new.self (First c.args.g.now (x ∷ []))) (sym c.in-N.is)
    (adds_first c.args.to.now c.join.new.self (Has c.index.result.now) (First c.args.g.now (N c.in-N.n ∷ []))
    (λ a. (λ h. firsts.only c.in-N.n a (subst (λ (s : BitSet). Has s a) same h), λ h. subst (λ (s : BitSet). Has s a) (sym same) (firsts.all c.in-N.n a h))) c.join.ensures.joined)
