-- A nonterminal, which can vanish or can't.
use Rattle.std.proofs.Common.{◌≡◌, ◌<◌, ◌+◌, ◌∷◌, drop, length, refl, subst, ◌∙◌, add-one, drop-cons, arith}
use Rattle.std.proofs.lemmas.List.{get_or_default}
use Rattle.std.proofs.lemmas.List.Elements.{All-get_or}
use Rattle.ck_base.specs.BitSet.{BitSet, Has, Adds}
use Rattle.cfg_model.specs.declared.symbol.Sym.TheVariants.{T, N}
use Rattle.cfg_model.specs.Rows.{no_row, row}
use Rattle.cfg_model.specs.within.Parts.{IsBelow}
use Rattle.cfg_model.proofs.Beginning.{begin_stop, begin_pass}
use Rattle.cfg_model.proofs.begins.add_begins.Goals as goal

pub returns-then-not-has-clause-begins : goal.returns-then-not-has-clause-begins
returns-then-not-has-clause-begins c =
    let list = c.args.list.now in
    let rows = c.args.rows.now in
    let i = c.loop-symbol.symbol-index in
    let lt = c.loop-symbol-test.true in
    let cut : drop i list ≡ N c.in-N.n ∷ drop (i + 1) list = rw (add-one, drop-cons list i (T 0), c.in-N.is) refl in
    let n_in : c.in-N.n < c.args.count = rw c.in-N.is at (All-get_or (IsBelow c.args.count c.args.width) list i (T 0) lt c.requires.list) in
    let inside : c.in-N.n < length rows = (let a = c.requires.rows.count_is in omega arith) in
    let source : c.index-rows-n.result ≡ row rows c.in-N.n = c.index-rows-n.is ∙ get_or_default rows c.in-N.n c.index-rows-n.result no_row inside in
    (begin_stop rows c.args.null.now list (drop (i + 1) list) c.args.to.now c.loop-symbol.to c.join.new.self c.in-N.n (rw cut at c.loop-symbol.invariant)
    (subst (λ (s : BitSet). Adds c.loop-symbol.to c.join.new.self (Has s)) source c.join.ensures.joined)
    (λ has. (let e = c.has.ensures.1 has in let f = c.if-not-has.true in cc))).0

pub loop-symbol-preserved : goal.loop-symbol-preserved
loop-symbol-preserved c =
    let list = c.args.list.now in
    let rows = c.args.rows.now in
    let i = c.loop-symbol.symbol-index in
    let lt = c.loop-symbol-test.true in
    let cut : drop i list ≡ N c.in-N.n ∷ drop (i + 1) list = rw (add-one, drop-cons list i (T 0), c.in-N.is) refl in
    let n_in : c.in-N.n < c.args.count = rw c.in-N.is at (All-get_or (IsBelow c.args.count c.args.width) list i (T 0) lt c.requires.list) in
    let inside : c.in-N.n < length rows = (let a = c.requires.rows.count_is in omega arith) in
    let source : c.index-rows-n.result ≡ row rows c.in-N.n = c.index-rows-n.is ∙ get_or_default rows c.in-N.n c.index-rows-n.result no_row inside in
    begin_pass rows c.args.null.now list (drop (i + 1) list) c.args.to.now c.loop-symbol.to c.join.new.self c.in-N.n (rw cut at c.loop-symbol.invariant)
    (subst (λ (s : BitSet). Adds c.loop-symbol.to c.join.new.self (Has s)) source c.join.ensures.joined)
    (c.has.ensures.0 c.if-not-has.false)
