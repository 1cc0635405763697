-- What is left of the states, and what is put on them.
use Rattle.std.proofs.Common.{◌≡◌, ℕ, ◌-◌, ◌++◌, [], ◌∷◌, length, List, take, arith, ap, ap₂, ◌∙◌, length-take}
use Rattle.parse_driver.specs.within.LrStack.{top}
use Rattle.std.proofs.lemmas.Option.{slice_get_within}
use Rattle.parse_driver.proofs.lr.reduce.Goals as goal

pub overflow_sub-kept : goal.overflow_sub-kept
overflow_sub-kept g c =
    let size = c.len-2.ensures c.requires.left c.requires.right c.requires.is_rule in
    let room = c.requires.room in
    let long = c.len.ensures in
    let ok = c.args.states.now.ok in
    omega (arith, size, room, long, ok)

-- what is left of the states
kept_is : (states kept : List ℕ) (k n m : ℕ) → kept ≡ take (k - n) states → k ≡ length states → n ≡ m
    → kept ≡ take (length states - m) states
kept_is states kept k n m is long size = is ∙ ap₂ (λ a b. take (a - b) states) long size

pub top_of-requires : goal.top_of-requires
top_of-requires g c =
    let size = c.len-2.ensures c.requires.left c.requires.right c.requires.is_rule in
    let room = c.requires.room in
    let long = c.len.ensures in
    let ok = c.args.states.now.ok in
    let long2 : c.len.result ≡ length c.args.states.now.items = omega (arith, long, ok) in
    let items = kept_is c.args.states.now.items _ _ _ _ c.truncate.ensures.items long2 size in
    let count = length-take (length c.args.states.now.items - length c.requires.right) c.args.states.now.items in
    rw items (omega (arith, count, room))

pub left-requires : goal.left-requires
left-requires g c =
    let is = c.requires.is_rule in
    let one = is.from_one in
    let inside = slice_get_within (g.T.LrTable.grammar c.args.table.now).rules is.place _ is.read in
    record { some = omega (arith, one); in_range = omega (arith, one, inside) }

pub goto-next-requires-clause-state : goal.goto-next-requires-clause-state
goto-next-requires-clause-state g c =
    let size = c.len-2.ensures c.requires.left c.requires.right c.requires.is_rule in
    let long = c.len.ensures in
    let ok = c.args.states.now.ok in
    let long2 : c.len.result ≡ length c.args.states.now.items = omega (arith, long, ok) in
    let items = kept_is c.args.states.now.items _ _ _ _ c.truncate.ensures.items long2 size in
    let top_is = c.top_of.ensures ∙ ap top items in
    let inside = c.requires.inside in
    rw top_is inside

pub goto-next-requires-clause-nonterminal : goal.goto-next-requires-clause-nonterminal
goto-next-requires-clause-nonterminal g c =
    let is = c.left.ensures c.requires.left c.requires.right c.requires.is_rule in
    let inside = c.requires.nonterminal in
    omega (arith, is, inside)

pub returns-clause-states : goal.returns-clause-states
returns-clause-states g c n w is =
    let size = c.len-2.ensures n w is in
    let long = c.len.ensures in
    let ok = c.args.states.now.ok in
    let long2 : c.len.result ≡ length c.args.states.now.items = omega (arith, long, ok) in
    let items = kept_is c.args.states.now.items _ _ _ _ c.truncate.ensures.items long2 size in
    let top_is = c.top_of.ensures ∙ ap top items in
    let left = c.left.ensures n w is in
    let next = c.goto-next.ensures ∙ ap₂ (λ s m. (g.T.LrTable.table c.args.table.now).go s m) top_is left in
    let pushed = (c.in_ok-push.ensures).items in
    pushed ∙ ap₂ (λ l s. l ++ (s ∷ [])) items next
