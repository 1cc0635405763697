use Rattle.std.proofs.Common.{refl, arith, length, ap, sym, ◌∙◌, subst}
use Rattle.std.proofs.lemmas.List.{length-map}
use Rattle.tree_store.specs.Conforms.{Conforms}
use Rattle.tree_store.specs.Links.{label_of}
use Rattle.tree_store.proofs.LabelsRead.{rows_long}
use Rattle.tree_store.proofs.NodeAdded.{is_forest}
use Rattle.tree_store.proofs.StaysConforming.{stays_conforming}
use Rattle.tree_store.proofs.TreeGrown.{grown}
use Rattle.tree_store.proofs.tree.Tree.add.Goals as goal

pub link-requires-clause-parents : goal.link-requires-clause-parents
link-requires-clause-parents c = λ k child at.
    (let within = c.requires.roots.within k child at in
    let long = rows_long _ _ _ _ _ _ _ c.self.invariant c.self.view_is in
    let as_many = c.self.invariant.linked.as_many_parents in
    omega (arith, within, long, as_many, length-map c.self.inside.labels.items (label_of c.self.inside.fields.items), ap (λ x. length x) c.make_room-room.ensures.parents))

pub link-requires-clause-numbers : goal.link-requires-clause-numbers
link-requires-clause-numbers c = λ k child at.
    (let within = c.requires.roots.within k child at in
    let long = rows_long _ _ _ _ _ _ _ c.self.invariant c.self.view_is in
    let as_many = c.self.invariant.linked.as_many_numbers in
    omega (arith, within, long, as_many, length-map c.self.inside.labels.items (label_of c.self.inside.fields.items), ap (λ x. length x) c.make_room-room.ensures.numbers))

pub link-requires-clause-nexts : goal.link-requires-clause-nexts
link-requires-clause-nexts c = λ k child at.
    (let within = c.requires.roots.within k child at in
    let long = rows_long _ _ _ _ _ _ _ c.self.invariant c.self.view_is in
    let as_many = c.self.invariant.linked.as_many_nexts in
    omega (arith, within, long, as_many, length-map c.self.inside.labels.items (label_of c.self.inside.fields.items), ap (λ x. length x) c.make_room-room.ensures.nexts))

pub invariant_of-self-2 : goal.invariant_of-self-2
invariant_of-self-2 c =
    (grown c.self.inside.labels.items _ _ c.self.inside.fields.items _ _ c.self.inside.parents.items _ _ _ c.self.inside.numbers.items _ _ _ c.self.inside.firsts.items _ _ c.self.inside.nexts.items _ _ _ c.args.self.now _ c.args.children.now c.args.fields.now c.len-node.result _
    c.self.invariant c.self.view_is c.requires.roots c.requires.few.0 c.requires.few.1
    (let few = c.self.invariant.linked.few in omega (arith, c.if-len-eq-LIMIT.false, c.len.ensures, c.self.inside.labels.ok, few, length-map c.self.inside.labels.items (label_of c.self.inside.fields.items)))
    c.make_room-room.ensures.labels c.make_room-room.ensures.parents c.make_room-room.ensures.numbers c.make_room-room.ensures.firsts c.make_room-room.ensures.nexts c.make_room-room.ensures.fields
    (c.len-node.ensures ∙ c.make_room-room.new.labels.ok.0 ∙ ap (λ x. length x) c.make_room-room.ensures.labels)
    c.link.ensures.parents c.link.ensures.numbers c.link.ensures.nexts c.push_fields.ensures
    (rw c.unwrap.ensures at c.push.ensures.items) (rw c.unwrap-2.ensures at c.push-2.ensures.items) (rw c.unwrap-3.ensures at c.push-3.ensures.items)
    c.next_after.ensures (rw c.unwrap-4.ensures at c.push-4.ensures.items) (rw c.unwrap-5.ensures at c.push-5.ensures.items)
    (c.len-2.ensures ∙ c.make_room-room.new.fields.ok.0 ∙ ap (λ x. length x) c.make_room-room.ensures.fields) refl).0

pub returns-clause-number : goal.returns-clause-number
returns-clause-number c =
    let long = rows_long _ _ _ _ _ _ _ c.self.invariant c.self.view_is in
    c.len-node.ensures ∙ c.make_room-room.new.labels.ok.0 ∙ ap (λ x. length x) c.make_room-room.ensures.labels ∙ sym long

pub returns-clause-added : goal.returns-clause-added
returns-clause-added c =
    (grown c.self.inside.labels.items _ _ c.self.inside.fields.items _ _ c.self.inside.parents.items _ _ _ c.self.inside.numbers.items _ _ _ c.self.inside.firsts.items _ _ c.self.inside.nexts.items _ _ _ c.args.self.now _ c.args.children.now c.args.fields.now c.len-node.result _
    c.self.invariant c.self.view_is c.requires.roots c.requires.few.0 c.requires.few.1
    (let few = c.self.invariant.linked.few in omega (arith, c.if-len-eq-LIMIT.false, c.len.ensures, c.self.inside.labels.ok, few, length-map c.self.inside.labels.items (label_of c.self.inside.fields.items)))
    c.make_room-room.ensures.labels c.make_room-room.ensures.parents c.make_room-room.ensures.numbers c.make_room-room.ensures.firsts c.make_room-room.ensures.nexts c.make_room-room.ensures.fields
    (c.len-node.ensures ∙ c.make_room-room.new.labels.ok.0 ∙ ap (λ x. length x) c.make_room-room.ensures.labels)
    c.link.ensures.parents c.link.ensures.numbers c.link.ensures.nexts c.push_fields.ensures
    (rw c.unwrap.ensures at c.push.ensures.items) (rw c.unwrap-2.ensures at c.push-2.ensures.items) (rw c.unwrap-3.ensures at c.push-3.ensures.items)
    c.next_after.ensures (rw c.unwrap-4.ensures at c.push-4.ensures.items) (rw c.unwrap-5.ensures at c.push-5.ensures.items)
    (c.len-2.ensures ∙ c.make_room-room.new.fields.ok.0 ∙ ap (λ x. length x) c.make_room-room.ensures.fields) refl).1

pub returns-clause-conforms : goal.returns-clause-conforms
returns-clause-conforms c =
    let now = (grown c.self.inside.labels.items _ _ c.self.inside.fields.items _ _ c.self.inside.parents.items _ _ _ c.self.inside.numbers.items _ _ _ c.self.inside.firsts.items _ _ c.self.inside.nexts.items _ _ _ c.args.self.now _ c.args.children.now c.args.fields.now c.len-node.result _
    c.self.invariant c.self.view_is c.requires.roots c.requires.few.0 c.requires.few.1
    (let few = c.self.invariant.linked.few in omega (arith, c.if-len-eq-LIMIT.false, c.len.ensures, c.self.inside.labels.ok, few, length-map c.self.inside.labels.items (label_of c.self.inside.fields.items)))
    c.make_room-room.ensures.labels c.make_room-room.ensures.parents c.make_room-room.ensures.numbers c.make_room-room.ensures.firsts c.make_room-room.ensures.nexts c.make_room-room.ensures.fields
    (c.len-node.ensures ∙ c.make_room-room.new.labels.ok.0 ∙ ap (λ x. length x) c.make_room-room.ensures.labels)
    c.link.ensures.parents c.link.ensures.numbers c.link.ensures.nexts c.push_fields.ensures
    (rw c.unwrap.ensures at c.push.ensures.items) (rw c.unwrap-2.ensures at c.push-2.ensures.items) (rw c.unwrap-3.ensures at c.push-3.ensures.items)
    c.next_after.ensures (rw c.unwrap-4.ensures at c.push-4.ensures.items) (rw c.unwrap-5.ensures at c.push-5.ensures.items)
    (c.len-2.ensures ∙ c.make_room-room.new.fields.ok.0 ∙ ap (λ x. length x) c.make_room-room.ensures.fields) refl).1 in
    let forest = is_forest _ c.self.inside.parents.items c.self.inside.numbers.items _ _ c.args.self.now c.self.invariant.linked c.self.view_is in
    λ conform. subst (Conforms c.args.types.now) (sym now)
    (stays_conforming c.args.types.now c.args.self.now _ forest c.requires.roots c.requires.fits conform)

pub returns-then-len-eq-LIMIT-clause-full : goal.returns-then-len-eq-LIMIT-clause-full
returns-then-len-eq-LIMIT-clause-full c =
    let long = rows_long _ _ _ _ _ _ _ c.self.invariant c.self.view_is in
    let is = c.if-len-eq-LIMIT.true in
    ((λ same. omega (arith, c.len.ensures, long, is, c.self.inside.labels.ok)), λ full. refl)

pub returns-then-is_err-clause-full : goal.returns-then-is_err-clause-full
returns-then-is_err-clause-full c =
    let long = rows_long _ _ _ _ _ _ _ c.self.invariant c.self.view_is in
    let isnt = c.if-len-eq-LIMIT.false in
    ((λ same. (cc)), λ full. absurd (isnt (omega (arith, c.len.ensures, long, full, c.self.inside.labels.ok))))

pub returns-clause-full : goal.returns-clause-full
returns-clause-full c =
    let long = rows_long _ _ _ _ _ _ _ c.self.invariant c.self.view_is in
    let isnt = c.if-len-eq-LIMIT.false in
    ((λ same. (cc)), λ full. absurd (isnt (omega (arith, c.len.ensures, long, full, c.self.inside.labels.ok))))
