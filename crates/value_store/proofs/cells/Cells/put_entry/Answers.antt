use Rattle.std.proofs.Common.{arith, ap, ◌∙◌, ◌≡◌, ◌+◌, ◌++◌, ◌∷◌, [], List}
use Rattle.std.proofs.Common.{to_z, of_z, w64, to_z-of_z}
use Rattle.value_store.specs.declared.unit.MapUnit.{MapUnit}
use Rattle.value_store.specs.declared.unit.StoreUnit.{StoreUnit}
use Rattle.value_store.specs.declared.unit.StoreUnit.TheVariants as unit
use Rattle.value_store.proofs.PairAdded.{put_gives}
use Rattle.value_store.proofs.cells.Cells.put_entry.Goals as goal

pub invariant_of-self-2 : goal.invariant_of-self-2
invariant_of-self-2 c =
    let u : MapUnit = record { older = c.args.m; key = c.args.key; number = to_z w64 (of_z w64 c.args.v); size = c.size-size.result + 1 } in
    (put_gives c.self.inside.units.units c.args.self.now.units c.push_entry.new.self.units u c.self.invariant (ap (λ s. s.units) c.self.view_is) (c.push_entry.ensures.units ∙ ap (λ (us : List StoreUnit). us ++ unit.Entry u ∷ []) c.reserve.ensures.same) c.requires (ap (λ n. n + 1) c.size-size.ensures.is) (let few = c.size-size.ensures.few in omega (arith, few))).0

pub returns-clause-ok : goal.returns-clause-ok
returns-clause-ok c =
    let u : MapUnit = record { older = c.args.m; key = c.args.key; number = to_z w64 (of_z w64 c.args.v); size = c.size-size.result + 1 } in
    let same : to_z w64 (of_z w64 c.args.v) ≡ c.args.v = to_z-of_z {w = w64} {z = c.args.v} c.ranges.v in
    let made = put_gives c.self.inside.units.units c.args.self.now.units c.push_entry.new.self.units u c.self.invariant (ap (λ s. s.units) c.self.view_is) (c.push_entry.ensures.units ∙ ap (λ (us : List StoreUnit). us ++ unit.Entry u ∷ []) c.reserve.ensures.same) c.requires (ap (λ n. n + 1) c.size-size.ensures.is) (let few = c.size-size.ensures.few in omega (arith, few)) in
    record { next = c.len.ensures.is ∙ made.2; extends = rw same at made.1 }

pub overflow_add-entry : goal.overflow_add-entry
overflow_add-entry c = omega (arith, c.size-size.ensures.small)
