-- A pattern matches by its form; patterns one by one.
use Rattle.std.proofs.Common.{arith, rules, refl, subst}
use Rattle.value_store.specs.Cells.{cells_of}
use Rattle.puma_model.specs.Found.{scene_of}
use Rattle.puma_model.specs.PurePatterns.{pattern}
use Rattle.puma_model.specs.within.Matching.{OneOrNot}
use Rattle.puma_model.proofs.PatternSize.{size_at, parts_smaller}
use Rattle.puma_model.proofs.MatchCode.{code_any, code_bind, code_int, code_int_not, code_bool, code_bool_not, code_text, code_text_not, code_not_seen, code_not_kind, code_tree, code_there, code_placed, code_room, own_there}
use Rattle.puma_model.proofs.MatchSteps.{match_begin, match_on, match_not, match_end, placed_here, room_here}
use Rattle.puma_model.proofs.matching.+matching.Goals as goal

pub match_all-loop-i-init : goal.match_all-loop-i-init
match_all-loop-i-init t c = match_begin (scene_of c.args.world.now) (cells_of c.args.cells.now.units) c.args.ps.now c.args.vs.now c.args.bindings.now c.args.at c.requires.placed

pub match_all-match_one-requires : goal.match_all-match_one-requires
match_all-match_one-requires t c = (
  (let d = c.decreases in let low = size_at c.args.world.now.texts.source.now c.args.world.now.texts.literals.now c.args.ps.now c.loop-i.i c.pattern_at-p.result.now c.pattern_at-p.ensures in omega (arith, d, low)),
  (
    c.requires.scene,
    (
      placed_here (scene_of c.args.world.now) (cells_of c.args.cells.now.units) c.args.ps.now c.args.vs.now c.args.bindings.now c.loop-i.bindings c.args.at c.loop-i.next c.loop-i.i c.pattern_at-p.result.now c.value_at-v.result c.loop-i.invariant c.pattern_at-p.ensures c.value_at-v.ensures c.requires.placed,
      room_here (scene_of c.args.world.now) (cells_of c.args.cells.now.units) c.args.ps.now c.args.vs.now c.args.bindings.now c.loop-i.bindings c.args.at c.loop-i.next c.loop-i.i c.pattern_at-p.result.now c.value_at-v.result c.loop-i.invariant c.pattern_at-p.ensures c.value_at-v.ensures c.requires.room,
    ),
  ),
)

pub match_all-returns-in_default : goal.match_all-returns-in_default
match_all-returns-in_default t c = match_not (scene_of c.args.world.now) (cells_of c.args.cells.now.units) c.args.ps.now c.args.vs.now c.args.bindings.now c.loop-i.bindings c.args.at c.loop-i.next c.loop-i.i c.pattern_at-p.result.now c.value_at-v.result c.loop-i.invariant c.pattern_at-p.ensures c.value_at-v.ensures c.match_one.new.bindings (subst (OneOrNot (scene_of c.args.world.now) (cells_of c.args.cells.now.units) (pattern c.args.world.now.texts.source.now c.args.world.now.texts.literals.now c.pattern_at-p.result.now) c.value_at-v.result c.loop-i.bindings c.match_one.new.bindings c.loop-i.next) c.in_default.is c.match_one.ensures)

pub match_all-loop-i-preserved : goal.match_all-loop-i-preserved
match_all-loop-i-preserved t c = match_on (scene_of c.args.world.now) (cells_of c.args.cells.now.units) c.args.ps.now c.args.vs.now c.args.bindings.now c.loop-i.bindings c.args.at c.loop-i.next c.loop-i.i c.pattern_at-p.result.now c.value_at-v.result c.loop-i.invariant c.pattern_at-p.ensures c.value_at-v.ensures c.match_one.new.bindings c.in-Some.behind (subst (OneOrNot (scene_of c.args.world.now) (cells_of c.args.cells.now.units) (pattern c.args.world.now.texts.source.now c.args.world.now.texts.literals.now c.pattern_at-p.result.now) c.value_at-v.result c.loop-i.bindings c.match_one.new.bindings c.loop-i.next) c.in-Some.is c.match_one.ensures)

pub match_all-returns : goal.match_all-returns
match_all-returns t c = match_end (scene_of c.args.world.now) (cells_of c.args.cells.now.units) c.args.ps.now c.args.vs.now c.args.bindings.now c.loop-i.bindings c.args.at c.loop-i.next c.loop-i.i c.loop-i.invariant c.loop-i-test.false

pub match_one-returns-in_default-own_type : goal.match_one-returns-in_default-own_type
match_one-returns-in_default-own_type t c = code_not_seen (scene_of c.args.world.now) (cells_of c.args.cells.now.units) c.args.p.now c.args.v c.args.bindings.now c.args.at c.in-Tree.ty c.in-Tree.bind c.in-Tree.parts c.in-Tree.is c.in_default-own_type.ensures

pub match_one-is_a-requires : goal.match_one-is_a-requires
match_one-is_a-requires t c = own_there (scene_of c.args.world.now) (cells_of c.args.cells.now.units) _ c.args.v _ c.requires.scene c.requires.placed (c.in-Some.ensures)

pub match_one-returns-then-not-is_a : goal.match_one-returns-then-not-is_a
match_one-returns-then-not-is_a t c = code_not_kind (scene_of c.args.world.now) (cells_of c.args.cells.now.units) c.args.p.now c.args.v c.args.bindings.now c.args.at c.in-Tree.ty c.in-Tree.bind c.in-Tree.parts c.in-Tree.is _ _ c.in-Some.ensures c.is_a.ensures (search rules)

pub match_one-match_all-requires : goal.match_one-match_all-requires
match_one-match_all-requires t c = (
  (let d = c.decreases in let low = parts_smaller c.args.world.now.texts.source.now c.args.world.now.texts.literals.now c.args.p.now c.in-Tree.ty c.in-Tree.bind c.in-Tree.parts c.in-Tree.is in omega (arith, d, low)),
  (
    c.requires.scene,
    (
      code_placed (scene_of c.args.world.now) (cells_of c.args.cells.now.units) c.args.p.now c.args.v c.args.bindings.now c.args.at c.in-Tree.ty c.in-Tree.bind c.in-Tree.parts c.in-Tree.is c.requires.placed _ c.gather-count.ensures.parts,
      code_room (scene_of c.args.world.now) (cells_of c.args.cells.now.units) c.args.p.now c.args.v c.args.bindings.now c.args.at c.in-Tree.ty c.in-Tree.bind c.in-Tree.parts c.in-Tree.is c.bind_one-next.new.bindings c.bind_one-next.result _ c.requires.room refl c.bind_one-next.ensures,
    ),
  ),
)

pub match_one-returns-in-Any : goal.match_one-returns-in-Any
match_one-returns-in-Any t c = code_any (scene_of c.args.world.now) (cells_of c.args.cells.now.units) c.args.p.now c.args.v c.args.bindings.now c.args.at c.in-Any.is

pub match_one-returns-in-Bind : goal.match_one-returns-in-Bind
match_one-returns-in-Bind t c = code_bind (scene_of c.args.world.now) (cells_of c.args.cells.now.units) c.args.p.now c.args.v c.args.bindings.now c.args.at _ _ _ c.in-Bind.is c.bind_one.ensures

pub match_one-returns-in-Int-v : goal.match_one-returns-in-Int-v
match_one-returns-in-Int-v t c = code_int (scene_of c.args.world.now) (cells_of c.args.cells.now.units) c.args.p.now c.args.v c.args.bindings.now c.args.at c.in-Int.field-0 c.in-Int-v.field-0 _ _ c.in-Int.is c.in-Int-v.is (c.int_is.ensures c.in-Int.field-0 c.in-Int-v.field-0 c.in-Int.is c.in-Int-v.is) c.place_if.ensures

pub match_one-returns-in_default : goal.match_one-returns-in_default
match_one-returns-in_default t c = code_int_not (scene_of c.args.world.now) (cells_of c.args.cells.now.units) c.args.p.now c.args.v c.args.bindings.now c.args.at c.in-Int.field-0 c.in-Int.is c.in_default.not-Int

pub match_one-returns-in-Bool-v : goal.match_one-returns-in-Bool-v
match_one-returns-in-Bool-v t c = code_bool (scene_of c.args.world.now) (cells_of c.args.cells.now.units) c.args.p.now c.args.v c.args.bindings.now c.args.at c.in-Bool.wanted c.in-Bool-v.b _ _ c.in-Bool.is c.in-Bool-v.is c.same_bool.ensures c.place_if-in-Bool-v.ensures

pub match_one-returns-in_default-v : goal.match_one-returns-in_default-v
match_one-returns-in_default-v t c = code_bool_not (scene_of c.args.world.now) (cells_of c.args.cells.now.units) c.args.p.now c.args.v c.args.bindings.now c.args.at c.in-Bool.wanted c.in-Bool.is c.in_default-v.not-Bool

pub match_one-returns-in-Text-v : goal.match_one-returns-in-Text-v
match_one-returns-in-Text-v t c = code_text (scene_of c.args.world.now) (cells_of c.args.cells.now.units) c.args.p.now c.args.v c.args.bindings.now c.args.at c.in-Text.wanted c.in-Text-v.t _ _ c.in-Text.is c.in-Text-v.is (rw (c.bytes-bytes.ensures, c.bytes.ensures) at c.same_bytes.ensures) c.place_if-in-Text-v.ensures

pub match_one-returns-in_default-v-2 : goal.match_one-returns-in_default-v-2
match_one-returns-in_default-v-2 t c = code_text_not (scene_of c.args.world.now) (cells_of c.args.cells.now.units) c.args.p.now c.args.v c.args.bindings.now c.args.at c.in-Text.wanted c.in-Text.is c.in_default-v-2.not-Text

pub match_one-returns-else-not-is_a : goal.match_one-returns-else-not-is_a
match_one-returns-else-not-is_a t c = code_tree (scene_of c.args.world.now) (cells_of c.args.cells.now.units) c.args.p.now c.args.v c.args.bindings.now c.args.at c.in-Tree.ty c.in-Tree.bind c.in-Tree.parts c.in-Tree.is _ _ _ _ _ _ _ c.in-Some.ensures c.is_a.ensures (search rules) c.gather-count.ensures.parts c.bind_one-next.ensures c.match_all.ensures

pub match_one-gather-count-requires-clause-there : goal.match_one-gather-count-requires-clause-there
match_one-gather-count-requires-clause-there t c = code_there (scene_of c.args.world.now) (cells_of c.args.cells.now.units) c.args.p.now c.args.v c.args.bindings.now c.args.at c.in-Tree.ty c.in-Tree.bind c.in-Tree.parts c.in-Tree.is c.requires.placed
