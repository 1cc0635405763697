-- What a chosen list is: each instance's rule applies, its operands are the instances of its places, and the items make a tree.
use Rattle.std.proofs.Common.{◌≡◌, ℕ, zero, suc, ◌+◌, ◌-◌, ◌^◌, ◌<◌, ◌≤◌, ◌⊎◌, List, [], ◌∷◌, ◌++◌, length, get_or, map, Option, Some, option_map, arith, inl, inr, refl, sym, subst, ap, ◌∙◌}
use Rattle.std.specs.Prelude.{slice_get, Contains}
use Rattle.std.proofs.lemmas.Option.{slice_get_within, slice_get-map}
use Rattle.value_store.specs.declared.text.Texts.{Texts}
use Rattle.ast_types.specs.TypeTable.{TypeTable}
use Rattle.tree_store.specs.Forest.{Node}
use Rattle.beg_model.specs.Applies.{applies}
use Rattle.beg_model.specs.Cover.{Application, Instance, Stands, Chosen}
use Rattle.beg_model.specs.Cover as cover
use Rattle.beg_model.specs.RuleMeaning as meaning
use Rattle.beg_model.specs.RuleMeaning.{rules_in}
use Rattle.beg_model.specs.Rules.{Rule}
use Rattle.beg_model.specs.declared.matched.Subgoal.{Subgoal}
use Rattle.beg_model.specs.declared.rules.CoverRule.{CoverRule}
use Rattle.beg_model.specs.declared.rules.CoverRules.{CoverRules}
use Rattle.beg_model.specs.declared.rules.Holding.{Holding}
use Rattle.beg_model.specs.declared.rules.Holding.TheVariants.{Class, Operand, Nothing}
use Rattle.beg_model.proofs.AcceptedRules.{few_standing}
use Rattle.std.proofs.lemmas.List.{length-map}
use Rattle.beg_registers.specs.Assigned.{HasRegisters}
use Rattle.beg_registers.specs.Chosen.{IsChosenList}
use Rattle.beg_model.specs.Items.{Item, item_of, items, held_by, holding_in, AreKnown}
use Rattle.beg_model.specs.Registers.{HasClass, IsOperand}
use Rattle.beg_registers.proofs.ItemsRead.{item_is, length_items}
use Rattle.beg_registers.proofs.TreeShape.{Among, OperandIn, Shape, shape}
use Rattle.beg_registers.proofs.TreeShape as tree
use Rattle.beg_registers.proofs.UseLaws.{IsTree}

-- ------------------------------------------------------------------ reading lists

pub got : {X Y : Type 0} (f : X → Y) (xs : List X) (k : ℕ) (y : Y) → slice_get (map f xs) k ≡ Some y → (x : X) × (slice_get xs k ≡ Some x) × (f x ≡ y)
got f [] k y e = cc
got f (x ∷ xs) zero y e = (x, refl, cc)
got f (x ∷ xs) (suc k) y e = got f xs k y e

pub some_at : {X : Type 0} (xs : List X) (p : ℕ) → p < length xs → (x : X) × (slice_get xs p ≡ Some x)
some_at [] p lt = absurd (omega (arith, lt))
some_at (x ∷ xs) zero lt = (x, refl)
some_at (x ∷ xs) (suc p) lt = some_at xs p (omega (arith, lt))

front : {X : Type 0} (xs ys : List X) (m : ℕ) (x : X) → slice_get xs m ≡ Some x → slice_get (xs ++ ys) m ≡ Some x
front [] ys m x e = cc
front (z ∷ xs) ys zero x e = e
front (z ∷ xs) ys (suc m) x e = front xs ys m x e

behind : {X : Type 0} (xs ys : List X) (m k : ℕ) (x : X) → k ≡ length xs + m → slice_get ys m ≡ Some x → slice_get (xs ++ ys) k ≡ Some x
behind [] ys m k x e is = (let same : k ≡ m = omega (arith, e) in subst (λ z. slice_get ys z ≡ Some x) (sym same) is)
behind (z ∷ xs) ys m zero x e is = absurd (omega (arith, e))
behind (z ∷ xs) ys m (suc k) x e is = behind xs ys m k x (omega (arith, e)) is

either : {X : Type 0} (xs : List X) (y : X) (ys : List X) (p : ℕ) (x : X) → slice_get (xs ++ (y ∷ ys)) p ≡ Some x
    → (slice_get xs p ≡ Some x) ⊎ ((y ≡ x) ⊎ ((q : ℕ) × (slice_get ys q ≡ Some x)))
either [] y ys zero x e = inr (inl cc)
either [] y ys (suc p) x e = inr (inr (p, e))
either (z ∷ xs) y ys zero x e = inl e
either (z ∷ xs) y ys (suc p) x e = either xs y ys p x e

-- ------------------------------------------------------------------ operands and their places

-- the numbers are those of instances that cover the places one by one, in a list that is numbered from a first number on
pub data Tops (Applies : Application) (first : ℕ) (list : List Instance) : List Subgoal → List ℕ → Type 0 where
  no_top : Tops Applies first list [] []
  and_top : (q : Subgoal) (qs : List Subgoal) (o m k : ℕ) (os : List ℕ) (j : Instance) (ps : List Subgoal) → o ≡ first + m → slice_get list m ≡ Some j
      → Applies j.rule q.node q.nonterminal k ps → Tops Applies first list qs os → Tops Applies first list (q ∷ qs) (o ∷ os)

pub record Covering (Applies : Application) (first : ℕ) (list : List Instance) (i : Instance) : Type 0 where
  pub nonterminal : ℕ
  pub own : ℕ
  pub places : List Subgoal
  pub applies : Applies i.rule i.node nonterminal own places
  pub tops : Tops Applies first list places i.operands

moved : {Applies : Application} (xs zs : List Instance) (first next d : ℕ) {qs : List Subgoal} {os : List ℕ} → first ≡ next + d
    → ((m : ℕ) (j : Instance) → slice_get xs m ≡ Some j → slice_get zs (d + m) ≡ Some j) → Tops Applies first xs qs os → Tops Applies next zs qs os
moved xs zs first next d e there no_top = no_top
moved xs zs first next d e there (and_top q qs o m k os j ps o_is is a rest) =
    and_top q qs o (d + m) k os j ps (omega (arith, e, o_is)) (there m j is) a (moved xs zs first next d e there rest)

cover_moved : {Applies : Application} (xs zs : List Instance) (first next d : ℕ) (i : Instance) → first ≡ next + d
    → ((m : ℕ) (j : Instance) → slice_get xs m ≡ Some j → slice_get zs (d + m) ≡ Some j) → Covering Applies first xs i → Covering Applies next zs i
cover_moved xs zs first next d i e there c = record {
  nonterminal = c.nonterminal;
  own = c.own;
  places = c.places;
  applies = c.applies;
  tops = moved xs zs first next d e there c.tops;
}

at_zero : (m : ℕ) → m ≡ 0 + m
at_zero m = omega arith

front_there : (below after : List Instance) (i : Instance) (m : ℕ) (j : Instance) → slice_get below m ≡ Some j → slice_get (below ++ (i ∷ after)) (0 + m) ≡ Some j
front_there below after i m j is = subst (λ z. slice_get (below ++ (i ∷ after)) z ≡ Some j) (at_zero m) (front below (i ∷ after) m j is)

behind_there : (below after : List Instance) (i : Instance) (m : ℕ) (j : Instance) → slice_get after m ≡ Some j
    → slice_get (below ++ (i ∷ after)) (length below + 1 + m) ≡ Some j
behind_there below after i m j is = behind below (i ∷ after) (suc m) (length below + 1 + m) j (omega arith) is

pub stands_tops : {Applies : Application} {first c : ℕ} {ps : List Subgoal} {list : List Instance} {tops : List ℕ} → Stands Applies first ps list tops c
    → Tops Applies first list ps tops
stands_tops (cover.no_subgoal first) = no_top
stands_tops (cover.one_more first r n x k c d e operands rest below after tops others chosen a under more) =
    let i : Instance = record { rule = r; node = n; operands = tops } in
    and_top (record { node = n; nonterminal = x }) rest (first + length below) (length below) k others i operands refl
    (behind below (i ∷ after) 0 (length below) i (omega arith) refl) a
    (moved after (below ++ (i ∷ after)) (first + length below + 1) first (length below + 1) (omega arith) (behind_there below after i) (stands_tops more))

pub each_covers : {Applies : Application} {first c : ℕ} {ps : List Subgoal} {list : List Instance} {tops : List ℕ} → Stands Applies first ps list tops c
    → (p : ℕ) (i : Instance) → slice_get list p ≡ Some i → Covering Applies first list i
each_covers (cover.no_subgoal first) p i is = cc
each_covers {Applies = Applies} (cover.one_more first r n x k c d e operands rest below after tops others chosen a under more) p i is =
    let own : Instance = record { rule = r; node = n; operands = tops } in
    elim (either below own after p i is) [
      | inl left ↦ cover_moved below (below ++ (own ∷ after)) first first 0 i (omega arith) (front_there below after own) (each_covers under p i left)
      | inr others_are ↦ elim others_are [
        | inl same ↦ subst (λ z. Covering Applies first (below ++ (own ∷ after)) z) same (record {
          nonterminal = x;
          own = k;
          places = operands;
          applies = a;
          tops = moved below (below ++ (own ∷ after)) first first 0 (omega arith) (front_there below after own) (stands_tops under);
        })
        | inr (q, right) ↦ cover_moved after (below ++ (own ∷ after)) (first + length below + 1) first (length below + 1) i (omega arith)
            (behind_there below after own) (each_covers more q i right)
      ]
    ]

-- ------------------------------------------------------------------ items

among : (xs : List ℕ) (k w : ℕ) → k < length xs → get_or xs k w ≡ w → Among w xs
among [] k w lt is = absurd (omega (arith, lt))
among (x ∷ xs) zero w lt is = subst (λ z. Among w (z ∷ xs)) (sym is) (tree.first xs)
among (x ∷ xs) (suc k) w lt is = tree.later x xs (among xs k w (omega (arith, lt)) is)

contains : {w : ℕ} (xs : List ℕ) → Among w xs → (k : ℕ) × (k < length xs) × (get_or xs k w ≡ w)
contains xs (tree.first rest) = (0, omega arith, refl)
contains xs (tree.later v rest h) = let (k, lt, is) = contains rest h in (suc k, omega (arith, lt), is)

operand_in : (rules : CoverRules) (list : List Instance) (n m w p : ℕ) (item : Item) → p ≡ n + m → slice_get (items rules list) m ≡ Some item
    → Contains item.operands w → OperandIn w p n list
operand_in rules [] n m w p item e is has = cc
operand_in rules (i ∷ list) n zero w p item e is (k, lt, at) =
    let same : item_of rules i ≡ item = cc in
    let here_p : n ≡ p = omega (arith, e) in
    let mine : Contains i.operands w = subst (λ z. Contains z.operands w) (sym same) (k, lt, at) in
    subst (λ z. OperandIn w z n (i ∷ list)) here_p (subst (λ z. OperandIn w n z (i ∷ list)) refl (tree.here i list (among i.operands mine.0 w mine.1 mine.2)))
operand_in rules (i ∷ list) n (suc m) w p item e is has =
    tree.there n i list (operand_in rules list (n + 1) m w p item (omega (arith, e)) is has)

operand_of : (rules : CoverRules) {w p n : ℕ} (list : List Instance) → OperandIn w p n list
    → (m : ℕ) × (item : Item) × (p ≡ n + m) × (slice_get (items rules list) m ≡ Some item) × Contains item.operands w
operand_of rules list (tree.here i rest a) = (0, item_of rules i, omega arith, refl, contains i.operands a)
operand_of rules list (tree.there n i rest h) =
    let (m, item, e, is, has) = operand_of rules rest h in (suc m, item, omega (arith, e), is, has)

nothing_text : (h : Holding) → h ≡ Nothing → h ≡ Operand → ⊥
nothing_text h e f = cc

nothing_class : (h : Holding) (class : ℕ) → h ≡ Nothing → h ≡ Class class → ⊥
nothing_class h class e f = cc

one_among : {w v o : ℕ} → Among w (o ∷ []) → Among v (o ∷ []) → w ≡ v
one_among (tree.first _) (tree.first _) = refl
one_among (tree.first _) (tree.later _ _ h) = elim h [ ]
one_among (tree.later _ _ h) b = elim h [ ]

one_top : {Applies : Application} {first : ℕ} {list : List Instance} {p : Subgoal} {tops : List ℕ} (w v : ℕ) → Tops Applies first list (p ∷ []) tops
    → Among w tops → Among v tops → w ≡ v
one_top w v (and_top q qs o m k os j ps e at a no_top) x y = one_among x y

module _ (texts : Texts) (rules : CoverRules) (table : TypeTable) (nodes : List Node) (list : List Instance) (is : IsChosenList texts rules table nodes list) where
  pub covers_at : (p : ℕ) (i : Instance) → slice_get list p ≡ Some i → Covering (applies texts rules table nodes) 0 list i
  covers_at p i at = each_covers is.stands p i at

  pub short : length list ≤ 2 ^ 25
  short = few_standing texts rules table nodes is.sound is.forest is.accepted is.few_nodes is.root rules.goal is.cost 0 list is.tops is.stands

  coded_at : (r : ℕ) (rule : Rule) → slice_get (rules_in texts rules).list r ≡ Some rule
      → (coded : CoverRule) × (slice_get rules.rules.items r ≡ Some coded) × (meaning.rule_of texts.source.now texts.literals.now coded ≡ rule)
  coded_at r rule at = got (meaning.rule_of texts.source.now texts.literals.now) rules.rules.items r rule at

  left_there : (coded : CoverRule) (r : ℕ) (rule : Rule) → slice_get (rules_in texts rules).list r ≡ Some rule
      → meaning.rule_of texts.source.now texts.literals.now coded ≡ rule → coded.left < length rules.holds.items
  left_there coded r rule at same =
      let low = (is.accepted.rules_are.each r rule at).left in
      let left : coded.left ≡ rule.left = ap (λ (z : Rule). z.left) same in
      let each = is.accepted.rules_are.hold_each in
      omega (arith, low, left, each)

  pub known : AreKnown rules list
  known = λ p i at.
      (let c = covers_at p i at in
      let (coded, there, same) = coded_at i.rule c.applies.rule c.applies.is in
      let (held, holds) = some_at rules.holds.items coded.left (left_there coded i.rule c.applies.rule c.applies.is same) in
      record { rule = coded; is = there; held = held; holds = holds })

  -- an instance whose rule has this left side holds what that holds
  pub holds_left : (i : Instance) (n x k : ℕ) (ps : List Subgoal) (held : Holding) → applies texts rules table nodes i.rule n x k ps
      → slice_get rules.holds.items x ≡ Some held → (item_of rules i).holds ≡ held
  holds_left i n x k ps held a holds =
      let (coded, there, same) = coded_at i.rule a.rule a.is in
      let left : coded.left ≡ x = ap (λ (z : Rule). z.left) same ∙ a.left in
      ap (λ o. held_by rules o) there ∙ ap (λ z. holding_in (slice_get rules.holds.items z)) left ∙ ap holding_in holds

  last_top : (w : ℕ) (tops : List ℕ) (p : Subgoal) → Tops (applies texts rules table nodes) 0 list (p ∷ []) tops → Among w tops
      → (j : Instance) × (k : ℕ) × (ps : List Subgoal) × (slice_get list w ≡ Some j) × applies texts rules table nodes j.rule p.node p.nonterminal k ps
  last_top w tops p (and_top q qs o m k os j ps e at a no_top) (tree.first rest) =
      (j, k, ps, subst (λ z. slice_get list z ≡ Some j) (let same : m ≡ o = omega (arith, e) in same) at, a)
  last_top w tops p (and_top q qs o m k os j ps e at a no_top) (tree.later v rest h) = elim h [ ]

  whole : Shape 0 (0 + length list) list is.tops
  whole = shape is.stands

  operand_here : (w p : ℕ) → IsOperand (items rules list) w p → OperandIn w p 0 list
  operand_here w p o = operand_in rules list 0 p w p o.item (omega arith) o.is_item o.operand

  last_among : (v : ℕ) → v + 1 ≡ length list → Among v is.tops
  last_among v last =
      let s = whole in
      elim (s.each v (omega arith) (omega (arith, last))) [
        | inl top ↦ top
        | inr (q, h) ↦ (let (x, y, z) = s.operand v q h in absurd (omega (arith, y, z, last)))
      ]

  not_last : (w : ℕ) → Among w is.tops → w + 1 < length list → ⊥
  not_last w top lt =
      let same = one_top w (length list - 1) (stands_tops is.stands) top (last_among (length list - 1) (omega (arith, lt))) in
      omega (arith, lt, same)

  last_is : (p : ℕ) → p + 1 ≡ length list → (item : Item) × (slice_get (items rules list) p ≡ Some item) × (item.holds ≡ Nothing)
  last_is p last =
      let s = whole in
      elim (s.each p (omega arith) (omega (arith, last))) [
        | inl top ↦ (let (j, k, ps, at, a) = last_top p is.tops _ (stands_tops is.stands) top in
            (item_of rules j, item_is rules list p j at, holds_left j is.root rules.goal k ps Nothing a is.accepted.rules_are.emitted.goal_holds))
        | inr (q, h) ↦ (let (x, y, z) = s.operand p q h in absurd (omega (arith, y, z, last)))
      ]

  one_of : {o : Option Item} {a b : Item} → o ≡ Some a → o ≡ Some b → a ≡ b
  one_of e f = cc

  pub is_tree : IsTree (items rules list)
  is_tree = record {
    parent = λ w lt. (let s = whole in let size = length_items rules list in
        elim (s.each w (omega arith) (omega (arith, lt, size))) [
          | inl top ↦ absurd (let (j, k, ps, at, a) = last_top w is.tops _ (stands_tops is.stands) top in
              not_last w top (omega (arith, lt, size)))
          | inr (p, h) ↦ (let (m, item, e, at, has) = operand_of rules list h in
              let same : p ≡ m = omega (arith, e) in
              let at_p = subst (λ z. slice_get (items rules list) z ≡ Some item) (sym same) at in
              (p, slice_get_within (items rules list) p item at_p, record { item = item; is_item = at_p; operand = has }))
        ]);
    one = λ w p q a b. (let s = whole in s.one w p q (operand_here w p a) (operand_here w q b));
    below = λ w p a. (let s = whole in (s.operand w p (operand_here w p a)).1);
    root = λ p last. (let (item, at, none) = last_is p (last ∙ length_items rules list) in (
      λ t. nothing_text item.holds none (subst (λ z. z.holds ≡ Operand) (one_of t.is_item at) t.holds),
      λ class h. nothing_class item.holds class none (subst (λ z. z.holds ≡ Class class) (one_of h.is_item at) h.holds),
    ));
  }

  class_named : (class have : ℕ) → HasRegisters rules class have → (names : List (List ℕ)) × (slice_get (rules_in texts rules).classes class ≡ Some names)
      × (length names ≡ have)
  class_named class have has =
      let (names, there, same) = got (λ names. length names.items) rules.classes.items class have has in
      (names.items, slice_get-map (λ class. class.items) rules.classes.items class ∙ ap (option_map (λ class. class.items)) there, same)

  pub few_registers : (class have : ℕ) → HasRegisters rules class have → have ≤ 64
  few_registers class have has =
      let (names, there, same) = class_named class have has in
      let few = is.accepted.rules_are.emitted.few_registers class names there in
      omega (arith, few, same)

  -- the class of a value is there
  pub class_there : (p class : ℕ) → HasClass (items rules list) p class → (have : ℕ) × HasRegisters rules class have
  class_there p class h =
      let (i, at, same) = got (item_of rules) list p h.item h.is_item in
      let k = known p i at in
      let holds : (item_of rules i).holds ≡ k.held = ap (λ o. held_by rules o) k.is ∙ ap holding_in k.holds in
      let is_class : k.held ≡ Class class = sym holds ∙ ap (λ (z : Item). z.holds) same ∙ h.holds in
      let lt = is.accepted.rules_are.emitted.classes_there k.rule.left class (k.holds ∙ ap Some is_class) in
      let size = length-map rules.classes.items (λ class. class.items) in
      let (names, there) = some_at rules.classes.items class (omega (arith, lt, size)) in
      (length names.items, slice_get-map (λ names. length names.items) rules.classes.items class ∙ ap (option_map (λ names. length names.items)) there)
