-- What usable types give: children are of their type's side, items are few, and makers of the target side make nodes.
use Rattle.std.proofs.Common.{◌≡◌, ℕ, ◌+◌, ◌<◌, ◌≤◌, zero, suc, Bool, true, false, not, List, [], ◌∷◌, length, map, Some, refl, sym, ap, ◌∙◌, subst, arith, eqb-true}
use Rattle.std.specs.Prelude.{All, Contains, slice_get, nat_eq, if◌then◌else◌}
use Rattle.std.proofs.lemmas.List.Elements.{All-head, All-tail}
use Rattle.value_store.specs.PlainTypes.{IsPlain, plain_int, plain_bool, plain_text}
use Rattle.value_store.specs.declared.value.ValType.{ValType}
use Rattle.value_store.specs.declared.value.ValType.TheVariants as ty
use Rattle.ast_types.specs.FitTypes.{AreTypes}
use Rattle.ast_types.specs.Items.{child_families, field_types, child_then, field_then}
use Rattle.ast_types.specs.TypeTable.{TypeTable, type_at, family_at}
use Rattle.ast_types.specs.declared.item.Item.{Item}
use Rattle.ast_types.proofs.Counts.{child_or_field}
use Rattle.ast_types.proofs.FitItems.{fit_items}
use Rattle.expr_lang.specs.OfType.{AreItems, no_items, child_item, field_item, MakesNodes}
use Rattle.expr_lang.specs.Typing.{maker_of}
use Rattle.expr_lang.specs.declared.expr.Maker.{Maker}
use Rattle.node_model.specs.Makers.{AreMakersOf, IsTypeOf, IsMakerOf}
use Rattle.puma_model.specs.Typed.{is_source, source_families}

all_at : {X : Type 0} (P : X → Type 0) (xs : List X) (k : ℕ) (x : X) → All P xs → slice_get xs k ≡ Some x → P x
all_at P [] k x all at = cc
all_at P (y ∷ xs) zero x all at = let e : y ≡ x = cc in subst P e (All-head P y xs all)
all_at P (y ∷ xs) (suc k) x all at = all_at P xs k x (All-tail P y xs all) at

-- the family is there, and of the side of the type
abbrev OfSide : TypeTable → ℕ → ℕ → Type 0
OfSide table own f = (f < length table.families) × ((family_at table.families f).target ≡ (family_at table.families own).target)

pub one_side : (table : TypeTable) (t k f : ℕ) → AreTypes table → t < length table.types → slice_get (child_families (type_at table.types t).items) k ≡ Some f
    → is_source table f ≡ is_source table (type_at table.types t).family
one_side table t k f are within at =
    ap not (all_at (OfSide table (type_at table.types t).family) _ k f (fit_items table t are.items within).families at).1

pub few_items : (table : TypeTable) (t : ℕ) → AreTypes table → t < length table.types → length (type_at table.types t).items ≤ 16
few_items table t are within =
    let fit = fit_items table t are.items within in
    let children = fit.few_children in
    let fields = fit.few_fields in
    let all = child_or_field (type_at table.types t).items in
    omega (arith, children, fields, all)

-- ------------------------------------------------------------------ makers

-- what a maker of the target side makes: nodes of a type of this side
pub record IsTargetMaker (table : TypeTable) (n : ℕ) (m : Maker) : Type 0 where
  pub there : n < length table.types
  pub family_is : m.family ≡ (type_at table.types n).family
  pub items_are : m.items.items ≡ map (λ item. item.of) (type_at table.types n).items
  pub makes : MakesNodes (source_families table) m

-- items of a type of the target side: the children are made
field_more : (table : TypeTable) (items : List Item) (t : ValType) → IsPlain t
    → AreItems (source_families table) (map (λ item. item.of) items) (length (child_families items)) (length (field_types items))
    → AreItems (source_families table) (t ∷ map (λ item. item.of) items) (length (child_families items)) (length (t ∷ field_types items))
field_more table items t plain more =
    let e : length (field_types items) + 1 ≡ length (t ∷ field_types items) = omega arith in
    subst (λ n. AreItems (source_families table) (t ∷ map (λ item. item.of) items) (length (child_families items)) n) e (field_item t _ _ _ plain more)

-- the family is of the target side
abbrev IsTarget : TypeTable → ℕ → Type 0
IsTarget table f = is_source table f ≡ false

item_more : (table : TypeTable) (items : List Item) (t : ValType)
    → (All IsPlain (field_types items) → All (IsTarget table) (child_families items)
    → AreItems (source_families table) (map (λ item. item.of) items) (length (child_families items)) (length (field_types items)))
    → All IsPlain (field_then t (field_types items)) → All (IsTarget table) (child_then t (child_families items))
    → AreItems (source_families table) (t ∷ map (λ item. item.of) items) (length (child_then t (child_families items))) (length (field_then t (field_types items)))
item_more table items (ty.Node f) more plain target =
    let e : length (child_families items) + 1 ≡ length (f ∷ child_families items) = omega arith in
    let side = All-head (IsTarget table) f (child_families items) target in
    subst (λ n. AreItems (source_families table) (ty.Node f ∷ map (λ item. item.of) items) n (length (field_types items))) e
    (child_item f _ _ _ (λ n. side) (more plain (All-tail (IsTarget table) f (child_families items) target)))
item_more table items ty.Int more plain target = field_more table items ty.Int plain_int (more (All-tail IsPlain ty.Int (field_types items) plain) target)
item_more table items ty.Bool more plain target = field_more table items ty.Bool plain_bool (more (All-tail IsPlain ty.Bool (field_types items) plain) target)
item_more table items ty.Text more plain target = field_more table items ty.Text plain_text (more (All-tail IsPlain ty.Text (field_types items) plain) target)
item_more table items ty.Map more plain target =
    field_more table items ty.Map (All-head IsPlain ty.Map (field_types items) plain) (more (All-tail IsPlain ty.Map (field_types items) plain) target)
item_more table items ty.Token more plain target =
    field_more table items ty.Token (All-head IsPlain ty.Token (field_types items) plain) (more (All-tail IsPlain ty.Token (field_types items) plain) target)

items_are : (table : TypeTable) (items : List Item) → All IsPlain (field_types items) → All (IsTarget table) (child_families items)
    → AreItems (source_families table) (map (λ item. item.of) items) (length (child_families items)) (length (field_types items))
items_are table [] plain target = no_items
items_are table (i ∷ items) plain target = item_more table items i.of (λ p q. items_are table items p q) plain target

all_target : (table : TypeTable) (own : ℕ) (fs : List ℕ) → (family_at table.families own).target ≡ true → All (OfSide table own) fs → All (IsTarget table) fs
all_target table own fs side all = λ k d within. ap not ((all k d within).1 ∙ side)

-- the first maker of a type is among the makers, and of this type
record IsFirst (ms : List Maker) (n : ℕ) (m : Maker) : Type 0 where
  pub among : Contains ms m
  pub kind : m.ty ≡ n

first_of : (ms : List Maker) (n : ℕ) (m : Maker) → maker_of ms n ≡ Some m → IsFirst ms n m
first_of [] n m is = (cc)
first_of (x ∷ ms) n m is = by_test (λ found. first_of ms n m found) (nat_eq x.ty n) refl is
  where
    by_test : (maker_of ms n ≡ Some m → IsFirst ms n m) → (b : Bool) → nat_eq x.ty n ≡ b → (if b then Some x else maker_of ms n) ≡ Some m → IsFirst (x ∷ ms) n m
    by_test later true e found = (let same : x ≡ m = cc in record { among = (0, omega arith, same); kind = (let k : x.ty ≡ n = eqb-true x.ty n e in subst (λ y. y.ty ≡ n) same k) })
    by_test later false e found = (let rest = later found in let c = rest.among in record { among = (suc c.0, (let low = c.1 in omega (arith, low)), c.2); kind = rest.kind })

pub target_maker : (table : TypeTable) (makers : List Maker) (n : ℕ) (m : Maker) → AreTypes table → AreMakersOf table true makers → maker_of makers n ≡ Some m
    → IsTargetMaker table n m
target_maker table makers n m types are found =
    let first = first_of makers n m found in
    let (t, of, is0) = are.each m first.among in
    let same : t ≡ n = sym is0.type_is ∙ first.kind in
    let (there, family) = subst (IsTypeOf table true) same of in
    let side = family.1 in
    let is = subst (λ k. IsMakerOf table k m) same is0 in
    let fit = fit_items table n types.items there in
    let items = (type_at table.types n).items in
    record {
      there = there;
      family_is = is.family_is;
      items_are = is.items_are;
      makes = record {
        children = length (child_families items);
        fields = length (field_types items);
        items = subst (λ ts. AreItems (source_families table) ts (length (child_families items)) (length (field_types items))) (sym is.items_are)
            (items_are table items fit.plain (all_target table (type_at table.types n).family (child_families items) side fit.families));
        few_children = fit.few_children;
        few_fields = fit.few_fields;
        family = λ k. ap (is_source table) is.family_is ∙ ap not side;
      };
    }
