-- What is declared as a value, and what fits, tried where the nearest wrong reading differs.
use Rattle.std.proofs.Common.{◌≡◌, ℕ, zero, suc, ◌<◌, true, false, List, [], ◌∷◌, map, None, Some, refl, sym, ap, ◌∙◌, arith, codes}
use Rattle.std.specs.Borrow.{Bor}
use Rattle.std.specs.Prelude.{get_or}
use Rattle.std.proofs.lemmas.List.Elements.{All-head}
use Rattle.value_store.specs.declared.value.ValType.{ValType}
use Rattle.value_store.specs.declared.value.ValType.TheVariants as ty
use Rattle.ast_types.specs.TypeTable.{NodeType, TypeTable, family_at}
use Rattle.expr_lang.specs.Expression.{Expression, var}
use Rattle.expr_lang.specs.Meaning.{meaning}
use Rattle.expr_lang.specs.Typing.{a_var}
use Rattle.value_store.specs.PlainTypes.{IsPlain}
use Rattle.expr_lang.specs.declared.expr.Expr.{Expr}
use Rattle.expr_lang.specs.declared.expr.Maker.{Maker}
use Rattle.expr_lang.proofs.OneType.{one_type}
use Rattle.cfg_model.specs.declared.symbol.Sym.TheVariants.{T, N}
use Rattle.ck_base.specs.Numbered.{number_of}
use Rattle.node_model.specs.Makers.{names_of_types, types_of_side}
use Rattle.node_model.specs.TypeNames.{names_of_all, names_of_families}
use Rattle.node_model.specs.Nodes.{Nodes, nodes_of, IsSourceType, AreSourceMakers, build_context, Builds}
use Rattle.ast_types.specs.FitTypes.{HasFitItems}
use Rattle.node_model.specs.declared.nodes.NodeSpec.{NodeSpec}

-- expressions of one meaning declare the same, wherever their strings lie
same_nodes : (t u : TypeTable) (m n : List ℕ) (b c : List Expression) → t ≡ u → m ≡ n → b ≡ c
    → (let x : Nodes = record { table = t; families = m; builds = b } in let y : Nodes = record { table = u; families = n; builds = c } in x ≡ y)
same_nodes t u m n b c tables families builds = cc

pub places_forgotten : (source literals : List ℕ) (one other : NodeSpec) (e f : Bor Expr) → one.types ≡ other.types
    → one.nodes.items ≡ other.nodes.items → one.builds.items ≡ e ∷ [] → other.builds.items ≡ f ∷ []
    → meaning source literals e.now ≡ meaning source literals f.now → nodes_of source literals one ≡ nodes_of source literals other
places_forgotten source literals one other e f types nodes builds others same =
    same_nodes one.types other.types one.nodes.items other.nodes.items _ _ types nodes
    (ap (λ l. map (λ x. meaning source literals x.now) l) builds ∙ ap (λ x. x ∷ []) same
    ∙ sym (ap (λ l. map (λ x. meaning source literals x.now) l) others))

-- the families f, and c of the target side; the type t is of this family, and has these items
abbrev of_type : ℕ → List ValType → NodeType
of_type f items = record { name = codes "t"; family = f; base = None; items = map (λ of. record { name = codes "x"; of = of }) items }

abbrev table_with : NodeType → TypeTable
table_with t = record {
  families = record { name = codes "f"; target = false } ∷ record { name = codes "c"; target = true } ∷ [];
  types = t ∷ [];
}

-- a type of the target side has no maker
target_no_source : (t : ℕ) → IsSourceType (table_with (of_type 1 [])) t → ⊥
target_no_source zero (within, (has, source)) = cc
target_no_source (suc t) (within, (has, source)) = omega (arith, within)

pub no_makers : AreSourceMakers (table_with (of_type 1 [])) []
no_makers = record {
  each = λ m among. absurd (let less = among.1 in omega (arith, less));
  all = λ t source. absurd (target_no_source t source);
}

pub no_target_maker : (m : Maker) → AreSourceMakers (table_with (of_type 1 [])) (m ∷ []) → ⊥
no_target_maker m are = let it = are.each m (0, omega arith, refl) in target_no_source it.0 it.1

-- a type of the target side before one of the source side
abbrev two_sides : TypeTable
two_sides = record {
  families = record { name = codes "f"; target = false } ∷ record { name = codes "c"; target = true } ∷ [];
  types = record { name = codes "a"; family = 1; base = None; items = [] } ∷ record { name = codes "b"; family = 0; base = None; items = [] } ∷ [];
}

-- a type's number counts the types of both sides
pub types_of_each_side : (types_of_side two_sides false ≡ 1 ∷ []) × (types_of_side two_sides true ≡ 0 ∷ [])
types_of_each_side = (refl, refl)

pub names_of_a_side : names_of_types two_sides (types_of_side two_sides false) ≡ codes "b" ∷ []
names_of_a_side = refl

-- names of types stand in the order of their numbers, and families aren't among them
pub names_stand_in_order : (number_of (names_of_all two_sides) (codes "b") ≡ Some 1)
    × (number_of (names_of_all two_sides) (codes "f") ≡ None) × (number_of (names_of_families two_sides) (codes "c") ≡ Some 1)
names_stand_in_order = (refl, refl, refl)

-- a rule's symbols are tokens, and nodes of the families of its nonterminals
pub token_and_node : (build_context (4 ∷ 5 ∷ []) [] (T 0 ∷ N 1 ∷ [])).vars ≡ ty.Token ∷ ty.Node 5 ∷ []
token_and_node = refl

-- the first symbol is a node of family 0 where it is a nonterminal of this family, and not where it is a token
abbrev no_types : Nodes
no_types = record { table = record { families = []; types = [] }; families = 0 ∷ []; builds = [] }

pub builds_own_family : Builds no_types (N 0 ∷ []) 0 (var 0)
builds_own_family = record {
  makers = [];
  are = record { each = λ m among. absurd (let less = among.1 in omega (arith, less)); all = λ t source. absurd (let less = source.0 in omega (arith, less)) };
  typed = a_var 0 (ty.Node 0) refl;
}

pub builds_no_token : Builds no_types (T 0 ∷ []) 0 (var 0) → ⊥
builds_no_token builds = let same : ty.Token ≡ ty.Node 0 = one_type _ (var 0) ty.Token (ty.Node 0) (a_var 0 ty.Token refl) builds.typed in cc

-- a child of family 0 fits, one of the target side doesn't, nor does a map
pub child_of_own_side : HasFitItems (table_with (of_type 0 [])) (of_type 0 (ty.Node 0 ∷ []))
child_of_own_side = record {
  few_children = omega arith;
  few_fields = omega arith;
  plain = λ i d within. absurd (omega (arith, within));
  families = λ i d within. by i d within;
}
  where
    by : (i d : ℕ) → i < 1 → (get_or (0 ∷ []) i d < 2)
        × ((family_at (table_with (of_type 0 [])).families (get_or (0 ∷ []) i d)).target ≡ false)
    by zero d within = (omega arith, refl)
    by (suc i) d within = absurd (omega (arith, within))

pub child_of_other_side : HasFitItems (table_with (of_type 0 [])) (of_type 0 (ty.Node 1 ∷ [])) → ⊥
child_of_other_side fit =
    let first = All-head (λ f. (f < 2) × ((family_at (table_with (of_type 0 [])).families f).target ≡ false)) 1 [] fit.families in
    let same : true ≡ false = first.1 in cc

pub map_does_not_fit : HasFitItems (table_with (of_type 0 [])) (of_type 0 (ty.Map ∷ [])) → ⊥
map_does_not_fit fit = let plain : IsPlain ty.Map = All-head IsPlain ty.Map [] fit.plain in elim plain [ ]
