-- What the lines name, gathered line by line.
use Rattle.std.proofs.Common.{◌≡◌, ℕ, ◌+◌, ◌<◌, ◌≤◌, List, [], ◌∷◌, ◌++◌, append_assoc, length, take, map, get_or, refl, sym, ap, ◌∙◌, Some, arith}
use Rattle.std.specs.List.{slice_get}
use Rattle.std.proofs.lemmas.List.{append-nil, length-map}
use Rattle.ast_types.specs.TypeTable.{Family}
use Rattle.ck_base.specs.Numbered.{met}
use Rattle.ck_base.proofs.NamesMet.{met-append, length-met}
use Rattle.section_frame.specs.Declares.{Declared}
use Rattle.spec_text.proofs.Lists.{take_step, take_all, get_at, map_get}
use Rattle.node_spec.specs.AstShapes.{AstSaying, family, target, a_type, node, build}
use Rattle.node_spec.specs.AstTables.{family_then, families_in, family_names}
use Rattle.node_spec.specs.AstFaults.{label_then, labels_in, name_then, names_in, node_then, nodes_in}
use Rattle.node_spec.specs.within.AstSeen.{AstLine, declared_by}
use Rattle.node_spec.specs.within.AstUnknown.{type_then, types_in}

-- the line of the program at a place
pub line_at : (list : List AstLine) (i : ℕ) (p item : AstLine) → item ≡ get_or list i p → i < length list
    → slice_get (map declared_by list) i ≡ Some (declared_by item)
line_at list i p item is less = rw is (map_get declared_by list i (get_or list i p) (get_at list i p less))

pub at_end : (i : ℕ) (list : List AstLine) → i ≤ length list → length list ≤ i → i ≡ length (map declared_by list)
at_end i list less more = omega (arith, less, more, length-map list declared_by)

-- names are gathered where each line puts its own before those of the lines behind, one at most
pub record Gathers (all : List (Declared AstSaying) → List (List ℕ)) (one : AstSaying → List (List ℕ)) : Type 0 where
  pub none : all [] ≡ []
  pub more : (d : Declared AstSaying) (ds : List (Declared AstSaying)) → all (d ∷ ds) ≡ one d.said ++ all ds
  pub few : (said : AstSaying) → length (one said) ≤ 1

-- the names of the first i lines, each once
pub record MetSoFar (all : List (Declared AstSaying) → List (List ℕ)) (ds : List (Declared AstSaying)) (i : ℕ)
    (names : List (List ℕ)) : Type 0 where
  pub are : names ≡ met [] (all (take i ds))
  pub few : length names ≤ i

module _ (all : List (Declared AstSaying) → List (List ℕ)) (one : AstSaying → List (List ℕ)) (g : Gathers all one) where
  one_behind : (ds : List (Declared AstSaying)) (d : Declared AstSaying) → all (ds ++ d ∷ []) ≡ all ds ++ one d.said
  one_behind [] d =
      g.more d [] ∙ ap (λ l. one d.said ++ l) g.none ∙ append-nil (one d.said) ∙ sym (ap (λ l. l ++ one d.said) g.none)
  one_behind (e ∷ ds) d =
      g.more e (ds ++ d ∷ []) ∙ ap (λ l. one e.said ++ l) (one_behind ds d)
      ∙ sym (append_assoc (one e.said) (all ds) (one d.said)) ∙ ap (λ l. l ++ one d.said) (sym (g.more e ds))

  pub next_names : (ds : List (Declared AstSaying)) (i : ℕ) (d : Declared AstSaying) → slice_get ds i ≡ Some d
      → all (take (i + 1) ds) ≡ all (take i ds) ++ one d.said
  next_names ds i d at = ap all (take_step ds i d at) ∙ one_behind (take i ds) d

  pub none_met : (ds : List (Declared AstSaying)) (names : List (List ℕ)) → names ≡ [] → MetSoFar all ds 0 names
  none_met ds names is = record { are = is ∙ sym (ap (met []) g.none); few = rw is (omega arith) }

  pub met_more : (ds : List (Declared AstSaying)) (i : ℕ) (old new : List (List ℕ)) (d : Declared AstSaying)
      → slice_get ds i ≡ Some d → MetSoFar all ds i old → new ≡ met old (one d.said) → MetSoFar all ds (i + 1) new
  met_more ds i old new d at so are = record {
    are =
        are ∙ ap (λ l. met l (one d.said)) so.are ∙ sym (met-append [] (all (take i ds)) (one d.said))
        ∙ sym (ap (met []) (next_names ds i d at));
    few = rw are (let long = length-met old (one d.said) in let one_only = g.few d.said in let few = so.few in
        omega (arith, long, one_only, few));
  }

  pub met_all : (ds : List (Declared AstSaying)) (i : ℕ) (names : List (List ℕ)) → i ≡ length ds
      → MetSoFar all ds i names
      → names ≡ met [] (all ds)
  met_all ds i names end so = so.are ∙ ap (λ l. met [] (all l)) (take_all ds i end)

-- families; families and types; types; the nonterminals of NODE lines; the labels of BUILD lines
abbrev pub family_name_of : AstSaying → List (List ℕ)
family_name_of said = map (λ f. f.name) (family_then said [])

abbrev pub name_of : AstSaying → List (List ℕ)
name_of said = name_then said []

abbrev pub type_of : AstSaying → List (List ℕ)
type_of said = type_then said []

abbrev pub node_of : AstSaying → List (List ℕ)
node_of said = node_then said []

abbrev pub label_of : AstSaying → List (List ℕ)
label_of said = label_then said []

pub families_gather : Gathers family_names family_name_of
families_gather = record { none = refl; more = λ d ds. more d.said (families_in ds); few = few }
  where
    more : (said : AstSaying) (fs : List Family)
        → map (λ f. f.name) (family_then said fs) ≡ family_name_of said ++ map (λ f. f.name) fs
    more (family name) fs = refl
    more (target name) fs = refl
    more (a_type name base items) fs = refl
    more (node nonterminal name) fs = refl
    more (build label e) fs = refl

    few : (said : AstSaying) → length (family_name_of said) ≤ 1
    few (family name) = omega arith
    few (target name) = omega arith
    few (a_type name base items) = omega arith
    few (node nonterminal name) = omega arith
    few (build label e) = omega arith

pub names_gather : Gathers names_in name_of
names_gather = record { none = refl; more = λ d ds. more d.said (names_in ds); few = few }
  where
    more : (said : AstSaying) (names : List (List ℕ)) → name_then said names ≡ name_of said ++ names
    more (family name) names = refl
    more (target name) names = refl
    more (a_type name base items) names = refl
    more (node nonterminal name) names = refl
    more (build label e) names = refl

    few : (said : AstSaying) → length (name_of said) ≤ 1
    few (family name) = omega arith
    few (target name) = omega arith
    few (a_type name base items) = omega arith
    few (node nonterminal name) = omega arith
    few (build label e) = omega arith

pub types_gather : Gathers types_in type_of
types_gather = record { none = refl; more = λ d ds. more d.said (types_in ds); few = few }
  where
    more : (said : AstSaying) (names : List (List ℕ)) → type_then said names ≡ type_of said ++ names
    more (family name) names = refl
    more (target name) names = refl
    more (a_type name base items) names = refl
    more (node nonterminal name) names = refl
    more (build label e) names = refl

    few : (said : AstSaying) → length (type_of said) ≤ 1
    few (family name) = omega arith
    few (target name) = omega arith
    few (a_type name base items) = omega arith
    few (node nonterminal name) = omega arith
    few (build label e) = omega arith

pub nodes_gather : Gathers nodes_in node_of
nodes_gather = record { none = refl; more = λ d ds. more d.said (nodes_in ds); few = few }
  where
    more : (said : AstSaying) (names : List (List ℕ)) → node_then said names ≡ node_of said ++ names
    more (family name) names = refl
    more (target name) names = refl
    more (a_type name base items) names = refl
    more (node nonterminal name) names = refl
    more (build label e) names = refl

    few : (said : AstSaying) → length (node_of said) ≤ 1
    few (family name) = omega arith
    few (target name) = omega arith
    few (a_type name base items) = omega arith
    few (node nonterminal name) = omega arith
    few (build label e) = omega arith

pub labels_gather : Gathers labels_in label_of
labels_gather = record { none = refl; more = λ d ds. more d.said (labels_in ds); few = few }
  where
    more : (said : AstSaying) (names : List (List ℕ)) → label_then said names ≡ label_of said ++ names
    more (family name) names = refl
    more (target name) names = refl
    more (a_type name base items) names = refl
    more (node nonterminal name) names = refl
    more (build label e) names = refl

    few : (said : AstSaying) → length (label_of said) ≤ 1
    few (family name) = omega arith
    few (target name) = omega arith
    few (a_type name base items) = omega arith
    few (node nonterminal name) = omega arith
    few (build label e) = omega arith
