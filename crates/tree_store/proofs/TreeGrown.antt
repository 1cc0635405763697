-- The tree after a node was added: its links agree again, and it has the new node at its end.
use Rattle.std.proofs.Common.{◌≡◌, ℕ, ◌+◌, ◌<◌, ◌≤◌, List, [], ◌∷◌, ◌++◌, length, map, refl, sym, ap, ◌∙◌, subst, arith, get_or, length-append}
use Rattle.std.proofs.lemmas.List.{length-map}
use Rattle.value_store.specs.declared.value.Value.{Value}
use Rattle.tree_store.specs.declared.tree.Label.{Label}
use Rattle.tree_store.specs.Forest.{Node, AreRoots}
use Rattle.tree_store.specs.Links.{label_of, nodes_from, IsLinkedTree}
use Rattle.tree_store.specs.Linking.{Linking}
use Rattle.tree_store.proofs.LabelsRead.{labelled, relabelled, fields_there}
use Rattle.tree_store.proofs.NodeAdded.{Added, finished}

pub grown : (rows r1 r3 : List Label) (fields g1 g3 : List Value) (parents p1 p2 p3 numbers n1 n2 n3 firsts f1 f3 nexts x1 x2 x3 : List ℕ) (nodes : List Node)
    (row : Label) (cs : List ℕ) (new : List Value) (node first : ℕ)
    → IsLinkedTree rows fields parents numbers firsts nexts → nodes_from nexts (map (label_of fields) rows) firsts ≡ nodes
    → AreRoots nodes cs → length cs ≤ 8 → length new ≤ 8 → length rows < 1048576
    → r1 ≡ rows → p1 ≡ parents → n1 ≡ numbers → f1 ≡ firsts → x1 ≡ nexts → g1 ≡ fields → node ≡ length rows
    → Linking cs (length cs) p1 p2 (λ k. node) → Linking cs (length cs) n1 n2 (λ k. k) → Linking cs (length cs) x1 x2 (λ k. get_or cs (k + 1) 4294967295)
    → g3 ≡ g1 ++ new → r3 ≡ r1 ++ row ∷ [] → p3 ≡ p2 ++ 4294967295 ∷ [] → n3 ≡ n2 ++ 0 ∷ [] → first ≡ get_or cs 0 4294967295 → f3 ≡ f1 ++ first ∷ [] → x3 ≡ x2 ++ 4294967295 ∷ []
    → row.start ≡ length fields → row.count ≡ length new
    → IsLinkedTree r3 g3 p3 n3 f3 x3
    × (nodes_from x3 (map (label_of g3) r3) f3 ≡ nodes ++ record { ty = row.ty; children = cs; fields = new } ∷ [])
grown rows r1 r3 fields g1 g3 parents p1 p2 p3 numbers n1 n2 n3 firsts f1 f3 nexts x1 x2 x3 nodes row cs new node first whole view roots short few room
    r1is p1is n1is f1is x1is g1is at plinks nlinks xlinks g3is r3is p3is n3is firstis f3is x3is start count =
    let labels = map (label_of fields) rows in
    let long : length labels ≡ length rows = length-map rows (label_of fields) in
    let a : Added labels parents numbers firsts nexts (labelled row.ty new) cs p2 n2 x2 = record {
      linked = whole.linked;
      roots = subst (λ ns. AreRoots ns cs) (sym view) roots;
      short = short;
      room = omega (arith, long, room);
      parents_set = subst (λ old. Linking cs (length cs) old p2 (λ k. length labels)) p1is (subst (λ n. Linking cs (length cs) p1 p2 (λ k. n)) (at ∙ sym long) plinks);
      numbers_set = subst (λ old. Linking cs (length cs) old n2 (λ k. k)) n1is nlinks;
      nexts_set = subst (λ old. Linking cs (length cs) old x2 (λ k. get_or cs (k + 1) 4294967295)) x1is xlinks;
    } in
    let rows_are : r3 ≡ rows ++ row ∷ [] = r3is ∙ ap (λ x. x ++ row ∷ []) r1is in
    let fields_are : g3 ≡ fields ++ new = g3is ∙ ap (λ x. x ++ new) g1is in
    let relabel = relabelled rows r3 fields g3 new row whole.fields_there rows_are fields_are start count in
    let done = finished labels parents numbers firsts nexts (labelled row.ty new) cs p2 n2 x2 nodes labels (map (label_of g3) r3) p3 n3 f1 f3 x3 first
    a view refl relabel p3is n3is f1is f3is firstis x3is in (
      record {
        linked = done.0;
        fields_there = fields_there rows r3 fields g3 new row whole.fields_there rows_are fields_are start count;
        few_fields = (let f = whole.few_fields in omega (arith, f, few, ap (λ x. length x) fields_are, length-append fields new, ap (λ x. length x) rows_are, length-append rows (row ∷ [])));
      },
      done.1,
    )
