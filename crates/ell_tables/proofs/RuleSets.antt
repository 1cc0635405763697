-- A rule's set, and the list of all of them.
use Rattle.std.proofs.Common.{◌≡◌, ℕ, zero, suc, ◌+◌, ◌<◌, inl, inr, List, [], ◌∷◌, ◌++◌, length, All, refl, sym, ◌∙◌, ap, arith, slice_get, Some, slice_index_or}
use Rattle.std.proofs.lemmas.Option.{slice_get_within}
use Rattle.std.proofs.lemmas.List.{length_push}
use Rattle.std.proofs.lemmas.List.Elements.{All-push}
use Rattle.std.proofs.lemmas.Bool.{cases_eq}
use Rattle.ck_base.specs.BitSet.{BitSet, Has, IsEmpty, Adds}
use Rattle.cfg_model.specs.Cfg.{Cfg, Rule}
use Rattle.cfg_model.specs.Rows.{IsSetOf, AreRowsOf, no_row, row, In}
use Rattle.cfg_model.specs.Sets.{Nullable, First, Follow, Reachable}
use Rattle.ell_tables.specs.within.RuleSets.{IsRuleSet, AreRuleSets}

pub index_front : {A : Type 0} (xs : List A) (y d : A) (n : ℕ) → n < length xs → slice_index_or (xs ++ (y ∷ [])) n d ≡ slice_index_or xs n d
index_front [] y d n lt = absurd (omega arith)
index_front (x ∷ xs) y d zero lt = refl
index_front (x ∷ xs) y d (suc n) lt = index_front xs y d n (omega arith)

pub index_last : {A : Type 0} (xs : List A) (y d : A) → slice_index_or (xs ++ (y ∷ [])) (length xs) d ≡ y
index_last [] y d = refl
index_last (x ∷ xs) y d = index_last xs y d

module _ (g : Cfg) (reach : BitSet) (reach_is : IsSetOf g.nonterminals (Reachable g) reach) (one : Rule) (none : BitSet) (empty : IsEmpty none) where
  pub set_none : (Has reach one.left → ⊥) → IsRuleSet g one none
  set_none lacks t = (λ has. absurd (empty t has), λ (reachable, _). absurd (lacks (reach_is.all one.left reachable)))

  module _ (reached : Has reach one.left) (mid : BitSet) (firsts : Adds none mid (First g one.right)) where
    pub set_stop : (Nullable g one.right → ⊥) → IsRuleSet g one mid
    set_stop stops t = (
      λ has. (reach_is.only one.left reached, elim (firsts.only t has) [ inl was ↦ absurd (empty t was) | inr there ↦ inl there ]),
      λ (_, which). elim which [ inl there ↦ firsts.more t there | inr (vanish, _) ↦ absurd (stops vanish) ],
    )

    pub set_vanish : (follows : List BitSet) → AreRowsOf g.nonterminals (g.terminals + 1) (Follow g) follows → (new : BitSet) → Nullable g one.right
        → Adds mid new (λ t. In follows one.left t) → IsRuleSet g one new
    set_vanish follows follows_are new vanish joined t = (
      λ has. (
        reach_is.only one.left reached,
        elim (joined.only t has) [
          | inl was ↦ elim (firsts.only t was) [ inl before ↦ absurd (empty t before) | inr there ↦ inl there ]
          | inr there ↦ inr (vanish, follows_are.only one.left t there)
        ],
      ),
      λ (_, which). elim which [ inl there ↦ joined.kept t (firsts.more t there) | inr (_, there) ↦ joined.more t (follows_are.all one.left t there) ],
    )

-- the sets of the rules before the place
pub record RuleSetsSoFar (g : Cfg) (sets : List BitSet) (i : ℕ) : Type 0 where
  pub count : length sets ≡ i
  pub widths : All (λ set. set.size ≡ g.terminals + 1) sets
  pub each : (k : ℕ) (one : Rule) → k < i → slice_get g.rules k ≡ Some one → IsRuleSet g one (row sets k)

module _ (g : Cfg) where
  pub rule_sets_more : (i : ℕ) (one : Rule) (sets : List BitSet) (set : BitSet) → slice_get g.rules i ≡ Some one → set.size ≡ g.terminals + 1
      → IsRuleSet g one set → RuleSetsSoFar g sets i → RuleSetsSoFar g (sets ++ (set ∷ [])) (i + 1)
  rule_sets_more i one sets set at_place size set_is before = record {
    count = length_push sets set ∙ ap (λ n. n + 1) before.count;
    widths = All-push (λ (s : BitSet). s.size ≡ g.terminals + 1) sets set before.widths size;
    each = λ k other lt read. elim (cases_eq k i) [
      | inl same ↦
          let there : slice_get g.rules i ≡ Some other = rw same at read in
          let rule_is : other ≡ one = cc (there, at_place) in
          let place_is : k ≡ length sets = same ∙ sym before.count in
          let last : row (sets ++ (set ∷ [])) k ≡ set = rw place_is (index_last sets set no_row) in
          rw (rule_is, last) set_is
      | inr earlier ↦
          let inside : k < length sets = (let a = before.count in omega arith) in
          let kept : row (sets ++ (set ∷ [])) k ≡ row sets k = index_front sets set no_row k inside in
          rw kept (before.each k other (omega arith) read)
    ];
  }

  pub rule_sets_all : (sets : List BitSet) (i : ℕ) → RuleSetsSoFar g sets i → i ≡ length g.rules → AreRuleSets g sets
  rule_sets_all sets i so_far all = record {
    count = so_far.count ∙ all;
    widths = so_far.widths;
    each = λ k one read. so_far.each k one (omega (arith, slice_get_within g.rules k one read, all)) read;
  }
