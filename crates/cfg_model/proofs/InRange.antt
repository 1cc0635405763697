-- What is derived has symbols of the grammar alone.
use Rattle.std.proofs.Common.{ℕ, ◌<◌, ◌≤◌, List, [], ◌∷◌, ◌++◌, length, arith, All}
use Rattle.std.proofs.lemmas.Option.{slice_get_within, get_or_from_slice_get}
use Rattle.std.proofs.lemmas.List.Elements.{All-head, All-tail, All-get_or}
use Rattle.cfg_model.specs.declared.symbol.Sym.{Sym}
use Rattle.cfg_model.specs.declared.symbol.Sym.TheVariants.{N}
use Rattle.cfg_model.specs.Cfg.{Cfg, Rule, IsRule, IsSymbol, IsGrammar}
use Rattle.cfg_model.specs.Steps.{Step, step, Steps, none, more}
use Rattle.cfg_model.specs.Sets.{Reachable}

module _ (g : Cfg) where
  abbrev pub AreSymbols : List Sym → Type 0
  AreSymbols [] = Unit {0}
  AreSymbols (s ∷ u) = IsSymbol g s × AreSymbols u

  pub symbols_from : (u : List Sym) → All (IsSymbol g) u → AreSymbols u
  symbols_from [] all = tt
  symbols_from (s ∷ u) all = (All-head (IsSymbol g) s u all, symbols_from u (All-tail (IsSymbol g) s u all))

  pub symbols_join : (u v : List Sym) → AreSymbols u → AreSymbols v → AreSymbols (u ++ v)
  symbols_join [] v a b = b
  symbols_join (s ∷ u) v a b = (a.0, symbols_join u v a.1 b)

  pub symbols_left : (u v : List Sym) → AreSymbols (u ++ v) → AreSymbols u
  symbols_left [] v a = tt
  symbols_left (s ∷ u) v a = (a.0, symbols_left u v a.1)

  pub symbols_right : (u v : List Sym) → AreSymbols (u ++ v) → AreSymbols v
  symbols_right [] v a = a
  symbols_right (s ∷ u) v a = symbols_right u v a.1

  pub symbols_of_rule : IsGrammar g → (r n : ℕ) (w : List Sym) → IsRule g r n w → AreSymbols w
  symbols_of_rule is r n w rule =
      let lt = slice_get_within g.rules rule.place _ rule.read in
      let one : Rule = record { left = n; right = w } in
      let there = All-get_or (λ (x : Rule). All (IsSymbol g) x.right) g.rules rule.place one lt is.right in
      let read = get_or_from_slice_get g.rules rule.place one one rule.read in
      symbols_from w (rw read at there)

  pub left_of_rule : IsGrammar g → (r n : ℕ) (w : List Sym) → IsRule g r n w → n < g.nonterminals
  left_of_rule is r n w rule =
      let lt = slice_get_within g.rules rule.place _ rule.read in
      let one : Rule = record { left = n; right = w } in
      let there = All-get_or (λ (x : Rule). x.left < g.nonterminals) g.rules rule.place one lt is.left in
      let read = get_or_from_slice_get g.rules rule.place one one rule.read in
      rw read at there

  pub number_of_rule : (r n : ℕ) (w : List Sym) → IsRule g r n w → (0 < r) × (r ≤ length g.rules)
  number_of_rule r n w rule =
      let lt = slice_get_within g.rules rule.place _ rule.read in
      let from_one = rule.from_one in
      (omega arith, omega arith)

  pub symbols_after : IsGrammar g → {u v : List Sym} → Step g u v → AreSymbols u → AreSymbols v
  symbols_after is (step r n w x y rule) all =
      let rest = symbols_right x (N n ∷ y) all in
      symbols_join x (w ++ y) (symbols_left x (N n ∷ y) all) (symbols_join w y (symbols_of_rule is r n w rule) rest.1)

  pub symbols_derived : IsGrammar g → {u v : List Sym} → Steps g u v → AreSymbols u → AreSymbols v
  symbols_derived is none all = all
  symbols_derived is (more v w steps last) all = symbols_after is last (symbols_derived is steps all)

  pub reachable_in : IsGrammar g → (n : ℕ) → Reachable g n → n < g.nonterminals
  reachable_in is n (x, y, steps) = (symbols_right x (N n ∷ y) (symbols_derived is steps (is.start, tt))).0
