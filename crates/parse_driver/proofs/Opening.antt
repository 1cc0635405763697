-- Rules that are open without a token have different left sides: else one would be left recursive.
use Rattle.std.proofs.Common.{◌≡◌, ◌≢◌, ℕ, suc, ◌+◌, ◌<◌, ◌≤◌, List, [], ◌∷◌, ◌++◌, length, refl, sym, ap, subst, append_assoc, append-nil, ◌∙◌, arith}
use Rattle.cfg_model.specs.declared.symbol.Sym.{Sym}
use Rattle.cfg_model.specs.declared.symbol.Sym.TheVariants.{T, N}
use Rattle.cfg_model.specs.Cfg.{Cfg, IsRule, IsGrammar}
use Rattle.cfg_model.specs.LlTables.{IsLl, NoneLeftRecursive}
use Rattle.cfg_model.specs.Sets.{Nullable, Reachable}
use Rattle.cfg_model.specs.Searches.{LeftRecursive}
use Rattle.cfg_model.specs.Steps.{Steps, StepsOnce, none, more}
use Rattle.cfg_model.proofs.Forests.{steps_then}
use Rattle.parse_driver.specs.declared.ll.Entry.{Entry}
use Rattle.parse_driver.specs.declared.ll.Entry.TheVariants.{Find, Done}
use Rattle.parse_driver.specs.within.LlStack.{finding, open_rules, Opened, nothing_opened, rule_opened, OpenedSince, longest, load_since, Nears}
use Rattle.parse_driver.proofs.Height.{called_on, null-append, rule_long}
use Rattle.parse_driver.proofs.Load.{open_finding, load_falls}
use Rattle.parse_driver.proofs.Spine.{Each, each_map, Distinct, pigeon, left_in}
use Rattle.parse_driver.proofs.Vanishing.{by_rule}

-- m derives a list in which nothing stands before n but what vanishes
abbrev pub Leads : Cfg → ℕ → ℕ → Type 0
Leads g n m = (x : List Sym) × (y : List Sym) × Nullable g x × StepsOnce g (N m ∷ []) (x ++ (N n ∷ y))

-- what is to be found first is on top, or an end of a rule
first_found : (x : Sym) (u : List Sym) (r n : ℕ) (below rest : List Entry) → finding (x ∷ u) ++ (Done r ∷ below) ≡ Find (N n) ∷ rest
    → (x ≡ N n) × (finding u ++ (Done r ∷ below) ≡ rest)
first_found x u r n below rest e = (cc, cc)

none_found : (r n : ℕ) (below rest : List Entry) → Done r ∷ below ≡ Find (N n) ∷ rest → ⊥
none_found r n below rest e = cc

some_found : (x : Sym) (u : List Sym) (r s : ℕ) (below rest : List Entry) → finding (x ∷ u) ++ (Done r ∷ below) ≡ Done s ∷ rest → ⊥
some_found x u r s below rest e = cc

same_below : (r s : ℕ) (below rest : List Entry) → Done r ∷ below ≡ Done s ∷ rest → below ≡ rest
same_below r s below rest e = cc

module _ (g : Cfg) (rest : List Entry) where
  -- each name is an open rule more
  pub opened_count : (stack : List Entry) (names : List ℕ) → Opened g rest stack names → open_rules stack ≡ open_rules rest + length names
  opened_count _ _ nothing_opened = omega arith
  opened_count _ _ (rule_opened r n v u below stack names is gone reach before are) =
      let ih = opened_count (Find (N n) ∷ below) names before in
      let here = ap open_rules are ∙ open_finding u (Done r ∷ below) in
      omega (arith, ih, here)

  -- each of them leads to the nonterminal on top
  pub opened_leads : (stack : List Entry) (names : List ℕ) → Opened g rest stack names → (n : ℕ) (below : List Entry)
      → stack ≡ Find (N n) ∷ below → Each (Leads g n) names
  opened_leads _ _ nothing_opened n below top = Each.no_one
  opened_leads _ _ (rule_opened r a v [] b stack names is gone reach before are) n below top =
      absurd (none_found r n b below (sym are ∙ top))
  opened_leads _ _ (rule_opened r a v (x ∷ u) b stack names is gone reach before are) n below top =
      let first = (first_found x u r n b below (sym are ∙ top)).0 in
      let rule : IsRule g r a (v ++ (N n ∷ u)) = subst (λ z. IsRule g r a (v ++ (z ∷ u))) first is in
      Each.and a names (v, u, gone, (N a ∷ [], none, by_rule g r a (v ++ (N n ∷ u)) rule))
      (each_map (Leads g a) (Leads g n) names (λ m leads. (
        leads.0 ++ v,
        u ++ leads.1,
        null-append g leads.0 v leads.2 gone,
        called_on g r a n v u leads.0 leads.1 m rule leads.3,
      )) (opened_leads (Find (N a) ∷ b) names before a b refl))

  -- they differ, and are nonterminals
  pub opened_distinct : NoneLeftRecursive g → (stack : List Entry) (names : List ℕ) → Opened g rest stack names → Distinct names
  opened_distinct free _ _ nothing_opened = Distinct.no_one
  opened_distinct free _ _ (rule_opened r a v u b stack names is gone reach before are) =
      Distinct.and a names
      (each_map (Leads g a) (λ m. a ≢ m) names (λ m leads same. free a reach (subst (Leads g a) (sym same) leads))
      (opened_leads (Find (N a) ∷ b) names before a b refl))
      (opened_distinct free (Find (N a) ∷ b) names before)

  pub opened_inside : IsGrammar g → (stack : List Entry) (names : List ℕ) → Opened g rest stack names → Each (λ m. m < g.nonterminals) names
  opened_inside ok _ _ nothing_opened = Each.no_one
  opened_inside ok _ _ (rule_opened r a v u b stack names is gone reach before are) =
      Each.and a names (left_in g ok r a (v ++ u) is) (opened_inside ok (Find (N a) ∷ b) names before)

-- entries that have no more open rules, and what was done since
pub record NoMore (g : Cfg) (rest stack : List Entry) : Type 0 where
  pub less : List Entry
  pub names : List ℕ
  pub opened : Opened g less stack names
  pub few : open_rules less ≤ open_rules rest

module _ (g : Cfg) (rest : List Entry) where
  -- where the nonterminal on top has vanished
  pub top_vanished : (stack : List Entry) (names : List ℕ) → Opened g rest stack names → (n : ℕ) (below : List Entry)
      → stack ≡ Find (N n) ∷ below → Nullable g (N n ∷ []) → NoMore g rest below
  top_vanished _ _ nothing_opened n below top null =
      record { less = below; names = []; opened = nothing_opened; few = (let same = ap open_rules top in omega (arith, same)) }
  top_vanished _ _ (rule_opened r a v [] b stack names is gone reach before are) n below top null =
      absurd (none_found r n b below (sym are ∙ top))
  top_vanished _ _ (rule_opened r a v (x ∷ u) b stack names is gone reach before are) n below top null =
      let (first, after) = first_found x u r n b below (sym are ∙ top) in
      let rule : IsRule g r a ((v ++ (N n ∷ [])) ++ u) =
      subst (λ l. IsRule g r a l) (sym (append_assoc v (N n ∷ []) u)) (subst (λ z. IsRule g r a (v ++ (z ∷ u))) first is) in
      record {
        less = rest;
        names = a ∷ names;
        opened = rule_opened r a (v ++ (N n ∷ [])) u b below names rule (null-append g v (N n ∷ []) gone null) reach before (sym after);
        few = omega arith;
      }

  -- where the rule on top has ended
  pub top_ended : (stack : List Entry) (names : List ℕ) → Opened g rest stack names → (s : ℕ) (below : List Entry)
      → stack ≡ Done s ∷ below → NoMore g rest below
  top_ended _ _ nothing_opened s below top =
      record { less = below; names = []; opened = nothing_opened; few = (let same = ap open_rules top in omega (arith, same)) }
  top_ended _ _ (rule_opened r a v [] b stack names is gone reach before are) s below top =
      let same = same_below r s b below (sym are ∙ top) in
      let rule : IsRule g r a v = subst (λ l. IsRule g r a l) (append-nil v) is in
      let null : Nullable g (N a ∷ []) = steps_then g (more _ _ none (by_rule g r a v rule)) gone in
      subst (NoMore g rest) same (top_vanished (Find (N a) ∷ b) names before a b refl null)
  top_ended _ _ (rule_opened r a v (x ∷ u) b stack names is gone reach before are) s below top =
      absurd (some_found x u r s b below (sym are ∙ top))

-- nothing was done yet
pub none_since : (g : Cfg) (stack : List Entry) → OpenedSince g (open_rules stack) stack
none_since g stack = record { rest = stack; names = []; opened = nothing_opened; few = omega arith }

-- a turn that ends a rule leaves less
pub nears_end : (g : Cfg) (r : ℕ) (stack : List Entry) → Nears g (Done r ∷ stack) stack
nears_end g r stack most since =
    let ended = top_ended g since.rest (Done r ∷ stack) since.names since.opened r stack refl in
    let few = ended.few in
    let before = since.few in
    (record { rest = ended.less; names = ended.names; opened = ended.opened; few = omega (arith, few, before) }, omega arith)

-- and so does one that takes a rule
pub nears_rule : (g : Cfg) (r n : ℕ) (w : List Sym) (stack : List Entry) → IsLl g → Reachable g n → IsRule g r n w
    → Nears g (Find (N n) ∷ stack) (finding w ++ (Done r ∷ stack))
nears_rule g r n w stack ok reach is most since =
    let next : Opened g since.rest (finding w ++ (Done r ∷ stack)) (n ∷ since.names) =
    rule_opened r n [] w stack (finding w ++ (Done r ∷ stack)) since.names is none reach since.opened refl in
    let names = pigeon g.nonterminals (n ∷ since.names)
    (opened_distinct g since.rest ok.not_left_recursive (finding w ++ (Done r ∷ stack)) (n ∷ since.names) next)
    (opened_inside g since.rest ok.grammar (finding w ++ (Done r ∷ stack)) (n ∷ since.names) next) in
    let count = opened_count g since.rest (Find (N n) ∷ stack) since.names since.opened in
    let few = since.few in (
      record { rest = since.rest; names = n ∷ since.names; opened = next; few = since.few },
      load_falls (longest g.rules) (most + g.nonterminals) r n w stack (rule_long g r n w is) (omega (arith, names, count, few)),
    )
