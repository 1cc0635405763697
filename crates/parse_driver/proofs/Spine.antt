-- How many vertices of a derivation, one below the other, have the same tokens.
use Rattle.std.proofs.Common.{◌≡◌, ◌≢◌, ℕ, suc, ◌+◌, ◌<◌, ◌≤◌, max, Bool, true, false, cond, eqb, List, [], ◌∷◌, ◌++◌, length, refl, sym, ap, subst, append_assoc, append-nil, ◌∙◌, arith, length-append, ne_eqb, eqb-true, ◌||◌}
use Prim.{tt}
use Rattle.std.specs.List.{IsDistinct, AllByRecursion, list_any}
use Rattle.std.proofs.lemmas.Map.Steps.{length-le_from_distinct_below}
use Rattle.std.proofs.lemmas.Option.{slice_get_within, get_or_from_slice_get}
use Rattle.cfg_model.specs.declared.symbol.Sym.{Sym}
use Rattle.cfg_model.specs.declared.symbol.Sym.TheVariants.{T, N}
use Rattle.cfg_model.specs.Cfg.{Cfg, Rule, IsRule, IsGrammar}
use Rattle.cfg_model.specs.Derivation.{Forest, empty, leaf, node, yield, Derive, nothing, token, rule}
use Rattle.cfg_model.specs.Steps.{Steps, StepsOnce, step, none, more}
use Rattle.cfg_model.specs.Sets.{Reachable}
use Rattle.cfg_model.specs.Searches.{Cyclic}
use Rattle.cfg_model.proofs.Around.{once_then}
use Rattle.cfg_model.proofs.Forests.{beside, yield_beside, join}
use Rattle.parse_driver.proofs.Vanishing.{by_rule, vanishes, alone}

pub data Each (P : ℕ → Type 0) : List ℕ → Type 0 where
  no_one : Each P []
  and : (m : ℕ) (ms : List ℕ) → P m → Each P ms → Each P (m ∷ ms)

pub each_map : (P Q : ℕ → Type 0) (ms : List ℕ) → ((m : ℕ) → P m → Q m) → Each P ms → Each Q ms
each_map P Q ms f no_one = no_one
each_map P Q ms f (and m rest p e) = and m rest (f m p) (each_map P Q rest f e)

pub data Distinct : List ℕ → Type 0 where
  no_one : Distinct []
  and : (m : ℕ) (ms : List ℕ) → Each (λ k. m ≢ k) ms → Distinct ms → Distinct (m ∷ ms)

other : (m : ℕ) (ms : List ℕ) → Each (λ k. m ≢ k) ms → AllByRecursion (λ k. eqb m k ≡ false) ms
other m ms Each.no_one = tt
other m ms (Each.and k rest p e) = (ne_eqb m k p, other m rest e)

distinct_std : (ms : List ℕ) → Distinct ms → IsDistinct eqb ms
unfolding IsDistinct
distinct_std ms Distinct.no_one = tt
distinct_std ms (Distinct.and m rest e d) = (other m rest e, distinct_std rest d)

first_or_rest : (n q m : ℕ) (rest : Bool) → m < n → (rest ≡ true → q < n) → (eqb q m || rest) ≡ true → q < n
first_or_rest n q m rest p later any = go (eqb q m) refl any
  where
    go : (b : Bool) → eqb q m ≡ b → (b || rest) ≡ true → q < n
    go true same h = let e2 = eqb-true q m same in omega (arith, e2, p)
    go false differ h = later h

below_std : (n : ℕ) (ms : List ℕ) → Each (λ m. m < n) ms → (q : ℕ) → list_any (eqb q) ms ≡ true → q < n
below_std n ms Each.no_one q any = cc
below_std n ms (Each.and m rest p e) q any = first_or_rest n q m (list_any (eqb q) rest) p (below_std n rest e q) any

pub pigeon : (n : ℕ) (ms : List ℕ) → Distinct ms → Each (λ m. m < n) ms → length ms ≤ n
pigeon n ms d e = length-le_from_distinct_below ms n (distinct_std ms d) (below_std n ms e)

-- the most vertices one below the other with all of this number of tokens, below a row of trees
abbrev pub tall : {K : Type 0} → Forest K → ℕ → ℕ
tall empty l = 0
tall (leaf k f) l = tall f l
tall (node r c f) l = max (cond (eqb (length (yield c)) l) (suc (tall c (length (yield c)))) 0) (tall f l)

at_most : (k n a b s t : ℕ) → (a ≡ b → k + s ≤ n) → k + t ≤ n → k + max (cond (eqb a b) s 0) t ≤ n
at_most k n a b s t first second = go (eqb a b) refl
  where
    go : (c : Bool) → eqb a b ≡ c → k + max (cond c s 0) t ≤ n
    go true same = let one = first (eqb-true a b same) in omega (arith, one, second)
    go false differ = omega (arith, second)

pub left_in : (g : Cfg) → IsGrammar g → (r n : ℕ) (w : List Sym) → IsRule g r n w → n < g.nonterminals
left_in g ok r n w is =
    let one : Rule = record { left = n; right = w } in
    let inside = slice_get_within g.rules is.place one is.read in
    let there = get_or_from_slice_get g.rules is.place one one is.read in
    let all = ok.left is.place one inside in
    rw there at all

module _ {K : Type 0} (terminal : K → ℕ) (g : Cfg) (ok : IsGrammar g) (free : (n : ℕ) → Reachable g n → Cyclic g n → ⊥) where
  -- The symbols x, with the forest h, and ss, with the forest f, stand in a list that the start symbol
  -- derives, between `left` and `right`. Each of the different nonterminals ms derives x and ss.
  pub spine : (left right : List Sym) (x ss : List Sym) (h f : Forest K) (ms : List ℕ) (l : ℕ)
      → Derive terminal g x h → Derive terminal g ss f → Distinct ms → Each (λ m. m < g.nonterminals) ms
      → Steps g (N g.start ∷ []) (left ++ ((x ++ ss) ++ right))
      → Each (λ m. StepsOnce g (N m ∷ []) (x ++ ss)) ms
      → l ≡ length (yield h) + length (yield f)
      → length ms + tall f l ≤ g.nonterminals
  spine left right x ss h f ms l dx nothing distinct below reach each count =
      let few = pigeon g.nonterminals ms distinct below in omega (arith, few)
  spine left right x ss h f ms l dx (token t k u f2 is d) distinct below reach each count =
      let longer = join terminal g x (T t ∷ []) h (leaf k empty) dx (token t k [] empty is nothing) in
      let flat : x ++ (T t ∷ u) ≡ (x ++ (T t ∷ [])) ++ u = sym (append_assoc x (T t ∷ []) u) in
      let size : length (yield (beside h (leaf k empty))) ≡ length (yield h) + 1 =
      ap length (yield_beside h (leaf k empty)) ∙ length-append (yield h) (k ∷ []) in
      spine left right (x ++ (T t ∷ [])) u (beside h (leaf k empty)) f2 ms l longer d distinct below
      (subst (λ z. Steps g (N g.start ∷ []) (left ++ (z ++ right))) flat reach)
      (each_map _ _ ms (λ m s. subst (λ z. StepsOnce g (N m ∷ []) z) flat s) each)
      (omega (arith, count, size))
  spine left right x ss h f ms l dx (rule r n w u c f2 is dc d) distinct below reach each count =
      let tree : Forest K = node r c empty in
      let longer = join terminal g x (N n ∷ []) h tree dx (rule r n w [] c empty is dc nothing) in
      let flat : x ++ (N n ∷ u) ≡ (x ++ (N n ∷ [])) ++ u = sym (append_assoc x (N n ∷ []) u) in
      let size : length (yield (beside h tree)) ≡ length (yield h) + length (yield c) =
      ap length (yield_beside h tree) ∙ (length-append (yield h) (yield c ++ [])
      ∙ ap (λ z. length (yield h) + length z) (append-nil (yield c))) in
      let both : length (yield c ++ yield f2) ≡ length (yield c) + length (yield f2) = length-append (yield c) (yield f2) in
      let rest = spine left right (x ++ (N n ∷ [])) u (beside h tree) f2 ms l longer d distinct below
      (subst (λ z. Steps g (N g.start ∷ []) (left ++ (z ++ right))) flat reach)
      (each_map _ _ ms (λ m s. subst (λ z. StepsOnce g (N m ∷ []) z) flat s) each)
      (omega (arith, count, size, both)) in
      let there : Steps g (N g.start ∷ []) ((left ++ x) ++ (N n ∷ (u ++ right))) =
      subst (λ z. Steps g (N g.start ∷ []) z)
      (ap (λ z. left ++ z) (append_assoc x (N n ∷ u) right) ∙ sym (append_assoc left x (N n ∷ (u ++ right)))) reach in
      let reachable : Reachable g n = (left ++ x, u ++ right, there) in
      let below_rule : Steps g (N g.start ∷ []) ((left ++ x) ++ (w ++ (u ++ right))) =
      more _ _ there (step r n w (left ++ x) (u ++ right) is) in
      let inside : n < g.nonterminals = left_in g ok r n w is in
      let inner : length (yield c) ≡ l → length ms + suc (tall c (length (yield c))) ≤ g.nonterminals = λ e.
      (let front = vanishes terminal g x h dx (omega (arith, e, count, both)) in
      let back = vanishes terminal g u f2 d (omega (arith, e, count, both)) in
      let alone_n : Steps g (x ++ (N n ∷ u)) (N n ∷ []) = alone g x u (N n ∷ []) front back in
      let to_n = each_map _ (λ m. StepsOnce g (N m ∷ []) (N n ∷ [])) ms (λ m s. once_then g _ _ _ s alone_n) each in
      let differ = each_map _ (λ m. n ≢ m) ms
      (λ m s same. free n reachable (subst (λ z. StepsOnce g (N z ∷ []) (N n ∷ [])) (sym same) s)) to_n in
      let to_w = each_map _ (λ m. StepsOnce g (N m ∷ []) w) ms
      (λ m s. once_then g _ _ _ s (more _ _ none (by_rule g r n w is))) to_n in
      let deeper = spine (left ++ x) (u ++ right) [] w empty c (n ∷ ms) (length (yield c)) nothing dc
      (Distinct.and n ms differ distinct) (Each.and n ms inside below) below_rule
      (Each.and n ms (N n ∷ [], none, by_rule g r n w is) to_w) (omega arith) in
      omega (arith, deeper)) in
      at_most (length ms) g.nonterminals (length (yield c)) l _ _ inner rest
