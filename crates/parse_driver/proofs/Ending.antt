-- Reductions end: the number of the stack grows and is bounded.
use Rattle.std.proofs.Common.{◌≡◌, ℕ, suc, ◌+◌, ◌*◌, ◌-◌, ◌^◌, ◌<◌, ◌≤◌, List, [], ◌∷◌, ◌++◌, length, refl, sym, ap, subst, append_assoc, arith, length-append, mul-le-mul_right, suc-mul}
use Rattle.cfg_model.specs.declared.symbol.Sym.{Sym}
use Rattle.cfg_model.specs.declared.symbol.Sym.TheVariants.{N}
use Rattle.cfg_model.specs.Cfg.{Cfg}
use Rattle.cfg_model.specs.Derivation.{Forest, empty, node, yield, Derive, nothing, token, rule}
use Rattle.cfg_model.specs.Steps.{Steps, step, none, more}
use Rattle.cfg_model.specs.Valid.{Valid, start, closure, move}
use Rattle.cfg_model.specs.LrTables.{IsLr}
use Rattle.parse_driver.proofs.Vanishing.{by_rule}
use Rattle.parse_driver.proofs.Spine.{Each, Distinct, tall, spine, left_in}
use Rattle.parse_driver.specs.within.LlStack.{longest}
use Rattle.parse_driver.proofs.Height.{height_bound}
use Rattle.parse_driver.proofs.StackNumber.{trees, tipped, value, Small, power_one, grows, bounded, small_part, trees-tipped, tokens-tipped}

-- what stands behind a dot stands in a list that the start symbol derives
pub stands : (g : Cfg) (p : List Sym) (r d : ℕ) (y : List Sym) (a : ℕ) → Valid g p r d y a
    → (b : List Sym) × (c : List Sym) × Steps g (N g.start ∷ []) (b ++ (y ++ c))
stands g p r d y a start = ([], [], none)
stands g p r d y a (closure _ r2 d2 n y2 a2 s _ _ v is begins) =
    let (b, c, steps) = stands g p r2 d2 _ a2 v in
    (b, y2 ++ c, more _ _ steps (step s n y b (y2 ++ c) is))
stands g p r d y a (move p2 r2 d2 x _ _ v) =
    let (b, c, steps) = stands g p2 r2 d2 _ a v in
    (b ++ (x ∷ []), c, subst (λ l. Steps g (N g.start ∷ []) l) (sym (append_assoc b (x ∷ []) (y ++ c))) steps)

abbrev pub base : Cfg → ℕ → ℕ
base g n = suc n * suc g.nonterminals + 1

abbrev pub digits : Cfg → ℕ → ℕ
digits g n = longest g.rules * (suc g.nonterminals * suc n)

low_digit : (n m l t : ℕ) → suc t ≤ n → l ≤ m → l * suc n + suc (suc t) < suc m * suc n + 1
low_digit n m l t short le =
    let one : l * suc n ≤ m * suc n = mul-le-mul_right (suc n) le in
    let two : suc m * suc n ≡ m * suc n + suc n = suc-mul m (suc n) in
    omega (arith, one, two, short)

low_leaf : (n m : ℕ) → 1 ≤ m → suc n + 1 < suc m * suc n + 1
low_leaf n m some =
    let one : 1 * suc n ≤ m * suc n = mul-le-mul_right (suc n) some in
    let two : suc m * suc n ≡ m * suc n + suc n = suc-mul m (suc n) in
    omega (arith, one, two)

module _ {K : Type 0} (terminal : K → ℕ) (g : Cfg) (ok : IsLr g) where
  -- the trees of a stack are small
  pub all_small : (p : List Sym) (h : Forest K) (r d : ℕ) (y : List Sym) (a n : ℕ) → Valid g p r d y a → Derive terminal g p h
      → length (yield h) ≤ n → Small g.nonterminals (base g n) h
  all_small p h r d y a n start nothing few = Small.no_tree
  all_small p h r d y a n (closure _ r2 d2 m y2 a2 s _ _ v is begins) dp few = all_small p h r2 d2 _ a2 n v dp few
  all_small p h r d y a n (move p2 r2 d2 _ _ _ v) (token t k _ f2 is dp) few =
      Small.token k f2 (low_leaf g.nonterminals n (omega (arith, few))) (all_small p2 f2 r d2 _ a n v dp (omega (arith, few)))
  all_small p h r d y a n (move p2 r2 d2 _ _ _ v) (rule s m w _ c f2 is dc dp) few =
      let size : length (yield c ++ yield f2) ≡ length (yield c) + length (yield f2) = length-append (yield c) (yield f2) in
      let (b, e, steps) = stands g p2 r d2 _ a v in
      let short = spine terminal g ok.grammar ok.not_cyclic b (y ++ e) [] w empty c (m ∷ []) (length (yield c)) nothing dc
      (Distinct.and m [] Each.no_one Distinct.no_one) (Each.and m [] (left_in g ok.grammar s m w is) Each.no_one)
      (more _ _ steps (step s m w b (y ++ e) is))
      (Each.and m [] (N m ∷ [], none, by_rule g s m w is) Each.no_one) (omega arith) in
      let short2 : suc (tall c (length (yield c))) ≤ g.nonterminals = omega (arith, short) in
      Small.vertex s c f2 (low_digit g.nonterminals n (length (yield c)) (tall c (length (yield c))) short2 (omega (arith, few, size))) short2
      (all_small p2 f2 r d2 _ a n v dp (omega (arith, few, size)))

  pub trees_long : (p : List Sym) (h : Forest K) → Derive terminal g p h → trees h ≡ length p
  trees_long p h nothing = refl
  trees_long p h (token t k u f is d) = ap suc (trees_long u f d)
  trees_long p h (rule r n w u c f is dc d) = ap suc (trees_long u f d)

-- how many reductions may come yet, at most
pub left_at : {K : Type 0} → Cfg → ℕ → Forest K → ℕ
left_at g n h = base g n ^ digits g n - value g.nonterminals (base g n) (digits g n) h

pub left : {K : Type 0} → Cfg → Forest K → ℕ
left g h = left_at g (length (yield h)) h

-- a reduction lessens it
pub falls : {K : Type 0} (terminal : K → ℕ) (g : Cfg) → IsLr g → (p q : List Sym) (c st : Forest K) (s r d : ℕ) (y : List Sym) (a r2 d2 : ℕ) (y2 : List Sym) (a2 : ℕ)
    → Valid g p r d y a → Derive terminal g p (tipped c st)
    → Valid g q r2 d2 y2 a2 → Derive terminal g q (node s c st)
    → left g (node s c st) < left g (tipped c st)
unfolding left left_at
falls {K} terminal g ok p q c st s r d y a r2 d2 y2 a2 v dp v2 dq =
    let n : ℕ = length (yield (tipped c st)) in
    let same : length (yield (node s c st)) ≡ length (yield (tipped c st)) =
    (let one = tokens-tipped c st in let two = length-append (yield c) (yield st) in omega (arith, one, two)) in
    subst (λ m. left_at g m (node s c st) < left_at g n (tipped c st)) (sym same) (go n refl same)
  where
    go : (n : ℕ) → n ≡ length (yield (tipped c st)) → length (yield (node s c st)) ≡ length (yield (tipped c st))
        → left_at g n (node s c st) < left_at g n (tipped c st)
    go n is same =
        let high = height_bound terminal g ok.grammar ok.not_hidden_left p (tipped c st) r d y a v dp in
        let high2 = height_bound terminal g ok.grammar ok.not_hidden_left q (node s c st) r2 d2 y2 a2 v2 dq in
        let long = trees_long terminal g ok p (tipped c st) dp in
        let long2 = trees_long terminal g ok q (node s c st) dq in
        let size = trees-tipped c st in
        let fits : trees (tipped c st) ≤ digits g n = rw is (omega (arith, high, long)) in
        let fits2 : suc (trees st) ≤ digits g n = rw (is, ← same) (omega (arith, high2, long2)) in
        let small = all_small terminal g ok p (tipped c st) r d y a n v dp (omega (arith, is)) in
        let small2 = all_small terminal g ok q (node s c st) r2 d2 y2 a2 n v2 dq (omega (arith, is, same)) in
        let some : 1 ≤ base g n = omega arith in
        let grew = grows g.nonterminals (base g n) (digits g n) s c st (small_part g.nonterminals (base g n) c st small).0 some fits2
        (omega (arith, fits, size)) in
        let top = bounded g.nonterminals (base g n) (digits g n) (node s c st) small2 some fits2 in
        let one = power_one (base g n) (digits g n - suc (trees st)) some in
        omega (arith, grew, top, one)
