-- How long a prefix with a core is at most, by the number of tokens that it derives.
use Rattle.std.proofs.Common.{◌≡◌, ◌≢◌, ℕ, zero, suc, ◌+◌, ◌*◌, ◌<◌, ◌≤◌, max, List, [], ◌∷◌, ◌++◌, length, refl, sym, ap, subst, append_assoc, append-nil, ◌∙◌, arith, length-append, slice_get, Some, mul-add, mul-le-mul_left, mul-suc, suc-mul, inl, inr, ◌⊎◌}
use Rattle.cfg_model.specs.declared.symbol.Sym.{Sym}
use Rattle.cfg_model.specs.declared.symbol.Sym.TheVariants.{T, N}
use Rattle.cfg_model.specs.Cfg.{Cfg, Rule, IsRule, IsGrammar}
use Rattle.cfg_model.specs.Derivation.{Forest, empty, leaf, node, yield, Derive, nothing, token, rule}
use Rattle.cfg_model.specs.Steps.{Steps, StepsOnce, step, none, more}
use Rattle.cfg_model.specs.Sets.{Reachable, Nullable}
use Rattle.cfg_model.specs.Searches.{HiddenLeft}
use Rattle.cfg_model.specs.Valid.{Valid, start, closure, move}
use Rattle.cfg_model.proofs.Around.{once_then}
use Rattle.cfg_model.proofs.Forests.{beside, yield_beside, join, steps_then, steps_before}
use Rattle.parse_driver.specs.within.LlStack.{longest}
use Rattle.parse_driver.proofs.Vanishing.{by_rule, vanishes}
use Rattle.parse_driver.proofs.Spine.{Each, each_map, Distinct, pigeon, left_in}

pub longest_one : (rs : List Rule) → 1 ≤ longest rs
unfolding longest
longest_one [] = omega arith
longest_one (r ∷ rs) = let ih = longest_one rs in omega (arith, ih)

pub longest_at : (rs : List Rule) (i : ℕ) (n : ℕ) (w : List Sym) → slice_get rs i ≡ Some (record { left = n; right = w }) → length w ≤ longest rs
unfolding longest
longest_at [] i n w is = cc
longest_at (r ∷ rs) zero n w is = let same = same_right r n w is in omega (arith, same)
  where
    same_right : (r : Rule) (n : ℕ) (w : List Sym) → Some r ≡ Some (record { left = n; right = w }) → length r.right ≡ length w
    same_right r n w e = let one : r ≡ record { left = n; right = w } = cc in ap (λ q. length q.right) one
longest_at (r ∷ rs) (suc i) n w is = let ih = longest_at rs i n w is in omega (arith, ih)

pub rule_long : (g : Cfg) (r n : ℕ) (w : List Sym) → IsRule g r n w → length w ≤ longest g.rules
rule_long g r n w is = longest_at g.rules is.place n w is.read

-- m derives a list in which a stands after something that isn't empty and can vanish
abbrev pub Hides : Cfg → ℕ → ℕ → Type 0
Hides g a m = (x : List Sym) × (y : List Sym) × (x ≢ []) × Nullable g x × StepsOnce g (N m ∷ []) (x ++ (N a ∷ y))

-- whose right side an item has
pub data Whose (g : Cfg) (r : ℕ) (w : List Sym) (ms : List ℕ) : Type 0 where
  top : w ≡ N g.start ∷ [] → ms ≡ [] → Whose g r w ms
  named : (a : ℕ) → IsRule g r a w → Reachable g a → Each (Hides g a) ms → Whose g r w ms

pub record Height {K : Type 0} (terminal : K → ℕ) (g : Cfg) (p : List Sym) (h : Forest K) (r d : ℕ) (y : List Sym) : Type 0 where
  pub below : List Sym
  pub front : List Sym
  pub trees : Forest K
  pub tokens : ℕ
  pub prefix : length p ≡ length below + length front
  pub derives : Derive terminal g front trees
  pub total : length (yield h) ≡ tokens + length (yield trees)
  pub names : List ℕ
  pub distinct : Distinct names
  pub inside : Each (λ m. m < g.nonterminals) names
  pub levels : ℕ
  pub size : length below ≤ longest g.rules * levels
  pub few : levels ≤ suc g.nonterminals * tokens + length names
  pub whose : Whose g r (front ++ y) names

not_nil : (f : Sym) (fs : List Sym) → (f ∷ fs) ≢ []
not_nil f fs e = cc

not_nil-append : (x y : List Sym) → x ≢ [] → (x ++ y) ≢ []
not_nil-append [] y some e = some refl
not_nil-append (z ∷ x) y some e = cc

pub null-append : (g : Cfg) (x y : List Sym) → Nullable g x → Nullable g y → Nullable g (x ++ y)
null-append g x y s t = steps_then g (steps_before g y s) t

no_middle : (front y : List Sym) (x z : Sym) → front ≢ [] → front ++ (x ∷ y) ≡ z ∷ [] → ⊥
no_middle [] y x z some e = some refl
no_middle (f ∷ front) y x z some e =
    let rest : front ++ (x ∷ y) ≡ [] = cc in
    let long : length (front ++ (x ∷ y)) ≡ 0 = ap length rest in
    let size = length-append front (x ∷ y) in
    omega (arith, long, size)

first_is : (y : List Sym) (n m : ℕ) → N n ∷ y ≡ N m ∷ [] → n ≡ m
first_is y n m e = cc

-- what a right side calls is reachable
pub reach_on : (g : Cfg) (r n : ℕ) (front y : List Sym) (ms : List ℕ) → Whose g r (front ++ (N n ∷ y)) ms → Reachable g n
reach_on g r n [] y ms (top e none_) = ([], [], subst (λ m. Steps g (N g.start ∷ []) (N m ∷ [])) (sym (first_is y n g.start e)) none)
reach_on g r n (f ∷ front) y ms (top e none_) = absurd (no_middle (f ∷ front) y (N n) (N g.start) (not_nil f front) e)
reach_on g r n front y ms (named a is (b, c, steps) each) =
    let one = step r a (front ++ (N n ∷ y)) b c is in
    let flat : b ++ ((front ++ (N n ∷ y)) ++ c) ≡ (b ++ front) ++ (N n ∷ (y ++ c)) =
    ap (λ z. b ++ z) (append_assoc front (N n ∷ y) c) ∙ sym (append_assoc b front (N n ∷ (y ++ c))) in
    (b ++ front, y ++ c, subst (λ z. Steps g (N g.start ∷ []) z) flat (more _ _ steps one))

-- what derives the left side with something around it derives what the right side calls
pub called_on : (g : Cfg) (r a n : ℕ) (front y x z : List Sym) (m : ℕ) → IsRule g r a (front ++ (N n ∷ y))
    → StepsOnce g (N m ∷ []) (x ++ (N a ∷ z)) → StepsOnce g (N m ∷ []) ((x ++ front) ++ (N n ∷ (y ++ z)))
called_on g r a n front y x z m is once =
    let one = step r a (front ++ (N n ∷ y)) x z is in
    let flat : x ++ ((front ++ (N n ∷ y)) ++ z) ≡ (x ++ front) ++ (N n ∷ (y ++ z)) =
    ap (λ l. x ++ l) (append_assoc front (N n ∷ y) z) ∙ sym (append_assoc x front (N n ∷ (y ++ z))) in
    subst (λ l. StepsOnce g (N m ∷ []) l) flat (once_then g _ _ _ once (more _ _ none one))

-- who hides the left side hides what its right side calls, behind what vanishes
pub hides_on : (g : Cfg) (r a n : ℕ) (front y : List Sym) (m : ℕ) → IsRule g r a (front ++ (N n ∷ y)) → Nullable g front
    → Hides g a m → Hides g n m
hides_on g r a n front y m is gone (x, z, some, null, once) = (
  x ++ front,
  y ++ z,
  not_nil-append x front some,
  null-append g x front null gone,
  called_on g r a n front y x z m is once,
)

pub grown : (n t l k level : ℕ) → level ≤ suc n * t + k → k ≤ n → 1 ≤ l → suc level ≤ suc n * (t + l) + 0
grown n t l k level few below some =
    let p : n * 1 ≤ n * l = mul-le-mul_left n some in
    let q : suc n * (t + l) ≡ suc n * t + suc n * l = mul-add (suc n) t l in
    let s : suc n * l ≡ n * l + l = suc-mul n l in
    omega (arith, p, q, s, few, below, some)

pub arith_bound : (l n t m k level below front p : ℕ) → p ≡ below + front → below ≤ l * level → front ≤ l
    → level ≤ suc n * t + k → k ≤ n → t ≤ m → p ≤ l * (suc n * suc m)
arith_bound l n t m k level below front p is b f few small le =
    let one : suc n * t ≤ suc n * m = mul-le-mul_left (suc n) le in
    let two : suc n * suc m ≡ suc n * m + suc n = mul-suc (suc n) m in
    let three : suc level ≤ suc n * suc m = omega (arith, one, two, few, small) in
    let four : l * suc level ≤ l * (suc n * suc m) = mul-le-mul_left l three in
    let five : l * suc level ≡ l * level + l = mul-suc l level in
    omega (arith, is, b, f, four, five)

module _ {K : Type 0} (terminal : K → ℕ) (g : Cfg) (ok : IsGrammar g) (free : (n : ℕ) → Reachable g n → HiddenLeft g n → ⊥) where
  -- the next rule is called, with nothing before the dot
  pub flat_call : (p : List Sym) (h : Forest K) (r d n s : ℕ) (y z : List Sym) → (t : Height terminal g p h r d (N n ∷ y))
      → IsRule g s n z → t.front ≡ [] → Height terminal g p h s 0 z
  flat_call p h r d n s y z t is empty_ =
      let prefix = t.prefix in
      let total = t.total in
      let size = t.size in
      let few = t.few in
      let none_read : length (yield t.trees) ≡ 0 = no_trees t.front t.trees empty_ t.derives in
      let none_long : length t.front ≡ 0 = ap length empty_ in
      let same : length p ≡ length t.below = omega (arith, prefix, none_long) in
      let tokens : length (yield h) ≡ t.tokens = omega (arith, total, none_read) in
      record {
        below = p;
        front = [];
        trees = empty;
        tokens = length (yield h);
        prefix = omega arith;
        derives = nothing;
        total = omega arith;
        names = t.names;
        distinct = t.distinct;
        inside = t.inside;
        levels = t.levels;
        size = rw same size;
        few = rw tokens few;
        whose = on (subst (λ f. Whose g r (f ++ (N n ∷ y)) t.names) empty_ t.whose);
      }
    where
      no_trees : (front : List Sym) (trees : Forest K) → front ≡ [] → Derive terminal g front trees → length (yield trees) ≡ 0
      no_trees front trees e nothing = refl
      no_trees front trees e (token _ _ _ _ _ _) = cc
      no_trees front trees e (rule _ _ _ _ _ _ _ _ _) = cc

      on : Whose g r (N n ∷ y) t.names → Whose g s z t.names
      on (top e gone) = named n is (reach_on g r n [] y t.names (top e gone)) (subst (Each (Hides g n)) (sym gone) Each.no_one)
      on (named a is2 reach each) = named n is (reach_on g r n [] y t.names (named a is2 reach each))
          (each_map _ _ t.names (λ m. hides_on g r a n [] y m is2 none) each)

  -- the next rule is called behind something
  pub deep_call : (p : List Sym) (h : Forest K) (r d n s : ℕ) (y z : List Sym) → (t : Height terminal g p h r d (N n ∷ y))
      → IsRule g s n z → t.front ≢ [] → Height terminal g p h s 0 z
  deep_call p h r d n s y z t is some = on t.whose (eq-or_more (length (yield t.trees)))
    where
      eq-or_more : (k : ℕ) → (k ≡ 0) ⊎ (1 ≤ k)
      eq-or_more k = grind arith

      on : Whose g r (t.front ++ (N n ∷ y)) t.names → (length (yield t.trees) ≡ 0) ⊎ (1 ≤ length (yield t.trees)) → Height terminal g p h s 0 z
      on (top e gone) which = absurd (no_middle t.front y (N n) (N g.start) some e)
      on (named a is2 reach each) (inl none_read) =
          let gone = vanishes terminal g t.front t.trees t.derives none_read in
          let prefix = t.prefix in
          let total = t.total in
          let size = t.size in
          let few = t.few in
          let long = rule_long g r a _ is2 in
          let cut = length-append t.front (N n ∷ y) in
          let up : longest g.rules * suc t.levels ≡ longest g.rules * t.levels + longest g.rules = mul-suc (longest g.rules) t.levels in
          let tokens : length (yield h) ≡ t.tokens = omega (arith, total, none_read) in
          record {
            below = p;
            front = [];
            trees = empty;
            tokens = length (yield h);
            prefix = omega arith;
            derives = nothing;
            total = omega arith;
            names = a ∷ t.names;
            distinct = Distinct.and a t.names
                (each_map _ _ t.names (λ m hid same. free a reach (subst (λ i. Hides g a i) (sym same) hid)) each) t.distinct;
            inside = Each.and a t.names (left_in g ok r a _ is2) t.inside;
            levels = suc t.levels;
            size = omega (arith, prefix, size, long, cut, up);
            few = rw tokens (omega (arith, few));
            whose = named n is (reach_on g r n t.front y t.names (named a is2 reach each))
                (Each.and a t.names (t.front, y, some, gone, (N a ∷ [], none, by_rule g r a _ is2))
                (each_map _ _ t.names (λ m. hides_on g r a n t.front y m is2 gone) each));
          }
      on (named a is2 reach each) (inr some_read) =
          let prefix = t.prefix in
          let total = t.total in
          let size = t.size in
          let long = rule_long g r a _ is2 in
          let cut = length-append t.front (N n ∷ y) in
          let up : longest g.rules * suc t.levels ≡ longest g.rules * t.levels + longest g.rules = mul-suc (longest g.rules) t.levels in
          let names = pigeon g.nonterminals t.names t.distinct t.inside in
          record {
            below = p;
            front = [];
            trees = empty;
            tokens = length (yield h);
            prefix = omega arith;
            derives = nothing;
            total = omega arith;
            names = [];
            distinct = Distinct.no_one;
            inside = Each.no_one;
            levels = suc t.levels;
            size = omega (arith, prefix, size, long, cut, up);
            few = rw total (grown g.nonterminals t.tokens (length (yield t.trees)) (length t.names) t.levels t.few names some_read);
            whose = named n is (reach_on g r n t.front y t.names (named a is2 reach each)) Each.no_one;
          }

  pub call : (p : List Sym) (h : Forest K) (r d n s : ℕ) (y z : List Sym) → (t : Height terminal g p h r d (N n ∷ y))
      → IsRule g s n z → Height terminal g p h s 0 z
  call p h r d n s y z t is = on t.front refl
    where
      on : (f : List Sym) → t.front ≡ f → Height terminal g p h s 0 z
      on [] e = flat_call p h r d n s y z t is e
      on (x ∷ f) e = deep_call p h r d n s y z t is (subst (λ l. l ≢ []) (sym e) (not_nil x f))

  -- one symbol more
  pub further : (p : List Sym) (h h2 tree : Forest K) (r d : ℕ) (x : Sym) (y : List Sym) → Height terminal g p h2 r d (x ∷ y)
      → Derive terminal g (x ∷ []) tree → length (yield h) ≡ length (yield tree) + length (yield h2)
      → Height terminal g (x ∷ p) h r (suc d) y
  further p h h2 tree r d x y t dx size =
      let prefix = t.prefix in
      let total = t.total in
      let cut = length-append t.front (x ∷ []) in
      let yields : length (yield (beside t.trees tree)) ≡ length (yield t.trees) + length (yield tree) =
      ap length (yield_beside t.trees tree) ∙ length-append (yield t.trees) (yield tree) in
      record {
        below = t.below;
        front = t.front ++ (x ∷ []);
        trees = beside t.trees tree;
        tokens = t.tokens;
        prefix = omega (arith, prefix, cut);
        derives = join terminal g t.front (x ∷ []) t.trees tree t.derives dx;
        total = omega (arith, total, yields, size);
        names = t.names;
        distinct = t.distinct;
        inside = t.inside;
        levels = t.levels;
        size = t.size;
        few = t.few;
        whose = subst (λ l. Whose g r l t.names) (sym (append_assoc t.front (x ∷ []) y)) t.whose;
      }

  pub height : (p : List Sym) (h : Forest K) (r d : ℕ) (y : List Sym) (a : ℕ) → Valid g p r d y a → Derive terminal g p h
      → Height terminal g p h r d y
  height p h r d y a start nothing =
      record {
        below = [];
        front = [];
        trees = empty;
        tokens = 0;
        prefix = refl;
        derives = nothing;
        total = refl;
        names = [];
        distinct = Distinct.no_one;
        inside = Each.no_one;
        levels = 0;
        size = omega arith;
        few = omega arith;
        whose = top refl refl;
      }
  height p h r d y a (closure _ r2 d2 n y2 a2 s b _ v is begins) dp =
      call p h r2 d2 n s y2 y (height p h r2 d2 (N n ∷ y2) a2 v dp) is
  height p h r d y a (move p2 r2 d2 _ _ _ v) (token t k _ f2 is dp) =
      further p2 (leaf k f2) f2 (leaf k empty) r d2 (T t) y (height p2 f2 r d2 (T t ∷ y) a v dp) (token t k [] empty is nothing) (omega arith)
  height p h r d y a (move p2 r2 d2 _ _ _ v) (rule s n w _ c f2 is dc dp) =
      let size : length (yield c ++ yield f2) ≡ length (yield c ++ []) + length (yield f2) =
      length-append (yield c) (yield f2) ∙ ap (λ l. length l + length (yield f2)) (sym (append-nil (yield c))) in
      further p2 (node s c f2) f2 (node s c empty) r d2 (N n) y (height p2 f2 r d2 (N n ∷ y) a v dp)
      (rule s n w [] c empty is dc nothing) size

  -- a prefix with a core has at most so many symbols
  pub height_bound : (p : List Sym) (h : Forest K) (r d : ℕ) (y : List Sym) (a : ℕ) → Valid g p r d y a → Derive terminal g p h
      → length p ≤ longest g.rules * (suc g.nonterminals * suc (length (yield h)))
  height_bound p h r d y a v dp =
      let t = height p h r d y a v dp in
      let prefix = t.prefix in
      let total = t.total in
      let size = t.size in
      let names = pigeon g.nonterminals t.names t.distinct t.inside in
      let front = front_long r t.front y t.names t.whose in
      arith_bound (longest g.rules) g.nonterminals t.tokens (length (yield h)) (length t.names) t.levels (length t.below)
      (length t.front) (length p) t.prefix size front t.few names (omega (arith, total))
    where
      front_long : (r : ℕ) (front y : List Sym) (ms : List ℕ) → Whose g r (front ++ y) ms → length front ≤ longest g.rules
      front_long r front y ms (top e gone) =
          let one = longest_one g.rules in
          let cut = length-append front y in
          let long : length (front ++ y) ≡ 1 = ap length e in
          omega (arith, one, cut, long)
      front_long r front y ms (named a is reach each) =
          let long = rule_long g r a _ is in
          let cut = length-append front y in
          omega (arith, long, cut)
