-- Steps in postorder, replayed, leave the value of their derivation.
use Rattle.std.proofs.Common.{◌≡◌, ℕ, ◌+◌, ◌-◌, ◌<◌, ◌≤◌, List, [], ◌∷◌, ◌++◌, length, map, take, drop, get_or, Some, Bool, false, refl, sym, ap, ap₂, ◌∙◌, subst, arith, zero, suc, length-append, append_assoc}
use Rattle.std.specs.Prelude.{slice_get, slice_index}
use Rattle.std.proofs.lemmas.List.{append-nil, length-map}
use Rattle.std.proofs.lemmas.Option.{slice_get-get_or}
use Rattle.value_store.specs.Cells.{Cell, Store, cells_of, tree_at, IsMade}
use Rattle.value_store.specs.declared.value.Value.{Value}
use Rattle.value_store.specs.declared.value.Value.TheVariants as value
use Rattle.value_store.specs.declared.value.ValType.{ValType}
use Rattle.value_store.specs.declared.value.ValType.TheVariants as ty
use Rattle.expr_lang.specs.Evaluated.{Keeps, Evaluated}
use Rattle.expr_lang.specs.Expression.{Expression}
use Rattle.expr_lang.specs.OfType.{IsOf, is_token, is_source, is_made, AreOf, no_values, and_value}
use Rattle.expr_lang.specs.PureOf.{pure_of, pure_tree}
use Rattle.expr_lang.specs.PureValues.{PureValue, token, nth}
use Rattle.expr_lang.specs.ValueOf.{Tokens, value_of}
use Rattle.expr_lang.proofs.Evaluates.{are-kept, values-kept}
use Rattle.cfg_model.specs.declared.symbol.Sym.{Sym}
use Rattle.cfg_model.specs.Cfg.{Cfg, Rule, IsRule}
use Rattle.cfg_model.specs.Derivation as cfg
use Rattle.cfg_model.specs.Derivation.{Forest, empty, leaf, node, yield, Move, shift, reduce, postorder, Derive, Derivation}
use Rattle.cfg_model.specs.declared.symbol.Sym.TheVariants.{N}
use Rattle.parse_driver.specs.Parse.{move_of}
use Rattle.parse_driver.specs.Stream.{terminal_of}
use Rattle.parse_driver.specs.declared.step.Step.{Step}
use Rattle.parse_driver.specs.declared.tokens.TokenRef.{TokenRef}
use Rattle.node_model.specs.Nodes.{Nodes, symbol_type}
use Rattle.tree_build.specs.Built.{built, build_of, built_value}
use Rattle.tree_build.specs.within.Replaying.{beside, left_in, left_of, types_of, Leads, all_done, then_shift, then_reduce, Replaying}

beside_none : {K : Type 0} (f : Forest K) → beside f empty ≡ f
beside_none empty = refl
beside_none (leaf t f) = ap (λ h. leaf t h) (beside_none f)
beside_none (node r c f) = ap (λ h. node r c h) (beside_none f)

beside_assoc : {K : Type 0} (f g h : Forest K) → beside (beside f g) h ≡ beside f (beside g h)
beside_assoc empty g h = refl
beside_assoc (leaf t f) g h = ap (λ x. leaf t x) (beside_assoc f g h)
beside_assoc (node r c f) g h = ap (λ x. node r c x) (beside_assoc f g h)

yield_beside : {K : Type 0} (f h : Forest K) → yield (beside f h) ≡ yield f ++ yield h
yield_beside empty h = refl
yield_beside (leaf t f) h = ap (λ l. t ∷ l) (yield_beside f h)
yield_beside (node r c f) h = ap (λ l. yield c ++ l) (yield_beside f h) ∙ sym (append_assoc (yield c) (yield f) (yield h))

types_beside : {K : Type 0} (g : Cfg) (nodes : Nodes) (f h : Forest K) → types_of g nodes (beside f h) ≡ types_of g nodes f ++ types_of g nodes h
types_beside g nodes empty h = refl
types_beside g nodes (leaf t f) h = ap (λ l. ty.Token ∷ l) (types_beside g nodes f h)
types_beside g nodes (node r c f) h = ap (λ l. ty.Node (slice_index nodes.families (left_of g r)) ∷ l) (types_beside g nodes f h)

built_beside : {K : Type 0} (nodes : Nodes) (tokens : Tokens) (k j : ℕ) (f h : Forest K) → j ≡ k + length (yield f)
    → built nodes tokens k (beside f h) ≡ built nodes tokens k f ++ built nodes tokens j h
built_beside nodes tokens k j empty h e = (let same : k ≡ j = omega (arith, e) in ap (λ i. built nodes tokens i h) same)
built_beside nodes tokens k j (leaf t f) h e = ap (λ l. token k ∷ l) (built_beside nodes tokens (k + 1) j f h (omega (arith, e)))
built_beside nodes tokens k j (node r c f) h e =
    ap (λ l. value_of tokens (built nodes tokens k c) (build_of nodes r) ∷ l) (built_beside nodes tokens (k + length (yield c)) j f h (omega (arith, e, length-append (yield c) (yield f))))

as_many : {K : Type 0} (g : Cfg) (nodes : Nodes) (tokens : Tokens) (k : ℕ) (f : Forest K) → length (types_of g nodes f) ≡ length (built nodes tokens k f)
as_many g nodes tokens k empty = refl
as_many g nodes tokens k (leaf t f) = (let e = as_many g nodes tokens (k + 1) f in omega (arith, e))
as_many g nodes tokens k (node r c f) = (let e = as_many g nodes tokens (k + length (yield c)) f in omega (arith, e))

-- the trees of a right side have the types of its symbols
types_derived : {K : Type 0} (terminal : K → ℕ) (g : Cfg) (nodes : Nodes) (ss : List Sym) (f : Forest K) → Derive terminal g ss f → types_of g nodes f ≡ map (symbol_type nodes.families) ss
types_derived terminal g nodes _ _ cfg.nothing = refl
types_derived terminal g nodes _ _ (cfg.token t k u f is d) = ap (λ l. ty.Token ∷ l) (types_derived terminal g nodes u f d)
types_derived terminal g nodes _ _ (cfg.rule r n w u c f is dc d) =
    let first = is.from_one in
    let place : r - 1 ≡ is.place = omega (arith, first) in
    let left : left_of g r ≡ n = ap (λ i. left_in (slice_get g.rules i)) place ∙ ap left_in is.read in
    ap₂ (λ x l. ty.Node (slice_index nodes.families x) ∷ l) left (types_derived terminal g nodes u f d)

-- the moves of derivations lead to them
leads_of : {K : Type 0} (terminal : K → ℕ) (g : Cfg) (whole : Forest K) (ss : List Sym) (f : Forest K) (moves : List (Move K)) (done : Forest K) → Derive terminal g ss f
    → Leads terminal g whole moves (beside done f) → Leads terminal g whole (postorder f ++ moves) done
leads_of terminal g whole _ _ moves done cfg.nothing leads = subst (λ h. Leads terminal g whole moves h) (beside_none done) leads
leads_of terminal g whole _ _ moves done (cfg.token t k u f is d) leads =
    then_shift k (postorder f ++ moves) done
    (leads_of terminal g whole u f moves (beside done (leaf k empty)) d (subst (λ h. Leads terminal g whole moves h) (sym (beside_assoc done (leaf k empty) f)) leads))
leads_of terminal g whole _ _ moves done (cfg.rule r n w u c f is dc d) leads =
    let flat : (postorder c ++ (reduce r ∷ postorder f)) ++ moves ≡ postorder c ++ (reduce r ∷ (postorder f ++ moves)) = append_assoc (postorder c) (reduce r ∷ postorder f) moves in
    let rest = leads_of terminal g whole u f moves (beside done (node r c empty)) d (subst (λ h. Leads terminal g whole moves h) (sym (beside_assoc done (node r c empty) f)) leads) in
    subst (λ l. Leads terminal g whole l done) (sym flat)
    (leads_of terminal g whole w c (reduce r ∷ (postorder f ++ moves)) done dc (then_reduce r n w (postorder f ++ moves) (beside done c) done c is dc refl rest))

pub started : (s l : List ℕ) (g : Cfg) (nodes : Nodes) (tokens : Tokens) (cells : List Cell) (read : List TokenRef) (whole : Forest TokenRef) (moves : List (Move TokenRef)) (values : List Value)
    → Derivation terminal_of g read whole → moves ≡ postorder whole → values ≡ [] → Replaying s l g nodes tokens cells whole moves values 0
started s l g nodes tokens cells read whole moves values derivation e none =
    let leads = leads_of terminal_of g whole _ whole [] empty derivation.from_start all_done in
    record {
      done = empty;
      leads = subst (λ ms. Leads terminal_of g whole ms empty) (append-nil (postorder whole) ∙ sym e) leads;
      are = subst (λ vs. AreOf (λ node family. false) cells vs []) (sym none) no_values;
      show = ap (map (pure_of s l cells)) none;
      count = refl;
    }

-- values, one more and cut in two
are_more : {k : ℕ → ℕ → Bool} {cells : List Cell} (vs : List Value) (ts : List ValType) (v : Value) (t : ValType) → AreOf k cells vs ts → IsOf k cells v t → AreOf k cells (vs ++ v ∷ []) (ts ++ t ∷ [])
are_more _ _ v t no_values is = and_value v [] t [] is no_values
are_more _ _ v t (and_value w vs u ts first are) is = and_value w (vs ++ v ∷ []) u (ts ++ t ∷ []) first (are_more vs ts v t are is)

map_more : {A B : Type 0} (f : A → B) (xs : List A) (x : A) → map f (xs ++ x ∷ []) ≡ map f xs ++ f x ∷ []
map_more f [] x = refl
map_more f (y ∷ xs) x = ap (λ l. f y ∷ l) (map_more f xs x)

none_taken : {A : Type 0} (xs : List A) → take 0 xs ≡ []
none_taken [] = refl
none_taken (x ∷ xs) = refl

none_dropped : {A : Type 0} (xs : List A) → drop 0 xs ≡ xs
none_dropped [] = refl
none_dropped (x ∷ xs) = refl

are_front : {k : ℕ → ℕ → Bool} {cells : List Cell} (vs : List Value) (ts us all : List ValType) (front : ℕ) → all ≡ ts ++ us → front ≡ length ts → AreOf k cells vs all
    → AreOf k cells (take front vs) ts × AreOf k cells (drop front vs) us
are_front {k} {cells} vs [] us all zero e at are =
    (subst (λ xs. AreOf k cells xs []) (sym (none_taken vs)) no_values, subst (λ xs. AreOf k cells xs us) (sym (none_dropped vs)) (subst (λ xs. AreOf k cells vs xs) e are))
are_front vs [] us all (suc front) e at are = absurd (omega (arith, at))
are_front vs (t ∷ ts) us all zero e at are = absurd (omega (arith, at))
are_front _ (t ∷ ts) us _ (suc front) e at no_values = (cc)
are_front {k} {cells} _ (t ∷ ts) us _ (suc front) e at (and_value v vs u all is are) =
    let same : u ≡ t = cc in
    let rest : all ≡ ts ++ us = cc in
    let more = are_front vs ts us all front rest (omega (arith, at)) are in
    (and_value v (take front vs) t ts (subst (IsOf k cells v) same is) more.0, more.1)

show_front : {A B : Type 0} (f : A → B) (vs : List A) (cs bs : List B) (front : ℕ) → front ≡ length cs → map f vs ≡ cs ++ bs → (map f (take front vs) ≡ cs) × (map f (drop front vs) ≡ bs)
show_front f vs [] bs zero at e = (ap (map f) (none_taken vs), ap (map f) (none_dropped vs) ∙ e)
show_front f vs [] bs (suc front) at e = absurd (omega (arith, at))
show_front f vs (a ∷ cs) bs zero at e = absurd (omega (arith, at))
show_front f [] (a ∷ cs) bs (suc front) at e = (cc)
show_front f (v ∷ vs) (a ∷ cs) bs (suc front) at e =
    let same : f v ≡ a = ap (λ l. get_or l 0 a) e in
    let rest : map f vs ≡ cs ++ bs = ap (λ l. drop 1 l) e in
    let more = show_front f vs cs bs front (omega (arith, at)) rest in
    (ap₂ (λ x l. x ∷ l) same more.0, more.1)

-- a token is shifted
record Shifting (g : Cfg) (whole : Forest TokenRef) (t : TokenRef) (moves : List (Move TokenRef)) (done : Forest TokenRef) : Type 0 where
  pub rest : Leads terminal_of g whole moves (beside done (leaf t empty))

shifting : (g : Cfg) (whole : Forest TokenRef) (t : TokenRef) (moves : List (Move TokenRef)) (done : Forest TokenRef) → Leads terminal_of g whole (shift t ∷ moves) done → Shifting g whole t moves done
shifting g whole _ _ _ (then_shift t moves done rest) = record { rest = rest }

pub shifted_more : (s l : List ℕ) (g : Cfg) (nodes : Nodes) (tokens : Tokens) (cells : List Cell) (whole : Forest TokenRef) (t : TokenRef) (moves : List (Move TokenRef)) (vs now : List Value) (shifted : ℕ)
    → now ≡ vs ++ value.Token shifted ∷ [] → Replaying s l g nodes tokens cells whole (shift t ∷ moves) vs shifted → Replaying s l g nodes tokens cells whole moves now (shifted + 1)
shifted_more s l g nodes tokens cells whole t moves vs now shifted e r =
    let leads = shifting g whole t moves r.done r.leads in
    let at = r.count in
    record {
      done = beside r.done (leaf t empty);
      leads = leads.rest;
      are = subst (λ ts. AreOf (λ node family. false) cells now ts) (sym (types_beside g nodes r.done (leaf t empty)))
          (subst (λ xs. AreOf (λ node family. false) cells xs (types_of g nodes r.done ++ ty.Token ∷ [])) (sym e) (are_more vs (types_of g nodes r.done) (value.Token shifted) ty.Token r.are (is_token shifted)));
      show = ap (map (pure_of s l cells)) e ∙ (map_more (pure_of s l cells) vs (value.Token shifted)
          ∙ (ap (λ xs. xs ++ token shifted ∷ []) r.show ∙ sym (built_beside nodes tokens 0 shifted r.done (leaf t empty) (omega (arith, at)))));
      count = (let y = ap (λ xs. length xs) (yield_beside r.done (leaf t empty)) in omega (arith, at, y, length-append (yield r.done) (t ∷ [])));
    }

-- a rule's right side is done
pub record Ripe (s l : List ℕ) (g : Cfg) (nodes : Nodes) (tokens : Tokens) (cells : List Cell) (whole : Forest TokenRef) (r : ℕ) (moves : List (Move TokenRef)) (vs : List Value) (shifted front : ℕ) : Type 0 where
  pub left : ℕ
  pub right : List Sym
  pub before : Forest TokenRef
  pub children : Forest TokenRef
  pub rule : IsRule g r left right
  pub rest : Leads terminal_of g whole moves (beside before (node r children empty))
  pub enough : length right ≤ length vs
  pub front_is : front ≡ length vs - length right
  pub front_are : AreOf (λ node family. false) cells (take front vs) (types_of g nodes before)
  pub env_are : AreOf (λ node family. false) cells (drop front vs) (map (symbol_type nodes.families) right)
  pub front_show : map (pure_of s l cells) (take front vs) ≡ built nodes tokens 0 before
  pub env_show : map (pure_of s l cells) (drop front vs) ≡ built nodes tokens (length (yield before)) children
  pub count : shifted ≡ length (yield before) + length (yield children)

record Reducing (g : Cfg) (whole : Forest TokenRef) (r : ℕ) (moves : List (Move TokenRef)) (done : Forest TokenRef) : Type 0 where
  pub left : ℕ
  pub right : List Sym
  pub before : Forest TokenRef
  pub children : Forest TokenRef
  pub rule : IsRule g r left right
  pub derive : Derive terminal_of g right children
  pub is : done ≡ beside before children
  pub rest : Leads terminal_of g whole moves (beside before (node r children empty))

reducing : (g : Cfg) (whole : Forest TokenRef) (r : ℕ) (moves : List (Move TokenRef)) (done : Forest TokenRef) → Leads terminal_of g whole (reduce r ∷ moves) done → Reducing g whole r moves done
reducing g whole _ _ _ (then_reduce r n w moves done before children is d e rest) = record { left = n; right = w; before = before; children = children; rule = is; derive = d; is = e; rest = rest }

as_many_values : {k : ℕ → ℕ → Bool} {cells : List Cell} (vs : List Value) (ts : List ValType) → AreOf k cells vs ts → length vs ≡ length ts
as_many_values _ _ no_values = refl
as_many_values _ _ (and_value v vs t ts is are) = (let e = as_many_values vs ts are in omega (arith, e))

pub ripe : (s l : List ℕ) (g : Cfg) (nodes : Nodes) (tokens : Tokens) (cells : List Cell) (whole : Forest TokenRef) (r : ℕ) (moves : List (Move TokenRef)) (vs : List Value) (shifted front size : ℕ)
    → ((rule : Rule) → slice_get g.rules (r - 1) ≡ Some rule → size ≡ length rule.right) → front ≡ length vs - size
    → Replaying s l g nodes tokens cells whole (reduce r ∷ moves) vs shifted → Ripe s l g nodes tokens cells whole r moves vs shifted front
ripe s l g nodes tokens cells whole r moves vs shifted front size sized at p =
    let q = reducing g whole r moves p.done p.leads in
    let first = q.rule.from_one in
    let place : r - 1 ≡ q.rule.place = omega (arith, first) in
    let long = sized _ (ap (λ i. slice_get g.rules i) place ∙ q.rule.read) in
    let kinds : types_of g nodes q.children ≡ map (symbol_type nodes.families) q.right = types_derived terminal_of g nodes q.right q.children q.derive in
    let types : types_of g nodes p.done ≡ types_of g nodes q.before ++ types_of g nodes q.children = ap (types_of g nodes) q.is ∙ types_beside g nodes q.before q.children in
    let all = as_many_values vs (types_of g nodes p.done) p.are in
    let sum = ap (λ ts. length ts) types in
    let widths = ap (λ ts. length ts) kinds in
    let here : front ≡ length (types_of g nodes q.before) = omega (arith, at, long, all, sum, widths, length-append (types_of g nodes q.before) (types_of g nodes q.children), length-map q.right (symbol_type nodes.families)) in
    let parts = are_front vs (types_of g nodes q.before) (types_of g nodes q.children) (types_of g nodes p.done) front types here p.are in
    let shown : map (pure_of s l cells) vs ≡ built nodes tokens 0 q.before ++ built nodes tokens (length (yield q.before)) q.children =
    p.show ∙ (ap (built nodes tokens 0) q.is ∙ built_beside nodes tokens 0 (length (yield q.before)) q.before q.children (omega arith)) in
    let halves = show_front (pure_of s l cells) vs (built nodes tokens 0 q.before) (built nodes tokens (length (yield q.before)) q.children) front (here ∙ as_many g nodes tokens 0 q.before) shown in
    let leaves = p.count in
    record {
      left = q.left;
      right = q.right;
      before = q.before;
      children = q.children;
      rule = q.rule;
      rest = q.rest;
      enough = omega (arith, all, sum, widths, length-append (types_of g nodes q.before) (types_of g nodes q.children), length-map q.right (symbol_type nodes.families));
      front_is = omega (arith, at, long);
      front_are = parts.0;
      env_are = subst (λ ts. AreOf (λ node family. false) cells (drop front vs) ts) kinds parts.1;
      front_show = halves.0;
      env_show = halves.1;
      count = (let y = ap (λ f. length (yield f)) q.is in let z = ap (λ ts. length ts) (yield_beside q.before q.children) in omega (arith, leaves, y, z, length-append (yield q.before) (yield q.children)));
    }

pub reduced : (s l : List ℕ) (g : Cfg) (nodes : Nodes) (tokens : Tokens) (old new : List Cell) (whole : Forest TokenRef) (r : ℕ) (moves : List (Move TokenRef)) (vs now : List Value) (shifted front : ℕ) (e : Expression) (v : Value)
    → (ripe : Ripe s l g nodes tokens old whole r moves vs shifted front) → build_of nodes r ≡ e → Keeps old new → IsOf (λ node family. false) new v (ty.Node (slice_index nodes.families ripe.left))
    → pure_of s l new v ≡ value_of tokens (map (pure_of s l old) (drop front vs)) e → now ≡ take front vs ++ v ∷ []
    → Replaying s l g nodes tokens new whole moves now shifted
reduced s l g nodes tokens old new whole r moves vs now shifted front e v p builds keeps is value_is nows =
    let first = p.rule.from_one in
    let place : r - 1 ≡ p.rule.place = omega (arith, first) in
    let left : left_of g r ≡ p.left = ap (λ i. left_in (slice_get g.rules i)) place ∙ ap left_in p.rule.read in
    let kind : ty.Node (slice_index nodes.families p.left) ≡ ty.Node (slice_index nodes.families (left_of g r)) = ap (λ n. ty.Node (slice_index nodes.families n)) (sym left) in
    let leaves = p.count in
    record {
      done = beside p.before (node r p.children empty);
      leads = p.rest;
      are = subst (λ ts. AreOf (λ node family. false) new now ts) (sym (types_beside g nodes p.before (node r p.children empty)))
          (subst (λ xs. AreOf (λ node family. false) new xs (types_of g nodes p.before ++ ty.Node (slice_index nodes.families (left_of g r)) ∷ [])) (sym nows)
          (are_more (take front vs) (types_of g nodes p.before) v (ty.Node (slice_index nodes.families (left_of g r))) (are-kept (take front vs) (types_of g nodes p.before) keeps p.front_are) (subst (IsOf (λ node family. false) new v) kind is)));
      show = ap (map (pure_of s l new)) nows ∙ (map_more (pure_of s l new) (take front vs) v
          ∙ (ap₂ (λ xs x. xs ++ x ∷ []) (values-kept s l (take front vs) (types_of g nodes p.before) keeps p.front_are ∙ p.front_show)
          (value_is ∙ ap₂ (λ env f. value_of tokens env f) p.env_show (sym builds))
          ∙ sym (built_beside nodes tokens 0 (length (yield p.before)) p.before (node r p.children empty) (omega arith))));
      count = (let y = ap (λ xs. length xs) (yield_beside p.before (node r p.children empty)) in
          let z = ap (λ xs. length xs) (append-nil (yield p.children)) in
          omega (arith, leaves, y, z, length-append (yield p.before) (yield p.children ++ [])));
    }

-- an evaluation, with the tokens and the variables named otherwise
pub same_outcome : {w x : Tokens} {s l : List ℕ} {old new : List Cell} {env vs : List Value} {e : Expression} {v : Value} → w ≡ x → env ≡ vs → Evaluated w s l old new env e v → Evaluated x s l old new vs e v
same_outcome {w} {x} {s} {l} {old} {new} {env} {vs} {e} {v} tokens same done = subst (λ y. Evaluated y s l old new vs e v) tokens (subst (λ ys. Evaluated w s l old new ys e v) same done)

-- the moves that are left begin with the next step
pub moves_at : {A B : Type 0} (f : A → B) (xs : List A) (i : ℕ) (x : A) → slice_get xs i ≡ Some x → map f (drop i xs) ≡ f x ∷ map f (drop (i + 1) xs)
moves_at f xs i x is = (let next : suc i ≡ i + 1 = omega arith in at xs i is ∙ ap (λ k. f x ∷ map f (drop k xs)) next)
  where
    at : (xs : List _) (i : ℕ) → slice_get xs i ≡ Some x → map f (drop i xs) ≡ f x ∷ map f (drop (suc i) xs)
    at [] i is = (cc)
    at (y ∷ xs) zero is = (let same : y ≡ x = cc in ap₂ (λ z zs. f z ∷ map f zs) same (sym (none_dropped xs)))
    at (y ∷ xs) (suc i) is = at xs i is

pub next_move : (steps : List Step) (i : ℕ) (d x : Step) → i < length steps → get_or steps i d ≡ x → map move_of (drop i steps) ≡ move_of x ∷ map move_of (drop (i + 1) steps)
next_move steps i d x within is = moves_at move_of steps i x (slice_get-get_or steps i d within ∙ ap Some is)

-- the same, with other names for the cells, the values and the count
pub renamed : {s l : List ℕ} {g : Cfg} {nodes : Nodes} {tokens : Tokens} {whole : Forest TokenRef} {moves : List (Move TokenRef)} (cells new : Store) (vs now : List Value) (k m : ℕ) → new ≡ cells → now ≡ vs → m ≡ k
    → Replaying s l g nodes tokens (cells_of cells.units) whole moves vs k → Replaying s l g nodes tokens (cells_of new.units) whole moves now m
renamed {s} {l} {g} {nodes} {tokens} {whole} {moves} cells new vs now k m e f h r =
    subst (λ x. Replaying s l g nodes tokens (cells_of x.units) whole moves now m) (sym e)
    (subst (λ x. Replaying s l g nodes tokens (cells_of cells.units) whole moves x m) (sym f)
    (subst (λ x. Replaying s l g nodes tokens (cells_of cells.units) whole moves vs x) (sym h) r))

-- at the end one made node is left, with the value of the derivation
pub record Left (s l : List ℕ) (cells : List Cell) (vs : List Value) (v : PureValue) : Type 0 where
  pub cell : ℕ
  pub alone : vs ≡ value.Made cell ∷ []
  pub stands : IsMade cells cell
  pub is : pure_tree s l (tree_at cells cell) ≡ v

record One (cells : List Cell) (vs : List Value) : Type 0 where
  pub cell : ℕ
  pub alone : vs ≡ value.Made cell ∷ []
  pub stands : IsMade cells cell

one_node : (cells : List Cell) (vs : List Value) (f : ℕ) → AreOf (λ node family. false) cells vs (ty.Node f ∷ []) → One cells vs
one_node cells _ f (and_value _ _ _ _ (is_made c _ isnt stands) no_values) = record { cell = c; alone = refl; stands = stands }
one_node cells _ f (and_value _ _ _ _ (is_source n _ is) no_values) = (cc)

one_tree : (g : Cfg) (nodes : Nodes) (cells : List Cell) (vs : List Value) (start : ℕ) (f : Forest TokenRef) → Derive terminal_of g (N start ∷ []) f → AreOf (λ node family. false) cells vs (types_of g nodes f) → One cells vs
one_tree g nodes cells vs _ _ (cfg.rule r n w _ c _ is dc cfg.nothing) are = one_node cells vs _ are

all_led : {K : Type 0} (terminal : K → ℕ) (g : Cfg) (whole done : Forest K) → Leads terminal g whole [] done → done ≡ whole
all_led terminal g whole _ all_done = refl

pub left_over : (s l : List ℕ) (g : Cfg) (nodes : Nodes) (tokens : Tokens) (cells : List Cell) (read : List TokenRef) (whole : Forest TokenRef) (moves : List (Move TokenRef)) (vs : List Value) (k : ℕ)
    → Derivation terminal_of g read whole → moves ≡ [] → Replaying s l g nodes tokens cells whole moves vs k → Left s l cells vs (built_value nodes tokens whole)
left_over s l g nodes tokens cells read whole moves vs k derivation none r =
    let end = all_led terminal_of g whole r.done (subst (λ ms. Leads terminal_of g whole ms r.done) none r.leads) in
    let one = one_tree g nodes cells vs g.start whole derivation.from_start (subst (λ f. AreOf (λ node family. false) cells vs (types_of g nodes f)) end r.are) in
    record {
      cell = one.cell;
      alone = one.alone;
      stands = one.stands;
      is = ap (λ xs. nth (map (pure_of s l cells) xs) 0) (sym one.alone) ∙ (ap (λ xs. nth xs 0) r.show ∙ ap (λ f. nth (built nodes tokens 0 f) 0) end);
    }
