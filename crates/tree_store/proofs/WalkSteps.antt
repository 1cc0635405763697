-- What is still to be called in a walk, and one step of it.
use Rattle.std.proofs.Common.{◌≡◌, ℕ, ◌+◌, List, [], ◌∷◌, drop, Option, Some, None, Bool, true, false, refl}
use Rattle.tree_store.specs.Forest.{Node, children_at}
use Rattle.tree_store.specs.Folds.{Folds, at_end, not_entered, stops_within, not_left, goes_on}

-- the siblings after a node, by its parent and its number there
abbrev pub siblings : List Node → (ℕ → ℕ) → (ℕ → ℕ) → ℕ → List ℕ
siblings nodes par num n = drop (num n + 1) (children_at nodes (par n))

-- what is still to be called after a node under the root was left
pub data Later {S : Type 0} (enters leaves : ℕ → S → Bool → S → Type 0) (nodes : List Node) (par num : ℕ → ℕ) (root : ℕ) : ℕ → S → S → Option ℕ → Type 0 where
  top : (n : ℕ) (s : S) → n ≡ root → Later enters leaves nodes par num root n s s None
  stops_beside : (n : ℕ) (s t : S) (at : ℕ) → (n ≡ root → ⊥) → Folds enters leaves nodes (siblings nodes par num n) s t (Some at) → Later enters leaves nodes par num root n s t (Some at)
  not_left_above : (n : ℕ) (s t u : S) → (n ≡ root → ⊥) → Folds enters leaves nodes (siblings nodes par num n) s t None → leaves (par n) t false u
      → Later enters leaves nodes par num root n s u (Some (par n))
  left_above : (n : ℕ) (s t u v : S) (end : Option ℕ) → (n ≡ root → ⊥) → Folds enters leaves nodes (siblings nodes par num n) s t None → leaves (par n) t true u
      → Later enters leaves nodes par num root (par n) u v end → Later enters leaves nodes par num root n s v end

-- what is still to be called: at a node that is to be entered, or left
pub data Onward {S : Type 0} (enters leaves : ℕ → S → Bool → S → Type 0) (nodes : List Node) (par num : ℕ → ℕ) (root : ℕ) : Bool → ℕ → S → S → Option ℕ → Type 0 where
  stops_under : (n : ℕ) (s t : S) (at : ℕ) → Folds enters leaves nodes (n ∷ []) s t (Some at) → Onward enters leaves nodes par num root false n s t (Some at)
  on_after : (n : ℕ) (s t u : S) (end : Option ℕ) → Folds enters leaves nodes (n ∷ []) s t None → Later enters leaves nodes par num root n t u end
      → Onward enters leaves nodes par num root false n s u end
  stops_leaving : (n : ℕ) (s t : S) → leaves n s false t → Onward enters leaves nodes par num root true n s t (Some n)
  on_leaving : (n : ℕ) (s t u : S) (end : Option ℕ) → leaves n s true t → Later enters leaves nodes par num root n t u end
      → Onward enters leaves nodes par num root true n s u end

-- a fold that stops at the first of some nodes
pub stop_more : {S : Type 0} {E L : ℕ → S → Bool → S → Type 0} {nodes : List Node} {s t : S} (c : ℕ) (cs : List ℕ) (at : ℕ) → Folds E L nodes (c ∷ []) s t (Some at) → Folds E L nodes (c ∷ cs) s t (Some at)
stop_more c cs at (not_entered _ _ _ _ e) = not_entered c cs _ _ e
stop_more c cs at (stops_within _ _ _ _ _ _ e f) = stops_within c cs _ _ _ at e f
stop_more c cs at (not_left _ _ _ _ _ _ e f l) = not_left c cs _ _ _ _ e f l
stop_more c cs at (goes_on _ _ _ _ _ _ _ _ e f l rest) = elim rest [ ]

-- a fold over one node that goes on with more
pub one_more : {S : Type 0} {E L : ℕ → S → Bool → S → Type 0} {nodes : List Node} {s t u : S} (c : ℕ) (cs : List ℕ) (end : Option ℕ) → Folds E L nodes (c ∷ []) s t None → Folds E L nodes cs t u end → Folds E L nodes (c ∷ cs) s u end
one_more c cs end (goes_on _ _ _ _ _ _ _ _ e f l (at_end _)) more = goes_on c cs _ _ _ _ _ end e f l more

-- one node, where its children stand
pub around : {S : Type 0} {E L : ℕ → S → Bool → S → Type 0} {nodes : List Node} (n : ℕ) (s t u v : S) → E n s true t → Folds E L nodes (children_at nodes n) t u None → L n u true v → Folds E L nodes (n ∷ []) s v None
around n s t u v e f l = goes_on n [] s t u v v None e f l (at_end v)

-- a node without children is left next
pub turn_bare : {S : Type 0} (E L : ℕ → S → Bool → S → Type 0) (nodes : List Node) (par num : ℕ → ℕ) (root n : ℕ) (s t u : S) (end : Option ℕ)
    → E n s true t → children_at nodes n ≡ [] → Onward E L nodes par num root true n t u end → Onward E L nodes par num root false n s u end
turn_bare E L nodes par num root n s t u end e none (stops_leaving _ _ _ l) =
    stops_under n s _ n (not_left n [] s t t _ e (rw none (at_end t)) l)
turn_bare E L nodes par num root n s t u end e none (on_leaving _ _ v _ _ l later) =
    on_after n s v u end (around n s t t v e (rw none (at_end t)) l) later

-- the first child is entered next
pub turn_down : {S : Type 0} (E L : ℕ → S → Bool → S → Type 0) (nodes : List Node) (par num : ℕ → ℕ) (root n c : ℕ) (cs : List ℕ) (s t u : S) (end : Option ℕ)
    → E n s true t → children_at nodes n ≡ c ∷ cs → par c ≡ n → siblings nodes par num c ≡ cs → (c ≡ root → ⊥)
    → Onward E L nodes par num root false c t u end → Onward E L nodes par num root false n s u end
turn_down E L nodes par num root n c cs s t u end e are up beside inner (stops_under _ _ _ at f) =
    stops_under n s _ at (stops_within n [] s t _ at e (rw are (stop_more c cs at f)))
turn_down E L nodes par num root n c cs s t u end e are up beside inner (on_after _ _ v _ _ f later) =
    down_later E L nodes par num root n c cs s t v u end e are up beside inner f later
  where
    down_later : {S : Type 0} (E L : ℕ → S → Bool → S → Type 0) (nodes : List Node) (par num : ℕ → ℕ) (root n c : ℕ) (cs : List ℕ) (s t v u : S) (end : Option ℕ)
        → E n s true t → children_at nodes n ≡ c ∷ cs → par c ≡ n → siblings nodes par num c ≡ cs → (c ≡ root → ⊥)
        → Folds E L nodes (c ∷ []) t v None → Later E L nodes par num root c v u end → Onward E L nodes par num root false n s u end
    down_later E L nodes par num root n c cs s t v u end e are up beside inner f (top _ _ is) = absurd (inner is)
    down_later E L nodes par num root n c cs s t v u end e are up beside inner f (stops_beside _ _ _ at _ g) =
        stops_under n s u at (stops_within n [] s t u at e (rw are (one_more c cs (Some at) f (rw beside at g))))
    down_later E L nodes par num root n c cs s t v u end e are up beside inner f (not_left_above _ _ w _ _ g l) =
        rw up (stops_under n s u n (not_left n [] s t w u e (rw are (one_more c cs None f (rw beside at g))) (rw up at l)))
    down_later E L nodes par num root n c cs s t v u end e are up beside inner f (left_above _ _ w x _ _ _ g l later) =
        on_after n s x u end (around n s t w x e (rw are (one_more c cs None f (rw beside at g))) (rw up at l)) (rw up at later)

-- the next sibling is entered next
pub turn_next : {S : Type 0} (E L : ℕ → S → Bool → S → Type 0) (nodes : List Node) (par num : ℕ → ℕ) (root n m : ℕ) (ms : List ℕ) (s t u : S) (end : Option ℕ)
    → L n s true t → (n ≡ root → ⊥) → siblings nodes par num n ≡ m ∷ ms → par m ≡ par n → siblings nodes par num m ≡ ms → (m ≡ root → ⊥)
    → Onward E L nodes par num root false m t u end → Onward E L nodes par num root true n s u end
turn_next E L nodes par num root n m ms s t u end l differ are up beside inner (stops_under _ _ _ at f) =
    on_leaving n s t u _ l (stops_beside n t u at differ (rw are (stop_more m ms at f)))
turn_next E L nodes par num root n m ms s t u end l differ are up beside inner (on_after _ _ v _ _ f later) =
    next_later E L nodes par num root n m ms s t v u end l differ are up beside inner f later
  where
    next_later : {S : Type 0} (E L : ℕ → S → Bool → S → Type 0) (nodes : List Node) (par num : ℕ → ℕ) (root n m : ℕ) (ms : List ℕ) (s t v u : S) (end : Option ℕ)
        → L n s true t → (n ≡ root → ⊥) → siblings nodes par num n ≡ m ∷ ms → par m ≡ par n → siblings nodes par num m ≡ ms → (m ≡ root → ⊥)
        → Folds E L nodes (m ∷ []) t v None → Later E L nodes par num root m v u end → Onward E L nodes par num root true n s u end
    next_later E L nodes par num root n m ms s t v u end l differ are up beside inner f (top _ _ is) = absurd (inner is)
    next_later E L nodes par num root n m ms s t v u end l differ are up beside inner f (stops_beside _ _ _ at _ g) =
        on_leaving n s t u _ l (stops_beside n t u at differ (rw are (one_more m ms (Some at) f (rw beside at g))))
    next_later E L nodes par num root n m ms s t v u end l differ are up beside inner f (not_left_above _ _ w _ _ g h) =
        rw up (on_leaving n s t u _ l (not_left_above n t w u differ (rw are (one_more m ms None f (rw beside at g))) (rw up at h)))
    next_later E L nodes par num root n m ms s t v u end l differ are up beside inner f (left_above _ _ w x _ _ _ g h later) =
        on_leaving n s t u end l (left_above n t w x u end differ (rw are (one_more m ms None f (rw beside at g))) (rw up at h) (rw up at later))

-- the parent is left next
pub turn_up : {S : Type 0} (E L : ℕ → S → Bool → S → Type 0) (nodes : List Node) (par num : ℕ → ℕ) (root n : ℕ) (s t u : S) (end : Option ℕ)
    → L n s true t → (n ≡ root → ⊥) → siblings nodes par num n ≡ []
    → Onward E L nodes par num root true (par n) t u end → Onward E L nodes par num root true n s u end
turn_up E L nodes par num root n s t u end l differ none (stops_leaving _ _ _ h) =
    on_leaving n s t u _ l (not_left_above n t t u differ (rw none (at_end t)) h)
turn_up E L nodes par num root n s t u end l differ none (on_leaving _ _ v _ _ h later) =
    on_leaving n s t u end l (left_above n t t v u end differ (rw none (at_end t)) h later)

-- before the first call
pub from_start : {S : Type 0} (E L : ℕ → S → Bool → S → Type 0) (nodes : List Node) (par num : ℕ → ℕ) (root : ℕ) (s t : S) (end : Option ℕ)
    → Onward E L nodes par num root false root s t end → Folds E L nodes (root ∷ []) s t end
from_start E L nodes par num root s t end (stops_under _ _ _ at f) = f
from_start E L nodes par num root s t end (on_after _ _ u _ _ f (top _ _ e)) = f
from_start E L nodes par num root s t end (on_after _ _ u _ _ f (stops_beside _ _ _ _ differ _)) = absurd (differ refl)
from_start E L nodes par num root s t end (on_after _ _ u _ _ f (not_left_above _ _ _ _ differ _ _)) = absurd (differ refl)
from_start E L nodes par num root s t end (on_after _ _ u _ _ f (left_above _ _ _ _ _ _ differ _ _ _)) = absurd (differ refl)
