-- The walk with tasks lists the instances of the chosen cover.
use Rattle.std.proofs.Common.{◌≡◌, ℕ, ◌+◌, ◌≤◌, List, [], ◌∷◌, ◌++◌, length, reverse, take, drop, length-append, append_assoc, append-nil, arith, refl, sym, subst, ap, ◌∙◌}
use Rattle.std.proofs.lemmas.List.{reverse-append}
use Rattle.std.proofs.Math.Seq.{take-append_seam, drop-append_seam}
use Rattle.beg_model.specs.Cover.{Application, Chains, Chosen, Instance, Stands, IsOrderly}
use Rattle.beg_model.specs.Cover as cover
use Rattle.beg_model.specs.declared.matched.Subgoal.{Subgoal}
use Rattle.beg_model.proofs.AcceptedRules.{one_choice}
use Rattle.beg_registers.specs.declared.choosing.Task.{Task}
use Rattle.beg_registers.specs.declared.choosing.Task.TheVariants as task
use Rattle.beg_registers.specs.within.Tasks.{covers_of, Completes, finished, covered, listed, Opens, IsListed}

count_tops : {Applies : Application} {first c : ℕ} {ps : List Subgoal} {list : List Instance} {tops : List ℕ}
    → Stands Applies first ps list tops c → length tops ≡ length ps
count_tops (cover.no_subgoal first) = refl
count_tops (cover.one_more first r n x k c d e operands rest below after tops others chosen a under more) =
    let e2 = count_tops more in omega (arith, e2)

pub completes : (Applies : Application) {first c : ℕ} {ps : List Subgoal} {list : List Instance} {tops : List ℕ}
    (ts : List Task) (ready final : List ℕ) (rest : List Instance)
    → Stands Applies first ps list tops c → Completes Applies ts (ready ++ tops) (first + length list) rest final
    → Completes Applies (covers_of ps ++ ts) ready first (list ++ rest) final
completes Applies ts ready final rest (cover.no_subgoal first) h =
    let e : first + 0 ≡ first = omega arith in
    subst (λ z. Completes Applies ts ready z rest final) e (subst (λ z. Completes Applies ts z (first + 0) rest final) (append-nil ready) h)
completes Applies ts ready final rest (cover.one_more first r n x k c d e operands places below after tops others chosen a under more) h =
    let m = first + length below in
    let i : Instance = record { rule = r; node = n; operands = tops } in
    let p : Subgoal = record { node = n; nonterminal = x } in
    let size = length-append below (i ∷ after) in
    let same : first + length (below ++ (i ∷ after)) ≡ m + 1 + length after = omega (arith, size) in
    let h2 = subst (λ z. Completes Applies ts z (m + 1 + length after) rest final) (sym (append_assoc ready (m ∷ []) others))
    (subst (λ z. Completes Applies ts (ready ++ (m ∷ others)) z rest final) same h) in
    let tail = completes Applies ts (ready ++ m ∷ []) final rest more h2 in
    let own = listed r n (length operands) m (covers_of places ++ ts) (ready ++ tops) ready tops final (after ++ rest) (count_tops under) refl tail in
    let all = completes Applies (task.List r n (length operands) ∷ (covers_of places ++ ts)) ready final (i ∷ (after ++ rest)) under own in
    let whole = covered p c r k first operands (covers_of places ++ ts) ready final (below ++ (i ∷ (after ++ rest))) chosen a all in
    subst (λ z. Completes Applies (task.Cover p ∷ (covers_of places ++ ts)) ready first z final)
    (sym (append_assoc below (i ∷ after) rest)) whole

-- the list of any cover of the places is what is listed already and what the tasks list
pub Walks : Application → List Subgoal → List Task → List ℕ → List Instance → Type 0
Walks Applies ps tasks ready out = (list : List Instance) (tops : List ℕ) (cost : ℕ) → Stands Applies 0 ps list tops cost
    → (rest : List Instance) × Completes Applies (reverse tasks) ready (length out) rest tops × (out ++ rest ≡ list)

pub begins : (Applies : Application) (p : Subgoal) (tasks : List Task) (ready : List ℕ) (out : List Instance)
    → tasks ≡ task.Cover p ∷ [] → ready ≡ [] → out ≡ [] → Walks Applies (p ∷ []) tasks ready out
unfolding Walks
begins Applies p tasks ready out t r o = λ list tops cost stands.
    (let done : Completes Applies [] tops (length list) [] tops = finished tops (length list) in
    let e : length list ≡ 0 + length list = omega arith in
    let all = completes Applies [] [] tops [] stands (subst (λ z. Completes Applies [] tops z [] tops) e done) in
    (list, rw (t, r, o) (subst (λ z. Completes Applies (task.Cover p ∷ []) [] 0 z tops) (append-nil list) all), rw o refl))

ended : {Applies : Application} {ready final : List ℕ} {first : ℕ} {rest : List Instance} → Completes Applies [] ready first rest final → rest ≡ []
ended (finished ready first) = refl

cover_step : {Applies : Application} {p : Subgoal} {first : ℕ} {tasks : List Task} {ready final : List ℕ} {rest : List Instance}
    → Completes Applies (task.Cover p ∷ tasks) ready first rest final
    → (c : ℕ) × (r : ℕ) × (k : ℕ) × (operands : List Subgoal) × Chosen Applies p.node p.nonterminal c r × Applies r p.node p.nonterminal k operands
    × Completes Applies (covers_of operands ++ (task.List r p.node (length operands) ∷ tasks)) ready first rest final
cover_step (covered p c r k first operands tasks ready final more chosen a h) = (c, r, k, operands, chosen, a, h)

list_step : {Applies : Application} {r n count first : ℕ} {tasks : List Task} {all final : List ℕ} {rest : List Instance}
    → Completes Applies (task.List r n count ∷ tasks) all first rest final
    → (ready : List ℕ) × (tops : List ℕ) × (more : List Instance) × (length tops ≡ count) × (all ≡ ready ++ tops)
    × Completes Applies tasks (ready ++ first ∷ []) (first + 1) more final
    × (rest ≡ record { rule = r; node = n; operands = tops } ∷ more)
list_step (listed r n count first tasks all ready tops final more few all_is h) = (ready, tops, more, few, all_is, h, refl)

same_ends : (xs ys us vs : List ℕ) → xs ++ ys ≡ us ++ vs → length ys ≡ length vs → (xs ≡ us) × (ys ≡ vs)
same_ends xs ys us vs e n =
    let a = length-append xs ys in
    let b = length-append us vs in
    let same : length (xs ++ ys) ≡ length (us ++ vs) = ap length e in
    let front : length xs ≡ length us = omega (arith, a, b, same, n) in (
      sym (take-append_seam xs ys) ∙ ap (λ z. take (length xs) z) e ∙ ap (λ z. take z (us ++ vs)) front ∙ take-append_seam us vs,
      sym (drop-append_seam xs ys) ∙ ap (λ z. drop (length xs) z) e ∙ ap (λ z. drop z (us ++ vs)) front ∙ drop-append_seam us vs,
    )

last_task : (rest : List Task) (t : Task) → reverse (rest ++ t ∷ []) ≡ t ∷ reverse rest
last_task rest t = reverse-append rest (t ∷ [])

pub opened_tasks : (ops found : List Subgoal) (old pushed new : List Task) (r n : ℕ) → ops ≡ found → pushed ≡ old ++ task.List r n (length ops) ∷ []
    → reverse new ≡ covers_of ops ++ reverse pushed → reverse new ≡ covers_of found ++ (task.List r n (length found) ∷ reverse old)
opened_tasks ops found old pushed new r n e p h =
    subst (λ z. reverse new ≡ covers_of z ++ (task.List r n (length z) ∷ reverse old)) e
    (h ∙ ap (λ z. covers_of ops ++ z) (ap reverse p ∙ last_task old (task.List r n (length ops))))

pub one_longer : (xs ys : List Instance) (i : Instance) → ys ≡ xs ++ i ∷ [] → length ys ≡ length xs + 1
one_longer xs ys i e = let f = length-append xs (i ∷ []) in rw e f

module _ (Applies : Application) (Chain : Chains) (rules nonterminals : ℕ) (order : IsOrderly Applies Chain rules nonterminals)
    (ps : List Subgoal) (tasks rest : List Task) (ready : List ℕ) (out : List Instance) (walks : Walks Applies ps tasks ready out) where
  -- what is chosen at a place whose turn it is
  pub cover_bound : (p : Subgoal) (list : List Instance) (tops : List ℕ) (cost : ℕ) → Stands Applies 0 ps list tops cost → tasks ≡ rest ++ task.Cover p ∷ []
      → (c : ℕ) × (r : ℕ) × Chosen Applies p.node p.nonterminal c r
  unfolding Walks
  cover_bound p list tops cost stands is =
      let (more, h, whole) = walks list tops cost stands in
      let h2 = subst (λ z. Completes Applies z ready (length out) more tops) (ap reverse is ∙ last_task rest (task.Cover p)) h in
      let (c, r, k, operands, chosen, a, h3) = cover_step h2 in (c, r, chosen)

  pub cover_turn : (p : Subgoal) (next : List Task) → tasks ≡ rest ++ task.Cover p ∷ [] → Opens Applies p rest next → Walks Applies ps next ready out
  unfolding Walks
  cover_turn p next is o = λ list tops cost stands.
      (let (more, h, whole) = walks list tops cost stands in
      let h2 = subst (λ z. Completes Applies z ready (length out) more tops) (ap reverse is ∙ last_task rest (task.Cover p)) h in
      let (c, r, k, operands, chosen, a, h3) = cover_step h2 in
      let (same_cost, same) = one_choice chosen o.chosen in
      let (x, y, alike) = order.one o.rule p.node p.nonterminal p.nonterminal k o.own operands o.operands
      (subst (λ z. Applies z p.node p.nonterminal k operands) same a) o.applies in
      let h4 = subst (λ z. Completes Applies (covers_of operands ++ (task.List z p.node (length operands) ∷ reverse rest)) ready (length out) more tops) same h3 in
      let h5 = subst (λ z. Completes Applies (covers_of z ++ (task.List o.rule p.node (length z) ∷ reverse rest)) ready (length out) more tops) alike h4 in
      (more, subst (λ z. Completes Applies z ready (length out) more tops) (sym o.tasks) h5, whole))

  pub list_turn : (r n count : ℕ) (next : List ℕ) (further : List Instance) → tasks ≡ rest ++ task.List r n count ∷ []
      → IsListed r n count ready next out further → Walks Applies ps rest next further
  unfolding Walks
  list_turn r n count next further is l = λ list tops cost stands.
      (let (more, h, whole) = walks list tops cost stands in
      let h2 = subst (λ z. Completes Applies z ready (length out) more tops) (ap reverse is ∙ last_task rest (task.List r n count)) h in
      let (before, last, after, few, ready_is, h3, more_is) = list_step h2 in
      let (front, back) = same_ends before last l.before l.tops (sym ready_is ∙ l.ready_is) (few ∙ sym l.few) in
      let h4 = subst (λ z. Completes Applies (reverse rest) (z ++ length out ∷ []) (length out + 1) after tops) front h3 in
      let h5 = subst (λ z. Completes Applies (reverse rest) z (length out + 1) after tops) (sym l.next_is) h4 in
      let own : Instance = record { rule = r; node = n; operands = l.tops } in
      let size = one_longer out further own l.more_is in
      let h6 = subst (λ z. Completes Applies (reverse rest) next z after tops) (sym size) h5 in
      let more_is2 : more ≡ own ∷ after = subst (λ z. more ≡ record { rule = r; node = n; operands = z } ∷ after) back more_is in (
        after,
        h6,
        ap (λ z. z ++ after) l.more_is ∙ append_assoc out (own ∷ []) after
            ∙ ap (λ z. out ++ z) (sym more_is2) ∙ whole,
      ))

  pub list_bounds : (r n count : ℕ) (list : List Instance) (tops : List ℕ) (cost : ℕ) → Stands Applies 0 ps list tops cost
      → tasks ≡ rest ++ task.List r n count ∷ [] → (count ≤ length ready) × (length out ≤ length list)
  unfolding Walks
  list_bounds r n count list tops cost stands is =
      let (more, h, whole) = walks list tops cost stands in
      let h2 = subst (λ z. Completes Applies z ready (length out) more tops) (ap reverse is ∙ last_task rest (task.List r n count)) h in
      let (before, last, after, few, ready_is, h3, more_is) = list_step h2 in
      let size = length-append before last in
      let e : length ready ≡ length (before ++ last) = ap length ready_is in
      let f : length (out ++ more) ≡ length list = ap length whole in
      let g = length-append out more in
      (omega (arith, size, e, few), omega (arith, f, g))

pub walked : (Applies : Application) (ps : List Subgoal) (tasks : List Task) (ready : List ℕ) (out : List Instance) → Walks Applies ps tasks ready out
    → tasks ≡ [] → (list : List Instance) (tops : List ℕ) (cost : ℕ) → Stands Applies 0 ps list tops cost → Stands Applies 0 ps out tops cost
unfolding Walks
walked Applies ps tasks ready out walks none list tops cost stands =
    let (more, h, whole) = walks list tops cost stands in
    let e = ended (subst (λ z. Completes Applies (reverse z) ready (length out) more tops) none h) in
    let same : out ≡ list = sym (append-nil out) ∙ (ap (λ z. out ++ z) (sym e) ∙ whole) in
    rw same stands

pub none_of_length : (ts : List Task) → length ts ≡ 0 → ts ≡ []
none_of_length [] e = refl
none_of_length (t ∷ ts) e = absurd (omega (arith, e))
