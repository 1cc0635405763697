-- One step of the machine each: what is to be done after it comes to what was to be done before it.
use Rattle.std.proofs.Common.{◌≡◌, ℕ, zero, suc, ◌+◌, Bool, true, false, List, [], ◌∷◌, ◌++◌, length, reverse, All, arith, refl, sym, subst, ◌∙◌}
use Rattle.std.proofs.lemmas.List.{reverse-append}
use Rattle.std.proofs.lemmas.List.Elements.{All-head, All-tail, All-append}
use Rattle.expr_lang.specs.Expression.{Expression}
use Rattle.expr_lang.specs.PureValues.{PureValue, bool_in}
use Rattle.puma_model.specs.Comes.{Program, Reply, a_value, no_rule, worth, worths, with_reads, reads_left, IsUsed, Outcome, succeeded, failed, stopped, Comes, called, Tries, no_rule_left, not_used, used, Finishes, answers, goes_on, stops, Runs, no_clause_left, called_first, After, binds, holds, fails, passes_on}
use Rattle.puma_model.specs.Rules.{PureClause, PureRule, rules_at}
use Rattle.puma_model.specs.declared.rules.Read.{Read}
use Rattle.puma_model.proofs.OneResult.{one_use}
use Rattle.puma_eval.specs.within.Machine.{Coming, Ties, Is, Going, Goes, goes, Resumes, resumes, Waits, none_waits, one_waits, Within, within, HasClause}

zero_before : (k : ℕ) → 0 + k ≡ k
zero_before k = omega arith

pub ties_self : (P : Coming) → Ties 0 P P
ties_self P = record { there = λ r k p. subst (λ z. P r z) (sym (zero_before k)) p; back = λ r k p. (k, p, omega arith) }

pub ties_on : {a b : ℕ} {P Q R : Coming} → Ties a P Q → Ties b Q R → Ties (a + b) P R
ties_on {a = a} {b = b} {P = P} s t = record {
  there = λ r k p. (let e : a + (b + k) ≡ a + b + k = omega arith in
      subst (λ z. P r z) e (s.there r (b + k) (t.there r k p)));
  back = λ r k p. (let (l, q, is) = s.back r k p in let (m, u, more) = t.back r l q in
      (m, u, omega (arith, is, more)));
}

-- a tie without calls, from both directions
pub ties_by : (P Q : Coming) → ((r : Reply) (k : ℕ) → Q r k → P r k) → ((r : Reply) (k : ℕ) → P r k → Q r k) → Ties 0 P Q
ties_by P Q there back = record {
  there = λ r k q. subst (λ z. P r z) (sym (zero_before k)) (there r k q);
  back = λ r k p. (k, back r k p, omega arith);
}

within_there : (p : Program) (ws : List Going) (n : ℕ) (P Q : Coming) → Ties n P Q → (r : Reply) (k : ℕ)
    → Within p ws Q r k → Within p ws P r (n + k)
within_there p ws n P Q t final _ (within r _ j k q waits) =
    let e : n + j + k ≡ n + (j + k) = omega arith in
    subst (λ z. Within p ws P final z) e (within r final (n + j) k (t.there r j q) waits)

within_back : (p : Program) (ws : List Going) (n : ℕ) (P Q : Coming) → Ties n P Q → (r : Reply) (k : ℕ)
    → Within p ws P r k → (l : ℕ) × Within p ws Q r l × (k ≡ n + l)
within_back p ws n P Q t final _ (within r _ j k q waits) =
    let (l, u, is) = t.back r j q in
    (l + k, within r final l k u waits, omega (arith, is))

pub ties_within : (p : Program) (ws : List Going) (n : ℕ) (P Q : Coming) → Ties n P Q
    → Ties n (Within p ws P) (Within p ws Q)
ties_within p ws n P Q t = record { there = within_there p ws n P Q t; back = within_back p ws n P Q t }

-- ------------------------------------------------------------------ calls and rules

tries_of : {p : Program} {q k : ℕ} {args : List PureValue} {r : Reply} → Comes p q args r k
    → (l : ℕ) × Tries p q args (rules_at p.routines q) r l × (k ≡ 1 + l)
tries_of (called q args k r tries) = (k, tries, refl)

pub ties_call : (p : Program) (q : ℕ) (args : List PureValue) → Ties 1 (Comes p q args) (Tries p q args (rules_at p.routines q))
ties_call p q args = record { there = λ r k tries. called q args k r tries; back = λ r k come. tries_of come }

-- no values make the rule used
abbrev pub IsNotUsed : Program → PureRule → List PureValue → Type 0
IsNotUsed p rule args = (env : List PureValue) (left : List Read) → IsUsed p rule args env left → ⊥

past_back : {p : Program} {q k : ℕ} {args : List PureValue} {rule : PureRule} {rest : List PureRule} {r : Reply} → IsNotUsed p rule args
    → Tries p q args (rule ∷ rest) r k → Tries p q args rest r k
past_back none (not_used q args k rule rest r none2 more) = more
past_back none (used q args j k rule rest env left end r is run fin) = absurd (none env left is)

-- a rule that isn't used is passed over
pub ties_past : (p : Program) (q : ℕ) (args : List PureValue) (rule : PureRule) (rest : List PureRule) → IsNotUsed p rule args
    → Ties 0 (Tries p q args (rule ∷ rest)) (Tries p q args rest)
ties_past p q args rule rest none = ties_by _ _ (λ r k tries. not_used q args k rule rest r none tries) (λ r k tries. past_back none tries)

none_left : {p : Program} {q k : ℕ} {args : List PureValue} {r : Reply} → Tries p q args [] r k → Is (no_rule q) r k
none_left (no_rule_left q args) = record { reply_is = refl; no_call = refl }

none_of : (p : Program) (q : ℕ) (args : List PureValue) (r : Reply) (k : ℕ) → Is (no_rule q) r k → Tries p q args [] r k
none_of p q args r k is = rw (is.reply_is, is.no_call) (no_rule_left q args)

pub ties_none : (p : Program) (q : ℕ) (args : List PureValue) → Ties 0 (Tries p q args []) (Is (no_rule q))
ties_none p q args = ties_by _ _ (none_of p q args) (λ r k tries. none_left tries)

-- a used rule
abbrev pub going_from : ℕ → List PureValue → PureRule → List PureRule → List PureValue → List Read → Going
going_from q args rule rest env left =
    record { routine = q; args = args; answer = rule.answer; later = rest; clauses = rule.clauses; reads = left; env = env }

used_there : (p : Program) (q : ℕ) (args : List PureValue) (rule : PureRule) (rest : List PureRule) (env : List PureValue) (left : List Read)
    → IsUsed p rule args env left → (r : Reply) (k : ℕ) → Goes p (going_from q args rule rest env left) r k → Tries p q args (rule ∷ rest) r k
used_there p q args rule rest env left is r _ (goes end j k _ run fin) = used q args j k rule rest env left end r is run fin

used_back : {p : Program} {q k : ℕ} {args : List PureValue} {rule : PureRule} {rest : List PureRule} {r : Reply} (env : List PureValue) (left : List Read)
    → IsUsed p rule args env left → Tries p q args (rule ∷ rest) r k → Goes p (going_from q args rule rest env left) r k
used_back env left is (not_used q args k rule rest r none more) = absurd (none env left is)
used_back {p = p} env left is (used q args j k rule rest env2 left2 end r is2 run fin) =
    let (e, f) = one_use p rule args env2 env left2 left is2 is in
    goes end j k r (subst (λ z. Runs p rule.clauses z env end j) f (subst (λ z. Runs p rule.clauses left2 z end j) e run)) fin

pub ties_used : (p : Program) (q : ℕ) (args : List PureValue) (rule : PureRule) (rest : List PureRule) (env : List PureValue) (left : List Read)
    → IsUsed p rule args env left → Ties 0 (Tries p q args (rule ∷ rest)) (Goes p (going_from q args rule rest env left))
ties_used p q args rule rest env left is = ties_by _ _ (used_there p q args rule rest env left is) (λ r k tries. used_back env left is tries)

-- ------------------------------------------------------------------ clauses

runs_split : {p : Program} {clause : PureClause} {rest : List PureClause} {reads : List Read} {env : List PureValue} {end : Outcome} {k : ℕ}
    → Runs p (clause ∷ rest) reads env end k
    → (r : Reply) × (j : ℕ) × (l : ℕ) × Comes p clause.routine (worths env clause.args) r j
    × After p clause.binds rest reads env r end l × (k ≡ j + l)
runs_split (called_first clause rest reads env r end j k come after) = (r, j, k, come, after, refl)

waits_split : {p : Program} {h : Going} {hs : List Going} {r final : Reply} {k : ℕ} → Waits p (h ∷ hs) r final k
    → (s : Reply) × (j : ℕ) × (l : ℕ) × Resumes p h r s j × Waits p hs s final l × (k ≡ j + l)
waits_split (one_waits h hs r s final j k resume waits) = (s, j, k, resume, waits, refl)

reverse_last : (ws : List Going) (h : Going) → reverse (ws ++ h ∷ []) ≡ h ∷ reverse ws
reverse_last ws h = reverse-append ws (h ∷ [])

same_first : {a b : PureClause} {x y : List PureClause} → a ∷ x ≡ b ∷ y → a ≡ b
same_first e = cc

same_rest : {a b : PureClause} {x y : List PureClause} → a ∷ x ≡ b ∷ y → x ≡ y
same_rest e = cc

-- what something that goes on is made of
resume_parts : (p : Program) (h : Going) (clause : PureClause) (rest : List PureClause) (given r : Reply) (k : ℕ)
    → h.clauses ≡ clause ∷ rest → Resumes p h given r k
    → (end : Outcome) × (j : ℕ) × (l : ℕ) × After p clause.binds rest h.reads h.env given end j
    × Finishes p h.routine h.args h.answer h.later end r l × (k ≡ j + l)
resume_parts p h clause rest given r _ is (resumes other more end j k _ is2 after fin) =
    let e = sym is2 ∙ is in
    let after2 = subst (λ z. After p z.binds more h.reads h.env given end j) (same_first e) after in
    (end, j, k, subst (λ z. After p clause.binds z h.reads h.env given end j) (same_rest e) after2, fin, refl)

clause_back : (p : Program) (ws : List Going) (h : Going) (clause : PureClause) (rest : List PureClause) → h.clauses ≡ clause ∷ rest
    → (final : Reply) (k : ℕ) → Within p ws (Goes p h) final k
    → Within p (ws ++ h ∷ []) (Comes p clause.routine (worths h.env clause.args)) final k
clause_back p ws h clause rest is final _ (within r _ _ k (goes end a b _ run fin) waits) =
    let (s, j, l, come, after, total) = runs_split (subst (λ z. Runs p z h.reads h.env end a) is run) in
    let waits2 : Waits p (reverse (ws ++ h ∷ [])) s final (l + b + k) =
    rw reverse_last (one_waits h (reverse ws) s r final (l + b) k (resumes clause rest end l b r is after fin) waits) in
    let e : j + (l + b + k) ≡ a + b + k = omega (arith, total) in
    subst (λ z. Within p (ws ++ h ∷ []) (Comes p clause.routine (worths h.env clause.args)) final z) e
    (within s final j (l + b + k) come waits2)

clause_there : (p : Program) (ws : List Going) (h : Going) (clause : PureClause) (rest : List PureClause) → h.clauses ≡ clause ∷ rest
    → (final : Reply) (k : ℕ) → Within p (ws ++ h ∷ []) (Comes p clause.routine (worths h.env clause.args)) final k
    → Within p ws (Goes p h) final k
clause_there p ws h clause rest is final _ (within s _ j k come waits) =
    let (r, a, b, resume, waits2, total) = waits_split (rw reverse_last at waits) in
    let (end, l, m, after, fin, sum) = resume_parts p h clause rest s r a is resume in
    let run : Runs p h.clauses h.reads h.env end (j + l) =
    subst (λ z. Runs p z h.reads h.env end (j + l)) (sym is) (called_first clause rest h.reads h.env s end j l come after) in
    let e : j + l + m + b ≡ j + k = omega (arith, total, sum) in
    subst (λ z. Within p ws (Goes p h) final z) e (within r final (j + l + m) b (goes end (j + l) m r run fin) waits2)

-- at a clause it comes to what the clause's call comes to, for which it waits
pub ties_clause : (p : Program) (ws : List Going) (h : Going) (clause : PureClause) (rest : List PureClause) → h.clauses ≡ clause ∷ rest
    → Ties 0 (Within p ws (Goes p h)) (Within p (ws ++ h ∷ []) (Comes p clause.routine (worths h.env clause.args)))
ties_clause p ws h clause rest is = ties_by _ _ (clause_there p ws h clause rest is) (clause_back p ws h clause rest is)

-- ------------------------------------------------------------------ the end of the clauses

runs_none : {p : Program} {reads : List Read} {env : List PureValue} {end : Outcome} {k : ℕ} → Runs p [] reads env end k → (end ≡ succeeded env) × (k ≡ 0)
runs_none (no_clause_left reads env) = (refl, refl)

finishes_well : {p : Program} {q k : ℕ} {args : List PureValue} {e : Expression} {rest : List PureRule} {env : List PureValue} {r : Reply}
    → Finishes p q args e rest (succeeded env) r k → (r ≡ a_value (worth env e)) × (k ≡ 0)
finishes_well (answers q args e rest env) = (refl, refl)

end_back : (p : Program) (h : Going) → h.clauses ≡ [] → (r : Reply) (k : ℕ) → Goes p h r k → Is (a_value (worth h.env h.answer)) r k
end_back p h is r _ (goes end a b _ run fin) =
    let (ended, none) = runs_none (subst (λ z. Runs p z h.reads h.env end a) is run) in
    let (reply, none2) = finishes_well (subst (λ z. Finishes p h.routine h.args h.answer h.later z r b) ended fin) in
    record { reply_is = reply; no_call = omega (arith, none, none2) }

end_there : (p : Program) (h : Going) → h.clauses ≡ [] → (r : Reply) (k : ℕ) → Is (a_value (worth h.env h.answer)) r k → Goes p h r k
end_there p h is r k it =
    rw (it.reply_is, it.no_call) (goes (succeeded h.env) 0 0 (a_value (worth h.env h.answer))
    (subst (λ z. Runs p z h.reads h.env (succeeded h.env) 0) (sym is) (no_clause_left h.reads h.env))
    (answers h.routine h.args h.answer h.later h.env))

pub ties_end : (p : Program) (h : Going) → h.clauses ≡ [] → Ties 0 (Goes p h) (Is (a_value (worth h.env h.answer)))
ties_end p h is = ties_by _ _ (end_there p h is) (end_back p h is)

-- ------------------------------------------------------------------ a reply for the one that waits

value_back : (p : Program) (ws : List Going) (h : Going) (given final : Reply) (k : ℕ)
    → Within p (ws ++ h ∷ []) (Is given) final k → Within p ws (Resumes p h given) final k
value_back p ws h given final _ (within r _ j k is waits) =
    let (s, a, b, resume, waits2, total) = waits_split (rw reverse_last at waits) in
    let none = is.no_call in
    let e : a + b ≡ j + k = omega (arith, total, none) in
    subst (λ z. Within p ws (Resumes p h given) final z) e
    (within s final a b (subst (λ z. Resumes p h z s a) is.reply_is resume) waits2)

value_there : (p : Program) (ws : List Going) (h : Going) (given final : Reply) (k : ℕ)
    → Within p ws (Resumes p h given) final k → Within p (ws ++ h ∷ []) (Is given) final k
value_there p ws h given final _ (within r _ j k resume waits) =
    let waits2 : Waits p (reverse (ws ++ h ∷ [])) given final (j + k) =
    rw reverse_last (one_waits h (reverse ws) given r final j k resume waits) in
    let e : 0 + (j + k) ≡ j + k = omega arith in
    subst (λ z. Within p (ws ++ h ∷ []) (Is given) final z) e
    (within given final 0 (j + k) (record { reply_is = refl; no_call = refl }) waits2)

pub ties_value : (p : Program) (ws : List Going) (h : Going) (given : Reply)
    → Ties 0 (Within p (ws ++ h ∷ []) (Is given)) (Within p ws (Resumes p h given))
ties_value p ws h given = ties_by _ _ (value_there p ws h given) (value_back p ws h given)

last_waits : {p : Program} {r final : Reply} {k : ℕ} → Waits p [] r final k → (final ≡ r) × (k ≡ 0)
last_waits (none_waits r) = (refl, refl)

pub none_back : (p : Program) (part : Coming) (final : Reply) (k : ℕ) → Within p [] part final k → part final k
none_back p part final _ (within r _ j k it waits) =
    let (same, none) = last_waits waits in
    let e : j ≡ j + k = omega (arith, none) in
    subst (λ z. part final z) e (subst (λ z. part z j) (sym same) it)

pub none_there : (p : Program) (part : Coming) (final : Reply) (k : ℕ) → part final k → Within p [] part final k
none_there p part final k it =
    let e : k + 0 ≡ k = omega arith in
    subst (λ z. Within p [] part final z) e (within final final k 0 it (none_waits final))

pub ties_last : (p : Program) (part : Coming) → Ties 0 (Within p [] part) part
ties_last p part = ties_by _ _ (none_there p part) (none_back p part)

-- ------------------------------------------------------------------ it goes on

abbrev pub after_let : Program → Going → List PureClause → PureValue → Going
after_let p h rest v = record {
  routine = h.routine;
  args = h.args;
  answer = h.answer;
  later = h.later;
  clauses = rest;
  reads = reads_left h.reads (length (h.env ++ v ∷ []));
  env = with_reads p.attribute h.reads (h.env ++ v ∷ []);
}

abbrev pub after_when : Going → List PureClause → Going
after_when h rest = record {
  routine = h.routine;
  args = h.args;
  answer = h.answer;
  later = h.later;
  clauses = rest;
  reads = h.reads;
  env = h.env;
}

not_both : {b : Bool} → b ≡ true → b ≡ false → ⊥
not_both t f = let e : true ≡ false = sym t ∙ f in cc

let_runs : {p : Program} {b : Bool} {rest : List PureClause} {reads : List Read} {env : List PureValue} {v : PureValue} {end : Outcome} {k : ℕ}
    → b ≡ true → After p b rest reads env (a_value v) end k
    → Runs p rest (reads_left reads (length (env ++ v ∷ []))) (with_reads p.attribute reads (env ++ v ∷ [])) end k
let_runs b (binds rest reads env v end k run) = run
let_runs b (holds rest reads env v end k is run) = (let e : false ≡ true = b in cc)
let_runs b (fails rest reads env v is) = (let e : false ≡ true = b in cc)

when_runs : {p : Program} {b : Bool} {rest : List PureClause} {reads : List Read} {env : List PureValue} {v : PureValue} {end : Outcome} {k : ℕ}
    → b ≡ false → bool_in v ≡ true → After p b rest reads env (a_value v) end k → Runs p rest reads env end k
when_runs b is (binds rest reads env v end k run) = (let e : true ≡ false = b in cc)
when_runs b is (holds rest reads env v end k is2 run) = run
when_runs b is (fails rest reads env v isnt) = absurd (not_both is isnt)

when_fails : {p : Program} {b : Bool} {rest : List PureClause} {reads : List Read} {env : List PureValue} {v : PureValue} {end : Outcome} {k : ℕ}
    → b ≡ false → bool_in v ≡ false → After p b rest reads env (a_value v) end k → (end ≡ failed) × (k ≡ 0)
when_fails b isnt (binds rest reads env v end k run) = (let e : true ≡ false = b in cc)
when_fails b isnt (holds rest reads env v end k is run) = absurd (not_both is isnt)
when_fails b isnt (fails rest reads env v isnt2) = (refl, refl)

finishes_failed : {p : Program} {q k : ℕ} {args : List PureValue} {e : Expression} {rest : List PureRule} {r : Reply}
    → Finishes p q args e rest failed r k → Tries p q args rest r k
finishes_failed (goes_on q args e rest r k tries) = tries

module _ (p : Program) (h : Going) (clause : PureClause) (rest : List PureClause) (is : h.clauses ≡ clause ∷ rest) (v : PureValue) where
  let_there : clause.binds ≡ true → (r : Reply) (k : ℕ) → Goes p (after_let p h rest v) r k → Resumes p h (a_value v) r k
  let_there b r _ (goes end j k _ run fin) =
      resumes clause rest end j k r is (subst (λ z. After p z rest h.reads h.env (a_value v) end j) (sym b) (binds rest h.reads h.env v end j run)) fin

  let_back : clause.binds ≡ true → (r : Reply) (k : ℕ) → Resumes p h (a_value v) r k → Goes p (after_let p h rest v) r k
  let_back b r k resume =
      let (end, j, l, after, fin, total) = resume_parts p h clause rest (a_value v) r k is resume in
      rw total (goes end j l r (let_runs b after) fin)

  pub ties_let : clause.binds ≡ true → Ties 0 (Resumes p h (a_value v)) (Goes p (after_let p h rest v))
  ties_let b = ties_by _ _ (let_there b) (let_back b)

  when_there : clause.binds ≡ false → bool_in v ≡ true → (r : Reply) (k : ℕ) → Goes p (after_when h rest) r k → Resumes p h (a_value v) r k
  when_there b true_is r _ (goes end j k _ run fin) =
      resumes clause rest end j k r is (subst (λ z. After p z rest h.reads h.env (a_value v) end j) (sym b) (holds rest h.reads h.env v end j true_is run)) fin

  when_back : clause.binds ≡ false → bool_in v ≡ true → (r : Reply) (k : ℕ) → Resumes p h (a_value v) r k → Goes p (after_when h rest) r k
  when_back b true_is r k resume =
      let (end, j, l, after, fin, total) = resume_parts p h clause rest (a_value v) r k is resume in
      rw total (goes end j l r (when_runs b true_is after) fin)

  pub ties_when : clause.binds ≡ false → bool_in v ≡ true → Ties 0 (Resumes p h (a_value v)) (Goes p (after_when h rest))
  ties_when b true_is = ties_by _ _ (when_there b true_is) (when_back b true_is)

  fails_there : clause.binds ≡ false → bool_in v ≡ false → (r : Reply) (k : ℕ) → Tries p h.routine h.args h.later r k → Resumes p h (a_value v) r k
  fails_there b false_is r k tries =
      let e : 0 + k ≡ k = omega arith in
      subst (λ z. Resumes p h (a_value v) r z) e (resumes clause rest failed 0 k r is
      (subst (λ z. After p z rest h.reads h.env (a_value v) failed 0) (sym b) (fails rest h.reads h.env v false_is))
      (goes_on h.routine h.args h.answer h.later r k tries))

  fails_back : clause.binds ≡ false → bool_in v ≡ false → (r : Reply) (k : ℕ) → Resumes p h (a_value v) r k → Tries p h.routine h.args h.later r k
  fails_back b false_is r k resume =
      let (end, j, l, after, fin, total) = resume_parts p h clause rest (a_value v) r k is resume in
      let (fell, none) = when_fails b false_is after in
      let e : l ≡ k = omega (arith, total, none) in
      subst (λ z. Tries p h.routine h.args h.later r z) e (finishes_failed (subst (λ z. Finishes p h.routine h.args h.answer h.later z r l) fell fin))

  pub ties_fails : clause.binds ≡ false → bool_in v ≡ false → Ties 0 (Resumes p h (a_value v)) (Tries p h.routine h.args h.later)
  ties_fails b false_is = ties_by _ _ (fails_there b false_is) (fails_back b false_is)

-- ------------------------------------------------------------------ NoRule passes through

after_stops : {p : Program} {b : Bool} {rest : List PureClause} {reads : List Read} {env : List PureValue} {t k : ℕ} {end : Outcome}
    → After p b rest reads env (no_rule t) end k → (end ≡ stopped t) × (k ≡ 0)
after_stops (passes_on b rest reads env t) = (refl, refl)

finishes_stopped : {p : Program} {q t k : ℕ} {args : List PureValue} {e : Expression} {rest : List PureRule} {r : Reply}
    → Finishes p q args e rest (stopped t) r k → (r ≡ no_rule t) × (k ≡ 0)
finishes_stopped (stops q args e rest t) = (refl, refl)

resumes_stops : {p : Program} {h : Going} {t k : ℕ} {r : Reply} → Resumes p h (no_rule t) r k → (r ≡ no_rule t) × (k ≡ 0)
resumes_stops {p = p} {h = h} (resumes clause rest end j k r is after fin) =
    let (ended, none) = after_stops after in
    let (reply, none2) = finishes_stopped (subst (λ z. Finishes p h.routine h.args h.answer h.later z r k) ended fin) in
    (reply, omega (arith, none, none2))

waits_stops : {p : Program} {hs : List Going} {k : ℕ} {r final : Reply} (t : ℕ) → r ≡ no_rule t → Waits p hs r final k
    → (final ≡ no_rule t) × (k ≡ 0)
waits_stops t is (none_waits _) = (is, refl)
waits_stops {p = p} t is (one_waits h hs r s final j k resume waits) =
    let (reply, none) = resumes_stops (subst (λ z. Resumes p h z s j) is resume) in
    let (end, none2) = waits_stops t reply waits in
    (end, omega (arith, none, none2))

stops_waits : (p : Program) (hs : List Going) (t : ℕ) → All HasClause hs → Waits p hs (no_rule t) (no_rule t) 0
stops_waits p [] t all = none_waits (no_rule t)
stops_waits p (h ∷ hs) t all =
    let w = All-head HasClause h hs all in
    one_waits h hs (no_rule t) (no_rule t) (no_rule t) 0 0
    (resumes w.clause w.rest (stopped t) 0 0 (no_rule t) w.is (passes_on w.clause.binds w.rest h.reads h.env t) (stops h.routine h.args h.answer h.later t))
    (stops_waits p hs t (All-tail HasClause h hs all))

pub all_one : {A : Type 0} (P : A → Type 0) (x : A) → P x → All P (x ∷ [])
all_one P f p zero d lt = p
all_one P f p (suc k) d lt = absurd (omega (arith, lt))

all_reverse : (P : Going → Type 0) (hs : List Going) → All P hs → All P (reverse hs)
all_reverse P [] all = all
all_reverse P (h ∷ hs) all = rw (reverse-append (h ∷ []) hs)
    (All-append P (reverse hs) (h ∷ []) (all_reverse P hs (All-tail P h hs all)) (all_one P h (All-head P h hs all)))

stops_back : (p : Program) (ws : List Going) (t : ℕ) (final : Reply) (k : ℕ) → Within p ws (Is (no_rule t)) final k
    → Is (no_rule t) final k
stops_back p ws t final _ (within r _ j k is waits) =
    let (end, none) = waits_stops t is.reply_is waits in
    let none2 = is.no_call in
    record { reply_is = end; no_call = omega (arith, none, none2) }

stops_there : (p : Program) (ws : List Going) (t : ℕ) → All HasClause ws → (final : Reply) (k : ℕ)
    → Is (no_rule t) final k → Within p ws (Is (no_rule t)) final k
stops_there p ws t all final k is =
    rw (is.reply_is, is.no_call) (within (no_rule t) (no_rule t) 0 0 (record { reply_is = refl; no_call = refl })
    (stops_waits p (reverse ws) t (all_reverse HasClause ws all)))

pub ties_no_rule : (p : Program) (ws : List Going) (t : ℕ) → All HasClause ws
    → Ties 0 (Within p ws (Is (no_rule t))) (Is (no_rule t))
ties_no_rule p ws t all = ties_by _ _ (stops_there p ws t all) (stops_back p ws t)
