-- The faults of REX's lines, by the tests that find them.
use Rattle.std.proofs.Common.{◌≡◌, ℕ, ◌+◌, ◌⊎◌, inl, inr, List, [], ◌∷◌, take, refl, sym, Option, None, subst, codes}
use Rattle.ck_base.specs.Numbered.{met}
use Rattle.ck_base.specs.declared.fault.Kind.TheVariants.{Limit, Twice, Unknown, Typing}
use Rattle.ck_base.specs.declared.fault.SpecFault.{SpecFault}
use Rattle.section_frame.specs.Declares.{Declared, DeclareAll, HasAt, judged}
use Rattle.section_frame.specs.FirstFault.{Accepts}
use Rattle.spec_text.specs.Lines.{Line}
use Rattle.section_frame.specs.Passes.{FirstWith}
use Rattle.section_frame.specs.Stages.{FirstOf, IsFirstIn}
use Rattle.section_frame.specs.Words.{IsAgain, IsAmong, IsMissing, IsPast, names_by}
use Rattle.section_frame.proofs.Counting.{capped_sum}
use Rattle.section_frame.proofs.Named.{as_they_stand}
use Rattle.section_frame.proofs.Staged.{first_of_kinds, none_of_kinds, twice_first}
use Rattle.front_spec.specs.RexShapes.{Saying, RexShape}
use Rattle.front_spec.specs.RexFaults.{state_name, token_name, all_states, active_names, go_names, one_state, positions_of, RexFault, second_state, state_is_std, token_is_end, no_active_state, no_go_state, too_many_states, too_many_positions, rex}
use Rattle.front_spec.specs.Steps.{counted_positions}

-- one kind of fault is what its tests find
module _ (ds : List (Declared Saying)) where
  abbrev pub Twices : ℕ → Saying → Type 0
  Twices i said =
      IsAgain state_name ds i said ⊎ (IsAmong state_name (codes "STD" ∷ []) said ⊎ IsAmong token_name (codes "END" ∷ []) said)

  pub to_twice : (i : ℕ) (said : Saying) → Twices i said → RexFault ds Twice i said
  to_twice i said (inl is) = second_state i said is
  to_twice i said (inr (inl is)) = state_is_std i said is
  to_twice i said (inr (inr is)) = token_is_end i said is

  pub of_twice : (i : ℕ) (said : Saying) → RexFault ds Twice i said → Twices i said
  of_twice _ _ (second_state i said is) = inl is
  of_twice _ _ (state_is_std i said is) = inr (inl is)
  of_twice _ _ (token_is_end i said is) = inr (inr is)

  module _ (states : List (List ℕ)) (are : states ≡ all_states ds) where
    abbrev pub Unknowns : Saying → Type 0
    Unknowns said = IsMissing states (active_names said) ⊎ IsMissing states (go_names said)

    pub to_unknown : (i : ℕ) (said : Saying) → Unknowns said → RexFault ds Unknown i said
    to_unknown i said (inl is) = no_active_state i said (subst (λ names. IsMissing names (active_names said)) are is)
    to_unknown i said (inr is) = no_go_state i said (subst (λ names. IsMissing names (go_names said)) are is)

    pub of_unknown : (i : ℕ) (said : Saying) → RexFault ds Unknown i said → Unknowns said
    of_unknown _ _ (no_active_state i said is) = inl (subst (λ names. IsMissing names (active_names said)) (sym are) is)
    of_unknown _ _ (no_go_state i said is) = inr (subst (λ names. IsMissing names (go_names said)) (sym are) is)

  abbrev pub Limits : ℕ → Saying → Type 0
  Limits i said = IsPast one_state 63 ds i ⊎ IsPast counted_positions 4096 ds i

  pub to_limit : (i : ℕ) (said : Saying) → Limits i said → RexFault ds Limit i said
  to_limit i said (inl is) = too_many_states i said is
  to_limit i said (inr is) =
      too_many_positions i said ((capped_sum positions_of counted_positions 4096 (λ said. refl) (take (i + 1) ds)).0 is)

  pub of_limit : (i : ℕ) (said : Saying) → RexFault ds Limit i said → Limits i said
  of_limit _ _ (too_many_states i said is) = inl is
  of_limit _ _ (too_many_positions i said is) =
      inr ((capped_sum positions_of counted_positions 4096 (λ said. refl) (take (i + 1) ds)).1 is)

  no_typing : (line : ℕ) → HasAt ds (RexFault ds Typing) line → ⊥
  no_typing line has = by has.place has.declared.said has.fault
    where
      by : (i : ℕ) (said : Saying) → RexFault ds Typing i said → ⊥
      by i said fault = elim fault [ ]

  -- where no state is there twice, they are numbered in the order of their lines
  pub states_apart : ((line : ℕ) → HasAt ds (RexFault ds Twice) line → ⊥)
      → met (codes "STD" ∷ []) (names_by state_name ds) ≡ all_states ds
  states_apart none = as_they_stand state_name (codes "STD" ∷ []) ds
      (λ i d at is. none d.number (record { place = i; declared = d; is = at; number = refl; fault = second_state i d.said is }))
      (λ i d at is. none d.number (record { place = i; declared = d; is = at; number = refl; fault = state_is_std i d.said is }))

-- the first fault, or that the lines are accepted
module _ (lines : List Line) (ds : List (Declared Saying)) (all : DeclareAll RexShape lines ds) (twice : Option ℕ)
    (a : FirstWith ds (RexFault ds Twice) twice) where
  pub twice_fault : (fault : SpecFault) → FirstOf twice None None None fault → IsFirstIn (judged rex lines) fault
  twice_fault = twice_first (judged rex lines) ds all twice a

  module _ (clean : twice ≡ None) (unknown limit : Option ℕ) (b : FirstWith ds (RexFault ds Unknown) unknown)
      (d : FirstWith ds (RexFault ds Limit) limit) where
    none_twice : FirstWith ds (RexFault ds Twice) None
    none_twice = subst (FirstWith ds (RexFault ds Twice)) clean a

    pub later_fault : (fault : SpecFault) → FirstOf None unknown None limit fault → IsFirstIn (judged rex lines) fault
    later_fault = first_of_kinds (judged rex lines) ds all None unknown None limit none_twice b (no_typing ds) d

    pub rex_accepted : (◌≡◌ {A = Option ℕ} None None) × (unknown ≡ None) × (◌≡◌ {A = Option ℕ} None None) × (limit ≡ None)
        → Accepts (judged rex lines) ds
    rex_accepted = none_of_kinds (judged rex lines) ds all None unknown None limit none_twice b (no_typing ds) d
