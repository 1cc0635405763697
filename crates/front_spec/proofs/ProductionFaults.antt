-- The faults of a grammar's lines, by the tests that find them.
use Rattle.std.proofs.Common.{◌≡◌, ℕ, ◌+◌, ◌⊎◌, inl, inr, ◌↔◌, ◌==◌, IsTrue, Bool, List, [], ◌∷◌, ◌++◌, length, map, refl, sym, ap, ◌∙◌, Option, None, subst, codes}
use Rattle.ck_base.specs.declared.fault.Kind.{Kind}
use Rattle.ck_base.specs.declared.fault.Kind.TheVariants.{Limit, Twice, Unknown, Typing}
use Rattle.ck_base.specs.declared.fault.SpecFault.{SpecFault}
use Rattle.section_frame.specs.Declares.{Declared, DeclareAll, HasAt}
use Rattle.section_frame.specs.FirstFault.{Accepts}
use Rattle.spec_text.specs.Sections.{SectionLines}
use Rattle.section_frame.specs.Passes.{FirstWith, judged_by}
use Rattle.section_frame.specs.Stages.{FirstOf, FirstOfKind, IsFirstIn, at_head_or}
use Rattle.section_frame.specs.Words.{IsAgain, IsAmong, IsMissing, IsPast, ArePast}
use Rattle.section_frame.specs.declared.pass.Numbered.{Numbered}
use Rattle.section_frame.proofs.Staged.{first_of_kinds, none_of_kinds, not_at_head, at_head}
use Rattle.front_spec.specs.GrammarShapes.{SaidProduction, ProductionLine}
use Rattle.front_spec.specs.GrammarFaults.{nonterminals_in, label_name, left_name, one, GrammarFault, second_label, left_is_token, left_is_end, no_symbol, too_many_rules, too_many_symbols, NoProduction, empty, grammar}
use Rattle.front_spec.specs.GrammarPromise.{judged_grammar}
use Rattle.front_spec.specs.GrammarSteps.{produced}
use Rattle.front_spec.specs.declared.production.Production.{Production}
use Rattle.front_spec.proofs.MadeRules.{is_same}

-- one kind of fault is what its tests find
module _ (tokens : List (List ℕ)) (ds : List (Declared SaidProduction)) where
  abbrev pub Twices : ℕ → SaidProduction → Type 0
  Twices i said = IsAgain label_name ds i said ⊎ (IsAmong left_name tokens said ⊎ IsAmong left_name (codes "END" ∷ []) said)

  abbrev pub Limits : ℕ → SaidProduction → Type 0
  Limits i said = IsPast one 1024 ds i ⊎ ArePast left_name (length tokens + 1) 512 ds i

  pub to_twice : (i : ℕ) (said : SaidProduction) → Twices i said → GrammarFault tokens ds Twice i said
  to_twice i said (inl is) = second_label i said is
  to_twice i said (inr (inl is)) = left_is_token i said is
  to_twice i said (inr (inr is)) = left_is_end i said is

  pub of_twice : (i : ℕ) (said : SaidProduction) → GrammarFault tokens ds Twice i said → Twices i said
  of_twice _ _ (second_label i said is) = inl is
  of_twice _ _ (left_is_token i said is) = inr (inl is)
  of_twice _ _ (left_is_end i said is) = inr (inr is)

  pub of_unknown : (i : ℕ) (said : SaidProduction) → GrammarFault tokens ds Unknown i said
      → IsMissing (tokens ++ nonterminals_in ds) said.right
  of_unknown _ _ (no_symbol i said is) = is

  pub to_limit : (i : ℕ) (said : SaidProduction) → Limits i said → GrammarFault tokens ds Limit i said
  to_limit i said (inl is) = too_many_rules i said is
  to_limit i said (inr is) = too_many_symbols i said is

  pub of_limit : (i : ℕ) (said : SaidProduction) → GrammarFault tokens ds Limit i said → Limits i said
  of_limit _ _ (too_many_rules i said is) = inl is
  of_limit _ _ (too_many_symbols i said is) = inr is

  not_typing : (line : ℕ) → HasAt ds (GrammarFault tokens ds Typing) line → ⊥
  not_typing line has = by has.place has.declared.said has.fault
    where
      by : (i : ℕ) (said : SaidProduction) → GrammarFault tokens ds Typing i said → ⊥
      by i said fault = elim fault [ ]

-- whether there is a rule
pub is_without_rule : (list : List (Numbered Production)) (is : Bool) → is ≡ (length list == 0)
    → IsTrue is ↔ NoProduction (map (judged_by produced) list) Unknown
is_without_rule [] is means = (λ hit. empty refl, λ none. means)
is_without_rule (p ∷ list) is means =
    (λ hit. let none = is_same (length (p ∷ list)) 0 (sym means ∙ hit) in cc, λ none. by none refl)
  where
    by : {kind : Kind} → NoProduction (map (judged_by produced) (p ∷ list)) kind → kind ≡ Unknown → IsTrue is
    by (empty none) at = cc

-- the first fault, or that the lines are accepted
module _ (tokens : List (List ℕ)) (these : SectionLines) (ds : List (Declared SaidProduction)) (all : DeclareAll ProductionLine these.inside ds)
    (is : Bool) (means : IsTrue is ↔ NoProduction ds Unknown) (twice unknown limit : Option ℕ)
    (a : FirstWith ds (GrammarFault tokens ds Twice) twice) (b : FirstWith ds (GrammarFault tokens ds Unknown) unknown)
    (d : FirstWith ds (GrammarFault tokens ds Limit) limit) where
  at_twice : FirstOfKind (judged_grammar tokens these) ds Twice twice
  at_twice = not_at_head (grammar tokens) these.head NoProduction these.inside ds Twice (λ at. elim at [ ]) twice a

  at_unknown : FirstOfKind (judged_grammar tokens these) ds Unknown (at_head_or is these.head unknown)
  at_unknown = at_head (grammar tokens) these.head NoProduction these.inside ds Unknown is means unknown b

  at_typing : FirstOfKind (judged_grammar tokens these) ds Typing None
  at_typing = not_at_head (grammar tokens) these.head NoProduction these.inside ds Typing (λ at. elim at [ ]) None (not_typing tokens ds)

  at_limit : FirstOfKind (judged_grammar tokens these) ds Limit limit
  at_limit = not_at_head (grammar tokens) these.head NoProduction these.inside ds Limit (λ at. elim at [ ]) limit d

  -- the line of the head by the number that the program has
  module _ (head : ℕ) (line : Option ℕ) (at : head ≡ these.head) (found : line ≡ at_head_or is head unknown) where
    here : FirstOfKind (judged_grammar tokens these) ds Unknown line
    here = subst (FirstOfKind (judged_grammar tokens these) ds Unknown) (sym (found ∙ ap (λ n. at_head_or is n unknown) at)) at_unknown

    pub grammar_fault : (fault : SpecFault) → FirstOf twice line None limit fault → IsFirstIn (judged_grammar tokens these) fault
    grammar_fault = first_of_kinds (judged_grammar tokens these) ds all twice line None limit at_twice here at_typing at_limit

    pub grammar_accepted : (twice ≡ None) × (line ≡ None) × (◌≡◌ {A = Option ℕ} None None) × (limit ≡ None)
        → Accepts (judged_grammar tokens these) ds
    grammar_accepted = none_of_kinds (judged_grammar tokens these) ds all twice line None limit at_twice here at_typing at_limit
