-- What a list begins with, symbol by symbol.
use Rattle.std.proofs.Common.{◌≡◌, ℕ, ◌↔◌, ◌⊎◌, inl, inr, false, List, ◌∷◌, ◌∙◌}
use Rattle.ck_base.specs.BitSet.{BitSet, Has, Adds}
use Rattle.cfg_model.specs.declared.symbol.Sym.{Sym}
use Rattle.cfg_model.specs.declared.symbol.Sym.TheVariants.{N}
use Rattle.cfg_model.specs.within.Closing.{AllPass}
use Rattle.cfg_model.specs.Rows.{In}
use Rattle.cfg_model.specs.within.Parts.{Begins}

module _ (rows : List BitSet) (null : BitSet) (list : List Sym) where
  -- so far: what the rest begins with is all that is missing
  pub record Beginning (rest : List Sym) (old now : BitSet) : Type 0 where
    pub size : now.size ≡ old.size
    pub only : (t : ℕ) → Has now t → Has old t ⊎ Begins rows null list t
    pub kept : (t : ℕ) → Has old t → Has now t
    pub more : (t : ℕ) → Begins rows null list t → Has now t ⊎ Begins rows null rest t
    pub later : (t : ℕ) → Begins rows null rest t → Begins rows null list t
    pub vanish : AllPass false (Has null) rest ↔ AllPass false (Has null) list

  module _ (rest : List Sym) (old now new : BitSet) where
    pub begin_stop : (n : ℕ) → Beginning (N n ∷ rest) old now → Adds now new (λ t. In rows n t) → (Has null n → ⊥)
        → Adds old new (Begins rows null list) × (AllPass false (Has null) list → ⊥)
    begin_stop n so_far adds lacks = (
      record {
        size = adds.size ∙ so_far.size;
        only = λ t has. elim (adds.only t has) [ inl was ↦ so_far.only t was | inr is ↦ inr (so_far.later t (inl is)) ];
        kept = λ t has. adds.kept t (so_far.kept t has);
        more = λ t b. elim (so_far.more t b) [
          | inl has ↦ adds.kept t has
          | inr (inl is) ↦ adds.more t is
          | inr (inr (vanish, _)) ↦ absurd (lacks vanish)
        ];
      },
      λ all. lacks (so_far.vanish.1 all).0,
    )

    pub begin_pass : (n : ℕ) → Beginning (N n ∷ rest) old now → Adds now new (λ t. In rows n t) → Has null n → Beginning rest old new
    begin_pass n so_far adds vanish = record {
      size = adds.size ∙ so_far.size;
      only = λ t has. elim (adds.only t has) [ inl was ↦ so_far.only t was | inr is ↦ inr (so_far.later t (inl is)) ];
      kept = λ t has. adds.kept t (so_far.kept t has);
      more = λ t b. elim (so_far.more t b) [
        | inl has ↦ inl (adds.kept t has)
        | inr (inl is) ↦ inl (adds.more t is)
        | inr (inr (_, behind)) ↦ inr behind
      ];
      later = λ t b. so_far.later t (inr (vanish, b));
      vanish = (λ all. so_far.vanish.0 (vanish, all), λ all. (so_far.vanish.1 all).1);
    }
