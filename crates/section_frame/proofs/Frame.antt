-- What each reader of a section uses: the stage of shapes, a pass for a kind of fault, and the end.
use Rattle.std.proofs.Common.{◌≡◌, ℕ, zero, suc, ◌+◌, ◌<◌, ◌≤◌, ◌⊎◌, inl, inr, List, [], ◌∷◌, ◌++◌, length, take, refl, sym, ap, ◌∙◌, Some, arith}
use Rattle.std.specs.List.{slice_get}
use Rattle.ck_base.specs.declared.fault.Kind.{Kind}
use Rattle.ck_base.specs.declared.fault.SpecFault.{SpecFault}
use Rattle.ck_base.specs.declared.fault.SpecFault.TheVariants.{Bad, NoMemory}
use Rattle.spec_text.specs.Lexemes.{Lexeme}
use Rattle.spec_text.specs.Lines.{Line, said_by, LinesGrow}
use Rattle.spec_text.specs.Least.{Least}
use Rattle.section_frame.specs.FirstFault.{FirstFault, of_shape, ExactlyOne}
use Rattle.section_frame.specs.Declares.{Declared, Notation, kind_of, HasAt, Says, DeclareAll, no_lines, one_line, HasNoShape, LacksShape, IsShapeFault, HasFault, judged, judged_at, IsFirstFault, IsFaultOfLine, Grow}
use Rattle.spec_text.proofs.Lists.{order, take_step, take_get, get_fits}
use Rattle.section_frame.proofs.OneFault.{IsDetermined, exactly_one}

-- a pass over the declarations
module _ {S : Type 0} (ds : List (Declared S)) (F : ℕ → S → Type 0) where
  -- none of the first i has the fault
  abbrev pub NoneBefore : ℕ → Type 0
  NoneBefore i = (j : ℕ) (d : Declared S) → j < i → slice_get ds j ≡ Some d → F j d.said → ⊥

  pub none_at_first : NoneBefore 0
  none_at_first j d less at fault = omega (arith, less)

  pub none_more : (i : ℕ) (d : Declared S) → NoneBefore i → slice_get ds i ≡ Some d → (F i d.said → ⊥) → NoneBefore (i + 1)
  none_more i d none at clean j e less at_j fault = by (order j i)
    where
      by : (j < i) ⊎ ((i < j) ⊎ (j ≡ i)) → ⊥
      by (inl below) = none j e below at_j fault
      by (inr (inl above)) = omega (arith, above, less)
      by (inr (inr same)) = let it : e ≡ d = (let a = rw same at at_j in let b = sym a ∙ at in cc) in clean (rw (same, it) at fault)

  pub none_in_all : (i : ℕ) → i ≡ length ds → NoneBefore i → (line : ℕ) → HasAt ds F line → ⊥
  none_in_all i end none line has =
      let less = get_fits ds has.place has.declared has.is in none has.place has.declared (omega (arith, less, end)) has.is has.fault

  pub first_here : (i : ℕ) (d : Declared S) → Grow ds → NoneBefore i → slice_get ds i ≡ Some d → F i d.said → Least (HasAt ds F) d.number
  first_here i d grow none at fault = record {
    is = record { place = i; declared = d; is = at; number = refl; fault = fault };
    least = λ line has. by line has (order has.place i);
  }
    where
      by : (line : ℕ) (has : HasAt ds F line) → (has.place < i) ⊎ ((i < has.place) ⊎ (has.place ≡ i)) → d.number ≤ line
      by line has (inl below) = absurd (none has.place has.declared below has.is has.fault)
      by line has (inr (inl above)) = let less = grow i has.place d has.declared at has.is above in let n = has.number in omega (arith, less, n)
      by line has (inr (inr same)) = let it : has.declared ≡ d = (let a = rw same at has.is in let b = sym a ∙ at in cc) in
          let n = has.number ∙ ap (λ x. x.number) it in omega (arith, n)

-- the stage of shapes
module _ {S : Type 0} (Shape : List Lexeme → S → Type 0) where
  line_of : (lines : List Line) (ds : List (Declared S)) (i : ℕ) (d : Declared S) → DeclareAll Shape lines ds → slice_get ds i ≡ Some d
      → (line : Line) × (slice_get lines i ≡ Some line) × Says Shape line d
  line_of _ _ i d no_lines at = cc
  line_of _ _ zero d (one_line line lines e ds says more) at = let same : e ≡ d = cc in (line, refl, rw same at says)
  line_of _ _ (suc i) d (one_line line lines e ds says more) at = line_of lines ds i d more at

  said_of : (lines : List Line) (ds : List (Declared S)) (i : ℕ) (line : Line) → DeclareAll Shape lines ds → slice_get lines i ≡ Some line
      → (d : Declared S) × Says Shape line d
  said_of _ _ i line no_lines at = cc
  said_of _ _ zero line (one_line l lines e ds says more) at = let same : l ≡ line = cc in (e, rw same at says)
  said_of _ _ (suc i) line (one_line l lines e ds says more) at = said_of lines ds i line more at

  pub declared_grow : (lines : List Line) (ds : List (Declared S)) → DeclareAll Shape lines ds → LinesGrow lines → Grow ds
  declared_grow lines ds all grow i j d e at_i at_j less =
      let a = line_of lines ds i d all at_i in let b = line_of lines ds j e all at_j in
      let more = grow i j a.0 b.0 a.1 b.1 less in
      let x = a.2.number in let y = b.2.number in omega (arith, more, x, y)

  at_line_end : (lines : List Line) (ds : List (Declared S)) (line : Line) (d : Declared S) → DeclareAll Shape lines ds → Says Shape line d
      → DeclareAll Shape (lines ++ line ∷ []) (ds ++ d ∷ [])
  at_line_end _ _ line d no_lines says = one_line line [] d [] says no_lines
  at_line_end _ _ line d (one_line first lines e ds its more) says =
      one_line first (lines ++ line ∷ []) e (ds ++ d ∷ []) its (at_line_end lines ds line d more says)

  -- one line more declares
  pub declare_more : (lines : List Line) (i : ℕ) (line : Line) (ds new : List (Declared S)) (d : Declared S) → slice_get lines i ≡ Some line
      → DeclareAll Shape (take i lines) ds → Says Shape line d → new ≡ ds ++ d ∷ [] → DeclareAll Shape (take (i + 1) lines) new
  declare_more lines i line ds new d at so says are = rw (take_step lines i line at, are) (at_line_end (take i lines) ds line d so says)

  -- the first line without a shape
  without_shape : (lines : List Line) (i : ℕ) (line : Line) (ds : List (Declared S)) (number : ℕ) (kind : Kind) → LinesGrow lines
      → slice_get lines i ≡ Some line → DeclareAll Shape (take i lines) ds → IsFaultOfLine Shape line (Bad number kind)
      → Least (LacksShape Shape lines) number × HasNoShape Shape lines number kind
  without_shape lines i line ds number kind grow at so is =
      (record { is = (kind, here); least = λ m has. by m has.0 has.1 }, here)
    where
      here : HasNoShape Shape lines number kind
      here = record { place = i; line = line; is = at; number_is = is.0; none = is.2; is_kind = is.1 }

      by : (m : ℕ) (k : Kind) → HasNoShape Shape lines m k → number ≤ m
      by m k has = on (order has.place i)
        where
          on : (has.place < i) ⊎ ((i < has.place) ⊎ (has.place ≡ i)) → number ≤ m
          on (inl less) = let d = said_of (take i lines) ds has.place has.line so (take_get lines i has.place has.line less has.is) in absurd (has.none d.0 d.1)
          on (inr (inl less)) = let more = grow i has.place line has.line at has.is less in let x = is.0 in let y = has.number_is in omega (arith, more, x, y)
          on (inr (inr same)) = let one : has.line ≡ line = (let a = rw same at has.is in let b = sym a ∙ at in cc) in
              let x = is.0 in let y = has.number_is ∙ ap (λ l. l.number) one in omega (arith, x, y)

  pub shape_fault : (lines : List Line) (i : ℕ) (line : Line) (ds : List (Declared S)) (fault : SpecFault) → LinesGrow lines
      → slice_get lines i ≡ Some line → DeclareAll Shape (take i lines) ds → IsFaultOfLine Shape line fault → IsShapeFault Shape lines fault
  shape_fault lines i line ds (Bad number kind) grow at so is = without_shape lines i line ds number kind grow at so is
  shape_fault lines i line ds NoMemory grow at so is = tt

  -- where a line has one shape at most, what lines declare is determined
  module _ (one_shape : (tokens : List Lexeme) (a b : S) → Shape tokens a → Shape tokens b → a ≡ b) where
    one_said : (line : Line) (d e : Declared S) → Says Shape line d → Says Shape line e → d ≡ e
    one_said line d e f g =
        same_record d e (f.number ∙ sym g.number) (one_shape (said_by line) d.said e.said f.shape g.shape)
      where
        same_record : (d e : Declared S) → d.number ≡ e.number → d.said ≡ e.said → d ≡ e
        same_record d e number said =
            ap (λ x. record { number = x; said = d.said }) number ∙ ap (λ s. record { number = e.number; said = s }) said

    one_declared : (lines : List Line) (ds es : List (Declared S)) → DeclareAll Shape lines ds → DeclareAll Shape lines es → ds ≡ es
    one_declared _ _ _ no_lines no_lines = refl
    one_declared _ _ _ (one_line line lines d ds says more) (one_line _ _ e es says2 more2) =
        ap (λ x. x ∷ ds) (one_said line d e says says2) ∙ ap (λ l. e ∷ l) (one_declared lines ds es more more2)

    later : (line : Line) (lines : List Line) (number : ℕ) (kind : Kind) → HasNoShape Shape lines number kind → HasNoShape Shape (line ∷ lines) number kind
    later line lines number kind has =
        record { place = suc has.place; line = has.line; is = has.is; number_is = has.number_is; none = has.none; is_kind = has.is_kind }

    whole : (lines : List Line) → ((number : ℕ) → LacksShape Shape lines number → ⊥) → ((ds : List (Declared S)) → DeclareAll Shape lines ds → ⊥) → ⊥
    whole [] none undeclared = undeclared [] no_lines
    whole (line ∷ lines) none undeclared =
        let rest = whole lines (λ number has. none number (has.0, later line lines number has.0 has.1)) in
        none line.number (
          kind_of line.bad,
          record {
            place = 0;
            line = line;
            is = refl;
            number_is = refl;
            is_kind = refl;
            none = λ d says. rest (λ ds all. undeclared (d ∷ ds) (one_line line lines d ds says all));
          },
        )

    same_line : (lines : List Line) → LinesGrow lines → (number : ℕ) (kind other : Kind) (f : HasNoShape Shape lines number kind) (g : HasNoShape Shape lines number other)
        → f.line ≡ g.line
    same_line lines grow number kind other f g = by (order f.place g.place)
      where
        by : (f.place < g.place) ⊎ ((g.place < f.place) ⊎ (f.place ≡ g.place)) → f.line ≡ g.line
        by (inl less) = let more = grow f.place g.place f.line g.line f.is g.is less in let x = f.number_is in let y = g.number_is in absurd (omega (arith, more, x, y))
        by (inr (inl less)) = let more = grow g.place f.place g.line f.line g.is f.is less in let x = f.number_is in let y = g.number_is in absurd (omega (arith, more, x, y))
        by (inr (inr same)) = let a = rw same at f.is in let b = sym a ∙ g.is in cc

    -- so it is whatever faults the declarations have
    pub determined : (lines : List Line) (Has : List (Declared S) → Kind → ℕ → Type 0) → LinesGrow lines
        → IsDetermined (record { NoShape = HasNoShape Shape lines; Declares = DeclareAll Shape lines; Has = Has })
    determined lines Has grow = record {
      one_kind = λ number kind other f g.
          f.is_kind ∙ ap (λ l. kind_of l.bad) (same_line lines grow number kind other f g) ∙ sym g.is_kind;
      one = one_declared lines;
      apart = λ ds number kind all f. let d = said_of lines ds f.place f.line all f.is in f.none d.0 d.1;
      whole = whole lines;
    }

module _ {S : Type 0} (n : Notation S) where
  pub first_shapeless : (lines : List Line) (i : ℕ) (line : Line) (ds : List (Declared S)) (fault : SpecFault) → LinesGrow lines
      → slice_get lines i ≡ Some line → DeclareAll n.Shape (take i lines) ds → IsFaultOfLine n.Shape line fault → IsFirstFault n lines fault
  first_shapeless lines i line ds (Bad number kind) grow at so is =
      let both = without_shape n.Shape lines i line ds number kind grow at so is in of_shape number kind both.0 both.1
  first_shapeless lines i line ds NoMemory grow at so is = tt

  -- it is the first fault where the section may have one at the line of its head too
  pub first_shapeless_at : (head : ℕ) (AtHead : List (Declared S) → Kind → Type 0) (lines : List Line) (i : ℕ) (line : Line) (ds : List (Declared S))
      (number : ℕ) (kind : Kind) → LinesGrow lines → slice_get lines i ≡ Some line → DeclareAll n.Shape (take i lines) ds
      → IsFaultOfLine n.Shape line (Bad number kind) → FirstFault (judged_at n head AtHead lines) number kind
  first_shapeless_at head AtHead lines i line ds number kind grow at so is =
      let both = without_shape n.Shape lines i line ds number kind grow at so is in of_shape number kind both.0 both.1

  -- where a line has one shape at most, exactly one of fault and declarations is there
  module _ (one_shape : (tokens : List Lexeme) (a b : S) → n.Shape tokens a → n.Shape tokens b → a ≡ b) where
    pub one_of_both : (lines : List Line) → LinesGrow lines → ExactlyOne (judged n lines)
    one_of_both lines grow = exactly_one (judged n lines) (determined n.Shape one_shape lines (HasFault n) grow)

    -- the same, where the section may have a fault at the line of its head too
    pub one_of_both_at : (head : ℕ) (AtHead : List (Declared S) → Kind → Type 0) (lines : List Line) → LinesGrow lines
        → ExactlyOne (judged_at n head AtHead lines)
    one_of_both_at head AtHead lines grow =
        exactly_one (judged_at n head AtHead lines) (determined n.Shape one_shape lines (λ ds kind line. HasFault n ds kind line ⊎ ((line ≡ head) × AtHead ds kind)) grow)
