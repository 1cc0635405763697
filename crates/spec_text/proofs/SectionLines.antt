-- How the lines are read section by section.
use Rattle.std.proofs.Common.{◌≡◌, ℕ, zero, suc, ◌+◌, ◌*◌, ◌<◌, ◌≤◌, List, [], ◌∷◌, ◌++◌, length, take, drop, Some, None, refl, sym, ap, ◌∙◌, codes, arith, append_assoc}
use Rattle.std.specs.List.{slice_get}
use Rattle.std.specs.Prelude.{◌==◌, if◌then◌else◌}
use Rattle.std.proofs.lemmas.List.{append-nil}
use Rattle.spec_text.specs.declared.section.Section.{Section}
use Rattle.spec_text.specs.declared.section.Section.TheVariants.{Rex, Lalr, Ell, Ast, Ag, Puma, Beg}
use Rattle.spec_text.specs.declared.section.Part.{Part}
use Rattle.spec_text.specs.declared.order.State.{State}
use Rattle.spec_text.specs.declared.order.State.TheVariants.{Start, Open, Closed}
use Rattle.spec_text.specs.Lexemes.{word}
use Rattle.spec_text.specs.Lines.{Line}
use Rattle.spec_text.specs.Sections.{name_of, rank, IsHead, IsEnd, IsPlain, Inside, part_from, Stand, closed, part, AreSections, Breaks, SectionFault, breaks, unclosed}
use Rattle.spec_text.specs.SectionSteps.{Within, Left, Moves, Stuck}

-- a section's name names one section
abbrev hash : List ℕ → ℕ
hash [] = 0
hash (a ∷ []) = 0
hash (a ∷ b ∷ rest) = a * 256 + b

abbrev section_at : ℕ → Section
section_at n =
    if n == 21061 then Rex else if n == 19521 then Lalr else if n == 17740 then Ell else if n == 16723 then Ast
    else if n == 16711 then Ag else if n == 20565 then Puma else Beg

back : (section : Section) → section_at (hash (name_of section)) ≡ section
back Rex = refl
back Lalr = refl
back Ell = refl
back Ast = refl
back Ag = refl
back Puma = refl
back Beg = refl

pub one_name : (s t : Section) → name_of s ≡ name_of t → s ≡ t
one_name s t same = sym (back s) ∙ ap (λ n. section_at (hash n)) same ∙ back t

pub not_end : (s : Section) → name_of s ≡ codes "END" → ⊥
not_end Rex same = let code = ap hash same in omega (arith, code)
not_end Lalr same = let code = ap hash same in omega (arith, code)
not_end Ell same = let code = ap hash same in omega (arith, code)
not_end Ast same = let code = ap hash same in omega (arith, code)
not_end Ag same = let code = ap hash same in omega (arith, code)
not_end Puma same = let code = ap hash same in omega (arith, code)
not_end Beg same = let code = ap hash same in omega (arith, code)

one_word : (a b : List ℕ) → word a ∷ [] ≡ word b ∷ [] → a ≡ b
one_word a b same = cc

pub one_head : (s t : Section) (line : Line) → IsHead s line → IsHead t line → s ≡ t
one_head s t line head its = one_name s t (one_word (name_of s) (name_of t) (sym head.said ∙ its.said))

pub head_end : (s : Section) (line : Line) → IsHead s line → IsEnd line → ⊥
head_end s line head end = not_end s (one_word (name_of s) (codes "END") (sym head.said ∙ end.said))

-- one line of what is left
pub head_in : (t : Section) (k at : ℕ) (line : Line) (lines : List Line) (parts : List Part) → IsHead t line → Stand k at (line ∷ lines) parts
    → (rank t ≡ k) × Within t at (at + 1) lines parts
head_in t _ _ _ _ _ head (closed k at line some end) = absurd (head_end t line head end)
head_in t _ _ _ _ _ head (part k at s line inside rest parts is_rank its plain stand) =
    let same = one_head s t line its head in (
      rw (← same) is_rank,
      record {
        inside = inside;
        rest = rest;
        others = parts;
        are = refl;
        plain = plain;
        stand = (let is : rank t + 1 ≡ k + 1 = rw (← same) (ap (λ n. n + 1) is_rank) in rw is stand);
        all = rw same refl;
      },
    )

head_out : (t : Section) (k at : ℕ) (line : Line) (lines : List Line) (parts : List Part) → IsHead t line → rank t ≡ k → Within t at (at + 1) lines parts
    → Stand k at (line ∷ lines) parts
head_out t k at line lines parts head is_rank within = rw (within.are, within.all)
    (part k at t line within.inside within.rest within.others is_rank head within.plain (let is : k + 1 ≡ rank t + 1 = ap (λ n. n + 1) (sym is_rank) in rw is within.stand))

end_in : (k at : ℕ) (line : Line) (lines : List Line) (parts : List Part) → IsEnd line → Stand k at (line ∷ lines) parts → (lines ≡ []) × (parts ≡ [])
end_in _ _ _ _ _ end (closed k at line some its) = (refl, refl)
end_in _ _ _ _ _ end (part k at s line inside rest parts is_rank its plain stand) = absurd (head_end s line its end)

pub plain_in : (k at : ℕ) (line : Line) (lines : List Line) (parts : List Part) → IsPlain line → Stand k at (line ∷ lines) parts → ⊥
plain_in _ _ _ _ _ plain (closed k at line some its) = plain.no_end its
plain_in _ _ _ _ _ plain (part k at s line inside rest parts is_rank its inner stand) = plain.no_head s its

-- a section line ends the open section
pub record Ended (s : Section) (h at : ℕ) (line : Line) (lines : List Line) (parts : List Part) : Type 0 where
  pub others : List Part
  pub stand : Stand (rank s + 1) at (line ∷ lines) others
  pub all : parts ≡ part_from s h at ∷ others

ended_in : (s : Section) (h at : ℕ) (line : Line) (lines : List Line) (parts : List Part) → (IsPlain line → ⊥) → Within s h at (line ∷ lines) parts → Ended s h at line lines parts
ended_in s h at line lines parts no_plain within = by within.inside within.rest within.others within.are within.plain within.stand within.all
  where
    by : (inside rest : List Line) (others : List Part) → line ∷ lines ≡ inside ++ rest → Inside inside → Stand (rank s + 1) (at + length inside) rest others
        → parts ≡ part_from s h (at + length inside) ∷ others → Ended s h at line lines parts
    by [] rest others are plain stand all =
        let here : at + 0 ≡ at = omega arith in
        record { others = others; stand = (rw (here, ← are) at stand); all = (rw here at all) }
    by (x ∷ inside) rest others are plain stand all = absurd (no_plain (let same : line ≡ x = cc in rw same plain.0))

ended_out : (s : Section) (h at : ℕ) (line : Line) (lines : List Line) (parts others : List Part) → Stand (rank s + 1) at (line ∷ lines) others → parts ≡ part_from s h at ∷ others
    → Within s h at (line ∷ lines) parts
ended_out s h at line lines parts others stand all =
    let here : at + 0 ≡ at = omega arith in
    record { inside = []; rest = line ∷ lines; others = others; are = refl; plain = tt; stand = rw here stand; all = rw here all }

-- another line stays in it
more_in : (s : Section) (h at : ℕ) (line : Line) (lines : List Line) (parts : List Part) → IsPlain line → Within s h at (line ∷ lines) parts → Within s h (at + 1) lines parts
more_in s h at line lines parts is_plain within = by within.inside within.rest within.others within.are within.plain within.stand within.all
  where
    by : (inside rest : List Line) (others : List Part) → line ∷ lines ≡ inside ++ rest → Inside inside → Stand (rank s + 1) (at + length inside) rest others
        → parts ≡ part_from s h (at + length inside) ∷ others → Within s h (at + 1) lines parts
    by [] rest others are plain stand all = absurd (plain_in (rank s + 1) (at + 0) line lines others is_plain (rw are stand))
    by (x ∷ inside) rest others are plain stand all =
        let here : at + length (x ∷ inside) ≡ at + 1 + length inside = omega arith in
        record { inside = inside; rest = rest; others = others; are = (cc); plain = plain.1; stand = (rw here at stand); all = (rw here at all) }

more_out : (s : Section) (h at : ℕ) (line : Line) (lines : List Line) (parts : List Part) → IsPlain line → Within s h (at + 1) lines parts → Within s h at (line ∷ lines) parts
more_out s h at line lines parts is_plain within =
    let here : at + length (line ∷ within.inside) ≡ at + 1 + length within.inside = omega arith in
    record {
      inside = line ∷ within.inside;
      rest = within.rest;
      others = within.others;
      are = ap (λ l. line ∷ l) within.are;
      plain = (is_plain, within.plain);
      stand = rw here within.stand;
      all = rw here within.all;
    }

-- the steps
pub start_head : (t : Section) (at : ℕ) (line : Line) → IsHead t line → rank t ≡ 0 → Moves Start at line (Open t at) []
start_head t at line head first = record {
  into = λ lines parts left. head_out t 0 at line lines parts head first left;
  from = λ lines all left. (all, refl, (head_in t 0 at line lines all head left).1);
}

pub open_head : (s t : Section) (h at : ℕ) (line : Line) → IsHead t line → rank t ≡ rank s + 1 → Moves (Open s h) at line (Open t at) (part_from s h at ∷ [])
open_head s t h at line head next = record {
  into = λ lines parts left. ended_out s h at line lines (part_from s h at ∷ parts) parts (head_out t (rank s + 1) at line lines parts head next left) refl;
  from = λ lines all left.
      let ended = ended_in s h at line lines all (λ plain. plain.no_head t head) left in
      (ended.others, ended.all, (head_in t (rank s + 1) at line lines ended.others head ended.stand).1);
}

pub open_other : (s t : Section) (h at : ℕ) (line : Line) → IsHead t line → (rank t ≡ rank s + 1 → ⊥) → Stuck (Open s h) at line
open_other s t h at line head not_next lines all left =
    let ended = ended_in s h at line lines all (λ plain. plain.no_head t head) left in
    not_next (head_in t (rank s + 1) at line lines ended.others head ended.stand).0

pub open_end : (s : Section) (h at : ℕ) (line : Line) → IsEnd line → Moves (Open s h) at line Closed (part_from s h at ∷ [])
open_end s h at line end = record {
  into = λ lines parts left. ended_out s h at line lines (part_from s h at ∷ parts) parts
      (rw (left.0, left.1) (closed (rank s + 1) at line (omega arith) end)) refl;
  from = λ lines all left.
      let ended = ended_in s h at line lines all (λ plain. plain.no_end end) left in
      (ended.others, ended.all, end_in (rank s + 1) at line lines ended.others end ended.stand);
}

pub open_plain : (s : Section) (h at : ℕ) (line : Line) → IsPlain line → Moves (Open s h) at line (Open s h) []
open_plain s h at line plain = record {
  into = λ lines parts left. more_out s h at line lines parts plain left;
  from = λ lines all left. (all, refl, more_in s h at line lines all plain left);
}

-- the lines so far
pub record SoFar (lines : List Line) (i : ℕ) (state : State) (done : List Part) : Type 0 where
  pub into : (more : List Line) (parts : List Part) → Left state i more parts → AreSections (take i lines ++ more) (done ++ parts)
  pub from : (more : List Line) (all : List Part) → AreSections (take i lines ++ more) all → (parts : List Part) × (all ≡ done ++ parts) × Left state i more parts

pub no_lines_yet : (lines : List Line) (done : List Part) → done ≡ [] → SoFar lines 0 Start done
no_lines_yet lines done none = rw none (record {
  into = λ more parts left. left;
  from = λ more all are. (all, refl, are);
})

take_more : (lines : List Line) (i : ℕ) (line : Line) (more : List Line) → slice_get lines i ≡ Some line → take (i + 1) lines ++ more ≡ take i lines ++ line ∷ more
take_more [] i line more at = cc
take_more (x ∷ lines) zero line more at = let same : x ≡ line = cc in rw same refl
take_more (x ∷ lines) (suc i) line more at =
    let one : suc i + 1 ≡ suc (i + 1) = omega arith in
    rw one (ap (λ l. x ∷ l) (take_more lines i line more at))

pub next_line : (lines : List Line) (i : ℕ) (state next : State) (done ended new : List Part) (line : Line) → SoFar lines i state done → slice_get lines i ≡ Some line
    → Moves state i line next ended → new ≡ done ++ ended → SoFar lines (i + 1) next new
next_line lines i state next done ended new line so at moves is_new = rw is_new (record {
  into = λ more parts left. rw (take_more lines i line more at, append_assoc done ended parts) (so.into (line ∷ more) (ended ++ parts) (moves.into more parts left));
  from = λ more all are.
      let before = so.from (line ∷ more) all (rw (take_more lines i line more at) at are) in
      let here = moves.from more before.0 before.2 in
      (here.0, before.1 ∙ ap (λ l. done ++ l) here.1 ∙ sym (append_assoc done ended here.0), here.2);
})

-- the lines so far can go on
pub record GoesOn (state : State) (at : ℕ) : Type 0 where
  pub more : List Line
  pub parts : List Part
  pub left : Left state at more parts

abbrev alone : List ℕ → Line
alone name = record { number = 0; bad = None; tokens = record { said = word name; from = 0; to = 0 } ∷ [] }

open_goes : (s : Section) (h at : ℕ) → Within s h at (alone (codes "END") ∷ []) (part_from s h at ∷ [])
open_goes s h at = ended_out s h at (alone (codes "END")) [] (part_from s h at ∷ []) [] (closed (rank s + 1) at (alone (codes "END")) (omega arith) (record { good = refl; said = refl })) refl

goes_on : (state : State) (at : ℕ) → GoesOn state at
goes_on Start at = record {
  more = alone (codes "REX") ∷ alone (codes "END") ∷ [];
  parts = part_from Rex at (at + 1) ∷ [];
  left = head_out Rex 0 at (alone (codes "REX")) (alone (codes "END") ∷ []) (part_from Rex at (at + 1) ∷ []) (record { good = refl; said = refl }) refl (open_goes Rex at (at + 1));
}
goes_on (Open s h) at = record { more = alone (codes "END") ∷ []; parts = part_from s h at ∷ []; left = open_goes s h at }
goes_on Closed at = record { more = []; parts = []; left = (refl, refl) }

cut : (n i : ℕ) (lines more : List Line) → n ≤ i → take n lines ++ (drop n (take i lines) ++ more) ≡ take i lines ++ more
cut zero i lines more less = refl
cut (suc n) zero lines more less = absurd (omega (arith, less))
cut (suc n) (suc i) [] more less = refl
cut (suc n) (suc i) (x ∷ lines) more less = ap (λ l. x ∷ l) (cut n i lines more (omega (arith, less)))

fine : (lines : List Line) (i : ℕ) (state : State) (done : List Part) → SoFar lines i state done → (j : ℕ) → j < i → Breaks lines j → ⊥
fine lines i state done so j less broken =
    let on = goes_on state i in
    broken (drop (j + 1) (take i lines) ++ on.more) (done ++ on.parts) (rw (cut (j + 1) i lines on.more (omega (arith, less))) (so.into on.more on.parts on.left))

pub broken_here : (past : ℕ) (lines : List Line) (i : ℕ) (state : State) (done : List Part) (line : Line) → SoFar lines i state done → slice_get lines i ≡ Some line
    → Stuck state i line → SectionFault past lines line.number
broken_here past lines i state done line so at stuck = breaks i line at
    (λ more parts are. let before = so.from (line ∷ more) parts (rw (take_more lines i line more at) at are) in stuck more before.0 before.2)
    (fine lines i state done so)

take_all : (lines : List Line) (i : ℕ) → i ≡ length lines → take i lines ≡ lines
take_all [] i is = rw is refl
take_all (x ∷ lines) zero is = absurd (omega (arith, is))
take_all (x ∷ lines) (suc i) is = ap (λ l. x ∷ l) (take_all lines i (omega (arith, is)))

pub all_closed : (lines : List Line) (i : ℕ) (state : State) (done : List Part) → SoFar lines i state done → i ≡ length lines → state ≡ Closed → AreSections lines done
all_closed lines i state done so is is_closed =
    let are = so.into [] [] (rw is_closed (refl, refl)) in
    rw (take_all lines i is, append-nil lines, append-nil done) at are

nothing_left : (state : State) (at : ℕ) (parts : List Part) → (state ≡ Closed → ⊥) → Left state at [] parts → ⊥
nothing_left Closed at parts unclosed_is left = unclosed_is refl
nothing_left Start at parts unclosed_is left = elim left [ ]
nothing_left (Open s h) at parts unclosed_is left = by left.inside left.rest left.others left.are left.stand
  where
    by : (inside rest : List Line) (others : List Part) → [] ≡ inside ++ rest → Stand (rank s + 1) (at + length inside) rest others → ⊥
    by [] [] others are stand = elim stand [ ]
    by [] (x ∷ rest) others are stand = cc
    by (x ∷ inside) rest others are stand = cc

pub all_unclosed : (past : ℕ) (lines : List Line) (i : ℕ) (state : State) (done : List Part) → SoFar lines i state done → i ≡ length lines → (state ≡ Closed → ⊥) → SectionFault past lines past
all_unclosed past lines i state done so is not_closed = unclosed
    (λ j less. fine lines i state done so j (omega (arith, less, is)))
    (λ parts are.
    let whole : take i lines ++ [] ≡ lines = rw (take_all lines i is) (append-nil lines) in
    let before = so.from [] parts (rw whole are) in
    nothing_left state i before.0 not_closed before.2)
