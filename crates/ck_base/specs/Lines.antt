-- What is printed for a refusal, and how the run ends then.
use Rattle.std.specs.Prelude.{ℕ, List, ◌++◌, Some, None, codes}
use Rattle.std.specs.Fmt.{decimal}
use Rattle.ck_base.specs.declared.fault.Kind.{Kind}
use Rattle.ck_base.specs.declared.fault.Kind.TheVariants.{Section, Syntax, Limit, Twice, Unknown, Typing}
use Rattle.ck_base.specs.declared.refusal.Refusal.{Refusal}
use Rattle.ck_base.specs.declared.refusal.Refusal.TheVariants.{Usage, SpecTooLong, BadSpec, NullableRule, TooManyStates, Unproductive, Cyclic, HiddenLeft, LeftRecursive, LalrConflict, LlConflict, RootInherits, TwoEquations, NoEquation, NotOrdered, ZeroCycle, MissingSection, SourceTooLong, BadToken, SyntaxError, SourceTooLarge, NoRule, SpentBudget, TargetTooLarge, NoCover, UsedUp}
use Rattle.ck_base.specs.declared.refusal.StateKind.{StateKind}
use Rattle.ck_base.specs.declared.refusal.StateKind.TheVariants.{Scanner, Split, Parser}
use Rattle.ck_base.specs.declared.status.Status.{Status}
use Rattle.ck_base.specs.declared.status.Status.TheVariants as status

-- the word that is printed for a kind of fault
abbrev pub kind_text_of : Kind → List ℕ
kind_text_of Section = codes "section"
kind_text_of Syntax = codes "syntax"
kind_text_of Limit = codes "limit"
kind_text_of Twice = codes "twice"
kind_text_of Unknown = codes "unknown"
kind_text_of Typing = codes "type"

-- the word that is printed for a kind of table
abbrev pub states_text_of : StateKind → List ℕ
states_text_of Scanner = codes "scanner"
states_text_of Split = codes "split"
states_text_of Parser = codes "parser"

-- a line on a place of the source
abbrev pub source_line : ℕ → ℕ → List ℕ → List ℕ
source_line line col what = codes "source:" ++ (decimal line ++ (codes ":" ++ (decimal col ++ (codes ": " ++ what))))

-- the line of a refusal, without its end
abbrev pub line_of : Refusal → List ℕ
line_of Usage =
    codes "usage: cocktail check SPEC | tokens|derive|tree|attrs|ir|labels|run SPEC SOURCE | bench N"
line_of SpecTooLong = codes "spec: longer than 1048576 bytes"
line_of (BadSpec line kind) = codes "spec:" ++ (decimal line ++ (codes ": " ++ kind_text_of kind))
line_of (NullableRule rule) = codes "spec: rex rule " ++ (decimal rule ++ codes " matches the empty word")
line_of (TooManyStates kind) = codes "spec: more than 4096 " ++ (states_text_of kind ++ codes " states")
line_of (Unproductive name) = codes "spec: " ++ (name ++ codes " derives no word")
line_of (Cyclic name) = codes "spec: " ++ (name ++ codes " derives itself")
line_of (HiddenLeft name) = codes "spec: " ++ (name ++ codes " is hidden left recursive")
line_of (LeftRecursive name) = codes "spec: " ++ (name ++ codes " is left recursive")
line_of (LalrConflict terminal rule None) =
    codes "spec: conflict on " ++ (terminal ++ (codes ": reduce " ++ (rule ++ codes ", shift")))
line_of (LalrConflict terminal rule (Some other)) =
    codes "spec: conflict on " ++ (terminal ++ (codes ": reduce " ++ (rule ++ (codes ", reduce " ++ other))))
line_of (LlConflict name rule other terminal) =
    codes "spec: conflict on " ++ (terminal ++ (codes " in " ++ (name ++ (codes ": " ++ (rule ++ (codes ", " ++ other))))))
line_of (RootInherits attribute) = codes "spec: root inherits " ++ attribute
line_of (TwoEquations holder target) = codes "spec: two equations for " ++ (holder ++ (codes ": " ++ target))
line_of (NoEquation holder target) = codes "spec: no equation for " ++ (holder ++ (codes ": " ++ target))
line_of (NotOrdered holder target) = codes "spec: not ordered at " ++ (holder ++ (codes ": " ++ target))
line_of (ZeroCycle name) = codes "spec: chain rules of " ++ (name ++ codes " cost nothing")
line_of (MissingSection section) = codes "spec: no section " ++ section
line_of SourceTooLong = codes "source: longer than 4194304 bytes"
line_of (BadToken line col) = source_line line col (codes "bad token")
line_of (SyntaxError line col) = source_line line col (codes "syntax error")
line_of SourceTooLarge = codes "source: tree of more than 1048576 nodes"
line_of (NoRule routine) = codes "rewrite: no rule of " ++ routine
line_of (SpentBudget budget) = codes "rewrite: more than " ++ (decimal budget ++ codes " calls")
line_of TargetTooLarge = codes "code: tree of more than 1048576 nodes"
line_of NoCover = codes "code: no cover"
line_of (UsedUp class need have) =
    codes "code: class " ++ (class ++ (codes " needs " ++ (decimal need ++ (codes " registers and has " ++ decimal have))))

-- the status of a run that ends in a refusal
abbrev pub status_of : Refusal → Status
status_of Usage = status.Usage
status_of SpecTooLong = status.Spec
status_of (BadSpec line kind) = status.Spec
status_of (NullableRule rule) = status.Spec
status_of (TooManyStates kind) = status.Spec
status_of (Unproductive name) = status.Spec
status_of (Cyclic name) = status.Spec
status_of (HiddenLeft name) = status.Spec
status_of (LeftRecursive name) = status.Spec
status_of (LalrConflict terminal rule other) = status.Spec
status_of (LlConflict name rule other terminal) = status.Spec
status_of (RootInherits attribute) = status.Spec
status_of (TwoEquations holder target) = status.Spec
status_of (NoEquation holder target) = status.Spec
status_of (NotOrdered holder target) = status.Spec
status_of (ZeroCycle name) = status.Spec
status_of (MissingSection section) = status.Spec
status_of SourceTooLong = status.Source
status_of (BadToken line col) = status.Source
status_of (SyntaxError line col) = status.Source
status_of SourceTooLarge = status.Source
status_of (NoRule routine) = status.Rewrite
status_of (SpentBudget budget) = status.Rewrite
status_of TargetTooLarge = status.Code
status_of NoCover = status.Code
status_of (UsedUp class need have) = status.Code

-- the exit status of the program
abbrev pub code_of : Status → ℕ
code_of status.Done = 0
code_of status.Usage = 1
code_of status.Spec = 2
code_of status.Source = 3
code_of status.Rewrite = 4
code_of status.Code = 5
code_of status.Device = 8
code_of status.Memory = 9
