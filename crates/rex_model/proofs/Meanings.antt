-- The equations of `meaning` for each kind of expression. Crates that build expressions cite them, too.
use Rattle.std.proofs.Common.{◌≡◌, ℕ, List, map, Bor, sym, ap, ◌∙◌}
use Rattle.rex_model.specs.Language.{Re, bytes, class, star, plus, optional}
use Rattle.rex_model.specs.Meaning.{meaning, node_meaning, sequence_of, alternative_of, set_of}
use Rattle.rex_model.specs.declared.regex.Regex.{Regex}
use Rattle.rex_model.specs.declared.regex.Regex.TheOpen.{Regex-F}
use Rattle.rex_model.specs.declared.regex.Regex.TheFolds.{fold-roll-Regex}
use Rattle.rex_model.specs.declared.regex.Regex.TheVariants.{Bytes, Class, Seq, Alt, Star, Plus, Opt, rolls-Bytes, rolls-Class, rolls-Seq, rolls-Alt, rolls-Star, rolls-Plus, rolls-Opt}

pub meaning-Bytes : (string : Bor (List ℕ)) → meaning (Bytes string) ≡ bytes string.now
meaning-Bytes string = ap meaning (sym (rolls-Bytes string)) ∙ fold-roll-Regex Re node_meaning (Regex-F.Bytes string)

pub meaning-Class : (words : List ℕ) → meaning (Class words) ≡ class (set_of words)
meaning-Class words = ap meaning (sym (rolls-Class words)) ∙ fold-roll-Regex Re node_meaning (Regex-F.Class words)

pub meaning-Seq : (parts : Bor (List Regex)) → meaning (Seq parts) ≡ sequence_of (map meaning parts.now)
meaning-Seq parts = ap meaning (sym (rolls-Seq parts)) ∙ fold-roll-Regex Re node_meaning (Regex-F.Seq parts)

pub meaning-Alt : (parts : Bor (List Regex)) → meaning (Alt parts) ≡ alternative_of (map meaning parts.now)
meaning-Alt parts = ap meaning (sym (rolls-Alt parts)) ∙ fold-roll-Regex Re node_meaning (Regex-F.Alt parts)

pub meaning-Star : (part : Bor Regex) → meaning (Star part) ≡ star (meaning part.now)
meaning-Star part = ap meaning (sym (rolls-Star part)) ∙ fold-roll-Regex Re node_meaning (Regex-F.Star part)

pub meaning-Plus : (part : Bor Regex) → meaning (Plus part) ≡ plus (meaning part.now)
meaning-Plus part = ap meaning (sym (rolls-Plus part)) ∙ fold-roll-Regex Re node_meaning (Regex-F.Plus part)

pub meaning-Opt : (part : Bor Regex) → meaning (Opt part) ≡ optional (meaning part.now)
meaning-Opt part = ap meaning (sym (rolls-Opt part)) ∙ fold-roll-Regex Re node_meaning (Regex-F.Opt part)
