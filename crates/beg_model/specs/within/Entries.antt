-- The labels as the program keeps them. Only the view of `Labels` cites it.
use Rattle.std.specs.Prelude.{ℕ, ◌+◌, ◌*◌, Option, Some, None, if◌then◌else◌, nat_eq}
use Rattle.beg_model.specs.Labels.{Label}
use Rattle.beg_model.specs.declared.labels.Entry.{Entry}

-- the cost, from its halves
abbrev pub cost_of : Entry → ℕ
cost_of entry = entry.high * 4294967296 + entry.low

-- a cost and a rule, or none where the rule is the greatest number of 32 bits
abbrev pub label_of : Entry → Option Label
label_of entry = if nat_eq entry.rule 4294967295 then None else Some (record { cost = cost_of entry; rule = entry.rule })
