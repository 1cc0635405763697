-- The names so far are the tokens so far.
use Rattle.std.proofs.Common.{◌≡◌, map, take}
use Rattle.spec_text.specs.Lexemes.{word}
use Rattle.spec_text.specs.Seen.{bytes_of, seen}
use Rattle.front_spec.proofs.production.all_names.Given as goal

abbrev pub invariant-loop-token : goal.invariant-loop-token
invariant-loop-token l = map seen (take l.token-index l.tokens) ≡ map word (map bytes_of l.names.items)
