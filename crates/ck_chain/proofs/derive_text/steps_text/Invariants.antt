-- The lines of the steps so far.
use Rattle.std.proofs.Common.{◌≡◌, map, take}
use Rattle.parse_driver.specs.Parse.{move_of}
use Rattle.ck_chain.specs.DeriveText.{derive_text}
use Rattle.ck_chain.proofs.derive_text.steps_text.Given as goal

abbrev pub invariant-loop-step : goal.invariant-loop-step
invariant-loop-step l = l.out.items ≡ derive_text l.names l.labels l.source (map move_of (take l.step-index l.steps))
