-- A list as a stream.
use Rattle.std.specs.Prelude.{◌≡◌, List, drop, cond}
use Rattle.parse_driver.specs.Stream.{Ending, finished, bad_at}
use Rattle.parse_driver.specs.declared.listed.Listed.{Listed}
use Rattle.parse_driver.specs.declared.tokens.TokenRef.{TokenRef}

-- the tokens that weren't drawn are to come, with the list's ending
abbrev pub comes_of : Listed → List TokenRef → Ending → Type 0
comes_of listed tokens ending =
    (tokens ≡ drop listed.drawn listed.tokens.now) × (ending ≡ cond listed.is_bad (bad_at listed.place) (finished listed.place))
