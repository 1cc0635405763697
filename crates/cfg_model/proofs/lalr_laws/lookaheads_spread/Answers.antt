use Rattle.cfg_model.proofs.LooksSpread.{looks_spread}
use Rattle.cfg_model.proofs.lalr_laws.lookaheads_spread.Goals as goal

pub returns : goal.returns
returns c = looks_spread
