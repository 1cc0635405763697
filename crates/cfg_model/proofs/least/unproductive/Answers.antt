-- What the set of productive ones lacks first is the least that derives no word.
use Rattle.std.proofs.Common.{ℕ, Option, Some, None}
use Rattle.ck_base.specs.BitSet.{BitSet}
use Rattle.cfg_model.specs.Cfg.{Cfg}
use Rattle.cfg_model.specs.Rows.{IsSetOf}
use Rattle.cfg_model.specs.Sets.{Productive}
use Rattle.cfg_model.specs.Searches.{IsUnproductive}
use Rattle.cfg_model.specs.within.Closing.{LacksFirst}
use Rattle.cfg_model.proofs.least.unproductive.Goals as goal

lacks_unproductive : (g : Cfg) (set : BitSet) (found : Option ℕ) → IsSetOf g.nonterminals (Productive g) set → LacksFirst set found → IsUnproductive g found
lacks_unproductive g set None are full = λ n below. are.only n (full n (rw are.size below))
lacks_unproductive g set (Some n) are (below, lacks, before) =
    (rw are.size at below, (λ makes. lacks (are.all n makes)), λ m less. are.only m (before m less))

pub returns : goal.returns
returns c = lacks_unproductive c.args.g.now c.in_ok-set.set c.least_lacking-least.result c.in_ok-set.ensures c.least_lacking-least.ensures
