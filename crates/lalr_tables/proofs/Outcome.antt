-- What the searches and the cores come to.
use Rattle.std.proofs.Common.{◌≡◌, ℕ, Option, Some, None, Result, Ok, Err, IfErr, sym, subst}
use Rattle.std.specs.Result.{IsErrAnd}
use Rattle.cfg_model.specs.Cfg.{Cfg}
use Rattle.cfg_model.specs.LrTables.{NoneCyclic, NoneHiddenLeft}
use Rattle.cfg_model.specs.Searches.{IsLeast, IsUnproductive, Cyclic, HiddenLeft}
use Rattle.cfg_model.specs.Sets.{AllProductive, Reachable}
use Rattle.cfg_model.specs.declared.refused.LalrError.{LalrError}
use Rattle.cfg_model.specs.declared.refused.LalrError.TheVariants as fault
use Rattle.lalr_look.specs.Promise.{NoCores}
use Rattle.lalr_tables.specs.Promise.{IsRefused}

-- what a search says where it found none
pub all_productive : (g : Cfg) (found : Option ℕ) → found ≡ None → IsUnproductive g found → AllProductive g
all_productive g None is all = all
all_productive g (Some n) is found = cc

pub none_cyclic : (g : Cfg) (found : Option ℕ) → found ≡ None → IsLeast (λ n. Reachable g n × Cyclic g n) found → NoneCyclic g
none_cyclic g None is none_is = λ n reachable cyclic. none_is n (reachable, cyclic)
none_cyclic g (Some n) is found = cc

pub none_hidden : (g : Cfg) (found : Option ℕ) → found ≡ None → IsLeast (λ n. Reachable g n × HiddenLeft g n) found → NoneHiddenLeft g
none_hidden g None is none_is = λ n reachable hidden. none_is n (reachable, hidden)
none_hidden g (Some n) is found = cc

-- where there are no cores, the grammar has too many
pub too_many : (g : Cfg) (e : LalrError) → AllProductive g → NoneCyclic g → NoneHiddenLeft g → NoCores g e → IsRefused g e
too_many g fault.NoMemory all cyclic hidden never = tt
too_many g fault.TooManyStates all cyclic hidden more = (all, cyclic, hidden, more)
too_many g (fault.Unproductive n) all cyclic hidden never = absurd never
too_many g (fault.Cyclic n) all cyclic hidden never = absurd never
too_many g (fault.HiddenLeft n) all cyclic hidden never = absurd never
too_many g (fault.LalrConflict t r o) all cyclic hidden never = absurd never

-- what is known of an error is known of the one that `?` passes on
pub passed_on : {T E : Type 0} (r : Result T E) (e : E) (P : E → Type 0) → IsErrAnd r (λ f. f ≡ e) → P e → IfErr r P
passed_on (Ok x) e P is known = tt
passed_on (Err f) e P is known = subst P (sym is) known
