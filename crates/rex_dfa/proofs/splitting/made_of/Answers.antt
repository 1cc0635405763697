use Rattle.rex_model.specs.Meaning.{meaning}
use Rattle.rex_model.specs.TableMeaning.{automaton_of}
use Rattle.rex_dfa.proofs.MadeSplit.{made_is}
use Rattle.rex_dfa.proofs.splitting.made_of.Goals as goal

pub returns-in-Some-2 : goal.returns-in-Some-2
returns-in-Some-2 c = made_is c.args.rule (meaning c.args.body.now) (meaning c.args.context.now) (automaton_of c.in-Some.forward.dfa) (automaton_of c.in-Some-2.backward.dfa) c.in-Some.forward.count c.in-Some-2.backward.count
    (rw c.in-Some.is at c.in_ok-forward.ensures) (rw c.in-Some-2.is at c.in_ok-backward-in-Some.ensures)
