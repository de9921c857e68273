use Rattle.std.proofs.Common.{◌≡◌, length, sym, ◌∙◌, rules}
use Rattle.tb_lock_tests.proofs.TallyLemmas.{addition-may}
use Rattle.tb_lock_tests.proofs.tally.append.Goals as goal

pub give-requires-clause-may : goal.give-requires-clause-may
give-requires-clause-may g c =
    let t = c.take-tally.ensures.taken in
    let behind : c.len-before.result ≡ length c.settle.new.self.numbers.items = search rules in
    addition-may _ c.take-tally.result c.settle.new.self c.add-outcome.new.self c.counted_on.result c.args.number
    c.len-before.result c.add-outcome.result record {
      took = record {
        seen = t.seen;
        doubt = t.doubt;
        faults = t.faults_taken;
        readings = t.readings;
        fixed = t.same_fixed ∙ sym t.fixed;
      };
      settles = c.settle.ensures;
      read = c.counted_on.ensures.read;
      rose = c.counted_on.ensures.rose;
      adds = c.add-outcome.ensures;
    } behind
