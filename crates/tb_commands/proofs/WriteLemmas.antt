-- Two pieces that are written one after the other.
use Rattle.std.proofs.Common.{ℕ, List, ◌++◌, Option, sym, subst, ap, ◌∙◌, append_assoc}
use Rattle.tb_link.specs.Counts.{NeverFalls, Rose}
use Rattle.tb_link.specs.Sinks.{SinkState, Takes, FailsToTake, after_taken}
use Rattle.tb_commands.proofs.ScriptLemmas.{after_taken-more}

-- both were taken
pub Takes-both : (old mid new : SinkState) (one other : List ℕ)
    → Takes old mid one
    → Takes mid new other
    → Takes old new (one ++ other)
Takes-both old mid new one other first then = record {
  taken = then.taken ∙ (ap (λ (t : Option (List ℕ)). after_taken t other) first.taken
      ∙ after_taken-more old.taken one other);
  no_fault = then.no_fault ∙ first.no_fault;
}

-- the first failed
pub Fails-first : (old new : SinkState) (one other : List ℕ)
    → FailsToTake old new one
    → FailsToTake old new (one ++ other)
Fails-first old new one other fails = record {
  prefix = (
    fails.prefix.0,
    fails.prefix.1 ++ other,
    ap (λ (l : List ℕ). l ++ other) fails.prefix.2
        ∙ append_assoc fails.prefix.0 fails.prefix.1 other,
    fails.prefix.3,
  );
  rose = fails.rose;
  count = fails.count;
}

-- the first was taken, and the second failed
pub Fails-second : (old mid new : SinkState) (one other : List ℕ)
    → Takes old mid one
    → FailsToTake mid new other
    → FailsToTake old new (one ++ other)
Fails-second old mid new one other first fails = record {
  prefix = (
    one ++ fails.prefix.0,
    fails.prefix.1,
    ap (λ (l : List ℕ). one ++ l) fails.prefix.2
        ∙ sym (append_assoc one fails.prefix.0 fails.prefix.1),
    fails.prefix.3 ∙ (ap (λ (t : Option (List ℕ)). after_taken t fails.prefix.0) first.taken
        ∙ after_taken-more old.taken one fails.prefix.0),
  );
  rose = subst (λ (n : ℕ). Rose n new.faults) first.no_fault fails.rose;
  count = subst (λ (n : ℕ). NeverFalls n new.faults) first.no_fault fails.count;
}
