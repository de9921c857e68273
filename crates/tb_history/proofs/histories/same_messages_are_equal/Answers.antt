-- Messages that are the same are equal, and a message is the same as itself.
use Rattle.std.proofs.Common.{◌≡◌, true, subst}
use Rattle.tb_message.specs.declared.message.Message.{Message}
use Rattle.tb_history.specs.Same.{same_message}
use Rattle.tb_history.proofs.SameLemmas.{same_message-equal, same_message-refl}
use Rattle.tb_history.proofs.histories.same_messages_are_equal.Goals as goal

pub returns : goal.returns
returns c = record {
  same = λ one other. (
    λ same. same_message-equal one other same,
    λ equal. subst (λ (message : Message). same_message one message ≡ true) equal
        (same_message-refl one),
  );
}
