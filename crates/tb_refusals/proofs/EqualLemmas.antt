-- Messages are equal where they are the same, member by member.
use Rattle.std.proofs.Common.{◌≡◌, ◌&&◌, Bool, true, false, Some, None, refl}
use Rattle.tb_message.specs.declared.message.Message.{Message}
use Rattle.tb_message.specs.declared.message.Message.TheVariants as message
use Rattle.tb_message.specs.contracts.message.MessagePartialEq.TheImpl as messages
use Rattle.tb_history.specs.Same.{same_message}

-- a test in front of one that holds
and_true : (a : Bool) → (a && true) ≡ a
and_true true = refl
and_true false = refl

-- and in front of one that doesn't
and_false : (a : Bool) → (a && false) ≡ false
and_false true = refl
and_false false = refl

-- messages
pub equal_messages : (one other : Message) → messages.ghosts.eq one other ≡ same_message one other
unfolding same_message
equal_messages (message.Register a b) (message.Register c d) = simp and_true
equal_messages (message.Enrol a b) (message.Enrol c d) = simp and_true
equal_messages (message.Holiday a) (message.Holiday b) = simp and_true
equal_messages (message.Announce a) (message.Announce b) = simp and_true
equal_messages (message.Bid a b (Some r) n) (message.Bid c d (Some s) m) = simp and_true
equal_messages (message.Bid a b (Some r) n) (message.Bid c d None m) = simp and_false
equal_messages (message.Bid a b None n) (message.Bid c d (Some s) m) = simp and_false
equal_messages (message.Bid a b None n) (message.Bid c d None m) = simp and_true
equal_messages (message.Cancel a n) (message.Cancel b m) = simp and_true
equal_messages (message.Position a b z) (message.Position c d w) = simp and_true
equal_messages (message.Publish a) (message.Publish b) = simp and_true
equal_messages (message.Settle a) (message.Settle b) = simp and_true
equal_messages (message.Transfer a b n) (message.Transfer c d m) = simp and_true
equal_messages (message.Pledge a b n) (message.Pledge c d m) = simp and_true
equal_messages (message.Release a k n) (message.Release b l m) = simp and_true
equal_messages (message.Redeem a) (message.Redeem b) = simp and_true
equal_messages (message.AddOn a b n) (message.AddOn c d m) = simp and_true
equal_messages (message.Deposit a n) (message.Deposit b m) = simp and_true
equal_messages (message.Withdraw a n) (message.Withdraw b m) = simp and_true
equal_messages (message.Sell a b n x) (message.Sell c d m y) = simp and_true
equal_messages (message.Buy a n) (message.Buy b m) = simp and_true
equal_messages (message.Retract n) (message.Retract m) = simp and_true
equal_messages (message.Bid a b (Some r) n) other = refl
equal_messages (message.Bid a b None n) other = refl
equal_messages one (message.Bid c d (Some s) m) = refl
equal_messages one (message.Bid c d None m) = refl
equal_messages one other = refl
