-- Messages that announce an auction, and messages that settle one.
use Rattle.std.specs.Prelude.{Bool, true, false}
use Rattle.tb_message.specs.declared.message.Message.{Message}
use Rattle.tb_message.specs.declared.message.Message.TheVariants as message

-- the message announces an auction
abbrev pub announces : Message → Bool
announces (message.Announce terms) = true
announces other = false

-- the message settles one
abbrev pub settles : Message → Bool
settles (message.Settle auction) = true
settles other = false
