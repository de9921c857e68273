-- Entries with the same values are the same entry.
use Rattle.std.proofs.Common.{◌≡◌, Some, None, ap}
use Rattle.tb_units.specs.Same.{same_dollars, same_cents, same_rate, same_day, same_moment}
use Rattle.tb_terms.specs.declared.announcement.Announcement.{Announcement}
use Rattle.tb_terms.specs.Same.{same_cusip, AgreeInAll, same_announcement}
use Rattle.tb_message.specs.declared.message.Message.{Message}
use Rattle.tb_message.specs.declared.message.Message.TheVariants as message
use Rattle.tb_message.specs.declared.message.Entry.{Entry}
use Rattle.tb_message.specs.Messages.{kind_of, parts_of}
use Rattle.tb_message.specs.Spelling.{head_of}

-- two entries have one submitter, number and moment, one kind, and one value of each member
pub record IsSame (one other : Entry) : Type 0 where
  pub head : head_of one ≡ head_of other
  pub kind : kind_of one.message ≡ kind_of other.message
  pub body : parts_of one.message ≡ parts_of other.message

-- announcements with the same values of their members agree in all
agree : (one other : Announcement)
    → parts_of (message.Announce one) ≡ parts_of (message.Announce other)
    → AgreeInAll one other
agree one other same = record {
  auction = cc;
  cusip = cc;
  offering = cc;
  minimum = cc;
  ceiling = cc;
  floor = cc;
  threshold = cc;
  date = cc;
  noncompetitive_close = cc;
  competitive_close = cc;
  issued = cc;
  matures = cc;
}

-- messages of one kind with the same values of their members are one
pub messages : (one other : Message) → kind_of one ≡ kind_of other → parts_of one ≡ parts_of other → one ≡ other
messages (message.Register a b) (message.Register c d) k p = cc
messages (message.Enrol a b) (message.Enrol c d) k p = cc
messages (message.Holiday a) (message.Holiday b) k p = let x = same_day a b cc in cc
messages (message.Announce a) (message.Announce b) k p = ap message.Announce (same_announcement a b (agree a b p))
messages (message.Bid a b (Some r) x) (message.Bid c d (Some s) y) k p = let i = same_rate r s cc in
    let j = same_dollars x y cc in cc
messages (message.Bid a b None x) (message.Bid c d None y) k p = let j = same_dollars x y cc in cc
messages (message.Cancel a b) (message.Cancel c d) k p = cc
messages (message.Position a b z) (message.Position c d y) k p = cc
messages (message.Publish a) (message.Publish b) k p = cc
messages (message.Settle a) (message.Settle b) k p = cc
messages (message.Transfer a b x) (message.Transfer c d y) k p = let i = same_cusip a c cc in
    let j = same_dollars x y cc in cc
messages (message.Pledge a b x) (message.Pledge c d y) k p = let i = same_cusip a c cc in let j = same_dollars x y cc in
    cc
messages (message.Release a b x) (message.Release c d y) k p = let j = same_dollars x y cc in cc
messages (message.Redeem a) (message.Redeem b) k p = let i = same_cusip a b cc in cc
messages (message.AddOn a b x) (message.AddOn c d y) k p = let j = same_dollars x y cc in cc
messages (message.Deposit a x) (message.Deposit b y) k p = let j = same_cents x y cc in cc
messages (message.Withdraw a x) (message.Withdraw b y) k p = let j = same_cents x y cc in cc
messages (message.Sell a b x v) (message.Sell c d y w) k p = let i = same_cusip a c cc in
    let j = same_dollars x y cc in let l = same_cents v w cc in cc
messages (message.Buy a b) (message.Buy c d) k p = cc
messages (message.Retract a) (message.Retract b) k p = cc
messages (message.Bid a b (Some r) x) other k p = cc
messages (message.Bid a b None x) other k p = cc
messages one (message.Bid c d (Some s) y) k p = cc
messages one (message.Bid c d None y) k p = cc
messages one other k p = cc

-- entries with the same values are one
pub entries : (one other : Entry) → IsSame one other → one ≡ other
entries one other same =
    let submitters : one.submitter ≡ other.submitter = (let h = same.head in cc) in
    let numbers : one.number ≡ other.number = (let h = same.head in cc) in
    let seconds : one.moment.seconds ≡ other.moment.seconds = (let h = same.head in cc) in
    let moments = same_moment one.moment other.moment seconds in
    let texts = messages one.message other.message same.kind same.body in
    λ i. record { submitter = submitters i; number = numbers i; moment = moments i; message = texts i }
