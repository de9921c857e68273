-- What an entry of one party doesn't say.
use Rattle.std.proofs.Common.{◌≡◌, ℕ, Bool, true, false, cond, List, [], refl}
use Rattle.std.specs.List.{filter}
use Rattle.tb_message.specs.declared.message.Message.{Message}
use Rattle.tb_message.specs.declared.message.Message.TheVariants as message
use Rattle.tb_message.specs.Kinds as party
use Rattle.tb_message.specs.Kinds.{party_of}
use Rattle.tb_message.specs.Messages.{kind_of}
use Rattle.tb_history.specs.declared.bids.Bid.{Bid}
use Rattle.tb_history.specs.declared.bids.Cancel.{Cancel}
use Rattle.tb_history.specs.declared.bids.Report.{Report}
use Rattle.tb_history.specs.Entries.{registered_by, enrolled_by, entered_by, announced_by, published_by}
use Rattle.tb_history.specs.Entries.{settled_by, redeemed_by, added_by, bid_by, cancelled_by, reported_by}

-- a choice of two things that are one
cond_same : {X : Type 0} {x : X} (b : Bool) → x ≡ cond b x x
cond_same true = refl
cond_same false = refl

-- the operator sends messages of this kind
abbrev pub IsOperators : Message → Type 0
IsOperators sent = party_of (kind_of sent) ≡ party.operator

-- only the operator registers
pub registered_by-others : (sent : Message) → ¬ (IsOperators sent) → registered_by sent ≡ []
registered_by-others (message.Register submitter key) not = absurd (not refl)
registered_by-others other not = refl

-- only the operator enrols
pub enrolled_by-others : (sent : Message) → ¬ (IsOperators sent) → enrolled_by sent ≡ []
enrolled_by-others (message.Enrol bidder submitter) not = absurd (not refl)
enrolled_by-others other not = refl

-- only the operator enters holidays
pub entered_by-others : (sent : Message) → ¬ (IsOperators sent) → entered_by sent ≡ []
entered_by-others (message.Holiday day) not = absurd (not refl)
entered_by-others other not = refl

-- only the operator announces
pub announced_by-others : (sent : Message) → ¬ (IsOperators sent) → announced_by sent ≡ []
announced_by-others (message.Announce terms) not = absurd (not refl)
announced_by-others other not = refl

-- only the operator publishes
pub published_by-others : (sent : Message) → ¬ (IsOperators sent) → published_by sent ≡ []
published_by-others (message.Publish auction) not = absurd (not refl)
published_by-others other not = refl

-- only the operator settles
pub settled_by-others : (sent : Message) → ¬ (IsOperators sent) → settled_by sent ≡ []
settled_by-others (message.Settle auction) not = absurd (not refl)
settled_by-others other not = refl

-- only the operator redeems
pub redeemed_by-others : (sent : Message) → ¬ (IsOperators sent) → redeemed_by sent ≡ []
redeemed_by-others (message.Redeem cusip) not = absurd (not refl)
redeemed_by-others other not = refl

-- only the operator adds on
pub added_by-others : (sent : Message) → ¬ (IsOperators sent) → added_by sent ≡ []
added_by-others (message.AddOn auction holder amount) not = absurd (not refl)
added_by-others other not = refl

-- a part of the entries that is chosen by their submitters has the bids of those submitters
pub bid_by-part : (among : List ℕ → Bool) (submitter : List ℕ) (number : ℕ) (sent : Message)
    → filter (λ (bid : Bid). among bid.submitter) (bid_by submitter number sent)
    ≡ cond (among submitter) (bid_by submitter number sent) []
bid_by-part among submitter number (message.Bid auction bidder rate amount) = refl
bid_by-part among submitter number other = cond_same (among submitter)

-- and their cancels
pub cancelled_by-part : (among : List ℕ → Bool) (submitter : List ℕ) (sent : Message)
    → filter (λ (cancel : Cancel). among cancel.submitter) (cancelled_by submitter sent)
    ≡ cond (among submitter) (cancelled_by submitter sent) []
cancelled_by-part among submitter (message.Cancel auction bid) = refl
cancelled_by-part among submitter other = cond_same (among submitter)

-- and their reports
pub reported_by-part : (among : List ℕ → Bool) (submitter : List ℕ) (sent : Message)
    → filter (λ (report : Report). among report.submitter) (reported_by submitter sent)
    ≡ cond (among submitter) (reported_by submitter sent) []
reported_by-part among submitter (message.Position auction bidder position) = refl
reported_by-part among submitter other = cond_same (among submitter)
