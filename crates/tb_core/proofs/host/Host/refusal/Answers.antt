-- The message is of the kind that the arm is for.
use Rattle.std.proofs.Common.{◌∙◌, sym, ap}
use Rattle.tb_message.specs.declared.message.Message.{Message}
use Rattle.tb_message.specs.Kinds.{party_of}
use Rattle.tb_message.specs.Messages.{kind_of}
use Rattle.tb_terms.specs.Rows.{refusal_in}
use Rattle.tb_history.specs.Tables.{rows_of}
use Rattle.tb_history.proofs.AcceptedLemmas.{sender-registered}
use Rattle.tb_core.proofs.host.Host.refusal.Goals as goal

pub returns-in-Announce : goal.returns-in-Announce
returns-in-Announce c =
    c.announce.ensures c.args.sender.now c.args.moment
    ∙ ap (λ (m : Message). refusal_in (rows_of c.args.self.now.history c.args.sender.now c.args.moment m))
    (sym c.in-Announce.is)

pub returns-in-Position : goal.returns-in-Position
returns-in-Position c =
    c.position.ensures c.in-Position.position
    ∙ ap (λ (m : Message). refusal_in (rows_of c.args.self.now.history c.args.sender.now c.args.moment m))
    (sym c.in-Position.is)

pub returns-in-Publish : goal.returns-in-Publish
returns-in-Publish c =
    c.publish.ensures c.args.sender.now
    ∙ ap (λ (m : Message). refusal_in (rows_of c.args.self.now.history c.args.sender.now c.args.moment m))
    (sym c.in-Publish.is)

pub returns-in-Settle : goal.returns-in-Settle
returns-in-Settle c =
    c.settle.ensures c.args.sender.now
    ∙ ap (λ (m : Message). refusal_in (rows_of c.args.self.now.history c.args.sender.now c.args.moment m))
    (sym c.in-Settle.is)

pub transfer-requires : goal.transfer-requires
transfer-requires c =
    sender-registered c.args.self.now.history c.args.sender.now c.args.message.now c.requires.caller
    c.requires.permitted
    (ap (λ (m : Message). party_of (kind_of m)) c.in-Transfer.is)

pub pledge-requires : goal.pledge-requires
pledge-requires c =
    sender-registered c.args.self.now.history c.args.sender.now c.args.message.now c.requires.caller
    c.requires.permitted
    (ap (λ (m : Message). party_of (kind_of m)) c.in-Pledge.is)

pub release-requires : goal.release-requires
release-requires c =
    sender-registered c.args.self.now.history c.args.sender.now c.args.message.now c.requires.caller
    c.requires.permitted
    (ap (λ (m : Message). party_of (kind_of m)) c.in-Release.is)

pub returns-in-Transfer : goal.returns-in-Transfer
returns-in-Transfer c =
    c.transfer.ensures
    ∙ ap (λ (m : Message). refusal_in (rows_of c.args.self.now.history c.args.sender.now c.args.moment m))
    (sym c.in-Transfer.is)

pub returns-in-Release : goal.returns-in-Release
returns-in-Release c =
    c.release.ensures c.args.moment
    ∙ ap (λ (m : Message). refusal_in (rows_of c.args.self.now.history c.args.sender.now c.args.moment m))
    (sym c.in-Release.is)

pub returns-in-Redeem : goal.returns-in-Redeem
returns-in-Redeem c =
    c.redeem.ensures c.args.sender.now
    ∙ ap (λ (m : Message). refusal_in (rows_of c.args.self.now.history c.args.sender.now c.args.moment m))
    (sym c.in-Redeem.is)

pub returns-in-AddOn : goal.returns-in-AddOn
returns-in-AddOn c =
    c.add_on.ensures c.args.sender.now
    ∙ ap (λ (m : Message). refusal_in (rows_of c.args.self.now.history c.args.sender.now c.args.moment m))
    (sym c.in-AddOn.is)

pub returns-in-Deposit : goal.returns-in-Deposit
returns-in-Deposit c =
    c.deposit.ensures c.args.sender.now c.args.moment c.in-Deposit.cents
    ∙ ap (λ (m : Message). refusal_in (rows_of c.args.self.now.history c.args.sender.now c.args.moment m))
    (sym c.in-Deposit.is)

pub returns-in-Withdraw : goal.returns-in-Withdraw
returns-in-Withdraw c =
    c.withdraw.ensures c.args.sender.now c.args.moment
    ∙ ap (λ (m : Message). refusal_in (rows_of c.args.self.now.history c.args.sender.now c.args.moment m))
    (sym c.in-Withdraw.is)

pub returns-in-Sell : goal.returns-in-Sell
returns-in-Sell c =
    c.sell.ensures c.in-Sell.price
    ∙ ap (λ (m : Message). refusal_in (rows_of c.args.self.now.history c.args.sender.now c.args.moment m))
    (sym c.in-Sell.is)

pub returns-in-Buy : goal.returns-in-Buy
returns-in-Buy c =
    c.buy.ensures
    ∙ ap (λ (m : Message). refusal_in (rows_of c.args.self.now.history c.args.sender.now c.args.moment m))
    (sym c.in-Buy.is)

pub returns-in-Retract : goal.returns-in-Retract
returns-in-Retract c =
    c.retract.ensures c.args.moment
    ∙ ap (λ (m : Message). refusal_in (rows_of c.args.self.now.history c.args.sender.now c.args.moment m))
    (sym c.in-Retract.is)
