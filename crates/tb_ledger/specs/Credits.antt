-- What a settlement credits.
use Rattle.std.specs.Prelude.{Option, Some, None, List, [], ◌∷◌, ◌++◌, map}
use Rattle.std.specs.List.{position_or_len}
use Rattle.tb_movements.specs.Movements.{Credit}
use Rattle.tb_history.specs.declared.roster.Registration.{Registration}
use Rattle.tb_history.specs.declared.roster.Enrolment.{Enrolment}
use Rattle.tb_history.specs.declared.accounts.AddOn.{AddOn}
use Rattle.tb_history.specs.Entries.{is_same}
use Rattle.tb_history.specs.Awarded.{Bidding, awarded}
use Rattle.tb_history.specs.Holdings.{if_awarded}

-- a bidder's award, for its participant
abbrev pub credit_for : List Registration → Bidding → Enrolment → Credit
credit_for submitters bidding e = record {
  holder = position_or_len (λ (r : Registration). is_same r.submitter e.submitter) submitters;
  par = awarded bidding e.bidder;
}

-- those of some bidders
abbrev pub credits_for : List Registration → Bidding → List Enrolment → List Credit
credits_for submitters bidding bidders = map (credit_for submitters bidding) bidders

-- an add-on, for its holder
abbrev pub add_on_credit : List Registration → AddOn → Credit
add_on_credit submitters x = record {
  holder = position_or_len (λ (r : Registration). is_same r.submitter x.holder) submitters;
  par = x.amount.value;
}

-- if there is one
abbrev pub add_on_for : List Registration → Option AddOn → List Credit
add_on_for submitters None = []
add_on_for submitters (Some x) = add_on_credit submitters x ∷ []

-- what a settlement credits: all bidders' awards, and the add-on that is awarded
abbrev pub settled_for : List Registration → Bidding → List Enrolment → Option AddOn → List Credit
settled_for submitters bidding bidders add_on =
    credits_for submitters bidding bidders ++ add_on_for submitters (if_awarded bidding add_on)
