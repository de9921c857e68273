-- The lines that tell verdicts.
use Rattle.std.specs.Prelude.{ℕ, List, [], ◌∷◌, ◌++◌, codes}
use Rattle.std.specs.Fmt.{decimal}
use Rattle.tb_units.specs.Bytes.{blank}
use Rattle.tb_units.specs.Decimals.{cents_text}
use Rattle.tb_terms.specs.Texts.{day_text}
use Rattle.tb_terms.specs.Refusals.{number_of, name_of, member_of}
use Rattle.tb_terms.specs.declared.refusal.Refusal.{Refusal}
use Rattle.tb_terms.specs.declared.refusal.Refusal.TheVariants as refusal
use Rattle.tb_message.specs.declared.verdict.Verdict.{Verdict}
use Rattle.tb_message.specs.declared.verdict.Verdict.TheVariants as verdict

-- words, each after one space
abbrev pub spaced : List (List ℕ) → List ℕ
spaced [] = []
spaced (word ∷ words) = blank ∷ word ++ spaced words

-- the values that are printed with a refusal
abbrev pub values_of : Refusal → List (List ℕ)
values_of (refusal.BadShape at_fault) = member_of at_fault ∷ []
values_of (refusal.Late moment closing) = decimal moment.seconds ∷ decimal closing.seconds ∷ []
values_of (refusal.NotClosed moment closing) = decimal moment.seconds ∷ decimal closing.seconds ∷ []
values_of (refusal.MaturityDiffers maturity) = day_text maturity.number ∷ []
values_of (refusal.NotIssueDate issue) = day_text issue.number ∷ []
values_of (refusal.InsufficientFree free) = decimal free.value ∷ []
values_of (refusal.Unsettled auction) = auction ∷ []
values_of (refusal.MoreThanPledged left) = decimal left.value ∷ []
values_of (refusal.NotDue payment) = day_text payment.number ∷ []
values_of (refusal.InsufficientFunds balance) = cents_text balance.value ∷ []
values_of other = []

-- a repeat is told as the message was
abbrev pub verdict_text : Verdict → List ℕ
verdict_text (verdict.Accepted number moment) =
    codes "accepted" ++ spaced (decimal number ∷ decimal moment.seconds ∷ [])
verdict_text (verdict.Repeat number moment) = codes "accepted" ++ spaced (decimal number ∷ decimal moment.seconds ∷ [])
verdict_text (verdict.Refused refused) =
    codes "refused" ++ spaced (decimal (number_of refused) ∷ name_of refused ∷ values_of refused)
