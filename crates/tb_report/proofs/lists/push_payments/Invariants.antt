use Rattle.std.proofs.Common.{◌≡◌, ◌++◌, map, take}
use Rattle.tb_report.specs.Lines.{text_of}
use Rattle.tb_report.specs.Lists.{paid_words}
use Rattle.tb_report.proofs.lists.push_payments.Given as goal

-- the lines so far
abbrev pub invariant-loop-payment : goal.invariant-loop-payment
invariant-loop-payment l = l.text ≡ l.fn.text ++ text_of (map paid_words (take l.payment-index l.paid))
