-- What the code has passed of the common rows, and what is left of the verdict.
use Rattle.std.proofs.Common.{◌≡◌, ℕ, ◌≤◌, Bool, false, not, Option, None, List, nat_le, length, refl, arith}
use Rattle.std.proofs.lemmas.List.Filters.{length-filter_both}
use Rattle.std.specs.Option.{option_map_or}
use Rattle.tb_units.specs.declared.moment.Moment.{Moment}
use Rattle.tb_terms.specs.declared.refusal.Refusal.{Refusal}
use Rattle.tb_terms.specs.Rows.{refusal_in}
use Rattle.tb_terms.proofs.RowLemmas.{first_of-refused}
use Rattle.tb_message.specs.declared.message.Entry.{Entry}
use Rattle.tb_message.specs.declared.message.Message.{Message}
use Rattle.tb_message.specs.declared.verdict.Verdict.{Verdict}
use Rattle.tb_message.specs.declared.verdict.Verdict.TheVariants as verdict
use Rattle.tb_history.specs.Entries.{is_same}
use Rattle.tb_history.specs.Roster.{registrations, is_caller, kept, sent_by}
use Rattle.tb_history.specs.Tables.{rows_of}
use Rattle.tb_history.specs.Verdict.{is_permitted, verdict_on}

-- the outcome of a refusal, or of none
abbrev pub outcome : Option Refusal → Verdict → Verdict
outcome refused last = option_map_or verdict.Refused refused last

-- nobody has sent more messages than there are
pub sent_by-few : (h : List Entry) (s : List ℕ) → sent_by h s ≤ length h
unfolding sent_by
sent_by-few h s =
    let own : Entry → Bool = λ e. is_same e.submitter s in
    let both = length-filter_both own (λ e. not (own e)) (λ e. refl) h in
    omega arith

-- where the common rows are passed, the message's own rows decide
pub verdict_on-own_rows : (h : List Entry) (s : List ℕ) (n : ℕ) (moment : Moment) (m : Message)
    → not (is_caller (registrations h) s) ≡ false
    → not (is_permitted s m) ≡ false
    → kept h s n ≡ None
    → nat_le 1048576 (sent_by h s) ≡ false
    → verdict_on h s n moment m ≡ outcome (refusal_in (rows_of h s moment m)) (verdict.Accepted n moment)
verdict_on-own_rows h s n moment m caller permitted unused few =
    rw (caller, permitted, unused, few)
    (first_of-refused verdict.Refused (rows_of h s moment m) (verdict.Accepted n moment))
