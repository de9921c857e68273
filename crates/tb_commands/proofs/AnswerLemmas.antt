-- What is answered, in the words of replies.
use Rattle.std.proofs.Common.{◌≡◌, ℕ, true, Option, Some, None, List, sym, ap, ◌∙◌, refl}
use Rattle.std.specs.Prelude.{Result, Ok, Err, IfOk, codes}
use Rattle.tb_units.specs.Names.{is_name, name_of}
use Rattle.tb_units.specs.declared.memory.OutOfMemory.{OutOfMemory}
use Rattle.tb_units.specs.declared.moment.Moment.{Moment}
use Rattle.tb_terms.specs.declared.refusal.Refusal.{Refusal}
use Rattle.tb_message.specs.Requests.{AnswerOf, FaultOf}
use Rattle.tb_message.specs.declared.key.Key.{Key}
use Rattle.tb_message.specs.declared.key.Key.TheVariants as keys
use Rattle.tb_message.specs.declared.message.Entry.{Entry}
use Rattle.tb_message.specs.declared.query.Query.{Query}
use Rattle.tb_message.specs.declared.query.ReadFault.{ReadFault}
use Rattle.tb_message.specs.declared.query.Request.TheVariants as request
use Rattle.tb_history.specs.Answer.{caller_of, query_refusal}
use Rattle.tb_history.specs.Entries.{is_same, operator}
use Rattle.tb_history.specs.Readings.{IsReading}
use Rattle.tb_history.specs.declared.reading.Reading.{Reading}
use Rattle.tb_history.specs.declared.roster.Registration.{Registration}
use Rattle.tb_disk.specs.Disks.{DiskState}
use Rattle.tb_desk.specs.Desks.{DeskView, IsSame}
use Rattle.tb_commands.specs.Answers.{reply_text}
use Rattle.tb_commands.specs.Replies.{IsAnswered, IsTold, reading_text, refusal_of, refused}
use Rattle.tb_commands.specs.Standings.{Standing, standing}
use Rattle.tb_commands.specs.declared.reply.Reply.{Reply}
use Rattle.tb_commands.proofs.TurnLemmas.{stands-is}

-- the operator's key is that of the operator
pub operator-caller : (registered : List Registration) (name word : List ℕ) (key : Key) (found : Option (List ℕ))
    → key ≡ keys.Operator word
    → is_same word name ≡ true
    → found ≡ name_of (codes "operator")
    → found ≡ caller_of registered name key
unfolding operator is_name
operator-caller registered name word key found is same named =
    let told : caller_of registered name (keys.Operator word) ≡ Some operator = rw same refl in
    named ∙ (sym told ∙ ap (caller_of registered name) (sym is))

-- a query that isn't refused is told its reading
pub told-reading : (history : List Entry) (caller : List ℕ) (query : Query) (why : Option Refusal) (reading : Reading)
    (result : Result Reply OutOfMemory)
    → ((r : Refusal) → ¬ (why ≡ Some r))
    → IsReading history caller query reading
    → IfOk result (λ reply. reply_text reply ≡ reading_text reading)
    → IfOk result (λ reply. IsTold history caller query why (reply_text reply))
told-reading history caller query None reading (Ok reply) none is text = (reading, is, text)
told-reading history caller query None reading (Err fault) none is text = tt
told-reading history caller query (Some other) reading result none is text = absurd (none other refl)

-- a text that is no request is answered its refusal
pub answered-fault : (old : Standing) (caller : List ℕ) (moment : Moment) (json reply : List ℕ) (at_fault : ReadFault)
    (why : Refusal)
    → FaultOf json at_fault
    → refusal_of at_fault ≡ Some why
    → reply ≡ refused why
    → IsAnswered old (Some caller) moment json reply old
answered-fault old caller moment json reply at_fault why is told says = (Err why, (at_fault, is, told), (says, refl))

-- a query is answered what it is told
pub answered-query : (old : Standing) (caller : List ℕ) (moment : Moment) (json : List ℕ) (query : Query)
    (result : Result Reply OutOfMemory)
    → AnswerOf json (Ok (request.Query query))
    → IfOk result
    (λ reply. IsTold old.history caller query (query_refusal old.history caller query) (reply_text reply))
    → IfOk result (λ reply. IsAnswered old (Some caller) moment json (reply_text reply) old)
answered-query old caller moment json query (Ok reply) asks told = (Ok (request.Query query), asks, (told, refl))
answered-query old caller moment json query (Err fault) asks told = tt

-- where room was made a desk stands as it stood
pub standing-same : {D : Type 0} (disk : D → DiskState) (old new : DeskView D)
    → IsSame old new
    → new.host.history ≡ old.host.history
    → standing (disk new.disk) new ≡ standing (disk old.disk) old
standing-same disk old new same history =
    stands-is (standing (disk new.disk) new) old.host.history old.doubt (disk old.disk).faults old.doubted history
    same.doubt (ap (λ (d : DiskState). d.faults) (ap disk same.disk)) same.doubted
