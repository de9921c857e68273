-- Replies are sealed: they are those on the sender's own part of the history.
use Rattle.std.proofs.Common.{◌≡◌, ℕ, List, Option, Some, None, subst, ap, ◌∙◌, refl}
use Rattle.std.specs.Prelude.{Result, Ok, Err, true, false}
use Rattle.tb_units.specs.declared.moment.Moment.{Moment}
use Rattle.tb_terms.specs.declared.refusal.Refusal.{Refusal}
use Rattle.tb_message.specs.declared.message.Entry.{Entry}
use Rattle.tb_message.specs.declared.message.Message.{Message}
use Rattle.tb_message.specs.declared.query.Query.{Query}
use Rattle.tb_message.specs.declared.query.Request.{Request}
use Rattle.tb_message.specs.declared.query.Request.TheVariants as request
use Rattle.tb_history.specs.Answer.{asks_on, query_refusal}
use Rattle.tb_history.specs.Legal.{IsLegal, running}
use Rattle.tb_history.specs.OwnPart.{depends_on_others, own_part}
use Rattle.tb_history.specs.Roster.{is_published}
use Rattle.tb_history.specs.Verdict.{verdict_on}
use Rattle.tb_history.proofs.QueryLemmas.{query_refusal-own}
use Rattle.tb_history.proofs.SealedLemmas.{IsLegal-sealed}
use Rattle.tb_core.proofs.AnswerLemmas.{IsReading-own}
use Rattle.tb_commands.specs.Replies.{IsSaid, IsSealed, IsTold}
use Rattle.tb_commands.specs.Turns.{told}

-- the verdict on a message that doesn't depend on others
pub verdict-own : (history : List Entry) (caller : List ℕ) (moment other : Moment) (number : ℕ) (message : Message)
    → IsLegal history
    → depends_on_others message ≡ false
    → running history moment ≡ running (own_part caller history) other
    → verdict_on history caller number (running history moment) message
    ≡ verdict_on (own_part caller history) caller number (running (own_part caller history) other) message
verdict-own history caller moment other number message legal still agree =
    IsLegal-sealed caller history legal number (running history moment) message still
    ∙ ap (λ (m : Moment). verdict_on (own_part caller history) caller number m message) agree

-- what a query is told
told-own : (history : List Entry) (caller auction : List ℕ) (query : Query) (why : Option Refusal) (reply : List ℕ)
    → IsLegal history
    → asks_on auction query ≡ true
    → is_published history auction ≡ false
    → query_refusal history caller query ≡ why
    → IsTold history caller query why reply
    → IsTold (own_part caller history) caller query why reply
told-own history caller auction query (Some why) reply legal asks not_yet is told = told
told-own history caller auction query None reply legal asks not_yet is told =
    (told.0, IsReading-own history caller auction query told.0 legal asks not_yet is told.1, told.2)

-- what a history says to what is sealed, the caller's own part of it says
pub IsSaid-own : (history : List Entry) (caller : List ℕ) (moment other : Moment) (asked : Result Request Refusal)
    (reply : List ℕ)
    → IsSaid history caller moment asked reply
    → IsLegal history
    → IsSealed history asked
    → running history moment ≡ running (own_part caller history) other
    → IsSaid (own_part caller history) caller other asked reply
IsSaid-own history caller moment other (Ok (request.Message number message)) reply said legal still agree =
    said ∙ ap told (verdict-own history caller moment other number message legal still agree)
IsSaid-own history caller moment other (Ok (request.Query query)) reply said legal sealed agree =
    subst (λ (why : Option Refusal). IsTold (own_part caller history) caller query why reply)
    (query_refusal-own caller history legal query)
    (told-own history caller sealed.0 query (query_refusal history caller query) reply legal sealed.1 sealed.2 refl
    said)
IsSaid-own history caller moment other (Err why) reply said legal sealed agree = said
