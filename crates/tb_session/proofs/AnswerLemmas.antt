-- Requests and what they are answered.
use Rattle.std.proofs.Common.{◌≡◌, ℕ, List, Some, None, refl, sym, subst}
use Rattle.std.specs.Prelude.{Result, Ok, Err}
use Rattle.tb_terms.specs.declared.refusal.Refusal.{Refusal}
use Rattle.tb_message.specs.declared.key.Key.{Key}
use Rattle.tb_wire.specs.declared.cutting.HttpRequest.{HttpRequest}
use Rattle.tb_wire.specs.declared.cutting.Target.TheVariants as target
use Rattle.tb_lock.specs.declared.view.View.{View}
use Rattle.tb_session.specs.declared.answer.Answer.{Answer}
use Rattle.tb_session.specs.declared.answer.Answer.TheVariants as answer
use Rattle.tb_session.specs.declared.called.Ask.{Ask}
use Rattle.tb_session.specs.Calls.{refused}
use Rattle.tb_session.specs.Gains.{GainsOne}
use Rattle.tb_session.specs.Session.{Asks, Becomes, body_of, caller_key}
use Rattle.tb_session.specs.Serving.{Answers}
use Rattle.tb_session.proofs.GainLemmas.{gains-nothing}

-- a request that calls by no key is refused without a call
pub answers-refused : (v : View) (r : HttpRequest) (waiting : List ℕ) (why : Refusal) → caller_key r ≡ Err why
    → Answers v v r waiting (refused why)
answers-refused v r waiting why is = record {
  exchange = record { request = r; body = body_of r waiting; call = None; said = refused why };
  request_is = refl;
  body_is = refl;
  said_is = refl;
  is_exchange = subst (λ (k : Result Key Refusal). Becomes v.fixed r (body_of r waiting) k None (refused why))
      (sym is) refl;
  gains = gains-nothing v;
}

-- where there was no memory to read what is posted, no call was made
pub answers-lacked : (v : View) (r : HttpRequest) (waiting : List ℕ) (k : Key)
    → caller_key r ≡ Ok k
    → r.target ≡ target.Messages
    → Answers v v r waiting answer.OutOfMemory
answers-lacked v r waiting k is posted = record {
  exchange = record { request = r; body = body_of r waiting; call = None; said = answer.OutOfMemory };
  request_is = refl;
  body_is = refl;
  said_is = refl;
  is_exchange = subst
      (λ (found : Result Key Refusal). Becomes v.fixed r (body_of r waiting) found None answer.OutOfMemory)
      (sym is) (posted, refl);
  gains = gains-nothing v;
}

-- any other became a call, and is answered by it
pub answers-called : (v0 v1 : View) (r : HttpRequest) (waiting : List ℕ) (k : Key) (asked : Ask) (said : Answer)
    → caller_key r ≡ Ok k
    → Asks r.target (body_of r waiting) asked
    → GainsOne v0 v1 k asked said
    → Answers v0 v1 r waiting said
answers-called v0 v1 r waiting k asked said is asks one = record {
  exchange = record { request = r; body = body_of r waiting; call = Some one.made; said = said };
  request_is = refl;
  body_is = refl;
  said_is = refl;
  is_exchange = subst
      (λ (found : Result Key Refusal). Becomes v0.fixed r (body_of r waiting) found (Some one.made) said) (sym is) (
        one.key_is,
        subst (λ (a : Ask). Asks r.target (body_of r waiting) a) (sym one.ask_is) asks,
        one.answer_is,
      );
  gains = one.gains;
}
