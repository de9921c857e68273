-- Calls are answered by the operator's name and the clock's moments, whatever else stays fixed.
use Rattle.std.proofs.Common.{◌≡◌, ℕ, List, [], ◌∷◌, ◌++◌, get_or, Option, Some, None, subst}
use Rattle.std.specs.Prelude.{Result, Ok, Err, IfSome}
use Rattle.tb_terms.specs.declared.refusal.Refusal.{Refusal}
use Rattle.tb_link.specs.Sources.{SourceState}
use Rattle.tb_link.specs.Sinks.{SinkState}
use Rattle.tb_gates.specs.Gates.{GateState}
use Rattle.tb_gates.specs.Links.{LinkState, link_of}
use Rattle.tb_wire.specs.declared.cutting.HttpRequest.{HttpRequest}
use Rattle.tb_message.specs.declared.key.Key.{Key}
use Rattle.tb_message.specs.declared.message.Entry.{Entry}
use Rattle.tb_session.specs.declared.answer.Answer.{Answer}
use Rattle.tb_session.specs.declared.called.Called.{Called}
use Rattle.tb_session.specs.Calls.{ComesOut, IsAnswerBy}
use Rattle.tb_session.specs.Codes.{Made, GivesAt, IsAnswered, operator_in, moments_in}
use Rattle.tb_session.specs.Session.{Becomes, Exchange, IsExchange, IsSession, Session, caller_key}
use Rattle.tb_session.specs.Serve.{AreRuns, IsRun, Run}

module _ (fixed other : List ℕ) (operators : operator_in fixed ≡ operator_in other)
    (moments : moments_in fixed ≡ moments_in other) where
  -- a call is answered alike
  pub IsAnswered-house : (history : List Entry) (c : Called) (before after readings : ℕ)
      → IsAnswered fixed history c before after readings
      → IsAnswered other history c before after readings
  IsAnswered-house history c before after readings answered = record {
    legal = answered.legal;
    in_range = answered.in_range;
    comes_out = subst (λ (name : List ℕ). ComesOut name history c c.outcome before after) operators answered.comes_out;
    given = answered.given;
    timed = λ moment is. subst (λ (o : Option (List ℕ)). IfSome o (GivesAt readings moment)) moments
        (answered.timed moment is);
  }

  -- and a request
  becomes-house : (r : HttpRequest) (body : List ℕ) (key : Result Key Refusal) (call : Option Made) (said : Answer)
      → Becomes fixed r body key call said
      → Becomes other r body key call said
  becomes-house r body (Err why) None said is = is
  becomes-house r body (Err why) (Some made) said is = absurd is
  becomes-house r body (Ok key) (Some made) said is = (
    is.0,
    is.1,
    subst (λ (name : List ℕ). IsAnswerBy name made.history made.called made.called.outcome said) operators
        is.2,
  )
  becomes-house r body (Ok key) None said is = is

  -- a request became what it did by the one as by the other
  exchange-house : (e : Exchange) → IsExchange fixed e → IsExchange other e
  exchange-house e is = becomes-house e.request e.body (caller_key e.request) e.call e.said is

  -- so a link is served alike,
  session-house : (turns : ℕ) (waiting : List ℕ) (old new : LinkState) (s : Session)
      → IsSession fixed turns waiting old new s
      → IsSession other turns waiting old new s
  session-house turns waiting old new s is = record {
    cuts = is.cuts;
    are_exchanges = λ k d within. exchange-house (get_or (s.exchanges ++ s.last) k d) (is.are_exchanges k d within);
    goes_on = is.goes_on;
    few = is.few;
    moved = is.moved;
    begins = is.begins;
    whole = is.whole;
    ends = is.ends;
    read_fault = is.read_fault;
    write_fault = is.write_fault;
    end_of_input = is.end_of_input;
    none_ahead = is.none_ahead;
  }

  module _ {G K : Type 0} (gate : G → GateState K) (source : K → SourceState) (sink : K → SinkState) where
    -- a gate
    run-house : (old new : G) (run : Run K) → IsRun gate source sink fixed old new run
        → IsRun gate source sink other old new run
    run-house old new run is = record {
      passed = is.passed;
      sessions = λ k d within. let s = get_or run.links k d in
          session-house 0 [] (link_of source sink s.given) (link_of source sink s.back) s.session
          (is.sessions k d within);
      order = is.order;
      fault = is.fault;
      finished = is.finished;
      no_fault = is.no_fault;
    }

    -- and all gates
    pub AreRuns-house : (olds news : List G) (runs : List (Run K)) → AreRuns gate source sink fixed olds news runs
        → AreRuns gate source sink other olds news runs
    AreRuns-house [] [] [] are = tt
    AreRuns-house (old ∷ olds) (new ∷ news) (run ∷ runs) are =
        (run-house old new run are.0, AreRuns-house olds news runs are.1)
    AreRuns-house [] [] (run ∷ runs) are = absurd are
    AreRuns-house [] (new ∷ news) runs are = absurd are
    AreRuns-house (old ∷ olds) [] runs are = absurd are
    AreRuns-house (old ∷ olds) (new ∷ news) [] are = absurd are
