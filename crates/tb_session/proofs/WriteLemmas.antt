-- Replies that are written on a link.
use Rattle.std.proofs.Common.{◌≡◌, ℕ, List, refl, sym, ap, ◌∙◌, subst, inl, inr}
use Rattle.std.specs.Prelude.{Bool, Option, Result, Ok, Err, OnOk, OnErr}
use Rattle.tb_link.specs.declared.source.Failed.{Failed}
use Rattle.tb_link.specs.Sinks.{SinkState, Takes, FailsToTake}
use Rattle.tb_link.specs.Sources.{SourceState, LeavesSource}
use Rattle.tb_gates.specs.Links.{LinkState}
use Rattle.tb_gates.proofs.CallerLemmas.{moved-nothing, moved-write}
use Rattle.tb_message.specs.declared.verdict.Verdict.{Verdict}
use Rattle.tb_wire.specs.declared.cutting.Target.{Target}
use Rattle.tb_wire.specs.declared.replies.Allow.{Allow}
use Rattle.tb_wire.specs.Replies.{rendered}
use Rattle.tb_session.specs.declared.answer.Answer.{Answer}
use Rattle.tb_session.specs.declared.answer.Answer.TheVariants as answer
use Rattle.tb_session.specs.declared.write.Unsent.{Unsent}
use Rattle.tb_session.specs.declared.write.Unsent.TheVariants as unsent
use Rattle.tb_session.specs.Replies.{IsTold, MayLack, allow_of, reply_text, verdict_body, verdict_code}
use Rattle.tb_session.specs.Serving.{Tries, Fails, Sends, Writes, WritesReply}
use Rattle.tb_session.specs.Session.{Wrote}
use Rattle.tb_session.proofs.SessionLemmas.{begins-self}

-- a write moved its bytes, or a part of them and the count rose
pub writes-by : (a b : SourceState) (s t : SinkState) (bytes : List ℕ) (result : Result (Unit {0}) Failed)
    → OnOk result (Takes s t bytes)
    → OnErr result (FailsToTake s t bytes)
    → LeavesSource a b
    → Writes (record { source = a; sink = s }) (record { source = b; sink = t }) bytes result
writes-by a b s t bytes (Ok done) takes fails leaves =
    record { moved = moved-write a b s t bytes takes leaves; no_read = leaves.no_read }
writes-by a b s t bytes (Err failed) takes fails leaves = record {
  tail = fails.prefix.0;
  begins = (fails.prefix.1, fails.prefix.2);
  wrote = record {
    moved = record {
      left = sym leaves.left ∙ (moved-nothing (record { source = b; sink = t })).left;
      taken = fails.prefix.3;
      read_count = leaves.count;
      write_count = fails.count;
    };
    no_read = leaves.no_read;
  };
  rose = fails.rose;
}

-- what a reply that was not sent leaves
module _ (a b : LinkState) (said : Answer) (bytes : List ℕ) (why : Unsent) (sends : Sends a b said bytes (Err why))
  where
    unsent_by : (x : Unsent) → why ≡ x → Sends a b said bytes (Err x)
    unsent_by x is = subst (λ (y : Unsent). Sends a b said bytes (Err y)) is sends

    -- the write failed
    pub unsent-fails : why ≡ unsent.WriteFault → Fails a b bytes × IsTold said
    unsent-fails is = unsent_by unsent.WriteFault is

    -- there was no memory for it,
    pub unsent-may : why ≡ unsent.OutOfMemory → MayLack said
    unsent-may is = (unsent_by unsent.OutOfMemory is).1

    -- and nothing was written of it
    pub unsent-lacks : (c : LinkState) (due : List ℕ) → why ≡ unsent.OutOfMemory → Tries b c due → Tries a c due
    unsent-lacks c due is tried =
        subst (λ (x : LinkState). Tries x c due) (unsent_by unsent.OutOfMemory is).0 tried

-- an answer that was told by a reply with its bytes
pub sends-written : (a b : LinkState) (said : Answer) (bytes written : List ℕ) (result : Result (Unit {0}) Unsent)
    → IsTold said
    → written ≡ bytes
    → WritesReply a b written result
    → Sends a b said bytes result
sends-written a b said bytes written (Ok done) told same wrote =
    (subst (λ (l : List ℕ). Wrote a b l) same wrote, told)
sends-written a b said bytes written (Err unsent.WriteFault) told same fails =
    (subst (λ (l : List ℕ). Fails a b l) same fails, told)
sends-written a b said bytes written (Err unsent.OutOfMemory) told same never = absurd never

-- a verdict that was told by its reply
pub sends-verdict : (a b : LinkState) (x : Answer) (said : Verdict) (to : Target) (allow : Option Allow) (close : Bool)
    (reply written : List ℕ) (result : Result (Unit {0}) Unsent)
    → x ≡ answer.Verdict said
    → allow ≡ allow_of to
    → reply ≡ rendered (verdict_code said) (verdict_body said) allow close
    → written ≡ reply
    → WritesReply a b written result
    → Sends a b x (reply_text x to close) result
sends-verdict a b x said to allow close reply written result is found replied same writes =
    subst (λ (y : Answer). Sends a b y (reply_text y to close) result) (sym is)
    (sends-written a b (answer.Verdict said) (reply_text (answer.Verdict said) to close) written result tt
    (same
    ∙ replied
    ∙ ap (λ (o : Option Allow). rendered (verdict_code said) (verdict_body said) o close) found)
    writes)

-- what a write leaves, whatever its result
pub tries-written : (a b : LinkState) (due written : List ℕ) (result : Result (Unit {0}) Failed)
    → written ≡ due
    → Writes a b written result
    → Tries a b due
tries-written a b due written (Ok done) same wrote = record {
  tail = due;
  begins = begins-self due;
  wrote = subst (λ (l : List ℕ). Wrote a b l) same wrote;
  whole = inl refl;
}
tries-written a b due written (Err failed) same fails =
    let all = subst (λ (l : List ℕ). Fails a b l) same fails in
    record { tail = all.tail; begins = all.begins; wrote = all.wrote; whole = inr all.rose }
