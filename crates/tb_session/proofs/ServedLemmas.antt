-- All requests of the bytes that were read are served.
use Rattle.std.proofs.Common.{◌≡◌, ℕ, ◌+◌, ◌⊎◌, List, [], ◌∷◌, length, drop, true, false, refl, sym, ap, ◌∙◌, subst, inl, inr, ⊎_elim, arith}
use Rattle.std.specs.Prelude.{Bool, ◌||◌, ◌==◌}
use Rattle.std.proofs.lemmas.Bool.Decides.{nat_tests}
use Rattle.tb_link.specs.Counts.{Rose}
use Rattle.tb_gates.specs.Links.{LinkState}
use Rattle.tb_wire.specs.Cuts.{Cuts, HoldsNone}
use Rattle.tb_wire.specs.declared.cutting.HttpRequest.{HttpRequest}
use Rattle.tb_session.specs.declared.end.End.{End}
use Rattle.tb_session.specs.declared.end.End.TheVariants as end
use Rattle.tb_session.specs.Session.{AnswersAll, Exchange, AreCut, EndsWith, IsSession, LeavesNone, Session, closes_at, most_turns, requests_in}
use Rattle.tb_session.proofs.LeftLemmas.{none-bad, none-empty, none-yet}

-- the requests of exchanges are cut as these are
pub cuts-requests : (exchanges : List Exchange) (bytes rest : List ℕ) → AreCut exchanges bytes rest
    → Cuts (requests_in exchanges) bytes rest
cuts-requests [] bytes rest is = is
cuts-requests (e ∷ exchanges) bytes rest cut =
    (cut.0, cuts-requests exchanges (drop e.request.used bytes) rest cut.2)

-- an end without a last request leaves no whole one
leaves-none : (turns : ℕ) (ended : End) (rest due tail : List ℕ) → EndsWith turns ended [] rest due tail
    → HoldsNone rest
leaves-none turns end.EndOfInput rest due tail ends = subst (λ (l : List ℕ). HoldsNone l) (sym ends.1) none-empty
leaves-none turns end.CutShort rest due tail ends = none-yet rest ends.2
leaves-none turns end.ReadFault rest due tail ends = none-yet rest ends.1
leaves-none turns (end.BadRequest code) rest due tail ends = none-bad rest code ends.1
leaves-none turns end.Asked rest due tail ends = let is = ends.1 in absurd (let bad : ⊥ = cc in bad)
leaves-none turns end.Turns rest due tail ends = let is = ends.1 in absurd (let bad : ⊥ = cc in bad)
leaves-none turns end.WriteFault rest due tail ends =
    ⊎_elim (λ one. absurd (let is = one.2 in let bad : ⊥ = cc in bad)) (λ bad. none-bad rest bad.0 bad.2) ends
leaves-none turns end.OutOfMemory rest due tail ends =
    ⊎_elim (λ none. none.1) (λ one. absurd (let is = one.1 in let bad : ⊥ = cc in bad)) ends.1

-- so a session that ended between two requests leaves none
pub session-leaves : (fixed : List ℕ) (turns : ℕ) (waiting : List ℕ) (old new : LinkState) (s : Session)
    → IsSession fixed turns waiting old new s → s.last ≡ [] → HoldsNone s.rest
session-leaves fixed turns waiting old new s is none =
    let so_far = turns + length s.exchanges in
    leaves-none so_far s.ended s.rest s.due s.tail
    (subst (λ (l : List Exchange). EndsWith so_far s.ended l s.rest s.due s.tail) none is.ends)

-- a request that asks to close has a reply that closes
closes-asked : (turns : ℕ) (r : HttpRequest) → r.close ≡ true → closes_at turns r ≡ true
closes-asked turns r asks = ap (λ (c : Bool). c || (turns + 1 == most_turns)) asks

-- and so has the last that may be
closes-last : (turns : ℕ) (r : HttpRequest) → r.close ≡ false → turns + 1 ≡ most_turns → closes_at turns r ≡ true
closes-last turns r stays last = ap (λ (c : Bool). c || (turns + 1 == most_turns)) stays ∙ reached
  where
    reached : (turns + 1 == most_turns) ≡ true
    reached = grind (arith, nat_tests)

-- an end that no fault and no want of memory made leaves none
leaves-answered : (turns : ℕ) (ended : End) (last : List Exchange) (rest due tail : List ℕ)
    → EndsWith turns ended last rest due tail
    → (ended ≡ end.OutOfMemory) ⊎ ((ended ≡ end.ReadFault) ⊎ ((ended ≡ end.WriteFault) ⊎ LeavesNone turns last rest))
leaves-answered turns end.EndOfInput last rest due tail ends =
    inr (inr (inr (inl (ends.0, subst (λ (l : List ℕ). HoldsNone l) (sym ends.1) none-empty))))
leaves-answered turns end.CutShort last rest due tail ends = inr (inr (inr (inl (ends.0, none-yet rest ends.2))))
leaves-answered turns end.ReadFault last rest due tail ends = inr (inl refl)
leaves-answered turns (end.BadRequest code) last rest due tail ends =
    inr (inr (inr (inl (ends.0, none-bad rest code ends.1))))
leaves-answered turns end.Asked last rest due tail ends =
    inr (inr (inr (inr (ends.0, ends.1, closes-asked turns ends.0.request ends.2))))
leaves-answered turns end.Turns last rest due tail ends =
    inr (inr (inr (inr (ends.0, ends.1, closes-last turns ends.0.request ends.2.0 ends.3))))
leaves-answered turns end.WriteFault last rest due tail ends = inr (inr (inl refl))
leaves-answered turns end.OutOfMemory last rest due tail ends = inl refl

-- so a session is answered whole, but for want of memory and faults
pub session-answers : (fixed : List ℕ) (turns : ℕ) (waiting : List ℕ) (old new : LinkState) (s : Session)
    → IsSession fixed turns waiting old new s
    → (s.ended ≡ end.OutOfMemory)
    ⊎ (Rose old.source.faults new.source.faults ⊎ (Rose old.sink.faults new.sink.faults ⊎ AnswersAll turns s))
session-answers fixed turns waiting old new s is =
    ⊎_elim (λ memory. inl memory)
    (⊎_elim (λ read. inr (inl (is.read_fault read)))
    (⊎_elim (λ write. inr (inr (inl (is.write_fault write))))
    (λ leaves. inr (inr (⊎_elim (λ whole. inr (whole, leaves)) (λ rose. inl rose) is.whole)))))
    (leaves-answered (turns + length s.exchanges) s.ended s.last s.rest s.due s.tail is.ends)
