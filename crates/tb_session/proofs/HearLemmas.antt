-- A link that ends before another request is whole, and replies that were not sent.
use Rattle.std.proofs.Common.{◌≡◌, ℕ, List, [], true, refl, subst, inl, inr}
use Rattle.std.specs.Prelude.{Err}
use Rattle.tb_gates.specs.Links.{LinkState}
use Rattle.tb_gates.proofs.CallerLemmas.{moved-nothing}
use Rattle.tb_wire.specs.Codes.{is_told}
use Rattle.tb_wire.specs.Replies.{bad_front, no_memory}
use Rattle.tb_wire.proofs.FrontLaws.{front-told}
use Rattle.tb_session.specs.declared.end.End.{End}
use Rattle.tb_session.specs.declared.end.End.TheVariants as end
use Rattle.tb_session.specs.Inbox.{Receives}
use Rattle.tb_session.specs.Serving.{Tries, Fails, EndsIdle}
use Rattle.tb_session.specs.Session.{Wrote}
use Rattle.tb_session.proofs.LeftLemmas.{none-empty}
use Rattle.tb_session.proofs.StepLemmas.{ahead-nothing}
use Rattle.tb_session.proofs.SessionLemmas.{idle-ended, begins-self, never-end}

module _ (a m : LinkState) (waiting now : List ℕ) (e : End) (receives : Receives a m waiting now (Err e)) where
  -- what was received, where it is known how that ended
  received : (x : End) → e ≡ x → Receives a m waiting now (Err x)
  received x is = subst (λ (y : End). Receives a m waiting now (Err y)) is receives

  -- the input ended between two requests
  pub hears-end_of_input : e ≡ end.EndOfInput → EndsIdle a m waiting end.EndOfInput
  hears-end_of_input is =
      let x = received end.EndOfInput is in
      idle-ended a m m waiting now x.read [] [] end.EndOfInput x.moved x.grown (moved-nothing m) x.none_ahead
      (begins-self []) (inl refl)
      (λ turns. (refl, x.finds.0, refl)) (λ q. absurd (let bad : ⊥ = cc in bad)) (λ q. absurd (let bad : ⊥ = cc in bad))
      (λ q. x.finds.1)

  -- it ended inside of one
  pub hears-cut_short : e ≡ end.CutShort → EndsIdle a m waiting end.CutShort
  hears-cut_short is =
      let x = received end.CutShort is in
      idle-ended a m m waiting now x.read [] [] end.CutShort x.moved x.grown (moved-nothing m) x.none_ahead
      (begins-self []) (inl refl)
      (λ turns. (refl, x.finds.0, x.finds.1, refl)) (λ q. absurd (let bad : ⊥ = cc in bad))
      (λ q. absurd (let bad : ⊥ = cc in bad)) (λ q. x.finds.2)

  -- a read failed
  pub hears-read_fault : e ≡ end.ReadFault → EndsIdle a m waiting end.ReadFault
  hears-read_fault is =
      let x = received end.ReadFault is in
      idle-ended a m m waiting now x.read [] [] end.ReadFault x.moved x.grown (moved-nothing m) x.none_ahead
      (begins-self []) (inl refl)
      (λ turns. (refl, x.finds.0, refl)) (λ q. x.finds.1) (λ q. absurd (let bad : ⊥ = cc in bad))
      (λ q. absurd (never-end end.ReadFault (λ p. cc) (λ p. cc) q))

  -- the bytes are no request, and that was replied
  pub hears-bad : (code : ℕ) (b : LinkState) → e ≡ end.BadRequest code → Wrote m b (bad_front code)
      → EndsIdle a b waiting (end.BadRequest code)
  hears-bad code b is wrote =
      let x = received (end.BadRequest code) is in
      let due = bad_front code in
      idle-ended a m b waiting now x.read due due (end.BadRequest code) x.moved x.grown wrote.moved
      (m, x.none_ahead, wrote) (begins-self due) (inl refl)
      (λ turns. (refl, x.finds, refl, refl)) (λ q. absurd (let bad : ⊥ = cc in bad))
      (λ q. absurd (let bad : ⊥ = cc in bad)) (λ q. absurd (never-end (end.BadRequest code) (λ p. cc) (λ p. cc) q))

  -- or that wasn't written
  pub hears-unwritten : (code : ℕ) (b : LinkState) → e ≡ end.BadRequest code → Fails m b (bad_front code)
      → EndsIdle a b waiting end.WriteFault
  hears-unwritten code b is fails =
      let x = received (end.BadRequest code) is in
      idle-ended a m b waiting now x.read fails.tail (bad_front code) end.WriteFault x.moved x.grown
      fails.wrote.moved (m, x.none_ahead, fails.wrote) fails.begins (inr fails.rose)
      (λ turns. inr (code, refl, x.finds, refl)) (λ q. absurd (let bad : ⊥ = cc in bad))
      (λ q. fails.rose) (λ q. absurd (never-end end.WriteFault (λ p. cc) (λ p. cc) q))

  -- the fault has a phrase
  pub hears-told : (code : ℕ) → e ≡ end.BadRequest code → is_told code ≡ true
  hears-told code is = front-told now code (received (end.BadRequest code) is).finds

  -- there was no memory
  pub hears-lacking : (b : LinkState) → e ≡ end.OutOfMemory → Tries m b no_memory → EndsIdle a b waiting end.OutOfMemory
  hears-lacking b is tried =
      let x = received end.OutOfMemory is in
      idle-ended a m b waiting now x.read tried.tail no_memory end.OutOfMemory x.moved x.grown tried.wrote.moved
      (m, x.none_ahead, tried.wrote) tried.begins tried.whole (λ turns. (refl, inl (refl, x.finds)))
      (λ q. absurd (let bad : ⊥ = cc in bad))
      (λ q. absurd (let bad : ⊥ = cc in bad)) (λ q. absurd (never-end end.OutOfMemory (λ p. cc) (λ p. cc) q))

-- a link on which there was no memory to begin
pub lacks-at_once : (a b : LinkState) → Tries a b no_memory → EndsIdle a b [] end.OutOfMemory
lacks-at_once a b tried =
    idle-ended a a b [] [] [] tried.tail no_memory end.OutOfMemory (moved-nothing a) refl tried.wrote.moved
    (a, ahead-nothing a [], tried.wrote) tried.begins tried.whole (λ turns. (refl, inl (refl, none-empty)))
    (λ q. absurd (let bad : ⊥ = cc in bad))
    (λ q. absurd (let bad : ⊥ = cc in bad))
    (λ q. absurd (never-end end.OutOfMemory (λ p. cc) (λ p. cc) q))
