-- No group is in doubt where the desk isn't unsure.
use Rattle.std.proofs.Common.{◌≡◌, ◌≤◌, List, [], ◌∷◌, length, refl, arith}
use Rattle.std.proofs.lemmas.Bool.{false≢true}
use Rattle.tb_session_tests.proofs.held_tests.serve_held.Goals as goal

-- a list that isn't one or longer is empty
none : {X : Type 0} (xs : List X) → ¬ (1 ≤ length xs) → xs ≡ []
none [] short = refl
none (x ∷ xs) short = absurd (short (omega arith))

pub serve_gates-requires-clause-sure : goal.serve_gates-requires-clause-sure
serve_gates-requires-clause-sure g c κs within =
    none c.args.room.desk.doubt (λ some. false≢true (c.if-unsure.ensures.1 some))
