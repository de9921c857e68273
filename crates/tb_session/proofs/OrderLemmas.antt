-- Turns of a pass, in their order.
use Rattle.std.proofs.Common.{◌≡◌, List, [], ◌∷◌, ◌++◌, map, refl, sym, ap, ◌∙◌, subst}
use Rattle.std.specs.Prelude.{All}
use Rattle.std.proofs.lemmas.List.{append-nil, map-append}
use Rattle.std.proofs.lemmas.List.Concat.{flat_map-append}
use Rattle.std.proofs.lemmas.List.Elements.{All-nil, All-cons, All-push, All-head, All-tail}
use Rattle.tb_lock.specs.declared.view.Call.{Call}
use Rattle.tb_session.specs.Codes.{Made, call_of}
use Rattle.tb_session.specs.Gains.{Follows, AreBeside, TurnFollows, AreInOrder, joined, turns_of}

-- what holds of all of two lists holds of all of the first
pub all-front : {A : Type 0} (P : A → Type 0) (xs ys : List A) → All P (xs ++ ys) → All P xs
all-front P [] ys all = All-nil P
all-front P (x ∷ xs) ys all =
    All-cons P x xs (All-head P x (xs ++ ys) all) (all-front P xs ys (All-tail P x (xs ++ ys) all))

-- and of all of the second
pub all-back : {A : Type 0} (P : A → Type 0) (xs ys : List A) → All P (xs ++ ys) → All P ys
all-back P [] ys all = all
all-back P (x ∷ xs) ys all = all-back P xs ys (All-tail P x (xs ++ ys) all)

-- several lists, and more of them
pub joined-append : {A : Type 0} (xs ys : List (List A)) → joined (xs ++ ys) ≡ joined xs ++ joined ys
joined-append {A} xs ys = flat_map-append (λ (list : List A). list) xs ys

-- one list alone
pub joined-one : {A : Type 0} (xs : List A) → xs ≡ joined (xs ∷ [])
joined-one xs = sym (append-nil xs)

-- the calls of turns are those of all their calls
pub joined-turns : (turns : List (List Made)) → joined (turns_of turns) ≡ map call_of (joined turns)
joined-turns [] = refl
joined-turns (turn ∷ turns) =
    ap (λ (l : List Call). map call_of turn ++ l) (joined-turns turns) ∙ sym (map-append call_of turn (joined turns))

-- a turn that follows all turns in order
pub in_order-push : (turns : List (List Call)) (turn : List Call)
    → AreInOrder turns
    → AreBeside turn
    → All (λ c. All (Follows c) turn) (joined turns)
    → AreInOrder (turns ++ turn ∷ [])
in_order-push [] turn ordered beside follow = (beside, All-nil (TurnFollows turn), tt)
in_order-push (first ∷ turns) turn ordered beside follow =
    let Before : Call → Type 0 = λ (c : Call). All (Follows c) turn in (
      ordered.0,
      All-push (TurnFollows first) turns turn ordered.1 (all-front Before first (joined turns) follow),
      in_order-push turns turn ordered.2 beside (all-back Before first (joined turns) follow),
    )

-- a turn more, behind whatever turns make up the calls that it follows
pub one-more : (mine : List Call) (turn : List Made)
    → AreBeside (map call_of turn)
    → All (λ c. All (Follows c) (map call_of turn)) mine
    → (earlier : List (List Call))
    → mine ≡ joined earlier
    → AreInOrder earlier
    → AreInOrder (earlier ++ turns_of (turn ∷ []))
one-more mine turn beside follow earlier is ordered =
    in_order-push earlier (map call_of turn) ordered beside
    (subst (λ (l : List Call). All (λ c. All (Follows c) (map call_of turn)) l) is follow)
