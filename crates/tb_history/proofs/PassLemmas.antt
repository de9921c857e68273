-- The movements of a legal history are legal, and tell what it says of accounts.
use Rattle.std.proofs.Common.{◌≡◌, ℕ, ◌==◌, ◌&&◌, nat_lt, Bool, true, false, cond, Some, is_some, inl, inr}
use Rattle.std.proofs.Common.{List, [], ◌∷◌, length, map, sum_by, All, refl, sym, ap, ◌∙◌, arith}
use Rattle.std.specs.Option.{option_map}
use Rattle.std.specs.List.{AllByRecursion, count_by, find, filter, list_any}
use Rattle.std.proofs.lemmas.Bool.{cases_Bool}
use Rattle.std.proofs.lemmas.List.Sums.{sum_by-cons}
use Rattle.tb_units.proofs.SumLemmas.{sum_by-filter-cons}
use Rattle.tb_terms.specs.declared.cusip.Cusip.{Cusip}
use Rattle.tb_movements.specs.Movements.{brought, taken, issues}
use Rattle.tb_movements.specs.Holdings as moved
use Rattle.tb_movements.specs.Marks as pledges
use Rattle.tb_movements.specs.Legal as movements
use Rattle.tb_message.specs.declared.message.Entry.{Entry}
use Rattle.tb_history.specs.declared.accounts.Mark.{Mark}
use Rattle.tb_history.specs.declared.accounts.Release.{Release}
use Rattle.tb_history.specs.Entries.{is_same}
use Rattle.tb_history.specs.Roster.{redemptions, is_redeemed}
use Rattle.tb_history.specs.Holdings.{marks, releases, issued, par_to, par_from, held_of}
use Rattle.tb_history.specs.Holdings.{mark_of, left_of, pledged_of, free_of, open_marks}
use Rattle.tb_history.specs.Legal.{IsLegal}
use Rattle.tb_history.specs.Moves.{Numbering, movements_by, IsNumbered, IsBillNumbered, AreNumbered, as_moved}
use Rattle.tb_history.proofs.ClosedLemmas.{found-in}
use Rattle.tb_history.proofs.CreditedLemmas.{flipped}
use Rattle.tb_history.proofs.MovedLemmas.{is_release_of}

-- what is found is there
pub found_any : {X : Type 0} (test : X → Bool) (xs : List X) → is_some (find test xs) ≡ true → list_any test xs ≡ true
found_any test [] found = cc
found_any test (x ∷ xs) found =
    elim (cases_Bool (test x)) [ inl is ↦ rw is refl | inr isnt ↦ rw isnt (found_any test xs (rw isnt at found)) ]

-- the bill of a pledge and its holder have numbers
abbrev pub IsKnown : Numbering → Mark → Type 0
IsKnown numbers mark = IsNumbered numbers mark.holder × IsBillNumbered numbers mark.cusip.bytes

-- the movements tell what the history says of accounts
pub record AreTold (numbers : Numbering) (participants : List ℕ) (history : List Entry) : Type 0 where
  pub legal : movements.IsLegal (movements_by numbers history)
  pub reaches : All (movements.Reaches participants) (movements_by numbers history)
  pub brings : (participant : List ℕ) (cusip : Cusip)
      → IsNumbered numbers participant
      → IsBillNumbered numbers cusip.bytes
      → sum_by (brought (numbers.holder participant) (numbers.security cusip.bytes)) (movements_by numbers history)
      ≡ par_to history participant cusip
  pub takes : (participant : List ℕ) (cusip : Cusip)
      → IsNumbered numbers participant
      → IsBillNumbered numbers cusip.bytes
      → sum_by (taken (numbers.holder participant) (numbers.security cusip.bytes)) (movements_by numbers history)
      ≡ par_from history participant cusip
  pub issued_is : (cusip : Cusip)
      → IsBillNumbered numbers cusip.bytes
      → sum_by (issues (numbers.security cusip.bytes)) (movements_by numbers history) ≡ issued history cusip
  pub redeemed : (cusip : Cusip)
      → IsBillNumbered numbers cusip.bytes
      → moved.is_redeemed (numbers.security cusip.bytes) (movements_by numbers history)
      ≡ is_redeemed (redemptions history) cusip
  pub marks_are : pledges.marks (movements_by numbers history) ≡ map (as_moved numbers) (marks history)
  pub released : (holder : List ℕ) (number : ℕ)
      → IsNumbered numbers holder
      → sum_by (pledges.releases (numbers.holder holder) number) (movements_by numbers history)
      ≡ sum_by (λ (r : Release). r.amount.value) (filter (is_release_of holder number) (releases history))
  pub known : AllByRecursion (IsKnown numbers) (marks history)

-- a legal history by numbers for all who are registered and announced in it, told by its movements
pub record IsToldBy (numbers : Numbering) (participants : List ℕ) (history : List Entry) : Type 0 where
  pub legal : IsLegal history
  pub numbered : AreNumbered numbers participants history
  pub told : AreTold numbers participants history

-- so they tell what is held
pub held-told : (numbers : Numbering) (participants : List ℕ) (history : List Entry) (participant : List ℕ)
    (cusip : Cusip)
    → AreTold numbers participants history
    → IsNumbered numbers participant
    → IsBillNumbered numbers cusip.bytes
    → moved.held (numbers.holder participant) (numbers.security cusip.bytes) (movements_by numbers history)
    ≡ held_of history participant cusip
unfolding held_of
held-told numbers participants history participant cusip told own bills =
    rw (told.redeemed cusip bills, told.brings participant cusip own bills, told.takes participant cusip own bills) refl

-- what is left of a pledge
pub left-told : (numbers : Numbering) (participants : List ℕ) (history : List Entry) (mark : Mark)
    → AreTold numbers participants history
    → IsKnown numbers mark
    → pledges.left_of (movements_by numbers history) (as_moved numbers mark) ≡ left_of history mark
unfolding left_of
left-told numbers participants history mark told known =
    rw (told.redeemed mark.cusip known.1, told.released mark.holder mark.number known.0) refl

-- a pledge of a participant in a bill is one in the movements
on-told : (numbers : Numbering) (participant : List ℕ) (cusip : Cusip) (mark : Mark)
    → IsKnown numbers mark
    → pledges.is_on (numbers.holder participant) (numbers.security cusip.bytes) (as_moved numbers mark)
    ≡ (is_same mark.holder participant && is_same mark.cusip.bytes cusip.bytes)
on-told numbers participant cusip mark known =
    rw (known.0 participant, known.1 cusip.bytes, flipped participant mark.holder, flipped cusip.bytes mark.cusip.bytes)
    refl

-- all pledges of a participant in a bill
pledged-list : (numbers : Numbering) (participants : List ℕ) (history : List Entry) (participant : List ℕ)
    (cusip : Cusip) (all : List Mark)
    → AreTold numbers participants history
    → AllByRecursion (IsKnown numbers) all
    → sum_by (pledges.left_of (movements_by numbers history))
    (filter (pledges.is_on (numbers.holder participant) (numbers.security cusip.bytes))
    (map (as_moved numbers) all))
    ≡ sum_by (left_of history) (filter (λ (mark : Mark). is_same mark.holder participant
    && is_same mark.cusip.bytes cusip.bytes) all)
pledged-list numbers participants history participant cusip [] told known = refl
pledged-list numbers participants history participant cusip (mark ∷ all) told known =
    let test : Mark → Bool = λ (m : Mark). is_same m.holder participant && is_same m.cusip.bytes cusip.bytes in
    let on = pledges.is_on (numbers.holder participant) (numbers.security cusip.bytes) in
    let left = sum_by-filter-cons (pledges.left_of (movements_by numbers history)) on (as_moved numbers mark)
    (map (as_moved numbers) all) in
    let right = sum_by-filter-cons (left_of history) test mark all in
    let rest = pledged-list numbers participants history participant cusip all told known.1 in
    let same : cond (on (as_moved numbers mark)) (pledges.left_of (movements_by numbers history)
    (as_moved numbers mark)) 0
    ≡ cond (test mark) (left_of history mark) 0 =
    ap (λ b. cond b (pledges.left_of (movements_by numbers history) (as_moved numbers mark)) 0)
    (on-told numbers participant cusip mark known.0)
    ∙ ap (λ n. cond (test mark) n 0) (left-told numbers participants history mark told known.0) in
    left ∙ (omega (arith, same, rest) ∙ sym right)

-- what is pledged
pub pledged-told : (numbers : Numbering) (participants : List ℕ) (history : List Entry) (participant : List ℕ)
    (cusip : Cusip)
    → AreTold numbers participants history
    → pledges.pledged (numbers.holder participant) (numbers.security cusip.bytes) (movements_by numbers history)
    ≡ pledged_of history participant cusip
unfolding pledged_of
pledged-told numbers participants history participant cusip told =
    ap (λ (all : List pledges.Mark). sum_by (pledges.left_of (movements_by numbers history))
    (filter (pledges.is_on (numbers.holder participant) (numbers.security cusip.bytes)) all)) told.marks_are
    ∙ pledged-list numbers participants history participant cusip (marks history) told told.known

-- and what is free
pub free-told : (numbers : Numbering) (participants : List ℕ) (history : List Entry) (participant : List ℕ)
    (cusip : Cusip)
    → AreTold numbers participants history
    → IsNumbered numbers participant
    → IsBillNumbered numbers cusip.bytes
    → pledges.free (numbers.holder participant) (numbers.security cusip.bytes) (movements_by numbers history)
    ≡ free_of history participant cusip
unfolding free_of
free-told numbers participants history participant cusip told own bills =
    rw (
      held-told numbers participants history participant cusip told own bills,
      pledged-told numbers participants history participant cusip told,
    ) refl

-- of all pledges the participant's with something left
opens-list : (numbers : Numbering) (participants : List ℕ) (history : List Entry) (participant : List ℕ)
    (all : List Mark)
    → AreTold numbers participants history
    → AllByRecursion (IsKnown numbers) all
    → count_by (λ (mark : pledges.Mark). mark.holder == numbers.holder participant
    && nat_lt 0 (pledges.left_of (movements_by numbers history) mark)) (map (as_moved numbers) all)
    ≡ length (filter (λ (mark : Mark). is_same mark.holder participant && nat_lt 0 (left_of history mark)) all)
opens-list numbers participants history participant [] told known = refl
opens-list numbers participants history participant (mark ∷ all) told known =
    let test : Mark → Bool = λ (m : Mark). is_same m.holder participant && nat_lt 0 (left_of history m) in
    let open_mark : pledges.Mark → Bool = λ (m : pledges.Mark). m.holder == numbers.holder participant
    && nat_lt 0 (pledges.left_of (movements_by numbers history) m) in
    let rest = opens-list numbers participants history participant all told known.1 in
    let same : open_mark (as_moved numbers mark) ≡ test mark =
    rw (
      known.0.0 participant,
      flipped participant mark.holder,
      left-told numbers participants history mark told known.0,
    )
    refl in
    let split = sum_by-cons (λ (m : pledges.Mark). cond (open_mark m) 1 0) (as_moved numbers mark)
    (map (as_moved numbers) all) in
    elim (cases_Bool (test mark)) [
      | inl is ↦ let also : open_mark (as_moved numbers mark) ≡ true = same ∙ is in
          split ∙ rw (also, is) (omega (arith, rest))
      | inr isnt ↦ let also : open_mark (as_moved numbers mark) ≡ false = same ∙ isnt in
          split ∙ rw (also, isnt) (omega (arith, rest))
    ]

-- how many pledges of a participant are open
pub opens-told : (numbers : Numbering) (participants : List ℕ) (history : List Entry) (participant : List ℕ)
    → AreTold numbers participants history
    → pledges.open_marks (numbers.holder participant) (movements_by numbers history) ≡ open_marks history participant
unfolding open_marks
opens-told numbers participants history participant told =
    ap (count_by (λ (mark : pledges.Mark). mark.holder == numbers.holder participant
    && nat_lt 0 (pledges.left_of (movements_by numbers history) mark))) told.marks_are
    ∙ opens-list numbers participants history participant (marks history) told told.known

-- the pledge of a holder and number
mark-list : (numbers : Numbering) (holder : List ℕ) (number : ℕ) (all : List Mark)
    → AllByRecursion (IsKnown numbers) all
    → find (pledges.is_named (numbers.holder holder) number) (map (as_moved numbers) all)
    ≡ option_map {U = pledges.Mark} (as_moved numbers)
    (find (λ (mark : Mark). is_same mark.holder holder && (mark.number == number)) all)
mark-list numbers holder number [] known = refl
mark-list numbers holder number (mark ∷ all) known =
    let test : Mark → Bool = λ (m : Mark). is_same m.holder holder && (m.number == number) in
    let named = pledges.is_named (numbers.holder holder) number in
    let same : named (as_moved numbers mark) ≡ test mark = rw (known.0.0 holder, flipped holder mark.holder) refl in
    elim (cases_Bool (test mark)) [
      | inl is ↦ let also : named (as_moved numbers mark) ≡ true = same ∙ is in rw (also, is) refl
      | inr isnt ↦ let also : named (as_moved numbers mark) ≡ false = same ∙ isnt in
          rw (also, isnt) (mark-list numbers holder number all known.1)
    ]

-- as the movements have it
pub mark-told : (numbers : Numbering) (participants : List ℕ) (history : List Entry) (holder : List ℕ) (number : ℕ)
    → AreTold numbers participants history
    → pledges.mark_of (numbers.holder holder) number (movements_by numbers history)
    ≡ option_map {U = pledges.Mark} (as_moved numbers) (mark_of history holder number)
unfolding mark_of
mark-told numbers participants history holder number told =
    ap (find (pledges.is_named (numbers.holder holder) number)) told.marks_are
    ∙ mark-list numbers holder number (marks history) told.known

-- a pledge that is found is of a participant and a bill with numbers
pub known-mark : (numbers : Numbering) (participants : List ℕ) (history : List Entry) (holder : List ℕ) (number : ℕ)
    (mark : Mark)
    → AreTold numbers participants history
    → mark_of history holder number ≡ Some mark
    → IsKnown numbers mark
unfolding mark_of
known-mark numbers participants history holder number mark told found =
    found-in (IsKnown numbers) (λ (m : Mark). is_same m.holder holder && (m.number == number)) (marks history)
    mark told.known found
