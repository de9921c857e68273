-- Par is conserved over every legal history.
use Rattle.std.proofs.Common.{◌≡◌, ◌≢◌, ℕ, suc, zero, ◌+◌, ◌<◌, ◌≤◌, ◌==◌, ◌||◌, Bool, true, false, not, cond}
use Rattle.std.proofs.Common.{if◌then◌else◌, Option, Some, None, inl, inr, List, [], ◌∷◌, ◌++◌, length, get_or}
use Rattle.std.proofs.Common.{map, drop, sum_by, refl, sym, ap, ◌∙◌, subst, arith, append-nil}
use Rattle.std.specs.Prelude.{Contains, option_to_list}
use Rattle.std.specs.List.{AllPairs, AllByRecursion, flat_map, list_any, position_or_len, prefix_len, take_while}
use Rattle.std.proofs.lemmas.Bool.{cases_Bool, both_ways, or_cases, or_left, or_right, or_parts}
use Rattle.std.proofs.lemmas.Bool.{eqb-true, eq-eqb, false_from_ne_true}
use Rattle.std.proofs.lemmas.List.{length-map, get_or-map, take-append-drop}
use Rattle.std.proofs.lemmas.List.Sums.{sum_by-append, sum_by-cons, passes_at_first, take_while-cons}
use Rattle.std.proofs.lemmas.List.Elements.{Contains-append_left}
use Rattle.std.proofs.lemmas.Grind.{flat_map-append}
use Rattle.std.proofs.lemmas.List.Quantifiers.{all_pairs_push}
use Rattle.tb_units.specs.declared.moment.Moment.{Moment}
use Rattle.tb_units.proofs.ListLemmas.{AllPairs-nil}
use Rattle.tb_terms.specs.declared.announcement.Announcement.{Announcement}
use Rattle.tb_terms.specs.declared.cusip.Cusip.{Cusip}
use Rattle.tb_movements.specs.Movements.{Movement, redeems}
use Rattle.tb_movements.specs.Translated.{movements_after}
use Rattle.tb_movements.proofs.SumLemmas.{take_while-stopped, take_while-passed}
use Rattle.tb_movements.specs.Holdings as moved
use Rattle.tb_movements.specs.Legal as movements
use Rattle.tb_movements.proofs.ConservationLemmas.{IsConserved-legal}
use Rattle.tb_message.specs.declared.message.Entry.{Entry}
use Rattle.tb_message.specs.declared.message.Message.{Message}
use Rattle.tb_message.specs.declared.message.Message.TheVariants as message
use Rattle.tb_history.specs.declared.roster.Registration.{Registration}
use Rattle.tb_history.specs.Entries.{is_same, operator, registered_by, announced_by}
use Rattle.tb_history.specs.Roster.{registrations, announcements, redemptions, is_registered, is_redeemed}
use Rattle.tb_history.specs.Holdings.{held_of, issued, paid_to, pledged_of, before_redemption, redeems as redeems_bill}
use Rattle.tb_history.specs.Tables.{rows_of}
use Rattle.tb_history.specs.Legal.{IsLegal, Follows}
use Rattle.tb_history.specs.Moves.{Numbering, numbering_of, movements_by, meaning_by, IsNumbered}
use Rattle.tb_history.specs.Moves.{IsBillNumbered, participants_of, AreNumbered}
use Rattle.tb_history.proofs.SameLemmas.{is_same-equal, is_same-refl, is_same-sym}
use Rattle.tb_history.proofs.GrowthLemmas.{registrations-snoc}
use Rattle.tb_history.proofs.AcceptedLemmas.{IsClear, accepted-passes}
use Rattle.tb_history.proofs.LegalLemmas.{by_entries}
use Rattle.tb_history.proofs.PassLemmas.{IsToldBy, held-told, pledged-told}
use Rattle.tb_history.proofs.StableLemmas.{or_false}
use Rattle.tb_history.proofs.HistoryLemmas.{IsLegal-front}
use Rattle.tb_history.proofs.MovedLemmas.{redeems-message}
use Rattle.tb_history.proofs.ToldLemmas.{IsLegal-told}
use Rattle.tb_history.proofs.GrowthLemmas.{registered-append, has_bill-append}

-- the place of the first element with a name
abbrev pub place_by : {X : Type 0} → (X → List ℕ) → List X → List ℕ → ℕ
place_by name_of xs name = position_or_len (λ x. is_same (name_of x) name) xs

-- is within where there is one
pub place-within : {X : Type 0} (test : X → Bool) (xs : List X)
    → list_any test xs ≡ true
    → position_or_len test xs < length xs
place-within test [] some = absurd cc
place-within test (x ∷ xs) some =
    elim (cases_Bool (test x)) [
      | inl is ↦ rw is (omega arith)
      | inr isnt ↦ let rest = place-within test xs (rw isnt at some) in rw isnt (omega (arith, rest))
    ]

-- and that of no other name
place_by-own : {X : Type 0} (name_of : X → List ℕ) (xs : List X) (name other : List ℕ)
    → list_any (λ x. is_same (name_of x) name) xs ≡ true
    → (place_by name_of xs name == place_by name_of xs other) ≡ is_same other name
place_by-own name_of [] name other some = absurd cc
place_by-own {X} name_of (x ∷ xs) name other some =
    let test : List ℕ → X → Bool = λ n y. is_same (name_of y) n in
    let here = place-within (test name) (x ∷ xs) some in
    elim (cases_Bool (is_same other name)) [
      | inl is ↦ rw is (eq-eqb _ _ (ap (place_by name_of (x ∷ xs)) (sym (is_same-equal other name is))))
      | inr isnt ↦ rw isnt (false_from_ne_true _ (λ equal.
          let same : place_by name_of (x ∷ xs) name ≡ place_by name_of (x ∷ xs) other = eqb-true _ _ equal in
          let there : place_by name_of (x ∷ xs) other < length (x ∷ xs) = omega (arith, same, here) in
          let one = passes_at_first (test name) (x ∷ xs) x here in
          let two = passes_at_first (test other) (x ∷ xs) x there in
          let found = get_or (x ∷ xs) (place_by name_of (x ∷ xs) name) x in
          let also : is_same (name_of found) other ≡ true =
          subst (λ (k : ℕ). is_same (name_of (get_or (x ∷ xs) k x)) other ≡ true) (sym same) two in
          both_ways (is_same other name) isnt
          (subst (λ (n : List ℕ). is_same n name ≡ true) (is_same-equal (name_of found) other also) one)))
    ]

-- who is there is among the numbers
contains-number : (number : List ℕ → ℕ) (registered : List Registration) (name : List ℕ)
    → is_registered registered name ≡ true
    → Contains (map (λ (registration : Registration). number registration.submitter) registered) (number name)
contains-number number [] name known = absurd cc
contains-number number (r ∷ rs) name known =
    elim (or_cases (is_same r.submitter name) (is_registered rs name) known) [
      | inl is ↦ (0, omega arith, ap number (is_same-equal r.submitter name is))
      | inr later ↦ let found = contains-number number rs name later in (suc found.0, omega (arith, found.1), found.2)
    ]

-- places are numbers
pub places-numbered : (history : List Entry)
    → AreNumbered (numbering_of (registrations history) (announcements history))
    (participants_of (numbering_of (registrations history) (announcements history)) (registrations history)) history
places-numbered history = record {
  names =
      λ name known other. place_by-own (λ (registration : Registration). registration.submitter)
      (registrations history) name other known;
  listed =
      λ name known. contains-number (numbering_of (registrations history) (announcements history)).holder
      (registrations history)
      name known;
  bills =
      λ bytes known other. place_by-own (λ (announcement : Announcement). announcement.cusip.bytes)
      (announcements history) bytes other known;
}

-- one of the made elements passes where one of the elements does
list_any-map : {X Y : Type 0} (test : Y → Bool) (make : X → Y) (xs : List X)
    → list_any test (map make xs) ≡ list_any (λ x. test (make x)) xs
list_any-map test make [] = refl
list_any-map test make (x ∷ xs) = ap (λ b. test (make x) || b) (list_any-map test make xs)

-- the names of the submitters
abbrev pub names_of : List Registration → List (List ℕ)
names_of registered = map (λ (registration : Registration). registration.submitter) registered

-- the bills of the announcements
abbrev pub bills_of : List Announcement → List (List ℕ)
bills_of announced = map (λ (announcement : Announcement). announcement.cusip.bytes) announced

-- places again, behind one name and one bill: known or not, these have numbers of their own too
abbrev pub numbering_with : List ℕ → List ℕ → List Entry → Numbering
numbering_with name bytes history = record {
  holder = place_by (λ (other : List ℕ). other) (name ∷ names_of (registrations history));
  security = place_by (λ (other : List ℕ). other) (bytes ∷ bills_of (announcements history));
}

-- the name in front has its own
pub numbered-name : (name bytes : List ℕ) (history : List Entry) → IsNumbered (numbering_with name bytes history) name
numbered-name name bytes history other =
    place_by-own (λ (n : List ℕ). n) (name ∷ names_of (registrations history)) name other
    (or_left (is_same name name) _ (is_same-refl name))

-- so has the bill in front
pub numbered-bill : (name bytes : List ℕ) (history : List Entry)
    → IsBillNumbered (numbering_with name bytes history) bytes
numbered-bill name bytes history other =
    place_by-own (λ (b : List ℕ). b) (bytes ∷ bills_of (announcements history)) bytes other
    (or_left (is_same bytes bytes) _ (is_same-refl bytes))

-- and so have all who are registered and announced behind them
numbered-with : (name bytes : List ℕ) (history : List Entry)
    → AreNumbered (numbering_with name bytes history)
    (participants_of (numbering_with name bytes history) (registrations history)) history
numbered-with name bytes history =
    let registered = registrations history in
    let announced = announcements history in
    record {
      names = λ n known other.
          place_by-own (λ (x : List ℕ). x) (name ∷ names_of registered) n other
          (or_right (is_same name n) _
          (list_any-map (λ (x : List ℕ). is_same x n) (λ (r : Registration). r.submitter) registered ∙ known));
      listed = λ n known. contains-number (numbering_with name bytes history).holder registered n known;
      bills = λ b known other.
          place_by-own (λ (x : List ℕ). x) (bytes ∷ bills_of announced) b other
          (or_right (is_same bytes b) _
          (list_any-map (λ (x : List ℕ). is_same x b) (λ (a : Announcement). a.cusip.bytes) announced ∙ known));
    }

-- no submitter is registered twice
abbrev pub AreSubmitters : List Registration → Type 0
AreSubmitters registered =
    AllPairs (λ (one other : Registration). is_same other.submitter one.submitter ≡ false) registered

-- an accepted registration is of a new name
new-submitter : (registered : List Registration) (submitter key : List ℕ)
    → list_any (λ (registration : Registration). is_same registration.submitter submitter
    || is_same registration.key key) registered ≡ false
    → (k : ℕ) (d : Registration) → k < length registered → is_same submitter (get_or registered k d).submitter ≡ false
new-submitter [] submitter key none k d within = absurd (omega (arith, within))
new-submitter (r ∷ rs) submitter key none zero d within =
    let apart =
    (or_parts (is_same r.submitter submitter) (is_same r.key key)
    (or_parts (is_same r.submitter submitter || is_same r.key key) _ none).0).0 in
    false_from_ne_true _ (λ same. both_ways (is_same r.submitter submitter) apart
    (is_same-sym submitter r.submitter same))
new-submitter (r ∷ rs) submitter key none (suc k) d within =
    new-submitter rs submitter key (or_parts (is_same r.submitter submitter || is_same r.key key) _ none).1 k d
    (omega (arith, within))

-- so an accepted message registers nobody twice
submitters-message : (history : List Entry) (sender : List ℕ) (moment : Moment) (sent : Message)
    → AllByRecursion IsClear (rows_of history sender moment sent)
    → AreSubmitters (registrations history)
    → AreSubmitters (registrations history ++ registered_by sent)
submitters-message history sender moment (message.Register submitter key) clear distinct =
    let none = (or_parts (is_same submitter operator)
    (list_any (λ (registration : Registration). is_same registration.submitter submitter
    || is_same registration.key key) (registrations history))
    clear.0).1 in
    all_pairs_push (λ (one other : Registration). is_same other.submitter one.submitter ≡ false) (registrations history)
    (record { submitter = submitter; key = key }) distinct
    (λ k d within. new-submitter (registrations history) submitter key none k d within)
submitters-message history sender moment other clear distinct = rw (append-nil (registrations history)) distinct

-- and stays so with an accepted entry
submitters-push : (history : List Entry) (entry : Entry)
    → IsLegal history
    → AreSubmitters (registrations history)
    → Follows history entry
    → AreSubmitters (registrations (history ++ entry ∷ []))
submitters-push history entry legal distinct follows =
    let passed = accepted-passes history entry.submitter entry.number entry.moment entry.message follows.accepted in
    rw (registrations-snoc history entry) (submitters-message history entry.submitter entry.moment entry.message
    passed.rows distinct)

-- nobody is registered yet
submitters-nil : AreSubmitters (registrations [])
unfolding registrations
submitters-nil = AllPairs-nil (λ (one other : Registration). is_same other.submitter one.submitter ≡ false)

-- so it is in every legal history
pub IsLegal-submitters : (history : List Entry) → IsLegal history → AreSubmitters (registrations history)
IsLegal-submitters history legal =
    by_entries (λ history. AreSubmitters (registrations history)) submitters-nil submitters-push history legal

-- an element is registered
pub registered-at : (registered : List Registration) (k : ℕ) (d : Registration)
    → k < length registered
    → is_registered registered (get_or registered k d).submitter ≡ true
registered-at [] k d within = absurd (omega (arith, within))
registered-at (r ∷ rs) zero d within = or_left (is_same r.submitter r.submitter) _ (is_same-refl r.submitter)
registered-at (r ∷ rs) (suc k) d within =
    or_right (is_same r.submitter _) (is_registered rs (get_or rs k d).submitter)
    (registered-at rs k d (omega (arith, within)))

-- numbers of different submitters are different
numbers-once : (numbers : Numbering) (registered : List Registration)
    → AreSubmitters registered
    → ((name : List ℕ) → is_registered registered name ≡ true → IsNumbered numbers name)
    → AllPairs (λ (one other : ℕ). one ≢ other) (participants_of numbers registered)
numbers-once numbers [] distinct names = AllPairs-nil (λ (one other : ℕ). one ≢ other)
numbers-once numbers (r ∷ rs) distinct names = λ i j d before within same.
    let all = r ∷ rs in
    let f : Registration → ℕ = λ (x : Registration). numbers.holder x.submitter in
    let long : length (map f all) ≡ length all = length-map all f in
    let at_j : j < length all = omega (arith, within, long) in
    let at_i : i < length all = omega (arith, before, at_j) in
    let one = get_or all i r in
    let other = get_or all j r in
    let equal : numbers.holder one.submitter ≡ numbers.holder other.submitter =
    sym (get_or-map f all i r d at_i) ∙ (same ∙ get_or-map f all j r d at_j) in
    both_ways (is_same other.submitter one.submitter) (distinct i j r before at_j)
    (sym (names one.submitter (registered-at all i r at_i) other.submitter)
    ∙ eq-eqb (numbers.holder one.submitter) (numbers.holder other.submitter) equal)

-- the numbers of all who are registered are the participants of a legal history
AreParticipants-registered : (numbers : Numbering) (history : List Entry)
    → IsToldBy numbers (participants_of numbers (registrations history)) history
    → movements.AreParticipants (participants_of numbers (registrations history)) (movements_by numbers history)
AreParticipants-registered numbers history tells = record {
  once = numbers-once numbers (registrations history) (IsLegal-submitters history tells.legal) tells.numbered.names;
  all = tells.told.reaches;
}

-- a sum over what is made of elements
sum_by-made : {X Y : Type 0} (f : Y → ℕ) (make : X → Y) (xs : List X)
    → sum_by f (map make xs) ≡ sum_by (λ x. f (make x)) xs
sum_by-made f make [] = refl
sum_by-made f make (x ∷ xs) =
    sum_by-cons f (make x) (map make xs) ∙ (ap (λ n. f (make x) + n) (sum_by-made f make xs)
    ∙ sym (sum_by-cons (λ y. f (make y)) x xs))

-- sums of numbers that agree on the elements
sum_by-each : {X : Type 0} (f g : X → ℕ) (xs : List X)
    → ((k : ℕ) (d : X) → k < length xs → f (get_or xs k d) ≡ g (get_or xs k d))
    → sum_by f xs ≡ sum_by g xs
sum_by-each f g [] same = refl
sum_by-each f g (x ∷ xs) same =
    sum_by-cons f x xs
    ∙ (omega (arith, same 0 x (omega arith), sum_by-each f g xs (λ k d within. same (suc k) d (omega (arith, within))))
    ∙ sym (sum_by-cons g x xs))

-- a legal history by places behind a name and a bill
pub tells-with : (name bytes : List ℕ) (history : List Entry)
    → IsLegal history
    → IsToldBy (numbering_with name bytes history)
    (participants_of (numbering_with name bytes history) (registrations history)) history
tells-with name bytes history legal =
    let numbers = numbering_with name bytes history in
    let are = numbered-with name bytes history in
    record {
      legal = legal;
      numbered = are;
      told = IsLegal-told numbers (participants_of numbers (registrations history)) history legal are;
    }

-- its movements conserve par
conserved-with : (name bytes : List ℕ) (history : List Entry)
    → IsLegal history
    → movements.IsConserved (participants_of (numbering_with name bytes history) (registrations history))
    (movements_by (numbering_with name bytes history) history)
conserved-with name bytes history legal =
    let numbers = numbering_with name bytes history in
    let tells = tells-with name bytes history legal in
    IsConserved-legal (participants_of numbers (registrations history)) (movements_by numbers history) tells.told.legal
    (AreParticipants-registered numbers history tells)

-- what the movements say is outstanding of the bill
outstanding-with : (name : List ℕ) (cusip : Cusip) (history : List Entry)
    → IsLegal history
    → moved.outstanding ((numbering_with name cusip.bytes history).security cusip.bytes)
    (movements_by (numbering_with name cusip.bytes history) history)
    ≡ (if is_redeemed (redemptions history) cusip then 0 else issued history cusip)
outstanding-with name cusip history legal =
    let told = (tells-with name cusip.bytes history legal).told in
    let bills = numbered-bill name cusip.bytes history in
    rw (told.redeemed cusip bills, told.issued_is cusip bills) refl

-- what all participants hold is what is issued and not redeemed
pub held-sum : (history : List Entry) (cusip : Cusip)
    → IsLegal history
    → sum_by (λ (registration : Registration). held_of history registration.submitter cusip) (registrations history)
    ≡ (if is_redeemed (redemptions history) cusip then 0 else issued history cusip)
held-sum history cusip legal =
    let numbers = numbering_with [] cusip.bytes history in
    let participants = participants_of numbers (registrations history) in
    let tells = tells-with [] cusip.bytes history legal in
    let bills = numbered-bill [] cusip.bytes history in
    let security = numbers.security cusip.bytes in
    let each : sum_by (λ (registration : Registration). held_of history registration.submitter cusip)
    (registrations history)
    ≡ sum_by (λ (registration : Registration). moved.held (numbers.holder registration.submitter) security
    (movements_by numbers history))
    (registrations history) =
    sum_by-each _ _ (registrations history) (λ k d within.
    let submitter = (get_or (registrations history) k d).submitter in
    sym (held-told numbers participants history submitter cusip tells.told
    (tells.numbered.names submitter (registered-at (registrations history) k d within)) bills)) in
    each
    ∙ (sym (sum_by-made (λ holder. moved.held holder security (movements_by numbers history))
    (λ (registration : Registration). numbers.holder registration.submitter) (registrations history))
    ∙ ((conserved-with [] cusip.bytes history legal).holdings security
    ∙ outstanding-with [] cusip history legal))

-- nobody has pledged more than it holds
pub pledged-covered : (history : List Entry) (participant : List ℕ) (cusip : Cusip)
    → IsLegal history
    → pledged_of history participant cusip ≤ held_of history participant cusip
pledged-covered history participant cusip legal =
    let numbers = numbering_with participant cusip.bytes history in
    let participants = participants_of numbers (registrations history) in
    let told = (tells-with participant cusip.bytes history legal).told in
    omega (
      arith,
      (conserved-with participant cusip.bytes history legal).covered (numbers.holder participant)
          (numbers.security cusip.bytes),
      held-told numbers participants history participant cusip told
          (numbered-name participant cusip.bytes history) (numbered-bill participant cusip.bytes history),
      pledged-told numbers participants history participant cusip told,
    )

-- one who isn't registered is none of the participants, and may be counted as one more
AreParticipants-more : (numbers : Numbering) (history : List Entry) (stranger : List ℕ)
    → IsToldBy numbers (participants_of numbers (registrations history)) history
    → IsNumbered numbers stranger
    → is_registered (registrations history) stranger ≡ false
    → movements.AreParticipants (participants_of numbers (registrations history) ++ numbers.holder stranger ∷ [])
    (movements_by numbers history)
AreParticipants-more numbers history stranger tells own unknown =
    let registered = registrations history in
    let participants = participants_of numbers registered in
    let number : Registration → ℕ = λ (registration : Registration). numbers.holder registration.submitter in
    let default : Registration = record { submitter = []; key = [] } in
    let more : AreNumbered numbers (participants ++ numbers.holder stranger ∷ []) history = record {
      names = tells.numbered.names;
      listed = λ name known.
          Contains-append_left participants (numbers.holder stranger ∷ []) (numbers.holder name)
          (tells.numbered.listed name known);
      bills = tells.numbered.bills;
    } in
    record {
      once = all_pairs_push (λ (one other : ℕ). one ≢ other) participants (numbers.holder stranger)
          (AreParticipants-registered numbers history tells).once
          (λ k d within same.
          let place : k < length registered = omega (arith, within, length-map registered number) in
          let found = (get_or registered k default).submitter in
          let equal : numbers.holder found ≡ numbers.holder stranger =
          sym (get_or-map number registered k default d place) ∙ same in
          let name : found ≡ stranger =
          is_same-equal found stranger
          (sym (own found) ∙ eq-eqb (numbers.holder stranger) (numbers.holder found) (sym equal)) in
          both_ways (is_registered registered stranger) unknown
          (subst (λ (x : List ℕ). is_registered registered x ≡ true) name
          (registered-at registered k default place)));
      all = (IsLegal-told numbers (participants ++ numbers.holder stranger ∷ []) history tells.legal more).reaches;
    }

-- one more addend that leaves a sum as it is, is nothing
no_addend : (f : ℕ → ℕ) (xs : List ℕ) (x : ℕ) → sum_by f (xs ++ x ∷ []) ≡ sum_by f xs → f x ≡ 0
no_addend f xs x same = omega (arith, same, sum_by-append f xs (x ∷ []), sum_by-cons f x [])

-- with it or without it all hold the same, so it holds nothing
pub stranger-holds : (history : List Entry) (stranger : List ℕ) (cusip : Cusip)
    → IsLegal history
    → is_registered (registrations history) stranger ≡ false
    → held_of history stranger cusip ≡ 0
stranger-holds history stranger cusip legal unknown =
    let numbers = numbering_with stranger cusip.bytes history in
    let participants = participants_of numbers (registrations history) in
    let tells = tells-with stranger cusip.bytes history legal in
    let own = numbered-name stranger cusip.bytes history in
    let security = numbers.security cusip.bytes in
    let more = IsConserved-legal (participants ++ numbers.holder stranger ∷ []) (movements_by numbers history)
    tells.told.legal (AreParticipants-more numbers history stranger tells own unknown) in
    sym (held-told numbers participants history stranger cusip tells.told own
    (numbered-bill stranger cusip.bytes history))
    ∙ no_addend (λ holder. moved.held holder security (movements_by numbers history)) participants
    (numbers.holder stranger)
    (more.holdings security ∙ sym ((conserved-with stranger cusip.bytes history legal).holdings security))

-- where the only movement redeems, none stands before it
none_before : (security : ℕ) (next : Option Movement)
    → list_any (redeems security) (option_to_list next) ≡ true
    → take_while (λ movement. not (redeems security movement)) (option_to_list next) ≡ []
none_before security None some = absurd cc
none_before security (Some movement) some =
    let redeemed : redeems security movement ≡ true = sym (or_false (redeems security movement)) ∙ some in
    take_while-cons (λ m. not (redeems security m)) movement []
    ∙ ap (λ b. cond (not b) (movement ∷ take_while (λ m. not (redeems security m)) []) []) redeemed

-- the movements before a redemption are those of the entries before it
before-after : (numbers : Numbering) (cusip : Cusip) (before rest : List Entry)
    → IsBillNumbered numbers cusip.bytes
    → take_while (λ movement. not (redeems (numbers.security cusip.bytes) movement))
    (movements_after (meaning_by numbers) before rest)
    ≡ movements_after (meaning_by numbers) before (take_while
    (λ (entry : Entry). not (redeems_bill cusip entry.message)) rest)
before-after numbers cusip before [] bills = refl
before-after numbers cusip before (e ∷ rest) bills =
    let security = numbers.security cusip.bytes in
    let stays : Movement → Bool = λ movement. not (redeems security movement) in
    let passes : Entry → Bool = λ (entry : Entry). not (redeems_bill cusip entry.message) in
    let next = meaning_by numbers before e in
    let later = movements_after (meaning_by numbers) (before ++ e ∷ []) rest in
    let message_redeems = redeems-message numbers before e.submitter e.number e.message cusip bills in
    let front = take_while-cons passes e rest in
    elim (cases_Bool (redeems_bill cusip e.message)) [
      | inl redeemed ↦
          let some : list_any (redeems security) (option_to_list next) ≡ true = message_redeems ∙ redeemed in
          let none : take_while passes (e ∷ rest) ≡ [] =
          front ∙ ap (λ b. cond (not b) (e ∷ take_while passes rest) []) redeemed in
          take_while-stopped (redeems security) (option_to_list next) later some
          ∙ (none_before security next some ∙ ap (movements_after (meaning_by numbers) before) (sym none))
      | inr not_yet ↦
          let none : list_any (redeems security) (option_to_list next) ≡ false = message_redeems ∙ not_yet in
          let more : take_while passes (e ∷ rest) ≡ e ∷ take_while passes rest =
          front ∙ ap (λ b. cond (not b) (e ∷ take_while passes rest) []) not_yet in
          take_while-passed (redeems security) (option_to_list next) later none
          ∙ (ap (λ ms. option_to_list next ++ ms) (before-after numbers cusip (before ++ e ∷ []) rest bills)
          ∙ ap (movements_after (meaning_by numbers) before) (sym more))
    ]

-- numbers for a history are numbers for each of its beginnings
AreNumbered-begin : (numbers : Numbering) (participants : List ℕ) (history more : List Entry)
    → AreNumbered numbers participants (history ++ more)
    → AreNumbered numbers participants history
unfolding registrations announcements
AreNumbered-begin numbers participants history more are =
    let says : Entry → List Registration = λ (entry : Entry). registered_by entry.message in
    let tells : Entry → List Announcement = λ (entry : Entry). announced_by entry.message in
    let names : (name : List ℕ) → is_registered (registrations history) name ≡ true
    → is_registered (registrations (history ++ more)) name ≡ true =
    λ name known. rw (flat_map-append says history more)
    (registered-append (flat_map says history) (flat_map says more) name known) in
    record {
      names = λ name known. are.names name (names name known);
      listed = λ name known. are.listed name (names name known);
      bills = λ bytes known. are.bills bytes (rw (flat_map-append tells history more)
          (has_bill-append (flat_map tells history) (flat_map tells more) bytes known));
    }

-- a beginning that is taken is one
front-whole : (history : List Entry) (cusip : Cusip)
    → before_redemption history cusip
    ++ drop (prefix_len (λ (entry : Entry). not (redeems_bill cusip entry.message)) history) history ≡ history
front-whole history cusip =
    take-append-drop (prefix_len (λ (entry : Entry). not (redeems_bill cusip entry.message)) history) history

-- what is paid
pub paid-told : (numbers : Numbering) (participants : List ℕ) (history : List Entry) (participant : List ℕ)
    (cusip : Cusip)
    → IsToldBy numbers participants history
    → IsNumbered numbers participant
    → IsBillNumbered numbers cusip.bytes
    → moved.paid (numbers.holder participant) (numbers.security cusip.bytes) (movements_by numbers history)
    ≡ paid_to history participant cusip
unfolding paid_to
paid-told numbers participants history participant cusip tells own bills =
    let front = before_redemption history cusip in
    let rest = drop (prefix_len (λ (entry : Entry). not (redeems_bill cusip entry.message)) history) history in
    let whole = front-whole history cusip in
    let legal_front : IsLegal front = IsLegal-front rest front (subst IsLegal (sym whole) tells.legal) in
    let are_front =
    AreNumbered-begin numbers participants front rest
    (subst (AreNumbered numbers participants) (sym whole) tells.numbered) in
    let told_front = IsLegal-told numbers participants front legal_front are_front in
    let same : moved.before_redemption (numbers.security cusip.bytes) (movements_by numbers history)
    ≡ movements_by numbers front =
    before-after numbers cusip [] history bills in
    let held_then : moved.held (numbers.holder participant) (numbers.security cusip.bytes)
    (moved.before_redemption (numbers.security cusip.bytes) (movements_by numbers history))
    ≡ held_of front participant cusip =
    ap (moved.held (numbers.holder participant) (numbers.security cusip.bytes)) same
    ∙ held-told numbers participants front participant cusip told_front own bills in
    ap (λ b. cond b (moved.held (numbers.holder participant) (numbers.security cusip.bytes)
    (moved.before_redemption (numbers.security cusip.bytes) (movements_by numbers history))) 0)
    (tells.told.redeemed cusip bills)
    ∙ ap (λ n. cond (is_redeemed (redemptions history) cusip) n 0) held_then

-- after a redemption the participants were paid what was issued
pub paid-sum : (history : List Entry) (cusip : Cusip)
    → IsLegal history
    → is_redeemed (redemptions history) cusip ≡ true
    → sum_by (λ (registration : Registration). paid_to history registration.submitter cusip) (registrations history)
    ≡ issued history cusip
paid-sum history cusip legal redeemed =
    let numbers = numbering_with [] cusip.bytes history in
    let participants = participants_of numbers (registrations history) in
    let tells = tells-with [] cusip.bytes history legal in
    let bills = numbered-bill [] cusip.bytes history in
    let security = numbers.security cusip.bytes in
    let conserved =
    (conserved-with [] cusip.bytes history legal).payments security (tells.told.redeemed cusip bills ∙ redeemed) in
    let each : sum_by (λ (registration : Registration). paid_to history registration.submitter cusip)
    (registrations history)
    ≡ sum_by (λ (registration : Registration). moved.paid (numbers.holder registration.submitter) security
    (movements_by numbers history))
    (registrations history) =
    sum_by-each _ _ (registrations history) (λ k d within.
    let submitter = (get_or (registrations history) k d).submitter in
    sym (paid-told numbers participants history submitter cusip tells
    (tells.numbered.names submitter (registered-at (registrations history) k d within)) bills)) in
    each
    ∙ (sym (sum_by-made (λ holder. moved.paid holder security (movements_by numbers history))
    (λ (registration : Registration). numbers.holder registration.submitter) (registrations history))
    ∙ (conserved ∙ tells.told.issued_is cusip bills))

-- and whoever isn't registered was paid nothing
pub stranger-paid : (history : List Entry) (stranger : List ℕ) (cusip : Cusip)
    → IsLegal history
    → is_registered (registrations history) stranger ≡ false
    → paid_to history stranger cusip ≡ 0
unfolding paid_to registrations
stranger-paid history stranger cusip legal unknown =
    let says : Entry → List Registration = λ (entry : Entry). registered_by entry.message in
    let front = before_redemption history cusip in
    let rest = drop (prefix_len (λ (entry : Entry). not (redeems_bill cusip entry.message)) history) history in
    let whole = front-whole history cusip in
    let unknown_then : is_registered (registrations front) stranger ≡ false =
    false_from_ne_true _ (λ known. both_ways (is_registered (registrations history) stranger) unknown
    (subst (λ (entries : List Entry). is_registered (registrations entries) stranger ≡ true) whole
    (rw (flat_map-append says front rest)
    (registered-append (flat_map says front) (flat_map says rest) stranger known)))) in
    let held_then : held_of front stranger cusip ≡ 0 =
    stranger-holds front stranger cusip (IsLegal-front rest front (subst IsLegal (sym whole) legal)) unknown_then in
    elim (cases_Bool (is_redeemed (redemptions history) cusip)) [
      | inl is ↦ rw (is, held_then) refl
      | inr isnt ↦ rw isnt refl
    ]
