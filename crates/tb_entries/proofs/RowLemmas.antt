-- Rows and their entries.
use Rattle.std.proofs.Common.{◌≡◌, ℕ, suc, Bool, ◌==◌, ◌&&◌, map, Option, Some, None, List, [], ◌∷◌, ◌++◌, inl, inr, refl, sym, ap, ◌∙◌, subst, length, arith}
use Rattle.std.specs.Option.{option_map}
use Rattle.std.specs.List.{All, find, filter, position}
use Rattle.std.proofs.Math.ListN.{get_or-append}
use Rattle.std.proofs.lemmas.Bool.{cases_Bool}
use Rattle.std.proofs.lemmas.List.{length-append, append_assoc, map-append}
use Rattle.std.proofs.lemmas.List.Elements.{All-head, All-tail, All-push}
use Rattle.tb_message.specs.declared.message.Entry.{Entry}
use Rattle.tb_message.specs.declared.message.Message.{Message}
use Rattle.tb_message.specs.declared.message.Message.TheVariants as message
use Rattle.tb_history.specs.Entries.{is_same}
use Rattle.tb_entries.specs.declared.row.Row.{Row}
use Rattle.tb_entries.specs.declared.said.Said.{Said}
use Rattle.tb_entries.specs.declared.said.Said.TheVariants as said
use Rattle.tb_entries.specs.Rows.{message_of, entry_of, IsNumber, IsSaid, IsRow, Grown}
use Rattle.tb_entries.proofs.CallerLemmas.{and-swap}
use Rattle.tb_entries.proofs.NumberLemmas.{name-stays, IsNumber-stays, IsOwnNumber-is, IsOwnNumber-stays, same_number, no_number}

module _ (names more : List (List ℕ)) (others also : List Message) where
  -- what was said stays as names and messages are added
  pub message-stays : (what : Said) → IsSaid names others what
      → message_of (names ++ more) (others ++ also) what ≡ message_of names others what
  message-stays (said.Bid auction bidder rate amount) is =
      λ i. message.Bid (name-stays names more auction is.0.within i) (name-stays names more bidder is.1 i) rate amount
  message-stays (said.Cancel auction bid) is = λ i. message.Cancel (name-stays names more auction is.within i) bid
  message-stays (said.Position auction bidder position) is =
      λ i. message.Position (name-stays names more auction is.0.within i) (name-stays names more bidder is.1 i) position
  message-stays (said.Transfer cusip to amount) is = λ i. message.Transfer cusip (name-stays names more to is i) amount
  message-stays (said.Pledge cusip to amount) is = λ i. message.Pledge cusip (name-stays names more to is i) amount
  message-stays (said.Release holder pledge amount) is =
      λ i. message.Release (name-stays names more holder is i) pledge amount
  message-stays (said.Whole place) is = get_or-append others also (message.Publish []) place is

  pub IsSaid-stays : (what : Said) → IsSaid names others what → IsSaid (names ++ more) (others ++ also) what
  IsSaid-stays (said.Bid auction bidder rate amount) is =
      (IsOwnNumber-stays names more auction is.0, omega (arith, length-append names more, is.1))
  IsSaid-stays (said.Cancel auction bid) is = IsOwnNumber-stays names more auction is
  IsSaid-stays (said.Position auction bidder position) is =
      (IsOwnNumber-stays names more auction is.0, omega (arith, length-append names more, is.1))
  IsSaid-stays (said.Transfer cusip to amount) is = omega (arith, length-append names more, is)
  IsSaid-stays (said.Pledge cusip to amount) is = omega (arith, length-append names more, is)
  IsSaid-stays (said.Release holder pledge amount) is = omega (arith, length-append names more, is)
  IsSaid-stays (said.Whole place) is = omega (arith, length-append others also, is)

  -- and so does a row
  entry-stays : (row : Row) → IsRow names others row
      → entry_of (names ++ more) (others ++ also) row ≡ entry_of names others row
  entry-stays row is = λ i. record {
    submitter = name-stays names more row.submitter is.submitter.within i;
    number = row.number;
    moment = row.moment;
    message = message-stays row.said is.said i;
  }

  IsRow-stays : (row : Row) → IsRow names others row → IsRow (names ++ more) (others ++ also) row
  IsRow-stays row is = record {
    submitter = IsOwnNumber-stays names more row.submitter is.submitter;
    said = IsSaid-stays row.said is.said;
  }

  pub entries-stay : (rows : List Row) → All (IsRow names others) rows
      → map (entry_of (names ++ more) (others ++ also)) rows ≡ map (entry_of names others) rows
  entries-stay [] are = refl
  entries-stay (row ∷ rows) are = λ i.
      entry-stays row (All-head (IsRow names others) row rows are) i
      ∷ entries-stay rows (All-tail (IsRow names others) row rows are) i

  pub rows-stay : (rows : List Row) → All (IsRow names others) rows
      → All (IsRow (names ++ more) (others ++ also)) rows
  rows-stay rows are place row within = IsRow-stays _ (are place row within)

-- what holds of all holds of those in front
pub All-front : {X : Type 0} (P : X → Type 0) (front back : List X) → All P (front ++ back) → All P front
All-front P front back all place d within =
    subst P (get_or-append front back d place within) (all place d (omega (arith, length-append front back, within)))

-- and of one that is found
pub found_is : {X : Type 0} (P : X → Type 0) (p : X → Bool) (xs : List X) (x : X)
    → find p xs ≡ Some x
    → All P xs
    → P x
found_is P p [] x found all = let wrong : ◌≡◌ {A = Option _} None (Some x) = found in absurd (cc)
found_is P p (y ∷ xs) x found all =
    elim (cases_Bool (p y)) [
      | inl passes ↦
          let first : Some y ≡ Some x = rw passes at found in
          let same : y ≡ x = cc in
          subst P same (All-head P y xs all)
      | inr fails ↦ found_is P p xs x (rw fails at found) (All-tail P y xs all)
    ]

-- after an entry was added the rows are rows, and their entries are those before and this one
pub record Pushed (names now : List (List ℕ)) (others also : List Message) (rows longer : List Row)
    (entry : Entry) : Type 0
  where
    pub rows_are : All (IsRow now also) longer
    pub entries_are : map (entry_of now also) longer ≡ map (entry_of names others) rows ++ entry ∷ []

pub pushed : (names : List (List ℕ)) (others : List Message) (rows : List Row) → All (IsRow names others) rows
    → (entry : Entry) (between now : List (List ℕ)) (also : List Message)
    → Grown names between → Grown between now → Grown others also
    → (submitter : ℕ) (what : Said)
    → IsNumber between entry.submitter submitter
    → IsSaid now also what
    → message_of now also what ≡ entry.message
    → (longer : List Row)
    → longer ≡ rows ++ record { submitter = submitter; number = entry.number; moment = entry.moment; said = what } ∷ []
    → Pushed names now others also rows longer entry
pushed names others rows are entry between now also first second third submitter what numbered is says longer added =
    let row : Row = record { submitter = submitter; number = entry.number; moment = entry.moment; said = what } in
    let whole : now ≡ names ++ (first.0 ++ second.0) =
    second.1 ∙ ap (λ (list : List (List ℕ)). list ++ second.0) first.1 ∙ append_assoc names first.0 second.0 in
    let number = subst (λ (list : List (List ℕ)). IsNumber list entry.submitter submitter) (sym second.1)
    (IsNumber-stays between second.0 entry.submitter submitter numbered) in
    let is_row : IsRow now also row = record {
      submitter = IsOwnNumber-is now entry.submitter submitter number;
      said = is;
    } in
    let same : entry_of now also row ≡ entry =
    λ i. record { submitter = number.named i; number = entry.number; moment = entry.moment; message = says i } in
    let still : All (IsRow now also) rows =
    rw (whole, third.1) (rows-stay names (first.0 ++ second.0) others third.0 rows are) in
    let alike : map (entry_of now also) rows ≡ map (entry_of names others) rows =
    rw (whole, third.1) (entries-stay names (first.0 ++ second.0) others third.0 rows are) in
    record {
      rows_are = subst (λ (list : List Row). All (IsRow now also) list) (sym added)
          (All-push (IsRow now also) rows row still is_row);
      entries_are =
          ap (map (entry_of now also)) added
          ∙ map-append (entry_of now also) rows (row ∷ [])
          ∙ ap (λ (list : List Entry). list ++ entry_of now also row ∷ []) alike
          ∙ ap (λ (last : Entry). map (entry_of names others) rows ++ last ∷ []) same;
    }

module _ (names : List (List ℕ)) (others : List Message) (submitter : List ℕ) where
  -- an entry is found by its number just where its row is
  pub found_of : (number place : ℕ) (rows : List Row)
      → position (λ other. is_same other submitter) names ≡ Some place
      → All (IsRow names others) rows
      → find (λ (entry : Entry). is_same entry.submitter submitter && (entry.number == number))
      (map (entry_of names others) rows)
      ≡ option_map (entry_of names others)
      (find (λ (row : Row). (row.number == number) && (row.submitter == place)) rows)
  found_of number place [] placed are = refl
  found_of number place (row ∷ rows) placed are =
      let is = All-head (IsRow names others) row rows are in
      let rest = found_of number place rows placed (All-tail (IsRow names others) row rows are) in
      let same = same_number names _ submitter row.submitter place is.submitter placed in
      let both : (is_same (entry_of names others row).submitter submitter && (row.number == number))
      ≡ ((row.number == number) && (row.submitter == place)) =
      ap (λ b. b && (row.number == number)) same ∙ and-swap (row.submitter == place) (row.number == number) in
      elim (cases_Bool ((row.number == number) && (row.submitter == place))) [
        | inl is_it ↦ rw (both ∙ is_it, is_it) refl
        | inr other ↦ rw (both ∙ other, other) rest
      ]

  -- and none where the submitter has no number
  pub found_none : (number : ℕ) (rows : List Row)
      → position (λ other. is_same other submitter) names ≡ None
      → All (IsRow names others) rows
      → find (λ (entry : Entry). is_same entry.submitter submitter && (entry.number == number))
      (map (entry_of names others) rows)
      ≡ None
  found_none number [] none are = refl
  found_none number (row ∷ rows) none are =
      let is = All-head (IsRow names others) row rows are in
      let rest = found_none number rows none (All-tail (IsRow names others) row rows are) in
      let other = no_number names _ submitter row.submitter is.submitter none in
      rw other rest

  -- the submitter's entries are as many as the rows of its number
  pub counted : (place : ℕ) (rows : List Row)
      → position (λ other. is_same other submitter) names ≡ Some place
      → All (IsRow names others) rows
      → length (filter (λ (entry : Entry). is_same entry.submitter submitter) (map (entry_of names others) rows))
      ≡ length (filter (λ (row : Row). row.submitter == place) rows)
  counted place [] placed are = refl
  counted place (row ∷ rows) placed are =
      let is = All-head (IsRow names others) row rows are in
      let rest = counted place rows placed (All-tail (IsRow names others) row rows are) in
      let same = same_number names _ submitter row.submitter place is.submitter placed in
      elim (cases_Bool (row.submitter == place)) [
        | inl is_it ↦ rw (same ∙ is_it, is_it) (ap suc rest)
        | inr other ↦ rw (same ∙ other, other) rest
      ]

  -- and none where it has no number
  pub counted_none : (rows : List Row)
      → position (λ other. is_same other submitter) names ≡ None
      → All (IsRow names others) rows
      → length (filter (λ (entry : Entry). is_same entry.submitter submitter) (map (entry_of names others) rows)) ≡ 0
  counted_none [] none are = refl
  counted_none (row ∷ rows) none are =
      let is = All-head (IsRow names others) row rows are in
      let rest = counted_none rows none (All-tail (IsRow names others) row rows are) in
      let other = no_number names _ submitter row.submitter is.submitter none in
      rw other rest
