-- The book tells the history after each call.
use Rattle.std.proofs.Common.{◌≡◌, ◌≢◌, ℕ, ◌+◌, ◌-◌, ◌<◌, ◌≤◌, Bool, true, false, ◌&&◌, ◌==◌, List, [], ◌∷◌, ◌++◌, filter, find, Option, None, Some, Contains, refl, ap, ap₂, sym, ◌∙◌, inl, inr, subst, arith, eqb-true, eq-eqb, ne_eqb}
use Rattle.std.specs.Prelude.{IsSomeAnd, ◌↔◌, Result, Ok, Err, OnOk, IsOk, IsErr}
use Rattle.std.specs.Option.{option_map}
use Rattle.std.proofs.lemmas.Bool.{cases_Bool, cases_lt, cases_eq, cond-true, cond-false, and_parts, and_right, true≢false}
use Rattle.std.proofs.lemmas.List.Elements.{Contains-append_left, Contains-push, Contains-push_cases}
use Rattle.std.proofs.lemmas.List.Sums.{sum_by_push}
use Rattle.tb_units.proofs.ListLemmas.{AllPairs-nil}
use Rattle.tb_units.proofs.PlaceLemmas.{find-append_none, find-append_some}
use Rattle.tb_holdings.specs.declared.mark.KeptMark.{KeptMark}
use Rattle.tb_holdings.specs.Holdings.{is_of, held_in, total_in, moved, without}
use Rattle.tb_holdings.specs.Marks.{mark_in, new_mark, with_mark, left_at, after_release, released, after_redemption, cleared, IsEarlierMark, MarksAreInOrder}
use Rattle.tb_holdings.specs.Refusals.{MayRelease}
use Rattle.tb_holdings.specs.Book.{Book, held_of, pledged_of, free_of, total_of, paid_of, mark_of as kept_mark_of, IsRedeemed, SameLists, ChangesAccountsOnly, ChangesMarksOnly}
use Rattle.tb_holdings.proofs.HoldingLemmas.{held_in-moved, total_in-moved, total_in-moved_other, held_in-without, held_in-without_other, total_in-without_same, total_in-without_other, held_in-append, held_in-append_of_other, held_in-of}
use Rattle.tb_holdings.proofs.MarkLemmas.{mark_in-with_left, mark_in-with_mark_same, mark_in-with_mark_other, MarksAreInOrder-with_mark, MarksAreInOrder-with_left}
use Rattle.tb_movements.specs.Movements.{Movement, Settled, Transferred, Pledged, Released, Redeemed, Credit, credited_to, credited_in_all, brought, taken, issues, redeems}
use Rattle.tb_movements.specs.Holdings.{is_redeemed, before_redemption, balance, held, issued, outstanding, paid}
use Rattle.tb_movements.specs.Marks.{Mark, mark_made, marks, released_of, left_of, is_named, mark_of, pledged, free}
use Rattle.tb_movements.specs.Legal.{Passes, IsLegal}
use Rattle.tb_movements.specs.Told.{as_kept, Tells, IsTold, HasFigures, TellsMore}
use Rattle.tb_movements.specs.Credits.{CreditsBook}
use Rattle.tb_movements.proofs.HistoryLemmas.{IsLegal-none, IsLegal-push, is_redeemed-same, is_redeemed-stays, is_redeemed-now, before_redemption-stays, before_redemption-now}
use Rattle.tb_movements.proofs.MarkLemmas.{made, marks-same, marks-pledged, left_of-same, left_of-released, left_of-redeemed, releases-none}
use Rattle.tb_movements.proofs.LookUpLemmas.{pledged_in-told, open_marks_in-told}
use Rattle.tb_movements.proofs.ConservationLemmas.{IsCovered-legal, held-redeemed}

-- what a holder holds after one more movement that doesn't redeem the security
held-push : (history : List Movement) (movement : Movement)
    → IsLegal history
    → Passes history movement
    → (holder security : ℕ)
    → redeems security movement ≡ false
    → is_redeemed security history ≡ false
    → held holder security (history ++ movement ∷ []) + taken holder security movement
    ≡ held holder security history + brought holder security movement
held-push history movement legal passes holder security kept live =
    let more : List Movement = history ++ movement ∷ [] in
    let now = is_redeemed-same security history movement kept ∙ live in
    omega (
      arith,
      cond-false {A = ℕ} (is_redeemed security history) 0 (balance holder security history) live,
      cond-false {A = ℕ} (is_redeemed security more) 0 (balance holder security more) now,
      sum_by_push (brought holder security) history movement,
      sum_by_push (taken holder security) history movement,
      IsCovered-legal history legal holder security live,
      IsCovered-legal more (IsLegal-push history movement legal passes) holder security now,
    )

-- a movement that brings the holder nothing and takes nothing from it
held-same : (history : List Movement) (movement : Movement)
    → IsLegal history
    → Passes history movement
    → (holder security : ℕ)
    → redeems security movement ≡ false
    → brought holder security movement ≡ 0
    → taken holder security movement ≡ 0
    → held holder security (history ++ movement ∷ []) ≡ held holder security history
held-same history movement legal passes holder security kept nothing none =
    elim (cases_Bool (is_redeemed security history)) [
      | inl redeemed ↦
          let stays = is_redeemed-stays security history movement redeemed in
          held-redeemed (history ++ movement ∷ []) holder security stays
          ∙ sym (held-redeemed history holder security redeemed)
      | inr live ↦ omega (arith, held-push history movement legal passes holder security kept live, nothing, none)
    ]

-- what of the security is issued and not redeemed, after one more movement
outstanding-push : (history : List Movement) (movement : Movement) (security : ℕ)
    → redeems security movement ≡ false
    → is_redeemed security history ≡ false
    → outstanding security (history ++ movement ∷ []) ≡ outstanding security history + issues security movement
outstanding-push history movement security kept live =
    let more : List Movement = history ++ movement ∷ [] in
    let now = is_redeemed-same security history movement kept ∙ live in
    omega (
      arith,
      cond-false {A = ℕ} (is_redeemed security history) 0 (issued security history) live,
      cond-false {A = ℕ} (is_redeemed security more) 0 (issued security more) now,
      sum_by_push (issues security) history movement,
    )

-- nothing of it once it was redeemed
outstanding-redeemed : (history : List Movement) (security : ℕ)
    → is_redeemed security history ≡ true
    → outstanding security history ≡ 0
outstanding-redeemed history security redeemed =
    cond-true {A = ℕ} (is_redeemed security history) 0 (issued security history) redeemed

-- a movement that issues nothing
outstanding-same : (history : List Movement) (movement : Movement) (security : ℕ)
    → redeems security movement ≡ false
    → issues security movement ≡ 0
    → outstanding security (history ++ movement ∷ []) ≡ outstanding security history
outstanding-same history movement security kept none =
    elim (cases_Bool (is_redeemed security history)) [
      | inl redeemed ↦
          let stays = is_redeemed-stays security history movement redeemed in
          outstanding-redeemed (history ++ movement ∷ []) security stays
          ∙ sym (outstanding-redeemed history security redeemed)
      | inr live ↦ omega (arith, outstanding-push history movement security kept live, none)
    ]

-- what a holder was paid once the security was redeemed
paid-redeemed : (history : List Movement) (holder security : ℕ)
    → is_redeemed security history ≡ true
    → paid holder security history ≡ held holder security (before_redemption security history)
paid-redeemed history holder security redeemed =
    cond-true (is_redeemed security history) (held holder security (before_redemption security history)) 0 redeemed

-- and before
paid-live : (history : List Movement) (holder security : ℕ)
    → is_redeemed security history ≡ false
    → paid holder security history ≡ 0
paid-live history holder security live =
    cond-false (is_redeemed security history) (held holder security (before_redemption security history)) 0 live

-- only a redemption pays
paid-same : (history : List Movement) (movement : Movement) (holder security : ℕ)
    → redeems security movement ≡ false
    → paid holder security (history ++ movement ∷ []) ≡ paid holder security history
paid-same history movement holder security kept =
    let more : List Movement = history ++ movement ∷ [] in
    elim (cases_Bool (is_redeemed security history)) [
      | inl redeemed ↦
          paid-redeemed more holder security (is_redeemed-stays security history movement redeemed)
          ∙ ap (held holder security) (before_redemption-stays security history movement redeemed)
          ∙ sym (paid-redeemed history holder security redeemed)
      | inr live ↦
          paid-live more holder security (is_redeemed-same security history movement kept ∙ live)
          ∙ sym (paid-live history holder security live)
    ]

-- the mark that the book keeps, where so much is left of each after one more movement
kept_changed : (history : List Movement) (movement : Movement) (left : KeptMark → ℕ)
    → ((mark : Mark) → left_of (history ++ movement ∷ []) mark ≡ left (as_kept history mark))
    → (found : Option Mark)
    → option_map (left_at left) (option_map (as_kept history) found)
    ≡ option_map (as_kept (history ++ movement ∷ [])) found
kept_changed history movement left is None = refl
kept_changed history movement left is (Some mark) =
    ap (λ n. Some (record (as_kept history mark) { left = n })) (sym (is mark))

-- and where as much is left of each
kept_same : (history : List Movement) (movement : Movement)
    → ((mark : Mark) → left_of (history ++ movement ∷ []) mark ≡ left_of history mark)
    → (found : Option Mark)
    → option_map (as_kept history) found ≡ option_map (as_kept (history ++ movement ∷ [])) found
kept_same history movement is None = refl
kept_same history movement is (Some mark) =
    ap (λ n. Some (record (as_kept history mark) { left = n })) (sym (is mark))

-- a movement that makes no mark finds each where it was
found-same : (history : List Movement) (movement : Movement)
    → mark_made movement ≡ None
    → (holder number : ℕ)
    → mark_of holder number (history ++ movement ∷ []) ≡ mark_of holder number history
found-same history movement none holder number =
    ap (find (is_named holder number)) (marks-same history movement none)

-- and keeps it as it was where as much is left of each
mark-same : (history : List Movement) (movement : Movement)
    → mark_made movement ≡ None
    → ((mark : Mark) → left_of (history ++ movement ∷ []) mark ≡ left_of history mark)
    → (holder number : ℕ)
    → option_map (as_kept history) (mark_of holder number history)
    ≡ option_map (as_kept (history ++ movement ∷ [])) (mark_of holder number (history ++ movement ∷ []))
mark-same history movement none is holder number =
    kept_same history movement is (mark_of holder number history)
    ∙ ap (option_map (as_kept (history ++ movement ∷ []))) (sym (found-same history movement none holder number))

-- the book tells which securities are redeemed
abbrev RedeemedIsTold : List Movement → Book → Type 0
RedeemedIsTold history book = (security : ℕ) → IsRedeemed security book ↔ (is_redeemed security history ≡ true)

-- also after a movement that redeems none
redeemed-same : (history : List Movement) (movement : Movement) (old new : Book)
    → ((security : ℕ) → redeems security movement ≡ false)
    → new.redeemed ≡ old.redeemed
    → RedeemedIsTold history old
    → RedeemedIsTold (history ++ movement ∷ []) new
redeemed-same history movement old new kept same told security =
    let P : List ℕ → Type 0 = λ list. Contains list security in
    let as_before = is_redeemed-same security history movement (kept security) in (
      (λ has. as_before ∙ (told security).0 (subst P same has)),
      (λ is. subst P (sym same) ((told security).1 (sym as_before ∙ is))),
    )

-- a settlement is told
Tells-settled : (history : List Movement) (security : ℕ) (credits : List Credit) (old new : Book)
    → IsTold history old
    → Passes history (Settled security credits)
    → CreditsBook security credits old new
    → Tells (history ++ Settled security credits ∷ []) new
Tells-settled history security credits old new told passes change =
    let legal = told.legal in
    let tells = told.tells in
    let movement : Movement = Settled security credits in
    let more : List Movement = history ++ movement ∷ [] in
    let apart : (other : ℕ) → is_redeemed other history ≡ true → (other == security) ≡ false =
    λ other redeemed. ne_eqb other security
    (λ is. true≢false (sym redeemed ∙ (ap (λ s. is_redeemed s history) is ∙ passes))) in
    record {
      held = λ holder other. elim (cases_Bool (is_redeemed other history)) [
        | inl redeemed ↦
            omega (
              arith,
              change.held holder other,
              tells.held holder other,
              held-redeemed history holder other redeemed,
              held-redeemed more holder other (is_redeemed-stays other history movement redeemed),
              cond-false {A = ℕ} (other == security) (credited_to holder credits) 0 (apart other redeemed),
            )
        | inr live ↦
            omega (
              arith,
              change.held holder other,
              tells.held holder other,
              held-push history movement legal passes holder other refl live,
            )
      ];
      total = λ other. elim (cases_Bool (is_redeemed other history)) [
        | inl redeemed ↦
            omega (
              arith,
              change.total other,
              tells.total other,
              outstanding-redeemed history other redeemed,
              outstanding-redeemed more other (is_redeemed-stays other history movement redeemed),
              cond-false {A = ℕ} (other == security) (credited_in_all credits) 0 (apart other redeemed),
            )
        | inr live ↦
            omega (
              arith,
              change.total other,
              tells.total other,
              outstanding-push history movement other refl live,
            )
      ];
      paid = λ holder other.
          ap (held_in holder other) change.others.paid
          ∙ tells.paid holder other
          ∙ sym (paid-same history movement holder other refl);
      redeemed = redeemed-same history movement old new (λ _. refl) change.others.redeemed tells.redeemed;
      mark = λ holder number.
          ap (mark_in holder number) change.others.marks
          ∙ tells.mark holder number
          ∙ mark-same history movement refl (λ mark. left_of-same history movement mark refl refl) holder number;
      in_order = subst MarksAreInOrder (sym change.others.marks) tells.in_order;
    }

-- what a transfer does to a book
pub record TransfersPar (from to security par : ℕ) (old new : Book) : Type 0 where
  pub accounts : new.accounts ≡ moved from to security par old.accounts
  pub others : ChangesAccountsOnly old new

-- what each holds after a transfer is told
held-transferred : (history : List Movement) (from to security par : ℕ) (old new : Book)
    → IsTold history old
    → Passes history (Transferred from to security par)
    → TransfersPar from to security par old new
    → (holder other : ℕ)
    → held_of holder other new ≡ held holder other (history ++ Transferred from to security par ∷ [])
held-transferred history from to security par old new told passes change holder other =
    let movement : Movement = Transferred from to security par in
    let more : List Movement = history ++ movement ∷ [] in
    let enough : par ≤ held_of from security old = omega (arith, passes.2, told.tells.held from security) in
    let moves = held_in-moved from to security par holder other old.accounts passes.1 enough in
    let accounts = ap (held_in holder other) change.accounts in
    elim (cases_Bool (is_redeemed other history)) [
      | inl redeemed ↦
          let differs : (other == security) ≡ false =
          ne_eqb other security
          (λ is. true≢false (sym redeemed ∙ (ap (λ s. is_redeemed s history) is ∙ passes.0))) in
          let not_from = and_right (holder == from) (other == security) differs in
          let not_to = and_right (holder == to) (other == security) differs in
          omega (
            arith,
            accounts,
            moves,
            told.tells.held holder other,
            held-redeemed history holder other redeemed,
            held-redeemed more holder other (is_redeemed-stays other history movement redeemed),
            cond-false {A = ℕ} (holder == from && other == security) par 0 not_from,
            cond-false {A = ℕ} (holder == to && other == security) par 0 not_to,
          )
      | inr live ↦
          omega (
            arith,
            accounts,
            moves,
            told.tells.held holder other,
            held-push history movement told.legal passes holder other refl live,
          )
    ]

-- a transfer is told
Tells-transferred : (history : List Movement) (from to security par : ℕ) (old new : Book)
    → IsTold history old
    → Passes history (Transferred from to security par)
    → TransfersPar from to security par old new
    → Tells (history ++ Transferred from to security par ∷ []) new
Tells-transferred history from to security par old new told passes change =
    let tells = told.tells in
    let movement : Movement = Transferred from to security par in
    let more : List Movement = history ++ movement ∷ [] in
    let enough : par ≤ held_of from security old = omega (arith, passes.2, tells.held from security) in
    record {
      held = held-transferred history from to security par old new told passes change;
      total = λ other.
          let same = tells.total other ∙ sym (outstanding-same history movement other refl refl) in
          elim (cases_eq other security) [
            | inl is ↦
                let P : ℕ → Type 0 = λ s. total_of s new ≡ outstanding s more in
                subst P (sym is)
                (ap (total_in security) change.accounts
                ∙ total_in-moved from to security par old.accounts passes.1 enough
                ∙ tells.total security
                ∙ sym (outstanding-same history movement security refl refl))
            | inr differs ↦
                ap (total_in other) change.accounts
                ∙ total_in-moved_other from to security par other old.accounts differs
                ∙ same
          ];
      paid = λ holder other.
          ap (held_in holder other) change.others.paid
          ∙ tells.paid holder other
          ∙ sym (paid-same history movement holder other refl);
      redeemed = redeemed-same history movement old new (λ _. refl) change.others.redeemed tells.redeemed;
      mark = λ holder number.
          ap (mark_in holder number) change.others.marks
          ∙ tells.mark holder number
          ∙ mark-same history movement refl (λ mark. left_of-same history movement mark refl refl) holder number;
      in_order = subst MarksAreInOrder (sym change.others.marks) tells.in_order;
    }

-- what is found in a list with one more at its end that doesn't pass
find_before : {X : Type 0} (p : X → Bool) (xs : List X) (x : X)
    → p x ≡ false
    → (found : Option X)
    → find p xs ≡ found
    → find p (xs ++ x ∷ []) ≡ found
find_before p xs x fails None is = find-append_none p xs (x ∷ []) is ∙ cond-false (p x) (Some x) None fails
find_before p xs x fails (Some y) is = find-append_some p xs (x ∷ []) y is

-- what a pledge does to a book
pub record AddsMark (mark : KeptMark) (old new : Book) : Type 0 where
  pub marks : new.marks ≡ with_mark mark old.marks
  pub others : ChangesMarksOnly old new

-- a new mark is whole
left_of-new : (history : List Movement) (holder number pledgee security par : ℕ)
    → IsLegal history
    → Passes history (Pledged holder number pledgee security par)
    → let mark : Mark = made holder number pledgee security par in
    left_of (history ++ Pledged holder number pledgee security par ∷ []) mark ≡ par
left_of-new history holder number pledgee security par legal passes =
    let none = releases-none holder number history legal passes.1 in
    let mark : Mark = made holder number pledgee security par in
    left_of-same history (Pledged holder number pledgee security par) mark refl refl
    ∙ cond-false {A = ℕ} (is_redeemed security history) 0 (par - released_of holder number history) passes.0
    ∙ omega arith

-- a new mark is found, and each other as before
mark-pledged : (history : List Movement) (holder number pledgee security par : ℕ) (kept : List KeptMark)
    → IsLegal history
    → Passes history (Pledged holder number pledgee security par)
    → ((h n : ℕ) → mark_in h n kept ≡ option_map (as_kept history) (mark_of h n history))
    → let more : List Movement = history ++ Pledged holder number pledgee security par ∷ [] in
    (h n : ℕ)
    → mark_in h n (with_mark (new_mark holder number pledgee security par) kept)
    ≡ option_map (as_kept more) (mark_of h n more)
mark-pledged history holder number pledgee security par kept legal passes told h n =
    let movement : Movement = Pledged holder number pledgee security par in
    let more : List Movement = history ++ movement ∷ [] in
    let mark : Mark = made holder number pledgee security par in
    let put : KeptMark = new_mark holder number pledgee security par in
    let found : mark_of h n more ≡ find (is_named h n) (marks history ++ mark ∷ []) =
    ap (find (is_named h n)) (marks-pledged history holder number pledgee security par) in
    elim (cases_Bool (is_named h n mark)) [
      | inl own ↦
          let parts = and_parts (holder == h) (number == n) own in
          let same_holder = eqb-true holder h parts.0 in
          let same_number = eqb-true number n parts.1 in
          let whole = left_of-new history holder number pledgee security par legal passes in
          let gone : find (is_named h n) (marks history) ≡ None =
          sym (ap₂ (λ a b. mark_of a b history) same_holder same_number) ∙ passes.1 in
          sym (ap₂ (λ a b. mark_in a b (with_mark put kept)) same_holder same_number)
          ∙ mark_in-with_mark_same put kept
          ∙ ap (λ left. Some (record put { left = left })) (sym whole)
          ∙ sym (ap (option_map (as_kept more))
          (found
          ∙ find-append_none (is_named h n) (marks history) (mark ∷ []) gone
          ∙ cond-true (is_named h n mark) (Some mark) None own))
      | inr other ↦
          mark_in-with_mark_other put kept h n other
          ∙ told h n
          ∙ kept_same history movement (λ one. left_of-same history movement one refl refl) (mark_of h n history)
          ∙ sym (ap (option_map (as_kept more))
          (found ∙ find_before (is_named h n) (marks history) mark other (mark_of h n history) refl))
    ]

-- a pledge is told
Tells-pledged : (history : List Movement) (holder number pledgee security par : ℕ) (old new : Book)
    → IsTold history old
    → Passes history (Pledged holder number pledgee security par)
    → AddsMark (new_mark holder number pledgee security par) old new
    → Tells (history ++ Pledged holder number pledgee security par ∷ []) new
Tells-pledged history holder number pledgee security par old new told passes change =
    let tells = told.tells in
    let movement : Movement = Pledged holder number pledgee security par in
    record {
      held = λ h other.
          ap (held_in h other) change.others.accounts
          ∙ tells.held h other
          ∙ sym (held-same history movement told.legal passes h other refl refl refl);
      total = λ other.
          ap (total_in other) change.others.accounts
          ∙ tells.total other
          ∙ sym (outstanding-same history movement other refl refl);
      paid = λ h other.
          ap (held_in h other) change.others.paid
          ∙ tells.paid h other
          ∙ sym (paid-same history movement h other refl);
      redeemed = redeemed-same history movement old new (λ _. refl) change.others.redeemed tells.redeemed;
      mark = λ h n.
          ap (mark_in h n) change.marks
          ∙ mark-pledged history holder number pledgee security par old.marks told.legal passes tells.mark h n;
      in_order = subst MarksAreInOrder (sym change.marks) (MarksAreInOrder-with_mark _ old.marks tells.in_order);
    }

-- what a release does to a book
pub record ReleasesMark (holder number par : ℕ) (old new : Book) : Type 0 where
  pub marks : new.marks ≡ released holder number par old.marks
  pub others : ChangesMarksOnly old new

-- a release is told
Tells-released : (history : List Movement) (holder number caller par : ℕ) (old new : Book)
    → IsTold history old
    → Passes history (Released holder number caller par)
    → ReleasesMark holder number par old new
    → Tells (history ++ Released holder number caller par ∷ []) new
unfolding released
Tells-released history holder number caller par old new told passes change =
    let tells = told.tells in
    let movement : Movement = Released holder number caller par in
    let more : List Movement = history ++ movement ∷ [] in
    let left : KeptMark → ℕ = after_release holder number par in
    record {
      held = λ h other.
          ap (held_in h other) change.others.accounts
          ∙ tells.held h other
          ∙ sym (held-same history movement told.legal passes h other refl refl refl);
      total = λ other.
          ap (total_in other) change.others.accounts
          ∙ tells.total other
          ∙ sym (outstanding-same history movement other refl refl);
      paid = λ h other.
          ap (held_in h other) change.others.paid
          ∙ tells.paid h other
          ∙ sym (paid-same history movement h other refl);
      redeemed = redeemed-same history movement old new (λ _. refl) change.others.redeemed tells.redeemed;
      mark = λ h n.
          ap (mark_in h n) change.marks
          ∙ mark_in-with_left left h n old.marks
          ∙ ap (option_map (left_at left)) (tells.mark h n)
          ∙ kept_changed history movement left
          (λ mark. left_of-released history holder number caller par mark) (mark_of h n history)
          ∙ ap (option_map (as_kept more)) (sym (found-same history movement refl h n));
      in_order = subst MarksAreInOrder (sym change.marks) (MarksAreInOrder-with_left left old.marks tells.in_order);
    }

-- what a redemption does to a book
pub record RedeemsBook (security : ℕ) (old new : Book) : Type 0 where
  pub accounts : new.accounts ≡ without security old.accounts
  pub marks : new.marks ≡ cleared security old.marks
  pub redeemed : new.redeemed ≡ old.redeemed ++ security ∷ []
  pub paid : new.paid ≡ old.paid ++ filter (is_of security) old.accounts

-- the security is redeemed then
is_redeemed-redeemed : (history : List Movement) (security : ℕ)
    → Passes history (Redeemed security)
    → is_redeemed security (history ++ Redeemed security ∷ []) ≡ true
is_redeemed-redeemed history security passes =
    is_redeemed-now security history (Redeemed security) passes ∙ eq-eqb security security refl

-- what each was paid after a redemption is told
paid-told : (history : List Movement) (security : ℕ) (old new : Book)
    → IsTold history old
    → Passes history (Redeemed security)
    → RedeemsBook security old new
    → (holder other : ℕ) → paid_of holder other new ≡ paid holder other (history ++ Redeemed security ∷ [])
paid-told history security old new told passes change holder other =
    let movement : Movement = Redeemed security in
    let after : List Movement = history ++ movement ∷ [] in
    elim (cases_eq other security) [
      | inl same ↦
          let P : ℕ → Type 0 = λ s. paid_of holder s new ≡ paid holder s after in
          let now = is_redeemed-redeemed history security passes in
          let before : paid holder security after ≡ held holder security history =
          paid-redeemed after holder security now
          ∙ ap (held holder security) (before_redemption-now security history passes) in
          subst P (sym same)
          (omega (
            arith,
            ap (held_in holder security) change.paid,
            held_in-append holder security old.paid (filter (is_of security) old.accounts),
            held_in-of holder security security old.accounts,
            cond-true (security == security) (held_in holder security old.accounts) 0 (eq-eqb security security refl),
            told.tells.held holder security,
            told.tells.paid holder security,
            paid-live history holder security passes,
            before,
          ))
      | inr differs ↦
          ap (held_in holder other) change.paid
          ∙ held_in-append_of_other holder other security old.paid old.accounts differs
          ∙ told.tells.paid holder other
          ∙ sym (paid-same history movement holder other (ne_eqb other security differs))
    ]

-- which securities are redeemed after a redemption is told
redeemed-told : (history : List Movement) (security : ℕ) (old new : Book)
    → RedeemedIsTold history old
    → Passes history (Redeemed security)
    → new.redeemed ≡ old.redeemed ++ security ∷ []
    → RedeemedIsTold (history ++ Redeemed security ∷ []) new
redeemed-told history security old new told passes grown other =
    let movement : Movement = Redeemed security in
    let after : List Movement = history ++ movement ∷ [] in
    let now = is_redeemed-redeemed history security passes in
    let P : List ℕ → Type 0 = λ list. Contains list other in
    let Q : ℕ → Type 0 = Contains (old.redeemed ++ security ∷ []) in (
      (λ has. elim (Contains-push_cases old.redeemed security other (subst P grown has)) [
        | inl before ↦ is_redeemed-stays other history movement ((told other).0 before)
        | inr same ↦ ap (λ s. is_redeemed s after) (sym same) ∙ now
      ]),
      (λ is. subst P (sym grown) (elim (cases_eq other security) [
        | inl same ↦ subst Q (sym same) (Contains-push old.redeemed security)
        | inr differs ↦
            let as_before = is_redeemed-same other history movement (ne_eqb other security differs) in
            Contains-append_left old.redeemed (security ∷ []) other ((told other).1 (sym as_before ∙ is))
      ])),
    )

-- a redemption is told
Tells-redeemed : (history : List Movement) (security : ℕ) (old new : Book)
    → IsTold history old
    → Passes history (Redeemed security)
    → RedeemsBook security old new
    → Tells (history ++ Redeemed security ∷ []) new
unfolding cleared
Tells-redeemed history security old new told passes change =
    let tells = told.tells in
    let movement : Movement = Redeemed security in
    let after : List Movement = history ++ movement ∷ [] in
    let left : KeptMark → ℕ = after_redemption security in
    let now = is_redeemed-redeemed history security passes in
    record {
      held = λ h other. elim (cases_eq other security) [
        | inl same ↦
            let here : is_redeemed other after ≡ true = ap (λ s. is_redeemed s after) same ∙ now in
            let all = eq-eqb security other (sym same) in
            omega (
              arith,
              ap (held_in h other) change.accounts,
              held_in-without h other security old.accounts,
              cond-true (security == other) (held_in h other old.accounts) 0 all,
              held-redeemed after h other here,
            )
        | inr differs ↦
            ap (held_in h other) change.accounts
            ∙ held_in-without_other h other security old.accounts differs
            ∙ tells.held h other
            ∙ sym (held-same history movement told.legal passes h other (ne_eqb other security differs) refl refl)
      ];
      total = λ other. elim (cases_eq other security) [
        | inl same ↦
            let P : ℕ → Type 0 = λ s. total_of s new ≡ outstanding s after in
            subst P (sym same)
            (ap (total_in security) change.accounts
            ∙ total_in-without_same security old.accounts
            ∙ sym (outstanding-redeemed after security now))
        | inr differs ↦
            ap (total_in other) change.accounts
            ∙ total_in-without_other other security old.accounts differs
            ∙ tells.total other
            ∙ sym (outstanding-same history movement other (ne_eqb other security differs) refl)
      ];
      paid = paid-told history security old new told passes change;
      redeemed = redeemed-told history security old new tells.redeemed passes change.redeemed;
      mark = λ h n.
          ap (mark_in h n) change.marks
          ∙ mark_in-with_left left h n old.marks
          ∙ ap (option_map (left_at left)) (tells.mark h n)
          ∙ kept_changed history movement left (λ mark. left_of-redeemed history security mark) (mark_of h n history)
          ∙ ap (option_map (as_kept after)) (sym (found-same history movement refl h n));
      in_order = subst MarksAreInOrder (sym change.marks) (MarksAreInOrder-with_left left old.marks tells.in_order);
    }

-- what is pledged is told
pledged-told : (history : List Movement) (book : Book)
    → IsTold history book
    → (holder security : ℕ) → pledged_of holder security book ≡ pledged holder security history
pledged-told history book told = pledged_in-told history book.marks told.legal told.tells.in_order told.tells.mark

-- and so what is free, and how many marks are open
pub HasFigures-told : (history : List Movement) (book : Book) → IsTold history book → HasFigures history book
HasFigures-told history book told = record {
  pledges = pledged-told history book told;
  frees = λ holder security.
      omega (arith, told.tells.held holder security, pledged-told history book told holder security);
  opens = open_marks_in-told history book.marks told.legal told.tells.in_order told.tells.mark;
}

-- a security that isn't redeemed in the book isn't in the history
pub live-told : (history : List Movement) (book : Book)
    → IsTold history book
    → (security : ℕ)
    → ¬ (IsRedeemed security book)
    → is_redeemed security history ≡ false
live-told history book told security live =
    elim (cases_Bool (is_redeemed security history)) [
      | inl redeemed ↦ absurd (live ((told.tells.redeemed security).1 redeemed))
      | inr is ↦ is
    ]

-- a mark that isn't in the book isn't in the history
kept_none : (history : List Movement) (found : Option Mark)
    → option_map (as_kept history) found ≡ None
    → found ≡ None
kept_none history None none = refl
kept_none history (Some mark) none = absurd (cc)

-- who may release by the book may by the history
may_here : (history : List Movement) (found : Option Mark) (caller par : ℕ)
    → MayRelease (option_map (as_kept history) found) caller par
    → IsSomeAnd found (λ mark. (mark.pledgee ≡ caller) × (par ≤ left_of history mark))
may_here history None caller par may = may
may_here history (Some mark) caller par may = may

-- the book tells one more movement that passes
told_more : (history : List Movement) (movement : Movement) (old new : Book)
    → IsTold history old
    → Passes history movement
    → Tells (history ++ movement ∷ []) new
    → IsTold (history ++ movement ∷ []) new
told_more history movement old new told passes tells =
    record { legal = IsLegal-push history movement told.legal passes; tells = tells }

-- a book tells the settlement by which it was credited
pub TellsMore-settled : (security : ℕ) (credits : List Credit) (old new : Book)
    → ¬ (IsRedeemed security old)
    → CreditsBook security credits old new
    → TellsMore (Settled security credits) old new
TellsMore-settled security credits old new live change = λ history told.
    let movement : Movement = Settled security credits in
    let passes : Passes history movement = live-told history old told security live in
    told_more history movement old new told passes (Tells-settled history security credits old new told passes change)

-- a book tells the transfer of what was free
pub TellsMore-transferred : (from to security par : ℕ) (old new : Book)
    → ¬ (IsRedeemed security old)
    → from ≢ to
    → par ≤ free_of from security old
    → TransfersPar from to security par old new
    → TellsMore (Transferred from to security par) old new
TellsMore-transferred from to security par old new live apart enough change = λ history told.
    let movement : Movement = Transferred from to security par in
    let passes : Passes history movement = (
      live-told history old told security live,
      apart,
      omega (arith, enough, (HasFigures-told history old told).frees from security),
    ) in
    told_more history movement old new told passes
    (Tells-transferred history from to security par old new told passes change)

-- a book tells the pledge of what was free
pub TellsMore-pledged : (holder number pledgee security par : ℕ) (old new : Book)
    → ¬ (IsRedeemed security old)
    → kept_mark_of holder number old ≡ None
    → par ≤ free_of holder security old
    → AddsMark (new_mark holder number pledgee security par) old new
    → TellsMore (Pledged holder number pledgee security par) old new
TellsMore-pledged holder number pledgee security par old new live unknown enough change = λ history told.
    let movement : Movement = Pledged holder number pledgee security par in
    let passes : Passes history movement = (
      live-told history old told security live,
      kept_none history (mark_of holder number history) (sym (told.tells.mark holder number) ∙ unknown),
      omega (arith, enough, (HasFigures-told history old told).frees holder security),
    ) in
    told_more history movement old new told passes
    (Tells-pledged history holder number pledgee security par old new told passes change)

-- a book tells the release that was allowed
pub TellsMore-released : (holder number caller par : ℕ) (old new : Book)
    → MayRelease (kept_mark_of holder number old) caller par
    → ReleasesMark holder number par old new
    → TellsMore (Released holder number caller par) old new
TellsMore-released holder number caller par old new may change = λ history told.
    let movement : Movement = Released holder number caller par in
    let P : Option KeptMark → Type 0 = λ found. MayRelease found caller par in
    let passes : Passes history movement =
    may_here history (mark_of holder number history) caller par (subst P (told.tells.mark holder number) may) in
    told_more history movement old new told passes
    (Tells-released history holder number caller par old new told passes change)

-- a book tells the redemption by which it was changed
pub TellsMore-redeemed : (security : ℕ) (old new : Book)
    → ¬ (IsRedeemed security old)
    → RedeemsBook security old new
    → TellsMore (Redeemed security) old new
TellsMore-redeemed security old new live change = λ history told.
    let movement : Movement = Redeemed security in
    let passes : Passes history movement = live-told history old told security live in
    told_more history movement old new told passes (Tells-redeemed history security old new told passes change)

-- an empty book tells that nothing has moved
pub IsTold-empty : (book : Book)
    → SameLists (record book { accounts = []; marks = []; redeemed = []; paid = [] }) book
    → IsTold [] book
IsTold-empty book same = record {
  legal = IsLegal-none;
  tells = record {
    held = λ holder security. ap (held_in holder security) same.accounts;
    total = λ security. ap (total_in security) same.accounts;
    paid = λ holder security. ap (held_in holder security) same.paid;
    redeemed = λ security. (
      (λ has.
          let P : List ℕ → Type 0 = λ list. Contains list security in
          let none = subst P same.redeemed has in
          absurd (omega (arith, none.1))),
      (λ is. absurd (cc)),
    );
    mark = λ holder number. ap (mark_in holder number) same.marks;
    in_order = subst MarksAreInOrder (sym same.marks) (AllPairs-nil IsEarlierMark);
  };
}

-- a book with the same lists tells the same
pub IsTold-same : (history : List Movement) (old new : Book)
    → SameLists old new
    → IsTold history old
    → IsTold history new
IsTold-same history old new same told = record {
  legal = told.legal;
  tells = record {
    held = λ holder security. ap (held_in holder security) same.accounts ∙ told.tells.held holder security;
    total = λ security. ap (total_in security) same.accounts ∙ told.tells.total security;
    paid = λ holder security. ap (held_in holder security) same.paid ∙ told.tells.paid holder security;
    redeemed = λ security.
        let P : List ℕ → Type 0 = λ list. Contains list security in (
          (λ has. (told.tells.redeemed security).0 (subst P same.redeemed has)),
          (λ is. subst P (sym same.redeemed) ((told.tells.redeemed security).1 is)),
        );
    mark = λ holder number. ap (mark_in holder number) same.marks ∙ told.tells.mark holder number;
    in_order = subst MarksAreInOrder (sym same.marks) told.tells.in_order;
  };
}

-- what holds after a call that was done follows from what the call says of it
pub done_with : {T E P Q : Type 0} (result : Result T E) → (IsOk result → P → Q) → OnOk result P → OnOk result Q
done_with (Ok _) follows says = follows refl says
done_with (Err _) follows says = tt

-- a call that is refused exactly where less is free was done where enough is
pub enough_free : {T E : Type 0} (result : Result T E) (free par : ℕ)
    → (IsErr result ↔ (free < par))
    → IsOk result
    → par ≤ free
enough_free (Ok _) free par refused done =
    elim (cases_lt free par) [
      | inl less ↦ absurd (let no : false ≡ true = refused.1 less in cc)
      | inr fits ↦ fits
    ]
enough_free (Err _) free par refused done = absurd (cc)
