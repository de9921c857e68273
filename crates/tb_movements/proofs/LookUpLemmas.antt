-- Marks that are found alike: two lists in which each holder and number stands at most once, and is found alike, have
-- the same sums.
use Rattle.std.proofs.Common.{◌≡◌, ℕ, ◌≤◌, Bool, true, false, not, cond, ◌==◌, List, [], ◌∷◌, ◌++◌, get_or, map, filter, find, None, Some, All, sum_by, refl, ap, ap₂, sym, ◌∙◌, inl, inr, arith, eqb-true, eq-eqb}
use Rattle.std.specs.List.{count_by}
use Rattle.std.specs.Option.{option_map}
use Rattle.std.proofs.lemmas.Bool.{cases_Bool, cond-true, cond-false, and_parts, and_from, true≢false}
use Rattle.std.proofs.lemmas.Bool.Decides.{nat_tests}
use Rattle.std.proofs.lemmas.List.Elements.{All-head, All-tail}
use Rattle.std.proofs.lemmas.List.Sums.{sum_by-cons, sum_by_push}
use Rattle.std.proofs.lemmas.List.Filters.{sum_by-filter_both}
use Rattle.tb_units.proofs.ListLemmas.{AllPairs-head, AllPairs-tail}
use Rattle.tb_units.proofs.PlaceLemmas.{find-filter_all, find-filter_none}
use Rattle.tb_holdings.specs.declared.mark.KeptMark.{KeptMark}
use Rattle.tb_holdings.specs.Marks.{is_mark, mark_in, IsEarlierMark, MarksAreInOrder, pledged_in, open_marks_in}
use Rattle.tb_holdings.proofs.KeyLemmas.{behind_other}
use Rattle.tb_holdings.proofs.MarkLemmas.{left_share, open_share, pledged_in-shares}
use Rattle.tb_movements.specs.Movements.{Movement, Settled, Transferred, Pledged, Released, Redeemed}
use Rattle.tb_movements.specs.Marks.{Mark, mark_made, marks, is_named, mark_of, pledged, open_marks}
use Rattle.tb_movements.specs.Legal.{Passes, IsLegal}
use Rattle.tb_movements.specs.Told.{as_kept}
use Rattle.tb_movements.proofs.SumLemmas.{sum_by-mapped}
use Rattle.tb_movements.proofs.HistoryLemmas.{by_movements}
use Rattle.tb_movements.proofs.MarkLemmas.{made, marks-same, marks-pledged, pledged-parts}

-- 1 for each element that passes, so that a count is a sum
abbrev counts : {X : Type 0} → (X → Bool) → X → ℕ
counts p x = cond (p x) 1 0

-- what isn't found isn't counted
count_none : {X : Type 0} (p : X → Bool) (xs : List X) → find p xs ≡ None → count_by p xs ≡ 0
count_none p [] none = refl
count_none p (x ∷ xs) none =
    elim (cases_Bool (p x)) [
      | inl passes ↦
          let said : Some x ≡ None = sym (cond-true (p x) (Some x) (find p xs) passes) ∙ none in absurd (cc)
      | inr fails ↦
          omega (
            arith,
            sum_by-cons (counts p) x xs,
            cond-false {A = ℕ} (p x) 1 0 fails,
            count_none p xs (sym (cond-false (p x) (Some x) (find p xs) fails) ∙ none),
          )
    ]

-- what isn't counted isn't found
found_none : {X : Type 0} (p : X → Bool) (xs : List X) → count_by p xs ≡ 0 → find p xs ≡ None
found_none p [] none = refl
found_none p (x ∷ xs) none =
    let step = sum_by-cons (counts p) x xs in
    elim (cases_Bool (p x)) [
      | inl passes ↦ absurd (omega (arith, none, step, cond-true {A = ℕ} (p x) 1 0 passes))
      | inr fails ↦ cond-false (p x) (Some x) (find p xs) fails ∙ found_none p xs (omega (arith, none, step))
    ]

-- the sum over what passes is 0 where nothing does
sum_none : {X : Type 0} (f : X → ℕ) (p : X → Bool) (xs : List X)
    → count_by p xs ≡ 0
    → sum_by f (filter p xs) ≡ 0
sum_none f p [] none = refl
sum_none f p (x ∷ xs) none =
    let step = sum_by-cons (counts p) x xs in
    elim (cases_Bool (p x)) [
      | inl passes ↦ absurd (omega (arith, none, step, cond-true {A = ℕ} (p x) 1 0 passes))
      | inr fails ↦
          ap (sum_by f) (cond-false (p x) (x ∷ filter p xs) (filter p xs) fails)
          ∙ sum_none f p xs (omega (arith, none, step))
    ]

-- and that of the element that is found where only one does
sum_one : {X : Type 0} (f : X → ℕ) (p : X → Bool) (xs : List X) (x : X)
    → count_by p xs ≤ 1
    → find p xs ≡ Some x
    → sum_by f (filter p xs) ≡ f x
sum_one f p [] x once found = absurd (cc)
sum_one f p (y ∷ xs) x once found =
    let step = sum_by-cons (counts p) y xs in
    elim (cases_Bool (p y)) [
      | inl passes ↦
          let is : Some y ≡ Some x = sym (cond-true (p y) (Some y) (find p xs) passes) ∙ found in
          let same : y ≡ x = cc in
          let none : count_by p xs ≡ 0 = omega (arith, once, step, cond-true {A = ℕ} (p y) 1 0 passes) in
          ap (sum_by f) (cond-true (p y) (y ∷ filter p xs) (filter p xs) passes)
          ∙ omega (arith, sum_by-cons f y (filter p xs), sum_none f p xs none, ap f same)
      | inr fails ↦
          ap (sum_by f) (cond-false (p y) (y ∷ filter p xs) (filter p xs) fails)
          ∙ sum_one f p xs x (omega (arith, once, step))
          (sym (cond-false (p y) (Some y) (find p xs) fails) ∙ found)
    ]

-- fewer pass among what a filter keeps
count-filter : {X : Type 0} (p q : X → Bool) (xs : List X) → count_by p (filter q xs) ≤ count_by p xs
count-filter p q [] = omega arith
count-filter p q (x ∷ xs) =
    let step = sum_by-cons (counts p) x xs in
    elim (cases_Bool (q x)) [
      | inl keeps ↦
          omega (
            arith,
            ap (count_by p) (cond-true (q x) (x ∷ filter q xs) (filter q xs) keeps),
            step,
            sum_by-cons (counts p) x (filter q xs),
            count-filter p q xs,
          )
      | inr drops ↦
          omega (
            arith,
            ap (count_by p) (cond-false (q x) (x ∷ filter q xs) (filter q xs) drops),
            step,
            count-filter p q xs,
          )
    ]

-- none passes where each fails
count_absent : {X : Type 0} (p : X → Bool) (xs : List X) → All (λ x. p x ≡ false) xs → count_by p xs ≡ 0
count_absent p [] absent = refl
count_absent p (x ∷ xs) absent =
    omega (
      arith,
      sum_by-cons (counts p) x xs,
      cond-false {A = ℕ} (p x) 1 0 (All-head (λ y. p y ≡ false) x xs absent),
      count_absent p xs (All-tail (λ y. p y ≡ false) x xs absent),
    )

-- each holder and number stands at most once
abbrev StandOnce : List KeptMark → Type 0
StandOnce kept = (holder number : ℕ) → count_by (is_mark holder number) kept ≤ 1

-- a mark of the name of another is found under its name
same_name : (holder number : ℕ) (one other : KeptMark)
    → is_mark holder number one ≡ true
    → is_mark holder number other ≡ true
    → is_mark other.holder other.number one ≡ true
same_name holder number one other is too = grind (arith, nat_tests)

-- a mark under whose name another is found has the other's name
name_of : (holder number : ℕ) (one other : KeptMark)
    → is_mark one.holder one.number other ≡ true
    → is_mark holder number other ≡ true
    → is_mark holder number one ≡ true
name_of holder number one other is too = grind (arith, nat_tests)

-- a mark is found under its own name
own_name : (one : KeptMark) → is_mark one.holder one.number one ≡ true
own_name one =
    and_from (one.holder == one.holder) (one.number == one.number)
    (eq-eqb one.holder one.holder refl) (eq-eqb one.number one.number refl)

-- marks that are found alike
abbrev AreFoundAlike : List KeptMark → List KeptMark → Type 0
AreFoundAlike xs ys = (holder number : ℕ) → mark_in holder number xs ≡ mark_in holder number ys

-- the rest is found alike where the first is taken out of both
alike_rest : (x : KeptMark) (xs ys : List KeptMark)
    → StandOnce (x ∷ xs)
    → AreFoundAlike (x ∷ xs) ys
    → AreFoundAlike xs (filter (λ y. not (is_mark x.holder x.number y)) ys)
alike_rest x xs ys once same holder number =
    let named : KeptMark → Bool = is_mark holder number in
    let own : KeptMark → Bool = is_mark x.holder x.number in
    let others : KeptMark → Bool = λ y. not (own y) in
    elim (cases_Bool (named x)) [
      | inl is ↦
          let all = once holder number in
          let step = sum_by-cons (counts named) x xs in
          let left : mark_in holder number xs ≡ None =
          found_none named xs (omega (arith, all, step, cond-true {A = ℕ} (named x) 1 0 is)) in
          left ∙ sym (find-filter_none named others (λ y too. ap not (same_name holder number y x too is)) ys)
      | inr differs ↦
          sym (cond-false (named x) (Some x) (mark_in holder number xs) differs)
          ∙ same holder number
          ∙ sym (find-filter_all named others
          (λ y is. elim (cases_Bool (own y)) [
            | inl its ↦ absurd (true≢false (sym (name_of holder number x y its is) ∙ differs))
            | inr other ↦ ap not other
          ]) ys)
    ]

-- marks that stand once and are found alike have the same sums
same_sums : (f : KeptMark → ℕ) (xs ys : List KeptMark)
    → StandOnce xs
    → StandOnce ys
    → AreFoundAlike xs ys
    → sum_by f xs ≡ sum_by f ys
same_sums f [] [] once too same = refl
same_sums f [] (y ∷ ys) once too same =
    let said : None ≡ Some y =
    same y.holder y.number
    ∙ cond-true (is_mark y.holder y.number y) (Some y) (mark_in y.holder y.number ys) (own_name y) in
    absurd (cc)
same_sums f (x ∷ xs) ys once too same =
    let own : KeptMark → Bool = is_mark x.holder x.number in
    let others : KeptMark → Bool = λ y. not (own y) in
    let found : mark_in x.holder x.number ys ≡ Some x =
    sym (same x.holder x.number) ∙ cond-true (own x) (Some x) (mark_in x.holder x.number xs) (own_name x) in
    let once_rest : StandOnce xs = λ holder number.
    let all = once holder number in omega (arith, sum_by-cons (counts (is_mark holder number)) x xs) in
    let too_rest : StandOnce (filter others ys) = λ holder number.
    let all = too holder number in let part = count-filter (is_mark holder number) others ys in omega arith in
    let rest = same_sums f xs (filter others ys) once_rest too_rest (alike_rest x xs ys once same) in
    omega (
      arith,
      sum_by-cons f x xs,
      sum_by-filter_both own others (λ y. refl) f ys,
      sum_one f own ys x (too x.holder x.number) found,
      rest,
    )

-- marks in order stand once
StandOnce-in_order : (kept : List KeptMark) → MarksAreInOrder kept → StandOnce kept
StandOnce-in_order [] in_order holder number = omega arith
StandOnce-in_order (x ∷ xs) in_order holder number =
    let named : KeptMark → Bool = is_mark holder number in
    let step = sum_by-cons (counts named) x xs in
    elim (cases_Bool (named x)) [
      | inl own ↦
          let rest = count_absent named xs
          (λ k d short. let later = get_or xs k d in
          behind_other (x.holder, x.number) (later.holder, later.number) (holder, number)
          (AllPairs-head IsEarlierMark x xs in_order k d short) own) in
          omega (arith, step, rest, cond-true {A = ℕ} (named x) 1 0 own)
      | inr differs ↦
          let rest = StandOnce-in_order xs (AllPairs-tail IsEarlierMark x xs in_order) holder number in
          omega (arith, step, cond-false {A = ℕ} (named x) 1 0 differs, rest)
    ]

-- the marks of a history as a book keeps them
abbrev kept_marks : List Movement → List KeptMark
kept_marks history = map (as_kept history) (marks history)

-- a mark is found among them as the history has it
found-kept : (history : List Movement) (holder number : ℕ) (standing : List Mark)
    → mark_in holder number (map (as_kept history) standing)
    ≡ option_map (as_kept history) (find (is_named holder number) standing)
found-kept history holder number [] = refl
found-kept history holder number (mark ∷ standing) =
    elim (is_named holder number mark) as
    (λ own. cond own (Some (as_kept history mark)) (mark_in holder number (map (as_kept history) standing))
    ≡ option_map (as_kept history) (cond own (Some mark) (find (is_named holder number) standing))) [
      | true ↦ refl
      | false ↦ found-kept history holder number standing
    ]

-- each holder and number stands at most once among a history's marks
abbrev MarksStandOnce : List Movement → Type 0
MarksStandOnce history = (holder number : ℕ) → count_by (is_named holder number) (marks history) ≤ 1

-- a movement that makes no mark keeps it so
once_same : (before : List Movement) (movement : Movement)
    → mark_made movement ≡ None
    → MarksStandOnce before
    → MarksStandOnce (before ++ movement ∷ [])
once_same before movement none once holder number =
    let all = once holder number in
    omega (arith, ap (count_by (is_named holder number)) (marks-same before movement none))

-- and so does a pledge that passes
once_more : (before : List Movement) (movement : Movement)
    → Passes before movement
    → MarksStandOnce before
    → MarksStandOnce (before ++ movement ∷ [])
once_more before (Settled of credits) passes once = once_same before (Settled of credits) refl once
once_more before (Transferred from to of par) passes once = once_same before (Transferred from to of par) refl once
once_more before (Released of under caller par) passes once = once_same before (Released of under caller par) refl once
once_more before (Redeemed of) passes once = once_same before (Redeemed of) refl once
once_more before (Pledged of under pledgee on par) passes once = λ holder number.
    let new : Mark = made of under pledgee on par in
    let named : Mark → Bool = is_named holder number in
    let grown = ap (count_by named) (marks-pledged before of under pledgee on par) in
    let sum = sum_by_push (counts named) (marks before) new in
    elim (cases_Bool (named new)) [
      | inl own ↦
          let parts = and_parts (of == holder) (under == number) own in
          let gone : mark_of holder number before ≡ None =
          sym (ap₂ (λ h n. mark_of h n before) (eqb-true of holder parts.0) (eqb-true under number parts.1))
          ∙ passes.1 in
          omega (arith, grown, sum, count_none named (marks before) gone, cond-true {A = ℕ} (named new) 1 0 own)
      | inr differs ↦
          let all = once holder number in
          omega (arith, grown, sum, cond-false {A = ℕ} (named new) 1 0 differs)
    ]

-- so it is in each legal history
MarksStandOnce-legal : (history : List Movement) → IsLegal history → MarksStandOnce history
MarksStandOnce-legal =
    by_movements MarksStandOnce (λ holder number. omega arith)
    (λ before movement legal once passes. once_more before movement passes once)

-- and among its marks as a book keeps them
StandOnce-kept : (history : List Movement) → IsLegal history → StandOnce (kept_marks history)
StandOnce-kept history legal holder number =
    let once = MarksStandOnce-legal history legal holder number in
    let same = sum_by-mapped (counts (is_mark holder number)) (as_kept history) (marks history) in
    omega arith

-- the marks of the book are found as the history tells
abbrev pub AreFound : List Movement → List KeptMark → Type 0
AreFound history kept =
    (holder number : ℕ) → mark_in holder number kept ≡ option_map (as_kept history) (mark_of holder number history)

-- then they have the sums of those of the history
told_sums : (f : KeptMark → ℕ) (history : List Movement) (kept : List KeptMark)
    → IsLegal history
    → MarksAreInOrder kept
    → AreFound history kept
    → sum_by f kept ≡ sum_by (λ mark. f (as_kept history mark)) (marks history)
told_sums f history kept legal in_order found =
    same_sums f kept (kept_marks history) (StandOnce-in_order kept in_order) (StandOnce-kept history legal)
    (λ holder number. found holder number ∙ sym (found-kept history holder number (marks history)))
    ∙ sum_by-mapped f (as_kept history) (marks history)

-- so as much is pledged
pub pledged_in-told : (history : List Movement) (kept : List KeptMark)
    → IsLegal history
    → MarksAreInOrder kept
    → AreFound history kept
    → (holder security : ℕ) → pledged_in holder security kept ≡ pledged holder security history
pledged_in-told history kept legal in_order found holder security =
    omega (
      arith,
      told_sums (left_share holder security) history kept legal in_order found,
      pledged_in-shares holder security kept,
      pledged-parts holder security history,
    )

-- and as many marks are open
pub open_marks_in-told : (history : List Movement) (kept : List KeptMark)
    → IsLegal history
    → MarksAreInOrder kept
    → AreFound history kept
    → (holder : ℕ) → open_marks_in holder kept ≡ open_marks holder history
open_marks_in-told history kept legal in_order found holder =
    told_sums (open_share holder) history kept legal in_order found
