-- Marks in order: which mark is found, what is pledged and how many are open after each change.
use Rattle.std.proofs.Common.{◌≡◌, ◌≢◌, ◌⊎◌, ℕ, ◌+◌, ◌-◌, ◌<◌, ◌≤◌, true, false, not, cond, ◌&&◌, ◌==◌, nat_lt, if◌then◌else◌, List, [], ◌∷◌, ◌++◌, map, length, suc, get_or, set, take, drop, filter, find, insert, All, sum_by, Option, Some, None, Bool, refl, ap, ap₂, sym, subst, ◌∙◌, inl, inr, append-nil, drop-cons, eqb-true, eq-eqb, ne_eqb, arith}
use Rattle.std.specs.Option.{option_map}
use Rattle.std.proofs.lemmas.Bool.{cases_Bool, cases_eq, cases_lt, and_parts, and_from, cond-false, cond-true}
use Rattle.std.proofs.lemmas.Bool.Decides.{nat_tests}
use Rattle.std.proofs.lemmas.Grind.{get_or-set_at}
use Rattle.std.proofs.lemmas.List.{take_all, drop_all, ext_get_or, get_or-drop, get_or-map, get_or-set_other, get_or-take, get_or_default, length-drop, length-map, length-set, length-take, take-append-drop, set-get_or}
use Rattle.std.proofs.lemmas.List.Edits.{map_over_more}
use Rattle.std.proofs.lemmas.List.Elements.{All-nil, All-cons, All-head, All-tail, All-weaker}
use Rattle.std.proofs.lemmas.List.Sums.{sum_by-le-sum_by, sum_by-cons}
use Rattle.tb_units.specs.Places.{IsPlace}
use Rattle.tb_units.proofs.ListLemmas.{AllPairs-put, AllPairs-one, AllPairs-head, AllPairs-tail, AllPairs-map}
use Rattle.tb_units.proofs.PlaceLemmas.{take-place, drop-place_missing, filter_none, find_none, find_passes, find-le-sum_by, find-append_none, find-append_some, find-filter_all, find-filter_none}
use Rattle.tb_units.proofs.SumLemmas.{sum_by-put, sum_by-filter, sum_by-map, sum_by_agree, sum_by_none}
use Rattle.tb_holdings.specs.declared.mark.KeptMark.{KeptMark}
use Rattle.tb_holdings.specs.Marks.{MarkIsMissingAt, MarkStandsAt, is_mark, is_own, precedes, follows, IsEarlierMark, MarksAreInOrder, has_left, mark_in, pledges_par, pledged_in, is_open_of, open_marks_in, open_marks_beside, with_mark, left_at, with_left, after_release, released, after_redemption, cleared}
use Rattle.tb_holdings.proofs.KeyLemmas.{IsRanked-key, StandsOnce-key, before_differs, before_on, behind_differs, behind_next, behind_other, behind_stops, other_behind}
use Rattle.tb_holdings.proofs.WalkLemmas.{IsSum, figure-parts}

-- the key of a mark
abbrev pub mark_key : KeptMark → ℕ × ℕ
mark_key mark = (mark.holder, mark.number)

-- a mark in front of the place isn't the one of that name
front_other : (holder number : ℕ) (marks : List KeptMark) (place : ℕ)
    → IsPlace (precedes holder number) marks place
    → All (λ mark. is_mark holder number mark ≡ false) (take place marks)
front_other holder number marks place first =
    All-weaker _ (λ mark. is_mark holder number mark ≡ false)
    (λ mark before. before_differs (mark_key mark) (holder, number) before) (take place marks) first.passed

-- a mark behind the place isn't the one of that name
no_other_behind : (holder number : ℕ) (marks : List KeptMark) (place k : ℕ) (d : KeptMark)
    → MarksAreInOrder marks
    → IsPlace (precedes holder number) marks place
    → place < k
    → k < length marks
    → is_mark holder number (get_or marks k d) ≡ false
no_other_behind holder number marks place k d in_order first later short =
    behind_differs (holder, number) (mark_key (get_or marks k d))
    (behind_next (mark_key (get_or marks place d)) (holder, number) (mark_key (get_or marks k d))
    (in_order place k d later short) (first.stops d (omega (arith, later, short))))

-- a mark is the one of its own name
pub is_mark-own : (mark : KeptMark) → is_mark mark.holder mark.number mark ≡ true
is_mark-own mark = and_from _ _ (eq-eqb mark.holder mark.holder refl) (eq-eqb mark.number mark.number refl)

-- none but that at the place is the one of that name
others_apart : (holder number : ℕ) (marks : List KeptMark) (place k : ℕ) (d : KeptMark)
    → MarksAreInOrder marks
    → IsPlace (precedes holder number) marks place
    → k ≢ place
    → k < length marks
    → is_mark holder number (get_or marks k d) ≡ false
others_apart holder number marks place k d in_order first apart short =
    elim (cases_lt k place) [
      | inl inside ↦
          let read = get_or-take place marks k d inside in
          subst (λ (mark : KeptMark). is_mark holder number mark ≡ false) read
          (front_other holder number marks place first k d (omega (arith, length-take place marks, inside, short)))
      | inr past ↦ no_other_behind holder number marks place k d in_order first (omega (arith, past, apart)) short
    ]

-- nothing is found where no mark passes
pub find_nothing : (test : KeptMark → Bool) (marks : List KeptMark)
    → All (λ mark. test mark ≡ false) marks
    → find test marks ≡ None
find_nothing test [] fails = refl
find_nothing test (mark ∷ marks) fails =
    cond-false (test mark) (Some mark) (find test marks) (All-head (λ m. test m ≡ false) mark marks fails)
    ∙ find_nothing test marks (All-tail (λ m. test m ≡ false) mark marks fails)

-- the mark that stands at its place is found
pub mark_in-stands : (holder number : ℕ) (marks : List KeptMark) (place : ℕ) (d : KeptMark)
    → MarkStandsAt holder number marks place
    → mark_in holder number marks ≡ Some (get_or marks place d)
mark_in-stands holder number marks place d stands =
    let test : KeptMark → Bool = is_mark holder number in
    let own : KeptMark = get_or marks place d in
    ap (find test) (sym (take-append-drop place marks))
    ∙ (find-append_none test (take place marks) (drop place marks)
    (find_nothing test (take place marks) (front_other holder number marks place stands.first))
    ∙ (ap (find test) (drop-cons marks place d stands.within)
    ∙ cond-true (test own) (Some own) (find test (drop (suc place) marks)) (stands.same d)))

-- where it is missing no mark is the one of that name
others_all : (holder number : ℕ) (marks : List KeptMark) (place : ℕ)
    → MarksAreInOrder marks
    → MarkIsMissingAt holder number marks place
    → All (λ mark. is_mark holder number mark ≡ false) marks
others_all holder number marks place in_order missing k d short =
    elim (cases_eq k place) [
      | inl at ↦
          let here : place < length marks = omega (arith, at, short) in
          rw at (missing.other d here)
      | inr apart ↦ others_apart holder number marks place k d in_order missing.first apart short
    ]

-- so none is found
pub mark_in-missing : (holder number : ℕ) (marks : List KeptMark) (place : ℕ)
    → MarksAreInOrder marks
    → MarkIsMissingAt holder number marks place
    → mark_in holder number marks ≡ None
mark_in-missing holder number marks place in_order missing =
    find_nothing (is_mark holder number) marks (others_all holder number marks place in_order missing)

-- a release leaves a mark of another holder or number as it is
released_other : (holder number par : ℕ) (mark : KeptMark)
    → is_mark holder number mark ≡ false
    → left_at (after_release holder number par) mark ≡ mark
released_other holder number par mark other =
    ap (λ n. record mark { left = n }) (cond-false (is_mark holder number mark) (mark.left - par) mark.left other)

-- where all are others' the marks stay
released_none : (holder number par : ℕ) (marks : List KeptMark)
    → All (λ mark. is_mark holder number mark ≡ false) marks
    → released holder number par marks ≡ marks
unfolding released
released_none holder number par [] others = refl
released_none holder number par (mark ∷ marks) others =
    let P : KeptMark → Type 0 = λ one. is_mark holder number one ≡ false in
    ap₂ (λ (one : KeptMark) (rest : List KeptMark). one ∷ rest)
    (released_other holder number par mark (All-head P mark marks others))
    (released_none holder number par marks (All-tail P mark marks others))

-- a release writes over the mark at its place
pub released-stands : (holder number par : ℕ) (marks : List KeptMark) (place left : ℕ) (d : KeptMark)
    → MarksAreInOrder marks
    → MarkStandsAt holder number marks place
    → left ≡ (get_or marks place d).left - par
    → set marks place (record (get_or marks place d) { left = left }) ≡ released holder number par marks
unfolding released
released-stands holder number par marks place left d in_order stands less =
    let own : KeptMark = get_or marks place d in
    let written : KeptMark = record own { left = left } in
    let after : KeptMark → KeptMark = left_at (after_release holder number par) in
    let here : written ≡ after own =
    ap (λ (n : ℕ). record own { left = n })
    (less ∙ sym (cond-true (is_mark holder number own) (own.left - par) own.left (stands.same d))) in
    ext_get_or d (set marks place written) (map after marks)
    (length-set marks place written ∙ sym (length-map marks after))
    (λ k short.
    let within : k < length marks = omega (arith, short, length-set marks place written) in
    let read = get_or-map after marks k d d within in
    elim (cases_eq k place) [
      | inl at ↦
          get_or-set_at marks place k written d at stands.within
          ∙ (here ∙ (ap (λ (i : ℕ). after (get_or marks i d)) (sym at) ∙ sym read))
      | inr apart ↦
          get_or-set_other marks place k written d apart
          ∙ (sym (released_other holder number par (get_or marks k d)
          (others_apart holder number marks place k d in_order stands.first apart within)) ∙ sym read)
    ])

-- where there is no such mark it changes nothing
pub released-missing : (holder number par : ℕ) (marks : List KeptMark) (place : ℕ)
    → MarksAreInOrder marks
    → MarkIsMissingAt holder number marks place
    → marks ≡ released holder number par marks
released-missing holder number par marks place in_order missing =
    sym (released_none holder number par marks (others_all holder number marks place in_order missing))

-- a mark before the first of a holder is another's
precedes_own : (holder : ℕ) (mark : KeptMark) → precedes holder 0 mark ≡ true → is_own holder mark ≡ false
precedes_own holder mark before = grind (arith, nat_tests)

-- a mark behind another holder's, from a holder's first on, isn't the holder's
own_apart : (holder : ℕ) (one later : KeptMark)
    → precedes holder 0 one ≡ false
    → is_own holder one ≡ false
    → IsEarlierMark one later
    → is_own holder later ≡ false
own_apart holder one later from other earlier = grind (arith, nat_tests)

-- from its place on no mark stands before the first of a holder
own_from : (holder : ℕ) (marks : List KeptMark) (first k : ℕ) (d : KeptMark)
    → MarksAreInOrder marks
    → IsPlace (precedes holder 0) marks first
    → first ≤ k
    → k < length marks
    → precedes holder 0 (get_or marks k d) ≡ false
own_from holder marks first k d in_order place from short =
    elim (cases_eq k first) [
      | inl at ↦
          let here : first < length marks = omega (arith, at, short) in
          rw at (place.stops d here)
      | inr apart ↦
          let later : first < k = omega (arith, from, apart) in
          behind_stops (holder, 0) (mark_key (get_or marks k d))
          (behind_next (mark_key (get_or marks first d)) (holder, 0) (mark_key (get_or marks k d))
          (in_order first k d later short) (place.stops d (omega (arith, later, short))))
    ]

-- before it none is the holder's
own-before : (holder : ℕ) (marks : List KeptMark) (first : ℕ)
    → IsPlace (precedes holder 0) marks first
    → All (λ mark. is_own holder mark ≡ false) (take first marks)
own-before holder marks first place =
    All-weaker _ (λ mark. is_own holder mark ≡ false) (precedes_own holder) (take first marks) place.passed

-- and none from the first of another holder on
own-behind : (holder : ℕ) (marks : List KeptMark) (first place : ℕ)
    → MarksAreInOrder marks
    → IsPlace (precedes holder 0) marks first
    → first ≤ place
    → ((d : KeptMark) → place < length marks → is_own holder (get_or marks place d) ≡ false)
    → All (λ mark. is_own holder mark ≡ false) (drop place marks)
own-behind holder marks first place in_order from later other = λ k d short.
    let long = length-drop place marks in
    let read : get_or (drop place marks) k d ≡ get_or marks (place + k) d = get_or-drop place marks k d in
    let here : place < length marks = omega (arith, long, short) in
    rw read (elim (cases_eq (place + k) place) [
      | inl at ↦ rw at (other d here)
      | inr apart ↦
          own_apart holder (get_or marks place d) (get_or marks (place + k) d)
          (own_from holder marks first place d in_order from later here) (other d here)
          (in_order place (place + k) d (omega (arith, apart)) (omega (arith, long, short)))
    ])

-- a sum over the marks that pass is that over all, where the others count for nothing
sum_by-part : (test : KeptMark → Bool) (f : KeptMark → ℕ) (marks : List KeptMark)
    → ((mark : KeptMark) → test mark ≡ false → f mark ≡ 0)
    → sum_by f (filter test marks) ≡ sum_by f marks
sum_by-part test f marks none =
    sum_by-filter f test marks
    ∙ sum_by_agree (λ mark. cond (test mark) (f mark) 0) f marks (λ mark.
    elim (cases_Bool (test mark)) [
      | inl passes ↦ cond-true (test mark) (f mark) 0 passes
      | inr fails ↦ cond-false (test mark) (f mark) 0 fails ∙ sym (none mark fails)
    ])

-- a new mark is put in at its place
pub with_mark-insert : (mark : KeptMark) (marks : List KeptMark) (place : ℕ)
    → MarksAreInOrder marks
    → mark_in mark.holder mark.number marks ≡ None
    → IsPlace (precedes mark.holder mark.number) marks place
    → insert marks place mark ≡ with_mark mark marks
unfolding with_mark
with_mark-insert mark marks place in_order new at =
    let ranked = IsRanked-key mark_key (mark_key mark) marks in_order in
    let others = find_none (is_mark mark.holder mark.number) marks new in
    let front = take-place _ _ marks place ranked at in
    let back = drop-place_missing _ _ marks place ranked at
    (λ d short. other_behind (mark_key (get_or marks place d)) (mark_key mark) (at.stops d short)
    (others place d short)) in
    sym (λ i. front i ++ mark ∷ back i)

-- the marks stay in order with it
pub MarksAreInOrder-with_mark : (mark : KeptMark) (marks : List KeptMark)
    → MarksAreInOrder marks
    → MarksAreInOrder (with_mark mark marks)
unfolding with_mark
MarksAreInOrder-with_mark mark marks in_order =
    let before : KeptMark → Bool = precedes mark.holder mark.number in
    let behind : KeptMark → Bool = follows mark.holder mark.number in
    let Below : KeptMark → Type 0 = λ later. (one : KeptMark) → before one ≡ true → IsEarlierMark one later in
    let Above : KeptMark → Type 0 = λ one. (later : KeptMark) → behind later ≡ true → IsEarlierMark one later in
    AllPairs-put IsEarlierMark before behind (mark ∷ []) marks in_order (AllPairs-one IsEarlierMark mark)
    (λ one later. before_on (mark_key one) (mark_key mark) (mark_key later))
    (All-cons Below mark [] (λ one is. is) (All-nil Below))
    (All-cons Above mark [] (λ later is. is) (All-nil Above))

-- and with less left of each
pub MarksAreInOrder-with_left : (left_of : KeptMark → ℕ) (marks : List KeptMark)
    → MarksAreInOrder marks
    → MarksAreInOrder (with_left left_of marks)
MarksAreInOrder-with_left left_of marks in_order = AllPairs-map IsEarlierMark (left_at left_of) marks in_order

-- what the mark adds to what is pledged of the holder's par of the security
abbrev pub left_share : ℕ → ℕ → KeptMark → ℕ
left_share holder security mark = cond (pledges_par holder security mark) mark.left 0

-- what is pledged is the sum of these shares
pub pledged_in-shares : (holder security : ℕ) (marks : List KeptMark)
    → pledged_in holder security marks ≡ sum_by (left_share holder security) marks
pledged_in-shares holder security marks = sum_by-filter (λ mark. mark.left) (pledges_par holder security) marks

-- 1 for a mark that is open, so that open marks are a sum
abbrev pub open_share : ℕ → KeptMark → ℕ
open_share holder mark = cond (is_open_of holder mark) 1 0

-- a figure of marks is a sum to which only the holder's marks add something
pub record IsOwnSum (holder : ℕ) (share : KeptMark → ℕ) (figure : List KeptMark → ℕ) : Type 0 where
  pub sum : IsSum share figure
  pub others : (mark : KeptMark) → is_own holder mark ≡ false → share mark ≡ 0

-- as what the holder pledged
pub IsOwnSum-pledged : (holder security : ℕ)
    → IsOwnSum holder (left_share holder security) (pledged_in holder security)
IsOwnSum-pledged holder security = record {
  sum = record { is = pledged_in-shares holder security };
  others = λ mark other. ap (λ b. cond (b && mark.security == security) mark.left 0) other;
}

-- and how many of its marks are open
pub IsOwnSum-open : (holder : ℕ) → IsOwnSum holder (open_share holder) (open_marks_in holder)
IsOwnSum-open holder = record {
  sum = record { is = λ marks. refl };
  others = λ mark other. ap (λ b. cond (b && nat_lt 0 mark.left) 1 0) other;
}

-- of others' marks it is nothing
figure-others : (holder : ℕ) (share : KeptMark → ℕ) (figure : List KeptMark → ℕ) (marks : List KeptMark)
    → IsOwnSum holder share figure
    → All (λ mark. is_own holder mark ≡ false) marks
    → figure marks ≡ 0
figure-others holder share figure marks own others =
    own.sum.is marks
    ∙ (sym (sum_by-part (is_own holder) share marks own.others)
    ∙ ap (sum_by share) (filter_none (is_own holder) marks others))

-- so before the holder's first mark it is nothing
pub figure-first : (holder : ℕ) (share : KeptMark → ℕ) (figure : List KeptMark → ℕ) (marks : List KeptMark) (first : ℕ)
    → IsOwnSum holder share figure
    → IsPlace (precedes holder 0) marks first
    → figure (take first marks) ≡ 0
figure-first holder share figure marks first own place =
    figure-others holder share figure (take first marks) own (own-before holder marks first place)

-- a walk over the holder's marks, which begin at the first, came to another's mark at the place, or to the end
pub record IsPastOwn (holder : ℕ) (marks : List KeptMark) (first place : ℕ) : Type 0 where
  pub in_order : MarksAreInOrder marks
  pub begun : IsPlace (precedes holder 0) marks first
  pub from : first ≤ place
  pub other : (d : KeptMark) → place < length marks → is_own holder (get_or marks place d) ≡ false

-- then before the place it is that of all marks
pub figure-all : (holder : ℕ) (share : KeptMark → ℕ) (figure : List KeptMark → ℕ) (marks : List KeptMark)
    (first place : ℕ)
    → IsOwnSum holder share figure
    → IsPastOwn holder marks first place
    → figure (take place marks) ≡ figure marks
figure-all holder share figure marks first place own past =
    let none = figure-others holder share figure (drop place marks) own
    (own-behind holder marks first place past.in_order past.begun past.from past.other) in
    omega (arith, none, figure-parts share figure marks place own.sum)

-- what is pledged stands among the marks of which something is left
pub pledged_in-left : (holder security : ℕ) (marks live : List KeptMark)
    → live ≡ filter has_left marks
    → pledged_in holder security live ≡ pledged_in holder security marks
pledged_in-left holder security marks live is =
    ap (pledged_in holder security) is
    ∙ (pledged_in-shares holder security (filter has_left marks)
    ∙ (sum_by-part has_left (left_share holder security) marks (λ mark fails. grind (arith, nat_tests))
    ∙ sym (pledged_in-shares holder security marks)))

-- and so does what is open
pub open_marks_in-left : (holder : ℕ) (marks live : List KeptMark)
    → live ≡ filter has_left marks
    → open_marks_in holder live ≡ open_marks_in holder marks
open_marks_in-left holder marks live is =
    ap (open_marks_in holder) is
    ∙ sum_by-part has_left (open_share holder) marks (λ mark fails. grind (arith, nat_tests))

-- a sum over the marks gains the new mark's term
sum_by-with_mark : (f : KeptMark → ℕ) (mark : KeptMark) (marks : List KeptMark)
    → mark_in mark.holder mark.number marks ≡ None
    → sum_by f (with_mark mark marks) ≡ sum_by f marks + f mark
unfolding with_mark
sum_by-with_mark f mark marks new =
    let named : KeptMark → Bool = is_mark mark.holder mark.number in
    let put = sum_by-put f (precedes mark.holder mark.number) named (follows mark.holder mark.number)
    (StandsOnce-key mark_key (mark_key mark)) (mark ∷ []) marks in
    let none : sum_by f (filter named marks) ≡ 0 =
    ap (sum_by f) (filter_none named marks (find_none named marks new)) in
    omega (arith, put, none, sum_by-cons f mark [])

-- what is pledged with a new mark
pub pledged_in-with_mark : (holder security : ℕ) (mark : KeptMark) (marks : List KeptMark)
    → mark_in mark.holder mark.number marks ≡ None
    → pledged_in holder security (with_mark mark marks)
    ≡ pledged_in holder security marks + (if mark.holder == holder && mark.security == security then mark.left else 0)
pledged_in-with_mark holder security mark marks new =
    omega (
      arith,
      pledged_in-shares holder security (with_mark mark marks),
      pledged_in-shares holder security marks,
      sum_by-with_mark (left_share holder security) mark marks new,
    )

-- how many marks are open with a new one
pub open_marks_in-with_mark : (holder : ℕ) (mark : KeptMark) (marks : List KeptMark)
    → mark_in mark.holder mark.number marks ≡ None
    → open_marks_in holder (with_mark mark marks)
    ≡ open_marks_in holder marks + (if mark.holder == holder && nat_lt 0 mark.left then 1 else 0)
open_marks_in-with_mark holder mark marks new = sum_by-with_mark (open_share holder) mark marks new

-- what is pledged where so much is left of each mark
pub pledged_in-with_left : (left_of : KeptMark → ℕ) (holder security : ℕ) (marks : List KeptMark)
    → pledged_in holder security (with_left left_of marks)
    ≡ sum_by (λ mark. cond (pledges_par holder security mark) (left_of mark) 0) marks
pledged_in-with_left left_of holder security marks =
    pledged_in-shares holder security (with_left left_of marks)
    ∙ sum_by-map (left_share holder security) (left_at left_of) marks

-- where less is left of each mark less is pledged
pub pledged_in-le : (left_of : KeptMark → ℕ)
    → ((mark : KeptMark) → left_of mark ≤ mark.left)
    → (holder security : ℕ) (marks : List KeptMark)
    → pledged_in holder security (with_left left_of marks) ≤ pledged_in holder security marks
pledged_in-le left_of less holder security marks =
    let share : KeptMark → ℕ = λ mark. cond (pledges_par holder security mark) (left_of mark) 0 in
    let part = sum_by-le-sum_by share (left_share holder security) marks
    (λ mark. elim (pledges_par holder security mark) as (λ b. cond b (left_of mark) 0 ≤ cond b mark.left 0) [
      | true ↦ less mark
      | false ↦ omega arith
    ]) in
    omega (
      arith,
      pledged_in-with_left left_of holder security marks,
      pledged_in-shares holder security marks,
      part,
    )

-- and no more marks are open
pub open_marks_in-le : (left_of : KeptMark → ℕ)
    → ((mark : KeptMark) → left_of mark ≤ mark.left)
    → (holder : ℕ) (marks : List KeptMark)
    → open_marks_in holder (with_left left_of marks) ≤ open_marks_in holder marks
open_marks_in-le left_of less holder marks =
    let moved = sum_by-map (open_share holder) (left_at left_of) marks in
    let share : KeptMark → ℕ = λ mark. cond (mark.holder == holder && nat_lt 0 (left_of mark)) 1 0 in
    let part = sum_by-le-sum_by share (open_share holder) marks
    (λ mark. let fewer = less mark in grind (arith, nat_tests, fewer)) in
    omega (arith, moved, part)

-- a loop that writes what is left of each mark, one mark on
pub with_left-more : (left_of : KeptMark → ℕ) (marks written : List KeptMark) (i left : ℕ) (d : KeptMark)
    → i < length marks
    → length written ≡ length marks
    → written ≡ map (left_at left_of) (take i marks) ++ drop i marks
    → left_of (get_or written i d) ≡ left
    → set written i (record (get_or written i d) { left = left })
    ≡ map (left_at left_of) (take (i + 1) marks) ++ drop (i + 1) marks
with_left-more left_of marks written i left d short long so_far is =
    let mark : KeptMark = get_or written i d in
    ap (λ n. set written i (record mark { left = n })) (sym is)
    ∙ map_over_more (left_at left_of) marks written i mark short so_far (get_or_default written i d mark (omega arith))

-- or leaves a mark of which so much is left already
pub with_left-kept : (left_of : KeptMark → ℕ) (marks written : List KeptMark) (i : ℕ) (d : KeptMark)
    → i < length marks
    → length written ≡ length marks
    → written ≡ map (left_at left_of) (take i marks) ++ drop i marks
    → left_of (get_or written i d) ≡ (get_or written i d).left
    → written ≡ map (left_at left_of) (take (i + 1) marks) ++ drop (i + 1) marks
with_left-kept left_of marks written i d short long so_far is =
    sym (set-get_or written i d)
    ∙ with_left-more left_of marks written i (get_or written i d).left d short long so_far is

-- and at its end
pub with_left-all : (left_of : KeptMark → ℕ) (marks : List KeptMark) (i : ℕ)
    → length marks ≤ i
    → map (left_at left_of) (take i marks) ++ drop i marks ≡ with_left left_of marks
with_left-all left_of marks i all =
    rw (take_all i marks all, drop_all i marks all) (append-nil (map (left_at left_of) marks))

-- a release leaves no more than was left
pub released_less : (holder number par : ℕ) (mark : KeptMark) → after_release holder number par mark ≤ mark.left
released_less holder number par mark =
    elim (is_mark holder number mark) as (λ b. cond b (mark.left - par) mark.left ≤ mark.left) [
      | true ↦ omega arith
      | false ↦ omega arith
    ]

-- nor does a redemption
pub cleared_less : (security : ℕ) (mark : KeptMark) → after_redemption security mark ≤ mark.left
cleared_less security mark =
    elim (mark.security == security) as (λ b. cond b 0 mark.left ≤ mark.left) [
      | true ↦ omega arith
      | false ↦ omega arith
    ]

-- of a mark of which nothing was left, or of another security, so much is left as was
pub cleared_same : (security : ℕ) (mark : KeptMark)
    → ((mark.security ≡ security) × (mark.left ≤ 0)) ⊎ (mark.security ≢ security)
    → after_redemption security mark ≡ mark.left
cleared_same security mark (inl none) =
    cond-true (mark.security == security) 0 mark.left (eq-eqb mark.security security none.0) ∙ omega (arith, none.1)
cleared_same security mark (inr other) =
    cond-false (mark.security == security) 0 mark.left (ne_eqb mark.security security other)

-- nothing is left of the marks of a redeemed security
pub pledged_in-cleared : (holder security : ℕ) (marks : List KeptMark)
    → pledged_in holder security (cleared security marks) ≡ 0
unfolding cleared
pledged_in-cleared holder security marks =
    pledged_in-with_left (after_redemption security) holder security marks
    ∙ sum_by_agree _ (λ mark. 0) marks (λ mark. grind (arith, nat_tests))
    ∙ sum_by_none marks

-- what a mark adds to what is pledged of another security stays through a redemption
cleared_share : (holder security other : ℕ) (mark : KeptMark)
    → other ≢ security
    → cond (pledges_par holder other mark) (after_redemption security mark) 0 ≡ left_share holder other mark
cleared_share holder security other mark differs =
    elim (cases_Bool (pledges_par holder other mark)) [
      | inl own ↦
          let is_other = eqb-true mark.security other
          (and_parts (mark.holder == holder) (mark.security == other) own).1 in
          let not_it : (mark.security == security) ≡ false =
          ne_eqb mark.security security (λ same. differs (sym is_other ∙ same)) in
          ap (λ n. cond (pledges_par holder other mark) n 0) (cond-false (mark.security == security) 0 mark.left not_it)
      | inr not_own ↦
          cond-false (pledges_par holder other mark) (after_redemption security mark) 0 not_own
          ∙ sym (cond-false (pledges_par holder other mark) mark.left 0 not_own)
    ]

-- what is left of the marks of another security stays through a redemption
pub pledged_in-cleared_other : (holder security other : ℕ) (marks : List KeptMark)
    → other ≢ security
    → pledged_in holder other (cleared security marks) ≡ pledged_in holder other marks
unfolding cleared
pledged_in-cleared_other holder security other marks differs =
    pledged_in-with_left (after_redemption security) holder other marks
    ∙ sum_by_agree _ (left_share holder other) marks (λ mark. cleared_share holder security other mark differs)
    ∙ sym (pledged_in-shares holder other marks)

-- after a redemption a mark is open where it was and is of another security
cleared_opens : (security holder : ℕ) (mark : KeptMark)
    → open_share holder (left_at (after_redemption security) mark)
    ≡ cond (is_open_of holder mark && not (mark.security == security)) 1 0
cleared_opens security holder mark = grind (arith, nat_tests)

-- a redemption leaves of the open marks those of other securities
pub open_marks_in-cleared : (security holder : ℕ) (marks : List KeptMark)
    → open_marks_in holder (cleared security marks) ≡ open_marks_beside security holder marks
unfolding cleared
open_marks_in-cleared security holder marks =
    sum_by-map (open_share holder) (left_at (after_redemption security)) marks
    ∙ sum_by_agree _ _ marks (cleared_opens security holder)

-- what is left of a mark is pledged by its holder
pub left-le-pledged_in : (holder number : ℕ) (marks : List KeptMark) (mark : KeptMark)
    → mark_in holder number marks ≡ Some mark
    → mark.left ≤ pledged_in mark.holder mark.security marks
left-le-pledged_in holder number marks mark found =
    let part = find-le-sum_by (left_share mark.holder mark.security) (is_mark holder number) marks mark found in
    let own : left_share mark.holder mark.security mark ≡ mark.left = grind (arith, nat_tests) in
    omega (arith, part, own, pledged_in-shares mark.holder mark.security marks)

-- the mark that is found is the holder's of this number
pub mark_in-Some : (holder number : ℕ) (marks : List KeptMark) (mark : KeptMark)
    → mark_in holder number marks ≡ Some mark
    → mark_in holder number marks ≡ Some (record mark { holder = holder; number = number })
mark_in-Some holder number marks mark found =
    let own = and_parts (mark.holder == holder) (mark.number == number)
    (find_passes (is_mark holder number) marks mark found) in
    found
    ∙ ap₂ {A = ℕ} {B = ℕ} (λ h n. Some (record mark { holder = h; number = n }))
    (eqb-true mark.holder holder own.0) (eqb-true mark.number number own.1)

-- the mark that is found where so much is left of each
pub mark_in-with_left : (left_of : KeptMark → ℕ) (holder number : ℕ) (marks : List KeptMark)
    → mark_in holder number (with_left left_of marks) ≡ option_map (left_at left_of) (mark_in holder number marks)
mark_in-with_left left_of holder number [] = refl
mark_in-with_left left_of holder number (mark ∷ marks) =
    elim (is_mark holder number mark) as
    (λ b. cond b (Some (left_at left_of mark)) (mark_in holder number (with_left left_of marks))
    ≡ option_map (left_at left_of) (cond b (Some mark) (mark_in holder number marks))) [
      | true ↦ refl
      | false ↦ mark_in-with_left left_of holder number marks
    ]

-- of the mark that was found so much is left after a release of it
released_here : (holder number par : ℕ) (marks : List KeptMark) (found : Option KeptMark)
    → mark_in holder number marks ≡ found
    → option_map (left_at (after_release holder number par)) found
    ≡ option_map (left_at (λ mark. mark.left - par)) found
released_here holder number par marks None is = refl
released_here holder number par marks (Some mark) is =
    ap (λ n. Some (record mark { left = n }))
    (cond-true (is_mark holder number mark) (mark.left - par) mark.left
    (find_passes (is_mark holder number) marks mark is))

-- a release takes par from the mark of that holder and number
pub mark_in-released : (holder number par : ℕ) (marks : List KeptMark)
    → mark_in holder number (released holder number par marks)
    ≡ option_map (left_at (λ mark. mark.left - par)) (mark_in holder number marks)
unfolding released
mark_in-released holder number par marks =
    mark_in-with_left (after_release holder number par) holder number marks
    ∙ released_here holder number par marks (mark_in holder number marks) refl

-- the name of a holder and number stands before a mark's or not
abbrev name_precedes : ℕ → ℕ → KeptMark → Bool
name_precedes holder number mark = precedes mark.holder mark.number (record mark { holder = holder; number = number })

-- then so does each mark of that name
named_precedes : (holder number : ℕ) (mark one : KeptMark)
    → is_mark holder number one ≡ true
    → name_precedes holder number mark ≡ true
    → precedes mark.holder mark.number one ≡ true
named_precedes holder number mark one is earlier = grind (arith, nat_tests)

-- and none of that name where it doesn't
named_not_precedes : (holder number : ℕ) (mark one : KeptMark)
    → is_mark holder number one ≡ true
    → name_precedes holder number mark ≡ false
    → precedes mark.holder mark.number one ≡ false
named_not_precedes holder number mark one is later = grind (arith, nat_tests)

-- where it does none of that name stands behind
named_not_follows : (holder number : ℕ) (mark one : KeptMark)
    → is_mark holder number one ≡ true
    → name_precedes holder number mark ≡ true
    → follows mark.holder mark.number one ≡ false
named_not_follows holder number mark one is earlier = grind (arith, nat_tests)

-- where it doesn't, and is another name, each of that name stands behind
named_follows : (holder number : ℕ) (mark one : KeptMark)
    → is_mark holder number one ≡ true
    → name_precedes holder number mark ≡ false
    → is_mark holder number mark ≡ false
    → follows mark.holder mark.number one ≡ true
named_follows holder number mark one is later other = grind (arith, nat_tests)

-- what is found in front, where nothing is found behind
found_in_front : (test : KeptMark → Bool) (front back : List KeptMark) (found : Option KeptMark)
    → find test front ≡ found
    → find test back ≡ None
    → find test (front ++ back) ≡ found
found_in_front test front back None is none = find-append_none test front back is ∙ none
found_in_front test front back (Some mark) is none = find-append_some test front back mark is

-- a new mark is found under its holder and number
pub mark_in-with_mark_same : (mark : KeptMark) (marks : List KeptMark)
    → mark_in mark.holder mark.number (with_mark mark marks) ≡ Some mark
unfolding with_mark
mark_in-with_mark_same mark marks =
    let named : KeptMark → Bool = is_mark mark.holder mark.number in
    let back : List KeptMark = filter (follows mark.holder mark.number) marks in
    find-append_none named (filter (precedes mark.holder mark.number) marks) (mark ∷ back)
    (find-filter_none named (precedes mark.holder mark.number) (λ one is. grind (arith, nat_tests, is)) marks)
    ∙ cond-true (named mark) (Some mark) (find named back) (is_mark-own mark)

-- and each other mark as before
pub mark_in-with_mark_other : (mark : KeptMark) (marks : List KeptMark) (holder number : ℕ)
    → is_mark holder number mark ≡ false
    → mark_in holder number (with_mark mark marks) ≡ mark_in holder number marks
unfolding with_mark
mark_in-with_mark_other mark marks holder number other =
    let named : KeptMark → Bool = is_mark holder number in
    let before : KeptMark → Bool = precedes mark.holder mark.number in
    let behind : KeptMark → Bool = follows mark.holder mark.number in
    let front : List KeptMark = filter before marks in
    let back : List KeptMark = filter behind marks in
    let step : find named (mark ∷ back) ≡ find named back =
    cond-false (named mark) (Some mark) (find named back) other in
    elim (cases_Bool (name_precedes holder number mark)) [
      | inl earlier ↦
          let kept : find named front ≡ find named marks =
          find-filter_all named before (λ one is. named_precedes holder number mark one is earlier) marks in
          let none : find named back ≡ None =
          find-filter_none named behind (λ one is. named_not_follows holder number mark one is earlier) marks in
          found_in_front named front (mark ∷ back) (find named front) refl (step ∙ none) ∙ kept
      | inr later ↦
          find-append_none named front (mark ∷ back)
          (find-filter_none named before (λ one is. named_not_precedes holder number mark one is later) marks)
          ∙ (step
          ∙ find-filter_all named behind (λ one is. named_follows holder number mark one is later other) marks)
    ]

-- of the mark itself par less is left
released_own : (holder number par : ℕ) (mark : KeptMark)
    → is_mark holder number mark ≡ true
    → left_at (after_release holder number par) mark ≡ left_at (λ kept. kept.left - par) mark
released_own holder number par mark own =
    ap (λ n. record mark { left = n }) (cond-true (is_mark holder number mark) (mark.left - par) mark.left own)

-- a sum over the marks after a release: the term of that mark is that of what is left
pub sum_by-released : (f : KeptMark → ℕ) (holder number par : ℕ) (marks : List KeptMark) (mark : KeptMark)
    → MarksAreInOrder marks
    → mark_in holder number marks ≡ Some mark
    → sum_by f (released holder number par marks) + f mark
    ≡ sum_by f marks + f (left_at (λ kept. kept.left - par) mark)
unfolding released
sum_by-released f holder number par [] mark in_order found = absurd (cc)
sum_by-released f holder number par (one ∷ marks) mark in_order found =
    let new = sum_by-cons f (left_at (after_release holder number par) one) (released holder number par marks) in
    let old = sum_by-cons f one marks in
    elim (cases_Bool (is_mark holder number one)) [
      | inl own ↦
          let first : Some one ≡ Some mark =
          sym (cond-true (is_mark holder number one) (Some one) (mark_in holder number marks) own) ∙ found in
          let same : one ≡ mark = cc in
          let others : released holder number par marks ≡ marks = released_none holder number par marks
          (λ k d short. behind_other (mark_key one) (mark_key (get_or marks k d)) (holder, number)
          (AllPairs-head IsEarlierMark one marks in_order k d short) own) in
          omega (
            arith,
            new,
            old,
            ap f same,
            ap f (released_own holder number par one own),
            ap (λ kept. f (left_at (λ (m : KeptMark). m.left - par) kept)) same,
            ap (sum_by f) others,
          )
      | inr other ↦
          let rest = sum_by-released f holder number par marks mark (AllPairs-tail IsEarlierMark one marks in_order)
          (sym (cond-false (is_mark holder number one) (Some one) (mark_in holder number marks) other) ∙ found) in
          omega (arith, new, old, rest, ap f (released_other holder number par one other))
    ]

-- what is pledged after a release
pub pledged_in-released : (holder number par : ℕ) (marks : List KeptMark) (mark : KeptMark)
    → MarksAreInOrder marks
    → mark_in holder number marks ≡ Some mark
    → par ≤ mark.left
    → (other other_security : ℕ)
    → pledged_in other other_security (released holder number par marks)
    + (if pledges_par other other_security mark then par else 0)
    ≡ pledged_in other other_security marks
pledged_in-released holder number par marks mark in_order found enough other other_security =
    let share : KeptMark → ℕ = left_share other other_security in
    let sum = sum_by-released share holder number par marks mark in_order found in
    let part : share (left_at (λ kept. kept.left - par) mark)
    + (if pledges_par other other_security mark then par else 0)
    ≡ share mark =
    elim (pledges_par other other_security mark) as
    (λ b. cond b (mark.left - par) 0 + cond b par 0 ≡ cond b mark.left 0) [
      | true ↦ omega arith
      | false ↦ omega arith
    ] in
    omega (
      arith,
      sum,
      part,
      pledged_in-shares other other_security (released holder number par marks),
      pledged_in-shares other other_security marks,
    )

-- how many marks are open after a release
pub open_marks_in-released : (holder number par : ℕ) (marks : List KeptMark) (mark : KeptMark)
    → MarksAreInOrder marks
    → mark_in holder number marks ≡ Some mark
    → (other : ℕ)
    → open_marks_in other (released holder number par marks) + (if is_open_of other mark then 1 else 0)
    ≡ open_marks_in other marks + (if mark.holder == other && nat_lt 0 (mark.left - par) then 1 else 0)
open_marks_in-released holder number par marks mark in_order found other =
    sum_by-released (open_share other) holder number par marks mark in_order found
