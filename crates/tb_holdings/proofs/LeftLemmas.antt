-- The marks of which something is left, after each change of all marks.
use Rattle.std.proofs.Common.{◌≡◌, ℕ, ◌-◌, ◌<◌, ◌≤◌, Bool, true, false, not, cond, ◌==◌, List, [], ◌∷◌, ◌++◌, get_or, set, take, drop, suc, map, filter, remove, All, None, refl, ap, ap₂, sym, subst, ◌∙◌, inl, inr, arith}
use Rattle.std.proofs.lemmas.Bool.{cases_Bool, cond-false, cond-true}
use Rattle.std.proofs.lemmas.Bool.Decides.{nat_tests}
use Rattle.std.proofs.lemmas.List.{set_split}
use Rattle.std.proofs.lemmas.List.Kept.{AllPairs-filter}
use Rattle.std.proofs.lemmas.List.Elements.{All-drop, All-filter, All-set, All-take, filter-append, filter_passes}
use Rattle.tb_units.proofs.PlaceLemmas.{filter_all, find_none}
use Rattle.tb_holdings.specs.declared.mark.KeptMark.{KeptMark}
use Rattle.tb_holdings.specs.Marks.{IsEarlierMark, MarksAreInOrder, MarkIsMissingAt, MarkStandsAt, after_redemption, after_release, cleared, follows, has_left, is_mark, left_at, mark_in, precedes, released, with_mark}
use Rattle.tb_holdings.proofs.MarkLemmas.{MarksAreInOrder-with_left, find_nothing, released-missing, released-stands, released_less}

-- of marks in order those of which something is left are in order
pub order-left : (marks live : List KeptMark)
    → MarksAreInOrder marks
    → live ≡ filter has_left marks
    → MarksAreInOrder live
order-left marks live in_order is =
    subst MarksAreInOrder (sym is) (AllPairs-filter IsEarlierMark has_left marks in_order)

-- and something is left of each
pub all-left : (marks live : List KeptMark)
    → live ≡ filter has_left marks
    → All (λ mark. has_left mark ≡ true) live
all-left marks live is =
    subst (λ (ms : List KeptMark). All (λ mark. has_left mark ≡ true) ms) (sym is) (filter_passes has_left marks)

-- two tests pass the same marks in either order
filter_swap : (one other : KeptMark → Bool) (marks : List KeptMark)
    → filter one (filter other marks) ≡ filter other (filter one marks)
filter_swap one other [] = refl
filter_swap one other (mark ∷ marks) =
    let rest = filter_swap one other marks in
    elim (cases_Bool (one mark)) [
      | inl is ↦ elim (cases_Bool (other mark)) [
        | inl was ↦ rw (is, was) (rw is (ap (λ (ms : List KeptMark). mark ∷ ms) rest))
        | inr wasnt ↦ rw (is, wasnt) rest
      ]
      | inr isnt ↦ elim (cases_Bool (other mark)) [
        | inl was ↦ rw (isnt, was) (rw isnt rest)
        | inr wasnt ↦ rw (isnt, wasnt) rest
      ]
    ]

-- a new mark stands among them, where something is left of it
pub left-with_mark : (mark : KeptMark) (marks : List KeptMark)
    → has_left mark ≡ true
    → with_mark mark (filter has_left marks) ≡ filter has_left (with_mark mark marks)
unfolding with_mark
left-with_mark mark marks left =
    let before : KeptMark → Bool = precedes mark.holder mark.number in
    let behind : KeptMark → Bool = follows mark.holder mark.number in
    let back : List KeptMark = filter has_left (filter behind marks) in
    ap₂ (λ (one other : List KeptMark). one ++ mark ∷ other) (filter_swap before has_left marks)
    (filter_swap behind has_left marks)
    ∙ sym (filter-append has_left (filter before marks) (mark ∷ filter behind marks)
    ∙ ap (λ (ms : List KeptMark). filter has_left (filter before marks) ++ ms)
    (cond-true (has_left mark) (mark ∷ back) back left))

-- a mark that isn't among all isn't among them
pub left-none : (holder number : ℕ) (marks : List KeptMark)
    → mark_in holder number marks ≡ None
    → mark_in holder number (filter has_left marks) ≡ None
left-none holder number marks none =
    find_nothing (is_mark holder number) (filter has_left marks)
    (All-filter has_left (λ mark. is_mark holder number mark ≡ false) marks
    (find_none (is_mark holder number) marks none))

-- a mark of which nothing was left has nothing left after a release
release_leaves : (holder number par : ℕ) (mark : KeptMark)
    → has_left mark ≡ false
    → has_left (left_at (after_release holder number par) mark) ≡ false
release_leaves holder number par mark none =
    let less = released_less holder number par mark in
    grind (arith, nat_tests)

-- so a release is one of the marks of which something is left
pub left-released : (holder number par : ℕ) (marks : List KeptMark)
    → filter has_left (released holder number par (filter has_left marks))
    ≡ filter has_left (released holder number par marks)
unfolding released
left-released holder number par [] = refl
left-released holder number par (mark ∷ marks) =
    let after : KeptMark → KeptMark = left_at (after_release holder number par) in
    let rest = left-released holder number par marks in
    let behind : List KeptMark = filter has_left (map after marks) in
    elim (cases_Bool (has_left mark)) [
      | inl is ↦ rw is (ap (λ (ms : List KeptMark). cond (has_left (after mark)) (after mark ∷ ms) ms) rest)
      | inr isnt ↦ rw isnt
          (rest ∙ sym (cond-false (has_left (after mark)) (after mark ∷ behind) behind
          (release_leaves holder number par mark isnt)))
    ]

-- where so much stays of a mark it stays among them
pub lowered-stays : (holder number par : ℕ) (marks : List KeptMark) (place left : ℕ) (d : KeptMark)
    → MarksAreInOrder marks
    → All (λ mark. has_left mark ≡ true) marks
    → MarkStandsAt holder number marks place
    → left ≡ (get_or marks place d).left - par
    → 0 < left
    → set marks place (record (get_or marks place d) { left = left })
    ≡ filter has_left (released holder number par marks)
lowered-stays holder number par marks place left d in_order all stands less some =
    let written : KeptMark = record (get_or marks place d) { left = left } in
    sym (ap (filter has_left) (sym (released-stands holder number par marks place left d in_order stands less))
    ∙ filter_all has_left (set marks place written)
    (All-set (λ mark. has_left mark ≡ true) marks place written (grind (arith, nat_tests)) all))

-- where nothing stays it leaves them
pub lowered-goes : (holder number par : ℕ) (marks : List KeptMark) (place left : ℕ) (d : KeptMark)
    → MarksAreInOrder marks
    → All (λ mark. has_left mark ≡ true) marks
    → MarkStandsAt holder number marks place
    → left ≡ (get_or marks place d).left - par
    → left ≤ 0
    → remove marks place ≡ filter has_left (released holder number par marks)
lowered-goes holder number par marks place left d in_order all stands less none =
    let written : KeptMark = record (get_or marks place d) { left = left } in
    let front : List KeptMark = take place marks in
    let back : List KeptMark = drop (suc place) marks in
    let gone : has_left written ≡ false = grind (arith, nat_tests) in
    let split : released holder number par marks ≡ front ++ written ∷ back =
    sym (released-stands holder number par marks place left d in_order stands less)
    ∙ set_split marks place written stands.within in
    sym (ap (filter has_left) split
    ∙ (filter-append has_left front (written ∷ back)
    ∙ ap₂ (λ (one other : List KeptMark). one ++ other)
    (filter_all has_left front (All-take (λ mark. has_left mark ≡ true) place marks all))
    (cond-false (has_left written) (written ∷ filter has_left back) (filter has_left back) gone
    ∙ filter_all has_left back (All-drop (λ mark. has_left mark ≡ true) (suc place) marks all))))

-- where there is no such mark they stay
pub lowered-missing : (holder number par : ℕ) (marks : List KeptMark) (place : ℕ)
    → MarksAreInOrder marks
    → All (λ mark. has_left mark ≡ true) marks
    → MarkIsMissingAt holder number marks place
    → marks ≡ filter has_left (released holder number par marks)
lowered-missing holder number par marks place in_order all missing =
    sym (ap (filter has_left) (sym (released-missing holder number par marks place in_order missing))
    ∙ filter_all has_left marks all)

-- after a redemption those of another security are left
pub left-cleared : (security : ℕ) (marks : List KeptMark)
    → filter (λ mark. not (mark.security == security)) (filter has_left marks)
    ≡ filter has_left (cleared security marks)
unfolding cleared
left-cleared security [] = refl
left-cleared security (mark ∷ marks) =
    let after : KeptMark → KeptMark = left_at (after_redemption security) in
    let test : KeptMark → Bool = λ one. not (one.security == security) in
    let rest = left-cleared security marks in
    elim (cases_Bool (mark.security == security)) [
      | inl same ↦ elim (cases_Bool (has_left mark)) [
        | inl is ↦ rw (is, same) rest
        | inr isnt ↦ rw (isnt, same) rest
      ]
      | inr differs ↦ elim (cases_Bool (has_left mark)) [
        | inl is ↦ rw (is, differs) (rw is (ap (λ (ms : List KeptMark). mark ∷ ms) rest))
        | inr isnt ↦ rw (isnt, differs) (rw isnt rest)
      ]
    ]

-- the marks stay in order through a release
pub order-released : (holder number par : ℕ) (marks : List KeptMark)
    → MarksAreInOrder marks
    → MarksAreInOrder (released holder number par marks)
unfolding released
order-released holder number par marks in_order =
    MarksAreInOrder-with_left (after_release holder number par) marks in_order

-- and through a redemption
pub order-cleared : (security : ℕ) (marks : List KeptMark)
    → MarksAreInOrder marks
    → MarksAreInOrder (cleared security marks)
unfolding cleared
order-cleared security marks in_order = MarksAreInOrder-with_left (after_redemption security) marks in_order
