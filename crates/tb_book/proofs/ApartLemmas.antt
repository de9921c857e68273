-- Lines that are bids of different bidders, or have different numbers, in whatever order they stand.
use Rattle.std.proofs.Common.{◌≡◌, ℕ, ◌≤◌, ◌==◌, cond, List, [], ◌∷◌, ◌++◌, get_or, All, AllPairs, sum_by, inl, inr, refl, sym, ◌∙◌, subst, append_assoc, eq-eqb, eqb-true, arith}
use Rattle.std.specs.Prelude.{IsPermutation}
use Rattle.std.proofs.lemmas.Bool.{cases_Bool, cases_eq, cond-true, cond-false}
use Rattle.std.proofs.lemmas.List.Elements.{All-head, All-tail}
use Rattle.std.proofs.lemmas.List.Kept.{AllPairs-cons}
use Rattle.std.proofs.lemmas.List.Sorted.{IsPermutation-append_left, IsPermutation-to_front, IsPermutation-trans, sum_by-IsPermutation}
use Rattle.std.proofs.lemmas.List.Sums.{sum_by-append, sum_by-cons, sum_by_more_le, sum_by_push}
use Rattle.tb_units.proofs.ListLemmas.{AllPairs-head, AllPairs-nil, AllPairs-tail}
use Rattle.tb_book.specs.declared.book_line.BookLine.{BookLine}
use Rattle.tb_book.specs.Books.{AreApart, HasBid}
use Rattle.tb_book.proofs.CallerLemmas.{IsOther, IsOther-all}

-- ---- how many lines are the bidder's of a number

-- one for the bidder's line of the number
abbrev pub counts_one : ℕ → ℕ → BookLine → ℕ
counts_one bidder number line = cond (line.bidder == bidder) (cond (line.number == number) 1 0) 0

-- how many there are
abbrev pub numbered : ℕ → ℕ → List BookLine → ℕ
numbered bidder number lines = sum_by (counts_one bidder number) lines

-- the bidder's line of the number counts
counts-own : (bidder number : ℕ) (line : BookLine)
    → line.bidder ≡ bidder
    → line.number ≡ number
    → counts_one bidder number line ≡ 1
counts-own bidder number line own same =
    cond-true (line.bidder == bidder) (cond (line.number == number) 1 0) 0 (eq-eqb line.bidder bidder own)
    ∙ cond-true (line.number == number) 1 0 (eq-eqb line.number number same)

-- another doesn't
counts-other : (bidder number : ℕ) (line : BookLine) → IsOther bidder number line → counts_one bidder number line ≡ 0
counts-other bidder number line other =
    elim (cases_Bool (line.bidder == bidder)) [
      | inr apart ↦ cond-false (line.bidder == bidder) (cond (line.number == number) 1 0) 0 apart
      | inl own ↦
          cond-true (line.bidder == bidder) (cond (line.number == number) 1 0) 0 own
          ∙ elim (cases_Bool (line.number == number)) [
            | inr apart ↦ cond-false (line.number == number) 1 0 apart
            | inl same ↦ absurd (other (eqb-true line.bidder bidder own, eqb-true line.number number same))
          ]
    ]

-- there are none where each line is another
numbered-none : (bidder number : ℕ) (lines : List BookLine)
    → All (IsOther bidder number) lines
    → numbered bidder number lines ≡ 0
numbered-none bidder number [] others = refl
numbered-none bidder number (line ∷ lines) others =
    omega (
      arith,
      sum_by-cons (counts_one bidder number) line lines,
      counts-other bidder number line (All-head (IsOther bidder number) line lines others),
      numbered-none bidder number lines (All-tail (IsOther bidder number) line lines others),
    )

-- of lines that are apart there is one at most
once-apart : (lines : List BookLine) → AllPairs AreApart lines → (bidder number : ℕ) → numbered bidder number lines ≤ 1
once-apart [] apart bidder number = omega arith
once-apart (line ∷ lines) apart bidder number =
    let rest = once-apart lines (AllPairs-tail AreApart line lines apart) bidder number in
    let all = sum_by-cons (counts_one bidder number) line lines in
    elim (cases_eq line.bidder bidder) [
      | inr other ↦ omega (arith, all, rest, counts-other bidder number line (λ same. other same.0))
      | inl own ↦ elim (cases_eq line.number number) [
        | inr other ↦ omega (arith, all, rest, counts-other bidder number line (λ same. other same.1))
        | inl same ↦ omega (
          arith,
          all,
          counts-own bidder number line own same,
          numbered-none bidder number lines
              (λ k d short is. AllPairs-head AreApart line lines apart k d short (own ∙ sym is.0, same ∙ sym is.1)),
        )
      ]
    ]

-- and where there is one at most they are apart
apart-once : (lines : List BookLine) → ((bidder number : ℕ) → numbered bidder number lines ≤ 1)
    → AllPairs AreApart lines
apart-once [] once = AllPairs-nil AreApart
apart-once (line ∷ lines) once =
    AllPairs-cons AreApart line lines
    (λ k d short same. omega (
      arith,
      once line.bidder line.number,
      sum_by-cons (counts_one line.bidder line.number) line lines,
      counts-own line.bidder line.number line refl refl,
      sum_by_more_le (counts_one line.bidder line.number) lines k d short,
      counts-own line.bidder line.number (get_or lines k d) (sym same.0) (sym same.1),
    ))
    (apart-once lines (λ bidder number. omega (
      arith,
      once bidder number,
      sum_by-cons (counts_one bidder number) line lines,
    )))

-- so they are apart in any order
pub apart-permutation : (lines others : List BookLine)
    → IsPermutation lines others
    → AllPairs AreApart lines
    → AllPairs AreApart others
apart-permutation lines others same apart =
    apart-once others (λ bidder number. omega (
      arith,
      sum_by-IsPermutation (counts_one bidder number) lines others same,
      once-apart lines apart bidder number,
    ))

-- with a line of another bid they are apart
pub apart-more : (line : BookLine) (lines : List BookLine)
    → AllPairs AreApart lines
    → ¬ (HasBid line.bidder line.number lines)
    → AllPairs AreApart (line ∷ lines)
apart-more line lines apart new =
    let others = IsOther-all line.bidder line.number lines new in
    AllPairs-cons AreApart line lines (λ k d short same. others k d short (sym same.0, sym same.1)) apart

-- and without one
pub apart-less : (line : BookLine) (lines : List BookLine) → AllPairs AreApart (line ∷ lines) → AllPairs AreApart lines
apart-less line lines apart = AllPairs-tail AreApart line lines apart

-- the last line of those that are apart has no bid among the first
pub new-last : (sorted rest : List BookLine) (line : BookLine)
    → AllPairs AreApart (sorted ++ (rest ++ line ∷ []))
    → ¬ (HasBid line.bidder line.number sorted)
new-last sorted rest line apart has =
    let counts = counts_one line.bidder line.number in
    omega (
      arith,
      once-apart (sorted ++ (rest ++ line ∷ [])) apart line.bidder line.number,
      sum_by-append counts sorted (rest ++ line ∷ []),
      sum_by_push counts rest line,
      counts-own line.bidder line.number line refl refl,
      sum_by_more_le counts sorted has.0 line has.1,
      counts-own line.bidder line.number (get_or sorted has.0 line) (has.2 line).0 (has.2 line).1,
    )

-- ---- as lines go from those that wait among those in order

-- the last one that waits goes among the others
pub moved-line : (whole sorted rest added : List BookLine) (line : BookLine)
    → IsPermutation whole (sorted ++ (rest ++ line ∷ []))
    → IsPermutation (line ∷ sorted) added
    → IsPermutation whole (added ++ rest)
moved-line whole sorted rest added line are more =
    IsPermutation-trans whole (line ∷ (sorted ++ rest)) (added ++ rest)
    (IsPermutation-trans whole ((sorted ++ rest) ++ line ∷ []) (line ∷ (sorted ++ rest))
    (subst (IsPermutation whole) (sym (append_assoc sorted rest (line ∷ []))) are)
    (IsPermutation-to_front (sorted ++ rest) line))
    (IsPermutation-append_left rest (line ∷ sorted) added more)
