-- Marks: the pledges of each holder, in order of holder and then number.
use Rattle.std.specs.Prelude.{◌≡◌, ℕ, ◌-◌, ◌<◌, Bool, true, false, not, ◌&&◌, ◌||◌, ◌==◌, nat_lt, List, ◌∷◌, ◌++◌, filter, map, find, sum_by, count_by, AllPairs, Option, length, slice_index_or, if◌then◌else◌}
use Rattle.tb_holdings.specs.declared.mark.KeptMark.{KeptMark}
use Rattle.tb_units.specs.Places.{IsPlace}

-- what a contract sees of the marks: their list, and how many adds are sure
pub record MarkList : Type 0 where
  pub list : List KeptMark
  pub spare : ℕ

-- something is left of the mark
abbrev pub has_left : KeptMark → Bool
has_left mark = nat_lt 0 mark.left

-- the mark is this holder's, under this number
abbrev pub is_mark : ℕ → ℕ → KeptMark → Bool
is_mark holder number mark = mark.holder == holder && mark.number == number

-- the mark stands before that of this holder and number
abbrev pub precedes : ℕ → ℕ → KeptMark → Bool
precedes holder number mark = nat_lt mark.holder holder || (mark.holder == holder && nat_lt mark.number number)

-- the mark stands behind that of this holder and number
abbrev pub follows : ℕ → ℕ → KeptMark → Bool
follows holder number mark = nat_lt holder mark.holder || (holder == mark.holder && nat_lt number mark.number)

-- the one mark stands before the other
abbrev pub IsEarlierMark : KeptMark → KeptMark → Type 0
IsEarlierMark one later = precedes later.holder later.number one ≡ true

-- the marks stand in order of holder and then number, and no two are of one holder and number
abbrev pub MarksAreInOrder : List KeptMark → Type 0
MarksAreInOrder marks = AllPairs IsEarlierMark marks

-- the mark of this holder and number, where there is one
abbrev pub mark_in : ℕ → ℕ → List KeptMark → Option KeptMark
mark_in holder number marks = find (is_mark holder number) marks

-- the mark of this holder and number stands at this place
pub record MarkStandsAt (holder number : ℕ) (marks : List KeptMark) (place : ℕ) : Type 0 where
  pub first : IsPlace (precedes holder number) marks place
  pub within : place < length marks
  pub same : (d : KeptMark) → is_mark holder number (slice_index_or marks place d) ≡ true

-- there is no such mark, and one would stand at this place
pub record MarkIsMissingAt (holder number : ℕ) (marks : List KeptMark) (place : ℕ) : Type 0 where
  pub first : IsPlace (precedes holder number) marks place
  pub other : (d : KeptMark) → place < length marks → is_mark holder number (slice_index_or marks place d) ≡ false

-- the mark is this holder's
abbrev pub is_own : ℕ → KeptMark → Bool
is_own holder mark = mark.holder == holder

-- the mark pledges the holder's par of the security
abbrev pub pledges_par : ℕ → ℕ → KeptMark → Bool
pledges_par holder security mark = mark.holder == holder && mark.security == security

-- what is left of the holder's marks of the security
abbrev pub pledged_in : ℕ → ℕ → List KeptMark → ℕ
pledged_in holder security marks = sum_by (λ mark. mark.left) (filter (pledges_par holder security) marks)

-- the mark is the holder's, and something is left of it
abbrev pub is_open_of : ℕ → KeptMark → Bool
is_open_of holder mark = mark.holder == holder && nat_lt 0 mark.left

-- how many of the holder's marks have something left
abbrev pub open_marks_in : ℕ → List KeptMark → ℕ
open_marks_in holder marks = count_by (is_open_of holder) marks

-- how many of them are of another security
abbrev pub open_marks_beside : ℕ → ℕ → List KeptMark → ℕ
open_marks_beside security holder marks =
    count_by (λ mark. is_open_of holder mark && not (mark.security == security)) marks

-- the holder's mark of this number, with so much left
abbrev pub new_mark : ℕ → ℕ → ℕ → ℕ → ℕ → KeptMark
new_mark holder number pledgee security left =
    record { holder = holder; number = number; pledgee = pledgee; security = security; left = left }

-- the marks, and this one at its place among them
unfoldable pub with_mark : KeptMark → List KeptMark → List KeptMark
with_mark mark marks =
    filter (precedes mark.holder mark.number) marks ++ mark ∷ filter (follows mark.holder mark.number) marks

-- the mark, of which so much is left
abbrev pub left_at : (KeptMark → ℕ) → KeptMark → KeptMark
left_at left_of mark = record mark { left = left_of mark }

-- the marks, of which so much is left
abbrev pub with_left : (KeptMark → ℕ) → List KeptMark → List KeptMark
with_left left_of marks = map (left_at left_of) marks

-- what is left of the mark once par was released of that of this holder and number
abbrev pub after_release : ℕ → ℕ → ℕ → KeptMark → ℕ
after_release holder number par mark = if is_mark holder number mark then mark.left - par else mark.left

-- the marks after that release
unfoldable pub released : ℕ → ℕ → ℕ → List KeptMark → List KeptMark
released holder number par marks = with_left (after_release holder number par) marks

-- what is left of the mark once the security was redeemed: nothing, if it is of the security
abbrev pub after_redemption : ℕ → KeptMark → ℕ
after_redemption security mark = if mark.security == security then 0 else mark.left

-- the marks after that redemption
unfoldable pub cleared : ℕ → List KeptMark → List KeptMark
cleared security marks = with_left (after_redemption security) marks
