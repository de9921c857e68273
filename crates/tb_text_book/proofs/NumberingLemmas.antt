-- Bidders get their numbers, and what is kept of a bidder who is new.
use Rattle.std.proofs.Common.{◌≡◌, ℕ, ℤ, pos, suc, ◌+◌, ◌*◌, ◌<◌, ◌≤◌, ◌==◌, Bool, true, false, ◌&&◌, cond, List, [], ◌∷◌, ◌++◌, length, get_or, sym, subst, ap, ◌∙◌, refl, arith, inl, inr, ltb}
use Rattle.std.specs.Prelude.{All, Contains, fold, not}
use Rattle.std.specs.List.{list_any, position_or_len}
use Rattle.std.proofs.lemmas.Bool.{cases_Bool, cases_lt, ne_eqb}
use Rattle.std.proofs.lemmas.Bool.Decides.{nat_tests}
use Rattle.std.proofs.lemmas.List.{get_or_append_left}
use Rattle.std.proofs.lemmas.List.Folds.{list_any_none, list_any_at}
use Rattle.std.proofs.lemmas.List.Sums.{fails_before_first, passes_at_first, position_or_len_is, sum_by-le}
use Rattle.std.proofs.lemmas.Map.Views.{list_any-from_Contains}
use Rattle.std.proofs.Math.Seq.{get_or-append_seam}
use Rattle.tb_text_book.specs.Books.{Adds, Book, GetsNumber, MayFollow, Numbered, StandsFirstAt, is_competitive, is_noncompetitive, name_of, with_entry}
use Rattle.tb_text_book.specs.declared.book_line.Offering.{Offering}
use Rattle.tb_text_book.specs.Bids.{noncompetitive_amount, noncompetitive_of, position_of, reported}
use Rattle.tb_text_book.specs.Tallies.{AreLinesOf, IsWayOf}
use Rattle.tb_text_book.specs.declared.book_line.Entry.{Entry}
use Rattle.tb_text_book.specs.declared.way.Way.{Way}
use Rattle.tb_text_book.specs.declared.way.Way.TheVariants as way
use Rattle.tb_units.specs.declared.lines.RateLine.{RateLine}
use Rattle.tb_text_book.proofs.TallyLemmas.{AreSums}
use Rattle.tb_text_book.proofs.NameLemmas.{name_eq, name_eq-same, name_eq-other, names_equivalence}

-- an element passes just where the first that does stands before the end
any-first : {X : Type 0} (p : X → Bool) (xs : List X) → list_any p xs ≡ ltb (position_or_len p xs) (length xs)
any-first p [] = refl
any-first p (x ∷ xs) = grind (arith, nat_tests, any-first p xs)

-- a name that a set knows stands first where the set finds it
stands : (names : List (List ℕ)) (name : List ℕ)
    → list_any (name_eq name) names ≡ true
    → StandsFirstAt name names (position_or_len (name_eq name) names)
stands names name known =
    let within : position_or_len (name_eq name) names < length names =
    (let test : ltb (position_or_len (name_eq name) names) (length names) ≡ true =
    sym (any-first (name_eq name) names) ∙ known in grind (arith, nat_tests)) in
    record {
      within = within;
      is = λ d. sym (name_eq-same name (get_or names (position_or_len (name_eq name) names) d)
          (passes_at_first (name_eq name) names d within));
      first = λ k d before same. name_eq-other name (get_or names k d)
          (fails_before_first (name_eq name) names k d before) (sym same);
    }

-- a test that no element passes stops at none
fails-at : {X : Type 0} (p : X → Bool) (xs : List X) (k : ℕ) (d : X)
    → list_any p xs ≡ false
    → k < length xs
    → p (get_or xs k d) ≡ false
fails-at p xs k d fails below = elim (cases_Bool (p (get_or xs k d))) [
  | inl passes ↦ absurd (let bad : false ≡ true = sym fails ∙ list_any_at p xs k d below passes in cc)
  | inr is ↦ is
]

-- a name that a set doesn't know is looked for up to the end
absent : (names : List (List ℕ)) (name : List ℕ)
    → list_any (name_eq name) names ≡ false
    → (¬ (Contains names name)) × (position_or_len (name_eq name) names ≡ length names)
absent names name unknown = (
  λ contains. absurd (let bad : true ≡ false =
      sym (list_any-from_Contains names_equivalence name names contains) ∙ unknown in cc),
  position_or_len_is (name_eq name) names (length names) [] (omega arith)
      (λ k below. fails-at (name_eq name) names k [] unknown below) (λ below. absurd (omega arith)),
)

-- the place that a set answers is the bidder's number
pub gets-number : (names : List (List ℕ)) (name : List ℕ)
    → GetsNumber name names (position_or_len (name_eq name) names)
    (cond (list_any (name_eq name) names) names (names ++ name ∷ []))
gets-number names name = elim (cases_Bool (list_any (name_eq name) names)) [
  | inl known ↦ inl (stands names name known, ap (λ b. cond b names (names ++ name ∷ [])) known)
  | inr unknown ↦ inr (
    (absent names name unknown).0,
    (absent names name unknown).1,
    ap
        (λ b. cond b names (names ++ name ∷ [])) unknown,
  )
]

-- what a set's answer says of a name
pub new-name : (names : List (List ℕ)) (name : List ℕ) (b : Bool)
    → b ≡ true
    → b ≡ not (list_any (name_eq name) names)
    → cond (list_any (name_eq name) names) names (names ++ name ∷ []) ≡ names ++ name ∷ []
new-name names name b is answer = elim (cases_Bool (list_any (name_eq name) names)) [
  | inl known ↦ absurd (let bad : true ≡ false = sym is ∙ answer ∙ ap not known in cc)
  | inr unknown ↦ ap (λ x. cond x names (names ++ name ∷ [])) unknown
]

-- a name that was known leaves the names
pub old-name : (names : List (List ℕ)) (name : List ℕ) (b : Bool)
    → b ≡ false
    → b ≡ not (list_any (name_eq name) names)
    → cond (list_any (name_eq name) names) names (names ++ name ∷ []) ≡ names
old-name names name b is answer = elim (cases_Bool (list_any (name_eq name) names)) [
  | inl known ↦ ap (λ x. cond x names (names ++ name ∷ [])) known
  | inr unknown ↦ absurd (let bad : false ≡ true = sym is ∙ answer ∙ ap not unknown in cc)
]

-- no entry is of a bidder who is new
other_bidder : (entries : List Numbered) (n : ℕ)
    → All (λ e. e.bidder < n) entries
    → All (λ e. (e.bidder == n) ≡ false) entries
other_bidder entries n known =
    λ k d below. ne_eqb (get_or entries k d).bidder n (λ same. absurd (omega (arith, known k d below, same)))

-- entries of others leave a position
position-new : (entries : List Numbered) (n : ℕ) (before : ℤ)
    → All (λ e. (e.bidder == n) ≡ false) entries
    → fold (λ b e. cond (e.bidder == n) (reported b e.entry) b) before entries ≡ before
position-new [] n before other = refl
position-new (e ∷ entries) n before other =
    let step : cond (e.bidder == n) (reported before e.entry) before ≡ before =
    ap (λ x. cond x (reported before e.entry) before) (other 0 e (omega arith)) in
    ap (λ b. fold (λ b e. cond (e.bidder == n) (reported b e.entry) b) b entries) step
    ∙ position-new entries n before (λ k d below. other (suc k) d (omega arith))

-- a test that fails, and another, fail
and_none : (b x : Bool) → b ≡ false → (b && x) ≡ false
and_none true x is = absurd (cc)
and_none false x is = refl

-- a number under a test that fails counts nothing
no_part : (b : Bool) (n : ℕ) → b ≡ false → cond b n 0 ≤ 0
no_part true n is = absurd (cc)
no_part false n is = omega arith

-- a bidder without entries has no way yet
pub way-new : (entries : List Numbered) (n : ℕ) → All (λ e. e.bidder < n) entries → IsWayOf entries n way.Open
way-new entries n known =
    let other = other_bidder entries n known in
    record {
      competitive = list_any_none (λ (e : Numbered). (e.bidder == n) && is_competitive e.entry) entries
          (λ k d below. and_none ((get_or entries k d).bidder == n) (is_competitive (get_or entries k d).entry)
          (other k d below));
      noncompetitive = list_any_none (λ (e : Numbered). (e.bidder == n) && is_noncompetitive e.entry) entries
          (λ k d below. and_none ((get_or entries k d).bidder == n) (is_noncompetitive (get_or entries k d).entry)
          (other k d below));
    }

-- and bids nothing
sum-new : (entries : List Numbered) (n : ℕ) → All (λ e. e.bidder < n) entries → noncompetitive_of entries n ≡ 0
sum-new entries n known =
    let other = other_bidder entries n known in
    let low : noncompetitive_of entries n ≤ length entries * 0 =
    sum_by-le (λ (e : Numbered). cond (e.bidder == n) (noncompetitive_amount e.entry) 0) 0 entries
    (λ k d below. no_part ((get_or entries k d).bidder == n) (noncompetitive_amount (get_or entries k d).entry)
    (other k d below)) in
    omega arith

-- the lists by number with one bidder more
pub positions-new : (positions : List ℤ) (entries : List Numbered) (n : ℕ)
    → length positions ≡ n
    → All (λ e. e.bidder < n) entries
    → ((bidder : ℕ) → bidder < n → get_or positions bidder (pos 0) ≡ position_of entries bidder)
    → (bidder : ℕ)
    → bidder < n + 1
    → get_or (positions ++ pos 0 ∷ []) bidder (pos 0) ≡ position_of entries bidder
positions-new positions entries n size known are bidder below = elim (cases_lt bidder n) [
  | inl less ↦ get_or_append_left positions (pos 0 ∷ []) (pos 0) bidder (omega (arith, size)) ∙ are bidder less
  | inr more ↦ (let same : bidder ≡ length positions = omega (arith, size) in
      ap (λ k. get_or (positions ++ pos 0 ∷ []) k (pos 0)) same ∙ get_or-append_seam positions (pos 0) [] (pos 0)
      ∙ sym (ap (position_of entries) (same ∙ size) ∙ position-new entries n (pos 0) (other_bidder entries n known)))
]

-- the ways of all bidders with a new one
pub ways-new : (ways : List Way) (entries : List Numbered) (n : ℕ)
    → length ways ≡ n
    → All (λ e. e.bidder < n) entries
    → ((bidder : ℕ) (d : Way) → bidder < n → IsWayOf entries bidder (get_or ways bidder d))
    → (bidder : ℕ) (d : Way)
    → bidder < n + 1
    → IsWayOf entries bidder (get_or (ways ++ way.Open ∷ []) bidder d)
ways-new ways entries n size known are bidder d below = elim (cases_lt bidder n) [
  | inl less ↦ subst (IsWayOf entries bidder)
      (sym (get_or_append_left ways (way.Open ∷ []) d bidder (omega (arith, size))))
      (are bidder d less)
  | inr more ↦ (let same : bidder ≡ length ways = omega (arith, size) in
      let open_way : get_or (ways ++ way.Open ∷ []) bidder d ≡ way.Open =
      ap (λ k. get_or (ways ++ way.Open ∷ []) k d) same ∙ get_or-append_seam ways way.Open [] d in
      subst (IsWayOf entries bidder) (sym open_way)
      (subst (λ (k : ℕ). IsWayOf entries k way.Open) (sym (same ∙ size)) (way-new entries n known)))
]

-- the sums of all bidders with a new one
pub sums-new : (sums : List ℕ) (entries : List Numbered) (n : ℕ)
    → length sums ≡ n
    → All (λ e. e.bidder < n) entries
    → AreSums sums entries n
    → AreSums (sums ++ 0 ∷ []) entries (n + 1)
sums-new sums entries n size known are bidder d below = elim (cases_lt bidder n) [
  | inl less ↦ get_or_append_left sums (0 ∷ []) d bidder (omega (arith, size)) ∙ are bidder d less
  | inr more ↦ (let same : bidder ≡ length sums = omega (arith, size) in
      ap (λ k. get_or (sums ++ 0 ∷ []) k d) same ∙ get_or-append_seam sums 0 [] d
      ∙ sym (ap (noncompetitive_of entries) (same ∙ size) ∙ sum-new entries n known))
]

-- a name more leaves the competitive lines
pub lines-new : (days : ℕ) (book : Book) (names : List (List ℕ)) (lines : List RateLine)
    → length book.names ≤ length names
    → AreLinesOf days book lines
    → AreLinesOf days (record { names = names; entries = book.entries }) lines
lines-new days book names lines more are = record {
  bids = are.bids;
  known = λ k d below. omega (arith, are.known k d below, more);
  sound = are.sound;
  few = are.few;
}

-- the same in the words of a set's answer
pub gets-number-at : (keys names new : List (List ℕ)) (name : List ℕ) (number : ℕ)
    → keys ≡ names
    → number ≡ position_or_len (name_eq name) keys
    → new ≡ cond (list_any (name_eq name) keys) keys (keys ++ name ∷ [])
    → GetsNumber name names number new
gets-number-at keys names new name number keys_are number_is new_is =
    subst (λ (old : List (List ℕ)). GetsNumber name old number new) keys_are
    (subst (λ (n : ℕ). GetsNumber name keys n new) (sym number_is)
    (subst (GetsNumber name keys (position_or_len (name_eq name) keys)) (sym new_is) (gets-number keys name)))

-- a bidder gets one number, and the bidders with it are one list
not_later : (name : List ℕ) (names : List (List ℕ)) (a b : ℕ)
    → StandsFirstAt name names a
    → StandsFirstAt name names b
    → a ≤ b
not_later name names a b is_a is_b = elim (cases_lt b a) [
  | inl less ↦ absurd (is_a.first b [] less (is_b.is []))
  | inr le ↦ le
]

-- a name that stands at a place is among the names
known_contains : (name : List ℕ) (names : List (List ℕ)) (place : ℕ)
    → StandsFirstAt name names place
    → Contains names name
known_contains name names place stands = (place, stands.within, stands.is name)

pub record SameNumber (a b : ℕ) (xs ys : List (List ℕ)) : Type 0 where
  pub number : a ≡ b
  pub names : xs ≡ ys

-- a name gets one number, and leaves one list of names
pub gets-one : (name : List ℕ) (names : List (List ℕ)) (a b : ℕ) (xs ys : List (List ℕ))
    → GetsNumber name names a xs
    → GetsNumber name names b ys
    → SameNumber a b xs ys
gets-one name names a b xs ys (inl is_a) (inl is_b) = record {
  number = (let le : a ≤ b = not_later name names a b is_a.0 is_b.0 in
      let ge : b ≤ a = not_later name names b a is_b.0 is_a.0 in omega arith);
  names = is_a.1 ∙ sym is_b.1;
}
gets-one name names a b xs ys (inl is_a) (inr is_b) = absurd (is_b.0 (known_contains name names a is_a.0))
gets-one name names a b xs ys (inr is_a) (inl is_b) = absurd (is_a.0 (known_contains name names b is_b.0))
gets-one name names a b xs ys (inr is_a) (inr is_b) = record {
  number = is_a.1 ∙ sym is_b.1;
  names = is_a.2 ∙ sym is_b.2;
}

-- the book with an entry of a bidder with its number
pub adds-with : (offering : Offering) (book : Book) (names : List (List ℕ)) (number : ℕ) (e : Entry)
    → GetsNumber (name_of e) book.names number names
    → MayFollow offering book.entries number e
    → Adds offering book e (with_entry (record { names = names; entries = book.entries }) number e)
adds-with offering book names number e gets follows = record {
  bidder = number;
  numbered = gets;
  follows = follows;
  entries = refl;
}

-- an entry that may not stand behind a book
pub adds-not : (offering : Offering) (book : Book) (names : List (List ℕ)) (number : ℕ) (e : Entry)
    → GetsNumber (name_of e) book.names number names
    → ¬ (MayFollow offering book.entries number e)
    → (new : Book)
    → ¬ (Adds offering book e new)
adds-not offering book names number e gets not new adds =
    let one = gets-one (name_of e) book.names adds.bidder number new.names names adds.numbered gets in
    not (subst (λ (n : ℕ). MayFollow offering book.entries n e) one.number adds.follows)

-- one entry brings a book to one
pub adds-one : (offering : Offering) (book new new2 : Book) (e : Entry)
    → Adds offering book e new
    → Adds offering book e new2
    → new ≡ new2
adds-one offering book new new2 e is is2 =
    let one = gets-one (name_of e) book.names is.bidder is2.bidder new.names new2.names is.numbered is2.numbered in
    same_book new new2 one.names (is.entries ∙ ap (λ (n : ℕ). book.entries ++ record {
      bidder = n;
      entry = e;
    } ∷ []) one.number ∙ sym is2.entries)
  where
    same_book : (a b : Book) → a.names ≡ b.names → a.entries ≡ b.entries → a ≡ b
    same_book a b names entries = λ i. record { names = names i; entries = entries i }
