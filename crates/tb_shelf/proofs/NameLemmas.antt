-- Books that are found by the list of their names.
use Rattle.std.proofs.Common.{◌≡◌, ℕ, ◌+◌, ◌<◌, Bool, true, not, cond, nat_lt, Option, Some, None, List, [], ◌∷◌, ◌++◌, length, get_or, refl, sym, ap, ap₂, ◌∙◌, subst, arith}
use Rattle.std.specs.Prelude.{IfSome}
use Rattle.std.specs.List.{position, position_or_len}
use Rattle.std.specs.Str.{bytes_eq}
use Rattle.std.proofs.Math.ListN.{get_or-append}
use Rattle.std.proofs.lemmas.List.{length-map, length_push}
use Rattle.std.proofs.lemmas.List.Sums.{passes_at_first}
use Rattle.std.proofs.lemmas.Slice.Eq.{bytes_eq-Decides}
use Rattle.tb_index.proofs.PositionLemmas.{position-stays}
use Rattle.tb_shelf.specs.declared.named.NamedBook.{NamedBook}
use Rattle.tb_shelf.specs.Shelves.{IsOwnPlace, is_of, names_in}
use Rattle.tb_shelf.proofs.FindLemmas.{position-place}

-- a name is among the names as far on as its book is among the books
place-names : (auction : List ℕ) (books : List NamedBook)
    → position_or_len (λ (name : List ℕ). bytes_eq name auction) (names_in books)
    ≡ position_or_len (is_of auction) books
place-names auction [] = refl
place-names auction (named ∷ books) =
    ap (λ (n : ℕ). cond (not (bytes_eq named.auction auction)) (1 + n) 0) (place-names auction books)

-- so a name's place is that of its book
pub position-names : (auction : List ℕ) (names : List (List ℕ)) (books : List NamedBook)
    → names ≡ names_in books
    → position (λ (name : List ℕ). bytes_eq name auction) names ≡ position (is_of auction) books
position-names auction names books same =
    ap (position (λ (name : List ℕ). bytes_eq name auction)) same
    ∙ ap₂ (λ (place count : ℕ). cond (nat_lt place count) (Some place) None)
    (place-names auction books) (length-map books (λ (named : NamedBook). named.auction))

-- the names of the books with one more
pub names-more : (books : List NamedBook) (named : NamedBook)
    → names_in (books ++ named ∷ []) ≡ names_in books ++ named.auction ∷ []
names-more [] named = refl
names-more (first ∷ books) named =
    ap (λ (names : List (List ℕ)). first.auction ∷ names) (names-more books named)

-- what is found passes the test
pub passes-at : {X : Type 0} (p : X → Bool) (xs : List X) (place : ℕ) (d : X)
    → position p xs ≡ Some place
    → p (get_or xs place d) ≡ true
passes-at p xs place d placed =
    let at = position-place p xs place placed in
    let inside : position_or_len p xs < length xs = subst (λ k. k < length xs) (sym at.1) at.0 in
    subst (λ k. p (get_or xs k d) ≡ true) at.1 (passes_at_first p xs d inside)

-- the place of a name that is found is the first of it
pub own-found : (names : List (List ℕ)) (auction : List ℕ) (place : ℕ)
    → position (λ (name : List ℕ). bytes_eq name auction) names ≡ Some place
    → IsOwnPlace names place
own-found names auction place placed =
    let is_it : List ℕ → Bool = λ name. bytes_eq name auction in
    let here : get_or names place [] ≡ auction =
    (bytes_eq-Decides (get_or names place []) auction).0 (passes-at is_it names place [] placed) in
    record {
      within = (position-place is_it names place placed).0;
      first = subst (λ (own : List ℕ). position (λ (name : List ℕ). bytes_eq name own) names ≡ Some place) (sym here)
          placed;
    }

-- so is what a look-up found, if it found one
pub own-looked : (names : List (List ℕ)) (auction : List ℕ) (found : Option ℕ)
    → found ≡ position (λ (name : List ℕ). bytes_eq name auction) names
    → IfSome found (IsOwnPlace names)
own-looked names auction None placed = tt
own-looked names auction (Some place) placed = own-found names auction place (sym placed)

-- and where the name that stands there is asked for, it is found there
pub found-own : (names : List (List ℕ)) (auction : List ℕ) (place : ℕ)
    → IsOwnPlace names place
    → bytes_eq (get_or names place []) auction ≡ true
    → position (λ (name : List ℕ). bytes_eq name auction) names ≡ Some place
found-own names auction place own same =
    subst (λ (asked : List ℕ). position (λ (name : List ℕ). bytes_eq name asked) names ≡ Some place)
    ((bytes_eq-Decides (get_or names place []) auction).0 same) own.first

-- a first place stays as a name is added
own-more : (names : List (List ℕ)) (place : ℕ) (name : List ℕ)
    → IsOwnPlace names place
    → IsOwnPlace (names ++ name ∷ []) place
own-more names place name own =
    let same : get_or (names ++ name ∷ []) place [] ≡ get_or names place [] =
    get_or-append names (name ∷ []) [] place own.within in
    record {
      within = omega (arith, length_push names name, own.within);
      first = subst
          (λ (own : List ℕ). position (λ (other : List ℕ). bytes_eq other own) (names ++ name ∷ []) ≡ Some place)
          (sym same) (position-stays _ names name place own.first);
    }

-- so does the place that was found last, if one was
pub last-more : (names more : List (List ℕ)) (name : List ℕ) (last : Option ℕ)
    → more ≡ names ++ name ∷ []
    → IfSome last (IsOwnPlace names)
    → IfSome last (IsOwnPlace more)
last-more names more name None added own = tt
last-more names more name (Some place) added own =
    subst (λ (all : List (List ℕ)). IsOwnPlace all place) (sym added) (own-more names place name own)
