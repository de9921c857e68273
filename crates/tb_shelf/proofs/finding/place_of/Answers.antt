-- A name's place is that of its book, and where it is found the first of that name.
use Rattle.std.proofs.Common.{◌≡◌, ℕ, true, Option, List, [], get_or, sym, ap, ◌∙◌, subst}
use Rattle.std.specs.Prelude.{IfSome}
use Rattle.std.specs.Str.{bytes_eq}
use Rattle.std.proofs.lemmas.List.{get_or_default}
use Rattle.tb_shelf.specs.Shelves.{IsOwnPlace}
use Rattle.tb_shelf.proofs.NameLemmas.{found-own, own-looked, position-names}
use Rattle.tb_shelf.proofs.finding.place_of.Goals as goal

pub returns-then-eq-clause-book : goal.returns-then-eq-clause-book
returns-then-eq-clause-book c books named =
    let names = c.args.names.now.list in
    let auction = c.args.auction.now in
    let place = c.in-Some.place in
    let own : IsOwnPlace names place =
    subst (λ (last : Option ℕ). IfSome last (IsOwnPlace names)) c.in-Some.is c.requires in
    let there : get_or names place c.index-rows-place.result ≡ c.index-rows-place.result =
    subst (λ (rows : List (List ℕ)). get_or rows place c.index-rows-place.result ≡ c.index-rows-place.result)
    c.rows.ensures (sym c.index-rows-place.is) in
    let same : bytes_eq (get_or names place []) auction ≡ true =
    ap (λ (name : List ℕ). bytes_eq name auction)
    (get_or_default names place [] c.index-rows-place.result own.within ∙ there)
    ∙ (sym c.eq.ensures ∙ c.if-eq.true) in
    sym (found-own names auction place own same) ∙ position-names auction names books named

pub returns-clause-book : goal.returns-clause-book
returns-clause-book c books named =
    c.find.ensures ∙ position-names c.args.auction.now c.args.names.now.list books named

pub returns-clause-own : goal.returns-clause-own
returns-clause-own c = own-looked c.args.names.now.list c.args.auction.now c.find.result c.find.ensures
