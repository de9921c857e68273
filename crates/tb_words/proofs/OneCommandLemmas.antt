-- No two commands have the same words.
use Rattle.std.proofs.Common.{◌≡◌, ℕ, ◌+◌, ◌<◌, ◌^◌, List, [], ◌∷◌, Bool, true, false, Option, Some, None}
use Rattle.std.proofs.Common.{refl, sym, subst, ap, ◌∙◌, arith, codes, get_or}
use Rattle.std.specs.Prelude.{if◌then◌else◌}
use Rattle.std.specs.List.{list_all}
use Rattle.std.specs.Fmt.{decimal}
use Rattle.std.proofs.lemmas.Fmt.{decimal_injective}
use Rattle.tb_terms.specs.Same.{same_cusip}
use Rattle.tb_terms.specs.declared.cusip.Cusip.{Cusip}
use Rattle.tb_message.specs.declared.key.Key.{Key}
use Rattle.tb_message.specs.declared.query.Query.{Query}
use Rattle.tb_message.specs.declared.query.Query.TheVariants as query
use Rattle.tb_message.specs.Keys.{key_of}
use Rattle.tb_words.specs.declared.command.Command.{Command}
use Rattle.tb_words.specs.declared.command.Command.TheVariants as command
use Rattle.tb_words.specs.Items as item
use Rattle.tb_words.specs.Items.{Text, Item, items_of, is_known, values_in}
use Rattle.tb_words.specs.Lines.{Says, times}
use Rattle.tb_words.specs.Commands.{AreWordsOf, IsKey, Spells, key_text, line_of, name_of, query_words}
use Rattle.tb_words.proofs.KeyLemmas.{key_known}

-- a list of one text has one text
one_text : (values : List Text) (one other : Text) → values ≡ one ∷ [] → values ≡ other ∷ [] → one ≡ other
one_text values one other is_one is_other = let same : one ∷ [] ≡ other ∷ [] = sym is_one ∙ is_other in cc (same)

-- a text writes one number
one_number : (values : List Text) (one other : ℕ)
    → one < 2 ^ 64
    → other < 2 ^ 64
    → values ≡ decimal one ∷ []
    → values ≡ decimal other ∷ []
    → one ≡ other
one_number values one other one_small other_small is_one is_other =
    decimal_injective one other one_small other_small (one_text values (decimal one) (decimal other) is_one is_other)

-- a text is the text of one key
one_key : (values : List Text) (one other : Key)
    → IsKey one
    → IsKey other
    → values ≡ key_text one ∷ []
    → values ≡ key_text other ∷ []
    → one ≡ other
one_key values one other one_held other_held is_one is_other =
    let same : Some one ≡ Some other =
    sym (key_known one one_held) ∙ ap key_of (one_text values (key_text one) (key_text other) is_one is_other)
    ∙ key_known other other_held in
    cc (same)

-- a switch stands or doesn't
one_switch : (one other : Bool) → times one ≡ times other → one ≡ other
one_switch true true same = refl
one_switch true false same = absurd (omega (arith, same))
one_switch false true same = absurd (omega (arith, same))
one_switch false false same = refl

-- positional words ask one query
one_query : (one other : Query) → query_words one ≡ query_words other → one ≡ other
one_query (query.Terms auction) (query.Terms named) same = cc (same)
one_query (query.Results auction) (query.Results named) same = cc (same)
one_query (query.Awards auction) (query.Awards named) same = cc (same)
one_query (query.Bids auction) (query.Bids named) same = cc (same)
one_query query.Holdings query.Holdings same = refl
one_query query.Funds query.Funds same = refl
one_query (query.Redemption bill) (query.Redemption named) same =
    ap query.Redemption (same_cusip bill named (cc (same)))
one_query one other same = absurd (cc (same))

-- the word `full` stands or doesn't
one_full : (one other : Bool)
    → (if one then codes "full" ∷ [] else []) ≡ (if other then codes "full" ∷ [] else [])
    → one ≡ other
one_full true true same = refl
one_full true false same = cc (same)
one_full false true same = cc (same)
one_full false false same = refl

-- where no option is known none has a value
no_value : (wanted : Text) (items : List Item) → list_all (is_known []) items ≡ true → values_in wanted items ≡ []
no_value wanted [] known = refl
no_value wanted (item.place word ∷ items) known = no_value wanted items known
no_value wanted (item.option name value ∷ items) known = cc (known)
no_value wanted (item.csv ∷ items) known = no_value wanted items known
no_value wanted (item.bare ∷ items) known = cc (known)

-- a line without options says no bill
no_bill : (bill : Cusip) (items : List Item)
    → Says (line_of (command.Register None)) items
    → Says (line_of (command.Register (Some bill))) items
    → ⊥
no_bill bill items without with_one =
    let same : [] ≡ bill.bytes ∷ [] = sym (no_value (codes "--cusip") items without.no_more) ∙ with_one.options.0 in
    cc (same)

-- one bill is named, or none
one_bill : (one other : Option Cusip) (items : List Item)
    → Says (line_of (command.Register one)) items
    → Says (line_of (command.Register other)) items
    → one ≡ other
one_bill None None items is_one is_other = refl
one_bill None (Some bill) items is_one is_other = absurd (no_bill bill items is_one is_other)
one_bill (Some bill) None items is_one is_other = absurd (no_bill bill items is_other is_one)
one_bill (Some bill) (Some named) items is_one is_other =
    ap Some (same_cusip bill named (one_text _ bill.bytes named.bytes is_one.options.0 is_other.options.0))

-- a number that tells the names of commands apart: the sum of the first letter and twice the third
abbrev tag_of : Text → ℕ
tag_of name = get_or name 0 0 + get_or name 2 0 + get_or name 2 0

-- one name has one such number
same_tag : (one other : Text) → one ≡ other → tag_of one ≡ tag_of other
same_tag one other same = ap tag_of same

-- the items behind a command's name are those of one command of this name
one_spelled : (one other : Command) (items : List Item)
    → name_of one ≡ name_of other
    → Spells one items
    → Spells other items
    → one ≡ other
one_spelled (command.Award full) (command.Award other) items named is_one is_other =
    ap command.Award (one_full full other (sym is_one.line.places ∙ is_other.line.places))
one_spelled (command.Run operator) (command.Run name) items named is_one is_other =
    ap command.Run (one_text _ operator name is_one.line.options.0 is_other.line.options.0)
one_spelled (command.Serve operator port workers links) (command.Serve name p w l) items named is_one is_other =
    let a = is_one.in_range in
    let b = is_other.in_range in
    let names : operator ≡ name = one_text _ operator name is_one.line.options.0 is_other.line.options.0 in
    let ports : port ≡ p = one_number _ port p (omega (arith, a.1.1)) (omega (arith, b.1.1)) is_one.line.options.1.0
    is_other.line.options.1.0 in
    let counts : workers ≡ w = one_number _ workers w (omega (arith, a.2.1)) (omega (arith, b.2.1))
    is_one.line.options.1.1.0 is_other.line.options.1.1.0 in
    let most : links ≡ l = one_number _ links l (omega (arith, a.3.1)) (omega (arith, b.3.1))
    is_one.line.options.1.1.1.0 is_other.line.options.1.1.1.0 in
    cc (names, ports, counts, most)
one_spelled (command.Import operator caller) (command.Import name other) items named is_one is_other =
    let names : operator ≡ name = one_text _ operator name is_one.line.options.0 is_other.line.options.0 in
    let keys : caller ≡ other = one_key _ caller other is_one.in_range.1 is_other.in_range.1 is_one.line.options.1.0
    is_other.line.options.1.0 in
    cc (names, keys)
one_spelled (command.Report operator caller asked csv)
    (command.Report name other query switch) items named is_one is_other =
    let names : operator ≡ name = one_text _ operator name is_one.line.options.0 is_other.line.options.0 in
    let keys : caller ≡ other = one_key _ caller other is_one.in_range.1 is_other.in_range.1 is_one.line.options.1.0
    is_other.line.options.1.0 in
    let queries : asked ≡ query = one_query asked query (sym is_one.line.places ∙ is_other.line.places) in
    let switches : csv ≡ switch = one_switch csv switch (sym is_one.line.switch ∙ is_other.line.switch) in
    cc (names, keys, queries, switches)
one_spelled command.Migrate command.Migrate items named is_one is_other = refl
one_spelled command.Check command.Check items named is_one is_other = refl
one_spelled (command.FollowSend from) (command.FollowSend place) items named is_one is_other =
    let same : codes "send" ∷ decimal from ∷ [] ≡ codes "send" ∷ decimal place ∷ [] =
    sym is_one.line.places ∙ is_other.line.places in
    ap command.FollowSend (decimal_injective from place is_one.in_range is_other.in_range (cc (same)))
one_spelled (command.FollowSend from) command.FollowTake items named is_one is_other =
    let same : codes "send" ∷ decimal from ∷ [] ≡ codes "take" ∷ [] = sym is_one.line.places ∙ is_other.line.places in
    absurd (cc (same))
one_spelled command.FollowTake (command.FollowSend from) items named is_one is_other =
    let same : codes "take" ∷ [] ≡ codes "send" ∷ decimal from ∷ [] = sym is_one.line.places ∙ is_other.line.places in
    absurd (cc (same))
one_spelled command.FollowTake command.FollowTake items named is_one is_other = refl
one_spelled (command.Register cusip) (command.Register other) items named is_one is_other =
    ap command.Register (one_bill cusip other items is_one.line is_other.line)
one_spelled (command.Trial seed count) (command.Trial start size) items named is_one is_other =
    let same : decimal seed ∷ decimal count ∷ [] ≡ decimal start ∷ decimal size ∷ [] =
    sym is_one.line.places ∙ is_other.line.places in
    let seeds : seed ≡ start = decimal_injective seed start is_one.in_range.0 is_other.in_range.0 (cc (same)) in
    let counts : count ≡ size = decimal_injective count size (omega (arith, is_one.in_range.1.1))
    (omega (arith, is_other.in_range.1.1)) (cc (same)) in
    cc (seeds, counts)
one_spelled one other items named is_one is_other = absurd (omega (arith, same_tag (name_of one) (name_of other) named))

-- words are those of one command
pub one_command : (words : List Text) (one other : Command)
    → AreWordsOf one words
    → AreWordsOf other words
    → one ≡ other
one_command words one other is_one is_other =
    let same : name_of one ∷ is_one.0 ≡ name_of other ∷ is_other.0 = sym is_one.1 ∙ is_other.1 in
    let named : name_of one ≡ name_of other = cc (same) in
    let rest : is_other.0 ≡ is_one.0 = cc (same) in
    one_spelled one other (items_of is_one.0) named is_one.2
    (subst (λ (texts : List Text). Spells other (items_of texts)) rest is_other.2)
