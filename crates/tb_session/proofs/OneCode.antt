-- A call has one code, and no other call has it.
use Rattle.std.proofs.Common.{◌≡◌, ℕ, List, [], ◌∷◌, ◌++◌, length, Option, Some, None, refl, sym, ap, ◌∙◌, arith}
use Rattle.std.specs.Prelude.{All, pos, negsuc, find}
use Rattle.std.specs.Str.{bytes_eq}
use Rattle.std.proofs.lemmas.List.Elements.{All-head, All-tail}
use Rattle.tb_units.specs.declared.moment.Moment.{Moment}
use Rattle.tb_units.specs.Same.{same_moment}
use Rattle.tb_terms.specs.declared.refusal.Field.{Field}
use Rattle.tb_terms.specs.declared.refusal.Field.TheVariants as field
use Rattle.tb_terms.specs.Refusals.{member_of}
use Rattle.tb_terms.specs.Same.{same_cusip}
use Rattle.tb_message.specs.declared.key.Key.{Key}
use Rattle.tb_message.specs.declared.key.Key.TheVariants as key
use Rattle.tb_message.specs.declared.message.Entry.{Entry}
use Rattle.tb_message.specs.declared.query.Query.{Query}
use Rattle.tb_message.specs.declared.query.Query.TheVariants as query
use Rattle.tb_message.specs.declared.query.QueryKind.{QueryKind}
use Rattle.tb_message.specs.declared.query.QueryKind.TheVariants as asked
use Rattle.tb_message.specs.Forms.{Part, text, whole, signed}
use Rattle.tb_message.specs.Kinds.{tag_of}
use Rattle.tb_message.specs.Messages.{kind_of, parts_of}
use Rattle.tb_message.specs.Queries.{query_kind_of, query_parts_of, query_text, query_of_text}
use Rattle.tb_message.specs.Spelling.{spelling, IsInRange}
use Rattle.tb_message.proofs.Same.{messages}
use Rattle.tb_message.proofs.RecordLaws.{tag_of-one, spelling-one}
use Rattle.tb_session.specs.declared.called.Ask.{Ask}
use Rattle.tb_session.specs.declared.called.Ask.TheVariants as ask
use Rattle.tb_session.specs.declared.called.Called.{Called}
use Rattle.tb_session.specs.declared.called.Outcome.{Outcome}
use Rattle.tb_session.specs.declared.called.Outcome.TheVariants as outcome
use Rattle.tb_session.specs.Codes.{spelled_all, sized, key_code, part_code, parts_code, ask_code, outcome_code, entry_of, HasRange, moment_code, code_of}

-- the first number of a list
abbrev first_of : List ℕ → ℕ
first_of [] = 0
first_of (x ∷ xs) = x

-- two lists of one length before others
split-same : (a b r s : List ℕ) → length a ≡ length b → a ++ r ≡ b ++ s → (a ≡ b) × (r ≡ s)
split-same [] [] r s long is = (refl, is)
split-same [] (y ∷ b) r s long is = absurd (let bad : ⊥ = omega arith in bad)
split-same (x ∷ a) [] r s long is = absurd (let bad : ⊥ = omega arith in bad)
split-same (x ∷ a) (y ∷ b) r s long is =
    let tails : a ++ r ≡ b ++ s = cc in
    let heads : x ≡ y = cc in
    let both = split-same a b r s (omega arith) tails in
    let same = both.0 in
    (cc, both.1)

-- two texts behind their lengths
pub sized-same : (a b r s : List ℕ) → sized a ++ r ≡ sized b ++ s → (a ≡ b) × (r ≡ s)
sized-same a b r s is =
    let long : length a ≡ length b = cc in
    let rest : a ++ r ≡ b ++ s = cc in
    split-same a b r s long rest

-- the numbers of a part, where more stand behind
part-same : (p q : Part) (r s : List ℕ) → part_code p ++ r ≡ part_code q ++ s → (p ≡ q) × (r ≡ s)
part-same (text a) (text b) r s is =
    let behind : sized a ++ r ≡ sized b ++ s = cc in
    let both = sized-same a b r s behind in
    (ap text both.0, both.1)
part-same (whole a) (whole b) r s is = (let same : a ≡ b = cc in ap whole same, cc)
part-same (signed (pos a)) (signed (pos b)) r s is = (let same : a ≡ b = cc in ap (λ (n : ℕ). signed (pos n)) same, cc)
part-same (signed (negsuc a)) (signed (negsuc b)) r s is =
    (let same : a ≡ b = cc in ap (λ (n : ℕ). signed (negsuc n)) same, cc)
part-same (text a) (whole b) r s is = absurd (let bad : ⊥ = cc in bad)
part-same (text a) (signed (pos b)) r s is = absurd (let bad : ⊥ = cc in bad)
part-same (text a) (signed (negsuc b)) r s is = absurd (let bad : ⊥ = cc in bad)
part-same (whole a) (text b) r s is = absurd (let bad : ⊥ = cc in bad)
part-same (whole a) (signed (pos b)) r s is = absurd (let bad : ⊥ = cc in bad)
part-same (whole a) (signed (negsuc b)) r s is = absurd (let bad : ⊥ = cc in bad)
part-same (signed (pos a)) (text b) r s is = absurd (let bad : ⊥ = cc in bad)
part-same (signed (pos a)) (whole b) r s is = absurd (let bad : ⊥ = cc in bad)
part-same (signed (pos a)) (signed (negsuc b)) r s is = absurd (let bad : ⊥ = cc in bad)
part-same (signed (negsuc a)) (text b) r s is = absurd (let bad : ⊥ = cc in bad)
part-same (signed (negsuc a)) (whole b) r s is = absurd (let bad : ⊥ = cc in bad)
part-same (signed (negsuc a)) (signed (pos b)) r s is = absurd (let bad : ⊥ = cc in bad)

-- a part has numbers
part-some : (p : Part) (r : List ℕ) → part_code p ++ r ≡ [] → ⊥
part-some (text a) r is = cc
part-some (whole a) r is = cc
part-some (signed (pos a)) r is = cc
part-some (signed (negsuc a)) r is = cc

-- parts, one behind the other
parts-same : (ps qs : List Part) → parts_code ps ≡ parts_code qs → ps ≡ qs
parts-same [] [] is = refl
parts-same [] (q ∷ qs) is = absurd (part-some q (parts_code qs) (sym is))
parts-same (p ∷ ps) [] is = absurd (part-some p (parts_code ps) is)
parts-same (p ∷ ps) (q ∷ qs) is =
    let both = part-same p q (parts_code ps) (parts_code qs) is in
    let heads = both.0 in
    let tails = parts-same ps qs both.1 in
    cc

-- a word is of one kind of query
word-kind : (k : QueryKind) → query_of_text (query_text k) ≡ Some k
unfolding query_of_text
word-kind asked.Terms = refl
word-kind asked.Results = refl
word-kind asked.Awards = refl
word-kind asked.Bids = refl
word-kind asked.Holdings = refl
word-kind asked.Redemption = refl
word-kind asked.Funds = refl

-- two kinds of query with one word are one
query-kind-same : (k l : QueryKind) → query_text k ≡ query_text l → k ≡ l
query-kind-same k l is =
    let found : Some k ≡ Some l = sym (word-kind k) ∙ (ap query_of_text is ∙ word-kind l) in
    cc

-- queries of one kind with the same values of their members are one
query-same : (a b : Query) → query_kind_of a ≡ query_kind_of b → query_parts_of a ≡ query_parts_of b → a ≡ b
query-same (query.Terms a) (query.Terms b) k p = cc
query-same (query.Results a) (query.Results b) k p = cc
query-same (query.Awards a) (query.Awards b) k p = cc
query-same (query.Bids a) (query.Bids b) k p = cc
query-same query.Holdings query.Holdings k p = refl
query-same query.Funds query.Funds k p = refl
query-same (query.Redemption a) (query.Redemption b) k p = let same = same_cusip a b cc in ap query.Redemption same
query-same one other k p = cc

-- all members that a message may have
abbrev members : List Field
members =
    field.Body ∷ field.Number ∷ field.Kind ∷ field.Submitter ∷ field.Key ∷ field.Bidder ∷ field.Day ∷ field.Auction
    ∷ field.Cusip ∷ field.Offering ∷ field.Minimum ∷ field.Ceiling ∷ field.Floor ∷ field.Threshold ∷ field.Date
    ∷ field.NcClose ∷ field.CClose ∷ field.Issue ∷ field.Maturity ∷ field.Rate ∷ field.Amount
    ∷ field.Bid ∷ field.Position ∷ field.To ∷ field.Holder ∷ field.Pledge ∷ field.Participant ∷ field.Cents
    ∷ field.Seller ∷ field.Offer ∷ []

-- the member of a name
abbrev member_named : List ℕ → Option Field
member_named name = find (λ member. bytes_eq name (member_of member)) members

-- a member is found by its name
named-member : (m : Field) → member_named (member_of m) ≡ Some m
named-member field.Body = refl
named-member field.Number = refl
named-member field.Kind = refl
named-member field.Submitter = refl
named-member field.Key = refl
named-member field.Bidder = refl
named-member field.Day = refl
named-member field.Auction = refl
named-member field.Cusip = refl
named-member field.Offering = refl
named-member field.Minimum = refl
named-member field.Ceiling = refl
named-member field.Floor = refl
named-member field.Threshold = refl
named-member field.Date = refl
named-member field.NcClose = refl
named-member field.CClose = refl
named-member field.Issue = refl
named-member field.Maturity = refl
named-member field.Rate = refl
named-member field.Amount = refl
named-member field.Bid = refl
named-member field.Position = refl
named-member field.To = refl
named-member field.Holder = refl
named-member field.Pledge = refl
named-member field.Participant = refl
named-member field.Cents = refl
named-member field.Seller = refl
named-member field.Offer = refl

-- two members with one name are one
member-same : (m n : Field) → member_of m ≡ member_of n → m ≡ n
member-same m n is =
    let found : Some m ≡ Some n = sym (named-member m) ∙ (ap member_named is ∙ named-member n) in
    cc

-- what was asked has one code
ask-same : (a b : Ask) → ask_code a ≡ ask_code b → a ≡ b
ask-same (ask.Message m x) (ask.Message n y) is =
    let numbers : m ≡ n = cc in
    let tags : tag_of (kind_of x) ≡ tag_of (kind_of y) = cc in
    let parts : parts_code (parts_of x) ≡ parts_code (parts_of y) = cc in
    let same = messages x y (tag_of-one (kind_of x) (kind_of y) tags) (parts-same (parts_of x) (parts_of y) parts) in
    cc
ask-same (ask.Query x) (ask.Query y) is =
    let behind : sized (query_text (query_kind_of x)) ++ parts_code (query_parts_of x)
    ≡ sized (query_text (query_kind_of y)) ++ parts_code (query_parts_of y) = cc in
    let both = sized-same (query_text (query_kind_of x)) (query_text (query_kind_of y)) (parts_code (query_parts_of x))
    (parts_code (query_parts_of y)) behind in
    let same = query-same x y (query-kind-same (query_kind_of x) (query_kind_of y) both.0)
    (parts-same (query_parts_of x) (query_parts_of y) both.1) in
    cc
ask-same ask.BadJson ask.BadJson is = refl
ask-same (ask.BadShape m) (ask.BadShape n) is =
    let names : member_of m ≡ member_of n = cc in
    let same = member-same m n names in
    cc
ask-same one other is = absurd (let bad : ⊥ = omega (arith, ap first_of is) in bad)

-- and so has a key
key-same : (k l : Key) (r s : List ℕ) → key_code k ++ r ≡ key_code l ++ s → (k ≡ l) × (r ≡ s)
key-same (key.Submitter a) (key.Submitter b) r s is =
    let behind : sized a ++ r ≡ sized b ++ s = cc in
    let both = sized-same a b r s behind in
    (ap key.Submitter both.0, both.1)
key-same (key.Operator a) (key.Operator b) r s is =
    let behind : sized a ++ r ≡ sized b ++ s = cc in
    let both = sized-same a b r s behind in
    (ap key.Operator both.0, both.1)
key-same (key.Submitter a) (key.Operator b) r s is = absurd (let bad : ⊥ = cc in bad)
key-same (key.Operator a) (key.Submitter b) r s is = absurd (let bad : ⊥ = cc in bad)

-- how a call came out has one code with its entry
outcome-same : (o p : Outcome) → HasRange o → HasRange p → outcome_code o ≡ outcome_code p
    → entry_of o ≡ entry_of p → o ≡ p
outcome-same (outcome.Added e) (outcome.Added f) a b k is = ap outcome.Added (spelling-one e f a b is)
outcome-same (outcome.Stood e) (outcome.Stood f) a b k is = ap outcome.Stood (spelling-one e f a b is)
outcome-same (outcome.Doubted e) (outcome.Doubted f) a b k is = ap outcome.Doubted (spelling-one e f a b is)
outcome-same outcome.Told outcome.Told a b k is = refl
outcome-same outcome.Lacked outcome.Lacked a b k is = refl
outcome-same one other a b k is = absurd (let bad : ⊥ = omega (arith, k) in bad)

-- two moments with one code are one
moment-same : (a b : Option Moment) → moment_code a ≡ moment_code b → a ≡ b
moment-same None None is = refl
moment-same None (Some m) is = absurd (let bad : ⊥ = omega (arith, is) in bad)
moment-same (Some m) None is = absurd (let bad : ⊥ = omega (arith, is) in bad)
moment-same (Some m) (Some n) is = ap Some (same_moment m n (omega (arith, is)))

-- a call has one code, and no other call has it
pub code-one : (c d : Called) → HasRange c.outcome → HasRange d.outcome → code_of c ≡ code_of d → c ≡ d
code-one c d a b is =
    let outcomes : outcome_code c.outcome ≡ outcome_code d.outcome = cc in
    let moments : moment_code c.moment ≡ moment_code d.moment = cc in
    let long : length (entry_of c.outcome) ≡ length (entry_of d.outcome) = cc in
    let rest : entry_of c.outcome ++ (key_code c.key ++ ask_code c.ask)
    ≡ entry_of d.outcome ++ (key_code d.key ++ ask_code d.ask) = cc in
    let both = split-same (entry_of c.outcome) (entry_of d.outcome) (key_code c.key ++ ask_code c.ask)
    (key_code d.key ++ ask_code d.ask) long rest in
    let keys = key-same c.key d.key (ask_code c.ask) (ask_code d.ask) both.1 in
    let asks = ask-same c.ask d.ask keys.1 in
    let moment = moment-same c.moment d.moment moments in
    let came = outcome-same c.outcome d.outcome a b outcomes both.0 in
    λ i. record { key = keys.0 i; ask = asks i; moment = moment i; outcome = came i }

-- a history of entries in range has one code
pub spelled-one : (ones others : List Entry) → All IsInRange ones → All IsInRange others
    → spelled_all ones ≡ spelled_all others → ones ≡ others
spelled-one [] [] a b is = refl
spelled-one [] (y ∷ ys) a b is = absurd (let bad : ⊥ = cc in bad)
spelled-one (x ∷ xs) [] a b is = absurd (let bad : ⊥ = cc in bad)
spelled-one (x ∷ xs) (y ∷ ys) a b is =
    let heads : spelling x ≡ spelling y = cc in
    let tails : spelled_all xs ≡ spelled_all ys = cc in
    let one = spelling-one x y (All-head IsInRange x xs a) (All-head IsInRange y ys b) heads in
    let rest = spelled-one xs ys (All-tail IsInRange x xs a) (All-tail IsInRange y ys b) tails in
    cc
