-- The kinds of queries: name in a request, who may ask, and members in order.
use Rattle.std.specs.Prelude.{ℕ, List, [], ◌∷◌, Option, find, codes}
use Rattle.std.specs.Str.{bytes_eq}
use Rattle.tb_terms.specs.declared.refusal.Field.{Field}
use Rattle.tb_terms.specs.declared.refusal.Field.TheVariants.{Auction, Cusip}
use Rattle.tb_message.specs.declared.query.QueryKind.{QueryKind}
use Rattle.tb_message.specs.declared.query.QueryKind.TheVariants as kind
use Rattle.tb_message.specs.declared.query.Query.{Query}
use Rattle.tb_message.specs.declared.query.Query.TheVariants as query
use Rattle.tb_message.specs.Forms.{Form, name, cusip, Part, text}
use Rattle.tb_message.specs.Kinds.{Party, operator, submitter, anyone}

-- the row of a kind of query: its name in a request, who may ask it, and its members in order, each of a form
abbrev pub query_row_of : QueryKind → List ℕ × Party × List (Field × Form)
query_row_of kind.Terms = (codes "terms", anyone, (Auction, name) ∷ [])
query_row_of kind.Results = (codes "results", anyone, (Auction, name) ∷ [])
query_row_of kind.Awards = (codes "awards", submitter, (Auction, name) ∷ [])
query_row_of kind.Bids = (codes "bids", submitter, (Auction, name) ∷ [])
query_row_of kind.Holdings = (codes "holdings", submitter, [])
query_row_of kind.Redemption = (codes "redemption", operator, (Cusip, cusip) ∷ [])
query_row_of kind.Funds = (codes "funds", submitter, [])

abbrev pub query_text : QueryKind → List ℕ
query_text kind = (query_row_of kind).0

abbrev pub query_party_of : QueryKind → Party
query_party_of kind = (query_row_of kind).1

abbrev pub query_members_of : QueryKind → List (Field × Form)
query_members_of kind = (query_row_of kind).2

abbrev pub query_kinds : List QueryKind
query_kinds = kind.Terms ∷ kind.Results ∷ kind.Awards ∷ kind.Bids ∷ kind.Holdings ∷ kind.Redemption
    ∷ kind.Funds ∷ []

-- the kind of a name; no other text is one
unfoldable pub query_of_text : List ℕ → Option QueryKind
query_of_text t = find (λ kind. bytes_eq t (query_text kind)) query_kinds

abbrev pub query_kind_of : Query → QueryKind
query_kind_of (query.Terms auction) = kind.Terms
query_kind_of (query.Results auction) = kind.Results
query_kind_of (query.Awards auction) = kind.Awards
query_kind_of (query.Bids auction) = kind.Bids
query_kind_of query.Holdings = kind.Holdings
query_kind_of (query.Redemption bill) = kind.Redemption
query_kind_of query.Funds = kind.Funds

-- the values of the members in order
abbrev pub query_parts_of : Query → List Part
query_parts_of (query.Terms auction) = text auction ∷ []
query_parts_of (query.Results auction) = text auction ∷ []
query_parts_of (query.Awards auction) = text auction ∷ []
query_parts_of (query.Bids auction) = text auction ∷ []
query_parts_of query.Holdings = []
query_parts_of (query.Redemption bill) = text bill.bytes ∷ []
query_parts_of query.Funds = []
