-- One text asks one request.
use Rattle.std.proofs.Common.{◌≡◌, ℕ, ◌∙◌, List, refl, sym, ap}
use Rattle.std.specs.Prelude.{Ok}
use Rattle.tb_terms.specs.Same.{same_cusip}
use Rattle.tb_message.specs.declared.query.Query.{Query}
use Rattle.tb_message.specs.declared.query.Query.TheVariants as query
use Rattle.tb_message.specs.declared.query.Request.{Request}
use Rattle.tb_message.specs.declared.query.Request.TheVariants as request
use Rattle.tb_message.specs.Queries.{query_kind_of, query_parts_of}
use Rattle.tb_message.specs.Messages.{kind_of, parts_of}
use Rattle.tb_message.specs.Requests.{AnswerOf, asked_by, request_in}
use Rattle.tb_message.proofs.Steps.{some_is}
use Rattle.tb_message.proofs.Same.{messages}

-- queries of one kind with the same values of their members are one
queries : (one other : Query)
    → query_kind_of one ≡ query_kind_of other
    → query_parts_of one ≡ query_parts_of other
    → one ≡ other
queries (query.Terms a) (query.Terms b) k p = cc
queries (query.Results a) (query.Results b) k p = cc
queries (query.Awards a) (query.Awards b) k p = cc
queries (query.Bids a) (query.Bids b) k p = cc
queries query.Holdings query.Holdings k p = refl
queries query.Funds query.Funds k p = refl
queries (query.Redemption a) (query.Redemption b) k p = let i = same_cusip a b cc in cc
queries one other k p = cc

-- requests that ask the same are one
asked_by-one : (one other : Request) → asked_by one ≡ asked_by other → one ≡ other
asked_by-one (request.Message n m) (request.Message k l) e =
    let numbers : n ≡ k = cc in
    let kinds : kind_of m ≡ kind_of l = cc in
    let parts : parts_of m ≡ parts_of l = cc in
    let same = messages m l kinds parts in
    cc
asked_by-one (request.Query q) (request.Query r) e =
    let kinds : query_kind_of q ≡ query_kind_of r = cc in
    let parts : query_parts_of q ≡ query_parts_of r = cc in
    ap request.Query (queries q r kinds parts)
asked_by-one (request.Message n m) (request.Query q) e = absurd cc
asked_by-one (request.Query q) (request.Message n m) e = absurd cc

-- one text asks one request
pub one_asked : (bytes : List ℕ) (one other : Request)
    → AnswerOf bytes (Ok one)
    → AnswerOf bytes (Ok other)
    → one ≡ other
one_asked bytes one other a b =
    let said : a.0 ≡ b.0 = some_is a.0 b.0 (sym a.1.1 ∙ b.1.1) in
    let asked : Ok (asked_by one) ≡ Ok (asked_by other) = sym a.2 ∙ ap request_in said ∙ b.2 in
    asked_by-one one other cc
