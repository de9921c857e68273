-- Requests cut from a stream, one after the other.
use Rattle.std.proofs.Common.{◌≡◌, ◌≢◌, ℕ, List, [], ◌∷◌, ◌++◌, length, drop, refl, ap, sym, subst}
use Rattle.std.proofs.lemmas.List.{drop-append-le}
use Rattle.tb_wire.specs.declared.cutting.Cutting.TheVariants.{Whole, More}
use Rattle.tb_wire.specs.declared.cutting.HttpRequest.{HttpRequest}
use Rattle.tb_wire.specs.Cuts.{Cuts, HoldsNone}
use Rattle.tb_wire.specs.Front.{seen, IsFront}
use Rattle.tb_wire.proofs.FrontLaws.{one-front, front-more, front-used}

-- a whole request is not less than one
not_more : (request : HttpRequest) → Whole request ≢ More
not_more request is = cc

-- the requests stay as more bytes come, which then stand behind the rest
pub cuts-more : (requests : List HttpRequest) (bytes more rest : List ℕ) → Cuts requests bytes rest
    → Cuts requests (bytes ++ more) (rest ++ more)
cuts-more [] bytes more rest is = ap (λ (text : List ℕ). text ++ more) is
cuts-more (request ∷ requests) bytes more rest cuts =
    let stays = front-more bytes more (Whole request) cuts.0 (not_more request) in
    let within = (front-used bytes request cuts.0).used in
    let behind : drop request.used (bytes ++ more) ≡ drop request.used bytes ++ more =
    drop-append-le request.used bytes more within in (
      stays,
      subst (λ (text : List ℕ). Cuts requests text (rest ++ more)) (sym behind)
          (cuts-more requests (drop request.used bytes) more rest cuts.1),
    )

-- one whole request stands at the front
same_request : (bytes : List ℕ) (one other : HttpRequest) → IsFront bytes (Whole one) → IsFront bytes (Whole other)
    → one ≡ other
same_request bytes one other this that =
    let same : Whole one ≡ Whole other = one-front (seen bytes) (length bytes) (Whole one) (Whole other) this that in cc

-- lists with the same first request and the same others are the same
same_list : (one other : HttpRequest) (requests others : List HttpRequest) → one ≡ other → requests ≡ others
    → ◌≡◌ {A = List HttpRequest} (one ∷ requests) (other ∷ others)
same_list one other requests others a b = cc

-- bytes are cut into requests in one way, as far as whole requests stand in them
pub one-cutting : (one other : List HttpRequest) (bytes rest left : List ℕ) → Cuts one bytes rest → HoldsNone rest
    → Cuts other bytes left → HoldsNone left → one ≡ other
one-cutting [] [] bytes rest left cuts none cuts' none' = refl
one-cutting [] (request ∷ requests) bytes rest left cuts none cuts' none' =
    absurd (none request (subst (λ (text : List ℕ). IsFront text (Whole request)) cuts cuts'.0))
one-cutting (request ∷ requests) [] bytes rest left cuts none cuts' none' =
    absurd (none' request (subst (λ (text : List ℕ). IsFront text (Whole request)) cuts' cuts.0))
one-cutting (request ∷ requests) (other ∷ others) bytes rest left cuts none cuts' none' =
    let same = same_request bytes request other cuts.0 cuts'.0 in
    let behind = subst (λ (r : HttpRequest). Cuts others (drop r.used bytes) left) (sym same) cuts'.1 in
    same_list request other requests others same
    (one-cutting requests others (drop request.used bytes) rest left cuts.1 none behind none')
