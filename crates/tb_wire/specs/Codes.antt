-- The codes of replies, with their phrases (RFC 9110, section 15; which refusal has which code is our choice).
use Rattle.std.specs.Prelude.{ℕ, List, [], ◌∷◌, Bool, ◌==◌, if◌then◌else◌, Option, Some, None, is_some, unwrap_or, codes}
use Rattle.tb_terms.specs.declared.refusal.Refusal.{Refusal}
use Rattle.tb_terms.specs.declared.refusal.Refusal.TheVariants as refusal

abbrev pub phrases : List (ℕ × List ℕ)
phrases =
    (200, codes "OK")
    ∷ (400, codes "Bad Request")
    ∷ (401, codes "Unauthorized")
    ∷ (403, codes "Forbidden")
    ∷ (404, codes "Not Found")
    ∷ (405, codes "Method Not Allowed")
    ∷ (409, codes "Conflict")
    ∷ (411, codes "Length Required")
    ∷ (413, codes "Payload Too Large")
    ∷ (422, codes "Unprocessable Entity")
    ∷ (431, codes "Request Header Fields Too Large")
    ∷ (501, codes "Not Implemented")
    ∷ (503, codes "Service Unavailable")
    ∷ (507, codes "Insufficient Storage")
    ∷ []

-- the phrase of a code in a table
abbrev pub phrase_in : List (ℕ × List ℕ) → ℕ → Option (List ℕ)
phrase_in [] code = None
phrase_in (row ∷ rows) code = if row.0 == code then Some row.1 else phrase_in rows code

-- a code by which a reply may be told
abbrev pub is_told : ℕ → Bool
is_told code = is_some (phrase_in phrases code)

abbrev pub phrase_of : ℕ → List ℕ
phrase_of code = unwrap_or (phrase_in phrases code) []

-- the code that tells a refusal
abbrev pub code_of : Refusal → ℕ
code_of refusal.UnknownKey = 401
code_of refusal.NotPermitted = 403
code_of refusal.NumberReused = 409
code_of refusal.BadJson = 400
code_of (refusal.BadShape at_fault) = 400
code_of refusal.NoRoute = 404
code_of refusal.BadMethod = 405
code_of refusal.UnknownAuction = 404
code_of refusal.UnknownBidder = 404
code_of refusal.UnknownBid = 404
code_of refusal.NotPublished = 404
code_of refusal.UnknownSecurity = 404
code_of refusal.UnknownParticipant = 404
code_of refusal.UnknownPledge = 404
code_of refusal.NotRedeemed = 404
code_of refusal.UnknownOffer = 404
code_of other = 422
