-- Requests cut from the bytes of a link, one after the other.
use Rattle.std.proofs.Common.{◌≡◌, ℕ, ◌≤◌, List, [], ◌∷◌, ◌++◌, length, drop, sym, ap, ◌∙◌, subst, append_assoc}
use Rattle.std.proofs.lemmas.List.{drop-append-le, take-append-le}
use Rattle.tb_wire.specs.declared.cutting.Cutting.TheVariants.{Whole}
use Rattle.tb_wire.specs.declared.cutting.HttpRequest.{HttpRequest}
use Rattle.tb_wire.proofs.FrontLaws.{front-more, front-used}
use Rattle.tb_session.specs.Session.{Exchange, AreCut, body_of}
use Rattle.tb_session.proofs.LeftLemmas.{not-more}

-- its body stays as more bytes come
body-more : (r : HttpRequest) (bytes more : List ℕ) → r.used ≤ length bytes
    → body_of r (bytes ++ more) ≡ body_of r bytes
body-more r bytes more within = ap (λ (l : List ℕ). drop r.body_start l) (take-append-le r.used bytes more within)

-- requests that were cut stay as more bytes come, which then stand behind the rest
pub cut-more : (exchanges : List Exchange) (bytes rest more : List ℕ) → AreCut exchanges bytes rest
    → AreCut exchanges (bytes ++ more) (rest ++ more)
cut-more [] bytes rest more is = ap (λ (l : List ℕ). l ++ more) is
cut-more (e ∷ exchanges) bytes rest more cut =
    let within : e.request.used ≤ length bytes = (front-used bytes e.request cut.0).used in (
      front-more bytes more (Whole e.request) cut.0 (not-more e.request),
      cut.1 ∙ sym (body-more e.request bytes more within),
      subst (λ (l : List ℕ). AreCut exchanges l (rest ++ more)) (sym (drop-append-le e.request.used bytes more within))
          (cut-more exchanges (drop e.request.used bytes) rest more cut.2),
    )

-- what was cut first, and then
cut-then : (first later : List Exchange) (bytes rest last : List ℕ) → AreCut first bytes rest → AreCut later rest last
    → AreCut (first ++ later) bytes last
cut-then [] later bytes rest last is then = subst (λ (l : List ℕ). AreCut later l last) (sym is) then
cut-then (e ∷ first) later bytes rest last cut then =
    (cut.0, cut.1, cut-then first later (drop e.request.used bytes) rest last cut.2 then)

-- what was cut of the bytes that were there, and then of what was left of them and more
pub cut-on : (first later : List Exchange) (waiting read rest more last : List ℕ) → AreCut first (waiting ++ read) rest
    → AreCut later (rest ++ more) last → AreCut (first ++ later) (waiting ++ (read ++ more)) last
cut-on first later waiting read rest more last cut then =
    subst (λ (l : List ℕ). AreCut (first ++ later) l last) (append_assoc waiting read more)
    (cut-then first later ((waiting ++ read) ++ more) (rest ++ more) last
    (cut-more first (waiting ++ read) rest more cut) then)
