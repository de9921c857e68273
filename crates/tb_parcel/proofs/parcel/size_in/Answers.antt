-- The four bytes are the spelling of the length.
use Rattle.std.proofs.Common.{◌<◌, arith, sym, ◌∙◌, ℕ, List, get_or, subst}
use Rattle.std.proofs.lemmas.Nat.{be_bytes_4}
use Rattle.tb_units.proofs.ByteLemmas.{take-bytes}
use Rattle.tb_parcel.proofs.parcel.size_in.Goals as goal

pub returns-clause-spelled : goal.returns-clause-spelled
returns-clause-spelled c =
    let head = c.split_at.result.0.now in
    let bytes : (i : ℕ) → get_or head i 0 < 256 = λ i. subst (λ (l : List ℕ). get_or l i 0 < 256)
    (sym c.split_at.ensures.front) (take-bytes 4 c.args.bytes.now (λ j. omega (arith, c.type_inv.bytes j)) i) in
    sym c.split_at.ensures.front
    ∙ sym (be_bytes_4 head c.from_be_bytes.result c.split_at.ensures.front_len bytes c.from_be_bytes.ensures)
