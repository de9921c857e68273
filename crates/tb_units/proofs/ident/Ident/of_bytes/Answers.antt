use Rattle.std.proofs.Common.{◌≡◌, true, refl}
use Rattle.std.proofs.Math.Seq.{take-append_seam}
use Rattle.tb_units.specs.Names.{is_name}
use Rattle.tb_units.proofs.NameLemmas.{is_name-length, IsPadded-front}
use Rattle.tb_units.proofs.ident.Ident.of_bytes.Goals as goal

pub put_front-requires : goal.put_front-requires
put_front-requires c =
    let named : is_name c.args.bytes.now ≡ true = cc in
    is_name-length _ named

pub invariant_of-result : goal.invariant_of-result
invariant_of-result c =
    let named : is_name c.args.bytes.now ≡ true = cc in
    rw c.put_front.ensures (IsPadded-front _ _ (is_name-length _ named) refl, rw take-append_seam named)
