use Rattle.std.proofs.Common.{length, ap, ◌∙◌, arith}
use Rattle.std.proofs.lemmas.List.{length-append}
use Rattle.std.proofs.lemmas.Fmt.{length-decimal-le}
use Rattle.tb_commands.proofs.number_line.number_line.Goals as goal

pub push_text-requires : goal.push_text-requires
push_text-requires c =
    omega (
      arith,
      c.requires,
      ap length c.text-line.ensures,
      ap length (c.bytes.ensures.bytes ∙ c.whole.ensures),
      length-decimal-le 20 c.args.number (omega arith) (omega arith) (omega arith),
    )

pub push-requires : goal.push-requires
push-requires c =
    omega (
      arith,
      c.requires,
      ap length c.push_text.ensures,
      length-append c.text-line.result c.bytes.result.now,
      ap length c.text-line.ensures,
      ap length (c.bytes.ensures.bytes ∙ c.whole.ensures),
      length-decimal-le 20 c.args.number (omega arith) (omega arith) (omega arith),
    )
