use Rattle.std.proofs.Common.{sym}
use Rattle.tb_message.specs.Keys.{key_of}
use Rattle.tb_commands.proofs.ScriptLineLemmas.{no_key}
use Rattle.std.proofs.Common.{refl}
use Rattle.tb_commands.proofs.script_line.read_key.Goals as goal

pub returns-in-Err : goal.returns-in-Err
returns-in-Err c = sym (no_key c.args.text.now (key_of c.args.text.now) refl c.in-Err.ensures.cases.0)
