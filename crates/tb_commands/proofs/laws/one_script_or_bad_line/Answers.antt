use Rattle.tb_commands.proofs.ScriptLawLemmas.{HasScript-stays, leaves-one, script-one}
use Rattle.tb_commands.proofs.SomeScriptLemmas.{script-or-left}
use Rattle.tb_commands.proofs.laws.one_script_or_bad_line.Goals as goal

pub returns-clause-script : goal.returns-clause-script
returns-clause-script c texts one other is is' = script-one texts one other is is'

pub returns-clause-bad_line : goal.returns-clause-bad_line
returns-clause-bad_line c texts one other is is' = leaves-one texts one other is is'

pub returns-clause-never_both : goal.returns-clause-never_both
returns-clause-never_both c texts number has leaves = HasScript-stays texts number has leaves

pub returns-clause-never_neither : goal.returns-clause-never_neither
returns-clause-never_neither c = script-or-left
