-- No bytes are a part of every file.
use Rattle.tb_journal.proofs.Showing.{nothing-shown}
use Rattle.tb_journal.proofs.window.Window.new.Goals as goal

pub returns-clause-shows : goal.returns-clause-shows
returns-clause-shows c disk = nothing-shown disk.past 0
