-- How a trial ends.
use Rattle.std.proofs.Common.{ℕ, inl, inr, refl}
use Rattle.tb_link.specs.Sinks.{SinkState}
use Rattle.tb_commands.specs.Completeness.{IsAnswered}
use Rattle.tb_commands.specs.Endings.{of_print}
use Rattle.tb_commands.specs.TrialRun.{TrialEnds}
use Rattle.tb_commands.specs.declared.command_endings.PrintEnding.{PrintEnding}
use Rattle.tb_commands.specs.declared.command_endings.PrintEnding.TheVariants as ending

-- it is answered
pub trial-completes : (seed count : ℕ) (own : PrintEnding) (out out' : SinkState)
    → TrialEnds seed count own out out'
    → IsAnswered (of_print own)
trial-completes seed count ending.Done out out' ends = inl refl
trial-completes seed count ending.WriteFault out out' ends = inr (inl refl)
trial-completes seed count ending.OutOfMemory out out' ends = inr (inr refl)
