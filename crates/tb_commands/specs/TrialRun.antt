-- What the command `trial` does to its output.
use Rattle.std.specs.Prelude.{◌≡◌, ℕ, List, ◌++◌, codes}
use Rattle.std.specs.Fmt.{decimal}
use Rattle.tb_link.specs.Counts.{Rose}
use Rattle.tb_link.specs.Sinks.{SinkState, after_taken, TakesPrefix}
use Rattle.tb_history.specs.declared.readings.Figures.{Figures}
use Rattle.tb_history.specs.Readings.{HasFigures}
use Rattle.tb_trial.specs.Trials.{trial_bidding}
use Rattle.tb_text_book.specs.BookRun.{cut_text, labelled}
use Rattle.tb_commands.specs.declared.command_endings.PrintEnding.{PrintEnding}
use Rattle.tb_commands.specs.declared.command_endings.PrintEnding.TheVariants as ending

-- the lines `bids`, `high`, `allotted`, `price` and `awarded`, the sum of all awards: all bids are competitive
abbrev pub trial_text : ℕ → Figures → List ℕ
trial_text count figures =
    labelled (codes "bids") (decimal count)
    ++ cut_text figures.cut.stop.steps figures.cut.percent.hundredths figures.cut.price.millionths
    ++ labelled (codes "awarded") (decimal figures.competitive.value)

-- the text is that of the auction of so many bids that follow from the seed
pub record IsTrialText (seed count : ℕ) (text : List ℕ) : Type 0 where
  pub figures : Figures
  pub are : HasFigures (trial_bidding seed count) figures
  pub is : text ≡ trial_text count figures

-- the output has taken the text
pub record TrialPrinted (seed count : ℕ) (out out' : SinkState) : Type 0 where
  pub text : List ℕ
  pub trial : IsTrialText seed count text
  pub taken : out'.taken ≡ after_taken out.taken text
  pub no_fault : out'.faults ≡ out.faults

-- the output has taken a prefix of the text
pub record TrialPrintedPrefix (seed count : ℕ) (out out' : SinkState) : Type 0 where
  pub text : List ℕ
  pub trial : IsTrialText seed count text
  pub taken : TakesPrefix out out' text

-- how the command ends, where the output goes from the first state to the second
abbrev pub TrialEnds : ℕ → ℕ → PrintEnding → SinkState → SinkState → Type 0
TrialEnds seed count ending.Done out out' = TrialPrinted seed count out out'
TrialEnds seed count ending.WriteFault out out' =
    Rose out.faults out'.faults × TrialPrintedPrefix seed count out out'
TrialEnds seed count ending.OutOfMemory out out' = out' ≡ out
