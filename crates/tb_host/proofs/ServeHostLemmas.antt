-- How `serve` ends.
use Rattle.std.proofs.Common.{◌≡◌, ◌⊎◌, ℕ, List, inl, inr, refl}
use Rattle.tb_link.specs.Sources.{SourceState}
use Rattle.tb_link.specs.Sinks.{SinkState}
use Rattle.tb_gates.specs.Clocks.{ClockState}
use Rattle.tb_gates.specs.Gates.{GateState}
use Rattle.tb_words.specs.declared.command.Command.TheVariants as command
use Rattle.tb_commands.specs.Completeness.{Completes, IsAnswered}
use Rattle.tb_commands.specs.Endings.{ending_of, of_serve}
use Rattle.tb_host.specs.ServeRun.{Handed, ServeEnds}
use Rattle.tb_commands.specs.declared.command_endings.ServeEnding.{ServeEnding}
use Rattle.tb_commands.specs.declared.command_endings.ServeEnding.TheVariants as serve_ending
use Rattle.tb_commands.specs.declared.ending.Ending.{Ending}
use Rattle.tb_commands.specs.declared.ending.Ending.TheVariants as ending
use Rattle.tb_commands.proofs.ExactLemmas.{Opens-desk, Opens-none}

-- what links that were served may end as
abbrev ServedAs : Ending → Type 0
ServedAs ended = (ended ≡ ending.GateFault) ⊎ IsAnswered ended

-- over a disk that stands for a legal history links are served, and a file that is refused is told so
pub serve-completes : {G K : Type 0} (gate : G → GateState K) (source : K → SourceState) (sink : K → SinkState)
    (operator : List ℕ) (port workers links : ℕ) (clock : ClockState) (own : ServeEnding) (input : SourceState)
    (old new : Handed G)
    → ServeEnds gate source sink operator clock own old new
    → Completes (command.Serve operator port workers links) input old.disk (of_serve own)
serve-completes gate source sink operator port workers links clock serve_ending.Done input old new ends =
    Opens-desk old.disk ends.0 ending.Done (ServedAs ending.Done) ends.3.keeps.opened (inr (inl refl))
serve-completes gate source sink operator port workers links clock serve_ending.WriteFault input old new ends =
    Opens-desk old.disk ends.0 ending.WriteFault (ServedAs ending.WriteFault) ends.3.keeps.opened
    (inr (inr (inl refl)))
serve-completes gate source sink operator port workers links clock serve_ending.GateFault input old new ends =
    Opens-desk old.disk ends.0 ending.GateFault (ServedAs ending.GateFault) ends.3.keeps.opened (inl refl)
serve-completes gate source sink operator port workers links clock (serve_ending.Unserved why) input old new unserved =
    Opens-none why old.disk new.disk (ServedAs (ending_of why)) unserved.unopened
