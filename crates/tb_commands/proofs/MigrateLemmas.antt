-- How a migration ends.
use Rattle.std.proofs.Common.{◌≡◌, ◌⊎◌, List, Option, Some, None, inl, inr, refl}
use Rattle.std.specs.Prelude.{Ok, Err, IfSome}
use Rattle.tb_disk.specs.Past.{Past, contents_of}
use Rattle.tb_link.specs.Sources.{SourceState}
use Rattle.tb_message.specs.declared.message.Entry.{Entry}
use Rattle.tb_message.specs.declared.version.Version.TheVariants.{First}
use Rattle.tb_desk.specs.Migration.{StoodFor}
use Rattle.tb_desk.specs.Replay.{IsExactIn, IsTrueIn, SpeaksOfFile}
use Rattle.tb_desk.specs.declared.fault.MigrateFault.TheVariants.{From, SpareFault}
use Rattle.tb_desk.specs.declared.fault.OpenFault.{OpenFault}
use Rattle.tb_desk.specs.declared.fault.OpenFault.TheVariants as fault
use Rattle.tb_desk.proofs.ExactLemmas.{IsExact-true}
use Rattle.tb_words.specs.declared.command.Command.TheVariants as command
use Rattle.tb_commands.specs.Completeness.{Completes, IsAnswered, LackedMemory}
use Rattle.tb_commands.specs.Endings.{IsUnopened, ending_of, of_migrate}
use Rattle.tb_commands.specs.MigrateRun.{MigrateEnds, Moved}
use Rattle.tb_commands.specs.declared.command_endings.MigrateEnding.{MigrateEnding}
use Rattle.tb_commands.specs.declared.command_endings.MigrateEnding.TheVariants as ending
use Rattle.tb_commands.specs.declared.ending.Ending.TheVariants as ended
use Rattle.tb_commands.proofs.ExactLemmas.{OpensIn-found, OpensIn-refused}

-- that a legal history is what the first disk stands for is exact
stood-exact : (history : List Entry) (first : Option Past)
    → IfSome first (λ past. StoodFor history (contents_of past))
    → IfSome first (λ past. IsExactIn First (contents_of past) (Ok history))
stood-exact history None stood = tt
stood-exact history (Some past) stood =
    IsExact-true First (contents_of past) (Ok history) (stood.stands, stood.legal)

-- a migration is answered
pub migrate-completes : (own : MigrateEnding) (input : SourceState) (old new : Moved)
    → MigrateEnds own old new
    → Completes command.Migrate input old.disk (of_migrate own)
migrate-completes ending.Done input old new ends =
    let done = ends.tells.1 in
    OpensIn-found First old.disk done.history ended.Done (IsAnswered ended.Done)
    (stood-exact done.history old.disk.past done.stood) (inl refl)
migrate-completes ending.WriteFault input old new ends =
    let done = ends.tells.1 in
    OpensIn-found First old.disk done.history ended.WriteFault (IsAnswered ended.WriteFault)
    (stood-exact done.history old.disk.past done.stood) (inr (inl refl))
migrate-completes (ending.Unmigrated (From why)) input old new ends =
    OpensIn-refused First why old.disk (IsAnswered (of_migrate (ending.Unmigrated (From why)))) ends.tells.1
migrate-completes (ending.Unmigrated SpareFault) input old new ends = record {
  history = λ has. inl refl;
  refused = any old.disk.past;
}
  where
    any : (first : Option Past) → IfSome first (λ past. (why : OpenFault)
        → IsTrueIn First (contents_of past) (Err why)
        → SpeaksOfFile (Err why)
        → (ended.DiskFault ≡ ending_of why) ⊎ (ended.DiskFault ≡ ended.DiskFault) ⊎ LackedMemory ended.DiskFault)
    any None = tt
    any (Some past) = λ why is_true speaks. inr (inl refl)

-- where no disk is opened nothing was written
pub migrate-silent : (own : MigrateEnding) (old new : Moved)
    → MigrateEnds own old new
    → IsUnopened (of_migrate own)
    → new.out ≡ old.out
migrate-silent ending.Done old new ends unopened = absurd unopened
migrate-silent ending.WriteFault old new ends unopened = absurd unopened
migrate-silent (ending.Unmigrated why) old new ends unopened = ends.tells.0

-- where there was no memory nothing was done
pub migrate-untouched : (moved : Moved) → MigrateEnds (ending.Unmigrated (From fault.OutOfMemory)) moved moved
migrate-untouched moved = record {
  tells = (refl, exact moved.disk.past, (λ is. (absurd (cc))), (λ other. refl, refl));
  sealed = tt;
  kept = record { silent = λ none. none; told = λ before is. (before, is, inl refl) };
  spare = record { silent = λ none. none; told = λ before is. (before, is, inl refl) };
}
  where
    exact : (first : Option Past) → IfSome first (λ past. IsExactIn First (contents_of past) (Err fault.OutOfMemory))
    exact None = tt
    exact (Some past) = record { is_true = tt; only = λ other is_true speaks here. absurd (here.1 refl) }
