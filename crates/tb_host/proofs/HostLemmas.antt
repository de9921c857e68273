-- What the record of a command says of how the program ends.
use Rattle.std.proofs.Common.{◌≡◌, ℕ, List, Bool, Option, subst, sym, ◌∙◌, refl, arith}
use Rattle.tb_link.specs.Sources.{SourceState}
use Rattle.tb_link.specs.Sinks.{SinkState}
use Rattle.tb_gates.specs.Clocks.{ClockState}
use Rattle.tb_gates.specs.Gates.{GateState}
use Rattle.tb_desk.specs.declared.fault.MigrateFault.TheVariants as migrate_fault
use Rattle.tb_desk.specs.declared.fault.OpenFault.{OpenFault}
use Rattle.tb_desk.specs.declared.fault.OpenFault.TheVariants as fault
use Rattle.tb_terms.specs.declared.cusip.Cusip.{Cusip}
use Rattle.tb_message.specs.declared.key.Key.{Key}
use Rattle.tb_message.specs.declared.query.Query.{Query}
use Rattle.tb_words.specs.Commands.{AreWordsOf}
use Rattle.tb_words.specs.declared.command.Command.{Command}
use Rattle.tb_words.specs.declared.command.Command.TheVariants as command
use Rattle.tb_words.proofs.OneCommandLemmas.{one_command}
use Rattle.tb_commands.specs.Completeness.{Completes}
use Rattle.tb_commands.specs.Endings.{IsUnopened, ending_of, of_disk, of_migrate, of_print, of_register, of_send}
use Rattle.tb_commands.specs.Endings.{of_check, of_serve, of_take, of_text}
use Rattle.tb_commands.specs.CheckRun.{CheckEnds}
use Rattle.tb_commands.specs.FollowSendRun.{FollowSendEnds}
use Rattle.tb_host.specs.HostRun.{EndsAs, Objects, Reports, devices, handed, moved, registry}
use Rattle.tb_commands.specs.RegisterRun.{RegisterEnds}
use Rattle.tb_commands.specs.ReportRun.{ReportEnds, inquiry}
use Rattle.tb_commands.specs.RunEnds.{Devices, NotBegun}
use Rattle.tb_commands.specs.declared.command_endings.CheckEnding.{CheckEnding}
use Rattle.tb_commands.specs.declared.command_endings.CheckEnding.TheVariants as check_ending
use Rattle.tb_commands.specs.declared.command_endings.DiskEnding.{DiskEnding}
use Rattle.tb_commands.specs.declared.command_endings.DiskEnding.TheVariants as disk_ending
use Rattle.tb_commands.specs.declared.command_endings.MigrateEnding.{MigrateEnding}
use Rattle.tb_commands.specs.declared.command_endings.MigrateEnding.TheVariants as migrate_ending
use Rattle.tb_commands.specs.declared.command_endings.PrintEnding.{PrintEnding}
use Rattle.tb_commands.specs.declared.command_endings.PrintEnding.TheVariants as print_ending
use Rattle.tb_commands.specs.declared.command_endings.RegisterEnding.{RegisterEnding}
use Rattle.tb_commands.specs.declared.command_endings.RegisterEnding.TheVariants as register_ending
use Rattle.tb_commands.specs.declared.command_endings.SendEnding.{SendEnding}
use Rattle.tb_commands.specs.declared.command_endings.SendEnding.TheVariants as send_ending
use Rattle.tb_commands.specs.declared.command_endings.ServeEnding.{ServeEnding}
use Rattle.tb_commands.specs.declared.command_endings.ServeEnding.TheVariants as serve_ending
use Rattle.tb_commands.specs.declared.command_endings.TakeEnding.{TakeEnding}
use Rattle.tb_commands.specs.declared.command_endings.TakeEnding.TheVariants as take_ending
use Rattle.tb_commands.specs.declared.command_endings.TextEnding.{TextEnding}
use Rattle.tb_commands.specs.declared.command_endings.TextEnding.TheVariants as text_ending
use Rattle.tb_commands.specs.declared.ending.Ending.{Ending}
use Rattle.tb_commands.specs.declared.ending.Ending.TheVariants as ending
use Rattle.tb_commands.specs.declared.report_command.Inquiry.{Inquiry}
use Rattle.tb_commands.proofs.CheckLemmas.{check-completes}
use Rattle.tb_commands.proofs.CompleteLemmas.{award-completes, award-untouched}
use Rattle.tb_commands.proofs.DiskLemmas.{Unopened-untouched}
use Rattle.tb_commands.proofs.FollowEndLemmas.{send-completes, take-completes}
use Rattle.tb_commands.proofs.ImportEndLemmas.{import-completes}
use Rattle.tb_commands.proofs.MigrateLemmas.{migrate-completes, migrate-untouched}
use Rattle.tb_commands.proofs.RegisterLemmas.{register-completes}
use Rattle.tb_commands.proofs.ReportLemmas.{report-completes}
use Rattle.tb_commands.proofs.ScriptLawLemmas.{run-completes}
use Rattle.tb_host.proofs.ServeHostLemmas.{serve-completes}
use Rattle.tb_commands.proofs.TrialLemmas.{trial-completes}

-- what is told of an ending
pub reports-as : (one other : Ending) (err err' : SinkState) → one ≡ other → Reports one err err'
    → Reports other err err'
reports-as one other err err' same reports = subst (λ (e : Ending). Reports e err err') same reports

-- where there was no memory no desk was opened
not_begun-memory : (input : SourceState) (both : Devices) → NotBegun fault.OutOfMemory input input both both
not_begun-memory input both = record {
  unopened = Unopened-untouched both.disk;
  unread = refl;
  silent = refl;
}

-- an ending on a desk is none of a disk that wasn't opened
pub text-opened : (own : TextEnding) → ¬ (IsUnopened (of_text own))
text-opened text_ending.Done unopened = unopened
text-opened (text_ending.BadInput number) unopened = unopened
text-opened text_ending.ReadFault unopened = unopened
text-opened text_ending.WriteFault unopened = unopened
text-opened text_ending.OutOfMemory unopened = unopened

-- nor is one of `register`
pub register-opened : (own : RegisterEnding) → ¬ (IsUnopened (of_register own))
register-opened register_ending.Done unopened = unopened
register-opened register_ending.WriteFault unopened = unopened
register-opened (register_ending.Differs auction) unopened = unopened
register-opened (register_ending.KeeperFault) unopened = unopened
register-opened (register_ending.OutOfMemory) unopened = unopened

-- nor is one of a command that only prints
pub print-opened : (own : PrintEnding) → ¬ (IsUnopened (of_print own))
print-opened print_ending.Done unopened = unopened
print-opened print_ending.WriteFault unopened = unopened
print-opened print_ending.OutOfMemory unopened = unopened

-- so where the disk wasn't opened the command says so itself
pub text-unopened : (own : DiskEnding TextEnding)
    → IsUnopened (of_disk of_text own)
    → (why : OpenFault) × (own ≡ disk_ending.Unopened why)
text-unopened (disk_ending.Opened own) unopened = absurd (text-opened own unopened)
text-unopened (disk_ending.Unopened why) unopened = (why, refl)

pub print-unopened : (own : DiskEnding PrintEnding)
    → IsUnopened (of_disk of_print own)
    → (why : OpenFault) × (own ≡ disk_ending.Unopened why)
print-unopened (disk_ending.Opened own) unopened = absurd (print-opened own unopened)
print-unopened (disk_ending.Unopened why) unopened = (why, refl)

pub register-unopened : (own : DiskEnding RegisterEnding)
    → IsUnopened (of_disk of_register own)
    → (why : OpenFault) × (own ≡ disk_ending.Unopened why)
register-unopened (disk_ending.Opened own) unopened = absurd (register-opened own unopened)
register-unopened (disk_ending.Unopened why) unopened = (why, refl)

-- no command ends as words outside the command set do
text-known : (own : TextEnding) → ¬ (of_text own ≡ ending.Usage)
text-known text_ending.Done is = cc
text-known (text_ending.BadInput number) is = cc
text-known text_ending.ReadFault is = cc
text-known text_ending.WriteFault is = cc
text-known text_ending.OutOfMemory is = cc

print-known : (own : PrintEnding) → ¬ (of_print own ≡ ending.Usage)
print-known print_ending.Done is = cc
print-known print_ending.WriteFault is = cc
print-known print_ending.OutOfMemory is = cc

send-known : (own : SendEnding) → ¬ (of_send own ≡ ending.Usage)
send-known send_ending.Done is = cc
send-known send_ending.WriteFault is = cc
send-known send_ending.DiskFault is = cc
send-known (send_ending.Damaged place) is = cc

check-known : (own : CheckEnding) → ¬ (of_check own ≡ ending.Usage)
check-known check_ending.Done is = cc
check-known check_ending.WriteFault is = cc
check-known check_ending.DiskFault is = cc
check-known (check_ending.DamagedBehind place) is = cc

take-known : (own : TakeEnding) → ¬ (of_take own ≡ ending.Usage)
take-known take_ending.Done is = cc
take-known (take_ending.BadInput number) is = cc
take-known take_ending.ReadFault is = cc
take-known take_ending.WriteFault is = cc
take-known take_ending.DiskFault is = cc
take-known (take_ending.Forked place) is = cc
take-known take_ending.OutOfMemory is = cc

register-known : (own : RegisterEnding) → ¬ (of_register own ≡ ending.Usage)
register-known register_ending.Done is = cc
register-known register_ending.WriteFault is = cc
register-known (register_ending.Differs auction) is = cc
register-known (register_ending.KeeperFault) is = cc
register-known (register_ending.OutOfMemory) is = cc

unopened-known : (why : OpenFault) → ¬ (ending_of why ≡ ending.Usage)
unopened-known fault.DiskFault is = cc
unopened-known (fault.NotAJournal found) is = cc
unopened-known (fault.Unsealed byte) is = cc
unopened-known (fault.Damaged place) is = cc
unopened-known fault.OutOfMemory is = cc

disk-known : {E : Type 0} (of_own : E → Ending)
    → ((own : E) → ¬ (of_own own ≡ ending.Usage))
    → (own : DiskEnding E)
    → ¬ (of_disk of_own own ≡ ending.Usage)
disk-known of_own known (disk_ending.Opened own) is = known own is
disk-known of_own known (disk_ending.Unopened why) is = unopened-known why is

migrate-known : (own : MigrateEnding) → ¬ (of_migrate own ≡ ending.Usage)
migrate-known migrate_ending.Done is = cc
migrate-known migrate_ending.WriteFault is = cc
migrate-known (migrate_ending.Unmigrated (migrate_fault.From why)) is = unopened-known why is
migrate-known (migrate_ending.Unmigrated migrate_fault.SpareFault) is = cc

serve-known : (own : ServeEnding) → ¬ (of_serve own ≡ ending.Usage)
serve-known serve_ending.Done is = cc
serve-known serve_ending.WriteFault is = cc
serve-known serve_ending.GateFault is = cc
serve-known (serve_ending.Unserved why) is = unopened-known why is

module _ {G K : Type 0} (gate : G → GateState K) (source : K → SourceState) (sink : K → SinkState)
    (clock : ClockState) where
  -- words that are of one command are of no other
  pub EndsAs-asked : (texts : List (List ℕ)) (said asked : Command) (ended : Ending) (old new : Objects G)
      → AreWordsOf said texts
      → AreWordsOf asked texts
      → EndsAs gate source sink said clock ended old new
      → EndsAs gate source sink asked clock ended old new
  EndsAs-asked texts said asked ended old new are are' ends =
      subst (λ (c : Command). EndsAs gate source sink c clock ended old new) (one_command texts said asked are are')
      ends

  -- a report that was asked by the words of the command
  pub EndsAs-report : (said : Command) (operator : List ℕ) (caller : Key) (query : Query) (csv : Bool)
      (asked : Inquiry) (own : DiskEnding PrintEnding) (ended : Ending) (old new : Objects G)
      → said ≡ command.Report operator caller query csv
      → asked ≡ inquiry operator caller query csv
      → ended ≡ of_disk of_print own
      → ReportEnds asked own old.input new.input (devices old) (devices new)
      → EndsAs gate source sink said clock ended old new
  EndsAs-report said operator caller query csv asked own ended old new said_is asked_is is ends =
      subst (λ (c : Command). EndsAs gate source sink c clock ended old new) (sym said_is) (
        own,
        is,
        subst (λ (a : Inquiry). ReportEnds a own old.input new.input (devices old) (devices new)) asked_is ends,
      )

  -- a sending that was asked by the words of the command
  pub EndsAs-send : (said : Command) (from : ℕ) (own : DiskEnding SendEnding) (ended : Ending) (old new : Objects G)
      → said ≡ command.FollowSend from
      → ended ≡ of_disk of_send own
      → FollowSendEnds from own old.input new.input (devices old) (devices new)
      → EndsAs gate source sink said clock ended old new
  EndsAs-send said from own ended old new said_is is ends =
      subst (λ (c : Command). EndsAs gate source sink c clock ended old new) (sym said_is) (own, is, ends)

  -- a look behind the gate that was asked by the words of the command
  pub EndsAs-check : (said : Command) (own : DiskEnding CheckEnding) (ended : Ending) (old new : Objects G)
      → said ≡ command.Check
      → ended ≡ of_disk of_check own
      → CheckEnds own old.input new.input (devices old) (devices new)
      → EndsAs gate source sink said clock ended old new
  EndsAs-check said own ended old new said_is is ends =
      subst (λ (c : Command). EndsAs gate source sink c clock ended old new) (sym said_is) (own, is, ends)

  -- a filing that was asked by the words of the command
  pub EndsAs-register : (said : Command) (bill : Option Cusip) (own : DiskEnding RegisterEnding) (ended : Ending)
      (old new : Objects G)
      → said ≡ command.Register bill
      → ended ≡ of_disk of_register own
      → RegisterEnds bill own old.input new.input (registry old) (registry new)
      → EndsAs gate source sink said clock ended old new
  EndsAs-register said bill own ended old new said_is is ends =
      subst (λ (c : Command). EndsAs gate source sink c clock ended old new) (sym said_is) (own, is, ends)

  -- where there was no memory to read the words nothing was done
  pub EndsAs-memory : (said : Command) (objects : Objects G)
      → EndsAs gate source sink said clock ending.OutOfMemory objects objects
  EndsAs-memory (command.Award full) objects =
      (text_ending.OutOfMemory, refl, award-untouched full objects.input objects.out)
  EndsAs-memory (command.Run operator) objects =
      (disk_ending.Unopened fault.OutOfMemory, refl, not_begun-memory objects.input (devices objects))
  EndsAs-memory (command.Serve operator port workers links) objects = (
    serve_ending.Unserved fault.OutOfMemory,
    refl,
    record { unopened = Unopened-untouched objects.disk; untaken = refl; silent = refl },
  )
  EndsAs-memory (command.Import operator caller) objects = (
    disk_ending.Unopened fault.OutOfMemory,
    refl,
    (
      clock,
      record {
        ends = not_begun-memory objects.input (devices objects);
        reads = λ text told. omega arith;
      },
    ),
  )
  EndsAs-memory (command.Report operator caller asked csv) objects = (
    disk_ending.Unopened fault.OutOfMemory,
    refl,
    record {
      ends = not_begun-memory objects.input (devices objects);
      unread = refl;
      steps = (Unopened-untouched objects.disk).refused;
      harmless = (Unopened-untouched objects.disk).harmless;
    },
  )
  EndsAs-memory command.Migrate objects = (
    migrate_ending.Unmigrated (migrate_fault.From fault.OutOfMemory),
    refl,
    migrate-untouched (moved objects),
  )
  EndsAs-memory command.Check objects = (
    disk_ending.Unopened fault.OutOfMemory,
    refl,
    record {
      ends = not_begun-memory objects.input (devices objects);
      unread = refl;
      steps = (Unopened-untouched objects.disk).refused;
      harmless = (Unopened-untouched objects.disk).harmless;
    },
  )
  EndsAs-memory (command.FollowSend from) objects = (
    disk_ending.Unopened fault.OutOfMemory,
    refl,
    record {
      ends = not_begun-memory objects.input (devices objects);
      unread = refl;
      steps = (Unopened-untouched objects.disk).refused;
      harmless = (Unopened-untouched objects.disk).harmless;
    },
  )
  EndsAs-memory command.FollowTake objects =
      (disk_ending.Unopened fault.OutOfMemory, refl, not_begun-memory objects.input (devices objects))
  EndsAs-memory (command.Register bill) objects = (
    disk_ending.Unopened fault.OutOfMemory,
    refl,
    record {
      ends = not_begun-memory objects.input (devices objects);
      unread = refl;
      unfiled = λ why is. refl;
      steps = (Unopened-untouched objects.disk).refused;
      harmless = (Unopened-untouched objects.disk).harmless;
    },
  )
  EndsAs-memory (command.Trial seed count) objects = (print_ending.OutOfMemory, refl, refl)

  -- each command is answered
  pub Completes-here : (said : Command) (ended : Ending) (old new : Objects G)
      → EndsAs gate source sink said clock ended old new
      → Completes said old.input old.disk ended
  Completes-here (command.Award full) ended old new (own, is, ends) =
      subst (Completes (command.Award full) old.input old.disk) (sym is)
      (award-completes full own old.input new.input old.out new.out old.disk ends)
  Completes-here (command.Run operator) ended old new (own, is, ends) =
      subst (Completes (command.Run operator) old.input old.disk) (sym is)
      (run-completes operator own old.input new.input (devices old) (devices new) ends)
  Completes-here (command.Serve operator port workers links) ended old new (own, is, ends) =
      subst (Completes (command.Serve operator port workers links) old.input old.disk) (sym is)
      (serve-completes gate source sink operator port workers links clock own old.input (handed old) (handed new) ends)
  Completes-here (command.Import operator caller) ended old new (own, is, (read, ends)) =
      subst (Completes (command.Import operator caller) old.input old.disk) (sym is)
      (import-completes operator caller clock read own old.input new.input (devices old) (devices new) ends)
  Completes-here (command.Report operator caller asked csv) ended old new (own, is, ends) =
      subst (Completes (command.Report operator caller asked csv) old.input old.disk) (sym is)
      (report-completes operator caller asked csv own old.input new.input (devices old) (devices new) ends)
  Completes-here command.Migrate ended old new (own, is, ends) =
      subst (Completes command.Migrate old.input old.disk) (sym is)
      (migrate-completes own old.input (moved old) (moved new) ends)
  Completes-here command.Check ended old new (own, is, ends) =
      subst (Completes command.Check old.input old.disk) (sym is)
      (check-completes own old.input new.input (devices old) (devices new) ends)
  Completes-here (command.FollowSend from) ended old new (own, is, ends) =
      subst (Completes (command.FollowSend from) old.input old.disk) (sym is)
      (send-completes from own old.input new.input (devices old) (devices new) ends)
  Completes-here command.FollowTake ended old new (own, is, ends) =
      subst (Completes command.FollowTake old.input old.disk) (sym is)
      (take-completes own old.input new.input (devices old) (devices new) ends)
  Completes-here (command.Register bill) ended old new (own, is, ends) =
      subst (Completes (command.Register bill) old.input old.disk) (sym is)
      (register-completes bill own old.input new.input (registry old) (registry new) ends)
  Completes-here (command.Trial seed count) ended old new (own, is, ends) =
      subst (Completes (command.Trial seed count) old.input old.disk) (sym is)
      (trial-completes seed count own old.out new.out ends)

  -- words that are a command don't end it as other words do
  pub EndsAs-known : (said : Command) (ended : Ending) (old new : Objects G)
      → EndsAs gate source sink said clock ended old new
      → ¬ (ended ≡ ending.Usage)
  EndsAs-known (command.Award full) ended old new (own, is, ends) usage = text-known own (sym is ∙ usage)
  EndsAs-known (command.Run operator) ended old new (own, is, ends) usage =
      disk-known of_text text-known own (sym is ∙ usage)
  EndsAs-known (command.Serve operator port workers links) ended old new (own, is, ends) usage =
      serve-known own (sym is ∙ usage)
  EndsAs-known (command.Import operator caller) ended old new (own, is, ends) usage =
      disk-known of_text text-known own (sym is ∙ usage)
  EndsAs-known (command.Report operator caller asked csv) ended old new (own, is, ends) usage =
      disk-known of_print print-known own (sym is ∙ usage)
  EndsAs-known command.Migrate ended old new (own, is, ends) usage = migrate-known own (sym is ∙ usage)
  EndsAs-known command.Check ended old new (own, is, ends) usage = disk-known of_check check-known own (sym is ∙ usage)
  EndsAs-known (command.FollowSend from) ended old new (own, is, ends) usage =
      disk-known of_send send-known own (sym is ∙ usage)
  EndsAs-known command.FollowTake ended old new (own, is, ends) usage =
      disk-known of_take take-known own (sym is ∙ usage)
  EndsAs-known (command.Register bill) ended old new (own, is, ends) usage =
      disk-known of_register register-known own (sym is ∙ usage)
  EndsAs-known (command.Trial seed count) ended old new (own, is, ends) usage = print-known own (sym is ∙ usage)
