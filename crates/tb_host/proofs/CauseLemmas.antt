-- Why a command ends as it does: which count of faults has risen.
use Rattle.std.proofs.Common.{◌≡◌, ◌⊎◌, ℕ, List, Bool, Option, inl, inr, subst, sym, ap, refl}
use Rattle.tb_link.specs.Counts.{Rose}
use Rattle.tb_link.specs.Sources.{SourceState}
use Rattle.tb_link.specs.Sinks.{SinkState}
use Rattle.tb_gates.specs.Clocks.{ClockState}
use Rattle.tb_gates.specs.Gates.{GateState}
use Rattle.tb_desk.specs.declared.fault.MigrateFault.TheVariants as migrate_fault
use Rattle.tb_desk.specs.declared.fault.OpenFault.{OpenFault}
use Rattle.tb_desk.specs.declared.fault.OpenFault.TheVariants as fault
use Rattle.tb_terms.specs.declared.cusip.Cusip.{Cusip}
use Rattle.tb_commands.specs.AwardRun.{AwardEnds}
use Rattle.tb_commands.specs.DiskRun.{Unopened}
use Rattle.tb_commands.specs.Endings.{ending_of, of_disk, of_migrate, of_print, of_register, of_send, of_serve}
use Rattle.tb_commands.specs.Endings.{of_check, of_take, of_text}
use Rattle.tb_commands.specs.CheckRun.{CheckEnds}
use Rattle.tb_commands.specs.FollowSendRun.{FollowSendEnds}
use Rattle.tb_commands.specs.FollowTakeRun.{FollowTakeEnds}
use Rattle.tb_host.specs.HostRun.{HasCause, Objects, devices, handed, moved, registry}
use Rattle.tb_commands.specs.ImportRun.{ImportEnds}
use Rattle.tb_commands.specs.MigrateRun.{MigrateEnds}
use Rattle.tb_commands.specs.RegisterRun.{RegisterEnds}
use Rattle.tb_commands.specs.ReportRun.{ReportEnds}
use Rattle.tb_commands.specs.RunEnds.{RunEnds}
use Rattle.tb_host.specs.ServeRun.{ServeEnds}
use Rattle.tb_commands.specs.TrialRun.{TrialEnds}
use Rattle.tb_commands.specs.declared.command_endings.CheckEnding.{CheckEnding}
use Rattle.tb_commands.specs.declared.command_endings.CheckEnding.TheVariants as check_ending
use Rattle.tb_commands.specs.declared.command_endings.DiskEnding.{DiskEnding}
use Rattle.tb_commands.specs.declared.command_endings.DiskEnding.TheVariants as disk_ending
use Rattle.tb_commands.specs.declared.command_endings.MigrateEnding.{MigrateEnding}
use Rattle.tb_commands.specs.declared.command_endings.MigrateEnding.TheVariants as migrate_ending
use Rattle.tb_commands.specs.declared.command_endings.PrintEnding.{PrintEnding}
use Rattle.tb_commands.specs.declared.command_endings.PrintEnding.TheVariants as print_ending
use Rattle.tb_commands.specs.declared.command_endings.RegisterEnding.{RegisterEnding}
use Rattle.tb_commands.specs.declared.command_endings.RegisterEnding.TheVariants as register_ending
use Rattle.tb_commands.specs.declared.command_endings.SendEnding.{SendEnding}
use Rattle.tb_commands.specs.declared.command_endings.SendEnding.TheVariants as send_ending
use Rattle.tb_commands.specs.declared.command_endings.ServeEnding.{ServeEnding}
use Rattle.tb_commands.specs.declared.command_endings.ServeEnding.TheVariants as serve_ending
use Rattle.tb_commands.specs.declared.command_endings.TakeEnding.{TakeEnding}
use Rattle.tb_commands.specs.declared.command_endings.TakeEnding.TheVariants as take_ending
use Rattle.tb_commands.specs.declared.command_endings.TextEnding.{TextEnding}
use Rattle.tb_commands.specs.declared.command_endings.TextEnding.TheVariants as text_ending
use Rattle.tb_commands.specs.declared.ending.Ending.{Ending}
use Rattle.tb_commands.specs.declared.ending.Ending.TheVariants as ending
use Rattle.tb_commands.specs.declared.report_command.Inquiry.{Inquiry}
use Rattle.tb_commands.specs.declared.sender.Sender.{Sender}
use Rattle.tb_host.proofs.ServeLemmas.{OneRose-runs}

module _ {G K : Type 0} (gate : G → GateState K) (old new : Objects G) where
  -- what a fault of this ending is told of, if it is told of one
  abbrev FaultOf : Ending → Type 0
  FaultOf ending.Done = (new.input.faults ≡ old.input.faults) × (new.out.faults ≡ old.out.faults)
  FaultOf ending.OutOfMemory = (new.input.faults ≡ old.input.faults) × (new.out.faults ≡ old.out.faults)
  FaultOf ending.ReadFault = Rose old.input.faults new.input.faults
  FaultOf ending.WriteFault = Rose old.out.faults new.out.faults
  FaultOf ending.DiskFault = Rose old.disk.faults new.disk.faults ⊎ Rose old.spare.faults new.spare.faults
  FaultOf ending.GateFault = Rattle.tb_host.specs.ServeRun.OneRose gate old.gates new.gates
  FaultOf ending.KeeperFault = Rose old.keeper.faults new.keeper.faults
  FaultOf other = Unit {0}

  -- an ending whose fault is so has its cause
  HasCause-of : (ended : Ending) → FaultOf ended → HasCause gate ended old new
  HasCause-of ended is = record {
    read = λ same. subst FaultOf same is;
    write = λ same. subst FaultOf same is;
    disk = λ same. subst FaultOf same is;
    gates = λ same. subst FaultOf same is;
    keeper = λ same. subst FaultOf same is;
    none = λ same. subst FaultOf same is;
    lacked = λ same. subst FaultOf same is;
  }

  -- outside the command set there is none to have
  pub usage-cause : HasCause gate ending.Usage old new
  usage-cause = HasCause-of ending.Usage tt

  -- for want of memory none was passed over
  memory-cause : new.input.faults ≡ old.input.faults → new.out.faults ≡ old.out.faults
      → HasCause gate ending.OutOfMemory old new
  memory-cause read written = HasCause-of ending.OutOfMemory (read, written)

  -- what wasn't touched has had no fault
  unread-faults : new.input ≡ old.input → new.input.faults ≡ old.input.faults
  unread-faults same = ap (λ (i : SourceState). i.faults) same

  silent-faults : new.out ≡ old.out → new.out.faults ≡ old.out.faults
  silent-faults same = ap (λ (o : SinkState). o.faults) same

  -- `award`
  pub award-cause : (full : Bool) (own : TextEnding)
      → AwardEnds full own old.input new.input old.out new.out
      → HasCause gate (of_text own) old new
  award-cause full text_ending.Done ends = HasCause-of ending.Done (ends.0.no_fault, ends.1)
  award-cause full (text_ending.BadInput number) ends = HasCause-of (ending.BadInput number) tt
  award-cause full text_ending.ReadFault ends = HasCause-of ending.ReadFault ends.1
  award-cause full text_ending.WriteFault ends = HasCause-of ending.WriteFault ends.0
  award-cause full text_ending.OutOfMemory ends = memory-cause ends.1.no_fault (silent-faults ends.0)

  -- a disk that wasn't opened
  unopened-cause : (why : OpenFault)
      → Unopened why old.disk new.disk
      → new.input ≡ old.input
      → new.out ≡ old.out
      → HasCause gate (ending_of why) old new
  unopened-cause fault.DiskFault unopened unread silent = HasCause-of ending.DiskFault (inl (unopened.rose refl))
  unopened-cause (fault.NotAJournal found) unopened unread silent = HasCause-of (ending.NotAJournal found) tt
  unopened-cause (fault.Unsealed byte) unopened unread silent = HasCause-of (ending.Unsealed byte) tt
  unopened-cause (fault.Damaged place) unopened unread silent = HasCause-of (ending.Damaged place) tt
  unopened-cause fault.OutOfMemory unopened unread silent =
      memory-cause (unread-faults unread) (silent-faults silent)

  -- `run`
  pub run-cause : (operator : List ℕ) (own : DiskEnding TextEnding)
      → RunEnds operator own old.input new.input (devices old) (devices new)
      → HasCause gate (of_disk of_text own) old new
  run-cause operator (disk_ending.Opened text_ending.Done) ends =
      HasCause-of ending.Done (ends.3.0.no_fault, ends.3.1)
  run-cause operator (disk_ending.Opened (text_ending.BadInput number)) ends =
      HasCause-of (ending.BadInput number) tt
  run-cause operator (disk_ending.Opened text_ending.ReadFault) ends = HasCause-of ending.ReadFault ends.3.0
  run-cause operator (disk_ending.Opened text_ending.WriteFault) ends = HasCause-of ending.WriteFault ends.3.0
  run-cause operator (disk_ending.Opened text_ending.OutOfMemory) ends = memory-cause ends.3.0.no_fault ends.3.1
  run-cause operator (disk_ending.Unopened why) none = unopened-cause why none.unopened none.unread none.silent

  -- `import`
  pub import-cause : (sender : Sender) (clock clock' : ClockState) (own : DiskEnding TextEnding)
      → ImportEnds sender clock clock' own old.input new.input (devices old) (devices new)
      → HasCause gate (of_disk of_text own) old new
  import-cause sender clock clock' (disk_ending.Opened text_ending.Done) imported =
      let ends = imported.ends.3 in
      HasCause-of ending.Done (ends.0.sent.table.no_fault, ends.1)
  import-cause sender clock clock' (disk_ending.Opened (text_ending.BadInput number)) imported =
      HasCause-of (ending.BadInput number) tt
  import-cause sender clock clock' (disk_ending.Opened text_ending.ReadFault) imported =
      HasCause-of ending.ReadFault imported.ends.3.1
  import-cause sender clock clock' (disk_ending.Opened text_ending.WriteFault) imported =
      HasCause-of ending.WriteFault imported.ends.3.0
  import-cause sender clock clock' (disk_ending.Opened text_ending.OutOfMemory) imported =
      memory-cause imported.ends.3.1 imported.ends.3.2
  import-cause sender clock clock' (disk_ending.Unopened why) imported =
      unopened-cause why imported.ends.unopened imported.ends.unread imported.ends.silent

  -- the same of an ending that is this one
  cause-as : (ended own : Ending) → ended ≡ own → HasCause gate own old new → HasCause gate ended old new
  cause-as ended own is cause = subst (λ (e : Ending). HasCause gate e old new) (sym is) cause

  report-cause-here : (asked : Inquiry) (own : DiskEnding PrintEnding)
      → ReportEnds asked own old.input new.input (devices old) (devices new)
      → HasCause gate (of_disk of_print own) old new
  report-cause-here asked (disk_ending.Opened print_ending.Done) report =
      HasCause-of ending.Done (ap (λ (i : SourceState). i.faults) report.unread, report.ends.3.1.2.no_fault)
  report-cause-here asked (disk_ending.Opened print_ending.WriteFault) report =
      HasCause-of ending.WriteFault report.ends.3.1.3
  report-cause-here asked (disk_ending.Opened print_ending.OutOfMemory) report =
      memory-cause (unread-faults report.unread) (silent-faults report.ends.3.1)
  report-cause-here asked (disk_ending.Unopened why) report =
      unopened-cause why report.ends.unopened report.ends.unread report.ends.silent

  -- `report`
  pub report-cause : (asked : Inquiry) (own : DiskEnding PrintEnding) (ended : Ending)
      → ended ≡ of_disk of_print own
      → ReportEnds asked own old.input new.input (devices old) (devices new)
      → HasCause gate ended old new
  report-cause asked own ended is report = cause-as ended (of_disk of_print own) is (report-cause-here asked own report)

  -- `migrate`
  pub migrate-cause : (own : MigrateEnding)
      → MigrateEnds own (moved old) (moved new)
      → new.input ≡ old.input
      → HasCause gate (of_migrate own) old new
  migrate-cause migrate_ending.Done ends unread =
      HasCause-of ending.Done (ap (λ (i : SourceState). i.faults) unread, ends.tells.2.no_fault)
  migrate-cause migrate_ending.WriteFault ends unread = HasCause-of ending.WriteFault ends.tells.2.rose
  migrate-cause (migrate_ending.Unmigrated (migrate_fault.From fault.DiskFault)) ends unread =
      HasCause-of ending.DiskFault (inl (ends.tells.2 refl))
  migrate-cause (migrate_ending.Unmigrated (migrate_fault.From (fault.NotAJournal found))) ends unread =
      HasCause-of (ending.NotAJournal found) tt
  migrate-cause (migrate_ending.Unmigrated (migrate_fault.From (fault.Unsealed byte))) ends unread =
      HasCause-of (ending.Unsealed byte) tt
  migrate-cause (migrate_ending.Unmigrated (migrate_fault.From (fault.Damaged place))) ends unread =
      HasCause-of (ending.Damaged place) tt
  migrate-cause (migrate_ending.Unmigrated (migrate_fault.From fault.OutOfMemory)) ends unread =
      memory-cause (unread-faults unread) (silent-faults ends.tells.0)
  migrate-cause (migrate_ending.Unmigrated migrate_fault.SpareFault) ends unread =
      HasCause-of ending.DiskFault (inr ends.tells.2)

  check-cause-here : (own : DiskEnding CheckEnding)
      → CheckEnds own old.input new.input (devices old) (devices new)
      → HasCause gate (of_disk of_check own) old new
  check-cause-here (disk_ending.Opened check_ending.Done) checked =
      HasCause-of ending.Done (ap (λ (i : SourceState). i.faults) checked.unread, checked.ends.3.cause)
  check-cause-here (disk_ending.Opened check_ending.WriteFault) checked =
      HasCause-of ending.WriteFault checked.ends.3.cause
  check-cause-here (disk_ending.Opened check_ending.DiskFault) checked =
      HasCause-of ending.DiskFault (inl checked.ends.3.cause.0)
  check-cause-here (disk_ending.Opened (check_ending.DamagedBehind place)) checked =
      HasCause-of (ending.DamagedBehind place) tt
  check-cause-here (disk_ending.Unopened why) checked =
      unopened-cause why checked.ends.unopened checked.ends.unread checked.ends.silent

  -- `check`
  pub check-cause : (own : DiskEnding CheckEnding) (ended : Ending)
      → ended ≡ of_disk of_check own
      → CheckEnds own old.input new.input (devices old) (devices new)
      → HasCause gate ended old new
  check-cause own ended is checked = cause-as ended (of_disk of_check own) is (check-cause-here own checked)

  send-cause-here : (from : ℕ) (own : DiskEnding SendEnding)
      → FollowSendEnds from own old.input new.input (devices old) (devices new)
      → HasCause gate (of_disk of_send own) old new
  send-cause-here from (disk_ending.Opened send_ending.Done) sent =
      HasCause-of ending.Done (ap (λ (i : SourceState). i.faults) sent.unread, sent.ends.3.cause)
  send-cause-here from (disk_ending.Opened send_ending.WriteFault) sent =
      HasCause-of ending.WriteFault sent.ends.3.cause
  send-cause-here from (disk_ending.Opened send_ending.DiskFault) sent =
      HasCause-of ending.DiskFault (inl sent.ends.3.cause)
  send-cause-here from (disk_ending.Opened (send_ending.Damaged place)) sent = HasCause-of (ending.Damaged place) tt
  send-cause-here from (disk_ending.Unopened why) sent =
      unopened-cause why sent.ends.unopened sent.ends.unread sent.ends.silent

  -- `follow send`
  pub send-cause : (from : ℕ) (own : DiskEnding SendEnding) (ended : Ending)
      → ended ≡ of_disk of_send own
      → FollowSendEnds from own old.input new.input (devices old) (devices new)
      → HasCause gate ended old new
  send-cause from own ended is sent = cause-as ended (of_disk of_send own) is (send-cause-here from own sent)

  -- `follow take`
  pub take-cause : (own : DiskEnding TakeEnding)
      → FollowTakeEnds own old.input new.input (devices old) (devices new)
      → HasCause gate (of_disk of_take own) old new
  take-cause (disk_ending.Opened take_ending.Done) ends =
      HasCause-of ending.Done (ends.3.2, ends.3.1.no_fault)
  take-cause (disk_ending.Opened (take_ending.BadInput number)) ends = HasCause-of (ending.BadInput number) tt
  take-cause (disk_ending.Opened take_ending.ReadFault) ends = HasCause-of ending.ReadFault ends.3.0.1
  take-cause (disk_ending.Opened take_ending.WriteFault) ends = HasCause-of ending.WriteFault ends.3.1.rose
  take-cause (disk_ending.Opened take_ending.DiskFault) ends = HasCause-of ending.DiskFault (inl ends.3.0.1)
  take-cause (disk_ending.Opened (take_ending.Forked place)) ends = HasCause-of (ending.Forked place) tt
  take-cause (disk_ending.Opened take_ending.OutOfMemory) ends = memory-cause ends.3.0.2 (silent-faults ends.3.1)
  take-cause (disk_ending.Unopened why) none = unopened-cause why none.unopened none.unread none.silent

  register-cause-here : (bill : Option Cusip) (own : DiskEnding RegisterEnding)
      → RegisterEnds bill own old.input new.input (registry old) (registry new)
      → HasCause gate (of_disk of_register own) old new
  register-cause-here bill (disk_ending.Opened register_ending.Done) filed =
      HasCause-of ending.Done (ap (λ (i : SourceState). i.faults) filed.unread, filed.ends.3.1.2.no_fault)
  register-cause-here bill (disk_ending.Opened register_ending.WriteFault) filed =
      HasCause-of ending.WriteFault filed.ends.3.1.2.rose
  register-cause-here bill (disk_ending.Opened (register_ending.Differs auction)) filed =
      HasCause-of (ending.RegisterDiffers auction) tt
  register-cause-here bill (disk_ending.Opened (register_ending.KeeperFault)) filed =
      HasCause-of ending.KeeperFault filed.ends.3.1.2
  register-cause-here bill (disk_ending.Opened (register_ending.OutOfMemory)) filed =
      memory-cause (unread-faults filed.unread) (silent-faults filed.ends.3.1.0)
  register-cause-here bill (disk_ending.Unopened why) filed =
      unopened-cause why filed.ends.unopened filed.ends.unread filed.ends.silent

  -- `register`
  pub register-cause : (bill : Option Cusip) (own : DiskEnding RegisterEnding) (ended : Ending)
      → ended ≡ of_disk of_register own
      → RegisterEnds bill own old.input new.input (registry old) (registry new)
      → HasCause gate ended old new
  register-cause bill own ended is filed =
      cause-as ended (of_disk of_register own) is (register-cause-here bill own filed)

  trial-cause-here : (seed count : ℕ) (own : PrintEnding)
      → TrialEnds seed count own old.out new.out
      → new.input ≡ old.input
      → HasCause gate (of_print own) old new
  trial-cause-here seed count print_ending.Done ends unread =
      HasCause-of ending.Done (ap (λ (i : SourceState). i.faults) unread, ends.no_fault)
  trial-cause-here seed count print_ending.WriteFault ends unread = HasCause-of ending.WriteFault ends.0
  trial-cause-here seed count print_ending.OutOfMemory ends unread =
      memory-cause (unread-faults unread) (silent-faults ends)

  -- `trial`
  pub trial-cause : (seed count : ℕ) (own : PrintEnding) (ended : Ending)
      → ended ≡ of_print own
      → TrialEnds seed count own old.out new.out
      → new.input ≡ old.input
      → HasCause gate ended old new
  trial-cause seed count own ended is ends unread =
      cause-as ended (of_print own) is (trial-cause-here seed count own ends unread)

  serve-cause-here : (source : K → SourceState) (sink : K → SinkState) (operator : List ℕ) (clock : ClockState)
      (own : ServeEnding)
      → ServeEnds gate source sink operator clock own (handed old) (handed new)
      → new.input ≡ old.input
      → HasCause gate (of_serve own) old new
  serve-cause-here source sink operator clock serve_ending.Done ends unread =
      HasCause-of ending.Done (ap (λ (i : SourceState). i.faults) unread, ends.4.2.1.no_fault)
  serve-cause-here source sink operator clock serve_ending.WriteFault ends unread =
      HasCause-of ending.WriteFault ends.4.2.1.rose
  serve-cause-here source sink operator clock serve_ending.GateFault ends unread =
      HasCause-of ending.GateFault (OneRose-runs gate source sink _ old.gates new.gates ends.2 ends.3.are_runs
      ends.4.2.0)
  serve-cause-here source sink operator clock (serve_ending.Unserved why) unserved unread =
      unopened-cause why unserved.unopened unread unserved.silent

  -- `serve`
  pub serve-cause : (source : K → SourceState) (sink : K → SinkState) (operator : List ℕ) (clock : ClockState)
      (own : ServeEnding) (ended : Ending)
      → ended ≡ of_serve own
      → ServeEnds gate source sink operator clock own (handed old) (handed new)
      → new.input ≡ old.input
      → HasCause gate ended old new
  serve-cause source sink operator clock own ended is ends unread =
      cause-as ended (of_serve own) is (serve-cause-here source sink operator clock own ends unread)
