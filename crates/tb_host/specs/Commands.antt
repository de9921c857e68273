-- What commands use.
use Rattle.std.specs.Prelude.{◌≡◌, ℕ, List, Bool, true, false, ⊤}
use Rattle.tb_words.specs.Commands as all
use Rattle.tb_words.specs.declared.command.Command.{Command}
use Rattle.tb_words.specs.declared.command.Command.TheVariants as command
use Rattle.tb_host.specs.declared.planned.Plan.{Plan}

-- which of the objects that it is handed a command may touch
pub record Uses : Type 0 where
  pub input : Bool
  pub out : Bool
  pub disk : Bool
  pub spare : Bool
  pub gates : Bool
  pub keeper : Bool

-- the table of it
abbrev pub uses_of : Command → Uses
uses_of (command.Award full) =
    record { input = true; out = true; disk = false; spare = false; gates = false; keeper = false }
uses_of (command.Run operator) =
    record { input = true; out = true; disk = true; spare = false; gates = false; keeper = false }
uses_of (command.Serve operator port workers links) =
    record { input = false; out = true; disk = true; spare = false; gates = true; keeper = false }
uses_of (command.Import operator caller) =
    record { input = true; out = true; disk = true; spare = false; gates = false; keeper = false }
uses_of (command.Report operator caller asked csv) =
    record { input = false; out = true; disk = true; spare = false; gates = false; keeper = false }
uses_of command.Migrate = record { input = false; out = true; disk = true; spare = true; gates = false; keeper = false }
uses_of command.Check = record { input = false; out = true; disk = true; spare = false; gates = false; keeper = false }
uses_of (command.FollowSend from) =
    record { input = false; out = true; disk = true; spare = false; gates = false; keeper = false }
uses_of command.FollowTake =
    record { input = true; out = true; disk = true; spare = false; gates = false; keeper = false }
uses_of (command.Register bill) =
    record { input = false; out = true; disk = true; spare = false; gates = false; keeper = true }
uses_of (command.Trial seed count) =
    record { input = false; out = true; disk = false; spare = false; gates = false; keeper = false }

-- a fault of the disk ends it behind the opening too
abbrev pub ends_at_fault : Command → Bool
ends_at_fault (command.FollowSend from) = true
ends_at_fault command.FollowTake = true
ends_at_fault other = false

-- a fault of the disk that a turn meets is answered, and doesn't end it
abbrev pub answers_faults : Command → Bool
answers_faults (command.Run operator) = true
answers_faults (command.Import operator caller) = true
answers_faults other = false

-- an object that isn't used is as it was
abbrev pub Stays : {A : Type 0} → Bool → A → A → Type 0
Stays used old new = used ≡ false → new ≡ old

-- the words are a command that works on the disk
abbrev pub AreOnDisk : List (List ℕ) → Type 0
AreOnDisk words = (said : Command) × all.AreWordsOf said words × ((uses_of said).disk ≡ true)

-- there are as many gates as the command has workers
abbrev pub HasGates : Command → ℕ → Type 0
HasGates (command.Serve operator port workers links) gates = gates ≡ workers
HasGates other gates = ⊤

-- what has to be made for a command
abbrev pub plan_of : Command → Plan
plan_of (command.Serve operator port workers links) =
    record { journal = true; register = false; port = port; workers = workers; links = links }
plan_of other =
    record { journal = (uses_of other).disk; register = (uses_of other).keeper; port = 0; workers = 0; links = 0 }

-- and for words that are none
abbrev pub nothing : Plan
nothing = record { journal = false; register = false; port = 0; workers = 0; links = 0 }
