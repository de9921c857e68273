-- Statuses and the endings that they are of.
use Rattle.std.proofs.Common.{◌≡◌, ◌==◌, ◌&&◌, ◌||◌, nat_le, ℕ, Bool, true, ap, ◌∙◌, refl, arith}
use Rattle.tb_commands.specs.Endings.{IsUnopened, status_of}
use Rattle.tb_commands.specs.declared.ending.Ending.{Ending}
use Rattle.tb_commands.specs.declared.ending.Ending.TheVariants as ending

-- 2 is the status of words outside the command set alone
pub usage-at_2 : (ended : Ending) → status_of ended ≡ 2 → ended ≡ ending.Usage
usage-at_2 ending.Done is = absurd (omega (arith, is))
usage-at_2 ending.Usage is = refl
usage-at_2 (ending.BadInput number) is = absurd (omega (arith, is))
usage-at_2 ending.ReadFault is = absurd (omega (arith, is))
usage-at_2 ending.WriteFault is = absurd (omega (arith, is))
usage-at_2 ending.DiskFault is = absurd (omega (arith, is))
usage-at_2 (ending.NotAJournal found) is = absurd (omega (arith, is))
usage-at_2 (ending.Damaged place) is = absurd (omega (arith, is))
usage-at_2 ending.OutOfMemory is = absurd (omega (arith, is))
usage-at_2 ending.GateFault is = absurd (omega (arith, is))
usage-at_2 (ending.Unsealed byte) is = absurd (omega (arith, is))
usage-at_2 (ending.RegisterDiffers auction) is = absurd (omega (arith, is))
usage-at_2 ending.KeeperFault is = absurd (omega (arith, is))
usage-at_2 (ending.Forked place) is = absurd (omega (arith, is))
usage-at_2 (ending.DamagedBehind place) is = absurd (omega (arith, is))

-- and 9 that of want of memory alone
pub memory-at_9 : (ended : Ending) → status_of ended ≡ 9 → ended ≡ ending.OutOfMemory
memory-at_9 ending.Done is = absurd (omega (arith, is))
memory-at_9 ending.Usage is = absurd (omega (arith, is))
memory-at_9 (ending.BadInput number) is = absurd (omega (arith, is))
memory-at_9 ending.ReadFault is = absurd (omega (arith, is))
memory-at_9 ending.WriteFault is = absurd (omega (arith, is))
memory-at_9 ending.DiskFault is = absurd (omega (arith, is))
memory-at_9 (ending.NotAJournal found) is = absurd (omega (arith, is))
memory-at_9 (ending.Damaged place) is = absurd (omega (arith, is))
memory-at_9 ending.OutOfMemory is = refl
memory-at_9 ending.GateFault is = absurd (omega (arith, is))
memory-at_9 (ending.Unsealed byte) is = absurd (omega (arith, is))
memory-at_9 (ending.RegisterDiffers auction) is = absurd (omega (arith, is))
memory-at_9 ending.KeeperFault is = absurd (omega (arith, is))
memory-at_9 (ending.Forked place) is = absurd (omega (arith, is))
memory-at_9 (ending.DamagedBehind place) is = absurd (omega (arith, is))

-- that the disk wasn't opened is told by the status
abbrev is_unopened_at : ℕ → Bool
is_unopened_at status = (nat_le 6 status && nat_le status 8) || (status == 11)

unopened-told : (ended : Ending) → IsUnopened ended → is_unopened_at (status_of ended) ≡ true
unopened-told ending.DiskFault unopened = refl
unopened-told (ending.NotAJournal found) unopened = refl
unopened-told (ending.Damaged place) unopened = refl
unopened-told (ending.Unsealed byte) unopened = refl
unopened-told ended unopened = absurd unopened

told-unopened : (ended : Ending) → is_unopened_at (status_of ended) ≡ true → IsUnopened ended
told-unopened ending.DiskFault told = tt
told-unopened (ending.NotAJournal found) told = tt
told-unopened (ending.Damaged place) told = tt
told-unopened (ending.Unsealed byte) told = tt
told-unopened ended told = absurd (cc)

-- of two endings of one status both or none are those of a disk that wasn't opened
pub unopened-by_status : (one other : Ending) → status_of one ≡ status_of other → IsUnopened other → IsUnopened one
unopened-by_status one other same unopened =
    told-unopened one (ap is_unopened_at same ∙ unopened-told other unopened)
