-- A call that counts its fault.
use Rattle.std.proofs.Common.{◌≡◌, ◌≤◌, refl, arith}
use Rattle.tb_link.specs.Counts.{Rose, last_count}
use Rattle.tb_register.specs.Keepers.{CountsFault, KeeperState, Refuses}
use Rattle.tb_register.specs.declared.keeper.KeeperFault.{KeeperFault}
use Rattle.tb_register.specs.declared.keeper.KeeperFault.TheVariants.{Failed, OutOfMemory}

-- where it leaves the table it refuses as each keeper does
pub counted_refuses : (old new : KeeperState) (why : KeeperFault)
    → new.table ≡ old.table
    → old.faults ≤ last_count
    → CountsFault old.faults new.faults why
    → Refuses old new why
counted_refuses old new Failed same bounded counts =
    let once = counts.failed refl in
    record {
      table = same;
      rose = λ is. rose;
      count = record { never_falls = omega arith; bounded = λ was. omega arith };
    }
  where
    rose : Rose old.faults new.faults
    rose = let once = counts.failed refl in grind arith
counted_refuses old new OutOfMemory same bounded counts =
    let none = counts.lacked refl in
    record {
      table = same;
      rose = λ is. absurd (cc);
      count = record { never_falls = omega arith; bounded = λ was. omega arith };
    }
