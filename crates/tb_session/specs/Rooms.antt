-- The meanings of a room under the lock.
use Rattle.std.specs.Prelude.{◌≡◌, ℕ, List, is_some}
use Rattle.tb_disk.specs.Disks.{DiskState}
use Rattle.tb_gates.specs.Clocks.{ClockState}
use Rattle.tb_lock.specs.Meanings.{History, Meanings, RepeatsStand}
use Rattle.tb_message.specs.declared.message.Entry.{Entry}
use Rattle.tb_session.specs.declared.called.Called.{Called}
use Rattle.tb_session.specs.declared.room.Room.{Room}
use Rattle.tb_session.specs.Codes.{spelled_all, code_of, kind_in, moment_in, entry_in, fixed_code, IsAnswered}
use Rattle.tb_session.specs.Openings.{lock_code}
use Rattle.tb_session.specs.CodeLaws.{repeat-stands}

-- a call with this code was answered on this history
pub record IsCoded (fixed : List ℕ) (prefix : History) (code : List ℕ) (before after readings : ℕ) : Type 0 where
  pub called : Called
  pub history : List Entry
  pub code_is : code ≡ code_of called
  pub prefix_is : prefix ≡ spelled_all history
  pub answered : IsAnswered fixed history called before after readings

module _ {D C : Type 0} (disk : D → DiskState) (clock : C → ClockState) where
  -- what calls are answered by: the operator's name, whether the disk tells its contents and its count of faults, as
  -- the opening left it, and the moments of the clock
  abbrev pub house_of : Room D C → List ℕ
  house_of room =
      fixed_code room.operator (is_some (disk room.desk.opened).past) (disk room.desk.opened).faults
      (clock room.clock).moments

  -- that, and the disk as the opening left it, with the number of entries that it recovered
  abbrev pub fixed_of : Room D C → List ℕ
  fixed_of room =
      lock_code room.operator (disk room.desk.opened) room.desk.recovered (clock room.clock).moments

  -- the same operator, the same moments that the clock may give, the same disk as the opening left it, and as many
  -- entries recovered
  pub record SameStart (old new : Room D C) : Type 0 where
    pub operator : new.operator ≡ old.operator
    pub opened : disk new.desk.opened ≡ disk old.desk.opened
    pub recovered : new.desk.recovered ≡ old.desk.recovered
    pub moments : (clock new.clock).moments ≡ (clock old.clock).moments

  -- the history, the group in doubt and the count of faults are the desk's
  abbrev pub room_means : Meanings (Room D C)
  room_means = record {
    history = λ room. spelled_all room.desk.host.history;
    doubt = λ room. spelled_all room.desk.doubt;
    faults = λ room. room.desk.faults;
    reading = λ room. (clock room.clock).reading;
    readings = λ room. (clock room.clock).readings;
    fixed = fixed_of;
    answered = IsCoded;
    answer = kind_in;
    entry = λ fixed prefix code. entry_in code;
    moment = moment_in;
  }

  -- the entry of a repeat stands in the history on which it was answered
  pub room_repeats : RepeatsStand room_means
  room_repeats fixed prefix code before after readings answered is =
      repeat-stands fixed answered.history answered.called before after readings code prefix answered.code_is
      answered.prefix_is answered.answered is
