-- The forms of members and fields, and their values.
use Rattle.std.specs.Prelude.{Option, Some, None, if◌then◌else◌, ℕ, ◌^◌, ◌==◌, ℤ, List, length}
use Rattle.std.specs.Prelude.{Bool, false, ◌&&◌, nat_le, nat_lt, unsigned_abs}
use Rattle.std.specs.Int.{Width, w32, w64}
use Rattle.tb_units.specs.Names.{is_name}
use Rattle.tb_message.specs.declared.version.Version.{Version}
use Rattle.tb_message.specs.declared.version.Version.TheVariants.{First, Second}

pub data Form : Type 0 where
  name : Form
  cusip : Form
  amount : Form
  money : Form
  number : Form
  position : Form
  rate : Form
  day : Form
  minute : Form
  moment : Version → Form

-- the width of a moment in a record: four bytes in the first version of the journal, eight in the second
abbrev pub width_of : Version → Width
width_of First = w32
width_of Second = w64

-- a value of one of the forms: a rate by its steps, a day by its number, a moment by its seconds
pub data Part : Type 0 where
  text : List ℕ → Part
  whole : ℕ → Part
  signed : ℤ → Part

-- the range of each form
abbrev pub is_of : Form → Part → Bool
is_of name (text t) = is_name t
is_of cusip (text t) = length t == 9
is_of amount (whole n) = nat_le n (10 ^ 12)
is_of money (whole n) = nat_le 1 n && nat_le n (10 ^ 14)
is_of number (whole n) = nat_le 1 n && nat_le n (10 ^ 15)
is_of position (signed z) = nat_le (unsigned_abs z) (10 ^ 12)
is_of rate (whole n) = nat_le n 199999
is_of day (whole n) = nat_le 10957 n && nat_le n 47481
is_of minute (whole n) = nat_lt n 1440
is_of (moment version) (whole n) = nat_le 946702800 n && nat_le n 4102444799
is_of form part = false

-- the value, if it is in the range of the form
abbrev pub in_range : Form → Part → Option Part
in_range form part = if is_of form part then Some part else None
