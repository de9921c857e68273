-- The past that a log tells.
use Rattle.std.specs.Prelude.{ℕ, ◌+◌, ◌*◌, ◌≤◌, vec_len}
use Rattle.tb_disk.specs.Past.{Past, Began}
use Rattle.tb_disk.specs.Notes.{after_notes}
use Rattle.tb_disk.specs.declared.log.Log.{Log}

-- the past of a disk in memory whose failed writes leave this torn byte
abbrev pub recorded : ℕ → Log → Past
recorded torn log = after_notes torn (Began log.first.items) log.notes.items log.written.items

-- how much of its room the calls have taken: 32 bytes each, and as many more as they wrote
abbrev pub taken_of : Log → ℕ
taken_of log = 32 * vec_len log.notes + vec_len log.written

-- there is room for a call that writes so many bytes
abbrev pub HasRoom : Log → ℕ → Type 0
HasRoom log size = taken_of log + 32 + size ≤ log.room
