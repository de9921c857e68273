-- What a window shows of a disk.
use Rattle.std.specs.Prelude.{◌≡◌, ℕ, List, length, take, drop, IfSome}
use Rattle.tb_disk.specs.Past.{contents_of}
use Rattle.tb_disk.specs.Disks.{DiskState}

-- the bytes of a window, the place of the first of them, and the payload that was read last
pub record WindowView : Type 0 where
  pub from : ℕ
  pub bytes : List ℕ
  pub payload : List ℕ

-- these are so many bytes of a file from a place on, or all of them where there are fewer
abbrev pub AreAt : ℕ → ℕ → List ℕ → List ℕ → Type 0
AreAt place count bytes file = bytes ≡ take count (drop place file)

-- where the disk tells its contents, the window's bytes are those from its place on
abbrev pub Shows : DiskState → WindowView → Type 0
Shows disk window = IfSome disk.past (λ past. AreAt window.from (length window.bytes) window.bytes (contents_of past))
