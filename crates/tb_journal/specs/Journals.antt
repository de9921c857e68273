-- What a contract sees of a journal, and what holds of every journal.
use Rattle.std.specs.Prelude.{◌≡◌, ◌⊎◌, ℕ, ◌<◌, ◌≤◌, List, [], ◌∷◌, ◌++◌, length, take, Option, IfSome, refl}
use Rattle.std.specs.Coded.{Coded, code_by, coded×, coded_ℕ, coded_option}
use Rattle.tb_disk.specs.Past.{Past, contents_of, Leaves}
use Rattle.tb_disk.specs.Disks.{DiskState}
use Rattle.tb_journal.specs.Image.{StandsFor}
use Rattle.tb_journal.specs.Journal.{Told, KeepsAt}

-- the disk now and as the opening left it, the place of the gate byte, the ordinal of the frame that will stand there,
-- and where a payload may count or not the place of the gate byte behind it
pub record JournalView (D : Type 0) : Type 0 where
  pub disk : D
  pub opened : D
  pub gate : ℕ
  pub ordinal : ℕ
  pub doubt : Option ℕ

abbrev pub journal_code : {D : Type 0} → Coded D → Coded (JournalView D)
journal_code {D} disk =
    code_by (D × (D × (ℕ × (ℕ × Option ℕ))))
    (coded× disk (coded× disk (coded× coded_ℕ (coded× coded_ℕ (coded_option coded_ℕ)))))
    (λ v. (v.disk, (v.opened, (v.gate, (v.ordinal, v.doubt)))))
    (λ p. record { disk = p.0; opened = p.1.0; gate = p.1.1.0; ordinal = p.1.1.1.0; doubt = p.1.1.1.1 })
    (λ _. refl)

-- a file stands for a beginning of the payloads that has the recovered ones, or for such a beginning and one payload
-- more
pub record StandsForBeginning (recovered payloads : List (List ℕ)) (file : List ℕ) : Type 0 where
  pub kept : ℕ
  pub enough : length recovered ≤ kept
  pub within : kept ≤ length payloads
  pub stands : StandsFor (take kept payloads) file
      ⊎ ((payload : List ℕ) × StandsFor (take kept payloads ++ payload ∷ []) file)

-- What a journal knows of its disk since the opening. The payloads, so many, begin with those that the opening found,
-- the disk holds them, and each crash since left a beginning of them that has all that were found, or that and one
-- more.
pub record SinceOpening (gate ordinal : ℕ) (doubt : Option ℕ) (opened now : Past) : Type 0 where
  pub recovered : List (List ℕ)
  pub payloads : List (List ℕ)
  pub found : StandsFor recovered (contents_of opened)
  pub begins : take (length recovered) payloads ≡ recovered
  pub count : length payloads ≡ ordinal
  pub keeps : KeepsAt payloads gate doubt now
  pub leaves : Leaves (StandsForBeginning recovered payloads) opened now

-- what holds of every journal: there is room for the longest frame, no more frames than bytes stand before the gate,
-- a payload in doubt is behind it, and what it knows of its disk
pub record IsJournal (disk opened : DiskState) (gate ordinal : ℕ) (doubt : Option ℕ) (room : ℕ) : Type 0 where
  pub room_enough : 32781 ≤ room
  pub few : ordinal ≤ gate
  pub behind : IfSome doubt (λ next. gate < next)
  pub since : Told opened disk (SinceOpening gate ordinal doubt)
