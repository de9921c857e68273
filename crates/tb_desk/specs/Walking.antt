-- The groups of a history, read one after the other from the disk.
use Rattle.std.specs.Prelude.{◌≡◌, ℕ, ◌+◌, ◌≤◌, List, ◌++◌, length, take}
use Rattle.std.specs.List.{All}
use Rattle.tb_disk.specs.Past.{Past, contents_of}
use Rattle.tb_journal.specs.Frames.{front}
use Rattle.tb_journal.specs.declared.form.Form.TheVariants.{Second}
use Rattle.tb_journal.specs.Places.{ReadsTo}
use Rattle.tb_message.specs.declared.message.Entry.{Entry}
use Rattle.tb_message.specs.Spelling.{spellings, IsInRange}
use Rattle.tb_desk.specs.Stands.{joined, payloads_of, IsGroup}

-- The file's payloads are groups that make up the history, and those before this place have so many entries.
pub record IsBehind (history : List Entry) (gate place before : ℕ) (past : Past) : Type 0 where
  pub groups : List (List Entry)
  pub whole : joined groups ≡ history
  pub sizes : All IsGroup groups
  pub reads : ReadsTo Second (payloads_of groups) gate (contents_of past)
  pub count : ℕ
  pub within : count ≤ length groups
  pub is : length (front (payloads_of (take count groups))) ≡ place
  pub entries : length (joined (take count groups)) ≡ before

-- The payload is the group that follows on so many entries of the history, and the next place is behind it.
pub record GivesGroup (history : List Entry) (gate before : ℕ) (payload : List ℕ) (next : ℕ) (past : Past) : Type 0
  where
    pub group : List Entry
    pub some : IsGroup group
    pub in_range : All IsInRange group
    pub is : payload ≡ spellings group
    pub goes_on : take (before + length group) history ≡ take before history ++ group
    pub behind : IsBehind history gate next (before + length group) past
