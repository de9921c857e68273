-- Of the answers that speak of a file one at most is true.
use Rattle.std.proofs.Common.{◌≡◌, ℕ, ◌≤◌, List, [], refl, sym, ◌∙◌, ap, arith, length-append, Ok, Err, IfSome}
use Rattle.tb_disk.specs.Past.{Past, contents_of}
use Rattle.tb_disk.specs.Disks.{DiskState}
use Rattle.tb_journal.specs.declared.form.Form.{Form}
use Rattle.tb_journal.specs.declared.form.Form.TheVariants.{First, Second}
use Rattle.tb_journal.specs.Image.{StandsIn, IsForeignTo, IsDamagedIn}
use Rattle.tb_journal.specs.Answers.{Answer, IsTrueIn, IsUnsealedIn, SpeaksOfFile, IsExactIn, IsExactAtIn}
use Rattle.tb_journal.specs.declared.fault.JournalFault.TheVariants.{DiskFault, NotAJournal, Unsealed, Damaged, OutOfMemory}
use Rattle.tb_journal.specs.Frames.{header_of, first_place, frames_in}
use Rattle.tb_journal.specs.Journal.{Told}
use Rattle.tb_journal.specs.Places.{ReadsTo, IsPlaceIn, StandsAtIn}
use Rattle.tb_journal.proofs.Gates.{length-header}
use Rattle.tb_journal.proofs.ToldLemmas.{told_before, told_after}
use Rattle.tb_journal.proofs.Spelling.{StandsIn-one, StandsIn-journal, StandsIn-sealed, StandsIn-whole, IsDamagedIn-journal, IsDamagedIn-sealed, IsDamagedIn-one}

-- an unsealed file stands for no list, is a journal and isn't damaged
pub unsealed_stands : (form : Form) (file : List ℕ) (byte : ℕ) (payloads : List (List ℕ)) → IsUnsealedIn form file byte
    → StandsIn form payloads file → ⊥
unsealed_stands First file byte payloads is also = elim is [ ]
unsealed_stands Second file byte payloads is also = StandsIn-sealed payloads file byte also is

pub unsealed_foreign : (form : Form) (file : List ℕ) (byte : ℕ) (found : List ℕ) → IsUnsealedIn form file byte
    → IsForeignTo form file found → ⊥
unsealed_foreign First file byte found is also = elim is [ ]
unsealed_foreign Second file byte found is also = also.differs (also.begins ∙ is.begins)

pub unsealed_damaged : (form : Form) (file : List ℕ) (byte place : ℕ) → IsUnsealedIn form file byte
    → IsDamagedIn form file place → ⊥
unsealed_damaged First file byte place is also = elim is [ ]
unsealed_damaged Second file byte place is also = IsDamagedIn-sealed file byte place also is

pub unsealed_one : (form : Form) (file : List ℕ) (byte other : ℕ) → IsUnsealedIn form file byte
    → IsUnsealedIn form file other → byte ≡ other
unsealed_one First file byte other is also = elim is [ ]
unsealed_one Second file byte other is also = sym is.is ∙ also.is

-- a true answer is the only one
one_answer : (form : Form) (file : List ℕ) (answer other : Answer) → IsTrueIn form file answer
    → IsTrueIn form file other → SpeaksOfFile other → SpeaksOfFile answer → answer ≡ other
one_answer form file answer (Err DiskFault) is also speaks here = absurd (speaks.0 refl)
one_answer form file answer (Err OutOfMemory) is also speaks here = absurd (speaks.1 refl)
one_answer form file (Err DiskFault) other is also speaks here = absurd (here.0 refl)
one_answer form file (Err OutOfMemory) other is also speaks here = absurd (here.1 refl)
one_answer form file (Ok payloads) (Ok others) is also speaks here =
    ap Ok (StandsIn-one form payloads others file is also)
one_answer form file (Ok payloads) (Err (NotAJournal found)) is also speaks here =
    absurd (StandsIn-journal form payloads file found is also)
one_answer form file (Ok payloads) (Err (Unsealed byte)) is also speaks here =
    absurd (unsealed_stands form file byte payloads also is)
one_answer form file (Ok payloads) (Err (Damaged place)) is also speaks here =
    absurd (StandsIn-whole form payloads file place is also)
one_answer form file (Err (NotAJournal found)) (Ok others) is also speaks here =
    absurd (StandsIn-journal form others file found also is)
one_answer form file (Err (NotAJournal found)) (Err (NotAJournal seen)) is also speaks here =
    ap (λ (list : List ℕ). Err (NotAJournal list)) (is.begins ∙ sym also.begins)
one_answer form file (Err (NotAJournal found)) (Err (Unsealed byte)) is also speaks here =
    absurd (unsealed_foreign form file byte found also is)
one_answer form file (Err (NotAJournal found)) (Err (Damaged place)) is also speaks here =
    absurd (IsDamagedIn-journal form file found place also is)
one_answer form file (Err (Unsealed byte)) (Ok others) is also speaks here =
    absurd (unsealed_stands form file byte others is also)
one_answer form file (Err (Unsealed byte)) (Err (NotAJournal found)) is also speaks here =
    absurd (unsealed_foreign form file byte found is also)
one_answer form file (Err (Unsealed byte)) (Err (Unsealed seen)) is also speaks here =
    ap (λ (b : ℕ). Err (Unsealed b)) (unsealed_one form file byte seen is also)
one_answer form file (Err (Unsealed byte)) (Err (Damaged place)) is also speaks here =
    absurd (unsealed_damaged form file byte place is also)
one_answer form file (Err (Damaged place)) (Ok others) is also speaks here =
    absurd (StandsIn-whole form others file place also is)
one_answer form file (Err (Damaged place)) (Err (NotAJournal found)) is also speaks here =
    absurd (IsDamagedIn-journal form file found place is also)
one_answer form file (Err (Damaged place)) (Err (Unsealed byte)) is also speaks here =
    absurd (unsealed_damaged form file byte place also is)
one_answer form file (Err (Damaged place)) (Err (Damaged other)) is also speaks here =
    ap (λ (at : ℕ). Err (Damaged at)) (IsDamagedIn-one form file place other is also)

-- what is true is exact
pub IsExactIn-true : (form : Form) (file : List ℕ) (answer : Answer) → IsTrueIn form file answer
    → IsExactIn form file answer
IsExactIn-true form file answer is = record {
  is_true = is;
  only = λ other also speaks here. one_answer form file answer other is also speaks here;
}

-- what is told of the disk as it was
pub exact_told : (form : Form) (answer : Answer) (P : Past → Past → Type 0) (old new : DiskState)
    → ((before now : Past) → P before now → IsTrueIn form (contents_of before) answer) → Told old new P
    → IfSome old.past (λ past. IsExactIn form (contents_of past) answer)
exact_told form answer P old new is_true told =
    told_before P (λ past. IsExactIn form (contents_of past) answer) old new
    (λ before now is. IsExactIn-true form (contents_of before) answer (is_true before now is)) told

-- where the file reads to the gate, that is exact
pub exact_at : (form : Form) (gate : ℕ) (P : Past → Past → Type 0) (old new : DiskState)
    → ((before now : Past) → P before now
    → (payloads : List (List ℕ)) × ReadsTo form payloads gate (contents_of before))
    → Told old new P → IfSome old.past (λ past. IsExactAtIn form gate (contents_of past))
exact_at form gate P old new reads told = told_before P (λ past. IsExactAtIn form gate (contents_of past)) old new
    (λ before now is. (let found = reads before now is in record {
      payloads = found.0;
      place = found.1.place;
      exact = IsExactIn-true form (contents_of before) (Ok found.0) found.1.stands;
    })) told

-- where the file reads to the gate, the first frame stands behind the header, or the gate does
pub first_place-stands : (form : Form) (gate : ℕ) (P : Past → Past → Type 0) (old new : DiskState)
    → first_place form ≤ gate
    → ((before now : Past) → P before now
    → (payloads : List (List ℕ)) × ReadsTo form payloads gate (contents_of now))
    → Told old new P → StandsAtIn form new gate (first_place form)
first_place-stands form gate P old new behind reads told = record {
  within = behind;
  told = told_after P (IsPlaceIn form gate (first_place form)) old new
      (λ before now is. (let found = reads before now is in record {
        payloads = found.0;
        reads = found.1;
        count = 0;
        within = omega arith;
        is = omega (arith, length-append (header_of form) (frames_in form 0 []), length-header form);
      })) told;
}
