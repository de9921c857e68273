-- The groups of a history on the disk of a desk, one after the other.
use Rattle.std.proofs.Common.{◌≡◌, ◌↔◌, ℕ, ◌+◌, ◌<◌, List, [], ◌∷◌, ◌++◌, length, take, drop, get_or, take-append-drop, refl, sym, ◌∙◌, ap, subst, arith, length-append, inl, inr}
use Rattle.std.specs.Prelude.{Option, Some, None, Result, Ok, Err, IfOk, IfSome, IsNone}
use Rattle.std.specs.List.{All}
use Rattle.std.proofs.lemmas.Bool.{cases_lt}
use Rattle.std.proofs.lemmas.List.{take-map, get_or-map, take_more, take_all, take_at, length-map}
use Rattle.std.proofs.lemmas.List.Concat.{flat_map-append}
use Rattle.tb_disk.specs.Past.{Past}
use Rattle.tb_disk.specs.Disks.{DiskState}
use Rattle.tb_journal.specs.declared.form.Form.TheVariants.{Second}
use Rattle.tb_journal.specs.Frames.{front}
use Rattle.tb_journal.specs.Journal.{Holds}
use Rattle.tb_journal.specs.Places.{IsPlaceIn, StandsAt, GivesFrame}
use Rattle.tb_journal.proofs.FrameLemmas.{front-shorter}
use Rattle.tb_journal.proofs.ToldLemmas.{known_of}
use Rattle.tb_message.specs.declared.message.Entry.{Entry}
use Rattle.tb_message.specs.Spelling.{spellings, IsInRange}
use Rattle.tb_history.specs.Legal.{IsLegal}
use Rattle.tb_desk.specs.Stands.{joined, payloads_of, HoldsAt, Stands}
use Rattle.tb_desk.specs.Walking.{IsBehind, GivesGroup}
use Rattle.tb_desk.proofs.GroupLemmas.{joined-push, length-front, IsLegal-in_range, All-append_left, All-append_right}
use Rattle.tb_desk.proofs.ReplayLemmas.{holds_reads}

-- ---- the first place

-- where nothing is in doubt, the disk holds the payloads
pub holds_sure : (payloads : List (List ℕ)) (doubt : List Entry) (gate : ℕ) (past : Past) → doubt ≡ []
    → HoldsAt payloads doubt gate past → Holds payloads gate past
holds_sure payloads [] gate past none holds = holds
holds_sure payloads (entry ∷ entries) gate past none holds = cc

-- the first frame stands at place 17
pub StandsAt-first : (disk : DiskState) (gate : ℕ) (next : Option ℕ) (history doubt : List Entry)
    → Stands disk gate next history doubt → doubt ≡ [] → StandsAt disk gate 17
StandsAt-first disk gate next history doubt stands none =
    let payloads : List (List ℕ) = payloads_of stands.groups in
    record {
      within = omega (arith, stands.place, length-front payloads);
      told = known_of (HoldsAt payloads doubt gate) (IsPlaceIn Second gate 17) disk.past
          (λ past holds. record {
            payloads = payloads;
            reads = holds_reads payloads gate past (holds_sure payloads doubt gate past none holds);
            count = 0;
            within = omega arith;
            is = length-front [];
          }) stands.told;
    }

-- and no entry stands before it
pub IsBehind-first : (disk : DiskState) (gate : ℕ) (next : Option ℕ) (history doubt : List Entry)
    → Stands disk gate next history doubt → doubt ≡ [] → IfSome disk.past (IsBehind history gate 17 0)
IsBehind-first disk gate next history doubt stands none =
    let payloads : List (List ℕ) = payloads_of stands.groups in
    known_of (HoldsAt payloads doubt gate) (IsBehind history gate 17 0) disk.past
    (λ past holds. record {
      groups = stands.groups;
      whole = stands.whole;
      sizes = stands.sizes;
      reads = holds_reads payloads gate past (holds_sure payloads doubt gate past none holds);
      count = 0;
      within = omega arith;
      is = length-front [];
      entries = refl;
    }) stands.told

-- ---- one group

-- the entries of the first groups are the first ones of the history
joined-take : (groups : List (List Entry)) (count : ℕ) (history : List Entry) (before : ℕ)
    → joined groups ≡ history → length (joined (take count groups)) ≡ before
    → take before history ≡ joined (take count groups)
joined-take groups count history before whole entries =
    let split : joined groups ≡ joined (take count groups) ++ joined (drop count groups) =
    ap (λ (list : List (List Entry)). joined list) (sym (take-append-drop count groups))
    ∙ flat_map-append (λ (group : List Entry). group) (take count groups) (drop count groups) in
    ap (λ (list : List Entry). take before list) (sym whole ∙ split)
    ∙ take_at (joined (take count groups)) (joined (drop count groups)) before entries

-- each of the first groups is in range
in_range-take : (groups : List (List Entry)) (count : ℕ) (history : List Entry) → joined groups ≡ history
    → IsLegal history → All IsInRange (joined (take count groups))
in_range-take groups count history whole legal =
    let split : history ≡ joined (take count groups) ++ joined (drop count groups) = sym whole
    ∙ (ap (λ (list : List (List Entry)). joined list) (sym (take-append-drop count groups))
    ∙ flat_map-append (λ (group : List Entry). group) (take count groups) (drop count groups)) in
    All-append_left (joined (take count groups)) (joined (drop count groups))
    (subst (λ (list : List Entry). All IsInRange list) split (IsLegal-in_range history legal))

-- the frame at a place has the group that follows on the entries before it
pub GivesGroup-frame : (history : List Entry) (gate place next before : ℕ) (payload : List ℕ) (past : Past)
    → IsLegal history → GivesFrame gate place payload next past → IsBehind history gate place before past
    → GivesGroup history gate before payload next past
GivesGroup-frame history gate place next before payload past legal gives behind =
    let groups : List (List Entry) = behind.groups in
    let count : ℕ = behind.count in
    let found =
    gives (payloads_of groups) count behind.reads (omega (arith, behind.within, length-map groups spellings))
    (ap (λ (list : List (List ℕ)). length (front list)) (take-map spellings count groups) ∙ behind.is) in
    let within : count < length groups = omega (arith, found.0, length-map groups spellings) in
    let group : List Entry = get_or groups count [] in
    let more : joined (take (count + 1) groups) ≡ joined (take count groups) ++ group =
    ap (λ (list : List (List Entry)). joined list) (take_more groups count [] within)
    ∙ joined-push (take count groups) group in
    let entries : length (joined (take (count + 1) groups)) ≡ before + length group = omega (
      arith,
      ap length more,
      length-append (joined (take count groups)) group,
      behind.entries,
    ) in
    record {
      group = group;
      some = behind.sizes count [] within;
      in_range = All-append_right (joined (take count groups)) group
          (subst (λ (list : List Entry). All IsInRange list) more
          (in_range-take groups (count + 1) history behind.whole legal));
      is = found.1 ∙ get_or-map spellings groups count [] [] within;
      goes_on = joined-take groups (count + 1) history (before + length group) behind.whole entries
          ∙ (more
          ∙ ap (λ (list : List Entry). list ++ group)
          (sym (joined-take groups count history before behind.whole behind.entries)));
      behind = record {
        groups = groups;
        whole = behind.whole;
        sizes = behind.sizes;
        reads = behind.reads;
        count = count + 1;
        within = omega (arith, within);
        is = ap (λ (list : List (List ℕ)). length (front list)) (sym (take-map spellings (count + 1) groups))
            ∙ sym found.2;
        entries = entries;
      };
    }

-- at the gate all entries stand before
pub IsBehind-all : (history : List Entry) (gate place before : ℕ) (past : Past) → place ≡ gate
    → IsBehind history gate place before past → before ≡ length history
IsBehind-all history gate place before past end_ behind =
    let groups : List (List Entry) = behind.groups in
    let count : ℕ = behind.count in
    elim (cases_lt count (length groups)) [
      | inl less ↦ absurd (omega (
        arith,
        front-shorter Second (payloads_of groups) count (omega (arith, less, length-map groups spellings)),
        ap (λ (list : List (List ℕ)). length (front list)) (take-map spellings count groups),
        behind.is,
        behind.reads.place,
        end_,
      ))
      | inr most ↦
          sym behind.entries
          ∙ ap (λ (list : List Entry). length list)
          (ap (λ (list : List (List Entry)). joined list) (take_all count groups most) ∙ behind.whole)
    ]

-- ---- clauses of a call

-- what is given with a frame, where the disk tells its contents
pub given_more : {E : Type 0} (result : Result (Option (ℕ × ℕ)) E) (past : Option Past) (P Q : ℕ → Past → Type 0)
    → IfOk result (λ found. IfSome found (λ frame. IfSome past (P frame.1)))
    → ((next : ℕ) (told : Past) → P next told → Q next told)
    → IfOk result (λ found. IfSome found (λ frame. IfSome past (Q frame.1)))
given_more (Ok (Some frame)) (Some told) P Q given more = more frame.1 told given
given_more (Ok (Some frame)) None P Q given more = tt
given_more (Ok None) past P Q given more = tt
given_more (Err fault) past P Q given more = tt

-- what is known where no frame is given
pub none_more : {E : Type 0} (result : Result (Option (ℕ × ℕ)) E) (past : Option Past) (place gate : ℕ)
    (Q : Past → Type 0)
    → IfOk result (λ found. IsNone found ↔ (place ≡ gate))
    → ((told : Past) → place ≡ gate → Q told)
    → IfOk result (λ found. IsNone found → IfSome past Q)
none_more (Ok found) (Some told) place gate Q end_ more = λ none. more told (end_.0 none)
none_more (Ok found) None place gate Q end_ more = λ none. tt
none_more (Err fault) past place gate Q end_ more = tt
