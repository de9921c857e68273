-- How little a journal's calls leave behind its gate.
use Rattle.std.proofs.Common.{◌≡◌, ℕ, ◌+◌, ◌≤◌, max, List, [], ◌∷◌, ◌++◌, length, take, drop, sym, subst, inl, inr, arith, length-append, length-take, length-drop}
use Rattle.tb_disk.specs.Steps.{Step, Wrote, Tore, Synced, Torn, over}
use Rattle.tb_disk.specs.Past.{Past, Then, contents_of, Leaves}
use Rattle.tb_disk.proofs.Moments.{Leaves-start, Leaves-step}
use Rattle.tb_journal.specs.declared.form.Form.TheVariants.{Second}
use Rattle.tb_journal.specs.Frames.{IsPayload, closed_gate, framed, open_gate}
use Rattle.tb_journal.specs.Journal.{AddsInPart, WritesInPart, opened_past, staged_past}
use Rattle.tb_journal.specs.Opening.{empty_journal, made_past}
use Rattle.tb_journal.specs.Behind.{EndsNear, ReachesLittle, most_behind}
use Rattle.tb_journal.proofs.OpeningLemmas.{length-empty}
use Rattle.tb_journal.proofs.Spelling.{length-framed}

-- a file that is written over ends where it ended, or where the bytes do
length-over : (place : ℕ) (bytes file : List ℕ) → length (over place bytes file) ≤ max (length file) (place + length bytes)
length-over place bytes file =
    omega (
      arith,
      length-append (take place file) (bytes ++ drop (place + length bytes) file),
      length-append bytes (drop (place + length bytes) file),
      length-take place file,
      length-drop (place + length bytes) file,
    )

-- a write that ends near the gate leaves the file near it
pub near_wrote : (gate place : ℕ) (bytes : List ℕ) (before : Past)
    → place + length bytes ≤ gate + 1 + most_behind
    → ReachesLittle gate before
    → ReachesLittle gate (Then (Wrote place bytes) before)
near_wrote gate place bytes before short near = record {
  contents = omega (arith, short, near.contents, length-over place bytes (contents_of before));
  images = λ image left. omega (arith, short, near.images left.0 left.1, left.2.no_longer);
}

-- a write that failed leaves it no further
pub near_tore : (gate place count : ℕ) (left : List ℕ) (before : Past)
    → place + count ≤ gate + 1 + most_behind
    → Torn place count (place + count) (contents_of before) left
    → ReachesLittle gate before
    → ReachesLittle gate (Then (Tore place count left) before)
near_tore gate place count left before short torn near = record {
  contents = omega (arith, short, near.contents, torn.no_longer);
  images = λ image after. omega (
    arith,
    short,
    near.contents,
    near.images after.0 after.1,
    after.2.no_longer,
    torn.no_longer,
  );
}

-- a sync leaves it where it is
pub near_synced : (gate : ℕ) (before : Past) → ReachesLittle gate before → ReachesLittle gate (Then Synced before)
near_synced gate before near = record {
  contents = near.contents;
  images = λ image is. subst (EndsNear gate) (sym is) near.contents;
}

-- what is near a gate is near each gate behind it
pub near_further : (gate next : ℕ) (past : Past) → gate ≤ next → ReachesLittle gate past → ReachesLittle next past
near_further gate next past later near = record {
  contents = omega (arith, later, near.contents);
  images = λ image left. omega (arith, later, near.images image left);
}

-- a run of steps that left the file near the gate, and each crash meanwhile too
pub record StaysNear (gate : ℕ) (before now : Past) : Type 0 where
  pub reaches : ReachesLittle gate now
  pub leaves : Leaves (EndsNear gate) before now

-- no step yet
near_start : (gate : ℕ) (past : Past) → ReachesLittle gate past → StaysNear gate past past
near_start gate past near = record { reaches = near; leaves = Leaves-start (EndsNear gate) past near.images }

-- one step more
near_step : (gate : ℕ) (before mid : Past) (step : Step)
    → StaysNear gate before mid
    → ReachesLittle gate (Then step mid)
    → StaysNear gate before (Then step mid)
near_step gate before mid step so_far near = record {
  reaches = near;
  leaves = Leaves-step (EndsNear gate) before mid step so_far.leaves near.images;
}

-- how many bytes a frame and a closed gate are
length-staged : (ordinal : ℕ) (payload : List ℕ)
    → length (framed ordinal payload ++ closed_gate ∷ []) ≡ 13 + length payload
length-staged ordinal payload =
    omega (arith, length-append (framed ordinal payload) (closed_gate ∷ []), length-framed Second ordinal payload)

-- a frame that is written behind the gate ends near it
staged_short : (gate ordinal : ℕ) (payload : List ℕ)
    → IsPayload payload
    → gate + 1 + length (framed ordinal payload ++ closed_gate ∷ []) ≤ gate + 1 + most_behind
staged_short gate ordinal payload size = omega (arith, size.short, length-staged ordinal payload)

-- a frame was staged
pub near_staged : (payload : List ℕ) (ordinal gate : ℕ) (before : Past)
    → IsPayload payload
    → ReachesLittle gate before
    → StaysNear gate before (staged_past ordinal payload gate before)
near_staged payload ordinal gate before size near =
    let bytes : List ℕ = framed ordinal payload ++ closed_gate ∷ [] in
    let wrote = near_wrote gate (gate + 1) bytes before (staged_short gate ordinal payload size) near in
    near_step gate before (Then (Wrote (gate + 1) bytes) before) Synced
    (near_step gate before before (Wrote (gate + 1) bytes) (near_start gate before near) wrote)
    (near_synced gate (Then (Wrote (gate + 1) bytes) before) wrote)

-- its gate was opened
pub near_opened : (gate : ℕ) (before mid : Past)
    → StaysNear gate before mid
    → StaysNear gate before (opened_past gate mid)
near_opened gate before mid so_far =
    let bytes : List ℕ = open_gate ∷ [] in
    let wrote = near_wrote gate gate bytes mid (omega arith) so_far.reaches in
    near_step gate before (Then (Wrote gate bytes) mid) Synced
    (near_step gate before mid (Wrote gate bytes) so_far wrote) (near_synced gate (Then (Wrote gate bytes) mid) wrote)

-- a write and its sync were made in part
near_in_part : (gate place : ℕ) (bytes : List ℕ) (before mid now : Past)
    → place + length bytes ≤ gate + 1 + most_behind
    → StaysNear gate before mid
    → WritesInPart place bytes mid now
    → StaysNear gate before now
near_in_part gate place bytes before mid now short so_far part = elim part [
  | inl nothing ↦ subst (StaysNear gate before) (sym nothing) so_far
  | inr (inl torn) ↦ subst (StaysNear gate before) (sym torn.2)
      (near_step gate before mid (Tore place (length bytes) torn.0) so_far
      (near_tore gate place (length bytes) torn.0 mid short torn.1 so_far.reaches))
  | inr (inr wrote) ↦ subst (StaysNear gate before) (sym wrote)
      (near_step gate before mid (Wrote place bytes) so_far (near_wrote gate place bytes mid short so_far.reaches))
]

-- a payload was added
pub near_added : (payload : List ℕ) (ordinal gate : ℕ) (before : Past)
    → IsPayload payload
    → ReachesLittle gate before
    → StaysNear gate before (opened_past gate (staged_past ordinal payload gate before))
near_added payload ordinal gate before size near =
    near_opened gate before (staged_past ordinal payload gate before)
    (near_staged payload ordinal gate before size near)

-- a payload was added in part
pub near_added_in_part : (payload : List ℕ) (ordinal gate : ℕ) (before now : Past)
    → IsPayload payload
    → ReachesLittle gate before
    → AddsInPart ordinal payload gate before now
    → StaysNear gate before now
near_added_in_part payload ordinal gate before now size near part = elim part [
  | inl staging ↦ near_in_part gate (gate + 1) (framed ordinal payload ++ closed_gate ∷ []) before before now
      (staged_short gate ordinal payload size) (near_start gate before near) staging
  | inr opening ↦ near_in_part gate gate (open_gate ∷ []) before (staged_past ordinal payload gate before) now
      (omega arith) (near_staged payload ordinal gate before size near) opening
]

-- an empty journal that was made over at most 18 bytes
pub near_made : (before : Past)
    → length (contents_of before) ≤ 18
    → ReachesLittle 17 (made_past (Then Synced before))
near_made before short =
    let synced : ReachesLittle 17 (Then Synced before) = record {
      contents = omega (arith, short);
      images = λ image is. subst (EndsNear 17) (sym is) (omega (arith, short));
    } in
    near_synced 17 (Then (Wrote 0 empty_journal) (Then Synced before))
    (near_wrote 17 0 empty_journal (Then Synced before) (omega (arith, length-empty)) synced)
