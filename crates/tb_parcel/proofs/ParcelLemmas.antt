-- What bytes begin with.
use Rattle.std.proofs.Common.{◌≡◌, ◌≢◌, ◌⊎◌, inl, inr, ℕ, ◌+◌, ◌<◌, ◌≤◌, List, [], ◌++◌, length, take, drop, refl, ap, sym, ◌∙◌, subst, arith, append_assoc, length-append, append-nil, take-append-drop, length-take, ◌-◌}
use Rattle.std.proofs.lemmas.List.{nil_from_length, length-drop}
use Rattle.std.specs.Int.{w32, w64, to_be_bytes, from_be_bytes}
use Rattle.std.proofs.lemmas.List.{take_at, drop_at}
use Rattle.std.proofs.lemmas.Nat.{from_be_bytes-to_be_bytes_4}
use Rattle.tb_message.specs.declared.message.Entry.{Entry}
use Rattle.tb_message.specs.Spelling.{spelling, IsInRange, IsTaken}
use Rattle.tb_message.proofs.RecordLaws.{spelling-begins, spelling-sizes}
use Rattle.tb_parcel.specs.declared.parcel.Parcel.{Parcel}
use Rattle.tb_parcel.specs.Parcels.{BeginsWith, BeginsWithNone, IsShort, length_in}

-- bytes in three parts, and what follows
pub record Starts (bytes : List ℕ) (parcel : Parcel) (size : ℕ) : Type 0 where
  pub sizes : (1 ≤ length (spelling parcel.entry)) × (length (spelling parcel.entry) ≤ 512)
  pub says : length_in bytes ≡ length (spelling parcel.entry)
  pub enough : 12 + length (spelling parcel.entry) ≤ length bytes
  pub record_is : take (length (spelling parcel.entry)) (drop 8 (drop 4 bytes)) ≡ spelling parcel.entry

pub starts : (bytes : List ℕ) (parcel : Parcel) (size : ℕ)
    → BeginsWith bytes parcel size
    → Starts bytes parcel size
starts bytes parcel size begins =
    let s = spelling parcel.entry in
    let a = to_be_bytes w32 (length s) in
    let b = to_be_bytes w64 parcel.place in
    let more = drop size bytes in
    let sizes = spelling-sizes parcel.entry begins.in_range in
    let is : bytes ≡ a ++ (b ++ (s ++ more)) =
    begins.begins ∙ append_assoc a (b ++ s) more ∙ ap (λ (x : List ℕ). a ++ x) (append_assoc b s more) in
    let without_length : drop 4 bytes ≡ b ++ (s ++ more) =
    ap (λ (x : List ℕ). drop 4 x) is ∙ drop_at a (b ++ (s ++ more)) 4 refl in
    let without_place : drop 8 (drop 4 bytes) ≡ s ++ more =
    ap (λ (x : List ℕ). drop 8 x) without_length ∙ drop_at b (s ++ more) 8 refl in
    record {
      sizes = sizes;
      says = ap (λ (x : List ℕ). from_be_bytes w32 (take 4 x)) is
          ∙ ap (λ (x : List ℕ). from_be_bytes w32 x) (take_at a (b ++ (s ++ more)) 4 refl)
          ∙ from_be_bytes-to_be_bytes_4 (length s) (omega (arith, sizes.1));
      enough =
          let whole : length bytes ≡ 4 + (8 + (length s + length more)) =
          ap (λ (x : List ℕ). length x) is
          ∙ length-append a (b ++ (s ++ more))
          ∙ ap (λ (n : ℕ). 4 + n) (length-append b (s ++ more) ∙ ap (λ (n : ℕ). 8 + n) (length-append s more)) in
          omega arith;
      record_is = ap (λ (x : List ℕ). take (length s) x) without_place ∙ take_at s more (length s) refl;
    }

-- too few bytes, or a length that no record has
pub none_few : (bytes : List ℕ) → length bytes < 4 → BeginsWithNone bytes
none_few bytes few parcel size begins = omega (arith, (starts bytes parcel size begins).enough)

pub none_sized : (bytes : List ℕ) → (length_in bytes < 1) ⊎ (512 < length_in bytes) → BeginsWithNone bytes
none_sized bytes outside parcel size begins =
    let found = starts bytes parcel size begins in
    elim outside [
      | inl low ↦ omega (arith, found.says, found.sizes.0)
      | inr high ↦ omega (arith, found.says, found.sizes.1)
    ]

pub none_short : (bytes : List ℕ) → length bytes < 12 + length_in bytes → BeginsWithNone bytes
none_short bytes short parcel size begins =
    let found = starts bytes parcel size begins in
    omega (arith, found.says, found.enough)

-- bytes in which no record of that length stands
pub none_unread : (bytes : List ℕ)
    → ((entry : Entry) → IsInRange entry → (rest : List ℕ)
    → take (length_in bytes) (drop 8 (drop 4 bytes)) ≢ spelling entry ++ rest)
    → BeginsWithNone bytes
none_unread bytes none parcel size begins =
    let found = starts bytes parcel size begins in
    none parcel.entry begins.in_range []
    (ap (λ (n : ℕ). take n (drop 8 (drop 4 bytes))) found.says ∙ found.record_is
    ∙ sym (append-nil (spelling parcel.entry)))

pub none_shorter : (bytes : List ℕ) (entry : Entry) (used : ℕ)
    → IsTaken (take (length_in bytes) (drop 8 (drop 4 bytes))) entry used
    → used ≢ length_in bytes
    → BeginsWithNone bytes
none_shorter bytes entry used taken differs parcel size begins =
    let found = starts bytes parcel size begins in
    let read = take (length_in bytes) (drop 8 (drop 4 bytes)) in
    let is : read ≡ spelling parcel.entry ++ [] =
    ap (λ (n : ℕ). take n (drop 8 (drop 4 bytes))) found.says ∙ found.record_is
    ∙ sym (append-nil (spelling parcel.entry)) in
    let one = spelling-begins entry parcel.entry (drop used read) [] taken.in_range begins.in_range
    (sym taken.begins ∙ is) in
    differs (taken.whole ∙ ap (λ (e : Entry). length (spelling e)) one.0 ∙ sym found.says)

-- not too few
pub not_short : (bytes : List ℕ)
    → 4 ≤ length bytes
    → (length_in bytes < 1) ⊎ (512 < length_in bytes) ⊎ (12 + length_in bytes ≤ length bytes)
    → ¬ (IsShort bytes)
not_short bytes four outside short =
    elim short [
      | inl few ↦ omega arith
      | inr less ↦
          elim outside [
            | inl low ↦ omega (arith, less.0)
            | inr rest ↦ elim rest [
              | inl high ↦ omega (arith, less.1)
              | inr enough ↦ omega (arith, less.2)
            ]
          ]
    ]

-- what was read
pub begins_read : (bytes : List ℕ) (place : ℕ) (entry : Entry) (size : ℕ) (parcel : Parcel)
    → parcel.place ≡ place
    → parcel.entry ≡ entry
    → IsTaken (take size (drop 8 (drop 4 bytes))) entry size
    → 12 + size ≤ length bytes
    → take 4 bytes ≡ to_be_bytes w32 size
    → take 8 (drop 4 bytes) ≡ to_be_bytes w64 place
    → BeginsWith bytes parcel (12 + size)
begins_read bytes place entry size parcel place_same entry_same taken enough size_is place_is =
    let r = drop 8 (drop 4 bytes) in
    let read = take size r in
    let more = drop size r in
    let s = spelling parcel.entry in
    let a = to_be_bytes w32 (length s) in
    let b = to_be_bytes w64 parcel.place in
    let rest_length : length r ≡ length bytes - 12 =
    omega (arith, length-drop 8 (drop 4 bytes), length-drop 4 bytes) in
    let read_length : length read ≡ size = omega (arith, length-take size r, rest_length) in
    let nothing : drop size read ≡ [] =
    nil_from_length (drop size read) (omega (arith, length-drop size read, read_length)) in
    let same : spelling entry ≡ s = ap (λ (e : Entry). spelling e) (sym entry_same) in
    let read_is : read ≡ s =
    taken.begins ∙ ap (λ (x : List ℕ). spelling entry ++ x) nothing ∙ append-nil (spelling entry) ∙ same in
    let long : length s ≡ size = ap (λ (x : List ℕ). length x) (sym read_is) ∙ read_length in
    let is : bytes ≡ a ++ (b ++ (s ++ more)) =
    sym (take-append-drop 4 bytes)
    ∙ ap (λ (x : List ℕ). x ++ drop 4 bytes) (size_is ∙ ap (λ (n : ℕ). to_be_bytes w32 n) (sym long))
    ∙ ap (λ (x : List ℕ). a ++ x)
    (sym (take-append-drop 8 (drop 4 bytes))
    ∙ ap (λ (x : List ℕ). x ++ r) (place_is ∙ ap (λ (n : ℕ). to_be_bytes w64 n) (sym place_same))
    ∙ ap (λ (x : List ℕ). b ++ x) (sym (take-append-drop size r) ∙ ap (λ (x : List ℕ). x ++ more) read_is)) in
    let flat : bytes ≡ (a ++ (b ++ s)) ++ more =
    is ∙ ap (λ (x : List ℕ). a ++ x) (sym (append_assoc b s more)) ∙ sym (append_assoc a (b ++ s) more) in
    let whole : length (a ++ (b ++ s)) ≡ 12 + size =
    length-append a (b ++ s) ∙ ap (λ (n : ℕ). 4 + n) (length-append b s ∙ ap (λ (n : ℕ). 8 + n) long) ∙ omega arith in
    let left : drop (12 + size) bytes ≡ more =
    ap (λ (x : List ℕ). drop (12 + size) x) flat ∙ drop_at (a ++ (b ++ s)) more (12 + size) whole in
    record {
      in_range = subst IsInRange (sym entry_same) taken.in_range;
      begins = flat ∙ ap (λ (x : List ℕ). (a ++ (b ++ s)) ++ x) (sym left);
      whole = sym whole;
    }
