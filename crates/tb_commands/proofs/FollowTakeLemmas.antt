-- What `follow take` takes, parcel by parcel.
use Rattle.std.proofs.Common.{◌≡◌, inl, inr, ℕ, ◌+◌, ◌<◌, ◌≤◌, List, [], ◌∷◌, ◌++◌, length, refl, ap, sym, ◌∙◌, subst, arith, append-nil, append_assoc, length-append}
use Rattle.std.specs.Prelude.{Bool, false, Option, Some, None, Ok, Err}
use Rattle.std.proofs.lemmas.Grind.{flat_map-append}
use Rattle.std.proofs.lemmas.List.{append_cancel_left}
use Rattle.std.proofs.lemmas.List.Elements.{All-nil, All-push}
use Rattle.tb_link.specs.Sources.{SourceState, before_left}
use Rattle.tb_message.specs.declared.message.Entry.{Entry}
use Rattle.tb_message.specs.Spelling.{IsInRange}
use Rattle.tb_message.proofs.RecordLaws.{spelling-sizes}
use Rattle.tb_parcel.specs.declared.parcel.Parcel.{Parcel}
use Rattle.tb_parcel.specs.Parcels.{parcel_bytes}
use Rattle.tb_replica.specs.Arrival.{AreTaken}
use Rattle.tb_replica.specs.Followers.{IsFresh}
use Rattle.tb_replica.specs.Following.{Following, Takes}
use Rattle.tb_replica.specs.declared.taken.Taken.{Taken}
use Rattle.tb_replica.specs.declared.taken.TakeFault.{TakeFault}
use Rattle.tb_commands.specs.FollowTakeRun.{AreParcels, BreaksOff, HasCome, HasTaken, IsSureSince, LeavesInDoubt}
use Rattle.tb_commands.specs.FollowTakeRun.{ReadsBehind, TakesAll, TakesBefore, TakesFirst, TakesWhole}
use Rattle.tb_commands.specs.FollowTakeRun.{bytes_of, most_parcels}
use Rattle.tb_commands.specs.ParcelInput.{FindsWhereTold, ReadsFront, to_come, ungiven}
use Rattle.tb_commands.specs.Standings.{Standing}
use Rattle.tb_lines.specs.Pieces.{still_left}
use Rattle.tb_lines.specs.Told.{WhereTold}
use Rattle.tb_commands.specs.declared.parcel_input.ParcelReader.{ParcelReader}
use Rattle.tb_commands.specs.declared.parcel_input.ParcelFault.TheVariants as fault

-- the values of a parcel are in their ranges
abbrev IsSound : Parcel → Type 0
IsSound parcel = IsInRange parcel.entry

-- a parcel behind others has its bytes behind theirs
pub bytes_of-more : (parcels : List Parcel) (parcel : Parcel) (rest : List ℕ)
    → bytes_of parcels ++ (parcel_bytes parcel ++ rest) ≡ bytes_of (parcels ++ parcel ∷ []) ++ rest
bytes_of-more parcels parcel rest =
    sym (append_assoc (bytes_of parcels) (parcel_bytes parcel) rest)
    ∙ ap (λ (bytes : List ℕ). (bytes_of parcels ++ bytes) ++ rest) (sym (append-nil (parcel_bytes parcel)))
    ∙ ap (λ (bytes : List ℕ). bytes ++ rest) (sym (flat_map-append parcel_bytes parcels (parcel ∷ [])))

-- a parcel more was taken
pub AreTaken-more : (parcels : List Parcel) (parcel : Parcel) (old now new : Following) (answer : Taken)
    → AreTaken parcels old now
    → Takes parcel now new (Ok answer)
    → AreTaken (parcels ++ parcel ∷ []) old new
AreTaken-more [] parcel old now new answer same takes =
    (new, answer, subst (λ (f : Following). Takes parcel f new (Ok answer)) same takes, refl)
AreTaken-more (first ∷ parcels) parcel old now new answer taken takes =
    (taken.0, taken.1, taken.2, AreTaken-more parcels parcel taken.0 now new answer taken.3 takes)

-- and is one more of them
pub AreParcels-more : (parcels : List Parcel) (parcel : Parcel)
    → AreParcels parcels
    → length parcels + 1 ≤ most_parcels
    → IsInRange parcel.entry
    → AreParcels (parcels ++ parcel ∷ [])
AreParcels-more parcels parcel are few in_range = record {
  few = omega (arith, few, length-append parcels (parcel ∷ []));
  in_range = All-push IsSound parcels parcel are.in_range in_range;
}

-- and is so much longer
bytes_of-length : (parcels : List Parcel) (parcel : Parcel)
    → length (bytes_of (parcels ++ parcel ∷ [])) ≡ length (bytes_of parcels) + length (parcel_bytes parcel)
bytes_of-length parcels parcel =
    omega (
      arith,
      ap length (bytes_of-more parcels parcel []),
      length-append (bytes_of parcels) (parcel_bytes parcel ++ []),
      length-append (parcel_bytes parcel) [],
      length-append (bytes_of (parcels ++ parcel ∷ [])) [],
    )

-- a text was read to its end at most
reads_most : (before after : ℕ) (text : List ℕ) → ReadsFront before after text → after ≤ before + length text + 1
reads_most before after text front =
    let size = length-append front.front front.rest in
    elim front.reads [
      | inl few ↦ omega (arith, few, size, ap length front.text_is)
      | inr end ↦ omega (arith, end.1, size, ap length front.text_is)
    ]

-- and behind more reads
ReadsFront-later : (before later after : ℕ) (text : List ℕ)
    → before ≤ later
    → ReadsFront before after text
    → ReadsFront later after text
ReadsFront-later before later after text more front = record {
  front = front.front;
  rest = front.rest;
  text_is = front.text_is;
  tells = front.tells;
  reads = elim front.reads [
    | inl few ↦ inl (omega (arith, few, more))
    | inr end ↦ inr (end.0, omega (arith, end.1, more))
  ];
}

-- The parcels before the one of this number were taken by a copy of this history, which stands so now, after so many
-- reads. Where the input told its bytes, these are still to come.
pub record SoFar (history : List Entry) (number : ℕ) (input : SourceState) (now : Following)
    (coming : Option (List ℕ)) (count : ℕ) : Type 0 where
  pub parcels : List Parcel
  pub counted : number ≡ length parcels + 1
  pub are : AreParcels parcels
  pub taken : HasTaken history parcels now
  pub told : WhereTold input.left (λ text. (rest : List ℕ) × (coming ≡ Some rest) × (text ≡ bytes_of parcels ++ rest))
  pub few : count ≤ input.reads + length (bytes_of parcels)

-- none was
pub SoFar-start : (input : SourceState) (opened : Following) (reader : ParcelReader)
    → IsFresh opened
    → ungiven reader ≡ []
    → reader.pieces.ended ≡ false
    → SoFar opened.history 1 input opened (to_come reader input) input.reads
SoFar-start input opened reader fresh none going = record {
  parcels = [];
  counted = omega arith;
  are = record { few = omega arith; in_range = All-nil IsSound };
  taken = record { opened = opened; begins = refl; fresh = fresh; taken = refl };
  told = λ text told. (
    text,
    ap (λ (ended : Bool). before_left (ungiven reader) (still_left ended input.left)) going
        ∙ ap (λ (r : List ℕ). before_left r input.left) none
        ∙ ap (before_left []) told,
    refl,
  );
  few = omega arith;
}

module _ (history : List Entry) (number : ℕ) (input : SourceState) (now : Following) (coming : Option (List ℕ))
    (count : ℕ) (so_far : SoFar history number input now coming count) where
  -- one more was taken
  pub SoFar-more : (new : Following) (parcel : Parcel) (answer : Taken) (behind : Option (List ℕ)) (read : List ℕ)
      (next : ℕ)
      → number ≤ most_parcels
      → IsInRange parcel.entry
      → Takes parcel now new (Ok answer)
      → FindsWhereTold coming (Ok (Some parcel)) behind read
      → next ≤ count + length (parcel_bytes parcel)
      → SoFar history (number + 1) input new behind next
  SoFar-more new parcel answer behind read next few in_range takes finds reads = record {
    parcels = so_far.parcels ++ parcel ∷ [];
    counted = omega (arith, so_far.counted, length-append so_far.parcels (parcel ∷ []));
    are = AreParcels-more so_far.parcels parcel so_far.are (omega (arith, so_far.counted, few)) in_range;
    taken = record {
      opened = so_far.taken.opened;
      begins = so_far.taken.begins;
      fresh = so_far.taken.fresh;
      taken = AreTaken-more so_far.parcels parcel so_far.taken.opened now new answer so_far.taken.taken takes;
    };
    told = λ text told.
        let come = so_far.told text told in
        let given = finds come.0 come.1 in (
          given.0,
          given.1,
          come.2 ∙ ap (λ (bytes : List ℕ). bytes_of so_far.parcels ++ bytes) given.2
              ∙ bytes_of-more so_far.parcels parcel given.0,
        );
    few = omega (arith, reads, so_far.few, bytes_of-length so_far.parcels parcel);
  }

  -- behind these parcels nothing was read but what tells the next
  ReadsBehind-here : (after : ℕ)
      → WhereTold coming (ReadsFront count after)
      → WhereTold input.left (ReadsBehind so_far.parcels input.reads after)
  ReadsBehind-here after alone text told =
      let come = so_far.told text told in record {
        rest = come.0;
        text_is = come.2;
        reads = ReadsFront-later count (input.reads + length (bytes_of so_far.parcels)) after come.0 so_far.few
            (alone come.0 come.1);
      }

  module _ (first last : Standing) (begins : first.history ≡ history) (is : last.history ≡ now.history)
      (sure : IsSureSince first last) where
    -- the parcels so far were taken
    come_so_far : HasCome so_far.parcels first last
    come_so_far =
        (now, subst (λ (h : List Entry). HasTaken h so_far.parcels now) (sym begins) so_far.taken, is, sure)

    -- there is no more
    pub TakesAll-here : (behind : Option (List ℕ)) (read : List ℕ) (input' : SourceState)
        → FindsWhereTold coming (Ok None) behind read
        → (behind ≡ Some [] → input'.left ≡ Some [])
        → WhereTold coming (ReadsFront count input'.reads)
        → TakesAll input input' first last
    TakesAll-here behind read input' finds end alone = (
      so_far.parcels,
      come_so_far,
      (
        so_far.are,
        λ text told.
            let come = so_far.told text told in
            let found = finds come.0 come.1 in
            (come.0, come.2, (found.0, end found.1)),
      ),
      λ text told.
          let come = so_far.told text told in
          omega (
            arith,
            so_far.few,
            reads_most count input'.reads come.0 (alone come.0 come.1),
            ap length come.2,
            length-append (bytes_of so_far.parcels) come.0,
          ),
    )

    -- the next is none
    pub TakesBefore-bad : (behind : Option (List ℕ)) (read : List ℕ) (input' : SourceState)
        → FindsWhereTold coming (Err fault.Bad) behind read
        → WhereTold coming (ReadsFront count input'.reads)
        → TakesBefore number input input' first last
    TakesBefore-bad behind read input' finds alone = (
      so_far.parcels,
      come_so_far,
      so_far.are,
      λ text told.
          let come = so_far.told text told in
          let bad = finds come.0 come.1 in
          record {
            before = so_far.are;
            counted = so_far.counted;
            rest = come.0;
            is = come.2;
            more = bad.0;
            bad = inl bad.1;
          },
      ReadsBehind-here input'.reads alone,
    )

    -- the next is one too many
    pub TakesBefore-full : (parcel : Parcel) (behind : Option (List ℕ)) (read : List ℕ) (input' : SourceState)
        → most_parcels < number
        → IsInRange parcel.entry
        → FindsWhereTold coming (Ok (Some parcel)) behind read
        → WhereTold coming (ReadsFront count input'.reads)
        → TakesBefore number input input' first last
    TakesBefore-full parcel behind read input' full in_range finds alone = (
      so_far.parcels,
      come_so_far,
      so_far.are,
      λ text told.
          let come = so_far.told text told in
          let given = finds come.0 come.1 in
          record {
            before = so_far.are;
            counted = so_far.counted;
            rest = come.0;
            is = come.2;
            more = omega (
              arith,
              ap length given.2,
              length-append (parcel_bytes parcel) given.0,
              (spelling-sizes parcel.entry in_range).0,
              some parcel,
            );
            bad = inr (omega (arith, full, so_far.counted, so_far.are.few));
          },
      ReadsBehind-here input'.reads alone,
    )
      where
        some : (parcel : Parcel) → 1 ≤ length (parcel_bytes parcel)
        some parcel = omega arith

    -- a read failed
    pub TakesWhole-here : (behind : Option (List ℕ)) (read : List ℕ) (input' : SourceState)
        → FindsWhereTold coming (Err fault.Read) behind read
        → behind ≡ before_left read input'.left
        → WhereTold coming (ReadsFront count input'.reads)
        → TakesWhole input input' first last
    TakesWhole-here behind read input' finds same alone = (
      so_far.parcels,
      come_so_far,
      (
        so_far.are,
        λ text told.
            let come = so_far.told text told in
            let failed = finds come.0 come.1 in
            let left = left_of read failed.0 come.0 input'.left failed.1 (sym same ∙ failed.2) in
            (come.0, come.2, (read, failed.0, failed.1, left, failed.3)),
      ),
      ReadsBehind-here input'.reads alone,
    )
      where
        left_of : (read rest all : List ℕ) (left : Option (List ℕ))
            → all ≡ read ++ rest
            → before_left read left ≡ Some all
            → left ≡ Some rest
        left_of read rest all None is behind = absurd (cc (behind))
        left_of read rest all (Some left) is behind =
            let same : Some (read ++ left) ≡ Some all = behind in
            let whole : read ++ left ≡ read ++ rest = (cc (same, is)) in
            ap Some (append_cancel_left read left rest whole)

    -- memory ran out
    pub TakesFirst-here : (input' : SourceState)
        → WhereTold coming (ReadsFront count input'.reads)
        → TakesFirst input input' first last
    TakesFirst-here input' alone = (
      so_far.parcels,
      come_so_far,
      (so_far.are, λ text told. let come = so_far.told text told in (come.0, come.2, tt)),
      ReadsBehind-here input'.reads alone,
    )

  -- the next was answered with a fault
  pub BreaksOff-here : (why : TakeFault) (new : Following) (parcel : Parcel) (behind : Option (List ℕ)) (read : List ℕ)
      (input' : SourceState) (first last : Standing)
      → first.history ≡ history
      → last.history ≡ new.history
      → number ≤ most_parcels
      → IsInRange parcel.entry
      → Takes parcel now new (Err why)
      → LeavesInDoubt why parcel first last now
      → FindsWhereTold coming (Ok (Some parcel)) behind read
      → input'.reads ≤ count + length (parcel_bytes parcel)
      → BreaksOff why input input' first last
  BreaksOff-here why new parcel behind read input' first last begins is few in_range takes left finds reads = (
    so_far.parcels,
    parcel,
    (now, new, subst (λ (h : List Entry). HasTaken h so_far.parcels now) (sym begins) so_far.taken, takes, is, left),
    (
      AreParcels-more so_far.parcels parcel so_far.are (omega (arith, so_far.counted, few)) in_range,
      λ text told.
          let come = so_far.told text told in
          let given = finds come.0 come.1 in (
            given.0,
            come.2 ∙ ap (λ (bytes : List ℕ). bytes_of so_far.parcels ++ bytes) given.2
                ∙ bytes_of-more so_far.parcels parcel given.0,
            tt,
          ),
    ),
    omega (arith, reads, so_far.few, bytes_of-length so_far.parcels parcel),
  )
