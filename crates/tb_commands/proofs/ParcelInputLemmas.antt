-- What bytes begin with, when more of them are read.
use Rattle.std.proofs.Common.{subst, ◌≡◌, inl, inr, ℕ, ◌+◌, ◌<◌, ◌≤◌, List, [], ◌∷◌, ◌++◌, length, take, drop, refl, ap, sym, ◌∙◌, arith, append-nil, append_assoc, length-append, take-append-drop}
use Rattle.std.proofs.lemmas.List.{drop-drop}
use Rattle.std.specs.Prelude.{Bool, true, false, Option, Some, None, Result, Ok, Err, IfSome}
use Rattle.std.proofs.lemmas.Bool.{cases_lt}
use Rattle.std.proofs.lemmas.List.{length-take, take-append-le, take-take, take_at}
use Rattle.std.specs.Int.{w32, w64, from_be_bytes, to_be_bytes}
use Rattle.tb_message.specs.Spelling.{spelling}
use Rattle.tb_link.specs.Sources.{before_left}
use Rattle.tb_parcel.specs.declared.parcel.Parcel.{Parcel}
use Rattle.tb_parcel.specs.declared.parcel.ParcelFront.TheVariants as front_of
use Rattle.tb_parcel.specs.Parcels.{BeginsWith, BeginsWithNone, IsFront, IsShort, length_in, parcel_bytes}
use Rattle.tb_parcel.proofs.ParcelLemmas.{starts}
use Rattle.tb_lines.specs.Pieces.{still_left}
use Rattle.tb_commands.specs.ParcelInput.{FindsParcel, ReadsFront, TellsLast, fault_of}
use Rattle.tb_lines.specs.declared.pieces.InputFault.{InputFault}
use Rattle.tb_lines.specs.declared.pieces.InputFault.TheVariants as input_fault
use Rattle.tb_commands.specs.declared.parcel_input.ParcelFault.{ParcelFault}
use Rattle.tb_commands.specs.declared.parcel_input.ParcelFault.TheVariants as fault

-- a parcel has 12 bytes more than its record
pub parcel_size : (parcel : Parcel) → length (parcel_bytes parcel) ≡ 12 + length (spelling parcel.entry)
parcel_size parcel =
    omega (
      arith,
      length-append (to_be_bytes w32 (length (spelling parcel.entry)))
          (to_be_bytes w64 parcel.place ++ spelling parcel.entry),
      length-append (to_be_bytes w64 parcel.place) (spelling parcel.entry),
    )

-- what bytes begin with that are long enough for it
ends : (bytes more : List ℕ) (parcel : Parcel) (size : ℕ)
    → BeginsWith (bytes ++ more) parcel size
    → size ≤ length bytes
    → BeginsWith bytes parcel size
ends bytes more parcel size begins enough =
    let front : take size bytes ≡ parcel_bytes parcel =
    sym (take-append-le size bytes more enough)
    ∙ ap (take size) begins.begins
    ∙ take_at (parcel_bytes parcel) (drop size (bytes ++ more)) size (sym begins.whole) in
    record {
      in_range = begins.in_range;
      begins = sym (take-append-drop size bytes) ∙ ap (λ (head : List ℕ). head ++ drop size bytes) front;
      whole = begins.whole;
    }

-- bytes that are long enough to tell begin with a parcel, or none does however they go on
pub none_longer : (bytes more : List ℕ) → BeginsWithNone bytes → ¬ (IsShort bytes) → BeginsWithNone (bytes ++ more)
none_longer bytes more none long parcel size begins =
    let found = starts (bytes ++ more) parcel size begins in
    elim (cases_lt (length bytes) 4) [
      | inl few ↦ long (inl few)
      | inr four ↦
          let says : length_in (bytes ++ more) ≡ length_in bytes =
          ap (λ (head : List ℕ). from_be_bytes w32 head) (take-append-le 4 bytes more four) in
          elim (cases_lt (length bytes) (12 + length_in bytes)) [
            | inl short ↦
                long (inr
                (omega (arith, says, found.says, found.sizes.0), omega (arith, says, found.says, found.sizes.1), short))
            | inr enough ↦
                none parcel size (ends bytes more parcel size begins
                (omega (arith, says, found.says, enough, begins.whole, parcel_size parcel)))
          ]
    ]

-- bytes in front, and others behind them
pub come_first : (front : List ℕ) (left : Option (List ℕ)) (text : List ℕ)
    → before_left front left ≡ Some text
    → (rest : List ℕ) × (left ≡ Some rest) × (text ≡ front ++ rest)
come_first front None text is = absurd (cc (is))
come_first front (Some rest) text is = let same : Some (front ++ rest) ≡ Some text = is in (rest, refl, (cc (same)))

-- a parcel was given, and the bytes behind it come next
pub finds-whole : (bytes : List ℕ) (at size : ℕ) (left : Option (List ℕ)) (text read : List ℕ) (parcel : Parcel)
    → before_left (drop at bytes) left ≡ Some text
    → BeginsWith (drop at bytes) parcel size
    → FindsParcel (Ok (Some parcel)) text (before_left (drop (at + size) bytes) left) read
finds-whole bytes at size left text read parcel told begins =
    let come = come_first (drop at bytes) left text told in
    let front : drop (at + size) bytes ≡ drop size (drop at bytes) = sym (drop-drop size at bytes) in
    let behind : before_left (drop (at + size) bytes) left ≡ Some (drop size (drop at bytes) ++ come.0) =
    ap (λ (bs : List ℕ). before_left bs left) front ∙ ap (before_left (drop size (drop at bytes))) come.1 in
    let whole : text ≡ parcel_bytes parcel ++ (drop size (drop at bytes) ++ come.0) =
    come.2 ∙ ap (λ (bs : List ℕ). bs ++ come.0) begins.begins
    ∙ append_assoc (parcel_bytes parcel) (drop size (drop at bytes)) come.0 in
    (drop size (drop at bytes) ++ come.0, behind, whole)

-- no parcel comes
pub finds-bad : (front : List ℕ) (left : Option (List ℕ)) (text : List ℕ) (behind : Option (List ℕ)) (read : List ℕ)
    → before_left front left ≡ Some text
    → IsFront front front_of.Bad
    → FindsParcel (Err fault.Bad) text behind read
finds-bad front left text behind read told bad =
    let come = come_first front left text told in
    let none : BeginsWithNone text =
    subst BeginsWithNone (sym come.2) (none_longer front come.0 bad.0 bad.1) in
    (some_bytes come.0 come.2, none)
  where
    some_bytes : (rest : List ℕ) → text ≡ front ++ rest → 1 ≤ length text
    some_bytes rest is = elim (cases_lt (length front) 4) [
      | inl few ↦ absurd (bad.1 (inl few))
      | inr four ↦ omega (arith, four, ap length is, length-append front rest)
    ]

-- none was read
pub finds-failed : (why : InputFault) (found : Result (Option Parcel) ParcelFault) (front now text : List ℕ)
    (left behind : Option (List ℕ))
    → found ≡ Err (fault_of why)
    → before_left front left ≡ Some text
    → IsFront front front_of.More
    → now ≡ front
    → behind ≡ Some text
    → FindsParcel found text behind now
finds-failed input_fault.OutOfMemory found front now text left behind is told none same kept =
    subst (λ (f : Result (Option Parcel) ParcelFault). FindsParcel f text behind now) (sym is) tt
finds-failed input_fault.Read found front now text left behind is told none same kept =
    let come = come_first front left text told in
    let whole : text ≡ now ++ come.0 = come.2 ∙ ap (λ (bs : List ℕ). bs ++ come.0) (sym same) in
    subst (λ (f : Result (Option Parcel) ParcelFault). FindsParcel f text behind now) (sym is)
    (come.0, whole, kept, subst (λ (bs : List ℕ). IsFront bs front_of.More) (sym same) none)

-- the end of the input came: nothing is left, or a part of a parcel
pub finds-end : (found : Result (Option Parcel) ParcelFault) (front text : List ℕ) (left behind : Option (List ℕ))
    (read : List ℕ)
    → (front ≡ [] → found ≡ Ok None)
    → (0 < length front → found ≡ Err fault.Bad)
    → before_left front left ≡ Some text
    → IfSome left (λ rest. rest ≡ [])
    → IsFront front front_of.More
    → behind ≡ Some text
    → FindsParcel found text behind read
finds-end found front text left behind read whole cut told end none kept =
    let come = come_first front left text told in
    let nothing : come.0 ≡ [] = subst (λ (l : Option (List ℕ)). IfSome l (λ rest. rest ≡ [])) come.1 end in
    let is : text ≡ front = come.2 ∙ ap (λ (rest : List ℕ). front ++ rest) nothing ∙ append-nil front in
    ended front whole cut is none.0
  where
    ended : (front : List ℕ)
        → (front ≡ [] → found ≡ Ok None)
        → (0 < length front → found ≡ Err fault.Bad)
        → text ≡ front
        → BeginsWithNone front
        → FindsParcel found text behind read
    ended [] whole cut is none =
        subst (λ (f : Result (Option Parcel) ParcelFault). FindsParcel f text behind read) (sym (whole refl))
        (is, kept ∙ ap Some is)
    ended (byte ∷ bytes) whole cut is none =
        subst (λ (f : Result (Option Parcel) ParcelFault). FindsParcel f text behind read) (sym (cut (omega arith)))
        (omega (arith, ap length is), subst BeginsWithNone (sym is) none)

-- where the end was found and nothing is to come, nothing is left
pub left_nothing : (waits : List ℕ) (ended : Bool) (left : Option (List ℕ))
    → IfSome left (λ rest. rest ≡ [])
    → before_left waits (still_left ended left) ≡ Some []
    → left ≡ Some []
left_nothing waits false None end is = absurd (cc (is))
left_nothing waits true None end is = absurd (cc (is))
left_nothing waits ended (Some rest) end is = ap Some end

-- a beginning of bytes that are too few is too short too
short-front : (bytes : List ℕ) (count : ℕ) → IsShort bytes → IsShort (take count bytes)
short-front bytes count short =
    let size = length-take count bytes in
    elim (cases_lt (length (take count bytes)) 4) [
      | inl few ↦ inl few
      | inr four ↦
          let says : length_in (take count bytes) ≡ length_in bytes =
          ap (λ (head : List ℕ). from_be_bytes w32 head) (take-take 4 count bytes (omega (arith, four, size))) in
          elim short [
            | inl few ↦ absurd (omega (arith, four, size, few))
            | inr known ↦
                inr
                (omega (arith, says, known.0), omega (arith, says, known.1), omega (arith, says, size, known.2))
          ]
    ]

-- too few bytes and one more tell only with the last
tells-more : (unread piece : List ℕ) → IsShort unread → TellsLast (take (length unread + 1) (unread ++ piece))
tells-more unread piece short count before =
    let within : count ≤ length unread = omega (arith, before, length-take (length unread + 1) (unread ++ piece)) in
    let same : take count (take (length unread + 1) (unread ++ piece)) ≡ take count unread =
    take-take count (length unread + 1) (unread ++ piece) (omega (arith, within))
    ∙ take-append-le count unread piece within in
    subst IsShort (sym same) (short-front unread count short)

-- While a parcel is looked for: each read gave at least one of these bytes, the first of those that wait, which tell
-- nothing before the last.
pub record ReadsSoFar (before now : ℕ) (unread : List ℕ) : Type 0 where
  pub front : List ℕ
  pub rest : List ℕ
  pub is : unread ≡ front ++ rest
  pub tells : TellsLast front
  pub few : now ≤ before + length front

-- before the first read
pub ReadsSoFar-start : (before : ℕ) (unread : List ℕ) → ReadsSoFar before before unread
ReadsSoFar-start before unread = record {
  front = [];
  rest = unread;
  is = refl;
  tells = λ count before. absurd (omega (arith, before));
  few = omega arith;
}

-- one read more, that gave some bytes
pub ReadsSoFar-more : (before now next : ℕ) (unread more piece : List ℕ)
    → ReadsSoFar before now unread
    → IsShort unread
    → more ≡ unread ++ piece
    → length unread < length more
    → next ≤ now + 1
    → ReadsSoFar before next more
ReadsSoFar-more before now next unread more piece so_far short is longer one = record {
  front = take (length unread + 1) more;
  rest = drop (length unread + 1) more;
  is = sym (take-append-drop (length unread + 1) more);
  tells = subst (λ (bytes : List ℕ). TellsLast (take (length unread + 1) bytes)) (sym is)
      (tells-more unread piece short);
  few = omega (
    arith,
    one,
    longer,
    so_far.few,
    ap length so_far.is,
    length-append so_far.front so_far.rest,
    length-take (length unread + 1) more,
  );
}

-- what tells was there before
pub ReadsFront-told : (before now : ℕ) (unread : List ℕ) (left : Option (List ℕ)) (text : List ℕ)
    → ReadsSoFar before now unread
    → before_left unread left ≡ Some text
    → ReadsFront before now text
ReadsFront-told before now unread left text so_far told =
    let come = come_first unread left text told in record {
      front = so_far.front;
      rest = so_far.rest ++ come.0;
      text_is = come.2 ∙ ap (λ (bytes : List ℕ). bytes ++ come.0) so_far.is
          ∙ append_assoc so_far.front so_far.rest come.0;
      tells = so_far.tells;
      reads = inl so_far.few;
    }

-- there was at most one read more of a text that begins with too few bytes to tell
reads-open : (before after : ℕ) (unread rest : List ℕ)
    → IsShort unread
    → after ≤ before + length unread + 1
    → ReadsFront before after (unread ++ rest)
reads-open before after unread [] short few = record {
  front = unread;
  rest = [];
  text_is = refl;
  tells = λ count within. short-front unread count short;
  reads = inr (refl, few);
}
reads-open before after unread (byte ∷ rest) short few =
    let size = length-append unread (byte ∷ rest) in record {
      front = take (length unread + 1) (unread ++ byte ∷ rest);
      rest = drop (length unread + 1) (unread ++ byte ∷ rest);
      text_is = sym (take-append-drop (length unread + 1) (unread ++ byte ∷ rest));
      tells = tells-more unread (byte ∷ rest) short;
      reads = inl (omega (arith, few, size, length-take (length unread + 1) (unread ++ byte ∷ rest)));
    }

-- too few bytes were there to tell, and then there was at most one read more
pub ReadsFront-open : (before now next : ℕ) (unread : List ℕ) (left : Option (List ℕ)) (text : List ℕ)
    → ReadsSoFar before now unread
    → IsShort unread
    → next ≤ now + 1
    → before_left unread left ≡ Some text
    → ReadsFront before next text
ReadsFront-open before now next unread left text so_far short one told =
    let come = come_first unread left text told in
    subst (ReadsFront before next) (sym come.2)
    (reads-open before next unread come.0 short
    (omega (arith, one, so_far.few, ap length so_far.is, length-append so_far.front so_far.rest)))

-- the bytes of a parcel tell it
whole_tells : (unread : List ℕ) (parcel : Parcel) (size : ℕ)
    → BeginsWith unread parcel size
    → ¬ (IsShort (take size unread))
whole_tells unread parcel size begins short =
    let found = starts unread parcel size begins in
    let is : size ≡ 12 + length (spelling parcel.entry) = begins.whole ∙ parcel_size parcel in
    let long : length (take size unread) ≡ size = omega (arith, is, found.enough, length-take size unread) in
    let says : length_in (take size unread) ≡ length_in unread =
    ap (λ (head : List ℕ). from_be_bytes w32 head) (take-take 4 size unread (omega (arith, is))) in
    elim short [
      | inl few ↦ omega (arith, few, long, is)
      | inr known ↦ omega (arith, known.2, long, says, found.says, is)
    ]

-- a whole parcel was found: there were at most as many reads as it has bytes
pub ReadsSoFar-whole : (before now : ℕ) (unread : List ℕ) (parcel : Parcel) (size : ℕ)
    → ReadsSoFar before now unread
    → BeginsWith unread parcel size
    → now ≤ before + length (parcel_bytes parcel)
ReadsSoFar-whole before now unread parcel size so_far begins =
    elim (cases_lt size (length so_far.front)) [
      | inl more ↦
          let same : take size unread ≡ take size so_far.front =
          ap (take size) so_far.is ∙ take-append-le size so_far.front so_far.rest (omega (arith, more)) in
          absurd (whole_tells unread parcel size begins (subst IsShort (sym same) (so_far.tells size more)))
      | inr within ↦ omega (arith, within, so_far.few, begins.whole)
    ]
