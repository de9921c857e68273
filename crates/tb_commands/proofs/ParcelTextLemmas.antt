-- A text begins with the bytes of one list of parcels.
use Rattle.std.proofs.Common.{◌≡◌, ◌⊎◌, inl, inr, ℕ, ◌+◌, ◌≤◌, List, [], ◌∷◌, ◌++◌, length, drop, refl, ap, sym, ◌∙◌, subst, arith, append-nil, append_assoc, length-append}
use Rattle.std.specs.Prelude.{All}
use Rattle.std.proofs.Math.Seq.{drop-append_seam}
use Rattle.std.proofs.lemmas.List.{drop_at}
use Rattle.std.specs.Int.{w32, w64, to_be_bytes}
use Rattle.std.proofs.lemmas.List.Elements.{All-head, All-tail}
use Rattle.tb_message.specs.Spelling.{IsInRange, spelling}
use Rattle.tb_parcel.specs.declared.parcel.Parcel.{Parcel}
use Rattle.tb_parcel.specs.Parcels.{BeginsWith, length_in, parcel_bytes}
use Rattle.tb_parcel.proofs.ParcelLemmas.{starts}
use Rattle.tb_commands.specs.FollowTakeRun.{IsFirstBadParcel, IsParcels, bytes_of, most_parcels}

-- the values of a parcel are in their ranges
abbrev IsSound : Parcel → Type 0
IsSound parcel = IsInRange parcel.entry

-- how many bytes a parcel has
pub length-parcel_bytes : (parcel : Parcel) → length (parcel_bytes parcel) ≡ 12 + length (spelling parcel.entry)
length-parcel_bytes parcel =
    omega (
      arith,
      length-append (to_be_bytes w32 (length (spelling parcel.entry)))
          (to_be_bytes w64 parcel.place ++ spelling parcel.entry),
      length-append (to_be_bytes w64 parcel.place) (spelling parcel.entry),
    )

-- a parcel and what follows begin with the parcel
pub begins_here : (parcel : Parcel) (rest : List ℕ)
    → IsSound parcel
    → BeginsWith (parcel_bytes parcel ++ rest) parcel (length (parcel_bytes parcel))
begins_here parcel rest in_range = record {
  in_range = in_range;
  begins = ap (λ (bytes : List ℕ). parcel_bytes parcel ++ bytes) (sym (drop-append_seam (parcel_bytes parcel) rest));
  whole = refl;
}

-- bytes that begin with two parcels go on alike behind them
pub parcels_alike : (one other : Parcel) (x y : List ℕ)
    → IsSound one
    → IsSound other
    → parcel_bytes one ++ x ≡ parcel_bytes other ++ y
    → x ≡ y
parcels_alike one other x y one_sound other_sound same =
    let first = starts (parcel_bytes one ++ x) one (length (parcel_bytes one)) (begins_here one x one_sound) in
    let second =
    starts (parcel_bytes other ++ y) other (length (parcel_bytes other)) (begins_here other y other_sound) in
    let sizes : length (parcel_bytes other) ≡ length (parcel_bytes one) =
    omega (
      arith,
      first.says,
      second.says,
      ap length_in same,
      length-parcel_bytes one,
      length-parcel_bytes other,
    ) in
    sym (drop-append_seam (parcel_bytes one) x)
    ∙ ap (drop (length (parcel_bytes one))) same
    ∙ drop_at (parcel_bytes other) y (length (parcel_bytes one)) sizes

-- these parcels are more than those, and the text goes on with them
pub record GoesOnWith (shorter longer : List Parcel) (x y : List ℕ) : Type 0 where
  pub more : List Parcel
  pub sound : All IsSound more
  pub counted : length longer ≡ length shorter + length more
  pub is : x ≡ bytes_of more ++ y

-- Of two lists of parcels with which a text begins one goes on where the other ends.
pub one_reading : (ones others : List Parcel) (x y : List ℕ)
    → All IsSound ones
    → All IsSound others
    → bytes_of ones ++ x ≡ bytes_of others ++ y
    → GoesOnWith ones others x y ⊎ GoesOnWith others ones y x
one_reading [] others x y sound also same =
    inl (record { more = others; sound = also; counted = omega arith; is = same })
one_reading (one ∷ ones) [] x y sound also same =
    inr (record { more = one ∷ ones; sound = sound; counted = omega arith; is = sym same })
one_reading (one ∷ ones) (other ∷ others) x y sound also same =
    let alike = parcels_alike one other (bytes_of ones ++ x) (bytes_of others ++ y) (All-head IsSound one ones sound)
    (All-head IsSound other others also)
    (sym (append_assoc (parcel_bytes one) (bytes_of ones) x) ∙ same
    ∙ append_assoc (parcel_bytes other) (bytes_of others) y) in
    elim (one_reading ones others x y (All-tail IsSound one ones sound) (All-tail IsSound other others also) alike) [
      | inl first ↦ inl (record {
        more = first.more;
        sound = first.sound;
        counted = omega (arith, first.counted);
        is = first.is;
      })
      | inr second ↦ inr (record {
        more = second.more;
        sound = second.sound;
        counted = omega (arith, second.counted);
        is = second.is;
      })
    ]

-- what goes on behind parcels up to the first bad one is none of them, or one too many
none_behind : (number : ℕ) (parcels longer : List Parcel) (text y : List ℕ)
    (bad : IsFirstBadParcel number parcels text)
    → GoesOnWith parcels longer bad.rest y
    → length longer ≤ most_parcels
    → length longer ≡ length parcels
none_behind number parcels longer text y bad goes_on few = none goes_on.more goes_on.sound goes_on.counted goes_on.is
  where
    none : (more : List Parcel) → All IsSound more → length longer ≡ length parcels + length more
        → bad.rest ≡ bytes_of more ++ y
        → length longer ≡ length parcels
    none [] sound counted is = omega (arith, counted)
    none (parcel ∷ more) sound counted is = elim bad.bad [
      | inl nothing ↦
          absurd (nothing parcel (length (parcel_bytes parcel))
          (subst (λ (bytes : List ℕ). BeginsWith bytes parcel (length (parcel_bytes parcel)))
          (sym (is ∙ append_assoc (parcel_bytes parcel) (bytes_of more) y))
          (begins_here parcel (bytes_of more ++ y) (All-head IsSound parcel more sound))))
      | inr full ↦ absurd (omega (arith, full, counted, few))
    ]

-- a text that is parcels has no bad one
pub whole_not_bad : (parcels before : List Parcel) (number : ℕ) (text : List ℕ)
    → IsParcels parcels text
    → IsFirstBadParcel number before text
    → ⊥
whole_not_bad parcels before number text whole bad =
    elim (one_reading parcels before [] bad.rest whole.0.in_range bad.before.in_range
    (append-nil (bytes_of parcels) ∙ sym whole.1 ∙ bad.is)) [
      | inl first ↦ omega (arith, ap length first.is, length-append (bytes_of first.more) bad.rest, bad.more)
      | inr second ↦
          let same = none_behind number before parcels text [] bad second whole.0.few in
          ended second.more second.is (omega (arith, second.counted, same))
    ]
  where
    ended : (more : List Parcel) → bad.rest ≡ bytes_of more ++ [] → length more ≡ 0 → ⊥
    ended [] is none = omega (arith, ap length is, bad.more)
    ended (parcel ∷ more) is none = omega (arith, none)

-- and one that isn't has one first
pub one_bad : (ones others : List Parcel) (one other : ℕ) (text : List ℕ)
    → IsFirstBadParcel one ones text
    → IsFirstBadParcel other others text
    → one ≡ other
one_bad ones others one other text first second =
    elim (one_reading ones others first.rest second.rest first.before.in_range second.before.in_range
    (sym first.is ∙ second.is)) [
      | inl goes_on ↦
          let same = none_behind one ones others text second.rest first goes_on second.before.few in
          omega (arith, same, first.counted, second.counted)
      | inr goes_on ↦
          let same = none_behind other others ones text first.rest second goes_on first.before.few in
          omega (arith, same, first.counted, second.counted)
    ]
