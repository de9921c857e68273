-- A text that is no parcels has a first bad one.
use Rattle.std.proofs.Common.{◌≡◌, ℕ, ◌+◌, List, [], ◌∷◌, ◌++◌, length, drop, refl, ap, ◌∙◌, inl, inr, zero, suc, arith}
use Rattle.std.proofs.Common.{append-nil, length-append}
use Rattle.std.proofs.lemmas.List.Elements.{All-nil}
use Rattle.tb_message.specs.Spelling.{IsInRange}
use Rattle.tb_parcel.specs.declared.parcel.Parcel.{Parcel}
use Rattle.tb_parcel.specs.Parcels.{BeginsWith}
use Rattle.tb_commands.specs.FollowTakeRun.{AreParcels, IsFirstBadParcel, IsParcels, bytes_of, most_parcels}
use Rattle.tb_commands.proofs.FollowTakeLemmas.{AreParcels-more, bytes_of-more}

module _ (text : List ℕ)
    (no_parcels : (parcels : List Parcel) → ¬ (IsParcels parcels text))
    (no_bad : (number : ℕ) (before : List Parcel) → ¬ (IsFirstBadParcel number before text))
  where
    -- behind parcels there are no bytes, or they begin with none, or with one more, or with one too many
    more_parcels : (room : ℕ) (parcels : List Parcel) (rest : List ℕ)
        → room + length parcels ≡ most_parcels
        → AreParcels parcels
        → text ≡ bytes_of parcels ++ rest
        → ⊥
    more_parcels room parcels [] counted are is = no_parcels parcels (are, is ∙ append-nil (bytes_of parcels))
    more_parcels zero parcels (byte ∷ rest) counted are is = no_bad (length parcels + 1) parcels (record {
      before = are;
      counted = refl;
      rest = byte ∷ rest;
      is = is;
      more = omega arith;
      bad = inr (omega (arith, counted));
    })
    more_parcels (suc room) parcels (byte ∷ rest) counted are is = no_bad (length parcels + 1) parcels (record {
      before = are;
      counted = refl;
      rest = byte ∷ rest;
      is = is;
      more = omega arith;
      bad = inl (λ parcel size (begins : BeginsWith (byte ∷ rest) parcel size).
          more_parcels room (parcels ++ parcel ∷ []) (drop size (byte ∷ rest))
          (omega (arith, length-append parcels (parcel ∷ []), counted))
          (AreParcels-more parcels parcel are (omega (arith, counted)) begins.in_range)
          (is ∙ ap (λ (bytes : List ℕ). bytes_of parcels ++ bytes) begins.begins
          ∙ bytes_of-more parcels parcel (drop size (byte ∷ rest))));
    })

-- a text that is no parcels has a first bad one
pub parcels-or-bad : (text : List ℕ)
    → ((parcels : List Parcel) → ¬ (IsParcels parcels text))
    → ¬ ((number : ℕ) (before : List Parcel) → ¬ (IsFirstBadParcel number before text))
parcels-or-bad text no_parcels no_bad =
    more_parcels text no_parcels no_bad most_parcels [] text refl
    (record { few = omega arith; in_range = All-nil (λ (parcel : Parcel). IsInRange parcel.entry) }) refl
