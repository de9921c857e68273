-- What a parcel makes of a copy, and what is kept then.
use Rattle.std.proofs.Common.{◌≡◌, ℕ, ◌<◌, List, length, get_or, inl, inr, refl, ap, sym, ◌∙◌, subst, arith}
use Rattle.std.specs.Prelude.{Option, Some, None, Err, Contains}
use Rattle.std.proofs.Math.ListN.{set}
use Rattle.std.proofs.lemmas.List.{get_or-set_same, get_or-set_other}
use Rattle.tb_message.specs.declared.message.Entry.{Entry}
use Rattle.tb_message.specs.Spelling.{IsInRange}
use Rattle.tb_parcel.specs.declared.parcel.Parcel.{Parcel}
use Rattle.tb_replica.specs.declared.taken.TakeFault.{TakeFault}
use Rattle.tb_replica.specs.declared.taken.TakeFault.TheVariants as fault
use Rattle.tb_replica.specs.Window.{keeping}
use Rattle.tb_replica.specs.Following.{Takes, Refused, Fails}
use Rattle.tb_replica.specs.Followers.{IsFollower}
use Rattle.tb_replica.specs.Adding.{IsAdded}
use Rattle.tb_replica.proofs.RunLemmas.{following_of}
use Rattle.tb_replica.proofs.ArrivalLemmas.{keeping-cases, eq-or, length-keeping}

-- the same history, and the same kept ahead of it
same_copy : (after history : List Entry) (ahead : List (Option Entry)) → after ≡ history
    → following_of after ahead ≡ following_of history ahead
same_copy after history ahead same = ap (λ (entries : List Entry). following_of entries ahead) same

-- an entry that couldn't be added is a fork at its place, or the disk or memory failed
pub Takes-failed : (parcel : Parcel) (history after : List Entry) (ahead : List (Option Entry)) (why : TakeFault)
    → IsAdded history parcel.entry after (Err why)
    → ¬ (Contains history parcel.entry)
    → parcel.place ≡ length history
    → Takes parcel (following_of history ahead) (following_of after ahead) (Err why)
Takes-failed parcel history after ahead (fault.Forked place) told not_among at =
    Refused not_among at told.0 (ap (λ (n : ℕ). Err (fault.Forked n)) (told.1 ∙ sym at))
    (same_copy after history ahead told.2)
Takes-failed parcel history after ahead fault.DiskFault same not_among at =
    Fails not_among at (inl refl) (same_copy after history ahead same)
Takes-failed parcel history after ahead fault.OutOfMemory same not_among at =
    Fails not_among at (inr refl) (same_copy after history ahead same)

-- where nothing is kept, all that is kept is in range
pub IsFollower-fresh : (ahead : List (Option Entry)) → length ahead ≡ 1023
    → ((index : ℕ) → get_or ahead index None ≡ None)
    → IsFollower ahead
IsFollower-fresh ahead window nothing = record {
  window = window;
  in_range = λ index entry is. let none : None ≡ Some entry = sym (nothing index) ∙ is in absurd cc;
}

-- an entry in range is kept
pub IsFollower-keeping : (ahead : List (Option Entry)) (index : ℕ) (entry : Entry) → index < 1023 → IsInRange entry
    → IsFollower ahead
    → IsFollower (keeping ahead index entry)
IsFollower-keeping ahead index entry within fits is = record {
  window = length-keeping ahead index entry ∙ is.window;
  in_range = λ other kept at. elim (keeping-cases ahead index entry) [
    | inl there ↦
        is.in_range other kept (sym (ap (λ (places : List (Option Entry)). get_or places other None) there.0) ∙ at)
    | inr put ↦
        let now : get_or (set ahead index (Some entry)) other None ≡ Some kept =
        sym (ap (λ (places : List (Option Entry)). get_or places other None) put.0) ∙ at in
        elim (eq-or other index) [
          | inl same ↦
              let there : get_or (set ahead index (Some entry)) other None ≡ Some entry =
              rw same.0 (get_or-set_same ahead index (Some entry) None (omega (arith, is.window))) in
              let e : entry ≡ kept = cc in
              subst IsInRange e fits
          | inr different ↦
              is.in_range other kept (sym (get_or-set_other ahead index other (Some entry) None different.0) ∙ now)
        ]
  ];
}
