-- What `follow send` writes, entry by entry.
use Rattle.std.proofs.Common.{◌≡◌, ℕ, suc, ◌+◌, ◌≤◌, List, [], ◌∷◌, ◌++◌, length, drop, refl, ap, sym, ◌∙◌, arith, append_assoc, length-append, nat_le}
use Rattle.std.specs.List.{All, filter}
use Rattle.std.proofs.lemmas.Grind.{flat_map-append}
use Rattle.std.proofs.lemmas.List.Elements.{All-head, All-tail, filter-append}
use Rattle.tb_link.specs.Sinks.{SinkState, FailsToTake, Takes, TakesPrefix, after_taken}
use Rattle.tb_message.specs.declared.message.Entry.{Entry}
use Rattle.tb_message.specs.declared.version.Version.TheVariants.{Second}
use Rattle.tb_message.specs.Spelling.{IsInRange, IsNoRecordIn, IsTaken, spelling, spellings}
use Rattle.tb_message.proofs.RecordLaws.{spelling-begins, spelling-sizes}
use Rattle.tb_parcel.specs.declared.parcel.Parcel.{Parcel}
use Rattle.tb_parcel.specs.Parcels.{parcel_bytes}
use Rattle.tb_desk.specs.Stands.{IsGroup}
use Rattle.tb_commands.specs.FollowSendRun.{parcels_at, sent_of}
use Rattle.tb_commands.specs.FollowTakeRun.{bytes_of}
use Rattle.std.specs.Prelude.{Option}
use Rattle.tb_commands.proofs.ScriptLemmas.{after_taken-more, after_taken-nothing}

-- entries behind others have the places behind theirs
pub parcels_at-append : (place : ℕ) (front behind : List Entry)
    → parcels_at place (front ++ behind) ≡ parcels_at place front ++ parcels_at (place + length front) behind
parcels_at-append place [] behind = ap (λ (n : ℕ). parcels_at n behind) (omega arith)
parcels_at-append place (entry ∷ front) behind =
    let parcel : Parcel = record { place = place; entry = entry } in
    let behind_is : (place + 1) + length front ≡ place + suc (length front) = omega arith in
    ap (λ (parcels : List Parcel). parcel ∷ parcels) (parcels_at-append (place + 1) front behind
    ∙ ap (λ (n : ℕ). parcels_at (place + 1) front ++ parcels_at n behind) behind_is)

-- what is sent of parcels goes on with what is sent of those behind them
pub sent_of-append : (from : ℕ) (front behind : List Parcel)
    → sent_of from (front ++ behind) ≡ sent_of from front ++ sent_of from behind
sent_of-append from front behind =
    let wanted = λ (parcel : Parcel). nat_le from parcel.place in
    ap bytes_of (filter-append wanted front behind)
    ∙ flat_map-append parcel_bytes (filter wanted front) (filter wanted behind)

-- an entry more is a parcel more
pub sent_of-more : (from before : ℕ) (entries : List Entry) (entry : Entry)
    → sent_of from (parcels_at before (entries ++ entry ∷ []))
    ≡ sent_of from (parcels_at before entries)
    ++ sent_of from (record { place = before + length entries; entry = entry } ∷ [])
sent_of-more from before entries entry =
    ap (sent_of from) (parcels_at-append before entries (entry ∷ []))
    ∙ sent_of-append from (parcels_at before entries) _

-- behind a record fewer bytes are left
pub taken-shorter : (rest : List ℕ) (entry : Entry) (size : ℕ)
    → IsTaken rest entry size
    → 1 + length (drop size rest) ≤ length rest
taken-shorter rest entry size found =
    omega (
      arith,
      ap length found.begins,
      length-append (spelling entry) (drop size rest),
      (spelling-sizes entry found.in_range).0,
    )

-- Of a group so much was written, and these bytes of its payload are left, the first of which stands at this place.
pub record SentUpTo (from before : ℕ) (group : List Entry) (rest : List ℕ) (place : ℕ) (out now : SinkState) : Type 0
  where
    pub done : List Entry
    pub left : List Entry
    pub some : IsGroup left
    pub in_range : All IsInRange left
    pub is : group ≡ done ++ left
    pub rest_is : rest ≡ spellings left
    pub place_is : place ≡ before + length done
    pub taken : now.taken ≡ after_taken out.taken (sent_of from (parcels_at before done))

module _ (from before : ℕ) (group : List Entry) where
  -- nothing of it was
  pub SentUpTo-start : (out : SinkState) (payload : List ℕ)
      → IsGroup group
      → All IsInRange group
      → payload ≡ spellings group
      → SentUpTo from before group payload before out out
  SentUpTo-start out payload some in_range is = record {
    done = [];
    left = group;
    some = some;
    in_range = in_range;
    is = refl;
    rest_is = is;
    place_is = omega arith;
    taken = after_taken-nothing out.taken;
  }

  -- the entry whose record begins the rest is the next of the group
  pub record Next (rest : List ℕ) (place : ℕ) (entry : Entry) (size : ℕ) (out now : SinkState) : Type 0 where
    pub done : List Entry
    pub left : List Entry
    pub in_range : All IsInRange left
    pub is : group ≡ done ++ entry ∷ left
    pub rest_is : drop size rest ≡ spellings left
    pub place_is : place ≡ before + length done
    pub taken : now.taken ≡ after_taken out.taken (sent_of from (parcels_at before done))

  pub SentUpTo-next : (rest : List ℕ) (place : ℕ) (out now : SinkState) (entry : Entry) (size : ℕ)
      → SentUpTo from before group rest place out now
      → IsTaken rest entry size
      → Next rest place entry size out now
  SentUpTo-next rest place out now entry size sent found =
      next sent.left sent.some sent.in_range sent.is sent.rest_is
    where
      next : (left : List Entry) → IsGroup left → All IsInRange left → group ≡ sent.done ++ left → rest ≡ spellings left
          → Next rest place entry size out now
      next [] some in_range is rest_is = absurd (omega (arith, some))
      next (first ∷ left) some in_range is rest_is =
          let same = spelling-begins entry first (drop size rest) (spellings left) found.in_range
          (All-head IsInRange first left in_range) (sym found.begins ∙ rest_is) in
          record {
            done = sent.done;
            left = left;
            in_range = All-tail IsInRange first left in_range;
            is = is ∙ ap (λ (e : Entry). sent.done ++ e ∷ left) (sym same.0);
            rest_is = same.1;
            place_is = sent.place_is;
            taken = sent.taken;
          }

  -- some record begins the rest
  pub SentUpTo-some : (rest : List ℕ) (place : ℕ) (out now : SinkState)
      → SentUpTo from before group rest place out now
      → ¬ (IsNoRecordIn Second rest)
  SentUpTo-some rest place out now sent none = some_left sent.left sent.some sent.in_range sent.rest_is
    where
      some_left : (left : List Entry) → IsGroup left → All IsInRange left → rest ≡ spellings left → ⊥
      some_left [] some in_range rest_is = omega (arith, some)
      some_left (first ∷ left) some in_range rest_is =
          none first (All-head IsInRange first left in_range) (spellings left) rest_is

  module _ (rest : List ℕ) (place : ℕ) (out now new : SinkState) (entry : Entry) (size : ℕ)
      (next : Next rest place entry size out now) where
    abbrev pub parcel : Parcel
    parcel = record { place = place; entry = entry }

    -- the parcel behind those that were written
    more : sent_of from (parcels_at before next.done) ++ sent_of from (parcel ∷ [])
        ≡ sent_of from (parcels_at before (next.done ++ entry ∷ []))
    more =
        ap (λ (n : ℕ). sent_of from (parcels_at before next.done)
        ++ sent_of from (record { place = n; entry = entry } ∷ [])) next.place_is
        ∙ sym (sent_of-more from before next.done entry)

    taken_more : Takes now new (sent_of from (parcel ∷ []))
        → new.taken ≡ after_taken out.taken (sent_of from (parcels_at before (next.done ++ entry ∷ [])))
    taken_more takes =
        takes.taken
        ∙ ap (λ (t : Option (List ℕ)). after_taken t (sent_of from (parcel ∷ []))) next.taken
        ∙ after_taken-more out.taken (sent_of from (parcels_at before next.done)) (sent_of from (parcel ∷ []))
        ∙ ap (after_taken out.taken) more

    -- it was written, and the group goes on
    pub SentUpTo-more : Takes now new (sent_of from (parcel ∷ []))
        → 1 ≤ length (drop size rest)
        → SentUpTo from before group (drop size rest) (place + 1) out new
    SentUpTo-more takes goes_on = record {
      done = next.done ++ entry ∷ [];
      left = next.left;
      some = some_left next.left next.rest_is;
      in_range = next.in_range;
      is = next.is ∙ sym (append_assoc next.done (entry ∷ []) next.left);
      rest_is = next.rest_is;
      place_is = omega (arith, next.place_is, length-append next.done (entry ∷ []));
      taken = taken_more takes;
    }
      where
        some_left : (left : List Entry) → drop size rest ≡ spellings left → IsGroup left
        some_left [] is = absurd (omega (arith, goes_on, ap length is))
        some_left (first ∷ left) is = omega arith

    -- it was written, and was the last
    pub SentUpTo-last : Takes now new (sent_of from (parcel ∷ []))
        → drop size rest ≡ []
        → (place + 1 ≡ before + length group)
        × (new.taken ≡ after_taken out.taken (sent_of from (parcels_at before group)))
    SentUpTo-last takes ends =
        let whole : group ≡ next.done ++ entry ∷ [] = next.is
        ∙ ap (λ (left : List Entry). next.done ++ entry ∷ left) (none_left next.left next.in_range next.rest_is) in (
          omega (arith, ap length whole, length-append next.done (entry ∷ []), next.place_is),
          taken_more takes
              ∙ ap (λ (g : List Entry). after_taken out.taken (sent_of from (parcels_at before g))) (sym whole),
        )
      where
        none_left : (left : List Entry) → All IsInRange left → drop size rest ≡ spellings left → left ≡ []
        none_left [] in_range is = refl
        none_left (first ∷ left) in_range is =
            absurd (omega (
              arith,
              ap length (sym is ∙ ends),
              length-append (spelling first) (spellings left),
              (spelling-sizes first (All-head IsInRange first left in_range)).0,
            ))

    -- it wasn't written whole
    pub SentUpTo-fails : FailsToTake now new (sent_of from (parcel ∷ []))
        → TakesPrefix out new (sent_of from (parcels_at before group))
    SentUpTo-fails fails =
        let written = sent_of from (parcels_at before next.done) in
        let part = fails.prefix.0 in
        let lost = fails.prefix.1 in
        let after = sent_of from (parcels_at (before + length (next.done ++ entry ∷ [])) next.left) in
        let whole : group ≡ (next.done ++ entry ∷ []) ++ next.left =
        next.is ∙ sym (append_assoc next.done (entry ∷ []) next.left) in
        let all : sent_of from (parcels_at before group) ≡ (written ++ (part ++ lost)) ++ after =
        ap (λ (g : List Entry). sent_of from (parcels_at before g)) whole
        ∙ ap (sent_of from) (parcels_at-append before (next.done ++ entry ∷ []) next.left)
        ∙ sent_of-append from (parcels_at before (next.done ++ entry ∷ [])) _
        ∙ ap (λ (bytes : List ℕ). bytes ++ after)
        (sym more ∙ ap (λ (bytes : List ℕ). written ++ bytes) fails.prefix.2) in (
          written ++ part,
          lost ++ after,
          all ∙ ap (λ (bytes : List ℕ). bytes ++ after) (sym (append_assoc written part lost))
              ∙ append_assoc (written ++ part) lost after,
          fails.prefix.3
              ∙ ap (λ (t : Option (List ℕ)). after_taken t part) next.taken
              ∙ after_taken-more out.taken written part,
        )
