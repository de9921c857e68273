-- What is kept for a place came with a parcel of that place.
use Rattle.std.proofs.Common.{◌≡◌, ℕ, ◌+◌, ◌-◌, ◌<◌, List, [], ◌∷◌, ◌++◌, length, inl, inr, refl, sym, ◌∙◌, subst, arith, length-append}
use Rattle.std.specs.Prelude.{All, Option, Some, None, Ok, Contains}
use Rattle.std.proofs.lemmas.List.Elements.{All-contains_itself, All-head, All-tail}
use Rattle.tb_message.specs.declared.message.Entry.{Entry}
use Rattle.tb_parcel.specs.declared.parcel.Parcel.{Parcel}
use Rattle.tb_replica.specs.declared.taken.Taken.{Taken}
use Rattle.tb_replica.specs.Arrival.{AreTaken, kept_at}
use Rattle.tb_replica.specs.Followers.{IsFresh}
use Rattle.tb_replica.specs.Following.{Following, Outcome, Runs, Gap, LetGo, Forks, Breaks, Goes, Takes, Stands, Below, Refused, Adds, Keeps, Drops, Fails}
use Rattle.tb_replica.specs.Window.{shifted}
use Rattle.tb_replica.proofs.ArrivalLemmas.{AreKept, AreKept-keeping, AreKept-shifted, length-keeping}
use Rattle.tb_replica.proofs.WindowLemmas.{length-shifted}

-- this holds of each place behind the next one and of what a copy keeps for it
pub record Keep (Holds : ℕ → Entry → Type 0) (copy : Following) : Type 0 where
  pub window : length copy.ahead ≡ 1023
  pub kept : AreKept Holds (length copy.history + 1) copy.ahead

-- where nothing is kept
pub Keep-fresh : (Holds : ℕ → Entry → Type 0) (copy : Following) → IsFresh copy → Keep Holds copy
Keep-fresh Holds copy fresh = record {
  window = fresh.window;
  kept = λ index entry is.
      let none : None ≡ Some entry = sym (fresh.nothing index) ∙ is in
      absurd (cc);
}

-- a run that ends lets go of the place where it ended
Keep-ends : (Holds : ℕ → Entry → Type 0) (history : List Entry) (ahead : List (Option Entry)) (new : Following)
    → new ≡ record { history = history; ahead = shifted ahead }
    → length ahead ≡ 1023
    → AreKept Holds (length history) ahead
    → Keep Holds new
Keep-ends Holds history ahead new left window are =
    subst (Keep Holds) (sym left)
    (record {
      window = length-shifted ahead (omega arith) ∙ window;
      kept = AreKept-shifted Holds (length history) ahead are;
    })

-- a run keeps no more than was kept
Runs-keep : (Holds : ℕ → Entry → Type 0) (new : Following) (outcome : Outcome) (answer : Taken) (history : List Entry)
    (ahead : List (Option Entry)) (added : ℕ)
    → Runs new outcome history ahead added
    → outcome ≡ Ok answer
    → length ahead ≡ 1023
    → AreKept Holds (length history) ahead
    → Keep Holds new
Runs-keep Holds new outcome answer _ _ _ (Gap history ahead added none told left) ok window are =
    Keep-ends Holds history ahead new left window are
Runs-keep Holds new outcome answer _ _ _ (LetGo history ahead added entry kept among told left) ok window are =
    Keep-ends Holds history ahead new left window are
Runs-keep Holds new outcome answer _ _ _ (Forks history ahead added entry kept among not_follows told left) ok window
    are = cc
Runs-keep Holds new outcome answer _ _ _ (Breaks history ahead added entry kept not_among broken same) ok window are =
    elim broken [ inl is ↦ cc | inr is ↦ cc ]
Runs-keep Holds new outcome answer _ _ _ (Goes history ahead added entry kept follows more) ok window are =
    Runs-keep Holds new outcome answer (history ++ entry ∷ []) (shifted ahead) (added + 1) more ok
    (length-shifted ahead (omega arith) ∙ window)
    (subst (λ (n : ℕ). AreKept Holds n (shifted ahead)) (sym (length-append history (entry ∷ [])))
    (AreKept-shifted Holds (length history) ahead are))

-- a parcel adds no more than its own entry, at its place
pub Takes-keep : (Holds : ℕ → Entry → Type 0) (old new : Following) (parcel : Parcel) (outcome : Outcome) (answer : Taken)
    → Takes parcel old new outcome
    → outcome ≡ Ok answer
    → Holds parcel.place parcel.entry
    → Keep Holds old
    → Keep Holds new
Takes-keep Holds old new parcel outcome answer (Stands among told same) ok holds keep =
    subst (Keep Holds) (sym same) keep
Takes-keep Holds old new parcel outcome answer (Below not_among before told same) ok holds keep = cc
Takes-keep Holds old new parcel outcome answer (Refused not_among at not_follows told same) ok holds keep = cc
Takes-keep Holds old new parcel outcome answer (Adds at follows runs) ok holds keep =
    Runs-keep Holds new outcome answer (old.history ++ parcel.entry ∷ []) old.ahead 1 runs ok keep.window
    (subst (λ (n : ℕ). AreKept Holds n old.ahead) (sym (length-append old.history (parcel.entry ∷ []))) keep.kept)
Takes-keep Holds old new parcel outcome answer (Keeps not_among low high told left) ok holds keep =
    let index : ℕ = parcel.place - (length old.history + 1) in
    let back : length old.history + 1 + index ≡ parcel.place = omega arith in
    let within : index < length old.ahead = omega (arith, keep.window) in
    subst (Keep Holds) (sym left)
    (record {
      window = length-keeping old.ahead index parcel.entry ∙ keep.window;
      kept = AreKept-keeping Holds (length old.history + 1) old.ahead index parcel.entry within
          (subst (λ (n : ℕ). Holds n parcel.entry) (sym back) holds) keep.kept;
    })
Takes-keep Holds old new parcel outcome answer (Drops not_among far told same) ok holds keep =
    subst (Keep Holds) (sym same) keep
Takes-keep Holds old new parcel outcome answer (Fails not_among at broken same) ok holds keep =
    elim broken [ inl is ↦ cc | inr is ↦ cc ]

-- so do all parcels of which this holds
AreTaken-keep : (Holds : ℕ → Entry → Type 0) (parcels : List Parcel) (old new : Following)
    → AreTaken parcels old new
    → All (λ (parcel : Parcel). Holds parcel.place parcel.entry) parcels
    → Keep Holds old
    → Keep Holds new
AreTaken-keep Holds [] old new same each keep = subst (Keep Holds) (sym same) keep
AreTaken-keep Holds (parcel ∷ parcels) old new taken_all each keep =
    AreTaken-keep Holds parcels taken_all.0 new taken_all.3
    (All-tail (λ (one : Parcel). Holds one.place one.entry) parcel parcels each)
    (Takes-keep Holds old taken_all.0 parcel (Ok taken_all.1) taken_all.1 taken_all.2 refl
    (All-head (λ (one : Parcel). Holds one.place one.entry) parcel parcels each) keep)

-- one of these parcels has the place and the entry
abbrev IsAmong : List Parcel → ℕ → Entry → Type 0
IsAmong parcels place entry = Contains parcels (record { place = place; entry = entry })

-- what a copy keeps that kept nothing before came with one of the parcels
pub kept_came : (parcels : List Parcel) (old new : Following) (place : ℕ) (entry : Entry)
    → IsFresh old
    → AreTaken parcels old new
    → length new.history < place
    → kept_at new place ≡ Some entry
    → Contains parcels (record { place = place; entry = entry })
kept_came parcels old new place entry fresh taken_all behind kept =
    let keep : Keep (IsAmong parcels) new =
    AreTaken-keep (IsAmong parcels) parcels old new taken_all (All-contains_itself parcels)
    (Keep-fresh (IsAmong parcels) old fresh) in
    let back : length new.history + 1 + (place - (length new.history + 1)) ≡ place = omega arith in
    subst (λ (n : ℕ). IsAmong parcels n entry) back
    (keep.kept (place - (length new.history + 1)) entry kept)
