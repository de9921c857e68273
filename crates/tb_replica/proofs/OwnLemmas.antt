-- Each entry that is added came with a parcel.
use Rattle.std.proofs.Common.{◌≡◌, ℕ, ◌+◌, List, [], ◌∷◌, ◌++◌, length, get_or, refl, ap, sym, ◌∙◌, subst, append-nil, append_assoc}
use Rattle.std.specs.Prelude.{All, Any, Option, Ok}
use Rattle.std.proofs.lemmas.List.{append_cancel_left}
use Rattle.std.proofs.lemmas.List.Elements.{All-append, All-contains_itself, All-cons, All-head, All-nil, All-tail}
use Rattle.tb_message.specs.declared.message.Entry.{Entry}
use Rattle.tb_parcel.specs.declared.parcel.Parcel.{Parcel}
use Rattle.tb_replica.specs.Arrival.{AreTaken}
use Rattle.tb_replica.specs.Followers.{IsFresh}
use Rattle.tb_replica.specs.Following.{Following, Outcome, Runs, Gap, LetGo, Forks, Breaks, Goes, Takes, Stands, Below, Refused, Adds, Keeps, Drops, Fails}
use Rattle.tb_replica.specs.Window.{shifted}
use Rattle.tb_replica.proofs.ArrivalLemmas.{AreKept, AreKept-shifted}
use Rattle.tb_replica.proofs.KeptLemmas.{Keep, Keep-fresh, Takes-keep}

-- the new history is the old one and entries of which this holds
pub record IsGrownBy (Own : Entry → Type 0) (old new : List Entry) : Type 0 where
  pub more : List Entry
  pub is : new ≡ old ++ more
  pub own : All Own more

-- it stays as it was
IsGrownBy-same : (Own : Entry → Type 0) (old new : List Entry) → new ≡ old → IsGrownBy Own old new
IsGrownBy-same Own old new is = record { more = []; is = is ∙ sym (append-nil old); own = All-nil Own }

-- it grows twice
pub IsGrownBy-both : (Own : Entry → Type 0) (old mid new : List Entry)
    → IsGrownBy Own old mid
    → IsGrownBy Own mid new
    → IsGrownBy Own old new
IsGrownBy-both Own old mid new one other = record {
  more = one.more ++ other.more;
  is = other.is
      ∙ (ap (λ (entries : List Entry). entries ++ other.more) one.is ∙ append_assoc old one.more other.more);
  own = All-append Own one.more other.more one.own other.own;
}

-- it grows by one entry
IsGrownBy-one : (Own : Entry → Type 0) (old : List Entry) (entry : Entry)
    → Own entry
    → IsGrownBy Own old (old ++ entry ∷ [])
IsGrownBy-one Own old entry own = record {
  more = entry ∷ [];
  is = refl;
  own = All-cons Own entry [] own (All-nil Own);
}

-- a run adds what was kept
Runs-own : (Own : Entry → Type 0) (new : Following) (outcome : Outcome) (history : List Entry)
    (ahead : List (Option Entry)) (added : ℕ)
    → Runs new outcome history ahead added
    → AreKept (λ place entry. Own entry) (length history) ahead
    → IsGrownBy Own history new.history
Runs-own Own new outcome _ _ _ (Gap history ahead added none told left) are =
    IsGrownBy-same Own history new.history (ap (λ (f : Following). f.history) left)
Runs-own Own new outcome _ _ _ (LetGo history ahead added entry kept among told left) are =
    IsGrownBy-same Own history new.history (ap (λ (f : Following). f.history) left)
Runs-own Own new outcome _ _ _ (Forks history ahead added entry kept not_among not_follows told is) are =
    IsGrownBy-same Own history new.history is
Runs-own Own new outcome _ _ _ (Breaks history ahead added entry kept not_among broken is) are =
    IsGrownBy-same Own history new.history is
Runs-own Own new outcome _ _ _ (Goes history ahead added entry kept follows more) are =
    IsGrownBy-both Own history (history ++ entry ∷ []) new.history (IsGrownBy-one Own history entry (are 0 entry kept))
    (Runs-own Own new outcome (history ++ entry ∷ []) (shifted ahead) (added + 1) more
    (λ index other is. AreKept-shifted (λ place e. Own e) (length history) ahead are index other is))

-- a parcel adds its own entry, and what was kept
pub Takes-own : (Own : Entry → Type 0) (parcel : Parcel) (old new : Following) (outcome : Outcome)
    → Takes parcel old new outcome
    → Own parcel.entry
    → Keep (λ place entry. Own entry) old
    → IsGrownBy Own old.history new.history
Takes-own Own parcel old new outcome (Stands among told is) own keep =
    IsGrownBy-same Own old.history new.history (ap (λ (f : Following). f.history) is)
Takes-own Own parcel old new outcome (Below not_among before told is) own keep =
    IsGrownBy-same Own old.history new.history (ap (λ (f : Following). f.history) is)
Takes-own Own parcel old new outcome (Refused not_among at not_follows told is) own keep =
    IsGrownBy-same Own old.history new.history (ap (λ (f : Following). f.history) is)
Takes-own Own parcel old new outcome (Adds at follows runs) own keep =
    IsGrownBy-both Own old.history (old.history ++ parcel.entry ∷ []) new.history
    (IsGrownBy-one Own old.history parcel.entry own)
    (Runs-own Own new outcome (old.history ++ parcel.entry ∷ []) old.ahead 1 runs
    (λ index other is. keep.kept index other is))
Takes-own Own parcel old new outcome (Keeps not_among low high told left) own keep =
    IsGrownBy-same Own old.history new.history (ap (λ (f : Following). f.history) left)
Takes-own Own parcel old new outcome (Drops not_among far told is) own keep =
    IsGrownBy-same Own old.history new.history (ap (λ (f : Following). f.history) is)
Takes-own Own parcel old new outcome (Fails not_among at broken is) own keep =
    IsGrownBy-same Own old.history new.history (ap (λ (f : Following). f.history) is)

-- what parcels leave: a history grown by entries of which this holds, and of which more are kept
pub record AreOwn (Own : Entry → Type 0) (old new : Following) : Type 0 where
  pub grown : IsGrownBy Own old.history new.history
  pub keep : Keep (λ place entry. Own entry) new

-- so it is of parcels of whose entries this holds
pub AreTaken-own : (Own : Entry → Type 0) (parcels : List Parcel) (old new : Following)
    → AreTaken parcels old new
    → All (λ (parcel : Parcel). Own parcel.entry) parcels
    → Keep (λ place entry. Own entry) old
    → AreOwn Own old new
AreTaken-own Own [] old new is each keep = record {
  grown = IsGrownBy-same Own old.history new.history (ap (λ (f : Following). f.history) is);
  keep = subst (Keep (λ place entry. Own entry)) (sym is) keep;
}
AreTaken-own Own (parcel ∷ parcels) old new taken_all each keep =
    let own : Own parcel.entry = All-head (λ (one : Parcel). Own one.entry) parcel parcels each in
    let one = Takes-own Own parcel old taken_all.0 (Ok taken_all.1) taken_all.2 own keep in
    let later : AreOwn Own taken_all.0 new =
    AreTaken-own Own parcels taken_all.0 new taken_all.3
    (All-tail (λ (one : Parcel). Own one.entry) parcel parcels each)
    (Takes-keep (λ place entry. Own entry) old taken_all.0 parcel (Ok taken_all.1) taken_all.1 taken_all.2 refl own
    keep) in
    record {
      grown = IsGrownBy-both Own old.history taken_all.0.history new.history one later.grown;
      keep = later.keep;
    }

-- the entry came with one of these parcels
abbrev pub Came : List Parcel → Entry → Type 0
Came parcels entry = Any (λ (parcel : Parcel). parcel.entry ≡ entry) parcels

-- each of their own did
pub came-own : (parcels : List Parcel) → All (λ (parcel : Parcel). Came parcels parcel.entry) parcels
came-own parcels place d within =
    let among = All-contains_itself parcels place d within in
    (among.0, get_or parcels place d, among.1, among.2, refl)

-- what was added to a copy that kept nothing came with one of the parcels
pub added_came : (parcels : List Parcel) (old new : Following) (more : List Entry)
    → IsFresh old
    → AreTaken parcels old new
    → new.history ≡ old.history ++ more
    → All (Came parcels) more
added_came parcels old new more fresh taken_all grown =
    let own : AreOwn (Came parcels) old new =
    AreTaken-own (Came parcels) parcels old new taken_all (came-own parcels)
    (Keep-fresh (λ place entry. Came parcels entry) old fresh) in
    subst (All (Came parcels))
    (append_cancel_left old.history own.grown.more more (sym own.grown.is ∙ grown)) own.grown.own
