-- Whatever parcels come, the copy goes on and stays legal.
use Rattle.std.proofs.Common.{◌≡◌, ℕ, ◌+◌, List, [], ◌∷◌, ◌++◌, refl, ap, sym, ◌∙◌, subst, append-nil, append_assoc}
use Rattle.std.specs.Prelude.{Option, Ok}
use Rattle.tb_message.specs.declared.message.Entry.{Entry}
use Rattle.tb_history.specs.Legal.{IsLegal, Longer, Follows}
use Rattle.tb_parcel.specs.declared.parcel.Parcel.{Parcel}
use Rattle.tb_replica.specs.Following.{Following, Outcome, GoesOn, Runs, Gap, LetGo, Forks, Breaks, Goes, Takes, Stands, Below, Refused, Adds, Keeps, Drops, Fails}
use Rattle.tb_replica.specs.Window.{shifted}
use Rattle.tb_replica.specs.Arrival.{AreTaken}

-- it stays as it was
GoesOn-same : (old new : List Entry) → IsLegal old → new ≡ old → GoesOn old new
GoesOn-same old new legal same = record {
  more = [];
  is = same ∙ sym (append-nil old);
  legal = subst IsLegal (sym same) legal;
}

-- it goes on from where it went on to
GoesOn-further : (old between new : List Entry) → GoesOn old between → GoesOn between new → GoesOn old new
GoesOn-further old between new first behind = record {
  more = first.more ++ behind.more;
  is = behind.is
      ∙ (ap (λ (list : List Entry). list ++ behind.more) first.is ∙ append_assoc old first.more behind.more);
  legal = behind.legal;
}

-- one entry more
GoesOn-one : (old : List Entry) (entry : Entry) → IsLegal old → Follows old entry → GoesOn old (old ++ entry ∷ [])
GoesOn-one old entry legal follows = record {
  more = entry ∷ [];
  is = refl;
  legal = Longer old entry legal follows;
}

-- a run adds entries that can follow, and nothing else
Runs-goes_on : (new : Following) (outcome : Outcome) (history : List Entry) (ahead : List (Option Entry)) (added : ℕ)
    → Runs new outcome history ahead added
    → IsLegal history
    → GoesOn history new.history
Runs-goes_on new outcome _ _ _ (Gap history ahead added none told left) legal =
    GoesOn-same history new.history legal (ap (λ (f : Following). f.history) left)
Runs-goes_on new outcome _ _ _ (LetGo history ahead added entry kept among told left) legal =
    GoesOn-same history new.history legal (ap (λ (f : Following). f.history) left)
Runs-goes_on new outcome _ _ _ (Forks history ahead added entry kept not_among not_follows told same) legal =
    GoesOn-same history new.history legal same
Runs-goes_on new outcome _ _ _ (Breaks history ahead added entry kept not_among broken same) legal =
    GoesOn-same history new.history legal same
Runs-goes_on new outcome _ _ _ (Goes history ahead added entry kept follows more) legal =
    let one = GoesOn-one history entry legal follows in
    GoesOn-further history (history ++ entry ∷ []) new.history one
    (Runs-goes_on new outcome (history ++ entry ∷ []) (shifted ahead) (added + 1) more one.legal)

-- and so does a parcel
pub Takes-goes_on : (parcel : Parcel) (old new : Following) (outcome : Outcome)
    → IsLegal old.history
    → Takes parcel old new outcome
    → GoesOn old.history new.history
Takes-goes_on parcel old new outcome legal (Stands among told same) =
    GoesOn-same old.history new.history legal (ap (λ (f : Following). f.history) same)
Takes-goes_on parcel old new outcome legal (Below not_among before told same) =
    GoesOn-same old.history new.history legal (ap (λ (f : Following). f.history) same)
Takes-goes_on parcel old new outcome legal (Refused not_among at not_follows told same) =
    GoesOn-same old.history new.history legal (ap (λ (f : Following). f.history) same)
Takes-goes_on parcel old new outcome legal (Adds at follows runs) =
    let one = GoesOn-one old.history parcel.entry legal follows in
    GoesOn-further old.history (old.history ++ parcel.entry ∷ []) new.history one
    (Runs-goes_on new outcome (old.history ++ parcel.entry ∷ []) old.ahead 1 runs one.legal)
Takes-goes_on parcel old new outcome legal (Keeps not_among low high told left) =
    GoesOn-same old.history new.history legal (ap (λ (f : Following). f.history) left)
Takes-goes_on parcel old new outcome legal (Drops not_among far told same) =
    GoesOn-same old.history new.history legal (ap (λ (f : Following). f.history) same)
Takes-goes_on parcel old new outcome legal (Fails not_among at broken same) =
    GoesOn-same old.history new.history legal (ap (λ (f : Following). f.history) same)

-- and a list of them
pub AreTaken-goes_on : (parcels : List Parcel) (old new : Following)
    → IsLegal old.history
    → AreTaken parcels old new
    → GoesOn old.history new.history
AreTaken-goes_on [] old new legal same =
    GoesOn-same old.history new.history legal (ap (λ (f : Following). f.history) same)
AreTaken-goes_on (parcel ∷ parcels) old new legal taken_all =
    let one = Takes-goes_on parcel old taken_all.0 (Ok taken_all.1) legal taken_all.2 in
    GoesOn-further old.history taken_all.0.history new.history one
    (AreTaken-goes_on parcels taken_all.0 new one.legal taken_all.3)
