-- The headline along the parcels that a copy takes.
use Rattle.std.proofs.Common.{◌≡◌, ℕ, ◌+◌, ◌-◌, List, [], ◌∷◌, ◌++◌, length, get_or, inl, inr, refl, ap, sym, ◌∙◌, subst}
use Rattle.std.specs.Prelude.{All, Ok, Err}
use Rattle.std.proofs.lemmas.List.{append_cancel_left}
use Rattle.std.proofs.lemmas.List.Elements.{All-append, All-contains_itself, All-cons, All-nil, Contains-append_left, Contains-push}
use Rattle.tb_disk.specs.Disks.{DiskState}
use Rattle.tb_message.specs.declared.message.Entry.{Entry}
use Rattle.tb_parcel.specs.declared.parcel.Parcel.{Parcel}
use Rattle.tb_replica.specs.Arrival.{AreTaken}
use Rattle.tb_replica.specs.Crashes.{IsInDoubt, WaitsFor}
use Rattle.tb_replica.specs.Following.{Following, Outcome, Takes}
use Rattle.tb_replica.specs.declared.taken.TakeFault.{TakeFault}
use Rattle.tb_replica.specs.declared.taken.TakeFault.TheVariants as fault
use Rattle.tb_replica.proofs.KeptLemmas.{Keep, Keep-fresh}
use Rattle.tb_replica.proofs.OwnLemmas.{AreOwn, AreTaken-own, Came, IsGrownBy, IsGrownBy-both, Takes-own, came-own}
use Rattle.tb_commands.specs.DiskRun.{Stays}
use Rattle.tb_commands.specs.Doubted.{IsOfParcels}
use Rattle.tb_commands.specs.FollowTakeRun.{BreaksBehind, HasCome, LeavesInDoubt}
use Rattle.tb_commands.specs.Standings.{Standing, held_at}
use Rattle.tb_commands.proofs.DoubtedLemmas.{doubted-parcels}
use Rattle.tb_host.specs.Headline.{Headline}
use Rattle.tb_host.specs.ScriptHeadline.{Along, FollowHeadline, TakesParcel, of_parcels}
use Rattle.tb_host.proofs.ChainLemmas.{OneHistory-here}
use Rattle.tb_host.proofs.HeadlineLemmas.{AddsUp-legal, bids-in-time}

-- ---- one chain of copies

-- parcels that are taken are a chain
taken-along : (parcels : List Parcel) (old new : Following)
    → AreTaken parcels old new
    → Along TakesParcel old parcels new
taken-along [] old new same = same
taken-along (parcel ∷ parcels) old new taken =
    (taken.0, (Ok taken.1, taken.2), taken-along parcels taken.0 new taken.3)

-- with one more behind them, whatever is answered
broken-along : (parcels : List Parcel) (parcel : Parcel) (old now new : Following) (outcome : Outcome)
    → AreTaken parcels old now
    → Takes parcel now new outcome
    → Along TakesParcel old (parcels ++ parcel ∷ []) new
broken-along [] parcel old now new outcome same takes =
    (new, (outcome, subst (λ (f : Following). Takes parcel f new outcome) same takes), refl)
broken-along (first ∷ parcels) parcel old now new outcome taken takes =
    (taken.0, (Ok taken.1, taken.2), broken-along parcels parcel taken.0 now new outcome taken.3 takes)

-- ---- entries of the parcels

-- what is added is of the parcels, with what is in doubt
own-with : (Own : Entry → Type 0) (first last : Standing) (opened : Following) (more : List Entry)
    → opened.history ≡ first.history
    → IsGrownBy Own opened.history last.history
    → last.history ≡ first.history ++ more
    → All Own last.doubt
    → All Own (more ++ last.doubt)
own-with Own first last opened more begins grown is doubt =
    All-append Own more last.doubt
    (subst (All Own) (append_cancel_left first.history grown.more more same) grown.own) doubt
  where
    same : first.history ++ grown.more ≡ first.history ++ more
    same = sym (grown.is ∙ ap (λ (entries : List Entry). entries ++ grown.more) begins) ∙ is

-- nothing is in doubt
own-sure : (Own : Entry → Type 0) (last : Standing) → last.doubt ≡ [] → All Own last.doubt
own-sure Own last sure = subst (All Own) (sym sure) (All-nil Own)

-- the headline of parcels, of which all that was added is, and what is in doubt
parcels-headline : (disk : DiskState) (first last : Standing) (more : List Entry) (parcels : List Parcel)
    → Stays last disk
    → All (Came parcels) (more ++ last.doubt)
    → Headline of_parcels disk first last more parcels
parcels-headline disk first last more parcels stays own = record {
  one_history = OneHistory-here of_parcels disk first last more parcels stays (λ k d within. tt) own (λ e some. some);
  keeps = λ k d within e none. absurd none;
  by_the_rule = λ k d within. tt;
  in_time = bids-in-time last.history stays.legal;
  sealed = λ k d within. tt;
  holdings = AddsUp-legal last.history stays.legal;
  holdings_on = λ k d within history none. absurd none;
}

-- ---- parcels that were all taken

pub FollowHeadline-taken : (disk : DiskState) (parcels : List Parcel) (first last : Standing) (more : List Entry)
    → HasCome parcels first last
    → first.doubted ≡ []
    → last.history ≡ first.history ++ more
    → Stays last disk
    → FollowHeadline disk first last more parcels
FollowHeadline-taken disk parcels first last more come none grown stays = record {
  opened = opened;
  begins = come.1.begins;
  fresh = come.1.fresh;
  ended = come.0;
  ends = come.2;
  chain = taken-along parcels opened come.0 come.1.taken;
  headline = parcels-headline disk first last more parcels stays
      (own-with (Came parcels) first last opened more come.1.begins
      (subst (λ (entries : List Entry). IsGrownBy (Came parcels) opened.history entries) (sym come.2) own.grown) grown
      (own-sure (Came parcels) last come.3.0));
  doubted = subst (All (IsOfParcels parcels last.history)) (sym (come.3.1 ∙ none))
      (All-nil (IsOfParcels parcels last.history));
}
  where
    opened : Following
    opened = come.1.opened

    own : AreOwn (Came parcels) opened come.0
    own = AreTaken-own (Came parcels) parcels opened come.0 come.1.taken (came-own parcels)
        (Keep-fresh (λ place entry. Came parcels entry) opened come.1.fresh)

-- ---- parcels of which the last met a fault

module _ (parcels : List Parcel) (parcel : Parcel) where
  abbrev all : List Parcel
  all = parcels ++ parcel ∷ []

  -- the entry of each is one of all
  each-own : All (λ (one : Parcel). Came all one.entry) parcels
  each-own place d within =
      let among = Contains-append_left parcels (parcel ∷ []) (get_or parcels place d)
      (All-contains_itself parcels place d within) in
      (among.0, get_or parcels place d, among.1, among.2, refl)

  -- so is the last one's
  last-own : Came all parcel.entry
  last-own = let among = Contains-push parcels parcel in (among.0, parcel, among.1, among.2, refl)

  -- what waited is one of them
  waits-own : (now : Following) (place : ℕ) (entry : Entry)
      → Keep (λ at kept. Came all kept) now
      → WaitsFor parcel now place entry
      → Came all entry
  waits-own now place entry keep (inl own) = subst (Came all) (sym own.1) last-own
  waits-own now place entry keep (inr kept) = keep.kept (place - (length now.history + 1)) entry kept.1

  -- so is what is in doubt
  doubt-own : (why : TakeFault) (first last : Standing) (now : Following)
      → Keep (λ at kept. Came all kept) now
      → LeavesInDoubt why parcel first last now
      → All (Came all) last.doubt
  doubt-own fault.DiskFault first last now keep left =
      let doubt : IsInDoubt (WaitsFor parcel now) (held_at last) = left.0 in
      subst (All (Came all)) (sym doubt.alone)
      (All-cons (Came all) doubt.entry [] (waits-own now (length last.history) doubt.entry keep doubt.waited)
      (All-nil (Came all)))
  doubt-own (fault.Forked place) first last now keep left = own-sure (Came all) last left.0
  doubt-own fault.OutOfMemory first last now keep left = own-sure (Came all) last left.0

  -- and each group that was in doubt is a parcel's
  all-doubted : (why : TakeFault) (first last : Standing)
      → BreaksBehind why parcels parcel first last
      → first.doubted ≡ []
      → All (IsOfParcels all last.history) last.doubted
  all-doubted fault.DiskFault first last breaks none = doubted-parcels parcels parcel first last breaks none
  all-doubted (fault.Forked place) first last breaks none =
      subst (All (IsOfParcels all last.history)) (sym (breaks.5.1 ∙ none)) (All-nil (IsOfParcels all last.history))
  all-doubted fault.OutOfMemory first last breaks none =
      subst (All (IsOfParcels all last.history)) (sym (breaks.5.1 ∙ none)) (All-nil (IsOfParcels all last.history))

pub FollowHeadline-broken : (disk : DiskState) (why : TakeFault) (parcels : List Parcel) (parcel : Parcel)
    (first last : Standing) (more : List Entry)
    → BreaksBehind why parcels parcel first last
    → first.doubted ≡ []
    → last.history ≡ first.history ++ more
    → Stays last disk
    → FollowHeadline disk first last more (parcels ++ parcel ∷ [])
FollowHeadline-broken disk why parcels parcel first last more breaks none grown stays = record {
  opened = opened;
  begins = breaks.2.begins;
  fresh = breaks.2.fresh;
  ended = breaks.1;
  ends = breaks.4;
  chain = broken-along parcels parcel opened breaks.0 breaks.1 (Err why) breaks.2.taken breaks.3;
  headline = parcels-headline disk first last more (parcels ++ parcel ∷ []) stays
      (own-with Own first last opened more breaks.2.begins
      (subst (λ (entries : List Entry). IsGrownBy Own opened.history entries) (sym breaks.4) whole) grown
      (doubt-own parcels parcel why first last breaks.0 own.keep breaks.5));
  doubted = all-doubted parcels parcel why first last breaks none;
}
  where
    opened : Following
    opened = breaks.2.opened

    Own : Entry → Type 0
    Own = Came (parcels ++ parcel ∷ [])

    own : AreOwn Own opened breaks.0
    own = AreTaken-own Own parcels opened breaks.0 breaks.2.taken (each-own parcels parcel)
        (Keep-fresh (λ place entry. Own entry) opened breaks.2.fresh)

    whole : IsGrownBy Own opened.history breaks.1.history
    whole = IsGrownBy-both Own opened.history breaks.0.history breaks.1.history own.grown
        (Takes-own Own parcel breaks.0 breaks.1 (Err why) breaks.3 (last-own parcels parcel) own.keep)
