-- Filing row after row.
use Rattle.std.proofs.Common.{◌≡◌, ℕ, ◌+◌, ◌*◌, ◌≤◌, Bool, List, [], ◌∷◌, ◌++◌, length, take, drop, true, false, Option}
use Rattle.std.proofs.Common.{Some, None}
use Rattle.std.proofs.Common.{inl, inr, Contains, refl, sym, ap, subst, ◌∙◌, arith, length-append}
use Rattle.std.proofs.lemmas.List.{length-take-le, take-append-drop}
use Rattle.std.specs.Prelude.{Ok, Err, IfSome, slice_get}
use Rattle.std.specs.List.{AllByRecursion}
use Rattle.std.specs.Option.{option_map}
use Rattle.tb_link.specs.Counts.{Rose}
use Rattle.tb_message.specs.declared.message.Entry.{Entry}
use Rattle.tb_history.specs.Roster.{publications}
use Rattle.tb_history.proofs.PartLemmas.{AllByRecursion-append, AllByRecursion-weaker}
use Rattle.tb_register.specs.Rows.{Kept}
use Rattle.tb_register.specs.Tables.{row_named, registered, put_in}
use Rattle.tb_register.specs.Keepers.{KeeperState}
use Rattle.tb_register.proofs.CallerLemmas.{registered_last, told_last, length-put_in}
use Rattle.tb_register.proofs.RegisterLemmas.{put_in_new, put_in_stays, put_in_there, registered_stays}
use Rattle.tb_filing.specs.Rows.{IsRowOf}
use Rattle.tb_filing.specs.Filing.{Agrees, Differs, Files, FilesAll, FilesSome, FilingEnds, HadOther, IsPutAs, counted}
use Rattle.tb_filing.specs.declared.filing.FilingFault.{FilingFault}
use Rattle.tb_filing.specs.declared.filing.FilingFault.TheVariants as fault
use Rattle.tb_filing.specs.declared.filing.Tally.{Tally}
use Rattle.tb_filing.proofs.RowLemmas.{AreRowsOf-more, IsRowOf-name, IsRowOf-one, named-name, named_registered}
use Rattle.tb_filing.proofs.RowLemmas.{row-among}
use Rattle.tb_filing.proofs.PublishedLemmas.{drop-here, publications-few}

-- the row stands in the table
abbrev IsThere : List Kept → Kept → Type 0
IsThere table row = row_named row.auction table ≡ Some row

module _ (table rows : List Kept) (row : Kept) (added : ℕ)
    (files : Files added rows table (registered table rows)) where
  abbrev now : List Kept
  now = registered table rows

  -- where nothing of the row's name is there, it is added
  Files-added : row_named row.auction now ≡ None
      → Files (added + 1) (rows ++ row ∷ []) table (registered table (rows ++ row ∷ []))
  Files-added none =
      let last : registered table (rows ++ row ∷ []) ≡ put_in row now = registered_last table rows row in
      let agrees : Agrees table row = λ there was.
      let both : None ≡ Some there = sym none ∙ registered_stays rows row.auction table there was in
      absurd (cc (both)) in
      let stays : AllByRecursion (IsThere (put_in row now)) rows =
      AllByRecursion-weaker (IsThere now) (IsThere (put_in row now)) (λ r is. put_in_stays r.auction row now r is) rows
      files.there in
      let there : AllByRecursion (IsThere (put_in row now)) (rows ++ row ∷ []) =
      AllByRecursion-append (IsThere (put_in row now)) rows (row ∷ []) stays (put_in_new row now none, tt) in
      record {
        is = refl;
        agree = AllByRecursion-append (Agrees table) rows (row ∷ []) files.agree (agrees, tt);
        there = subst (λ (t : List Kept). AllByRecursion (IsThere t) (rows ++ row ∷ [])) (sym last) there;
        more = ap length last ∙ omega (arith, files.more, length-put_in row now none);
      }

  -- where the row is there, the table stays
  Files-present : row_named row.auction now ≡ Some row
      → Files added (rows ++ row ∷ []) table (registered table (rows ++ row ∷ []))
  Files-present is =
      let last : registered table (rows ++ row ∷ []) ≡ now =
      registered_last table rows row ∙ put_in_there row now row is in
      let agrees : Agrees table row = λ there was.
      let both : Some there ≡ Some row = sym (registered_stays rows row.auction table there was) ∙ is in cc (both) in
      let there : AllByRecursion (IsThere now) (rows ++ row ∷ []) =
      AllByRecursion-append (IsThere now) rows (row ∷ []) files.there (is, tt) in
      record {
        is = refl;
        agree = AllByRecursion-append (Agrees table) rows (row ∷ []) files.agree (agrees, tt);
        there = subst (λ (t : List Kept). AllByRecursion (IsThere t) (rows ++ row ∷ [])) (sym last) there;
        more = ap length last ∙ files.more;
      }

-- nothing is filed yet
pub FilesAll-nothing : (history : List Entry) (tally : Tally) (keeper : KeeperState)
    → tally.added ≡ 0
    → tally.present ≡ 0
    → FilesAll history [] tally keeper keeper
FilesAll-nothing history tally keeper added present = record {
  rows = [];
  are = tt;
  table = same keeper.table;
  files = told keeper.table;
  all = omega (arith, added, present);
}
  where
    same : (told : Option (List Kept)) → told ≡ option_map (λ table. registered table []) told
    same None = refl
    same (Some table) = refl

    told : (told : Option (List Kept)) → IfSome told (λ table. Files tally.added [] table (registered table []))
    told None = tt
    told (Some table) = record { is = refl; agree = tt; there = tt; more = omega (arith, added) }

module _ (history : List Entry) (auctions : List (List ℕ)) (tally : Tally) (old now : KeeperState)
    (files : FilesAll history auctions tally old now) (auction : List ℕ) (row : Kept)
    (row_is : IsRowOf history auction row) where
  -- a row that was added joins those that are filed
  pub FilesAll-added : (next : Tally) (new : KeeperState)
      → IsPutAs row (Ok true) now new
      → next.added ≡ tally.added + 1
      → next.present ≡ tally.present
      → FilesAll history (auctions ++ auction ∷ []) next old new
  FilesAll-added next new put added present = record {
    rows = files.rows ++ row ∷ [];
    are = AreRowsOf-more history auctions files.rows auction row files.are row_is;
    table = put.0 ∙ ap (option_map (put_in row)) files.table ∙ sym (told_last old.table files.rows row);
    files = told old.table files.files
        (subst (λ (t : Option (List Kept)). IfSome t (λ table. row_named row.auction table ≡ None)) files.table put.2);
    all = omega (arith, files.all, added, present, length-append auctions (auction ∷ []));
  }
    where
      told : (was : Option (List Kept))
          → IfSome was (λ table. Files tally.added files.rows table (registered table files.rows))
          → IfSome (option_map (λ table. registered table files.rows) was) (λ table. row_named row.auction table ≡ None)
          → IfSome was (λ table. Files next.added (files.rows ++ row ∷ []) table
          (registered table (files.rows ++ row ∷ [])))
      told None filed none = tt
      told (Some table) filed none =
          subst (λ (n : ℕ). Files n (files.rows ++ row ∷ []) table (registered table (files.rows ++ row ∷ [])))
          (sym added)
          (Files-added table files.rows row tally.added filed none)

  -- and so does one that was there
  pub FilesAll-present : (next : Tally) (new : KeeperState)
      → IsPutAs row (Ok false) now new
      → next.added ≡ tally.added
      → next.present ≡ tally.present + 1
      → FilesAll history (auctions ++ auction ∷ []) next old new
  FilesAll-present next new put added present = record {
    rows = files.rows ++ row ∷ [];
    are = AreRowsOf-more history auctions files.rows auction row files.are row_is;
    table = put.0 ∙ files.table ∙ same old.table held;
    files = told old.table files.files held;
    all = omega (arith, files.all, added, present, length-append auctions (auction ∷ []));
  }
    where
      held : IfSome (option_map (λ table. registered table files.rows) old.table)
          (λ table. row_named row.auction table ≡ Some row)
      held = subst (λ (t : Option (List Kept)). IfSome t (λ table. row_named row.auction table ≡ Some row)) files.table
          put.2

      same : (was : Option (List Kept))
          → IfSome (option_map (λ table. registered table files.rows) was)
          (λ table. row_named row.auction table ≡ Some row)
          → option_map (λ table. registered table files.rows) was
          ≡ option_map (λ table. registered table (files.rows ++ row ∷ [])) was
      same None is = refl
      same (Some table) is =
          ap Some (sym (registered_last table files.rows row ∙ put_in_there row (registered table files.rows) row is))

      told : (was : Option (List Kept))
          → IfSome was (λ table. Files tally.added files.rows table (registered table files.rows))
          → IfSome (option_map (λ table. registered table files.rows) was)
          (λ table. row_named row.auction table ≡ Some row)
          → IfSome was (λ table. Files next.added (files.rows ++ row ∷ []) table
          (registered table (files.rows ++ row ∷ [])))
      told None filed is = tt
      told (Some table) filed is =
          subst (λ (n : ℕ). Files n (files.rows ++ row ∷ []) table (registered table (files.rows ++ row ∷ [])))
          (sym added)
          (Files-present table files.rows row tally.added filed is)

  -- a row that differs from one that is there now differs from one that was there at first
  pub other-at_first : IfSome now.table (HadOther row.auction row) → IfSome old.table (HadOther auction row)
  other-at_first other =
      told old.table
      (subst (λ (t : Option (List Kept)). IfSome t (HadOther row.auction row)) files.table other)
    where
      name : row.auction ≡ auction
      name = IsRowOf-name history auction row row_is

      -- no row that was filed differs
      filed-same : (there : Kept) → Contains files.rows there → there.auction ≡ row.auction → there ≡ row
      filed-same there has named =
          let is : IsRowOf history there.auction there =
          row-among history auctions files.rows there files.are has in
          IsRowOf-one history auction there row
          (subst (λ (n : List ℕ). IsRowOf history n there) (named ∙ name) is) row_is

      told : (was : Option (List Kept))
          → IfSome (option_map (λ table. registered table files.rows) was) (HadOther row.auction row)
          → IfSome was (HadOther auction row)
      told None is = tt
      told (Some table) is =
          elim (named_registered files.rows table row.auction is.there is.named) [
            | inl was ↦ record {
              there = is.there;
              named = subst (λ (n : List ℕ). row_named n table ≡ Some is.there) name was;
              differs = is.differs;
            }
            | inr has ↦
                absurd (is.differs (filed-same is.there has
                (named-name row.auction (registered table files.rows) is.there is.named)))
          ]

-- the same of a keeper whose table stayed
pub FilesAll-same : (history : List Entry) (auctions : List (List ℕ)) (tally : Tally) (old now new : KeeperState)
    → FilesAll history auctions tally old now
    → new.table ≡ now.table
    → FilesAll history auctions tally old new
FilesAll-same history auctions tally old now new files same = record {
  rows = files.rows;
  are = files.are;
  table = same ∙ files.table;
  files = files.files;
  all = files.all;
}

-- the first ones are filed
pub FilesSome-front : (history : List Entry) (place : ℕ) (tally : Tally) (old new : KeeperState)
    → FilesAll history (take place (publications history)) tally old new
    → FilesSome history old new
FilesSome-front history place tally old new files = record {
  front = take place (publications history);
  rest = drop place (publications history);
  are = sym (take-append-drop place (publications history));
  tally = tally;
  files = files;
}

-- the auction at the place is the first that differs
pub Differs-here : (history : List Entry) (place : ℕ) (tally : Tally) (old now new : KeeperState)
    (auction name : List ℕ) (row : Kept)
    → slice_get (publications history) place ≡ Some auction
    → FilesAll history (take place (publications history)) tally old now
    → IsRowOf history auction row
    → IsPutAs row (Err (fault.Differs name)) now new
    → Differs name history old new
Differs-here history place tally old now new auction name row at files row_is put =
    let named : auction ≡ name = sym (put.0 ∙ IsRowOf-name history auction row row_is) in
    subst (λ (n : List ℕ). Differs n history old new) named (record {
      front = take place (publications history);
      rest = drop (place + 1) (publications history);
      are = drop-here (publications history) place auction at;
      tally = tally;
      files = FilesAll-same history (take place (publications history)) tally old now new files put.1;
      row = row;
      row_is = row_is;
      other = other-at_first history (take place (publications history)) tally old now files auction row row_is put.2;
    })

-- a row that was put joins those that are filed
pub FilesAll-put : (history : List Entry) (auctions : List (List ℕ)) (tally next : Tally) (old now new : KeeperState)
    (auction : List ℕ) (row : Kept) (added : Bool)
    → FilesAll history auctions tally old now
    → IsRowOf history auction row
    → IsPutAs row (Ok added) now new
    → next ≡ counted added tally
    → FilesAll history (auctions ++ auction ∷ []) next old new
FilesAll-put history auctions tally next old now new auction row true files row_is put is =
    FilesAll-added history auctions tally old now files auction row row_is next new put
    (ap (λ (t : Tally). t.added) is) (ap (λ (t : Tally). t.present) is)
FilesAll-put history auctions tally next old now new auction row false files row_is put is =
    FilesAll-present history auctions tally old now files auction row row_is next new put
    (ap (λ (t : Tally). t.added) is) (ap (λ (t : Tally). t.present) is)

-- and its keeper counted no fault
pub put-no_fault : (row : Kept) (added : Bool) (now new : KeeperState) → IsPutAs row (Ok added) now new
    → new.faults ≡ now.faults
put-no_fault row true now new put = put.1
put-no_fault row false now new put = put.1

-- no more are counted than were published
pub tally-few : (history : List Entry) (place : ℕ) (tally : Tally) (old now : KeeperState)
    → FilesAll history (take place (publications history)) tally old now
    → place ≤ length (publications history)
    → length history ≤ 4097 * 1048576
    → (tally.added ≤ 4097 * 1048576) × (tally.present ≤ 4097 * 1048576)
tally-few history place tally old now files within most =
    let counts = length-take-le place (publications history) within in (
      omega (arith, files.all, counts, within, publications-few history, most),
      omega (arith, files.all, counts, within, publications-few history, most),
    )

-- a row that wasn't put ends the filing
pub FilingEnds-put : (history : List Entry) (place : ℕ) (tally : Tally) (old now new : KeeperState) (auction : List ℕ)
    (row : Kept) (why : FilingFault)
    → slice_get (publications history) place ≡ Some auction
    → FilesAll history (take place (publications history)) tally old now
    → now.faults ≡ old.faults
    → IsRowOf history auction row
    → IsPutAs row (Err why) now new
    → FilingEnds history (Err why) old new
FilingEnds-put history place tally old now new auction row (fault.Differs name) at files same row_is put =
    Differs-here history place tally old now new auction name row at files row_is put
FilingEnds-put history place tally old now new auction row fault.Failed at files same row_is put = (
  FilesSome-front history place tally old new
      (FilesAll-same history (take place (publications history)) tally old now new files put.0),
  subst (λ (n : ℕ). Rose n new.faults) same put.1,
)
FilingEnds-put history place tally old now new auction row fault.OutOfMemory at files same row_is put =
    FilesSome-front history place tally old new
    (FilesAll-same history (take place (publications history)) tally old now new files put)
