use Rattle.std.proofs.Common.{ℕ, List, take, sym, ap, subst, ◌∙◌, arith}
use Rattle.std.proofs.Common.{Result}
use Rattle.std.specs.Prelude.{Err, IfErr}
use Rattle.std.proofs.lemmas.Result.{err_from_is_err_and}
use Rattle.tb_history.specs.Roster.{publications}
use Rattle.tb_register.specs.Rows.{Kept, kept}
use Rattle.tb_filing.specs.Filing.{FilesAll, FilingEnds, IsPutAs, LacksMemory}
use Rattle.tb_filing.specs.declared.filing.FilingFault.{FilingFault}
use Rattle.tb_filing.specs.declared.filing.Tally.{Tally}
use Rattle.tb_filing.proofs.FilingLemmas.{FilesAll-put, FilesSome-front, FilingEnds-put, put-no_fault}
use Rattle.tb_filing.proofs.FilingLemmas.{tally-few}
use Rattle.tb_filing.proofs.PublishedLemmas.{place-published, publications-few, take-next, within}
use Rattle.tb_filing.proofs.filing.file_published.Goals as goal

pub row_on-requires : goal.row_on-requires
row_on-requires g c =
    place-published c.args.desk.now.host.history c.auctions.place c.in-Some.auction (sym c.in-Some.ensures)

pub returns-in_err-row-clause-ends : goal.returns-in_err-row-clause-ends
returns-in_err-row-clause-ends g c =
    let history = c.args.desk.now.host.history in
    let old = g.K.Keeper.keeper c.args.keeper.now in
    let now = g.K.Keeper.keeper c.auctions.keeper in
    let failed = err_from_is_err_and c.from_residual.result c.from_residual.ensures.1 in
    subst (λ (r : Result Tally FilingFault). FilingEnds history r old now) (sym (failed.1 ∙ ap Err failed.2))
    (FilesSome-front history c.auctions.place c.auctions.tally old now c.auctions.invariant.1)

pub returns-in_err-row-clause-lacked : goal.returns-in_err-row-clause-lacked
returns-in_err-row-clause-lacked g c sure =
    let old = g.K.Keeper.keeper c.args.keeper.now in
    let now = g.K.Keeper.keeper c.auctions.keeper in
    let failed = err_from_is_err_and c.from_residual.result c.from_residual.ensures.1 in
    subst (λ (r : Result Tally FilingFault). IfErr r (LacksMemory old now)) (sym failed.1)
    (λ is. c.auctions.invariant.2)

pub returns-in_err-added-clause-lacked : goal.returns-in_err-added-clause-lacked
returns-in_err-added-clause-lacked g c sure =
    let old = g.K.Keeper.keeper c.args.keeper.now in
    let new = g.K.Keeper.keeper c.put.new.keeper in
    let failed = err_from_is_err_and c.from_residual-in_err-added.result c.from_residual-in_err-added.ensures.1 in
    subst (λ (r : Result Tally FilingFault). IfErr r (LacksMemory old new)) (sym failed.1)
    (λ is. c.in_err-added.ensures.lacked sure (sym failed.2 ∙ is) ∙ c.auctions.invariant.2)

pub returns-in_err-added-clause-ends : goal.returns-in_err-added-clause-ends
returns-in_err-added-clause-ends g c =
    let history = c.args.desk.now.host.history in
    let old = g.K.Keeper.keeper c.args.keeper.now in
    let now = g.K.Keeper.keeper c.auctions.keeper in
    let new = g.K.Keeper.keeper c.put.new.keeper in
    let row : Kept = kept c.in_ok-row.row in
    let failed = err_from_is_err_and c.from_residual-in_err-added.result c.from_residual-in_err-added.ensures.1 in
    subst (λ (r : Result Tally FilingFault). FilingEnds history r old new) (sym failed.1)
    (FilingEnds-put history c.auctions.place c.auctions.tally old now new c.in-Some.auction row failed.0
    (sym c.in-Some.ensures) c.auctions.invariant.1 c.auctions.invariant.2 c.in_ok-row.ensures
    (subst (λ (why : FilingFault). IsPutAs row (Err why) now new) (sym failed.2) c.in_err-added.ensures.put))

pub counted-tally-requires-clause-added : goal.counted-tally-requires-clause-added
counted-tally-requires-clause-added g c =
    let few = tally-few c.args.desk.now.host.history c.auctions.place c.auctions.tally
    (g.K.Keeper.keeper c.args.keeper.now) (g.K.Keeper.keeper c.auctions.keeper) c.auctions.invariant.1
    c.auctions.invariant.0 c.entries.ensures.limit in
    omega (arith, few.0)

pub counted-tally-requires-clause-present : goal.counted-tally-requires-clause-present
counted-tally-requires-clause-present g c =
    let few = tally-few c.args.desk.now.host.history c.auctions.place c.auctions.tally
    (g.K.Keeper.keeper c.args.keeper.now) (g.K.Keeper.keeper c.auctions.keeper) c.auctions.invariant.1
    c.auctions.invariant.0 c.entries.ensures.limit in
    omega (arith, few.1)

pub overflow_add-place : goal.overflow_add-place
overflow_add-place g c =
    omega (
      arith,
      within (publications c.args.desk.now.host.history) c.auctions.place c.in-Some.auction (sym c.in-Some.ensures),
      publications-few c.args.desk.now.host.history,
      c.entries.ensures.limit,
    )

pub auctions-smaller : goal.auctions-smaller
auctions-smaller g c =
    omega (
      arith,
      within (publications c.args.desk.now.host.history) c.auctions.place c.in-Some.auction (sym c.in-Some.ensures),
    )

-- the row that was put joins those that are filed
pub auctions-preserved : goal.auctions-preserved
auctions-preserved g c =
    let history = c.args.desk.now.host.history in
    let auctions = publications history in
    let place = c.auctions.place in
    let auction = c.in-Some.auction in
    let old = g.K.Keeper.keeper c.args.keeper.now in
    let now = g.K.Keeper.keeper c.auctions.keeper in
    let new = g.K.Keeper.keeper c.put.new.keeper in
    let row : Kept = kept c.in_ok-row.row in
    let added = c.in_ok-added.added in
    let tally = c.counted-tally.result in
    let here = sym c.in-Some.ensures in (
      omega (arith, within auctions place auction here),
      subst (λ (front : List (List ℕ)). FilesAll history front tally old new)
          (sym (take-next auctions place auction here))
          (FilesAll-put history (take place auctions) c.auctions.tally tally old now new auction row added
          c.auctions.invariant.1 c.in_ok-row.ensures c.in_ok-added.ensures.put c.counted-tally.ensures),
      put-no_fault row added now new c.in_ok-added.ensures.put ∙ c.auctions.invariant.2,
    )
