-- What statement 1 leaves, by its result.
use Rattle.std.proofs.Common.{◌≡◌, ℕ, [], Result, Ok, Err, OnOk, sym, ap, subst, ◌∙◌}
use Rattle.std.specs.Prelude.{IsTrue, OnErr}
use Rattle.tb_register.specs.declared.keeper.KeeperFault.{KeeperFault}
use Rattle.sqlite.specs.Effect.{Database}
use Rattle.sqlite.specs.State.{State}
use Rattle.tb_register_sql.specs.Statements.{Ran}
use Rattle.tb_register_sql.specs.Auctions.{create_text}
use Rattle.tb_register_sql.specs.Shelves.{IsUnmade, IsMade, AreKept}
use Rattle.tb_register_sql.proofs.EffectLemmas.{create_writes, creates, write_settles}
use Rattle.tb_register_sql.proofs.RefusalLemmas.{refused_stays}

-- of an empty database it makes the table
pub made : (old new : State) (result : Result ℕ KeeperFault) → IsUnmade old
    → Ran create_text [] old new result
    → OnOk result (IsMade new)
made old new (Err why) was runs = tt
made old new (Ok count) was runs =
    let effect = creates old new count was.schema runs in
    record {
      schema = effect.0;
      rows = subst AreKept (sym effect.1) tt;
      settled = write_settles old new _ _ _ count was.settled (create_writes old new count was.schema runs);
    }

-- with no row
pub made_empty : (old new : State) (result : Result ℕ KeeperFault) → IsUnmade old
    → Ran create_text [] old new result
    → OnOk result (new.now.trees 0 ≡ [])
made_empty old new (Err why) was runs = tt
made_empty old new (Ok count) was runs = (creates old new count was.schema runs).1

-- or leaves it empty
pub unmade : (old new : State) (result : Result ℕ KeeperFault) → IsUnmade old
    → IsTrue new.is_open
    → Ran create_text [] old new result
    → OnErr result (IsUnmade new)
unmade old new (Ok count) was is_open runs = tt
unmade old new (Err why) was is_open runs =
    let stays = refused_stays old new create_text [] runs.0 was.settled is_open runs.2 in
    record { schema = ap (λ (db : Database). db.schema) stays.0 ∙ was.schema; settled = stays.1 }
