-- the books so far have their places, and no book has lost any
use Rattle.std.proofs.Common.{ℕ}
use Rattle.std.specs.List.{AllWithin}
use Rattle.tb_shelf.specs.Shelves.{AreReady, IsReady}
use Rattle.tb_shelf.proofs.preparing.raise.Given as goal

abbrev pub invariant-loop-place : goal.invariant-loop-place
invariant-loop-place l = record {
  done : AllWithin (IsReady l.places) l.ready 0 l.place;
  kept : (few : ℕ) → AreReady few l.fn.ready → AreReady few l.ready;
}
