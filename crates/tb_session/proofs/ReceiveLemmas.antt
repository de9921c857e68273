-- Bytes that are read until there is a request.
use Rattle.std.proofs.Common.{◌≡◌, ◌≢◌, ℕ, ◌-◌, ◌<◌, List, [], ◌∷◌, ◌++◌, length, refl, sym, ap, ◌∙◌, subst, arith, append_assoc, length-append}
use Rattle.std.specs.Prelude.{Result, Ok, Err}
use Rattle.std.proofs.lemmas.List.{append-nil}
use Rattle.tb_link.proofs.CallerLemmas.{Rose-later}
use Rattle.tb_gates.specs.Links.{LinkState, Moved}
use Rattle.tb_gates.proofs.CallerLemmas.{moved-then}
use Rattle.httparse.specs.Spans.{RequestOverflows}
use Rattle.tb_wire.specs.Front.{IsFront, seen}
use Rattle.tb_wire.specs.declared.cutting.Cutting.TheVariants.{More}
use Rattle.tb_wire.proofs.FrontLaws.{front-waits}
use Rattle.tb_session.specs.declared.end.End.TheVariants as end
use Rattle.tb_session.specs.declared.inbox.Unread.{Unread}
use Rattle.tb_session.specs.declared.inbox.Unread.TheVariants as unread
use Rattle.tb_session.specs.Inbox.{Brings, Fills, FindsEnd, ReadsNoneAhead, Receives}
use Rattle.tb_session.proofs.LeftLemmas.{none-crowded, none-yet}
use Rattle.tb_session.proofs.StepLemmas.{ahead-once, ahead-then}

-- only the empty list has no length
none_long : (xs : List ℕ) → 0 ≡ length xs → xs ≡ []
none_long [] is = refl
none_long (x ∷ xs) is = absurd (omega (arith, is))

-- a read that brought nothing leaves what was there
unchanged : (before after piece : List ℕ) → after ≡ before ++ piece → piece ≡ [] → after ≡ before
unchanged before after piece grown none = grown ∙ ap (λ (l : List ℕ). before ++ l) none ∙ append-nil before

-- there was no memory for a head with more than 32 headers
pub receives-crowded : (a m : LinkState) (first read before : List ℕ) → Moved a m read [] → before ≡ first ++ read
    → ReadsNoneAhead a m first read → RequestOverflows 32 (seen before)
    → Receives a m first before (Err end.OutOfMemory)
receives-crowded a m first read before moved grown none over = record {
  read = read;
  moved = moved;
  grown = grown;
  finds = none-crowded before over;
  none_ahead = none;
}

-- these bytes were read so far, and now a piece
module _ (a m b : LinkState) (first read before after : List ℕ) (moved : Moved a m read [])
    (grown : before ≡ first ++ read) (none : ReadsNoneAhead a m first read) (result : Result ℕ Unread)
    (fills : Fills m b before after result) where
  -- read so far, with the piece
  filled : Moved a b (read ++ fills.piece) []
  filled = moved-then a m b read [] fills.piece [] moved fills.moved

  -- and waiting
  behind : after ≡ first ++ (read ++ fills.piece)
  behind = fills.grown ∙ ap (λ (l : List ℕ). l ++ fills.piece) grown ∙ append_assoc first read fills.piece

  -- what it brought
  brought : (x : Result ℕ Unread) → result ≡ x → Brings m b fills.piece x
  brought x is = subst (λ (y : Result ℕ Unread). Brings m b fills.piece y) is fills.brings

  -- where it brought nothing none was read ahead still
  none_still : fills.piece ≡ [] → ReadsNoneAhead a m first (read ++ fills.piece)
  none_still is =
      subst (λ (l : List ℕ). ReadsNoneAhead a m first l)
      (sym (append-nil read) ∙ ap (λ (l : List ℕ). read ++ l) (sym is)) none

  -- so far, where the piece was needed
  pub reads-on : (count : ℕ) → result ≡ Ok count → count ≢ 0 → IsFront before More
      → (all : List ℕ) × Moved a b all [] × (after ≡ first ++ all) × ReadsNoneAhead a b first all
  reads-on count is some more =
      let come = brought (Ok count) is in
      let piece : ReadsNoneAhead m b before fills.piece =
      ahead-once m b before fills.piece count more come.2 come.0 (omega (arith, some)) in (
        read ++ fills.piece,
        filled,
        behind,
        ahead-then a m b first before read fills.piece grown none piece,
      )

  -- the read found the end of the input
  found_end : result ≡ Ok 0 → FindsEnd a b first (read ++ fills.piece)
  found_end is =
      let nothing = brought (Ok 0) is in (m, none_still (none_long fills.piece nothing.0), nothing.2)

  -- the input ended where nothing waits
  pub receives-end_of_input : result ≡ Ok 0 → after ≡ [] → Receives a b first after (Err end.EndOfInput)
  receives-end_of_input is empty = record {
    read = read ++ fills.piece;
    moved = filled;
    grown = behind;
    finds = (empty, (brought (Ok 0) is).1 refl);
    none_ahead = found_end is;
  }

  -- or inside of a request
  pub receives-cut_short : result ≡ Ok 0 → after ≢ [] → IsFront before More
      → Receives a b first after (Err end.CutShort)
  receives-cut_short is some more =
      let nothing = brought (Ok 0) is in
      let same = unchanged before after fills.piece fills.grown (none_long fills.piece nothing.0) in
      record {
        read = read ++ fills.piece;
        moved = filled;
        grown = behind;
        finds = (some, subst (λ (l : List ℕ). IsFront l More) (sym same) more, nothing.1 refl);
        none_ahead = found_end is;
      }

  -- a read failed
  pub receives-read_fault : result ≡ Err unread.ReadFault → IsFront before More
      → Receives a b first after (Err end.ReadFault)
  receives-read_fault is more =
      let failed = brought (Err unread.ReadFault) is in
      let same = unchanged before after fills.piece fills.grown failed.0 in
      record {
        read = read ++ fills.piece;
        moved = filled;
        grown = behind;
        finds = (
          subst (λ (l : List ℕ). IsFront l More) (sym same) more,
          Rose-later a.source.faults m.source.faults b.source.faults moved.read_count failed.1.rose,
        );
        none_ahead = (m, none_still failed.0, failed.1);
      }

  -- there was no memory to read more
  pub receives-lacking : result ≡ Err unread.OutOfMemory → IsFront before More
      → Receives a b first after (Err end.OutOfMemory)
  receives-lacking is more =
      let failed = brought (Err unread.OutOfMemory) is in
      let same = unchanged before after fills.piece fills.grown failed.0 in
      record {
        read = read ++ fills.piece;
        moved = filled;
        grown = behind;
        finds = none-yet after (subst (λ (l : List ℕ). IsFront l More) (sym same) more);
        none_ahead = subst (λ (x : LinkState). ReadsNoneAhead a x first (read ++ fills.piece)) (sym failed.1)
            (none_still failed.0);
      }

  -- there are more bytes, and still few
  pub reads-more : (count : ℕ) → result ≡ Ok count → count ≢ 0 → IsFront before More
      → 12288 - length after < 12288 - length before
  reads-more count is some more =
      let come = brought (Ok count) is in
      let few = front-waits before more in
      let long : length after ≡ length (before ++ fills.piece) = ap length fills.grown in
      omega (arith, few, long, length-append before fills.piece, come.0, some)
