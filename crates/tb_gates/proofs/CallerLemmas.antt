-- Bytes that are read and written, one piece after the other.
use Rattle.std.proofs.Common.{◌≡◌, ℕ, List, [], ◌∷◌, ◌++◌, take, Some, None, refl, sym, ap, ◌∙◌, subst, arith, append_assoc}
use Rattle.std.specs.Prelude.{Option, IfSome, ◌↔◌}
use Rattle.std.proofs.lemmas.List.{append-nil}
use Rattle.tb_link.proofs.CallerLemmas.{NeverFalls-trans}
use Rattle.tb_link.specs.Counts.{NeverFalls}
use Rattle.tb_link.specs.Sources.{SourceState, Gives, FailsToGive, LeavesSource, before_left}
use Rattle.tb_link.specs.Sinks.{SinkState, Takes, LeavesSink, after_taken}
use Rattle.tb_gates.specs.Links.{LinkState, Moved}

-- nothing before the bytes left
before-nothing : (left : Option (List ℕ)) → before_left [] left ≡ left
before-nothing None = refl
before-nothing (Some left) = refl

-- two pieces before them, one after the other
before-then : (a b : List ℕ) (left : Option (List ℕ)) → before_left a (before_left b left) ≡ before_left (a ++ b) left
before-then a b None = refl
before-then a b (Some left) = ap Some (sym (append_assoc a b left))

-- nothing behind the bytes taken
after-nothing : (taken : Option (List ℕ)) → after_taken taken [] ≡ taken
after-nothing None = refl
after-nothing (Some taken) = ap Some (append-nil taken)

-- two pieces behind them, one after the other
after-then : (taken : Option (List ℕ)) (a b : List ℕ) → after_taken (after_taken taken a) b ≡ after_taken taken (a ++ b)
after-then None a b = refl
after-then (Some taken) a b = ap Some (append_assoc taken a b)

-- a count that stays hasn't fallen
falls-same : (old new : ℕ) → new ≡ old → NeverFalls old new
falls-same old new same = record { never_falls = omega (arith, same); bounded = λ low. omega (arith, same, low) }

-- nothing was read or written
pub moved-nothing : (a : LinkState) → Moved a a [] []
moved-nothing a = record {
  left = sym (before-nothing a.source.left);
  taken = sym (after-nothing a.sink.taken);
  read_count = falls-same a.source.faults a.source.faults refl;
  write_count = falls-same a.sink.faults a.sink.faults refl;
}

-- what was read and written first, and then
pub moved-then : (a b c : LinkState) (read written later sent : List ℕ)
    → Moved a b read written → Moved b c later sent → Moved a c (read ++ later) (written ++ sent)
moved-then a b c read written later sent first second = record {
  left =
      first.left
      ∙ (ap (λ (l : Option (List ℕ)). before_left read l) second.left ∙ before-then read later c.source.left);
  taken = second.taken
      ∙ (ap (λ (t : Option (List ℕ)). after_taken t sent) first.taken ∙ after-then a.sink.taken written sent);
  read_count = NeverFalls-trans a.source.faults b.source.faults c.source.faults first.read_count second.read_count;
  write_count = NeverFalls-trans a.sink.faults b.sink.faults c.sink.faults first.write_count second.write_count;
}

-- a read moves what it gives
pub moved-read : (a b : SourceState) (s t : SinkState) (into : List ℕ) (n : ℕ) → Gives a b into n → LeavesSink s t
    → Moved (record { source = a; sink = s }) (record { source = b; sink = t }) (take n into) []
moved-read a b s t into n gives leaves = record {
  left = gives.next;
  taken = leaves.taken ∙ sym (after-nothing s.taken);
  read_count = falls-same a.faults b.faults gives.no_fault;
  write_count = leaves.count;
}

-- a read that failed moves nothing
pub moved-unread : (a b : SourceState) (s t : SinkState) → FailsToGive a b → LeavesSink s t
    → Moved (record { source = a; sink = s }) (record { source = b; sink = t }) [] []
moved-unread a b s t fails leaves = record {
  left = sym fails.left ∙ sym (before-nothing b.left);
  taken = leaves.taken ∙ sym (after-nothing s.taken);
  read_count = fails.count;
  write_count = leaves.count;
}

-- a write moves what it takes
pub moved-write : (a b : SourceState) (s t : SinkState) (bytes : List ℕ) → Takes s t bytes → LeavesSource a b
    → Moved (record { source = a; sink = s }) (record { source = b; sink = t }) [] bytes
moved-write a b s t bytes takes leaves = record {
  left = sym leaves.left ∙ sym (before-nothing b.left);
  taken = takes.taken;
  read_count = leaves.count;
  write_count = falls-same s.faults t.faults takes.no_fault;
}

-- a list that is empty has no second part
no_more : (xs ys : List ℕ) → xs ++ ys ≡ [] → ys ≡ []
no_more [] ys is = is
no_more (x ∷ xs) ys is = absurd (cc)

-- a read that brings nothing leaves nothing, by what is told
none_left_by : (before after : Option (List ℕ)) (piece : List ℕ) (n : ℕ) → before ≡ before_left piece after
    → IfSome before (λ left. (n ≡ 0) ↔ (left ≡ [])) → n ≡ 0 → IfSome after (λ left. left ≡ [])
none_left_by before None piece n next at_end is = tt
none_left_by before (Some left) piece n next at_end is =
    no_more piece left ((subst (λ (o : Option (List ℕ)). IfSome o (λ l. (n ≡ 0) ↔ (l ≡ []))) next at_end).0 is)

-- a read that brings nothing has come to the end
pub none_left : (a b : SourceState) (into : List ℕ) (n : ℕ) → Gives a b into n → n ≡ 0 → IfSome b.left (λ l. l ≡ [])
none_left a b into n gives is = none_left_by a.left b.left (take n into) n gives.next gives.at_end is
