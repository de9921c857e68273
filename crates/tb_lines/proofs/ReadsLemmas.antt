-- How many reads there were of a text, from line to line.
use Rattle.std.proofs.Common.{◌≡◌, ℕ, ◌+◌, ◌<◌, ◌≤◌, List, [], ◌∷◌, ◌++◌, length, take, drop, Bool, true, sym, subst, ap, ◌∙◌, refl, arith, append_assoc, append-nil, inl, inr, ⊎_elim}
use Rattle.std.specs.Prelude.{Option, Some, None, position}
use Rattle.std.specs.Str.Lines.{lines, strip_carriage_return}
use Rattle.std.proofs.lemmas.Bool.{cases_lt}
use Rattle.std.proofs.lemmas.List.{length-append, length-take, take-append-drop}
use Rattle.tb_link.specs.Sources.{SourceState, before_left}
use Rattle.tb_lines.specs.LineEnds.{is_line_feed}
use Rattle.tb_lines.specs.Lines.{GaveLast, unread}
use Rattle.tb_lines.specs.Reads.{AreReads, ReadsLines, ReadsNoMore}
use Rattle.tb_lines.specs.Told.{WhereTold}
use Rattle.tb_lines.specs.declared.input.LineReader.{LineReader}
use Rattle.tb_lines.specs.declared.line_end.NextLine.TheVariants as next
use Rattle.tb_lines.proofs.LineLemmas.{first_is, line_feed-behind, lines-first, lines-last}

-- while a line is looked for: no fault was passed over, each read gave a byte, and only the last can have given its
-- line feed
pub record ReadsForLine (before now : SourceState) (unread : List ℕ) : Type 0 where
  pub no_fault : now.faults ≡ before.faults
  pub whole : (end : ℕ) → position is_line_feed unread ≡ Some end → now.reads ≤ before.reads + (end + 1)
  pub open_end : position is_line_feed unread ≡ None → now.reads ≤ before.reads + length unread

-- before the first read
pub ReadsForLine-start : (before : SourceState) (unread : List ℕ) → ReadsForLine before before unread
ReadsForLine-start before unread = record {
  no_fault = refl;
  whole = λ end found. omega arith;
  open_end = λ none. omega arith;
}

-- one read more, that gave some bytes
pub record ReadsOn (now next : SourceState) (unread more : List ℕ) : Type 0 where
  pub piece : List ℕ
  pub more_is : more ≡ unread ++ piece
  pub longer : length unread < length more
  pub no_fault : next.faults ≡ now.faults
  pub one_read : next.reads ≤ now.reads + 1

-- one read more
pub ReadsForLine-more : (before now next : SourceState) (unread more : List ℕ)
    → ReadsForLine before now unread
    → position is_line_feed unread ≡ None
    → ReadsOn now next unread more
    → ReadsForLine before next more
ReadsForLine-more before now next unread more so_far none on =
    let few = so_far.open_end none in
    let one = on.one_read in record {
      no_fault = on.no_fault ∙ so_far.no_fault;
      whole = λ end found.
          let behind = line_feed-behind unread on.piece end none
          (subst (λ (text : List ℕ). position is_line_feed text ≡ Some end) on.more_is found) in
          omega arith;
      open_end = λ _. let longer = on.longer in omega arith;
    }

-- while a whole line waits none is missing
pub waited : (before now : List ℕ) (end : ℕ)
    → position is_line_feed before ≡ Some end
    → now ≡ before
    → position is_line_feed now ≡ None
    → ⊥
waited before now end found same none = let both : Some end ≡ None = sym found ∙ (ap (position is_line_feed) (sym same)
    ∙ none) in cc

-- what is told of the bytes ahead
told-parts : (front : List ℕ) (left : Option (List ℕ)) (text : List ℕ)
    → before_left front left ≡ Some text
    → (rest : List ℕ) × (left ≡ Some rest) × (text ≡ front ++ rest)
told-parts front None text is = absurd (cc)
told-parts front (Some rest) text is = (rest, refl, (cc))

-- a list of no length is empty
no-bytes : (bytes : List ℕ) → length bytes ≡ 0 → bytes ≡ []
no-bytes [] none = refl
no-bytes (byte ∷ bytes) none = absurd (omega arith)

-- a last line that was given leaves nothing
pub last-line_rest : (old : List ℕ) (new : LineReader) → GaveLast next.Line old new → unread new ≡ []
last-line_rest old new gave = gave.1

-- a line was given up to its line feed
pub ReadsNoMore-line : (before now : SourceState) (unread after : List ℕ) (end : ℕ) (ended : Bool)
    (left : Option (List ℕ)) (text : List ℕ)
    → ReadsForLine before now unread
    → position is_line_feed unread ≡ Some end
    → after ≡ drop (end + 1) unread
    → before_left unread left ≡ Some text
    → ReadsNoMore before.reads now.reads ended (before_left after left) text
ReadsNoMore-line before now unread after end ended left text so_far found after_is is =
    let parts = told-parts unread left text is in
    let within = (first_is unread end found).1 in
    let size : length (take (end + 1) unread) ≡ end + 1 = omega (arith, length-take (end + 1) unread) in
    let few = so_far.whole end found in
    record {
      taken = take (end + 1) unread;
      rest = after ++ parts.0;
      behind_is = ap (before_left after) parts.1;
      text_is = parts.2
          ∙ (ap (λ (front : List ℕ). front ++ parts.0) (sym (take-append-drop (end + 1) unread))
          ∙ (append_assoc (take (end + 1) unread) (drop (end + 1) unread) parts.0
          ∙ ap (λ (back : List ℕ). take (end + 1) unread ++ (back ++ parts.0)) (sym after_is)));
      reads = inl (omega arith);
      found = λ more. absurd (omega arith);
    }

-- the last line was given, where the input has ended
pub ReadsNoMore-last : (before now next : SourceState) (unread after : List ℕ) (ended : Bool) (left : Option (List ℕ))
    (text : List ℕ)
    → ReadsForLine before now unread
    → position is_line_feed unread ≡ None
    → next.reads ≤ now.reads + 1
    → ended ≡ true
    → after ≡ []
    → text ≡ unread
    → before_left unread left ≡ Some text
    → ReadsNoMore before.reads next.reads ended (before_left after left) text
ReadsNoMore-last before now next unread after ended left text so_far none one is_ended after_is whole is =
    let parts = told-parts unread left text is in
    let size : length text ≡ length unread = ap length whole in
    let nothing : parts.0 ≡ [] =
    no-bytes parts.0 (omega (arith, ap length parts.2, length-append unread parts.0)) in
    let few = so_far.open_end none in
    record {
      taken = text;
      rest = [];
      behind_is = rw (after_is, parts.1, nothing) refl;
      text_is = sym (append-nil text);
      reads = inr (refl, omega arith);
      found = λ _. is_ended;
    }

-- before the first read nothing was taken
pub ReadsNoMore-start : (before : ℕ) (ended : Bool) (behind : Option (List ℕ)) (text : List ℕ)
    → behind ≡ Some text
    → ReadsNoMore before before ended behind text
ReadsNoMore-start before ended behind text is = record {
  taken = [];
  rest = text;
  behind_is = is;
  text_is = refl;
  reads = inl (omega arith);
  found = λ more. absurd (omega arith);
}

-- nothing is nothing and nothing behind it
nothing-behind : (whole front back : List ℕ) → whole ≡ front ++ back → whole ≡ [] → back ≡ []
nothing-behind whole front back is none =
    no-bytes back (omega (arith, ap length is, ap length none, length-append front back))

-- Of a text some was taken, with no read behind it, and then some of what follows. Where the end was found before that,
-- it isn't read again.
module _ (before between after : ℕ) (ended : Bool) (middle : Option (List ℕ)) (text : List ℕ)
    (one : ReadsNoMore before between ended middle text) (once : ended ≡ true → after ≡ between) where
  -- of what was taken in all there were as many reads
  reads-both : (taken rest : List ℕ)
      → one.rest ≡ taken ++ rest
      → AreReads between after taken rest
      → AreReads before after (one.taken ++ taken) rest
  reads-both taken rest is two =
      let size = length-append one.taken taken in
      elim (cases_lt (before + length one.taken) between) [
        | inr low ↦ ⊎_elim (λ (few : after ≤ between + length taken). inl (omega arith))
            (λ (at_end : (rest ≡ []) × (after ≤ between + length taken + 1)). let few = at_end.1 in
            inr (at_end.0, omega arith))
            two
        | inl more ↦
            let still = once (one.found more) in
            ⊎_elim (λ (few : between ≤ before + length one.taken). absurd (omega arith))
            (λ (at_end : (one.rest ≡ []) × (between ≤ before + length one.taken + 1)). let few = at_end.1 in
            inr (nothing-behind one.rest taken rest is at_end.0, omega arith))
            one.reads
      ]

  -- and it is the front of the text
  text-both : (taken rest : List ℕ) → one.rest ≡ taken ++ rest → text ≡ (one.taken ++ taken) ++ rest
  text-both taken rest is =
      one.text_is ∙ (ap (λ (r : List ℕ). one.taken ++ r) is ∙ sym (append_assoc one.taken taken rest))

  -- some lines more
  pub ReadsLines-more : (read : List (List ℕ)) (most : ℕ)
      → lines text ≡ read ++ lines one.rest
      → WhereTold middle (ReadsLines most between after)
      → ReadsLines (length read + most) before after text
  ReadsLines-more read most are told =
      let two = told one.rest one.behind_is in
      record {
        taken = one.taken ++ two.taken;
        rest = two.rest;
        text_is = text-both two.taken two.rest two.text_is;
        reads = reads-both two.taken two.rest two.text_is two.reads;
        front = read ++ two.front;
        lines_are = are
            ∙ (ap (λ (ls : List (List ℕ)). read ++ ls) two.lines_are
            ∙ sym (append_assoc read two.front (lines two.rest)));
        few = omega (arith, length-append read two.front, two.few);
      }

  -- a line more, with no read behind it
  pub ReadsNoMore-then : (ended' : Bool) (behind : Option (List ℕ))
      → WhereTold middle (ReadsNoMore between after ended' behind)
      → (ended ≡ true → ended' ≡ true)
      → ReadsNoMore before after ended' behind text
  ReadsNoMore-then ended' behind told stays =
      let two = told one.rest one.behind_is in
      let size = length-append one.taken two.taken in
      record {
        taken = one.taken ++ two.taken;
        rest = two.rest;
        behind_is = two.behind_is;
        text_is = text-both two.taken two.rest two.text_is;
        reads = reads-both two.taken two.rest two.text_is two.reads;
        found = λ more. elim (cases_lt (before + length one.taken) between) [
          | inl early ↦ stays (one.found early)
          | inr low ↦ two.found (omega arith)
        ];
      }

-- so many lines were read, with no read behind them
pub ReadsLines-whole : (before after : ℕ) (ended : Bool) (behind : Option (List ℕ)) (text : List ℕ)
    (read : List (List ℕ)) (most : ℕ) (one : ReadsNoMore before after ended behind text)
    → lines text ≡ read ++ lines one.rest
    → length read ≤ most
    → ReadsLines most before after text
ReadsLines-whole before after ended behind text read most one are few = record {
  taken = one.taken;
  rest = one.rest;
  text_is = one.text_is;
  reads = one.reads;
  front = read;
  lines_are = are;
  few = few;
}

-- a text was read up to its first line feed
reads-first : (before after : ℕ) (front more : List ℕ) (end : ℕ)
    → position is_line_feed front ≡ Some end
    → after ≤ before + (end + 1)
    → ReadsLines 1 before after (front ++ more)
reads-first before after front more end found few =
    let within = (first_is front end found).1 in
    let size : length (take (end + 1) front) ≡ end + 1 = omega (arith, length-take (end + 1) front) in
    record {
      taken = take (end + 1) front;
      rest = drop (end + 1) front ++ more;
      text_is = ap (λ (t : List ℕ). t ++ more) (sym (take-append-drop (end + 1) front))
          ∙ append_assoc (take (end + 1) front) (drop (end + 1) front) more;
      reads = inl (omega arith);
      front = strip_carriage_return (take end front) ∷ [];
      lines_are = lines-first front more end found;
      few = omega arith;
    }

-- the first line was given
pub ReadsLines-line : (before now : SourceState) (unread : List ℕ) (end : ℕ) (left : Option (List ℕ)) (text : List ℕ)
    → ReadsForLine before now unread
    → position is_line_feed unread ≡ Some end
    → before_left unread left ≡ Some text
    → ReadsLines 1 before.reads now.reads text
ReadsLines-line before now unread end left text so_far found is =
    let parts = told-parts unread left text is in
    subst (ReadsLines 1 before.reads now.reads) (sym parts.2)
    (reads-first before.reads now.reads unread parts.0 end found (so_far.whole end found))

-- a text without a line feed has at most one line
one-line : (text : List ℕ) → position is_line_feed text ≡ None → length (lines text) ≤ 1
one-line [] none = omega arith
one-line (byte ∷ bytes) none =
    omega (arith, ap length (lines-last (byte ∷ bytes) none (λ empty. absurd (omega arith))))

-- a text whose first line feed, if it has one, stands behind the bytes so far, and at most one read more than those
reads-open : (before after size : ℕ) (text : List ℕ) (found : Option ℕ)
    → position is_line_feed text ≡ found
    → ((end : ℕ) → found ≡ Some end → size ≤ end)
    → size ≤ length text
    → after ≤ before + size + 1
    → ReadsLines 1 before after text
reads-open before after size text (Some end) is behind within few =
    let low = behind end refl in
    subst (ReadsLines 1 before after) (append-nil text) (reads-first before after text [] end is (omega arith))
reads-open before after size text None is behind within few = record {
  taken = text;
  rest = [];
  text_is = sym (append-nil text);
  reads = inr (refl, omega arith);
  front = lines text;
  lines_are = sym (append-nil (lines text));
  few = one-line text is;
}

-- a line was looked for that isn't whole yet, and then there was at most one read more
pub ReadsLines-open : (before now next : SourceState) (unread : List ℕ) (left : Option (List ℕ)) (text : List ℕ)
    → ReadsForLine before now unread
    → position is_line_feed unread ≡ None
    → next.reads ≤ now.reads + 1
    → before_left unread left ≡ Some text
    → ReadsLines 1 before.reads next.reads text
ReadsLines-open before now next unread left text so_far none one is =
    let parts = told-parts unread left text is in
    let few = so_far.open_end none in
    reads-open before.reads next.reads (length unread) text (position is_line_feed text) refl
    (λ end found. line_feed-behind unread parts.0 end none
    (subst (λ (t : List ℕ). position is_line_feed t ≡ Some end) parts.2 found))
    (omega (arith, ap length parts.2, length-append unread parts.0)) (omega arith)
