-- What the bytes at the place of a gate tell of the file.
use Rattle.std.proofs.Common.{◌≡◌, ◌≢◌, ◌⊎◌, inl, inr, ℕ, ◌+◌, ◌-◌, ◌<◌, ◌≤◌, List, [], ◌∷◌, ◌++◌, length, get_or, take, drop, refl, sym, ◌∙◌, ap, subst, arith, append_assoc, length-append, length-take, length-drop, take-append-drop}
use Rattle.std.proofs.lemmas.List.{drop_more, drop_all, take-take, take_more}
use Rattle.std.specs.Prelude.{Option, Some, None, IfSome, Err}
use Rattle.std.specs.Int.{w32, from_be_bytes}
use Rattle.tb_disk.specs.Past.{Past, contents_of}
use Rattle.tb_journal.specs.declared.form.Form.{Form}
use Rattle.tb_journal.specs.declared.form.Form.TheVariants.{First, Second}
use Rattle.tb_journal.specs.Frames.{title_of, header_of, first_place, empty_of, head_of, head_in, framed_in}
use Rattle.tb_journal.specs.Image.{length_in, IsNoFrameIn, IsBrokenIn}
use Rattle.tb_journal.specs.Places.{EndsAt, PassesFrame, StopsAt}
use Rattle.tb_journal.specs.Windows.{AreAt}
use Rattle.tb_journal.specs.Answers.{IsTrueIn}
use Rattle.tb_journal.specs.declared.fault.JournalFault.{JournalFault}
use Rattle.tb_journal.specs.declared.fault.JournalFault.TheVariants.{DiskFault, NotAJournal, Unsealed, Damaged, OutOfMemory}
use Rattle.tb_journal.proofs.ToldLemmas.{known_of, known_both}
use Rattle.tb_journal.proofs.Reading.{IsReadTo, IsReadUpTo, read_none, read_more, read_closed}
use Rattle.tb_journal.proofs.Showing.{length-at, first-at, behind-at}

-- a head has the four bytes of the length
pub four_in : (form : Form) → 4 ≤ head_of form
four_in First = omega arith
four_in Second = omega arith

-- where no byte was read the file ends before the place
pub broken_at_end : (form : Form) (ordinal place : ℕ) (file : List ℕ) → length file ≤ place
    → IsBrokenIn form ordinal (drop place file)
broken_at_end form ordinal place file past = subst (IsBrokenIn form ordinal) (sym (drop_all place file past)) tt

-- an open gate before no frame
pub broken_before : (form : Form) (ordinal place : ℕ) (file : List ℕ) → place < length file → get_or file place 0 ≡ 1
    → IsNoFrameIn form ordinal (drop (place + 1) file) → IsBrokenIn form ordinal (drop place file)
broken_before form ordinal place file within one none = subst (IsBrokenIn form ordinal)
    (sym (drop_more file place 0 within)) (one, none)

-- the length is the same in the head
pub length_in-front : (form : Form) (rest : List ℕ) → length_in (take (head_of form) rest) ≡ length_in rest
length_in-front form rest = ap (λ (list : List ℕ). from_be_bytes w32 list)
    (take-take 4 (head_of form) rest (four_in form))

-- the bytes of a head that say no length of a payload, or another ordinal
pub no_head : (form : Form) (ordinal : ℕ) (rest bytes : List ℕ) → bytes ≡ take (head_of form) rest
    → (length bytes < head_of form) ⊎ (length_in bytes < 1) ⊎ (32768 < length_in bytes)
    ⊎ (take (head_of form) bytes ≢ head_in form ordinal (length_in bytes)) → IsNoFrameIn form ordinal rest
no_head form ordinal rest bytes is (inl short) =
    inl (omega (arith, ap length is, length-take (head_of form) rest))
no_head form ordinal rest bytes is (inr (inl little)) =
    inr (inl (omega (arith, ap length_in is, length_in-front form rest)))
no_head form ordinal rest bytes is (inr (inr (inl much))) =
    inr (inr (inl (omega (arith, ap length_in is, length_in-front form rest))))
no_head form ordinal rest bytes is (inr (inr (inr other))) = inr (inr (inr (inr (λ same. other
    (ap (λ (list : List ℕ). take (head_of form) list) is ∙ (take-take (head_of form) (head_of form) rest (omega arith)
    ∙ (same ∙ ap (λ (n : ℕ). head_in form ordinal n) (sym (ap length_in is ∙ length_in-front form rest)))))))))

-- a length that runs past the end
pub too_long : (form : Form) (ordinal : ℕ) (rest bytes : List ℕ) (size : ℕ) → bytes ≡ take (head_of form) rest
    → size ≡ length_in bytes → length rest < head_of form + size → IsNoFrameIn form ordinal rest
too_long form ordinal rest bytes size is said past =
    inr (inr (inr (inl (omega (arith, ap length_in is, length_in-front form rest)))))

-- a head, and so many bytes behind it
pub frame_behind : (form : Form) (ordinal : ℕ) (rest bytes : List ℕ) (size : ℕ) → bytes ≡ take (head_of form) rest
    → take (head_of form) bytes ≡ head_in form ordinal size
    → head_of form + size ≤ length rest
    → rest ≡ framed_in form ordinal (take size (drop (head_of form) rest)) ++ drop size (drop (head_of form) rest)
frame_behind form ordinal rest bytes size is spelled fits =
    let body : List ℕ = drop (head_of form) rest in
    let long : length (take size body) ≡ size = omega (arith, length-take size body, length-drop (head_of form) rest) in
    let head : take (head_of form) rest ≡ head_in form ordinal (length (take size body)) =
    sym (take-take (head_of form) (head_of form) rest (omega arith))
    ∙ (ap (λ (list : List ℕ). take (head_of form) list) (sym is)
    ∙ (spelled ∙ ap (λ (number : ℕ). head_in form ordinal number) (sym long))) in
    sym (take-append-drop (head_of form) rest)
    ∙ (ap (λ (list : List ℕ). list ++ body) head
    ∙ (ap (λ (list : List ℕ). head_in form ordinal (length (take size body)) ++ list)
    (sym (take-append-drop size body))
    ∙ sym (append_assoc (head_in form ordinal (length (take size body))) (take size body) (drop size body))))

-- how long the payload is
pub length-behind : (form : Form) (rest : List ℕ) (size : ℕ) → head_of form + size ≤ length rest
    → length (take size (drop (head_of form) rest)) ≡ size
length-behind form rest size fits =
    omega (arith, length-take size (drop (head_of form) rest), length-drop (head_of form) rest)

-- a frame is passed
pub passes : (form : Form) (ordinal place size next : ℕ) (file bytes : List ℕ) → place < length file
    → get_or file place 0 ≡ 1
    → bytes ≡ take (head_of form) (drop (place + 1) file)
    → take (head_of form) bytes ≡ head_in form ordinal size
    → 1 ≤ size
    → size ≤ 32768
    → next ≡ place + 1 + head_of form + size
    → next ≤ length file
    → PassesFrame form ordinal place file (Some next)
passes form ordinal place size next file bytes within one is spelled some short at ends =
    let rest : List ℕ = drop (place + 1) file in
    let fits : head_of form + size ≤ length rest = omega (arith, length-drop (place + 1) file) in
    let payload : List ℕ = take size (drop (head_of form) rest) in
    let long : length payload ≡ size = length-behind form rest size fits in (
      within,
      one,
      (
        payload,
        drop size (drop (head_of form) rest),
        record { some = omega (arith, long); short = omega (arith, long) },
        frame_behind form ordinal rest bytes size is spelled fits,
        omega (arith, long, at),
      ),
    )

module _ (form : Form) (ordinal place : ℕ) (bytes : List ℕ) (past : Option Past)
    (known : IfSome past (λ past. AreAt place (1 + head_of form) bytes (contents_of past))) where
  -- no byte is there
  pub stops_at_end : length bytes ≡ 0
      → IfSome past (λ past. StopsAt form ordinal place (contents_of past) (Damaged place))
  stops_at_end none = known_of (λ past. AreAt place (1 + head_of form) bytes (contents_of past))
      (λ past. StopsAt form ordinal place (contents_of past) (Damaged place)) past
      (λ past is. (
        refl,
        broken_at_end form ordinal place (contents_of past)
            (omega (arith, none, length-at place (1 + head_of form) bytes (contents_of past) is)),
      )) known

  -- the gate is closed
  pub passes_closed : 0 < length bytes → get_or bytes 0 0 ≢ 1
      → IfSome past (λ past. PassesFrame form ordinal place (contents_of past) None)
  passes_closed some shut = known_of (λ past. AreAt place (1 + head_of form) bytes (contents_of past))
      (λ past. PassesFrame form ordinal place (contents_of past) None) past
      (λ past is. (
        omega (arith, some, length-at place (1 + head_of form) bytes (contents_of past) is),
        λ one. shut (first-at place (head_of form) bytes (contents_of past) is ∙ one),
      )) known

  -- the gate is open, before no head with this ordinal
  pub stops_at_head : (head : List ℕ) → 0 < length bytes → get_or bytes 0 0 ≡ 1 → head ≡ drop 1 bytes
      → (length head < head_of form) ⊎ (length_in head < 1) ⊎ (32768 < length_in head)
      ⊎ (take (head_of form) head ≢ head_in form ordinal (length_in head))
      → IfSome past (λ past. StopsAt form ordinal place (contents_of past) (Damaged place))
  stops_at_head head some one are none = known_of (λ past. AreAt place (1 + head_of form) bytes (contents_of past))
      (λ past. StopsAt form ordinal place (contents_of past) (Damaged place)) past
      (λ past is. (
        refl,
        broken_before form ordinal place (contents_of past)
            (omega (arith, some, length-at place (1 + head_of form) bytes (contents_of past) is))
            (sym (first-at place (head_of form) bytes (contents_of past) is) ∙ one)
            (no_head form ordinal (drop (place + 1) (contents_of past)) head
            (are ∙ behind-at place 1 (head_of form) bytes (contents_of past) is) none),
      )) known

  -- or before a frame that runs past the end
  pub stops_past_end : (size length_here : ℕ) (head : List ℕ)
      → IfSome past (λ past. size ≡ length (contents_of past))
      → place ≤ size
      → 0 < length bytes
      → get_or bytes 0 0 ≡ 1
      → head ≡ drop 1 bytes
      → length_here ≡ length_in head
      → size - place < 1 + head_of form + length_here
      → IfSome past (λ past. StopsAt form ordinal place (contents_of past) (Damaged place))
  stops_past_end size length_here head measured within some one are said beyond =
      known_both (λ past. size ≡ length (contents_of past))
      (λ past. AreAt place (1 + head_of form) bytes (contents_of past))
      (λ past. StopsAt form ordinal place (contents_of past) (Damaged place)) past
      (λ past whole is.
      (let rest : List ℕ = drop (place + 1) (contents_of past) in
      let there : place < length (contents_of past) =
      omega (arith, some, length-at place (1 + head_of form) bytes (contents_of past) is) in (
        refl,
        broken_before form ordinal place (contents_of past) there
            (sym (first-at place (head_of form) bytes (contents_of past) is) ∙ one)
            (too_long form ordinal rest head length_here
            (are ∙ behind-at place 1 (head_of form) bytes (contents_of past) is) said
            (omega (arith, length-drop (place + 1) (contents_of past), whole, beyond, there))),
      ))) measured known

  -- or before a frame
  pub passes_open : (size length_here next : ℕ) (head : List ℕ)
      → IfSome past (λ past. size ≡ length (contents_of past))
      → 0 < length bytes
      → get_or bytes 0 0 ≡ 1
      → head ≡ drop 1 bytes
      → take (head_of form) head ≡ head_in form ordinal length_here
      → 1 ≤ length_here
      → length_here ≤ 32768
      → next ≡ place + 1 + head_of form + length_here
      → next ≤ size
      → IfSome past (λ past. PassesFrame form ordinal place (contents_of past) (Some next))
  passes_open size length_here next head measured some one are spelled least most at ends =
      known_both (λ past. size ≡ length (contents_of past))
      (λ past. AreAt place (1 + head_of form) bytes (contents_of past))
      (λ past. PassesFrame form ordinal place (contents_of past) (Some next)) past
      (λ past whole is. passes form ordinal place length_here next (contents_of past) head
      (omega (arith, some, length-at place (1 + head_of form) bytes (contents_of past) is))
      (sym (first-at place (head_of form) bytes (contents_of past) is) ∙ one)
      (are ∙ behind-at place 1 (head_of form) bytes (contents_of past) is) spelled least most at
      (omega (arith, whole, ends))) measured known

-- behind the header no frame is passed yet
pub walked_none : (form : Form) (past : Option Past)
    → IfSome past (λ past. take (first_place form) (contents_of past) ≡ header_of form)
    → IfSome past (λ past. IsReadUpTo form 0 (first_place form) (contents_of past))
walked_none form past known = known_of (λ past. take (first_place form) (contents_of past) ≡ header_of form)
    (λ past. IsReadUpTo form 0 (first_place form) (contents_of past)) past
    (λ past begins. record { payloads = []; count = refl; read = read_none form (contents_of past) begins }) known

-- how many there are then
length-push : (payloads : List (List ℕ)) (payload : List ℕ) (ordinal : ℕ) → length payloads ≡ ordinal
    → length (payloads ++ payload ∷ []) ≡ ordinal + 1
length-push payloads payload ordinal is = omega (arith, length-append payloads (payload ∷ []), is)

-- one frame more
pub walked_more : (form : Form) (past : Option Past) (ordinal place next : ℕ)
    → IfSome past (λ past. IsReadUpTo form ordinal place (contents_of past))
    → IfSome past (λ past. PassesFrame form ordinal place (contents_of past) (Some next))
    → IfSome past (λ past. IsReadUpTo form (ordinal + 1) next (contents_of past))
walked_more form past ordinal place next known passed =
    known_both (λ past. IsReadUpTo form ordinal place (contents_of past))
    (λ past. PassesFrame form ordinal place (contents_of past) (Some next))
    (λ past. IsReadUpTo form (ordinal + 1) next (contents_of past)) past
    (λ past so_far frame.
    (let payload : List ℕ = frame.2.0 in
    record {
      payloads = so_far.payloads ++ payload ∷ [];
      count = length-push so_far.payloads payload ordinal so_far.count;
      read = subst (λ (at : ℕ). IsReadTo form (so_far.payloads ++ payload ∷ []) at (contents_of past)) (sym frame.2.4)
          (read_more form so_far.payloads payload frame.2.1 (contents_of past) place
          so_far.read frame.2.2 frame.0 frame.1 (frame.2.3 ∙ ap (λ (n : ℕ). framed_in form n payload ++ frame.2.1)
          (sym so_far.count)));
    })) known passed

-- a closed gate
pub walked_all : (form : Form) (past : Option Past) (ordinal place : ℕ)
    → IfSome past (λ past. IsReadUpTo form ordinal place (contents_of past))
    → IfSome past (λ past. PassesFrame form ordinal place (contents_of past) None)
    → IfSome past (λ past. EndsAt form place ordinal (contents_of past))
walked_all form past ordinal place known closed =
    known_both (λ past. IsReadUpTo form ordinal place (contents_of past))
    (λ past. PassesFrame form ordinal place (contents_of past) None)
    (λ past. EndsAt form place ordinal (contents_of past)) past
    (λ past so_far gate. record {
      payloads = so_far.payloads;
      place = so_far.read.at;
      count = so_far.count;
      framed = read_closed form so_far.payloads (contents_of past) place so_far.read gate.0 gate.1;
    }) known closed

-- no frame
pub walked_broken : (form : Form) (past : Option Past) (size ordinal place : ℕ) (why : JournalFault)
    → empty_of form < size
    → IfSome past (λ past. size ≡ length (contents_of past))
    → IfSome past (λ past. IsReadUpTo form ordinal place (contents_of past))
    → IfSome past (λ past. StopsAt form ordinal place (contents_of past) why)
    → IfSome past (λ past. IsTrueIn form (contents_of past) (Err why))
walked_broken form None size ordinal place why long measured known stops = tt
walked_broken form (Some past) size ordinal place (Damaged at) long measured known stops =
    record {
      long = omega (arith, long, measured);
      payloads = known.payloads;
      sizes = known.read.sizes;
      rest = drop place (contents_of past);
      is = known.read.is;
      at = known.read.at ∙ sym stops.0;
      broken = subst (λ (n : ℕ). IsBrokenIn form n (drop place (contents_of past))) (sym known.count) stops.1;
    }
walked_broken form (Some past) size ordinal place DiskFault long measured known stops = tt
walked_broken form (Some past) size ordinal place (NotAJournal found) long measured known stops = absurd stops
walked_broken form (Some past) size ordinal place (Unsealed byte) long measured known stops = absurd stops
walked_broken form (Some past) size ordinal place OutOfMemory long measured known stops = absurd stops

-- the first gate is within a file that is longer than an empty journal
pub first_within : (form : Form) → first_place form ≤ empty_of form
first_within First = omega arith
first_within Second = omega arith

-- a title and a seal make a header
pub title_sealed : (file : List ℕ) → 18 < length file → take 16 file ≡ title_of Second → get_or file 16 0 ≡ 1
    → take 17 file ≡ header_of Second
title_sealed file long title seal = take_more file 16 0 (omega (arith, long))
    ∙ (ap (λ (list : List ℕ). list ++ get_or file 16 0 ∷ []) title
    ∙ ap (λ (byte : ℕ). title_of Second ++ byte ∷ []) seal)

-- the same of a disk
pub title_known : (past : Option Past) → IfSome past (λ past. 18 < length (contents_of past))
    → IfSome past (λ past. take 16 (contents_of past) ≡ title_of Second)
    → IfSome past (λ past. get_or (contents_of past) 16 0 ≡ 1)
    → IfSome past (λ past. take 17 (contents_of past) ≡ header_of Second)
title_known None long title seal = tt
title_known (Some past) long title seal = title_sealed (contents_of past) long title seal
