-- For callers: turns with one call, and with several.
use Rattle.std.proofs.Common.{◌≡◌, ◌⊎◌, ℕ, ◌≤◌, List, [], ◌∷◌, ◌++◌, length, take, refl, sym, ap, ◌∙◌, subst, append_assoc, arith, length-append}
use Rattle.std.specs.Prelude.{All}
use Rattle.std.proofs.lemmas.List.{append-nil}
use Rattle.std.proofs.lemmas.List.Elements.{All-nil, All-cons, All-append, All-weaker}
use Rattle.std.proofs.Math.Seq.{take-append_seam}
use Rattle.tb_units.proofs.ListLemmas.{AllPairs-nil, AllPairs-one, AllPairs-append}
use Rattle.tb_lock.specs.declared.view.Call.{Call}
use Rattle.tb_lock.specs.declared.view.View.{View}
use Rattle.tb_lock.specs.Meanings.{History, IsPrefix, Answer, accepted, repeated, faulted, entryless, Meanings}
use Rattle.tb_lock.specs.Calls.{added_if, accepted_of, calls_on, AreApart, IsOnce, entry_of, Stands}
use Rattle.tb_lock.specs.Turns.{IsTimed, Adds, Doubts, calls_of, MayGive}
use Rattle.tb_lock.proofs.PrefixLemmas.{prefix-length}

-- as many first entries as a beginning has are that beginning
pub take-prefix : (n : ℕ) (first whole : History) → IsPrefix first whole → n ≡ length first → take n whole ≡ first
take-prefix n first whole begins is =
    ap (λ (k : ℕ). take k whole) is
    ∙ (ap (λ (l : History). take (length first) l) begins.1 ∙ take-append_seam first begins.0)

-- the calls of two lists that are told one behind the other
pub calls_on-append : (history : History) (before after readings : ℕ) (first second : List (List ℕ × ℕ))
    → calls_on history before after readings (first ++ second)
    ≡ calls_on history before after readings first ++ calls_on history before after readings second
calls_on-append history before after readings [] second = refl
calls_on-append history before after readings (told ∷ first) second =
    let call : Call = record {
      code = told.0;
      prefix = take told.1 history;
      faults_before = before;
      faults_after = after;
      readings = readings;
    } in
    ap (λ (calls : List Call). call ∷ calls) (calls_on-append history before after readings first second)

-- an entry that is added before two lists of entries
added_if-append : (answer : Answer) (entry : List ℕ) (first second : History)
    → added_if answer entry (first ++ second) ≡ added_if answer entry first ++ second
added_if-append accepted entry first second = refl
added_if-append repeated entry first second = refl
added_if-append faulted entry first second = refl
added_if-append entryless entry first second = refl

-- the accepted entries of two lists of calls
pub accepted_of-append : {T : Type 0} (m : Meanings T) (fixed : List ℕ) (first second : List Call)
    → accepted_of m fixed (first ++ second) ≡ accepted_of m fixed first ++ accepted_of m fixed second
accepted_of-append m fixed [] second = refl
accepted_of-append m fixed (call ∷ first) second =
    ap (λ (entries : History). added_if (m.answer call.code) (entry_of m fixed call) entries)
    (accepted_of-append m fixed first second)
    ∙ added_if-append (m.answer call.code) (entry_of m fixed call) (accepted_of m fixed first)
    (accepted_of m fixed second)

-- the history after a call that was answered on a history
pub history_after : {T : Type 0} → Meanings T → List ℕ → Call → History
history_after m fixed call = call.prefix ++ added_if (m.answer call.code) (entry_of m fixed call) []

-- a beginning of a history is one of a longer history
prefix-longer : (first whole added : History) → IsPrefix first whole → IsPrefix first (whole ++ added)
prefix-longer first whole added begins =
    (begins.0 ++ added, ap (λ (l : History). l ++ added) begins.1 ∙ append_assoc first begins.0 added)

module _ {T : Type 0} (m : Meanings T) (v : View) (value : T) where
  -- a turn with one call may end so
  pub one-call : (c : Call)
      → Stands m v.fixed (m.history value) c
      → IsPrefix v.seen c.prefix
      → IsTimed m v value c
      → m.fixed value ≡ v.fixed
      → v.faults_taken ≤ m.faults value
      → v.readings ≤ m.readings value
      → Adds m v (c ∷ []) (m.history value)
      → Doubts m v (c ∷ []) (m.history value) (m.doubt value)
      → MayGive m v (c ∷ []) value
  one-call c stands begins timed fixed faults readings adds doubts =
      let stand = Stands m v.fixed (m.history value) in
      let begin = λ (d : Call). IsPrefix v.seen d.prefix in record {
        stand = All-cons stand c [] stands (All-nil stand);
        begin = All-cons begin c [] begins (All-nil begin);
        once = AllPairs-one (AreApart m) c;
        timed = All-cons (IsTimed m v value) c [] timed (All-nil (IsTimed m v value));
        fixed = fixed;
        faults = faults;
        readings = readings;
        adds = adds;
        doubts = doubts;
      }

  -- the same of a call that is told with how many entries stood before it
  pub one-told : (code : List ℕ) (before : ℕ) (prefix : History)
      → IsPrefix prefix (m.history value)
      → before ≡ length prefix
      → MayGive m v (record {
        code = code;
        prefix = prefix;
        faults_before = v.faults_taken;
        faults_after = m.faults value;
        readings = m.readings value;
      } ∷ []) value
      → MayGive m v (calls_of m v value ((code, before) ∷ [])) value
  one-told code before prefix begins is may =
      let told : History → Call = λ first. record {
        code = code;
        prefix = first;
        faults_before = v.faults_taken;
        faults_after = m.faults value;
        readings = m.readings value;
      } in
      subst (λ (first : History). MayGive m v (told first ∷ []) value)
      (sym (take-prefix before prefix (m.history value) begins is)) may

-- several calls of one turn, each answered on what stood when the ones before it were done
module _ {T : Type 0} (m : Meanings T) (v : View) (settled : History) where
  -- the history is the settled one and behind it the entries of the calls that were accepted
  pub record AreMade (calls : List Call) (history : History) : Type 0 where
    pub stand : All (Stands m v.fixed history) calls
    pub begin : All (λ (c : Call). IsPrefix v.seen c.prefix) calls
    pub once : IsOnce m calls
    pub grown : history ≡ settled ++ accepted_of m v.fixed calls

  -- before the first call it is the settled one
  pub made-none : AreMade [] settled
  made-none = record {
    stand = All-nil (Stands m v.fixed settled);
    begin = All-nil (λ (c : Call). IsPrefix v.seen c.prefix);
    once = AllPairs-nil (AreApart m);
    grown = sym (append-nil settled);
  }

  -- a call that stands in a history stands in a longer one
  stands-longer : (history added : History) (c : Call)
      → Stands m v.fixed history c
      → Stands m v.fixed (history ++ added) c
  stands-longer history added c stands = record {
    answered = stands.answered;
    prefix = prefix-longer c.prefix history added stands.prefix;
    entry = λ is. prefix-longer (c.prefix ++ entry_of m v.fixed c ∷ []) history added (stands.entry is);
  }

  -- an accepted call's entry stands right behind its prefix
  stands-last : (c : Call)
      → m.answered v.fixed c.prefix c.code c.faults_before c.faults_after c.readings
      → Stands m v.fixed (history_after m v.fixed c) c
  unfolding history_after
  stands-last c answered = record {
    answered = answered;
    prefix = (added_if (m.answer c.code) (entry_of m v.fixed c) [], refl);
    entry = λ is. (
      [],
      ap (λ (a : Answer). c.prefix ++ added_if a (entry_of m v.fixed c) []) is
          ∙ sym (append-nil (c.prefix ++ entry_of m v.fixed c ∷ [])),
    );
  }

  -- a call is accepted behind more entries than those that stand in its prefix
  apart-later : (c d : Call) → Stands m v.fixed d.prefix c → AreApart m c d
  apart-later c d stands first second same =
      let within = prefix-length (c.prefix ++ entry_of m v.fixed c ∷ []) d.prefix (stands.entry first) in
      absurd (omega (arith, length-append c.prefix (entry_of m v.fixed c ∷ [])))

  -- a call more, answered on the history so far
  pub made-more : (calls : List Call) (history : History) (c : Call)
      → AreMade calls history
      → c.prefix ≡ history
      → IsPrefix v.seen settled
      → m.answered v.fixed c.prefix c.code c.faults_before c.faults_after c.readings
      → AreMade (calls ++ c ∷ []) (history_after m v.fixed c)
  unfolding history_after
  made-more calls history c made on begins answered =
      let entry = entry_of m v.fixed c in
      let added : History = added_if (m.answer c.code) entry [] in
      let stand = Stands m v.fixed (c.prefix ++ added) in
      let begin = λ (d : Call). IsPrefix v.seen d.prefix in
      let before : All (Stands m v.fixed (c.prefix ++ added)) calls =
      subst (λ (first : History). All (Stands m v.fixed (first ++ added)) calls) (sym on)
      (All-weaker (Stands m v.fixed history) (Stands m v.fixed (history ++ added))
      (stands-longer history added) calls made.stand) in
      let apart : All (λ d. All (AreApart m d) (c ∷ [])) calls =
      All-weaker (Stands m v.fixed history) (λ d. All (AreApart m d) (c ∷ []))
      (λ d stands. All-cons (AreApart m d) c []
      (apart-later d c (subst (λ (l : History). Stands m v.fixed l d) (sym on) stands)) (All-nil (AreApart m d)))
      calls made.stand in
      let seen : IsPrefix v.seen c.prefix =
      subst (λ (l : History). IsPrefix v.seen l) (sym (on ∙ made.grown))
      (prefix-longer v.seen settled (accepted_of m v.fixed calls) begins) in record {
        stand = All-append stand calls (c ∷ []) before (All-cons stand c [] (stands-last c answered) (All-nil stand));
        begin = All-append begin calls (c ∷ []) made.begin (All-cons begin c [] seen (All-nil begin));
        once = AllPairs-append (AreApart m) calls (c ∷ []) made.once (AllPairs-one (AreApart m) c) apart;
        grown = ap (λ (l : History). l ++ added) (on ∙ made.grown)
            ∙ (append_assoc settled (accepted_of m v.fixed calls) added
            ∙ ap (λ (l : History). settled ++ l) (sym (accepted_of-append m v.fixed calls (c ∷ []))));
      }

  -- what else a turn with these calls has to show
  pub record EndsTurn (calls : List Call) (value : T) : Type 0 where
    pub group : History
    pub resolved : (group ≡ []) ⊎ (group ≡ v.doubt)
    pub is_settled : settled ≡ v.seen ++ group
    pub timed : All (IsTimed m v value) calls
    pub fixed : m.fixed value ≡ v.fixed
    pub faults : v.faults_taken ≤ m.faults value
    pub readings : v.readings ≤ m.readings value
    pub doubts : Doubts m v calls (m.history value) (m.doubt value)

  -- a turn with several calls may end so
  pub many-calls : (calls : List Call) (value : T)
      → AreMade calls (m.history value)
      → EndsTurn calls value
      → MayGive m v calls value
  many-calls calls value made ends = record {
    stand = made.stand;
    begin = made.begin;
    once = made.once;
    timed = ends.timed;
    fixed = ends.fixed;
    faults = ends.faults;
    readings = ends.readings;
    adds = record {
      group = ends.group;
      resolved = ends.resolved;
      grown = made.grown
          ∙ (ap (λ (l : History). l ++ accepted_of m v.fixed calls) ends.is_settled
          ∙ append_assoc v.seen ends.group (accepted_of m v.fixed calls));
    };
    doubts = ends.doubts;
  }
