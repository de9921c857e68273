-- Turns of the tally may end so.
use Rattle.std.proofs.Common.{◌≡◌, ℕ, ◌≤◌, List, [], ◌∷◌, ◌++◌, length, take, Some, true, refl, sym, ap, ◌∙◌, subst, inl, inr, ⊎_elim, arith, append_assoc}
use Rattle.std.specs.Prelude.{◌⊎◌, All, Any, Contains, nat_eq}
use Rattle.std.specs.List.{list_any}
use Rattle.std.proofs.lemmas.List.{length-map, map-append, append-nil, get_or-map}
use Rattle.std.proofs.lemmas.List.Elements.{All-nil, All-cons}
use Rattle.std.proofs.lemmas.List.Folds.{Any-from_list_any}
use Rattle.std.proofs.lemmas.Bool.Decides.{nat_tests}
use Rattle.tb_lock_tests.specs.declared.tally.Outcome.{Outcome}
use Rattle.tb_lock_tests.specs.declared.tally.Outcome.TheVariants.{Accepted, Repeated, Faulted}
use Rattle.tb_lock_tests.specs.declared.tally.Tally.{Tally}
use Rattle.tb_lock.specs.declared.view.Call.{Call}
use Rattle.tb_lock.specs.declared.view.View.{View}
use Rattle.tb_lock.specs.Meanings.{History, IsPrefix, accepted}
use Rattle.tb_lock.specs.Calls.{Leaves, accepted_of, Stands}
use Rattle.tb_lock.specs.Turns.{IsReadBetween, IsTimed, Doubts, MayGive}
use Rattle.tb_lock_tests.specs.Tally.{entries_of, group_of, kind_of, answer_of, moment_in, MayAnswer, tally_means, Settles, Adds}
use Rattle.tb_lock.proofs.PrefixLemmas.{any-first}
use Rattle.tb_lock.proofs.CallerLemmas.{one-call, one-told}

-- what a pass knows of the tally that it took
pub record Took (view : View) (old : Tally) : Type 0 where
  pub seen : view.seen ≡ entries_of old.numbers.items
  pub doubt : view.doubt ≡ entries_of (group_of old.doubt)
  pub faults : view.faults_taken ≡ old.faults
  pub readings : view.readings ≡ old.clock
  pub fixed : view.fixed ≡ old.room ∷ old.fails ∷ []

-- a moment that is told is the one that the code has
same-moment : (a b : ℕ) → Some a ≡ Some b → b ≡ a
same-moment a b e = cc

-- a number that a slice has is an entry
pub entry-contained : (numbers : List ℕ) (number : ℕ) → list_any (λ y. nat_eq y number) numbers ≡ true
    → Contains (entries_of numbers) (number ∷ [])
entry-contained numbers number found =
    let at = Any-from_list_any (λ y. nat_eq y number) numbers found in
    let below = at.2 in
    let is : at.1 ≡ number = let test = at.4 in grind (arith, nat_tests) in (
      at.0,
      omega (arith, length-map numbers (λ (n : ℕ). n ∷ [])),
      get_or-map (λ (n : ℕ). n ∷ []) numbers at.0 at.1 (number ∷ []) at.2 ∙ ap (λ (n : ℕ). n ∷ []) (at.3 ∙ is),
    )

-- a turn that adds a number: the tally was taken, its doubt settled, its clock read, and the number added
pub record AddsInTurn (view : View) (old settled new : Tally) (moment number : ℕ) (outcome : Outcome) : Type 0 where
  pub took : Took view old
  pub settles : Settles old settled
  pub read : IsReadBetween settled.clock moment
  pub rose : settled.clock ≤ moment
  pub adds : Adds outcome (record settled { clock = moment }) new number

-- the call of such a turn, on a prefix: the moment is how often the clock was read
abbrev pub call_at : ℕ → ℕ → ℕ → ℕ → ℕ → History → Call
call_at kind number moment before after prefix = record {
  code = kind ∷ number ∷ moment ∷ [];
  prefix = prefix;
  faults_before = before;
  faults_after = after;
  readings = moment;
}

module _ (view : View) (old settled new : Tally) (moment number : ℕ) (outcome : Outcome)
    (turn : AddsInTurn view old settled new moment number outcome) where
  -- the call has the clock's reading of this turn
  timed : (call : Call) (kind : ℕ) → call.code ≡ kind ∷ number ∷ new.clock ∷ [] → IsTimed tally_means view new call
  timed call kind is told same =
      let clock = turn.adds.same.2 in
      let before = turn.took.readings ∙ sym turn.settles.same.3 in (
        same-moment new.clock told (sym (ap (λ (code : List ℕ). moment_in code) is) ∙ same),
        subst (λ (y : ℕ × ℕ). IsReadBetween y.0 y.1) (λ i. (sym before i, sym clock i)) turn.read,
      )

  -- the number of readings isn't less
  not-fewer : view.readings ≤ new.clock
  not-fewer =
      let clock = turn.adds.same.2 in
      let before = turn.took.readings ∙ sym turn.settles.same.3 in
      let rose = turn.rose in omega arith

  -- the fixed part is as it was taken
  same-fixed : tally_means.fixed new ≡ view.fixed
  same-fixed =
      let room = turn.adds.same.0 ∙ turn.settles.same.0 in
      let fails = turn.adds.same.1 ∙ turn.settles.same.1 in
      let fixed = turn.took.fixed in cc

  -- what stands when the doubt is settled: the history taken, and the group that came to stand
  settled-history : entries_of settled.numbers.items ≡ view.seen ++ entries_of turn.settles.group
  settled-history =
      ap (λ (numbers : List ℕ). entries_of numbers) turn.settles.grown
      ∙ (map-append (λ n. n ∷ []) old.numbers.items turn.settles.group
      ∙ ap (λ (first : History). first ++ entries_of turn.settles.group) (sym turn.took.seen))

  -- that group is nothing, or the group in doubt
  settled-group : (entries_of turn.settles.group ≡ []) ⊎ (entries_of turn.settles.group ≡ view.doubt)
  settled-group = ⊎_elim
      (λ (none : turn.settles.group ≡ []). inl (ap (λ (numbers : List ℕ). entries_of numbers) none))
      (λ (whole : turn.settles.group ≡ group_of old.doubt).
      inr (ap (λ (numbers : List ℕ). entries_of numbers) whole ∙ sym turn.took.doubt))
      turn.settles.resolved

  -- what a turn that adds these entries has to show of its answer
  record IsAnswer (kind : ℕ) (added : History) : Type 0 where
    pub grown : entries_of new.numbers.items ≡ entries_of settled.numbers.items ++ added
    pub entries : added ≡ accepted_of tally_means view.fixed
        (call_at kind number new.clock view.faults_taken new.faults (entries_of settled.numbers.items) ∷ [])
    pub entry : answer_of kind ≡ accepted → added ≡ (number ∷ []) ∷ []
    pub may : MayAnswer (answer_of kind) (entries_of settled.numbers.items) (number ∷ []) view.faults_taken new.faults
    pub least : view.faults_taken ≤ new.faults
    pub doubts : Doubts tally_means view
        (call_at kind number new.clock view.faults_taken new.faults (entries_of settled.numbers.items) ∷ [])
        (entries_of new.numbers.items) (entries_of (group_of new.doubt))

  -- then it may end so
  answered-may : (kind before : ℕ) (added : History) → before ≡ length settled.numbers.items → IsAnswer kind added
      → MayGive tally_means view
      (call_at kind number new.clock view.faults_taken new.faults (take before (entries_of new.numbers.items)) ∷ []) new
  answered-may kind before added behind answer =
      let prefix : History = entries_of settled.numbers.items in
      let history : History = entries_of new.numbers.items in
      let code : List ℕ = kind ∷ number ∷ new.clock ∷ [] in
      let call : Call = call_at kind number new.clock view.faults_taken new.faults prefix in
      let begins : IsPrefix prefix history = (added, answer.grown) in
      let whole = answer.grown
      ∙ (ap (λ (first : History). first ++ added) settled-history
      ∙ (append_assoc view.seen (entries_of turn.settles.group) added
      ∙ ap (λ (last : History). view.seen ++ (entries_of turn.settles.group ++ last)) answer.entries)) in
      let stands : Stands tally_means view.fixed history call = record {
        answered = answer.may;
        prefix = begins;
        entry = λ is. (
          [],
          answer.grown ∙ (ap (λ (last : History). prefix ++ last) (answer.entry is)
              ∙ sym (append-nil (prefix ++ (number ∷ []) ∷ []))),
        );
      } in
      one-told tally_means view new code before prefix begins
      (behind ∙ sym (length-map settled.numbers.items (λ (n : ℕ). n ∷ [])))
      (one-call tally_means view new call stands (entries_of turn.settles.group, settled-history)
      (timed call kind refl) same-fixed answer.least not-fewer
      record { group = entries_of turn.settles.group; resolved = settled-group; grown = whole } answer.doubts)

-- the count of faults of the tally that was taken is that of the settled one
taken-faults : (view : View) (old settled : Tally)
    → Took view old
    → Settles old settled
    → view.faults_taken ≡ settled.faults
taken-faults view old settled took settles = took.faults ∙ sym settles.same.2

-- a turn of the tally that adds a number may end so
pub addition-may : (view : View) (old settled new : Tally) (moment number before : ℕ) (outcome : Outcome)
    → AddsInTurn view old settled new moment number outcome → before ≡ length settled.numbers.items
    → MayGive tally_means view
    (call_at (kind_of outcome) number new.clock view.faults_taken new.faults
    (take before (entries_of new.numbers.items)) ∷ []) new
addition-may view old settled new moment number before Accepted turn behind =
    let answered = turn.adds.answered in
    let faults = taken-faults view old settled turn.took turn.settles in
    let same = answered.2 in
    answered-may view old settled new moment number Accepted turn 1 before ((number ∷ []) ∷ []) behind record {
      grown = ap (λ (numbers : List ℕ). entries_of numbers) answered.0
          ∙ map-append (λ n. n ∷ []) settled.numbers.items (number ∷ []);
      entries = refl;
      entry = λ _. refl;
      may = tt;
      least = omega arith;
      doubts = inl (ap (λ o. entries_of (group_of o)) answered.1);
    }
addition-may view old settled new moment number before Repeated turn behind =
    let answered = turn.adds.answered in
    let faults = taken-faults view old settled turn.took turn.settles in
    let same = answered.2 in
    answered-may view old settled new moment number Repeated turn 2 before [] behind record {
      grown = ap (λ (numbers : List ℕ). entries_of numbers) answered.0
          ∙ sym (append-nil (entries_of settled.numbers.items));
      entries = refl;
      entry = λ is. absurd (cc);
      may = answered.3;
      least = omega arith;
      doubts = inl (ap (λ o. entries_of (group_of o)) answered.1);
    }
addition-may view old settled new moment number before Faulted turn behind =
    let answered = turn.adds.answered in
    let faults = taken-faults view old settled turn.took turn.settles in
    let least = answered.3 in
    let call : Call = call_at 0 number new.clock view.faults_taken new.faults (entries_of settled.numbers.items) in
    let left = λ (entry : List ℕ). Any (Leaves tally_means view.fixed entry) (call ∷ []) in
    let number_left : Any (Leaves tally_means view.fixed (number ∷ [])) (call ∷ []) =
    any-first (Leaves tally_means view.fixed (number ∷ [])) call [] (refl, refl) in
    let in_doubt : entries_of (group_of new.doubt) ≡ (number ∷ []) ∷ [] =
    ap (λ o. entries_of (group_of o)) answered.1 in
    answered-may view old settled new moment number Faulted turn 0 before [] behind record {
      grown = ap (λ (numbers : List ℕ). entries_of numbers) answered.0
          ∙ sym (append-nil (entries_of settled.numbers.items));
      entries = refl;
      entry = λ is. absurd (cc);
      may = subst (λ (n : ℕ). IsReadBetween n new.faults) (sym faults) answered.2;
      least = omega arith;
      doubts = inr (inr (subst (All left) (sym in_doubt) (All-cons left (number ∷ []) [] number_left (All-nil left))));
    }
