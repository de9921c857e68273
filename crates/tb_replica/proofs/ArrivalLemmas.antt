-- Parcels of a legal history: what each makes of a copy of it, and which places are there then.
use Rattle.std.proofs.Common.{◌≡◌, ◌≢◌, ◌⊎◌, inl, inr, ℕ, ◌+◌, ◌-◌, ◌<◌, ◌≤◌, Bool, true, false, ◌&&◌, ◌||◌, ◌==◌, List, [], ◌∷◌, ◌++◌, length, take, drop, suc, get_or, refl, ap, sym, ◌∙◌, subst, arith, eq-eqb}
use Rattle.std.specs.Prelude.{Option, Some, None, Ok, Err, Contains, nat_le, if◌then◌else◌}
use Rattle.std.proofs.Math.ListN.{set}
use Rattle.std.specs.Option.{is_some}
use Rattle.std.proofs.Math.Seq.{take-append_seam}
use Rattle.std.proofs.lemmas.Bool.{cases_lt, le-leb}
use Rattle.std.proofs.lemmas.List.{length-append, get_or-set_same, get_or-set_other}
use Rattle.std.proofs.Math.ListN.{length-set}
use Rattle.std.proofs.lemmas.Bool.Decides.{nat_tests}
use Rattle.tb_message.specs.declared.message.Entry.{Entry}
use Rattle.tb_history.specs.Legal.{IsLegal}
use Rattle.tb_parcel.specs.declared.parcel.Parcel.{Parcel}
use Rattle.tb_replica.specs.declared.taken.Taken.{Taken}
use Rattle.tb_replica.specs.declared.taken.TakeFault.TheVariants as fault
use Rattle.tb_replica.specs.Delivery.{Arrived, IsFirstGap, IsSameArrival, Delivers, DeliverAll, arrived_up_to}
use Rattle.tb_replica.specs.Following.{Following, Outcome, Runs, Takes}
use Rattle.tb_replica.specs.Window.{first, shifted, keeping}
use Rattle.tb_replica.specs.Following.{Gap, LetGo, Forks, Breaks, Goes, Stands, Below, Refused, Adds, Keeps, Drops, Fails}
use Rattle.tb_replica.specs.Arrival.{StandsAt, IsOf, arrived, Copies, Begins, AreTaken, AreOf, places_of, IsDelivered}
use Rattle.tb_replica.proofs.HistoryLemmas.{not_yet, follows_next, rest_next, stands_before}
use Rattle.tb_replica.proofs.WindowLemmas.{get_or-shifted, length-shifted}

-- what is kept for the places from this one on
abbrev pub is_kept : ℕ → List (Option Entry) → ℕ → Bool
is_kept low ahead place = nat_le low place && is_some (get_or ahead (place - low) None)

-- this holds of each place from this one on and what is kept for it
abbrev pub AreKept : (ℕ → Entry → Type 0) → ℕ → List (Option Entry) → Type 0
AreKept Holds low ahead = (index : ℕ) (entry : Entry) → get_or ahead index None ≡ Some entry
    → Holds (low + index) entry

-- what is kept for the places from this one on is of the history
abbrev pub AreKeptOf : List Entry → ℕ → List (Option Entry) → Type 0
AreKeptOf all low ahead = AreKept (StandsAt all) low ahead

-- what a run that begins at this place leaves of a copy
pub record Ran (all : List Entry) (low : ℕ) (ahead : List (Option Entry)) (new : Following) : Type 0 where
  pub copies : Copies all new
  pub gap : IsFirstGap (is_kept low ahead) low (length new.history)
  pub left : (place : ℕ) → (arrived new).ahead place
      ≡ (is_kept low ahead place && nat_le (length new.history + 1) place)

-- the places behind the first are kept by the same list without it
is_kept-shifted : (low : ℕ) (ahead : List (Option Entry)) (place : ℕ)
    → low + 1 ≤ place
    → is_kept (low + 1) (shifted ahead) place ≡ is_kept low ahead place
is_kept-shifted low ahead place behind =
    let e : place - low ≡ (place - (low + 1)) + 1 = omega arith in
    rw (
      le-leb (low + 1) place behind,
      le-leb low place (omega arith),
      e,
      get_or-shifted ahead (place - (low + 1)),
    ) refl

-- so it does of what is kept behind the first
pub AreKept-shifted : (Holds : ℕ → Entry → Type 0) (low : ℕ) (ahead : List (Option Entry))
    → AreKept Holds low ahead
    → AreKept Holds (low + 1) (shifted ahead)
AreKept-shifted Holds low ahead are index entry is =
    let e : low + 1 + index ≡ low + (index + 1) = omega arith in
    rw e (are (index + 1) entry (sym (get_or-shifted ahead index) ∙ is))

-- ---- tests

and-true : (b : Bool) → (b && true) ≡ b
and-true true = refl
and-true false = refl

and-false : (b : Bool) → (b && false) ≡ false
and-false true = refl
and-false false = refl

nat_le-not : (a b : ℕ) → b < a → nat_le a b ≡ false
nat_le-not a b less = grind (arith, nat_tests)

-- what is kept for the place itself
is_kept-here : (low : ℕ) (ahead : List (Option Entry)) → is_kept low ahead low ≡ is_some (get_or ahead 0 None)
is_kept-here low ahead =
    let e : low - low ≡ 0 = omega arith in
    rw (le-leb low low (omega arith), e) refl

-- ---- runs

-- a run that ends at once
Ran-stop : (all history rest : List Entry) (ahead : List (Option Entry))
    → all ≡ history ++ rest
    → length ahead ≡ 1023
    → AreKeptOf all (length history) ahead
    → first ahead ≡ None
    → Ran all (length history) ahead (record { history = history; ahead = shifted ahead })
Ran-stop all history rest ahead begins window are none =
    record {
      copies = record {
        rest = rest;
        begins = begins;
        window = length-shifted ahead (omega arith) ∙ window;
        kept = λ index entry is. AreKept-shifted (StandsAt all) (length history) ahead are index entry is;
      };
      gap = record {
        behind = omega arith;
        is_gap = is_kept-here (length history) ahead ∙ rw none refl;
        filled = λ place low high. absurd (omega arith);
      };
      left = λ place. elim (cases_lt place (length history + 1)) [
        | inl before ↦
            rw (nat_le-not (length history + 1) place before)
            (sym (and-false (is_kept (length history) ahead place)))
        | inr behind ↦
            is_kept-shifted (length history) ahead place behind
            ∙ sym (ap (λ (b : Bool). is_kept (length history) ahead place && b)
            (le-leb (length history + 1) place behind)
            ∙ and-true (is_kept (length history) ahead place))
      ];
    }

-- a run that goes on behind a place that is kept
Ran-goes : (all : List Entry) (low : ℕ) (ahead : List (Option Entry)) (entry : Entry) (new : Following)
    → first ahead ≡ Some entry
    → Ran all (low + 1) (shifted ahead) new
    → Ran all low ahead new
Ran-goes all low ahead entry new kept ran =
    record {
      copies = ran.copies;
      gap = record {
        behind = omega (arith, ran.gap.behind);
        is_gap = sym (is_kept-shifted low ahead (length new.history) ran.gap.behind) ∙ ran.gap.is_gap;
        filled = λ place behind before. elim (cases_lt low place) [
          | inl later ↦
              sym (is_kept-shifted low ahead place (omega arith)) ∙ ran.gap.filled place (omega arith) before
          | inr here ↦
              let e : place ≡ low = omega arith in
              rw e (is_kept-here low ahead ∙ rw kept refl)
        ];
      };
      left = λ place. elim (cases_lt place (low + 1)) [
        | inl before ↦
            let none = nat_le-not (length new.history + 1) place (omega (arith, ran.gap.behind)) in
            ran.left place
            ∙ (ap (λ (b : Bool). is_kept (low + 1) (shifted ahead) place && b) none
            ∙ and-false (is_kept (low + 1) (shifted ahead) place))
            ∙ sym (ap (λ (b : Bool). is_kept low ahead place && b) none ∙ and-false (is_kept low ahead place))
        | inr behind ↦
            ran.left place
            ∙ ap (λ (b : Bool). b && nat_le (length new.history + 1) place) (is_kept-shifted low ahead place behind)
      ];
    }

-- the entry that is kept for the place behind a copy
next_stands : (all history rest : List Entry) (ahead : List (Option Entry)) (entry : Entry)
    → all ≡ history ++ rest
    → AreKeptOf all (length history) ahead
    → first ahead ≡ Some entry
    → StandsAt (history ++ rest) (length history) entry
next_stands all history rest ahead entry begins are kept =
    let here : length history + 0 ≡ length history = omega arith in
    subst (λ (h : List Entry). StandsAt h (length history) entry) begins
    (subst (λ (n : ℕ). StandsAt all n entry) here (are 0 entry kept))

-- the copy with that entry
record IsLonger (all history : List Entry) (entry : Entry) (ahead : List (Option Entry)) : Type 0 where
  pub rest : List Entry
  pub begins : all ≡ (history ++ entry ∷ []) ++ rest
  pub length_is : length (history ++ entry ∷ []) ≡ length history + 1
  pub window : length (shifted ahead) ≡ 1023
  pub are : AreKeptOf all (length (history ++ entry ∷ [])) (shifted ahead)

longer : (all history rest : List Entry) (ahead : List (Option Entry)) (entry : Entry)
    → all ≡ history ++ rest
    → length ahead ≡ 1023
    → AreKeptOf all (length history) ahead
    → first ahead ≡ Some entry
    → IsLonger all history entry ahead
longer all history rest ahead entry begins window are kept =
    let one : length (history ++ entry ∷ []) ≡ length history + 1 = length-append history (entry ∷ []) in
    record {
      rest = drop (suc (length history)) (history ++ rest);
      begins = begins ∙ rest_next history rest entry (next_stands all history rest ahead entry begins are kept);
      length_is = one;
      window = length-shifted ahead (omega arith) ∙ window;
      are =
          subst (λ (n : ℕ). AreKeptOf all n (shifted ahead)) (sym one)
          (AreKept-shifted (StandsAt all) (length history) ahead are);
    }

-- A run over what is kept of a legal history, from where its copy ends, takes all up to the first gap.
pub Runs-ran : (all : List Entry) (new : Following) (outcome : Outcome) (answer : Taken) (history : List Entry)
    (ahead : List (Option Entry)) (added : ℕ)
    → Runs new outcome history ahead added
    → outcome ≡ Ok answer
    → IsLegal all
    → (rest : List Entry)
    → all ≡ history ++ rest
    → length ahead ≡ 1023
    → AreKeptOf all (length history) ahead
    → Ran all (length history) ahead new
Runs-ran all new outcome answer _ _ _ (Gap history ahead added none told left) ok legal rest begins window are =
    subst (λ (n : Following). Ran all (length history) ahead n) (sym left)
    (Ran-stop all history rest ahead begins window are none)
Runs-ran all new outcome answer _ _ _ (LetGo history ahead added entry kept among told left) ok legal rest begins window
    are =
    absurd (not_yet history rest (length history) entry (subst IsLegal begins legal)
    (next_stands all history rest ahead entry begins are kept) (omega arith) among)
Runs-ran all new outcome answer _ _ _ (Forks history ahead added entry kept among not_follows told left) ok legal rest
    begins window are = cc
Runs-ran all new outcome answer _ _ _ (Breaks history ahead added entry kept not_among broken same) ok legal rest begins
    window are =
    elim broken [ inl is ↦ cc | inr is ↦ cc ]
Runs-ran all new outcome answer _ _ _ (Goes history ahead added entry kept follows more) ok legal rest begins window
    are =
    let next = longer all history rest ahead entry begins window are kept in
    let ran =
    Runs-ran all new outcome answer (history ++ entry ∷ []) (shifted ahead) (added + 1) more ok legal next.rest
    next.begins next.window next.are in
    Ran-goes all (length history) ahead entry new kept
    (subst (λ (n : ℕ). Ran all n (shifted ahead) new) next.length_is ran)

-- and it never finds a fork
pub Runs-no_fork : (all : List Entry) (new : Following) (outcome : Outcome) (at : ℕ) (history : List Entry)
    (ahead : List (Option Entry)) (added : ℕ)
    → Runs new outcome history ahead added
    → outcome ≡ Err (fault.Forked at)
    → IsLegal all
    → (rest : List Entry)
    → all ≡ history ++ rest
    → length ahead ≡ 1023
    → AreKeptOf all (length history) ahead
    → ⊥
Runs-no_fork all new outcome at _ _ _ (Gap history ahead added none told left) forks legal rest begins window are = cc
Runs-no_fork all new outcome at _ _ _ (LetGo history ahead added entry kept among told left) forks legal rest begins
    window are = cc
Runs-no_fork all new outcome at _ _ _ (Forks history ahead added entry kept among not_follows told left) forks legal
    rest begins window are =
    not_follows (follows_next history rest entry (subst IsLegal begins legal)
    (next_stands all history rest ahead entry begins are kept))
Runs-no_fork all new outcome at _ _ _ (Breaks history ahead added entry kept not_among broken same) forks legal rest
    begins window are =
    elim broken [ inl is ↦ cc | inr is ↦ cc ]
Runs-no_fork all new outcome at _ _ _ (Goes history ahead added entry kept follows more) forks legal rest begins window
    are =
    let next = longer all history rest ahead entry begins window are kept in
    Runs-no_fork all new outcome at (history ++ entry ∷ []) (shifted ahead) (added + 1) more forks legal next.rest
    next.begins next.window next.are

-- ---- one parcel

pub eq-or : (a b : ℕ) → ((a ≡ b) × ((a == b) ≡ true)) ⊎ ((a ≢ b) × ((a == b) ≡ false))
eq-or a b = grind (arith, nat_tests)

or-false : (b : Bool) → (b || false) ≡ b
or-false true = refl
or-false false = refl

or-true : (b : Bool) → (b || true) ≡ true
or-true true = refl
or-true false = refl

-- what is kept for a place once an entry is kept for one
pub keeping-cases : (ahead : List (Option Entry)) (index : ℕ) (entry : Entry)
    → ((keeping ahead index entry ≡ ahead) × (is_some (get_or ahead index None) ≡ true))
    ⊎ ((keeping ahead index entry ≡ set ahead index (Some entry)) × (is_some (get_or ahead index None) ≡ false))
keeping-cases ahead index entry =
    elim (is_some (get_or ahead index None)) as
    (λ b. (((if b then ahead else set ahead index (Some entry)) ≡ ahead) × (b ≡ true))
    ⊎ (((if b then ahead else set ahead index (Some entry)) ≡ set ahead index (Some entry)) × (b ≡ false))) [
      | true ↦ inl (refl, refl)
      | false ↦ inr (refl, refl)
    ]

is_some-keeping : (ahead : List (Option Entry)) (index other : ℕ) (entry : Entry)
    → index < length ahead
    → is_some (get_or (keeping ahead index entry) other None) ≡ (is_some (get_or ahead other None) || (other == index))
is_some-keeping ahead index other entry within =
    elim (eq-or other index) [
      | inl same ↦
          elim (keeping-cases ahead index entry) [
            | inl there ↦
                rw (there.0, same.1, or-true (is_some (get_or ahead other None)), same.0) there.1
            | inr put ↦
                rw (
                  put.0,
                  same.1,
                  or-true (is_some (get_or ahead other None)),
                  same.0,
                  get_or-set_same ahead index (Some entry) None within,
                ) refl
          ]
      | inr different ↦
          elim (keeping-cases ahead index entry) [
            | inl there ↦ rw (there.0, different.1, or-false (is_some (get_or ahead other None))) refl
            | inr put ↦
                rw (
                  put.0,
                  different.1,
                  or-false (is_some (get_or ahead other None)),
                  get_or-set_other ahead index other (Some entry) None different.0,
                ) refl
          ]
    ]

-- two places are one, told by how far they are behind a third
eq-behind : (low one other : ℕ) → low ≤ one → low ≤ other → ((one - low) == (other - low)) ≡ (one == other)
eq-behind low one other low_one low_other =
    elim (eq-or one other) [
      | inl same ↦ rw (same.1, same.0) (eq-eqb (other - low) (other - low) refl)
      | inr different ↦
          elim (eq-or (one - low) (other - low)) [
            | inl same ↦ absurd (different.0 (omega (arith, same.0)))
            | inr apart ↦ rw (apart.1, different.1) refl
          ]
    ]

-- which places are kept once an entry is kept for one
is_kept-keeping : (low : ℕ) (ahead : List (Option Entry)) (place other : ℕ) (entry : Entry)
    → low ≤ place
    → place - low < length ahead
    → is_kept low (keeping ahead (place - low) entry) other ≡ (is_kept low ahead other || (other == place))
is_kept-keeping low ahead place other entry behind within =
    elim (cases_lt other low) [
      | inl less ↦
          elim (eq-or other place) [
            | inl same ↦ absurd (omega (arith, same.0))
            | inr different ↦ rw (nat_le-not low other less, different.1) refl
          ]
      | inr more ↦
          rw (le-leb low other more, sym (eq-behind low other place more behind))
          (is_some-keeping ahead (place - low) (other - low) entry within)
    ]

-- it holds of what is kept then, if it holds of the entry
pub AreKept-keeping : (Holds : ℕ → Entry → Type 0) (low : ℕ) (ahead : List (Option Entry)) (index : ℕ) (entry : Entry)
    → index < length ahead
    → Holds (low + index) entry
    → AreKept Holds low ahead
    → AreKept Holds low (keeping ahead index entry)
AreKept-keeping Holds low ahead index entry within holds are other kept is =
    elim (keeping-cases ahead index entry) [
      | inl there ↦
          are other kept (sym (ap (λ (a : List (Option Entry)). get_or a other None) there.0) ∙ is)
      | inr put ↦
          let now : get_or (set ahead index (Some entry)) other None ≡ Some kept =
          sym (ap (λ (a : List (Option Entry)). get_or a other None) put.0) ∙ is in
          elim (eq-or other index) [
            | inl same ↦
                let there : get_or (set ahead index (Some entry)) other None ≡ Some entry =
                rw same.0 (get_or-set_same ahead index (Some entry) None within) in
                let e : entry ≡ kept = cc in
                rw same.0 (subst (λ (x : Entry). Holds (low + index) x) e holds)
            | inr different ↦
                are other kept
                (sym (get_or-set_other ahead index other (Some entry) None different.0) ∙ now)
          ]
    ]

pub length-keeping : (ahead : List (Option Entry)) (index : ℕ) (entry : Entry)
    → length (keeping ahead index entry) ≡ length ahead
length-keeping ahead index entry =
    elim (keeping-cases ahead index entry) [
      | inl there ↦ rw there.0 refl
      | inr put ↦ rw put.0 (length-set ahead index (Some entry))
    ]

-- what a parcel of the history leaves
pub record Arrives (all : List Entry) (place : ℕ) (old new : Following) : Type 0 where
  pub copies : Copies all new
  pub delivers : Delivers place (arrived old) (arrived new)

IsSameArrival-refl : (one : Arrived) → IsSameArrival one one
IsSameArrival-refl one = record { next = refl; ahead = λ place. refl }

-- a parcel that changes nothing
Arrives-nothing : (all : List Entry) (place : ℕ) (old new : Following)
    → Copies all old
    → new ≡ old
    → (place < length old.history) ⊎ (length old.history + 1024 ≤ place)
    → Arrives all place old new
Arrives-nothing all place old new copies same outside =
    subst (λ (n : Following). Arrives all place old n) (sym same)
    (elim outside [
      | inl before ↦ record {
        copies = copies;
        delivers = record {
          before = λ is. IsSameArrival-refl (arrived old);
          at = λ is. absurd (omega arith);
          behind = λ low high. absurd (omega arith);
          beyond = λ far. absurd (omega arith);
        };
      }
      | inr far ↦ record {
        copies = copies;
        delivers = record {
          before = λ is. absurd (omega arith);
          at = λ is. absurd (omega arith);
          behind = λ low high. absurd (omega arith);
          beyond = λ is. IsSameArrival-refl (arrived old);
        };
      }
    ])

-- what the copy knows of the entry behind it
next_copy : (all : List Entry) (old : Following) (entry : Entry)
    → Copies all old
    → StandsAt all (length old.history) entry
    → (rest : List Entry) × (all ≡ (old.history ++ entry ∷ []) ++ rest)
next_copy all old entry copies stands = (
  drop (suc (length old.history)) (old.history ++ copies.rest),
  copies.begins
      ∙ rest_next old.history copies.rest entry
      (subst (λ (h : List Entry). StandsAt h (length old.history) entry) copies.begins stands),
)

AreKeptOf-grown : (all : List Entry) (old : Following) (entry : Entry)
    → Copies all old
    → AreKeptOf all (length (old.history ++ entry ∷ [])) old.ahead
AreKeptOf-grown all old entry copies =
    subst (λ (n : ℕ). AreKeptOf all n old.ahead) (sym (length-append old.history (entry ∷ [])))
    (λ index kept is. copies.kept index kept is)

-- an entry of the history that stands in the copy was before its end
stands_in : (all : List Entry) (old : Following) (parcel : Parcel)
    → IsLegal all
    → Copies all old
    → IsOf all parcel
    → Contains old.history parcel.entry
    → parcel.place < length old.history
stands_in all old parcel legal copies of among =
    elim (cases_lt parcel.place (length old.history)) [
      | inl before ↦ before
      | inr behind ↦
          absurd (not_yet old.history copies.rest parcel.place parcel.entry (subst IsLegal copies.begins legal)
          (subst (λ (h : List Entry). StandsAt h parcel.place parcel.entry) copies.begins of) behind among)
    ]

-- A parcel of a legal history is taken as delivery says.
pub Takes-arrives : (all : List Entry) (old new : Following) (parcel : Parcel) (outcome : Outcome) (answer : Taken)
    → Takes parcel old new outcome
    → outcome ≡ Ok answer
    → IsLegal all
    → Copies all old
    → IsOf all parcel
    → Arrives all parcel.place old new
Takes-arrives all old new parcel outcome answer (Stands among told same) ok legal copies of =
    Arrives-nothing all parcel.place old new copies same (inl (stands_in all old parcel legal copies of among))
Takes-arrives all old new parcel outcome answer (Below not_among before told same) ok legal copies of = cc
Takes-arrives all old new parcel outcome answer (Refused not_among at not_follows told same) ok legal copies of = cc
Takes-arrives all old new parcel outcome answer (Adds at follows runs) ok legal copies of =
    let next =
    next_copy all old parcel.entry copies
    (subst (λ (n : ℕ). StandsAt all n parcel.entry) at of) in
    let one : length (old.history ++ parcel.entry ∷ []) ≡ length old.history + 1 =
    length-append old.history (parcel.entry ∷ []) in
    let ran : Ran all (length old.history + 1) old.ahead new =
    subst (λ (n : ℕ). Ran all n old.ahead new) one
    (Runs-ran all new outcome answer (old.history ++ parcel.entry ∷ []) old.ahead 1 runs ok legal next.0 next.1
    copies.window (AreKeptOf-grown all old parcel.entry copies)) in
    record {
      copies = ran.copies;
      delivers = record {
        before = λ is. absurd (omega arith);
        at = λ is. record { next = ran.gap; ahead = ran.left };
        behind = λ low high. absurd (omega arith);
        beyond = λ far. absurd (omega arith);
      };
    }
Takes-arrives all old new parcel outcome answer (Keeps not_among low high told left) ok legal copies of =
    let index : ℕ = parcel.place - (length old.history + 1) in
    let back : length old.history + 1 + index ≡ parcel.place = omega arith in
    let within : index < length old.ahead = omega (arith, copies.window) in
    subst (λ (n : Following). Arrives all parcel.place old n) (sym left)
    (record {
      copies = record {
        rest = copies.rest;
        begins = copies.begins;
        window = length-keeping old.ahead index parcel.entry ∙ copies.window;
        kept = AreKept-keeping (StandsAt all) (length old.history + 1) old.ahead index parcel.entry within
            (subst (λ (n : ℕ). StandsAt all n parcel.entry) (sym back) of)
            (λ other kept is. copies.kept other kept is);
      };
      delivers = record {
        before = λ is. absurd (omega arith);
        at = λ is. absurd (omega arith);
        behind = λ is up. record {
          next = refl;
          ahead = λ other.
              is_kept-keeping (length old.history + 1) old.ahead parcel.place other parcel.entry (omega arith) within;
        };
        beyond = λ far. absurd (omega arith);
      };
    })
Takes-arrives all old new parcel outcome answer (Drops not_among far told same) ok legal copies of =
    Arrives-nothing all parcel.place old new copies same (inr far)
Takes-arrives all old new parcel outcome answer (Fails not_among at broken same) ok legal copies of =
    elim broken [ inl is ↦ cc | inr is ↦ cc ]

-- and is never a fork
pub Takes-no_fork : (all : List Entry) (old new : Following) (parcel : Parcel) (outcome : Outcome) (at : ℕ)
    → Takes parcel old new outcome
    → outcome ≡ Err (fault.Forked at)
    → IsLegal all
    → Copies all old
    → IsOf all parcel
    → ⊥
Takes-no_fork all old new parcel outcome at (Stands among told same) forks legal copies of = cc
Takes-no_fork all old new parcel outcome at (Below not_among before told same) forks legal copies of =
    not_among (stands_before old.history copies.rest parcel.place parcel.entry
    (subst (λ (h : List Entry). StandsAt h parcel.place parcel.entry) copies.begins of) before)
Takes-no_fork all old new parcel outcome at (Refused not_among is not_follows told same) forks legal copies of =
    not_follows (follows_next old.history copies.rest parcel.entry (subst IsLegal copies.begins legal)
    (subst (λ (h : List Entry). StandsAt h (length old.history) parcel.entry) copies.begins
    (subst (λ (n : ℕ). StandsAt all n parcel.entry) is of)))
Takes-no_fork all old new parcel outcome at (Adds is follows runs) forks legal copies of =
    let next =
    next_copy all old parcel.entry copies (subst (λ (n : ℕ). StandsAt all n parcel.entry) is of) in
    Runs-no_fork all new outcome at (old.history ++ parcel.entry ∷ []) old.ahead 1 runs forks legal next.0 next.1
    copies.window (AreKeptOf-grown all old parcel.entry copies)
Takes-no_fork all old new parcel outcome at (Keeps not_among low high told left) forks legal copies of = cc
Takes-no_fork all old new parcel outcome at (Drops not_among far told same) forks legal copies of = cc
Takes-no_fork all old new parcel outcome at (Fails not_among is broken same) forks legal copies of =
    elim broken [ inl is ↦ cc | inr is ↦ cc ]

-- ---- lists of parcels

-- a follower that was opened on a beginning of the history
pub Begins-copies : (all : List Entry) (follower : Following) → Begins all follower → Copies all follower
Begins-copies all follower begins =
    record {
      rest = begins.rest;
      begins = begins.is;
      window = begins.window;
      kept = λ index entry is.
          let none : None ≡ Some entry = sym (begins.nothing index) ∙ is in
          absurd (cc);
    }

Begins-arrived : (all : List Entry) (follower : Following)
    → Begins all follower
    → IsSameArrival (arrived_up_to (length follower.history)) (arrived follower)
Begins-arrived all follower begins =
    record {
      next = refl;
      ahead = λ place.
          ap (λ (o : Option Entry). nat_le (length follower.history + 1) place && is_some o)
          (begins.nothing (place - (length follower.history + 1)))
          ∙ and-false (nat_le (length follower.history + 1) place);
    }

IsSameArrival-trans : (one two three : Arrived) → IsSameArrival one two → IsSameArrival two three
    → IsSameArrival one three
IsSameArrival-trans one two three first_same then_same =
    record {
      next = then_same.next ∙ first_same.next;
      ahead = λ place. then_same.ahead place ∙ first_same.ahead place;
    }

-- what is delivered over the same places
Delivers-same : (place : ℕ) (old same new : Arrived)
    → IsSameArrival old same
    → Delivers place same new
    → Delivers place old new
Delivers-same place old same new is delivers =
    record {
      before = λ less. IsSameArrival-trans old same new is (delivers.before (omega (arith, is.next)));
      at = λ here.
          let closes = delivers.at (here ∙ sym is.next) in
          record {
            next = record {
              behind = omega (arith, is.next, closes.next.behind);
              is_gap = sym (is.ahead new.next) ∙ closes.next.is_gap;
              filled = λ p low high.
                  sym (is.ahead p) ∙ closes.next.filled p (omega (arith, is.next)) high;
            };
            ahead = λ p. closes.ahead p ∙ ap (λ (b : Bool). b && nat_le (new.next + 1) p) (is.ahead p);
          };
      behind = λ low high.
          let goes = delivers.behind (omega (arith, is.next)) (omega (arith, is.next)) in
          record {
            next = goes.next ∙ is.next;
            ahead = λ other. goes.ahead other ∙ ap (λ (b : Bool). b || (other == place)) (is.ahead other);
          };
      beyond = λ far. IsSameArrival-trans old same new is (delivers.beyond (omega (arith, is.next)));
    }

DeliverAll-same : (places : List ℕ) (old same new : Arrived)
    → IsSameArrival old same
    → DeliverAll places same new
    → DeliverAll places old new
DeliverAll-same [] old same new is delivered = IsSameArrival-trans old same new is delivered
DeliverAll-same (place ∷ places) old same new is delivered =
    (delivered.0, Delivers-same place old same delivered.0 is delivered.1, delivered.2)

-- what parcels of the history leave
record ArriveAll (all : List Entry) (places : List ℕ) (old new : Following) : Type 0 where
  pub copies : Copies all new
  pub delivered : DeliverAll places (arrived old) (arrived new)

AreTaken-arrive : (all : List Entry) (parcels : List Parcel) (old new : Following)
    → IsLegal all
    → Copies all old
    → AreOf all parcels
    → AreTaken parcels old new
    → ArriveAll all (places_of parcels) old new
AreTaken-arrive all [] old new legal copies of same =
    subst (λ (n : Following). ArriveAll all [] old n) (sym same)
    (record { copies = copies; delivered = IsSameArrival-refl (arrived old) })
AreTaken-arrive all (parcel ∷ parcels) old new legal copies of taken_all =
    let one =
    Takes-arrives all old taken_all.0 parcel (Ok taken_all.1) taken_all.1 taken_all.2 refl legal copies of.0 in
    let others = AreTaken-arrive all parcels taken_all.0 new legal one.copies of.1 taken_all.3 in
    record { copies = others.copies; delivered = (arrived taken_all.0, one.delivers, others.delivered) }

-- parcels of a legal history, in any order, lost and repeated
pub delivered : (all : List Entry) (parcels : List Parcel) (old new : Following)
    → IsLegal all
    → Begins all old
    → AreOf all parcels
    → AreTaken parcels old new
    → IsDelivered all (places_of parcels) old new
delivered all parcels old new legal begins of taken_all =
    let end = AreTaken-arrive all parcels old new legal (Begins-copies all old begins) of taken_all in
    record {
      beginning = sym (ap (λ (h : List Entry). take (length new.history) h) end.copies.begins
          ∙ take-append_seam new.history end.copies.rest);
      delivered = DeliverAll-same (places_of parcels) (arrived_up_to (length old.history)) (arrived old) (arrived new)
          (Begins-arrived all old begins) end.delivered;
    }

pub no_fork : (all : List Entry) (parcels : List Parcel) (old between new : Following) (parcel : Parcel) (at : ℕ)
    → IsLegal all
    → Begins all old
    → AreOf all parcels
    → AreTaken parcels old between
    → IsOf all parcel
    → ¬ (Takes parcel between new (Err (fault.Forked at)))
no_fork all parcels old between new parcel at legal begins are taken_all of takes =
    let end = AreTaken-arrive all parcels old between legal (Begins-copies all old begins) are taken_all in
    Takes-no_fork all between new parcel (Err (fault.Forked at)) at takes refl legal end.copies of

-- ---- one delivery

nat_le-cases : (a b : ℕ) → ((nat_le a b ≡ true) × (a ≤ b)) ⊎ ((nat_le a b ≡ false) × (b < a))
nat_le-cases a b = grind (arith, nat_tests)

IsFirstGap-one : (among : ℕ → Bool) (low one other : ℕ)
    → IsFirstGap among low one
    → IsFirstGap among low other
    → one ≡ other
IsFirstGap-one among low one other first_one first_other =
    elim (cases_lt one other) [
      | inl less ↦
          let yes = first_other.filled one first_one.behind less in
          let no = first_one.is_gap in
          absurd cc
      | inr more ↦
          elim (cases_lt other one) [
            | inl less ↦
                let yes = first_one.filled other first_other.behind less in
                let no = first_other.is_gap in
                absurd cc
            | inr same ↦ omega arith
          ]
    ]

IsSameArrival-sym : (one other : Arrived) → IsSameArrival one other → IsSameArrival other one
IsSameArrival-sym one other same = record { next = sym same.next; ahead = λ place. sym (same.ahead place) }

Delivers-one : (place : ℕ) (old one other : Arrived)
    → Delivers place old one
    → Delivers place old other
    → IsSameArrival one other
Delivers-one place old one other first_one first_other =
    elim (cases_lt place old.next) [
      | inl before ↦
          IsSameArrival-trans one old other (IsSameArrival-sym old one (first_one.before before))
          (first_other.before before)
      | inr behind ↦
          elim (cases_lt old.next place) [
            | inl later ↦
                elim (cases_lt place (old.next + 1024)) [
                  | inl near ↦
                      let a = first_one.behind later near in
                      let b = first_other.behind later near in
                      record {
                        next = b.next ∙ sym a.next;
                        ahead = λ p. b.ahead p ∙ sym (a.ahead p);
                      }
                  | inr far ↦
                      IsSameArrival-trans one old other (IsSameArrival-sym old one (first_one.beyond far))
                      (first_other.beyond far)
                ]
            | inr not_later ↦
                let here : place ≡ old.next = omega arith in
                let a = first_one.at here in
                let b = first_other.at here in
                let same = IsFirstGap-one old.ahead (old.next + 1) one.next other.next a.next b.next in
                record {
                  next = sym same;
                  ahead = λ p.
                      b.ahead p
                      ∙ ap (λ (n : ℕ). old.ahead p && nat_le (n + 1) p) (sym same)
                      ∙ sym (a.ahead p);
                }
          ]
    ]

-- the same parcels leave the same places
pub DeliverAll-one : (places : List ℕ) (old one other : Arrived)
    → DeliverAll places old one
    → DeliverAll places old other
    → IsSameArrival one other
DeliverAll-one [] old one other first_one first_other =
    IsSameArrival-trans one old other (IsSameArrival-sym old one first_one) first_other
DeliverAll-one (place ∷ places) old one other first_one first_other =
    let between = Delivers-one place old first_one.0 first_other.0 first_one.1 first_other.1 in
    DeliverAll-one places first_one.0 one other first_one.2
    (DeliverAll-same places first_one.0 first_other.0 other between first_other.2)
