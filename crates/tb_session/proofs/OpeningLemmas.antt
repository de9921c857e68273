-- What the fixed part of a room under the lock tells: no other disk, as an opening left it, has the same.
use Rattle.std.proofs.Common.{◌≡◌, ℕ, List, [], ◌∷◌, ◌++◌, length, Option, Some, None, is_some, refl, sym, ap, ◌∙◌, append_assoc, append-nil}
use Rattle.std.specs.Prelude.{Bool}
use Rattle.std.proofs.Math.Seq.{take-append_seam, drop-append_seam}
use Rattle.tb_disk.specs.Disks.{DiskState}
use Rattle.tb_disk.specs.Past.{Past, Began, Then}
use Rattle.tb_disk.specs.Steps.{Step, Wrote, Tore, CutTo, Synced}
use Rattle.tb_gates.specs.Clocks.{ClockState}
use Rattle.tb_session.specs.declared.room.Room.{Room}
use Rattle.tb_session.specs.Codes.{sized, told_code, moments_code, fixed_code, operator_in, moments_in, moments_at}
use Rattle.tb_session.specs.CodeLaws.{operator-fixed}
use Rattle.tb_session.specs.Openings.{step_code, past_code, told_past, opening_code, lock_code}
use Rattle.tb_session.specs.Rooms.{fixed_of, house_of, SameStart}
use Rattle.tb_session.proofs.OneCode.{sized-same}

-- the numbers of a step, where more stand behind
step-same : (s t : Step) (r q : List ℕ) → step_code s ++ r ≡ step_code t ++ q → (s ≡ t) × (r ≡ q)
step-same (Wrote m a) (Wrote n b) r q is =
    let places : m ≡ n = cc in
    let behind : sized a ++ r ≡ sized b ++ q = cc in
    let both = sized-same a b r q behind in
    (λ i. Wrote (places i) (both.0 i), both.1)
step-same (Tore m x a) (Tore n y b) r q is =
    let places : m ≡ n = cc in
    let counts : x ≡ y = cc in
    let behind : sized a ++ r ≡ sized b ++ q = cc in
    let both = sized-same a b r q behind in
    (λ i. Tore (places i) (counts i) (both.0 i), both.1)
step-same (CutTo m) (CutTo n) r q is = (let same : m ≡ n = cc in ap CutTo same, cc)
step-same Synced Synced r q is = (refl, cc)
step-same (Wrote m a) (Tore n y b) r q is = absurd (let bad : ⊥ = cc in bad)
step-same (Wrote m a) (CutTo n) r q is = absurd (let bad : ⊥ = cc in bad)
step-same (Wrote m a) Synced r q is = absurd (let bad : ⊥ = cc in bad)
step-same (Tore m x a) (Wrote n b) r q is = absurd (let bad : ⊥ = cc in bad)
step-same (Tore m x a) (CutTo n) r q is = absurd (let bad : ⊥ = cc in bad)
step-same (Tore m x a) Synced r q is = absurd (let bad : ⊥ = cc in bad)
step-same (CutTo m) (Wrote n b) r q is = absurd (let bad : ⊥ = cc in bad)
step-same (CutTo m) (Tore n y b) r q is = absurd (let bad : ⊥ = cc in bad)
step-same (CutTo m) Synced r q is = absurd (let bad : ⊥ = cc in bad)
step-same Synced (Wrote n b) r q is = absurd (let bad : ⊥ = cc in bad)
step-same Synced (Tore n y b) r q is = absurd (let bad : ⊥ = cc in bad)
step-same Synced (CutTo n) r q is = absurd (let bad : ⊥ = cc in bad)

-- a past has one code, and no other past has it, whatever stands behind
past-same : (p p' : Past) (r q : List ℕ) → past_code p ++ r ≡ past_code p' ++ q → (p ≡ p') × (r ≡ q)
past-same (Began a) (Began b) r q is =
    let behind : sized a ++ r ≡ sized b ++ q = cc in
    let both = sized-same a b r q behind in
    (ap Began both.0, both.1)
past-same (Then s p) (Then t p') r q is =
    let behind : (step_code s ++ past_code p) ++ r ≡ (step_code t ++ past_code p') ++ q = cc in
    let steps = step-same s t (past_code p ++ r) (past_code p' ++ q)
    (sym (append_assoc (step_code s) (past_code p) r)
    ∙ (behind ∙ append_assoc (step_code t) (past_code p') q)) in
    let rest = past-same p p' r q steps.1 in
    (λ i. Then (steps.0 i) (rest.0 i), rest.1)
past-same (Began a) (Then t p') r q is = absurd (let bad : ⊥ = cc in bad)
past-same (Then s p) (Began b) r q is = absurd (let bad : ⊥ = cc in bad)

-- what a disk tells of its past has one code
told-same : (o o' : Option Past) → told_past o ≡ told_past o' → o ≡ o'
told-same None None is = refl
told-same (Some p) (Some p') is =
    let behind : past_code p ≡ past_code p' = cc in
    ap Some (past-same p p' [] [] (append-nil (past_code p) ∙ (behind ∙ sym (append-nil (past_code p'))))).0
told-same None (Some p') is = absurd (let bad : ⊥ = cc in bad)
told-same (Some p) None is = absurd (let bad : ⊥ = cc in bad)

-- and so has an opening
pub opening-one : (m n : ℕ) (o o' : Option Past) → opening_code m o ≡ opening_code n o' → (m ≡ n) × (o ≡ o')
opening-one m n o o' is =
    let counts : m ≡ n = cc in
    let pasts : told_past o ≡ told_past o' = cc in
    (counts, told-same o o' pasts)

-- the moments that a clock tells, where more stands behind
moments-same : (m m' : Option (List ℕ)) (r q : List ℕ) → moments_code m ++ r ≡ moments_code m' ++ q → (m ≡ m') × (r ≡ q)
moments-same None None r q is = (refl, cc)
moments-same (Some a) (Some b) r q is =
    let behind : sized a ++ r ≡ sized b ++ q = cc in
    let both = sized-same a b r q behind in
    (ap Some both.0, both.1)
moments-same None (Some b) r q is = absurd (let bad : ⊥ = cc in bad)
moments-same (Some a) None r q is = absurd (let bad : ⊥ = cc in bad)

-- the whole fixed part is the operator's name behind its length, and then the rest
lock-is : (name : List ℕ) (opened : DiskState) (recovered : ℕ) (moments : Option (List ℕ))
    → lock_code name opened recovered moments
    ≡ sized name ++ (told_code (is_some opened.past) ∷ opened.faults
    ∷ (moments_code moments ++ opening_code recovered opened.past))
lock-is name opened recovered moments =
    ap (λ (l : List ℕ). length name ∷ l)
    (append_assoc name (told_code (is_some opened.past) ∷ opened.faults ∷ moments_code moments)
    (opening_code recovered opened.past))

-- what the fixed part is made of
record Parts (name name' : List ℕ) (opened opened' : DiskState) (recovered recovered' : ℕ)
    (moments moments' : Option (List ℕ)) : Type 0 where
  names : name ≡ name'
  disks : opened ≡ opened'
  counts : recovered ≡ recovered'
  given : moments ≡ moments'

-- equal fixed parts are made of the same
lock-same : (name name' : List ℕ) (opened opened' : DiskState) (recovered recovered' : ℕ)
    (moments moments' : Option (List ℕ))
    → lock_code name opened recovered moments ≡ lock_code name' opened' recovered' moments'
    → Parts name name' opened opened' recovered recovered' moments moments'
lock-same name name' opened opened' recovered recovered' moments moments' is =
    let tail = opening_code recovered opened.past in
    let tail' = opening_code recovered' opened'.past in
    let behind = told_code (is_some opened.past) ∷ opened.faults ∷ (moments_code moments ++ tail) in
    let behind' = told_code (is_some opened'.past) ∷ opened'.faults ∷ (moments_code moments' ++ tail') in
    let split = sized-same name name' behind behind'
    (sym (lock-is name opened recovered moments) ∙ (is ∙ lock-is name' opened' recovered' moments')) in
    let rest : behind ≡ behind' = split.1 in
    let faults : opened.faults ≡ opened'.faults = cc in
    let later : moments_code moments ++ tail ≡ moments_code moments' ++ tail' = cc in
    let clocks = moments-same moments moments' tail tail' later in
    let openings = opening-one recovered recovered' opened.past opened'.past clocks.1 in
    record {
      names = split.0;
      disks = λ i. record { past = openings.1 i; faults = faults i };
      counts = openings.0;
      given = clocks.0;
    }

-- the operator's name in the whole fixed part
pub operator-locked : (name : List ℕ) (opened : DiskState) (recovered : ℕ) (moments : Option (List ℕ))
    → operator_in (lock_code name opened recovered moments) ≡ name
operator-locked name opened recovered moments =
    ap (λ (l : List ℕ). operator_in l) (lock-is name opened recovered moments)
    ∙ take-append_seam name (told_code (is_some opened.past) ∷ opened.faults
    ∷ (moments_code moments ++ opening_code recovered opened.past))

-- the moments in what stands behind the name
moments-behind : (told faults : ℕ) (moments : Option (List ℕ)) (rest : List ℕ)
    → moments_at (told ∷ faults ∷ (moments_code moments ++ rest)) ≡ moments
moments-behind told faults None rest = refl
moments-behind told faults (Some moments) rest = ap Some (take-append_seam moments rest)

-- and in the whole
pub moments-locked : (name : List ℕ) (opened : DiskState) (recovered : ℕ) (moments : Option (List ℕ))
    → moments_in (lock_code name opened recovered moments) ≡ moments
moments-locked name opened recovered moments =
    ap (λ (l : List ℕ). moments_in l) (lock-is name opened recovered moments)
    ∙ (ap (λ (l : List ℕ). moments_at l) (drop-append_seam name (told_code (is_some opened.past) ∷ opened.faults
    ∷ (moments_code moments ++ opening_code recovered opened.past)))
    ∙ moments-behind (told_code (is_some opened.past)) opened.faults moments (opening_code recovered opened.past))

-- and where nothing stands behind
pub moments-fixed : (name : List ℕ) (told : Bool) (faults : ℕ) (moments : Option (List ℕ))
    → moments_in (fixed_code name told faults moments) ≡ moments
moments-fixed name told faults moments =
    ap (λ (l : List ℕ). moments_at l) (drop-append_seam name (told_code told ∷ faults ∷ moments_code moments))
    ∙ (ap (λ (l : List ℕ). moments_at (told_code told ∷ faults ∷ l)) (sym (append-nil (moments_code moments)))
    ∙ moments-behind (told_code told) faults moments [])

module _ {D C : Type 0} (disk : D → DiskState) (clock : C → ClockState) where
  -- rooms with one fixed part have the same start
  pub same-start : (old new : Room D C) → fixed_of disk clock new ≡ fixed_of disk clock old
      → SameStart disk clock old new
  same-start old new is =
      let parts = lock-same new.operator old.operator (disk new.desk.opened) (disk old.desk.opened)
      new.desk.recovered old.desk.recovered (clock new.clock).moments (clock old.clock).moments is in
      record { operator = parts.names; opened = parts.disks; recovered = parts.counts; moments = parts.given }

  -- the operator and the moments are those that calls are answered by
  pub operator-house : (room : Room D C)
      → operator_in (fixed_of disk clock room) ≡ operator_in (house_of disk clock room)
  operator-house room =
      operator-locked room.operator (disk room.desk.opened) room.desk.recovered (clock room.clock).moments
      ∙ sym (operator-fixed room.operator (is_some (disk room.desk.opened).past) (disk room.desk.opened).faults
      (clock room.clock).moments)

  -- and so are the moments
  pub moments-house : (room : Room D C) → moments_in (fixed_of disk clock room) ≡ moments_in (house_of disk clock room)
  moments-house room =
      moments-locked room.operator (disk room.desk.opened) room.desk.recovered (clock room.clock).moments
      ∙ sym (moments-fixed room.operator (is_some (disk room.desk.opened).past) (disk room.desk.opened).faults
      (clock room.clock).moments)
