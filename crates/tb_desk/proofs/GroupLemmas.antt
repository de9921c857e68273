-- Groups of entries, and their payloads.
use Rattle.std.proofs.Common.{◌≡◌, ℕ, ◌+◌, ◌*◌, ◌<◌, ◌≤◌, ◌^◌, List, [], ◌∷◌, ◌++◌, length, take, drop, get_or, take-append-drop, refl, sym, ◌∙◌, ap, subst, arith, append_assoc, length-append}
use Rattle.std.specs.Prelude.{Result, Ok, Err, OnOk, IfErr}
use Rattle.std.specs.List.{flat_map, All}
use Rattle.std.proofs.lemmas.List.{map_push, flat_map_more, drop_more, get_or_append_left, get_or-append-add}
use Rattle.std.proofs.lemmas.List.Concat.{flat_map-append}
use Rattle.std.proofs.lemmas.List.Elements.{All-head, All-tail, All-push}
use Rattle.tb_message.specs.declared.message.Entry.{Entry}
use Rattle.tb_message.specs.declared.version.Version.{Version}
use Rattle.tb_message.specs.declared.version.Version.TheVariants as versions
use Rattle.tb_message.specs.Spelling.{spelling_in, spellings, spellings_in, IsInRange}
use Rattle.tb_message.proofs.RecordLaws.{spellings_in-one, spelling_in-sizes}
use Rattle.tb_history.specs.Legal.{IsLegal, Empty, Longer, Follows}
use Rattle.tb_history.proofs.HistoryLemmas.{IsLegal-follows}
use Rattle.tb_history.proofs.LengthLemmas.{IsLegal-length}
use Rattle.tb_journal.specs.declared.form.Form.{Form}
use Rattle.tb_journal.specs.declared.form.Form.TheVariants.{Second}
use Rattle.tb_journal.specs.Frames.{header_of, first_place, head_of, framed, front, front_in, frames, frames_in}
use Rattle.tb_journal.proofs.Gates.{length-header, length-front_push}
use Rattle.tb_journal.proofs.Spelling.{length-framed, StandsIn-one}
use Rattle.tb_desk.specs.Stands.{joined, form_of, payloads_in, payloads_of, IsGroup, StandsForHistory, StandsForHistoryIn}

-- the entries of one group more
pub joined-push : (groups : List (List Entry)) (group : List Entry)
    → joined (groups ++ group ∷ []) ≡ joined groups ++ group
joined-push groups group = sym (flat_map_more (λ (entries : List Entry). entries) [] groups group)

-- its payload
pub payloads_in-push : (version : Version) (groups : List (List Entry)) (group : List Entry)
    → payloads_in version (groups ++ group ∷ []) ≡ payloads_in version groups ++ spellings_in version group ∷ []
payloads_in-push version groups group = map_push (spellings_in version) groups group

pub payloads-push : (groups : List (List Entry)) (group : List Entry)
    → payloads_of (groups ++ group ∷ []) ≡ payloads_of groups ++ spellings group ∷ []
payloads-push = payloads_in-push versions.Second

-- each of them has an entry
pub sizes-push : (groups : List (List Entry)) (group : List Entry) → All IsGroup groups → IsGroup group
    → All IsGroup (groups ++ group ∷ [])
sizes-push groups group sizes size = All-push IsGroup groups group sizes size

-- the gate stands behind one frame more
pub front_in-push : (version : Version) (groups : List (List Entry)) (group : List Entry)
    → length (front_in (form_of version) (payloads_in version (groups ++ group ∷ [])))
    ≡ length (front_in (form_of version) (payloads_in version groups)) + 1 + head_of (form_of version)
    + length (spellings_in version group)
front_in-push version groups group = omega (
  arith,
  ap (λ (payloads : List (List ℕ)). length (front_in (form_of version) payloads))
      (payloads_in-push version groups group),
  length-front_push (form_of version) (payloads_in version groups) (spellings_in version group),
  length-framed (form_of version) (length (payloads_in version groups)) (spellings_in version group),
)

pub front-push : (groups : List (List Entry)) (group : List Entry)
    → length (front (payloads_of (groups ++ group ∷ []))) ≡ length (front (payloads_of groups)) + 13
    + length (spellings group)
front-push groups group = omega (arith, front_in-push versions.Second groups group)

-- the records of all entries, one behind the other, are the payloads
spellings-joined : (version : Version) (groups : List (List Entry))
    → spellings_in version (joined groups) ≡ flat_map (λ (payload : List ℕ). payload) (payloads_in version groups)
spellings-joined version [] = refl
spellings-joined version (group ∷ groups) = flat_map-append (spelling_in version) group (joined groups)
    ∙ ap (λ (bytes : List ℕ). spellings_in version group ++ bytes) (spellings-joined version groups)

-- the entries of a legal history are in range
pub IsLegal-in_range : (history : List Entry) → IsLegal history → All IsInRange history
IsLegal-in_range history Empty = λ place d within. absurd (omega (arith, within))
IsLegal-in_range history (Longer before entry legal follows) =
    All-push IsInRange before entry (IsLegal-in_range before legal) follows.in_range

-- groups with the same payloads have the same entries
pub joined_in-one : (version : Version) (groups others : List (List Entry)) → IsLegal (joined groups)
    → IsLegal (joined others) → payloads_in version groups ≡ payloads_in version others → joined groups ≡ joined others
joined_in-one version groups others legal also same =
    spellings_in-one version (joined groups) (joined others) (IsLegal-in_range (joined groups) legal)
    (IsLegal-in_range (joined others) also)
    (spellings-joined version groups
    ∙ (ap (λ (payloads : List (List ℕ)). flat_map (λ (payload : List ℕ). payload) payloads) same
    ∙ sym (spellings-joined version others)))

-- a file stands for one legal history
pub StandsForHistoryIn-one : (version : Version) (file : List ℕ) (one other : List Entry) → IsLegal one → IsLegal other
    → StandsForHistoryIn version one file → StandsForHistoryIn version other file → one ≡ other
StandsForHistoryIn-one version file one other legal also first second =
    sym first.whole
    ∙ (joined_in-one version first.groups second.groups (subst IsLegal (sym first.whole) legal)
    (subst IsLegal (sym second.whole) also)
    (StandsIn-one (form_of version) (payloads_in version first.groups) (payloads_in version second.groups) file
    first.stands second.stands)
    ∙ second.whole)

pub StandsForHistory-one : (file : List ℕ) (one other : List Entry) → IsLegal one → IsLegal other
    → StandsForHistory one file → StandsForHistory other file → one ≡ other
StandsForHistory-one = StandsForHistoryIn-one versions.Second

-- records have at least one byte each, and at most 512
pub spellings_in-sizes : (version : Version) (entries : List Entry) → All IsInRange entries
    → (length entries ≤ length (spellings_in version entries))
    × (length (spellings_in version entries) ≤ 512 * length entries)
spellings_in-sizes version [] in_range = (omega arith, omega arith)
spellings_in-sizes version (entry ∷ entries) in_range =
    let one = spelling_in-sizes version entry (All-head IsInRange entry entries in_range) in
    let others = spellings_in-sizes version entries (All-tail IsInRange entry entries in_range) in
    let whole = length-append (spelling_in version entry) (spellings_in version entries) in
    (omega (arith, one.0, others.0, whole), omega (arith, one.1, others.1, whole))

pub spellings-sizes : (entries : List Entry) → All IsInRange entries
    → (length entries ≤ length (spellings entries)) × (length (spellings entries) ≤ 512 * length entries)
spellings-sizes = spellings_in-sizes versions.Second

-- what holds of all entries of two lists holds of each list's
pub All-append_left : (front back : List Entry) → All IsInRange (front ++ back) → All IsInRange front
All-append_left front back all = λ place d within.
    subst IsInRange (get_or_append_left front back d place within)
    (all place d (omega (arith, within, length-append front back)))

pub All-append_right : (front back : List Entry) → All IsInRange (front ++ back) → All IsInRange back
All-append_right front back all = λ place d within.
    subst IsInRange (get_or-append-add front back place d)
    (all (length front + place) d (omega (arith, within, length-append front back)))

-- the first frame stands behind the header
pub length-front_in : (form : Form) (payloads : List (List ℕ))
    → length (front_in form payloads) ≡ first_place form + length (frames_in form 0 payloads)
length-front_in form payloads = omega (
  arith,
  length-append (header_of form) (frames_in form 0 payloads),
  length-header form,
)

-- the header and the seal are 17 bytes
pub length-front : (payloads : List (List ℕ)) → length (front payloads) ≡ 17 + length (frames 0 payloads)
length-front payloads = omega (arith, length-front_in Second payloads)

-- each entry takes at most 525 bytes of the journal
front-bound : (ordinal : ℕ) (groups : List (List Entry)) → All IsGroup groups → All IsInRange (joined groups)
    → length (frames ordinal (payloads_of groups)) ≤ 525 * length (joined groups)
front-bound ordinal [] sizes in_range = omega arith
front-bound ordinal (group ∷ groups) sizes in_range =
    let some : IsGroup group = All-head IsGroup group groups sizes in
    let one = spellings-sizes group (All-append_left group (joined groups) in_range) in
    let others = front-bound (ordinal + 1) groups (All-tail IsGroup group groups sizes)
    (All-append_right group (joined groups) in_range) in
    omega (
      arith,
      some,
      one.1,
      others,
      length-append group (joined groups),
      length-append (framed ordinal (spellings group)) (frames (ordinal + 1) (payloads_of groups)),
      length-framed Second ordinal (spellings group),
    )

-- the gate is so far from the end that each group fits
pub gate-bound : (groups : List (List Entry)) (history : List Entry) → joined groups ≡ history → All IsGroup groups
    → IsLegal history → length (front (payloads_of groups)) + 32782 < 2 ^ 42
gate-bound groups history whole sizes legal =
    let few : length (joined groups) ≤ 4097 * 1048576 =
    subst (λ (entries : List Entry). length entries ≤ 4097 * 1048576) (sym whole) (IsLegal-length history legal) in
    let in_range : All IsInRange (joined groups) =
    subst (λ (entries : List Entry). All IsInRange entries) (sym whole) (IsLegal-in_range history legal) in
    omega (arith, few, front-bound 0 groups sizes in_range, length-front (payloads_of groups))

-- each entry of a legal history can follow on those before it
pub follows-at : (history group : List Entry) (index : ℕ) (d : Entry) → index < length group
    → IsLegal (history ++ group)
    → Follows (history ++ take index group) (get_or group index d)
follows-at history group index d within legal =
    let behind : List Entry = drop (index + 1) group in
    let entry : Entry = get_or group index d in
    let split : group ≡ take index group ++ entry ∷ behind =
    sym (take-append-drop index group) ∙ ap (λ (entries : List Entry). take index group ++ entries)
    (drop_more group index d within) in
    IsLegal-follows behind (history ++ take index group) entry
    (subst IsLegal (ap (λ (entries : List Entry). history ++ entries) split
    ∙ sym (append_assoc history (take index group) (entry ∷ behind))) legal)

-- two clauses of a call that succeeded
pub on_ok_both : {T E : Type 0} (result : Result T E) (P Q R : Type 0) → OnOk result P → OnOk result Q → (P → Q → R)
    → OnOk result R
on_ok_both (Ok value) P Q R one other follows = follows one other
on_ok_both (Err error) P Q R one other follows = tt

-- or of one that failed
pub if_err_both : {T E : Type 0} (result : Result T E) (P Q R : E → Type 0) → IfErr result P → IfErr result Q
    → ((error : E) → P error → Q error → R error) → IfErr result R
if_err_both (Ok value) P Q R one other follows = tt
if_err_both (Err error) P Q R one other follows = follows error one other
