-- What replaying finds, entry by entry and payload by payload.
use Rattle.std.proofs.Common.{◌≡◌, ◌≢◌, ◌⊎◌, inl, inr, ℕ, ◌+◌, ◌<◌, ◌≤◌, List, [], ◌∷◌, ◌++◌, length, take, drop, get_or, refl, sym, ◌∙◌, ap, subst, arith, append_assoc, length-append}
use Rattle.std.specs.Prelude.{IfSome, Option, Some, None}
use Rattle.std.specs.List.{All}
use Rattle.std.proofs.lemmas.Bool.{cases_lt}
use Rattle.std.proofs.lemmas.List.{flat_map_more, take_more, take_all, length_push, append-nil}
use Rattle.std.proofs.lemmas.List.Elements.{All-head, All-tail}
use Rattle.tb_disk.specs.Past.{Past, contents_of}
use Rattle.tb_disk.specs.Disks.{DiskState}
use Rattle.tb_message.specs.declared.message.Entry.{Entry}
use Rattle.tb_message.specs.declared.version.Version.{Version}
use Rattle.tb_message.specs.Spelling.{spelling_in, spellings_in, IsInRange, IsTakenIn}
use Rattle.tb_message.proofs.RecordLaws.{spelling_in-begins, spelling_in-sizes}
use Rattle.tb_history.specs.Legal.{IsLegal, Empty, Longer, Follows}
use Rattle.tb_history.proofs.HistoryLemmas.{IsLegal-follows}
use Rattle.tb_journal.specs.declared.form.Form.TheVariants.{Second}
use Rattle.tb_journal.specs.Frames.{first_place, front_in}
use Rattle.tb_journal.specs.Journal.{Holds}
use Rattle.tb_journal.specs.Places.{GivesFrameIn, ReadsTo, StandsBetweenIn}
use Rattle.tb_journal.proofs.FrameLemmas.{front-shorter}
use Rattle.tb_journal.proofs.Gates.{IsFramedIn-stands}
use Rattle.tb_desk.specs.Stands.{joined, form_of, payloads_in, IsGroup}
use Rattle.tb_desk.specs.Replay.{IsNoGroupIn, IsBadPayloadIn}
use Rattle.tb_desk.specs.Replaying.{IsReplayedIn}
use Rattle.tb_desk.proofs.GroupLemmas.{joined-push, payloads_in-push, sizes-push, front_in-push, IsLegal-in_range, All-append_right, spellings_in-sizes, length-front_in}
use Rattle.tb_journal.proofs.ToldLemmas.{known_of, known_both}

-- the payload up to here is a group that was entered
pub record IsEntered (version : Version) (old now : List Entry) (payload rest : List ℕ) : Type 0 where
  pub group : List Entry
  pub is : payload ≡ spellings_in version group ++ rest
  pub history : now ≡ old ++ group
  pub legal : IsLegal now
  -- bytes are left, but where nothing was read yet
  pub fresh : (1 ≤ length rest) ⊎ (group ≡ [])

-- the groups up to a place
pub record IsReplayedTo (version : Version) (disk : DiskState) (gate place : ℕ) (history : List Entry) : Type 0 where
  pub groups : List (List Entry)
  pub whole : joined groups ≡ history
  pub sizes : All IsGroup groups
  pub at : place ≡ length (front_in (form_of version) (payloads_in version groups))
  pub legal : IsLegal history
  pub told : IfSome disk.past (λ past. (payloads : List (List ℕ))
      → ReadsTo (form_of version) payloads gate (contents_of past)
      → (payloads_in version groups ≡ take (length groups) payloads) × (length groups ≤ length payloads))

-- a journal that holds payloads reads to its gate
pub holds_reads : (payloads : List (List ℕ)) (gate : ℕ) (past : Past) → Holds payloads gate past
    → ReadsTo Second payloads gate (contents_of past)
holds_reads payloads gate past holds = record {
  place = holds.place;
  stands = IsFramedIn-stands Second payloads (contents_of past) holds.file;
}

module _ (version : Version) where
  -- where the bytes of a list of records begin with some records, the list goes on behind these
  pub spellings-split : (group others : List Entry) (rest : List ℕ) → All IsInRange group → All IsInRange others
      → spellings_in version group ++ rest ≡ spellings_in version others
      → (more : List Entry) × (others ≡ group ++ more) × (rest ≡ spellings_in version more)
  spellings-split [] others rest in_range also same = (others, refl, same)
  spellings-split (entry ∷ entries) [] rest in_range also same =
      absurd (omega (
        arith,
        ap length same,
        length-append (spelling_in version entry ++ spellings_in version entries) rest,
        length-append (spelling_in version entry) (spellings_in version entries),
        (spelling_in-sizes version entry (All-head IsInRange entry entries in_range)).0,
      ))
  spellings-split (entry ∷ entries) (other ∷ others) rest in_range also same =
      let begins =
      spelling_in-begins version entry other (spellings_in version entries ++ rest) (spellings_in version others)
      (All-head IsInRange entry entries in_range) (All-head IsInRange other others also)
      (sym (append_assoc (spelling_in version entry) (spellings_in version entries) rest) ∙ same) in
      let more = spellings-split entries others rest (All-tail IsInRange entry entries in_range)
      (All-tail IsInRange other others also) begins.1 in
      let first : entry ≡ other = begins.0 in
      let whole : others ≡ entries ++ more.0 = more.1 in (
        more.0,
        ap (λ (e : Entry). e ∷ others) (sym first) ∙ ap (λ (es : List Entry). entry ∷ es) whole,
        more.2,
      )

  -- no entry was entered yet
  pub entered_none : (old : List Entry) (payload : List ℕ) → IsLegal old → IsEntered version old old payload payload
  entered_none old payload legal = record {
    group = [];
    is = refl;
    history = sym (append-nil old);
    legal = legal;
    fresh = inr refl;
  }

  -- the entries of the group are in range
  in_range-group : (old now : List Entry) (group : List Entry) → now ≡ old ++ group → IsLegal now → All IsInRange group
  in_range-group old now group is legal =
      All-append_right old group (subst (λ (entries : List Entry). All IsInRange entries) is
      (IsLegal-in_range now legal))

  -- what a group of the payload has behind the entries that were entered
  goes_on : (old now : List Entry) (payload rest : List ℕ) (entered : IsEntered version old now payload rest)
      (other : List Entry)
      → payload ≡ spellings_in version other → IsLegal (old ++ other)
      → (more : List Entry) × (other ≡ entered.group ++ more) × (rest ≡ spellings_in version more)
  goes_on old now payload rest entered other is legal =
      spellings-split entered.group other rest (in_range-group old now entered.group entered.history entered.legal)
      (in_range-group old (old ++ other) other refl legal) (sym entered.is ∙ is)

  -- no record begins the rest: the payload is no group
  pub no_record : (old now : List Entry) (payload rest : List ℕ) (entered : IsEntered version old now payload rest)
      → ((entry : Entry) → IsInRange entry → (behind : List ℕ) → rest ≢ spelling_in version entry ++ behind)
      → IsNoGroupIn version old payload
  no_record old now payload rest entered none = λ other some is legal.
      (let more = goes_on old now payload rest entered other is legal in
      at_end more.0 some more.1 more.2
      (in_range-group old (old ++ other) other refl legal))
    where
      at_end : (more : List Entry) {other : List Entry} → IsGroup other → other ≡ entered.group ++ more
          → rest ≡ spellings_in version more
          → All IsInRange other → ⊥
      at_end [] some whole left in_range = elim entered.fresh [
        | inl bytes ↦ omega (arith, bytes, ap length left)
        | inr empty ↦ omega (arith, some, ap length whole, length-append entered.group [], ap length empty)
      ]
      at_end (entry ∷ more) some whole left in_range =
          none entry
          (All-head IsInRange entry more (All-append_right entered.group (entry ∷ more)
          (subst (λ (entries : List Entry). All IsInRange entries) whole in_range)))
          (spellings_in version more) left

  -- the next record's entry can't follow: the payload is no group
  pub bad_next : (old now : List Entry) (payload rest : List ℕ) (entered : IsEntered version old now payload rest)
      (entry : Entry)
      (size : ℕ) → IsTakenIn version rest entry size → ¬ (Follows now entry) → IsNoGroupIn version old payload
  bad_next old now payload rest entered entry size taken not_next = λ other some is legal.
      (let more = goes_on old now payload rest entered other is legal in
      at_next more.0 more.1 more.2 legal)
    where
      at_next : (more : List Entry) {other : List Entry} → other ≡ entered.group ++ more
          → rest ≡ spellings_in version more
          → IsLegal (old ++ other) → ⊥
      at_next [] whole left legal =
          omega (
            arith,
            ap length (sym left ∙ taken.begins),
            length-append (spelling_in version entry) (drop size rest),
            (spelling_in-sizes version entry taken.in_range).0,
          )
      at_next (next ∷ more) {other} whole left legal =
          let grown : IsLegal (old ++ (entered.group ++ next ∷ more)) =
          subst (λ (entries : List Entry). IsLegal (old ++ entries)) whole legal in
          let behind : IsLegal ((old ++ entered.group) ++ next ∷ more) =
          subst IsLegal (sym (append_assoc old entered.group (next ∷ more))) grown in
          let follows : Follows (old ++ entered.group) next = IsLegal-follows more (old ++ entered.group) next behind in
          let same =
          (spelling_in-begins version entry next (drop size rest) (spellings_in version more) taken.in_range
          follows.in_range (sym taken.begins ∙ left)).0 in
          not_next (subst (λ (history : List Entry). Follows history entry) (sym entered.history)
          (subst (λ (e : Entry). Follows (old ++ entered.group) e) (sym same) follows))

  -- one entry more
  pub entered_more : (old now after : List Entry) (payload rest : List ℕ)
      (entered : IsEntered version old now payload rest)
      (entry : Entry)
      (size : ℕ) → IsTakenIn version rest entry size → Follows now entry → after ≡ now ++ entry ∷ []
      → (payload ≡ spellings_in version (entered.group ++ entry ∷ []) ++ drop size rest)
      × (after ≡ old ++ (entered.group ++ entry ∷ []))
      × IsLegal after
  entered_more old now after payload rest entered entry size taken follows is =
      let group : List Entry = entered.group in
      let spelled : spellings_in version (group ++ entry ∷ [])
      ≡ spellings_in version group ++ spelling_in version entry =
      sym (flat_map_more (spelling_in version) [] group entry) in (
        entered.is
            ∙ (ap (λ (bytes : List ℕ). spellings_in version group ++ bytes) taken.begins
            ∙ (sym (append_assoc (spellings_in version group) (spelling_in version entry) (drop size rest))
            ∙ ap (λ (bytes : List ℕ). bytes ++ drop size rest) (sym spelled))),
        is ∙ (ap (λ (history : List Entry). history ++ entry ∷ []) entered.history
            ∙ append_assoc old group (entry ∷ [])),
        subst IsLegal (sym is) (Longer now entry entered.legal follows),
      )

  -- and bytes are left
  pub entered_on : (old now after : List Entry) (payload rest : List ℕ)
      (entered : IsEntered version old now payload rest)
      (entry : Entry)
      (size : ℕ) → IsTakenIn version rest entry size → Follows now entry → after ≡ now ++ entry ∷ []
      → 1 ≤ length (drop size rest) → IsEntered version old after payload (drop size rest)
  entered_on old now after payload rest entered entry size taken follows is some =
      let more = entered_more old now after payload rest entered entry size taken follows is in
      record {
        group = entered.group ++ entry ∷ [];
        is = more.0;
        history = more.1;
        legal = more.2;
        fresh = inl some;
      }

  -- or the payload is whole
  pub entered_all : (old now after : List Entry) (payload rest : List ℕ)
      (entered : IsEntered version old now payload rest)
      (entry : Entry)
      (size : ℕ) → IsTakenIn version rest entry size → Follows now entry → after ≡ now ++ entry ∷ []
      → drop size rest ≡ []
      → (group : List Entry) × IsGroup group × (payload ≡ spellings_in version group) × (after ≡ old ++ group)
  entered_all old now after payload rest entered entry size taken follows is none =
      let more = entered_more old now after payload rest entered entry size taken follows is in
      let group : List Entry = entered.group ++ entry ∷ [] in (
        group,
        omega (arith, length_push entered.group entry),
        more.0 ∙ (ap (λ (bytes : List ℕ). spellings_in version group ++ bytes) none
            ∙ append-nil (spellings_in version group)),
        more.1,
      )

  -- nothing was replayed yet
  pub replayed_none : (disk : DiskState) (gate : ℕ) (history : List Entry) → history ≡ []
      → IsReplayedTo version disk gate (first_place (form_of version)) history
  replayed_none disk gate history none = record {
    groups = [];
    whole = sym none;
    sizes = λ place d within. absurd (omega (arith, within));
    at = omega (arith, length-front_in (form_of version) []);
    legal = subst IsLegal (sym none) Empty;
    told = always disk.past;
  }
    where
      always : (past : Option Past)
          → IfSome past (λ past. (payloads : List (List ℕ)) → ReadsTo (form_of version) payloads gate (contents_of past)
          → ([] ≡ take 0 payloads) × (0 ≤ length payloads))
      always None = tt
      always (Some past) = λ payloads holds. (refl, omega arith)

  module _ (disk : DiskState) (gate place next : ℕ) (payload : List ℕ) (history : List Entry)
      (so_far : IsReplayedTo version disk gate place history)
      (gives : IfSome disk.past (GivesFrameIn (form_of version) gate place payload next)) where
    -- what the frame says of the payloads
    given : (past : Past) (payloads : List (List ℕ)) → ReadsTo (form_of version) payloads gate (contents_of past)
        → (payloads_in version so_far.groups ≡ take (length so_far.groups) payloads)
        × (length so_far.groups ≤ length payloads)
        → GivesFrameIn (form_of version) gate place payload next past
        → (length so_far.groups < length payloads)
        × (payload ≡ get_or payloads (length so_far.groups) [])
        × (next ≡ length (front_in (form_of version) (take (length so_far.groups + 1) payloads)))
    given past payloads holds known frame =
        frame payloads (length so_far.groups) holds known.1
        (ap (λ (ps : List (List ℕ)). length (front_in (form_of version) ps)) (sym known.0) ∙ sym so_far.at)

    -- one group more
    pub replayed_more : (after group : List Entry)
        → StandsBetweenIn (form_of version) gate place (length payload) next
        → IsGroup group
        → payload ≡ spellings_in version group
        → after ≡ history ++ group
        → IsLegal after
        → IsReplayedTo version disk gate next after
    replayed_more after group between some spells is legal =
        let groups : List (List Entry) = so_far.groups ++ group ∷ [] in
        let in_range : All IsInRange group = in_range-group history after group is legal in
        let few : length payload ≡ length (spellings_in version group) = ap length spells in
        record {
          groups = groups;
          whole = joined-push so_far.groups group ∙ (ap (λ (entries : List Entry). entries ++ group) so_far.whole
              ∙ sym is);
          sizes = sizes-push so_far.groups group so_far.sizes some;
          at = elim between [
            | inl frame ↦ omega (arith, frame.2, few, so_far.at, front_in-push version so_far.groups group)
            | inr none ↦ absurd (omega (arith, none.0, few, (spellings_in-sizes version group in_range).0, some))
          ];
          legal = legal;
          told = known_both
              (λ past. (payloads : List (List ℕ)) → ReadsTo (form_of version) payloads gate (contents_of past)
              → (payloads_in version so_far.groups ≡ take (length so_far.groups) payloads)
              × (length so_far.groups ≤ length payloads))
              (GivesFrameIn (form_of version) gate place payload next)
              (λ past. (payloads : List (List ℕ)) → ReadsTo (form_of version) payloads gate (contents_of past)
              → (payloads_in version groups ≡ take (length groups) payloads) × (length groups ≤ length payloads))
              disk.past (λ past known frame payloads holds.
              (let found = given past payloads holds (known payloads holds) frame in
              let count : ℕ = length so_far.groups in
              let one_more : length groups ≡ count + 1 = length_push so_far.groups group in (
                payloads_in-push version so_far.groups group
                    ∙ (ap (λ (ps : List (List ℕ)). ps ++ spellings_in version group ∷ []) (known payloads holds).0
                    ∙ (ap (λ (p : List ℕ). take count payloads ++ p ∷ []) (sym spells ∙ found.1)
                    ∙ (sym (take_more payloads count [] found.0)
                    ∙ ap (λ (n : ℕ). take n payloads) (sym one_more)))),
                omega (arith, one_more, found.0),
              ))) so_far.told gives;
        }

    -- the payload here is no group that can follow
    pub replayed_bad : IsNoGroupIn version history payload
        → IfSome disk.past (λ past. (payloads : List (List ℕ))
        → ReadsTo (form_of version) payloads gate (contents_of past) → IsBadPayloadIn version payloads place)
    replayed_bad bad =
        known_both
        (λ past. (payloads : List (List ℕ)) → ReadsTo (form_of version) payloads gate (contents_of past)
        → (payloads_in version so_far.groups ≡ take (length so_far.groups) payloads)
        × (length so_far.groups ≤ length payloads))
        (GivesFrameIn (form_of version) gate place payload next)
        (λ past. (payloads : List (List ℕ)) → ReadsTo (form_of version) payloads gate (contents_of past)
        → IsBadPayloadIn version payloads place) disk.past
        (λ past known frame payloads holds.
        (let found = given past payloads holds (known payloads holds) frame in
        record {
          groups = so_far.groups;
          legal = subst IsLegal (sym so_far.whole) so_far.legal;
          within = found.0;
          before = (known payloads holds).0;
          bad =
              subst (λ (entries : List Entry). IsNoGroupIn version entries (get_or payloads (length so_far.groups) []))
              (sym so_far.whole)
              (subst (λ (one : List ℕ). IsNoGroupIn version history one) found.1 bad);
          at = so_far.at;
        })) so_far.told gives

  -- the gate is reached: the groups are all payloads
  pub replayed_all : (disk : DiskState) (gate place : ℕ) (history : List Entry)
      → IsReplayedTo version disk gate place history
      → place ≡ gate → IsReplayedIn version disk gate history
  replayed_all disk gate place history so_far end_ = record {
    groups = so_far.groups;
    whole = so_far.whole;
    sizes = so_far.sizes;
    place = sym end_ ∙ so_far.at;
    legal = so_far.legal;
    told = known_of
        (λ past. (payloads : List (List ℕ)) → ReadsTo (form_of version) payloads gate (contents_of past)
        → (payloads_in version so_far.groups ≡ take (length so_far.groups) payloads)
        × (length so_far.groups ≤ length payloads))
        (λ past. (payloads : List (List ℕ)) → ReadsTo (form_of version) payloads gate (contents_of past)
        → payloads_in version so_far.groups ≡ payloads) disk.past
        (λ past known payloads holds.
        (let count : ℕ = length so_far.groups in
        let same = (known payloads holds).0 in
        elim (cases_lt count (length payloads)) [
          | inl less ↦ absurd (omega (
            arith,
            front-shorter (form_of version) payloads count less,
            ap (λ (ps : List (List ℕ)). length (front_in (form_of version) ps)) same,
            so_far.at,
            end_,
            holds.place,
          ))
          | inr all ↦ same ∙ take_all count payloads all
        ])) so_far.told;
  }
