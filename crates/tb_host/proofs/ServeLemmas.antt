-- What `serve` does follows from what the room's gates were served by.
use Rattle.std.proofs.Common.{◌≡◌, ℕ, ◌+◌, ◌≤◌, Bool, true, false, Option, Some, None, is_some, List, [], ◌∷◌, ◌++◌, length, ◌⊎◌, inl, inr, refl, sym, subst, ap, ◌∙◌, arith}
use Rattle.std.specs.Prelude.{All, IfSome, Ok, codes}
use Rattle.std.specs.Fmt.{decimal}
use Rattle.std.proofs.lemmas.List.{length-append, length-map}
use Rattle.tb_units.specs.Bytes.{line_feed}
use Rattle.tb_link.specs.Counts.{last_count}
use Rattle.tb_link.specs.Sources.{SourceState}
use Rattle.tb_link.specs.Sinks.{SinkState, Takes, FailsToTake}
use Rattle.tb_disk.specs.Disks.{DiskState}
use Rattle.tb_disk.specs.Past.{Past, contents_of}
use Rattle.tb_gates.specs.Clocks.{ClockState}
use Rattle.tb_gates.specs.Gates.{GateState}
use Rattle.tb_journal.specs.Journal.{Told}
use Rattle.tb_journal.specs.Opening.{IsHarmless, Opens}
use Rattle.tb_journal.proofs.OpeningLemmas.{breaks_opened}
use Rattle.tb_message.specs.declared.message.Entry.{Entry}
use Rattle.tb_history.specs.Legal.{IsLegal}
use Rattle.tb_desk.specs.Desks.{CrashesSince}
use Rattle.tb_desk.specs.Replay.{IsExact}
use Rattle.tb_desk.specs.declared.fault.OpenFault.TheVariants as fault
use Rattle.tb_desk.proofs.GroupLemmas.{IsLegal-in_range}
use Rattle.tb_session.specs.declared.room.Room.{Room}
use Rattle.tb_session.specs.Codes.{Made, fixed_code, spelled_all}
use Rattle.tb_session.specs.Rooms.{house_of}
use Rattle.tb_session.specs.Serve.{Run, AreRuns, IsHistoryOf, calls_of_gates, links_of_gates, some_failed}
use Rattle.tb_commands.specs.DiskRun.{CrashesKeep, HasGrown, Unopened}
use Rattle.tb_host.specs.ServeRun.{Handed, LinksEnd, LinksServed, OneRose, RoomEnds, RoomServed, ServeEnds, ToldEnds, fixed_at, served_text}
use Rattle.tb_host.specs.Headline.{OneHistory, of_calls}
use Rattle.tb_commands.specs.Standings.{Standing, standing}
use Rattle.tb_commands.specs.declared.command_endings.ServeEnding.{ServeEnding}
use Rattle.tb_commands.specs.declared.command_endings.ServeEnding.TheVariants as ending
use Rattle.tb_commands.proofs.DiskLemmas.{CrashesKeep-here, Unopened-here, Unopened-untouched}
use Rattle.tb_host.proofs.HeadlineLemmas.{Headline-here}
use Rattle.tb_host.proofs.OneHistoryLemmas.{Begins-spelled, OneHistory-spelled, once-here}
use Rattle.tb_commands.proofs.WriteLemmas.{Fails-first, Fails-second, Takes-both}

-- a disk tells as much after calls as before
tells-on : (P : Past → Past → Type 0) (old new : DiskState) → Told old new P → is_some new.past ≡ is_some old.past
tells-on P old new told = go old.past refl
  where
    go : (past : Option Past) → old.past ≡ past → is_some new.past ≡ is_some old.past
    go None is = ap is_some (told.silent is ∙ sym is)
    go (Some before) is = (let now = told.told before is in ap is_some now.1 ∙ sym (ap is_some is))

-- what is left of a history by its records
added-length : (first last : List Entry) (later : List (List ℕ))
    → spelled_all last ≡ spelled_all first ++ later
    → length last ≡ length first + length later
added-length first last later grown =
    omega (
      arith,
      ap (λ (l : List (List ℕ)). length l) grown,
      length-append (spelled_all first) later,
      length-map first Rattle.tb_message.specs.Spelling.spelling,
      length-map last Rattle.tb_message.specs.Spelling.spelling,
    )

-- how a desk was opened, and the room that it came into
pub record IsOpenedFrom {D C : Type 0} (disk : D → DiskState) (clock : C → ClockState) (operator : List ℕ)
    (moments : ClockState) (old : DiskState) (room : Room D C) : Type 0 where
  pub exact : IfSome old.past (λ past. IsExact (contents_of past) (Ok room.desk.host.history))
  pub harmless : Told old (disk room.desk.disk) IsHarmless
  pub opens : Told old (disk room.desk.disk) Opens
  pub legal : IsLegal room.desk.host.history
  pub recovered : room.desk.recovered ≡ length room.desk.host.history
  pub sure : room.desk.doubt ≡ []
  pub unmet : room.desk.faults ≡ 0
  pub none : room.desk.doubted ≡ []
  pub no_fault : (disk room.desk.disk).faults ≡ old.faults
  pub same : room.desk.opened ≡ room.desk.disk
  pub operator_is : room.operator ≡ operator
  pub clock_is : clock room.clock ≡ moments

-- The desk was opened, and its disk handed back as it was.
pub Unopened-left : (old mid : DiskState)
    → Told old mid IsHarmless
    → Told old mid Opens
    → mid.faults ≡ old.faults
    → Unopened fault.OutOfMemory old mid
Unopened-left old mid harmless opens no_fault =
    Unopened-here fault.OutOfMemory old mid (Unopened-untouched old).is_true harmless (breaks_opened old mid opens)
    (λ is. absurd (let bad : ⊥ = cc in bad)) (λ other. no_fault)
    (record { never_falls = omega (arith, no_fault); bounded = λ few. omega (arith, no_fault, few) })

module _ {D C G K : Type 0} (disk : D → DiskState) (clock : C → ClockState) (gate : G → GateState K)
    (source : K → SourceState) (sink : K → SinkState) where
  -- the room's fixed part is that of what `serve` was handed
  fixed-is : (operator : List ℕ) (moments : ClockState) (old : DiskState) (room : Room D C)
      → IsOpenedFrom disk clock operator moments old room
      → house_of disk clock room ≡ fixed_at operator old moments
  fixed-is operator moments old room opened =
      let tells : is_some (disk room.desk.opened).past ≡ is_some old.past =
      ap (λ (d : D). is_some (disk d).past) opened.same
      ∙ tells-on IsHarmless old (disk room.desk.disk) opened.harmless in
      let faults : (disk room.desk.opened).faults ≡ old.faults =
      ap (λ (d : D). (disk d).faults) opened.same ∙ opened.no_fault in
      let moment : (clock room.clock).moments ≡ moments.moments = ap (λ (c : ClockState). c.moments) opened.clock_is in
      ap (λ (n : List ℕ). fixed_code n (is_some (disk room.desk.opened).past) (disk room.desk.opened).faults
      (clock room.clock).moments) opened.operator_is
      ∙ (ap (λ (t : Bool). fixed_code operator t (disk room.desk.opened).faults (clock room.clock).moments) tells
      ∙ (ap (λ (n : ℕ). fixed_code operator (is_some old.past) n (clock room.clock).moments) faults
      ∙ ap (λ (m : Option (List ℕ)). fixed_code operator (is_some old.past) old.faults m) moment))

  -- Where the desk was opened and its room's gates were served, links were served.
  pub Serves-room : (operator : List ℕ) (moments : ClockState) (ended : ServeEnding) (old mid new : Handed G)
      (room : Room D C)
      → IsOpenedFrom disk clock operator moments old.disk room
      → mid.disk ≡ disk room.desk.disk
      → mid.gates ≡ old.gates
      → mid.out ≡ old.out
      → RoomServed disk clock gate source sink room ended mid new
      → LinksServed gate source sink operator moments ended old new
  Serves-room operator moments ended old mid new room opened disk_is gates_is out_is done = (
    first,
    last,
    done.all.runs,
    record {
      keeps = record {
        opened = record {
          stood = opened.exact;
          legal = opened.legal;
          sure = opened.sure;
          none = opened.none;
          count = opened.no_fault;
        };
        grown = grown;
        stays = done.stays;
        since = since;
      };
      tells = tells;
      are_runs = subst (λ (olds : List G). AreRuns gate source sink (fixed_at operator old.disk moments) olds new.gates
          done.all.runs) gates_is (subst (λ (f : List ℕ). AreRuns gate source sink f mid.gates new.gates done.all.runs)
          fixed done.all.are_runs);
      headline = Headline-here (fixed_at operator old.disk moments) new.disk first last grown.0
          (calls_of_gates done.all.runs) one done.stays;
      once = once-here (fixed_at operator old.disk moments) first.history last.history (calls_of_gates done.all.runs)
          done.stays.legal one.answered history.once;
      counts = record {
        met = done.after.desk.faults;
        each = λ k d within. ((history.counts k d within).1, (history.counts k d within).2);
        within = subst (λ (n : ℕ). (n + done.after.desk.faults ≤ new.disk.faults) ⊎ (new.disk.faults ≡ last_count))
            faults done.counted;
      };
      apart = done.all.apart;
    },
    (
      done.accepted,
      added-length first.history last.history history.later history.grown
          ∙ ap (λ (n : ℕ). length first.history + n) (sym done.all.accepted_is),
      subst (λ (out : SinkState). LinksEnd ended out new.out done.all.runs done.accepted) out_is told,
    ),
  )
    where
      first : Standing
      first = standing (disk room.desk.disk) room.desk

      last : Standing
      last = standing new.disk done.after.desk

      fixed : house_of disk clock room ≡ fixed_at operator old.disk moments
      fixed = fixed-is operator moments old.disk room opened

      raw : IsHistoryOf (house_of disk clock room) (spelled_all first.history) (spelled_all last.history)
          (spelled_all last.doubt) room.desk.faults done.after.desk.faults (calls_of_gates done.all.runs)
      raw = done.all.history

      history : IsHistoryOf (fixed_at operator old.disk moments) (spelled_all first.history) (spelled_all last.history)
          (spelled_all last.doubt) room.desk.faults done.after.desk.faults (calls_of_gates done.all.runs)
      history = record {
        later = raw.later;
        grown = raw.grown;
        entries = raw.entries;
        doubted = raw.doubted;
        answered = subst (λ (f : List ℕ). All (λ (m : Made). Rattle.tb_session.specs.Codes.IsAnswered f m.history
            m.called m.before m.after m.readings) (calls_of_gates done.all.runs)) fixed raw.answered;
        begins = raw.begins;
        prefixes = raw.prefixes;
        accepted = raw.accepted;
        once = raw.once;
        counts = raw.counts;
      }

      grown : HasGrown first last
      grown = Begins-spelled first.history last.history (IsLegal-in_range first.history opened.legal)
          (IsLegal-in_range last.history done.stays.legal) (history.later, history.grown)

      one : OneHistory (of_calls (fixed_at operator old.disk moments)) first last grown.0
          (calls_of_gates done.all.runs)
      one = OneHistory-spelled (fixed_at operator old.disk moments) first last grown.0 room.desk.faults
          done.after.desk.faults (calls_of_gates done.all.runs) opened.legal done.stays.legal done.stays.accepted
          grown.1 history

      told : LinksEnd ended mid.out new.out done.all.runs done.accepted
      told = subst (λ (b : Bool). ToldEnds b ended mid.out new.out (served_text (links_of_gates done.all.runs)
          done.accepted)) done.all.failed_is
          (subst (λ (n : ℕ). ToldEnds done.failed ended mid.out new.out (served_text n done.accepted))
          done.all.served_is done.ends)

      -- the room that came back was opened on the disk that the opening left
      same : disk done.after.desk.opened ≡ disk room.desk.disk
      same = done.all.same.opened ∙ ap disk opened.same

      tells : is_some new.disk.past ≡ is_some old.disk.past
      tells =
          tells-on _ (disk done.after.desk.opened) new.disk done.since.leaves
          ∙ (ap (λ (d : DiskState). is_some d.past) same
          ∙ tells-on IsHarmless old.disk (disk room.desk.disk) opened.harmless)

      faults : (disk done.after.desk.opened).faults ≡ old.disk.faults
      faults = ap (λ (d : DiskState). d.faults) same ∙ opened.no_fault

      since : CrashesKeep old.disk new.disk first last
      since = CrashesKeep-here old.disk (disk room.desk.disk) new.disk first last done.after.desk.recovered
          done.after.desk.faults (record {
            exact = opened.exact;
            first_count = refl;
            recovers = done.all.same.recovered ∙ opened.recovered;
            harmless = opened.harmless;
            grown = grown;
            final_count = refl;
            since = subst (λ (d : DiskState). CrashesSince d new.disk last.history last.doubt done.after.desk.recovered
                done.after.desk.faults done.after.desk.doubted) same done.since;
            counted = subst (λ (d : DiskState). (d.faults + done.after.desk.faults ≤ new.disk.faults)
                ⊎ (new.disk.faults ≡ last_count)) same done.counted;
          })

  -- where links were served, the command ends so
  ServeEnds-linked : (operator : List ℕ) (moments : ClockState) (ended : ServeEnding) (old new : Handed G)
      → LinksServed gate source sink operator moments ended old new
      → ServeEnds gate source sink operator moments ended old new
  ServeEnds-linked operator moments ending.Done old new served = served
  ServeEnds-linked operator moments ending.WriteFault old new served = served
  ServeEnds-linked operator moments ending.GateFault old new served = served
  ServeEnds-linked operator moments (ending.Unserved why) old new served = absurd served.4.2

  -- Where the desk was opened, the command ends as its room does.
  pub ServeEnds-room : (operator : List ℕ) (moments : ClockState) (ended : ServeEnding) (old mid new : Handed G)
      (room : Room D C)
      → IsOpenedFrom disk clock operator moments old.disk room
      → mid.disk ≡ disk room.desk.disk
      → mid.gates ≡ old.gates
      → mid.out ≡ old.out
      → RoomEnds disk clock gate source sink room ended mid new
      → ServeEnds gate source sink operator moments ended old new
  ServeEnds-room operator moments ended old mid new room opened disk_is gates_is out_is (inl done) =
      ServeEnds-linked operator moments ended old new
      (Serves-room operator moments ended old mid new room opened disk_is gates_is out_is done)
  ServeEnds-room operator moments ended old mid new room opened disk_is gates_is out_is (inr (ended_is, same)) =
      subst (λ (e : ServeEnding). ServeEnds gate source sink operator moments e old new) (sym ended_is) (record {
        unopened = subst (λ (d : DiskState). Unopened fault.OutOfMemory old.disk d)
            (sym (ap (λ (h : Handed G). h.disk) same ∙ disk_is))
            (Unopened-left old.disk (disk room.desk.disk) opened.harmless opened.opens opened.no_fault);
        untaken = ap (λ (h : Handed G). h.gates) same ∙ gates_is;
        silent = ap (λ (h : Handed G). h.out) same ∙ out_is;
      })

module _ {G K : Type 0} (gate : G → GateState K) (source : K → SourceState) (sink : K → SinkState) where
  -- where a gate failed, the count of faults of one of them has risen
  pub OneRose-runs : (fixed : List ℕ) (olds news : List G) (runs : List (Run K))
      → AreRuns gate source sink fixed olds news runs
      → some_failed runs ≡ true
      → OneRose gate olds news
  OneRose-runs fixed [] [] [] are failed = absurd (let bad : ⊥ = cc in bad)
  OneRose-runs fixed (old ∷ olds) (new ∷ news) (run ∷ runs) are failed =
      which run.failed refl (λ later. OneRose-runs fixed olds news runs are.1 later)
    where
      which : (b : Bool) → run.failed ≡ b → (some_failed runs ≡ true → OneRose gate olds news)
          → OneRose gate (old ∷ olds) (new ∷ news)
      which true is others = inl (are.0.fault is)
      which false is others =
          let later : some_failed (run ∷ runs) ≡ some_failed runs = rw is refl in
          inr (others (sym later ∙ failed))
  OneRose-runs fixed [] (new ∷ news) runs are failed = absurd are
  OneRose-runs fixed [] [] (run ∷ runs) are failed = absurd are
  OneRose-runs fixed (old ∷ olds) [] runs are failed = absurd are
  OneRose-runs fixed (old ∷ olds) (new ∷ news) [] are failed = absurd are

-- ---- the lines that are printed

-- the first line failed
pub told-first : (failed : Bool) (served accepted : ℕ) (old new : SinkState)
    → failed ≡ false
    → FailsToTake old new (codes "served " ++ decimal served ++ line_feed ∷ [])
    → ToldEnds failed ending.WriteFault old new (served_text served accepted)
told-first failed served accepted old new none fails = (
  none,
  Fails-first old new (codes "served " ++ decimal served ++ line_feed ∷ [])
      (codes "accepted " ++ decimal accepted ++ line_feed ∷ []) fails,
)

-- the second did
pub told-second : (failed : Bool) (served accepted : ℕ) (old mid new : SinkState)
    → failed ≡ false
    → Takes old mid (codes "served " ++ decimal served ++ line_feed ∷ [])
    → FailsToTake mid new (codes "accepted " ++ decimal accepted ++ line_feed ∷ [])
    → ToldEnds failed ending.WriteFault old new (served_text served accepted)
told-second failed served accepted old mid new none takes fails = (
  none,
  Fails-second old mid new (codes "served " ++ decimal served ++ line_feed ∷ [])
      (codes "accepted " ++ decimal accepted ++ line_feed ∷ []) takes fails,
)

-- both lines were written
pub told-both : (failed : Bool) (served accepted : ℕ) (old mid new : SinkState)
    → failed ≡ false
    → Takes old mid (codes "served " ++ decimal served ++ line_feed ∷ [])
    → Takes mid new (codes "accepted " ++ decimal accepted ++ line_feed ∷ [])
    → ToldEnds failed ending.Done old new (served_text served accepted)
told-both failed served accepted old mid new none takes then = (
  none,
  Takes-both old mid new (codes "served " ++ decimal served ++ line_feed ∷ [])
      (codes "accepted " ++ decimal accepted ++ line_feed ∷ []) takes then,
)
