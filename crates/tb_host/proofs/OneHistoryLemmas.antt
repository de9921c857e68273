-- The records of one history are those of its entries: what is said of records is so of entries.
use Rattle.std.proofs.Common.{◌≡◌, ℕ, ◌+◌, ◌<◌, ◌≤◌, List, [], ◌∷◌, ◌++◌, length, get_or, refl, sym, subst, ap, ◌∙◌, inl, inr, ⊎_elim, arith}
use Rattle.std.specs.Prelude.{All, AllPairs, Any}
use Rattle.std.proofs.lemmas.Bool.{cases_lt}
use Rattle.std.proofs.lemmas.List.{get_or-append-add, get_or_append_left, get_or_default, length-append, map-append}
use Rattle.std.proofs.lemmas.List.Elements.{All-head, All-tail, All-cons, All-push}
use Rattle.tb_message.specs.declared.message.Entry.{Entry}
use Rattle.tb_message.specs.Spelling.{spelling, IsInRange}
use Rattle.tb_message.proofs.RecordLaws.{spelling-one}
use Rattle.tb_history.specs.Legal.{IsLegal, IsOther}
use Rattle.tb_history.proofs.HistoryLemmas.{IsLegal-ordered}
use Rattle.tb_history.proofs.SameLemmas.{is_same-refl, is_same-sym}
use Rattle.tb_lock.specs.Meanings.{History, IsPrefix}
use Rattle.tb_desk.proofs.GroupLemmas.{All-append_right, IsLegal-in_range}
use Rattle.tb_session.specs.declared.called.Outcome.TheVariants as outcome
use Rattle.tb_session.specs.Codes.{Made, IsAnswered, HasRange, spelled_all}
use Rattle.tb_session.specs.Serve.{AreApart, IsHistoryOf, MayHaveMade}
use Rattle.tb_host.specs.Headline.{AddOthers, Begins, IsAnsweredIn, MayHaveAdded, MayHaveDoubted, OneHistory, of_calls}
use Rattle.tb_commands.specs.Standings.{Standing}

-- a list whose records begin those of another begins it
pub Begins-spelled : (front whole : List Entry)
    → All IsInRange front
    → All IsInRange whole
    → IsPrefix (spelled_all front) (spelled_all whole)
    → Begins front whole
Begins-spelled [] whole a b is = (whole, refl)
Begins-spelled (x ∷ xs) [] a b is =
    let more : History = is.0 in
    let same : [] ≡ spelled_all (x ∷ xs) ++ more = is.1 in
    absurd (let bad : ⊥ = cc in bad)
Begins-spelled (x ∷ xs) (y ∷ ys) a b is =
    let more : History = is.0 in
    let same : spelling y ∷ spelled_all ys ≡ spelling x ∷ (spelled_all xs ++ more) = is.1 in
    let heads : spelling x ≡ spelling y = cc in
    let rest : spelled_all ys ≡ spelled_all xs ++ more = cc in
    let one : x ≡ y = spelling-one x y (All-head IsInRange x xs a) (All-head IsInRange y ys b) heads in
    let later = Begins-spelled xs ys (All-tail IsInRange x xs a) (All-tail IsInRange y ys b) (more, rest) in
    (later.0, let tail : ys ≡ xs ++ later.0 = later.1 in cc)

-- what stands behind one front has these records
rest-spelled : (front more : List Entry) (later : History)
    → spelled_all (front ++ more) ≡ spelled_all front ++ later
    → spelled_all more ≡ later
rest-spelled [] more later is = is
rest-spelled (x ∷ xs) more later is =
    let rest : spelled_all (xs ++ more) ≡ spelled_all xs ++ later = cc in
    rest-spelled xs more later rest

-- an entry in range that the call may have made by its record, it may have added
added-by : (e : Entry) (m : Made)
    → IsInRange e
    → HasRange m.called.outcome
    → MayHaveMade (spelling e) m
    → MayHaveAdded e m
added-by e m in_range range (f, inl is, same) =
    let in_f : IsInRange f = subst HasRange is range in
    inl (is ∙ ap outcome.Added (spelling-one f e in_f in_range same))
added-by e m in_range range (f, inr is, same) =
    let in_f : IsInRange f = subst HasRange is range in
    inr (is ∙ ap outcome.Doubted (spelling-one f e in_f in_range same))

-- some call that may have made it
some-added : (e : Entry) (calls : List Made)
    → IsInRange e
    → All (λ m. HasRange m.called.outcome) calls
    → Any (MayHaveMade (spelling e)) calls
    → Any (MayHaveAdded e) calls
some-added e calls in_range ranges some =
    let range : HasRange some.1.called.outcome =
    subst (λ (m : Made). HasRange m.called.outcome) some.3 (ranges some.0 some.1 some.2) in
    (some.0, some.1, some.2, some.3, added-by e some.1 in_range range some.4)

-- so of each entry of a list
each-added : (entries : List Entry) (records : History) (calls : List Made)
    → spelled_all entries ≡ records
    → All IsInRange entries
    → All (λ m. HasRange m.called.outcome) calls
    → All (λ entry. Any (MayHaveMade entry) calls) records
    → All (λ e. Any (MayHaveAdded e) calls) entries
each-added [] records calls is in_range ranges made = λ k d within. absurd (omega (arith, within))
each-added (e ∷ es) [] calls is in_range ranges made = absurd (let bad : ⊥ = cc in bad)
each-added (e ∷ es) (r ∷ rs) calls is in_range ranges made =
    let head : spelling e ≡ r = cc in
    let tail : spelled_all es ≡ rs = cc in
    let one : Any (MayHaveMade (spelling e)) calls =
    subst (λ (entry : List ℕ). Any (MayHaveMade entry) calls) (sym head)
    (All-head (λ (entry : List ℕ). Any (MayHaveMade entry) calls) r rs made) in
    All-cons (λ x. Any (MayHaveAdded x) calls) e es
    (some-added e calls (All-head IsInRange e es in_range) ranges one)
    (each-added es rs calls tail (All-tail IsInRange e es in_range) ranges
    (All-tail (λ (entry : List ℕ). Any (MayHaveMade entry) calls) r rs made))

-- the call's place in the one history
answered-in : (fixed : List ℕ) (first last : List Entry) (m : Made)
    → IsLegal first
    → IsLegal last
    → IsAnswered fixed m.history m.called m.before m.after m.readings
    → IsPrefix (spelled_all first) (spelled_all m.history)
    → IsPrefix (spelled_all m.history) (spelled_all last)
    → ((e : Entry) → m.called.outcome ≡ outcome.Added e
    → IsPrefix (spelled_all m.history ++ spelling e ∷ []) (spelled_all last))
    → IsAnsweredIn fixed first last m
answered-in fixed first last m legal legal' answered opens begins accepted =
    let here = IsLegal-in_range m.history answered.legal in
    let all = IsLegal-in_range last legal' in
    record {
      answered = answered;
      has_first = Begins-spelled first m.history (IsLegal-in_range first legal) here opens;
      begins = Begins-spelled m.history last here all begins;
      accepted = λ e is.
          let range : IsInRange e = subst HasRange is answered.in_range in
          Begins-spelled (m.history ++ e ∷ []) last (All-push IsInRange m.history e here range) all
          (subst (λ (l : History). IsPrefix l (spelled_all last)) (sym (map-append spelling m.history (e ∷ [])))
          (accepted e is));
    }

-- an entry right behind a beginning stands at the place of that length
placed : (front whole : List Entry) (e d : Entry)
    → Begins (front ++ e ∷ []) whole
    → (length front < length whole) × (get_or whole (length front) d ≡ e)
placed [] whole e d begins = (
  omega (arith, ap (λ (l : List Entry). length l) begins.1),
  ap (λ (l : List Entry). get_or l 0 d) begins.1,
)
placed (x ∷ front) [] e d begins =
    let more : List Entry = begins.0 in
    let is : [] ≡ x ∷ ((front ++ e ∷ []) ++ more) = begins.1 in
    absurd (let bad : ⊥ = cc in bad)
placed (x ∷ front) (y ∷ whole) e d begins =
    let more : List Entry = begins.0 in
    let is : y ∷ whole ≡ x ∷ ((front ++ e ∷ []) ++ more) = begins.1 in
    let tail : whole ≡ (front ++ e ∷ []) ++ more = cc in
    let there = placed front whole e d (more, tail) in
    let within = there.0 in
    (omega arith, there.1)

-- accepted on histories of different lengths, two calls have entries at different places of the one history
others : (fixed : List ℕ) (first last : List Entry) (m n : Made)
    → IsLegal last
    → IsAnsweredIn fixed first last m
    → IsAnsweredIn fixed first last n
    → AreApart m n
    → AddOthers m n
others fixed first last m n legal here there apart e f adds_e adds_f =
    let one = placed m.history last e e (here.accepted e adds_e) in
    let other = placed n.history last f e (there.accepted f adds_f) in
    let numbers = (IsLegal-ordered last legal).numbers in
    let different = apart e f adds_e adds_f in
    ⊎_elim
    (λ (earlier : length m.history < length n.history).
    subst (λ (y : Entry × Entry). IsOther y.0 y.1) (λ i. (one.1 i, other.1 i))
    (numbers (length m.history) (length n.history) e earlier other.0))
    (λ (at_least : length n.history ≤ length m.history).
    let later : length n.history < length m.history = omega arith in
    let flipped = subst (λ (y : Entry × Entry). IsOther y.0 y.1) (λ i. (other.1 i, one.1 i))
    (numbers (length n.history) (length m.history) e later one.0) in
    λ same. flipped (is_same-sym e.submitter f.submitter same.0, sym same.1))
    (cases_lt (length m.history) (length n.history))

-- an entry in doubt stands behind the history, where no call was told that it was accepted
not-accepted : (fixed : List ℕ) (first last doubt : List Entry) (m : Made) (e : Entry) (k : ℕ)
    → IsLegal (last ++ doubt)
    → IsAnsweredIn fixed first last m
    → k < length doubt
    → get_or doubt k e ≡ e
    → ¬ (m.called.outcome ≡ outcome.Added e)
not-accepted fixed first last doubt m e k accepted answered within is adds =
    let there = placed m.history last e e (answered.accepted e adds) in
    let whole : List Entry = last ++ doubt in
    let early : get_or whole (length m.history) e ≡ e =
    get_or_append_left last doubt e (length m.history) there.0 ∙ there.1 in
    let late : get_or whole (length last + k) e ≡ e = get_or-append-add last doubt k e ∙ is in
    let apart = (IsLegal-ordered whole accepted).numbers (length m.history) (length last + k) e
    (omega (arith, there.0)) (omega (arith, within, length-append last doubt)) in
    let other : IsOther e e = subst (λ (y : Entry × Entry). IsOther y.0 y.1) (λ i. (early i, late i)) apart in
    other (is_same-refl e.submitter, refl)

-- so what is in doubt is of calls that met a fault
doubted-by : (fixed : List ℕ) (first last doubt : List Entry) (calls : List Made)
    → IsLegal (last ++ doubt)
    → All (IsAnsweredIn fixed first last) calls
    → All (λ e. Any (MayHaveAdded e) calls) doubt
    → All (λ e. Any (MayHaveDoubted e) calls) doubt
doubted-by fixed first last doubt calls accepted answered made k d within =
    let e : Entry = get_or doubt k d in
    let some = made k d within in
    let here : IsAnsweredIn fixed first last some.1 =
    subst (IsAnsweredIn fixed first last) some.3 (answered some.0 some.1 some.2) in (
      some.0,
      some.1,
      some.2,
      some.3,
      elim some.4 [
        | inl adds ↦ absurd (not-accepted fixed first last doubt some.1 e k accepted here within
            (get_or_default doubt k e d within) adds)
        | inr doubts ↦ doubts
      ],
    )

-- The one history of records is one of entries.
pub OneHistory-spelled : (fixed : List ℕ) (first last : Standing) (more : List Entry) (low high : ℕ) (calls : List Made)
    → IsLegal first.history
    → IsLegal last.history
    → IsLegal (last.history ++ last.doubt)
    → last.history ≡ first.history ++ more
    → IsHistoryOf fixed (spelled_all first.history) (spelled_all last.history) (spelled_all last.doubt) low high calls
    → OneHistory (of_calls fixed) first last more calls
OneHistory-spelled fixed first last more low high calls legal legal' accepted grown one =
    let ranges : All (λ m. HasRange m.called.outcome) calls = λ k d within. (one.answered k d within).in_range in
    let records : spelled_all more ≡ one.later =
    rest-spelled first.history more one.later (ap spelled_all (sym grown) ∙ one.grown) in
    let whole = IsLegal-in_range last.history legal' in
    let with_doubt = IsLegal-in_range (last.history ++ last.doubt) accepted in
    let answered : All (IsAnsweredIn fixed first.history last.history) calls =
    λ k d within. answered-in fixed first.history last.history (get_or calls k d) legal legal' (one.answered k d within)
    (one.begins k d within) (one.prefixes k d within) (one.accepted k d within) in
    record {
      legal = legal';
      answered = answered;
      own = each-added more one.later calls records
          (All-append_right first.history more (subst (λ (l : List Entry). All IsInRange l) grown whole)) ranges
          one.entries;
      doubted = doubted-by fixed first.history last.history last.doubt calls accepted answered
          (each-added last.doubt (spelled_all last.doubt) calls refl
          (All-append_right last.history last.doubt with_doubt) ranges one.doubted);
    }

-- No two calls that are apart are told of one entry that it was accepted.
pub once-here : (fixed : List ℕ) (first last : List Entry) (calls : List Made)
    → IsLegal last
    → All (IsAnsweredIn fixed first last) calls
    → AllPairs AreApart calls
    → AllPairs AddOthers calls
once-here fixed first last calls legal answered apart i j d earlier within =
    others fixed first last (get_or calls i d) (get_or calls j d) legal (answered i d (omega arith)) (answered j d within)
    (apart i j d earlier within)
