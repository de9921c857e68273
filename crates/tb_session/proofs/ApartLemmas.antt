-- The counts of faults of the calls of two gates lie apart, since those of their turns do.
use Rattle.std.proofs.Common.{List, [], ◌∷◌, ◌++◌, sym, subst}
use Rattle.std.specs.Prelude.{All, AllPairs, Contains}
use Rattle.std.proofs.lemmas.List.Elements.{All-nil, All-cons, All-contains, All-weaker, Contains-append_left, Contains-append_right}
use Rattle.std.proofs.lemmas.List.Kept.{AllPairs-cons}
use Rattle.tb_units.proofs.ListLemmas.{All-back, AllPairs-head, AllPairs-tail, AllPairs-nil}
use Rattle.tb_lock.specs.declared.view.Span.{Span}
use Rattle.tb_lock.specs.Calls.{LieApart, AllApart}
use Rattle.tb_session.specs.Codes.{Made, span_of}
use Rattle.tb_session.specs.Work.{calls_of_links}
use Rattle.tb_session.specs.Serve.{Run, CountApart, RunsApart, HadTurns}

-- what holds of each two of two lists together holds of each of the first with each of the second
pairs-across : {X : Type 0} (R : X → X → Type 0) (front back : List X) → AllPairs R (front ++ back)
    → All (λ x. All (R x) back) front
pairs-across R [] back pairs = All-nil (λ x. All (R x) back)
pairs-across R (x ∷ front) back pairs =
    All-cons (λ y. All (R y) back) x front (All-back (R x) front back (AllPairs-head R x (front ++ back) pairs))
    (pairs-across R front back (AllPairs-tail R x (front ++ back) pairs))

-- and of each two of the second
pairs-back : {X : Type 0} (R : X → X → Type 0) (front back : List X) → AllPairs R (front ++ back) → AllPairs R back
pairs-back R [] back pairs = pairs
pairs-back R (x ∷ front) back pairs = pairs-back R front back (AllPairs-tail R x (front ++ back) pairs)

-- calls of turns that lie apart have counts that do
calls-apart : (these those : List Span) (calls others : List Made)
    → AllApart these those
    → All (λ m. Contains these (span_of m)) calls
    → All (λ n. Contains those (span_of n)) others
    → CountApart calls others
calls-apart these those calls others apart here there =
    All-weaker (λ m. Contains these (span_of m)) (λ m. All (λ n. LieApart (span_of m) (span_of n)) others)
    (λ m has. All-weaker (λ n. Contains those (span_of n)) (λ n. LieApart (span_of m) (span_of n))
    (λ n also. All-contains (LieApart (span_of m)) those (span_of n)
    (All-contains (λ one. All (LieApart one) those) these (span_of m) apart has) also)
    others there)
    calls here

module _ {K : Type 0} where
  -- the calls of each gate have the counts of some of all these turns
  all-had : (runs : List (Run K)) (spans : List Span) → HadTurns runs spans
      → All (λ run. All (λ m. Contains spans (span_of m)) (calls_of_links run.links)) runs
  all-had [] spans had = All-nil (λ run. All (λ m. Contains spans (span_of m)) (calls_of_links run.links))
  all-had (run ∷ runs) spans (own, others, cut, here, there) =
      let Had : List Span → Run K → Type 0 =
      λ some r. All (λ m. Contains some (span_of m)) (calls_of_links r.links) in
      subst (λ (all : List Span). All (Had all) (run ∷ runs)) (sym cut)
      (All-cons (Had (own ++ others)) run runs
      (All-weaker (λ m. Contains own (span_of m)) (λ m. Contains (own ++ others) (span_of m))
      (λ m. Contains-append_left own others (span_of m)) (calls_of_links run.links) here)
      (All-weaker (Had others) (Had (own ++ others))
      (λ r. All-weaker (λ m. Contains others (span_of m)) (λ m. Contains (own ++ others) (span_of m))
      (λ m. Contains-append_right own others (span_of m)) (calls_of_links r.links)) runs
      (all-had runs others there)))

  -- where all turns lie apart, the counts of the calls of two gates do
  pub count-apart : (runs : List (Run K)) (spans : List Span) → AllPairs LieApart spans → HadTurns runs spans
      → AllPairs RunsApart runs
  count-apart [] spans apart had = AllPairs-nil RunsApart
  count-apart (run ∷ runs) spans apart (own, others, cut, here, there) =
      let whole : AllPairs LieApart (own ++ others) = subst (λ (all : List Span). AllPairs LieApart all) cut apart in
      AllPairs-cons RunsApart run runs
      (All-weaker (λ r. All (λ m. Contains others (span_of m)) (calls_of_links r.links)) (RunsApart run)
      (λ r also. calls-apart own others (calls_of_links run.links) (calls_of_links r.links)
      (pairs-across LieApart own others whole) here also) runs (all-had runs others there))
      (count-apart runs others (pairs-back LieApart own others whole) there)
