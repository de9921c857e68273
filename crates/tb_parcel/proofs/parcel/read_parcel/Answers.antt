-- What the bytes begin with.
use Rattle.std.proofs.Common.{ℕ, List, inl, inr, arith, ap, refl, subst, take, drop, sym, ◌∙◌}
use Rattle.tb_message.specs.Spelling.{IsTaken}
use Rattle.tb_parcel.proofs.ParcelLemmas.{none_sized, none_unread, none_shorter, not_short, begins_read}
use Rattle.tb_parcel.proofs.parcel.read_parcel.Goals as goal
use Rattle.tb_parcel.proofs.parcel.read_parcel.Goals.{then-size-lt1-via-then-size-lt1, then-size-lt1-via-else-size-lt1+then-size-gt-LONGEST_RECORD}

pub returns-then-size-lt1 : goal.returns-then-size-lt1
returns-then-size-lt1 c =
    elim c.then-size-lt1.branch [
      | then-size-lt1-via-then-size-lt1 w ↦
          (none_sized c.args.bytes.now (inl (omega arith)), not_short c.args.bytes.now (omega arith) (inl (omega arith)))
      | then-size-lt1-via-else-size-lt1+then-size-gt-LONGEST_RECORD w ↦ (
        none_sized c.args.bytes.now (inr (omega arith)),
        not_short c.args.bytes.now (omega arith) (inr (inl (omega arith))),
      )
    ]

pub returns-in_default : goal.returns-in_default
returns-in_default c =
    let record_is = c.split_at-3.ensures.front
    ∙ ap (λ (x : List ℕ). take c.size_in-size.result x)
    (c.split_at-2.ensures.back ∙ ap (λ (x : List ℕ). drop 8 x) c.split_at.ensures.back)
    ∙ ap (λ (n : ℕ). take n (drop 8 (drop 4 c.args.bytes.now))) c.size_in-size.ensures.says in (
      none_unread c.args.bytes.now
          (λ entry in_range rest is. c.in_default.ensures.none entry in_range rest (record_is ∙ is)),
      not_short c.args.bytes.now (omega arith) (inr (inr (omega (arith, c.size_in-size.ensures.says)))),
    )

pub returns-then-used-size : goal.returns-then-used-size
returns-then-used-size c =
    let record_is = c.split_at-3.ensures.front
    ∙ ap (λ (x : List ℕ). take c.size_in-size.result x)
    (c.split_at-2.ensures.back ∙ ap (λ (x : List ℕ). drop 8 x) c.split_at.ensures.back)
    ∙ ap (λ (n : ℕ). take n (drop 8 (drop 4 c.args.bytes.now))) c.size_in-size.ensures.says in (
      none_shorter c.args.bytes.now c.in-Some.entry c.in-Some.used
          (subst (λ (x : List ℕ). IsTaken x c.in-Some.entry c.in-Some.used) record_is c.in-Some.ensures.found)
          (λ same. c.if-used-size.true (same ∙ sym c.size_in-size.ensures.says)),
      not_short c.args.bytes.now (omega arith) (inr (inr (omega (arith, c.size_in-size.ensures.says)))),
    )

pub returns : goal.returns
returns c =
    let record_is = c.split_at-3.ensures.front
    ∙ ap (λ (x : List ℕ). take c.size_in-size.result x)
    (c.split_at-2.ensures.back ∙ ap (λ (x : List ℕ). drop 8 x) c.split_at.ensures.back) in
    begins_read c.args.bytes.now c.place_in-place.result c.in-Some.entry c.size_in-size.result _ refl refl
    (subst (λ (n : ℕ). IsTaken (take c.size_in-size.result (drop 8 (drop 4 c.args.bytes.now))) c.in-Some.entry n)
    c.if-used-size.false
    (subst (λ (x : List ℕ). IsTaken x c.in-Some.entry c.in-Some.used) record_is c.in-Some.ensures.found))
    (omega arith) c.size_in-size.ensures.spelled
    (ap (λ (x : List ℕ). take 8 x) (sym c.split_at.ensures.back) ∙ c.place_in-place.ensures)
