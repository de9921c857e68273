-- What a call did to a disk, where it tells it.
use Rattle.std.proofs.Common.{◌≡◌, refl, sym, ◌∙◌, ap, subst, Some, None, Option, IfSome}
use Rattle.tb_disk.specs.Steps.{Step}
use Rattle.tb_disk.specs.Past.{Past, Then}
use Rattle.tb_disk.specs.Disks.{DiskState, Takes, after_step}
use Rattle.tb_journal.specs.Journal.{Told}

-- one call after another
pub Told-both : (P Q R : Past → Past → Type 0) (old mid new : DiskState)
    → ((before between now : Past) → P before between → Q between now → R before now)
    → Told old mid P → Told mid new Q → Told old new R
Told-both P Q R old mid new follows one other = record {
  silent = λ none. other.silent (one.silent none);
  told = λ before told. (
      let first = one.told before told in
      let second = other.told first.0 first.1 in
      (second.0, second.1, follows before first.0 second.0 first.2 second.2)
      );
}

-- what a call did, less said
pub Told-weaker : (P Q : Past → Past → Type 0) (old new : DiskState)
    → ((before now : Past) → P before now → Q before now)
    → Told old new P → Told old new Q
Told-weaker P Q old new follows told = record {
  silent = told.silent;
  told = λ before is. (let first = told.told before is in (first.0, first.1, follows before first.0 first.2));
}

-- what follows of two clauses of one call
pub told_and : (P Q R : Past → Past → Type 0) (old new : DiskState)
    → ((before now : Past) → P before now → Q before now → R before now) → Told old new P → Told old new Q
    → Told old new R
told_and P Q R old new follows one other = record {
  silent = one.silent;
  told = λ before is. (
      let first = one.told before is in
      let second = other.told before is in
      let same : Some second.0 ≡ Some first.0 = sym second.1 ∙ first.1 in
      let here : Some first.0 ≡ Some first.0 = refl in (
        first.0,
        first.1,
        follows before first.0 first.2 (subst (λ (now : Past). Q before now)
            (some_same same) second.2),
      )
      );
}
  where
    some_same : {first second : Past} → Some second ≡ Some first → second ≡ first
    some_same is = cc

-- what a call tells of the disk as it was
pub told_before : (P : Past → Past → Type 0) (Q : Past → Type 0) (old new : DiskState)
    → ((before now : Past) → P before now → Q before) → Told old new P → IfSome old.past Q
told_before P Q old new follows told = go old.past refl
  where
    go : (past : Option Past) → old.past ≡ past → IfSome past Q
    go None is = tt
    go (Some before) is = (let first = told.told before is in follows before first.0 first.2)

-- what a call tells of the disk as it is
pub told_after : (P : Past → Past → Type 0) (Q : Past → Type 0) (old new : DiskState)
    → ((before now : Past) → P before now → Q now) → Told old new P → IfSome new.past Q
told_after P Q old new follows told = go old.past refl
  where
    go : (past : Option Past) → old.past ≡ past → IfSome new.past Q
    go None is = subst (λ (past : Option Past). IfSome past Q) (sym (told.silent is)) tt
    go (Some before) is = (let first = told.told before is in
        subst (λ (past : Option Past). IfSome past Q) (sym first.1) (follows before first.0 first.2))

-- what a call makes of what was known
pub told_now : (P : Past → Past → Type 0) (Q R : Past → Type 0) (old new : DiskState)
    → ((before now : Past) → P before now → Q before → R now) → Told old new P → IfSome old.past Q → IfSome new.past R
told_now P Q R old new follows told known = go old.past refl known
  where
    go : (past : Option Past) → old.past ≡ past → IfSome past Q → IfSome new.past R
    go None is q = subst (λ (past : Option Past). IfSome past R) (sym (told.silent is)) tt
    go (Some before) is q = (let first = told.told before is in
        subst (λ (past : Option Past). IfSome past R) (sym first.1) (follows before first.0 first.2 q))

-- what a call did, where something was known before it
pub told_given : (P : Past → Past → Type 0) (Q : Past → Type 0) (R : Past → Past → Type 0) (old new : DiskState)
    → ((before now : Past) → P before now → Q before → R before now) → Told old new P → IfSome old.past Q
    → Told old new R
told_given P Q R old new follows told known = record {
  silent = told.silent;
  told = λ before is. (
      let first = told.told before is in
      let q : Q before = subst (λ (past : Option Past). IfSome past Q) is known in
      (first.0, first.1, follows before first.0 first.2 q)
      );
}

-- what follows of one thing that is known
pub known_of : (P Q : Past → Type 0) (past : Option Past) → ((now : Past) → P now → Q now) → IfSome past P
    → IfSome past Q
known_of P Q None follows known = tt
known_of P Q (Some now) follows known = follows now known

-- what follows of two
pub known_both : (P Q R : Past → Type 0) (past : Option Past) → ((now : Past) → P now → Q now → R now) → IfSome past P
    → IfSome past Q → IfSome past R
known_both P Q R None follows one other = tt
known_both P Q R (Some now) follows one other = follows now one other

-- what a call did, where something is known after it
pub told_known : (P : Past → Past → Type 0) (Q : Past → Type 0) (R : Past → Past → Type 0) (old new : DiskState)
    → ((before now : Past) → P before now → Q now → R before now) → Told old new P → IfSome new.past Q
    → Told old new R
told_known P Q R old new follows told known = record {
  silent = told.silent;
  told = λ before is. (
      let first = told.told before is in
      let q : Q first.0 = subst (λ (past : Option Past). IfSome past Q) first.1 known in
      (first.0, first.1, follows before first.0 first.2 q)
      );
}

-- where nothing happens, what is known is known
pub told_still : (P : Past → Past → Type 0) (Q : Past → Type 0) (disk : DiskState)
    → ((now : Past) → Q now → P now now) → IfSome disk.past Q → Told disk disk P
told_still P Q disk follows known = record {
  silent = λ none. none;
  told = λ before is. (
    before,
    is,
    follows before (subst (λ (past : Option Past). IfSome past Q) is known),
  );
}

-- a step of a disk that tells nothing
pub still_silent : (step : Step) (old new : DiskState) → Takes step old new → old.past ≡ None → new.past ≡ None
still_silent step old new takes none = takes.past ∙ ap (after_step step) none

-- a step of a disk that tells what has happened
pub told_step : (step : Step) (old new : DiskState) → Takes step old new → (before : Past) → old.past ≡ Some before
    → new.past ≡ Some (Then step before)
told_step step old new takes before told = takes.past ∙ ap (after_step step) told
