use Rattle.std.proofs.Common.{ℕ, List, refl, sym, ap, ◌∙◌, nat_eq}
use Rattle.std.specs.List.{list_any}
use Rattle.tb_lock_tests.proofs.TallyLemmas.{entry-contained}
use Rattle.tb_lock_tests.proofs.tally.Tally.add.Goals as goal

pub returns-then-contains : goal.returns-then-contains
returns-then-contains c =
    let same = c.as_slice.ensures.value in
    let contained = ap (λ (items : List ℕ). list_any (λ y. nat_eq y c.args.number) items) (sym same)
    ∙ (sym c.contains.ensures.value ∙ c.if-contains.true) in record {
      answered = (refl, c.requires, refl, entry-contained _ _ contained);
      same = (refl, refl, refl);
    }
