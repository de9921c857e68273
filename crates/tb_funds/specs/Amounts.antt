-- Amounts by the number under which they stand.
use Rattle.std.specs.Prelude.{◌≡◌, ℕ, Bool, ◌==◌, List, filter, sum_by, AllPairs, if◌then◌else◌}
use Rattle.std.specs.Ordering.{nat_cmp}
use Rattle.std.specs.declared.cmp.Ordering.TheVariants.{Less}
use Rattle.tb_funds.specs.declared.amount.Amount.{Amount}

-- the amounts stand in order of their numbers, and no number stands twice
abbrev pub AreInOrder : List Amount → Type 0
AreInOrder amounts = AllPairs (λ one later. nat_cmp one.key later.key ≡ Less) amounts

-- what stands under the number: nothing where it doesn't stand
abbrev pub amount_in : ℕ → List Amount → ℕ
amount_in key amounts = sum_by (λ amount. amount.value) (filter (λ amount. amount.key == key) amounts)

-- all amounts together
abbrev pub total_in : List Amount → ℕ
total_in amounts = sum_by (λ amount. amount.value) amounts

-- so much, where a test passes
abbrev pub part : Bool → ℕ → ℕ
part passes amount = if passes then amount else 0
