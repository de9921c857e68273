-- Why a pledge and a release are refused.
use Rattle.std.specs.Prelude.{◌≡◌, ◌≢◌, ℕ, ◌<◌, ◌≤◌, Option, None, IsSomeAnd}
use Rattle.tb_holdings.specs.declared.mark.KeptMark.{KeptMark}
use Rattle.tb_holdings.specs.declared.refusals.PledgeRefused.{PledgeRefused}
use Rattle.tb_holdings.specs.declared.refusals.PledgeRefused.TheVariants.{InsufficientFree, PledgeQuota}
use Rattle.tb_holdings.specs.declared.refusals.ReleaseRefused.{ReleaseRefused}
use Rattle.tb_holdings.specs.declared.refusals.ReleaseRefused.TheVariants.{UnknownPledge, NotPledgee, MoreThanPledged}
use Rattle.tb_holdings.specs.Book.{most_open}

-- why a pledge of this par is refused, where so much is free and so many marks are open
abbrev pub IsPledgeCause : ℕ → ℕ → ℕ → PledgeRefused → Type 0
IsPledgeCause free open_marks par (InsufficientFree shown) = (free < par) × (shown.value ≡ free)
IsPledgeCause free open_marks par PledgeQuota = (par ≤ free) × (open_marks ≡ most_open)

-- why the caller's release of this par is refused, where this mark was found
abbrev pub IsReleaseCause : Option KeptMark → ℕ → ℕ → ReleaseRefused → Type 0
IsReleaseCause found caller par UnknownPledge = found ≡ None
IsReleaseCause found caller par NotPledgee = IsSomeAnd found (λ mark. mark.pledgee ≢ caller)
IsReleaseCause found caller par (MoreThanPledged shown) =
    IsSomeAnd found (λ mark. (mark.pledgee ≡ caller) × (mark.left < par) × (shown.value ≡ mark.left))

-- the caller may release this par of the mark
abbrev pub MayRelease : Option KeptMark → ℕ → ℕ → Type 0
MayRelease found caller par = IsSomeAnd found (λ mark. (mark.pledgee ≡ caller) × (par ≤ mark.left))
