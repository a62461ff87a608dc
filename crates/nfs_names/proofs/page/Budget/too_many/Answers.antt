use Rattle.std.proofs.Common.{◌+◌, ◌/◌, false, ◌≡◌, min, ap, subst, sym}
use Rattle.nfs_names.proofs.FittingPageLemmas.{many-full, many-names}
use Rattle.nfs_names.specs.Pages.{fit_of}
use Rattle.nfs_names.proofs.page.Budget.too_many.Goals as goal

pub returns-in-Names : goal.returns-in-Names
returns-in-Names c = λ entries many.
    subst (λ b. fit_of b entries ≡ false) (sym c.in-Names.is)
    (many-names c.in-Names.count _ entries (ap (λ n. n / 24 + 1) c.min.ensures) many)

pub returns-in-Full : goal.returns-in-Full
returns-in-Full c = λ entries many.
    subst (λ b. fit_of b entries ≡ false) (sym c.in-Full.is)
    (many-full _ c.in-Full.most _ entries (ap (λ n. n / 152 + 1) c.min-in-Full.ensures) many)
