-- What holds of an answer.
use Rattle.cert_check.proofs.Common.{◌≡◌, Result, Ok, Err, IfErr, subst, Judge, AfterLine}
use Rattle.cert_check.specs.declared.reject.Why.{Why}
use Rattle.cert_check.specs.Private.Judging.{Takes}

pub if_err_both : {A E : Type 0} (r : Result A E) (P Q : E → Type 0) → IfErr r P → IfErr r Q → IfErr r (λ e. P e × Q e)
if_err_both (Ok a) P Q h k = tt
if_err_both (Err e) P Q h k = (h, k)

-- a call that did what the machine does, whatever the step is called
pub takes_as : {A : Type 0} (old new : Judge) (step other : AfterLine) (r : Result A Why) → step ≡ other → Takes old new step r → Takes old new other r
takes_as old new step other r same = subst (λ (a : AfterLine). Takes old new a r) same
