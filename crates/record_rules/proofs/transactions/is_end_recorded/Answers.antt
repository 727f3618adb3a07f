use Rattle.std.proofs.Common.{◌≡◌, true, false, refl, sym, ◌∙◌, ⊎_elim, inl, inr, subst}
use Rattle.std.proofs.lemmas.Bool.{cases_Bool, false≢true}
use Rattle.record_rules.specs.Ends.{AreOpenXacts}
use Rattle.record_rules.proofs.OpenAtEnd.{below_64}
use Rattle.record_rules.proofs.transactions.is_end_recorded.Goals as goal

pub returns-then-is_ended_as : goal.returns-then-is_ended_as
returns-then-is_ended_as c = λ base h lines legal each a. (λ t. inl ((c.is_ended_as.ensures base h legal a.ends).0 c.if-is_ended_as.true), λ x. refl)

pub returns : goal.returns
returns c = λ base h lines legal each a.
    let opened = subst (AreOpenXacts h lines) (sym c.as_slice.ensures.value) a.opened in (
      λ t. inr (c.has_open.ensures.yes t h lines opened),
      λ x. ⊎_elim
          (λ e. absurd (false≢true (sym c.if-is_ended_as.false ∙ (c.is_ended_as.ensures base h legal a.ends).1 e)))
          (λ o. ⊎_elim (λ (t : c.has_open.result ≡ true). t)
          (λ (f : c.has_open.result ≡ false). absurd (false≢true (c.has_open.ensures.no f h lines opened o.0 (below_64 h o.0 c.args.top c.args.subs.now each o.1) o.1 o.2)))
          (cases_Bool c.has_open.result))
          x,
    )
