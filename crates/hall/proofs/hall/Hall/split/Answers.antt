use Rattle.std.proofs.Common.{arith, ap, refl, ◌∙◌, []}
use Rattle.hall.specs.Told.{giving, given}
use Rattle.hall.proofs.Splits.{asks_name}
use Rattle.hall.proofs.Parting.{fits_giving, fits_given, asked_splits}
use Rattle.hall.proofs.hall.Hall.split.Goals as goal

pub compare_exchange-requires : goal.compare_exchange-requires
compare_exchange-requires g c = (c.requires.own.table, (let s = c.args.self.now.sized.1 in omega arith), asks_name _ _ _ _ _ _ _ _ _ _ _ _ _)

pub split_seat-seat-requires : goal.split_seat-seat-requires
split_seat-seat-requires g c = let e = c.compare_exchange.ensures in
    (e.0 ∙ c.requires.own.table, (let s = c.args.self.now.sized.1 in omega arith), asked_splits _ _ _ _ _ c.args.pass.now.fits c.args.name (c.if-not-may_give.ensures.is.0 refl) _ _ _ _ _ _ _ _ _ _ e.2.0)

pub invariant_of-pass : goal.invariant_of-pass
invariant_of-pass g c = let e = c.compare_exchange.ensures in let s = c.split_seat-seat.ensures in
    record { fits = fits_giving _ _ _ _ _ c.args.pass.now.fits c.args.name (c.if-not-may_give.ensures.is.0 refl) _ _ _ _ (ap (λ z. z.slots) (s.0 ∙ e.0)) (ap (λ z. z.words) (s.0 ∙ e.0)) c.give.ensures.left (s.2 ∙ (λ i. (giving (e.2.0 i), e.2.1 i))) }

pub invariant_of-result : goal.invariant_of-result
invariant_of-result g c = let e = c.compare_exchange.ensures in let s = c.split_seat-seat.ensures in
    record { fits = fits_given _ _ _ _ _ c.args.pass.now.fits c.args.name (c.if-not-may_give.ensures.is.0 refl) _ _ _ _ (ap (λ z. z.slots) (s.3 ∙ e.0)) (ap (λ z. z.words) (s.3 ∙ e.0)) (c.if-not-may_give.ensures.small refl) c.give.ensures.given.0 c.give.ensures.given.1 (s.4 ∙ ap (λ z. (given z, [])) e.2.0) }
