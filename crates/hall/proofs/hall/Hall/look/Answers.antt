use Rattle.std.proofs.Common.{arith, ap, ◌∙◌, refl, ⊎_elim}
use Rattle.hall.proofs.Moves.{looks}
use Rattle.hall.proofs.Fitting.{sees_places, fits_entered, fits_missed, look_missed, look_tells, slots_out, slot_with}
use Rattle.hall.proofs.Owning.{is_of}
use Rattle.hall.proofs.hall.Hall.look.Goals as goal

pub compare_exchange-found-requires : goal.compare_exchange-found-requires
compare_exchange-found-requires g c =
    let fits = c.args.pass.now.fits in let sized = c.args.self.now.sized in let deep = sized.0 in let words = sized.1 in let lt = c.requires.cell in let at = c.line_at-word.ensures in
    (c.requires.own.table, omega arith, looks _ _ _ _ _ _ _ _ _ _ _ c.args.cell _ (sees_places _ _ _ _ _ fits _ _ _ (ap (λ z. z.words) c.requires.own.table ∙ c.args.self.now.sized.1) c.args.self.now.places) at (omega arith) c.requires.free fits.named)

pub invariant_of-pass : goal.invariant_of-pass
invariant_of-pass g c =
    let e = c.compare_exchange-found.ensures in let f = c.args.pass.now.fits in
    let miss = look_missed _ c.args.pass.now.seat.me c.compare_exchange-found.new.seat.me (e.2 _ _ c.line_at-word.ensures c.requires.own.start) c.if-found-ne0.true in
    record { fits = fits_missed _ _ _ _ _ f _ _ c.args.cell _ (ap (λ z. z.slots) e.0) (ap (λ z. z.words) e.0) c.requires.free miss.0 miss.1 }

pub returns-then-found-ne0-clause-view : goal.returns-then-found-ne0-clause-view
returns-then-found-ne0-clause-view g c =
    let e = c.compare_exchange-found.ensures in
    (look_missed _ c.args.pass.now.seat.me c.compare_exchange-found.new.seat.me (e.2 _ _ c.line_at-word.ensures c.requires.own.start) c.if-found-ne0.true).0

pub returns-then-found-ne0-clause-own : goal.returns-then-found-ne0-clause-own
returns-then-found-ne0-clause-own g c =
    let e = c.compare_exchange-found.ensures in
    let miss = look_missed _ c.args.pass.now.seat.me c.compare_exchange-found.new.seat.me (e.2 _ _ c.line_at-word.ensures c.requires.own.start) c.if-found-ne0.true in
    (is_of _ _ (e.0 ∙ c.requires.own.table) (ap (λ z. z.start) miss.0 ∙ c.requires.own.start), (e.0, e.1))

pub slot_mut-requires : goal.slot_mut-requires
slot_mut-requires g c =
    let e = c.compare_exchange-found.ensures in let f = c.args.pass.now.fits in
    let got = ⊎_elim (λ h. h.1) (λ h. absurd (let one = h.0 in let none = c.if-found-ne0.false in omega arith)) (e.2 _ _ c.line_at-word.ensures c.requires.own.start) in
    (e.0 ∙ c.requires.own.table, slot_with _ _ _ _ _ f _ _ _ _ _ _ _ got)

pub invariant_of-pass-2 : goal.invariant_of-pass-2
invariant_of-pass-2 g c =
    let e = c.compare_exchange-found.ensures in let f = c.args.pass.now.fits in
    let own = c.requires.own.table in let slots = ap (λ z. z.slots) own in let deep = c.args.self.now.sized.0 in let lt = c.requires.cell in
    let got = ⊎_elim (λ h. h.1) (λ h. absurd (let one = h.0 in let none = c.if-found-ne0.false in omega arith)) (e.2 _ _ c.line_at-word.ensures c.requires.own.start) in
    record { fits = fits_entered _ _ _ _ _ f _ _ c.args.cell got.lists _ (ap (λ z. z.slots) e.0) (ap (λ z. z.words) e.0) (omega arith) got.moment.long got.view_is (slots_out _ _ _ _ _ f _ _ _ _ _ _ _ c.take.new.self got c.requires.free (ap (λ z. z.value) c.take.ensures.left)) }

pub returns-clause-view : goal.returns-clause-view
returns-clause-view g c =
    let e = c.compare_exchange-found.ensures in let f = c.args.pass.now.fits in
    let got = ⊎_elim (λ h. h.1) (λ h. absurd (let one = h.0 in let none = c.if-found-ne0.false in omega arith)) (e.2 _ _ c.line_at-word.ensures c.requires.own.start) in
    look_tells _ _ _ _ _ f _ _ _ _ _ _ _ c.slot_mut.result.now _ _ _ got c.slot_mut.ensures.value c.take.ensures.value refl

pub returns-clause-own : goal.returns-clause-own
returns-clause-own g c =
    let e = c.compare_exchange-found.ensures in
    let got = ⊎_elim (λ h. h.1) (λ h. absurd (let one = h.0 in let none = c.if-found-ne0.false in omega arith)) (e.2 _ _ c.line_at-word.ensures c.requires.own.start) in
    (is_of _ _ (e.0 ∙ c.requires.own.table) (ap (λ z. z.start) got.view_is ∙ c.requires.own.start), (e.0, e.1))
